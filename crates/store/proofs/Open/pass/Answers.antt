-- `store::Open::pass` meets its contract: a kept page is left as it is; a written one is put in its place, and its signature into its entry.
-- Assumes nothing.
use mathlib.Core.List.{List}
use Rattle.std.specs.Prelude.{Ok}
use mathlib.Core.Bool.{true, false}
use mathlib.Core.Path.{◌≡◌, sym, ap, ap₂, ◌∙◌}
use Prim.Native.Nat.{ℕ, ◌+◌, ◌-◌, ◌*◌, ◌≤◌, ◌<◌, min}
use native.Mathlib.Omega.{arith}
use native.Mathlib.Numerals.{add-one}
use lib.ListN.{length}
use Rattle.units.specs.Writing.{written}
use Rattle.units.proofs.Writing.{part_put_lem}
use Rattle.signature.specs.Kinds.{wide}
use Rattle.signature.specs.Operations.{own}
use Rattle.signature.specs.declared.Signature.{Signature}
use Rattle.map.specs.Buckets.{page_at}
use Rattle.map.specs.Files.{entry_put}
use Rattle.map.specs.Making.{made_entry}
use Rattle.map.specs.Files.{pages}
use Rattle.map.specs.Reading.{reading, entry_at}
use Rattle.map.specs.declared.Header.{Header}
use Rattle.store.specs.declared.Open.{Open}
use Rattle.map.proofs.Holding.{holds_sized}
use Rattle.backup.specs.Backups.{agrees}
use Rattle.backup.proofs.Bounds.{page_starts}
use Rattle.backup.proofs.Pages.{page_length}
use Rattle.backup.proofs.Sameness.{agrees_by}
use Rattle.store.specs.Steps.{Stepped}
use Rattle.store.specs.declared.Answer.TheVariants.{Kept, Written}
use Rattle.store.proofs.Passing.{passed_of, kept_passing, written_passing, written_reads, put_octets}
use Rattle.store.proofs.Open.pass.Goals as goal

-- a page of the table has its place in the image
page_fits : (o : Open) (k : ℕ) (page : List ℕ) → k < pages o.h → page ≡ page_at o.h.page.count o.table.now k
    → k * o.h.page.count + length page ≤ length o.image.now
page_fits o k page inside cut =
    let starts : k * o.h.page.count < o.h.bucket.count = page_starts o.h (holds_sized o.map.now o.h o.holds) k inside in
    let long : length page ≡ min o.h.page.count (length o.table.now - k * o.h.page.count) = ap length cut ∙ page_length o.h.page.count o.table.now k in
    omega (arith, o.table_length, o.image_length)

-- the entry that is put is that of the page
entry_made : (h : Header) (table map : List ℕ) (k : ℕ) {s : Signature} {page new : List ℕ} → new ≡ entry_put (record { tag = 4; signature = s }) map k
    → s ≡ own wide h.n page → page ≡ page_at h.page.count table k → new ≡ entry_put (made_entry h.n h.page.count table k) map k
unfolding made_entry
entry_made h table map k put signed cut =
    put ∙ ap (λ (s : Signature). entry_put (record { tag = 4; signature = s }) map k) (signed ∙ ap (own wide h.n) cut)

pub invariant_of-self-2-clause-map_octets : goal.invariant_of-self-2-clause-map_octets
invariant_of-self-2-clause-map_octets c i =
    rw c.put_entry.ensures (put_octets c.own-own.result c.args.self.now.map.now c.args.k c.args.self.now.map_octets i)

pub invariant_of-self-2-clause-holds : goal.invariant_of-self-2-clause-holds
invariant_of-self-2-clause-holds c =
    let self : Open = c.args.self.now in
    let agreed : agrees self.h (entry_at self.h.n self.map.now) self.table.now c.args.k ≡ false =
    agrees_by _ _ _ _ _ _ _ _ c.page_at-page.ensures c.own-own.ensures c.entry-entry.ensures c.same.ensures ∙ c.if-same.false in
    ap reading (entry_made self.h self.table.now self.map.now c.args.k c.put_entry.ensures c.own-own.ensures c.page_at-page.ensures)
    ∙ written_reads self.h self.table.now self.image.now self.map.now c.args.k self.map_octets self.holds self.table_octets c.requires agreed

pub returns-then-same-clause-passed : goal.returns-then-same-clause-passed
returns-then-same-clause-passed c =
    let self : Open = c.args.self.now in
    let agreed : agrees self.h (entry_at self.h.n self.map.now) self.table.now c.args.k ≡ true =
    agrees_by _ _ _ _ _ _ _ _ c.page_at-page.ensures c.own-own.ensures c.entry-entry.ensures c.same.ensures ∙ c.if-same.true in
    ap {B = Stepped} (λ (p : ℕ). record { answer = Ok (Kept c.args.k); next = record { page = p }; image = self.image.now; map = self.map.now }) (add-one c.args.k)
    ∙ sym (kept_passing self.h self.table.now self.image.now self.map.now c.args.k self.map_octets self.holds agreed)

pub returns-clause-passed : goal.returns-clause-passed
returns-clause-passed c =
    let self : Open = c.args.self.now in
    let page : ℕ = self.h.page.count in
    let at : _ = c.page_at-page in
    let agreed : agrees self.h (entry_at self.h.n self.map.now) self.table.now c.args.k ≡ false =
    agrees_by _ _ _ _ _ _ _ _ at.ensures c.own-own.ensures c.entry-entry.ensures c.same.ensures ∙ c.if-same.false in
    let fits : c.args.k * page + length at.result.now ≤ length self.image.now =
    page_fits self c.args.k at.result.now c.requires at.ensures in
    ap {B = Stepped} (λ (p : ℕ). record { answer = Ok (Written c.args.k); next = record { page = p }; image = c.put_part.new.buffer; map = c.put_entry.new.map })
    (add-one c.args.k)
    ∙ ap₂ (passed_of (Written c.args.k) c.args.k)
    (c.put_part.ensures ∙ part_put_lem _ self.image.now _ fits ∙ ap (written self.image.now (c.args.k * page)) at.ensures)
    (entry_made self.h self.table.now self.map.now c.args.k c.put_entry.ensures c.own-own.ensures at.ensures)
    ∙ sym (written_passing self.h self.table.now self.image.now self.map.now c.args.k self.map_octets self.holds self.table_octets c.requires agreed)
