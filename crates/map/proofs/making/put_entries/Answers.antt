-- `map::making::put_entries` meets its contract. The invariant: what is left to write gives what the whole gives.
-- Assumes nothing.
use mathlib.Core.Path.{◌≡◌, sym, ap, ap₂, ◌∙◌, subst}
use mathlib.Core.List.{List}
use Prim.Native.Nat.{ℕ, suc, ◌+◌, ◌-◌, ◌*◌, ◌≤◌, ◌<◌}
use native.Mathlib.Nat.{add-mul}
use native.Mathlib.Numerals.{add-one}
use native.Mathlib.Omega.{arith}
use lib.ListN.{length}
use Rattle.units.specs.Writing.{written}
use Rattle.units.specs.Runs.{end_to_end}
use Rattle.units.proofs.Writing.{written_none}
use Rattle.units.proofs.Runs.{run_turn, run_none}
use Rattle.map.specs.Making.{made_entry}
use Rattle.map.specs.Files.{pages, place, entry, entry_put, entry_bytes}
use Rattle.map.specs.declared.Entry.{Entry}
use Rattle.map.proofs.MadeMaps.{made_n, made_length, next_place, entry_inside}
use Rattle.map.proofs.Tagging.{entry_put_lem}
use Rattle.map.proofs.making.put_entries.Goals as goal

pub loop-k-preserved : goal.loop-k-preserved
loop-k-preserved c =
    let required : _ = c.requires in
    let made-entry : _ = c.made_entry in
    let put-entry : _ = c.put_entry in
    let args : _ = c.args in
    let at : _ = c.loop-k in
    let n : ℕ = args.h.n in
    let made : ℕ → Entry = made_entry n args.h.page.count args.bucket.now in
    let f : ℕ → List ℕ = λ i. entry (made i) in
    let m : ℕ = pages args.h - (at.k + 1) in
    let last : List ℕ = put-entry.new.map in
    let whole-n : (made at.k).signature.n ≡ n = made_n n args.h.page.count args.bucket.now at.k in
    let below : at.k < pages args.h = omega (arith, c.pages-k-end.ensures) in
    let inside : place n at.k + entry_bytes n ≤ length at.output = omega (arith, entry_inside n at.k (pages args.h) below, required) in
    let room : place (made at.k).signature.n at.k + entry_bytes (made at.k).signature.n ≤ length at.output =
    subst (λ (i : ℕ). place i at.k + entry_bytes i ≤ length at.output) (sym whole-n) inside in
    let put : last ≡ written at.output (place n at.k) (f at.k) =
    put-entry.ensures
    ∙ ap (λ (e : Entry). entry_put e at.output at.k) made-entry.ensures
    ∙ entry_put_lem (made at.k) at.output at.k room
    ∙ ap (λ (i : ℕ). written at.output (place i at.k) (f at.k)) whole-n in
    let up : suc m ≡ pages args.h - at.k = omega arith in
    let whole : at.k + suc m ≡ pages args.h = omega arith in
    let split : (at.k + suc m) * entry_bytes n ≡ at.k * entry_bytes n + suc m * entry_bytes n = add-mul at.k (suc m) (entry_bytes n) in
    let same : place n (at.k + suc m) ≡ place n (pages args.h) = ap (place n) whole in
    let fits : place n at.k + suc m * entry_bytes n ≤ length at.output = omega (arith, required) in
    let turn : written (written at.output (place n at.k) (f at.k)) (place n at.k + entry_bytes n) (end_to_end f (suc at.k) m) ≡ written at.output (place n at.k)
    (end_to_end f at.k (suc m)) = run_turn f (entry_bytes n) (made_length n args.h.page.count args.bucket.now) at.output (place n at.k) m at.k fits in
    ap₂ (λ (l : List ℕ) (j : ℕ). written l (place n j) (end_to_end f j m)) put (add-one at.k)
    ∙ ap (λ (i : ℕ). written (written at.output (place n at.k) (f at.k)) i (end_to_end f (suc at.k) m)) (next_place n at.k)
    ∙ turn
    ∙ ap (λ (i : ℕ). written at.output (place n at.k) (end_to_end f at.k i)) up
    ∙ at.invariant

pub returns : goal.returns
returns c =
    let required : _ = c.requires in
    let args : _ = c.args in
    let at : _ = c.loop-k in
    let f : ℕ → List ℕ = λ i. entry (made_entry args.h.n args.h.page.count args.bucket.now i) in
    let end : at.k ≡ pages args.h = omega (arith, c.pages-k-end.ensures) in
    let none : pages args.h - at.k ≡ 0 = omega arith in
    let inside : place args.h.n at.k ≤ length at.output = omega (arith, ap (place args.h.n) end, required) in
    sym (written_none at.output (place args.h.n at.k) inside) ∙ ap (written at.output (place args.h.n at.k)) (sym (run_none f at.k))
    ∙ ap (λ (m : ℕ). written at.output (place args.h.n at.k) (end_to_end f at.k m)) (sym none) ∙ at.invariant
