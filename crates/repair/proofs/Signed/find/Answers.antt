-- `repair::Signed::find` meets its contract: the first two components name one change, and it fits or none does.
-- Assumes nothing.
use Rattle.std.proofs.Common.{◌≡◌, ◌<◌, ℕ, ◌-◌, ◌%◌, false, sym, ap, ap₂, ◌∙◌}
use lib.Dec.{eqb}
use Rattle.field.specs.Field.{GF16, ◌⊕◌, product, power, α}
use Rattle.units.specs.Naming.{first_named, lowest_named}
use Rattle.units.proofs.First.{lowest_some, lowest_none}
use Rattle.std.specs.Prelude.{Option, Some}
use mathlib.Core.Path.{refl}
use mathlib.Core.Bool.{Bool}
use Rattle.signature.specs.Objects.{symbol, symbols}
use Rattle.backup.specs.Backups.{same}
use Rattle.repair.specs.declared.Repair.TheVariants.{Repaired}
use Rattle.repair.specs.declared.Signed.{Signed}
use Rattle.repair.proofs.Finding.{Sought, find_past, find_none, find_one}
use Rattle.repair.proofs.Signed.find.Goals as goal

-- what was sought, and where
sought_at : (p : Signed) {d e m i : ℕ} → same p.own p.s ≡ false → d ≡ p.own.s1 ⊕ p.s.s1 → e ≡ p.own.s2 ⊕ p.s.s2 → m ≡ symbols 2 p.page.now
    → i ≡ first_named (λ k. eqb (product GF16 d (power GF16 α k)) e) m 0 → Sought p.s p.own p.page.now d e m i
sought_at p wrong first_off second_off count_is place_is =
    record {
      octets = p.octets;
      tells = p.tells;
      signed = p.signed;
      wrong = wrong;
      first_off = first_off;
      second_off = second_off;
      count_is = count_is;
      place_is = place_is;
    }

-- the value that the change would be to
value_is : (d i : ℕ) {new old there moved back : ℕ} → new ≡ old ⊕ moved → old ≡ there → moved ≡ product GF16 d (power GF16 α back) → back ≡ 65535 - i % 65535
    → new ≡ there ⊕ product GF16 d (power GF16 α (65535 - i % 65535))
value_is d i sum read times undone = sum ∙ ap₂ ◌⊕◌ read (times ∙ ap (λ (k : ℕ). product GF16 d (power GF16 α k)) undone)

-- the lowest place that was named, and that it is in the page
place_at : (test : ℕ → Bool) {answer : Option ℕ} (m i : ℕ) → answer ≡ lowest_named test m → answer ≡ Some i → (i ≡ first_named test m 0) × (i < m)
place_at test m i is found = lowest_some test m i (sym is ∙ found)

pub returns-in_default : goal.returns-in_default
returns-in_default c =
    let p : Signed = c.args.self.now in
    let none : _ = lowest_none _ _ (sym c.power_between.ensures ∙ c.in_default.is) in
    let sought : Sought p.s p.own p.page.now c.sum-d.result c.sum.result c.symbols_in-count.result.count _ =
    sought_at p c.requires c.sum-d.ensures c.sum.ensures c.symbols_in-count.ensures refl in
    sym (find_past sought none)

pub returns-then-not-fits : goal.returns-then-not-fits
returns-then-not-fits c =
    let p : Signed = c.args.self.now in
    let i : ℕ = c.in-Some.i in
    let place : _ = place_at _ _ i c.power_between.ensures c.in-Some.is in
    let sought : Sought p.s p.own p.page.now c.sum-d.result c.sum.result c.symbols_in-count.result.count i =
    sought_at p c.requires c.sum-d.ensures c.sum.ensures c.symbols_in-count.ensures place.0 in
    let value : _ ≡ symbol 2 p.page.now i ⊕ product GF16 c.sum-d.result (power GF16 α (65535 - i % 65535)) =
    value_is c.sum-d.result i c.sum-new.ensures c.symbol-old.ensures c.times_power.ensures c.exponent_back.ensures in
    sym (find_none sought _ value (sym c.fits.ensures ∙ c.if-not-fits.true))

pub returns : goal.returns
returns c =
    let p : Signed = c.args.self.now in
    let i : ℕ = c.in-Some.i in
    let place : _ = place_at _ _ i c.power_between.ensures c.in-Some.is in
    let sought : Sought p.s p.own p.page.now c.sum-d.result c.sum.result c.symbols_in-count.result.count i =
    sought_at p c.requires c.sum-d.ensures c.sum.ensures c.symbols_in-count.ensures place.0 in
    let value : _ ≡ symbol 2 p.page.now i ⊕ product GF16 c.sum-d.result (power GF16 α (65535 - i % 65535)) =
    value_is c.sum-d.result i c.sum-new.ensures c.symbol-old.ensures c.times_power.ensures c.exponent_back.ensures in
    ap (λ (x : ℕ). Repaired (record { position = record { count = i }; old = x; new = c.sum-new.result; marked = eqb p.s.n 2 }))
    c.symbol-old.ensures
    ∙ sym (find_one sought _ value place.1 (sym c.fits.ensures ∙ c.if-not-fits.false))
