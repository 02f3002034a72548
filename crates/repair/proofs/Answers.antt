-- What holds of every repair: no second answer, refusals exactly when the table says, and a refused one changes nothing.
-- Assumes nothing.
use mathlib.Core.Path.{◌≡◌, refl, sym, ap, ◌∙◌}
use mathlib.Core.Logic.{◌↔◌}
use mathlib.Core.List.{List}
use Rattle.std.specs.Prelude.{Result}
use Prim.Native.Nat.{ℕ}
use Rattle.units.specs.Refusals.{first}
use Rattle.units.specs.declared.Refusal.{Refusal}
use Rattle.units.specs.Refusals.{Verdict}
use Rattle.units.proofs.Refusing.{Lowest, told_lowest}
use Rattle.map.specs.Reading.{header_of}
use Rattle.map.specs.declared.Header.{Header}
use Rattle.repair.specs.Repairs.{outcome_of, unless, repair_tests, repairing, told}
use Rattle.repair.specs.declared.Repair.{Repair}
use Rattle.repair.proofs.repair_page.Reads as RepairPage
use Rattle.std.specs.Prelude.{Ok, Err}
use Rattle.units.specs.Refusals.{refused}

pub repair_page_one_answer : (κs : _) (a : _) (r s : Result Repair Refusal) (x y : _) → RepairPage.Post κs a r x → RepairPage.Post κs a s y → (r ≡ s) × (x.0.now ≡ y.0.now)
repair_page_one_answer κs a r s x y p q = let same : _ = p ∙ sym q in (ap (λ o. o.answer) same, ap (λ o. o.image) same)

module _ (image map : List ℕ) (k : ℕ) where
  by_verdict : (v : Verdict) (h : Header) → told (unless v h image map k).answer ≡ v
  by_verdict (Ok _) h = refl
  by_verdict (Err r) h = refl

  told_is : told (repairing image map k).answer ≡ first (repair_tests image map k)
  unfolding repairing
  told_is = by_verdict (first (repair_tests image map k)) (header_of map)

  pub repair_refused : (r : Refusal) → (told (repairing image map k).answer ≡ refused r) ↔ Lowest (repair_tests image map k) r
  repair_refused r = told_lowest _ (repair_tests image map k) told_is tt r

  pub repair_refused_keeps : (r : Refusal) → told (repairing image map k).answer ≡ refused r → repairing image map k ≡ outcome_of (Err r) image
  unfolding repairing
  repair_refused_keeps r e = ap (λ (v : Verdict). unless v (header_of map) image map k) (sym told_is ∙ e)
