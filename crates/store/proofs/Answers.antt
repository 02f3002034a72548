-- What holds of every step and every store: no second answer, refusals exactly when the table says, and nothing changed by them.
-- Assumes nothing.
use mathlib.Core.Path.{◌≡◌, refl, sym, ap, ◌∙◌}
use mathlib.Core.Logic.{◌↔◌}
use mathlib.Core.Bool.{Bool, true, false, cond}
use mathlib.Core.List.{List}
use Prim.Native.Nat.{ℕ}
use native.Mathlib.Omega.{arith}
use lib.Dec.{eqb}
use Rattle.units.specs.Naming.{told as told_listed}
use Rattle.units.specs.Refusals.{first}
use Rattle.units.specs.Naming.{Listed}
use Rattle.units.specs.declared.Refusal.{Refusal}
use Rattle.units.specs.Refusals.{Verdict}
use Rattle.units.proofs.Refusing.{Lowest, told_lowest}
use Rattle.map.specs.Files.{pages}
use Rattle.map.specs.Reading.{header_of, entry_at}
use Rattle.map.specs.declared.Header.{Header}
use Rattle.backup.specs.Backups.{agrees}
use Rattle.store.specs.Steps.{Stepped, told, staying, passing, step_unless, step_tests, stepping}
use Rattle.store.specs.Stores.{stored_of, store_unless, store_tests, storing}
use Rattle.store.specs.declared.Answer.TheVariants.{Finished}
use Rattle.store.specs.declared.Place.{Place}
use Rattle.store.specs.declared.Step.{Step}
use Rattle.store.proofs.Tags.{told_not_finished}
use Rattle.store.proofs.Place.step.Reads as Step
use Rattle.store.proofs.store.Reads as Store
use Rattle.std.specs.Prelude.{Ok, Err}
use Rattle.units.specs.Refusals.{allowed, refused}

-- ---- no second answer

pub step_one_answer : (κs : _) (a : _) (r s : Step) (x y : _) → Step.Post κs a r x → Step.Post κs a s y
    → (r.answer ≡ s.answer) × (r.next ≡ s.next) × (x.1.1.0.now ≡ y.1.1.0.now) × (x.1.1.1.0.now ≡ y.1.1.1.0.now)
step_one_answer κs a r s x y p q =
    let same : _ = p ∙ sym q in (ap (λ o. o.answer) same, ap (λ o. o.next) same, ap (λ o. o.image) same, ap (λ o. o.map) same)

pub store_one_answer : (κs : _) (a : _) (r s : Listed) (x y : _) → Store.Post κs a r x → Store.Post κs a s y
    → (r ≡ s) × (x.1.0.now ≡ y.1.0.now) × (x.1.1.0.now ≡ y.1.1.0.now) × (x.1.1.1.0.now ≡ y.1.1.1.0.now)
store_one_answer κs a r s x y p q =
    let same : _ = p ∙ sym q in (ap (λ o. o.answer) same, ap (λ o. o.image) same, ap (λ o. o.map) same, ap (λ o. o.list) same)

-- ---- a step's refusals, and that these and finished change nothing

module _ (h : Header) (table image map : List ℕ) (place : Place) where
  -- a step that its tests allow
  onward : Bool → Stepped
  onward b = cond b (staying (Ok Finished) place image map) (passing h table image map place.page)

  onward_told : (b : Bool) → told (onward b).answer ≡ allowed
  unfolding onward passing
  onward_told true = refl
  onward_told false = refl

  onward_finished : (b : Bool) → (onward b).answer ≡ Ok Finished → onward b ≡ staying (Ok Finished) place image map
  unfolding onward passing
  onward_finished true e = refl
  onward_finished false e = absurd (told_not_finished place.page (agrees h (entry_at h.n map) table place.page) e)

  step_told : (v : Verdict) → told (step_unless v h table image map place).answer ≡ v
  unfolding onward
  step_told (Ok _) = onward_told (eqb place.page (pages h))
  step_told (Err r) = refl

  step_finished : (v : Verdict) → (step_unless v h table image map place).answer ≡ Ok Finished → step_unless v h table image map place ≡ staying (Ok Finished) place image map
  unfolding onward
  step_finished (Ok _) e = onward_finished (eqb place.page (pages h)) e
  step_finished (Err s) e = let z : ◌≡◌ {A = ℕ} 0 1 = cc in absurd (omega arith)

module _ (table image map : List ℕ) (place : Place) where
  step_is : told (stepping table image map place).answer ≡ first (step_tests table image map place.page)
  unfolding stepping
  step_is = step_told (header_of map) table image map place (first (step_tests table image map place.page))

  pub step_refused : (r : Refusal) → (told (stepping table image map place).answer ≡ refused r) ↔ Lowest (step_tests table image map place.page) r
  step_refused r = told_lowest _ (step_tests table image map place.page) step_is tt r

  pub step_refused_keeps : (r : Refusal) → told (stepping table image map place).answer ≡ refused r → stepping table image map place ≡ staying (Err r) place image map
  unfolding stepping
  step_refused_keeps r e = ap (λ (v : Verdict). step_unless v (header_of map) table image map place) (sym step_is ∙ e)

  pub step_finished_keeps : (stepping table image map place).answer ≡ Ok Finished → stepping table image map place ≡ staying (Ok Finished) place image map
  unfolding stepping
  step_finished_keeps e = step_finished (header_of map) table image map place (first (step_tests table image map place.page)) e

-- ---- a store's

module _ (table image map list : List ℕ) where
  store_told : (v : Verdict) (h : Header) → told_listed (store_unless v h table image map list).answer ≡ v
  store_told (Ok _) h = refl
  store_told (Err r) h = refl

  pub store_is : told_listed (storing table image map list).answer ≡ first (store_tests table image map list)
  unfolding storing
  store_is = store_told (first (store_tests table image map list)) (header_of map)

  pub store_refused : (r : Refusal) → (told_listed (storing table image map list).answer ≡ refused r) ↔ Lowest (store_tests table image map list) r
  store_refused r = told_lowest _ (store_tests table image map list) store_is tt r

  pub store_refused_keeps : (r : Refusal) → told_listed (storing table image map list).answer ≡ refused r
      → storing table image map list ≡ stored_of (Err r) image map list
  unfolding storing
  store_refused_keeps r e = ap (λ (v : Verdict). store_unless v (header_of map) table image map list) (sym store_is ∙ e)

  -- a store that answers a count was allowed
  pub store_allowed : (count : ℕ) → (storing table image map list).answer ≡ Ok count → first (store_tests table image map list) ≡ allowed
  store_allowed count e = sym store_is ∙ ap told_listed e
