-- What a step answers of a page: that it was kept or written, and not that the store is finished.
-- Assumes nothing.
use mathlib.Core.Path.{◌≡◌, refl}
use mathlib.Core.Bool.{Bool, true, false}
use Prim.Native.Nat.{ℕ}
use native.Mathlib.Omega.{arith}
use Rattle.std.specs.Prelude.{Result, Ok}
use Rattle.units.specs.declared.Refusal.{Refusal}
use Rattle.store.specs.Steps.{page_answer}
use Rattle.store.specs.declared.Answer.{Answer}
use Rattle.store.specs.declared.Answer.TheVariants.{Kept, Written, Finished}

abbrev pub answers : Answer → Result Answer Refusal
answers a = Ok a

module _ (k : ℕ) where
  pub told_kept : (b : Bool) (j : ℕ) → answers (Kept j) ≡ answers (page_answer k b) → b ≡ true
  told_kept true j e = refl
  told_kept false j e = let z : ◌≡◌ {A = ℕ} 0 1 = cc in absurd (omega arith)

  pub told_written : (b : Bool) (j : ℕ) → answers (Written j) ≡ answers (page_answer k b) → (b ≡ false) × (j ≡ k)
  told_written true j e = let z : ◌≡◌ {A = ℕ} 0 1 = cc in absurd (omega arith)
  told_written false j e = (refl, cc)

  pub told_not_finished : (b : Bool) → answers (page_answer k b) ≡ answers Finished → ⊥
  told_not_finished true e = let z : ◌≡◌ {A = ℕ} 0 1 = cc in omega arith
  told_not_finished false e = let z : ◌≡◌ {A = ℕ} 0 1 = cc in omega arith
