-- What holds of every operation that fills an output: the lowest number that applies is given, a refusal changes nothing, and so
-- stays what is past the part written.
-- Assumes nothing.
use mathlib.Core.Path.{◌≡◌, refl, sym, ap, ◌∙◌}
use mathlib.Core.Logic.{◌↔◌}
use mathlib.Core.List.{List}
use Prim.Native.Nat.{ℕ, ◌+◌, ◌≤◌}
use native.Mathlib.Nat.{zero-add}
use native.Mathlib.Omega.{arith}
use lib.Dec.{T}
use lib.ListN.{length, take, drop}
use Rattle.units.specs.Refusals.{Test, first}
use Rattle.units.specs.Writing.{written}
use Rattle.units.specs.Filling.{outcome, filling, told}
use Rattle.units.specs.declared.Refusal.{Refusal}
use Rattle.units.specs.Refusals.{Verdict}
use Rattle.units.proofs.Refusing.{Lowest, ascending, told_lowest, allowed_not_refused}
use Rattle.units.proofs.Writing.{written_inside, written_after}
use Rattle.std.specs.Prelude.{Ok, Err}
use Rattle.units.specs.Refusals.{allowed, refused}

module _ (size : ℕ) (new output : List ℕ) where
  told_outcome : (v : Verdict) → told (outcome v size new output).answer ≡ v
  told_outcome (Ok _) = refl
  told_outcome (Err r) = refl

  refused_outcome : (v : Verdict) (r : Refusal) → told (outcome v size new output).answer ≡ refused r → (outcome v size new output).output ≡ output
  refused_outcome (Ok _) r e = absurd (allowed_not_refused r e)
  refused_outcome (Err s) r e = refl

  module _ (tests : List Test) where
    pub filling_refused : T (ascending tests) → (r : Refusal) → (told (filling tests size new output).answer ≡ refused r) ↔ Lowest tests r
    filling_refused up r = told_lowest _ tests (told_outcome (first tests)) up r

    pub filling_refused_keeps : (r : Refusal) → told (filling tests size new output).answer ≡ refused r → (filling tests size new output).output ≡ output
    filling_refused_keeps r e = refused_outcome (first tests) r e

    module _ (sized : length new ≡ size) (fits : size ≤ length output) (allowed : first tests ≡ allowed) where
      long : 0 + length new ≤ length output
      long = omega arith

      end : 0 + length new ≡ size
      end = zero-add (length new) ∙ sized

      pub filling_puts : take size (filling tests size new output).output ≡ new
      filling_puts =
          ap (λ (v : Verdict). take size (outcome v size new output).output) allowed
          ∙ ap (λ (k : ℕ). take k (written output 0 new)) (sym sized)
          ∙ written_inside output 0 new long

      pub filling_keeps_after : drop size (filling tests size new output).output ≡ drop size output
      filling_keeps_after =
          ap (λ (v : Verdict). drop size (outcome v size new output).output) allowed
          ∙ ap (λ (k : ℕ). drop k (written output 0 new)) (sym end)
          ∙ written_after output 0 new long
          ∙ ap (λ (k : ℕ). drop k output) end
