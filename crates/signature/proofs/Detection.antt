-- Sure detection: two objects of one length that differ in 1 to n symbols differ in one of the components 1 to n, and so in their n-symbol signatures.
-- Assumes nothing.
use mathlib.Core.Path.{◌≡◌, sym, ap, ap₂, ◌∙◌}
use mathlib.Core.Logic.{◌≢◌, dite, ⊎_elim, ◌⊎◌, inl, inr}
use mathlib.Core.Bool.{not}
use mathlib.Core.List.{List}
use Prim.Native.Nat.{ℕ, zero, suc, ◌^◌, ◌≤◌, ◌<◌}
use native.Mathlib.Nat.{not-suc-le-zero, le_of_suc-le-suc, eq-or-lt_of_le, le_step, le_refl, le_trans, zero-lt-suc}
use native.Mathlib.Decide.{ℕ_discrete}
use native.Mathlib.Omega.{arith}
use lib.Dec.{eqb}
use lib.ListN.{length}
use borrow.Author.Tests.{eq-eqb, eqb-true, not-false}
use Rattle.field.specs.Field.{Field, ◌⊕◌, order}
use Rattle.field.proofs.Sums.{sum_self, equal_of_sum}
use Rattle.field.proofs.Tests.{Passes}
use Rattle.units.specs.Counts.{symbols_in}
use Rattle.signature.specs.Objects.{Octets, symbol, symbols}
use Rattle.signature.specs.Signatures.{component, signature}
use Rattle.signature.specs.Differences.{count, differing}
use Rattle.signature.proofs.Counting.{count_le, count_none}
use Rattle.components.proofs.Components.{component_sum}
use Rattle.components.proofs.Octets.{difference, difference_element, same_difference}
use Rattle.signature.proofs.Vanishing.{present, all_zero}

-- one of the components 1 to n is another
abbrev pub Apart : ℕ → (ℕ → ℕ) → (ℕ → ℕ) → Type 0
Apart n s t = (j : ℕ) × (0 < j) × (j ≤ n) × (s j ≢ t j)

apart_or_same : (n : ℕ) (s t : ℕ → ℕ) → Apart n s t ⊎ ((j : ℕ) → j < n → s (suc j) ≡ t (suc j))
apart_or_same zero s t = inr (λ j h. absurd (not-suc-le-zero h))
apart_or_same (suc n) s t =
    ⊎_elim
    (λ (a : Apart n s t). inl (a.0, a.1, le_step a.2, a.3))
    (λ (same : (j : ℕ) → j < n → s (suc j) ≡ t (suc j)).
    dite (ℕ_discrete (s (suc n)) (t (suc n)))
    (λ (e : s (suc n) ≡ t (suc n)). inr (λ j h. ⊎_elim (λ (q : j ≡ n). ap (λ k. s (suc k)) q ∙ e ∙ ap (λ k. t (suc k)) (sym q)) (same j) (eq-or-lt_of_le (le_of_suc-le-suc h))))
    (λ (d : s (suc n) ≢ t (suc n)). inl (suc n, zero-lt-suc n, le_refl (suc n), d)))
    (apart_or_same n s t)

module _ (F : Field) (good : Passes F) (size : ℕ) (wide : 256 ^ size ≤ 2 ^ F.width) (one other : List ℕ)
    (one-octets : Octets one) (other-octets : Octets other) (lengths : length one ≡ length other) (short : symbols size one ≤ order F) where
  -- positions whose symbols agree do not count
  counted : count (symbols size one) (present (difference size one other)) ≤ differing size one other
  unfolding differing
  counted =
      count_le (symbols size one) (present (difference size one other)) (λ i. not (eqb (symbol size one i) (symbol size other i)))
      (λ i h e.
      let same : symbol size one i ≡ symbol size other i = eqb-true (symbol size one i) (symbol size other i) (not-false (eqb (symbol size one i) (symbol size other i)) e) in
      ap not (eq-eqb (difference size one other i) 0 (same_difference size one other i same)))

  vanish : (j : ℕ) → signature F size one j ≡ signature F size other j → component F (symbols size one) (difference size one other) j ≡ 0
  unfolding difference
  vanish j e =
      component_sum F (symbols size one) (symbol size one) (symbol size other) j
      ∙ ap₂ ◌⊕◌ e (ap (λ (n : ℕ). component F (symbols_in size n) (symbol size other) j) lengths)
      ∙ sum_self (signature F size other j)

  -- n-symbol signatures that agree leave no difference among few
  no_difference : (n : ℕ) → differing size one other ≤ n → ((j : ℕ) → j < n → signature F size one (suc j) ≡ signature F size other (suc j))
      → differing size one other ≡ 0
  unfolding differing difference
  no_difference n few same =
      count_none (symbols size one) (λ i. not (eqb (symbol size one i) (symbol size other i)))
      (λ i h.
      ap not (eq-eqb (symbol size one i) (symbol size other i)
      (equal_of_sum (symbol size one i) (symbol size other i)
      (all_zero F good (symbols size one) short n (difference size one other) (difference_element F size wide one other one-octets other-octets)
      (le_trans counted few) (λ j l. vanish (suc j) (same j l)) i h))))

  pub told_apart : (n : ℕ) → 1 ≤ differing size one other → differing size one other ≤ n → Apart n (signature F size one) (signature F size other)
  told_apart n some few =
      ⊎_elim
      (λ (a : Apart n (signature F size one) (signature F size other)). a)
      (λ (same : (j : ℕ) → j < n → signature F size one (suc j) ≡ signature F size other (suc j)).
      let none : differing size one other ≡ 0 = no_difference n few same in
      absurd (omega arith))
      (apart_or_same n (signature F size one) (signature F size other))
