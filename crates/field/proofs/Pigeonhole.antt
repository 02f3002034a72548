-- A map of the numbers below n into themselves that takes no two to one takes some number to each.
-- Assumes nothing.
use mathlib.Core.Path.{◌≡◌, sym, ◌∙◌, subst}
use mathlib.Core.Logic.{◌≢◌, dite}
use mathlib.Core.Bool.{cond}
use Prim.Native.Nat.{ℕ, zero, suc, ◌<◌}
use native.Mathlib.Nat.{lt-suc_self, le_step, not-suc-le-zero, le_of_suc-le-suc}
use native.Mathlib.Decide.{ℕ_discrete}
use native.Mathlib.Omega.{arith}
use lib.Arith.{lt_of_le-ne}
use lib.Dec.{eqb}
use borrow.Author.Tests.{eq-eqb, ne_eqb}

-- u in the place of n
swapped : ℕ → ℕ → ℕ → ℕ
swapped n u x = cond (eqb x n) u x

swapped_hit : (n u x : ℕ) → x ≡ n → swapped n u x ≡ u
unfolding swapped
swapped_hit n u x e = simp (eq-eqb x n e)

swapped_miss : (n u x : ℕ) → x ≢ n → swapped n u x ≡ x
unfolding swapped
swapped_miss n u x e = simp (ne_eqb x n e)

abbrev pub Within : ℕ → (ℕ → ℕ) → Type 0
Within n f = (i : ℕ) → i < n → f i < n

abbrev pub Apart : ℕ → (ℕ → ℕ) → Type 0
Apart n f = (i j : ℕ) → i < n → j < n → f i ≡ f j → i ≡ j

module _ (n : ℕ) (f : ℕ → ℕ) (within : Within (suc n) f) (apart : Apart (suc n) f) where
  not_last : (i : ℕ) → i < n → f i ≢ f n
  not_last i h e = let same : i ≡ n = apart i n (le_step h) (lt-suc_self n) e in omega arith

  -- the last place given up, and what it held put where n was
  less : ℕ → ℕ
  less i = swapped n (f n) (f i)

  less_within : Within n less
  unfolding less
  less_within i h =
      dite (ℕ_discrete (f i) n)
      (λ e. subst (λ (x : ℕ). x < n) (sym (swapped_hit n (f n) (f i) e))
      (lt_of_le-ne (le_of_suc-le-suc (within n (lt-suc_self n))) (λ q. not_last i h (e ∙ sym q))))
      (λ d. subst (λ (x : ℕ). x < n) (sym (swapped_miss n (f n) (f i) d)) (lt_of_le-ne (le_of_suc-le-suc (within i (le_step h))) d))

  less_apart : Apart n less
  unfolding less
  less_apart i j hi hj e =
      dite (ℕ_discrete (f i) n)
      (λ p. dite (ℕ_discrete (f j) n)
      (λ q. apart i j (le_step hi) (le_step hj) (p ∙ sym q))
      (λ q. absurd (not_last j hj (sym (sym (swapped_hit n (f n) (f i) p) ∙ e ∙ swapped_miss n (f n) (f j) q)))))
      (λ p. dite (ℕ_discrete (f j) n)
      (λ q. absurd (not_last i hi (sym (swapped_miss n (f n) (f i) p) ∙ e ∙ swapped_hit n (f n) (f j) q)))
      (λ q. apart i j (le_step hi) (le_step hj) (sym (swapped_miss n (f n) (f i) p) ∙ e ∙ swapped_miss n (f n) (f j) q)))

  -- what is met without the last place is met with it
  met : (v i : ℕ) → i < n → less i ≡ swapped n (f n) v → v ≢ f n → f i ≡ v
  unfolding less
  met v i h e d =
      dite (ℕ_discrete (f i) n)
      (λ p. dite (ℕ_discrete v n)
      (λ q. p ∙ sym q)
      (λ q. absurd (d (sym (swapped_miss n (f n) v q) ∙ sym e ∙ swapped_hit n (f n) (f i) p))))
      (λ p. dite (ℕ_discrete v n)
      (λ q. absurd (not_last i h (sym (swapped_miss n (f n) (f i) p) ∙ e ∙ swapped_hit n (f n) v q)))
      (λ q. sym (swapped_miss n (f n) (f i) p) ∙ e ∙ swapped_miss n (f n) v q))

  target : (v : ℕ) → v < suc n → v ≢ f n → swapped n (f n) v < n
  target v h d =
      dite (ℕ_discrete v n)
      (λ q. subst (λ (x : ℕ). x < n) (sym (swapped_hit n (f n) v q))
      (lt_of_le-ne (le_of_suc-le-suc (within n (lt-suc_self n))) (λ p. d (q ∙ sym p))))
      (λ q. subst (λ (x : ℕ). x < n) (sym (swapped_miss n (f n) v q)) (lt_of_le-ne (le_of_suc-le-suc h) q))

pub onto : (n : ℕ) (f : ℕ → ℕ) → Within n f → Apart n f → (v : ℕ) → v < n → (i : ℕ) × (i < n) × (f i ≡ v)
onto zero f within apart v h = absurd (not-suc-le-zero h)
onto (suc n) f within apart v h =
    dite (ℕ_discrete v (f n))
    (λ e. (n, lt-suc_self n, sym e))
    (λ d.
    let (i, hi, e) = onto n (less n f within apart) (less_within n f within apart) (less_apart n f within apart)
    (swapped n (f n) v) (target n f within apart v h d) in
    (i, le_step hi, met n f within apart v i hi e d))
