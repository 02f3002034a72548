-- A product of polynomials, reduced, as a sum of doublings: the form in which its laws are proved and in which the code works.
-- Assumes nothing.
use mathlib.Core.Path.{◌≡◌, refl, sym, ap, ap₂, ◌∙◌}
use Prim.Native.Nat.{ℕ, zero, suc, ◌+◌, ◌*◌, ◌/◌, ◌%◌, ◌^◌, ◌≤◌, ◌<◌}
use native.Mathlib.Nat.{pow-suc, mul_assoc, mul-one, add-suc, mul-div-mul_right, div-eq_of_lt, lt_of_lt_of_le, le-add_right, zero-lt-suc, le_of_suc-le-suc, not-suc-le-zero, le_of_suc-le, le-suc}
use lib.Pow.{pow_mono}
use Rattle.field.specs.Field.{Field, ◌⊕◌, digit, scaled, expanded, reduced, product, doubled}
use Rattle.field.proofs.Sums.{zero_sum, sum_cross, sum_shift, digit_sum, digit_lt, scaled_sum, sum_scaled}
use Rattle.field.proofs.Additive.{Additive, at_zero, at_scaled}

-- the digit of a sum, times a polynomial
scaled_digits : (i u v x : ℕ) → scaled (digit i (u ⊕ v)) x ≡ scaled (digit i u) x ⊕ scaled (digit i v) x
scaled_digits i u v x =
    ap (λ (d : ℕ). scaled d x) (digit_sum i u v) ∙ sum_scaled (digit i u) (digit i v) x (digit_lt i u) (digit_lt i v)

pub expanded_sum : (n a b c : ℕ) → expanded n a (b ⊕ c) ≡ expanded n a b ⊕ expanded n a c
unfolding expanded
expanded_sum zero a b c = sym (zero_sum 0)
expanded_sum (suc i) a b c =
    ap₂ ◌⊕◌ (scaled_digits i b c (a * 2 ^ i)) (expanded_sum i a b c)
    ∙ sum_cross (scaled (digit i b) (a * 2 ^ i)) (scaled (digit i c) (a * 2 ^ i)) (expanded i a b) (expanded i a c)

pub sum_expanded : (n a b c : ℕ) → expanded n (a ⊕ b) c ≡ expanded n a c ⊕ expanded n b c
unfolding expanded
sum_expanded zero a b c = sym (zero_sum 0)
sum_expanded (suc i) a b c =
    ap₂ ◌⊕◌ (ap (scaled (digit i c)) (sum_shift i a b) ∙ scaled_sum (digit i c) (a * 2 ^ i) (b * 2 ^ i)) (sum_expanded i a b c)
    ∙ sum_cross (scaled (digit i c) (a * 2 ^ i)) (scaled (digit i c) (b * 2 ^ i)) (expanded i a c) (expanded i b c)

shifted_pow : (a k : ℕ) → a * 2 ^ suc k ≡ a * 2 ^ k * 2
shifted_pow a k = ap (λ (x : ℕ). a * x) (pow-suc 2 k) ∙ sym (mul_assoc a (2 ^ k) 2)

digit_shift : (i u : ℕ) → digit (suc i) (u * 2) ≡ digit i u
unfolding digit
digit_shift i u = ap (λ (n : ℕ). n % 2) (ap (λ (x : ℕ). u * 2 / x) (pow-suc 2 i) ∙ mul-div-mul_right u (2 ^ i) (zero-lt-suc 1))

scaled_shift : (d x : ℕ) → scaled d (x * 2) ≡ scaled d x * 2
scaled_shift zero x = refl
scaled_shift (suc d) x = refl

pub digit_above : (i : ℕ) {u : ℕ} → u < 2 ^ i → digit i u ≡ 0
unfolding digit
digit_above i h = ap (λ (n : ℕ). n % 2) (div-eq_of_lt h)

module _ (F : Field) where
  pub reduced_sum : (k : ℕ) → Additive (reduced F k)
  unfolding reduced
  reduced_sum zero u v = refl
  reduced_sum (suc k) u v = rw (scaled_digits (F.width + k) u v) (ap (reduced F k) (sum_cross _ _ u v) ∙ reduced_sum k _ _)

  pub doubled_sum : Additive (doubled F)
  unfolding doubled
  doubled_sum a b = ap (reduced F 1) (sum_shift 1 a b) ∙ reduced_sum 1 (a * 2) (b * 2)

  pub product_sum : (a : ℕ) → Additive (product F a)
  unfolding product
  product_sum a b c =
      ap (reduced F F.width) (expanded_sum F.width a b c) ∙ reduced_sum F.width (expanded F.width a b) (expanded F.width a c)

  pub sum_product : (c : ℕ) → Additive (λ a. product F a c)
  unfolding product
  sum_product c a b =
      ap (reduced F F.width) (sum_expanded F.width a b c) ∙ reduced_sum F.width (expanded F.width a c) (expanded F.width b c)

  pub zero_product : (b : ℕ) → product F 0 b ≡ 0
  zero_product b = at_zero (λ a. product F a b) (sum_product b)

  pub reduced_below : (k : ℕ) {u : ℕ} → u < 2 ^ F.width → reduced F k u ≡ u
  unfolding reduced
  reduced_below zero h = refl
  reduced_below (suc k) {u} h =
      rw (digit_above (F.width + k) (lt_of_lt_of_le h (pow_mono (le-add_right F.width k))), zero_sum u) (reduced_below k h)

  -- to shift and reduce is to reduce and double
  pub reduced_shift : (k u : ℕ) → reduced F (suc k) (u * 2) ≡ doubled F (reduced F k u)
  unfolding reduced doubled
  reduced_shift zero u = refl
  reduced_shift (suc k) u =
      ap (reduced F (suc k))
      (ap₂ (λ (d x : ℕ). scaled d x ⊕ u * 2) (ap (λ (i : ℕ). digit i (u * 2)) (add-suc F.width k) ∙ digit_shift (F.width + k) u) (shifted_pow F.polynomial k)
      ∙ ap (λ (x : ℕ). x ⊕ u * 2) (scaled_shift (digit (F.width + k) u) (F.polynomial * 2 ^ k))
      ∙ sym (sum_shift 1 (scaled (digit (F.width + k) u) (F.polynomial * 2 ^ k)) u))
      ∙ reduced_shift k (scaled (digit (F.width + k) u) (F.polynomial * 2 ^ k) ⊕ u)

  -- a doubled i times
  unfoldable pub doublings : ℕ → ℕ → ℕ
  doublings zero a = a
  doublings (suc i) a = doubled F (doublings i a)

  reduced_power : (i k : ℕ) {a : ℕ} → i ≤ k → a < 2 ^ F.width → reduced F k (a * 2 ^ i) ≡ doublings i a
  unfolding doublings
  reduced_power zero k {a} h ha = ap (reduced F k) (mul-one a) ∙ reduced_below k ha
  reduced_power (suc i) zero h ha = absurd (not-suc-le-zero h)
  reduced_power (suc i) (suc k) {a} h ha =
      ap (reduced F (suc k)) (shifted_pow a i) ∙ reduced_shift k (a * 2 ^ i) ∙ ap (doubled F) (reduced_power i k (le_of_suc-le-suc h) ha)

  -- the sum, over each x^i of b below n, of a doubled i times
  unfoldable pub spread : ℕ → ℕ → ℕ → ℕ
  spread zero a b = 0
  spread (suc i) a b = scaled (digit i b) (doublings i a) ⊕ spread i a b

  reduced_expanded : (n k : ℕ) {a : ℕ} (b : ℕ) → n ≤ suc k → a < 2 ^ F.width → reduced F k (expanded n a b) ≡ spread n a b
  unfolding expanded spread
  reduced_expanded zero k b h ha = at_zero (reduced F k) (reduced_sum k)
  reduced_expanded (suc i) k {a} b h ha =
      reduced_sum k (scaled (digit i b) (a * 2 ^ i)) (expanded i a b)
      ∙ ap₂ ◌⊕◌
      (at_scaled (reduced F k) (reduced_sum k) (digit i b) (a * 2 ^ i) ∙ ap (scaled (digit i b)) (reduced_power i k (le_of_suc-le-suc h) ha))
      (reduced_expanded i k b (le_of_suc-le h) ha)

  pub product_spread : {a : ℕ} (b : ℕ) → a < 2 ^ F.width → product F a b ≡ spread F.width a b
  unfolding product
  product_spread {a} b ha = reduced_expanded F.width F.width b (le-suc F.width) ha
