-- The quick reduction is the field's own, by one computed test on the powers of two, since both are additive; and a sum of 64 digits that is shifted by i is
-- multiplied by α^i.
-- Assumes nothing.
use mathlib.Core.Path.{◌≡◌, sym, ap, ◌∙◌, subst}
use mathlib.Core.Bool.{Bool}
use Prim.Native.Nat.{ℕ, zero, suc, ◌*◌, ◌/◌, ◌%◌, ◌^◌, ◌≤◌, ◌<◌}
use native.Mathlib.Omega.{arith}
use native.Mathlib.Nat.{mod-eq_of_lt, mod-lt, mul-one, mul_assoc, pow-suc, mul-le-mul_left, lt_of_le_of_lt}
use lib.Dec.{T, eqb, eqb→eq}
use lib.Pow.{pow_pos}
use Rattle.field.specs.Field.{GF16, ◌⊕◌, digit, scaled, reduced, doubled, product, power, α}
use Rattle.field.proofs.Sums.{zero_sum, sum_comm}
use Rattle.field.proofs.Additive.{Adds, both, after, same, down, low, up, agree}
use Rattle.field.proofs.Reducing.{reduced_sum, reduced_shift, digit_above}
use Rattle.field.proofs.Products.{product_element, product_assoc, product_one, product_two}
use Rattle.field.proofs.Powers.{α_element, α_power}
use Rattle.field.proofs.Instances.{GF16_formed}
use Rattle.field.proofs.Tests.{below, at_below}

-- ---- the quick reduction

unfoldable pub first : ℕ → ℕ
first a = a ⊕ a / 2 ^ 4 ⊕ a / 2 ^ 13 ⊕ a / 2 ^ 15 ⊕ a / 2 ^ 16

unfoldable pub second : ℕ → ℕ
second b = b ⊕ b / 2 ^ 8 ⊕ b / 2 ^ 26 ⊕ b / 2 ^ 30 ⊕ b / 2 ^ 32

unfoldable pub third : ℕ → ℕ
third c = c ⊕ c / 2 ^ 16

unfoldable pub fourth : ℕ → ℕ
fourth d = d ⊕ d / 2 ^ 32

unfoldable pub quotient : ℕ → ℕ
quotient s = fourth (third (second (first (s / 2 ^ 16))))

unfoldable pub taken_off : ℕ → ℕ → ℕ
taken_off s q = (s ⊕ q ⊕ q * 2 ^ 1 % 2 ^ 64 ⊕ q * 2 ^ 3 % 2 ^ 64 ⊕ q * 2 ^ 12 % 2 ^ 64) % 2 ^ 16

first_sum : Adds first
unfolding first
first_sum = both (both (both (both same (down 4)) (down 13)) (down 15)) (down 16)

second_sum : Adds second
unfolding second
second_sum = both (both (both (both same (down 8)) (down 26)) (down 30)) (down 32)

third_sum : Adds third
unfolding third
third_sum = both same (down 16)

fourth_sum : Adds fourth
unfolding fourth
fourth_sum = both same (down 32)

quotient_sum : Adds quotient
unfolding quotient
quotient_sum = after fourth_sum (after third_sum (after second_sum (after first_sum (down 16))))

quick_sum : Adds (λ s. taken_off s (quotient s))
unfolding taken_off
quick_sum =
    after (low 16)
    (both (both (both (both same quotient_sum) (after (up 64 1) quotient_sum)) (after (up 64 3) quotient_sum)) (after (up 64 12) quotient_sum))

quick_at : ℕ → Bool
quick_at i = eqb (taken_off (2 ^ i) (quotient (2 ^ i))) (reduced GF16 48 (2 ^ i))

quick_passes : T (below quick_at 64)
unfolding below quick_at taken_off quotient first second third fourth reduced digit ◌⊕◌
quick_passes = tt

pub quick : (s : ℕ) → s < 2 ^ 64 → taken_off s (quotient s) ≡ reduced GF16 48 s
unfolding quick_at
quick =
    agree (λ s. taken_off s (quotient s)) (reduced GF16 48) quick_sum.adds (reduced_sum GF16 48) 64
    (λ i h. eqb→eq _ _ (at_below quick_at 64 quick_passes i h))

-- ---- shifts

le_mul_pow : (s i : ℕ) → s ≤ s * 2 ^ i
le_mul_pow s i = subst (λ (n : ℕ). n ≤ s * 2 ^ i) (mul-one s) (mul-le-mul_left s (pow_pos i))

reduced_element : (s : ℕ) → s < 2 ^ 64 → reduced GF16 48 s < 2 ^ 16
unfolding taken_off
reduced_element s h = subst (λ (n : ℕ). n < 2 ^ 16) (quick s h) (mod-lt (s ⊕ quotient s ⊕ quotient s * 2 ^ 1 % 2 ^ 64 ⊕ quotient s * 2 ^ 3 % 2 ^ 64 ⊕ quotient s * 2 ^ 12 % 2 ^ 64) (pow_pos 16))

-- where the highest digit is free
reduced_double : (u : ℕ) → u < 2 ^ 63 → reduced GF16 48 (u * 2) ≡ doubled GF16 (reduced GF16 48 u)
unfolding reduced
reduced_double u h = reduced_shift GF16 47 u ∙ ap (doubled GF16) (ap (reduced GF16 47) (sym (ap (λ (d : ℕ). scaled d (GF16.polynomial * 2 ^ 47) ⊕ u) (digit_above 63 h) ∙ zero_sum u)))

pub shifted_product : (i s : ℕ) → s * 2 ^ i < 2 ^ 64 → reduced GF16 48 (s * 2 ^ i) ≡ product GF16 (reduced GF16 48 s) (power GF16 α i)
unfolding power
shifted_product zero s h =
    ap (reduced GF16 48) (mul-one s) ∙ sym (product_one GF16 GF16_formed (reduced_element s (subst (λ (n : ℕ). n < 2 ^ 64) (mul-one s) h)))
shifted_product (suc i) s h =
    ap (reduced GF16 48) twice
    ∙ reduced_double (s * 2 ^ i) half
    ∙ ap (doubled GF16) (shifted_product i s less)
    ∙ sym (product_two GF16 GF16_formed (product_element GF16 GF16_formed (power GF16 α i) small))
    ∙ product_assoc GF16 GF16_formed small (α_power GF16 GF16_formed i) (α_element GF16 GF16_formed)
  where
    twice : s * 2 ^ suc i ≡ s * 2 ^ i * 2
    twice = ap (λ (n : ℕ). s * n) (pow-suc 2 i) ∙ sym (mul_assoc s (2 ^ i) 2)

    half : s * 2 ^ i < 2 ^ 63
    half = omega (arith, subst (λ (n : ℕ). n < 2 ^ 64) twice h)

    less : s * 2 ^ i < 2 ^ 64
    less = omega (arith, half)

    small : reduced GF16 48 s < 2 ^ 16
    small = reduced_element s (lt_of_le_of_lt (le_mul_pow s i) less)

-- s shifted by i, and b added below
pub step : (i s b : ℕ) → s * 2 ^ i < 2 ^ 64 → reduced GF16 48 (s * 2 ^ i % 2 ^ 64 ⊕ b) ≡ reduced GF16 48 b ⊕ product GF16 (reduced GF16 48 s) (power GF16 α i)
step i s b room =
    ap (λ (n : ℕ). reduced GF16 48 (n ⊕ b)) (mod-eq_of_lt room)
    ∙ reduced_sum GF16 48 (s * 2 ^ i) b
    ∙ ap (λ (x : ℕ). x ⊕ reduced GF16 48 b) (shifted_product i s room)
    ∙ sum_comm _ (reduced GF16 48 b)
