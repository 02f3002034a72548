-- A weight 16 symbols on: the quick way to it is the product, by one computed test on the powers of two, since both are additive.
-- Assumes nothing.
use mathlib.Core.Path.{◌≡◌}
use mathlib.Core.Bool.{Bool}
use Prim.Native.Nat.{ℕ, ◌*◌, ◌/◌, ◌%◌, ◌^◌, ◌<◌}
use lib.Dec.{T, eqb, eqb→eq}
use Rattle.field.specs.Field.{GF16, ◌⊕◌, digit, expanded, reduced, product, power, α}
use Rattle.field.proofs.Additive.{Adds, both, after, same, down, up, agree}
use Rattle.field.proofs.Reducing.{sum_product}
use Rattle.field.proofs.Tests.{below, at_below}

-- ---- the quick way

unfoldable pub first : ℕ → ℕ
first a = a ⊕ a / 2 ^ 4 ⊕ a / 2 ^ 13 ⊕ a / 2 ^ 15

unfoldable pub quotient : ℕ → ℕ
quotient b = b ⊕ b / 2 ^ 8

unfoldable pub taken_off : ℕ → ℕ
taken_off q = q ⊕ q * 2 ^ 1 % 2 ^ 16 ⊕ q * 2 ^ 3 % 2 ^ 16 ⊕ q * 2 ^ 12 % 2 ^ 16

quick_sum : Adds (λ a. taken_off (quotient (first a)))
unfolding first quotient taken_off
quick_sum =
    after {f = taken_off} {g = λ a. quotient (first a)} (both (both (both same (up 16 1)) (up 16 3)) (up 16 12))
    (after {f = quotient} {g = first} (both same (down 8)) (both (both (both same (down 4)) (down 13)) (down 15)))

quick_at : ℕ → Bool
quick_at i = eqb (taken_off (quotient (first (2 ^ i)))) (product GF16 (2 ^ i) (power GF16 α 16))

quick_passes : T (below quick_at 16)
unfolding below quick_at taken_off quotient first product expanded reduced digit power ◌⊕◌
quick_passes = tt

pub quick : (a : ℕ) → a < 2 ^ 16 → taken_off (quotient (first a)) ≡ product GF16 a (power GF16 α 16)
unfolding quick_at
quick =
    agree (λ a. taken_off (quotient (first a))) (λ a. product GF16 a (power GF16 α 16)) quick_sum.adds (sum_product GF16 (power GF16 α 16)) 16
    (λ i h. eqb→eq _ _ (at_below quick_at 16 quick_passes i h))
