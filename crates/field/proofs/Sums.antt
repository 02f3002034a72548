-- The laws of the sum, which is exclusive or, and how it meets shifts and digits.
-- Assumes nothing.
use mathlib.Core.Path.{◌≡◌, refl, sym, ap, ap₂, ◌∙◌}
use mathlib.Core.Logic.{◌≢◌}
use Prim.Native.Nat.{ℕ, zero, suc, ◌+◌, ◌*◌, ◌/◌, ◌%◌, ◌^◌, ◌<◌}
use native.Mathlib.Nat.{mod-lt, add-zero, zero-lt-suc}
use native.Mathlib.Omega.{arith}
use lib.Arith.{bin_ind, digits_mod}
use lib.Bits.{bit_xor, differ, xor_step, xor_comm, xor_self, xor_zero_r, xor_lt, xor_shr, xor_mod, xor_block, xor_shifted}
use lib.Pow.{pow_pos}
use Rattle.field.specs.Field.{◌⊕◌, digit, scaled}

pub sum_comm : (a b : ℕ) → a ⊕ b ≡ b ⊕ a
unfolding ◌⊕◌
sum_comm a b = xor_comm a b

pub sum_self : (a : ℕ) → a ⊕ a ≡ 0
unfolding ◌⊕◌
sum_self a = xor_self a

pub zero_sum : (a : ℕ) → 0 ⊕ a ≡ a
unfolding ◌⊕◌
zero_sum a = refl

pub sum_zero : (a : ℕ) → a ⊕ 0 ≡ a
unfolding ◌⊕◌
sum_zero a = xor_zero_r a

pub sum_lt : (k : ℕ) {a b : ℕ} → a < 2 ^ k → b < 2 ^ k → a ⊕ b < 2 ^ k
unfolding ◌⊕◌
sum_lt k {a} {b} ha hb = xor_lt k a b ha hb

-- three digits, in either grouping
differ_assoc : (x y z : ℕ) → x < 2 → y < 2 → z < 2 → differ (differ x y) z ≡ differ x (differ y z)
differ_assoc zero y z hx hy hz = refl
differ_assoc (suc zero) zero z hx hy hz = refl
differ_assoc (suc zero) (suc zero) zero hx hy hz = refl
differ_assoc (suc zero) (suc zero) (suc zero) hx hy hz = refl
differ_assoc (suc zero) (suc zero) (suc (suc z)) hx hy hz = absurd (omega arith)
differ_assoc (suc zero) (suc (suc y)) z hx hy hz = absurd (omega arith)
differ_assoc (suc (suc x)) y z hx hy hz = absurd (omega arith)

half_of : (a b : ℕ) → bit_xor a b / 2 ≡ bit_xor (a / 2) (b / 2)
half_of a b = xor_shr a b 1

differ_lt : (x y : ℕ) → x < 2 → y < 2 → differ x y < 2
differ_lt zero y hx hy = hy
differ_lt (suc x) zero hx hy = hx
differ_lt (suc zero) (suc zero) hx hy = zero-lt-suc 1
differ_lt (suc zero) (suc (suc y)) hx hy = absurd (omega arith)
differ_lt (suc (suc x)) (suc y) hx hy = absurd (omega arith)

odd_of : (a b : ℕ) → bit_xor a b % 2 ≡ differ (a % 2) (b % 2)
odd_of a b =
    ap (λ (n : ℕ). n % 2) (xor_step a b)
    ∙ digits_mod (bit_xor (a / 2) (b / 2)) (differ_lt (a % 2) (b % 2) (mod-lt a (zero-lt-suc 1)) (mod-lt b (zero-lt-suc 1)))

xor_assoc : (a b c : ℕ) → bit_xor (bit_xor a b) c ≡ bit_xor a (bit_xor b c)
xor_assoc =
    bin_ind (λ (n : ℕ). (b c : ℕ) → bit_xor (bit_xor n b) c ≡ bit_xor n (bit_xor b c)) (λ b c. refl)
    (λ n ih b c.
    xor_step (bit_xor n b) c
    ∙ ap₂ (λ (x y : ℕ). bit_xor x (c / 2) * 2 + differ y (c % 2)) (half_of n b) (odd_of n b)
    ∙ ap₂ (λ (x y : ℕ). x * 2 + y) (ih (b / 2) (c / 2))
    (differ_assoc (n % 2) (b % 2) (c % 2) (mod-lt n (zero-lt-suc 1)) (mod-lt b (zero-lt-suc 1)) (mod-lt c (zero-lt-suc 1)))
    ∙ sym (xor_step n (bit_xor b c)
    ∙ ap₂ (λ (x y : ℕ). bit_xor (n / 2) x * 2 + differ (n % 2) y) (half_of b c) (odd_of b c)))

pub sum_assoc : (a b c : ℕ) → a ⊕ b ⊕ c ≡ a ⊕ (b ⊕ c)
unfolding ◌⊕◌
sum_assoc a b c = xor_assoc a b c

pub sum_left_comm : (a b c : ℕ) → a ⊕ (b ⊕ c) ≡ b ⊕ (a ⊕ c)
sum_left_comm a b c = sym (sum_assoc a b c) ∙ ap (λ (x : ℕ). x ⊕ c) (sum_comm a b) ∙ sum_assoc b a c

-- two sums in the other order of their parts
pub sum_cross : (a b c d : ℕ) → a ⊕ b ⊕ (c ⊕ d) ≡ a ⊕ c ⊕ (b ⊕ d)
sum_cross a b c d = sum_assoc a b (c ⊕ d) ∙ ap (λ (x : ℕ). a ⊕ x) (sum_left_comm b c d) ∙ sym (sum_assoc a c (b ⊕ d))

pub sum_undo : (a b : ℕ) → a ⊕ (a ⊕ b) ≡ b
sum_undo a b = sym (sum_assoc a a b) ∙ ap (λ (x : ℕ). x ⊕ b) (sum_self a) ∙ zero_sum b

pub equal_of_sum : (a b : ℕ) → a ⊕ b ≡ 0 → a ≡ b
equal_of_sum a b e = sym (sum_zero a) ∙ ap (λ (x : ℕ). a ⊕ x) (sym e) ∙ sum_undo a b

-- a shift moves every digit of a sum
pub sum_shift : (k a b : ℕ) → (a ⊕ b) * 2 ^ k ≡ a * 2 ^ k ⊕ b * 2 ^ k
unfolding ◌⊕◌
sum_shift k a b =
    sym
    (sym (ap₂ bit_xor (add-zero (a * 2 ^ k)) (add-zero (b * 2 ^ k)))
    ∙ xor_block k a b 0 0 (pow_pos k) (pow_pos k)
    ∙ add-zero (bit_xor a b * 2 ^ k))

-- digits above k and digits below k have nothing in common
pub sum_split : (a k : ℕ) {r : ℕ} → r < 2 ^ k → a * 2 ^ k ⊕ r ≡ a * 2 ^ k + r
unfolding ◌⊕◌
sum_split a k {r} h = xor_shifted a k r h

pub digit_sum : (i a b : ℕ) → digit i (a ⊕ b) ≡ digit i a ⊕ digit i b
unfolding ◌⊕◌ digit
digit_sum i a b = ap (λ (n : ℕ). n % 2) (xor_shr a b i) ∙ xor_mod (a / 2 ^ i) (b / 2 ^ i) 1

pub digit_lt : (i a : ℕ) → digit i a < 2
unfolding digit
digit_lt i a = mod-lt (a / 2 ^ i) (zero-lt-suc 1)

pub scaled_some : (d a : ℕ) → d ≢ 0 → a ≡ scaled d a
scaled_some zero a h = absurd (h refl)
scaled_some (suc d) a h = refl

pub scaled_sum : (d a b : ℕ) → scaled d (a ⊕ b) ≡ scaled d a ⊕ scaled d b
scaled_sum zero a b = sym (zero_sum 0)
scaled_sum (suc d) a b = refl

pub sum_scaled : (d e a : ℕ) → d < 2 → e < 2 → scaled (d ⊕ e) a ≡ scaled d a ⊕ scaled e a
unfolding ◌⊕◌
sum_scaled zero e a hd he = refl
sum_scaled (suc zero) zero a hd he = sym (xor_zero_r a)
sum_scaled (suc zero) (suc zero) a hd he = sym (xor_self a)
sum_scaled (suc zero) (suc (suc e)) a hd he = absurd (omega arith)
sum_scaled (suc (suc d)) e a hd he = absurd (omega arith)
