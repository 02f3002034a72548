-- How many digits there are, one turn at a time, and that they read back as the number.
-- Assumes nothing.
use mathlib.Core.Path.{◌≡◌, refl}
use mathlib.Core.Logic.{dite}
use mathlib.Core.List.{[], ◌∷◌, ◌++◌}
use Prim.Native.Nat.{ℕ, zero, suc, ◌*◌, ◌/◌, ◌%◌, ◌^◌, ◌≤◌, ◌<◌}
use native.Mathlib.Nat.{le_refl, pow-zero, pow-suc}
use native.Mathlib.Decide.{dec_lt}
use native.Mathlib.Omega.{arith}
use lib.ListN.{length, length-append}
use borrow.Author.Tests.{lt-ltb, le-ltb}
use Rattle.listing.specs.Digits.{digit, digits, width_within, width, decimal, hex}

pub digits_length : (base count x : ℕ) → length (digits base count x) ≡ count
unfolding digits
digits_length base zero x = refl
digits_length base (suc count) x =
    omega (arith, length-append (digits base count (x / base)) (digit (x % base) ∷ []), digits_length base count (x / base))

pub decimal_length : (x : ℕ) → length (decimal x) ≡ width x
unfolding decimal
decimal_length x = digits_length 10 (width x) x

pub hex_length : (x : ℕ) → length (hex x) ≡ 4
unfolding hex
hex_length x = digits_length 16 4 x

pub width_one : (more x : ℕ) → x < 10 → width_within (suc more) x ≡ 1
unfolding width_within
width_one more x small = simp (lt-ltb x 10 small)

pub width_more : (more x : ℕ) → 10 ≤ x → width_within (suc more) x ≡ suc (width_within more (x / 10))
unfolding width_within
width_more more x large = simp (le-ltb x 10 large)

pub width_end : (x : ℕ) → width_within 0 x ≡ 1
unfolding width_within
width_end x = refl

pub width_most : (more x : ℕ) → width_within more x ≤ suc more
unfolding width_within
width_most zero x = le_refl 1
width_most (suc more) x =
    dite (dec_lt x 10)
    (λ (small : x < 10). omega (arith, width_one more x small))
    (λ large. let tens : 10 ≤ x = omega arith in omega (arith, width_more more x tens, width_most more (x / 10)))

power_some : (k : ℕ) → 1 ≤ 10 ^ k
power_some zero = omega (arith, pow-zero 10)
power_some (suc k) = omega (arith, pow-suc 10 k, power_some k)

-- a number has one digit more than its logarithm says
pub width_log : (more k x : ℕ) → k ≤ more → 10 ^ k ≤ x → x < 10 * 10 ^ k → width_within more x ≡ suc k
width_log zero zero x fits low high = width_end x
width_log zero (suc k) x fits low high = absurd (omega arith)
width_log (suc more) zero x fits low high = omega (arith, pow-zero 10, width_one more x)
width_log (suc more) (suc k) x fits low high =
    let some : 1 ≤ 10 ^ k = power_some k in
    let power : 10 ^ suc k ≡ 10 ^ k * 10 = pow-suc 10 k in
    let tens : 10 ≤ x = omega arith in
    omega (arith, width_more more x tens, width_log more k (x / 10) (omega arith) (omega arith) (omega arith))

pub digits_none : (base x : ℕ) → digits base 0 x ≡ []
unfolding digits
digits_none base x = refl

pub digits_more : (base count x : ℕ) → digits base (suc count) x ≡ digits base count (x / base) ++ (digit (x % base) ∷ [])
unfolding digits
digits_more base count x = refl
