-- The digits printed are those of the number: read back they give it again, and a decimal has no leading zero.
-- Assumes nothing.
use mathlib.Core.Path.{◌≡◌, refl, ap, ◌∙◌}
use mathlib.Core.Logic.{dite}
use mathlib.Core.Bool.{cond}
use mathlib.Core.List.{List, [], ◌∷◌, ◌++◌}
use Prim.Native.Nat.{ℕ, zero, suc, ◌+◌, ◌-◌, ◌*◌, ◌/◌, ◌%◌, ◌^◌, ◌≤◌, ◌<◌}
use native.Mathlib.Nat.{mod-lt, div-add-mod', div-lt_iff_lt-mul, pow-zero, pow-suc}
use native.Mathlib.Decide.{dec_lt}
use native.Mathlib.Omega.{arith}
use lib.Dec.{ltb}
use borrow.Author.Tests.{lt-ltb, le-ltb}
use Rattle.listing.specs.Digits.{digit, digits, width_within, width, decimal, hex}
use Rattle.listing.proofs.Digits.{width_one, width_more, width_end}

-- what a digit counts
abbrev pub value_of : ℕ → ℕ
value_of c = cond (ltb c 58) (c - 48) (c - 87)

-- what a list of digits counts, after digits that count `start`
abbrev pub value_from : ℕ → ℕ → List ℕ → ℕ
value_from base start [] = start
value_from base start (c ∷ cs) = value_from base (start * base + value_of c) cs

digit_read : (d : ℕ) → d < 16 → value_of (digit d) ≡ d
digit_read d small =
    dite (dec_lt d 10)
    (λ (low : d < 10). let below : 48 + d < 58 = omega arith in simp (lt-ltb d 10 low, lt-ltb (48 + d) 58 below) (omega arith))
    (λ high.
    let letter : 10 ≤ d = omega arith in
    let above : 58 ≤ 87 + d = omega arith in
    simp (le-ltb d 10 letter, le-ltb (87 + d) 58 above) (omega arith))

value_append : (base start : ℕ) (xs ys : List ℕ) → value_from base start (xs ++ ys) ≡ value_from base (value_from base start xs) ys
value_append base start [] ys = refl
value_append base start (x ∷ xs) ys = value_append base (start * base + value_of x) xs ys

pub digits_read : (base : ℕ) → 1 ≤ base → base ≤ 16 → (count x : ℕ) → x < base ^ count → value_from base 0 (digits base count x) ≡ x
unfolding digits
digits_read base some most zero x small = omega (arith, pow-zero base)
digits_read base some most (suc count) x small =
    let fewer : x / base < base ^ count = (div-lt_iff_lt-mul some).1 (omega (arith, pow-suc base count)) in
    let rest : x % base < base = mod-lt x some in
    value_append base 0 (digits base count (x / base)) (digit (x % base) ∷ [])
    ∙ ap (λ (v : ℕ). v * base + value_of (digit (x % base))) (digits_read base some most count (x / base) fewer)
    ∙ ap (λ (v : ℕ). x / base * base + v) (digit_read (x % base) (omega arith))
    ∙ div-add-mod' x base

width_holds : (more x : ℕ) → x < 10 ^ suc more → x < 10 ^ width_within more x
width_holds zero x small = rw (width_end x) small
width_holds (suc more) x small =
    dite (dec_lt x 10)
    (λ (one : x < 10). rw (width_one more x one) (omega arith))
    (λ several.
    let tens : 10 ≤ x = omega arith in
    let fewer : x / 10 < 10 ^ suc more = omega (arith, pow-suc 10 (suc more)) in
    rw (width_more more x tens) (omega (arith, width_holds more (x / 10) fewer, pow-suc 10 (width_within more (x / 10)))))

-- every machine word reads back from its decimal digits, and every symbol from its four of hex

pub decimal_reads : (x : ℕ) → x < 2 ^ 64 → value_from 10 0 (decimal x) ≡ x
unfolding decimal
decimal_reads x word = digits_read 10 (omega arith) (omega arith) (width x) x (width_holds 19 x (omega arith))

pub hex_reads : (x : ℕ) → x < 65536 → value_from 16 0 (hex x) ≡ x
unfolding hex
hex_reads x symbol = digits_read 16 (omega arith) (omega arith) 4 x symbol

width_some : (more x : ℕ) → 1 ≤ width_within more x
width_some zero x = omega (arith, width_end x)
width_some (suc more) x =
    dite (dec_lt x 10)
    (λ (one : x < 10). omega (arith, width_one more x one))
    (λ several. let tens : 10 ≤ x = omega arith in omega (arith, width_more more x tens))

width_reached : (more x : ℕ) → 1 ≤ x → 10 ^ (width_within more x - 1) ≤ x
width_reached zero x some = rw (width_end x) some
width_reached (suc more) x some =
    dite (dec_lt x 10)
    (λ (one : x < 10). rw (width_one more x one) some)
    (λ several.
    let tens : 10 ≤ x = omega arith in
    let less : 10 ^ (width_within more (x / 10) - 1) ≤ x / 10 = width_reached more (x / 10) (omega arith) in
    let up : width_within more (x / 10) ≡ suc (width_within more (x / 10) - 1) = omega (arith, width_some more (x / 10)) in
    let power : 10 ^ width_within more (x / 10) ≡ 10 ^ (width_within more (x / 10) - 1) * 10 = ap (λ (k : ℕ). 10 ^ k) up ∙ pow-suc 10 (width_within more (x / 10) - 1) in
    let one_less : width_within (suc more) x - 1 ≡ width_within more (x / 10) = omega (arith, width_more more x tens) in
    rw one_less (omega arith))

-- the first digit of a number above 0 is not 0
pub no_leading_zero : (x : ℕ) → 1 ≤ x → 10 ^ (width x - 1) ≤ x
no_leading_zero x some = width_reached 19 x some
