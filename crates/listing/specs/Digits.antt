-- Numbers as text: decimal without leading zeros, and four lower-case digits of hex.
use Rattle.std.specs.Prelude.{ℕ, zero, suc, ◌+◌, ◌/◌, ◌%◌, cond, List, [], ◌∷◌, ◌++◌, ltb}

-- 0 to 9, then a to f
abbrev pub digit : ℕ → ℕ
digit d = cond (ltb d 10) (48 + d) (87 + d)

-- the last `count` digits of x, the highest first
unfoldable pub digits : ℕ → ℕ → ℕ → List ℕ
digits base zero x = []
digits base (suc count) x = digits base count (x / base) ++ (digit (x % base) ∷ [])

-- how many decimal digits x has, if there are at most `more` after the first
unfoldable pub width_within : ℕ → ℕ → ℕ
width_within zero x = 1
width_within (suc more) x = cond (ltb x 10) 1 (suc (width_within more (x / 10)))

-- twenty digits hold every machine word
abbrev pub width : ℕ → ℕ
width x = width_within 19 x

unfoldable pub decimal : ℕ → List ℕ
decimal x = digits 10 (width x) x

unfoldable pub hex : ℕ → List ℕ
hex x = digits 16 4 x
