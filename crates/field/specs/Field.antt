-- A field of binary polynomials: a number stands for the polynomial whose coefficient of x^i is the number's binary digit i.
-- A sum is the exclusive or; a product is the product of the two polynomials, reduced by the field's own. α is the polynomial x.
use Rattle.std.specs.Prelude.{ℕ, zero, suc, ◌+◌, ◌-◌, ◌*◌, ◌/◌, ◌%◌, ◌^◌, ◌<◌}
use Rattle.std.specs.Int.Bits.{bit_xor}

-- the polynomial has the degree `width`
pub record Field : Type 0 where
  pub width : ℕ
  pub polynomial : ℕ

abbrev pub Element : Field → ℕ → Type 0
Element F a = a < 2 ^ F.width

infixl 60 ◌⊕◌
unfoldable pub ◌⊕◌ : ℕ → ℕ → ℕ
a ⊕ b = bit_xor a b

-- the coefficient of x^i
unfoldable pub digit : ℕ → ℕ → ℕ
digit i a = a / 2 ^ i % 2

-- a coefficient times a polynomial
abbrev pub scaled : ℕ → ℕ → ℕ
scaled zero a = 0
scaled (suc d) a = a

-- the product of two polynomials, the second one of degree below n: the sum of a · x^i over each x^i that b has
unfoldable pub expanded : ℕ → ℕ → ℕ → ℕ
expanded zero a b = 0
expanded (suc i) a b = scaled (digit i b) (a * 2 ^ i) ⊕ expanded i a b

-- long division: what is left of u when the field's polynomial is taken off at x^(width + k - 1) and on down to x^width
unfoldable pub reduced : Field → ℕ → ℕ → ℕ
reduced F zero u = u
reduced F (suc k) u = reduced F k (scaled (digit (F.width + k) u) (F.polynomial * 2 ^ k) ⊕ u)

unfoldable pub product : Field → ℕ → ℕ → ℕ
product F a b = reduced F F.width (expanded F.width a b)

unfoldable pub doubled : Field → ℕ → ℕ
doubled F a = reduced F 1 (a * 2)

unfoldable pub power : Field → ℕ → ℕ → ℕ
power F a zero = 1
power F a (suc k) = product F (power F a k) a

abbrev pub α : ℕ
α = 2

-- as many as there are elements but 0: every so many powers of α are 1 again
abbrev pub order : Field → ℕ
order F = 2 ^ F.width - 1

abbrev pub GF16 : Field
GF16 = record { width = 16; polynomial = 0x1100B }

abbrev pub GF8 : Field
GF8 = record { width = 8; polynomial = 0x11D }
