-- A kind of symbol: the field that it is an element of, how many bytes it has, and how many symbols an object may have.
use Rattle.std.specs.Prelude.{ℕ}
use Rattle.units.specs.Sizes.{object_most}
use Rattle.field.specs.Field.{Field, GF16}

pub record Kind : Type 0 where
  pub field : Field
  pub size : ℕ
  pub most : ℕ

-- two bytes in GF(2^16); as many symbols as there are powers of α, less one
abbrev pub wide : Kind
wide = record { field = GF16; size = 2; most = object_most }
