-- The first two and the first four components of an object, and sums on the way to a component.
use Rattle.std.specs.Prelude.{◌≡◌, ℕ, ◌^◌, ◌<◌, List}
use Rattle.field.specs.Field.{GF16, reduced}
use Rattle.components.specs.Components.{signature}
use Rattle.words.specs.declared.Two.{Two}
use Rattle.words.specs.declared.Four.{Four}

abbrev pub two : List ℕ → Two
two object = record { s1 = signature GF16 2 object 1; s2 = signature GF16 2 object 2 }

abbrev pub four : List ℕ → Four
four object =
    record { s1 = signature GF16 2 object 1; s2 = signature GF16 2 object 2; s3 = signature GF16 2 object 3; s4 = signature GF16 2 object 4 }

-- s, of so many digits, comes to x when it is reduced
pub record Stands (x digits s : ℕ) : Type 0 where
  pub comes : reduced GF16 48 s ≡ x
  pub below : s < 2 ^ digits
