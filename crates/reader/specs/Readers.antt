-- A reader holds the bytes of a map and its place, and a call takes off one field.
use Rattle.std.specs.Prelude.{List, ℕ, zero, suc}
use Rattle.std.specs.Borrow.{Bor}
use Rattle.reader.specs.Fields.{Field, field_at, behind, Taken, taken_at}
use Rattle.reader.specs.declared.Reader.{Reader}

-- a reader of these bytes, at a place
abbrev pub reader_at : Bor (List ℕ) → ℕ → Reader
reader_at bytes place = record { bytes = bytes; place = place }

-- what a call answers, and the reader when it returns
pub record Advanced : Type 0 where
  pub field : Field
  pub reader : Reader

abbrev pub advanced_of : Field → Reader → Advanced
advanced_of field reader = record { field = field; reader = reader }

-- the field at its place is taken off, and the reader of the same bytes is behind it
abbrev pub advancing : ℕ → Reader → Advanced
advancing n r =
    let taken : Taken = taken_at n r.bytes.now r.place in
    advanced_of taken.field (reader_at r.bytes taken.place)

-- the place that a reader comes to when it has taken off m fields
unfoldable pub comes_to : ℕ → List ℕ → ℕ → ℕ → ℕ
comes_to n bytes zero at = at
comes_to n bytes (suc m) at = comes_to n bytes m (behind at (field_at n bytes at))
