-- A field as pairs of bytes, one for each symbol.
use Rattle.std.specs.Prelude.{List, [], ℕ, get_or, length}
use Rattle.std.specs.Int.{w16, from_le_bytes}
use Rattle.units.specs.Naming.{named}
use Rattle.field.specs.Field.{GF16}
use Rattle.signature.specs.Objects.{symbol, symbols}
use Rattle.caption.specs.Codes.{hit, places}

-- symbol i: its pair, low byte first
abbrev pub symbol_in : List (List ℕ) → ℕ → ℕ
symbol_in pairs i = from_le_bytes w16 (get_or pairs i [])

-- the places where a pattern hits, upward
unfoldable pub found_in : List (List ℕ) → List ℕ → List ℕ
found_in pairs pattern = named (hit GF16 0 (symbol_in pairs) (symbols 2 pattern) (symbol 2 pattern)) (places (length pairs) (symbols 2 pattern))
