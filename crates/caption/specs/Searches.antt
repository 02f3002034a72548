-- What a search answers and leaves in the list, for every input: the field is a code, the pattern is plain.
use Rattle.std.specs.Prelude.{◌≡◌, not, ◌&&◌, List, [], ◌∷◌, ℕ, ◌+◌, ◌≤◌, ◌<◌, eqb, length}
use Rattle.units.specs.Refusals.{Verdict, Test, first, gives}
use Rattle.units.specs.Filling.{room}
use Rattle.units.specs.Naming.{named}
use Rattle.units.specs.Writing.{written}
use Rattle.units.specs.Naming.{Listed}
use Rattle.field.specs.Field.{GF16}
use Rattle.signature.specs.Objects.{symbol, symbols}
use Rattle.signature.specs.Kinds.{wide}
use Rattle.signature.specs.Operations.{whole}
use Rattle.caption.specs.Codes.{hit, places}
use Rattle.caption.specs.Recoding.{too_long}
use Rattle.std.specs.Prelude.{Ok, Err}
use Rattle.units.specs.declared.Refusal.{Refusal}

-- the places of a pattern in a field, and those where it hits, upward
abbrev pub places_for : List ℕ → List ℕ → ℕ
places_for caption pattern = places (symbols 2 caption) (symbols 2 pattern)

unfoldable pub found : ℕ → List ℕ → List ℕ → List ℕ
found e caption pattern = named (hit GF16 e (symbol 2 caption) (symbols 2 pattern) (symbol 2 pattern)) (places_for caption pattern)

pub record Searched : Type 0 where
  pub answer : Listed
  pub list : List ℕ

abbrev pub searched_of : Listed → List ℕ → Searched
searched_of answer list = record { answer = answer; list = list }

-- the places stand at the list's start, and the rest of it is as it was
abbrev pub search_unless : Verdict → List ℕ → List ℕ → Searched
search_unless (Ok _) places list = searched_of (Ok (length places)) (written list 0 places)
search_unless (Err r) places list = searched_of (Err r) list

abbrev pub search_tests : List ℕ → List ℕ → List ℕ → List Test
search_tests caption pattern list =
    gives Refusal.Long (too_long caption)
    ∷ gives Refusal.Odd (not (whole wide caption && whole wide pattern))
    ∷ room (places_for caption pattern) list
    ∷ gives Refusal.Empty (eqb (symbols 2 pattern) 0)
    ∷ []

abbrev pub searching : ℕ → List ℕ → List ℕ → List ℕ → Searched
searching e caption pattern list = search_unless (first (search_tests caption pattern list)) (found e caption pattern) list

-- the pattern's symbols stand in the plain field from place i on
pub record Occurs (caption pattern : List ℕ) (i : ℕ) : Type 0 where
  pub some : 1 ≤ symbols 2 pattern
  pub inside : i + symbols 2 pattern ≤ symbols 2 caption
  pub same : (k : ℕ) → k < symbols 2 pattern → symbol 2 caption (i + k) ≡ symbol 2 pattern k
