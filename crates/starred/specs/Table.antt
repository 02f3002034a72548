-- The scope's starred numbers, a row each: what the definitions give, and what the scope says.
use Rattle.std.specs.Prelude.{ℕ, ◌/◌, ◌%◌, List, [], ◌∷◌, take}
use Rattle.units.specs.Naming.{Listed}
use Rattle.signature.specs.Operations.{Answer}
use Rattle.signature.specs.Kinds.{wide}
use Rattle.signature.specs.Operations.{own, signing, joining, editing}
use Rattle.caption.specs.Recoding.{encoded, encoding}
use Rattle.caption.specs.Searches.{Searched, searching}
use Rattle.std.specs.Prelude.{Ok, Err}

pub record Row : Type 0 where
  pub number : ℕ
  pub gives : List ℕ
  pub says : List ℕ

abbrev pub case : ℕ → List ℕ → List ℕ → Row
case number gives says = record { number = number; gives = gives; says = says }

-- symbols as bytes, low byte first
abbrev pub bytes : List ℕ → List ℕ
bytes [] = []
bytes (s ∷ rest) = s % 256 ∷ s / 256 ∷ bytes rest

-- the components that were answered; a refusal has none
abbrev pub components : Answer → List ℕ
components (Ok s) = take s.n (s.s1 ∷ s.s2 ∷ s.s3 ∷ s.s4 ∷ [])
components (Err r) = []

abbrev pub signed : ℕ → List ℕ → List ℕ
signed n symbols = components (signing wide n (bytes symbols))

-- the places that were found; a refusal has none
abbrev pub places_in : Listed → List ℕ → List ℕ
places_in (Ok count) list = take count list
places_in (Err r) list = []

-- those of a plain pattern in a code
abbrev pub searched : List ℕ → List ℕ → List ℕ
searched code pattern = let s : Searched = searching 0 code (bytes pattern) (99 ∷ 99 ∷ []) in places_in s.answer s.list

abbrev pub rows : List Row
rows =
    case 1 (signed 2 []) (0 ∷ 0 ∷ [])
    ∷ case 2 (signed 2 (1 ∷ 2 ∷ [])) (5 ∷ 9 ∷ [])
    ∷ case 3 (signed 2 (0 ∷ 0x8000 ∷ [])) (0x100B ∷ 0x2016 ∷ [])
    ∷ case 4 (components (signing wide 2 (0x41 ∷ []))) (0x41 ∷ 0x41 ∷ [])
    ∷ case 4 (components (signing wide 2 (0x41 ∷ 0x00 ∷ []))) (0x41 ∷ 0x41 ∷ [])
    ∷ case 5 (signed 1 (2 ∷ 0 ∷ [])) (2 ∷ [])
    ∷ case 5 (signed 1 (0 ∷ 1 ∷ [])) (2 ∷ [])
    ∷ case 5 (signed 2 (2 ∷ 0 ∷ [])) (2 ∷ 2 ∷ [])
    ∷ case 5 (signed 2 (0 ∷ 1 ∷ [])) (2 ∷ 4 ∷ [])
    ∷ case 6 (signed 2 (8 ∷ 6 ∷ 1 ∷ [])) (0 ∷ 0 ∷ [])
    ∷ case 6 (signed 2 (0 ∷ 0 ∷ 0 ∷ [])) (0 ∷ 0 ∷ [])
    ∷ case 6 (signed 3 (8 ∷ 6 ∷ 1 ∷ [])) (0 ∷ 0 ∷ 0x78 ∷ [])
    ∷ case 7 (components (joining wide (own wide 2 (bytes (1 ∷ []))) 1 (own wide 2 (bytes (2 ∷ []))) 1)) (5 ∷ 9 ∷ [])
    ∷ case 8 (components (editing wide (own wide 2 (bytes (1 ∷ 2 ∷ []))) 1 (bytes (2 ∷ [])) (bytes (3 ∷ [])))) (7 ∷ 0xD ∷ [])
    ∷ case 9 (encoding 0 (bytes (1 ∷ 2 ∷ 3 ∷ [])) (bytes (0 ∷ 0 ∷ 0 ∷ []))).output (bytes (1 ∷ 5 ∷ 9 ∷ []))
    ∷ case 10 (searched (bytes (1 ∷ 5 ∷ 9 ∷ [])) (2 ∷ 3 ∷ [])) (1 ∷ [])
    ∷ case 11 (searched (encoded 0 (bytes (2 ∷ 0 ∷ []))) (0 ∷ 1 ∷ [])) (0 ∷ [])
    ∷ []
