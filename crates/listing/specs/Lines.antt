-- The listing of a map as bytes of ASCII: a header line and a line for each page, or one line that says where the map is refused.
use Rattle.std.specs.Prelude.{List, [], ◌∷◌, ◌++◌, ℕ, length, Ok, Err}
use Rattle.units.specs.Filling.{Outcome, filling, room}
use Rattle.units.specs.Runs.{end_to_end}
use Rattle.signature.specs.Signatures.{handed}
use Rattle.map.specs.Files.{pages}
use Rattle.map.specs.Reading.{reading, entry_at}
use Rattle.map.specs.declared.Header.{Header}
use Rattle.map.specs.Reading.{Reading}
use Rattle.listing.specs.Digits.{decimal, hex}

-- "n "
abbrev pub n_word : List ℕ
n_word = 110 ∷ 32 ∷ []

-- " page "
abbrev pub page_word : List ℕ
page_word = 32 ∷ 112 ∷ 97 ∷ 103 ∷ 101 ∷ 32 ∷ []

-- " bucket "
abbrev pub bucket_word : List ℕ
bucket_word = 32 ∷ 98 ∷ 117 ∷ 99 ∷ 107 ∷ 101 ∷ 116 ∷ 32 ∷ []

-- " pages "
abbrev pub pages_word : List ℕ
pages_word = 32 ∷ 112 ∷ 97 ∷ 103 ∷ 101 ∷ 115 ∷ 32 ∷ []

-- "map refused at "
abbrev pub refused_word : List ℕ
refused_word = 109 ∷ 97 ∷ 112 ∷ 32 ∷ 114 ∷ 101 ∷ 102 ∷ 117 ∷ 115 ∷ 101 ∷ 100 ∷ 32 ∷ 97 ∷ 116 ∷ 32 ∷ []

abbrev pub line_end : List ℕ
line_end = 10 ∷ []

-- a word, and a number after it
abbrev pub named : List ℕ → ℕ → List ℕ
named word x = word ++ decimal x

-- and another word with its number
abbrev pub two_named : List ℕ → ℕ → List ℕ → ℕ → List ℕ
two_named one x two y = named one x ++ named two y

unfoldable pub header_line : Header → List ℕ
header_line h = two_named n_word h.n page_word h.page.count ++ two_named bucket_word h.bucket.count pages_word (pages h) ++ line_end

-- n components, each after a space
unfoldable pub columns : ℕ → (ℕ → ℕ) → List ℕ
columns n s = end_to_end (λ j. 32 ∷ hex (s j)) 1 n

unfoldable pub page_line : ℕ → ℕ → (ℕ → ℕ) → List ℕ
page_line n k s = decimal k ++ columns n s ++ line_end

unfoldable pub refused_line : ℕ → List ℕ
refused_line place = named refused_word place ++ line_end

-- the line of page k of a map of n components
abbrev pub line_of : ℕ → List ℕ → ℕ → List ℕ
line_of n bytes k = page_line n k (handed (entry_at n bytes k).signature)

abbrev pub listed : List ℕ → Reading → List ℕ
listed bytes (Ok h) = header_line h ++ end_to_end (line_of h.n bytes) 0 (pages h)
listed bytes (Err b) = refused_line b.place

unfoldable pub listing : List ℕ → List ℕ
listing bytes = listed bytes (reading bytes)

-- a text, put at the start of an output that has room for it
unfoldable pub text_out : List ℕ → List ℕ → Outcome
text_out text output = filling (room (length text) output ∷ []) (length text) text output
