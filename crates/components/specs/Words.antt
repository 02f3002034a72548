-- Symbols in words of 64 digits, four to a word and the lowest first: the form in which the last of an object is divided.
use Rattle.std.specs.Prelude.{ℕ, ◌*◌, ◌/◌, ◌%◌, ◌^◌, List, [], ◌∷◌}
use Rattle.field.specs.Field.{GF16, ◌⊕◌, product, power, α}
use Rattle.components.specs.Components.{component}

-- symbol l of a word
unfoldable pub within : ℕ → ℕ → ℕ
within word l = word / 2 ^ (16 * l) % 2 ^ 16

-- component j of a word's symbols
unfoldable pub of_word : ℕ → ℕ → ℕ
of_word j word = component GF16 4 (within word) j

-- component j of the symbols of a row of words, the lowest word first
unfoldable pub of_words : ℕ → List ℕ → ℕ
of_words j [] = 0
of_words j (word ∷ words) = of_word j word ⊕ product GF16 (of_words j words) (power GF16 α (j * 4))
