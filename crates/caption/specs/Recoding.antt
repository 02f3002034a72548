-- What encode and decode answer and leave in the output, for every input.
use Rattle.std.specs.Prelude.{Bool, not, List, [], ◌∷◌, ℕ, length}
use Rattle.units.specs.Sizes.{caption_allowed}
use Rattle.units.specs.Refusals.{Test, gives}
use Rattle.units.specs.Runs.{end_to_end}
use Rattle.units.specs.Filling.{Outcome, filling, room}
use Rattle.field.specs.Field.{GF16}
use Rattle.signature.specs.Objects.{low_bytes, symbol, symbols}
use Rattle.signature.specs.Kinds.{wide}
use Rattle.signature.specs.Operations.{whole}
use Rattle.caption.specs.Codes.{coded, plain}
use Rattle.units.specs.declared.Refusal.{Refusal}

-- m symbols s 0, s 1, .. as bytes
abbrev pub bytes : ℕ → (ℕ → ℕ) → List ℕ
bytes m s = end_to_end (λ i. low_bytes 2 (s i)) 0 m

unfoldable pub encoded : ℕ → List ℕ → List ℕ
encoded e caption = bytes (symbols 2 caption) (coded GF16 e (symbol 2 caption))

unfoldable pub decoded : ℕ → List ℕ → List ℕ
decoded e caption = bytes (symbols 2 caption) (plain GF16 e (symbol 2 caption))

abbrev pub too_long : List ℕ → Bool
too_long caption = not (caption_allowed (symbols 2 caption))

abbrev pub recode_tests : List ℕ → List ℕ → List Test
recode_tests caption output = gives Refusal.Long (too_long caption) ∷ gives Refusal.Odd (not (whole wide caption)) ∷ room (length caption) output ∷ []

-- the field in its new form, which has as many bytes
abbrev pub recoding : List ℕ → List ℕ → List ℕ → Outcome
recoding new caption output = filling (recode_tests caption output) (length caption) new output

abbrev pub encoding : ℕ → List ℕ → List ℕ → Outcome
encoding e caption output = recoding (encoded e caption) caption output

abbrev pub decoding : ℕ → List ℕ → List ℕ → Outcome
decoding e caption output = recoding (decoded e caption) caption output
