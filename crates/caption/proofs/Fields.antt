-- A field and its code as bytes, for every start exponent: the code's symbols are those of the definition, and decoding and encoding undo each other.
-- Assumes nothing.
use mathlib.Core.Path.{◌≡◌, refl, sym, ap, ap₂, ◌∙◌}
use mathlib.Core.List.{List}
use Prim.Native.Nat.{ℕ, zero, suc, ◌%◌, ◌≤◌, ◌<◌}
use native.Mathlib.Omega.{arith}
use lib.ListN.{length}
use Rattle.field.specs.Field.{GF16, ◌⊕◌, product}
use Rattle.field.proofs.Instances.{GF16_passes}
use Rattle.signature.specs.Objects.{Octets, symbol, symbols}
use Rattle.signature.proofs.Components.{Elements}
use Rattle.signature.proofs.Octets.{GF16_symbol}
use Rattle.signature.proofs.Parts.{whole_length}
use Rattle.signature.proofs.Totals.{total_same}
use Rattle.caption.specs.Codes.{previous, weight, unweight, coded, plain}
use Rattle.caption.specs.Recoding.{bytes, encoded, decoded}
use Rattle.caption.proofs.Codes.{coded_element, plain_element, plain_coded, coded_plain}
use Rattle.caption.proofs.Rows.{row_length, row_octets, row_symbols, row_symbol, row_same, row_own}

-- what agrees in the first m symbols has the same code and the same plain symbols there

pub previous_below : (m : ℕ) (c d : ℕ → ℕ) → ((i : ℕ) → i < m → c i ≡ d i) → (i : ℕ) → i ≤ m → previous c i ≡ previous d i
previous_below m c d same zero inside = refl
previous_below m c d same (suc i) inside = same i (omega arith)

module _ (e m : ℕ) (p q : ℕ → ℕ) (same : (i : ℕ) → i < m → p i ≡ q i) where
  pub coded_below : (i : ℕ) → i < m → coded GF16 e p i ≡ coded GF16 e q i
  unfolding coded
  coded_below i inside = total_same (suc i) _ _ (λ k below. ap (λ (x : ℕ). product GF16 x (weight GF16 e k)) (same k (omega arith)))

  pub plain_below : (i : ℕ) → i < m → plain GF16 e p i ≡ plain GF16 e q i
  unfolding plain
  plain_below i inside =
      ap₂ (λ (x y : ℕ). product GF16 (x ⊕ y) (unweight GF16 e i)) (same i inside) (previous_below m p q same i (omega arith))

module _ (e : ℕ) (caption : List ℕ) where
  pub encoded_symbols : symbols 2 (encoded e caption) ≡ symbols 2 caption
  unfolding encoded
  encoded_symbols = row_symbols (coded GF16 e (symbol 2 caption)) (symbols 2 caption)

  pub decoded_symbols : symbols 2 (decoded e caption) ≡ symbols 2 caption
  unfolding decoded
  decoded_symbols = row_symbols (plain GF16 e (symbol 2 caption)) (symbols 2 caption)

  pub encoded_octets : Octets (encoded e caption)
  unfolding encoded
  encoded_octets = row_octets (coded GF16 e (symbol 2 caption)) (symbols 2 caption)

  pub decoded_octets : Octets (decoded e caption)
  unfolding decoded
  decoded_octets = row_octets (plain GF16 e (symbol 2 caption)) (symbols 2 caption)

  -- whole symbols come out as many bytes as went in
  module _ (even : length caption % 2 ≡ 0) where
    pub encoded_length : length (encoded e caption) ≡ length caption
    unfolding encoded
    encoded_length = row_length (coded GF16 e (symbol 2 caption)) (symbols 2 caption) ∙ sym (whole_length 2 (omega arith) caption even)

    pub decoded_length : length (decoded e caption) ≡ length caption
    unfolding decoded
    decoded_length = row_length (plain GF16 e (symbol 2 caption)) (symbols 2 caption) ∙ sym (whole_length 2 (omega arith) caption even)

  module _ (octets : Octets caption) where
    elements : Elements GF16 (symbol 2 caption)
    elements = GF16_symbol caption octets

    pub encoded_symbol : (i : ℕ) → i < symbols 2 caption → symbol 2 (encoded e caption) i ≡ coded GF16 e (symbol 2 caption) i
    unfolding encoded
    encoded_symbol i inside =
        row_symbol (coded GF16 e (symbol 2 caption)) (symbols 2 caption) i inside (coded_element GF16 e GF16_passes (symbol 2 caption) elements i)

    pub decoded_symbol : (i : ℕ) → i < symbols 2 caption → symbol 2 (decoded e caption) i ≡ plain GF16 e (symbol 2 caption) i
    unfolding decoded
    decoded_symbol i inside =
        row_symbol (plain GF16 e (symbol 2 caption)) (symbols 2 caption) i inside (plain_element GF16 e GF16_passes (symbol 2 caption) elements i)

    module _ (even : length caption % 2 ≡ 0) where
      -- a row made from another field's symbols is the caption if it has as many, and each is the caption's
      back : (f : (ℕ → ℕ) → ℕ → ℕ) (other : List ℕ) → symbols 2 other ≡ symbols 2 caption
          → ((i : ℕ) → i < symbols 2 caption → f (symbol 2 other) i ≡ symbol 2 caption i) → bytes (symbols 2 other) (f (symbol 2 other)) ≡ caption
      back f other same each =
          ap (λ (k : ℕ). bytes k (f (symbol 2 other))) same ∙ row_same (f (symbol 2 other)) (symbol 2 caption) (symbols 2 caption) each ∙ row_own caption octets even

      pub decoded_encoded : decoded e (encoded e caption) ≡ caption
      unfolding decoded
      decoded_encoded =
          back (plain GF16 e) (encoded e caption) encoded_symbols
          (λ i inside. plain_below e (symbols 2 caption) _ _ encoded_symbol i inside ∙ plain_coded GF16 e GF16_passes (symbol 2 caption) elements i)

      pub encoded_decoded : encoded e (decoded e caption) ≡ caption
      unfolding encoded
      encoded_decoded =
          back (coded GF16 e) (decoded e caption) decoded_symbols
          (λ i inside. coded_below e (symbols 2 caption) _ _ decoded_symbol i inside ∙ coded_plain GF16 e GF16_passes (symbol 2 caption) elements i)
