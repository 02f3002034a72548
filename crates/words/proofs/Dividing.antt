-- A row that stands for an object from some place on, for every relation by which it may be divided: the words of a whole object, one word more, and where all
-- are taken in.
-- Assumes nothing.
use mathlib.Core.Path.{◌≡◌, sym, ap, ap₂, ◌∙◌}
use mathlib.Core.Logic.{dite}
use mathlib.Core.List.{List, [], ◌∷◌, ◌++◌}
use Prim.Native.Nat.{ℕ, suc, ◌+◌, ◌*◌, ◌≤◌, ◌<◌}
use native.Mathlib.Decide.{dec_le}
use native.Mathlib.Omega.{arith}
use lib.ListN.{length, get_or, drop, length-drop}
use Rattle.std.specs.Int.{w64, from_le_bytes}
use Rattle.field.specs.Field.{GF16, ◌⊕◌, product, power, α}
use Rattle.field.proofs.Sums.{sum_zero}
use Rattle.field.proofs.Reducing.{zero_product}
use Rattle.components.specs.Objects.{Octets, low_first, symbol, symbols}
use Rattle.components.specs.Components.{total, component, signature}
use Rattle.components.specs.Relations.{Relation, Holds}
use Rattle.components.specs.Words.{of_word, of_words}
use Rattle.components.proofs.Division.{last_word, next_word}
use Rattle.words.proofs.Reading.{Chunks, one_less, chunk_last}

-- a row that has the components of an object from a place on, those for which the relation holds
pub record Divided (R : Relation) (object words : List ℕ) (at : ℕ) : Type 0 where
  pub stands : (j : ℕ) → Holds R j → of_words j words ≡ signature GF16 2 (drop at object) j

none_left : (object : List ℕ) (j at : ℕ) → length object ≤ at → signature GF16 2 (drop at object) j ≡ 0
unfolding component total
none_left object j at past = ap (λ (n : ℕ). component GF16 n (symbol 2 (drop at object)) j) none
  where
    none : symbols 2 (drop at object) ≡ 0
    none = omega (arith, past, length-drop at object)

module _ (object : List ℕ) (octets : Octets object) where
  -- the words from some place on, up to the last or past it
  pub words_stand : (words : List ℕ) (at j : ℕ) → length object ≤ at + 8 * length words → ((k : ℕ) → k < length words → get_or words k 0 ≡ low_first 8 object (at + k * 8))
      → of_words j words ≡ signature GF16 2 (drop at object) j
  unfolding of_words
  words_stand [] at j short read = sym (none_left object j at (omega (arith, short)))
  words_stand (word ∷ words) at j short read =
      ap₂ (λ (x y : ℕ). of_word j x ⊕ product GF16 y (power GF16 α (j * 4))) (read 0 (omega arith) ∙ ap (low_first 8 object) (omega arith))
      (words_stand words (at + 8) j (omega (arith, short)) (λ k h. read (suc k) (omega (arith, h)) ∙ ap (low_first 8 object) (omega arith)))
      ∙ dite (dec_le (at + 8) (length object))
      (λ (inside : at + 8 ≤ length object). next_word object octets j at inside)
      (λ past.
      ap (λ (y : ℕ). of_word j (low_first 8 object at) ⊕ product GF16 y (power GF16 α (j * 4))) (none_left object j (at + 8) (omega arith))
      ∙ ap (λ (x : ℕ). of_word j (low_first 8 object at) ⊕ x) (zero_product GF16 (power GF16 α (j * 4)))
      ∙ sum_zero _
      ∙ last_word object octets j at (omega arith))

pub divided_start : (R : Relation) (object : List ℕ) {last words : List ℕ} {at n : ℕ} → last ≡ drop at object → at ≡ n → ((j : ℕ) → of_words j words ≡ signature GF16 2 last j) → Divided R object words n
divided_start R object cut e stands = record { stands = λ j holds. stands j ∙ ap (λ (bytes : List ℕ). signature GF16 2 bytes j) cut ∙ ap (λ (k : ℕ). signature GF16 2 (drop k object) j) e }

module _ (R : Relation) (object : List ℕ) (octets : Octets object) where
  -- a word below a row that has room for it
  pub divided_below : (at : ℕ) {from word : ℕ} {words : List ℕ} → from ≡ at + 8 → at + 8 ≤ length object → word ≡ low_first 8 object at → Divided R object words from
      → Divided R object (word ∷ words) at
  unfolding of_words
  divided_below at further inside here above =
      record {
        stands = λ j holds.
            ap₂ (λ (x y : ℕ). x ⊕ product GF16 y (power GF16 α (j * 4))) (ap (of_word j) here) (above.stands j holds ∙ ap (λ (k : ℕ). signature GF16 2 (drop k object) j) further)
            ∙ next_word object octets j at inside;
      }

  -- and where the word that it then has too many is replaced
  pub divided_next : (at : ℕ) {from word : ℕ} {words after : List ℕ} → from ≡ at + 8 → at + 8 ≤ length object → word ≡ low_first 8 object at
      → ((j : ℕ) → Holds R j → of_words j after ≡ of_words j (word ∷ words)) → Divided R object words from → Divided R object after at
  divided_next at further inside here turned above = record { stands = λ j holds. turned j holds ∙ (divided_below at further inside here above).stands j holds }

  -- the last of the chunks that are left is taken in
  pub divided_chunk : {chunks : List (List ℕ)} (rest : List (List ℕ)) (last : List ℕ) {word : ℕ} {words after : List ℕ} → chunks ≡ rest ++ (last ∷ []) → Chunks object chunks → word ≡ from_le_bytes w64 last
      → ((j : ℕ) → Holds R j → of_words j after ≡ of_words j (word ∷ words)) → Divided R object words (length chunks * 8) → Divided R object after (length rest * 8)
  divided_chunk {chunks} rest last e below here = divided_next (length rest * 8) further (omega (arith, further, below.inside)) (here ∙ chunk_last object rest last e below)
    where
      further : length chunks * 8 ≡ length rest * 8 + 8
      further = omega (arith, one_less object rest last e below)
