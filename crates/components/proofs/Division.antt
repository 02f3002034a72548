-- A row of words divided by a relation: the word that it has too many is replaced, and the components for which the relation holds stay. The two relations
-- in use, and an object as the row of its words.
-- Assumes nothing.
use mathlib.Core.Path.{◌≡◌, refl, sym, ap, ap₂, ◌∙◌}
use mathlib.Core.List.{List, [], ◌∷◌}
use Prim.Native.Nat.{ℕ, zero, suc, ◌+◌, ◌-◌, ◌*◌, ◌/◌, ◌%◌, ◌^◌, ◌≤◌, ◌<◌}
use native.Mathlib.Nat.{suc-mul, add-suc, add-zero, div-one}
use native.Mathlib.Omega.{arith}
use lib.ListN.{length, get_or, take, drop, length-take, length-drop}
use lib.Seq.{get_or-take, get_or-drop, drop-drop}
use lib.Pow.{shr-shr, high, low}
use Rattle.field.specs.Field.{GF16, ◌⊕◌, product, power, α}
use Rattle.field.proofs.Sums.{sum_zero}
use Rattle.field.proofs.Instances.{GF16_formed}
use Rattle.components.specs.Objects.{Octets, low_first, symbol, symbols}
use Rattle.components.specs.Components.{component, signature}
use Rattle.components.specs.Relations.{summed, Holds, own, third}
use Rattle.components.specs.Words.{within, of_word, of_words}
use Rattle.components.proofs.Components.{component_same}
use Rattle.components.proofs.Octets.{low_first_lt, drop_octets}
use Rattle.components.proofs.Folds.{component_more}
use Rattle.components.proofs.Pairs.{symbol_same}
use Rattle.components.proofs.Windows.{symbol_past, signature_parts}
use Rattle.components.proofs.Words.{◌⊞◌, lifted, words_sum, lifted_words, word_at, word_between, replaced}

-- a row and what is added to it
plus : (j : ℕ) (row part : List ℕ) {x y : ℕ} → of_words j row ≡ x → of_words j part ≡ y → of_words j (row ⊞ part) ≡ x ⊕ y
plus j row part e f = words_sum j row part ∙ ap₂ ◌⊕◌ e f

-- ---- by x^16 = 1 + x + x^3 + x^12: the word t stands at 16

own_row : (w a b c t : ℕ)
    → (w ∷ a ∷ b ∷ c ∷ []) ⊞ (t ∷ []) ⊞ (t * 2 ^ 16 % 2 ^ 64 ∷ t / 2 ^ 48 ∷ []) ⊞ (t * 2 ^ 48 % 2 ^ 64 ∷ t / 2 ^ 16 ∷ []) ⊞ lifted 3 (t ∷ [])
    ≡ (w ⊕ t ⊕ t * 2 ^ 16 % 2 ^ 64 ⊕ t * 2 ^ 48 % 2 ^ 64) ∷ (a ⊕ t / 2 ^ 48 ⊕ t / 2 ^ 16) ∷ b ∷ (c ⊕ t) ∷ []
unfolding ◌⊞◌ lifted
own_row w a b c t = simp sum_zero

own_top : (w a b c t : ℕ) → (w ∷ a ∷ b ∷ c ∷ []) ⊞ lifted 4 (t ∷ []) ≡ w ∷ a ∷ b ∷ c ∷ t ∷ []
unfolding ◌⊞◌ lifted
own_top w a b c t = simp sum_zero

pub divided_own : (j w a b c t : ℕ) → t < 2 ^ 64 → Holds own j
    → of_words j ((w ⊕ t ⊕ t * 2 ^ 16 % 2 ^ 64 ⊕ t * 2 ^ 48 % 2 ^ 64) ∷ (a ⊕ t / 2 ^ 48 ⊕ t / 2 ^ 16) ∷ b ∷ (c ⊕ t) ∷ []) ≡ of_words j (w ∷ a ∷ b ∷ c ∷ t ∷ [])
unfolding summed lifted
divided_own j w a b c t fits holds =
    ap (of_words j) (sym (own_row w a b c t))
    ∙ plus j _ _ (plus j _ _ (plus j _ _ (plus j row _ refl (word_at j t 0)) (word_between j t 0 1 3 refl fits)) (word_between j t 0 3 1 refl fits)) (word_at j t 3)
    ∙ replaced own j (of_words j row) (of_word j t) holds
    ∙ sym (ap (of_words j) (sym (own_top w a b c t)) ∙ plus j row _ refl (word_at j t 4))
  where
    row : List ℕ
    row = w ∷ a ∷ b ∷ c ∷ []

-- ---- by x^40 = 1 + x^7 + x^28 + x^32 + x^36: the word t stands at 40

third_row : (w a b c d e f g h i t : ℕ)
    → (w ∷ a ∷ b ∷ c ∷ d ∷ e ∷ f ∷ g ∷ h ∷ i ∷ []) ⊞ (t ∷ []) ⊞ lifted 1 (t * 2 ^ 48 % 2 ^ 64 ∷ t / 2 ^ 16 ∷ []) ⊞ lifted 7 (t ∷ []) ⊞ lifted 8 (t ∷ []) ⊞ lifted 9 (t ∷ [])
    ≡ (w ⊕ t) ∷ (a ⊕ t * 2 ^ 48 % 2 ^ 64) ∷ (b ⊕ t / 2 ^ 16) ∷ c ∷ d ∷ e ∷ f ∷ (g ⊕ t) ∷ (h ⊕ t) ∷ (i ⊕ t) ∷ []
unfolding ◌⊞◌ lifted
third_row w a b c d e f g h i t = simp sum_zero

third_top : (w a b c d e f g h i t : ℕ)
    → (w ∷ a ∷ b ∷ c ∷ d ∷ e ∷ f ∷ g ∷ h ∷ i ∷ []) ⊞ lifted 10 (t ∷ []) ≡ w ∷ a ∷ b ∷ c ∷ d ∷ e ∷ f ∷ g ∷ h ∷ i ∷ t ∷ []
unfolding ◌⊞◌ lifted
third_top w a b c d e f g h i t = simp sum_zero

pub divided_third : (j w a b c d e f g h i t : ℕ) → t < 2 ^ 64 → Holds third j
    → of_words j ((w ⊕ t) ∷ (a ⊕ t * 2 ^ 48 % 2 ^ 64) ∷ (b ⊕ t / 2 ^ 16) ∷ c ∷ d ∷ e ∷ f ∷ (g ⊕ t) ∷ (h ⊕ t) ∷ (i ⊕ t) ∷ [])
    ≡ of_words j (w ∷ a ∷ b ∷ c ∷ d ∷ e ∷ f ∷ g ∷ h ∷ i ∷ t ∷ [])
unfolding summed lifted
divided_third j w a b c d e f g h i t fits holds =
    ap (of_words j) (sym (third_row w a b c d e f g h i t))
    ∙ plus j _ _ (plus j _ _ (plus j _ _ (plus j _ _ (plus j row _ refl (word_at j t 0)) (word_between j t 1 3 1 refl fits)) (word_at j t 7)) (word_at j t 8)) (word_at j t 9)
    ∙ replaced third j (of_words j row) (of_word j t) holds
    ∙ sym (ap (of_words j) (sym (third_top w a b c d e f g h i t)) ∙ plus j row _ refl (word_at j t 10))
  where
    row : List ℕ
    row = w ∷ a ∷ b ∷ c ∷ d ∷ e ∷ f ∷ g ∷ h ∷ i ∷ []

-- ---- four words below others

four_below : (a b c d : ℕ) (words : List ℕ) → (a ∷ b ∷ c ∷ d ∷ []) ⊞ lifted 4 words ≡ a ∷ b ∷ c ∷ d ∷ words
unfolding ◌⊞◌ lifted
four_below a b c d words = simp sum_zero

pub rows_joined : (j a b c d : ℕ) (words : List ℕ)
    → of_words j (a ∷ b ∷ c ∷ d ∷ words) ≡ of_words j (a ∷ b ∷ c ∷ d ∷ []) ⊕ product GF16 (of_words j words) (power GF16 α (j * 16))
rows_joined j a b c d words = ap (of_words j) (sym (four_below a b c d words)) ∙ plus j (a ∷ b ∷ c ∷ d ∷ []) _ refl (lifted_words j 4 words)

-- ---- an object's words

-- two bytes, and those above them
low_pair : (n at : ℕ) (bytes : List ℕ) → low_first (suc (suc n)) bytes at ≡ low_first n bytes (suc (suc at)) * 2 ^ 16 + low_first 2 bytes at
unfolding low_first
low_pair n at bytes = omega arith

within_low : (x : ℕ) {y : ℕ} → y < 2 ^ 16 → within (x * 2 ^ 16 + y) 0 ≡ y
unfolding within
within_low x {y} h = ap (λ (n : ℕ). n % 2 ^ 16) (div-one (x * 2 ^ 16 + y)) ∙ low x 16 h

within_high : (x l : ℕ) {y : ℕ} → y < 2 ^ 16 → within (x * 2 ^ 16 + y) (suc l) ≡ within x l
unfolding within
within_high x l {y} h =
    ap (λ (k : ℕ). (x * 2 ^ 16 + y) / 2 ^ k % 2 ^ 16) (more l)
    ∙ ap (λ (n : ℕ). n % 2 ^ 16) (sym (shr-shr (x * 2 ^ 16 + y) 16 (16 * l)) ∙ ap (λ (n : ℕ). n / 2 ^ (16 * l)) (high x 16 h))
  where
    more : (l : ℕ) → 16 * suc l ≡ 16 + 16 * l
    more l = omega arith

module _ (bytes : List ℕ) (octets : Octets bytes) where
  within_bytes : (n at l : ℕ) → l < n → within (low_first (n * 2) bytes at) l ≡ low_first 2 bytes (at + l * 2)
  within_bytes zero at l h = absurd (omega (arith, h))
  within_bytes (suc n) at zero h =
      ap (λ (k : ℕ). within (low_first k bytes at) 0) (suc-mul n 2 ∙ more (n * 2))
      ∙ ap (λ (x : ℕ). within x 0) (low_pair (n * 2) at bytes)
      ∙ within_low (low_first (n * 2) bytes (suc (suc at))) (low_first_lt 2 bytes at octets)
      ∙ ap (low_first 2 bytes) (sym (add-zero at))
    where
      more : (k : ℕ) → k + 2 ≡ suc (suc k)
      more k = omega arith
  within_bytes (suc n) at (suc l) h =
      ap (λ (k : ℕ). within (low_first k bytes at) (suc l)) (suc-mul n 2 ∙ more (n * 2))
      ∙ ap (λ (x : ℕ). within x (suc l)) (low_pair (n * 2) at bytes)
      ∙ within_high (low_first (n * 2) bytes (suc (suc at))) l (low_first_lt 2 bytes at octets)
      ∙ within_bytes n (suc (suc at)) l (omega (arith, h))
      ∙ ap (low_first 2 bytes) (further at l)
    where
      more : (k : ℕ) → k + 2 ≡ suc (suc k)
      more k = omega arith

      further : (at l : ℕ) → suc (suc at) + l * 2 ≡ at + suc l * 2
      further at l = omega arith

  word_symbols : (at l : ℕ) → l < 4 → within (low_first 8 bytes at) l ≡ symbol 2 (drop at bytes) l
  unfolding symbol low_first
  word_symbols at l h =
      within_bytes 4 at l h
      ∙ ap₂ (λ (x y : ℕ). x + 256 * (y + 256 * 0)) (sym (get_or-drop at bytes (l * 2) 0)) (ap (λ (k : ℕ). get_or bytes k 0) (sym (add-suc at (l * 2))) ∙ sym (get_or-drop at bytes (suc (l * 2)) 0))

  -- the last word, which may be cut off
  pub last_word : (j at : ℕ) → length bytes ≤ at + 8 → of_word j (low_first 8 bytes at) ≡ signature GF16 2 (drop at bytes) j
  unfolding of_word
  last_word j at short =
      component_same GF16 4 _ (symbol 2 (drop at bytes)) j (word_symbols at)
      ∙ ap (λ (k : ℕ). component GF16 k (symbol 2 (drop at bytes)) j) count
      ∙ component_more GF16 GF16_formed (symbols 2 (drop at bytes)) (4 - symbols 2 (drop at bytes)) (symbol 2 (drop at bytes)) j (λ i h. symbol_past (drop at bytes) i (omega (arith, h)))
    where
      count : 4 ≡ symbols 2 (drop at bytes) + (4 - symbols 2 (drop at bytes))
      count = omega (arith, short, length-drop at bytes)

  -- a word below the others
  pub next_word : (j at : ℕ) → at + 8 ≤ length bytes
      → of_word j (low_first 8 bytes at) ⊕ product GF16 (signature GF16 2 (drop (at + 8) bytes) j) (power GF16 α (j * 4)) ≡ signature GF16 2 (drop at bytes) j
  unfolding of_word
  next_word j at long =
      ap₂ (λ (x : ℕ) (rest : List ℕ). x ⊕ product GF16 (signature GF16 2 rest j) (power GF16 α (j * 4)))
      (component_same GF16 4 _ (symbol 2 (take 8 (drop at bytes))) j (λ l h. word_symbols at l h ∙ symbol_same (drop at bytes) (take 8 (drop at bytes)) l l (sym (get_or-take 8 (drop at bytes) (l * 2) 0 (omega (arith, h)))) (sym (get_or-take 8 (drop at bytes) (suc (l * 2)) 0 (omega (arith, h)))))
      ∙ ap (λ (k : ℕ). component GF16 k (symbol 2 (take 8 (drop at bytes))) j) count)
      (sym (drop-drop 8 at bytes))
      ∙ sym (signature_parts 4 (drop at bytes) (omega (arith, long, length-drop at bytes)) (drop_octets at bytes octets) j)
    where
      count : 4 ≡ symbols 2 (take 8 (drop at bytes))
      count = omega (arith, long, length-take 8 (drop at bytes), length-drop at bytes)
