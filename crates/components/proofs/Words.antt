-- Words of four symbols: their components add up, a word that is shifted is moved up by symbols, and the word that a row has too many is replaced by a
-- relation of α. An object is the row of its words.
-- Assumes nothing.
use mathlib.Core.Path.{◌≡◌, sym, ap, ap₂, ◌∙◌}
use mathlib.Core.List.{List, [], ◌∷◌}
use Prim.Native.Nat.{ℕ, zero, suc, ◌+◌, ◌-◌, ◌*◌, ◌/◌, ◌%◌, ◌^◌, ◌≤◌, ◌<◌}
use native.Mathlib.Nat.{mod-lt, mul-mod_left, mul-add, mul-zero, mul_assoc, add-zero, zero-mod, div-eq_of_lt, lt_of_lt_of_le}
use native.Mathlib.Omega.{arith}
use lib.Bits.{xor_shr, xor_mod}
use lib.Pow.{pow_pos, pow-add, pow_mono, mod-pow-add, shl-shr, shr-shr, field, mod-mod-pow}
use Rattle.field.specs.Field.{GF16, ◌⊕◌, product, power, α}
use Rattle.field.proofs.Sums.{zero_sum, sum_zero, sum_cross, sum_lt, equal_of_sum}
use Rattle.field.proofs.Additive.{Additive, at_zero}
use Rattle.field.proofs.Reducing.{product_sum, sum_product, zero_product}
use Rattle.field.proofs.Products.{product_element, product_assoc, product_one}
use Rattle.field.proofs.Powers.{α_element, α_power, power_add, power_zero}
use Rattle.field.proofs.Instances.{GF16_formed}
use Rattle.components.specs.Components.{component}
use Rattle.components.specs.Relations.{Relation, summed, Holds}
use Rattle.components.specs.Words.{within, of_word, of_words}
use Rattle.components.proofs.Components.{component_same, component_sum, component_nothing, component_parts, component_element}
use Rattle.components.proofs.Folds.{summed_image, summed_apart}

-- ---- sums

within_sum : (a b l : ℕ) → within (a ⊕ b) l ≡ within a l ⊕ within b l
unfolding within ◌⊕◌
within_sum a b l = ap (λ (n : ℕ). n % 2 ^ 16) (xor_shr a b (16 * l)) ∙ xor_mod (a / 2 ^ (16 * l)) (b / 2 ^ (16 * l)) 16

pub within_element : (word l : ℕ) → within word l < 2 ^ 16
unfolding within
within_element word l = mod-lt (word / 2 ^ (16 * l)) (pow_pos 16)

pub word_sum : (j : ℕ) → Additive (of_word j)
unfolding of_word
word_sum j a b = component_same GF16 4 _ (λ l. within a l ⊕ within b l) j (λ l h. within_sum a b l) ∙ component_sum GF16 4 (within a) (within b) j

word_element : (j word : ℕ) → of_word j word < 2 ^ 16
unfolding of_word
word_element j word = component_element GF16 GF16_formed 4 (within word) j (within_element word)

pub words_element : (j : ℕ) (words : List ℕ) → of_words j words < 2 ^ 16
unfolding of_words
words_element j [] = pow_pos 16
words_element j (word ∷ words) = sum_lt 16 (word_element j word) (product_element GF16 GF16_formed (power GF16 α (j * 4)) (words_element j words))

-- rows added word by word
infixl 60 ◌⊞◌
unfoldable pub ◌⊞◌ : List ℕ → List ℕ → List ℕ
[] ⊞ ys = ys
(x ∷ xs) ⊞ [] = x ∷ xs
(x ∷ xs) ⊞ (y ∷ ys) = (x ⊕ y) ∷ (xs ⊞ ys)

pub words_sum : (j : ℕ) (xs ys : List ℕ) → of_words j (xs ⊞ ys) ≡ of_words j xs ⊕ of_words j ys
unfolding of_words ◌⊞◌
words_sum j [] ys = sym (zero_sum (of_words j ys))
words_sum j (x ∷ xs) [] = sym (sum_zero _)
words_sum j (x ∷ xs) (y ∷ ys) =
    ap₂ ◌⊕◌ (word_sum j x y) (ap (λ (z : ℕ). product GF16 z (power GF16 α (j * 4))) (words_sum j xs ys) ∙ sum_product GF16 (power GF16 α (j * 4)) (of_words j xs) (of_words j ys))
    ∙ sum_cross (of_word j x) (of_word j y) _ _

-- ---- a word that is shifted

module _ (s r : ℕ) (four : s + r ≡ 4) (t : ℕ) (fits : t < 2 ^ 64) where
  digits : 64 ≡ 16 * r + 16 * s
  digits = omega (arith, four)

  -- what is left of it, shifted up by s symbols
  kept_up : t * 2 ^ (16 * s) % 2 ^ 64 ≡ t % 2 ^ (16 * r) * 2 ^ (16 * s)
  kept_up =
      ap (λ (n : ℕ). t * 2 ^ (16 * s) % 2 ^ n) digits
      ∙ mod-pow-add (t * 2 ^ (16 * s)) (16 * r) (16 * s)
      ∙ ap₂ (λ (x y : ℕ). x % 2 ^ (16 * r) * 2 ^ (16 * s) + y) (shl-shr t (16 * s)) (mul-mod_left t (2 ^ (16 * s)))
      ∙ add-zero _

  up_low : (l : ℕ) → l < s → within (t * 2 ^ (16 * s) % 2 ^ 64) l ≡ 0
  unfolding within
  up_low l h =
      ap (λ (n : ℕ). n / 2 ^ (16 * l) % 2 ^ 16) (kept_up ∙ split)
      ∙ ap (λ (n : ℕ). n % 2 ^ 16) (shl-shr (y * 2 ^ (16 * d) * 2 ^ 16) (16 * l))
      ∙ mul-mod_left (y * 2 ^ (16 * d)) (2 ^ 16)
    where
      y : ℕ
      y = t % 2 ^ (16 * r)

      d : ℕ
      d = s - suc l

      exponent : 16 * s ≡ 16 * d + 16 + 16 * l
      exponent = omega (arith, h)

      split : t % 2 ^ (16 * r) * 2 ^ (16 * s) ≡ y * 2 ^ (16 * d) * 2 ^ 16 * 2 ^ (16 * l)
      split =
          ap (λ (n : ℕ). y * 2 ^ n) exponent
          ∙ ap (λ (n : ℕ). y * n) (pow-add 2 (16 * d + 16) (16 * l) ∙ ap (λ (n : ℕ). n * 2 ^ (16 * l)) (pow-add 2 (16 * d) 16))
          ∙ sym (mul_assoc y (2 ^ (16 * d) * 2 ^ 16) (2 ^ (16 * l)))
          ∙ ap (λ (n : ℕ). n * 2 ^ (16 * l)) (sym (mul_assoc y (2 ^ (16 * d)) (2 ^ 16)))

  up_high : (i : ℕ) → i < r → within (t * 2 ^ (16 * s) % 2 ^ 64) (s + i) ≡ within t i
  unfolding within
  up_high i h =
      ap₂ (λ (n k : ℕ). n / 2 ^ k % 2 ^ 16) kept_up (mul-add 16 s i)
      ∙ ap (λ (n : ℕ). n % 2 ^ 16) (sym (shr-shr (t % 2 ^ (16 * r) * 2 ^ (16 * s)) (16 * s) (16 * i)) ∙ ap (λ (n : ℕ). n / 2 ^ (16 * i)) (shl-shr (t % 2 ^ (16 * r)) (16 * s)))
      ∙ ap (λ (k : ℕ). t % 2 ^ k / 2 ^ (16 * i) % 2 ^ 16) exponent
      ∙ ap (λ (n : ℕ). n % 2 ^ 16) (field t (16 * d + 16) (16 * i))
      ∙ mod-mod-pow (t / 2 ^ (16 * i)) (16 * d) 16
    where
      d : ℕ
      d = r - suc i

      exponent : 16 * r ≡ 16 * d + 16 + 16 * i
      exponent = omega (arith, h)

  down_low : (i : ℕ) → within (t / 2 ^ (16 * r)) i ≡ within t (r + i)
  unfolding within
  down_low i = ap (λ (n : ℕ). n % 2 ^ 16) (shr-shr t (16 * r) (16 * i) ∙ ap (λ (k : ℕ). t / 2 ^ k) (sym (mul-add 16 r i)))

  down_high : (i : ℕ) → within (t / 2 ^ (16 * r)) (s + i) ≡ 0
  unfolding within
  down_high i =
      down_low (s + i)
      ∙ ap (λ (n : ℕ). n % 2 ^ 16) (div-eq_of_lt (lt_of_lt_of_le fits (pow_mono most)))
      ∙ zero-mod (2 ^ 16)
    where
      most : 64 ≤ 16 * (r + (s + i))
      most = omega (arith, four)

  module _ (j : ℕ) where
    -- the symbols that stay in the word, and those that leave it
    stay : ℕ
    stay = component GF16 r (within t) j

    leave : ℕ
    leave = component GF16 s (λ i. within t (r + i)) j

    parts : (word : ℕ) → of_word j word ≡ component GF16 s (within word) j ⊕ product GF16 (component GF16 r (λ i. within word (s + i)) j) (power GF16 α (j * s))
    unfolding of_word
    parts word =
        ap (λ (n : ℕ). component GF16 n (within word) j) (sym four)
        ∙ component_parts GF16 GF16_formed s r (within word) j (λ i h. within_element word (s + i))

    up_word : of_word j (t * 2 ^ (16 * s) % 2 ^ 64) ≡ product GF16 stay (power GF16 α (j * s))
    unfolding stay
    up_word =
        parts _
        ∙ ap₂ (λ (x y : ℕ). x ⊕ product GF16 y (power GF16 α (j * s))) (component_nothing GF16 s _ j up_low) (component_same GF16 r _ (within t) j up_high)
        ∙ zero_sum _

    down_word : of_word j (t / 2 ^ (16 * r)) ≡ leave
    unfolding leave
    down_word =
        parts _
        ∙ ap₂ (λ (x y : ℕ). x ⊕ product GF16 y (power GF16 α (j * s)))
        (component_same GF16 s _ (λ i. within t (r + i)) j (λ i h. down_low i)) (component_nothing GF16 r _ j (λ i h. down_high i))
        ∙ ap (λ (x : ℕ). leave ⊕ x) (zero_product GF16 (power GF16 α (j * s)))
        ∙ sum_zero leave

    whole : of_word j t ≡ stay ⊕ product GF16 leave (power GF16 α (j * r))
    unfolding of_word stay leave
    whole =
        ap (λ (n : ℕ). component GF16 n (within t) j) (sym turned)
        ∙ component_parts GF16 GF16_formed r s (within t) j (λ i h. within_element t (r + i))
      where
        turned : r + s ≡ 4
        turned = omega (arith, four)

    leave_element : leave < 2 ^ 16
    unfolding leave
    leave_element = component_element GF16 GF16_formed s (λ i. within t (r + i)) j (λ i. within_element t (r + i))

    -- moved up by s symbols it stands in two words
    pub moved : of_words j (t * 2 ^ (16 * s) % 2 ^ 64 ∷ t / 2 ^ (16 * r) ∷ []) ≡ product GF16 (of_word j t) (power GF16 α (j * s))
    unfolding of_words
    moved =
        ap₂ (λ (x y : ℕ). x ⊕ product GF16 y (power GF16 α (j * 4)))
        up_word (ap (λ (x : ℕ). of_word j (t / 2 ^ (16 * r)) ⊕ x) (zero_product GF16 (power GF16 α (j * 4))) ∙ sum_zero _ ∙ down_word)
        ∙ ap (λ (x : ℕ). product GF16 stay (power GF16 α (j * s)) ⊕ x) (ap (λ (e : ℕ). product GF16 leave (power GF16 α e)) exponent ∙ ap (product GF16 leave) (power_add GF16 GF16_formed (j * r) (j * s) (α_element GF16 GF16_formed))
        ∙ sym (product_assoc GF16 GF16_formed leave_element (α_power GF16 GF16_formed (j * r)) (α_power GF16 GF16_formed (j * s))))
        ∙ sym (sum_product GF16 (power GF16 α (j * s)) stay (product GF16 leave (power GF16 α (j * r))))
        ∙ ap (λ (x : ℕ). product GF16 x (power GF16 α (j * s))) (sym whole)
      where
        exponent : j * 4 ≡ j * r + j * s
        exponent = ap (λ (n : ℕ). j * n) (sym turned) ∙ mul-add j r s
          where
            turned : r + s ≡ 4
            turned = omega (arith, four)

-- ---- a row that is moved up by whole words

unfoldable pub lifted : ℕ → List ℕ → List ℕ
lifted zero words = words
lifted (suc q) words = 0 ∷ lifted q words

pub lifted_words : (j q : ℕ) (words : List ℕ) → of_words j (lifted q words) ≡ product GF16 (of_words j words) (power GF16 α (j * (4 * q)))
unfolding lifted of_words
lifted_words j zero words =
    sym (product_one GF16 GF16_formed (words_element j words))
    ∙ ap (product GF16 (of_words j words)) (sym (power_zero GF16 GF16_formed α))
    ∙ ap (λ (e : ℕ). product GF16 (of_words j words) (power GF16 α e)) (sym (mul-zero j))
lifted_words j (suc q) words =
    ap₂ (λ (x y : ℕ). x ⊕ product GF16 y (power GF16 α (j * 4))) (at_zero (of_word j) (word_sum j)) (lifted_words j q words)
    ∙ zero_sum _
    ∙ product_assoc GF16 GF16_formed (words_element j words) (α_power GF16 GF16_formed (j * (4 * q))) (α_power GF16 GF16_formed (j * 4))
    ∙ ap (product GF16 (of_words j words)) (sym (power_add GF16 GF16_formed (j * (4 * q)) (j * 4) (α_element GF16 GF16_formed)))
    ∙ ap (λ (e : ℕ). product GF16 (of_words j words) (power GF16 α e)) (sym exponent)
  where
    exponent : j * (4 * suc q) ≡ j * (4 * q) + j * 4
    exponent = ap (λ (n : ℕ). j * n) (more q) ∙ mul-add j (4 * q) 4
      where
        more : (q : ℕ) → 4 * suc q ≡ 4 * q + 4
        more q = omega arith

pub one_word : (j t : ℕ) → of_words j (t ∷ []) ≡ of_word j t
unfolding of_words
one_word j t = ap (λ (x : ℕ). of_word j t ⊕ x) (zero_product GF16 (power GF16 α (j * 4))) ∙ sum_zero (of_word j t)

-- a word at symbol 4q, and at symbol 4q + s
pub word_at : (j t q : ℕ) → of_words j (lifted q (t ∷ [])) ≡ product GF16 (of_word j t) (power GF16 α (j * (4 * q)))
word_at j t q = lifted_words j q (t ∷ []) ∙ ap (λ (x : ℕ). product GF16 x (power GF16 α (j * (4 * q)))) (one_word j t)

pub word_between : (j t q s r : ℕ) → s + r ≡ 4 → t < 2 ^ 64
    → of_words j (lifted q (t * 2 ^ (16 * s) % 2 ^ 64 ∷ t / 2 ^ (16 * r) ∷ [])) ≡ product GF16 (of_word j t) (power GF16 α (j * (s + 4 * q)))
word_between j t q s r four fits =
    lifted_words j q _
    ∙ ap (λ (x : ℕ). product GF16 x (power GF16 α (j * (4 * q)))) (moved s r four t fits j)
    ∙ product_assoc GF16 GF16_formed (word_element j t) (α_power GF16 GF16_formed (j * s)) (α_power GF16 GF16_formed (j * (4 * q)))
    ∙ ap (product GF16 (of_word j t)) (sym (power_add GF16 GF16_formed (j * s) (j * (4 * q)) (α_element GF16 GF16_formed)))
    ∙ ap (λ (e : ℕ). product GF16 (of_word j t) (power GF16 α e)) (sym (mul-add j s (4 * q)))

-- ---- what stands at the distance of a relation counts as standing at each of its places

pub replaced : (R : Relation) (j x t : ℕ) → Holds R j
    → summed x R.offsets (λ o. product GF16 t (power GF16 α (j * (R.distance - o)))) ≡ x ⊕ product GF16 t (power GF16 α (j * R.distance))
replaced R j x t holds =
    summed_apart R.offsets x at
    ∙ ap (λ (y : ℕ). x ⊕ y)
    (sym
    (equal_of_sum _ _
    (sym (summed_apart R.offsets (product GF16 t (power GF16 α (j * R.distance))) at)
    ∙ sym (summed_image (product GF16 t) (product_sum GF16 t) R.offsets (power GF16 α (j * R.distance)) (λ o. power GF16 α (j * (R.distance - o))))
    ∙ ap (product GF16 t) holds
    ∙ at_zero (product GF16 t) (product_sum GF16 t))))
  where
    at : ℕ → ℕ
    at o = product GF16 t (power GF16 α (j * (R.distance - o)))
