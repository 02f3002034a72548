-- Sums that are not reduced yet: one that is shifted over another, the sum of a word's symbols, that of a row, and that of words from the last one down.
-- Assumes nothing.
use mathlib.Core.Path.{◌≡◌, refl, sym, ap, ap₂, ◌∙◌, subst}
use mathlib.Core.List.{List, [], ◌∷◌, ◌++◌}
use Prim.Native.Nat.{ℕ, suc, ◌+◌, ◌*◌, ◌/◌, ◌%◌, ◌^◌, ◌≤◌, ◌<◌}
use native.Mathlib.Nat.{mod-eq_of_lt, lt_of_lt_of_le, mul_comm, mul-one, div-one, mul-add, mul-le-mul_left}
use native.Mathlib.Omega.{arith}
use lib.ListN.{length, length-append, take, drop}
use Rattle.std.proofs.Common.{append-nil}
use Rattle.std.proofs.Math.Seq.{append_snoc}
use lib.Pow.{pow_pos, pow_mono, shl_lt, shr_mod}
use Rattle.field.specs.Field.{GF16, ◌⊕◌, reduced, product, power, α}
use Rattle.field.proofs.Sums.{sum_lt}
use Rattle.field.proofs.Reducing.{reduced_below}
use Rattle.field.proofs.Instances.{GF16_formed}
use Rattle.components.specs.Components.{component}
use Rattle.components.specs.Words.{within, of_word, of_words}
use Rattle.components.proofs.Components.{component_one, component_parts}
use Rattle.components.proofs.Division.{rows_joined}
use Rattle.components.proofs.Words.{within_element}
use Rattle.words.specs.Rows.{Stands}
use Rattle.words.proofs.Reducing.{step}

pub stands_element : {x : ℕ} → x < 2 ^ 16 → Stands x 16 x
stands_element h = record { comes = reduced_below GF16 48 h; below = h }

-- what a sum comes to, and as a sum again
pub stands_reduced : {x k s r : ℕ} → Stands x k s → r ≡ reduced GF16 48 s → r ≡ x
stands_reduced sum e = e ∙ sum.comes

pub stands_again : {x r : ℕ} → r ≡ x → r < 2 ^ 16 → Stands x 16 r
stands_again {x} {r} e h = subst (λ (y : ℕ). Stands y 16 r) e (stands_element h)

-- one sum of k digits above another of m, in n
pub joined : (i k m n : ℕ) {x y s b : ℕ} → Stands x k s → Stands y m b → k + i ≤ n → m ≤ n → n ≤ 64
    → Stands (y ⊕ product GF16 x (power GF16 α i)) n (s * 2 ^ i % 2 ^ 64 ⊕ b)
joined i k m n {x} {y} {s} {b} above under grown wide most =
    record {
      comes = step i s b room ∙ ap₂ (λ (p q : ℕ). p ⊕ product GF16 q (power GF16 α i)) under.comes above.comes;
      below = sum_lt n (subst (λ (v : ℕ). v < 2 ^ n) (sym (mod-eq_of_lt room)) shifted) (lt_of_lt_of_le under.below (pow_mono wide));
    }
  where
    shifted : s * 2 ^ i < 2 ^ n
    shifted = lt_of_lt_of_le (shl_lt k i above.below) (pow_mono grown)

    room : s * 2 ^ i < 2 ^ 64
    room = lt_of_lt_of_le shifted (pow_mono most)

-- ---- a word

two_symbols : (p : ℕ → ℕ) (j : ℕ) → ((i : ℕ) → p i < 2 ^ 16) → component GF16 2 p j ≡ p 0 ⊕ product GF16 (p 1) (power GF16 α j)
two_symbols p j elements =
    component_parts GF16 GF16_formed 1 1 p j (λ i h. elements (1 + i))
    ∙ ap₂ (λ (x y : ℕ). x ⊕ product GF16 y (power GF16 α (j * 1))) (component_one GF16 GF16_formed p j (elements 0)) (component_one GF16 GF16_formed (λ i. p (1 + i)) j (elements 1))
    ∙ ap (λ (e : ℕ). p 0 ⊕ product GF16 (p 1) (power GF16 α e)) (mul-one j)

word_halves : (word j : ℕ)
    → within word 0 ⊕ product GF16 (within word 1) (power GF16 α j) ⊕ product GF16 (within word 2 ⊕ product GF16 (within word 3) (power GF16 α j)) (power GF16 α (2 * j))
    ≡ of_word j word
unfolding of_word
word_halves word j =
    sym
    (component_parts GF16 GF16_formed 2 2 (within word) j (λ i h. within_element word (2 + i))
    ∙ ap₂ (λ (x y : ℕ). x ⊕ product GF16 y (power GF16 α (j * 2))) (two_symbols (within word) j (within_element word)) (two_symbols (λ i. within word (2 + i)) j (λ i. within_element word (2 + i)))
    ∙ ap (λ (e : ℕ). within word 0 ⊕ product GF16 (within word 1) (power GF16 α j) ⊕ product GF16 (within word 2 ⊕ product GF16 (within word 3) (power GF16 α j)) (power GF16 α e)) (mul_comm j 2))

pub word_stands : (word j : ℕ) → word < 2 ^ 64 → 1 ≤ j → j ≤ 4
    → Stands (of_word j word) (16 + 3 * j)
    ((word / 2 ^ 48 * 2 ^ j % 2 ^ 64 ⊕ word / 2 ^ 32 % 2 ^ 16) * 2 ^ (2 * j) % 2 ^ 64 ⊕ (word / 2 ^ 16 % 2 ^ 16 * 2 ^ j % 2 ^ 64 ⊕ word % 2 ^ 16))
unfolding within
word_stands word j fits one four =
    subst (λ (x : ℕ). Stands x (16 + 3 * j) ((word / 2 ^ 48 * 2 ^ j % 2 ^ 64 ⊕ word / 2 ^ 32 % 2 ^ 16) * 2 ^ (2 * j) % 2 ^ 64 ⊕ (word / 2 ^ 16 % 2 ^ 16 * 2 ^ j % 2 ^ 64 ⊕ word % 2 ^ 16))) (word_halves word j)
    (joined (2 * j) (16 + j) (16 + j) (16 + 3 * j) high low (omega arith) (omega arith) (omega (arith, four)))
  where
    symbol : (l : ℕ) {x : ℕ} → within word l ≡ x → Stands (within word l) 16 x
    symbol l e = subst (λ (x : ℕ). Stands (within word l) 16 x) e (stands_element (within_element word l))

    high : Stands (within word 2 ⊕ product GF16 (within word 3) (power GF16 α j)) (16 + j) (word / 2 ^ 48 * 2 ^ j % 2 ^ 64 ⊕ word / 2 ^ 32 % 2 ^ 16)
    high = joined j 16 16 (16 + j) (symbol 3 (shr_mod 16 48 fits)) (symbol 2 refl) (omega arith) (omega arith) (omega (arith, four))

    low : Stands (within word 0 ⊕ product GF16 (within word 1) (power GF16 α j)) (16 + j) (word / 2 ^ 16 % 2 ^ 16 * 2 ^ j % 2 ^ 64 ⊕ word % 2 ^ 16)
    low = joined j 16 16 (16 + j) (symbol 1 refl) (symbol 0 (ap (λ (n : ℕ). n % 2 ^ 16) (div-one word))) (omega arith) (omega arith) (omega (arith, four))

-- ---- a row

-- a word below a row whose sum has k digits, in n
pub row_stands : (word j k n : ℕ) (words : List ℕ) {s b : ℕ} → Stands (of_words j words) k s → Stands (of_word j word) (16 + 3 * j) b → k + 4 * j ≤ n → 16 + 3 * j ≤ n → n ≤ 64
    → Stands (of_words j (word ∷ words)) n (s * 2 ^ (4 * j) % 2 ^ 64 ⊕ b)
unfolding of_words
row_stands word j k n words {s} {b} above under grown wide most =
    subst (λ (e : ℕ). Stands (of_word j word ⊕ product GF16 (of_words j words) (power GF16 α e)) n (s * 2 ^ (4 * j) % 2 ^ 64 ⊕ b)) (mul_comm 4 j)
    (joined (4 * j) k (16 + 3 * j) n above under grown wide most)

-- four words below others
pub four_below : (j : ℕ) (words : List ℕ) → 4 ≤ length words → of_words j words ≡ of_words j (take 4 words) ⊕ product GF16 (of_words j (drop 4 words)) (power GF16 α (j * 16))
four_below j [] room = absurd (omega (arith, room))
four_below j (a ∷ []) room = absurd (omega (arith, room))
four_below j (a ∷ b ∷ []) room = absurd (omega (arith, room))
four_below j (a ∷ b ∷ c ∷ []) room = absurd (omega (arith, room))
four_below j (a ∷ b ∷ c ∷ d ∷ words) room = rows_joined j a b c d words

-- ---- words from the last one down

-- the sum of the words above those that are left
pub record Summed (j : ℕ) (words left : List ℕ) (s : ℕ) : Type 0 where
  pub above : List ℕ
  pub whole : words ≡ left ++ above
  pub stands : Stands (of_words j above) (16 + j * (4 * length above)) s

pub summed_none : (j : ℕ) (words : List ℕ) {left : List ℕ} → left ≡ words → Summed j words left 0
unfolding of_words
summed_none j words {left} e =
    record { above = []; whole = sym (append-nil left ∙ e); stands = record { comes = reduced_below GF16 48 (pow_pos 16); below = pow_pos (16 + j * 0) } }

pub summed_more : (j : ℕ) (words left : List ℕ) (word : ℕ) {before : List ℕ} {s b : ℕ} → before ≡ left ++ (word ∷ []) → j * (4 * length words) ≤ 48 → Stands (of_word j word) (16 + 3 * j) b
    → Summed j words before s → Summed j words left (s * 2 ^ (4 * j) % 2 ^ 64 ⊕ b)
summed_more j words left word e room one sum =
    record {
      above = word ∷ sum.above;
      whole = whole;
      stands = row_stands word j (16 + j * (4 * length sum.above)) (16 + j * (4 * suc (length sum.above))) sum.above sum.stands one (omega (arith, more)) (omega (arith, more)) (omega (arith, most, room));
    }
  where
    whole : words ≡ left ++ (word ∷ sum.above)
    whole = sum.whole ∙ ap (λ (ws : List ℕ). ws ++ sum.above) e ∙ append_snoc left word sum.above

    more : j * (4 * suc (length sum.above)) ≡ j * (4 * length sum.above) + 4 * j
    more = ap (λ (n : ℕ). j * n) (four (length sum.above)) ∙ mul-add j (4 * length sum.above) 4 ∙ ap (λ (n : ℕ). j * (4 * length sum.above) + n) (mul_comm j 4)
      where
        four : (n : ℕ) → 4 * suc n ≡ 4 * n + 4
        four n = omega arith

    most : j * (4 * suc (length sum.above)) ≤ j * (4 * length words)
    most = mul-le-mul_left j (omega (arith, ap length whole, length-append left (word ∷ sum.above)))
