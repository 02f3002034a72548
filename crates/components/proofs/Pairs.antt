-- The fold's rule on bytes is its rule on symbols, at half the offsets: a symbol is made of two bytes, digit by digit.
-- Assumes nothing.
use mathlib.Core.Path.{◌≡◌, refl, sym, ap, ap₂, ◌∙◌, fun_ext}
use mathlib.Core.List.{List, [], ◌∷◌}
use Prim.Native.Nat.{ℕ, suc, ◌+◌, ◌*◌, ◌^◌, ◌<◌}
use native.Mathlib.Omega.{arith}
use lib.Bits.{bit_xor, xor_block}
use lib.ListN.{get_or}
use Rattle.field.proofs.Sums.{sum_lt}
use Rattle.field.specs.Field.{◌⊕◌}
use Rattle.components.specs.Objects.{Octets, low_first, symbol}
use Rattle.components.specs.Relations.{summed, gathered, in_bytes}

-- the symbol that two bytes make
unfoldable pub paired : ℕ → ℕ → ℕ
paired low high = low + 256 * (high + 256 * 0)

unfoldable pub two : (ℕ → ℕ) → ℕ → ℕ
two f i = paired (f (i * 2)) (f (suc (i * 2)))

pub symbol_two : (bytes : List ℕ) (i : ℕ) → symbol 2 bytes i ≡ two (λ k. get_or bytes k 0) i
unfolding symbol low_first two paired
symbol_two bytes i = refl

paired_sum : (a b c d : ℕ) → a < 256 → b < 256 → paired (a ⊕ b) (c ⊕ d) ≡ paired a c ⊕ paired b d
unfolding paired ◌⊕◌
paired_sum a b c d ha hb =
    swapped (bit_xor a b) (bit_xor c d)
    ∙ sym (xor_block 8 c d a b ha hb)
    ∙ sym (ap₂ bit_xor (swapped a c) (swapped b d))
  where
    swapped : (x y : ℕ) → x + 256 * (y + 256 * 0) ≡ y * 2 ^ 8 + x
    swapped x y = omega arith

-- a byte function whose values are octets
abbrev pub Bytewise : (ℕ → ℕ) → Type 0
Bytewise f = (k : ℕ) → f k < 256

two_sum : (f g : ℕ → ℕ) (i : ℕ) → Bytewise f → Bytewise g → two (λ k. f k ⊕ g k) i ≡ two f i ⊕ two g i
unfolding two
two_sum f g i hf hg = paired_sum (f (i * 2)) (g (i * 2)) (f (suc (i * 2))) (g (suc (i * 2))) (hf (i * 2)) (hg (i * 2))

two_moved : (g : ℕ → ℕ) (i o : ℕ) → two (λ k. g (k + o * 2)) i ≡ two g (i + o)
unfolding two
two_moved g i o = ap₂ (λ (k l : ℕ). paired (g k) (g l)) even odd
  where
    even : i * 2 + o * 2 ≡ (i + o) * 2
    even = omega arith

    odd : suc (i * 2) + o * 2 ≡ suc ((i + o) * 2)
    odd = omega arith

two_gathered : (os : List ℕ) (f g : ℕ → ℕ) (i : ℕ) → Bytewise f → Bytewise g
    → two (λ k. gathered (f k) (in_bytes os) g k) i ≡ gathered (two f i) os (two g) i
unfolding summed
two_gathered [] f g i hf hg = refl
two_gathered (o ∷ os) f g i hf hg =
    two_gathered os (λ k. f k ⊕ g (k + o * 2)) g i (λ k. sum_lt 8 (hf k) (hg (k + o * 2))) hg
    ∙ ap (λ (x : ℕ). gathered x os (two g) i)
    (two_sum f (λ k. g (k + o * 2)) i hf (λ k. hg (k + o * 2)) ∙ ap (λ (x : ℕ). two f i ⊕ x) (two_moved g i o))

two_same : (f g : ℕ → ℕ) (i : ℕ) → f (i * 2) ≡ g (i * 2) → f (suc (i * 2)) ≡ g (suc (i * 2)) → two f i ≡ two g i
unfolding two
two_same f g i even odd = ap₂ paired even odd

-- two bytes of c that are gathered from `bytes` make the symbol that is gathered from its symbols
pub gathered_symbol : (os bytes c : List ℕ) (i : ℕ) → Octets bytes
    → gathered (get_or bytes (i * 2) 0) (in_bytes os) (λ k. get_or bytes k 0) (i * 2) ≡ get_or c (i * 2) 0
    → gathered (get_or bytes (suc (i * 2)) 0) (in_bytes os) (λ k. get_or bytes k 0) (suc (i * 2)) ≡ get_or c (suc (i * 2)) 0
    → gathered (symbol 2 bytes i) os (symbol 2 bytes) i ≡ symbol 2 c i
gathered_symbol os bytes c i octets even odd =
    ap₂ (λ (x : ℕ) (f : ℕ → ℕ). gathered x os f i) (symbol_two bytes i) (fun_ext (symbol_two bytes))
    ∙ sym (two_gathered os (λ k. get_or bytes k 0) (λ k. get_or bytes k 0) i octets octets)
    ∙ two_same (λ k. gathered (get_or bytes k 0) (in_bytes os) (λ m. get_or bytes m 0) k) (λ k. get_or c k 0) i even odd
    ∙ sym (symbol_two c i)

pub symbol_same : (one other : List ℕ) (i k : ℕ) → get_or one (i * 2) 0 ≡ get_or other (k * 2) 0 → get_or one (suc (i * 2)) 0 ≡ get_or other (suc (k * 2)) 0
    → symbol 2 one i ≡ symbol 2 other k
unfolding two
symbol_same one other i k even odd = symbol_two one i ∙ ap₂ paired even odd ∙ sym (symbol_two other k)
