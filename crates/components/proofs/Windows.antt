-- What a window stands for: the component of what its first symbols leave. A first block gives its own component, a further one is joined below what
-- stood in the window, and landing leaves symbols of that very component.
-- Assumes nothing.
use mathlib.Core.Path.{◌≡◌, refl, sym, ap, ap₂, ◌∙◌, fun_ext}
use mathlib.Core.Logic.{dite}
use mathlib.Core.List.{List, []}
use Prim.Native.Nat.{ℕ, suc, ◌+◌, ◌-◌, ◌*◌, ◌^◌, ◌≤◌, ◌<◌}
use native.Mathlib.Nat.{add-suc, add_assoc}
use native.Mathlib.Decide.{dec_lt}
use native.Mathlib.Omega.{arith}
use lib.Dec.{T}
use lib.ListN.{length, get_or, take, drop, length-take, length-drop, get_or-eq_default}
use lib.Seq.{get_or-take, get_or-drop}
use Rattle.field.specs.Field.{◌⊕◌, product, power, α, GF16}
use Rattle.field.proofs.Sums.{sum_assoc, sum_self, sum_zero}
use Rattle.field.proofs.Instances.{GF16_formed}
use Rattle.components.specs.Objects.{Octets, low_first, symbol, symbols}
use Rattle.components.specs.Components.{component, signature}
use Rattle.components.specs.Relations.{Relation, summed, gathered, in_bytes}
use Rattle.components.specs.Windows.{Down, Raised, Landed}
use Rattle.components.proofs.Components.{component_same, component_parts}
use Rattle.components.proofs.Octets.{GF16_symbol, take_octets}
use Rattle.components.proofs.Folds.{inside, summed_apart, summed_nothing, summed_lt, component_more, folded}
use Rattle.components.proofs.Pairs.{gathered_symbol, symbol_same}

-- ---- the rule, solved and undone

summed_undone : (os : List ℕ) (x : ℕ) (h : ℕ → ℕ) → summed (summed x os h) os h ≡ x
summed_undone os x h =
    summed_apart os (summed x os h) h
    ∙ ap (λ (y : ℕ). y ⊕ summed 0 os h) (summed_apart os x h)
    ∙ sum_assoc x (summed 0 os h) (summed 0 os h)
    ∙ ap (λ (y : ℕ). x ⊕ y) (sum_self (summed 0 os h))
    ∙ sum_zero x

-- past the end there are zeros
past_end : (bytes : List ℕ) (k : ℕ) → length bytes ≤ k → get_or bytes k 0 ≡ 0
past_end bytes k h = get_or-eq_default bytes 0 h

symbol_none : symbol 2 [] 0 ≡ 0
unfolding symbol low_first
symbol_none = refl

pub symbol_past : (bytes : List ℕ) (i : ℕ) → length bytes ≤ i * 2 → symbol 2 bytes i ≡ 0
symbol_past bytes i h = symbol_same bytes [] i 0 (past_end bytes (i * 2) h) (past_end bytes (suc (i * 2)) (omega (arith, h))) ∙ symbol_none

module _ (R : Relation) where
  -- the part of a window that stands for what was folded
  abbrev pub lowest : List ℕ → List ℕ
  lowest window = take (R.distance * 2) window

  -- the symbols that it leaves
  unfoldable pub leaves : List ℕ → ℕ → ℕ
  leaves window i = gathered (symbol 2 (lowest window) i) R.offsets (symbol 2 (lowest window)) i

  -- and their component
  unfoldable pub left : List ℕ → ℕ → ℕ
  left window j = component GF16 R.distance (leaves window) j

  lowest_in : (window : List ℕ) (k : ℕ) → k < R.distance * 2 → get_or (lowest window) k 0 ≡ get_or window k 0
  lowest_in window k h = get_or-take (R.distance * 2) window k 0 h

  lowest_past : (window : List ℕ) (k : ℕ) → R.distance * 2 ≤ k → get_or (lowest window) k 0 ≡ 0
  lowest_past window k h = past_end (lowest window) k (omega (arith, h, length-take (R.distance * 2) window))

  module _ (good : T (inside R.distance R.offsets)) where
    -- ---- a window that solves the rule, of m places in all, of which its lowest part is a part
    module _ (window : List ℕ) (octets : Octets window) (m : ℕ) (all : length window ≡ m * 2) (short : R.distance ≤ m) (j : ℕ)
        (holds : summed (power GF16 α (j * R.distance)) R.offsets (λ o. power GF16 α (j * (R.distance - o))) ≡ 0) where
      solved : component GF16 m (λ i. gathered (symbol 2 window i) R.offsets (symbol 2 window) i) j ≡ left window j
      unfolding left leaves
      solved =
          folded GF16 GF16_formed R good j m (symbol 2 window) (symbol 2 (lowest window)) (GF16_symbol window octets)
          (λ i h. symbol_past window i (omega (arith, all, h)))
          (λ i h. symbol_same (lowest window) window i i (lowest_in window (i * 2) (omega (arith, h))) (lowest_in window (suc (i * 2)) (omega (arith, h))))
          (λ i h. symbol_past (lowest window) i (omega (arith, h, length-take (R.distance * 2) window)))
          short holds

      -- the first block: nothing stood in the window
      pub first_block : (block before : List ℕ) → Down (in_bytes R.offsets) block before window → ((k : ℕ) → get_or before k 0 ≡ 0)
          → symbols 2 block ≤ m → left window j ≡ signature GF16 2 block j
      first_block block before down none fits =
          sym solved
          ∙ component_same GF16 m _ (symbol 2 block) j (λ i h. gathered_symbol R.offsets window block i octets (undone (i * 2)) (undone (suc (i * 2))))
          ∙ ap (λ (k : ℕ). component GF16 k (symbol 2 block) j) count
          ∙ component_more GF16 GF16_formed (symbols 2 block) (m - symbols 2 block) (symbol 2 block) j (λ i h. symbol_past block i (omega (arith, h)))
        where
          count : m ≡ symbols 2 block + (m - symbols 2 block)
          count = omega (arith, fits)

          above : (k : ℕ) → length block ≤ k → get_or window k 0 ≡ 0
          above k h = down.kept k h ∙ none k

          undone : (k : ℕ) → gathered (get_or window k 0) (in_bytes R.offsets) (λ i. get_or window i 0) k ≡ get_or block k 0
          undone k =
              dite (dec_lt k (length block))
              (λ (h : k < length block).
              ap (λ (x : ℕ). gathered x (in_bytes R.offsets) (λ i. get_or window i 0) k) (down.turned k h)
              ∙ summed_undone (in_bytes R.offsets) (get_or block k 0) (λ o. get_or window (k + o) 0))
              (λ h.
              ap₂ (λ (x : ℕ) (f : ℕ → ℕ). summed x (in_bytes R.offsets) f) (above k (omega (arith, h))) (fun_ext (λ o. above (k + o) (omega (arith, h))))
              ∙ summed_nothing (in_bytes R.offsets)
              ∙ sym (past_end block k (omega (arith, h))))

      -- a further block, of b symbols, below what stood in the window
      pub further_block : (b : ℕ) (block old raised : List ℕ) → length block ≡ b * 2 → m ≡ b + R.distance
          → Raised (b * 2) (R.distance * 2) old raised → Down (in_bytes R.offsets) block raised window
          → left window j ≡ signature GF16 2 block j ⊕ product GF16 (left old j) (power GF16 α (j * b))
      unfolding left leaves
      further_block b block old raised whole count up down =
          sym solved
          ∙ ap (λ (k : ℕ). component GF16 k rule j) count
          ∙ component_parts GF16 GF16_formed b R.distance rule j (λ i h. summed_lt 16 R.offsets _ (elements (b + i)) (λ o. elements (b + i + o)))
          ∙ ap₂ (λ (x y : ℕ). x ⊕ product GF16 y (power GF16 α (j * b)))
          (component_same GF16 b rule (symbol 2 block) j (λ i h. gathered_symbol R.offsets window block i octets (undone (i * 2) (omega (arith, h))) (undone (suc (i * 2)) (omega (arith, h))))
          ∙ ap (λ (k : ℕ). component GF16 k (symbol 2 block) j) (sym (symbols_even b whole)))
          (component_same GF16 R.distance (λ i. rule (b + i)) (λ i. gathered (symbol 2 (lowest old) i) R.offsets (symbol 2 (lowest old)) i) j (λ i h. moved i))
        where
          rule : ℕ → ℕ
          rule i = gathered (symbol 2 window i) R.offsets (symbol 2 window) i

          elements : (i : ℕ) → symbol 2 window i < 2 ^ 16
          elements = GF16_symbol window octets

          symbols_even : (b : ℕ) → length block ≡ b * 2 → symbols 2 block ≡ b
          symbols_even b e = omega (arith, e)

          undone : (k : ℕ) → k < b * 2 → gathered (get_or window k 0) (in_bytes R.offsets) (λ i. get_or window i 0) k ≡ get_or block k 0
          undone k h =
              ap (λ (x : ℕ). gathered x (in_bytes R.offsets) (λ i. get_or window i 0) k) (down.turned k (omega (arith, h, whole)))
              ∙ summed_undone (in_bytes R.offsets) (get_or block k 0) (λ o. get_or window (k + o) 0)

          byte : (k : ℕ) → get_or window (b * 2 + k) 0 ≡ get_or (lowest old) k 0
          byte k =
              dite (dec_lt k (R.distance * 2))
              (λ (h : k < R.distance * 2). down.kept (b * 2 + k) (omega (arith, whole)) ∙ up.copied k h ∙ sym (lowest_in old k h))
              (λ h. past_end window (b * 2 + k) (omega (arith, all, count, h)) ∙ sym (lowest_past old k (omega (arith, h))))

          place : (i : ℕ) → (b + i) * 2 ≡ b * 2 + i * 2
          place i = omega arith

          high : (i : ℕ) → symbol 2 window (b + i) ≡ symbol 2 (lowest old) i
          high i =
              symbol_same window (lowest old) (b + i) i
              (ap (λ (k : ℕ). get_or window k 0) (place i) ∙ byte (i * 2))
              (ap (λ (k : ℕ). get_or window k 0) (ap suc (place i) ∙ sym (add-suc (b * 2) (i * 2))) ∙ byte (suc (i * 2)))

          moved : (i : ℕ) → rule (b + i) ≡ gathered (symbol 2 (lowest old) i) R.offsets (symbol 2 (lowest old)) i
          moved i =
              ap₂ (λ (x : ℕ) (f : ℕ → ℕ). summed x R.offsets f) (high i)
              (fun_ext (λ o. ap (symbol 2 window) (add_assoc b i o) ∙ high (i + o)))

  -- landing leaves symbols of that component
  pub landed : (window after : List ℕ) → Octets window → length after ≡ R.distance * 2
      → Landed (in_bytes R.offsets) (R.distance * 2) window after → (j : ℕ) → signature GF16 2 after j ≡ left window j
  unfolding left leaves
  landed window after octets all land j =
      ap (λ (k : ℕ). component GF16 k (symbol 2 after) j) count
      ∙ component_same GF16 R.distance (symbol 2 after) _ j (λ i h.
      sym
      (gathered_symbol R.offsets (lowest window) after i (take_octets (R.distance * 2) window octets) (sym (land.undone (i * 2) (omega (arith, h)))) (sym (land.undone (suc (i * 2)) (omega (arith, h))))))
    where
      count : symbols 2 after ≡ R.distance
      count = omega (arith, all)

-- an object in two parts, the first one of b symbols
pub signature_parts : (b : ℕ) (bytes : List ℕ) → b * 2 ≤ length bytes → Octets bytes → (j : ℕ)
    → signature GF16 2 bytes j ≡ signature GF16 2 (take (b * 2) bytes) j ⊕ product GF16 (signature GF16 2 (drop (b * 2) bytes) j) (power GF16 α (j * b))
signature_parts b bytes long octets j =
    ap (λ (k : ℕ). component GF16 k (symbol 2 bytes) j) count
    ∙ component_parts GF16 GF16_formed b rest (symbol 2 bytes) j (λ i h. GF16_symbol bytes octets (b + i))
    ∙ ap₂ (λ (x y : ℕ). x ⊕ product GF16 y (power GF16 α (j * b)))
    (component_same GF16 b (symbol 2 bytes) (symbol 2 (take (b * 2) bytes)) j (λ i h.
    symbol_same bytes (take (b * 2) bytes) i i (sym (get_or-take (b * 2) bytes (i * 2) 0 (omega (arith, h)))) (sym (get_or-take (b * 2) bytes (suc (i * 2)) 0 (omega (arith, h)))))
    ∙ ap (λ (k : ℕ). component GF16 k (symbol 2 (take (b * 2) bytes)) j) (sym first))
    (component_same GF16 rest (λ i. symbol 2 bytes (b + i)) (symbol 2 (drop (b * 2) bytes)) j (λ i h. symbol_same bytes (drop (b * 2) bytes) (b + i) i (byte i) (next i)))
  where
    rest : ℕ
    rest = symbols 2 (drop (b * 2) bytes)

    count : symbols 2 bytes ≡ b + symbols 2 (drop (b * 2) bytes)
    count = omega (arith, long, length-drop (b * 2) bytes)

    first : symbols 2 (take (b * 2) bytes) ≡ b
    first = omega (arith, long, length-take (b * 2) bytes)

    place : (i : ℕ) → (b + i) * 2 ≡ b * 2 + i * 2
    place i = omega arith

    byte : (i : ℕ) → get_or bytes ((b + i) * 2) 0 ≡ get_or (drop (b * 2) bytes) (i * 2) 0
    byte i = ap (λ (k : ℕ). get_or bytes k 0) (place i) ∙ sym (get_or-drop (b * 2) bytes (i * 2) 0)

    next : (i : ℕ) → get_or bytes (suc ((b + i) * 2)) 0 ≡ get_or (drop (b * 2) bytes) (suc (i * 2)) 0
    next i = ap (λ (k : ℕ). get_or bytes k 0) (ap suc (place i) ∙ sym (add-suc (b * 2) (i * 2))) ∙ sym (get_or-drop (b * 2) bytes (suc (i * 2)) 0)
