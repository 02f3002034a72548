-- What stands in a window while a block is taken in from the top down, and one turn of it, for every list of offsets.
-- Assumes nothing.
use mathlib.Core.Path.{◌≡◌, refl, sym, ap, ◌∙◌}
use mathlib.Core.Logic.{⊎_elim}
use mathlib.Core.List.{List, [], ◌∷◌}
use Prim.Native.Nat.{ℕ, suc, ◌+◌, ◌≤◌, ◌<◌}
use native.Mathlib.Nat.{eq-or-lt_of_le}
use native.Mathlib.Omega.{arith}
use lib.ListN.{length, get_or, set}
use lib.Seq.{get_or-set_same, get_or-set_other}
use Rattle.field.specs.Field.{◌⊕◌}
use Rattle.components.specs.Relations.{summed, gathered}
use Rattle.fold.specs.Folding.{Between}

-- the places of the block from i on are done
pub record Taken (os block before after : List ℕ) (i : ℕ) : Type 0 where
  pub turned : (k : ℕ) → i ≤ k → k < length block → get_or after k 0 ≡ gathered (get_or block k 0) os (λ m. get_or after m 0) k
  pub kept : (k : ℕ) → length block ≤ k → get_or after k 0 ≡ get_or before k 0

-- what is gathered above a place does not hang on it
gathered_above : {half : ℕ} (os : List ℕ) → 0 < half → Between half os → (after : List ℕ) (i x y k : ℕ) → i ≤ k
    → gathered y os (λ m. get_or (set after i x) m 0) k ≡ gathered y os (λ m. get_or after m 0) k
unfolding summed
gathered_above [] some b after i x y k h = refl
gathered_above (o ∷ os) some b after i x y k h =
    ap (λ (z : ℕ). gathered (y ⊕ z) os (λ m. get_or (set after i x) m 0) k) (get_or-set_other after i (k + o) x 0 (λ e. absurd (omega (arith, h, some, b.0, e))))
    ∙ gathered_above os some b.2 after i x (y ⊕ get_or after (k + o) 0) k h

pub taken_turn : {half : ℕ} (os : List ℕ) → 0 < half → Between half os → (block before after : List ℕ) (i : ℕ) {top x : ℕ} → top ≡ suc i → i < length block → i < length after
    → x ≡ gathered (get_or block i 0) os (λ m. get_or after m 0) i → Taken os block before after top → Taken os block before (set after i x) i
taken_turn os some far block before after i {top} {x} up inside-block inside-after here t =
    record {
      turned = λ k h l. ⊎_elim (λ (e : i ≡ k). ap place (sym e) ∙ now_done ∙ ap rule e) (λ (m : i < k). later k m l) (eq-or-lt_of_le h);
      kept = λ k h. get_or-set_other after i k x 0 (λ e. absurd (omega (arith, h, e, inside-block))) ∙ t.kept k h;
    }
  where
    place : ℕ → ℕ
    place k = get_or (set after i x) k 0

    rule : ℕ → ℕ
    rule k = gathered (get_or block k 0) os (λ m. get_or (set after i x) m 0) k

    now_done : get_or (set after i x) i 0 ≡ gathered (get_or block i 0) os (λ m. get_or (set after i x) m 0) i
    now_done = get_or-set_same after i x 0 inside-after ∙ here ∙ sym (gathered_above os some far after i x (get_or block i 0) i (omega arith))

    later : (k : ℕ) → i < k → k < length block → get_or (set after i x) k 0 ≡ gathered (get_or block k 0) os (λ m. get_or (set after i x) m 0) k
    later k m l =
        get_or-set_other after i k x 0 (λ e. absurd (omega (arith, m, e)))
        ∙ t.turned k (omega (arith, m, up)) l
        ∙ sym (gathered_above os some far after i x (get_or block k 0) k (omega (arith, m)))
