-- Pages that were edited: a part replaced by one of its length, and an odd last byte replaced with its completing zero.
-- Assumes nothing.
use mathlib.Core.Path.{◌≡◌, refl, sym, ap, ◌∙◌}
use mathlib.Core.List.{List, [], ◌∷◌, ◌++◌}
use Prim.Native.Nat.{ℕ, zero, suc, ◌+◌, ◌-◌, ◌*◌, ◌≤◌, ◌<◌}
use native.Mathlib.Omega.{arith}
use lib.ListN.{length, get_or, length-append, get_or-append, get_or-eq_default}
use lib.Seq.{get_or-append-add}
use Rattle.signature.specs.Edits.{Edited}

module _ (front : List ℕ) (r : ℕ) (whole : length front ≡ r * 2) where
  behind : (part : List ℕ) (k : ℕ) → get_or (front ++ part) (r * 2 + k) 0 ≡ get_or part k 0
  behind part k = ap (λ (n : ℕ). get_or (front ++ part) (n + k) 0) (sym whole) ∙ get_or-append-add front part k 0

  before : (part other : List ℕ) (i : ℕ) → i < r * 2 → get_or (front ++ part) i 0 ≡ get_or (front ++ other) i 0
  before part other i h = get_or-append front part 0 i (omega arith) ∙ sym (get_or-append front other 0 i (omega arith))

  -- past a part
  past : (part back : List ℕ) (i : ℕ) → r * 2 + length part ≤ i → get_or (front ++ (part ++ back)) i 0 ≡ get_or back (i - (r * 2 + length part)) 0
  past part back i h =
      let place : i ≡ r * 2 + (length part + (i - (r * 2 + length part))) = omega arith in
      ap (λ (n : ℕ). get_or (front ++ (part ++ back)) n 0) place
      ∙ behind (part ++ back) (length part + (i - (r * 2 + length part)))
      ∙ get_or-append-add part back (i - (r * 2 + length part)) 0

  pub part_edited : (old new back : List ℕ) → length new ≡ length old → Edited 2 (front ++ (old ++ back)) (front ++ (new ++ back)) r old new
  part_edited old new back equal =
      record {
        same_length = simp length-append (omega arith);
        inside = simp length-append (omega arith);
        held = λ k h. behind (old ++ back) k ∙ get_or-append old back 0 k h;
        holds = λ k h. behind (new ++ back) k ∙ get_or-append new back 0 k h;
        kept_below = before (new ++ back) (old ++ back);
        kept_above = λ i h.
            past new back i (omega arith) ∙ ap (λ (n : ℕ). get_or back (i - (r * 2 + n)) 0) equal ∙ sym (past old back i h);
      }

  completed : (x k : ℕ) → get_or (x ∷ []) k 0 ≡ get_or (x ∷ 0 ∷ []) k 0
  completed x zero = refl
  completed x (suc zero) = refl
  completed x (suc (suc k)) = refl

  pub end_edited : (x y : ℕ) → Edited 2 (front ++ (x ∷ [])) (front ++ (y ∷ [])) r (x ∷ 0 ∷ []) (y ∷ 0 ∷ [])
  end_edited x y =
      record {
        same_length = simp length-append;
        inside = simp length-append (omega arith);
        held = λ k h. behind (x ∷ []) k ∙ completed x k;
        holds = λ k h. behind (y ∷ []) k ∙ completed y k;
        kept_below = before (y ∷ []) (x ∷ []);
        kept_above = λ i h. ended y i h ∙ sym (ended x i h);
      }
    where
      ended : (z i : ℕ) → r * 2 + 2 ≤ i → get_or (front ++ (z ∷ [])) i 0 ≡ 0
      ended z i h = get_or-eq_default (front ++ (z ∷ [])) 0 {n = i} (simp length-append (omega arith))
