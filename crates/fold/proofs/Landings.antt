-- To a window's lowest bytes what stands at one offset after the other is added, in place: so it is landed.
-- Assumes nothing.
use mathlib.Core.Path.{◌≡◌, refl, sym, ap, ap₂, ◌∙◌, subst}
use mathlib.Core.Logic.{dite}
use mathlib.Core.List.{List, [], ◌∷◌, ◌++◌}
use Prim.Native.Nat.{ℕ, ◌+◌, ◌≤◌, ◌<◌}
use native.Mathlib.Nat.{add_comm}
use native.Mathlib.Decide.{dec_lt}
use native.Mathlib.Omega.{arith}
use lib.ListN.{length, get_or, set, take, length-take, get_or-eq_default}
use lib.Seq.{get_or-take, get_or-set_same, get_or-set_other}
use Rattle.std.proofs.Common.{below_more}
use Rattle.field.specs.Field.{◌⊕◌}
use Rattle.field.proofs.Sums.{sum_zero}
use Rattle.components.specs.Relations.{summed, gathered}
use Rattle.std.proofs.lemmas.List.{take_more}
use Rattle.fold.specs.Folding.{Added}
use Rattle.fold.proofs.Fars.{Far_up}

past_take : (n : ℕ) (bytes : List ℕ) (k : ℕ) → n ≤ k → get_or (take n bytes) k 0 ≡ 0
past_take n bytes k h = get_or-eq_default (take n bytes) 0 (omega (arith, h, length-take n bytes))

-- ---- one part is added

-- to the first i places is added
pub record Adding (from i : ℕ) (before after : List ℕ) : Type 0 where
  pub done : (k : ℕ) → k < i → get_or after k 0 ≡ get_or before k 0 ⊕ get_or before (from + k) 0
  pub above : (k : ℕ) → i ≤ k → get_or after k 0 ≡ get_or before k 0

pub adding_more : (from i : ℕ) (before after : List ℕ) → i < length after → Adding from i before after
    → Adding from (i + 1) before (set after i (get_or after i 0 ⊕ get_or after (from + i) 0))
adding_more from i before after inside a =
    record {
      done = below_more _ i
          (λ k h. get_or-set_other after i k _ 0 (λ e. absurd (omega (arith, h, e))) ∙ a.done k h)
          (get_or-set_same after i _ 0 inside ∙ ap₂ ◌⊕◌ (a.above i (omega arith)) (a.above (from + i) (omega arith)));
      above = λ k h. get_or-set_other after i k _ 0 (λ e. absurd (omega (arith, h, e))) ∙ a.above k (omega (arith, h));
    }

pub added : (from i to : ℕ) (before after : List ℕ) → from + i ≡ to → Adding from i before after → Added from to before after
added from i to before after all a = record { added = λ k inside. at k }
  where
    at : (k : ℕ) → get_or after k 0 ≡ get_or before k 0 ⊕ get_or (take to before) (k + from) 0
    at k =
        dite (dec_lt k i)
        (λ (h : k < i).
        a.done k h
        ∙ ap (λ (x : ℕ). get_or before k 0 ⊕ x) (ap (λ (m : ℕ). get_or before m 0) (add_comm from k) ∙ sym (get_or-take to before (k + from) 0 (omega (arith, h, all)))))
        (λ h.
        a.above k (omega (arith, h))
        ∙ sym (sum_zero (get_or before k 0))
        ∙ ap (λ (x : ℕ). get_or before k 0 ⊕ x) (sym (past_take to before (k + from) (omega (arith, h, all)))))

-- ---- offsets, one after the other

summed_last : (os : List ℕ) (x o : ℕ) (h : ℕ → ℕ) → summed x (os ++ (o ∷ [])) h ≡ summed x os h ⊕ h o
unfolding summed
summed_last [] x o h = refl
summed_last (p ∷ os) x o h = summed_last os (x ⊕ h p) o h

-- one offset more is gathered
pub gathered_more : (x : ℕ) (os : List ℕ) (f : ℕ → ℕ) (i k : ℕ) {sum : ℕ} → k < length os → sum ≡ gathered x (take k os) f i
    → sum ⊕ f (i + get_or os k 0) ≡ gathered x (take (k + 1) os) f i
gathered_more x os f i k inside here =
    ap (λ (y : ℕ). y ⊕ f (i + get_or os k 0)) here
    ∙ sym (summed_last (take k os) x (get_or os k 0) (λ o. f (i + o)))
    ∙ ap (λ (taken : List ℕ). gathered x taken f i) (sym (take_more os k 0 inside))

-- some offsets are added, and from `cut` on the window is as it was
pub record Landing (os : List ℕ) (reach cut : ℕ) (window now : List ℕ) : Type 0 where
  pub undone : (k : ℕ) → k < reach → get_or now k 0 ≡ gathered (get_or (take reach window) k 0) os (λ i. get_or (take reach window) i 0) k
  pub kept : (k : ℕ) → cut ≤ k → k < reach → get_or now k 0 ≡ get_or window k 0

module _ (reach cut : ℕ) (window : List ℕ) where
  pub landing_none : Landing [] reach cut window window
  unfolding summed
  landing_none = record { undone = λ k h. sym (get_or-take reach window k 0 h); kept = λ k c h. refl }

  pub landing_next : (os : List ℕ) (o : ℕ) (before after : List ℕ) → cut ≤ o → reach ≤ cut + o → Landing os reach cut window before → Added o reach before after
      → Landing (os ++ (o ∷ [])) reach cut window after
  landing_next os o before after high far landing add =
      record {
        undone = λ k h.
            add.added k h
            ∙ ap₂ ◌⊕◌ (landing.undone k h) (same k)
            ∙ sym (summed_last os (get_or (take reach window) k 0) o (λ p. get_or (take reach window) (k + p) 0));
        kept = λ k c h.
            add.added k h
            ∙ ap₂ ◌⊕◌ (landing.kept k c h) (past_take reach before (k + o) (omega (arith, c, far)))
            ∙ sum_zero (get_or window k 0);
      }
    where
      same : (k : ℕ) → get_or (take reach before) (k + o) 0 ≡ get_or (take reach window) (k + o) 0
      same k =
          dite (dec_lt (k + o) reach)
          (λ (h : k + o < reach).
          get_or-take reach before (k + o) 0 h ∙ landing.kept (k + o) (omega (arith, high)) h ∙ sym (get_or-take reach window (k + o) 0 h))
          (λ h. past_take reach before (k + o) (omega (arith, h)) ∙ sym (past_take reach window (k + o) (omega (arith, h))))

  -- the next one of a list
  pub landing_more : (os : List ℕ) (k : ℕ) (before after : List ℕ) → k < length os → Far_up cut reach (get_or os k 0)
      → Landing (take k os) reach cut window before → Added (get_or os k 0) reach before after → Landing (take (k + 1) os) reach cut window after
  landing_more os k before after inside far landing add =
      subst (λ (taken : List ℕ). Landing taken reach cut window after) (sym (take_more os k 0 inside))
      (landing_next (take k os) (get_or os k 0) before after far.low far.past landing add)
