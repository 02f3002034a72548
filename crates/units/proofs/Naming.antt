-- The list of the numbers that a test names: it has them all and no other, upward and so each once.
-- Assumes nothing.
use mathlib.Core.Path.{◌≡◌, refl, sym, ap, ap₂, ◌∙◌, subst}
use mathlib.Core.Logic.{◌↔◌, ⊎_elim, dite}
use mathlib.Core.Bool.{Bool, true, false, cond}
use mathlib.Core.List.{List, [], ◌∷◌, ◌++◌, append-nil}
use mathlib.Core.List.Memᴰ
use mathlib.Core.List.{Memᴰ}
use Prim.Native.Nat.{ℕ, zero, suc, ◌≤◌, ◌<◌}
use native.Mathlib.Nat.{not-suc-le-zero}
use native.Mathlib.Omega.{arith}
use native.Mathlib.Decide.{dec_lt, ℕ_discrete}
use lib.ListN.{length, get_or, length-append, get_or-append}
use lib.Seq.{get_or_at}
use Rattle.units.specs.Naming.{named, Upward}

module _ (test : ℕ → Bool) where
  pub named_more : (m : ℕ) → test m ≡ true → named test (suc m) ≡ named test m ++ (m ∷ [])
  unfolding named
  named_more m e = simp e

  pub named_no_more : (m : ℕ) → test m ≡ false → named test (suc m) ≡ named test m
  unfolding named
  named_no_more m e = simp e (append-nil (named test m))

  pub named_none : named test 0 ≡ []
  unfolding named
  named_none = refl

  pub named_length : (m : ℕ) → length (named test m) ≤ m
  named_length zero = omega (arith, ap length named_none)
  named_length (suc m) = at (test m) refl (named_length m)
    where
      at : (b : Bool) → test m ≡ b → length (named test m) ≤ m → length (named test (suc m)) ≤ suc m
      at true e short = omega (arith, ap length (named_more m e), length-append (named test m) (m ∷ []))
      at false e short = omega (arith, ap length (named_no_more m e))

  -- what is in the list was named
  pub named_only : (m k : ℕ) → Memᴰ k (named test m) → (k < m) × (test k ≡ true)
  named_only zero k here = absurd (Memᴰ.not-nil (subst (Memᴰ k) named_none here))
  named_only (suc m) k here = at (test m) refl (named_only m k)
    where
      at : (b : Bool) → test m ≡ b → (Memᴰ k (named test m) → (k < m) × (test k ≡ true)) → (k < suc m) × (test k ≡ true)
      at true e before =
          ⊎_elim
          (λ (earlier : Memᴰ k (named test m)). let b : (k < m) × (test k ≡ true) = before earlier in (omega (arith, b.0), b.1))
          (λ (last : Memᴰ k (m ∷ [])).
          let is : k ≡ m = Memᴰ.eq_of_singleton last in
          (omega arith, ap test is ∙ e))
          (Memᴰ.append_cases (named test m) (subst (Memᴰ k) (named_more m e) here))
      at false e before =
          let b : (k < m) × (test k ≡ true) = before (subst (Memᴰ k) (named_no_more m e) here) in
          (omega (arith, b.0), b.1)

  -- and what is named is in the list
  pub named_each : (m k : ℕ) → k < m → test k ≡ true → Memᴰ k (named test m)
  named_each zero k below so = absurd (not-suc-le-zero below)
  named_each (suc m) k below so = dite (ℕ_discrete k m) last (λ (other : k ≡ m → ⊥). earlier (test m) refl (named_each m k (omega arith) so))
    where
      last : k ≡ m → Memᴰ k (named test (suc m))
      last is = subst (Memᴰ k) (sym (named_more m (ap test (sym is) ∙ so))) (Memᴰ.append_right (named test m) (Memᴰ.head is))

      earlier : (b : Bool) → test m ≡ b → Memᴰ k (named test m) → Memᴰ k (named test (suc m))
      earlier true e here = subst (Memᴰ k) (sym (named_more m e)) (Memᴰ.append_left (m ∷ []) here)
      earlier false e here = subst (Memᴰ k) (sym (named_no_more m e)) here

  pub named_exactly : (m k : ℕ) → Memᴰ k (named test m) ↔ ((k < m) × (test k ≡ true))
  named_exactly m k = (named_only m k, λ b. named_each m k b.0 b.1)

module _ (test : ℕ → Bool) where
  below : (m i : ℕ) → i < length (named test m) → get_or (named test m) i 0 < m
  below zero i inside = absurd (not-suc-le-zero (subst (λ (l : List ℕ). i < length l) (named_none test) inside))
  below (suc m) i inside = at (test m) refl (below m i)
    where
      at : (b : Bool) → test m ≡ b → (i < length (named test m) → get_or (named test m) i 0 < m) → get_or (named test (suc m)) i 0 < suc m
      at true e before =
          let l : List ℕ = named test m in
          rw (named_more test m e)
          (dite (dec_lt i (length l))
          (λ (early : i < length l). let b : get_or l i 0 < m = before early in rw (get_or-append l (m ∷ []) 0 i early) (omega arith))
          (λ late.
          let end : length l ≡ i = omega (arith, ap length (named_more test m e), length-append l (m ∷ [])) in
          rw (get_or_at l m [] 0 i end) (omega arith)))
      at false e before =
          let b : get_or (named test m) i 0 < m = before (subst (λ (l : List ℕ). i < length l) (named_no_more test m e) inside) in
          rw (named_no_more test m e) (omega arith)

  pub named_upward : (m : ℕ) → Upward (named test m)
  named_upward zero i j up inside = absurd (not-suc-le-zero (subst (λ (l : List ℕ). j < length l) (named_none test) inside))
  named_upward (suc m) i j up inside = at (test m) refl (named_upward m i j up)
    where
      at : (b : Bool) → test m ≡ b → (j < length (named test m) → get_or (named test m) i 0 < get_or (named test m) j 0) → get_or (named test (suc m)) i 0 < get_or (named test (suc m)) j 0
      at true e before =
          let l : List ℕ = named test m in
          rw (named_more test m e)
          (dite (dec_lt j (length l))
          (λ (early : j < length l).
          let first : i < length l = omega arith in
          rw (get_or-append l (m ∷ []) 0 i first, get_or-append l (m ∷ []) 0 j early) (before early))
          (λ late.
          let end : length l ≡ j = omega (arith, ap length (named_more test m e), length-append l (m ∷ [])) in
          let first : i < length l = omega arith in
          rw (get_or-append l (m ∷ []) 0 i first, get_or_at l m [] 0 j end) (below m i first)))
      at false e before = rw (named_no_more test m e) (before (subst (λ (l : List ℕ). j < length l) (named_no_more test m e) inside))

-- tests that agree below m name the same
pub named_same : (one other : ℕ → Bool) (m : ℕ) → ((k : ℕ) → k < m → one k ≡ other k) → named one m ≡ named other m
unfolding named
named_same one other zero e = refl
named_same one other (suc m) e =
    ap₂ (λ (l : List ℕ) (b : Bool). l ++ cond b (m ∷ []) []) (named_same one other m (λ k below. e k (omega arith))) (e m (omega arith))
