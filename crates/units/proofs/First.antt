-- The first number that a test names: it is named, and none before it is.
-- Assumes nothing.
use mathlib.Core.Path.{◌≡◌, refl, sym, ap, ◌∙◌}
use mathlib.Core.Logic.{dite}
use mathlib.Core.Bool.{Bool, true, false, cond}
use lib.Dec.{ltb}
use Prim.Native.Nat.{ℕ, zero, suc, ◌+◌, ◌-◌, ◌≤◌, ◌<◌}
use native.Mathlib.Numerals.{add-one}
use native.Mathlib.Decide.{dec_lt, ℕ_discrete}
use native.Mathlib.Omega.{arith}
use borrow.Author.Tests.{lt-ltb, le-ltb, ltb-true, ltb-false}
use Rattle.std.specs.Prelude.{Option, Some, None}
use Rattle.units.specs.Naming.{first_named, lowest_named}
use Rattle.units.proofs.Refusing.{not_both}

module _ (test : ℕ → Bool) where
  first_none : (k : ℕ) → first_named test 0 k ≡ k
  unfolding first_named
  first_none k = refl

  first_here : (m k : ℕ) → test k ≡ true → first_named test (suc m) k ≡ k
  unfolding first_named
  first_here m k e = simp e

  first_later : (m k : ℕ) → test k ≡ false → first_named test (suc m) k ≡ first_named test m (suc k)
  unfolding first_named
  first_later m k e = simp e

  -- none before it is named
  pub first_lowest : (m k i : ℕ) → k ≤ i → i < first_named test m k → test i ≡ false
  first_lowest zero k i low high = absurd (omega (arith, first_none k))
  first_lowest (suc m) k i low high = at (test k) refl (first_lowest m (suc k) i)
    where
      at : (b : Bool) → test k ≡ b → (suc k ≤ i → i < first_named test m (suc k) → test i ≡ false) → test i ≡ false
      at true e later = absurd (omega (arith, first_here m k e))
      at false e later =
          dite (ℕ_discrete i k) (λ (is : i ≡ k). ap test is ∙ e)
          (λ (other : i ≡ k → ⊥). later (omega arith) (omega (arith, first_later m k e)))

  -- and it is not past one that is
  pub first_before : (m k i : ℕ) → k ≤ i → i < k + m → test i ≡ true → first_named test m k ≤ i
  first_before m k i low high named =
      dite (dec_lt i (first_named test m k))
      (λ (past : i < first_named test m k). absurd (not_both (test i) named (first_lowest m k i low past)))
      (λ up. omega arith)

  -- where there is one, it is named
  pub first_named_lem : (m k : ℕ) → first_named test m k < k + m → test (first_named test m k) ≡ true
  first_named_lem zero k below = absurd (omega (arith, first_none k))
  first_named_lem (suc m) k below = at (test k) refl (first_named_lem m (suc k))
    where
      at : (b : Bool) → test k ≡ b → (first_named test m (suc k) < suc k + m → test (first_named test m (suc k)) ≡ true) → test (first_named test (suc m) k) ≡ true
      at true e later = ap test (first_here m k e) ∙ e
      at false e later = ap test (first_later m k e) ∙ later (omega (arith, first_later m k e))

  -- ---- a loop that looks at one number after the other, `left` of them from k on: it finds, goes on, and ends

  more : (left k : ℕ) → 0 < left → first_named test left k ≡ first_named test (suc (left - 1)) k
  more left k some = let is : left ≡ suc (left - 1) = omega arith in ap (λ (m : ℕ). first_named test m k) is

  pub turn_finds : (left k : ℕ) → 0 < left → test k ≡ true → first_named test left k ≡ k
  turn_finds left k some e = more left k some ∙ first_here (left - 1) k e

  pub turn_goes_on : (left k : ℕ) → 0 < left → test k ≡ false → first_named test left k ≡ first_named test (left - 1) (k + 1)
  turn_goes_on left k some e = more left k some ∙ first_later (left - 1) k e ∙ ap (first_named test (left - 1)) (sym (add-one k))

  pub turn_ends : (left k : ℕ) → left ≤ 0 → first_named test left k ≡ k
  turn_ends left k none = let is : left ≡ 0 = omega arith in ap (λ (m : ℕ). first_named test m k) is ∙ first_none k

  -- ---- a loop over the numbers below m, upward: it finds the lowest, goes on, and ends without one

  pub upward_finds : (m k : ℕ) → k < m → first_named test (m - k) k ≡ first_named test m 0 → test k ≡ true → Some k ≡ lowest_named test m
  upward_finds m k below so_far e =
      let is : first_named test m 0 ≡ k = sym so_far ∙ turn_finds (m - k) k (omega arith) e in
      let inside : first_named test m 0 < m = omega arith in
      ap Some (sym is) ∙ sym (simp (lt-ltb _ _ inside))

  pub upward_goes_on : (m k : ℕ) → k < m → first_named test (m - k) k ≡ first_named test m 0 → test k ≡ false
      → first_named test (m - (k + 1)) (k + 1) ≡ first_named test m 0
  upward_goes_on m k below so_far e =
      let next : m - (k + 1) ≡ m - k - 1 = omega arith in
      ap (λ (i : ℕ). first_named test i (k + 1)) next ∙ sym (turn_goes_on (m - k) k (omega arith) e) ∙ so_far

  pub upward_ends : (m k : ℕ) → m ≤ k → first_named test (m - k) k ≡ first_named test m 0 → None ≡ lowest_named test m
  upward_ends m k past so_far =
      let out : m ≤ first_named test m 0 = omega (arith, so_far, turn_ends (m - k) k (omega arith)) in
      sym (simp (le-ltb _ _ out))

  -- what the answer tells

  number_in : Option ℕ → ℕ
  number_in (Some i) = i
  number_in None = 0

  pub lowest_some : (m i : ℕ) → lowest_named test m ≡ Some i → (i ≡ first_named test m 0) × (i < m)
  unfolding number_in
  lowest_some m i e = at (ltb (first_named test m 0) m) refl e
    where
      at : (b : Bool) → ltb (first_named test m 0) m ≡ b → cond b (Some (first_named test m 0)) None ≡ Some i → (i ≡ first_named test m 0) × (i < m)
      at true so q = let is : first_named test m 0 ≡ i = ap number_in q in (sym is, omega (arith, ltb-true (first_named test m 0) m so))
      at false so q = let z : ◌≡◌ {A = ℕ} 0 1 = cc in absurd (omega arith)

  pub lowest_none : (m : ℕ) → lowest_named test m ≡ None → m ≤ first_named test m 0
  lowest_none m e = at (ltb (first_named test m 0) m) refl e
    where
      at : (b : Bool) → ltb (first_named test m 0) m ≡ b → cond b (Some (first_named test m 0)) None ≡ None → m ≤ first_named test m 0
      at true so q = let z : ◌≡◌ {A = ℕ} 0 1 = cc in absurd (omega arith)
      at false so q = omega (arith, ltb-false (first_named test m 0) m so)
