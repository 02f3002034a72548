-- The laws of a count: it is at most another's whose test passes wherever its own does, at most one above where that fails at one place only, and 0
-- exactly where no test passes.
-- Assumes nothing.
use mathlib.Core.Path.{◌≡◌, refl, sym, ap, ◌∙◌, subst}
use mathlib.Core.Logic.{◌≢◌, dite, ⊎_elim}
use mathlib.Core.Bool.{Bool, true, false, cond}
use Prim.Native.Nat.{ℕ, zero, suc, ◌+◌, ◌≤◌, ◌<◌}
use native.Mathlib.Nat.{not-suc-le-zero, le_of_suc-le-suc, eq-or-lt_of_le, le_step, lt-suc_self, le_refl}
use native.Mathlib.Decide.{ℕ_discrete}
use native.Mathlib.Omega.{arith}
use Rattle.signature.specs.Differences.{count}

cond_one : (b : Bool) → cond b 1 0 ≤ 1
cond_one true = le_refl 1
cond_one false = le_step (le_refl 0)

cond_le : (f g : Bool) → (g ≡ false → f ≡ false) → cond f 1 0 ≤ cond g 1 0
cond_le f true h = cond_one f
cond_le f false h = subst (λ (b : Bool). cond b 1 0 ≤ 0) (sym (h refl)) (le_refl 0)

pub count_le : (m : ℕ) (f g : ℕ → Bool) → ((i : ℕ) → i < m → g i ≡ false → f i ≡ false) → count m f ≤ count m g
unfolding count
count_le zero f g h = le_refl 0
count_le (suc m) f g h =
    let before : count m f ≤ count m g = count_le m f g (λ i l. h i (le_step l)) in
    let last : cond (f m) 1 0 ≤ cond (g m) 1 0 = cond_le (f m) (g m) (h m (lt-suc_self m)) in
    omega arith

pub count_none : (m : ℕ) (f : ℕ → Bool) → ((i : ℕ) → i < m → f i ≡ false) → count m f ≡ 0
unfolding count
count_none zero f e = refl
count_none (suc m) f e = simp (e m (lt-suc_self m), count_none m f (λ i h. e i (le_step h)))

last_false : (m : ℕ) (b : Bool) → m + cond b 1 0 ≡ 0 → b ≡ false
last_false m true e = absurd (omega arith)
last_false m false e = refl

pub count_zero : (m : ℕ) (test : ℕ → Bool) → count m test ≡ 0 → (i : ℕ) → i < m → test i ≡ false
unfolding count
count_zero zero test e i h = absurd (not-suc-le-zero h)
count_zero (suc m) test e i h =
    ⊎_elim
    (λ (q : i ≡ m). ap test q ∙ last_false (count m test) (test m) e)
    (λ (l : i < m). count_zero m test (omega arith) i l)
    (eq-or-lt_of_le (le_of_suc-le-suc h))

-- the one that a count of 1 has counted
pub record Lone (m : ℕ) (test : ℕ → Bool) : Type 0 where
  pub place : ℕ
  pub below : place < m
  pub counted : test place ≡ true
  pub no_other : (i : ℕ) → i < m → i ≢ place → test i ≡ false

pub count_one : (m : ℕ) (test : ℕ → Bool) → count m test ≡ 1 → Lone m test
unfolding count
count_one zero test e = absurd (omega arith)
count_one (suc m) test e = at (test m) refl (count_one m test)
  where
    at : (b : Bool) → test m ≡ b → (count m test ≡ 1 → Lone m test) → Lone (suc m) test
    at true is earlier =
        let all : count m test + 1 ≡ 1 = simp is at e in
        record { place = m; below = lt-suc_self m; counted = is; no_other = λ i h other. count_zero m test (omega arith) i (omega arith) }
    at false is earlier =
        let all : count m test + 0 ≡ 1 = simp is at e in
        let before : Lone m test = earlier (omega arith) in
        record {
          place = before.place;
          below = le_step before.below;
          counted = before.counted;
          no_other = λ i h other.
              dite (ℕ_discrete i m) (λ (q : i ≡ m). ap test q ∙ is) (λ (apart : i ≢ m). before.no_other i (omega arith) other);
        }

-- a test that passes at one place more counts at most one more
pub count_but_one : (m k : ℕ) (f g : ℕ → Bool) → ((i : ℕ) → i < m → i ≢ k → g i ≡ false → f i ≡ false) → count m f ≤ suc (count m g)
unfolding count
count_but_one zero k f g h = omega arith
count_but_one (suc m) k f g h =
    dite (ℕ_discrete m k)
    (λ (is : m ≡ k).
    let before : count m f ≤ count m g = count_le m f g (λ i l. h i (le_step l) (omega arith)) in
    omega (arith, cond_one (f m)))
    (λ (other : m ≢ k).
    let before : count m f ≤ suc (count m g) = count_but_one m k f g (λ i l. h i (le_step l)) in
    let last : cond (f m) 1 0 ≤ cond (g m) 1 0 = cond_le (f m) (g m) (h m (lt-suc_self m) other) in
    omega arith)
