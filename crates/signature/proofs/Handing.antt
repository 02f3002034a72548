-- Signatures as they are handed over: components above n change nothing, and none is too large.
-- Assumes nothing.
use mathlib.Core.Path.{◌≡◌, refl, sym, ap, ◌∙◌}
use mathlib.Core.Bool.{Bool, true, false, cond}
use Prim.Native.Nat.{ℕ, zero, suc, ◌^◌, ◌≤◌, ◌<◌}
use native.Mathlib.Nat.{not-suc-le-zero, le_trans}
use native.Mathlib.Omega.{arith}
use lib.Dec.{leb}
use lib.Pow.{pow_pos}
use borrow.Author.Tests.{le-leb, leb-true}
use Rattle.field.specs.Field.{◌⊕◌}
use Rattle.field.proofs.Sums.{zero_sum}
use Rattle.signature.specs.Signatures.{handed, up_to, answered}
use Rattle.signature.specs.declared.Signature.{Signature}

pub answered_same : (n : ℕ) (s t : ℕ → ℕ) → ((j : ℕ) → s j ≡ t j) → answered n s ≡ answered n t
answered_same n s t e = cc (e 1, e 2, e 3, e 4)

cond_within : (b : Bool) (x y : ℕ) → (b ≡ true → x ≡ y) → cond b x 0 ≡ cond b y 0
cond_within true x y e = e refl
cond_within false x y e = refl

-- components up to n decide
pub answered_within : (n : ℕ) (s t : ℕ → ℕ) → ((j : ℕ) → 1 ≤ j → j ≤ n → s j ≡ t j) → answered n s ≡ answered n t
answered_within n s t e =
    let same : (j : ℕ) → 1 ≤ j → up_to n j (s j) ≡ up_to n j (t j) = λ j some. cond_within (leb j n) (s j) (t j) (λ h. e j some (leb-true j n h)) in
    cc (same 1 (omega arith), same 2 (omega arith), same 3 (omega arith), same 4 (omega arith))

cond_sum : (b : Bool) (x y : ℕ) → cond b x 0 ⊕ cond b y 0 ≡ cond b (x ⊕ y) 0
cond_sum true x y = refl
cond_sum false x y = zero_sum 0

pub up_to_sum : (n j x y : ℕ) → up_to n j x ⊕ up_to n j y ≡ up_to n j (x ⊕ y)
up_to_sum n j x y = cond_sum (leb j n) x y

cond_again : (b : Bool) (f : ℕ → ℕ) (x : ℕ) → cond b (f (cond b x 0)) 0 ≡ cond b (f x) 0
cond_again true f x = refl
cond_again false f x = refl

up_to_again : (n j : ℕ) (f : ℕ → ℕ) (x : ℕ) → up_to n j (f (up_to n j x)) ≡ up_to n j (f x)
up_to_again n j f x = cond_again (leb j n) f x

-- what is made of components as they were answered is made of the components themselves
pub answered_handed : (n : ℕ) (f : ℕ → ℕ → ℕ) (s : ℕ → ℕ) → answered n (λ j. f j (handed (answered n s) j)) ≡ answered n (λ j. f j (s j))
answered_handed n f s =
    cc (up_to_again n 1 (f 1) (s 1), up_to_again n 2 (f 2) (s 2), up_to_again n 3 (f 3) (s 3), up_to_again n 4 (f 4) (s 4))

pub handed_answered : (n : ℕ) (s : ℕ → ℕ) (j : ℕ) → 0 < j → j ≤ 4 → handed (answered n s) j ≡ up_to n j (s j)
handed_answered n s zero h l = absurd (not-suc-le-zero h)
handed_answered n s (suc zero) h l = refl
handed_answered n s (suc (suc zero)) h l = refl
handed_answered n s (suc (suc (suc zero))) h l = refl
handed_answered n s (suc (suc (suc (suc zero)))) h l = refl
handed_answered n s (suc (suc (suc (suc (suc j))))) h l = absurd (omega arith)

-- an answer tells its components up to n
pub answered_tells : (n : ℕ) (s t : ℕ → ℕ) (j : ℕ) → 0 < j → j ≤ n → n ≤ 4 → answered n s ≡ answered n t → s j ≡ t j
answered_tells n s t j some h four e =
    let both : up_to n j (s j) ≡ up_to n j (t j) =
    sym (handed_answered n s j some (le_trans h four)) ∙ ap (λ (x : Signature). handed x j) e ∙ handed_answered n t j some (le_trans h four) in
    simp (le-leb j n h) at both

cond_below : (w : ℕ) (b : Bool) (x : ℕ) → x < 2 ^ w → cond b x 0 < 2 ^ w
cond_below w true x h = h
cond_below w false x h = pow_pos w

pub answered_below : (w n : ℕ) (s : ℕ → ℕ) → ((j : ℕ) → s j < 2 ^ w) → (j : ℕ) → handed (answered n s) j < 2 ^ w
answered_below w n s h zero = pow_pos w
answered_below w n s h (suc zero) = cond_below w (leb 1 n) (s 1) (h 1)
answered_below w n s h (suc (suc zero)) = cond_below w (leb 2 n) (s 2) (h 2)
answered_below w n s h (suc (suc (suc zero))) = cond_below w (leb 3 n) (s 3) (h 3)
answered_below w n s h (suc (suc (suc (suc zero)))) = cond_below w (leb 4 n) (s 4) (h 4)
answered_below w n s h (suc (suc (suc (suc (suc j))))) = pow_pos w
