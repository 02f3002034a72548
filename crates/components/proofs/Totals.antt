-- Sums over positions: equal terms, sums of sums, sums in two parts, what an additive map does to them, and their size.
-- Assumes nothing.
use mathlib.Core.Path.{◌≡◌, refl, sym, ap, ap₂, ◌∙◌}
use Prim.Native.Nat.{ℕ, zero, suc, ◌+◌, ◌^◌, ◌<◌}
use native.Mathlib.Nat.{add-zero, add-suc, le_step, lt-suc_self}
use lib.Pow.{pow_pos}
use Rattle.field.specs.Field.{◌⊕◌}
use Rattle.field.proofs.Sums.{sum_lt, zero_sum, sum_zero, sum_assoc, sum_cross}
use Rattle.field.proofs.Additive.{Additive, at_zero}
use Rattle.components.specs.Components.{total}

pub total_same : (m : ℕ) (f g : ℕ → ℕ) → ((i : ℕ) → i < m → f i ≡ g i) → total m f ≡ total m g
unfolding total
total_same zero f g e = refl
total_same (suc m) f g e = ap₂ ◌⊕◌ (total_same m f g (λ i h. e i (le_step h))) (e m (lt-suc_self m))

pub total_sum : (m : ℕ) (f g : ℕ → ℕ) → total m (λ i. f i ⊕ g i) ≡ total m f ⊕ total m g
unfolding total
total_sum zero f g = sym (zero_sum 0)
total_sum (suc m) f g = ap (λ (x : ℕ). x ⊕ (f m ⊕ g m)) (total_sum m f g) ∙ sum_cross (total m f) (total m g) (f m) (g m)

pub total_parts : (a b : ℕ) (f : ℕ → ℕ) → total (a + b) f ≡ total a f ⊕ total b (λ i. f (a + i))
unfolding total
total_parts a zero f = ap (λ (m : ℕ). total m f) (add-zero a) ∙ sym (sum_zero (total a f))
total_parts a (suc b) f =
    ap (λ (m : ℕ). total m f) (add-suc a b)
    ∙ ap (λ (x : ℕ). x ⊕ f (a + b)) (total_parts a b f)
    ∙ sum_assoc (total a f) (total b (λ i. f (a + i))) (f (a + b))

pub total_image : (h : ℕ → ℕ) → Additive h → (m : ℕ) (f : ℕ → ℕ) → h (total m f) ≡ total m (λ i. h (f i))
unfolding total
total_image h additive zero f = at_zero h additive
total_image h additive (suc m) f = additive (total m f) (f m) ∙ ap (λ (x : ℕ). x ⊕ h (f m)) (total_image h additive m f)

pub total_nothing : (m : ℕ) (f : ℕ → ℕ) → ((i : ℕ) → i < m → f i ≡ 0) → total m f ≡ 0
unfolding total
total_nothing zero f e = refl
total_nothing (suc m) f e = ap₂ ◌⊕◌ (total_nothing m f (λ i h. e i (le_step h))) (e m (lt-suc_self m)) ∙ zero_sum 0

pub total_below : (w m : ℕ) (f : ℕ → ℕ) → ((i : ℕ) → f i < 2 ^ w) → total m f < 2 ^ w
unfolding total
total_below w zero f e = pow_pos w
total_below w (suc m) f e = sum_lt w (total_below w m f e) (e m)
