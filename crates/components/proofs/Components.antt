-- A component is an element, and that of two parts end to end is made of theirs. Horner's rule is the case in which the first part is one symbol.
-- Assumes nothing.
use mathlib.Core.Path.{◌≡◌, sym, ap, ap₂, ◌∙◌}
use Prim.Native.Nat.{ℕ, suc, ◌+◌, ◌-◌, ◌*◌, ◌<◌}
use native.Mathlib.Nat.{add-mul, mul_comm, mul-one, zero-mul, add_comm, add-zero, zero-add, sub_self, sub-zero}
use native.Mathlib.Omega.{arith}
use Rattle.field.specs.Field.{Field, Element, ◌⊕◌, product, power, α}
use Rattle.field.proofs.Sums.{zero_sum}
use Rattle.field.proofs.Reducing.{sum_product, zero_product}
use Rattle.field.proofs.Products.{Formed, product_element, product_assoc, product_one}
use Rattle.field.proofs.Powers.{α_element, α_power, power_zero, power_add}
use Rattle.components.specs.Components.{total, component}
use Rattle.components.proofs.Totals.{total_same, total_sum, total_parts, total_image, total_nothing, total_below}

module _ (F : Field) where
  -- every symbol is an element
  abbrev pub Elements : (ℕ → ℕ) → Type 0
  Elements p = (i : ℕ) → Element F (p i)

  pub component_one : Formed F → (p : ℕ → ℕ) (j : ℕ) → Element F (p 0) → component F 1 p j ≡ p 0
  unfolding component total
  component_one formed p j h =
      zero_sum (product F (p 0) (power F α (0 * j)))
      ∙ ap (λ (e : ℕ). product F (p 0) (power F α e)) (zero-mul j)
      ∙ ap (product F (p 0)) (power_zero F formed α)
      ∙ product_one F formed h

  pub component_element : Formed F → (m : ℕ) (p : ℕ → ℕ) (j : ℕ) → Elements p → Element F (component F m p j)
  unfolding component
  component_element formed m p j h = total_below F.width m _ (λ i. product_element F formed (power F α (i * j)) (h i))

  -- equal symbols, equally weighed
  weighed : {x y : ℕ} (w : ℕ) → x ≡ y → product F x w ≡ product F y w
  weighed w e = ap (λ (x : ℕ). product F x w) e

  pub component_same : (m : ℕ) (p q : ℕ → ℕ) (j : ℕ) → ((i : ℕ) → i < m → p i ≡ q i) → component F m p j ≡ component F m q j
  unfolding component
  component_same m p q j e = total_same m _ _ (λ i h. weighed _ (e i h))

  pub component_sum : (m : ℕ) (p q : ℕ → ℕ) (j : ℕ) → component F m (λ i. p i ⊕ q i) j ≡ component F m p j ⊕ component F m q j
  unfolding component
  component_sum m p q j =
      total_same m _ _ (λ i h. sum_product F _ (p i) (q i)) ∙ total_sum m _ _

  pub component_nothing : (m : ℕ) (p : ℕ → ℕ) (j : ℕ) → ((i : ℕ) → i < m → p i ≡ 0) → component F m p j ≡ 0
  unfolding component
  component_nothing m p j e =
      total_nothing m _ (λ i h. weighed _ (e i h) ∙ zero_product F _)

  -- what stands from position i on, of m symbols
  unfoldable pub from : ℕ → (ℕ → ℕ) → ℕ → ℕ → ℕ
  from m p j i = component F (m - i) (λ k. p (i + k)) j

  pub from_end : (m : ℕ) (p : ℕ → ℕ) (j : ℕ) → from m p j m ≡ 0
  unfolding from component total
  from_end m p j = ap (λ (c : ℕ). component F c (λ k. p (m + k)) j) (sub_self m)

  pub from_start : (m : ℕ) (p : ℕ → ℕ) (j : ℕ) → from m p j 0 ≡ component F m p j
  unfolding from
  from_start m p j = ap (λ (c : ℕ). component F c (λ k. p (0 + k)) j) (sub-zero m) ∙ component_same m (λ k. p (0 + k)) p j (λ i h. ap p (zero-add i))

  module _ (formed : Formed F) where
    -- a symbol moved up by a positions
    moved : (a i j : ℕ) {x : ℕ} → Element F x
        → product F x (power F α ((a + i) * j)) ≡ product F (product F x (power F α (i * j))) (power F α (j * a))
    moved a i j {x} h =
        ap (λ (e : ℕ). product F x (power F α e)) (ap (λ (n : ℕ). n * j) (add_comm a i) ∙ add-mul i a j ∙ ap (λ (n : ℕ). i * j + n) (mul_comm a j))
        ∙ ap (product F x) (power_add F formed (i * j) (j * a) (α_element F formed))
        ∙ sym (product_assoc F formed h (α_power F formed (i * j)) (α_power F formed (j * a)))

    pub component_parts : (a b : ℕ) (p : ℕ → ℕ) (j : ℕ) → ((i : ℕ) → i < b → Element F (p (a + i)))
        → component F (a + b) p j ≡ component F a p j ⊕ product F (component F b (λ i. p (a + i)) j) (power F α (j * a))
    unfolding component
    component_parts a b p j elements =
        total_parts a b (λ i. product F (p i) (power F α (i * j)))
        ∙ ap (λ (x : ℕ). total a (λ i. product F (p i) (power F α (i * j))) ⊕ x)
        (total_same b _ _ (λ i h. moved a i j (elements i h))
        ∙ sym (total_image (λ x. product F x (power F α (j * a))) (sum_product F (power F α (j * a))) b (λ i. product F (p (a + i)) (power F α (i * j)))))

    -- ---- Horner's rule

    pub from_turn : (m : ℕ) (p : ℕ → ℕ) (j i : ℕ) → i < m → Elements p → p i ⊕ product F (from m p j (suc i)) (power F α j) ≡ from m p j i
    unfolding from
    from_turn m p j i h elements =
        let count : 1 + (m - suc i) ≡ m - i = omega arith in
        sym
        (ap (λ (c : ℕ). component F c (λ k. p (i + k)) j) (sym count)
        ∙ component_parts 1 (m - suc i) (λ k. p (i + k)) j (λ k l. elements (i + (1 + k)))
        ∙ ap₂ ◌⊕◌
        (component_one formed (λ k. p (i + k)) j (elements (i + 0)) ∙ ap p (add-zero i))
        (ap₂ (λ (x k : ℕ). product F x (power F α k)) (component_same (m - suc i) (λ k. p (i + (1 + k))) (λ k. p (suc i + k)) j (λ k l. ap p (further k))) (mul-one j)))
      where
        further : (k : ℕ) → i + (1 + k) ≡ suc i + k
        further k = omega arith
