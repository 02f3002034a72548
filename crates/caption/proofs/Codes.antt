-- The laws of the cumulative code, in every field that passes the tests and for every start exponent: how code and weight go on by one symbol,
-- that decoding and encoding undo each other, and what l symbols of a code add up to.
-- Assumes nothing.
use mathlib.Core.Path.{◌≡◌, refl, sym, ap, ap₂, ◌∙◌}
use Prim.Native.Nat.{ℕ, zero, suc, ◌+◌, ◌*◌}
use native.Mathlib.Nat.{suc-add, add-zero, add_comm, add_assoc, mul-one}
use native.Mathlib.Omega.{arith}
use lib.Pow.{pow_pos}
use Rattle.field.specs.Field.{Field, Element, ◌⊕◌, product, doubled, power, α}
use Rattle.field.proofs.Sums.{sum_comm, sum_undo, sum_lt}
use Rattle.field.proofs.Reducing.{sum_product}
use Rattle.field.proofs.Products.{product_element, product_assoc, product_comm, product_one, one_product, product_two}
use Rattle.field.proofs.Powers.{α_element, α_power, power_zero, power_add, power_doubled}
use Rattle.field.proofs.Tests.{Passes, formed}
use Rattle.field.proofs.Orders.{power_undone}
use Rattle.signature.specs.Signatures.{total, component}
use Rattle.signature.proofs.Totals.{total_same, total_parts, total_image, total_below}
use Rattle.signature.proofs.Components.{Elements}
use Rattle.caption.specs.Codes.{previous, weight, unweight, coded, plain}

-- what was added once more is gone
added_twice : (a b : ℕ) → a ⊕ b ⊕ a ≡ b
added_twice a b = sum_comm (a ⊕ b) a ∙ sum_undo a b

pub previous_same : (c d : ℕ → ℕ) → ((i : ℕ) → c i ≡ d i) → (i : ℕ) → previous c i ≡ previous d i
previous_same c d same zero = refl
previous_same c d same (suc i) = same i

-- a power of α as a weight
pub as_weight : (F : Field) (x k : ℕ) → product F x (power F α k) ≡ product F x (weight F 0 k)
as_weight F x k = ap (λ (j : ℕ). product F x (power F α j)) (sym (add-zero k))

module _ (F : Field) (e : ℕ) where
  -- a symbol as it is added to the code
  weighed : (ℕ → ℕ) → ℕ → ℕ
  weighed p k = product F (p k) (weight F e k)

  previous_coded : (p : ℕ → ℕ) (i : ℕ) → previous (coded F e p) i ≡ total i (weighed p)
  unfolding coded total weighed
  previous_coded p zero = refl
  previous_coded p (suc i) = refl

  -- the code goes on by one symbol
  pub code_turn : (p : ℕ → ℕ) (i : ℕ) → previous (coded F e p) i ⊕ product F (p i) (weight F e i) ≡ coded F e p i
  unfolding coded total weighed
  code_turn p i = ap (λ (x : ℕ). x ⊕ product F (p i) (weight F e i)) (previous_coded p i)

  module _ (good : Passes F) where
    pub weight_element : (k : ℕ) → Element F (weight F e k)
    weight_element k = α_power F (formed F good) (k + e)

    unweight_element : (k : ℕ) → Element F (unweight F e k)
    unweight_element k = α_power F (formed F good) _

    weight_up : (k : ℕ) → product F (weight F e k) α ≡ weight F e (suc k)
    unfolding power
    weight_up k = ap (power F α) (sym (suc-add k e))

    -- what is weighted is doubled
    -- a weight, n symbols on
    pub weight_on : (k n : ℕ) → product F (weight F e k) (weight F 0 n) ≡ weight F e (k + n)
    weight_on k n =
        let exponent : k + e + (n + 0) ≡ k + n + e = omega arith in
        sym (power_add F (formed F good) (k + e) (n + 0) (α_element F (formed F good))) ∙ ap (power F α) exponent

    undone : (k : ℕ) → product F (weight F e k) (unweight F e k) ≡ 1
    undone k = power_undone F good (k + e)

    -- a weight and what undoes it
    weighed_back : (k : ℕ) {x : ℕ} → Element F x → product F (product F x (weight F e k)) (unweight F e k) ≡ x
    weighed_back k {x} h =
        product_assoc F (formed F good) h (weight_element k) (unweight_element k) ∙ ap (product F x) (undone k) ∙ product_one F (formed F good) h

    back_weighed : (k : ℕ) {x : ℕ} → Element F x → product F (product F x (unweight F e k)) (weight F e k) ≡ x
    back_weighed k {x} h =
        product_assoc F (formed F good) h (unweight_element k) (weight_element k)
        ∙ ap (product F x) (product_comm F (formed F good) (unweight_element k) (weight_element k) ∙ undone k)
        ∙ product_one F (formed F good) h

    -- going down, what undoes the weight is doubled
    pub unweight_turn : (k : ℕ) → doubled F (unweight F e (suc k)) ≡ unweight F e k
    unweight_turn k =
        let u : ℕ = unweight F e (suc k) in
        let element : Element F (product F u α) = product_element F (formed F good) α (unweight_element (suc k)) in
        let one : product F (product F u α) (weight F e k) ≡ 1 =
        product_assoc F (formed F good) (unweight_element (suc k)) (α_element F (formed F good)) (weight_element k)
        ∙ ap (product F u) (product_comm F (formed F good) (α_element F (formed F good)) (weight_element k) ∙ weight_up k)
        ∙ product_comm F (formed F good) (unweight_element (suc k)) (weight_element (suc k))
        ∙ undone (suc k) in
        sym (product_two F (formed F good) (unweight_element (suc k)))
        ∙ sym (weighed_back k element)
        ∙ ap (λ (x : ℕ). product F x (unweight F e k)) one
        ∙ one_unweighed k
      where
        one_unweighed : (k : ℕ) → product F 1 (unweight F e k) ≡ unweight F e k
        one_unweighed k = one_product F (formed F good) (unweight_element k)

    -- and so it comes n symbols down
    pub unweight_on : (k n : ℕ) → product F (unweight F e (k + n)) (weight F 0 n) ≡ unweight F e k
    unweight_on k zero =
        ap₂ (λ (i x : ℕ). product F (unweight F e i) x) (add-zero k) (power_zero F (formed F good) α)
        ∙ product_one F (formed F good) (unweight_element k)
    unweight_on k (suc n) =
        let place : k + suc n ≡ suc (k + n) = omega arith in
        let exponent : suc n + 0 ≡ suc (n + 0) = omega arith in
        ap₂ (λ (i j : ℕ). product F (unweight F e i) (power F α j)) place exponent
        ∙ sym (power_doubled F (formed F good) (n + 0) (unweight_element (suc (k + n))))
        ∙ ap (λ (x : ℕ). product F x (weight F 0 n)) (unweight_turn (k + n))
        ∙ unweight_on k n

    pub weights_tell : (k : ℕ) {x y : ℕ} → Element F x → Element F y → product F x (weight F e k) ≡ product F y (weight F e k) → x ≡ y
    weights_tell k hx hy same = sym (weighed_back k hx) ∙ ap (λ (z : ℕ). product F z (unweight F e k)) same ∙ weighed_back k hy

    -- ---- elements

    pub coded_element : (p : ℕ → ℕ) → Elements F p → Elements F (coded F e p)
    unfolding coded
    coded_element p h i = total_below F.width (suc i) _ (λ k. product_element F (formed F good) (weight F e k) (h k))

    previous_element : (c : ℕ → ℕ) → Elements F c → Elements F (previous c)
    previous_element c h zero = zero_element
      where
        zero_element : Element F 0
        zero_element = pow_pos F.width
    previous_element c h (suc i) = h i

    change_element : (c : ℕ → ℕ) → Elements F c → (i : ℕ) → Element F (c i ⊕ previous c i)
    change_element c h i = sum_lt F.width (h i) (previous_element c h i)

    pub plain_element : (c : ℕ → ℕ) → Elements F c → Elements F (plain F e c)
    unfolding plain
    plain_element c h i = product_element F (formed F good) (unweight F e i) (change_element c h i)

    -- ---- decoding and encoding undo each other

    pub plain_coded : (p : ℕ → ℕ) → Elements F p → (i : ℕ) → plain F e (coded F e p) i ≡ p i
    unfolding plain
    plain_coded p h i =
        ap (λ (x : ℕ). product F x (unweight F e i))
        (ap (λ (x : ℕ). x ⊕ previous (coded F e p) i) (sym (code_turn p i)) ∙ added_twice (previous (coded F e p) i) (product F (p i) (weight F e i)))
        ∙ weighed_back i (h i)

    -- one symbol of a code, from the one before it
    plain_weighed : (c : ℕ → ℕ) → Elements F c → (i : ℕ) → previous c i ⊕ product F (plain F e c i) (weight F e i) ≡ c i
    unfolding plain
    plain_weighed c h i =
        ap (λ (x : ℕ). previous c i ⊕ x) (back_weighed i (change_element c h i) ∙ sum_comm (c i) (previous c i)) ∙ sum_undo (previous c i) (c i)

    pub coded_plain : (c : ℕ → ℕ) → Elements F c → (i : ℕ) → coded F e (plain F e c) i ≡ c i
    coded_plain c h i = sym (code_turn (plain F e c) i) ∙ ap (λ (x : ℕ). x ⊕ product F (plain F e c i) (weight F e i)) (earlier i) ∙ plain_weighed c h i
      where
        earlier : (i : ℕ) → previous (coded F e (plain F e c)) i ≡ previous c i
        earlier zero = refl
        earlier (suc i) = sym (code_turn (plain F e c) i) ∙ ap (λ (x : ℕ). x ⊕ product F (plain F e c i) (weight F e i)) (earlier i) ∙ plain_weighed c h i

    -- ---- l symbols of a code, from place i on

    moved : (p : ℕ → ℕ) → Elements F p → (i k : ℕ) → weighed p (i + k) ≡ product F (product F (p (i + k)) (power F α (k * 1))) (weight F e i)
    unfolding weighed
    moved p h i k =
        ap (product F (p (i + k)))
        (ap (power F α) (add_assoc i k e ∙ ap (λ (n : ℕ). i + n) (add_comm k e) ∙ sym (add_assoc i e k) ∙ add_comm (i + e) k ∙ ap (λ (n : ℕ). n + (i + e)) (sym (mul-one k)))
        ∙ power_add F (formed F good) (k * 1) (i + e) (α_element F (formed F good)))
        ∙ sym (product_assoc F (formed F good) (h (i + k)) (α_power F (formed F good) (k * 1)) (weight_element i))

    pub code_stretch : (p : ℕ → ℕ) → Elements F p → (i l : ℕ)
        → previous (coded F e p) (i + l) ⊕ previous (coded F e p) i ≡ product F (component F l (λ k. p (i + k)) 1) (weight F e i)
    unfolding component
    code_stretch p h i l =
        ap₂ ◌⊕◌ (previous_coded p (i + l) ∙ total_parts i l (weighed p)) (previous_coded p i)
        ∙ added_twice (total i (weighed p)) (total l (λ k. weighed p (i + k)))
        ∙ total_same l _ _ (λ k below. moved p h i k)
        ∙ sym (total_image (λ x. product F x (weight F e i)) (sum_product F (weight F e i)) l (λ k. product F (p (i + k)) (power F α (k * 1))))
