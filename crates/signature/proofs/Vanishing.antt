-- Why few changes are never missed: if at most k of the symbols are not zero, and components 1 to k are all zero, then every symbol is zero.
-- By induction on the positions: multiplied by the last position's power of α and added to the next component, a component loses its last symbol.
-- Assumes nothing.
use mathlib.Core.Path.{◌≡◌, sym, ap, ap₂, ◌∙◌}
use mathlib.Core.Logic.{◌≢◌, dite, ⊎_elim}
use mathlib.Core.Bool.{Bool, true, false, not, cond}
use Prim.Native.Nat.{ℕ, zero, suc, ◌+◌, ◌*◌, ◌≤◌, ◌<◌, suc-le-suc}
use native.Mathlib.Nat.{not-suc-le-zero, le_of_suc-le-suc, le_of_lt, le_step, zero-lt-suc, eq-or-lt_of_le, mul-suc, add_comm, lt_trans, le_trans, le-add_right}
use native.Mathlib.Decide.{ℕ_discrete}
use native.Mathlib.Omega.{arith}
use lib.Dec.{eqb}
use borrow.Author.Tests.{eq-eqb, ne_eqb, eqb-true, not-false}
use Rattle.field.specs.Field.{Field, Element, ◌⊕◌, product, power, α, order}
use Rattle.field.proofs.Sums.{zero_sum, sum_zero, sum_self, sum_lt, equal_of_sum}
use Rattle.field.proofs.Reducing.{product_sum, sum_product, zero_product}
use Rattle.field.proofs.Products.{product_element, product_comm, product_assoc}
use Rattle.field.proofs.Powers.{α_element, α_power, power_add, product_zero}
use Rattle.field.proofs.Tests.{Passes, formed}
use Rattle.field.proofs.Orders.{powers_distinct, power_not_zero, no_zero_divisors}
use Rattle.signature.specs.Signatures.{total, component}
use Rattle.signature.specs.Differences.{count}
use Rattle.components.proofs.Totals.{total_same, total_sum, total_image}
use Rattle.signature.proofs.Counting.{count_le}
use Rattle.components.proofs.Components.{Elements, component_nothing}

-- a symbol that counts
abbrev pub present : (ℕ → ℕ) → ℕ → Bool
present d i = not (eqb (d i) 0)

module _ (F : Field) (good : Passes F) where
  a_power : (k : ℕ) → Element F (power F α k)
  a_power = α_power F (formed F good)

  -- each symbol times what its position's power of α differs by from c
  reduced : (ℕ → ℕ) → ℕ → ℕ → ℕ
  reduced d c i = product F (d i) (power F α i ⊕ c)

  term : (i j c : ℕ) {x : ℕ} → Element F x → Element F c
      → product F (product F x (power F α i ⊕ c)) (power F α (i * j))
      ≡ product F x (power F α (i * suc j)) ⊕ product F (product F x (power F α (i * j))) c
  term i j c {x} hx hc =
      ap (λ (y : ℕ). product F y (power F α (i * j))) (product_sum F x (power F α i) c)
      ∙ sum_product F (power F α (i * j)) (product F x (power F α i)) (product F x c)
      ∙ ap₂ ◌⊕◌
      (product_assoc F (formed F good) hx (a_power i) (a_power (i * j))
      ∙ ap (product F x) (sym (power_add F (formed F good) i (i * j) (α_element F (formed F good))) ∙ ap (power F α) (add_comm i (i * j) ∙ sym (mul-suc i j))))
      (product_assoc F (formed F good) hx hc (a_power (i * j))
      ∙ ap (product F x) (product_comm F (formed F good) hc (a_power (i * j)))
      ∙ sym (product_assoc F (formed F good) hx (a_power (i * j)) hc))

  reduced_component : (m : ℕ) (d : ℕ → ℕ) (c j : ℕ) → Elements F d → Element F c
      → component F m (reduced d c) j ≡ component F m d (suc j) ⊕ product F (component F m d j) c
  unfolding component reduced
  reduced_component m d c j elements hc =
      total_same m _ _ (λ i h. term i j c (elements i) hc)
      ∙ total_sum m (λ i. product F (d i) (power F α (i * suc j))) (λ i. product F (product F (d i) (power F α (i * j))) c)
      ∙ ap (λ (x : ℕ). total m (λ i. product F (d i) (power F α (i * suc j))) ⊕ x)
      (sym (total_image (λ x. product F x c) (sum_product F c) m (λ i. product F (d i) (power F α (i * j)))))

  -- a last symbol that is zero adds nothing
  component_last : (t : ℕ) (d : ℕ → ℕ) (j : ℕ) → d t ≡ 0 → component F (suc t) d j ≡ component F t d j
  unfolding component total
  component_last t d j e =
      ap (λ (x : ℕ). component F t d j ⊕ product F x (power F α (t * j))) e
      ∙ ap (λ (x : ℕ). component F t d j ⊕ x) (zero_product F (power F α (t * j)))
      ∙ sum_zero (component F t d j)

  -- and alone it would be the whole component
  component_alone : (t : ℕ) (d : ℕ → ℕ) (j : ℕ) → component F t d j ≡ 0 → component F (suc t) d j ≡ product F (d t) (power F α (t * j))
  unfolding component total
  component_alone t d j e = ap (λ (x : ℕ). x ⊕ product F (d t) (power F α (t * j))) e ∙ zero_sum (product F (d t) (power F α (t * j)))

  cancelled : {x y : ℕ} → Element F x → Element F y → product F x y ≡ 0 → y ≢ 0 → x ≡ 0
  cancelled hx hy e n = no_zero_divisors F good hy hx (product_comm F (formed F good) hy hx ∙ e) n

  -- components 1 to k are zero
  abbrev pub Vanish : ℕ → ℕ → (ℕ → ℕ) → Type 0
  Vanish k m d = (j : ℕ) → j < k → component F m d (suc j) ≡ 0

  reduced_vanishes : (k t : ℕ) (d : ℕ → ℕ) → Elements F d → Vanish (suc k) (suc t) d → Vanish k t (reduced d (power F α t))
  unfolding reduced
  reduced_vanishes k t d elements zeros j h =
      sym (component_last t (reduced d (power F α t)) (suc j) (ap (product F (d t)) (sum_self (power F α t)) ∙ product_zero F (formed F good) (d t)))
      ∙ reduced_component (suc t) d (power F α t) (suc j) elements (a_power t)
      ∙ ap₂ (λ (x y : ℕ). x ⊕ product F y (power F α t)) (zeros (suc j) (suc-le-suc h)) (zeros j (le_step h))
      ∙ ap (λ (x : ℕ). 0 ⊕ x) (zero_product F (power F α t))
      ∙ zero_sum 0

  -- the last symbol, where all before it are zero
  last_zero : (t : ℕ) (d : ℕ → ℕ) → Elements F d → ((i : ℕ) → i < t → d i ≡ 0) → component F (suc t) d 1 ≡ 0 → d t ≡ 0
  last_zero t d elements before zero_one =
      cancelled (elements t) (a_power (t * 1)) (sym (component_alone t d 1 (component_nothing F t d 1 before)) ∙ zero_one) (power_not_zero F good (t * 1))

  -- that few symbols among the first m, and components 1 to k zero, leave none
  abbrev Cleared : ℕ → Type 0
  Cleared m = (k : ℕ) (d : ℕ → ℕ) → Elements F d → count m (present d) ≤ k → Vanish k m d → (i : ℕ) → i < m → d i ≡ 0

  apart : (i t : ℕ) → i < t → t < order F → power F α i ⊕ power F α t ≢ 0
  apart i t h short e =
      let same : i ≡ t = powers_distinct F good i t (lt_trans h short) short (equal_of_sum (power F α i) (power F α t) e) in
      omega arith

  not_present : (d : ℕ → ℕ) (c i : ℕ) → present d i ≡ false → present (reduced d c) i ≡ false
  unfolding reduced
  not_present d c i e =
      ap not (eq-eqb (product F (d i) (power F α i ⊕ c)) 0
      (ap (λ (x : ℕ). product F x (power F α i ⊕ c)) (eqb-true (d i) 0 (not-false (eqb (d i) 0) e)) ∙ zero_product F (power F α i ⊕ c)))

  last_present : (t k : ℕ) (d : ℕ → ℕ) → Elements F d → t < order F → Cleared t → d t ≢ 0 → count (suc t) (present d) ≤ k → Vanish k (suc t) d → ⊥
  unfolding count reduced
  last_present t zero d elements short cleared n few zeros =
      let one : present d t ≡ true = ap not (ne_eqb (d t) 0 n) in
      let more : count t (present d) + 1 ≤ 0 = simp one at few in
      omega arith
  last_present t (suc k) d elements short cleared n few zeros = n (last_zero t d elements before (zeros 0 (zero-lt-suc k)))
    where
      fewer : count t (present (reduced d (power F α t))) ≤ k
      fewer =
          let one : present d t ≡ true = ap not (ne_eqb (d t) 0 n) in
          let more : count t (present d) + 1 ≤ suc k = simp one at few in
          let less : count t (present (reduced d (power F α t))) ≤ count t (present d) =
          count_le t (present (reduced d (power F α t))) (present d) (λ i h. not_present d (power F α t) i) in
          omega arith

      before : (i : ℕ) → i < t → d i ≡ 0
      before i h =
          cancelled (elements i) (sum_lt F.width (a_power i) (a_power t))
          (cleared k (reduced d (power F α t)) (λ i. product_element F (formed F good) (power F α i ⊕ power F α t) (elements i)) fewer
          (reduced_vanishes k t d elements zeros) i h)
          (apart i t h short)

  pub all_zero : (m : ℕ) → m ≤ order F → Cleared m
  unfolding count
  all_zero zero short k d elements few zeros i h = absurd (not-suc-le-zero h)
  all_zero (suc t) short k d elements few zeros i h =
      dite (ℕ_discrete (d t) 0)
      (λ (z : d t ≡ 0).
      ⊎_elim
      (λ (e : i ≡ t). ap d e ∙ z)
      (λ (l : i < t).
      all_zero t (le_of_lt short) k d elements (le_trans (le-add_right (count t (present d)) (cond (present d t) 1 0)) few)
      (λ j l. sym (component_last t d (suc j) z) ∙ zeros j l) i l)
      (eq-or-lt_of_le (le_of_suc-le-suc h)))
      (λ (n : d t ≢ 0). absurd (last_present t k d elements short (all_zero t (le_of_lt short)) n few zeros))
