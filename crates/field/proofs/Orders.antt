-- In a field that passes the tests, the order of α is exactly 2^width - 1 and every element but 0 is a power of α, so that each has an
-- inverse and no product of two of them is 0.
-- Assumes nothing.
use mathlib.Core.Path.{◌≡◌, sym, ap, ◌∙◌}
use mathlib.Core.Logic.{◌≢◌, ◌↔◌, dite}
use Prim.Native.Nat.{ℕ, zero, suc, ◌+◌, ◌-◌, ◌*◌, ◌/◌, ◌%◌, ◌≤◌, ◌<◌}
use native.Mathlib.Nat.{div-add-mod, mod-lt, mod-eq_of_lt, pos_of_ne-zero, add-sub_of_le, lt_of_le_of_lt, le_of_lt, sub-le}
use native.Mathlib.Decide.{dec_le, ℕ_discrete}
use native.Mathlib.Omega.{arith}
use lib.Pow.{pow-lt}
use Rattle.field.specs.Field.{Field, Element, ◌⊕◌, product, power, α, order}
use Rattle.field.proofs.Pigeonhole.{onto}
use Rattle.field.proofs.Powers.{product_zero, α_element, α_power, power_zero, power_add, power_mul, power_one}
use Rattle.field.proofs.Products.{product_comm, product_assoc, one_product}
use Rattle.field.proofs.Reducing.{zero_product, product_sum}
use Rattle.field.proofs.Sums.{sum_self, sum_lt, equal_of_sum}
use Rattle.field.proofs.Tests.{Passes, formed, α_returns, α_divisor}

module _ (F : Field) (good : Passes F) where
  a_power : (k : ℕ) → Element F (power F α k)
  a_power k = α_power F (formed F good) k

  together : (i j : ℕ) → power F α (i + j) ≡ product F (power F α i) (power F α j)
  together i j = power_add F (formed F good) i j (α_element F (formed F good))

  -- a whole number of rounds changes nothing
  rounds : (m q r : ℕ) → power F α m ≡ 1 → power F α (m * q + r) ≡ power F α r
  rounds m q r e =
      together (m * q) r
      ∙ ap (λ (x : ℕ). product F x (power F α r))
      (power_mul F (formed F good) m q (α_element F (formed F good)) ∙ ap (λ (x : ℕ). power F x q) e ∙ power_one F (formed F good) q)
      ∙ one_product F (formed F good) (a_power r)

  rest : (m k : ℕ) → power F α m ≡ 1 → power F α k ≡ power F α (k % m)
  rest m k e = ap (power F α) (sym (div-add-mod k m)) ∙ rounds m (k / m) (k % m) e

  order_pos : 0 < order F
  order_pos = omega (arith, pow-lt {i = 0} {j = F.width} (omega (arith, (formed F good).wide)))

  never : (bound k : ℕ) → k ≤ bound → 0 < k → k < order F → power F α k ≢ 1
  never zero k h pos lt e = omega arith
  never (suc bound) k h pos lt e =
      dite (ℕ_discrete (order F % k) 0)
      (λ (z : order F % k ≡ 0). α_divisor F good k lt z e)
      (λ (n : order F % k ≢ 0).
      let small : order F % k < k = mod-lt (order F) pos in
      never bound (order F % k) (omega arith) (pos_of_ne-zero n) (omega arith) (sym (rest k (order F) e) ∙ α_returns F good))

  pub power_mod : (k : ℕ) → power F α k ≡ power F α (k % order F)
  power_mod k = rest (order F) k (α_returns F good)

  pub order_exact : (k : ℕ) → (power F α k ≡ 1) ↔ (k % order F ≡ 0)
  order_exact k = (there, back)
    where
      there : power F α k ≡ 1 → k % order F ≡ 0
      there e =
          dite (ℕ_discrete (k % order F) 0) (λ z. z)
          (λ n.
          absurd
          (never (order F) (k % order F) (le_of_lt (mod-lt k order_pos)) (pos_of_ne-zero n) (mod-lt k order_pos) (sym (power_mod k) ∙ e)))

      back : k % order F ≡ 0 → power F α k ≡ 1
      back z = power_mod k ∙ ap (power F α) z ∙ power_zero F (formed F good) α

  -- a power and what is left to a whole round
  undone : (k : ℕ) → k ≤ order F → product F (power F α k) (power F α (order F - k)) ≡ 1
  undone k h = sym (together k (order F - k)) ∙ ap (power F α) (add-sub_of_le h) ∙ α_returns F good

  pub power_undone : (k : ℕ) → product F (power F α k) (power F α (order F - k % order F)) ≡ 1
  power_undone k = ap (λ (x : ℕ). product F x (power F α (order F - k % order F))) (power_mod k) ∙ undone (k % order F) (le_of_lt (mod-lt k order_pos))

  apart_below : (i j : ℕ) → i ≤ j → j < order F → power F α i ≡ power F α j → i ≡ j
  apart_below i j h hj e =
      let gone : (j - i) % order F ≡ 0 = (order_exact (j - i)).0 one_left in
      let small : (j - i) % order F ≡ j - i = mod-eq_of_lt (lt_of_le_of_lt (sub-le j i) hj) in
      omega arith
    where
      one_left : power F α (j - i) ≡ 1
      one_left =
          sym (one_product F (formed F good) (a_power (j - i)))
          ∙ ap (λ (x : ℕ). product F x (power F α (j - i)))
          (sym (undone i (le_of_lt (lt_of_le_of_lt h hj))) ∙ product_comm F (formed F good) (a_power i) (a_power (order F - i)))
          ∙ product_assoc F (formed F good) (a_power (order F - i)) (a_power i) (a_power (j - i))
          ∙ ap (product F (power F α (order F - i))) (sym (together i (j - i)) ∙ ap (power F α) (add-sub_of_le h) ∙ sym e)
          ∙ product_comm F (formed F good) (a_power (order F - i)) (a_power i)
          ∙ undone i (le_of_lt (lt_of_le_of_lt h hj))

  pub powers_distinct : (i j : ℕ) → i < order F → j < order F → power F α i ≡ power F α j → i ≡ j
  powers_distinct i j hi hj e =
      dite (dec_le i j) (λ h. apart_below i j h hj e) (λ n. sym (apart_below j i (omega arith) hi (sym e)))

  pub power_not_zero : (k : ℕ) → power F α k ≢ 0
  power_not_zero k e =
      let whole : product F (power F α (k % order F)) (power F α (order F - k % order F)) ≡ 1 = undone (k % order F) (le_of_lt (mod-lt k order_pos)) in
      let none : product F (power F α (k % order F)) (power F α (order F - k % order F)) ≡ 0 =
      ap (λ (x : ℕ). product F x (power F α (order F - k % order F))) (sym (power_mod k) ∙ e) ∙ zero_product F (power F α (order F - k % order F)) in
      omega arith

  power_pos : (k : ℕ) → 0 < power F α k
  power_pos k = pos_of_ne-zero (power_not_zero k)

  -- the powers, counted from 0: each lies below the order, and no two are one
  below_order : (k : ℕ) → k < order F → power F α k - 1 < order F
  below_order k h = omega (arith, a_power k, power_pos k)

  pub logarithm : {a : ℕ} → Element F a → a ≢ 0 → (k : ℕ) × (k < order F) × (power F α k ≡ a)
  logarithm {a} ha n =
      let (k, hk, e) = onto (order F) (λ k. power F α k - 1) below_order apart_less (a - 1) (omega (arith, pos_of_ne-zero n)) in
      (k, hk, same (power F α k) a (power_pos k) (pos_of_ne-zero n) e)
    where
      same : (x y : ℕ) → 0 < x → 0 < y → x - 1 ≡ y - 1 → x ≡ y
      same x y hx hy e = omega arith

      apart_less : (i j : ℕ) → i < order F → j < order F → power F α i - 1 ≡ power F α j - 1 → i ≡ j
      apart_less i j hi hj e = powers_distinct i j hi hj (same (power F α i) (power F α j) (power_pos i) (power_pos j) e)

  pub inverse : {a : ℕ} → Element F a → a ≢ 0 → (b : ℕ) × Element F b × (product F a b ≡ 1)
  inverse {a} ha n =
      let (k, hk, e) = logarithm ha n in
      (power F α (order F - k), a_power (order F - k), ap (λ (x : ℕ). product F x (power F α (order F - k))) (sym e) ∙ undone k (le_of_lt hk))

  pub no_zero_divisors : {a b : ℕ} → Element F a → Element F b → product F a b ≡ 0 → a ≢ 0 → b ≡ 0
  no_zero_divisors {a} {b} ha hb e n =
      let (c, hc, q) = inverse ha n in
      sym (one_product F (formed F good) hb)
      ∙ ap (λ (x : ℕ). product F x b) (sym q ∙ product_comm F (formed F good) ha hc)
      ∙ product_assoc F (formed F good) hc ha hb
      ∙ ap (product F c) e
      ∙ product_zero F (formed F good) c

  -- so a factor may be taken off
  pub cancel : {d a b : ℕ} → Element F d → Element F a → Element F b → d ≢ 0 → product F d a ≡ product F d b → a ≡ b
  cancel {d} {a} {b} hd ha hb n e =
      equal_of_sum a b
      (no_zero_divisors hd (sum_lt F.width ha hb) (product_sum F d a b ∙ ap (λ (x : ℕ). x ⊕ product F d b) e ∙ sum_self (product F d b)) n)
