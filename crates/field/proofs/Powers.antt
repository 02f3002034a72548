-- Powers of an element, and the two loops by which a product and a power are worked out: both halve their last number at each turn.
-- Assumes nothing.
use mathlib.Core.Path.{◌≡◌, refl, sym, ap, ap₂, ◌∙◌, subst}
use Prim.Native.Nat.{ℕ, zero, suc, ◌+◌, ◌*◌, ◌/◌, ◌%◌, ◌^◌, ◌<◌}
use native.Mathlib.Nat.{add-suc, add-zero, mul-suc, mul_comm, add_comm, div-add-mod', mod-lt, zero-lt-suc, lt_of_le_of_lt, div-le_self, div-mul-le_self, mul-zero, le-mul_of_pos_right}
use native.Mathlib.Omega.{arith}
use lib.Arith.{lt-one}
use native.Mathlib.Numerals.{add-one}
use lib.Pow.{pow-lt, shr_lt}
use Rattle.field.specs.Field.{Field, Element, ◌⊕◌, scaled, product, doubled, power, α}
use Rattle.field.proofs.Sums.{sum_comm, sum_assoc, sum_left_comm, zero_sum, sum_zero, sum_split}
use Rattle.field.proofs.Additive.{at_zero}
use Rattle.field.proofs.Reducing.{reduced_below, product_sum}
use Rattle.field.proofs.Products.{Formed, one_element, doubled_element, product_element, product_doubled, product_assoc, product_one, one_product, product_two}

half_lt : (n y : ℕ) → y < 2 ^ suc n → y / 2 < 2 ^ n
half_lt n y h = shr_lt n 1 (subst (λ (k : ℕ). y < 2 ^ k) (sym (add-one n)) h)

module _ (F : Field) where
  -- a product in n turns: the low digit of y says whether x is added to r
  unfoldable pub worked : ℕ → ℕ → ℕ → ℕ → ℕ
  worked zero r x y = r
  worked (suc n) r x y = worked n (scaled (y % 2) x ⊕ r) (doubled F x) (y / 2)

  -- r, times s where the digit is not 0
  unfoldable pub raised : ℕ → ℕ → ℕ → ℕ
  raised zero r s = r
  raised (suc d) r s = worked F.width 0 r s

  -- r · s^e in n turns: the low digit of e says whether r takes s in
  unfoldable pub climbed : ℕ → ℕ → ℕ → ℕ → ℕ
  climbed zero r s e = r
  climbed (suc n) r s e = climbed n (raised (e % 2) r s) (worked F.width 0 s s) (e / 2)

module _ (F : Field) (formed : Formed F) where
  pub α_element : Element F 2
  α_element = pow-lt formed.wide

  pub power_zero : (a : ℕ) → power F a 0 ≡ 1
  unfolding power
  power_zero a = refl

  pub power_element : {a : ℕ} (k : ℕ) → Element F a → Element F (power F a k)
  unfolding power
  power_element zero h = one_element F formed
  power_element {a} (suc k) h = product_element F formed a (power_element k h)

  pub α_power : (k : ℕ) → Element F (power F α k)
  α_power k = power_element k α_element

  pub power_add : {a : ℕ} (i j : ℕ) → Element F a → power F a (i + j) ≡ product F (power F a i) (power F a j)
  unfolding power
  power_add {a} i zero h = ap (power F a) (add-zero i) ∙ sym (product_one F formed (power_element i h))
  power_add {a} i (suc j) h =
      ap (power F a) (add-suc i j)
      ∙ ap (λ (x : ℕ). product F x a) (power_add i j h)
      ∙ product_assoc F formed (power_element i h) (power_element j h) h

  pub power_mul : {a : ℕ} (i j : ℕ) → Element F a → power F a (i * j) ≡ power F (power F a i) j
  unfolding power
  power_mul {a} i zero h = ap (power F a) (mul-zero i)
  power_mul {a} i (suc j) h =
      ap (power F a) (mul-suc i j) ∙ power_add (i * j) i h ∙ ap (λ (x : ℕ). product F x (power F a i)) (power_mul i j h)

  pub power_one : (k : ℕ) → power F 1 k ≡ 1
  unfolding power
  power_one zero = refl
  power_one (suc k) = product_one F formed (power_element k (one_element F formed)) ∙ power_one k

  -- ---- the product, by the halves of its second number

  pub product_zero : (a : ℕ) → product F a 0 ≡ 0
  product_zero a = at_zero (product F a) (product_sum F a)

  product_digit : (d : ℕ) {a : ℕ} → d < 2 → Element F a → product F a d ≡ scaled d a
  product_digit zero {a} h ha = product_zero a
  product_digit (suc zero) h ha = product_one F formed ha
  product_digit (suc (suc d)) h ha = absurd (omega arith)

  even_doubled : (b : ℕ) → b * 2 < 2 ^ F.width → product F b 2 ≡ b * 2
  unfolding doubled
  even_doubled b h = product_two F formed (lt_of_le_of_lt (le-mul_of_pos_right b (zero-lt-suc 1)) h) ∙ reduced_below F 1 h

  product_halves : {a b : ℕ} → Element F a → Element F b → product F a b ≡ scaled (b % 2) a ⊕ product F (doubled F a) (b / 2)
  product_halves {a} {b} ha hb =
      ap (product F a) (sym (sum_split (b / 2) 1 (mod-lt b (zero-lt-suc 1)) ∙ div-add-mod' b 2))
      ∙ product_sum F a (b / 2 * 2) (b % 2)
      ∙ sum_comm (product F a (b / 2 * 2)) (product F a (b % 2))
      ∙ ap₂ ◌⊕◌ (product_digit (b % 2) (mod-lt b (zero-lt-suc 1)) ha)
      (ap (product F a) (sym (even_doubled (b / 2) (lt_of_le_of_lt (div-mul-le_self b 2) hb)))
      ∙ sym (product_assoc F formed ha half α_element)
      ∙ product_two F formed (product_element F formed (b / 2) ha)
      ∙ sym (product_doubled F formed (b / 2) ha))
    where
      half : Element F (b / 2)
      half = lt_of_le_of_lt (div-le_self b 2) hb

  -- a turn of the loop: the low digit of y says whether x is added to r
  pub product_turn : (r : ℕ) {x y : ℕ} → Element F x → Element F y → scaled (y % 2) x ⊕ r ⊕ product F (doubled F x) (y / 2) ≡ r ⊕ product F x y
  product_turn r {x} {y} hx hy =
      sum_assoc (scaled (y % 2) x) r (product F (doubled F x) (y / 2))
      ∙ sum_left_comm (scaled (y % 2) x) r (product F (doubled F x) (y / 2))
      ∙ ap (λ (n : ℕ). r ⊕ n) (sym (product_halves hx hy))

  worked_product : (n r : ℕ) {x y : ℕ} → Element F x → Element F y → y < 2 ^ n → worked F n r x y ≡ r ⊕ product F x y
  unfolding worked
  worked_product zero r {x} {y} hx hy h =
      sym (ap (λ (b : ℕ). r ⊕ product F x b) (lt-one h) ∙ ap (λ (b : ℕ). r ⊕ b) (product_zero x) ∙ sum_zero r)
  worked_product (suc n) r {x} {y} hx hy h =
      worked_product n (scaled (y % 2) x ⊕ r) (doubled_element F formed hx) (lt_of_le_of_lt (div-le_self y 2) hy) (half_lt n y h)
      ∙ product_turn r hx hy

  times : {x y : ℕ} → Element F x → Element F y → worked F F.width 0 x y ≡ product F x y
  times {x} {y} hx hy = worked_product F.width 0 hx hy hy ∙ zero_sum (product F x y)

  -- ---- the power, by the halves of its exponent

  pub power_once : {s : ℕ} → Element F s → power F s 1 ≡ s
  unfolding power
  power_once hs = one_product F formed hs

  power_two : {s : ℕ} → Element F s → power F s 2 ≡ product F s s
  unfolding power
  power_two {s} hs = ap (λ (x : ℕ). product F x s) (power_once hs)

  -- a turn that doubles: α goes from the power to the other factor
  pub power_doubled : (k : ℕ) {r : ℕ} → Element F r → product F (doubled F r) (power F α k) ≡ product F r (power F α (suc k))
  unfolding power
  power_doubled k {r} hr =
      product_doubled F formed (power F α k) hr
      ∙ sym (product_two F formed (product_element F formed (power F α k) hr))
      ∙ product_assoc F formed hr (α_power k) α_element

  pub power_halves : (e : ℕ) {r s : ℕ} → Element F r → Element F s
      → product F r (power F s e) ≡ product F (product F r (power F s (e % 2))) (power F (product F s s) (e / 2))
  power_halves e {r} {s} hr hs =
      ap (product F r)
      (ap (power F s) (sym (div-add-mod' e 2) ∙ add_comm (e / 2 * 2) (e % 2) ∙ ap (λ (x : ℕ). e % 2 + x) (mul_comm (e / 2) 2))
      ∙ power_add (e % 2) (2 * (e / 2)) hs
      ∙ ap (product F (power F s (e % 2))) (power_mul 2 (e / 2) hs ∙ ap (λ (x : ℕ). power F x (e / 2)) (power_two hs)))
      ∙ sym (product_assoc F formed hr (power_element (e % 2) hs) (power_element (e / 2) (product_element F formed s hs)))

  raised_power : (d : ℕ) {r s : ℕ} → d < 2 → Element F r → Element F s → raised F d r s ≡ product F r (power F s d)
  unfolding raised power
  raised_power zero h hr hs = sym (product_one F formed hr)
  raised_power (suc zero) {r} h hr hs = times hr hs ∙ ap (product F r) (sym (power_once hs))
  raised_power (suc (suc d)) h hr hs = absurd (omega arith)

  pub climbed_power : (n : ℕ) {r s : ℕ} (e : ℕ) → Element F r → Element F s → e < 2 ^ n → climbed F n r s e ≡ product F r (power F s e)
  unfolding climbed power
  climbed_power zero {r} {s} e hr hs h = sym (ap (λ (x : ℕ). product F r (power F s x)) (lt-one h) ∙ product_one F formed hr)
  climbed_power (suc n) {r} {s} e hr hs h =
      ap₂ (λ (x y : ℕ). climbed F n x y (e / 2)) (raised_power (e % 2) (mod-lt e (zero-lt-suc 1)) hr hs) (times hs hs)
      ∙ climbed_power n (e / 2) (product_element F formed (power F s (e % 2)) hr) (product_element F formed s hs) (half_lt n e h)
      ∙ sym (power_halves e hr hs)
