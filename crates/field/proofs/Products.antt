-- Sum and product make a commutative ring of the elements, for every field record whose polynomial has the degree that it claims.
-- Assumes nothing.
use mathlib.Core.Path.{◌≡◌, refl, sym, ap, ap₂, ◌∙◌, subst}
use Prim.Native.Nat.{ℕ, zero, suc, ◌+◌, ◌*◌, ◌/◌, ◌%◌, ◌^◌, ◌≤◌, ◌<◌}
use native.Mathlib.Nat.{pow-suc, mul-one, add_comm, add-zero, suc-add, zero-add, div_self, le_refl, le_of_suc-le, le_of_suc-le-suc}
use native.Mathlib.Nat.{le_dest, zero-lt-suc, not-suc-le-zero, mul-mod_left, eq-or-lt_of_le, one-mul, div-lt_iff_lt-mul, div-eq_of_lt-le, lt_trans, mod-eq_of_lt}
use mathlib.Core.Logic.{⊎_elim, dite}
use native.Mathlib.Decide.{dec_lt}
use native.Mathlib.Omega.{arith}
use lib.Bits.{bit_xor, xor_comm, xor_mod, xor_shr}
use lib.Pow.{pow_pos, pow-lt, pow-add, shl-shr}
use Rattle.field.specs.Field.{Field, Element, ◌⊕◌, digit, scaled, reduced, product, doubled}
use Rattle.field.proofs.Sums.{zero_sum, sum_zero, sum_lt}
use Rattle.field.proofs.Additive.{at_zero, at_scaled, agree}
use Rattle.field.proofs.Reducing.{digit_above, reduced_below, doubled_sum, product_sum, sum_product, doublings, spread, product_spread}

pub record Formed (F : Field) : Type 0 where
  pub wide : 1 < F.width
  pub degree : F.polynomial / 2 ^ F.width ≡ 1

-- ---- the digits of a power of two

digit_same : (k : ℕ) → digit k (2 ^ k) ≡ 1
unfolding digit
digit_same k = ap (λ (n : ℕ). n % 2) (div_self (pow_pos k))

digit_below : (i j : ℕ) → digit i (2 ^ (suc j + i)) ≡ 0
unfolding digit
digit_below i j =
    ap (λ (n : ℕ). n % 2) (ap (λ (n : ℕ). n / 2 ^ i) (pow-add 2 (suc j) i) ∙ shl-shr (2 ^ suc j) i ∙ pow-suc 2 j) ∙ mul-mod_left (2 ^ j) 2

digit_other : (i k : ℕ) → i < k → digit i (2 ^ k) ≡ 0
digit_other i k h =
    let (j, e) = le_dest h in
    ap (λ (n : ℕ). digit i (2 ^ n)) (sym e ∙ suc-add i j ∙ ap suc (add_comm i j) ∙ sym (suc-add j i)) ∙ digit_below i j

scaled_lt : (n d : ℕ) {a : ℕ} → a < 2 ^ n → scaled d a < 2 ^ n
scaled_lt n zero h = pow_pos n
scaled_lt n (suc d) h = h

-- two polynomials of degree w: their sum has a lower one
tops_cancel : (w u v : ℕ) → u / 2 ^ w ≡ 1 → v / 2 ^ w ≡ 1 → u ⊕ v < 2 ^ w
unfolding ◌⊕◌
tops_cancel w u v p q =
    subst (λ (n : ℕ). bit_xor u v < n) (one-mul (2 ^ w))
    ((div-lt_iff_lt-mul (pow_pos w)).0 (subst (λ (n : ℕ). n < 1) (sym (xor_shr u v w ∙ ap₂ bit_xor p q)) (zero-lt-suc 0)))

module _ (F : Field) where
  doublings_add : (i j a : ℕ) → doublings F i (doublings F j a) ≡ doublings F (i + j) a
  unfolding doublings
  doublings_add zero j a = ap (λ (n : ℕ). doublings F n a) (sym (zero-add j))
  doublings_add (suc i) j a = ap (doubled F) (doublings_add i j a) ∙ ap (λ (n : ℕ). doublings F n a) (sym (suc-add i j))

  -- a power of two has one digit
  spread_miss : (n k a : ℕ) → n ≤ k → spread F n a (2 ^ k) ≡ 0
  unfolding spread
  spread_miss zero k a h = refl
  spread_miss (suc i) k a h =
      ap₂ (λ (d x : ℕ). scaled d (doublings F i a) ⊕ x) (digit_other i k h) (spread_miss i k a (le_of_suc-le h)) ∙ zero_sum 0

  spread_hit : (n k a : ℕ) → k < n → spread F n a (2 ^ k) ≡ doublings F k a
  unfolding spread
  spread_hit zero k a h = absurd (not-suc-le-zero h)
  spread_hit (suc i) k a h =
      ⊎_elim
      (λ (e : k ≡ i).
      subst (λ (n : ℕ). scaled (digit n (2 ^ k)) (doublings F n a) ⊕ spread F n a (2 ^ k) ≡ doublings F k a) e
      (ap₂ (λ (d x : ℕ). scaled d (doublings F k a) ⊕ x) (digit_same k) (spread_miss k k a (le_refl k)) ∙ sum_zero (doublings F k a)))
      (λ (l : k < i).
      ap₂ (λ (d x : ℕ). scaled d (doublings F i a) ⊕ x) (digit_above i (pow-lt l)) (spread_hit i k a l) ∙ zero_sum (doublings F k a))
      (eq-or-lt_of_le (le_of_suc-le-suc h))

  spread_doubled : (n a b : ℕ) → spread F n (doubled F a) b ≡ doubled F (spread F n a b)
  unfolding spread doublings
  spread_doubled zero a b = sym (at_zero (doubled F) (doubled_sum F))
  spread_doubled (suc i) a b =
      ap₂ ◌⊕◌
      (ap (scaled (digit i b)) (doublings_add i 1 a ∙ ap (λ (n : ℕ). doublings F n a) (add_comm i 1) ∙ sym (doublings_add 1 i a))
      ∙ sym (at_scaled (doubled F) (doubled_sum F) (digit i b) (doublings F i a)))
      (spread_doubled i a b)
      ∙ sym (doubled_sum F (scaled (digit i b) (doublings F i a)) (spread F i a b))

  module _ (formed : Formed F) where
    over_one : {a : ℕ} → Element F a → 2 ^ F.width ≤ a * 2 → a * 2 / 2 ^ F.width ≡ 1
    over_one {a} h g = div-eq_of_lt-le {k = 1} (2 ^ F.width) (omega arith) (omega arith)

    -- where the shift reaches x^width, the polynomial is taken off
    doubled_over : {a : ℕ} → Element F a → 2 ^ F.width ≤ a * 2 → doubled F a ≡ F.polynomial ⊕ a * 2
    unfolding doubled reduced digit
    doubled_over {a} h g =
        ap₂ (λ (d x : ℕ). scaled d x ⊕ a * 2)
        (ap (λ (i : ℕ). a * 2 / 2 ^ i % 2) (add-zero F.width) ∙ ap (λ (n : ℕ). n % 2) (over_one h g)) (mul-one F.polynomial)

    pub doubled_element : {a : ℕ} → Element F a → Element F (doubled F a)
    unfolding doubled
    doubled_element {a} h =
        dite (dec_lt (a * 2) (2 ^ F.width))
        (λ l. subst (λ (n : ℕ). n < 2 ^ F.width) (sym (reduced_below F 1 l)) l)
        (λ g.
        subst (λ (n : ℕ). n < 2 ^ F.width) (sym (doubled_over h (omega arith)))
        (tops_cancel F.width F.polynomial (a * 2) formed.degree (over_one h (omega arith))))

    -- doubling in a machine word of the field's width, whose shift drops x^width
    pub doubled_small : (a : ℕ) → a * 2 < 2 ^ F.width → a * 2 % 2 ^ F.width ≡ doubled F a
    unfolding doubled
    doubled_small a h = mod-eq_of_lt h ∙ sym (reduced_below F 1 h)

    pub doubled_large : {a : ℕ} → Element F a → 2 ^ F.width ≤ a * 2 → a * 2 % 2 ^ F.width ⊕ F.polynomial % 2 ^ F.width ≡ doubled F a
    unfolding ◌⊕◌
    doubled_large {a} h g =
        xor_comm (a * 2 % 2 ^ F.width) (F.polynomial % 2 ^ F.width)
        ∙ sym (xor_mod F.polynomial (a * 2) F.width)
        ∙ ap (λ (n : ℕ). n % 2 ^ F.width) (sym (doubled_over h g))
        ∙ mod-eq_of_lt (doubled_element h)

    doublings_element : (i : ℕ) {a : ℕ} → Element F a → Element F (doublings F i a)
    unfolding doublings
    doublings_element zero h = h
    doublings_element (suc i) h = doubled_element (doublings_element i h)

    spread_element : (n : ℕ) {a : ℕ} (b : ℕ) → Element F a → Element F (spread F n a b)
    unfolding spread
    spread_element zero b h = pow_pos F.width
    spread_element (suc i) {a} b h = sum_lt F.width (scaled_lt F.width (digit i b) (doublings_element i h)) (spread_element i b h)

    pub product_element : {a : ℕ} (b : ℕ) → Element F a → Element F (product F a b)
    product_element {a} b h = subst (λ (n : ℕ). n < 2 ^ F.width) (sym (product_spread F b h)) (spread_element F.width b h)

    product_power : (k : ℕ) {a : ℕ} → k < F.width → Element F a → product F a (2 ^ k) ≡ doublings F k a
    product_power k {a} hk h = product_spread F (2 ^ k) h ∙ spread_hit F.width k a hk

    pub product_doubled : {a : ℕ} (b : ℕ) → Element F a → product F (doubled F a) b ≡ doubled F (product F a b)
    product_doubled {a} b h =
        product_spread F b (doubled_element h) ∙ spread_doubled F.width a b ∙ ap (doubled F) (sym (product_spread F b h))

    product_doublings : (k : ℕ) {a : ℕ} (b : ℕ) → Element F a → product F (doublings F k a) b ≡ doublings F k (product F a b)
    unfolding doublings
    product_doublings zero b h = refl
    product_doublings (suc k) b h = product_doubled b (doublings_element k h) ∙ ap (doubled F) (product_doublings k b h)

    pub one_element : Element F 1
    one_element = pow-lt (lt_trans (zero-lt-suc 0) formed.wide)

    doublings_one : (i : ℕ) → i < F.width → doublings F i 1 ≡ 2 ^ i
    unfolding doublings doubled
    doublings_one zero h = refl
    doublings_one (suc i) h =
        ap (doubled F) (doublings_one i (le_of_suc-le h))
        ∙ ap (reduced F 1) (sym (pow-suc 2 i))
        ∙ reduced_below F 1 (pow-lt h)

    powers_comm : (i j : ℕ) → i < F.width → j < F.width → product F (2 ^ i) (2 ^ j) ≡ doublings F (j + i) 1
    powers_comm i j hi hj =
        product_power j hj (pow-lt hi) ∙ ap (doublings F j) (sym (doublings_one i hi)) ∙ doublings_add j i 1

    power_comm : (j : ℕ) → j < F.width → (a : ℕ) → Element F a → product F a (2 ^ j) ≡ product F (2 ^ j) a
    power_comm j hj =
        agree (λ a. product F a (2 ^ j)) (product F (2 ^ j)) (sum_product F (2 ^ j)) (product_sum F (2 ^ j)) F.width
        (λ i hi. powers_comm i j hi hj ∙ ap (λ (n : ℕ). doublings F n 1) (add_comm j i) ∙ sym (powers_comm j i hj hi))

    pub product_comm : {a b : ℕ} → Element F a → Element F b → product F a b ≡ product F b a
    product_comm {a} {b} ha hb =
        agree (product F a) (λ b. product F b a) (product_sum F a) (sum_product F a) F.width (λ j hj. power_comm j hj a ha) b hb

    pub product_assoc : {a b c : ℕ} → Element F a → Element F b → Element F c → product F (product F a b) c ≡ product F a (product F b c)
    product_assoc {a} {b} {c} ha hb hc =
        agree (product F (product F a b)) (λ x. product F a (product F b x)) (product_sum F (product F a b))
        (λ x y. ap (product F a) (product_sum F b x y) ∙ product_sum F a (product F b x) (product F b y))
        F.width
        (λ k hk.
        product_power k hk (product_element b ha)
        ∙ ap (doublings F k) (product_comm ha hb)
        ∙ sym (product_doublings k a hb)
        ∙ product_comm (doublings_element k hb) ha
        ∙ ap (product F a) (sym (product_power k hk hb)))
        c hc

    pub product_one : {a : ℕ} → Element F a → product F a 1 ≡ a
    unfolding doublings
    product_one ha = product_power 0 (lt_trans (zero-lt-suc 0) formed.wide) ha

    pub one_product : {a : ℕ} → Element F a → product F 1 a ≡ a
    one_product ha = product_comm one_element ha ∙ product_one ha

    pub product_two : {a : ℕ} → Element F a → product F a 2 ≡ doubled F a
    unfolding doublings
    product_two ha = product_power 1 formed.wide ha
