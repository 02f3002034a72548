-- The computed tests that a field record passes for α to reach every element but 0. A reducible polynomial fails them, and so does an
-- irreducible one of which x is no primitive element.
-- Assumes nothing.
use mathlib.Core.Path.{◌≡◌, sym, ◌∙◌, subst, subst⁻¹}
use mathlib.Core.Logic.{◌≢◌, ⊎_elim}
use mathlib.Core.Bool.{Bool, true, false, not}
use Prim.Native.Nat.{ℕ, zero, suc, ◌/◌, ◌%◌, ◌^◌, ◌<◌}
use native.Mathlib.Nat.{not-suc-le-zero, le_of_suc-le-suc, eq-or-lt_of_le, suc-ne-zero, lt_trans}
use lib.Dec.{T, leb, eqb, leb→le, eqb→eq, T_not}
use lib.Pow.{ones_lt}
use Rattle.field.specs.Field.{Field, power, α, order}
use Rattle.field.proofs.Products.{Formed, one_element, one_product}
use Rattle.field.proofs.Powers.{climbed, climbed_power, α_element, power_element}

-- the test f passes at each number below n
unfoldable pub below : (ℕ → Bool) → ℕ → Bool
below f zero = true
below f (suc n) = elim (f n) [ true ↦ below f n | false ↦ false ]

below_both : (b : Bool) (r : Bool) → T (elim b [ true ↦ r | false ↦ false ]) → T b × T r
below_both true r t = (tt, t)
below_both false r t = absurd t

pub at_below : (f : ℕ → Bool) (n : ℕ) → T (below f n) → (k : ℕ) → k < n → T (f k)
unfolding below
at_below f zero t k h = absurd (not-suc-le-zero h)
at_below f (suc n) t k h =
    ⊎_elim
    (λ (e : k ≡ n). subst (λ (i : ℕ). T (f i)) (sym e) (below_both (f n) (below f n) t).0)
    (λ (l : k < n). at_below f n (below_both (f n) (below f n) t).1 k l)
    (eq-or-lt_of_le (le_of_suc-le-suc h))

unfoldable pub α_climbed : Field → ℕ → ℕ
α_climbed F k = climbed F F.width 1 α k

-- k does not divide the order, or α^k is not 1
unfoldable pub no_return : Field → ℕ → Bool
no_return F k = elim (eqb (order F % k) 0) [ true ↦ not (eqb (α_climbed F k) 1) | false ↦ true ]

pub record Passes (F : Field) : Type 0 where
  pub wide : T (leb 2 F.width)
  pub degree : T (eqb (F.polynomial / 2 ^ F.width) 1)
  pub returns : T (eqb (α_climbed F (order F)) 1)
  pub not_sooner : T (below (no_return F) (order F))

module _ (F : Field) (good : Passes F) where
  pub formed : Formed F
  formed =
      record { wide = leb→le 2 F.width good.wide; degree = eqb→eq (F.polynomial / 2 ^ F.width) 1 good.degree }

  pub α_climbs : (k : ℕ) → k < 2 ^ F.width → α_climbed F k ≡ power F α k
  unfolding α_climbed
  α_climbs k h =
      climbed_power F formed F.width k (one_element F formed) (α_element F formed) h
      ∙ one_product F formed (power_element F formed k (α_element F formed))

  order_lt : order F < 2 ^ F.width
  order_lt = ones_lt F.width

  pub α_returns : power F α (order F) ≡ 1
  α_returns = sym (α_climbs (order F) order_lt) ∙ eqb→eq (α_climbed F (order F)) 1 good.returns

  -- what the test says of a divisor
  told : (d x : ℕ) → d ≡ 0 → T (elim (eqb d 0) [ true ↦ not (eqb x 1) | false ↦ true ]) → x ≢ 1
  told zero x e t q = T_not (eqb x 1) t (subst⁻¹ (λ (n : ℕ). T (eqb n 1)) q tt)
  told (suc d) x e t q = absurd (suc-ne-zero d e)

  pub α_divisor : (k : ℕ) → k < order F → order F % k ≡ 0 → power F α k ≢ 1
  unfolding no_return
  α_divisor k h e q =
      told (order F % k) (α_climbed F k) e (at_below (no_return F) (order F) good.not_sooner k h)
      (α_climbs k (lt_trans h order_lt) ∙ q)
