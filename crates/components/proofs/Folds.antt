-- A fold keeps every component for which its relation holds: with v a solution of the fold's rule, the symbols that v stands for and the few that
-- its lowest ones leave have the same component.
-- Assumes nothing.
use mathlib.Core.Path.{◌≡◌, refl, sym, ap, ◌∙◌, subst}
use mathlib.Core.Bool.{Bool, true, false}
use mathlib.Core.Logic.{dite}
use mathlib.Core.List.{List, [], ◌∷◌}
use Prim.Native.Nat.{ℕ, ◌+◌, ◌-◌, ◌*◌, ◌^◌, ◌≤◌, ◌<◌}
use native.Mathlib.Nat.{add_comm, add-zero, sub-zero, le-add_right}
use native.Mathlib.Decide.{dec_lt}
use native.Mathlib.Omega.{arith}
use lib.Dec.{T, leb, leb→le}
use lib.Pow.{pow_pos}
use Rattle.field.specs.Field.{Field, Element, ◌⊕◌, product, power, α}
use Rattle.field.proofs.Sums.{zero_sum, sum_zero, sum_assoc, sum_self, sum_cross, sum_undo, sum_lt}
use Rattle.field.proofs.Additive.{Additive, at_zero}
use Rattle.field.proofs.Reducing.{product_sum, zero_product}
use Rattle.field.proofs.Products.{Formed}
use Rattle.components.specs.Components.{component}
use Rattle.components.specs.Relations.{Relation, summed, gathered}
use Rattle.components.proofs.Components.{Elements, component_same, component_sum, component_nothing, component_parts}

-- ---- sums over offsets

-- every offset is from 1 to the distance
unfoldable pub inside : ℕ → List ℕ → Bool
inside D [] = true
inside D (o ∷ os) = elim (leb 1 o) [ true ↦ elim (leb o D) [ true ↦ inside D os | false ↦ false ] | false ↦ false ]

record Next (D o : ℕ) (os : List ℕ) : Type 0 where
  up : 1 ≤ o
  down : o ≤ D
  more : T (inside D os)

both : (b c r : Bool) → T (elim b [ true ↦ elim c [ true ↦ r | false ↦ false ] | false ↦ false ]) → T b × T c × T r
both true true r t = (tt, tt, t)
both true false r t = absurd t
both false c r t = absurd t

next : (D o : ℕ) (os : List ℕ) → T (inside D (o ∷ os)) → Next D o os
unfolding inside
next D o os t =
    let (one, two, rest) = both (leb 1 o) (leb o D) (inside D os) t in
    record { up = leb→le 1 o one; down = leb→le o D two; more = rest }

pub summed_same : (D : ℕ) (os : List ℕ) → T (inside D os) → (x : ℕ) (f g : ℕ → ℕ) → ((o : ℕ) → 1 ≤ o → o ≤ D → f o ≡ g o) → summed x os f ≡ summed x os g
unfolding summed
summed_same D [] t x f g e = refl
summed_same D (o ∷ os) t x f g e =
    let n : Next D o os = next D o os t in
    ap (λ (y : ℕ). summed (x ⊕ y) os f) (e o n.up n.down) ∙ summed_same D os n.more (x ⊕ g o) f g e

-- an additive map goes through
pub summed_image : (h : ℕ → ℕ) → Additive h → (os : List ℕ) (x : ℕ) (f : ℕ → ℕ) → h (summed x os f) ≡ summed (h x) os (λ o. h (f o))
unfolding summed
summed_image h additive [] x f = refl
summed_image h additive (o ∷ os) x f =
    summed_image h additive os (x ⊕ f o) f ∙ ap (λ (y : ℕ). summed y os (λ o. h (f o))) (additive x (f o))

pub summed_sum : (os : List ℕ) (x y : ℕ) (f g : ℕ → ℕ) → summed (x ⊕ y) os (λ o. f o ⊕ g o) ≡ summed x os f ⊕ summed y os g
unfolding summed
summed_sum [] x y f g = refl
summed_sum (o ∷ os) x y f g =
    ap (λ (z : ℕ). summed z os (λ o. f o ⊕ g o)) (sum_cross x y (f o) (g o)) ∙ summed_sum os (x ⊕ f o) (y ⊕ g o) f g

pub summed_nothing : (os : List ℕ) → summed 0 os (λ o. 0) ≡ 0
unfolding summed
summed_nothing [] = refl
summed_nothing (o ∷ os) = ap (λ (x : ℕ). summed x os (λ o. 0)) (zero_sum 0) ∙ summed_nothing os

-- x by itself
pub summed_apart : (os : List ℕ) (x : ℕ) (h : ℕ → ℕ) → summed x os h ≡ x ⊕ summed 0 os h
unfolding summed
summed_apart [] x h = sym (sum_zero x)
summed_apart (o ∷ os) x h =
    summed_apart os (x ⊕ h o) h
    ∙ sum_assoc x (h o) (summed 0 os h)
    ∙ ap (λ (y : ℕ). x ⊕ y) (sym (summed_apart os (h o) h) ∙ ap (λ (y : ℕ). summed y os h) (sym (zero_sum (h o))))

pub summed_lt : (w : ℕ) (os : List ℕ) {x : ℕ} (f : ℕ → ℕ) → x < 2 ^ w → ((o : ℕ) → f o < 2 ^ w) → summed x os f < 2 ^ w
unfolding summed
summed_lt w [] f hx hf = hx
summed_lt w (o ∷ os) f hx hf = summed_lt w os f (sum_lt w hx (hf o)) hf

module _ (F : Field) where
  component_summed : (m j : ℕ) (os : List ℕ) (f : ℕ → ℕ) (g : ℕ → ℕ → ℕ)
      → component F m (λ i. summed (f i) os (λ o. g o i)) j ≡ summed (component F m f j) os (λ o. component F m (g o) j)
  unfolding summed
  component_summed m j [] f g = refl
  component_summed m j (o ∷ os) f g =
      component_summed m j os (λ i. f i ⊕ g o i) g
      ∙ ap (λ (x : ℕ). summed x os (λ o. component F m (g o) j)) (component_sum F m f (g o) j)

  module _ (formed : Formed F) where
    -- zeros on top count for nothing
    pub component_more : (m k : ℕ) (p : ℕ → ℕ) (j : ℕ) → ((i : ℕ) → m ≤ i → p i ≡ 0) → component F (m + k) p j ≡ component F m p j
    component_more m k p j none =
        component_parts F formed m k p j (λ i h. subst (Element F) (sym (none (m + i) (le-add_right m i))) (pow_pos F.width))
        ∙ ap (λ (x : ℕ). component F m p j ⊕ product F x (power F α (j * m)))
        (component_nothing F k (λ i. p (m + i)) j (λ i h. none (m + i) (le-add_right m i)))
        ∙ ap (λ (x : ℕ). component F m p j ⊕ x) (zero_product F (power F α (j * m)))
        ∙ sum_zero (component F m p j)

    -- zeros below move the rest up
    component_moved : (b m : ℕ) (p : ℕ → ℕ) (j : ℕ) → Elements F p → ((i : ℕ) → i < b → p i ≡ 0)
        → component F (b + m) p j ≡ product F (component F m (λ i. p (b + i)) j) (power F α (j * b))
    component_moved b m p j elements none =
        component_parts F formed b m p j (λ i h. elements (b + i))
        ∙ ap (λ (x : ℕ). x ⊕ product F (component F m (λ i. p (b + i)) j) (power F α (j * b))) (component_nothing F b p j none)
        ∙ zero_sum _

    -- ---- v holds the symbols of m places, u its first ones up to the distance
    module _ (R : Relation) (good : T (inside R.distance R.offsets)) (j m : ℕ) (v u : ℕ → ℕ) (elements : Elements F v)
        (past : (i : ℕ) → m ≤ i → v i ≡ 0)
        (low : (i : ℕ) → i < R.distance → u i ≡ v i) (cut : (i : ℕ) → R.distance ≤ i → u i ≡ 0) where
      -- what v has from the distance on
      rest : ℕ → ℕ
      rest i = u i ⊕ v i

      rest_low : (i : ℕ) → i < R.distance → rest i ≡ 0
      unfolding rest
      rest_low i h = ap (λ (x : ℕ). x ⊕ v i) (low i h) ∙ sum_self (v i)

      rest_high : (i : ℕ) → R.distance ≤ i → rest i ≡ v i
      unfolding rest
      rest_high i h = ap (λ (x : ℕ). x ⊕ v i) (cut i h) ∙ zero_sum (v i)

      rest_element : Elements F rest
      rest_element i =
          dite (dec_lt i R.distance)
          (λ (h : i < R.distance). subst (Element F) (sym (rest_low i h)) (pow_pos F.width))
          (λ h. subst (Element F) (sym (rest_high i (omega (arith, h)))) (elements i))

      high : ℕ
      high = component F m (λ i. v (R.distance + i)) j

      rest_past : (o i : ℕ) → m ≤ i → rest (i + o) ≡ 0
      rest_past o i h =
          dite (dec_lt (i + o) R.distance)
          (λ (l : i + o < R.distance). rest_low (i + o) l)
          (λ l. rest_high (i + o) (omega (arith, l)) ∙ past (i + o) (omega (arith, h)))

      -- the rest, o places down
      rest_moved : (o : ℕ) → o ≤ R.distance → component F m (λ i. rest (i + o)) j ≡ product F high (power F α (j * (R.distance - o)))
      unfolding high
      rest_moved o h =
          let b : ℕ = R.distance - o in
          sym (component_more m b (λ i. rest (i + o)) j (rest_past o))
          ∙ ap (λ (k : ℕ). component F k (λ i. rest (i + o)) j) (add_comm m b)
          ∙ component_moved b m (λ i. rest (i + o)) j (λ i. rest_element (i + o)) (λ i l. rest_low (i + o) (under i l))
          ∙ ap (λ (x : ℕ). product F x (power F α (j * b)))
          (component_same F m (λ i. rest (b + i + o)) (λ i. v (R.distance + i)) j (λ i l. ap rest (place i) ∙ rest_high (R.distance + i) (le-add_right R.distance i)))
        where
          under : (i : ℕ) → i < R.distance - o → i + o < R.distance
          under i l = omega (arith, h, l)

          place : (i : ℕ) → R.distance - o + i + o ≡ R.distance + i
          place i = omega (arith, h)

      folds_to : (ℕ → ℕ) → ℕ → ℕ
      folds_to f i = gathered (f i) R.offsets f i

      rest_nothing : summed (power F α (j * R.distance)) R.offsets (λ o. power F α (j * (R.distance - o))) ≡ 0
          → component F m (folds_to rest) j ≡ 0
      unfolding folds_to
      rest_nothing holds =
          component_summed m j R.offsets rest (λ o i. rest (i + o))
          ∙ ap (λ (x : ℕ). summed x R.offsets (λ o. component F m (λ i. rest (i + o)) j)) (whole ∙ rest_moved 0 (omega arith))
          ∙ summed_same R.distance R.offsets good _ _ (λ o. product F high (power F α (j * (R.distance - o)))) (λ o l h. rest_moved o h)
          ∙ sym (summed_image (product F high) (product_sum F high) R.offsets (power F α (j * (R.distance - 0))) (λ o. power F α (j * (R.distance - o))))
          ∙ ap (λ (d : ℕ). product F high (summed (power F α (j * d)) R.offsets (λ o. power F α (j * (R.distance - o))))) (sub-zero R.distance)
          ∙ ap (product F high) holds
          ∙ at_zero (product F high) (product_sum F high)
        where
          whole : component F m rest j ≡ component F m (λ i. rest (i + 0)) j
          whole = component_same F m rest (λ i. rest (i + 0)) j (λ i l. ap rest (sym (add-zero i)))

      low_past : (i : ℕ) → R.distance ≤ i → folds_to u i ≡ 0
      unfolding folds_to
      low_past i h =
          ap (λ (x : ℕ). summed x R.offsets (λ o. u (i + o))) (cut i h)
          ∙ summed_same R.distance R.offsets good 0 (λ o. u (i + o)) (λ o. 0) (λ o k l. cut (i + o) (omega (arith, h)))
          ∙ summed_nothing R.offsets

      parts : (i : ℕ) → folds_to v i ≡ folds_to u i ⊕ folds_to rest i
      unfolding folds_to rest
      parts i =
          ap (λ (x : ℕ). summed x R.offsets (λ o. v (i + o))) (sym (sum_undo (u i) (v i)))
          ∙ summed_same R.distance R.offsets good _ (λ o. v (i + o)) (λ o. u (i + o) ⊕ (u (i + o) ⊕ v (i + o))) (λ o k l. sym (sum_undo (u (i + o)) (v (i + o))))
          ∙ summed_sum R.offsets (u i) (u i ⊕ v i) (λ o. u (i + o)) (λ o. u (i + o) ⊕ v (i + o))

      pub folded : R.distance ≤ m → summed (power F α (j * R.distance)) R.offsets (λ o. power F α (j * (R.distance - o))) ≡ 0
          → component F m (λ i. gathered (v i) R.offsets v i) j ≡ component F R.distance (λ i. gathered (u i) R.offsets u i) j
      unfolding folds_to
      folded short holds =
          component_same F m (folds_to v) (λ i. folds_to u i ⊕ folds_to rest i) j (λ i h. parts i)
          ∙ component_sum F m (folds_to u) (folds_to rest) j
          ∙ ap (λ (x : ℕ). component F m (folds_to u) j ⊕ x) (rest_nothing holds)
          ∙ sum_zero (component F m (folds_to u) j)
          ∙ ap (λ (k : ℕ). component F k (folds_to u) j) (sym (add_sub short))
          ∙ component_more R.distance (m - R.distance) (folds_to u) j low_past
        where
          add_sub : R.distance ≤ m → R.distance + (m - R.distance) ≡ m
          add_sub h = omega (arith, h)
