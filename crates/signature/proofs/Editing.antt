-- An edit of a page's own signature, with the bytes that the page really held, is the signature of the edited page.
-- Assumes nothing.
use mathlib.Core.Path.{◌≡◌, sym, ap, ap₂, ◌∙◌, subst}
use mathlib.Core.List.{List}
use Prim.Native.Nat.{ℕ, ◌+◌, ◌-◌, ◌*◌, ◌^◌, ◌≤◌, ◌<◌}
use native.Mathlib.Nat.{add-mul, mul-le-mul_right}
use native.Mathlib.Omega.{arith}
use lib.ListN.{length}
use Rattle.units.specs.Counts.{symbols_in}
use Rattle.field.specs.Field.{Field, Element, ◌⊕◌, product, power, α}
use Rattle.field.proofs.Sums.{sum_zero, zero_sum, sum_undo}
use Rattle.field.proofs.Reducing.{zero_product}
use Rattle.field.proofs.Products.{Formed}
use Rattle.signature.specs.Objects.{Octets, symbol, symbols}
use Rattle.signature.specs.Signatures.{component, signature, edited}
use Rattle.signature.specs.Edits.{Edited}
use Rattle.components.proofs.Components.{component_same, component_sum, component_nothing, component_parts}
use Rattle.components.proofs.Octets.{difference, difference_element, same_difference}
use Rattle.signature.proofs.Parts.{byte_inside, symbols_whole, symbol_same, symbol_part}

module _ (F : Field) (formed : Formed F) (size : ℕ) (some : 0 < size) (wide : 256 ^ size ≤ 2 ^ F.width) where
  -- a change of c symbols from r on, among r + (c + rest)
  change_only : (r c rest : ℕ) (d : ℕ → ℕ) (j : ℕ) → ((i : ℕ) → Element F (d i)) → ((i : ℕ) → i < r → d i ≡ 0) → ((i : ℕ) → r + c ≤ i → d i ≡ 0)
      → component F (r + (c + rest)) d j ≡ product F (component F c (λ i. d (r + i)) j) (power F α (j * r))
  change_only r c rest d j elements below above =
      component_parts F formed r (c + rest) d j (λ i h. elements (r + i))
      ∙ ap₂ (λ (x y : ℕ). x ⊕ product F y (power F α (j * r))) (component_nothing F r d j below)
      (component_parts F formed c rest (λ i. d (r + i)) j (λ i h. elements (r + (c + i)))
      ∙ ap (λ (x : ℕ). component F c (λ i. d (r + i)) j ⊕ product F x (power F α (j * c)))
      (component_nothing F rest (λ i. d (r + (c + i))) j (λ i h. above (r + (c + i)) (omega arith)))
      ∙ ap (λ (x : ℕ). component F c (λ i. d (r + i)) j ⊕ x) (zero_product F (power F α (j * c)))
      ∙ sum_zero (component F c (λ i. d (r + i)) j))
      ∙ zero_sum _

  module _ (page after : List ℕ) (r : ℕ) (old new : List ℕ) (c : ℕ)
      (e : Edited size page after r old new) (old_whole : length old ≡ c * size) (new-whole : length new ≡ c * size)
      (page_octets : Octets page) (after-octets : Octets after) where
    same_below : (i : ℕ) → i < r → symbol size page i ≡ symbol size after i
    same_below i h = symbol_same size page after i (λ k l. sym (e.kept_below (i * size + k) (byte_inside size r i k h l)))

    same_above : (i : ℕ) → r + c ≤ i → symbol size page i ≡ symbol size after i
    same_above i h =
        symbol_same size page after i
        (λ k l.
        let up : (r + c) * size ≤ i * size = mul-le-mul_right size h in
        sym (e.kept_above (i * size + k) (omega (arith, add-mul r c size, old_whole))))

    difference_inside : (i : ℕ) → i < c → difference size page after (r + i) ≡ symbol size old i ⊕ symbol size new i
    unfolding difference
    difference_inside i h =
        ap₂ ◌⊕◌
        (symbol_part size page old r c (λ k l. e.held k (subst (λ (n : ℕ). k < n) (sym old_whole) l)) i h)
        (symbol_part size after new r c (λ k l. e.holds k (subst (λ (n : ℕ). k < n) (sym new-whole) l)) i h)

    length_split : symbols size page ≡ r + (c + (symbols size page - (r + c)))
    length_split =
        let inside : r + symbols size old ≤ symbols size page = e.inside in
        let some-old : symbols size old ≡ c = symbols_whole size some old c old_whole in
        omega arith

    pub edit_law : (j : ℕ) → signature F size after j ≡ edited F (signature F size page) r (signature F size old) (signature F size new) j
    unfolding difference
    edit_law j =
        ap (λ (n : ℕ). component F (symbols_in size n) (symbol size after) j) e.same_length
        ∙ component_same F (symbols size page) (symbol size after) (λ i. symbol size page i ⊕ difference size page after i) j
        (λ i h. sym (sum_undo (symbol size page i) (symbol size after i)))
        ∙ component_sum F (symbols size page) (symbol size page) (difference size page after) j
        ∙ ap (λ (x : ℕ). component F (symbols size page) (symbol size page) j ⊕ x)
        (ap (λ (m : ℕ). component F m (difference size page after) j) length_split
        ∙ change_only r c (symbols size page - (r + c)) (difference size page after) j
        (difference_element F size wide page after page_octets after-octets) (λ i h. same_difference size page after i (same_below i h)) (λ i h. same_difference size page after i (same_above i h))
        ∙ ap (λ (x : ℕ). product F x (power F α (j * r)))
        (component_same F c (λ i. difference size page after (r + i)) (λ i. symbol size old i ⊕ symbol size new i) j difference_inside
        ∙ component_sum F c (symbol size old) (symbol size new) j
        ∙ ap₂ (λ (x y : ℕ). component F x (symbol size old) j ⊕ component F y (symbol size new) j)
        (sym (symbols_whole size some old c old_whole)) (sym (symbols_whole size some new c new-whole))))
