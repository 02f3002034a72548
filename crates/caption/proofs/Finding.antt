-- What a hit means, for every start exponent: the symbols at the place have the pattern's first component. So every true occurrence is found.
-- Assumes nothing.
use mathlib.Core.Path.{◌≡◌, sym, ap, ap₂, ◌∙◌, subst}
use mathlib.Core.Logic.{◌↔◌}
use mathlib.Core.Bool.{true}
use mathlib.Core.List.{List, Memᴰ}
use Prim.Native.Nat.{ℕ, suc, ◌+◌, ◌-◌, ◌%◌, ◌≤◌, ◌<◌}
use native.Mathlib.Omega.{arith}
use lib.ListN.{length}
use borrow.Author.Tests.{eqb-true, eq-eqb, le-leb}
use Rattle.units.specs.Naming.{Upward}
use Rattle.units.proofs.Naming.{named_length, named_exactly, named_upward}
use Rattle.field.specs.Field.{Field, GF16, ◌⊕◌, product}
use Rattle.field.proofs.Tests.{Passes, formed}
use Rattle.field.proofs.Instances.{GF16_passes}
use Rattle.signature.specs.Objects.{Octets, symbol, symbols}
use Rattle.signature.specs.Signatures.{component}
use Rattle.signature.proofs.Components.{Elements, component_element, component_same}
use Rattle.signature.proofs.Octets.{GF16_symbol}
use Rattle.caption.specs.Codes.{previous, weight, coded, plain, hit}
use Rattle.caption.specs.Recoding.{encoded, decoded}
use Rattle.caption.specs.Searches.{places_for, found, Occurs}
use Rattle.caption.proofs.Codes.{previous_same, weights_tell, plain_element, coded_plain, code_stretch}
use Rattle.caption.proofs.Fields.{encoded_octets, decoded_symbols, decoded_symbol, decoded_encoded}

module _ (F : Field) (e : ℕ) (c : ℕ → ℕ) (l : ℕ) (q : ℕ → ℕ) (i : ℕ) where
  -- the rule as the paper has it
  pub hit_rule : 1 ≤ l → (hit F e c l q i ≡ true) ↔ (c (i + l - 1) ⊕ previous c i ≡ product F (component F l q 1) (weight F e i))
  unfolding hit
  hit_rule some =
      let last : previous c (i + l) ≡ c (i + l - 1) = let up : i + l ≡ suc (i + l - 1) = omega arith in ap (previous c) up in
      let sums : previous c (i + l) ⊕ previous c i ≡ c (i + l - 1) ⊕ previous c i = ap (λ (x : ℕ). x ⊕ previous c i) last in
      (λ so. sym sums ∙ eqb-true _ _ so, λ rule. eq-eqb _ _ (sums ∙ rule))

  module _ (good : Passes F) (elements : Elements F c) where
    -- what the symbols at place i add up to in the code
    stretch : previous c (i + l) ⊕ previous c i ≡ product F (component F l (λ k. plain F e c (i + k)) 1) (weight F e i)
    stretch =
        sym (ap₂ ◌⊕◌ (same (i + l)) (same i)) ∙ code_stretch F e good (plain F e c) (plain_element F e good c elements) i l
      where
        same : (j : ℕ) → previous (coded F e (plain F e c)) j ≡ previous c j
        same = previous_same (coded F e (plain F e c)) c (coded_plain F e good c elements)

    pub hit_means : Elements F q → (hit F e c l q i ≡ true) ↔ (component F l (λ k. plain F e c (i + k)) 1 ≡ component F l q 1)
    unfolding hit
    hit_means pattern = (
      λ so.
          weights_tell F e good i
          (component_element F (formed F good) l (λ k. plain F e c (i + k)) 1 (λ k. plain_element F e good c elements (i + k)))
          (component_element F (formed F good) l q 1 pattern)
          (sym stretch ∙ eqb-true _ _ so),
      λ equal. eq-eqb _ _ (stretch ∙ ap (λ (x : ℕ). product F x (weight F e i)) equal),
    )

module _ (e : ℕ) (caption pattern : List ℕ) where
  -- ---- the list is exactly the places that the rule names, upward

  pub search_exactly : (i : ℕ)
      → Memᴰ i (found e caption pattern)
      ↔ ((i < places_for caption pattern) × (hit GF16 e (symbol 2 caption) (symbols 2 pattern) (symbol 2 pattern) i ≡ true))
  unfolding found
  search_exactly i = named_exactly (hit GF16 e (symbol 2 caption) (symbols 2 pattern) (symbol 2 pattern)) (places_for caption pattern) i

  pub search_upward : Upward (found e caption pattern)
  unfolding found
  search_upward = named_upward (hit GF16 e (symbol 2 caption) (symbols 2 pattern) (symbol 2 pattern)) (places_for caption pattern)

  pub found_few : length (found e caption pattern) ≤ places_for caption pattern
  unfolding found
  found_few = named_length (hit GF16 e (symbol 2 caption) (symbols 2 pattern) (symbol 2 pattern)) (places_for caption pattern)

  -- ---- every true occurrence is among them

  module _ (caption-octets : Octets caption) (pattern-octets : Octets pattern) where
    pub occurrence_found : (i : ℕ) → Occurs (decoded e caption) pattern i → Memᴰ i (found e caption pattern)
    occurrence_found i o =
        let l : ℕ = symbols 2 pattern in
        let m : ℕ = symbols 2 caption in
        let inside : i + l ≤ m = omega (arith, o.inside, decoded_symbols e caption) in
        let shorter : l ≤ m = omega arith in
        let places : places_for caption pattern ≡ m - l + 1 = simp (le-leb 1 l o.some, le-leb l m shorter) in
        let below : i < places_for caption pattern = omega (arith, o.some) in
        (search_exactly i).1 (
          below,
          (hit_means GF16 e (symbol 2 caption) l (symbol 2 pattern) i GF16_passes (GF16_symbol caption caption-octets) (GF16_symbol pattern pattern-octets)).1
              (component_same GF16 l _ (symbol 2 pattern) 1
              (λ k before. sym (decoded_symbol e caption caption-octets (i + k) (omega arith)) ∙ o.same k before)),
        )

-- of the plain field that was encoded
pub plain_occurrence_found : (e : ℕ) (caption pattern : List ℕ) → Octets caption → length caption % 2 ≡ 0 → Octets pattern
    → (i : ℕ) → Occurs caption pattern i → Memᴰ i (found e (encoded e caption) pattern)
plain_occurrence_found e caption pattern caption-octets even pattern-octets i o =
    occurrence_found e (encoded e caption) pattern (encoded_octets e caption) pattern-octets i
    (subst (λ (l : List ℕ). Occurs l pattern i) (sym (decoded_encoded e caption caption-octets even)) o)
