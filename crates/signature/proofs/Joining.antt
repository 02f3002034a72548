-- A join of two parts' own signatures is the signature of the parts end to end, if the first part is whole symbols.
-- Assumes nothing.
use mathlib.Core.Path.{◌≡◌, sym, ap, ap₂, ◌∙◌, subst}
use mathlib.Core.List.{List, ◌++◌}
use Prim.Native.Nat.{ℕ, ◌*◌, ◌^◌, ◌≤◌, ◌<◌}
use lib.ListN.{length}
use Rattle.field.specs.Field.{Field, Element, ◌⊕◌, product, power, α}
use Rattle.field.proofs.Products.{Formed}
use Rattle.signature.specs.Objects.{Octets, symbol, symbols}
use Rattle.signature.specs.Signatures.{component, signature, joined}
use Rattle.components.proofs.Components.{component_same, component_parts}
use Rattle.components.proofs.Octets.{symbol_element}
use Rattle.signature.proofs.Parts.{symbols_whole, symbols_parts, symbol_first, symbol_second}

module _ (F : Field) (formed : Formed F) (size : ℕ) (some : 0 < size) (wide : 256 ^ size ≤ 2 ^ F.width) where
  pub join_law : (first second : List ℕ) (a : ℕ) → length first ≡ a * size → Octets second
      → (j : ℕ) → signature F size (first ++ second) j ≡ joined F (signature F size first) a (signature F size second) j
  join_law first second a whole octets j =
      ap (λ (m : ℕ). component F m (symbol size (first ++ second)) j) (symbols_parts size some first second a whole)
      ∙ component_parts F formed a (symbols size second) (symbol size (first ++ second)) j
      (λ i h. subst (Element F) (sym (symbol_second size some first second a whole i)) (symbol_element F size wide second octets i))
      ∙ ap₂ (λ (x y : ℕ). x ⊕ product F y (power F α (j * a)))
      (component_same F a (symbol size (first ++ second)) (symbol size first) j (symbol_first size some first second a whole)
      ∙ ap (λ (m : ℕ). component F m (symbol size first) j) (sym (symbols_whole size some first a whole)))
      (component_same F (symbols size second) _ (symbol size second) j (λ i h. symbol_second size some first second a whole i))
