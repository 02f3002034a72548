-- Component j of the symbols p0, p1, .. is the sum over i of pi · α^(ij).
use Rattle.std.specs.Prelude.{ℕ, zero, suc, ◌*◌, List}
use Rattle.field.specs.Field.{Field, ◌⊕◌, product, power, α}
use Rattle.components.specs.Objects.{symbol, symbols}

-- the sum of f 0 to f (m - 1)
unfoldable pub total : ℕ → (ℕ → ℕ) → ℕ
total zero f = 0
total (suc m) f = total m f ⊕ f m

-- component j of the m symbols p 0 to p (m - 1)
unfoldable pub component : Field → ℕ → (ℕ → ℕ) → ℕ → ℕ
component F m p j = total m (λ i. product F (p i) (power F α (i * j)))

-- an object's own signature, component by component
abbrev pub signature : Field → ℕ → List ℕ → ℕ → ℕ
signature F size bytes j = component F (symbols size bytes) (symbol size bytes) j
