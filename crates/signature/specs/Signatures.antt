-- The algebraic signature: component j of the symbols p0, p1, .. is the sum over i of pi · α^(ij). A signature is its components by number, from 1.
pub use Rattle.components.specs.Components.{signature}
unfoldable pub use Rattle.components.specs.Components.{total, component}
use Rattle.std.specs.Prelude.{ℕ, zero, suc, ◌*◌, cond, leb}
use Rattle.field.specs.Field.{Field, ◌⊕◌, product, power, α}
use Rattle.signature.specs.declared.Signature.{Signature}

-- two parts end to end, the first one of a symbols
abbrev pub joined : Field → (ℕ → ℕ) → ℕ → (ℕ → ℕ) → ℕ → ℕ
joined F first a second j = first j ⊕ product F (second j) (power F α (j * a))

-- old symbols replaced by new ones from symbol r on
abbrev pub edited : Field → (ℕ → ℕ) → ℕ → (ℕ → ℕ) → (ℕ → ℕ) → ℕ → ℕ
edited F s r old new j = s j ⊕ product F (old j ⊕ new j) (power F α (j * r))

-- ---- a signature as it is handed over: n and four symbols

abbrev pub handed : Signature → ℕ → ℕ
handed s zero = 0
handed s (suc zero) = s.s1
handed s (suc (suc zero)) = s.s2
handed s (suc (suc (suc zero))) = s.s3
handed s (suc (suc (suc (suc zero)))) = s.s4
handed s (suc (suc (suc (suc (suc j))))) = 0

-- zero above n
abbrev pub up_to : ℕ → ℕ → ℕ → ℕ
up_to n j x = cond (leb j n) x 0

abbrev pub answered : ℕ → (ℕ → ℕ) → Signature
answered n s = record { n = n; s1 = up_to n 1 (s 1); s2 = up_to n 2 (s 2); s3 = up_to n 3 (s 3); s4 = up_to n 4 (s 4) }
