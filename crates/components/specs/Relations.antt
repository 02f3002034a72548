-- A relation of α: its power `distance` is the sum of its powers `distance - o` over the offsets o, and so for α^j with each j up to some n.
-- Symbols are folded by it: what stands `distance` up counts as standing at each of those places.
use Rattle.std.specs.Prelude.{◌≡◌, ℕ, ◌+◌, ◌-◌, ◌*◌, List, [], ◌∷◌}
use Rattle.field.specs.Field.{GF16, ◌⊕◌, power, α}

pub record Relation : Type 0 where
  pub distance : ℕ
  pub offsets : List ℕ

-- x and h at each offset, summed
unfoldable pub summed : ℕ → List ℕ → (ℕ → ℕ) → ℕ
summed x [] h = x
summed x (o ∷ os) h = summed (x ⊕ h o) os h

-- x and what stands at each offset above i, summed
abbrev pub gathered : ℕ → List ℕ → (ℕ → ℕ) → ℕ → ℕ
gathered x os f i = summed x os (λ o. f (i + o))

-- offsets of symbols, as offsets of bytes
abbrev pub in_bytes : List ℕ → List ℕ
in_bytes [] = []
in_bytes (o ∷ os) = o * 2 ∷ in_bytes os

-- it holds for component j
abbrev pub Holds : Relation → ℕ → Type 0
Holds R j = summed (power GF16 α (j * R.distance)) R.offsets (λ o. power GF16 α (j * (R.distance - o))) ≡ 0

-- ---- the relations in use: for long objects a far one, for two components and for four

-- x^938 = x^186 + 1
abbrev pub pair_far : Relation
pair_far = record { distance = 938; offsets = 752 ∷ 938 ∷ [] }

-- x^796 = x^241 + x^83 + x^80 + 1
abbrev pub four_far : Relation
four_far = record { distance = 796; offsets = 555 ∷ 713 ∷ 716 ∷ 796 ∷ [] }

-- ---- and for what it leaves, in words: the field's own polynomial for components 1, 2 and 4, and another for component 3

-- x^16 = 1 + x + x^3 + x^12
abbrev pub own : Relation
own = record { distance = 16; offsets = 16 ∷ 15 ∷ 13 ∷ 4 ∷ [] }

-- x^40 = 1 + x^7 + x^28 + x^32 + x^36
abbrev pub third : Relation
third = record { distance = 40; offsets = 40 ∷ 33 ∷ 12 ∷ 8 ∷ 4 ∷ [] }
