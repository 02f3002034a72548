-- What the loops that fold ask for and give.
use Rattle.std.specs.Prelude.{◌≡◌, ℕ, ◌+◌, ◌*◌, ◌≤◌, ◌<◌, List, [], ◌∷◌, length, get_or, take}
use Rattle.field.specs.Field.{GF16, ◌⊕◌}
use Rattle.components.specs.Components.{signature}
use Rattle.components.specs.Relations.{Relation, in_bytes}

-- the bytes that a relation leaves
abbrev pub reach : Relation → ℕ
reach R = R.distance * 2

-- each offset is at least half of what is left, and at most all of it
abbrev pub Between : ℕ → List ℕ → Type 0
Between half [] = Unit {0}
Between half (o ∷ os) = (half ≤ o) × (o ≤ half * 2) × Between half os

-- so a window is landed in place
pub record Far (R : Relation) : Type 0 where
  pub some : 0 < R.distance
  pub offsets : Between R.distance (in_bytes R.offsets)

-- ---- the loops

-- a window of zeros for a block of whole symbols, which is no shorter than what the relation leaves
pub record Fits (R : Relation) (window : List ℕ) : Type 0 where
  pub block : ℕ
  pub whole : length window ≡ (block + R.distance) * 2
  pub some : 0 < block
  pub roomy : R.distance ≤ block
  pub zeros : (k : ℕ) → get_or window k 0 ≡ 0

-- the same components, up to the nth
pub record Kept (n : ℕ) (page left : List ℕ) : Type 0 where
  pub kept : (j : ℕ) → 1 ≤ j → j ≤ n → signature GF16 2 left j ≡ signature GF16 2 page j

-- what a window holds from one place to another, added to its first bytes
pub record Added (from to : ℕ) (before after : List ℕ) : Type 0 where
  pub added : (k : ℕ) → k < to → get_or after k 0 ≡ get_or before k 0 ⊕ get_or (take to before) (k + from) 0
