-- A block of numbers of which the first ones are set.
use Rattle.std.specs.Prelude.{◌≡◌, ℕ, ◌≤◌, ◌<◌, List, length, get_or}

-- the numbers before place l are set, each to its value, and the others are as they were
pub record Set (value : ℕ → ℕ) (old : List ℕ) (l : ℕ) (new : List ℕ) : Type 0 where
  pub long : length new ≡ length old
  pub done : (k : ℕ) → k < l → get_or new k 0 ≡ value k
  pub kept : (k : ℕ) → l ≤ k → get_or new k 0 ≡ get_or old k 0
