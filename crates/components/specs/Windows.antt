-- What folding does to a window of bytes, loop by loop. A window holds what the fold has made of the places from some place of the page on.
use Rattle.std.specs.Prelude.{◌≡◌, List, ℕ, ◌+◌, ◌≤◌, ◌<◌, length, get_or, take}
use Rattle.components.specs.Relations.{gathered}

-- a block is taken in, from its top down: each byte is summed with what stands at the offsets above it
pub record Down (os block before after : List ℕ) : Type 0 where
  pub turned : (k : ℕ) → k < length block → get_or after k 0 ≡ gathered (get_or block k 0) os (λ i. get_or after i 0) k
  pub kept : (k : ℕ) → length block ≤ k → get_or after k 0 ≡ get_or before k 0

-- the first `reach` bytes are copied to place `up`
pub record Raised (up reach : ℕ) (before after : List ℕ) : Type 0 where
  pub copied : (k : ℕ) → k < reach → get_or after (up + k) 0 ≡ get_or before k 0

-- the rule undone over the first `reach` bytes, past which there count zeros: what is left of all that was folded
pub record Landed (os : List ℕ) (reach : ℕ) (window after : List ℕ) : Type 0 where
  pub undone : (k : ℕ) → k < reach → get_or after k 0 ≡ gathered (get_or (take reach window) k 0) os (λ i. get_or (take reach window) i 0) k
