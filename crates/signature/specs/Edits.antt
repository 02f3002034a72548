-- What it means that a page was edited. Past its end a page holds zeros: a completing zero is part of what it held, and stays zero.
use Rattle.std.specs.Prelude.{◌≡◌, ℕ, ◌+◌, ◌*◌, ◌≤◌, ◌<◌, List, length, get_or}
use Rattle.signature.specs.Objects.{symbols}

-- `after` is `page` with the new bytes in the place of the old ones, from symbol r on
pub record Edited (size : ℕ) (page after : List ℕ) (r : ℕ) (old new : List ℕ) : Type 0 where
  pub same_length : length after ≡ length page
  pub inside : r + symbols size old ≤ symbols size page
  pub held : (k : ℕ) → k < length old → get_or page (r * size + k) 0 ≡ get_or old k 0
  pub holds : (k : ℕ) → k < length new → get_or after (r * size + k) 0 ≡ get_or new k 0
  pub kept_below : (i : ℕ) → i < r * size → get_or after i 0 ≡ get_or page i 0
  pub kept_above : (i : ℕ) → r * size + length old ≤ i → get_or after i 0 ≡ get_or page i 0
