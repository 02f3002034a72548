-- Counting in pieces, rounded up, by a division.
-- Assumes nothing.
use mathlib.Core.Path.{◌≡◌}
use mathlib.Core.Logic.{◌≢◌}
use Prim.Native.Nat.{ℕ, suc, ◌+◌, ◌-◌, ◌*◌, ◌/◌, ◌%◌, ◌≤◌, ◌<◌}
use native.Mathlib.Nat.{mod-lt, add-mul, one-mul, div-add-mod', div-eq_of_lt-le, suc-mul, le-div_iff_mul-le, div-lt_iff_lt-mul}
use native.Mathlib.Omega.{arith}
use Rattle.units.specs.Counts.{pieces}

module _ (size bytes : ℕ) (some : 0 < size) where
  next_piece : (k : ℕ) → (k + 1) * size ≡ k * size + size
  next_piece k = omega (arith, add-mul k 1 size, one-mul size)

  rest_below : bytes % size < size
  rest_below = mod-lt bytes some

  pub pieces_whole : bytes % size ≡ 0 → pieces size bytes ≡ bytes / size
  pieces_whole none =
      let split : bytes / size * size + bytes % size ≡ bytes = div-add-mod' bytes size in
      let above : (bytes / size + 1) * size ≡ bytes / size * size + size = next_piece (bytes / size) in
      div-eq_of_lt-le size (omega arith) (omega arith)

  pub pieces_part : bytes % size ≢ 0 → pieces size bytes ≡ bytes / size + 1
  pieces_part left =
      let split : bytes / size * size + bytes % size ≡ bytes = div-add-mod' bytes size in
      let below : bytes % size < size = rest_below in
      let positive : 0 < bytes % size = omega arith in
      let this : (bytes / size + 1) * size ≡ bytes / size * size + size = next_piece (bytes / size) in
      let above : (bytes / size + 1 + 1) * size ≡ (bytes / size + 1) * size + size = next_piece (bytes / size + 1) in
      div-eq_of_lt-le size (omega arith) (omega arith)

  -- a piece begins before the end
  pub piece_begins : (k : ℕ) → k < pieces size bytes → k * size < bytes
  piece_begins k below =
      let more : suc k ≤ pieces size bytes = omega arith in
      let product : suc k * size ≤ bytes + (size - 1) = (le-div_iff_mul-le {k = size} some).0 more in
      omega (arith, suc-mul k size)

  -- and the pieces together reach it
  pub pieces_reach : bytes ≤ pieces size bytes * size
  pieces_reach =
      let below : pieces size bytes < suc (pieces size bytes) = omega arith in
      let product : bytes + (size - 1) < suc (pieces size bytes) * size = (div-lt_iff_lt-mul {k = size} some).0 below in
      omega (arith, suc-mul (pieces size bytes) size)
