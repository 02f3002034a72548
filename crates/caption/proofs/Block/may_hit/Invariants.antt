-- `caption::Block::may_hit` meets its contract. The invariant: where none is marked, none of the k places is hit.
-- Assumes nothing.
use mathlib.Core.Path.{◌≡◌}
use mathlib.Core.Bool.{false}
use Prim.Native.Nat.{ℕ, ◌<◌}
use Rattle.caption.specs.Blocks.{hit_at}
use Rattle.caption.proofs.Block.may_hit.Given as goal

abbrev pub invariant-loop-k : goal.invariant-loop-k
invariant-loop-k l =
    l.some ≡ false → (j : ℕ) → j < l.k → hit_at l.self j ≡ false
