-- `fold::fold` meets its contract. The invariant: the window stands for the page above the blocks that are left, which are whole.
-- Assumes nothing.
use mathlib.Core.Path.{◌≡◌}
use Prim.Native.Nat.{◌%◌}
use lib.ListN.{length}
use Rattle.std.specs.Slice.Exact.{rchunks_exact_rest, rchunks_exact_size}
use Rattle.components.specs.Objects.{Octets}
use Rattle.fold.proofs.Standing.{Standing}
use Rattle.fold.proofs.fold.Given as goal

abbrev pub invariant-loop-part : goal.invariant-loop-part
invariant-loop-part g l = record {
  stands : Standing g.R.Relation.known g.R.Relation.up_to l.page (rchunks_exact_rest l.part-iterator) l.window;
  size : rchunks_exact_size l.part-iterator ≡ l.block;
  even : length (rchunks_exact_rest l.part-iterator) % l.block ≡ 0;
  octets : Octets l.window;
}
