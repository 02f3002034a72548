-- `words::left` meets its contract. The invariant: whole words are left below, and the remainder stands for the object from there on.
-- Assumes nothing.
use Rattle.std.proofs.Common.{◌*◌, length}
use Rattle.words.proofs.Dividing.{Divided}
use Rattle.words.proofs.Reading.{Chunks}
use Rattle.words.proofs.left.Given as goal

abbrev pub invariant-loop-bytes : goal.invariant-loop-bytes
invariant-loop-bytes g l = record {
  below : Chunks l.object l.bytes-iterator.iter.rest.now;
  stands : Divided g.R.Remainder.relation l.object (g.R.Remainder.words l.r) (length l.bytes-iterator.iter.rest.now * 8);
}
