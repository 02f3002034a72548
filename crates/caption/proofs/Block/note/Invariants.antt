-- `caption::Block::note` meets its contract. The invariant: the hits before place i + k are noted.
-- Assumes nothing.
use mathlib.Core.Path.{◌≡◌}
use mathlib.Core.List.{List}
use mathlib.Core.Bool.{Bool}
use Prim.Native.Nat.{ℕ, ◌+◌, ◌≤◌, ◌<◌}
use lib.ListN.{length}
use Rattle.caption.specs.Blocks.{hit_at, Notes}
use Rattle.caption.proofs.Block.note.Given as goal

abbrev pub invariant-loop-k : goal.invariant-loop-k
invariant-loop-k l =
    record {
      few : l.hits.found ≤ l.self.i + l.k;
      long : length l.hits.list.now ≡ length l.initial.hits.list.now;
      same_list : l.hits.list.ghost_name ≡ l.initial.hits.list.ghost_name;
      noted : (test : ℕ → Bool) (old : List ℕ) → length old ≡ length l.initial.hits.list.now
          → ((j : ℕ) → j < length l.self.weighed.now → test (l.self.i + j) ≡ hit_at l.self j)
          → Notes test old l.self.i l.initial.hits → Notes test old (l.self.i + l.k) l.hits;
    }
