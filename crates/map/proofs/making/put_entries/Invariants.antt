-- `map::making::put_entries` meets its contract. The invariant: what is left to write gives what the whole gives.
-- Assumes nothing.
use mathlib.Core.Path.{◌≡◌}
use Prim.Native.Nat.{◌-◌}
use Rattle.units.specs.Writing.{written}
use Rattle.units.specs.Runs.{end_to_end}
use Rattle.map.specs.Making.{made_entry}
use Rattle.map.specs.Files.{pages, place, entry}
use Rattle.map.proofs.making.put_entries.Given as goal

abbrev pub invariant-loop-k : goal.invariant-loop-k
invariant-loop-k l =
    written l.output (place l.h.n l.k) (end_to_end (λ i. entry (made_entry l.h.n l.h.page.count l.bucket i)) l.k (pages l.h - l.k))
    ≡ written l.initial.output 18 (end_to_end (λ i. entry (made_entry l.h.n l.h.page.count l.bucket i)) 0 (pages l.h))
