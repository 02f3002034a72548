-- `map::read_entries` meets its contract. The invariant: what is left to read gives what the whole gives.
-- Assumes nothing.
use mathlib.Core.Path.{◌≡◌}
use Prim.Native.Nat.{◌-◌}
use Rattle.units.specs.Refusals.{first}
use Rattle.map.specs.Reading.{entry_tests}
use Rattle.map.specs.Files.{pages}
use Rattle.map.proofs.read_entries.Given as goal

abbrev pub invariant-loop-k : goal.invariant-loop-k
invariant-loop-k l =
    (first (entry_tests l.h.n l.map (pages l.h - l.k) l.fields.place) ≡ first (entry_tests l.h.n l.map (pages l.h) 18))
    × (l.fields.bytes.now ≡ l.map)
