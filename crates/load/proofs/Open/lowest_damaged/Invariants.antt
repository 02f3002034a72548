-- `load::Open::lowest_damaged` meets its contract. The invariant: the first damaged page of those left is the first of all.
-- Assumes nothing.
use mathlib.Core.Path.{◌≡◌}
use Prim.Native.Nat.{◌-◌}
use Rattle.units.specs.Naming.{first_named}
use Rattle.map.specs.Files.{pages}
use Rattle.load.specs.Loads.{damaged, lowest_damaged}
use Rattle.load.proofs.Open.lowest_damaged.Given as goal

abbrev pub invariant-loop-k : goal.invariant-loop-k
invariant-loop-k l =
    let o : _ = l.fn.self in
    first_named (damaged o.h o.image.now o.map.now) (pages o.h - l.k) l.k ≡ lowest_damaged o.h o.image.now o.map.now
