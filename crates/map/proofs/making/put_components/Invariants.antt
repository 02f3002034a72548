-- `map::making::put_components` meets its contract. The invariant: what is left to write gives what the whole gives.
-- Assumes nothing.
use mathlib.Core.Path.{◌≡◌}
use Prim.Native.Nat.{◌+◌, ◌-◌, ◌*◌}
use Rattle.units.specs.Runs.{end_to_end}
use Rattle.units.specs.Writing.{written}
use Rattle.signature.specs.Objects.{low_bytes}
use Rattle.signature.specs.Signatures.{handed}
use Rattle.map.specs.Files.{components}
use Rattle.map.proofs.making.put_components.Given as goal

abbrev pub invariant-loop-j : goal.invariant-loop-j
invariant-loop-j l =
    written l.output (2 * l.j) (end_to_end (λ i. low_bytes 2 (handed l.s i)) (l.j + 1) (l.s.n - l.j)) ≡ components l.s.n (handed l.s)
