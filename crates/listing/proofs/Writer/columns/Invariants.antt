-- `listing::Writer::columns` meets its contract: one component after the other, each after a space. The invariant: those before j are put.
-- Assumes nothing.
use Prim.Native.Nat.{◌+◌, ◌-◌, ◌≤◌}
use mathlib.Core.List.{◌∷◌}
use Rattle.units.specs.Runs.{end_to_end}
use Rattle.signature.specs.Signatures.{handed}
use Rattle.listing.specs.Digits.{hex}
use Rattle.listing.specs.Writers.{Puts}
use Rattle.listing.proofs.Writer.columns.Given as goal

abbrev pub invariant-loop-j : goal.invariant-loop-j
invariant-loop-j l =
    Puts (end_to_end (λ i. 32 ∷ hex (handed l.s i)) 1 (l.j - 1)) l.initial.self l.self × (l.j ≤ l.s.n + 1)
