-- `listing::fill_digits` meets its contract. The invariant: what is left to write gives what the whole gives.
-- Assumes nothing.
use mathlib.Core.Path.{◌≡◌}
use lib.ListN.{length}
use Rattle.units.specs.Writing.{written}
use Rattle.listing.specs.Digits.{digits}
use Rattle.listing.proofs.fill_digits.Given as goal

abbrev pub invariant-loop-i : goal.invariant-loop-i
invariant-loop-i l =
    written l.places 0 (digits l.base l.i l.rest) ≡ digits l.base (length l.initial.places) l.x
