-- `listing::page_lines_bytes` meets its contract. The invariant: the lines before page k are counted.
-- Assumes nothing.
use mathlib.Core.Path.{◌≡◌}
use lib.ListN.{length}
use Rattle.units.specs.Runs.{end_to_end}
use Rattle.listing.specs.Lines.{page_line}
use Rattle.listing.proofs.page_lines_bytes.Given as goal

abbrev pub invariant-loop-k : goal.invariant-loop-k
invariant-loop-k l =
    l.total ≡ length (end_to_end (λ i. page_line l.h.n i (λ j. 0)) 0 l.k)
