-- `listing::Writer::page_lines` meets its contract: one line after the other. The invariant: those before page k are put.
-- Assumes nothing.
use Rattle.units.specs.Runs.{end_to_end}
use Rattle.listing.specs.Lines.{line_of}
use Rattle.listing.specs.Writers.{Puts}
use Rattle.listing.proofs.Writer.page_lines.Given as goal

abbrev pub invariant-loop-k : goal.invariant-loop-k
invariant-loop-k l =
    Puts (end_to_end (line_of l.h.n l.map) 0 l.k) l.initial.self l.self
