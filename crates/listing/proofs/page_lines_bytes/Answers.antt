-- `listing::page_lines_bytes` meets its contract. The invariant: the lines before page k are counted.
-- Assumes nothing.
use mathlib.Core.Path.{sym, ap}
use Prim.Native.Nat.{◌<◌}
use native.Mathlib.Omega.{arith}
use lib.ListN.{length}
use Rattle.units.proofs.Runs.{run_none}
use Rattle.map.specs.Files.{pages}
use Rattle.listing.specs.Lines.{page_line}
use Rattle.listing.proofs.Pages.{lines_next, lines_most}
use Rattle.listing.proofs.Digits.{width_most}
use Rattle.listing.proofs.page_lines_bytes.Goals as goal

pub loop-k-init : goal.loop-k-init
loop-k-init c = sym (ap length (run_none (λ i. page_line c.args.h.n i (λ j. 0)) 0))

pub overflow_add-total-in-loop-k-2 : goal.overflow_add-total-in-loop-k-2
overflow_add-total-in-loop-k-2 c =
    let at : _ = c.loop-k in
    let few : at.k < pages c.args.h = omega (arith, c.loop-k-test.true, c.pages-k-end.ensures) in
    omega (arith, at.invariant, lines_most c.args.h.n c.requires.0 at.k 0, few, c.requires.0, c.requires.1, c.width.ensures, width_most 19 at.k)

pub loop-k-preserved : goal.loop-k-preserved
loop-k-preserved c = omega (arith, c.loop-k.invariant, c.width.ensures, lines_next c.args.h.n c.loop-k.k)
