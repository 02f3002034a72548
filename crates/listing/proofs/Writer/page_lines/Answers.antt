-- `listing::Writer::page_lines` meets its contract: one line after the other. The invariant: those before page k are put.
-- Assumes nothing.
use mathlib.Core.Path.{sym, subst}
use mathlib.Core.List.{List}
use Prim.Native.Nat.{ℕ, ◌+◌, ◌<◌}
use native.Mathlib.Omega.{arith}
use Rattle.map.specs.Files.{pages}
use Rattle.listing.specs.Lines.{line_of}
use Rattle.listing.specs.Writers.{HasRoom, Puts}
use Rattle.listing.proofs.Pages.{entry_line}
use Rattle.listing.proofs.Writers.{run_start, run_room, run_puts}
use Rattle.listing.proofs.Writer.page_lines.Goals as goal

pub loop-k-init : goal.loop-k-init
loop-k-init c = let args : _ = c.args in run_start (line_of args.h.n args.map.now) 0 (pages args.h) args.self.now c.requires

pub page_line-requires : goal.page_line-requires
page_line-requires c =
    let args : _ = c.args in
    let at : _ = c.loop-k in
    let inside : at.k < pages args.h = omega (arith, c.pages-k-end.ensures, c.loop-k-test.true) in
    subst (λ (l : List ℕ). HasRoom l at.self) (sym (entry_line args.h.n args.map.now at.k c.entry_at.result c.entry_at.ensures))
    (run_room (line_of args.h.n args.map.now) 0 (pages args.h) at.k at.k inside (omega arith) args.self.now at.self c.requires at.invariant)

pub loop-k-preserved : goal.loop-k-preserved
loop-k-preserved c =
    let args : _ = c.args in
    let at : _ = c.loop-k in
    let inside : at.k < pages args.h = omega (arith, c.pages-k-end.ensures, c.loop-k-test.true) in
    let line : Puts (line_of args.h.n args.map.now at.k) at.self c.page_line.new.self =
    subst (λ (l : List ℕ). Puts l at.self c.page_line.new.self) (entry_line args.h.n args.map.now at.k c.entry_at.result c.entry_at.ensures) c.page_line.ensures in
    run_puts (line_of args.h.n args.map.now) 0 (pages args.h) at.k at.k inside (omega arith) args.self.now at.self c.requires at.invariant
    c.page_line.new.self line (at.k + 1) (omega arith)
