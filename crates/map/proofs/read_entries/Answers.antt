-- `map::read_entries` meets its contract: one turn of the reader, with an entry that is due and with one that is not.
-- Assumes nothing.
use mathlib.Core.Path.{sym, ap, ◌∙◌}
use Prim.Native.Nat.{◌+◌, ◌-◌}
use native.Mathlib.Omega.{arith}
use Rattle.units.specs.Refusals.{Verdict}
use Rattle.map.specs.Files.{pages}
use Rattle.map.specs.Reading.{told}
use Rattle.map.proofs.Entries.{turn_kept, turn_broken}
use Rattle.map.proofs.read_entries.Goals as goal

pub returns-then-not-due : goal.returns-then-not-due
returns-then-not-due c =
    ap (λ (v : Verdict). told v c.args.h)
    (sym (turn_broken _ _ _ _ _ c.loop-k.invariant.1 c.next.ensures _ (pages c.args.h - (c.loop-k.k + 1)) (omega (arith, c.pages-k-end.ensures)) (sym c.due.ensures ∙ c.if-not-due.true))
    ∙ c.loop-k.invariant.0)

pub loop-k-preserved : goal.loop-k-preserved
loop-k-preserved c =
    let turn : _ =
    turn_kept _ _ _ _ _ c.loop-k.invariant.1 c.next.ensures _ _ (omega (arith, c.pages-k-end.ensures)) c.requires (sym c.due.ensures ∙ c.if-not-due.false) in
    (turn.0 ∙ c.loop-k.invariant.0, turn.1)
