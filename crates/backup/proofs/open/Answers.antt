-- `backup::open` meets its contract: where the map breaks, so does the opening.
-- Assumes nothing.
use mathlib.Core.Path.{◌∙◌}
use Rattle.std.proofs.lemmas.Result.{err_from_is_err_and}
use Rattle.backup.proofs.Opened.{open_broken}
use Rattle.backup.proofs.open.Goals as goal

pub returns-in_err-h : goal.returns-in_err-h
returns-in_err-h c =
    let p : _ = err_from_is_err_and c.from_residual.result c.from_residual.ensures.1 in
    p.1 ∙ open_broken c.args.one.count c.args.other.count c.args.map.now c.in_err-h.field-0.0 c.read.ensures c.in_err-h.was p.2
