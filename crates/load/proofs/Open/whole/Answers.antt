-- `load::Open::whole` meets its contract: the page's own signature is held against its entry's.
-- Assumes nothing.
use mathlib.Core.Path.{sym}
use Rattle.backup.proofs.Sameness.{agrees_by}
use Rattle.load.proofs.Open.whole.Goals as goal

pub returns : goal.returns
returns c =
    let page-at : _ = c.page_at in
    sym (agrees_by _ _ _ _ _ _ _ _ page-at.ensures c.own-own.ensures c.entry_at-entry.ensures c.same.ensures)
