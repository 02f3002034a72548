-- `map::making::made_entry` meets its contract: tag 04, and the page's own signature.
-- Assumes nothing.
use mathlib.Core.Path.{ap, ◌∙◌}
use Rattle.signature.specs.Operations.{own}
use Rattle.signature.specs.Kinds.{wide}
use Rattle.signature.specs.declared.Signature.{Signature}
use Rattle.map.specs.Making.{made_entry}
use Rattle.map.specs.declared.Entry.{Entry}
use Rattle.map.proofs.making.made_entry.Goals as goal

pub returns : goal.returns
unfolding made_entry
returns c =
    ap {B = Entry} (λ (s : Signature). record { tag = 4; signature = s }) (c.own.ensures ∙ ap (own wide c.args.h.n) c.page_at.ensures)
