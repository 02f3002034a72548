-- `fold::of_few` meets its contract: a short object has its own components, and so has what a fold leaves of a long one.
-- Assumes nothing.
use mathlib.Core.Path.{refl}
use Rattle.std.proofs.lemmas.Fn.{says_at}
use Rattle.fold.proofs.Standing.{fitting, kept_same}
use Rattle.fold.proofs.of_few.Goals as goal

pub returns-then-object-SHORT : goal.returns-then-object-SHORT
returns-then-object-SHORT g c =
    (c.args.object.now, kept_same g.R.Relation.up_to c.args.object.now, says_at g.F.Fn c.answer.ensures refl)

pub fold-requires : goal.fold-requires
fold-requires g c =
    fitting g.R.Relation.known g.met.R.Relation.far g.row.WINDOW c.requires.even c.requires.roomy
