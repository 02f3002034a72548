-- No second answer meets the contracts of `backup`.
-- Assumes nothing.
use mathlib.Core.Path.{sym, ◌∙◌}
use Rattle.units.specs.Answers.{OneAnswer}
use Rattle.backup.proofs.same.Reads as Same
use Rattle.backup.proofs.«open».Reads as Opens

pub open_one_answer : OneAnswer Opens.Post
open_one_answer κs a r s x y p q = p ∙ sym q

pub same_one_answer : OneAnswer Same.Post
same_one_answer κs a r s x y p q = p ∙ sym q
