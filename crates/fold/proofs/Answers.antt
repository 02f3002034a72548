-- No second answer meets the contracts of `fold`.
-- Assumes nothing.
use mathlib.Core.Path.{sym, ◌∙◌}
use Rattle.units.specs.Answers.{OneAnswer}
use Rattle.fold.proofs.first.Reads as First
use Rattle.fold.proofs.first_two.Reads as FirstTwo
use Rattle.fold.proofs.first_four.Reads as FirstFour

pub first_one_answer : OneAnswer First.Post
first_one_answer κs a r s x y p q = p ∙ sym q

pub first_two_one_answer : OneAnswer FirstTwo.Post
first_two_one_answer κs a r s x y p q = p ∙ sym q

pub first_four_one_answer : OneAnswer FirstFour.Post
first_four_one_answer κs a r s x y p q = p ∙ sym q
