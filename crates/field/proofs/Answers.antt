-- No second answer meets the contracts of `field`.
-- Assumes nothing.
use mathlib.Core.Path.{sym, ◌∙◌}
use Rattle.units.specs.Answers.{OneAnswer}
use Rattle.field.proofs.sum.Reads as Sum
use Rattle.field.proofs.double.Reads as Double
use Rattle.field.proofs.product.Reads as Product
use Rattle.field.proofs.times_power.Reads as TimesPower

pub sum_one_answer : OneAnswer Sum.Post
sum_one_answer κs a r s x y p q = p ∙ sym q

pub double_one_answer : OneAnswer Double.Post
double_one_answer κs a r s x y p q = p ∙ sym q

pub product_one_answer : OneAnswer Product.Post
product_one_answer κs a r s x y p q = p ∙ sym q

pub times_power_one_answer : OneAnswer TimesPower.Post
times_power_one_answer κs a r s x y p q = p ∙ sym q
