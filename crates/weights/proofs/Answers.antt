-- No second answer meets the contracts of `weights`, and no second content of a block.
-- Assumes nothing.
use mathlib.Core.Path.{◌≡◌, sym, ◌∙◌}
use Rattle.weights.proofs.Turns.{set_once}
use Rattle.units.specs.Answers.{OneAnswer}
use Rattle.weights.proofs.least.Reads as Least
use Rattle.weights.proofs.put_weights.Reads as PutWeights
use Rattle.weights.proofs.weigh.Reads as Weigh
use Rattle.weights.proofs.move_on.Reads as MoveOn

pub least_one_answer : OneAnswer Least.Post
least_one_answer κs a r s x y p q = p ∙ sym q

pub put_weights_one_answer : (κs : _) (a : _) (r s : _) (x y : _) → PutWeights.Post κs a r x → PutWeights.Post κs a s y → x.1.0.now ≡ y.1.0.now
put_weights_one_answer κs a r s x y p q = set_once p q

pub move_on_one_answer : (κs : _) (a : _) (r s : _) (x y : _) → MoveOn.Post κs a r x → MoveOn.Post κs a s y → x.0.now ≡ y.0.now
move_on_one_answer κs a r s x y p q = set_once p q

pub weigh_one_answer : (κs : _) (a : _) (r s : _) (x y : _) → Weigh.Post κs a r x → Weigh.Post κs a s y → (x.0.now ≡ y.0.now) × (x.1.0.now ≡ y.1.0.now)
weigh_one_answer κs a r s x y p q = (set_once p.0 q.0, set_once p.1 q.1)
