-- No second answer meets the contract of the functions of `program` that answer a buffer or a part of it, or set an element of it.
-- Assumes nothing.
use mathlib.Core.Path.{sym, ◌∙◌, ◌≡◌}
use Rattle.units.specs.Answers.{OneAnswer}
use Rattle.program.proofs.within.Reads as Within
use Rattle.program.proofs.Buffer.new.Reads as New
use Rattle.program.proofs.Buffer.part.Reads as Part
use Rattle.program.proofs.Buffer.part_mut.Reads as PartMut
use Rattle.program.proofs.start.Reads as Start
use Rattle.program.proofs.Buffer.set.Reads as Set

pub within_one_answer : OneAnswer Within.Post
within_one_answer κs a r s x y p q = p.0 ∙ sym q.0

-- of both fields
pub new_one_answer : (T : _) (N : _) (L : _) (F : _) (C : _) (G : _) (D : _) (κs : _) (a : _) (r s : _) (x y : _) → New.Post T N L F C G D κs a r x → New.Post T N L F C G D κs a s y → (r.all ≡ s.all) × (r.lent ≡ s.lent)
new_one_answer T N L F C G D κs a r s x y p q = (p.0 ∙ sym q.0, p.1 ∙ sym q.1)

pub part_one_answer : (T : _) (N : _) (L : _) (F : _) (κs : _) (a : _) (r s : _) (x y : _) → Part.Post T N L F κs a r x → Part.Post T N L F κs a s y → r.now ≡ s.now
part_one_answer T N L F κs a r s x y p q = p ∙ sym q

pub part_mut_one_answer : (T : _) (N : _) (L : _) (F : _) (κs : _) (a : _) (r s : _) (x y : _) → PartMut.Post T N L F κs a r x → PartMut.Post T N L F κs a s y → r.now ≡ s.now
part_mut_one_answer T N L F κs a r s x y p q = p ∙ sym q

pub start_one_answer : (T : _) (L : _) (κs : _) (a : _) (r s : _) (x y : _) → Start.Post T L κs a r x → Start.Post T L κs a s y → r.now ≡ s.now
start_one_answer T L κs a r s x y p q = p ∙ sym q

-- of the buffer
pub set_one_answer : (T : _) (N : _) (L : _) (F : _) (C : _) (G : _) (D : _) (κs : _) (a : _) (r s : _) (x y : _) → Set.Post T N L F C G D κs a r x → Set.Post T N L F C G D κs a s y → (x.0.now.all ≡ y.0.now.all) × (x.0.now.lent ≡ y.0.now.lent)
set_one_answer T N L F C G D κs a r s x y p q = (p.0 ∙ sym q.0, p.1 ∙ sym q.1)
