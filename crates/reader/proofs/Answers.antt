-- No second answer meets the contracts of `reader`.
-- Assumes nothing.
use mathlib.Core.Path.{◌≡◌, sym, ap, ◌∙◌}
use mathlib.Core.List.{List}
use Prim.Native.Nat.{ℕ}
use denote.Ref.{Bor}
use Rattle.units.specs.Answers.{OneAnswer}
use Rattle.reader.specs.Readers.{reader_at, Advanced, advanced_of, advancing}
use Rattle.reader.specs.Fields.{Field}
use Rattle.reader.specs.declared.Reader.{Reader}
use Rattle.reader.proofs.read_field.Reads as ReadField

pub read_field_one_answer : OneAnswer ReadField.Post
read_field_one_answer κs a r s x y p q = p ∙ sym q

-- what follows is over the definitions that the two contracts consist of

pub new_one_answer : (bytes : Bor (List ℕ)) (place : ℕ) (r s : Reader) → r ≡ reader_at bytes place → s ≡ reader_at bytes place → r ≡ s
new_one_answer bytes place r s p q = p ∙ sym q

pub next_one_answer : (n : ℕ) (r : Reader) (f g : Field) (x y : Reader) → advanced_of f x ≡ advancing n r → advanced_of g y ≡ advancing n r → (f ≡ g) × (x ≡ y)
next_one_answer n r f g x y p q =
    let same : advanced_of f x ≡ advanced_of g y = p ∙ sym q in
    (ap (λ (a : Advanced). a.field) same, ap (λ (a : Advanced). a.reader) same)
