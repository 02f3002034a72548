-- `words::LongRow::divided` meets its contract: the law of the relation x^40 = 1 + x^7 + x^28 + x^32 + x^36.
-- Assumes nothing.
use Rattle.std.proofs.Common.{arith, rules, ◌∷◌, sym, ap, ◌∙◌, refl}
use Rattle.std.proofs.lemmas.Slice.Eq.{text_from_reads}
use Rattle.field.specs.Field.{◌⊕◌}
use Rattle.components.specs.Words.{of_words}
use Rattle.components.proofs.Division.{divided_third}
use Rattle.words.proofs.LongRowRemainder.divided.Goals as goal

pub returns : goal.returns
unfolding ◌⊕◌
returns c =
    λ j holds.
    divided_third j c.args.word _ _ _ _ _ _ _ _ _ _ (omega arith) holds
    ∙ ap (λ ws. of_words j (c.args.word ∷ ws)) (sym (text_from_reads c.args.self _ (search rules) (refl, (refl, (refl, (refl, (refl, (refl, (refl, (refl, (refl, (refl, tt))))))))))))
