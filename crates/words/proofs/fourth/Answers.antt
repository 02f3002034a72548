-- `words::fourth` meets its contract: three words, reduced, above one.
-- Assumes nothing.
use Rattle.std.proofs.Common.{[], rules, ℕ, List, ◌≡◌, ◌∙◌, ◌∷◌, ap, drop, take, get_or, length, arith}
use Rattle.std.proofs.lemmas.List.{take_all}
use Rattle.field.specs.Field.{◌⊕◌}
use Rattle.components.specs.Words.{of_words}
use Rattle.words.proofs.Sums.{stands_reduced, stands_again, row_stands}
use Rattle.words.proofs.fourth.Goals as goal

one_below : (words : List ℕ) → length words ≡ 4 → get_or words 0 0 ∷ take 3 (drop 1 words) ≡ words
one_below [] e = absurd (omega (arith, e))
one_below (word ∷ words) e = ap (λ (ws : List ℕ). word ∷ ws) (take_all 3 words (omega (arith, e)))

pub returns : goal.returns
unfolding ◌⊕◌
returns c =
    let above = stands_again (c.from.ensures ∙ stands_reduced c.few_words.ensures c.reduced-above.ensures) (omega arith) in
    stands_reduced (row_stands _ 4 16 32 _ above c.one_word.ensures (omega arith) (omega arith) (omega arith)) c.reduced.ensures
    ∙ ap (of_words 4) (one_below c.args.r (search rules))
