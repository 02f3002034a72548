-- `words::third` meets its contract: the last two words, then four and four below them.
-- Assumes nothing.
use Rattle.std.proofs.Common.{rules, ℕ, List, ◌≡◌, ◌∙◌, sym, ap, drop, take, length, length-drop, arith}
use Rattle.std.proofs.lemmas.List.{take_all, drop-drop}
use Rattle.field.specs.Field.{GF16, ◌⊕◌, product, power, α}
use Rattle.components.specs.Words.{of_words}
use Rattle.words.proofs.Sums.{stands_reduced, four_below}
use Rattle.words.proofs.third.Goals as goal

pub returns : goal.returns
returns c =
    let r : List ℕ = c.args.r in
    let ten : length r ≡ 10 = search rules in
    let last : c.reduced-last.result ≡ of_words 3 (drop 4 (drop 4 r)) =
    stands_reduced c.few_words.ensures c.reduced-last.ensures ∙ ap (of_words 3) (take_all 2 (drop 8 r) (omega (arith, ten, length-drop 8 r)) ∙ sym (drop-drop 4 4 r)) in
    let high : c.reduced-high.result ≡ of_words 3 (drop 4 r) =
    stands_reduced c.third_below.ensures c.reduced-high.ensures
    ∙ ap (λ (x : ℕ). of_words 3 (take 4 (drop 4 r)) ⊕ product GF16 x (power GF16 α 48)) last
    ∙ sym (four_below 3 (drop 4 r) (omega (arith, ten, length-drop 4 r))) in
    stands_reduced c.third_below-2.ensures c.reduced.ensures
    ∙ ap (λ (x : ℕ). of_words 3 (take 4 r) ⊕ product GF16 x (power GF16 α 48)) high
    ∙ sym (four_below 3 r (omega (arith, ten)))
