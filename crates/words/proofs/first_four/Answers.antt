-- `words::first_four` meets its contract: the four words that are left have components 1, 2 and 4 of the object, and the ten words component 3.
-- Assumes nothing.
use mathlib.Core.Path.{ap₂, ◌∙◌}
use Prim.Native.Nat.{ℕ}
use Rattle.field.specs.Field.{GF16}
use Rattle.components.specs.Components.{signature}
use Rattle.components.proofs.Relations.{own_1, own_2, own_4, third_3}
use Rattle.words.proofs.Sums.{stands_reduced}
use Rattle.words.proofs.first_four.Goals as goal

pub returns : goal.returns
returns c =
    let left : _ = c.left-r.ensures in
    let object : _ = c.args.object.now in
    ap₂ (λ (x y : ℕ). record { s1 = x; s2 = y; s3 = c.third.result; s4 = c.fourth.result })
    (stands_reduced c.few_words.ensures c.reduced.ensures ∙ left 1 own_1)
    (stands_reduced c.few_words-2.ensures c.reduced-2.ensures ∙ left 2 own_2)
    ∙ ap₂ (λ (x y : ℕ). record { s1 = signature GF16 2 object 1; s2 = signature GF16 2 object 2; s3 = x; s4 = y })
    (c.third.ensures ∙ c.left-long.ensures 3 third_3)
    (c.fourth.ensures ∙ left 4 own_4)
