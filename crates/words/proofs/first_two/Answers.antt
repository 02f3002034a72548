-- `words::first_two` meets its contract: the four words that are left have components 1 and 2 of the object.
-- Assumes nothing.
use mathlib.Core.Path.{ap₂, ◌∙◌}
use Prim.Native.Nat.{ℕ}
use Rattle.components.proofs.Relations.{own_1, own_2}
use Rattle.words.proofs.Sums.{stands_reduced}
use Rattle.words.proofs.first_two.Goals as goal

pub returns : goal.returns
returns c =
    let left : _ = c.left-r.ensures in
    ap₂ (λ (x y : ℕ). record { s1 = x; s2 = y })
    (stands_reduced c.few_words.ensures c.reduced.ensures ∙ left 1 own_1)
    (stands_reduced c.few_words-2.ensures c.reduced-2.ensures ∙ left 2 own_2)
