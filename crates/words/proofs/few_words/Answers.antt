-- `words::few_words` meets its contract: a turn shifts the sum over one word more.
-- Assumes nothing.
use Rattle.std.proofs.Common.{ap, ◌∙◌}
use Rattle.field.specs.Field.{◌⊕◌}
use Rattle.words.proofs.Sums.{summed_none, summed_more}
use Rattle.words.proofs.few_words.Goals as goal

pub loop-word-init : goal.loop-word-init
loop-word-init c =
    summed_none c.args.j c.args.words.now
    (ap (λ (r : _). r.iter.rest.now) c.into_iter-word-iterator.ensures.into_iter_gives ∙ ap (λ (r : _). r.rest.now) c.rev-word-items.ensures.source ∙ c.iter.ensures.rest)

pub loop-word-preserved : goal.loop-word-preserved
unfolding ◌⊕◌
loop-word-preserved c = summed_more c.args.j c.args.words.now _ c.in-Some.word.now c.in-Some.ensures.steps c.requires.2 c.one_word.ensures c.loop-word.invariant
