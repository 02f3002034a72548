-- `words::few_words` meets its contract. The invariant: the words above those that are left are summed.
-- Assumes nothing.
use Rattle.words.proofs.Sums.{Summed}
use Rattle.words.proofs.few_words.Given as goal

abbrev pub invariant-loop-word : goal.invariant-loop-word
invariant-loop-word l = Summed l.j l.words l.word-iterator.iter.rest.now l.s
