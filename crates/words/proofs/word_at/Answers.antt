-- `words::word_at` meets its contract: a whole word, one that is cut off, or none.
-- Assumes nothing.
use Rattle.std.proofs.Common.{[], ◌*◌, sym, ap, ◌∙◌, arith}
use Rattle.std.specs.Int.{w64, from_le_bytes}
use Rattle.components.specs.Objects.{low_first}
use Rattle.words.proofs.Reading.{chunks_all, cut_read, none_read}
use Rattle.words.proofs.word_at.Goals as goal

pub returns-in-Some : goal.returns-in-Some
returns-in-Some c =
    let found = c.in-Some.ensures.lookup in
    let chunks = chunks_all c.args.object.now c.as_chunks.ensures.front c.as_chunks.ensures.front_len in
    c.from_le_bytes.ensures ∙ ap (from_le_bytes w64) (found.3.1 []) ∙ chunks.read c.args.i found.3.0

pub returns-in-None : goal.returns-in-None
returns-in-None c =
    cut_read c.args.object.now c.as_chunks.ensures.front_len c.as_chunks.ensures.back c.cut_word.ensures ∙ ap (λ i. low_first 8 c.args.object.now (i * 8)) (sym c.if-i-whole.true)

pub returns-in-None-2 : goal.returns-in-None-2
returns-in-None-2 c = sym (none_read 8 c.args.object.now (c.args.i * 8) (omega (arith, c.in-None.ensures.lookup.3, c.as_chunks.ensures.front_len)))
