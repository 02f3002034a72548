-- `words::cut_word` meets its contract: the bytes, folded from the last one down.
-- Assumes nothing.
use Rattle.std.proofs.Common.{arith, rules, reverse, ◌≡◌, ◌∙◌}
use Rattle.std.specs.List.{fold}
use Rattle.words.proofs.Reading.{byte_above, bytes_folded}
use Rattle.words.proofs.cut_word.Goals as goal

pub returns : goal.returns
returns c =
    let folded : c.fold.result ≡ fold byte_above 0 (reverse c.args.bytes.now) = search rules in
    folded ∙ bytes_folded 8 c.args.bytes.now c.requires (omega arith) (λ i. (c.type_inv.bytes i).fits)
