-- `caption::decode` meets its contract: what is made of the pairs is what is made of the field.
-- Assumes nothing.
use mathlib.Core.Path.{sym, ap, ◌∙◌}
use Rattle.units.specs.Writing.{written}
use Rattle.caption.proofs.Allowing.{recodable, recoded}
use Rattle.caption.proofs.Pairs.{pairs_decoded}
use Rattle.caption.proofs.decode.Goals as goal

pub returns : goal.returns
returns c =
    let args : _ = c.args in
    let pairs : _ = c.as_chunks.ensures in
    let allowed : _ = sym c.recode_verdict.ensures ∙ c.in_ok-recode_verdict.was in
    recoded _ args.caption.now args.output.now _ allowed
    (c.put_plain.ensures ∙ ap (written args.output.now 0) (pairs_decoded args.caption.now (recodable args.caption.now args.output.now allowed).even pairs.front pairs.front_len))
