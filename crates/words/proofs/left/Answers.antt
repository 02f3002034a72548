-- `words::left` meets its contract: the last bytes are their own remainder, and a turn takes in one word more.
-- Assumes nothing.
use Rattle.std.proofs.Common.{List, ℕ, ◌≡◌, ◌∙◌, ap, subst, sym, length, arith}
use Rattle.words.proofs.Reading.{Chunks, chunks_all, chunks_front, chunks_less}
use Rattle.words.proofs.Dividing.{divided_start, divided_chunk}
use Rattle.words.proofs.left.Goals as goal

pub loop-bytes-init : goal.loop-bytes-init
loop-bytes-init g c =
    let object : List ℕ = c.args.object.now in
    let words : c.into_iter-bytes-iterator.result.iter.rest.now ≡ c.as_chunks.result.0.now =
    ap (λ (r : _). r.iter.rest.now) c.into_iter-bytes-iterator.ensures.into_iter_gives ∙ ap (λ (r : _). r.rest.now) c.rev-bytes-items.ensures.source ∙ c.iter.ensures.rest in
    let below : Chunks c.split_at.result.0.now c.as_chunks.result.0.now = chunks_all c.split_at.result.0.now c.as_chunks.ensures.front c.as_chunks.ensures.front_len in
    record {
      below = subst (Chunks object) (sym words) (chunks_front c.next_multiple_of-at.result object c.split_at.ensures.front (omega (arith, c.split_at.ensures.back_len)) below);
      stands =
          divided_start g.R.Remainder.relation object c.split_at.ensures.back
          (omega (arith, ap length words, c.as_chunks.ensures.front_len, c.split_at.ensures.front_len, c.next_multiple_of-at.ensures.multiple)) c.whole-r.ensures;
    }

pub loop-bytes-preserved : goal.loop-bytes-preserved
loop-bytes-preserved g c =
    let inv = c.loop-bytes.invariant in
    let e = c.in-Some.ensures.steps in
    record {
      below = chunks_less c.args.object.now _ _ e inv.below;
      stands = divided_chunk g.R.Remainder.relation c.args.object.now (λ i. (c.type_inv.object i).fits) _ _ e inv.below c.from_le_bytes.ensures c.divided-r.ensures inv.stands;
    }
