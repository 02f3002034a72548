-- `caption::search` meets its contract: what is found in the pairs is what is found in the field.
-- Assumes nothing.
use mathlib.Core.Path.{sym, ap, ◌∙◌}
use mathlib.Core.List.{List}
use Prim.Native.Nat.{ℕ}
use Rattle.units.specs.Refusals.{Verdict, allowed}
use Rattle.caption.specs.Searches.{found, search_unless}
use Rattle.caption.proofs.Allowing.{searchable}
use Rattle.caption.proofs.Pairs.{pairs_found}
use Rattle.caption.proofs.search.Goals as goal

pub returns : goal.returns
returns c =
    let caption : List ℕ = c.args.caption.now in
    let pattern : List ℕ = c.args.pattern.now in
    let list : List ℕ = c.args.list.now in
    let pairs : _ = c.as_chunks.ensures in
    let may : _ = sym c.search_verdict.ensures ∙ c.in_ok-search_verdict.was in
    c.find.ensures
    ∙ ap (λ (places : List ℕ). search_unless allowed places list) (pairs_found caption (searchable caption pattern list may).even pairs.front pairs.front_len pattern)
    ∙ ap (λ (v : Verdict). search_unless v (found 0 caption pattern) list) (sym may)
