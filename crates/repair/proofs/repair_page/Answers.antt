-- `repair::repair_page` meets its contract: what opening refuses the repair refuses, and else the page's tests decide.
-- Assumes nothing.
use Rattle.std.specs.Prelude.{Result, Err}
use Rattle.std.proofs.lemmas.Result.{err_from_is_err_and}
use Rattle.units.specs.declared.Refusal.{Refusal}
use Rattle.repair.specs.declared.Repair.{Repair}
use mathlib.Core.Path.{sym, ap, ◌∙◌}
use Rattle.map.specs.declared.Header.{Header}
use Rattle.backup.proofs.Opened.{refused_as, opened_as, Usable, open_usable}
use Rattle.repair.specs.Repairs.{outcome_of, page_tests, unless, open_repair, repairing}
use Rattle.repair.proofs.repair_page.Goals as goal
use Rattle.std.specs.Prelude.{Err}

pub repair_on-requires : goal.repair_on-requires
repair_on-requires c =
    let u : Usable _ _ _ c.in_ok-h.h = open_usable _ _ _ _ (sym c.«open».ensures ∙ c.in_ok-h.was) in
    (u.holds, u.one_fits)

pub returns-in_err-h : goal.returns-in_err-h
unfolding repairing
returns-in_err-h c =
    let args : _ = c.args in
    let p : _ = err_from_is_err_and c.from_residual.result c.from_residual.ensures.1 in
    ap (λ (a : Result Repair Refusal). outcome_of a args.image.now) (p.1 ∙ ap Err p.2)
    ∙ sym (refused_as (λ v (g : Header). unless v g args.image.now args.map.now args.k) (λ g. page_tests g args.k) _ _ _ _
    (sym c.«open».ensures ∙ c.in_err-h.was))

pub returns : goal.returns
unfolding repairing open_repair
returns c =
    let args : _ = c.args in
    c.repair_on.ensures
    ∙ sym (opened_as (λ v (g : Header). unless v g args.image.now args.map.now args.k) (λ g. page_tests g args.k) _ _ _ _
    (sym c.«open».ensures ∙ c.in_ok-h.was))
