-- `load::load_bucket` meets its contract: what opening refuses the load refuses, and else the tests of the bucket decide.
-- Assumes nothing.
use Rattle.std.specs.Prelude.{Err}
use Rattle.std.proofs.lemmas.Result.{err_from_is_err_and}
use Rattle.units.specs.Filling.{Filled, outcome_of}
use mathlib.Core.Path.{sym, ap, ◌∙◌}
use lib.ListN.{length}
use Rattle.units.specs.Filling.{outcome}
use Rattle.map.specs.declared.Header.{Header}
use Rattle.backup.proofs.Opened.{refused_as, opened_as, Usable, open_usable}
use Rattle.load.specs.Loads.{loading, open_load, bucket_tests}
use Rattle.load.proofs.load_bucket.Goals as goal
use Rattle.std.specs.Prelude.{Err}

pub move_to-requires : goal.move_to-requires
move_to-requires c =
    let opens : _ = c.«open» in
    let u : Usable _ _ _ c.in_ok-h.h = open_usable _ _ _ _ (sym opens.ensures ∙ c.in_ok-h.was) in
    u.other_fits ∙ sym u.one_fits

pub returns-in_err-h : goal.returns-in_err-h
unfolding loading
returns-in_err-h c =
    let opens : _ = c.«open» in
    let args : _ = c.args in
    let p : _ = err_from_is_err_and c.from_residual.result c.from_residual.ensures.1 in
    ap (λ (a : Filled). outcome_of a args.table.now) (p.1 ∙ ap Err p.2)
    ∙ sym (refused_as (λ v (g : Header). outcome v (length args.image.now) args.image.now args.table.now)
    (λ g. bucket_tests g args.image.now args.map.now) _ _ _ _ (sym opens.ensures ∙ c.in_err-h.was))

pub returns : goal.returns
unfolding loading open_load
returns c =
    let opens : _ = c.«open» in
    let args : _ = c.args in
    c.move_to.ensures
    ∙ sym (opened_as (λ v (g : Header). outcome v (length args.image.now) args.image.now args.table.now)
    (λ g. bucket_tests g args.image.now args.map.now) _ _ _ _ (sym opens.ensures ∙ c.in_ok-h.was))
