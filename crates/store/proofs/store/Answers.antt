-- `store::store` meets its contract: what opening refuses the store refuses, and else it is the store on the open backup.
-- Assumes nothing.
use Rattle.std.proofs.Common.{rules}
use mathlib.Core.Path.{sym, ap, ◌∙◌}
use Rattle.std.specs.Prelude.{Err}
use Rattle.std.proofs.lemmas.Result.{err_from_is_err_and}
use Rattle.backup.proofs.Opened.{refused_as, opened_as, Usable, open_usable}
use Rattle.units.specs.Naming.{Listed}
use Rattle.store.specs.Stores.{stored_of, open_store, storing, store_unless, list_tests}
use Rattle.store.specs.declared.Open.{Open}
use Rattle.store.proofs.Opens.{stored_by}
use Rattle.store.proofs.store.Goals as goal

pub invariant_of-backup : goal.invariant_of-backup
invariant_of-backup c =
    let u : Usable _ _ _ c.in_ok-h.h = open_usable _ _ _ _ (sym c.«open».ensures ∙ c.in_ok-h.was) in
    record {
      table_octets = search rules;
      map_octets = search rules;
      holds = u.holds;
      table_length = u.one_fits;
      image_length = u.other_fits;
    }

pub returns-in_err-h : goal.returns-in_err-h
unfolding storing
returns-in_err-h c =
    let args : _ = c.args in
    let p : _ = err_from_is_err_and c.from_residual.result c.from_residual.ensures.1 in
    ap (λ (a : Listed). stored_of a args.image.now args.map.now args.list.now) (p.1 ∙ ap Err p.2)
    ∙ sym (refused_as (λ v g. store_unless v g args.table.now args.image.now args.map.now args.list.now)
    (λ g. list_tests g args.list.now) _ _ _ _ (sym c.«open».ensures ∙ c.in_err-h.was))

pub returns : goal.returns
unfolding storing open_store
returns c =
    let args : _ = c.args in
    let new : Open = c.store.new.self in
    stored_by c.store.result new.image.now new.map.now c.store.new.list _ _ (search rules) (search rules) (c.store.ensures.stored
    ∙ sym (opened_as (λ v g. store_unless v g args.table.now args.image.now args.map.now args.list.now)
    (λ g. list_tests g args.list.now) _ _ _ _ (sym c.«open».ensures ∙ c.in_ok-h.was)))
