-- `store::Place::step` meets its contract: what opening refuses the step refuses, and else it is the step on the open backup.
-- Assumes nothing.
use Rattle.std.proofs.Common.{rules}
use mathlib.Core.Path.{sym, ◌∙◌}
use Rattle.backup.proofs.Opened.{refused_as, opened_as, Usable, open_usable}
use Rattle.store.specs.Steps.{open_step, stepping, step_unless, place_tests}
use Rattle.store.specs.declared.Open.{Open}
use Rattle.store.proofs.Opens.{stepped_by}
use Rattle.store.proofs.Place.step.Goals as goal

pub invariant_of-backup : goal.invariant_of-backup
invariant_of-backup c =
    let u : Usable _ _ _ c.in-Ok.h = open_usable _ _ _ _ (sym c.open-opening.ensures ∙ c.in-Ok.is) in
    record {
      table_octets = search rules;
      map_octets = search rules;
      holds = u.holds;
      table_length = u.one_fits;
      image_length = u.other_fits;
    }

pub returns-in-Err : goal.returns-in-Err
unfolding stepping
returns-in-Err c =
    let opens : _ = c.open-opening in
    let args : _ = c.args in
    sym (refused_as (λ v g. step_unless v g args.table.now args.image.now args.map.now args.self)
    (λ g. place_tests g args.self.page) _ _ _ _ (sym opens.ensures ∙ c.in-Err.is))

pub returns-in-Ok : goal.returns-in-Ok
unfolding stepping open_step
returns-in-Ok c =
    let args : _ = c.args in
    let new : Open = c.step.new.self in
    stepped_by c.step.result new.image.now new.map.now _ _ (search rules) (search rules) (c.step.ensures.stepped
    ∙ sym (opened_as (λ v g. step_unless v g args.table.now args.image.now args.map.now args.self)
    (λ g. place_tests g args.self.page) _ _ _ _ (sym c.open-opening.ensures ∙ c.in-Ok.is)))
