-- `store::Open::store` meets its contract. The invariant: the pages before the place are through, and those written are listed.
-- Assumes nothing.
use mathlib.Core.Path.{◌≡◌, refl, ap, ap₂, ◌∙◌}
use Rattle.std.specs.Prelude.{Ok, Result}
use Rattle.units.specs.declared.Refusal.{Refusal}
use Rattle.units.specs.Naming.{Listed}
use Rattle.store.specs.declared.Answer.{Answer}
use Rattle.std.proofs.Common.{List}
use Prim.Native.Nat.{ℕ, ◌≤◌}
use native.Mathlib.Omega.{arith}
use lib.ListN.{length}
use Rattle.map.specs.Files.{pages}
use Rattle.map.proofs.Holding.{holds_sized}
use Rattle.backup.proofs.Bounds.{few_pages}
use Rattle.store.specs.Stores.{stored_of, ended_by}
use Rattle.store.specs.declared.Open.{Open}
use Rattle.store.proofs.Underway.{none_noted, noted_below, noted_length, noted_kept, noted_written, none_through}
use Rattle.store.proofs.Underway.{Passed, Done, on_kept, on_written, on_finished, on_refused, all_through}
use Rattle.store.proofs.Opens.{ready, then_as, stepped}
use Rattle.store.proofs.Open.store.Goals as goal

pub loop-answer-init : goal.loop-answer-init
loop-answer-init c = ((refl, refl, refl, refl), none_through (ready c.args.self.now), none_noted)

pub returns-in_default-clause-stored : goal.returns-in_default-clause-stored
returns-in_default-clause-stored c =
    let loop : _ = c.loop-answer in
    let e : _ = stepped c.args.self.now loop.self loop.place loop.invariant.0 c.step-step.ensures.stepped in
    absurd (on_refused (ready c.args.self.now) loop.invariant.1 e c.in_default.not-Ok)

pub loop-answer-smaller-in-Kept : goal.loop-answer-smaller-in-Kept
loop-answer-smaller-in-Kept c =
    let old : Open = c.args.self.now in
    let loop : _ = c.loop-answer in
    let e : _ = stepped old loop.self loop.place loop.invariant.0 c.step-step.ensures.stepped in
    let p : Passed (ready old) loop.invariant.1 e × _ = on_kept (ready old) loop.invariant.1 e (c.in-Ok.is ∙ ap Ok c.in-Kept.is) in
    omega (arith, p.0.up, p.0.inside)

pub loop-answer-preserved-in-Kept : goal.loop-answer-preserved-in-Kept
loop-answer-preserved-in-Kept c =
    let old : Open = c.args.self.now in
    let loop : _ = c.loop-answer in
    let e : _ = stepped old loop.self loop.place loop.invariant.0 c.step-step.ensures.stepped in
    let p : Passed (ready old) loop.invariant.1 e × _ = on_kept (ready old) loop.invariant.1 e (c.in-Ok.is ∙ ap Ok c.in-Kept.is) in
    (then_as old loop.self c.step-step.new.self loop.invariant.0 c.step-step.ensures.same_backup, p.0.next, noted_kept loop.invariant.2 p.0.up p.1)

pub offset_bounds-list-found : goal.offset_bounds-list-found
offset_bounds-list-found c =
    let old : Open = c.args.self.now in
    let loop : _ = c.loop-answer in
    record { fits = omega (arith, loop.invariant.1.within, noted_below loop.invariant.2, few_pages old.h (holds_sized old.map.now old.h old.holds)) }

pub bounds-list-found : goal.bounds-list-found
bounds-list-found c =
    let old : Open = c.args.self.now in
    let enough : pages old.h ≤ length c.args.list.now = omega (arith, c.pages-count.ensures) in
    let loop : _ = c.loop-answer in
    let e : _ = stepped old loop.self loop.place loop.invariant.0 c.step-step.ensures.stepped in
    let p : Passed (ready old) loop.invariant.1 e × _ × _ = on_written (ready old) loop.invariant.1 e (c.in-Ok.is ∙ ap Ok c.in-Written.is) in
    let long : length loop.list ≡ length c.args.list.now = noted_length loop.invariant.2 (omega (arith, p.0.inside, enough)) in
    omega (arith, p.0.inside, enough, noted_below loop.invariant.2)

pub overflow_add-found : goal.overflow_add-found
overflow_add-found c =
    let old : Open = c.args.self.now in
    let loop : _ = c.loop-answer in
    record { fits = omega (arith, loop.invariant.1.within, noted_below loop.invariant.2, few_pages old.h (holds_sized old.map.now old.h old.holds)) }

pub loop-answer-smaller : goal.loop-answer-smaller
loop-answer-smaller c =
    let old : Open = c.args.self.now in
    let loop : _ = c.loop-answer in
    let e : _ = stepped old loop.self loop.place loop.invariant.0 c.step-step.ensures.stepped in
    let p : Passed (ready old) loop.invariant.1 e × _ × _ = on_written (ready old) loop.invariant.1 e (c.in-Ok.is ∙ ap Ok c.in-Written.is) in
    omega (arith, p.0.up, p.0.inside)

pub loop-answer-preserved : goal.loop-answer-preserved
loop-answer-preserved c =
    let old : Open = c.args.self.now in
    let enough : pages old.h ≤ length c.args.list.now = omega (arith, c.pages-count.ensures) in
    let loop : _ = c.loop-answer in
    let e : _ = stepped old loop.self loop.place loop.invariant.0 c.step-step.ensures.stepped in
    let p : Passed (ready old) loop.invariant.1 e × _ × _ = on_written (ready old) loop.invariant.1 e (c.in-Ok.is ∙ ap Ok c.in-Written.is) in (
      then_as old loop.self c.step-step.new.self loop.invariant.0 c.step-step.ensures.same_backup,
      p.0.next,
      noted_written loop.invariant.2 p.0.up p.2 p.1 (omega (arith, p.0.inside, enough)),
    )

pub returns-in-Finished-clause-stored : goal.returns-in-Finished-clause-stored
returns-in-Finished-clause-stored c =
    let old : Open = c.args.self.now in
    let enough : pages old.h ≤ length c.args.list.now = omega (arith, c.pages-count.ensures) in
    let loop : _ = c.loop-answer in
    let e : _ = stepped old loop.self loop.place loop.invariant.0 c.step-step.ensures.stepped in
    let d : Done (ready old) loop.invariant.1 e = on_finished (ready old) loop.invariant.1 e (c.in-Ok.is ∙ ap Ok c.in-Finished.is) in
    let answer : c.ended-in-Finished.result ≡ Ok loop.found = c.ended-in-Finished.ensures ∙ ap (λ (a : Result Answer Refusal). ended_by a loop.found) (c.in-Ok.is ∙ ap Ok c.in-Finished.is) in
    ap₂ (λ (i m : List ℕ). stored_of c.ended-in-Finished.result i m loop.list) d.image_kept d.map_kept
    ∙ ap (λ (a : Listed). stored_of a loop.self.image.now loop.self.map.now loop.list) answer
    ∙ all_through d.all enough loop.invariant.1 loop.invariant.2
