-- `store::Open::step` meets its contract: above the page count, at it, and below it.
-- Assumes nothing.
use mathlib.Core.Path.{◌≡◌, sym, ◌∙◌}
use Prim.Native.Nat.{◌≤◌, ◌<◌}
use native.Mathlib.Omega.{arith}
use borrow.Author.Tests.{lt-ltb, le-ltb, eq-eqb, ne_eqb}
use Rattle.map.specs.Files.{pages}
use Rattle.store.specs.Steps.{open_step}
use Rattle.store.proofs.Open.step.Goals as goal

pub returns-then-k-count-clause-stepped : goal.returns-then-k-count-clause-stepped
unfolding open_step
returns-then-k-count-clause-stepped c =
    let args : _ = c.args in
    let above : pages args.self.now.h < args.place.page = omega (arith, c.pages-count.ensures) in
    simp (lt-ltb _ _ above)

pub returns-then-k-count-2-clause-stepped : goal.returns-then-k-count-2-clause-stepped
unfolding open_step
returns-then-k-count-2-clause-stepped c =
    let args : _ = c.args in
    let all : args.place.page ≡ pages args.self.now.h = c.if-k-count-2.true ∙ c.pages-count.ensures in
    let within : args.place.page ≤ pages args.self.now.h = omega arith in
    simp (le-ltb _ _ within, eq-eqb _ _ all)

pub returns-clause-stepped : goal.returns-clause-stepped
unfolding open_step
returns-clause-stepped c =
    let args : _ = c.args in
    let counted : _ = c.pages-count in
    let if1 : _ = c.if-k-count in
    let if2 : _ = c.if-k-count-2 in
    let within : args.place.page ≤ pages args.self.now.h = omega (arith, counted.ensures, if1.false) in
    let other : args.place.page ≡ pages args.self.now.h → ⊥ = λ e. if2.false (e ∙ sym counted.ensures) in
    c.pass.ensures.passed ∙ sym (simp (le-ltb _ _ within, ne_eqb _ _ other))
