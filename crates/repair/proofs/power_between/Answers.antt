-- `repair::power_between` meets its contract. The invariant: x is a times the power of α at i, and the first power of those left is the first of all.
-- Assumes nothing.
use mathlib.Core.Path.{◌≡◌, sym, ap, ◌∙◌}
use mathlib.Core.Bool.{true, false}
use Prim.Native.Nat.{ℕ, ◌-◌, ◌<◌}
use Rattle.units.specs.Naming.{first_named}
use native.Mathlib.Numerals.{add-one}
use native.Mathlib.Omega.{arith}
use borrow.Author.Tests.{eq-eqb, ne_eqb}
use Rattle.units.proofs.First.{upward_finds, upward_goes_on, upward_ends}
use Rattle.field.specs.Field.{GF16, product, power, doubled, α}
use Rattle.field.proofs.Instances.{GF16_formed}
use Rattle.field.proofs.Powers.{power_zero, power_doubled}
use Rattle.field.proofs.Products.{product_one, product_doubled}
use Rattle.repair.proofs.power_between.Invariants.{makes}
use Rattle.repair.proofs.power_between.Goals as goal

pub loop-i-init : goal.loop-i-init
loop-i-init c =
    let a : ℕ = c.args.a in
    let below : a < 65536 = omega arith in
    let whole : c.args.m - 0 ≡ c.args.m = omega arith in
    (sym (ap (product GF16 a) (power_zero GF16 GF16_formed α) ∙ product_one GF16 GF16_formed below), ap (λ (m : ℕ). first_named (makes a c.args.b) m 0) whole)

pub returns-then-x-b : goal.returns-then-x-b
returns-then-x-b c =
    let args : _ = c.args in
    let at : _ = c.loop-i in
    let so : makes args.a args.b at.i ≡ true = eq-eqb _ _ (sym at.invariant.0 ∙ c.if-x-b.true) in
    upward_finds (makes args.a args.b) args.m at.i (omega arith) at.invariant.1 so

pub loop-i-preserved : goal.loop-i-preserved
loop-i-preserved c =
    let args : _ = c.args in
    let at : _ = c.loop-i in
    let not_yet : makes args.a args.b at.i ≡ false = ne_eqb _ _ (λ e. c.if-x-b.false (at.invariant.0 ∙ e)) in
    let below : args.a < 65536 = omega arith in (
      c.double-x.ensures
          ∙ ap (doubled GF16) at.invariant.0
          ∙ sym (product_doubled GF16 GF16_formed (power GF16 α at.i) below)
          ∙ power_doubled GF16 GF16_formed at.i below
          ∙ ap (λ (k : ℕ). product GF16 args.a (power GF16 α k)) (sym (add-one at.i)),
      upward_goes_on (makes args.a args.b) args.m at.i (omega arith) at.invariant.1 not_yet,
    )

pub returns : goal.returns
returns c = upward_ends (makes c.args.a c.args.b) c.args.m c.loop-i.i (omega arith) c.loop-i.invariant.1
