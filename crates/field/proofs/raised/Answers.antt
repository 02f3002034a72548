-- `field::raised` meets its contract: s^0 is 1, and s^1 is s.
-- Assumes nothing.
use mathlib.Core.Path.{◌≡◌, sym, ap, ◌∙◌}
use native.Mathlib.Omega.{arith}
use Rattle.field.specs.Field.{GF16, product, power}
use Rattle.field.proofs.Products.{product_one}
use Rattle.field.proofs.Powers.{power_zero, power_once}
use Rattle.field.proofs.Instances.{GF16_formed}
use Rattle.field.proofs.raised.Goals as goal

pub returns-then-d-eq0 : goal.returns-then-d-eq0
returns-then-d-eq0 c =
    sym
    (ap (product GF16 c.args.a) (ap (power GF16 c.args.s) c.if-d-eq0.true ∙ power_zero GF16 GF16_formed c.args.s)
    ∙ product_one GF16 GF16_formed (omega arith))

pub returns-else-d-eq0 : goal.returns-else-d-eq0
returns-else-d-eq0 c =
    let one : c.args.d ≡ 1 = omega arith in
    c.product.ensures
    ∙ ap (product GF16 c.args.a)
    (sym (ap (power GF16 c.args.s) one ∙ power_once GF16 GF16_formed (omega arith)))
