-- `listing::width` meets its contract: one digit more than the logarithm says, and 0 has one digit as 1 has.
-- Assumes nothing.
use mathlib.Core.Path.{◌≡◌, ap, ◌∙◌}
use mathlib.Core.Logic.{dite}
use Prim.Native.Nat.{ℕ, suc, ◌<◌, max}
use native.Mathlib.Decide.{dec_lt}
use native.Mathlib.Omega.{arith}
use Rattle.listing.specs.Digits.{width}
use Rattle.listing.proofs.Digits.{width_log, width_one}
use Rattle.listing.proofs.width.Goals as goal

width_max : (x : ℕ) → width (max x 1) ≡ width x
width_max x =
    dite (dec_lt x 1)
    (λ (none : x < 1). let one : max x 1 ≡ 1 = omega arith in ap width one ∙ omega (arith, width_one 18 x, width_one 18 1))
    (λ some. let same : max x 1 ≡ x = omega arith in ap width same)

pub returns : goal.returns
returns c =
    let log : _ = c.ilog10 in
    let ok : _ = log.ensures in
    let digits : width c.max.result ≡ suc log.result = width_log 19 log.result c.max.result (omega (arith, ok.bound)) ok.power_le ok.next_power_gt in
    omega (arith, ap width c.max.ensures, width_max c.args.x)
