-- `units::exponent_of` meets its contract: a product modulo 65,535 is that of its factors modulo 65,535, which fits a word.
-- Assumes nothing.
use Rattle.units.proofs.Moduli.{mul_mod}
use Rattle.units.proofs.exponent_of.Goals as goal

pub returns : goal.returns
returns c =
    mul_mod c.args.component c.args.position.count 65535
