-- `map::four_bytes` meets its contract: four bytes, low byte first, are a number.
-- Assumes nothing.
use Prim.Native.Nat.{◌+◌}
use native.Mathlib.Omega.{arith}
use Rattle.signature.proofs.Numbers.{two_bytes, four_bytes}
use Rattle.map.proofs.four_bytes.Goals as goal

pub returns : goal.returns
returns c =
    grind (arith, c.from_le_bytes.ensures, c.from_fn.ensures.items.each, four_bytes c.args.map.now c.args.at, two_bytes c.args.map.now c.args.at, two_bytes c.args.map.now (c.args.at + 2))
