-- `listing::Writer::decimal` meets its contract: as many digits as the number has.
-- Assumes nothing.
use mathlib.Core.Path.{subst}
use Prim.Native.Nat.{ℕ}
use native.Mathlib.Omega.{arith}
use Rattle.listing.specs.Digits.{digits, decimal}
use Rattle.listing.specs.Writers.{Puts}
use Rattle.listing.proofs.Writer.decimal.Goals as goal

pub digits-requires : goal.digits-requires
unfolding decimal
digits-requires c = (omega arith, omega arith, rw c.width.ensures c.requires)

pub returns : goal.returns
unfolding decimal
returns c = subst (λ (n : ℕ). Puts (digits 10 n c.args.x) c.args.self.now c.digits.new.self) c.width.ensures c.digits.ensures
