-- `listing::Writer::digits` meets its contract: the digits fill their part of the output.
-- Assumes nothing.
use mathlib.Core.Path.{◌≡◌, refl, sym, ap, ◌∙◌}
use Prim.Native.Nat.{ℕ, ◌+◌, ◌-◌, ◌≤◌}
use native.Mathlib.Omega.{arith}
use lib.ListN.{length}
use borrow.Rule.Slice.PartMut.{mid_len}
use Rattle.listing.specs.Digits.{digits}
use Rattle.listing.proofs.Digits.{digits_length}
use Rattle.listing.proofs.Writers.{part_puts}
use Rattle.listing.proofs.Writer.digits.Goals as goal

pub returns : goal.returns
returns c =
    let args : _ = c.args in
    let w : _ = args.self.now in
    let end : ℕ = w.at + args.count in
    let long : length (digits args.base args.count args.x) ≡ args.count = digits_length args.base args.count args.x in
    let fits : end ≤ length w.output.now = omega (arith, c.requires.2) in
    let places : end - w.at ≡ args.count = omega arith in
    let filled : c.fill_digits.new.places ≡ digits args.base args.count args.x =
    c.fill_digits.ensures ∙ ap (λ (n : ℕ). digits args.base n args.x) (mid_len w.at end w.output.now fits ∙ places) in
    (part_puts w.output.now w.at end c.fill_digits.new.places _ filled (ap (λ (n : ℕ). w.at + n) (sym long)), refl)
