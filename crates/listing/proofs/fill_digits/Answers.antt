-- `listing::fill_digits` meets its contract. The invariant: what is left to write gives what the whole gives.
-- Assumes nothing.
use mathlib.Core.Path.{◌≡◌, sym, ap, ap₂, ◌∙◌}
use mathlib.Core.List.{List}
use Prim.Native.Nat.{ℕ, suc, ◌+◌, ◌-◌, ◌/◌, ◌%◌, ◌≤◌, ◌<◌}
use native.Mathlib.Omega.{arith}
use lib.ListN.{length, set}
use Rattle.units.specs.Writing.{written}
use Rattle.units.proofs.Writing.{written_none, written_last, written_whole}
use Rattle.listing.specs.Digits.{digit, digits}
use Rattle.listing.proofs.Digits.{digits_length, digits_none, digits_more}
use Rattle.listing.proofs.fill_digits.Goals as goal

-- the last digit, and then those before it
last_digit : (old : List ℕ) (base m k x d : ℕ) → suc m ≡ k → k ≤ length old → d ≡ digit (x % base)
    → written (set old m d) 0 (digits base m (x / base)) ≡ written old 0 (digits base k x)
last_digit old base m k x d up inside is =
    let low : List ℕ = digits base m (x / base) in
    let long : 0 + length low ≡ m = omega (arith, digits_length base m (x / base)) in
    let fits : 0 + length low < length old = omega arith in
    ap₂ (λ (i e : ℕ). written (set old i e) 0 low) (sym long) is
    ∙ written_last old 0 low (digit (x % base)) fits
    ∙ ap (written old 0) (sym (digits_more base m x))
    ∙ ap (λ (i : ℕ). written old 0 (digits base i x)) up

pub loop-i-init : goal.loop-i-init
loop-i-init c = written_whole c.args.places.now _ (digits_length c.args.base (length c.args.places.now) c.args.x)

pub loop-i-preserved : goal.loop-i-preserved
loop-i-preserved c =
    let at : _ = c.loop-i in
    last_digit at.places c.args.base (at.i - 1) at.i at.rest c.digit.result (omega arith) (omega (arith, at.auto.i, at.auto.places)) c.digit.ensures ∙ at.invariant

pub returns : goal.returns
returns c =
    let at : _ = c.loop-i in
    let none : at.i ≡ 0 = omega arith in
    sym (written_none at.places 0 (omega arith))
    ∙ ap (written at.places 0) (sym (digits_none c.args.base at.rest) ∙ ap (λ (i : ℕ). digits c.args.base i at.rest) (sym none))
    ∙ at.invariant
