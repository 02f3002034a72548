-- `repair::stays` meets its contract: a page that has both bytes of the symbol holds any value there, and else the low byte alone.
-- Assumes nothing.
use mathlib.Core.Path.{◌≡◌, sym, ap, ◌∙◌}
use mathlib.Core.Logic.{dite}
use Prim.Native.Nat.{ℕ, ◌-◌, ◌*◌, ◌%◌, ◌≤◌, ◌<◌}
use native.Mathlib.Decide.{dec_lt}
use native.Mathlib.Omega.{arith}
use lib.Dec.{eqb, ltb}
use lib.ListN.{length}
use borrow.Author.Tests.{eq-eqb, ne_eqb, lt-ltb, le-ltb}
use Rattle.repair.proofs.Changed.{both_bytes, low_byte}
use Rattle.repair.proofs.stays.Goals as goal

-- what is its low byte alone
low_only : (x : ℕ) → ltb x 256 ≡ eqb (x % 256) x
low_only x =
    dite (dec_lt x 256)
    (λ (small : x < 256). lt-ltb x 256 small ∙ sym (eq-eqb (x % 256) x (omega arith)))
    (λ large. le-ltb x 256 (omega arith) ∙ sym (ne_eqb (x % 256) x (λ e. omega arith)))

pub returns-then-page-bytes_of-gt1 : goal.returns-then-page-bytes_of-gt1
returns-then-page-bytes_of-gt1 c =
    let args : _ = c.args in
    let room : 1 < length args.page.now - args.i.count * 2 = omega (arith, c.bytes_of.ensures) in
    lt-ltb _ _ (omega (arith, c.bytes_of.ensures)) ∙ sym (eq-eqb _ _ (both_bytes args.page.now args.i.count args.x c.requires room (omega arith)))

pub returns-else-page-bytes_of-gt1 : goal.returns-else-page-bytes_of-gt1
returns-else-page-bytes_of-gt1 c =
    let args : _ = c.args in
    let room : length args.page.now - args.i.count * 2 ≤ 1 = omega (arith, c.bytes_of.ensures) in
    low_only args.x ∙ ap (λ (y : ℕ). eqb y args.x) (sym (low_byte args.page.now args.i.count args.x c.requires room))
