-- `signature::pair` meets its contract: two bytes, low byte first, fit a word.
-- Assumes nothing.
use mathlib.Core.Path.{sym, ap₂, ◌∙◌}
use Prim.Native.Nat.{ℕ, ◌+◌, ◌*◌}
use Rattle.signature.proofs.Parts.{low_first_past}
use Rattle.signature.proofs.Numbers.{two_bytes}
use Rattle.signature.proofs.pair.Goals as goal

pub returns-then-at-object : goal.returns-then-at-object
returns-then-at-object c =
    sym (low_first_past 2 c.args.object.now c.args.at c.if-at-object.true)

pub returns : goal.returns
returns c =
    c.from_le_bytes.ensures ∙ ap₂ (λ (x y : ℕ). x + y * 256) c.byte-low.ensures c.byte-high.ensures ∙ sym (two_bytes _ _)
