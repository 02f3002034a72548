-- `signature::symbol` meets its contract: its two bytes are those at twice its place.
-- Assumes nothing.
use mathlib.Core.List.{List}
use mathlib.Core.Logic.{dite}
use mathlib.Core.Path.{◌≡◌, sym, ap, ◌∙◌}
use Prim.Native.Nat.{ℕ, ◌*◌, ◌-◌, ◌^◌, ◌≤◌, ◌<◌, min}
use native.Mathlib.Omega.{arith}
use native.Mathlib.Decide.{dec_lt}
use lib.ListN.{length}
use Rattle.signature.specs.Objects.{symbol, low_first}
use Rattle.signature.proofs.Parts.{low_first_past}
use Rattle.signature.proofs.symbol.Goals as goal

-- where the place was cut off, there is no symbol
cut_off : (object : List ℕ) (i : ℕ) → length object < 2 ^ 64 → low_first 2 object (min (i * 2) (2 ^ 64 - 1)) ≡ symbol 2 object i
unfolding symbol
cut_off object i short =
    dite (dec_lt (i * 2) (2 ^ 64))
    (λ (inside : i * 2 < 2 ^ 64). let same : min (i * 2) (2 ^ 64 - 1) ≡ i * 2 = omega arith in ap (low_first 2 object) same)
    (λ past.
    let one : length object ≤ min (i * 2) (2 ^ 64 - 1) = omega arith in
    let other : length object ≤ i * 2 = omega arith in
    low_first_past 2 object _ one ∙ sym (low_first_past 2 object _ other))

pub returns : goal.returns
returns c =
    c.pair.ensures
    ∙ ap (low_first 2 c.args.object.now) c.bytes_of.ensures
    ∙ cut_off c.args.object.now c.args.at.count (omega arith)
