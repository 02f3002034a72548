-- `units::put_part` meets its contract. The invariant: what is left to write gives what the whole gives.
-- Assumes nothing.
use mathlib.Core.List.{List, ◌∷◌}
use mathlib.Core.Path.{◌≡◌, sym, ap, ◌∙◌}
use Prim.Native.Nat.{ℕ, ◌+◌, ◌≤◌, ◌<◌}
use native.Mathlib.Omega.{arith}
use native.Mathlib.Numerals.{add-one}
use lib.Seq.{drop-cons, drop-length}
use lib.ListN.{length, get_or, drop, set, length-set, length-drop}
use Rattle.units.specs.Writing.{written}
use Rattle.units.proofs.Writing.{written_none, written_cons, part_put_lem}
use Rattle.units.proofs.put_part.Goals as goal

pub loop-i-preserved : goal.loop-i-preserved
loop-i-preserved c =
    let args : _ = c.args in
    let at : _ = c.loop-i in
    let part : List ℕ = args.part.now in
    let inside : at.i < length part = omega arith in
    let place : args.at + (at.i + 1) ≡ args.at + at.i + 1 = omega arith in
    let rest : drop at.i part ≡ get_or part at.i 0 ∷ drop (at.i + 1) part =
    drop-cons part at.i 0 inside ∙ ap (λ (k : ℕ). get_or part at.i 0 ∷ drop k part) (sym (add-one at.i)) in
    let fits : args.at + at.i + 1 + length (drop (at.i + 1) part) ≤ length at.buffer = omega (arith, length-drop (at.i + 1) part) in (
      ap (λ (k : ℕ). written (set at.buffer (args.at + at.i) (get_or part at.i 0)) k (drop (at.i + 1) part)) place
          ∙ written_cons at.buffer (args.at + at.i) (get_or part at.i 0) (drop (at.i + 1) part) fits
          ∙ ap (written at.buffer (args.at + at.i)) (sym rest)
          ∙ at.invariant.0,
      omega arith,
      length-set at.buffer _ _ ∙ at.invariant.2,
    )

pub returns : goal.returns
returns c =
    let args : _ = c.args in
    let at : _ = c.loop-i in
    let part : List ℕ = args.part.now in
    let all : at.i ≡ length part = omega arith in
    let inside : args.at + at.i ≤ length at.buffer = omega arith in
    sym (written_none at.buffer (args.at + at.i) inside)
    ∙ ap (written at.buffer (args.at + at.i)) (sym (ap (λ (k : ℕ). drop k part) all ∙ drop-length part))
    ∙ at.invariant.0
    ∙ sym (part_put_lem part args.buffer.now args.at (omega arith))
