-- `map::making::put_components` meets its contract. The invariant: what is left to write gives what the whole gives.
-- Assumes nothing.
use mathlib.Core.Path.{◌≡◌, sym, ap, ap₂, ◌∙◌}
use mathlib.Core.List.{List}
use Prim.Native.Nat.{ℕ, suc, ◌+◌, ◌-◌, ◌*◌, ◌≤◌}
use native.Mathlib.Numerals.{add-one}
use native.Mathlib.Omega.{arith}
use lib.ListN.{length}
use borrow.Rule.Slice.PartMut.{put_mid}
use Rattle.units.specs.Runs.{end_to_end}
use Rattle.units.specs.Writing.{written}
use Rattle.units.proofs.Runs.{run_turn, run_none}
use Rattle.units.proofs.Writing.{written_none, written_whole}
use Rattle.signature.specs.Objects.{low_bytes}
use Rattle.signature.specs.Signatures.{handed}
use Rattle.signature.proofs.Numbers.{low_bytes_length}
use Rattle.map.specs.Files.{components}
use Rattle.map.proofs.Tagging.{components_length, part_written}
use Rattle.map.proofs.making.put_components.Goals as goal

pub loop-j-init : goal.loop-j-init
unfolding components
loop-j-init c =
    let n : ℕ = c.args.s.n in
    let all : n - 0 ≡ n = omega arith in
    ap (λ (m : ℕ). written c.args.output.now 0 (end_to_end (λ i. low_bytes 2 (handed c.args.s i)) 1 m)) all
    ∙ written_whole c.args.output.now (components n (handed c.args.s)) (components_length n (handed c.args.s) ∙ sym c.requires)

pub loop-j-preserved : goal.loop-j-preserved
unfolding low_bytes
loop-j-preserved c =
    let at : _ = c.loop-j in
    let f : ℕ → List ℕ = λ i. low_bytes 2 (handed c.args.s i) in
    let to : ℕ = 2 * at.j in
    let m : ℕ = c.args.s.n - (at.j + 1) in
    let up : c.args.s.n - at.j ≡ suc m = omega arith in
    let on : 2 * (at.j + 1) ≡ to + 2 = omega arith in
    let put : put_mid to (to + 2 - to) at.output c.copy_from_slice.new.self ≡ written at.output to (f (at.j + 1)) =
    part_written at.output _ (f (at.j + 1)) to _ (c.copy_from_slice.ensures.after ∙ c.to_le_bytes.ensures ∙ ap (low_bytes 2) c.component.ensures) (omega arith) in
    let fits : to + suc m * 2 ≤ length at.output = omega (arith, c.requires) in
    ap₂ (λ (l : List ℕ) (k : ℕ). written l k (end_to_end f (at.j + 1 + 1) m)) put on
    ∙ ap (λ (k : ℕ). written (written at.output to (f (at.j + 1))) (to + 2) (end_to_end f k m)) (add-one (at.j + 1))
    ∙ run_turn f 2 (λ i. low_bytes_length 2 (handed c.args.s i)) at.output to m (at.j + 1) fits
    ∙ ap (λ (k : ℕ). written at.output to (end_to_end f (at.j + 1) k)) (sym up)
    ∙ at.invariant

pub returns : goal.returns
returns c =
    let at : _ = c.loop-j in
    let f : ℕ → List ℕ = λ i. low_bytes 2 (handed c.args.s i) in
    let none : c.args.s.n - at.j ≡ 0 = omega arith in
    sym (written_none at.output (2 * at.j) (omega arith)) ∙ ap (written at.output (2 * at.j)) (sym (run_none f (at.j + 1)))
    ∙ ap (λ (k : ℕ). written at.output (2 * at.j) (end_to_end f (at.j + 1) k)) (sym none) ∙ at.invariant
