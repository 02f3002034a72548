-- `listing::Writer::columns` meets its contract: one component after the other. The invariant: those before j are put.
-- Assumes nothing.
use mathlib.Core.Path.{◌≡◌, sym, ◌∙◌, subst}
use mathlib.Core.List.{List, ◌∷◌}
use Prim.Native.Nat.{ℕ, ◌+◌, ◌-◌, ◌≤◌}
use native.Mathlib.Omega.{arith}
use Rattle.units.specs.Runs.{end_to_end}
use Rattle.signature.specs.Signatures.{handed}
use Rattle.signature.specs.declared.Signature.{Signature}
use Rattle.listing.specs.Digits.{hex}
use Rattle.listing.specs.Lines.{columns}
use Rattle.listing.specs.declared.Writer.{Writer}
use Rattle.listing.specs.Writers.{HasRoom, Puts}
use Rattle.listing.proofs.Writers.{run_start, run_room, run_puts}
use Rattle.listing.proofs.Writer.columns.Goals as goal

abbrev column : Signature → ℕ → List ℕ
column s j = 32 ∷ hex (handed s j)

module _ (s : Signature) (old : Writer) (room : HasRoom (columns s.n (handed s)) old) (j : ℕ) (some : 1 ≤ j) (inside : j ≤ s.n)
    (mid : Writer) (first : Puts (end_to_end (column s) 1 (j - 1)) old mid) (x : ℕ) (is : x ≡ handed s j) where
  room_here : HasRoom (32 ∷ hex x) mid
  unfolding columns
  room_here = subst (λ (y : ℕ). HasRoom (32 ∷ hex y) mid) (sym is) (run_room (column s) 1 s.n (j - 1) j (omega arith) (omega arith) old mid room first)

  one_more : (new : Writer) → Puts (32 ∷ hex x) mid new → Puts (end_to_end (column s) 1 j) old new
  unfolding columns
  one_more new put =
      run_puts (column s) 1 s.n (j - 1) j (omega arith) (omega arith) old mid room first new (subst (λ (y : ℕ). Puts (32 ∷ hex y) mid new) is put) j
      (omega arith)

pub loop-j-init : goal.loop-j-init
unfolding columns
loop-j-init c = (run_start (column c.args.s) 1 c.args.s.n c.args.self.now c.requires, omega arith)

pub column-requires : goal.column-requires
column-requires c =
    let at : _ = c.loop-j in
    room_here c.args.s c.args.self.now c.requires at.j at.auto.j c.loop-j-test.true at.self at.invariant.0 c.from.result (c.from.ensures ∙ c.component.ensures)

pub loop-j-preserved : goal.loop-j-preserved
loop-j-preserved c =
    let at : _ = c.loop-j in
    let put : Puts (end_to_end (column c.args.s) 1 at.j) c.args.self.now c.column.new.self =
    one_more c.args.s c.args.self.now c.requires at.j at.auto.j c.loop-j-test.true at.self at.invariant.0 c.from.result (c.from.ensures ∙ c.component.ensures)
    c.column.new.self c.column.ensures in
    let same : at.j ≡ at.j + 1 - 1 = omega arith in
    (subst (λ (k : ℕ). Puts (end_to_end (column c.args.s) 1 k) c.args.self.now c.column.new.self) same put, omega (arith, c.loop-j-test.true))

pub returns : goal.returns
unfolding columns
returns c =
    let at : _ = c.loop-j in
    let all : at.j - 1 ≡ c.args.s.n = omega (arith, at.invariant.1, c.loop-j-test.false) in
    subst (λ (k : ℕ). Puts (end_to_end (column c.args.s) 1 k) c.args.self.now at.self) all at.invariant.0

pub returns-2 : goal.returns-2
unfolding columns
returns-2 c =
    let at : _ = c.loop-j in
    let put : Puts (end_to_end (column c.args.s) 1 at.j) c.args.self.now c.column.new.self =
    one_more c.args.s c.args.self.now c.requires at.j at.auto.j c.loop-j-test.true at.self at.invariant.0 c.from.result (c.from.ensures ∙ c.component.ensures)
    c.column.new.self c.column.ensures in
    let all : at.j ≡ c.args.s.n = omega (arith, c.loop-j-test.true) in
    subst (λ (k : ℕ). Puts (end_to_end (column c.args.s) 1 k) c.args.self.now c.column.new.self) all put
