-- `signature::component_added` meets its contract.
-- Assumes nothing.
use mathlib.Core.Path.{◌≡◌, ap, ◌∙◌}
use Prim.Native.Nat.{ℕ, ◌*◌}
use borrow.Author.Tests.{le-leb}
use Rattle.field.specs.Field.{◌⊕◌, GF16, product, power, α}
use Rattle.field.proofs.Instances.{exponent_power}
use Rattle.signature.proofs.component_added.Goals as goal

pub returns-else-n-j : goal.returns-else-n-j
returns-else-n-j c =
    let args : _ = c.args in
    let moved : c.times_power.result ≡ product GF16 args.y (power GF16 α (args.j * args.at.count)) =
    c.times_power.ensures
    ∙ ap (λ (e : ℕ). product GF16 args.y (power GF16 α e)) c.exponent_of.ensures
    ∙ ap (product GF16 args.y) (exponent_power args.j args.at.count) in
    simp (le-leb _ _ c.if-n-j.false) (c.sum.ensures ∙ ap (λ (x : ℕ). args.x ⊕ x) moved)
