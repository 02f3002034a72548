-- `repair::mend` meets its contract: where there is a change it is made, and else the page stays.
-- Assumes nothing.
use mathlib.Core.Path.{refl, sym, ◌∙◌}
use mathlib.Core.List.{List}
use Prim.Native.Nat.{ℕ}
use Rattle.repair.specs.Repairs.{page_left}
use Rattle.repair.specs.declared.Repair.{Repair}
use Rattle.repair.proofs.Mending.{mended_change}
use Rattle.repair.proofs.Tags.{without_change}
use Rattle.repair.proofs.mend.Goals as goal

pub returns-in_default : goal.returns-in_default
unfolding page_left
returns-in_default c =
    let page : List ℕ = c.args.page.now in
    (c.diagnose-repair.ensures, sym (without_change (λ (r : Repair). page_left r page) page refl refl c.diagnose-repair.result c.in_default.not-Repaired))

pub put_symbol-requires : goal.put_symbol-requires
put_symbol-requires c =
    let args : _ = c.args in
    (mended_change args.entry args.page.now _ (sym c.diagnose-repair.ensures ∙ c.in-Repaired.is)).inside

pub returns : goal.returns
unfolding page_left
returns c =
    (sym c.in-Repaired.is ∙ c.diagnose-repair.ensures, c.put_symbol.ensures)
