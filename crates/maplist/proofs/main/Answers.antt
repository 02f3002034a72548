-- `maplist::main` meets its contract: what was answered as written is inside the output.
-- Assumes nothing.
use mathlib.Core.Path.{◌≡◌, sym, ap, ◌∙◌, subst}
use Prim.Native.Nat.{ℕ, ◌≤◌}
use lib.ListN.{length}
use lib.Seq.{length-take-le}
use mathlib.Core.List.{List}
use Rattle.std.specs.Prelude.{Ok}
use Rattle.units.specs.Filling.{Filled, outcome_of}
use Rattle.units.specs.declared.Bytes.{Bytes}
use Rattle.listing.specs.Lines.{text_out}
use Rattle.listing.proofs.Texts.{text_fits}
use Rattle.maplist.proofs.main.Goals as goal

inside : (a : Filled) (b : Bytes) (text output after : List ℕ) → a ≡ Ok b → outcome_of a after ≡ text_out text output → length after ≡ length output → b.count ≤ length after
inside a b text output after is e same =
    subst (λ (k : ℕ). b.count ≤ k) (sym same) (text_fits text output b after (ap (λ (x : Filled). outcome_of x after) (sym is) ∙ e))

pub slice_bounds-output-end : goal.slice_bounds-output-end
slice_bounds-output-end c = inside _ _ _ _ _ c.in-Ok.is c.list.ensures c.list.auto.output

pub slice_bounds-text-end : goal.slice_bounds-text-end
slice_bounds-text-end c = sym (length-take-le _ _ (inside _ _ _ _ _ c.in-Ok.is c.list.ensures c.list.auto.output))
