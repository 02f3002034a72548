-- What holds of the two answers without a change.
-- Assumes nothing.
use Rattle.std.proofs.Common.{◌≡◌, refl}
use Rattle.repair.specs.declared.Change.{Change}
use Rattle.repair.specs.declared.Repair.{Repair}
use Rattle.repair.specs.declared.Repair.TheVariants.{Whole, Repaired, Beyond}

pub without_change : {A : Type 0} (f : Repair → A) (a : A) → f Whole ≡ a → f Beyond ≡ a → (r : Repair) → ((c : Change) → r ≡ Repaired c → ⊥) → f r ≡ a
without_change f a whole beyond Whole other = whole
without_change f a whole beyond (Repaired c) other = absurd (other c refl)
without_change f a whole beyond Beyond other = beyond
