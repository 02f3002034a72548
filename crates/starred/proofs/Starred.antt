-- Every row of the table gives what it says: both columns compute to the same list.
-- Assumes nothing.
use mathlib.Core.Path.{◌≡◌, refl}
use mathlib.Core.List.{map}
use Rattle.units.specs.Runs.{end_to_end}
use Rattle.units.specs.Writing.{written}
use Rattle.units.specs.Naming.{named}
use Rattle.field.specs.Field.{◌⊕◌, digit, expanded, reduced, product, power}
use Rattle.signature.specs.Objects.{low_first, low_bytes, symbol}
use Rattle.signature.specs.Signatures.{total, component}
use Rattle.caption.specs.Codes.{coded, hit}
use Rattle.caption.specs.Recoding.{encoded}
use Rattle.caption.specs.Searches.{found}
use Rattle.starred.specs.Table.{Row, rows}

pub starred : map (λ (r : Row). r.gives) rows ≡ map (λ (r : Row). r.says) rows
unfolding total component symbol low_first low_bytes product reduced expanded digit power ◌⊕◌ end_to_end written named encoded coded found hit
starred = refl
