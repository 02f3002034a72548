-- A block of a code's places, where a pattern hits among them, and the list of the hits.
use Rattle.std.specs.Prelude.{Bool, ◌≡◌, List, ℕ, ◌+◌, eqb, length, get_or}
use Rattle.units.specs.Naming.{named}
use Rattle.units.specs.Writing.{written}
use Rattle.field.specs.Field.{◌⊕◌}
use Rattle.caption.specs.Codes.{previous}
use Rattle.caption.specs.Pairs.{symbol_in}
use Rattle.caption.specs.declared.Block.{Block}
use Rattle.caption.specs.declared.Hits.{Hits}

-- the place after the block
abbrev pub after : Block → ℕ
after b = b.i + length b.weighed.now

-- what the symbols at place k of the block, weighted as they are in the code, add up to
abbrev pub summed : Block → ℕ → ℕ
summed b k = previous (symbol_in b.symbols.now) (b.i + k + b.l) ⊕ previous (symbol_in b.symbols.now) (b.i + k)

-- they add up to what is weighed there
abbrev pub hit_at : Block → ℕ → Bool
hit_at b k = eqb (summed b k) (get_or b.weighed.now k 0)

-- of the places below k, those that the test names stand at the list's start, and the rest of it is as it was
pub record Notes (test : ℕ → Bool) (old : List ℕ) (k : ℕ) (hits : Hits) : Type 0 where
  pub list_is : hits.list.now ≡ written old 0 (named test k)
  pub found_is : hits.found ≡ length (named test k)
