-- What a buffer holds after a part of it was written over.
use Rattle.std.specs.Prelude.{cond, List, ◌++◌, ℕ, ◌+◌, leb, length, take, drop}

-- the elements before place `at`, the new part, and the elements after it
unfoldable pub written : List ℕ → ℕ → List ℕ → List ℕ
written old at new = take at old ++ (new ++ drop (at + length new) old)

-- where there is no room for the part, all stays as it was
unfoldable pub part_put : List ℕ → List ℕ → ℕ → List ℕ
part_put part old at = cond (leb (at + length part) (length old)) (written old at part) old

-- what a function does that writes a part at a place: the buffer, and the place after the part
pub record Put : Type 0 where
  pub buffer : List ℕ
  pub next : ℕ

abbrev pub put_of : List ℕ → ℕ → Put
put_of buffer next = record { buffer = buffer; next = next }

abbrev pub put : List ℕ → ℕ → List ℕ → Put
put old at new = put_of (written old at new) (at + length new)
