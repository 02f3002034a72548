-- One field of a map: tag, length and value, read by its tag's rule.
use Rattle.std.specs.Prelude.{Bool, false, cond, List, ℕ, zero, suc, ◌+◌, leb, eqb, length, get_or, Option, Some, None}
use Rattle.units.specs.Counts.{bytes_in}
use Rattle.signature.specs.Objects.{low_first}
use Rattle.reader.specs.declared.Tagged.{Tagged}

-- a field that keeps its tag's rule; none where it is broken
abbrev pub Field : Type 0
Field = Option Tagged

-- what a tag asks of its field
pub data Rule : Type 0 where
  -- a length
  long : ℕ → Rule
  -- the tag is refused
  none : Rule

-- the rule of each tag, in a map of n components
abbrev pub rule : ℕ → ℕ → Rule
rule n zero = none
rule n (suc zero) = long 1
rule n (suc (suc zero)) = long 4
rule n (suc (suc (suc zero))) = long 4
rule n (suc (suc (suc (suc zero)))) = long (bytes_in 2 n)
rule n (suc (suc (suc (suc (suc tag))))) = none

-- the length is the one due, and the value is not cut off
abbrev pub under_rule : Rule → List ℕ → ℕ → Field
under_rule none bytes at = None
under_rule (long size) bytes at =
    cond (eqb (low_first 2 bytes (at + 1)) size)
    (cond (leb (at + 3 + size) (length bytes)) (Some (record { tag = get_or bytes at 0; value = at + 3; next = at + 3 + size })) None)
    None

-- the field whose tag stands at a place
unfoldable pub field_at : ℕ → List ℕ → ℕ → Field
field_at n bytes at = cond (leb (at + 3) (length bytes)) (under_rule (rule n (get_or bytes at 0)) bytes at) None

abbrev pub is_due : ℕ → Field → Bool
is_due tag None = false
is_due tag (Some f) = eqb f.tag tag

-- where reading goes on: behind a field, and at one that is broken
abbrev pub behind : ℕ → Field → ℕ
behind at None = at
behind at (Some f) = f.next

-- a field that was taken off, and the place that reading has come to
pub record Taken : Type 0 where
  pub field : Field
  pub place : ℕ

-- the field at a place, taken off
abbrev pub taken_at : ℕ → List ℕ → ℕ → Taken
taken_at n bytes at = record { field = field_at n bytes at; place = behind at (field_at n bytes at) }
