-- What stands before every store and load: the map is read, and the lengths that belong together are compared.
use Rattle.std.specs.Prelude.{Bool, true, false, not, ◌&&◌, List, [], ◌∷◌, ℕ, eqb, Result, Ok, Err}
use Rattle.units.specs.Refusals.{Verdict, Test, gives, first}
use Rattle.units.specs.declared.Refusal.{Refusal}
use Rattle.map.specs.Reading.{header_of, reading}
use Rattle.map.specs.declared.Header.{Header}
use Rattle.map.specs.Reading.{Reading}

abbrev pub breaks : Reading → Bool
breaks (Ok h) = false
breaks (Err b) = true

abbrev pub broken_at : Reading → ℕ
broken_at (Ok h) = 0
broken_at (Err b) = b.place

-- the map breaks a rule
abbrev pub map_test : List ℕ → Test
map_test map = gives (Refusal.Map (broken_at (reading map))) (breaks (reading map))

-- one of two buckets is not as long as the header says
abbrev pub match_test : ℕ → ℕ → Header → Test
match_test one other h = gives Refusal.Match (not (eqb one h.bucket.count && eqb other h.bucket.count))

-- these two before the operation's own tests
abbrev pub open_tests : ℕ → ℕ → List ℕ → List Test → List Test
open_tests one other map own = map_test map ∷ match_test one other (header_of map) ∷ own

-- the header of a backup that may be used, or why it may not
abbrev pub Opening : Type 0
Opening = Result Header Refusal

abbrev pub opened : Verdict → Header → Opening
opened (Ok _) h = Ok h
opened (Err r) h = Err r

unfoldable pub opening : ℕ → ℕ → List ℕ → Opening
opening one other map = opened (first (open_tests one other map [])) (header_of map)
