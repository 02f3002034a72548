-- The numbers that a test names, in order, and what is answered by an operation that lists them.
use Rattle.std.specs.Prelude.{Bool, cond, List, [], ◌∷◌, ◌++◌, ℕ, zero, suc, ◌<◌, length, get_or, ltb, Result, Ok, Err, Option, Some, None}
use Rattle.units.specs.declared.Refusal.{Refusal}
use Rattle.units.specs.Refusals.{Verdict, allowed, refused}

-- those below m, upward
unfoldable pub named : (ℕ → Bool) → ℕ → List ℕ
named test zero = []
named test (suc m) = named test m ++ cond (test m) (m ∷ []) []

-- the first of m numbers from k on that is named, and the one after them if none is
unfoldable pub first_named : (ℕ → Bool) → ℕ → ℕ → ℕ
first_named test zero k = k
first_named test (suc m) k = cond (test k) k (first_named test m (suc k))

-- the lowest below m that is named
abbrev pub lowest_named : (ℕ → Bool) → ℕ → Option ℕ
lowest_named test m = cond (ltb (first_named test m 0) m) (Some (first_named test m 0)) None

-- each number is above those before it, so none stands twice
abbrev pub Upward : List ℕ → Type 0
Upward l = (i j : ℕ) → i < j → j < length l → get_or l i 0 < get_or l j 0

-- how many numbers were put at the start of a lent list, or why none
abbrev pub Listed : Type 0
Listed = Result ℕ Refusal

-- what the table says of an answer
abbrev pub told : Listed → Verdict
told (Ok count) = allowed
told (Err r) = refused r
