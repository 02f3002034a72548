-- An operation that fills the start of a lent output: what it answers, and what the output holds when it returns.
use Rattle.std.specs.Prelude.{ℕ, List, ltb, length, Result, Ok, Err}
use Rattle.units.specs.Refusals.{Test, Verdict, allowed, refused, gives, first}
use Rattle.units.specs.Writing.{written}
use Rattle.units.specs.declared.Refusal.{Refusal}
use Rattle.units.specs.declared.Refusal.TheVariants.{Room}
use Rattle.units.specs.declared.Bytes.{Bytes}

-- the output is shorter than needed
abbrev pub room : ℕ → List ℕ → Test
room needed output = gives (Room needed) (ltb (length output) needed)

-- how many bytes were written, or why none
abbrev pub Filled : Type 0
Filled = Result Bytes Refusal

pub record Outcome : Type 0 where
  pub answer : Filled
  pub output : List ℕ

abbrev pub outcome_of : Filled → List ℕ → Outcome
outcome_of answer output = record { answer = answer; output = output }

-- the new bytes, and how many they are; where it is refused, the output as it was
abbrev pub outcome : Verdict → ℕ → List ℕ → List ℕ → Outcome
outcome (Ok t) size new output = outcome_of (Ok (record { count = size })) (written output 0 new)
outcome (Err r) size new output = outcome_of (Err r) output

abbrev pub filling : List Test → ℕ → List ℕ → List ℕ → Outcome
filling tests size new output = outcome (first tests) size new output

-- what the table says of an answer
abbrev pub told : Filled → Verdict
told (Ok b) = allowed
told (Err r) = refused r
