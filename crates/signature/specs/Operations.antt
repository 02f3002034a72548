-- What sign, join and edit answer, for every kind of symbol and every input: the refusal of the first test that applies, and else the signature.
use Rattle.std.specs.Prelude.{ℕ, ◌+◌, ◌%◌, Bool, not, ◌&&◌, List, [], ◌∷◌, leb, eqb, length, Result, Ok, Err}
use Rattle.units.specs.Sizes.{n_allowed}
use Rattle.units.specs.Refusals.{Verdict, Test, first, gives}
use Rattle.signature.specs.Kinds.{Kind}
use Rattle.signature.specs.Objects.{symbols}
use Rattle.signature.specs.Signatures.{signature, joined, edited, handed, answered}
use Rattle.signature.specs.declared.Signature.{Signature}
use Rattle.units.specs.declared.Refusal.{Refusal}

-- the signature, or why there is none
abbrev pub Answer : Type 0
Answer = Result Signature Refusal

-- what the table says of an answer
abbrev pub told : Answer → Verdict
told (Ok s) = Ok tt
told (Err r) = Err r

abbrev pub unless : Verdict → Signature → Answer
unless (Ok _) s = Ok s
unless (Err r) s = Err r

-- the refusal of the first test that applies, and else the signature
abbrev pub decided : List Test → Signature → Answer
decided tests s = unless (first tests) s

module _ (K : Kind) where
  -- symbols that an object may have
  abbrev pub allowed : ℕ → Bool
  allowed symbols = leb symbols K.most

  abbrev pub whole : List ℕ → Bool
  whole bytes = eqb (length bytes % K.size) 0

  -- an object's own signature, as it is handed over
  abbrev pub own : ℕ → List ℕ → Signature
  own n object = answered n (signature K.field K.size object)

  abbrev pub sign_tests : ℕ → List ℕ → List Test
  sign_tests n object = gives Refusal.Size (not (n_allowed n)) ∷ gives Refusal.Long (not (allowed (symbols K.size object))) ∷ []

  abbrev pub signing : ℕ → List ℕ → Answer
  signing n object = decided (sign_tests n object) (own n object)

  -- the first part has a symbols, the second b
  abbrev pub join_tests : Signature → ℕ → Signature → ℕ → List Test
  join_tests first a second b =
      gives Refusal.Size (not (n_allowed first.n && n_allowed second.n))
      ∷ gives Refusal.Long (not (allowed (a + b)))
      ∷ gives Refusal.Match (not (eqb first.n second.n))
      ∷ []

  abbrev pub joining : Signature → ℕ → Signature → ℕ → Answer
  joining first a second b = decided (join_tests first a second b) (answered first.n (joined K.field (handed first) a (handed second)))

  -- from symbol r on, the old bytes are replaced by the new ones
  abbrev pub edit_tests : Signature → ℕ → List ℕ → List ℕ → List Test
  edit_tests s r old new =
      gives Refusal.Size (not (n_allowed s.n))
      ∷ gives Refusal.Long (not (allowed (r + symbols K.size old)))
      ∷ gives Refusal.Odd (not (whole old && whole new))
      ∷ gives Refusal.Match (not (eqb (length old) (length new)))
      ∷ []

  abbrev pub editing : Signature → ℕ → List ℕ → List ℕ → Answer
  editing s r old new =
      decided (edit_tests s r old new)
      (answered s.n (edited K.field (handed s) r (signature K.field K.size old) (signature K.field K.size new)))
