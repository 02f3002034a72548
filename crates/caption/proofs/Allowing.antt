-- What it means that no test of encode and decode, or of a search, applies: in words of lengths, and back.
-- Assumes nothing.
use mathlib.Core.Path.{◌≡◌, sym, ap, ◌∙◌}
use mathlib.Core.Logic.{◌≢◌}
use mathlib.Core.Bool.{and-eq-true_iff}
use mathlib.Core.List.{List}
use Prim.Native.Nat.{ℕ, ◌%◌, ◌≤◌}
use lib.ListN.{length}
use borrow.Author.Tests.{leb-true, eqb-true, eqb-false, ltb-false, not-false, le-leb, eq-eqb, ne_eqb, le-ltb}
use Rattle.units.specs.Refusals.{first}
use Rattle.units.specs.Filling.{outcome, outcome_of}
use Rattle.units.specs.Writing.{written}
use Rattle.units.specs.declared.Refusal.{Refusal}
use Rattle.units.specs.Refusals.{Verdict}
use Rattle.units.proofs.Refusing.{allowed_when}
use Rattle.signature.specs.Objects.{symbols}
use Rattle.signature.specs.Kinds.{wide}
use Rattle.signature.specs.Operations.{whole}
use Rattle.caption.specs.Recoding.{recode_tests, recoding}
use Rattle.caption.specs.Searches.{places_for, search_tests}
use Rattle.std.specs.Prelude.{Ok, Err}
use Rattle.units.specs.Refusals.{allowed, refused}

-- a field of whole symbols, not too many, and room for as many bytes
pub record Recodable (caption output : List ℕ) : Type 0 where
  pub short : symbols 2 caption ≤ 32768
  pub even : length caption % 2 ≡ 0
  pub fits : length caption ≤ length output

pub recodable : (caption output : List ℕ) → first (recode_tests caption output) ≡ allowed → Recodable caption output
recodable caption output allowed =
    let quiet : _ = (allowed_when (recode_tests caption output)).0 allowed in
    record {
      short = leb-true _ _ (not-false _ quiet.0);
      even = eqb-true _ _ (not-false _ quiet.1.0);
      fits = ltb-false _ _ quiet.1.1.0;
    }

pub recode_allowed : (caption output : List ℕ) → Recodable caption output → first (recode_tests caption output) ≡ allowed
recode_allowed caption output r = simp (le-leb _ _ r.short, eq-eqb _ _ r.even, le-ltb _ _ r.fits)

-- what encode and decode answer and leave, from what their tests said

pub recoded : (new caption output after : List ℕ) → first (recode_tests caption output) ≡ allowed → after ≡ written output 0 new
    → outcome_of (Ok (record { count = length caption })) after ≡ recoding new caption output
recoded new caption output after allowed is =
    ap (outcome_of (Ok (record { count = length caption }))) is ∙ sym (ap (λ (v : Verdict). outcome v (length caption) new output) allowed)

pub not_recoded : (new caption output : List ℕ) (r : Refusal) → first (recode_tests caption output) ≡ refused r
    → outcome_of (Err r) output ≡ recoding new caption output
not_recoded new caption output r refused = sym (ap (λ (v : Verdict). outcome v (length caption) new output) refused)

-- a field and a pattern of whole symbols, the field of not too many and the pattern of some, and room for every place
pub record Searchable (caption pattern list : List ℕ) : Type 0 where
  pub short : symbols 2 caption ≤ 32768
  pub even : length caption % 2 ≡ 0
  pub pattern_even : length pattern % 2 ≡ 0
  pub fits : places_for caption pattern ≤ length list
  pub some : symbols 2 pattern ≢ 0

pub searchable : (caption pattern list : List ℕ) → first (search_tests caption pattern list) ≡ allowed → Searchable caption pattern list
searchable caption pattern list allowed =
    let quiet : _ = (allowed_when (search_tests caption pattern list)).0 allowed in
    let wholes : _ = (and-eq-true_iff (whole wide caption) (whole wide pattern)).0 (not-false _ quiet.1.0) in
    record {
      short = leb-true _ _ (not-false _ quiet.0);
      even = eqb-true _ _ wholes.0;
      pattern_even = eqb-true _ _ wholes.1;
      fits = ltb-false _ _ quiet.1.1.0;
      some = eqb-false _ _ quiet.1.1.1.0;
    }

pub search_allowed : (caption pattern list : List ℕ) → Searchable caption pattern list → first (search_tests caption pattern list) ≡ allowed
search_allowed caption pattern list s =
    simp (le-leb _ _ s.short, eq-eqb _ _ s.even, eq-eqb _ _ s.pattern_even, le-ltb _ _ s.fits, ne_eqb _ _ s.some)
