-- What is promised of encode, decode and search: no second answer, refusals exactly when the table says, and what a call that is not refused answers
-- and leaves.
-- Assumes nothing.
use mathlib.Core.Path.{◌≡◌, refl, sym, ap, ◌∙◌}
use mathlib.Core.Logic.{◌↔◌}
use mathlib.Core.Bool.{and-false}
use mathlib.Core.List.{List, []}
use Prim.Native.Nat.{ℕ, ◌+◌, ◌%◌, ◌≤◌, ◌<◌}
use native.Mathlib.Nat.{zero-add}
use native.Mathlib.Omega.{arith}
use lib.ListN.{length, take, drop}
use borrow.Author.Tests.{lt-leb, le-leb, ne_eqb}
use Rattle.units.specs.Refusals.{first}
use Rattle.units.specs.Filling.{outcome, told}
use Rattle.units.specs.Naming.{told as told_listed}
use Rattle.units.specs.Writing.{written}
use Rattle.units.specs.Filling.{Filled}
use Rattle.units.specs.Naming.{Listed}
use Rattle.units.specs.declared.Refusal.{Refusal}
use Rattle.units.specs.Refusals.{Verdict}
use Rattle.units.proofs.Filling.{filling_refused, filling_refused_keeps, filling_puts, filling_keeps_after}
use Rattle.units.proofs.Naming.{named_none}
use Rattle.units.proofs.Refusing.{Lowest, told_lowest}
use Rattle.units.proofs.Writing.{written_none, written_inside, written_after}
use Rattle.signature.specs.Objects.{Octets, symbols}
use Rattle.caption.specs.Recoding.{encoded, decoded, recode_tests, recoding, encoding, decoding}
use Rattle.caption.specs.Searches.{Searched, found, searched_of, search_unless, search_tests, searching}
use Rattle.caption.proofs.Allowing.{Recodable, recode_allowed, Searchable, search_allowed}
use Rattle.caption.proofs.Fields.{encoded_symbols, encoded_length, decoded_symbols, decoded_length, decoded_encoded, encoded_decoded}
use Rattle.caption.proofs.Finding.{found_few}
use Rattle.caption.proofs.encode.Reads as Encode
use Rattle.caption.proofs.decode.Reads as Decode
use Rattle.caption.proofs.search.Reads as Search
use Rattle.std.specs.Prelude.{Ok, Err}
use Rattle.units.specs.Refusals.{refused}

-- ---- no second answer, and nothing else left in what is lent

pub encode_one_answer : (κs : _) (a : _) (r s : Filled) (x y : _) → Encode.Post κs a r x → Encode.Post κs a s y → (r ≡ s) × (x.1.0.now ≡ y.1.0.now)
encode_one_answer κs a r s x y p q = let same : _ = p ∙ sym q in (ap (λ o. o.answer) same, ap (λ o. o.output) same)

pub decode_one_answer : (κs : _) (a : _) (r s : Filled) (x y : _) → Decode.Post κs a r x → Decode.Post κs a s y → (r ≡ s) × (x.1.0.now ≡ y.1.0.now)
decode_one_answer κs a r s x y p q = let same : _ = p ∙ sym q in (ap (λ o. o.answer) same, ap (λ o. o.output) same)

pub search_one_answer : (κs : _) (a : _) (r s : Listed) (x y : _) → Search.Post κs a r x → Search.Post κs a s y → (r ≡ s) × (x.1.1.0.now ≡ y.1.1.0.now)
search_one_answer κs a r s x y p q = let same : _ = p ∙ sym q in (ap (λ o. o.answer) same, ap (λ o. o.list) same)

-- ---- encode and decode, with the field's new form

module _ (new caption output : List ℕ) where
  pub recode_refused : (r : Refusal) → (told (recoding new caption output).answer ≡ refused r) ↔ Lowest (recode_tests caption output) r
  recode_refused = filling_refused (length caption) new output (recode_tests caption output) tt

  pub recode_refused_keeps : (r : Refusal) → told (recoding new caption output).answer ≡ refused r → (recoding new caption output).output ≡ output
  recode_refused_keeps = filling_refused_keeps (length caption) new output (recode_tests caption output)

  -- the edges: a field of 65,537 bytes, and one of 65,535
  pub recode_long : 65537 ≤ length caption → (recoding new caption output).answer ≡ Err Refusal.Long
  recode_long long = let beyond : 32768 < symbols 2 caption = omega arith in simp (lt-leb _ _ beyond)

  pub recode_odd : length caption ≤ 65535 → length caption % 2 ≡ 1 → (recoding new caption output).answer ≡ Err Refusal.Odd
  recode_odd short odd =
      let within : symbols 2 caption ≤ 32768 = omega arith in
      let part : length caption % 2 ≡ 0 → ⊥ = λ even. omega arith in
      simp (le-leb _ _ within, ne_eqb _ _ part)

  module _ (r : Recodable caption output) where
    pub recode_answers : (recoding new caption output).answer ≡ Ok (record { count = length caption })
    recode_answers = ap (λ (v : Verdict). (outcome v (length caption) new output).answer) (recode_allowed caption output r)

    module _ (as_long : length new ≡ length caption) where
      pub recode_puts : take (length caption) (recoding new caption output).output ≡ new
      recode_puts = filling_puts (length caption) new output (recode_tests caption output) as_long r.fits (recode_allowed caption output r)

      pub recode_keeps_after : drop (length caption) (recoding new caption output).output ≡ drop (length caption) output
      recode_keeps_after = filling_keeps_after (length caption) new output (recode_tests caption output) as_long r.fits (recode_allowed caption output r)

-- ---- decode after encode, and encode after decode

-- one way and then back: what was written is handed in again, with a second output
module _ (one back : List ℕ → List ℕ) (caption output again : List ℕ) (r : Recodable caption output) (fits : length caption ≤ length again)
    (one-symbols : symbols 2 (one caption) ≡ symbols 2 caption) (one-length : length (one caption) ≡ length caption)
    (back-length : length (back (one caption)) ≡ length (one caption)) (undone : back (one caption) ≡ caption) where
  recode_twice : take (length caption)
      (recoding (back (take (length caption) (recoding (one caption) caption output).output)) (take (length caption) (recoding (one caption) caption output).output) again).output
      ≡ caption
  recode_twice =
      let second : Recodable (one caption) again =
      record { short = omega (arith, r.short); even = ap (λ (n : ℕ). n % 2) one-length ∙ r.even; fits = omega arith } in
      ap (λ (l : List ℕ). take (length caption) (recoding (back l) l again).output) (recode_puts (one caption) caption output r one-length)
      ∙ ap (λ (n : ℕ). take n (recoding (back (one caption)) (one caption) again).output) (sym one-length)
      ∙ recode_puts (back (one caption)) (one caption) again second back-length
      ∙ undone

module _ (e : ℕ) (caption output again : List ℕ) (octets : Octets caption) (r : Recodable caption output) (fits : length caption ≤ length again) where
  pub decode_after_encode : take (length caption) (decoding e (take (length caption) (encoding e caption output).output) again).output ≡ caption
  decode_after_encode =
      recode_twice (encoded e) (decoded e) caption output again r fits (encoded_symbols e caption) (encoded_length e caption r.even)
      (ap length (decoded_encoded e caption octets r.even) ∙ sym (encoded_length e caption r.even))
      (decoded_encoded e caption octets r.even)

  pub encode_after_decode : take (length caption) (encoding e (take (length caption) (decoding e caption output).output) again).output ≡ caption
  encode_after_decode =
      recode_twice (decoded e) (encoded e) caption output again r fits (decoded_symbols e caption) (decoded_length e caption r.even)
      (ap length (encoded_decoded e caption octets r.even) ∙ sym (decoded_length e caption r.even))
      (encoded_decoded e caption octets r.even)

-- ---- a search

module _ (e : ℕ) (caption pattern list : List ℕ) where
  search_told : (v : Verdict) → told_listed (search_unless v (found e caption pattern) list).answer ≡ v
  search_told (Ok _) = refl
  search_told (Err r) = refl

  search_is : told_listed (searching e caption pattern list).answer ≡ first (search_tests caption pattern list)
  search_is = search_told (first (search_tests caption pattern list))

  pub search_refused : (r : Refusal) → (told_listed (searching e caption pattern list).answer ≡ refused r) ↔ Lowest (search_tests caption pattern list) r
  search_refused r = told_lowest _ (search_tests caption pattern list) search_is tt r

  pub search_refused_keeps : (r : Refusal) → told_listed (searching e caption pattern list).answer ≡ refused r → (searching e caption pattern list).list ≡ list
  search_refused_keeps r p = ap (λ (v : Verdict). (search_unless v (found e caption pattern) list).list) (sym search_is ∙ p)

  module _ (s : Searchable caption pattern list) where
    search_leaves : searching e caption pattern list ≡ searched_of (Ok (length (found e caption pattern))) (written list 0 (found e caption pattern))
    search_leaves = ap (λ (v : Verdict). search_unless v (found e caption pattern) list) (search_allowed caption pattern list s)

    places_fit : 0 + length (found e caption pattern) ≤ length list
    places_fit = omega (arith, found_few e caption pattern, s.fits)

    -- the count is that of the places, which stand at the list's start
    pub search_counts : (searching e caption pattern list).answer ≡ Ok (length (found e caption pattern))
    search_counts = ap (λ (o : Searched). o.answer) search_leaves

    pub search_lists : take (length (found e caption pattern)) (searching e caption pattern list).list ≡ found e caption pattern
    search_lists =
        ap (λ (o : Searched). take (length (found e caption pattern)) o.list) search_leaves ∙ written_inside list 0 (found e caption pattern) places_fit

    pub search_keeps_after : drop (length (found e caption pattern)) (searching e caption pattern list).list ≡ drop (length (found e caption pattern)) list
    search_keeps_after =
        let end : 0 + length (found e caption pattern) ≡ length (found e caption pattern) = zero-add _ in
        ap (λ (o : Searched). drop (length (found e caption pattern)) o.list) search_leaves
        ∙ ap (λ (n : ℕ). drop n (written list 0 (found e caption pattern))) (sym end)
        ∙ written_after list 0 (found e caption pattern) places_fit
        ∙ ap (λ (n : ℕ). drop n list) end

    -- a pattern longer than the field has no hits, however long it is, and needs no list
    pub search_longer : symbols 2 caption < symbols 2 pattern → searching e caption pattern list ≡ searched_of (Ok 0) list
    unfolding found
    search_longer longer =
        let none : found e caption pattern ≡ [] =
        simp (lt-leb _ _ longer, and-false) (named_none _) in
        search_leaves ∙ ap (λ (l : List ℕ). searched_of (Ok (length l)) (written list 0 l)) none
        ∙ ap (searched_of (Ok 0)) (written_none list 0 (omega arith))
