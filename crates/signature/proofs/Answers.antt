-- What is promised of sign, join and edit: the laws of every kind at two-byte symbols, with the scope's numbers.
-- Assumes nothing.
use Rattle.std.specs.Prelude.{Ok}
use mathlib.Core.Path.{◌≡◌, refl, sym, ◌∙◌}
use mathlib.Core.Logic.{◌≢◌}
use mathlib.Core.Bool.{true}
use mathlib.Core.List.{List, [], ◌∷◌, ◌++◌}
use Prim.Native.Nat.{ℕ, ◌%◌, ◌≤◌, ◌<◌}
use native.Mathlib.Nat.{zero-lt-suc}
use native.Mathlib.Omega.{arith}
use lib.ListN.{length}
use borrow.Author.Tests.{le-leb, lt-leb}
use Rattle.units.specs.Answers.{OneAnswer}
use Rattle.units.specs.Sizes.{n_allowed}
use Rattle.signature.specs.Objects.{Octets, symbols}
use Rattle.signature.specs.Kinds.{wide}
use Rattle.signature.specs.Operations.{own, signing, joining, editing}
use Rattle.signature.specs.Differences.{differing}
use Rattle.signature.specs.Edits.{Edited}
use Rattle.signature.proofs.Parts.{whole_length}
use Rattle.signature.proofs.Edited.{part_edited, end_edited}
use Rattle.signature.proofs.EveryKind as Every
use Rattle.signature.proofs.sign.Reads as Sign
use Rattle.signature.proofs.join.Reads as Join
use Rattle.signature.proofs.edit.Reads as Edit
use Rattle.signature.proofs.symbols_in.Reads as SymbolsIn
use Rattle.signature.proofs.own.Reads as OwnOfLem
use Rattle.signature.proofs.symbol.Reads as Symbol
use Rattle.signature.proofs.two_bytes.Reads as TwoBytes
use Rattle.signature.proofs.pair.Reads as Pair
use Rattle.signature.proofs.byte.Reads as Byte
use Rattle.signature.proofs.put_two_bytes.Reads as PutTwoBytes
use Rattle.std.specs.Prelude.{Err}
use Rattle.units.specs.declared.Refusal.{Refusal}

-- ---- no second answer meets a contract

pub sign_one_answer : OneAnswer Sign.Post
sign_one_answer κs a r s x y p q = p ∙ sym q

pub join_one_answer : OneAnswer Join.Post
join_one_answer κs a r s x y p q = p ∙ sym q

pub edit_one_answer : OneAnswer Edit.Post
edit_one_answer κs a r s x y p q = p ∙ sym q

pub symbols_in_one_answer : OneAnswer SymbolsIn.Post
symbols_in_one_answer κs a r s x y p q = λ i. record { count = (p ∙ sym q) i }

pub own_one_answer : OneAnswer OwnOfLem.Post
own_one_answer κs a r s x y p q = p ∙ sym q

pub symbol_one_answer : OneAnswer Symbol.Post
symbol_one_answer κs a r s x y p q = p ∙ sym q

pub two_bytes_one_answer : OneAnswer TwoBytes.Post
two_bytes_one_answer κs a r s x y p q = p ∙ sym q

pub pair_one_answer : OneAnswer Pair.Post
pair_one_answer κs a r s x y p q = p ∙ sym q

pub byte_one_answer : OneAnswer Byte.Post
byte_one_answer κs a r s x y p q = p ∙ sym q

pub put_two_bytes_one_answer : (κs : _) (a : _) (r s : _) (x y : _) → PutTwoBytes.Post κs a r x → PutTwoBytes.Post κs a s y → x.1.0.now ≡ y.1.0.now
put_two_bytes_one_answer κs a r s x y p q = p ∙ sym q

-- ---- the limits

size_allowed : (n : ℕ) → 1 ≤ n → n ≤ 4 → n_allowed n ≡ true
size_allowed n h l = simp (le-leb 1 n h, le-leb n 4 l)

pub sign_within : (n : ℕ) → 1 ≤ n → n ≤ 4 → (object : List ℕ) → length object ≤ 131068 → signing wide n object ≡ Ok (own wide n object)
sign_within n h l object short =
    let within : symbols 2 object ≤ wide.most = omega arith in
    simp (size_allowed n h l, le-leb (symbols 2 object) wide.most within)

pub sign_beyond : (n : ℕ) → 1 ≤ n → n ≤ 4 → (object : List ℕ) → 131069 ≤ length object → signing wide n object ≡ Err Refusal.Long
sign_beyond n h l object long =
    let beyond : wide.most < symbols 2 object = omega arith in
    simp (size_allowed n h l, lt-leb (symbols 2 object) wide.most beyond)

-- ---- a join of two parts, an edit of a page

pub join_of_parts : (n : ℕ) (first second : List ℕ) → Octets second → length first % 2 ≡ 0
    → joining wide (own wide n first) (symbols 2 first) (own wide n second) (symbols 2 second) ≡ signing wide n (first ++ second)
join_of_parts = Every.join_of_parts wide Every.wide_sound

pub edit_of_page : (n : ℕ) (page after : List ℕ) (r : ℕ) (old new : List ℕ) → Edited 2 page after r old new
    → length old % 2 ≡ 0 → length new ≡ length old → Octets page → Octets after → length page ≤ 131068
    → editing wide (own wide n page) r old new ≡ signing wide n after
edit_of_page n page after r old new e even equal page_octets after-octets short =
    Every.edit_of_page wide Every.wide_sound n page after r old new e even equal page_octets after-octets (omega arith)

-- a part in the middle, and an odd last byte

pub edit_of_part : (n : ℕ) (front old new back : List ℕ) → length front % 2 ≡ 0 → length old % 2 ≡ 0 → length new ≡ length old
    → Octets (front ++ (old ++ back)) → Octets (front ++ (new ++ back)) → length (front ++ (old ++ back)) ≤ 131068
    → editing wide (own wide n (front ++ (old ++ back))) (symbols 2 front) old new ≡ signing wide n (front ++ (new ++ back))
edit_of_part n front old new back whole even equal =
    edit_of_page n (front ++ (old ++ back)) (front ++ (new ++ back)) (symbols 2 front) old new
    (part_edited front (symbols 2 front) (whole_length 2 (zero-lt-suc 1) front whole) old new back equal) even equal

pub edit_of_odd_end : (n : ℕ) (front : List ℕ) (x y : ℕ) → length front % 2 ≡ 0 → Octets (front ++ (x ∷ [])) → Octets (front ++ (y ∷ []))
    → length (front ++ (x ∷ [])) ≤ 131068
    → editing wide (own wide n (front ++ (x ∷ []))) (symbols 2 front) (x ∷ 0 ∷ []) (y ∷ 0 ∷ []) ≡ signing wide n (front ++ (y ∷ []))
edit_of_odd_end n front x y whole =
    edit_of_page n (front ++ (x ∷ [])) (front ++ (y ∷ [])) (symbols 2 front) (x ∷ 0 ∷ []) (y ∷ 0 ∷ [])
    (end_edited front (symbols 2 front) (whole_length 2 (zero-lt-suc 1) front whole) x y) refl refl

-- ---- sure detection

pub objects_told_apart : (n : ℕ) → 1 ≤ n → n ≤ 4 → (one other : List ℕ) → Octets one → Octets other → length one ≡ length other → length one ≤ 131068
    → 1 ≤ differing 2 one other → differing 2 one other ≤ n → signing wide n one ≢ signing wide n other
objects_told_apart n h l one other one-octets other-octets lengths short some few e =
    let shorter : length other ≤ 131068 = omega arith in
    let within : symbols 2 one ≤ wide.most = omega arith in
    let signed : Ok (own wide n one) ≡ Ok (own wide n other) = sym (sign_within n h l one short) ∙ e ∙ sign_within n h l other shorter in
    Every.own_apart wide Every.wide_sound n l one other one-octets other-octets lengths within some few (cc)

pub pages_told_apart : (n : ℕ) → 1 ≤ n → n ≤ 4 → (one other : List ℕ) → Octets one → Octets other → length one ≡ length other → length one ≤ 65536
    → 1 ≤ differing 2 one other → differing 2 one other ≤ n → signing wide n one ≢ signing wide n other
pages_told_apart n h l one other one-octets other-octets lengths short =
    objects_told_apart n h l one other one-octets other-octets lengths (omega arith)
