-- What is promised of maps: reading and making undo each other, a break's place is the first, and no second answer meets a contract.
-- Assumes nothing.
use Rattle.units.specs.Refusals.{value}
use Rattle.units.specs.Refusals.{number}
use Rattle.units.proofs.Refusing.{refused_one_answer}
use Rattle.std.specs.Prelude.{Ok}
use Rattle.map.specs.Reading.{broken}
use Rattle.std.specs.Prelude.{Ok}
use mathlib.Core.Path.{◌≡◌, refl, sym, ap, ap₂, ◌∙◌}
use mathlib.Core.Logic.{◌↔◌}
use mathlib.Core.Bool.{Bool, true, false, ◌&&◌}
use mathlib.Core.List.{List, [], ◌∷◌}
use Prim.Native.Nat.{ℕ, zero, suc, ◌+◌, ◌-◌, ◌≤◌, ◌<◌}
use native.Mathlib.Nat.{add-zero, zero-mul, div-eq_of_lt}
use native.Mathlib.Omega.{arith}
use lib.ListN.{length, take, drop}
use borrow.Author.Tests.{le-ltb}
use Rattle.units.specs.Answers.{OneAnswer}
use Rattle.units.specs.Counts.{pages_in}
use Rattle.units.specs.Sizes.{page_allowed, bucket_allowed}
use Rattle.units.specs.Refusals.{first}
use Rattle.units.specs.Filling.{outcome, told as told_filling}
use Rattle.units.specs.Filling.{Filled}
use Rattle.units.specs.declared.Refusal.{Refusal}
use Rattle.units.specs.Refusals.{Verdict}
use Rattle.units.proofs.Refusing.{Given, Lowest, Quiet, exactly_when, allowed_when}
use Rattle.units.proofs.Filling.{filling_refused, filling_refused_keeps, filling_puts, filling_keeps_after}
use Rattle.signature.specs.Objects.{Octets}
use Rattle.signature.specs.Signatures.{signature}
use Rattle.signature.specs.Kinds.{wide}
use Rattle.signature.proofs.Handing.{answered_handed}
use Rattle.signature.proofs.EveryKind.{wide_sound, own_below}
use Rattle.map.specs.Buckets.{page_at}
use Rattle.map.specs.Files.{pages, place, entry_bytes}
use Rattle.reader.specs.Fields.{field_at, is_due}
use Rattle.map.specs.Reading.{header_of, map_tests, entry_tests, told, reading, entry_at}
use Rattle.map.specs.Making.{made_entry, made_header, made, needed, make_tests, making}
use Rattle.map.specs.declared.Header.{Header}
use Rattle.map.proofs.Entries.{entry_kept, entry_broken, end_broken}
use Rattle.map.proofs.Headers.{Kept, kept_header, entries_decide, told_breaks, told_holds, map_number}
use Rattle.map.proofs.MadeMaps.{next_place}
use Rattle.map.proofs.Contents.{Sized, Held, file_read, file_length, entry_read}
use Rattle.map.proofs.Octets.{page_octets}
use Rattle.map.proofs.pages.Reads as PagesOf
use Rattle.map.proofs.read.Reads as Read
use Rattle.map.proofs.making.component.Reads as Component
use Rattle.map.proofs.making.make.Reads as Make
use Rattle.map.proofs.entry_at.Reads as EntryAt
use Rattle.map.proofs.making.put_entry.Reads as PutEntry
use Rattle.map.proofs.making.page_at.Reads as PageAt
use Rattle.units.specs.Refusals.{allowed, refused, number}

-- ---- no second answer meets a contract, and what is lent ends as one list

pub pages_one_answer : OneAnswer PagesOf.Post
pages_one_answer κs a r s x y p q = p ∙ sym q

pub component_one_answer : OneAnswer Component.Post
component_one_answer κs a r s x y p q = p ∙ sym q

pub read_one_answer : OneAnswer Read.Post
read_one_answer κs a r s x y p q = p ∙ sym q

pub make_one_answer : (κs : _) (a : _) (r s : Filled) (x y : _) → Make.Post κs a r x → Make.Post κs a s y
    → (r ≡ s) × (x.1.1.1.0.now ≡ y.1.1.1.0.now)
make_one_answer κs a r s x y p q = let same : _ = p ∙ sym q in (ap (λ o. o.answer) same, ap (λ o. o.output) same)

pub entry_at_one_answer : OneAnswer EntryAt.Post
entry_at_one_answer κs a r s x y p q = p ∙ sym q

pub put_entry_one_answer : (κs : _) (a : _) (r s : _) (x y : _) → PutEntry.Post κs a r x → PutEntry.Post κs a s y → x.1.0.now ≡ y.1.0.now
put_entry_one_answer κs a r s x y p q = p ∙ sym q

pub page_at_one_answer : (κs : _) (a : _) (r s : _) (x y : _) → PageAt.Post κs a r x → PageAt.Post κs a s y → r.now ≡ s.now
page_at_one_answer κs a r s x y p q = p ∙ sym q

-- ---- a map is refused at a place exactly when the first rule that it breaks has that place

pub breaks_when : (bytes : List ℕ) (p : ℕ) → (reading bytes ≡ broken p) ↔ Given (map_tests bytes) (Refusal.Map p)
unfolding reading
breaks_when bytes p = (
  λ e.
      let b : (r : Refusal) × ((first (map_tests bytes) ≡ refused r) × (value r ≡ p)) = told_breaks _ _ _ e in
      let is_map : number b.0 ≡ 5 = map_number bytes b.0 b.1.0 in
      (exactly_when (map_tests bytes) (Refusal.Map p)).0
      (b.1.0 ∙ ap refused (refused_one_answer b.0 (Refusal.Map p) is_map b.1.1)),
  λ g. ap (λ (v : Verdict). told v (header_of bytes)) ((exactly_when (map_tests bytes) (Refusal.Map p)).1 g),
)

pub holds_when : (bytes : List ℕ) (h : Header) → (reading bytes ≡ Ok h) ↔ (Quiet (map_tests bytes) × (header_of bytes ≡ h))
unfolding reading
holds_when bytes h = (
  λ e.
      let both : (first (map_tests bytes) ≡ allowed) × (header_of bytes ≡ h) = told_holds _ _ _ e in ((allowed_when (map_tests bytes)).0 both.0, both.1),
  λ q. ap₂ told ((allowed_when (map_tests bytes)).1 q.0) q.1,
)

-- the rules stand in the order of the file, each with its own place: the first entry that is not due, or the first byte left over

-- the entries before page k are due
abbrev pub DueBefore : List ℕ → ℕ → Type 0
DueBefore bytes k = (i : ℕ) → i < k → is_due 4 (field_at (header_of bytes).n bytes (place (header_of bytes).n i)) ≡ true

module _ (bytes : List ℕ) (kept : Kept bytes) where
  from_page : (k m : ℕ) → DueBefore bytes k → k + m ≡ pages (header_of bytes)
      → reading bytes ≡ told (first (entry_tests (header_of bytes).n bytes m (place (header_of bytes).n k))) (header_of bytes)
  from_page zero m due all =
      let start : 18 ≡ place (header_of bytes).n 0 = omega arith in
      let whole : pages (header_of bytes) ≡ m = omega arith in
      entries_decide bytes (kept_header bytes kept)
      ∙ ap₂ (λ (i at : ℕ). told (first (entry_tests (header_of bytes).n bytes i at)) (header_of bytes)) whole start
  from_page (suc k) m due all =
      from_page k (suc m) (λ i below. due i (omega arith)) (omega arith)
      ∙ ap (λ (v : Verdict). told v (header_of bytes))
      (entry_kept (header_of bytes).n bytes m (place (header_of bytes).n k) (due k (omega arith))
      ∙ ap (λ (at : ℕ). first (entry_tests (header_of bytes).n bytes m at)) (sym (next_place (header_of bytes).n k)))

  pub entry_breaks : (k : ℕ) → k < pages (header_of bytes) → DueBefore bytes k
      → is_due 4 (field_at (header_of bytes).n bytes (place (header_of bytes).n k)) ≡ false → reading bytes ≡ broken (place (header_of bytes).n k)
  entry_breaks k inside due here =
      let m : ℕ = pages (header_of bytes) - suc k in
      from_page k (suc m) due (omega arith)
      ∙ ap (λ (v : Verdict). told v (header_of bytes)) (entry_broken (header_of bytes).n bytes m (place (header_of bytes).n k) here)

  pub left_over_breaks : DueBefore bytes (pages (header_of bytes)) → place (header_of bytes).n (pages (header_of bytes)) < length bytes
      → reading bytes ≡ broken (place (header_of bytes).n (pages (header_of bytes)))
  left_over_breaks due more =
      from_page (pages (header_of bytes)) 0 due (add-zero (pages (header_of bytes)))
      ∙ ap (λ (v : Verdict). told v (header_of bytes)) (end_broken (header_of bytes).n bytes (place (header_of bytes).n (pages (header_of bytes))) more)

-- ---- make map

pub made_held : (n page : ℕ) (bucket : List ℕ) → Octets bucket → (k : ℕ) → Held n (made_entry n page bucket k)
unfolding made_entry
made_held n page bucket octets k =
    record {
      tagged_04 = refl;
      symbols = own_below wide wide_sound n (page_at page bucket k) (page_octets page bucket k octets);
      cleared = sym (answered_handed n (λ j x. x) (signature wide.field wide.size (page_at page bucket k)));
    }

module _ (n page : ℕ) (bucket output : List ℕ) where
  pub make_refused : (r : Refusal) → (told_filling (making n page bucket output).answer ≡ refused r) ↔ Lowest (make_tests n page bucket output) r
  unfolding making
  make_refused = filling_refused (needed n page bucket) (made n page bucket) output (make_tests n page bucket output) tt

  pub make_refused_keeps : (r : Refusal) → told_filling (making n page bucket output).answer ≡ refused r → (making n page bucket output).output ≡ output
  unfolding making
  make_refused_keeps = filling_refused_keeps (needed n page bucket) (made n page bucket) output (make_tests n page bucket output)

  module _ (octets : Octets bucket) (fits : Sized (made_header n page bucket)) where
    pub made_reads : reading (made n page bucket) ≡ Ok (made_header n page bucket)
    unfolding made
    made_reads = file_read (made_header n page bucket) (made_entry n page bucket) fits (λ k inside. made_held n page bucket octets k)

    pub made_entry_reads : (k : ℕ) → k < pages_in page (length bucket) → entry_at n (made n page bucket) k ≡ made_entry n page bucket k
    unfolding made
    made_entry_reads = entry_read (made_header n page bucket) (made_entry n page bucket) fits (λ k inside. made_held n page bucket octets k)

    pub made_length_needed : length (made n page bucket) ≡ needed n page bucket
    unfolding made
    made_length_needed = file_length (made_header n page bucket) (made_entry n page bucket) fits (λ k inside. made_held n page bucket octets k)

    -- with room enough the map stands at the output's start, and the bytes after it are as they were
    module _ (enough : needed n page bucket ≤ length output) where
      make_allowed : first (make_tests n page bucket output) ≡ allowed
      make_allowed = simp (fits.n_fits, fits.page_fits, fits.bucket_fits, le-ltb (length output) (needed n page bucket) enough)

      pub make_answers : (making n page bucket output).answer ≡ Ok (record { count = needed n page bucket })
      unfolding making
      make_answers = ap (λ (v : Verdict). (outcome v (needed n page bucket) (made n page bucket) output).answer) make_allowed

      pub make_puts : take (needed n page bucket) (making n page bucket output).output ≡ made n page bucket
      unfolding making
      make_puts = filling_puts (needed n page bucket) (made n page bucket) output (make_tests n page bucket output) made_length_needed enough make_allowed

      pub make_keeps_after : drop (needed n page bucket) (making n page bucket output).output ≡ drop (needed n page bucket) output
      unfolding making
      make_keeps_after = filling_keeps_after (needed n page bucket) (made n page bucket) output (make_tests n page bucket output) made_length_needed enough make_allowed

-- ---- the sizes at the edges: bytes of a page, bytes of the bucket, pages, and whether they are allowed

pub record Edge : Type 0 where
  pub page : ℕ
  pub bucket : ℕ
  pub count : ℕ
  pub allowed : Bool

abbrev pub edge : ℕ → ℕ → ℕ → Bool → Edge
edge page bucket count allowed = record { page = page; bucket = bucket; count = count; allowed = allowed }

-- as the definitions have it
abbrev pub sizes : ℕ → ℕ → Edge
sizes page bucket = edge page bucket (pages_in page bucket) (page_allowed page && bucket_allowed bucket (pages_in page bucket))

pub edges : ◌≡◌ {A = List Edge}
    (sizes 65536 16777216 ∷ sizes 65536 16777217 ∷ sizes 4096 16777216 ∷ sizes 4094 16777216 ∷ sizes 65538 0 ∷ sizes 2 8192 ∷ sizes 2 8193 ∷ sizes 2 0 ∷ [])
    (edge 65536 16777216 256 true
    ∷ edge 65536 16777217 257 false
    ∷ edge 4096 16777216 4096 true
    ∷ edge 4094 16777216 4099 false
    ∷ edge 65538 0 0 false
    ∷ edge 2 8192 4096 true
    ∷ edge 2 8193 4097 false
    ∷ edge 2 0 0 true
    ∷ [])
edges = refl

-- a bucket of no bytes makes a file of 18, whatever the page
pub empty_needed : (n page : ℕ) → 1 ≤ page → needed n page [] ≡ 18
empty_needed n page some =
    let none : pages_in page 0 ≡ 0 = div-eq_of_lt (omega arith) in
    ap (place n) none ∙ ap (λ (k : ℕ). 18 + k) (zero-mul (entry_bytes n))
