-- What a file holds is what it was made from: its header, and each of its entries, are read back.
-- Assumes nothing.
use Rattle.std.specs.Prelude.{Ok}
use mathlib.Core.Path.{◌≡◌, refl, sym, ap, ap₂, ◌∙◌}
use mathlib.Core.Bool.{true, ◌&&◌}
use mathlib.Core.List.{List, [], ◌++◌, append_assoc}
use Prim.Native.Nat.{ℕ, zero, suc, ◌+◌, ◌-◌, ◌*◌, ◌≤◌, ◌<◌}
use native.Mathlib.Nat.{zero-add, add-zero, le_refl, le_of_lt}
use native.Mathlib.Omega.{arith}
use lib.ListN.{length, get_or, length-append}
use Rattle.units.specs.Sizes.{n_allowed, page_allowed, bucket_allowed}
use Rattle.units.specs.Refusals.{first}
use Rattle.units.specs.Refusals.{Verdict}
use Rattle.units.specs.Runs.{end_to_end}
use Rattle.units.proofs.Runs.{run_at, run_long, run_length}
use Rattle.signature.specs.Objects.{low_first, low_bytes}
use Rattle.signature.specs.Signatures.{handed, answered}
use Rattle.signature.specs.declared.Signature.{Signature}
use Rattle.signature.proofs.Handing.{answered_within}
use Rattle.signature.proofs.Numbers.{low_first_after, low_bytes_length, written_read}
use Rattle.map.specs.Files.{pages, tagged, header, components, entry, entries, file, entry_bytes, place}
use Rattle.reader.specs.Fields.{field_at, is_due}
use Rattle.map.specs.Reading.{header_of, entry_tests, told, reading, entry_at}
use Rattle.map.specs.declared.Header.{Header}
use Rattle.map.specs.declared.Entry.{Entry}
use Rattle.reader.proofs.Due.{due_is}
use Rattle.map.proofs.Entries.{entry_kept, end_kept, due_entry}
use Rattle.map.proofs.Headers.{Kept, kept_header, entries_decide}
use Rattle.map.proofs.Tagging.{tagged_length, header_length, components_length, entry_length}
use Rattle.map.proofs.MadeMaps.{n_most, page_most, bucket_most, next_place}
use Rattle.map.proofs.Placed.{value_read, tag_read, placed_due}
use Rattle.units.specs.Refusals.{allowed}

-- its sizes are allowed
pub record Sized (h : Header) : Type 0 where
  pub n_fits : n_allowed h.n ≡ true
  pub page_fits : page_allowed h.page.count ≡ true
  pub bucket_fits : bucket_allowed h.bucket.count (pages h) ≡ true

-- an entry of a map of n components: tag 04, and n symbols with zeros above them
pub record Held (n : ℕ) (e : Entry) : Type 0 where
  pub tagged_04 : e.tag ≡ 4
  pub symbols : (j : ℕ) → handed e.signature j < 65536
  pub cleared : e.signature ≡ answered n (handed e.signature)

-- component i + 1 of an entry's value
component_read : (n : ℕ) (s : ℕ → ℕ) (rest : List ℕ) (i : ℕ) → i < n → s (suc i) < 65536 → low_first 2 (components n s ++ rest) (2 * i) ≡ s (suc i)
unfolding components
component_read n s rest i inside small =
    let g : ℕ → List ℕ = λ j. low_bytes 2 (s j) in
    let before : List ℕ = end_to_end g 1 i in
    let after : List ℕ = end_to_end g (suc (1 + i)) (n - suc i) in
    let long : length before ≡ i * 2 = run_length g 2 (λ j. low_bytes_length 2 (s j)) i 1 in
    let place : 2 * i ≡ length before + 0 = omega arith in
    let up : 1 + i ≡ suc i = omega arith in
    ap (λ (l : List ℕ). low_first 2 (l ++ rest) (2 * i)) (run_at g 1 i n inside)
    ∙ ap₂ (low_first 2) (append_assoc before (g (1 + i) ++ after) rest ∙ ap (λ (l : List ℕ). before ++ l) (append_assoc (g (1 + i)) after rest)) place
    ∙ low_first_after 2 before (g (1 + i) ++ (after ++ rest)) 0
    ∙ ap (λ (j : ℕ). low_first 2 (g j ++ (after ++ rest)) 0) up
    ∙ written_read 2 (s (suc i)) (after ++ rest) small

module _ (h : Header) (e : ℕ → Entry) (ok : Sized h) (held : (k : ℕ) → k < pages h → Held h.n (e k)) where
  small : h.n ≤ 4
  small = n_most h.n ok.n_fits

  n_field : List ℕ
  n_field = tagged 1 (low_bytes 1 h.n)

  page_field : List ℕ
  page_field = tagged 2 (low_bytes 4 h.page.count)

  bucket_field : List ℕ
  bucket_field = tagged 3 (low_bytes 4 h.bucket.count)

  f : ℕ → List ℕ
  f k = entry (e k)

  rest : List ℕ
  rest = end_to_end f 0 (pages h)

  -- the file, cut before each field of its header
  by_n : file h e ≡ [] ++ (n_field ++ ((page_field ++ bucket_field) ++ rest))
  unfolding file header n_field page_field bucket_field rest f
  by_n = append_assoc n_field (page_field ++ bucket_field) rest

  by_page : file h e ≡ n_field ++ (page_field ++ (bucket_field ++ rest))
  by_page = by_n ∙ ap (λ (l : List ℕ). n_field ++ l) (append_assoc page_field bucket_field rest)

  by_bucket : file h e ≡ (n_field ++ page_field) ++ (bucket_field ++ rest)
  by_bucket = by_page ∙ sym (append_assoc n_field page_field (bucket_field ++ rest))

  n_length : length n_field ≡ 4
  unfolding n_field
  n_length = omega (arith, tagged_length 1 (low_bytes 1 h.n), low_bytes_length 1 h.n)

  both_length : length (n_field ++ page_field) ≡ 11
  unfolding page_field
  both_length =
      omega (arith, n_length, length-append n_field page_field, tagged_length 2 (low_bytes 4 h.page.count), low_bytes_length 4 h.page.count)

  n_read : low_first 1 (file h e) 3 ≡ h.n
  unfolding n_field
  n_read =
      ap (λ (l : List ℕ). low_first 1 l 3) by_n
      ∙ value_read [] 0 1 1 (low_bytes 1 h.n) ((page_field ++ bucket_field) ++ rest) refl (low_bytes_length 1 h.n) 1 0
      ∙ written_read 1 h.n ((page_field ++ bucket_field) ++ rest) (omega (arith, small))

  page_read : low_first 4 (file h e) 7 ≡ h.page.count
  unfolding page_field
  page_read =
      ap (λ (l : List ℕ). low_first 4 l 7) by_page
      ∙ value_read n_field 4 2 4 (low_bytes 4 h.page.count) (bucket_field ++ rest) n_length (low_bytes_length 4 h.page.count) 4 0
      ∙ written_read 4 h.page.count (bucket_field ++ rest) (omega (arith, page_most h.page.count ok.page_fits))

  bucket_read : low_first 4 (file h e) 14 ≡ h.bucket.count
  unfolding bucket_field
  bucket_read =
      ap (λ (l : List ℕ). low_first 4 l 14) by_bucket
      ∙ value_read (n_field ++ page_field) 11 3 4 (low_bytes 4 h.bucket.count) rest both_length (low_bytes_length 4 h.bucket.count) 4 0
      ∙ written_read 4 h.bucket.count rest (omega (arith, bucket_most h.bucket.count (pages h) ok.bucket_fits))

  pub header_read : header_of (file h e) ≡ h
  unfolding header_of
  header_read = simp (n_read, page_read, bucket_read)

  -- ---- every field is due in its place

  header_kept : Kept (file h e)
  unfolding n_field page_field bucket_field
  header_kept =
      record {
        n =
            ap₂ ◌&&◌
            (ap (λ (l : List ℕ). is_due 1 (field_at 0 l 0)) by_n
            ∙ due_is 0 1 1 _ 0 refl (placed_due [] 0 1 1 (low_bytes 1 h.n) ((page_field ++ bucket_field) ++ rest) refl (low_bytes_length 1 h.n) (omega arith)))
            (ap (λ (g : Header). n_allowed g.n) header_read ∙ ok.n_fits);
        page =
            ap₂ ◌&&◌
            (ap (λ (l : List ℕ). is_due 2 (field_at 0 l 4)) by_page
            ∙ due_is 0 2 4 _ 4 refl
            (placed_due n_field 4 2 4 (low_bytes 4 h.page.count) (bucket_field ++ rest) n_length (low_bytes_length 4 h.page.count) (omega arith)))
            (ap (λ (g : Header). page_allowed g.page.count) header_read ∙ ok.page_fits);
        bucket =
            ap₂ ◌&&◌
            (ap (λ (l : List ℕ). is_due 3 (field_at 0 l 11)) by_bucket
            ∙ due_is 0 3 4 _ 11 refl
            (placed_due (n_field ++ page_field) 11 3 4 (low_bytes 4 h.bucket.count) rest both_length (low_bytes_length 4 h.bucket.count) (omega arith)))
            (ap (λ (g : Header). bucket_allowed g.bucket.count (pages g)) header_read ∙ ok.bucket_fits);
      }

  -- its n, and so its length
  held_n : (k : ℕ) → k < pages h → (e k).signature.n ≡ h.n
  held_n k inside = ap (λ (s : Signature). s.n) (held k inside).cleared

  held_length : (k : ℕ) → k < pages h → length (f k) ≡ entry_bytes h.n
  unfolding f
  held_length k inside = entry_length (e k) ∙ ap entry_bytes (held_n k inside)

  -- the first k of them
  pub entries_length : (k : ℕ) → k ≤ pages h → length (entries e 0 k) ≡ k * entry_bytes h.n
  unfolding f
  entries_length k most = run_long f (entry_bytes h.n) k 0 (λ i low high. held_length i (omega arith))

  pub file_length : length (file h e) ≡ place h.n (pages h)
  unfolding file f
  file_length =
      omega (arith, length-append (header h) (entries e 0 (pages h)), header_length h, entries_length (pages h) (le_refl (pages h)))

  module _ (k : ℕ) (inside : k < pages h) where
    front : List ℕ
    front = header h ++ end_to_end f 0 k

    after : List ℕ
    after = end_to_end f (suc (0 + k)) (pages h - suc k)

    value : List ℕ
    value = components h.n (handed (e k).signature)

    front_length : length front ≡ place h.n k
    unfolding front f
    front_length = omega (arith, length-append (header h) (entries e 0 k), header_length h, entries_length k (le_of_lt inside))

    -- the file, cut before and after the entry of page k
    by_entry : file h e ≡ front ++ (tagged 4 value ++ after)
    unfolding file front after value f entry
    by_entry =
        ap (λ (l : List ℕ). header h ++ l)
        (run_at f 0 k (pages h) inside
        ∙ ap (λ (l : List ℕ). end_to_end f 0 k ++ (l ++ after))
        (ap f (zero-add k) ∙ ap₂ (λ (t n : ℕ). tagged t (components n (handed (e k).signature))) (held k inside).tagged_04 (held_n k inside)))
        ∙ sym (append_assoc (header h) (end_to_end f 0 k) (tagged 4 value ++ after))

    value_length : length value ≡ 2 * h.n
    unfolding value
    value_length = components_length h.n (handed (e k).signature)

    pub entry_due : is_due 4 (field_at h.n (file h e) (place h.n k)) ≡ true
    entry_due =
        ap (λ (l : List ℕ). is_due 4 (field_at h.n l (place h.n k))) by_entry
        ∙ due_entry h.n _ small (place h.n k) (placed_due front (place h.n k) 4 (2 * h.n) value after front_length value_length (omega (arith, small)))

    component_back : (j : ℕ) → 1 ≤ j → j ≤ h.n → low_first 2 (file h e) (place h.n k + 1 + 2 * j) ≡ handed (e k).signature j
    unfolding value
    component_back j some within =
        let i : ℕ = j - 1 in
        let up : suc i ≡ j = omega arith in
        let at : place h.n k + 1 + 2 * j ≡ place h.n k + 3 + 2 * i = omega arith in
        ap₂ (low_first 2) by_entry at
        ∙ value_read front (place h.n k) 4 (2 * h.n) value after front_length value_length 2 (2 * i)
        ∙ component_read h.n (handed (e k).signature) after i (omega arith) ((held k inside).symbols (suc i))
        ∙ ap (handed (e k).signature) up

    pub entry_read : entry_at h.n (file h e) k ≡ e k
    unfolding entry_at
    entry_read =
        ap₂ {C = Entry} (λ t s. record { tag = t; signature = s })
        (ap (λ (l : List ℕ). get_or l (place h.n k) 0) by_entry
        ∙ tag_read front (place h.n k) 4 (2 * h.n) value after front_length value_length
        ∙ sym (held k inside).tagged_04)
        (answered_within h.n _ _ component_back ∙ sym (held k inside).cleared)

  -- the rules of the entries from page k on
  kept_from : (m k : ℕ) → k + m ≡ pages h → first (entry_tests h.n (file h e) m (place h.n k)) ≡ allowed
  kept_from zero k all =
      end_kept h.n (file h e) (place h.n k) (omega (arith, file_length, ap (place h.n) (sym all ∙ add-zero k)))
  kept_from (suc m) k all =
      entry_kept h.n (file h e) m (place h.n k) (entry_due k (omega arith))
      ∙ ap (λ (at : ℕ). first (entry_tests h.n (file h e) m at)) (sym (next_place h.n k))
      ∙ kept_from m (suc k) (omega arith)

  pub file_read : reading (file h e) ≡ Ok h
  file_read =
      let start : place h.n 0 ≡ 18 = omega arith in
      entries_decide (file h e) (kept_header (file h e) header_kept)
      ∙ ap (λ (g : Header). told (first (entry_tests g.n (file h e) (pages g) 18)) g) header_read
      ∙ ap (λ (v : Verdict). told v h)
      (ap (λ (at : ℕ). first (entry_tests h.n (file h e) (pages h) at)) (sym start) ∙ kept_from (pages h) 0 (zero-add (pages h)))
