-- Reading a map: the rules of a whole map in the order of the file. The first that is broken gives its place.
use Rattle.std.specs.Prelude.{ℕ, zero, suc, ◌+◌, ◌*◌, Bool, not, ◌&&◌, List, [], ◌∷◌, ◌++◌, leb, length, get_or, Result, Ok, Err, codes, decimal}
use Rattle.units.specs.Sizes.{n_allowed, page_allowed, bucket_allowed}
use Rattle.units.specs.Refusals.{Verdict, value, Test, gives, first}
use Rattle.units.specs.declared.Refusal.{Refusal}
use Rattle.signature.specs.Objects.{low_first}
use Rattle.signature.specs.Signatures.{answered}
use Rattle.reader.specs.Fields.{field_at, is_due}
use Rattle.map.specs.Files.{pages, place, entry_bytes, header_bytes}
use Rattle.map.specs.declared.Header.{Header}
use Rattle.map.specs.declared.Entry.{Entry}
use Rattle.map.specs.declared.Break.{Break}

-- what stands in the places of the three values
unfoldable pub header_of : List ℕ → Header
header_of bytes =
    record { n = low_first 1 bytes 3; page = record { count = low_first 4 bytes 7 }; bucket = record { count = low_first 4 bytes 14 } }

-- a rule of the map: if it is not kept, the map breaks at this place
abbrev pub breaks_at : ℕ → Bool → Test
breaks_at place holds = gives (Refusal.Map place) (not holds)

abbrev pub n_keeps_rule : List ℕ → Bool
n_keeps_rule bytes = is_due 1 (field_at 0 bytes 0) && n_allowed (header_of bytes).n

abbrev pub page_keeps_rule : List ℕ → Bool
page_keeps_rule bytes = is_due 2 (field_at 0 bytes 4) && page_allowed (header_of bytes).page.count

abbrev pub bucket_keeps_rule : List ℕ → Bool
bucket_keeps_rule bytes = is_due 3 (field_at 0 bytes 11) && bucket_allowed (header_of bytes).bucket.count (pages (header_of bytes))

abbrev pub header_tests : List ℕ → List Test
header_tests bytes = breaks_at 0 (n_keeps_rule bytes) ∷ breaks_at 4 (page_keeps_rule bytes) ∷ breaks_at 11 (bucket_keeps_rule bytes) ∷ []

-- one entry a page, m of them from a place on, and nothing follows
unfoldable pub entry_tests : ℕ → List ℕ → ℕ → ℕ → List Test
entry_tests n bytes zero at = breaks_at at (leb (length bytes) at) ∷ []
entry_tests n bytes (suc m) at = breaks_at at (is_due 4 (field_at n bytes at)) ∷ entry_tests n bytes m (at + entry_bytes n)

abbrev pub map_tests : List ℕ → List Test
map_tests bytes = header_tests bytes ++ entry_tests (header_of bytes).n bytes (pages (header_of bytes)) header_bytes

-- what the header holds, or the place of the first break
abbrev pub Reading : Type 0
Reading = Result Header Break

abbrev pub broken : ℕ → Reading
broken place = Err (record { place = place })

abbrev pub told : Verdict → Header → Reading
told (Ok _) h = Ok h
told (Err r) h = broken (value r)

-- a break as it is printed
abbrev pub shown : Break → List ℕ
shown b = codes "map refused at " ++ decimal b.place

-- the place of the first break, or what the header holds
unfoldable pub reading : List ℕ → Reading
reading bytes = told (first (map_tests bytes)) (header_of bytes)

-- the entry of page k, as it stands in the file
unfoldable pub entry_at : ℕ → List ℕ → ℕ → Entry
entry_at n bytes k =
    record { tag = get_or bytes (place n k) 0; signature = answered n (λ j. low_first 2 bytes (place n k + 1 + 2 * j)) }
