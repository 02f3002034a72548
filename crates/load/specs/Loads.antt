-- A page or a bucket comes back from the image only if every page asked for has its entry's signature.
use Rattle.std.specs.Prelude.{Bool, not, List, [], ◌∷◌, ℕ, leb, ltb, length}
use Rattle.units.specs.Filling.{Outcome, filling}
use Rattle.units.specs.Naming.{first_named}
use Rattle.units.specs.Refusals.{Verdict, Test, gives, first}
use Rattle.map.specs.Buckets.{page_at}
use Rattle.map.specs.Files.{pages}
use Rattle.map.specs.Reading.{header_of, entry_at}
use Rattle.map.specs.declared.Header.{Header}
use Rattle.backup.specs.Backups.{agrees}
use Rattle.backup.specs.Openings.{open_tests}
use Rattle.std.specs.Prelude.{Ok, Err}
use Rattle.units.specs.declared.Refusal.{Refusal}

-- page k of the image has another signature than its entry
abbrev pub damaged : Header → List ℕ → List ℕ → ℕ → Bool
damaged h image map k = not (agrees h (entry_at h.n map) image k)

abbrev pub damage_test : Bool → ℕ → Test
damage_test found k = gives (Refusal.Damaged k) found

-- ---- one page

abbrev pub page_tests : Header → List ℕ → List ℕ → ℕ → List Test
page_tests h image map k = gives Refusal.PageNo (leb (pages h) k) ∷ damage_test (damaged h image map k) k ∷ []

-- there is no table: the image's length stands for both
abbrev pub load_tests : List ℕ → List ℕ → ℕ → List Test
load_tests image map k = open_tests (length image) (length image) map (page_tests (header_of map) image map k)

-- the load put as a question
unfoldable pub asking : List ℕ → List ℕ → ℕ → Verdict
asking image map k = first (load_tests image map k)

-- a refused load is an empty part
abbrev pub part_unless : Verdict → List ℕ → List ℕ
part_unless (Ok _) page = page
part_unless (Err r) page = []

unfoldable pub loaded_page : List ℕ → List ℕ → ℕ → List ℕ
loaded_page image map k = part_unless (asking image map k) (page_at (header_of map).page.count image k)

-- ---- the bucket

abbrev pub lowest_damaged : Header → List ℕ → List ℕ → ℕ
lowest_damaged h image map = first_named (damaged h image map) (pages h) 0

abbrev pub bucket_tests : Header → List ℕ → List ℕ → List Test
bucket_tests h image map = damage_test (ltb (lowest_damaged h image map) (pages h)) (lowest_damaged h image map) ∷ []

-- a load of a backup that was opened: all of the image, moved to the table
unfoldable pub open_load : Header → List ℕ → List ℕ → List ℕ → Outcome
open_load h image map table = filling (bucket_tests h image map) (length image) image table

abbrev pub load_bucket_tests : List ℕ → List ℕ → List ℕ → List Test
load_bucket_tests image map table = open_tests (length table) (length image) map (bucket_tests (header_of map) image map)

unfoldable pub loading : List ℕ → List ℕ → List ℕ → Outcome
loading image map table = filling (load_bucket_tests image map table) (length image) image table
