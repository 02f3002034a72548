-- What make map answers and leaves in the output, for every input.
use Rattle.std.specs.Prelude.{ℕ, not, List, [], ◌∷◌, length}
use Rattle.units.specs.Counts.{pages_in}
use Rattle.units.specs.Sizes.{n_allowed, page_allowed, bucket_allowed}
use Rattle.units.specs.Refusals.{Test, gives}
use Rattle.units.specs.Filling.{Outcome, filling, room}
use Rattle.signature.specs.Kinds.{wide}
use Rattle.signature.specs.Operations.{own}
use Rattle.map.specs.Buckets.{page_at}
use Rattle.map.specs.Files.{file, file_bytes}
use Rattle.map.specs.declared.Header.{Header}
use Rattle.map.specs.declared.Entry.{Entry}
use Rattle.units.specs.declared.Refusal.{Refusal}

-- the entry of page k: tag 04 and the page's own signature
unfoldable pub made_entry : ℕ → ℕ → List ℕ → ℕ → Entry
made_entry n page bucket k = record { tag = 4; signature = own wide n (page_at page bucket k) }

abbrev pub made_header : ℕ → ℕ → List ℕ → Header
made_header n page bucket = record { n = n; page = record { count = page }; bucket = record { count = length bucket } }

unfoldable pub made : ℕ → ℕ → List ℕ → List ℕ
made n page bucket = file (made_header n page bucket) (made_entry n page bucket)

-- its length
abbrev pub needed : ℕ → ℕ → List ℕ → ℕ
needed n page bucket = file_bytes n (pages_in page (length bucket))

abbrev pub make_tests : ℕ → ℕ → List ℕ → List ℕ → List Test
make_tests n page bucket output =
    gives Refusal.Size (not (n_allowed n))
    ∷ gives Refusal.Page (not (page_allowed page))
    ∷ gives Refusal.Long (not (bucket_allowed (length bucket) (pages_in page (length bucket))))
    ∷ room (needed n page bucket) output
    ∷ []

unfoldable pub making : ℕ → ℕ → List ℕ → List ℕ → Outcome
making n page bucket output = filling (make_tests n page bucket output) (needed n page bucket) (made n page bucket) output
