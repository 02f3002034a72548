-- One step of a store: what it answers, the place it hands back, and what image and map hold then.
use Rattle.std.specs.Prelude.{Bool, cond, List, [], ◌∷◌, ℕ, suc, ltb, eqb, length, Result, Ok, Err}
use Rattle.units.specs.Refusals.{Verdict, allowed, refused, Test, gives, first}
use Rattle.units.specs.declared.Refusal.{Refusal}
use Rattle.map.specs.Files.{pages, file}
use Rattle.map.specs.Reading.{header_of, entry_at}
use Rattle.map.specs.declared.Header.{Header}
use Rattle.backup.specs.Backups.{Backup, backup_in, agrees, page_stored}
use Rattle.backup.specs.Openings.{open_tests}
use Rattle.store.specs.declared.Answer.{Answer}
use Rattle.store.specs.declared.Answer.TheVariants.{Kept, Written, Finished}
use Rattle.store.specs.declared.Place.{Place}
use Rattle.store.specs.declared.Step.{Step}
use Rattle.std.specs.Prelude.{Ok, Err}
use Rattle.units.specs.Refusals.{allowed, refused}

pub record Stepped : Type 0 where
  pub answer : Result Answer Refusal
  pub next : Place
  pub image : List ℕ
  pub map : List ℕ

abbrev pub stepped_of : Step → List ℕ → List ℕ → Stepped
stepped_of s image map = record { answer = s.answer; next = s.next; image = image; map = map }

-- what the table says of an answer
abbrev pub told : Result Answer Refusal → Verdict
told (Ok a) = allowed
told (Err r) = refused r

-- what is said of page k
abbrev pub page_answer : ℕ → Bool → Answer
page_answer k kept = cond kept (Kept k) (Written k)

-- the page at the place is kept or written, and the place goes up by one
abbrev pub passed_to : Header → Answer → ℕ → Backup → Stepped
passed_to h answer k after = record { answer = Ok answer; next = record { page = suc k }; image = after.image; map = file h after.entry }

unfoldable pub passing : Header → List ℕ → List ℕ → List ℕ → ℕ → Stepped
passing h table image map k =
    passed_to h (page_answer k (agrees h (entry_at h.n map) table k)) k (page_stored h table (backup_in h.n image map) k)

-- nothing changes, and the place comes back as it came
abbrev pub staying : Result Answer Refusal → Place → List ℕ → List ℕ → Stepped
staying answer place image map = record { answer = answer; next = place; image = image; map = map }

abbrev pub step_unless : Verdict → Header → List ℕ → List ℕ → List ℕ → Place → Stepped
step_unless (Ok _) h table image map place =
    cond (eqb place.page (pages h)) (staying (Ok Finished) place image map) (passing h table image map place.page)
step_unless (Err r) h table image map place = staying (Err r) place image map

-- the place is above the page count
abbrev pub place_tests : Header → ℕ → List Test
place_tests h k = gives Refusal.PageNo (ltb (pages h) k) ∷ []

-- a step on a backup that was opened
unfoldable pub open_step : Header → List ℕ → List ℕ → List ℕ → Place → Stepped
open_step h table image map place = step_unless (first (place_tests h place.page)) h table image map place

abbrev pub step_tests : List ℕ → List ℕ → List ℕ → ℕ → List Test
step_tests table image map k = open_tests (length table) (length image) map (place_tests (header_of map) k)

unfoldable pub stepping : List ℕ → List ℕ → List ℕ → Place → Stepped
stepping table image map place = step_unless (first (step_tests table image map place.page)) (header_of map) table image map place
