-- A whole store: how many pages it writes, and what image, map and list hold then.
use Rattle.std.specs.Prelude.{List, [], ◌∷◌, ℕ, length}
use Rattle.units.specs.Filling.{room}
use Rattle.units.specs.Refusals.{Test, first}
use Rattle.units.specs.Writing.{written}
use Rattle.units.specs.Naming.{Listed}
use Rattle.units.specs.Refusals.{Verdict}
use Rattle.map.specs.Files.{pages, file}
use Rattle.map.specs.Reading.{header_of, entry_at}
use Rattle.map.specs.declared.Header.{Header}
use Rattle.backup.specs.Backups.{Backup, backup_in, stored, changed}
use Rattle.backup.specs.Openings.{open_tests}
use Rattle.store.specs.declared.Answer.{Answer}
use Rattle.units.specs.declared.Refusal.{Refusal}
use Rattle.std.specs.Prelude.{Result, Ok, Err}

pub record Stored : Type 0 where
  pub answer : Listed
  pub image : List ℕ
  pub map : List ℕ
  pub list : List ℕ

abbrev pub stored_of : Listed → List ℕ → List ℕ → List ℕ → Stored
stored_of answer image map list = record { answer = answer; image = image; map = map; list = list }

-- the numbers of the written pages stand at the list's start, and the rest of it is as it was
abbrev pub stored_to : Header → Backup → List ℕ → List ℕ → Stored
stored_to h after numbers list = stored_of (Ok (length numbers)) after.image (file h after.entry) (written list 0 numbers)

abbrev pub store_unless : Verdict → Header → List ℕ → List ℕ → List ℕ → List ℕ → Stored
store_unless (Ok _) h table image map list =
    stored_to h (stored h table (backup_in h.n image map) (pages h)) (changed h table (entry_at h.n map) (pages h)) list
store_unless (Err r) h table image map list = stored_of (Err r) image map list

-- what a store answers whose last step answered so
abbrev pub ended_by : Result Answer Refusal → ℕ → Listed
ended_by (Ok a) found = Ok found
ended_by (Err r) found = Err r

-- the list has room for as many numbers as there are pages
abbrev pub list_tests : Header → List ℕ → List Test
list_tests h list = room (pages h) list ∷ []

-- a store of a backup that was opened
unfoldable pub open_store : Header → List ℕ → List ℕ → List ℕ → List ℕ → Stored
open_store h table image map list = store_unless (first (list_tests h list)) h table image map list

abbrev pub store_tests : List ℕ → List ℕ → List ℕ → List ℕ → List Test
store_tests table image map list = open_tests (length table) (length image) map (list_tests (header_of map) list)

unfoldable pub storing : List ℕ → List ℕ → List ℕ → List ℕ → Stored
storing table image map list = store_unless (first (store_tests table image map list)) (header_of map) table image map list
