-- What repair answers, and what it leaves in the image: a page whose signature is not its entry's is put right exactly where the change of one
-- symbol gives it that signature.
use Rattle.std.specs.Prelude.{cond, List, [], ◌∷◌, ℕ, ◌*◌, eqb, leb, ltb, length, Result, Ok, Err}
use Rattle.units.specs.Refusals.{Verdict, allowed, refused, Test, gives, first}
use Rattle.units.specs.Writing.{written}
use Rattle.units.specs.declared.Refusal.{Refusal}
use Rattle.signature.specs.Kinds.{wide}
use Rattle.signature.specs.Objects.{symbol, symbols}
use Rattle.signature.specs.Operations.{own}
use Rattle.signature.specs.declared.Signature.{Signature}
use Rattle.map.specs.Buckets.{page_at}
use Rattle.map.specs.Files.{pages}
use Rattle.map.specs.Reading.{header_of, entry_at}
use Rattle.map.specs.declared.Entry.{Entry}
use Rattle.map.specs.declared.Header.{Header}
use Rattle.backup.specs.Backups.{same}
use Rattle.backup.specs.Openings.{open_tests}
use Rattle.repair.specs.Changes.{changed, value_at, position}
use Rattle.repair.specs.declared.Change.{Change}
use Rattle.repair.specs.declared.Repair.{Repair}
use Rattle.repair.specs.declared.Repair.TheVariants.{Whole, Repaired, Beyond}

-- ---- one page

-- symbol i of a page becomes x; with two components two damaged symbols may pass for one, and the mark says so
abbrev pub change_of : ℕ → List ℕ → ℕ → ℕ → Change
change_of n page i x = record { position = record { count = i }; old = symbol 2 page i; new = x; marked = eqb n 2 }

-- the change that gives the signature s; there is at most one
unfoldable pub put : Signature → List ℕ → Repair
put s page =
    let i : ℕ = position wide s page in
    cond (ltb i (symbols 2 page)) (Repaired (change_of s.n page i (value_at wide s page i))) Beyond

-- a page by its entry; every entry of a map that was read has the tag 04, and one with another would make its page beyond, here
unfoldable pub mended : Entry → List ℕ → Repair
mended e page = cond (same (own wide e.signature.n page) e.signature) Whole (put e.signature page)

-- the page then
unfoldable pub page_left : Repair → List ℕ → List ℕ
page_left Whole page = page
page_left (Repaired c) page = changed wide page c.position.count c.new
page_left Beyond page = page

-- ---- a page of a backup

pub record Outcome : Type 0 where
  pub answer : Result Repair Refusal
  pub image : List ℕ

abbrev pub outcome_of : Result Repair Refusal → List ℕ → Outcome
outcome_of answer image = record { answer = answer; image = image }

abbrev pub page_tests : Header → ℕ → List Test
page_tests h k = gives Refusal.PageNo (leb (pages h) k) ∷ gives Refusal.Thin (ltb h.n 2) ∷ []

-- the page goes back where it stood
unfoldable pub image_left : Header → Repair → List ℕ → ℕ → List ℕ
image_left h answer image k = written image (k * h.page.count) (page_left answer (page_at h.page.count image k))

abbrev pub unless : Verdict → Header → List ℕ → List ℕ → ℕ → Outcome
unless (Ok _) h image map k =
    let answer : Repair = mended (entry_at h.n map k) (page_at h.page.count image k) in
    outcome_of (Ok answer) (image_left h answer image k)
unless (Err r) h image map k = outcome_of (Err r) image

-- a repair on a backup that was opened
unfoldable pub open_repair : Header → List ℕ → List ℕ → ℕ → Outcome
open_repair h image map k = unless (first (page_tests h k)) h image map k

-- there is no table: the image's length stands for both
abbrev pub repair_tests : List ℕ → List ℕ → ℕ → List Test
repair_tests image map k = open_tests (length image) (length image) map (page_tests (header_of map) k)

unfoldable pub repairing : List ℕ → List ℕ → ℕ → Outcome
repairing image map k = unless (first (repair_tests image map k)) (header_of map) image map k

-- what the table says of an answer
abbrev pub told : Result Repair Refusal → Verdict
told (Ok answer) = allowed
told (Err r) = refused r
