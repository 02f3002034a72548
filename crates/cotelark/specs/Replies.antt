-- How an answer crosses to C: as a status, which is 0 or the refusal's number, and numbers beside it.
use Rattle.std.specs.Prelude.{false, cond, List, [], ◌∷◌, ℕ, ◌*◌, length, get_or, Result, Ok, Err}
use Rattle.units.specs.Filling.{Outcome}
use Rattle.units.specs.Refusals.{Verdict, number, value, MAP}
use Rattle.units.specs.Filling.{Filled}
use Rattle.units.specs.Naming.{Listed}
use Rattle.units.specs.declared.Refusal.{Refusal}
use Rattle.signature.specs.Operations.{Answer}
use Rattle.signature.specs.declared.Signature.{Signature}
use Rattle.map.specs.Files.{pages}
use Rattle.map.specs.Reading.{header_of}
use Rattle.map.specs.Reading.{Reading}
use Rattle.store.specs.Steps.{Stepped}
use Rattle.store.specs.Stores.{Stored}
use Rattle.store.specs.declared.Answer.{Answer as StepAnswer}
use Rattle.store.specs.declared.Place.{Place}
use Rattle.load.specs.Loads.{asking, loaded_page}
use Rattle.repair.specs.Repairs as Repairs
use Rattle.repair.specs.declared.Change.{Change}
use Rattle.repair.specs.declared.Repair.{Repair}
use Rattle.caption.specs.Searches.{Searched}

pub record Reply : Type 0 where
  pub status : ℕ
  pub value : ℕ

abbrev pub reply_of : ℕ → ℕ → Reply
reply_of status value = record { status = status; value = value }

-- the refusal's number, and the value that the table gives beside it
abbrev pub refusing : Refusal → Reply
refusing r = reply_of (number r) (value r)

-- no value is named where nothing stands against a question
abbrev pub asked : Verdict → Reply
asked (Ok _) = reply_of 0 0
asked (Err r) = refusing r

-- the bytes written
abbrev pub filled : Filled → Reply
filled (Ok b) = reply_of 0 b.count
filled (Err r) = refusing r

-- the numbers listed
abbrev pub listed : Listed → Reply
listed (Ok count) = reply_of 0 count
listed (Err r) = refusing r

-- ---- a signature: its n, and four symbols in a lent array

abbrev pub signature_in : ℕ → List ℕ → Signature
signature_in n four = record { n = n; s1 = get_or four 0 0; s2 = get_or four 1 0; s3 = get_or four 2 0; s4 = get_or four 3 0 }

pub record Signed : Type 0 where
  pub status : ℕ
  pub four : List ℕ

abbrev pub signed_of : ℕ → List ℕ → Signed
signed_of status four = record { status = status; four = four }

-- refused, the array stays as it was
abbrev pub signed : Answer → List ℕ → Signed
signed (Ok s) four = signed_of 0 (s.s1 ∷ s.s2 ∷ s.s3 ∷ s.s4 ∷ [])
signed (Err r) four = signed_of (number r) four

-- ---- an output or a list that is written, and the reply beside it

pub record Wrote : Type 0 where
  pub reply : Reply
  pub output : List ℕ

abbrev pub wrote_of : Reply → List ℕ → Wrote
wrote_of reply output = record { reply = reply; output = output }

abbrev pub wrote : Outcome → Wrote
wrote o = wrote_of (filled o.answer) o.output

abbrev pub found : Searched → Wrote
found o = wrote_of (listed o.answer) o.list

-- ---- what a map's first fields say; refused, all are 0

pub record Sizes : Type 0 where
  pub n : ℕ
  pub page : ℕ
  pub bucket : ℕ
  pub pages : ℕ

abbrev pub sizes_of : ℕ → ℕ → ℕ → ℕ → Sizes
sizes_of n page bucket pages = record { n = n; page = page; bucket = bucket; pages = pages }

pub record Read : Type 0 where
  pub reply : Reply
  pub sizes : Sizes

abbrev pub read_of : Reply → Sizes → Read
read_of reply sizes = record { reply = reply; sizes = sizes }

abbrev pub read : Reading → Read
read (Ok h) = read_of (reply_of 0 0) (sizes_of h.n h.page.count h.bucket.count (pages h))
read (Err b) = read_of (reply_of MAP b.place) (sizes_of 0 0 0 0)

-- ---- a store: its reply, and what image, map and list hold then

pub record Saved : Type 0 where
  pub reply : Reply
  pub image : List ℕ
  pub map : List ℕ
  pub list : List ℕ

abbrev pub saved_of : Reply → List ℕ → List ℕ → List ℕ → Saved
saved_of reply image map list = record { reply = reply; image = image; map = map; list = list }

abbrev pub saved : Stored → Saved
saved o = saved_of (listed o.answer) o.image o.map o.list

-- ---- a step: what it did, by number, the page that it names, and the place that it hands back

abbrev pub REFUSED : ℕ
REFUSED = 0

abbrev pub KEPT : ℕ
KEPT = 1

abbrev pub WRITTEN : ℕ
WRITTEN = 2

abbrev pub FINISHED : ℕ
FINISHED = 3

pub record Did : Type 0 where
  pub reply : Reply
  pub answer : ℕ

abbrev pub did_of : Reply → ℕ → Did
did_of reply answer = record { reply = reply; answer = answer }

abbrev pub did : Result StepAnswer Refusal → Did
did (Ok (StepAnswer.Kept k)) = did_of (reply_of 0 k) KEPT
did (Ok (StepAnswer.Written k)) = did_of (reply_of 0 k) WRITTEN
did (Ok StepAnswer.Finished) = did_of (reply_of 0 0) FINISHED
did (Err r) = did_of (refusing r) REFUSED

abbrev pub place_at : ℕ → Place
place_at page = record { page = page }

pub record Went : Type 0 where
  pub did : Did
  pub place : ℕ
  pub image : List ℕ
  pub map : List ℕ

abbrev pub went_of : Did → ℕ → List ℕ → List ℕ → Went
went_of did place image map = record { did = did; place = place; image = image; map = map }

abbrev pub went : Stepped → Went
went o = went_of (did o.answer) o.next.page o.image o.map

-- ---- a repair: what it found, by number, and the change that it made; where it made none, zeros

abbrev pub WHOLE : ℕ
WHOLE = 1

abbrev pub REPAIRED : ℕ
REPAIRED = 2

abbrev pub BEYOND : ℕ
BEYOND = 3

pub record Mended : Type 0 where
  pub reply : Reply
  pub answer : ℕ
  pub position : ℕ
  pub old : ℕ
  pub new : ℕ
  pub marked : ℕ

abbrev pub mended_of : Reply → ℕ → ℕ → ℕ → ℕ → ℕ → Mended
mended_of reply answer position old new marked =
    record { reply = reply; answer = answer; position = position; old = old; new = new; marked = marked }

abbrev pub no_change : Change
no_change = record { position = record { count = 0 }; old = 0; new = 0; marked = false }

abbrev pub change_in : Result Repair Refusal → Change
change_in (Ok Repair.Whole) = no_change
change_in (Ok (Repair.Repaired c)) = c
change_in (Ok Repair.Beyond) = no_change
change_in (Err r) = no_change

abbrev pub mended_by : Reply → ℕ → Change → Mended
mended_by reply answer c = mended_of reply answer c.position.count c.old c.new (cond c.marked 1 0)

abbrev pub mended : Result Repair Refusal → Mended
mended (Ok Repair.Whole) = mended_by (reply_of 0 0) WHOLE no_change
mended (Ok (Repair.Repaired c)) = mended_by (reply_of 0 0) REPAIRED c
mended (Ok Repair.Beyond) = mended_by (reply_of 0 0) BEYOND no_change
mended (Err r) = mended_by (refusing r) REFUSED no_change

pub record Righted : Type 0 where
  pub mended : Mended
  pub image : List ℕ

abbrev pub righted_of : Mended → List ℕ → Righted
righted_of mended image = record { mended = mended; image = image }

abbrev pub righted : Repairs.Outcome → Righted
righted o = righted_of (mended o.answer) o.image

-- ---- a part of the image: where it starts, and how many bytes it has; refused, it is empty

pub record Part : Type 0 where
  pub start : ℕ
  pub bytes : ℕ

abbrev pub part_of : ℕ → ℕ → Part
part_of start bytes = record { start = start; bytes = bytes }

abbrev pub part_unless : Verdict → ℕ → ℕ → Part
part_unless (Ok _) start bytes = part_of start bytes
part_unless (Err r) start bytes = part_of 0 0

-- page k starts after the k whole pages before it
unfoldable pub loaded_part : List ℕ → List ℕ → ℕ → Part
loaded_part image map k = part_unless (asking image map k) (k * (header_of map).page.count) (length (loaded_page image map k))

pub record Loaded : Type 0 where
  pub reply : Reply
  pub part : Part

abbrev pub loaded_of : Reply → Part → Loaded
loaded_of reply part = record { reply = reply; part = part }

abbrev pub loaded : List ℕ → List ℕ → ℕ → Loaded
loaded image map k = loaded_of (asked (asking image map k)) (loaded_part image map k)
