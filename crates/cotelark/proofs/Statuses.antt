-- A status of 0 is no refusal: where an operation's tests refuse, their number comes back, and the table has no number 0.
-- Assumes nothing.
use Rattle.std.specs.Prelude.{Result}
use mathlib.Core.Path.{◌≡◌, refl, ap, ◌∙◌}
use mathlib.Core.Logic.{◌↔◌}
use mathlib.Core.List.{List, [], ◌∷◌}
use Prim.Native.Nat.{ℕ, ◌<◌}
use native.Mathlib.Omega.{arith}
use lib.Dec.{T}
use lib.ListN.{length}
use Rattle.units.specs.Filling.{room, told as told_filled}
use Rattle.units.specs.Naming.{told as told_listed}
use Rattle.units.specs.Refusals.{Test}
use Rattle.units.specs.Filling.{Filled}
use Rattle.units.specs.Naming.{Listed}
use Rattle.units.specs.declared.Refusal.{Refusal}
use Rattle.units.specs.Refusals.{Verdict}
use Rattle.units.proofs.Refusing.{Lowest, above, lowest_above}
use Rattle.signature.specs.Kinds.{wide}
use Rattle.signature.specs.Operations.{told as told_signed, signing, sign_tests, joining, join_tests, editing, edit_tests}
use Rattle.signature.specs.Operations.{Answer}
use Rattle.signature.specs.declared.Signature.{Signature}
use Rattle.signature.proofs.EveryKind.{sign_refused, join_refused, edit_refused}
use Rattle.map.specs.Making.{making, make_tests}
use Rattle.map.specs.declared.Header.{Header}
use Rattle.map.specs.Reading.{Reading}
use Rattle.map.proofs.Maps.{make_refused}
use Rattle.listing.specs.Lines.{listing, text_out}
use Rattle.listing.proofs.Listings.{list_refused}
use Rattle.store.specs.Steps.{told as told_step, stepping, step_tests}
use Rattle.store.specs.Stores.{storing, store_tests}
use Rattle.store.specs.declared.Answer.{Answer as StepAnswer}
use Rattle.store.specs.declared.Place.{Place}
use Rattle.store.proofs.Answers.{step_refused, store_refused}
use Rattle.load.specs.Loads.{asking, load_tests, loading, load_bucket_tests}
use Rattle.load.proofs.Answers.{ask_refused, load_bucket_refused}
use Rattle.repair.specs.Repairs.{told as told_repair, repairing, repair_tests}
use Rattle.repair.specs.declared.Repair.{Repair}
use Rattle.repair.proofs.Answers.{repair_refused}
use Rattle.caption.specs.Recoding.{recoding, recode_tests, encoding, decoding}
use Rattle.caption.specs.Searches.{searching, search_tests}
use Rattle.caption.proofs.Answers.{recode_refused, search_refused}
use Rattle.cotelark.specs.Replies.{asked, filled, listed, signed, read, did, mended}
use Rattle.std.specs.Prelude.{Ok, Err}
use Rattle.units.specs.Refusals.{allowed, refused, number}

-- ---- a status is that of what the table says of the answer

filled_told : (a : Filled) → (filled a).status ≡ (asked (told_filled a)).status
filled_told (Ok b) = refl
filled_told (Err r) = refl

listed_told : (a : Listed) → (listed a).status ≡ (asked (told_listed a)).status
listed_told (Ok count) = refl
listed_told (Err r) = refl

signed_told : (a : Answer) (four : List ℕ) → (signed a four).status ≡ (asked (told_signed a)).status
signed_told (Ok s) four = refl
signed_told (Err r) four = refl

did_told : (a : Result StepAnswer Refusal) → (did a).reply.status ≡ (asked (told_step a)).status
did_told (Ok (StepAnswer.Kept k)) = refl
did_told (Ok (StepAnswer.Written k)) = refl
did_told (Ok StepAnswer.Finished) = refl
did_told (Err r) = refl

mended_told : (r : Result Repair Refusal) → (mended r).reply.status ≡ (asked (told_repair r)).status
mended_told (Ok Repair.Whole) = refl
mended_told (Ok (Repair.Repaired c)) = refl
mended_told (Ok Repair.Beyond) = refl
mended_told (Err r) = refl

-- ---- one law for every operation

-- v is what the table says of an answer, and status the status that crosses
module _ (tests : List Test) (numbered : T (above 0 tests)) (status : ℕ) (v : Verdict) (is : status ≡ (asked v).status)
    (refused_when : (r : Refusal) → (v ≡ refused r) ↔ Lowest tests r) where
  none : (w : Verdict) → v ≡ w → status ≡ 0 → v ≡ allowed
  none (Ok _) e zero = e
  none (Err r) e zero =
      let some : 0 < (number r) = lowest_above 0 tests numbered r ((refused_when r).0 e) in
      let same : (asked v).status ≡ (number r) = ap (λ (x : Verdict). (asked x).status) e in
      absurd (omega (arith, is))

  pub zero_when_allowed : (status ≡ 0) ↔ (v ≡ allowed)
  zero_when_allowed = (none v refl, λ e. is ∙ ap (λ (x : Verdict). (asked x).status) e)

-- ---- the operations

pub sign_zero : (n : ℕ) (object four : List ℕ) → ((signed (signing wide n object) four).status ≡ 0) ↔ (told_signed (signing wide n object) ≡ allowed)
sign_zero n object four = zero_when_allowed (sign_tests wide n object) tt _ _ (signed_told (signing wide n object) four) (sign_refused wide n object)

pub join_zero : (one : Signature) (a : ℕ) (two : Signature) (b : ℕ) (four : List ℕ)
    → ((signed (joining wide one a two b) four).status ≡ 0) ↔ (told_signed (joining wide one a two b) ≡ allowed)
join_zero one a two b four = zero_when_allowed (join_tests wide one a two b) tt _ _ (signed_told (joining wide one a two b) four) (join_refused wide one a two b)

pub edit_zero : (s : Signature) (r : ℕ) (old new four : List ℕ)
    → ((signed (editing wide s r old new) four).status ≡ 0) ↔ (told_signed (editing wide s r old new) ≡ allowed)
edit_zero s r old new four = zero_when_allowed (edit_tests wide s r old new) tt _ _ (signed_told (editing wide s r old new) four) (edit_refused wide s r old new)

pub make_map_zero : (n page : ℕ) (bucket output : List ℕ)
    → ((filled (making n page bucket output).answer).status ≡ 0) ↔ (told_filled (making n page bucket output).answer ≡ allowed)
make_map_zero n page bucket output = zero_when_allowed (make_tests n page bucket output) tt _ _ (filled_told (making n page bucket output).answer) (make_refused n page bucket output)

pub read_map_zero : (r : Reading) → (read r).reply.status ≡ 0 → (h : Header) × (r ≡ Ok h)
read_map_zero (Ok h) e = (h, refl)
read_map_zero (Err b) e = absurd (omega (arith, e))

pub list_map_zero : (map output : List ℕ)
    → ((filled (text_out (listing map) output).answer).status ≡ 0) ↔ (told_filled (text_out (listing map) output).answer ≡ allowed)
list_map_zero map output = zero_when_allowed (room (length (listing map)) output ∷ []) tt _ _ (filled_told (text_out (listing map) output).answer) (list_refused map output)

pub store_zero : (table image map list : List ℕ)
    → ((listed (storing table image map list).answer).status ≡ 0) ↔ (told_listed (storing table image map list).answer ≡ allowed)
store_zero table image map list = zero_when_allowed (store_tests table image map list) tt _ _ (listed_told (storing table image map list).answer) (store_refused table image map list)

pub step_zero : (table image map : List ℕ) (place : Place)
    → ((did (stepping table image map place).answer).reply.status ≡ 0) ↔ (told_step (stepping table image map place).answer ≡ allowed)
step_zero table image map place = zero_when_allowed (step_tests table image map place.page) tt _ _ (did_told (stepping table image map place).answer) (step_refused table image map place)

pub load_page_zero : (image map : List ℕ) (k : ℕ) → ((asked (asking image map k)).status ≡ 0) ↔ (asking image map k ≡ allowed)
load_page_zero image map k = zero_when_allowed (load_tests image map k) tt _ _ refl (ask_refused image map k)

pub load_bucket_zero : (image map table : List ℕ)
    → ((filled (loading image map table).answer).status ≡ 0) ↔ (told_filled (loading image map table).answer ≡ allowed)
load_bucket_zero image map table = zero_when_allowed (load_bucket_tests image map table) tt _ _ (filled_told (loading image map table).answer) (load_bucket_refused image map table)

pub repair_page_zero : (image map : List ℕ) (k : ℕ)
    → ((mended (repairing image map k).answer).reply.status ≡ 0) ↔ (told_repair (repairing image map k).answer ≡ allowed)
repair_page_zero image map k = zero_when_allowed (repair_tests image map k) tt _ _ (mended_told (repairing image map k).answer) (repair_refused image map k)

recode_zero : (new caption output : List ℕ)
    → ((filled (recoding new caption output).answer).status ≡ 0) ↔ (told_filled (recoding new caption output).answer ≡ allowed)
recode_zero new caption output = zero_when_allowed (recode_tests caption output) tt _ _ (filled_told (recoding new caption output).answer) (recode_refused new caption output)

pub encode_zero : (caption output : List ℕ)
    → ((filled (encoding 0 caption output).answer).status ≡ 0) ↔ (told_filled (encoding 0 caption output).answer ≡ allowed)
encode_zero caption output = recode_zero _ caption output

pub decode_zero : (caption output : List ℕ)
    → ((filled (decoding 0 caption output).answer).status ≡ 0) ↔ (told_filled (decoding 0 caption output).answer ≡ allowed)
decode_zero caption output = recode_zero _ caption output

pub search_zero : (caption pattern list : List ℕ)
    → ((listed (searching 0 caption pattern list).answer).status ≡ 0) ↔ (told_listed (searching 0 caption pattern list).answer ≡ allowed)
search_zero caption pattern list = zero_when_allowed (search_tests caption pattern list) tt _ _ (listed_told (searching 0 caption pattern list).answer) (search_refused 0 caption pattern list)
