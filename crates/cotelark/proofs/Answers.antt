-- No second answer meets a contract of the C interface: the status, the numbers beside it and what is lent to write are determined.
-- Assumes nothing.
use mathlib.Core.Path.{◌≡◌, sym, ap, ◌∙◌}
use mathlib.Core.List.{List}
use Prim.Native.Nat.{ℕ}
use Rattle.cotelark.specs.Replies.{Reply, reply_of, Signed, signed_of, Wrote, wrote_of}
use Rattle.cotelark.proofs.cotelark_ask_page.Reads as AskPage
use Rattle.cotelark.proofs.cotelark_decode.Reads as Decode
use Rattle.cotelark.proofs.cotelark_edit.Reads as Edit
use Rattle.cotelark.proofs.cotelark_encode.Reads as Encode
use Rattle.cotelark.proofs.cotelark_join.Reads as Join
use Rattle.cotelark.proofs.cotelark_list_map.Reads as ListMap
use Rattle.cotelark.proofs.cotelark_load_bucket.Reads as LoadBucket
use Rattle.cotelark.proofs.cotelark_load_page.Reads as LoadPage
use Rattle.cotelark.proofs.cotelark_make_map.Reads as MakeMap
use Rattle.cotelark.proofs.cotelark_read_map.Reads as ReadMap
use Rattle.cotelark.proofs.cotelark_repair_page.Reads as RepairPage
use Rattle.cotelark.proofs.cotelark_search.Reads as Search
use Rattle.cotelark.proofs.cotelark_sign.Reads as Sign
use Rattle.cotelark.proofs.cotelark_step.Reads as Step
use Rattle.cotelark.proofs.cotelark_store.Reads as Store

module _ {r s : ℕ} where
  same_reply : {v w : ℕ} {a : Reply} → reply_of r v ≡ a → reply_of s w ≡ a → (r ≡ s) × (v ≡ w)
  same_reply p q = let same : _ = p ∙ sym q in (ap (λ o. o.status) same, ap (λ o. o.value) same)

  same_signed : {four other : List ℕ} {a : Signed} → signed_of r four ≡ a → signed_of s other ≡ a → (r ≡ s) × (four ≡ other)
  same_signed p q = let same : _ = p ∙ sym q in (ap (λ o. o.status) same, ap (λ o. o.four) same)

  same_wrote : {v w : ℕ} {output other : List ℕ} {a : Wrote} → wrote_of (reply_of r v) output ≡ a → wrote_of (reply_of s w) other ≡ a
      → (r ≡ s) × (v ≡ w) × (output ≡ other)
  same_wrote p q = let same : _ = p ∙ sym q in (ap (λ o. o.reply.status) same, ap (λ o. o.reply.value) same, ap (λ o. o.output) same)

-- ---- signatures

pub cotelark_sign_one_answer : (κs : _) (a : _) (r s : ℕ) (x y : _) → Sign.Post κs a r x → Sign.Post κs a s y
    → (r ≡ s) × (x.1.1.0.now ≡ y.1.1.0.now)
cotelark_sign_one_answer κs a r s x y p q = same_signed p q

pub cotelark_join_one_answer : (κs : _) (a : _) (r s : ℕ) (x y : _) → Join.Post κs a r x → Join.Post κs a s y
    → (r ≡ s) × (x.1.1.1.1.1.1.0.now ≡ y.1.1.1.1.1.1.0.now)
cotelark_join_one_answer κs a r s x y p q = same_signed p q

pub cotelark_edit_one_answer : (κs : _) (a : _) (r s : ℕ) (x y : _) → Edit.Post κs a r x → Edit.Post κs a s y
    → (r ≡ s) × (x.1.1.1.1.1.0.now ≡ y.1.1.1.1.1.0.now)
cotelark_edit_one_answer κs a r s x y p q = same_signed p q

-- ---- maps

pub cotelark_make_map_one_answer : (κs : _) (a : _) (r s : ℕ) (x y : _) → MakeMap.Post κs a r x → MakeMap.Post κs a s y
    → (r ≡ s) × (x.1.1.1.1.0.now ≡ y.1.1.1.1.0.now) × (x.1.1.1.0.now ≡ y.1.1.1.0.now)
cotelark_make_map_one_answer κs a r s x y p q = same_wrote p q

pub cotelark_read_map_one_answer : (κs : _) (a : _) (r s : ℕ) (x y : _) → ReadMap.Post κs a r x → ReadMap.Post κs a s y
    → (r ≡ s) × (x.1.1.1.1.1.0.now ≡ y.1.1.1.1.1.0.now) × (x.1.0.now ≡ y.1.0.now) × (x.1.1.0.now ≡ y.1.1.0.now)
    × (x.1.1.1.0.now ≡ y.1.1.1.0.now) × (x.1.1.1.1.0.now ≡ y.1.1.1.1.0.now)
cotelark_read_map_one_answer κs a r s x y p q =
    let same : _ = p ∙ sym q in
    (ap (λ o. o.reply.status) same, ap (λ o. o.reply.value) same, ap (λ o. o.sizes.n) same, ap (λ o. o.sizes.page) same, ap (λ o. o.sizes.bucket) same, ap (λ o. o.sizes.pages) same)

pub cotelark_list_map_one_answer : (κs : _) (a : _) (r s : ℕ) (x y : _) → ListMap.Post κs a r x → ListMap.Post κs a s y
    → (r ≡ s) × (x.1.1.0.now ≡ y.1.1.0.now) × (x.1.0.now ≡ y.1.0.now)
cotelark_list_map_one_answer κs a r s x y p q = same_wrote p q

-- ---- stores, loads and repairs

pub cotelark_store_one_answer : (κs : _) (a : _) (r s : ℕ) (x y : _) → Store.Post κs a r x → Store.Post κs a s y
    → (r ≡ s) × (x.1.1.1.1.0.now ≡ y.1.1.1.1.0.now) × (x.1.0.now ≡ y.1.0.now) × (x.1.1.0.now ≡ y.1.1.0.now)
    × (x.1.1.1.0.now ≡ y.1.1.1.0.now)
cotelark_store_one_answer κs a r s x y p q =
    let same : _ = p ∙ sym q in
    (ap (λ o. o.reply.status) same, ap (λ o. o.reply.value) same, ap (λ o. o.image) same, ap (λ o. o.map) same, ap (λ o. o.list) same)

pub cotelark_step_one_answer : (κs : _) (a : _) (r s : ℕ) (x y : _) → Step.Post κs a r x → Step.Post κs a s y
    → (r ≡ s) × (x.1.1.1.1.1.0.now ≡ y.1.1.1.1.1.0.now) × (x.1.1.1.1.0.now ≡ y.1.1.1.1.0.now) × (x.0.now ≡ y.0.now)
    × (x.1.1.0.now ≡ y.1.1.0.now) × (x.1.1.1.0.now ≡ y.1.1.1.0.now)
cotelark_step_one_answer κs a r s x y p q =
    let same : _ = p ∙ sym q in
    (ap (λ o. o.did.reply.status) same, ap (λ o. o.did.reply.value) same, ap (λ o. o.did.answer) same, ap (λ o. o.place) same, ap (λ o. o.image) same, ap (λ o. o.map) same)

pub cotelark_load_page_one_answer : (κs : _) (a : _) (r s : ℕ) (x y : _) → LoadPage.Post κs a r x → LoadPage.Post κs a s y
    → (r ≡ s) × (x.1.1.1.1.1.0.now ≡ y.1.1.1.1.1.0.now) × (x.1.1.1.0.now ≡ y.1.1.1.0.now) × (x.1.1.1.1.0.now ≡ y.1.1.1.1.0.now)
cotelark_load_page_one_answer κs a r s x y p q =
    let same : _ = p ∙ sym q in
    (ap (λ o. o.reply.status) same, ap (λ o. o.reply.value) same, ap (λ o. o.part.start) same, ap (λ o. o.part.bytes) same)

pub cotelark_ask_page_one_answer : (κs : _) (a : _) (r s : ℕ) (x y : _) → AskPage.Post κs a r x → AskPage.Post κs a s y
    → (r ≡ s) × (x.1.1.1.0.now ≡ y.1.1.1.0.now)
cotelark_ask_page_one_answer κs a r s x y p q = same_reply p q

pub cotelark_load_bucket_one_answer : (κs : _) (a : _) (r s : ℕ) (x y : _) → LoadBucket.Post κs a r x → LoadBucket.Post κs a s y
    → (r ≡ s) × (x.1.1.1.0.now ≡ y.1.1.1.0.now) × (x.1.1.0.now ≡ y.1.1.0.now)
cotelark_load_bucket_one_answer κs a r s x y p q = same_wrote p q

pub cotelark_repair_page_one_answer : (κs : _) (a : _) (r s : ℕ) (x y : _) → RepairPage.Post κs a r x → RepairPage.Post κs a s y
    → (r ≡ s) × (x.1.1.1.1.1.1.1.1.0.now ≡ y.1.1.1.1.1.1.1.1.0.now) × (x.1.1.1.0.now ≡ y.1.1.1.0.now)
    × (x.1.1.1.1.0.now ≡ y.1.1.1.1.0.now) × (x.1.1.1.1.1.0.now ≡ y.1.1.1.1.1.0.now)
    × (x.1.1.1.1.1.1.0.now ≡ y.1.1.1.1.1.1.0.now) × (x.1.1.1.1.1.1.1.0.now ≡ y.1.1.1.1.1.1.1.0.now) × (x.0.now ≡ y.0.now)
cotelark_repair_page_one_answer κs a r s x y p q =
    let same : _ = p ∙ sym q in (
      ap (λ o. o.mended.reply.status) same,
      ap (λ o. o.mended.reply.value) same,
      ap (λ o. o.mended.answer) same,
      ap (λ o. o.mended.position) same,
      ap (λ o. o.mended.old) same,
      ap (λ o. o.mended.new) same,
      ap (λ o. o.mended.marked) same,
      ap (λ o. o.image) same,
    )

-- ---- caption fields

pub cotelark_encode_one_answer : (κs : _) (a : _) (r s : ℕ) (x y : _) → Encode.Post κs a r x → Encode.Post κs a s y
    → (r ≡ s) × (x.1.1.0.now ≡ y.1.1.0.now) × (x.1.0.now ≡ y.1.0.now)
cotelark_encode_one_answer κs a r s x y p q = same_wrote p q

pub cotelark_decode_one_answer : (κs : _) (a : _) (r s : ℕ) (x y : _) → Decode.Post κs a r x → Decode.Post κs a s y
    → (r ≡ s) × (x.1.1.0.now ≡ y.1.1.0.now) × (x.1.0.now ≡ y.1.0.now)
cotelark_decode_one_answer κs a r s x y p q = same_wrote p q

pub cotelark_search_one_answer : (κs : _) (a : _) (r s : ℕ) (x y : _) → Search.Post κs a r x → Search.Post κs a s y
    → (r ≡ s) × (x.1.1.1.0.now ≡ y.1.1.1.0.now) × (x.1.1.0.now ≡ y.1.1.0.now)
cotelark_search_one_answer κs a r s x y p q = same_wrote p q
