-- `map::making::make` meets its contract: each return is the definition at the tests that led there; header and entries are the file.
-- Assumes nothing.
use Rattle.std.specs.Prelude.{Ok, Err}
use mathlib.Core.Path.{◌≡◌, sym, ap, ap₂, ◌∙◌}
use mathlib.Core.Bool.{Bool, true, false}
use mathlib.Core.List.{List}
use Prim.Native.Nat.{ℕ, ◌≤◌, ◌<◌}
use native.Mathlib.Omega.{arith}
use lib.ListN.{length}
use borrow.Author.Tests.{lt-ltb, le-ltb}
use Rattle.units.specs.Filling.{outcome_of}
use Rattle.units.specs.Writing.{written}
use Rattle.units.specs.Sizes.{n_allowed, page_allowed, bucket_allowed}
use Rattle.units.specs.Counts.{pages_in}
use Rattle.map.specs.Making.{making, needed, made, made_header, made_entry}
use Rattle.map.specs.declared.Header.{Header}
use Rattle.map.specs.Files.{place, header, entries}
use Rattle.map.proofs.MadeMaps.{file_written}
use Rattle.map.proofs.Contents.{Sized}
use Rattle.map.proofs.Tagging.{part_written, header_length}
use Rattle.map.proofs.making.make.Goals as goal
use Rattle.units.specs.declared.Refusal.{Refusal}

-- no size test applies
sized_at : (bucket : List ℕ) {n page count : ℕ} {n_ok page_ok bucket_ok : Bool} → n_ok ≡ n_allowed n → n_ok ≡ true → page_ok ≡ page_allowed page → page_ok ≡ true
    → count ≡ pages_in page (length bucket) → bucket_ok ≡ bucket_allowed (length bucket) count → bucket_ok ≡ true → Sized (made_header n page bucket)
sized_at bucket n_is n_fits page_is page_fits counted bucket_is bucket_fits =
    record {
      n_fits = sym n_is ∙ n_fits;
      page_fits = sym page_is ∙ page_fits;
      bucket_fits = ap (bucket_allowed (length bucket)) (sym counted) ∙ sym bucket_is ∙ bucket_fits;
    }

pub returns-then-not-n_allowed : goal.returns-then-not-n_allowed
unfolding making
returns-then-not-n_allowed c =
    let args : _ = c.args in
    let size : n_allowed args.n ≡ false = sym c.n_allowed.ensures ∙ c.if-not-n_allowed.true in
    simp size

pub returns-then-not-page_allowed : goal.returns-then-not-page_allowed
unfolding making
returns-then-not-page_allowed c =
    let args : _ = c.args in
    let size : n_allowed args.n ≡ true = sym c.n_allowed.ensures ∙ c.if-not-n_allowed.false in
    let page : page_allowed args.page.count ≡ false = sym c.page_allowed.ensures ∙ c.if-not-page_allowed.true in
    simp (size, page)

pub returns-then-not-bucket_allowed : goal.returns-then-not-bucket_allowed
unfolding making
returns-then-not-bucket_allowed c =
    let n-allowed : _ = c.n_allowed in
    let if1 : _ = c.if-not-n_allowed in
    let page-allowed : _ = c.page_allowed in
    let if2 : _ = c.if-not-page_allowed in
    let pages-of : _ = c.pages_of-count in
    let bucket-allowed : _ = c.bucket_allowed in
    let args : _ = c.args in
    let size : n_allowed args.n ≡ true = sym n-allowed.ensures ∙ if1.false in
    let page : page_allowed args.page.count ≡ true = sym page-allowed.ensures ∙ if2.false in
    let long : bucket_allowed (length args.bucket.now) (pages_in args.page.count (length args.bucket.now)) ≡ false =
    ap (bucket_allowed (length args.bucket.now)) (sym pages-of.ensures) ∙ sym bucket-allowed.ensures ∙ c.if-not-bucket_allowed.true in
    simp (size, page, long)

pub returns-then-output-needed : goal.returns-then-output-needed
unfolding making
returns-then-output-needed c =
    let pages-of : _ = c.pages_of-count in
    let args : _ = c.args in
    let fits : Sized (made_header args.n args.page.count args.bucket.now) = sized_at args.bucket.now c.n_allowed.ensures c.if-not-n_allowed.false c.page_allowed.ensures c.if-not-page_allowed.false c.pages_of-count.ensures c.bucket_allowed.ensures c.if-not-bucket_allowed.false in
    let size : place args.n pages-of.result ≡ needed args.n args.page.count args.bucket.now = ap (place args.n) pages-of.ensures in
    let short : length args.output.now < needed args.n args.page.count args.bucket.now = omega arith in
    simp (fits.n_fits, fits.page_fits, fits.bucket_fits, lt-ltb _ _ short)
    (ap (λ (k : ℕ). outcome_of (Err (Refusal.Room k)) args.output.now) size)

pub returns : goal.returns
unfolding making
returns c =
    let args : _ = c.args in
    let n : ℕ = args.n in
    let page : ℕ = args.page.count in
    let bucket : List ℕ = args.bucket.now in
    let h : Header = made_header n page bucket in
    let fits : Sized h = sized_at bucket c.n_allowed.ensures c.if-not-n_allowed.false c.page_allowed.ensures c.if-not-page_allowed.false c.pages_of-count.ensures c.bucket_allowed.ensures c.if-not-bucket_allowed.false in
    let size : place n c.pages_of-count.result ≡ needed n page bucket = ap (place n) c.pages_of-count.ensures in
    let enough : needed n page bucket ≤ length args.output.now = omega (arith, c.if-output-needed.false) in
    let all : c.put_entries.new.output ≡ written args.output.now 0 (made n page bucket) =
    c.put_entries.ensures
    ∙ ap (λ (l : List ℕ). written l 18 (entries (made_entry n page bucket) 0 (pages_in page (length bucket))))
    (part_written args.output.now _ (header h) 0 _ (c.copy_from_slice.ensures.after ∙ c.header.ensures) (sym (header_length h)))
    ∙ file_written n page bucket args.output.now enough in
    simp (fits.n_fits, fits.page_fits, fits.bucket_fits, le-ltb _ _ enough)
    (ap₂ (λ (k : ℕ) (l : List ℕ). outcome_of (Ok (record { count = k })) l) size all)
