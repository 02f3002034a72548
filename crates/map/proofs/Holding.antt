-- What is known of a map that reads: its sizes are allowed, and it ends with its last entry.
-- Assumes nothing.
use Rattle.std.specs.Prelude.{Ok}
use mathlib.Core.Path.{◌≡◌, sym, subst}
use mathlib.Core.Bool.{true}
use mathlib.Core.List.{List}
use Prim.Native.Nat.{ℕ, zero, suc, ◌+◌, ◌*◌, ◌≤◌, ◌<◌}
use native.Mathlib.Nat.{suc-mul}
use native.Mathlib.Omega.{arith}
use lib.ListN.{length}
use borrow.Author.Tests.{not-false}
use Rattle.units.specs.Refusals.{first}
use Rattle.units.proofs.Refusing.{Quiet, allowed_when}
use Rattle.signature.specs.Objects.{Octets, low_first}
use Rattle.signature.proofs.Handing.{answered_handed, answered_below}
use Rattle.signature.proofs.Octets.{low_first_lt}
use Rattle.map.specs.Files.{pages, place, entry_bytes}
use Rattle.reader.specs.Fields.{field_at, is_due}
use Rattle.map.specs.Reading.{header_of, map_tests, reading, entry_at}
use Rattle.map.specs.declared.Header.{Header}
use Rattle.reader.proofs.Due.{Due}
use Rattle.map.proofs.Fields.{halves, bucket_due}
use Rattle.map.proofs.Entries.{entry_due, quiet_due, quiet_end}
use Rattle.map.proofs.Headers.{Kept, told_holds, n_small}
use Rattle.map.proofs.Contents.{Sized, Held}
use Rattle.map.proofs.MadeMaps.{n_most}
use Rattle.units.specs.Refusals.{allowed}

module _ (bytes : List ℕ) (q : Quiet (map_tests bytes)) where
  pub quiet_kept : Kept bytes
  quiet_kept = record { n = not-false _ q.0; page = not-false _ q.1.0; bucket = not-false _ q.1.1.0 }

  quiet_sized : Sized (header_of bytes)
  quiet_sized =
      record {
        n_fits = (halves (is_due 1 (field_at 0 bytes 0)) _ quiet_kept.n).1;
        page_fits = (halves (is_due 2 (field_at 0 bytes 4)) _ quiet_kept.page).1;
        bucket_fits = (halves (is_due 3 (field_at 0 bytes 11)) _ quiet_kept.bucket).1;
      }

  -- m entries are there
  reached : (m : ℕ) → m ≤ pages (header_of bytes) → place (header_of bytes).n m ≤ length bytes
  reached zero within = let d : Due 3 4 bytes 11 = bucket_due bytes quiet_kept.bucket in omega arith
  reached (suc m) within =
      let n : ℕ = (header_of bytes).n in
      let d : Due 4 (2 * n) bytes (place n m) =
      entry_due n bytes (n_small bytes quiet_kept) (place n m) (quiet_due n bytes (pages (header_of bytes)) 18 q.1.1.1 m (omega arith)) in
      omega (arith, suc-mul m (entry_bytes n))

  quiet_length : length bytes ≡ place (header_of bytes).n (pages (header_of bytes))
  quiet_length =
      omega (arith, reached (pages (header_of bytes)) (omega arith), quiet_end (header_of bytes).n bytes (pages (header_of bytes)) 18 q.1.1.1)

module _ (bytes : List ℕ) (h : Header) (holds : reading bytes ≡ Ok h) where
  both : (first (map_tests bytes) ≡ allowed) × (header_of bytes ≡ h)
  unfolding reading
  both = told_holds _ _ _ holds

  quiet : Quiet (map_tests bytes)
  quiet = (allowed_when (map_tests bytes)).0 both.0

  pub holds_header : header_of bytes ≡ h
  holds_header = both.1

  pub holds_kept : Kept bytes
  holds_kept = quiet_kept bytes quiet

  pub holds_sized : Sized h
  holds_sized = subst Sized both.1 (quiet_sized bytes quiet)

  pub holds_length : length bytes ≡ place h.n (pages h)
  holds_length = subst (λ (g : Header). length bytes ≡ place g.n (pages g)) both.1 (quiet_length bytes quiet)

  pub holds_due : (k : ℕ) → k < pages h → Due 4 (2 * h.n) bytes (place h.n k)
  holds_due k inside =
      let small : h.n ≤ 4 = n_most h.n holds_sized.n_fits in
      let g : header_of bytes ≡ h = both.1 in
      entry_due h.n bytes small (place h.n k)
      (subst (λ (x : Header). k < pages x → is_due 4 (field_at x.n bytes (place x.n k)) ≡ true) g
      (quiet_due (header_of bytes).n bytes (pages (header_of bytes)) 18 quiet.1.1.1 k) inside)

  -- each of its entries has tag 04, n symbols, and zeros above them
  pub holds_held : Octets bytes → (k : ℕ) → k < pages h → Held h.n (entry_at h.n bytes k)
  unfolding entry_at
  holds_held octets k inside =
      let s : ℕ → ℕ = λ j. low_first 2 bytes (place h.n k + 1 + 2 * j) in
      record {
        tagged_04 = (holds_due k inside).is;
        symbols = answered_below 16 h.n s (λ j. low_first_lt 2 bytes (place h.n k + 1 + 2 * j) octets);
        cleared = sym (answered_handed h.n (λ j x. x) s);
      }
