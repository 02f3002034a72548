-- The rules of a map's entries, one turn of them: an entry that is due, one that is not, and the end of the file.
-- Assumes nothing.
use mathlib.Core.Path.{◌≡◌, sym, ap, ◌∙◌}
use mathlib.Core.Bool.{true, false}
use mathlib.Core.List.{List}
use Prim.Native.Nat.{ℕ, zero, suc, ◌+◌, ◌*◌, ◌≤◌, ◌<◌}
use native.Mathlib.Nat.{add-zero, zero-mul, suc-mul, not-suc-le-zero}
use native.Mathlib.Omega.{arith}
use lib.ListN.{length}
use borrow.Author.Tests.{lt-leb, le-leb, leb-true, not-false}
use Rattle.units.specs.Counts.{bytes_in}
use Rattle.units.specs.Refusals.{first}
use Rattle.units.proofs.Refusing.{Quiet}
use Rattle.map.specs.Files.{entry_bytes}
use Rattle.reader.specs.Fields.{Field, long, rule, field_at, is_due, behind}
use Rattle.reader.specs.Readers.{Advanced, advanced_of, advancing}
use Rattle.reader.specs.declared.Reader.{Reader}
use Rattle.map.specs.Reading.{entry_tests}
use Rattle.reader.proofs.Due.{Due, is_due_lem, due_is, behind_due}
use Rattle.units.specs.Refusals.{allowed, refused}
use Rattle.units.specs.declared.Refusal.{Refusal}

pub entry_rule : (n : ℕ) → n ≤ 4 → rule n 4 ≡ long (2 * n)
entry_rule n small = let size : bytes_in 2 n ≡ 2 * n = omega arith in ap long size

module _ (n : ℕ) (bytes : List ℕ) where
  pub entry_kept : (m at : ℕ) → is_due 4 (field_at n bytes at) ≡ true
      → first (entry_tests n bytes (suc m) at) ≡ first (entry_tests n bytes m (at + entry_bytes n))
  unfolding entry_tests
  entry_kept m at e = simp e

  pub entry_broken : (m at : ℕ) → is_due 4 (field_at n bytes at) ≡ false
      → first (entry_tests n bytes (suc m) at) ≡ refused (Refusal.Map at)
  unfolding entry_tests
  entry_broken m at e = simp e

  pub end_kept : (at : ℕ) → length bytes ≤ at → first (entry_tests n bytes 0 at) ≡ allowed
  unfolding entry_tests
  end_kept at e = simp (le-leb _ _ e)

  pub end_broken : (at : ℕ) → at < length bytes → first (entry_tests n bytes 0 at) ≡ refused (Refusal.Map at)
  unfolding entry_tests
  end_broken at e = simp (lt-leb _ _ e)

  -- the same, where a loop that counts down has come to its end
  pub ends_kept : (left at : ℕ) → left ≤ 0 → length bytes ≤ at → first (entry_tests n bytes left at) ≡ allowed
  ends_kept left at none e = let is : left ≡ 0 = omega arith in ap (λ (m : ℕ). first (entry_tests n bytes m at)) is ∙ end_kept at e

  pub ends_broken : (left at : ℕ) → left ≤ 0 → at < length bytes → first (entry_tests n bytes left at) ≡ refused (Refusal.Map at)
  ends_broken left at none e = let is : left ≡ 0 = omega arith in ap (λ (m : ℕ). first (entry_tests n bytes m at)) is ∙ end_broken at e

  pub entry_due : n ≤ 4 → (at : ℕ) → is_due 4 (field_at n bytes at) ≡ true → Due 4 (2 * n) bytes at
  entry_due small at e = is_due_lem n 4 (2 * n) bytes at (entry_rule n small) e

  pub due_entry : n ≤ 4 → (at : ℕ) → Due 4 (2 * n) bytes at → is_due 4 (field_at n bytes at) ≡ true
  due_entry small at d = due_is n 4 (2 * n) bytes at (entry_rule n small) d

  -- one turn of a reader of these bytes, where m entries are left
  module _ (r s : Reader) (f : Field) (same : r.bytes.now ≡ bytes) (step : advanced_of f s ≡ advancing n r) (m left : ℕ) (up : m ≡ suc left) where
    taken : is_due 4 f ≡ is_due 4 (field_at n bytes r.place)
    taken = ap (λ (a : Advanced). is_due 4 a.field) step ∙ ap (λ (l : List ℕ). is_due 4 (field_at n l r.place)) same

    pub turn_broken : is_due 4 f ≡ false → first (entry_tests n bytes m r.place) ≡ refused (Refusal.Map r.place)
    turn_broken e = ap (λ (k : ℕ). first (entry_tests n bytes k r.place)) up ∙ entry_broken left r.place (sym taken ∙ e)

    pub turn_kept : n ≤ 4 → is_due 4 f ≡ true → (first (entry_tests n bytes left s.place) ≡ first (entry_tests n bytes m r.place)) × (s.bytes.now ≡ bytes)
    turn_kept small e =
        let due : is_due 4 (field_at n bytes r.place) ≡ true = sym taken ∙ e in
        let ends : r.place + 3 + 2 * n ≡ r.place + entry_bytes n = omega arith in
        let on : s.place ≡ r.place + entry_bytes n =
        ap (λ (a : Advanced). a.reader.place) step ∙ ap (λ (l : List ℕ). behind r.place (field_at n l r.place)) same
        ∙ behind_due n 4 (2 * n) bytes r.place (entry_rule n small) (entry_due small r.place due) ∙ ends in (
          ap (λ (at : ℕ). first (entry_tests n bytes left at)) on ∙ sym (entry_kept left r.place due) ∙ ap (λ (k : ℕ). first (entry_tests n bytes k r.place)) (sym up),
          ap (λ (a : Advanced). a.reader.bytes.now) step ∙ same,
        )

  -- where every rule is kept: each entry is due, and the file ends with the last

  pub quiet_due : (m at : ℕ) → Quiet (entry_tests n bytes m at) → (i : ℕ) → i < m → is_due 4 (field_at n bytes (at + i * entry_bytes n)) ≡ true
  unfolding entry_tests
  quiet_due zero at q i inside = absurd (not-suc-le-zero inside)
  quiet_due (suc m) at q zero inside =
      ap (λ (k : ℕ). is_due 4 (field_at n bytes k)) (ap (λ (k : ℕ). at + k) (zero-mul (entry_bytes n)) ∙ add-zero at) ∙ not-false _ q.0
  quiet_due (suc m) at q (suc i) inside =
      let place : at + suc i * entry_bytes n ≡ at + entry_bytes n + i * entry_bytes n = omega (arith, suc-mul i (entry_bytes n)) in
      ap (λ (k : ℕ). is_due 4 (field_at n bytes k)) place ∙ quiet_due m (at + entry_bytes n) q.1 i (omega arith)

  pub quiet_end : (m at : ℕ) → Quiet (entry_tests n bytes m at) → length bytes ≤ at + m * entry_bytes n
  unfolding entry_tests
  quiet_end zero at q = omega (arith, leb-true (length bytes) at (not-false _ q.0))
  quiet_end (suc m) at q = omega (arith, quiet_end m (at + entry_bytes n) q.1, suc-mul m (entry_bytes n))
