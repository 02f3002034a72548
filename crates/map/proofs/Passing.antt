-- A reader that begins at the start of a map that reads comes to each of its entries in turn, and with the last one to the end.
-- Assumes nothing.
use Rattle.std.specs.Prelude.{Ok}
use mathlib.Core.Path.{◌≡◌, refl, sym, ap, ◌∙◌}
use mathlib.Core.List.{List}
use Prim.Native.Nat.{ℕ, zero, suc, ◌+◌, ◌*◌, ◌≤◌}
use native.Mathlib.Nat.{add-zero, zero-add, suc-mul}
use native.Mathlib.Omega.{arith}
use lib.ListN.{length}
use Rattle.reader.specs.Readers.{comes_to}
use Rattle.reader.proofs.Due.{behind_due}
use Rattle.map.specs.Files.{pages, place, entry_bytes}
use Rattle.map.specs.Reading.{reading}
use Rattle.map.specs.declared.Header.{Header}
use Rattle.map.proofs.Entries.{entry_rule}
use Rattle.map.proofs.Fields.{n_due, page_due, bucket_due}
use Rattle.map.proofs.Holding.{holds_kept, holds_sized, holds_due, holds_length}
use Rattle.map.proofs.MadeMaps.{n_most}

module _ (bytes : List ℕ) (h : Header) (holds : reading bytes ≡ Ok h) where
  -- from an entry on, m entries further
  reader_on : (m k : ℕ) → k + m ≤ pages h → comes_to h.n bytes m (place h.n k) ≡ place h.n (k + m)
  unfolding comes_to
  reader_on zero k within = ap (place h.n) (sym (add-zero k))
  reader_on (suc m) k within =
      let ends : place h.n k + 3 + 2 * h.n ≡ place h.n (suc k) = omega (arith, suc-mul k (entry_bytes h.n)) in
      let up : suc k + m ≡ k + suc m = omega arith in
      ap (comes_to h.n bytes m)
      (behind_due h.n 4 (2 * h.n) bytes (place h.n k) (entry_rule h.n (n_most h.n (holds_sized bytes h holds).n_fits)) (holds_due bytes h holds k (omega arith)) ∙ ends)
      ∙ reader_on m (suc k) (omega arith) ∙ ap (place h.n) up

  -- the header's three fields, and then k entries
  pub reader_comes : (k : ℕ) → k ≤ pages h → comes_to h.n bytes (3 + k) 0 ≡ place h.n k
  unfolding comes_to
  reader_comes k within =
      let three : 3 + k ≡ suc (suc (suc k)) = omega arith in
      let starts : 11 + 3 + 4 ≡ place h.n 0 = omega arith in
      ap (λ (m : ℕ). comes_to h.n bytes m 0) three
      ∙ ap (λ (at : ℕ). comes_to h.n bytes (suc (suc k)) at) (behind_due h.n 1 1 bytes 0 refl (n_due bytes (holds_kept bytes h holds).n))
      ∙ ap (λ (at : ℕ). comes_to h.n bytes (suc k) at) (behind_due h.n 2 4 bytes 4 refl (page_due bytes (holds_kept bytes h holds).page))
      ∙ ap (λ (at : ℕ). comes_to h.n bytes k at) (behind_due h.n 3 4 bytes 11 refl (bucket_due bytes (holds_kept bytes h holds).bucket) ∙ starts)
      ∙ reader_on k 0 (omega arith) ∙ ap (place h.n) (zero-add k)

  pub reader_ends : comes_to h.n bytes (3 + pages h) 0 ≡ length bytes
  reader_ends = reader_comes (pages h) (omega arith) ∙ sym (holds_length bytes h holds)
