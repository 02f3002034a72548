-- One entry written over in a map's file: the file is that of the entries with the new one among them.
-- Assumes nothing.
use mathlib.Core.Path.{◌≡◌, refl, sym, ap, ap₂, ◌∙◌, subst}
use mathlib.Core.Bool.{cond}
use mathlib.Core.List.{List, ◌++◌, append_assoc}
use Prim.Native.Nat.{ℕ, suc, ◌+◌, ◌-◌, ◌≤◌, ◌<◌}
use native.Mathlib.Nat.{zero-add, le_of_lt}
use native.Mathlib.Omega.{arith}
use lib.Dec.{eqb}
use lib.ListN.{length, length-append}
use borrow.Author.Tests.{eq-eqb, ne_eqb}
use Rattle.units.specs.Writing.{written}
use Rattle.units.proofs.Writing.{written_over}
use Rattle.units.proofs.Runs.{run_at, run_same}
use Rattle.signature.specs.declared.Signature.{Signature}
use Rattle.map.specs.Files.{pages, header, entry, entries, file, entry_put, entry_bytes, place}
use Rattle.map.specs.declared.Entry.{Entry}
use Rattle.map.specs.declared.Header.{Header}
use Rattle.map.proofs.Contents.{Sized, Held, file_length, entries_length}
use Rattle.map.proofs.MadeMaps.{entry_inside}
use Rattle.map.proofs.Tagging.{header_length, entry_length, entry_put_lem}

-- the entries, with page k's replaced
abbrev pub replaced : (ℕ → Entry) → ℕ → Entry → ℕ → Entry
replaced e k new i = cond (eqb i k) new (e i)

pub replaced_here : (e : ℕ → Entry) (k : ℕ) (new : Entry) → replaced e k new k ≡ new
replaced_here e k new = simp (eq-eqb k k refl)

pub replaced_else : (e : ℕ → Entry) (k : ℕ) (new : Entry) (i : ℕ) → (i ≡ k → ⊥) → replaced e k new i ≡ e i
replaced_else e k new i other = simp (ne_eqb i k other)

-- every entry of the file is one of a map of n components
abbrev pub AllHeld : Header → (ℕ → Entry) → Type 0
AllHeld h e = (k : ℕ) → k < pages h → Held h.n (e k)

-- the file, cut before and after an entry
cut : (h : Header) (e : ℕ → Entry) (k : ℕ) → k < pages h
    → file h e ≡ (header h ++ entries e 0 k) ++ (entry (e k) ++ entries e (suc k) (pages h - suc k))
unfolding file
cut h e k inside =
    ap (λ (l : List ℕ). header h ++ l)
    (run_at (λ i. entry (e i)) 0 k (pages h) inside
    ∙ ap (λ (i : ℕ). entries e 0 k ++ (entry (e i) ++ entries e (suc i) (pages h - suc k))) (zero-add k))
    ∙ sym (append_assoc (header h) (entries e 0 k) (entry (e k) ++ entries e (suc k) (pages h - suc k)))

module _ (h : Header) (e : ℕ → Entry) (sized : Sized h) (held : AllHeld h e) (k : ℕ) (inside : k < pages h) (new : Entry) (good : Held h.n new) where
  new_n : new.signature.n ≡ h.n
  new_n = ap (λ (s : Signature). s.n) good.cleared

  old_n : (e k).signature.n ≡ h.n
  old_n = ap (λ (s : Signature). s.n) (held k inside).cleared

  pub entry_put_file : entry_put new (file h e) k ≡ file h (replaced e k new)
  entry_put_file =
      let at : ℕ = place h.n k in
      let room : place new.signature.n k + entry_bytes new.signature.n ≤ length (file h e) =
      subst (λ (n : ℕ). place n k + entry_bytes n ≤ length (file h e)) (sym new_n)
      (subst (λ (l : ℕ). at + entry_bytes h.n ≤ l) (sym (file_length h e sized held)) (entry_inside h.n k (pages h) inside)) in
      let front : length (header h ++ entries e 0 k) ≡ at =
      omega (arith, length-append (header h) (entries e 0 k), header_length h, entries_length h e sized held k (le_of_lt inside)) in
      let long : length (entry (e k)) ≡ length (entry new) =
      entry_length (e k) ∙ ap entry_bytes (old_n ∙ sym new_n) ∙ sym (entry_length new) in
      let before : entries e 0 k ≡ entries (replaced e k new) 0 k =
      run_same _ _ k 0 (λ i low high. ap entry (sym (replaced_else e k new i (omega arith)))) in
      let after : entries e (suc k) (pages h - suc k) ≡ entries (replaced e k new) (suc k) (pages h - suc k) =
      run_same _ _ (pages h - suc k) (suc k) (λ i low high. ap entry (sym (replaced_else e k new i (omega arith)))) in
      entry_put_lem new (file h e) k room
      ∙ ap₂ (λ (l : List ℕ) (n : ℕ). written l (place n k) (entry new)) (cut h e k inside) new_n
      ∙ written_over (header h ++ entries e 0 k) (entry (e k)) (entries e (suc k) (pages h - suc k)) at (entry new) front long
      ∙ ap₂ (λ (p q : List ℕ). (header h ++ p) ++ (entry new ++ q)) before after
      ∙ ap (λ (x : Entry). (header h ++ entries (replaced e k new) 0 k) ++ (entry x ++ entries (replaced e k new) (suc k) (pages h - suc k))) (sym (replaced_here e k new))
      ∙ sym (cut h (replaced e k new) k inside)
