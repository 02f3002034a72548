-- A change is checked by an edit of the page's own signature: what the edit answers is the changed page's, and decides whether the change fits.
-- Assumes nothing.
use Rattle.std.specs.Prelude.{Ok}
use mathlib.Core.Path.{◌≡◌, sym, ap, ap₂, ◌∙◌}
use mathlib.Core.Bool.{true}
use mathlib.Core.List.{List}
use Prim.Native.Nat.{ℕ, ◌%◌, ◌≤◌, ◌<◌}
use native.Mathlib.Omega.{arith}
use lib.Dec.{eqb}
use lib.ListN.{length}
use borrow.Author.Tests.{eqb-true, le-leb}
use Rattle.units.specs.declared.Refusal.{Refusal}
use Rattle.signature.specs.Kinds.{wide}
use Rattle.signature.specs.Objects.{Octets, low_bytes, symbol, symbols}
use Rattle.signature.specs.Operations.{own, signing, editing}
use Rattle.signature.specs.Operations.{Answer}
use Rattle.signature.specs.declared.Signature.{Signature}
use Rattle.signature.proofs.EveryKind.{wide_sound, edit_of_page}
use Rattle.signature.proofs.Numbers.{low_bytes_length}
use Rattle.backup.specs.Backups.{same}
use Rattle.repair.specs.Changes.{Tells, changed, fits}
use Rattle.repair.proofs.Changed.{changed_length, changed_octets, changed_edited}
use Rattle.repair.proofs.Naming.{held}
use Rattle.std.specs.Prelude.{Err}

module _ (n : ℕ) (page : List ℕ) (i x : ℕ) (some : 1 ≤ n) (four : n ≤ 4) (short : symbols 2 page ≤ 65534) (inside : i < symbols 2 page) (octets : Octets page)
    (holds : symbol 2 (changed wide page i x) i ≡ x) where
  changed_signed : editing wide (own wide n page) i (low_bytes 2 (symbol 2 page i)) (low_bytes 2 x) ≡ Ok (own wide n (changed wide page i x))
  changed_signed =
      let after : List ℕ = changed wide page i x in
      let within : symbols 2 after ≤ 65534 = omega (arith, changed_length wide wide_sound page i x inside) in
      let even : length (low_bytes 2 (symbol 2 page i)) % 2 ≡ 0 = ap (λ (k : ℕ). k % 2) (low_bytes_length 2 _) in
      let signed : signing wide n after ≡ Ok (own wide n after) = simp (le-leb 1 n some, le-leb n 4 four, le-leb (symbols 2 after) 65534 within) in
      edit_of_page wide wide_sound n page after i _ _ (changed_edited wide wide_sound page i x inside octets holds) even
      (low_bytes_length 2 x ∙ sym (low_bytes_length 2 _)) octets (changed_octets wide wide_sound page i x inside octets) short
      ∙ signed

abbrev signs : Signature → Answer
signs s = Ok s

same_signed : (s t : Signature) → signs s ≡ signs t → s ≡ t
same_signed s t e = cc

-- x is to be symbol i of a page that holds it, and an edit of the page's own signature answered
pub record Edits (s mine : Signature) (page : List ℕ) (i x : ℕ) (old new : List ℕ) (answer : Answer) : Type 0 where
  pub octets : Octets page
  pub tells : Tells wide s page
  pub signed : mine ≡ own wide s.n page
  pub inside : i < symbols 2 page
  pub stays : eqb (symbol 2 (changed wide page i x) i) x ≡ true
  pub old_is : old ≡ low_bytes 2 (symbol 2 page i)
  pub new_is : new ≡ low_bytes 2 x
  pub edited : answer ≡ editing wide mine i old new

module _ {s mine : Signature} {page : List ℕ} {i x : ℕ} {old new : List ℕ} {answer : Answer} (q : Edits s mine page i x old new answer) where
  answered : answer ≡ Ok (own wide s.n (changed wide page i x))
  answered =
      q.edited
      ∙ ap (λ (t : Signature). editing wide t i old new) q.signed
      ∙ ap₂ (editing wide (own wide s.n page) i) q.old_is q.new_is
      ∙ changed_signed s.n page i x (omega (arith, q.tells.some)) q.tells.four q.tells.short q.inside q.octets (eqb-true _ _ q.stays)

  pub checked : (t : Signature) → answer ≡ Ok t → same t s ≡ fits wide s page i x
  checked t e = ap (λ (u : Signature). same u s) (same_signed t _ (sym e ∙ answered)) ∙ sym (held wide s page i x q.stays)

  pub never_refused : (r : Refusal) → answer ≡ Err r → ⊥
  never_refused r e =
      let both : ◌≡◌ {A = Answer} (Err r) (Ok (own wide s.n (changed wide page i x))) = sym e ∙ answered in
      let z : ◌≡◌ {A = ℕ} 0 1 = cc in
      omega arith
