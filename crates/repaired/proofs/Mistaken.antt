-- With two components two damaged symbols may be taken for one: over a page of three zeros, 8, 6, 0 is repaired to 8, 6, 1, and the mark says so.
-- Assumes nothing.
use mathlib.Core.Path.{◌≡◌, refl, ap, ◌∙◌}
use mathlib.Core.Bool.{true, false}
use mathlib.Core.List.{List, [], ◌∷◌}
use Prim.Native.Nat.{ℕ, zero, suc, ◌<◌}
use native.Mathlib.Omega.{arith}
use lib.ListN.{get_or}
use Rattle.units.specs.Writing.{written}
use Rattle.field.specs.Field.{◌⊕◌, digit, expanded, reduced, product, power}
use Rattle.signature.specs.Differences.{count, differing}
use Rattle.signature.specs.Kinds.{wide}
use Rattle.signature.specs.Objects.{Octets, low_first, low_bytes, symbol}
use Rattle.signature.specs.Operations.{own}
use Rattle.signature.specs.Signatures.{total, component}
use Rattle.signature.proofs.EveryKind.{wide_sound}
use Rattle.map.specs.declared.Entry.{Entry}
use Rattle.backup.specs.Backups.{same}
use Rattle.repair.specs.Changes.{changed, fits}
use Rattle.repair.specs.Repairs.{mended, page_left}
use Rattle.repair.specs.declared.Repair.{Repair}
use Rattle.repair.specs.declared.Repair.TheVariants.{Repaired}
use Rattle.repair.proofs.Finding.{put_found}
use Rattle.repair.proofs.Mending.{mended_else}
use Rattle.repair.proofs.Naming.{one_change}

abbrev pub zeros : List ℕ
zeros = 0 ∷ 0 ∷ 0 ∷ 0 ∷ 0 ∷ 0 ∷ []

-- two symbols of it damaged
abbrev pub damaged : List ℕ
damaged = 8 ∷ 0 ∷ 6 ∷ 0 ∷ 0 ∷ 0 ∷ []

abbrev pub entry : Entry
entry = record { tag = 4; signature = own wide 2 zeros }

pub two_differ : differing 2 damaged zeros ≡ 2
unfolding differing count symbol low_first
two_differ = refl

octets : Octets damaged
octets zero = omega arith
octets (suc zero) = omega arith
octets (suc (suc zero)) = omega arith
octets (suc (suc (suc i))) = rest i
  where
    rest : (i : ℕ) → get_or (0 ∷ 0 ∷ 0 ∷ []) i 0 < 256
    rest zero = omega arith
    rest (suc zero) = omega arith
    rest (suc (suc zero)) = omega arith
    rest (suc (suc (suc i))) = omega arith

wrong : same (own wide 2 damaged) (own wide 2 zeros) ≡ false
unfolding same component total symbol low_first product power reduced expanded digit ◌⊕◌
wrong = refl

fit : fits wide (own wide 2 zeros) damaged 2 1 ≡ true
unfolding fits changed written low_bytes same component total symbol low_first product power reduced expanded digit ◌⊕◌
fit = refl

pub taken_for_one : mended entry damaged ≡ Repaired (record { position = record { count = 2 }; old = 0; new = 1; marked = true })
unfolding symbol low_first
taken_for_one =
    mended_else entry damaged wrong
    ∙ put_found (own wide 2 zeros) damaged 2 1 (omega arith) (omega arith) fit
    (λ k y inside e. one_change wide wide_sound (own wide 2 zeros) damaged octets (record { some = omega arith; four = omega arith; short = omega arith }) wrong k y 2 1 inside (omega arith) e fit)

-- the page then passes as whole
pub mistaken_page : page_left (mended entry damaged) damaged ≡ 8 ∷ 0 ∷ 6 ∷ 0 ∷ 1 ∷ 0 ∷ []
unfolding page_left changed written low_bytes
mistaken_page = ap (λ (r : Repair). page_left r damaged) taken_for_one
