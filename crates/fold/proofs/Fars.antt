-- What it says of each offset of a list that the relation is far.
-- Assumes nothing.
use mathlib.Core.Path.{◌≡◌, sym, subst}
use mathlib.Core.List.{List, [], ◌∷◌}
use Prim.Native.Nat.{ℕ, zero, suc, ◌+◌, ◌*◌, ◌≤◌, ◌<◌}
use native.Mathlib.Omega.{arith}
use lib.ListN.{length, get_or}
use Rattle.components.specs.Relations.{Relation, in_bytes}
use Rattle.fold.specs.Folding.{reach, Between, Far}

-- an offset o, where so many bytes are left
pub record Far_up (half bytes o : ℕ) : Type 0 where
  pub low : half ≤ o
  pub high : o ≤ bytes
  pub past : bytes ≤ half + o

between_at : (half : ℕ) (os : List ℕ) → Between half os → (k : ℕ) → k < length os → Far_up half (half * 2) (get_or os k 0)
between_at half [] b k h = absurd (omega (arith, h))
between_at half (o ∷ os) b zero h = record { low = b.0; high = b.1; past = omega (arith, b.0) }
between_at half (o ∷ os) b (suc k) h = between_at half os b.2 k (omega (arith, h))

pub far_up : (R : Relation) (os : List ℕ) {bytes : ℕ} → Far R → os ≡ in_bytes R.offsets → bytes ≡ reach R → (k : ℕ) → k < length os → Far_up R.distance bytes (get_or os k 0)
far_up R os far same reached k h =
    subst (λ (n : ℕ). Far_up R.distance n (get_or os k 0)) (sym reached) (between_at R.distance os (subst (Between R.distance) (sym same) far.offsets) k h)
