-- The header's fields, as they stand where their rules are kept.
-- Assumes nothing.
use mathlib.Core.Path.{◌≡◌, refl}
use mathlib.Core.Bool.{Bool, true, ◌&&◌, and-eq-true_iff}
use mathlib.Core.List.{List}
use Prim.Native.Nat.{ℕ}
use Rattle.reader.proofs.Due.{Due, is_due_lem}
use Rattle.map.specs.Reading.{n_keeps_rule, page_keeps_rule, bucket_keeps_rule}

pub halves : (a b : Bool) → a && b ≡ true → (a ≡ true) × (b ≡ true)
halves a b e = (and-eq-true_iff a b).0 e

module _ (bytes : List ℕ) where
  pub n_due : n_keeps_rule bytes ≡ true → Due 1 1 bytes 0
  n_due e = is_due_lem 0 1 1 bytes 0 refl (halves _ _ e).0

  pub page_due : page_keeps_rule bytes ≡ true → Due 2 4 bytes 4
  page_due e = is_due_lem 0 2 4 bytes 4 refl (halves _ _ e).0

  pub bucket_due : bucket_keeps_rule bytes ≡ true → Due 3 4 bytes 11
  bucket_due e = is_due_lem 0 3 4 bytes 11 refl (halves _ _ e).0
