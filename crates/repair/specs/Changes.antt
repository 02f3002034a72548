-- A page with one symbol changed, and which change gives it the signature that its entry holds.
use Rattle.std.specs.Prelude.{Bool, ◌&&◌, List, ℕ, ◌-◌, ◌*◌, ◌^◌, ◌≤◌, eqb, ltb, length, take}
use Rattle.units.specs.Naming.{first_named}
use Rattle.units.specs.Writing.{written}
use Rattle.signature.specs.Kinds.{Kind}
use Rattle.signature.specs.Objects.{low_bytes, symbol, symbols}
use Rattle.signature.specs.Operations.{own}
use Rattle.signature.specs.declared.Signature.{Signature}
use Rattle.backup.specs.Backups.{same}

module _ (K : Kind) where
  -- enough components to tell a position, and a page in which they do
  pub record Tells (s : Signature) (page : List ℕ) : Type 0 where
    pub some : 2 ≤ s.n
    pub four : s.n ≤ 4
    pub short : symbols K.size page ≤ K.most

  -- x in the place of symbol i; of a last symbol that was completed, the bytes that the page has
  unfoldable pub changed : List ℕ → ℕ → ℕ → List ℕ
  changed page i x = written page (i * K.size) (take (length page - i * K.size) (low_bytes K.size x))

  -- symbol i is then x, so that what completes a page stays zero, and the page has the signature s
  unfoldable pub fits : Signature → List ℕ → ℕ → ℕ → Bool
  fits s page i x = eqb (symbol K.size (changed page i x) i) x && same (own K s.n (changed page i x)) s

  -- how many values a symbol may have
  abbrev pub values : ℕ
  values = 2 ^ K.field.width

  -- the lowest value that fits at position i, and `values` if none does
  unfoldable pub value_at : Signature → List ℕ → ℕ → ℕ
  value_at s page i = first_named (fits s page i) values 0

  -- the lowest position at which a value fits, and the number of the page's symbols if there is none
  unfoldable pub position : Signature → List ℕ → ℕ
  position s page = first_named (λ i. ltb (value_at s page i) values) (symbols K.size page) 0
