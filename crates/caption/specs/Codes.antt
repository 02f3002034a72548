-- The cumulative code of a caption field, its inverse, and the rule by which a pattern is searched for in it, over any field F. The symbol at
-- position k is weighted by α^(k + e), where e is the start exponent; with e = 0 the first symbol of a code is the plain one.
use Rattle.std.specs.Prelude.{Bool, cond, ◌&&◌, ℕ, zero, suc, ◌+◌, ◌-◌, ◌%◌, leb, eqb}
use Rattle.field.specs.Field.{Field, ◌⊕◌, product, power, α, order}
use Rattle.signature.specs.Signatures.{total, component}

-- symbol i - 1 of a code, where symbol -1 is 0
abbrev pub previous : (ℕ → ℕ) → ℕ → ℕ
previous c zero = 0
previous c (suc i) = c i

module _ (F : Field) (e : ℕ) where
  -- α^(k + e)
  abbrev pub weight : ℕ → ℕ
  weight k = power F α (k + e)

  -- α^-(k + e): what is missing to a whole round of α
  abbrev pub unweight : ℕ → ℕ
  unweight k = power F α (order F - (k + e) % order F)

  -- symbol i of the code of p: the sum of pk · α^(k + e) for k from 0 to i
  unfoldable pub coded : (ℕ → ℕ) → ℕ → ℕ
  coded p i = total (suc i) (λ k. product F (p k) (weight k))

  -- symbol i of what c is the code of
  unfoldable pub plain : (ℕ → ℕ) → ℕ → ℕ
  plain c i = product F (c i ⊕ previous c i) (unweight i)

  -- in the code c, a pattern q of l symbols hits at place i: c(i + l - 1) + c(i - 1) = α^(i + e) · s1(q)
  unfoldable pub hit : (ℕ → ℕ) → ℕ → (ℕ → ℕ) → ℕ → Bool
  hit c l q i = eqb (previous c (i + l) ⊕ previous c i) (product F (component F l q 1) (weight i))

-- how many places there are for a pattern of l symbols in a field of m: one that is longer, or has no symbol, has none
abbrev pub places : ℕ → ℕ → ℕ
places m l = cond (leb 1 l && leb l m) (m - l + 1) 0
