-- In how many symbols two objects of one length differ.
use Rattle.std.specs.Prelude.{ℕ, zero, suc, ◌+◌, Bool, not, cond, List, eqb}
use Rattle.signature.specs.Objects.{symbol, symbols}

-- how many of the numbers 0 to m - 1 pass the test
unfoldable pub count : ℕ → (ℕ → Bool) → ℕ
count zero test = 0
count (suc m) test = count m test + cond (test m) 1 0

unfoldable pub differing : ℕ → List ℕ → List ℕ → ℕ
differing size one other = count (symbols size one) (λ i. not (eqb (symbol size one i) (symbol size other i)))
