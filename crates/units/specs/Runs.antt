-- Lists end to end.
use Rattle.std.specs.Prelude.{List, [], ◌++◌, ℕ, zero, suc}

-- m lists: f k, f (k + 1), ..
unfoldable pub end_to_end : (ℕ → List ℕ) → ℕ → ℕ → List ℕ
end_to_end f k zero = []
end_to_end f k (suc m) = f k ++ end_to_end f (suc k) m
