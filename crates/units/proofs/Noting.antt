-- How a list comes to hold the numbers that a test names, one after the other, by a loop that counts them.
-- Assumes nothing.
use mathlib.Core.Path.{◌≡◌, sym, ap, ap₂, ◌∙◌, subst}
use mathlib.Core.Bool.{Bool, true, false}
use mathlib.Core.List.{List, [], ◌∷◌, ◌++◌}
use Prim.Native.Nat.{ℕ, suc, ◌+◌, ◌≤◌, ◌<◌}
use native.Mathlib.Nat.{zero-add}
use native.Mathlib.Omega.{arith}
use lib.ListN.{length, set, length-append}
use Rattle.units.specs.Naming.{named}
use Rattle.units.specs.Writing.{written}
use Rattle.units.proofs.Naming.{named_none, named_more, named_no_more, named_length}
use Rattle.units.proofs.Writing.{written_none, written_one, written_length, written_append}

-- of the numbers below k, those that the test names stand at the start of the list
pub record Noted (test : ℕ → Bool) (list₀ : List ℕ) (k : ℕ) (list : List ℕ) (found : ℕ) : Type 0 where
  pub list_is : list ≡ written list₀ 0 (named test k)
  pub found_is : found ≡ length (named test k)

pub none_noted : {test : ℕ → Bool} {list₀ : List ℕ} → Noted test list₀ 0 list₀ 0
none_noted {test} {list₀} =
    record {
      list_is = sym (ap (written list₀ 0) (named_none test) ∙ written_none list₀ 0 (omega arith));
      found_is = sym (ap length (named_none test));
    }

module _ {test : ℕ → Bool} {list₀ : List ℕ} {k : ℕ} {list : List ℕ} {found : ℕ} (n : Noted test list₀ k list found) where
  pub noted_below : found ≤ k
  noted_below = omega (arith, n.found_is, named_length test k)

  pub noted_length : k ≤ length list₀ → length list ≡ length list₀
  noted_length room = ap length n.list_is ∙ written_length list₀ 0 (named test k) (omega (arith, named_length test k))

  -- the next number is not named
  pub noted_passed : {next : ℕ} → next ≡ suc k → test k ≡ false → Noted test list₀ next list found
  noted_passed {next} up e =
      let same : named test (suc k) ≡ named test k = named_no_more test k e in
      subst (λ (i : ℕ). Noted test list₀ i list found) (sym up)
      (record { list_is = n.list_is ∙ ap (written list₀ 0) (sym same); found_is = n.found_is ∙ ap length (sym same) })

  -- or it is, and stands after the others
  pub noted_listed : {next j : ℕ} → next ≡ suc k → j ≡ k → test k ≡ true → k < length list₀ → Noted test list₀ next (set list found j) (found + 1)
  noted_listed {next} {j} up is e room =
      let xs : List ℕ = named test k in
      let more : named test (suc k) ≡ xs ++ (k ∷ []) = named_more test k e in
      let short : length xs ≤ k = named_length test k in
      let long : length (written list₀ 0 xs) ≡ length list₀ = written_length list₀ 0 xs (omega arith) in
      subst (λ (i : ℕ). Noted test list₀ i (set list found j) (found + 1)) (sym up)
      (record {
        list_is =
            ap (set list found) is
            ∙ ap₂ (λ (l : List ℕ) (i : ℕ). set l i k) n.list_is n.found_is
            ∙ sym (written_one (written list₀ 0 xs) (length xs) k (omega arith))
            ∙ ap (λ (i : ℕ). written (written list₀ 0 xs) i (k ∷ [])) (sym (zero-add (length xs)))
            ∙ written_append list₀ 0 xs (k ∷ []) (omega arith)
            ∙ ap (written list₀ 0) (sym more);
        found_is = ap (λ (i : ℕ). i + 1) n.found_is ∙ sym (length-append xs (k ∷ [])) ∙ ap length (sym more);
      })
