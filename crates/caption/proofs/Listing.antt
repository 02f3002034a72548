-- How the list of the hits goes on, from place to place: the next one is passed by, or it is a hit; and how it starts, and what it holds at the end.
-- Assumes nothing.
use mathlib.Core.Path.{◌≡◌, refl, sym, ◌∙◌, subst}
use mathlib.Core.Bool.{Bool, true, false}
use mathlib.Core.List.{List}
use Prim.Native.Nat.{ℕ, zero, suc, ◌+◌, ◌≤◌, ◌<◌}
use native.Mathlib.Nat.{add-zero}
use native.Mathlib.Omega.{arith}
use lib.ListN.{length, set}
use Rattle.units.proofs.Noting.{Noted, none_noted, noted_below, noted_length, noted_passed, noted_listed}
use Rattle.caption.specs.Blocks.{Notes}
use Rattle.caption.specs.declared.Hits.{Hits}

module _ {test : ℕ → Bool} {old : List ℕ} where
  pub none_yet : (h : Hits) → h.list.now ≡ old → h.found ≡ 0 → Notes test old 0 h
  none_yet h list found = let none : Noted test old 0 old 0 = none_noted in record { list_is = list ∙ none.list_is; found_is = found ∙ none.found_is }

  module _ {k : ℕ} {h : Hits} (n : Notes test old k h) where
    as_noted : Noted test old k h.list.now h.found
    as_noted = record { list_is = n.list_is; found_is = n.found_is }

    pub few_found : h.found ≤ k
    few_found = noted_below as_noted

    pub as_long : k ≤ length old → length h.list.now ≡ length old
    as_long = noted_length as_noted

    pub passed : {next : ℕ} → next ≡ suc k → test k ≡ false → Notes test old next h
    passed up e = let m : _ = noted_passed as_noted up e in record { list_is = m.list_is; found_is = m.found_is }

    pub listed : {next : ℕ} (new : Hits) → next ≡ suc k → test k ≡ true → k < length old
        → (new.list.now ≡ set h.list.now h.found k) × (new.found ≡ h.found + 1) → Notes test old next new
    listed new up e room is =
        let m : _ = noted_listed as_noted up refl e room in
        record { list_is = is.0 ∙ m.list_is; found_is = is.1 ∙ m.found_is }

  -- n places passed by
  pub all_passed : {i : ℕ} {h : Hits} (n : ℕ) → Notes test old i h → ((k : ℕ) → k < n → test (i + k) ≡ false) → Notes test old (i + n) h
  all_passed {i} {h} zero s none = subst (λ (k : ℕ). Notes test old k h) (sym (add-zero i)) s
  all_passed {i} (suc n) s none =
      let up : i + suc n ≡ suc (i + n) = omega arith in
      passed (all_passed n s (λ k b. none k (omega (arith, b)))) up (none n (omega arith))
