-- `words::words_of` meets its contract: the words of an object have its components.
-- Assumes nothing.
use mathlib.Core.Path.{◌≡◌, ap, subst, ◌∙◌}
use mathlib.Core.List.{List}
use Prim.Native.Nat.{ℕ, zero, suc, ◌+◌, ◌*◌, ◌<◌}
use native.Mathlib.Omega.{arith}
use lib.ListN.{get_or}
use denote.Param.Members.{Mut, Called}
use Rattle.std.proofs.Common.{rules}
use Rattle.std.specs.Array.{IsFromFnResultFrom}
use Rattle.components.specs.Objects.{low_first}
use Rattle.words.proofs.Dividing.{words_stand}
use Rattle.words.proofs.words_of.Goals as goal

-- calls that leave a closure as it is give its values, index by index
each_value : {F : Type 0} (g : Mut F (ℕ × Unit {0}) ℕ) (value : F → ℕ → ℕ) (ys : List ℕ) → ((p q : F) (i y : ℕ) → Called g p (i, tt) y q → (y ≡ value p i) × (q ≡ p))
    → (n i : ℕ) (f : F) → IsFromFnResultFrom g f ys i n → (k l : ℕ) → k < n → i + k ≡ l → get_or ys l 0 ≡ value f l
each_value g value ys calls zero i f each k l h at = absurd (omega (arith, h))
each_value g value ys calls (suc n) i f each zero l h at =
    subst (λ (m : ℕ). get_or ys m 0 ≡ value f m) (omega (arith, at)) (each.2.1 0 ∙ (calls f each.0 i each.1 each.3).0)
each_value g value ys calls (suc n) i f each (suc k) l h at =
    each_value g value ys calls n (i + 1) each.0 each.4 k l (omega (arith, h)) (omega (arith, at)) ∙ ap (λ (p : _). value p l) (calls f each.0 i each.1 each.3).1

pub returns : goal.returns
returns g c = λ j.
    words_stand c.args.object.now (λ i. (c.type_inv.object i).fits) c.from_fn.result 0 j (omega (arith, c.requires, c.from_fn.ensures.items.long))
    (λ k h.
    each_value _ (λ p i. low_first 8 p.0.now (i * 8)) c.from_fn.result (λ p q i y called. (search (rules, called.met.0), search (rules, called.met.1)))
    g.row.W 0 _ c.from_fn.ensures.items.each k k (omega (arith, c.from_fn.ensures.items.long)) (omega arith)
    ∙ ap (low_first 8 c.args.object.now) (omega arith))
