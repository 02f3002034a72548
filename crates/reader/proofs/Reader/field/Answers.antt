-- `reader::Reader::field` meets its contract: by its tag, the field is what its rule says, or is refused.
-- Assumes nothing.
use Rattle.std.proofs.Common.{◌≡◌, ◌∙◌, ◌+◌, ◌≤◌, ◌<◌, ℕ, List, length, get_or, sym, ap, refl, arith}
use Prim.Native.Nat.{zero, suc}
use borrow.Author.Tests.{le-leb, lt-leb}
use Rattle.units.specs.Counts.{bytes_in}
use Rattle.reader.specs.Fields.{Rule, rule, long, none, under_rule, field_at}
use Rattle.reader.proofs.Reader.field.Goals as goal
use Rattle.reader.proofs.Reader.field.Goals.{then-self-lt3-via-then-self-lt3, then-self-lt3-via-else-self-lt3+then-self}
use Rattle.std.specs.Prelude.{None}

-- where tag and length are there, the field is what its tag's rule says
ruled : (n : ℕ) (bytes : List ℕ) (at : ℕ) → at + 3 ≤ length bytes → (r : Rule) → rule n (get_or bytes at 0) ≡ r → field_at n bytes at ≡ under_rule r bytes at
unfolding field_at
ruled n bytes at inside r e = simp (le-leb (at + 3) (length bytes) inside) (ap (λ (x : Rule). under_rule x bytes at) e)

sizes : (n tag : ℕ) → 2 ≤ tag → tag < 4 → rule n tag ≡ long 4
sizes n zero above below = absurd (omega arith)
sizes n (suc zero) above below = absurd (omega arith)
sizes n (suc (suc zero)) above below = refl
sizes n (suc (suc (suc zero))) above below = refl
sizes n (suc (suc (suc (suc tag)))) above below = absurd (omega arith)

beyond : (n tag : ℕ) → 5 ≤ tag → rule n tag ≡ none
beyond n zero above = refl
beyond n (suc zero) above = absurd (omega arith)
beyond n (suc (suc zero)) above = absurd (omega arith)
beyond n (suc (suc (suc zero))) above = absurd (omega arith)
beyond n (suc (suc (suc (suc zero)))) above = absurd (omega arith)
beyond n (suc (suc (suc (suc (suc tag))))) above = refl

cut_off : (n : ℕ) (bytes : List ℕ) (at : ℕ) → length bytes < at + 3 → None ≡ field_at n bytes at
unfolding field_at
cut_off n bytes at short = simp (lt-leb (at + 3) (length bytes) short)

pub returns-then-self-lt3 : goal.returns-then-self-lt3
returns-then-self-lt3 c =
    cut_off _ c.args.self.now.bytes.now _ (elim c.then-self-lt3.branch [
      | then-self-lt3-via-then-self-lt3 w ↦ omega (arith, w.if-self-lt3.true)
      | then-self-lt3-via-else-self-lt3+then-self w ↦ omega (arith, w.if-self-lt3.false, w.if-self.true)
    ])

pub returns-in-0 : goal.returns-in-0
returns-in-0 c = sym (ruled _ c.args.self.now.bytes.now _ (omega arith) none (ap (rule c.args.n) c.in-0.is))

pub returns-in-1 : goal.returns-in-1
returns-in-1 c = c.under_rule.ensures ∙ sym (ruled _ c.args.self.now.bytes.now _ (omega arith) (long 1) (ap (rule c.args.n) c.in-1.is))

pub returns-in-4 : goal.returns-in-4
returns-in-4 c =
    c.under_rule-in-4.ensures ∙ ap (λ (k : ℕ). under_rule (long k) c.args.self.now.bytes.now c.args.self.now.place) c.bytes_of.ensures
    ∙ sym (ruled _ c.args.self.now.bytes.now _ (omega arith) (long (bytes_in 2 c.args.n)) (ap (rule c.args.n) c.in-4.is))

pub returns-in-2 : goal.returns-in-2
returns-in-2 c =
    c.under_rule-in-2.ensures
    ∙ sym (ruled _ c.args.self.now.bytes.now _ (omega arith) (long 4) (sizes c.args.n (get_or c.args.self.now.bytes.now c.args.self.now.place 0) (omega arith) (omega arith)))

pub returns-in-5-to-255 : goal.returns-in-5-to-255
returns-in-5-to-255 c = sym (ruled _ c.args.self.now.bytes.now _ (omega arith) none (beyond c.args.n (get_or c.args.self.now.bytes.now c.args.self.now.place 0) (omega arith)))
