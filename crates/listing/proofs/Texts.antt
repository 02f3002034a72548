-- A text put at the start of an output: where there is no room for it, and where there is.
-- Assumes nothing.
use Rattle.std.specs.Prelude.{Ok}
use mathlib.Core.Path.{◌≡◌, sym, ap, ap₂, ◌∙◌}
use mathlib.Core.Logic.{dite}
use mathlib.Core.List.{List}
use Prim.Native.Nat.{ℕ, ◌≤◌, ◌<◌}
use native.Mathlib.Decide.{dec_lt}
use native.Mathlib.Omega.{arith}
use lib.ListN.{length}
use borrow.Author.Tests.{lt-ltb, le-ltb}
use Rattle.units.specs.Writing.{written, Put}
use Rattle.units.specs.Filling.{Filled, Outcome, outcome_of}
use Rattle.units.specs.declared.Bytes.{Bytes}
use Rattle.units.specs.declared.Refusal.{Refusal}
use Rattle.units.specs.Filling.{Filled}
use Rattle.listing.specs.Lines.{text_out}
use Rattle.listing.specs.declared.Writer.{Writer}
use Rattle.listing.specs.Writers.{HasRoom, Puts}
use Rattle.std.specs.Prelude.{Err}

abbrev written_of : Bytes → Filled
written_of b = Ok b

written_not_refused : (b : Bytes) (r : Refusal) → written_of b ≡ Err r → ⊥
written_not_refused b r p = let z : ◌≡◌ {A = ℕ} 0 1 = cc in omega arith

written_count : (b c : Bytes) → written_of b ≡ written_of c → b.count ≡ c.count
written_count b c p = cc

module _ (text output : List ℕ) where
  pub text_refused : length output < length text → text_out text output ≡ outcome_of (Err (Refusal.Room (length text))) output
  unfolding text_out
  text_refused short = simp (lt-ltb (length output) (length text) short)

  pub text_written : length text ≤ length output → text_out text output ≡ outcome_of (Ok (record { count = length text })) (written output 0 text)
  unfolding text_out
  text_written enough = simp (le-ltb (length output) (length text) enough)

  module _ (count : ℕ) (size : count ≡ length text) where
    -- an answer that names that length, where there is no room for it
    pub text_short : length output < count → outcome_of (Err (Refusal.Room count)) output ≡ text_out text output
    text_short short =
        ap (λ (k : ℕ). outcome_of (Err (Refusal.Room k)) output) size
        ∙ sym (text_refused (omega arith))

    module _ (enough : count ≤ length output) (start : Writer) (empty : (start.output.now ≡ output) × (start.at ≡ 0)) where
      pub text_room : HasRoom text start
      text_room = omega (arith, empty.1, ap length empty.0)

      -- what a writer put from the start
      pub text_put : (end : Writer) → Puts text start end → (last : List ℕ) → end.output.now ≡ last → outcome_of (Ok (record { count = count })) last ≡ text_out text output
      text_put end puts last is =
          let all : last ≡ written output 0 text =
          sym is ∙ ap (λ (p : Put). p.buffer) puts.0 ∙ ap₂ (λ (l : List ℕ) (k : ℕ). written l k text) empty.0 empty.1 in
          ap₂ (λ (k : ℕ) (l : List ℕ). outcome_of (Ok (record { count = k })) l) size all ∙ sym (text_written (omega arith))

  -- what was answered as written is inside the output
  pub text_fits : (b : Bytes) (after : List ℕ) → outcome_of (Ok b) after ≡ text_out text output → b.count ≤ length output
  text_fits b after e =
      dite (dec_lt (length output) (length text))
      (λ (short : length output < length text). absurd (written_not_refused b _ (ap (λ (o : Outcome). o.answer) (e ∙ text_refused short))))
      (λ enough.
      let room : length text ≤ length output = omega arith in
      let size : b.count ≡ length text = written_count b _ (ap (λ (o : Outcome). o.answer) (e ∙ text_written room)) in
      omega arith)
