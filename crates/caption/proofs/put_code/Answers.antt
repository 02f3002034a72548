-- `caption::put_code` meets its contract. The invariant: weights and sum are those of place i, where what is left begins, and the code of the symbols before it is written.
-- Assumes nothing.
use mathlib.Core.Path.{◌≡◌, sym, ap, ◌∙◌, subst}
use mathlib.Core.List.{List}
use Prim.Native.Nat.{ℕ, ◌+◌, ◌-◌, ◌*◌, ◌<◌, min}
use native.Mathlib.Omega.{arith}
use lib.ListN.{length, get_or, take, drop}
use Rattle.units.specs.Writing.{written}
use Rattle.field.proofs.Instances.{GF16_passes, GF16_formed}
use Rattle.field.proofs.Products.{one_product}
use Rattle.field.specs.Field.{GF16, ◌⊕◌, product}
use Rattle.caption.specs.Pairs.{symbol_in}
use Rattle.caption.proofs.Pairs.{Cut, cut_gone, cut_behind, cut_symbol}
use Rattle.caption.specs.Codes as Codes
use Rattle.caption.specs.Codes.{previous, coded}
use Rattle.caption.specs.Recoding.{bytes}
use Rattle.caption.proofs.Codes.{as_weight, weight_element, weight_on, code_turn}
use Rattle.caption.proofs.Rows.{row_none}
use Rattle.weights.proofs.Turns.{in_both}
use Rattle.caption.proofs.Turns.{Refilled, first_long, still_long, weighed_long, weighed_at}
use Rattle.caption.proofs.put_code.Invariants.{code}
use Rattle.caption.proofs.put_code.Goals as goal

pub loop-k-init : goal.loop-k-init
loop-k-init c =
    let args : _ = c.args in
    let source : _ = c.into_iter-k-iterator.ensures.into_iter_gives in
    let all : c.into_iter-k-iterator.result.iter.rest.now ≡ args.symbols.now =
    ap (λ r. r.iter.rest.now) source ∙ ap (λ r. r.rest.now) c.enumerate-k-items.ensures.source ∙ c.chunks.ensures.rest in
    let none : length args.symbols.now - length c.into_iter-k-iterator.result.iter.rest.now ≡ 0 = omega (arith, ap length all) in
    record {
      size = ap (λ r. r.iter.size) source ∙ ap (λ r. r.size) c.enumerate-k-items.ensures.source ∙ c.chunks.ensures.size;
      rest = all ∙ ap (λ (k : ℕ). drop k args.symbols.now) (sym none);
      place = λ some. omega (arith, none, ap (λ r. r.count) source, c.enumerate-k-items.ensures.count);
      weights_are = λ some l h. c.put_weights.ensures.done l h ∙ as_weight GF16 _ l ∙ one_product GF16 GF16_formed (weight_element GF16 0 GF16_passes l) ∙ ap (Codes.weight GF16 0) (omega (arith, none));
      sum_is = ap (previous (code args.symbols.now)) (sym none);
      put = sym (row_none (code args.symbols.now) args.output.now) ∙ ap (λ (k : ℕ). written args.output.now 0 (bytes k (code args.symbols.now))) (sym none);
    }

pub loop-k-preserved : goal.loop-k-preserved
unfolding code
loop-k-preserved c =
    let at : _ = c.loop-k in
    let read : _ = c.read_symbols in
    let steps : _ = c.in-Some.ensures.steps in
    let symbols : List (List ℕ) = c.args.symbols.now in
    let i : ℕ = length symbols - length at.k-iterator.iter.rest.now in
    let n : ℕ = length c.in-Some.part.now in
    let cut : Cut symbols at.k-iterator.iter.rest.now c.in-Some.part.now c.next.new.self.iter.rest.now =
    record { behind = at.invariant.rest; parts = steps.0.1.0; size = steps.0.1.1 ∙ ap (λ (m : ℕ). min m (length at.k-iterator.iter.rest.now)) at.invariant.size } in
    let some : 0 < length at.k-iterator.iter.rest.now = steps.0.1.2 in
    let here : c.in-Some.k * 16 ≡ i = ap (λ (k : ℕ). k * 16) steps.1 ∙ at.invariant.place some in
    let refilled : Refilled n at.block read.new.block = record { few = omega (arith, cut.size); long = omega arith; as_read = read.auto.block } in
    let wide : length at.weights ≡ 16 = omega arith in
    let sized : length (take n c.weigh.new.block) ≡ n = weighed_long refilled at.weights wide c.weigh.ensures.product in
    let each : (l : ℕ) → l < length (take n c.weigh.new.block) → previous (code symbols) (i + l) ⊕ get_or (take n c.weigh.new.block) l 0 ≡ code symbols (i + l) =
    λ l h.
    let below : l < n = omega (arith, sized) in
    ap (λ (x : ℕ). previous (code symbols) (i + l) ⊕ x)
    (weighed_at refilled at.weights wide c.weigh.ensures.product below (read.ensures l (omega (arith, first_long refilled)) ∙ cut_symbol cut l below) (at.invariant.weights_are some l (omega (arith, below, cut.size))))
    ∙ code_turn GF16 0 (symbol_in symbols) (i + l) in
    let next : _ = c.put_sums-sum.ensures (code symbols) c.args.output.now (sym at.auto.output)
    (subst (λ (j : ℕ). at.sum ≡ previous (code symbols) j) (sym here) at.invariant.sum_is)
    (λ l h. subst (λ (j : ℕ). previous (code symbols) (j + l) ⊕ get_or (take n c.weigh.new.block) l 0 ≡ code symbols (j + l)) (sym here) (each l h))
    (subst (λ (j : ℕ). at.output ≡ written c.args.output.now 0 (bytes j (code symbols))) (sym here) at.invariant.put) in
    let on : i + n ≡ length symbols - length c.next.new.self.iter.rest.now = sym (cut_gone cut) in
    record {
      size = steps.0.0 ∙ at.invariant.size;
      rest = cut_behind cut;
      place = λ more. omega (arith, steps.2, here, steps.1, on, cut.size, more);
      weights_are = λ more l h.
          let up : i + l + 16 ≡ length symbols - length c.next.new.self.iter.rest.now + l = omega (arith, on, cut.size, more) in
          c.weigh.ensures.weight.done l (in_both (still_long refilled) wide h)
          ∙ ap (λ (x : ℕ). product GF16 x (Codes.weight GF16 0 16)) (at.invariant.weights_are some l h)
          ∙ weight_on GF16 0 GF16_passes (i + l) 16
          ∙ ap (Codes.weight GF16 0) up;
      sum_is = next.0 ∙ ap (λ (k : ℕ). previous (code symbols) (k + length (take n c.weigh.new.block))) here ∙ ap (previous (code symbols)) (ap (λ (k : ℕ). i + k) sized ∙ on);
      put = next.1 ∙ ap (λ (k : ℕ). written c.args.output.now 0 (bytes k (code symbols))) (omega (arith, here, sized, on));
    }

pub returns : goal.returns
unfolding code
returns c =
    let args : _ = c.args in
    let all : length args.symbols.now - length c.loop-k.k-iterator.iter.rest.now ≡ length args.symbols.now = omega (arith, c.in-None.ensures.steps.0.1.0) in
    c.loop-k.invariant.put ∙ ap (λ (k : ℕ). written args.output.now 0 (bytes k (code args.symbols.now))) all
