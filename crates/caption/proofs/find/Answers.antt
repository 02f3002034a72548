-- `caption::find` meets its contract. The invariant: the weighted signatures are those of the places from i on, and the hits before place i are noted.
-- Assumes nothing.
use mathlib.Core.Path.{◌≡◌, refl, sym, ap, ap₂, ◌∙◌, subst}
use mathlib.Core.List.{List, []}
use Prim.Native.Nat.{ℕ, ◌+◌, ◌-◌, ◌<◌, min}
use native.Mathlib.Omega.{arith}
use native.Mathlib.Nat.{zero-add}
use lib.ListN.{length, get_or, take}
use Rattle.std.proofs.lemmas.List.{length-take-le, get_or-take}
use lib.Dec.{eqb}
use Rattle.units.specs.Naming.{named}
use Rattle.units.proofs.Naming.{named_none}
use Rattle.units.proofs.Writing.{written_none}
use Rattle.std.proofs.Common.{rules}
use Rattle.units.specs.Writing.{written}
use Rattle.field.proofs.Instances.{GF16_passes, GF16_formed}
use Rattle.field.proofs.Products.{product_assoc}
use Rattle.field.specs.Field.{GF16, Element, ◌⊕◌, product}
use Rattle.signature.proofs.Octets.{GF16_symbol}
use Rattle.signature.proofs.Components.{component_element}
use Rattle.signature.specs.Signatures.{signature}
use Rattle.signature.specs.declared.Signature.{Signature}
use Rattle.signature.specs.Objects.{Octets, symbol, symbols}
use Rattle.caption.specs.Searches.{searched_of, search_unless}
use Rattle.caption.specs.Codes.{previous, weight, hit, places}
use Rattle.caption.specs.Pairs.{symbol_in, found_in}
use Rattle.caption.proofs.Listing.{none_yet, few_found, as_long, all_passed}
use Rattle.caption.specs.Blocks.{Notes}
use Rattle.caption.specs.declared.Hits.{Hits}
use Rattle.caption.proofs.Codes.{as_weight, weight_element, weight_on}
use Rattle.caption.proofs.find.Invariants.{hitting}
use Rattle.caption.proofs.find.Goals as goal
use Rattle.caption.proofs.find.Goals.{then-may_hit, else-may_hit}
use Rattle.std.specs.Prelude.{Ok}
use Rattle.units.specs.Refusals.{allowed}

signed : (pattern : List ℕ) → Octets pattern → Element GF16 (signature GF16 2 pattern 1)
signed pattern octets = component_element GF16 GF16_formed (symbols 2 pattern) (symbol 2 pattern) 1 (GF16_symbol pattern octets)

-- when every place is through, the list and the count are those of the definition
all_noted : (pairs : List (List ℕ)) (pattern list₀ : List ℕ) (k : ℕ) (h : Hits) → k ≡ places (length pairs) (symbols 2 pattern)
    → Notes (hitting pairs pattern) list₀ k h → searched_of (Ok h.found) h.list.now ≡ search_unless allowed (found_in pairs pattern) list₀
unfolding hitting found_in
all_noted pairs pattern list₀ k h all n =
    let same : named (hitting pairs pattern) k ≡ found_in pairs pattern = ap (named (hitting pairs pattern)) all in
    ap₂ (λ (c : ℕ) (l : List ℕ). searched_of (Ok c) l) (n.found_is ∙ ap length same) (n.list_is ∙ ap (written list₀ 0) same)

-- how many places there are
count_is : (m : ℕ) {l n count : ℕ} → l ≡ n → count ≡ places m l → count ≡ places m n
count_is m same e = e ∙ ap (places m) same

pub returns-then-count-eq0 : goal.returns-then-count-eq0
unfolding found_in
returns-then-count-eq0 c =
    let args : _ = c.args in
    let all : c.places-count.result ≡ places (length args.symbols.now) (symbols 2 args.pattern.now) = count_is _ c.symbols_in-l.ensures c.places-count.ensures in
    let none : found_in args.symbols.now args.pattern.now ≡ [] =
    ap (named _) (omega (arith, all, c.if-count-eq0.true)) ∙ named_none _ in
    sym (ap (λ (l : List ℕ). searched_of (Ok (length l)) (written args.list.now 0 l)) none ∙ ap (searched_of (Ok 0)) (written_none args.list.now 0 (omega arith)))

pub loop-i-init : goal.loop-i-init
loop-i-init c = record {
  inside = omega arith;
  weighed_is = λ some k h.
      c.put_weights.ensures.done k h
      ∙ as_weight GF16 _ k
      ∙ ap₂ (λ (x j : ℕ). product GF16 x (weight GF16 0 j)) (ap (λ (s : Signature). s.s1) c.own.ensures) (sym (zero-add k));
  same_list = refl;
  noted = none_yet _ refl refl;
}

pub note-requires : goal.note-requires
note-requires c =
    let at : _ = c.loop-i in
    let n : ℕ = c.least-n.result in
    let few : n ≡ min 16 (c.places-count.result - at.i) = c.least-n.ensures in
    (omega (arith, (count_is _ c.symbols_in-l.ensures c.places-count.ensures), length-take-le n at.weighed (omega (arith, c.least-n.array_long)), as_long at.invariant.noted (omega (arith, (count_is _ c.symbols_in-l.ensures c.places-count.ensures)))), few_found at.invariant.noted)

pub loop-i-preserved : goal.loop-i-preserved
unfolding hitting hit
loop-i-preserved c =
    let at : _ = c.loop-i in
    let pairs : List (List ℕ) = c.args.symbols.now in
    let pattern : List ℕ = c.args.pattern.now in
    let code : ℕ → ℕ = symbol_in pairs in
    let l : ℕ = c.symbols_in-l.result.count in
    let n : ℕ = c.least-n.result in
    let few : n ≡ min 16 (c.places-count.result - at.i) = c.least-n.ensures in
    let sized : length (take n at.weighed) ≡ n = length-take-le n at.weighed (omega (arith, c.least-n.array_long)) in
    let inside : at.i < places (length pairs) (symbols 2 pattern) = omega (arith, (count_is _ c.symbols_in-l.ensures c.places-count.ensures)) in
    let each : (k : ℕ) → k < length (take n at.weighed) → hitting pairs pattern (at.i + k) ≡ eqb (previous code (at.i + k + l) ⊕ previous code (at.i + k)) (get_or (take n at.weighed) k 0) =
    λ k h.
    sym (ap₂ (λ (m x : ℕ). eqb (previous code (at.i + k + m) ⊕ previous code (at.i + k)) x) c.symbols_in-l.ensures
    (get_or-take n at.weighed k 0 (omega (arith, sized)) ∙ at.invariant.weighed_is inside k (omega arith))) in
    record {
      inside = omega (arith, (count_is _ c.symbols_in-l.ensures c.places-count.ensures));
      weighed_is = λ more k h.
          let on : at.i + k + 16 ≡ at.i + n + k = omega (arith, (count_is _ c.symbols_in-l.ensures c.places-count.ensures)) in
          c.move_on.ensures.done k (omega (arith, h, c.least-n.array_long))
          ∙ ap (λ (x : ℕ). product GF16 x (weight GF16 0 16)) (at.invariant.weighed_is inside k h)
          ∙ product_assoc GF16 GF16_formed (signed pattern (λ j. (c.type_inv.pattern j).fits)) (weight_element GF16 0 GF16_passes (at.i + k)) (weight_element GF16 0 GF16_passes 16)
          ∙ ap (product GF16 (signature GF16 2 pattern 1)) (weight_on GF16 0 GF16_passes (at.i + k) 16 ∙ ap (weight GF16 0) on);
      same_list = elim c.if-may_hit.branch [
        | then-may_hit w ↦ ap (λ h. h.list.ghost_name) w.hits-is ∙ w.note.ensures.same_list ∙ at.invariant.same_list
        | else-may_hit w ↦ ap (λ h. h.list.ghost_name) w.hits-is ∙ at.invariant.same_list
      ];
      noted = subst (λ (k : ℕ). Notes (hitting pairs pattern) c.args.list.now (at.i + k) c.if-may_hit.hits) sized
          (elim c.if-may_hit.branch [
            | then-may_hit w ↦ subst (Notes _ _ _) (sym w.hits-is) (w.note.ensures.noted (hitting pairs pattern) c.args.list.now (sym (as_long at.invariant.noted (omega (arith, (count_is _ c.symbols_in-l.ensures c.places-count.ensures))))) each at.invariant.noted)
            | else-may_hit w ↦ subst (Notes _ _ _) (sym w.hits-is) (all_passed _ at.invariant.noted (λ k h. each k h ∙ c.may_hit.ensures w.if-may_hit.false k h))
          ]);
    }

pub returns : goal.returns
returns c =
    let args : _ = c.args in
    let at : _ = c.loop-i in
    let all : at.i ≡ places (length args.symbols.now) (symbols 2 args.pattern.now) = omega (arith, (count_is _ c.symbols_in-l.ensures c.places-count.ensures), at.invariant.inside) in
    ap (searched_of (Ok at.hits.found)) (search rules) ∙ all_noted args.symbols.now args.pattern.now args.list.now at.i at.hits all at.invariant.noted
