-- `map::making::put_entry` meets its contract: tag with length, and the components after it, are the entry.
-- Assumes nothing.
use mathlib.Core.Path.{◌≡◌, sym, ap, ◌∙◌}
use mathlib.Core.List.{List, [], ◌∷◌}
use Prim.Native.Nat.{ℕ, ◌+◌, ◌-◌, ◌*◌}
use native.Mathlib.Omega.{arith}
use lib.ListN.{length, get_or}
use borrow.Rule.Slice.PartMut.{put_mid}
use Rattle.units.specs.Writing.{written}
use Rattle.signature.specs.Signatures.{handed}
use Rattle.signature.specs.Objects.{low_bytes}
use Rattle.map.specs.Files.{components, entry, place}
use Rattle.map.proofs.Tagging.{part_written, tagged_written, components_length, entry_put_lem, entry_not_put}
use Rattle.map.proofs.making.put_entry.Goals as goal

pub returns-then-room-lt3 : goal.returns-then-room-lt3
returns-then-room-lt3 c =
    sym (entry_not_put c.args.e c.args.map.now c.args.k (grind (arith, c.place_within-at.ensures, c.then-room-lt3.branch)))

pub returns : goal.returns
unfolding entry low_bytes
returns c =
    let args : _ = c.args in
    let n : ℕ = args.e.signature.n in
    let map : List ℕ = args.map.now in
    let at : ℕ = c.place_within-at.result in
    let tag : List ℕ = args.e.tag ∷ low_bytes 2 (2 * n) in
    let value : List ℕ = components n (handed args.e.signature) in
    let here : at ≡ place n args.k = omega (arith, c.place_within-at.ensures) in
    let rest : at + 3 + 2 * n - (at + 3) ≡ length value = omega (arith, components_length n (handed args.e.signature)) in
    let one : put_mid at (at + 3 - at) map c.copy_from_slice.new.self ≡ written map at tag =
    part_written map _ tag at _
    (c.copy_from_slice.ensures.after ∙ ap (λ (l : List ℕ). args.e.tag ∷ (get_or l 0 0 ∷ (get_or l 1 0 ∷ []))) c.to_le_bytes.ensures) (omega arith) in
    part_written _ _ value (at + 3) _ c.put_components.ensures rest
    ∙ ap (λ (l : List ℕ). written l (at + 3) value) one
    ∙ tagged_written map at args.e.tag (2 * n) value (components_length n _) (omega arith)
    ∙ ap (λ (i : ℕ). written map i (entry args.e)) here
    ∙ sym (entry_put_lem args.e map args.k (omega arith))
