-- `map::entry_at` meets its contract: tag and components, each at its place; past the end there are zeros wherever one looks.
-- Assumes nothing.
use mathlib.Core.Path.{◌≡◌, ap, ◌∙◌}
use mathlib.Core.List.{List}
use Prim.Native.Nat.{ℕ, ◌+◌, ◌*◌, min}
use lib.ListN.{length, get_or}
use Rattle.signature.specs.Signatures.{up_to}
use Rattle.signature.specs.Objects.{low_first}
use Rattle.signature.proofs.Numbers.{byte_within, two_bytes_within}
use Rattle.map.specs.Reading.{entry_at}
use Rattle.map.specs.Files.{place}
use Rattle.map.proofs.entry_at.Goals as goal

pub returns : goal.returns
unfolding entry_at
returns c =
    let args : _ = c.args in
    let place-within : _ = c.place_within-at in
    let byte : _ = c.byte in
    let component-at : _ = c.component_at in
    let component-at2 : _ = c.component_at-2 in
    let bytes : List ℕ = args.map.now in
    let n : ℕ = args.n in
    let at : ℕ = place n args.k in
    let is : place-within.result ≡ min at (length bytes) = place-within.ensures in
    let tag : byte.result ≡ get_or bytes at 0 = byte.ensures ∙ ap (λ (i : ℕ). get_or bytes i 0) is ∙ byte_within bytes at in
    let part : (j : ℕ) → up_to n j (low_first 2 bytes (place-within.result + 1 + 2 * j)) ≡ up_to n j (low_first 2 bytes (at + 1 + 2 * j)) =
    λ j. ap (λ (i : ℕ). up_to n j (low_first 2 bytes (i + 1 + 2 * j))) is ∙ ap (up_to n j) (two_bytes_within bytes at (2 * j)) in
    λ i. record {
      tag = tag i;
      signature = record {
        n = n;
        s1 = (component-at.ensures ∙ part 1) i;
        s2 = (component-at2.ensures ∙ part 2) i;
        s3 = (c.component_at-3.ensures ∙ part 3) i;
        s4 = (c.component_at-4.ensures ∙ part 4) i;
      };
    }
