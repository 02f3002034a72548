-- A field that is due, written again: it is the very bytes that it was read from.
-- Assumes nothing.
use mathlib.Core.Path.{◌≡◌, sym, ap, ap₂, ◌∙◌}
use mathlib.Core.List.{List, ◌∷◌, ◌++◌}
use Prim.Native.Nat.{ℕ, suc, ◌+◌, ◌-◌, ◌<◌}
use native.Mathlib.Numerals.{add-one}
use native.Mathlib.Omega.{arith}
use lib.ListN.{length, take, drop, length-drop}
use lib.Seq.{drop-cons, drop-drop, take-add, length-take-le}
use Rattle.signature.specs.Objects.{Octets, low_bytes}
use Rattle.signature.proofs.Numbers.{read_written}
use Rattle.map.specs.Files.{tagged}
use Rattle.reader.proofs.Due.{Due}

pub tagged_back : (tag size : ℕ) (bytes : List ℕ) (at : ℕ) → Octets bytes → Due tag size bytes at → (value : List ℕ) → value ≡ take size (drop (at + 3) bytes)
    → tagged tag value ≡ take (3 + size) (drop at bytes)
unfolding tagged
tagged_back tag size bytes at octets d value e =
    let here : at < length bytes = omega arith in
    let rest : List ℕ = drop (at + 1) bytes in
    let left : length (drop (at + 3) bytes) ≡ length bytes - (at + 3) = length-drop (at + 3) bytes in
    let long : length value ≡ size = ap length e ∙ length-take-le size (drop (at + 3) bytes) (omega arith) in
    let two : at + 1 + 2 ≡ at + 3 = omega arith in
    let number : low_bytes 2 (length value) ≡ take 2 rest =
    ap (low_bytes 2) (long ∙ sym d.due) ∙ read_written 2 bytes (at + 1) octets (omega arith) in
    let behind : value ≡ take size (drop 2 rest) = e ∙ ap (λ (k : ℕ). take size (drop k bytes)) (sym two) ∙ ap (take size) (sym (drop-drop 2 (at + 1) bytes)) in
    let more : 3 + size ≡ suc (2 + size) = omega arith in
    sym
    (ap₂ take more (drop-cons bytes at 0 here ∙ ap₂ {C = List ℕ} (λ x (k : ℕ). x ∷ drop k bytes) d.is (sym (add-one at)))
    ∙ ap (λ (l : List ℕ). tag ∷ l) (take-add 2 size rest ∙ sym (ap₂ ◌++◌ number behind)))
