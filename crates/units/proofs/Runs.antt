-- Lists end to end: how long they are together, that writing them one after the other writes them all, and where each of them stands.
-- Assumes nothing.
use mathlib.Core.Path.{◌≡◌, refl, sym, ap, ap₂, ◌∙◌}
use mathlib.Core.List.{List, [], ◌++◌, append_assoc, append-nil}
use Prim.Native.Nat.{ℕ, zero, suc, ◌+◌, ◌-◌, ◌*◌, ◌≤◌, ◌<◌}
use native.Mathlib.Nat.{add-zero, zero-add, add-suc, suc-add, zero-mul, suc-mul, le_refl}
use native.Mathlib.Numerals.{add-one}
use native.Mathlib.Omega.{arith}
use lib.ListN.{length, take, drop, length-append}
use lib.Seq.{take-add, drop-drop}
use Rattle.units.specs.Writing.{written, Put, put}
use Rattle.units.specs.Runs.{end_to_end}
use Rattle.units.proofs.Writing.{put_then, written_append, written_behind}

-- one list, and then the others
pub run_step : (f : ℕ → List ℕ) (old : List ℕ) (at m k : ℕ) → at + length (end_to_end f k (suc m)) ≤ length old
    → put (written old at (f k)) (at + length (f k)) (end_to_end f (suc k) m) ≡ put old at (end_to_end f k (suc m))
unfolding end_to_end
run_step f old at m k fits =
    let both : length (f k ++ end_to_end f (suc k) m) ≡ length (f k) + length (end_to_end f (suc k) m) = length-append (f k) (end_to_end f (suc k) m) in
    put_then old (written old at (f k)) _ at (at + length (f k)) _ (f k) (end_to_end f (suc k) m) (omega arith) refl refl

-- lists of one length, and how long they are together
pub run_long : (f : ℕ → List ℕ) (size m k : ℕ) → ((i : ℕ) → k ≤ i → i < k + m → length (f i) ≡ size) → length (end_to_end f k m) ≡ m * size
unfolding end_to_end
run_long f size zero k sized = omega arith
run_long f size (suc m) k sized =
    let rest : length (end_to_end f (suc k) m) ≡ m * size = run_long f size m (suc k) (λ i low high. sized i (omega arith) (omega arith)) in
    omega (arith, length-append (f k) (end_to_end f (suc k) m), sized k (le_refl k) (omega arith), suc-mul m size)

module _ (f : ℕ → List ℕ) (size : ℕ) (sized : (k : ℕ) → length (f k) ≡ size) where
  pub run_length : (m k : ℕ) → length (end_to_end f k m) ≡ m * size
  run_length m k = run_long f size m k (λ i low high. sized i)

  pub run_turn : (old : List ℕ) (at m k : ℕ) → at + suc m * size ≤ length old
      → written (written old at (f k)) (at + size) (end_to_end f (suc k) m) ≡ written old at (end_to_end f k (suc m))
  run_turn old at m k fits =
      ap (λ (s : ℕ). written (written old at (f k)) (at + s) (end_to_end f (suc k) m)) (sym (sized k))
      ∙ ap (λ (p : Put). p.buffer) (run_step f old at m k (omega (arith, run_length (suc m) k)))

pub run_more : (f : ℕ → List ℕ) (m k : ℕ) → length (end_to_end f k (suc m)) ≡ length (f k) + length (end_to_end f (suc k) m)
unfolding end_to_end
run_more f m k = length-append (f k) (end_to_end f (suc k) m)

pub run_as_long : (f g : ℕ → List ℕ) → ((i : ℕ) → length (f i) ≡ length (g i)) → (m k : ℕ) → length (end_to_end f k m) ≡ length (end_to_end g k m)
unfolding end_to_end
run_as_long f g e zero k = refl
run_as_long f g e (suc m) k = run_more f m k ∙ ap₂ ◌+◌ (e k) (run_as_long f g e m (suc k)) ∙ sym (run_more g m k)

pub run_none : (f : ℕ → List ℕ) (k : ℕ) → end_to_end f k 0 ≡ []
unfolding end_to_end
run_none f k = refl

-- the first m lists, and then the others
pub run_split : (f : ℕ → List ℕ) (m rest k : ℕ) → end_to_end f k (m + rest) ≡ end_to_end f k m ++ end_to_end f (k + m) rest
unfolding end_to_end
run_split f zero rest k = ap₂ (end_to_end f) (sym (add-zero k)) (zero-add rest)
run_split f (suc m) rest k =
    ap (end_to_end f k) (suc-add m rest)
    ∙ ap (λ (l : List ℕ). f k ++ l) (run_split f m rest (suc k) ∙ ap (λ (i : ℕ). end_to_end f (suc k) m ++ end_to_end f i rest) (suc-add k m ∙ sym (add-suc k m)))
    ∙ sym (append_assoc (f k) (end_to_end f (suc k) m) (end_to_end f (k + suc m) rest))

-- list i of m, with what stands before it and after it
pub run_at : (f : ℕ → List ℕ) (k i m : ℕ) → i < m → end_to_end f k m ≡ end_to_end f k i ++ (f (k + i) ++ end_to_end f (suc (k + i)) (m - suc i))
unfolding end_to_end
run_at f k i m inside =
    let split : m ≡ i + suc (m - suc i) = omega arith in
    ap (end_to_end f k) split ∙ run_split f i (suc (m - suc i)) k

pub run_same : (f g : ℕ → List ℕ) (m k : ℕ) → ((i : ℕ) → k ≤ i → i < k + m → f i ≡ g i) → end_to_end f k m ≡ end_to_end g k m
unfolding end_to_end
run_same f g zero k e = refl
run_same f g (suc m) k e =
    ap₂ ◌++◌ (e k (le_refl k) (omega arith)) (run_same f g m (suc k) (λ i low high. e i (omega arith) (omega arith)))

-- lists that stand one after the other in the bytes are the part that they take up
pub run_back : (f : ℕ → List ℕ) (size : ℕ) (bytes : List ℕ) (m k at : ℕ)
    → ((i : ℕ) → i < m → f (k + i) ≡ take size (drop (at + i * size) bytes)) → end_to_end f k m ≡ take (m * size) (drop at bytes)
unfolding end_to_end
run_back f size bytes zero k at e = sym (ap (λ (n : ℕ). take n (drop at bytes)) (zero-mul size))
run_back f size bytes (suc m) k at e =
    let here : f k ≡ take size (drop at bytes) =
    ap f (sym (add-zero k)) ∙ e 0 (omega arith) ∙ ap (λ (n : ℕ). take size (drop n bytes)) (ap (λ (n : ℕ). at + n) (zero-mul size) ∙ add-zero at) in
    let later : end_to_end f (suc k) m ≡ take (m * size) (drop (at + size) bytes) =
    run_back f size bytes m (suc k) (at + size)
    (λ i inside.
    let up : suc i < suc m = omega arith in
    let place : at + suc i * size ≡ at + size + i * size = omega (arith, suc-mul i size) in
    ap f (suc-add k i ∙ sym (add-suc k i)) ∙ e (suc i) up ∙ ap (λ (n : ℕ). take size (drop n bytes)) place) in
    let whole : suc m * size ≡ size + m * size = omega (arith, suc-mul m size) in
    ap₂ ◌++◌ here (later ∙ ap (take (m * size)) (sym (drop-drop size at bytes)))
    ∙ sym (take-add size (m * size) (drop at bytes))
    ∙ ap (λ (n : ℕ). take n (drop at bytes)) (sym whole)

-- ---- from the start: the list after i others, put after them or before them

module _ (f : ℕ → List ℕ) (size : ℕ) (sized : (k : ℕ) → length (f k) ≡ size) where
  run_last : (i : ℕ) → end_to_end f 0 (suc i) ≡ end_to_end f 0 i ++ f i
  unfolding end_to_end
  run_last i =
      ap (end_to_end f 0) (sym (add-one i))
      ∙ run_split f i 1 0
      ∙ ap (λ (l : List ℕ). end_to_end f 0 i ++ l) (append-nil (f (0 + i)) ∙ ap f (zero-add i))

  module _ (old : List ℕ) (i : ℕ) (fits : suc i * size ≤ length old) where
    place : 0 + length (end_to_end f 0 i) ≡ i * size
    place = zero-add (length (end_to_end f 0 i)) ∙ run_length f size sized i 0

    both : 0 + (length (end_to_end f 0 i) + length (f i)) ≤ length old
    both = omega (arith, run_length f size sized i 0, sized i, suc-mul i size)

    pub run_up : written (written old 0 (end_to_end f 0 i)) (i * size) (f i) ≡ written old 0 (end_to_end f 0 (suc i))
    run_up =
        ap (λ (k : ℕ). written (written old 0 (end_to_end f 0 i)) k (f i)) (sym place)
        ∙ written_append old 0 (end_to_end f 0 i) (f i) both
        ∙ ap (written old 0) (sym (run_last i))

    pub run_down : written (written old (i * size) (f i)) 0 (end_to_end f 0 i) ≡ written old 0 (end_to_end f 0 (suc i))
    run_down =
        ap (λ (k : ℕ). written (written old k (f i)) 0 (end_to_end f 0 i)) (sym place)
        ∙ written_behind old 0 (end_to_end f 0 i) (f i) both
        ∙ ap (written old 0) (sym (run_last i))
