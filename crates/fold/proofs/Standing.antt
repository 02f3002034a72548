-- What a window stands for while a page is taken in: symbols of the same components as the page has above what is still to be taken in.
-- Assumes nothing.
use mathlib.Core.Path.{◌≡◌, refl, sym, ap, ap₂, ◌∙◌, subst}
use mathlib.Core.Logic.{dite}
use mathlib.Core.List.{List, ◌++◌}
use Prim.Native.Nat.{ℕ, ◌+◌, ◌-◌, ◌*◌, ◌/◌, ◌%◌, ◌≤◌, ◌<◌}
use native.Mathlib.Nat.{div-add-mod', mod-lt, mod-eq_of_lt, mul-mod_left, add-mod_right}
use native.Mathlib.Omega.{arith}
use native.Mathlib.Decide.{dec_lt}
use lib.ListN.{length, get_or, take, drop, replicate, length-take, length-drop, length-append, length-replicate, get_or-replicate, get_or-eq_default}
use lib.Seq.{get_or-take}
use Rattle.std.specs.List.{CopiedTo}
use Rattle.std.proofs.Common.{append_assoc}
use Rattle.std.proofs.lemmas.List.{take-append-drop, take_at, drop_at, nil_from_length}
use Rattle.field.specs.Field.{GF16, ◌⊕◌, product, power, α}
use Rattle.components.specs.Objects.{Octets}
use Rattle.components.specs.Components.{signature}
use Rattle.components.specs.Relations.{Relation, in_bytes}
use Rattle.components.specs.Windows.{Down, Raised, Landed}
use Rattle.components.proofs.Octets.{drop_octets}
use Rattle.components.proofs.Windows.{left, first_block, further_block, landed, signature_parts}
use Rattle.components.proofs.Relations.{Keeps, keeps_holds}
use Rattle.fold.specs.Folding.{reach, Far, Fits, Kept}

-- ---- whole blocks, from the last one down

-- a page is whole blocks, and above them what is cut off
pub record Cut (page blocks part : List ℕ) (block : ℕ) : Type 0 where
  pub joined : page ≡ blocks ++ part
  pub short : length part ≤ block
  pub even : length blocks % block ≡ 0

-- before the blocks of the whole ones there is nothing
pub cut : (page whole part before blocks : List ℕ) (block : ℕ) → 0 < block → whole ≡ take (length page / block * block) page → part ≡ drop (length page / block * block) page
    → length whole ≡ length page / block * block → whole ≡ before ++ blocks → length before ≡ length whole % block → Cut page blocks part block
cut page whole part before blocks block some front back long parts none =
    record {
      joined = sym (take-append-drop (length page / block * block) page) ∙ ap₂ (λ (low high : List ℕ). low ++ high) (sym front ∙ all) (sym back);
      short = omega (arith, ap length back, length-drop (length page / block * block) page, div-add-mod' (length page) block, mod-lt (length page) some);
      even = ap (λ (bytes : List ℕ). length bytes % block) (sym all) ∙ even;
    }
  where
    even : length whole % block ≡ 0
    even = ap (λ (n : ℕ). n % block) long ∙ mul-mod_left (length page / block) block

    all : whole ≡ blocks
    all = parts ∙ ap (λ (bytes : List ℕ). bytes ++ blocks) (nil_from_length before (none ∙ even))

-- one block less
pub even_below : (below block : ℕ) {n : ℕ} → n ≡ below + block → n % block ≡ 0 → below % block ≡ 0
even_below below block one even = sym (add-mod_right below block) ∙ ap (λ (m : ℕ). m % block) (sym one) ∙ even

-- and where there is none, there is nothing
pub none_below : (n block : ℕ) → n % block ≡ 0 → n < block → n ≡ 0
none_below n block even h = sym (mod-eq_of_lt h) ∙ even

-- ---- a window

-- what a copy within it does, from its start on
pub raised : (up bytes : ℕ) (before after : List ℕ) → CopiedTo before after 0 up (bytes - 0) → Raised up bytes before after
raised up bytes before after copied = record { copied = λ k h. copied (up + k) 0 (omega arith) (omega (arith, h)) ∙ ap (λ (m : ℕ). get_or before m 0) (back k) }
  where
    back : (k : ℕ) → 0 + (up + k - up) ≡ k
    back k = omega arith

pub record Standing (R : Relation) (n : ℕ) (page below window : List ℕ) : Type 0 where
  pub above : List ℕ
  pub joined : page ≡ below ++ above
  pub stands : (j : ℕ) → 1 ≤ j → j ≤ n → left R window j ≡ signature GF16 2 above j

module _ (R : Relation) (n : ℕ) (keeps : Keeps n R) (before : List ℕ) (fits : Fits R before) (page : List ℕ) (octets : Octets page) where
  -- symbols that a window has
  abbrev all : ℕ
  all = fits.block + R.distance

  pub standing_first : (below part after : List ℕ) → page ≡ below ++ part → length part ≤ fits.block * 2 → Octets after → length after ≡ length before
      → Down (in_bytes R.offsets) part before after → Standing R n page below after
  standing_first below part after joined short after-octets same down =
      record {
        above = part;
        joined = joined;
        stands = λ j one h.
            first_block R keeps.within after after-octets all (same ∙ fits.whole) (omega arith) j (keeps_holds n R keeps j one h)
            part before down fits.zeros (omega (arith, short));
      }

  pub standing_further : (rest below part old raised after : List ℕ) {size bytes : ℕ} → size ≡ fits.block * 2 → bytes ≡ reach R → rest ≡ below ++ part → length part ≡ size
      → Octets after → length after ≡ length before → Raised size bytes old raised → Down (in_bytes R.offsets) part raised after
      → Standing R n page rest old → Standing R n page below after
  standing_further rest below part old raised after {size} {bytes} even reached next long after-octets same up down stood =
      record {
        above = part ++ stood.above;
        joined = joined;
        stands = λ j one h.
            further_block R keeps.within after after-octets all (same ∙ fits.whole) (omega arith) j (keeps_holds n R keeps j one h)
            fits.block part old raised whole refl
            (subst (λ (n : ℕ). Raised (fits.block * 2) n old raised) reached (subst (λ (n : ℕ). Raised n bytes old raised) even up)) down
            ∙ ap (λ (x : ℕ). signature GF16 2 part j ⊕ product GF16 x (power GF16 α (j * fits.block))) (stood.stands j one h)
            ∙ sym (parts j);
      }
    where
      joined : page ≡ below ++ (part ++ stood.above)
      joined = stood.joined ∙ ap (λ (bytes : List ℕ). bytes ++ stood.above) next ∙ append_assoc below part stood.above

      whole : length part ≡ fits.block * 2
      whole = long ∙ even

      -- the part and what stood above it
      parts : (j : ℕ) → signature GF16 2 (part ++ stood.above) j ≡ signature GF16 2 part j ⊕ product GF16 (signature GF16 2 stood.above j) (power GF16 α (j * fits.block))
      parts j =
          signature_parts fits.block (part ++ stood.above) (omega (arith, whole, length-append part stood.above))
          (subst Octets (ap (drop (length below)) joined ∙ drop_at below (part ++ stood.above) (length below) refl) (drop_octets (length below) page octets)) j
          ∙ ap₂ (λ (first rest : List ℕ). signature GF16 2 first j ⊕ product GF16 (signature GF16 2 rest j) (power GF16 α (j * fits.block)))
          (take_at part stood.above (fits.block * 2) whole) (drop_at part stood.above (fits.block * 2) whole)

pub standing_landed : (R : Relation) (n : ℕ) (page below window after : List ℕ) {bytes : ℕ} → length below ≡ 0 → bytes ≡ reach R → Octets window → bytes ≤ length after
    → Standing R n page below window → Landed (in_bytes R.offsets) bytes window after → Kept n page (take bytes after)
standing_landed R n page below window after {bytes} none reached octets whole stood land =
    subst (λ (m : ℕ). m ≤ length after → Landed (in_bytes R.offsets) m window after → Kept n page (take m after)) (sym reached) at_reach whole land
  where
    all : page ≡ stood.above
    all = stood.joined ∙ ap (λ (bytes : List ℕ). bytes ++ stood.above) (nil_from_length below none)

    at_reach : reach R ≤ length after → Landed (in_bytes R.offsets) (reach R) window after → Kept n page (take (reach R) after)
    at_reach whole land =
        record {
          kept = λ j one h.
              landed R window (take (reach R) after) octets (omega (arith, whole, length-take (reach R) after))
              (record { undone = λ k inside. get_or-take (reach R) after k 0 inside ∙ land.undone k inside }) j
              ∙ stood.stands j one h
              ∙ ap (λ (bytes : List ℕ). signature GF16 2 bytes j) (sym all);
        }

-- ---- windows as they are lent, and what is kept of an object

zeros : (n k : ℕ) → ◌≡◌ {A = ℕ} (get_or (replicate n 0) k 0) 0
zeros n k =
    dite (dec_lt k n) (λ (h : k < n). get_or-replicate n k 0 0 h) (λ h. get_or-eq_default (replicate n 0) 0 (omega (arith, h, length-replicate {A = ℕ} n 0)))

pub fitting : (R : Relation) → Far R → (n : ℕ) → n % 2 ≡ 0 → reach R + reach R ≤ n → Fits R (replicate n 0)
fitting R far n even roomy =
    record {
      block = n / 2 - R.distance;
      whole = length-replicate n 0 ∙ omega (arith, even, roomy);
      some = omega (arith, roomy, far.some);
      roomy = omega (arith, roomy);
      zeros = zeros n;
    }

pub kept_same : (n : ℕ) (page : List ℕ) → Kept n page page
kept_same n page = record { kept = λ j one h. refl }
