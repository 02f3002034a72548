-- An output and its answer cross together: where the library's answer and output are what a definition says, so is what C is handed.
-- Assumes nothing.
use mathlib.Core.Path.{◌≡◌, ap, ◌∙◌}
use mathlib.Core.List.{List}
use Prim.Native.Nat.{ℕ}
use Rattle.units.specs.Filling.{Outcome, outcome_of}
use Rattle.units.specs.Filling.{Filled}
use Rattle.cotelark.specs.Replies.{Reply, filled, wrote_of, wrote}

pub wrote_crosses : {reply : Reply} {answer : Filled} {output : List ℕ} {o : Outcome} → reply ≡ filled answer → outcome_of answer output ≡ o → wrote_of reply output ≡ wrote o
wrote_crosses {reply} {answer} {output} {o} crossed answered = ap (λ r. wrote_of r output) crossed ∙ ap wrote answered
