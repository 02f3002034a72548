-- What it means that no second answer meets a contract.
use Rattle.std.specs.Prelude.{◌≡◌}

-- a function's `Post` is what its `ensures` says of the inputs a, an answer r, and x, what is lent at exit: for every input, two answers of which it
-- holds are one
abbrev pub OneAnswer : {K : Type 0} {A R X : K → Type 0} → ((κs : K) → A κs → R κs → X κs → Type 0) → Type 0
OneAnswer {K} {A} {R} {X} Post = (κs : K) (a : A κs) (r s : R κs) (x y : X κs) → Post κs a r x → Post κs a s y → r ≡ s
