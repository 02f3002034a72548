-- The numbers given back when a call is turned down, and how an operation's tests choose among them: in order, the first that applies.
use Rattle.std.specs.Prelude.{ℕ, Bool, cond, List, [], ◌∷◌, ◌++◌, Result, Ok, Err, ⊤, codes, decimal}
use Rattle.units.specs.declared.Refusal.{Refusal}
use Rattle.units.specs.declared.Refusal.TheVariants.{Size, Page, Long, Odd, Map, Match, Room, Empty, PageNo, Damaged, Thin}

abbrev pub SIZE : ℕ
SIZE = 1

abbrev pub PAGE : ℕ
PAGE = 2

abbrev pub LONG : ℕ
LONG = 3

abbrev pub ODD : ℕ
ODD = 4

abbrev pub MAP : ℕ
MAP = 5

abbrev pub MATCH : ℕ
MATCH = 6

abbrev pub ROOM : ℕ
ROOM = 7

abbrev pub EMPTY : ℕ
EMPTY = 8

abbrev pub PAGENO : ℕ
PAGENO = 9

abbrev pub DAMAGED : ℕ
DAMAGED = 10

abbrev pub THIN : ℕ
THIN = 14

abbrev pub number : Refusal → ℕ
number Size = SIZE
number Page = PAGE
number Long = LONG
number Odd = ODD
number (Map place) = MAP
number Match = MATCH
number (Room needed) = ROOM
number Empty = EMPTY
number PageNo = PAGENO
number (Damaged page) = DAMAGED
number Thin = THIN

-- the value that the table gives beside the number
abbrev pub value : Refusal → ℕ
value Size = 0
value Page = 0
value Long = 0
value Odd = 0
value (Map place) = place
value Match = 0
value (Room needed) = needed
value Empty = 0
value PageNo = 0
value (Damaged page) = page
value Thin = 0

-- a refusal as it is printed
abbrev pub shown : Refusal → List ℕ
shown r = codes "refused " ++ (decimal (number r) ++ (codes " " ++ decimal (value r)))

-- what an operation's tests say of a call: that it is allowed, or why it is refused
abbrev pub Verdict : Type 0
Verdict = Result ⊤ Refusal

abbrev pub allowed : Verdict
allowed = Ok tt

abbrev pub refused : Refusal → Verdict
refused r = Err r

pub record Test : Type 0 where
  pub applies : Bool
  pub refusal : Refusal

abbrev pub gives : Refusal → Bool → Test
gives refusal applies = record { applies = applies; refusal = refusal }

abbrev pub first : List Test → Verdict
first [] = allowed
first (t ∷ ts) = cond t.applies (refused t.refusal) (first ts)
