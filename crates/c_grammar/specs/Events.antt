-- What the limits count. The events of tokens are kept with the last first.
use Rattle.std.specs.Prelude.{ℕ, ◌+◌, cond, nat_lt, List, [], ◌∷◌, Option, Some, None}

pub data Event : Type 0 where
  -- an operator, a comma operator, `(`, `[` or `?` of a full expression
  Counted : Event
  -- another token of an expression, a word of a type, or the name of a label
  Uncounted : Event
  -- any other token: the full expression before it has ended
  Outside : Event
  -- the next token opens this level of nesting
  Opened : ℕ → Event

-- how many tokens these are
abbrev pub number_of : List Event → ℕ
number_of [] = 0
number_of (Uncounted ∷ q) = number_of q + 1
number_of (Counted ∷ q) = number_of q + 1
number_of (Outside ∷ q) = number_of q + 1
number_of (_ ∷ q) = number_of q

-- how many tokens count in the full expression that is open at the end
abbrev pub count_of : List Event → ℕ
count_of [] = 0
count_of (Counted ∷ q) = count_of q + 1
count_of (Outside ∷ q) = 0
count_of (_ ∷ q) = count_of q

-- the limit of levels, and of counted tokens in one full expression
abbrev pub most : ℕ
most = 400

-- the number of the token that goes over a limit by this event, behind these
abbrev pub over : Event → List Event → Option ℕ
over Counted q = cond (nat_lt most (count_of q + 1)) (Some (number_of q)) None
over (Opened level) q = cond (nat_lt most level) (Some (number_of q)) None
over _ q = None

abbrev pub earlier : Option ℕ → Option ℕ → Option ℕ
earlier (Some at) later = Some at
earlier None later = later

-- the number of the first token that opens a level or counts past the limit
abbrev pub first_over : List Event → Option ℕ
first_over [] = None
first_over (e ∷ q) = earlier (first_over q) (over e q)
