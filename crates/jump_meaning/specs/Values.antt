-- What stands in memory, what an expression leaves, and what a run shows to the outside.
use Rattle.std.specs.Prelude.{ℕ, ℤ, pos, List, Option}
use Rattle.c_types.specs.declared.kinds.IntKind.{IntKind}

-- a variable in memory: one of the file by its name, or a slot of a call; the calls are numbered from 1 inwards (6.2.4)
pub data Owner : Type 0 where
  OfFile : List ℕ → Owner
  OfCall : ℕ → ℕ → Owner

-- what a variable holds: the numbers of its cells, in a kind, where a number has one cell; or, as an array parameter, the array of another (6.7.6.3)
pub data Variable : Type 0 where
  Holds : IntKind → Option ℕ → (ℕ → ℤ) → Variable
  Lent : Owner → Variable

-- what stands pending: a number, the cell that an lvalue designates (6.3.2.1), an array handed over, the format of `printf`, or no value (6.3.2.2)
pub data Value : Type 0 where
  Integer : ℤ → Value
  Designates : Owner → ℕ → Value
  Lends : Owner → Value
  Format : List ℕ → Value
  Missing : Value

-- what a run shows: a byte written, or a call of a function without a body, with its arguments (5.1.2.3)
pub data Event : Type 0 where
  Byte : ℕ → Event
  Called : List ℕ → List ℤ → Event

-- the number that a value is
abbrev pub integer : Value → ℤ
integer (Integer n) = n
integer _ = pos 0
