-- What a program has apart from control: memory, the input and the answers left, the events so far; and
-- the few ways in which it changes.
use Rattle.std.specs.Prelude.{ℕ, suc, pred, ◌+◌, ◌-◌, ℤ, pos, negsuc, Bool, false, cond, ◌&&◌, eqb, nat_lt, List, [], ◌++◌, Some, None, Result, Ok, Err}
use Rattle.std.specs.Str.{bytes_eq}
use Rattle.c_types.specs.declared.kinds.IntKind.{IntKind}
use Rattle.c_types.specs.declared.kinds.IntKind.TheVariants.{Int}
use Rattle.c_types.specs.declared.trap.Trap.{Trap}
use Rattle.c_types.specs.Numbers.{converted}
use Rattle.c_tree.specs.declared.tree.Slot.{Slot}
use Rattle.c_tree.specs.declared.tree.Home.{Home}
use Rattle.c_tree.specs.declared.tree.Home.TheVariants as H
use Rattle.jump_meaning.specs.Values.{Owner, OfFile, OfCall, Variable, Holds, Lent, Value, Designates, Lends, Missing, Event, integer}
use Rattle.jump_meaning.specs.Code.{FunctionTree, Code, entry_or, cells_of}

-- the world of a run at one time
pub record World : Type 0 where
  -- what each variable holds
  pub variables : Owner → Variable
  -- how many calls are present; what an ended call held stays behind, and no name reaches it
  pub calls : ℕ
  -- how many cells the arrays of file scope and of the calls present have
  pub cells : ℕ
  -- the bytes that are left to read
  pub input : List ℕ
  -- the answers that are left for calls of functions without a body
  pub answers : List ℤ
  -- those so far, in the order in which they came
  pub events : List Event

-- what an operation gives: a value that it leaves, a trap, or the end of the run by `exit`
pub data Outcome : Type 0 where
  Gives : Value → World → Outcome
  Traps : Trap → World → Outcome
  Exits : ℤ → World → Outcome

-- ---- variables

-- whether two variables are one
abbrev pub same_owner : Owner → Owner → Bool
same_owner (OfFile m) (OfFile n) = bytes_eq m n
same_owner (OfCall c x) (OfCall d y) = eqb c d && eqb x y
same_owner _ _ = false

-- memory after a variable gets other contents
abbrev pub put : Owner → Variable → (Owner → Variable) → Owner → Variable
put o v s p = cond (same_owner o p) v (s p)

-- the variable that a name stands for in the newest call
abbrev pub named : Home → World → Owner
named (H.Global m) w = OfFile m
named (H.Slot x) w = OfCall w.calls x

-- the variable that holds what the contents of o are
abbrev pub holder : Owner → Variable → Owner
holder o (Lent p) = p
holder o (Holds k n cells) = o

-- the variable that a name reaches: for an array parameter the array lent to it
abbrev pub owner : Home → World → Owner
owner h w = holder (named h w) (w.variables (named h w))

-- the kind of its cells; never asked of an array that is lent: `owner` has resolved the lending
abbrev pub kind_held : Variable → IntKind
kind_held (Holds k n cells) = k
kind_held (Lent o) = Int

-- how many cells it has, of which a number has one; never asked of an array that is lent, nor are the numbers in them
abbrev pub cells_held : Variable → ℕ
cells_held (Holds k None cells) = 1
cells_held (Holds k (Some n) cells) = n
cells_held (Lent o) = 0

-- the number in cell i
abbrev pub number_held : Variable → ℕ → ℤ
number_held (Holds k n cells) i = cells i
number_held (Lent o) i = pos 0

-- cell i holds the number, converted to the kind of the cells (6.5.16.1)
abbrev pub with_number : ℕ → ℤ → Variable → Variable
with_number i z (Holds k n cells) = Holds k n (λ j. cond (eqb i j) (converted k z) (cells j))
with_number i z (Lent o) = Lent o

-- its cells from i on hold 0 (6.7.9)
abbrev pub with_zeros : ℕ → Variable → Variable
with_zeros i (Holds k n cells) = Holds k n (λ j. cond (nat_lt j i) (cells j) (cond (nat_lt j (cells_held (Holds k n cells))) (pos 0) (cells j)))
with_zeros i (Lent o) = Lent o

-- ---- reading and writing

-- the kind of the cell that a value designates
abbrev pub kind_at : Value → World → IntKind
kind_at (Designates o i) w = kind_held (w.variables o)
kind_at _ w = Int

-- the number in the cell that a value designates
abbrev pub load : Value → World → ℤ
load (Designates o i) w = number_held (w.variables o) i
load _ w = pos 0

-- the number is stored, converted, in the cell that the value designates
abbrev pub store : Value → ℤ → World → World
store (Designates o i) z w = record w { variables = put o (with_number i z (w.variables o)) w.variables }
store _ z w = w

-- the cells of a variable from n on become 0
abbrev pub clear : Home → ℕ → World → World
clear h n w = record w { variables = put (owner h w) (with_zeros n (w.variables (owner h w))) w.variables }

-- what a variable designates: its first cell
abbrev pub place : Home → World → Value
place h w = Designates (owner h w) 0

-- the cell of a variable at an index, if it has that cell
abbrev pub cell_of : Owner → ℤ → World → Outcome
cell_of o (pos i) w = cond (nat_lt i (cells_held (w.variables o))) (Gives (Designates o i) w) (Traps Trap.Index w)
cell_of o (negsuc i) w = Traps Trap.Index w

-- the cell of an array at an index; outside the array it is a trap (6.5.2.1; the trap is this profile's)
abbrev pub cell : Home → ℤ → World → Outcome
cell h i w = cell_of (owner h w) i w

-- ---- calls (6.5.2.2)

-- a slot at the start of a call: 0 everywhere (this profile)
abbrev pub zeros : Slot → Variable
zeros s = Holds s.kind s.cells (λ i. pos 0)

-- a parameter at the start of a call: the argument, converted, or the array that is lent
abbrev pub parameter : Slot → Value → Variable
parameter s (Lends o) = Lent o
parameter s v = Holds s.kind s.cells (λ i. converted s.kind (integer v))

-- a slot of no function
abbrev pub no_slot : Slot
no_slot = record { name = []; kind = Int; cells = None; constant = false }

-- slot x of a function at the start of a call with these arguments
abbrev pub slot_at_start : FunctionTree → List Value → ℕ → Variable
slot_at_start f vs x = cond (nat_lt x f.params) (parameter (entry_or no_slot f.slots x) (entry_or Missing vs x)) (zeros (entry_or no_slot f.slots x))

-- memory with the slots of call c
abbrev pub put_call : ℕ → (ℕ → Variable) → (Owner → Variable) → Owner → Variable
put_call c slots s (OfFile m) = s (OfFile m)
put_call c slots s (OfCall d x) = cond (eqb c d) (slots x) (s (OfCall d x))

-- one more call of a function, with its arguments
abbrev pub enter_call : FunctionTree → List Value → World → World
enter_call f vs w =
    record w {
      variables = put_call (suc w.calls) (slot_at_start f vs) w.variables;
      calls = suc w.calls;
      cells = w.cells + cells_of f.slots;
    }

-- the most calls in one another (this profile)
abbrev pub most_calls : ℕ
most_calls = 10000

-- the most cells of arrays that are present (this profile)
abbrev pub most_cells : ℕ
most_cells = 4194304

-- one more call, or the trap of too many calls, or else that of too many cells (this profile)
abbrev pub push : FunctionTree → List Value → World → Result World Trap
push f vs w =
    cond (nat_lt most_calls (suc w.calls)) (Err Trap.Calls)
    (cond (nat_lt most_cells (w.cells + cells_of f.slots)) (Err Trap.Cells)
    (Ok (enter_call f vs w)))

-- the newest call, one of this function, is gone
abbrev pub pop : FunctionTree → World → World
pop f w = record w { calls = pred w.calls; cells = w.cells - cells_of f.slots }

-- ---- input, answers and events (5.1.2.3)

-- these events come next
abbrev pub emit : List Event → World → World
emit es w = record w { events = w.events ++ es }

-- memory at the start, before any call
abbrev pub variables_at_start : Code → Owner → Variable
variables_at_start p (OfFile m) = p.globals m
variables_at_start p (OfCall c x) = Holds Int None (λ i. pos 0)

-- before the call of the entry
abbrev pub world_at_start : Code → List ℕ → List ℤ → World
world_at_start p input answers =
    record { variables = variables_at_start p; calls = 0; cells = p.cells; input = input; answers = answers; events = [] }
