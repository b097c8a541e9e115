-- What the operations of expressions give at values that are evaluated (6.5).
use Rattle.std.specs.Prelude.{ℤ, pos, Bool, cond, not, Option, Some, None, Result, Ok, Err}
use Rattle.c_types.specs.declared.kinds.ArithOp.{ArithOp}
use Rattle.c_types.specs.declared.kinds.ArithOp.TheVariants.{Add, Sub}
use Rattle.c_types.specs.declared.kinds.IntKind.{IntKind}
use Rattle.c_types.specs.declared.kinds.IntKind.TheVariants.{Int}
use Rattle.c_types.specs.declared.trap.Trap.{Trap}
use Rattle.c_types.specs.Numbers.{promoted, converted, arith_result}
use Rattle.c_tree.specs.declared.tree.UnaryOp.{UnaryOp}
use Rattle.c_tree.specs.declared.tree.BinaryOp.{BinaryOp}
use Rattle.c_tree.specs.Operators.{is_zero, truth, unary_result, binary_result}
use Rattle.jump_meaning.specs.Values.{Value, Integer, integer}
use Rattle.jump_meaning.specs.World.{World, Outcome, Gives, Traps, kind_at, load, store}

-- the kind of an operand; each operand of a resolved program has one
abbrev pub operand_kind : Option IntKind → IntKind
operand_kind (Some k) = k
operand_kind None = Int

-- whether a value counts as true: it isn't 0
abbrev pub holds : Value → Bool
holds v = not (is_zero (integer v))

-- 1 or 0
abbrev pub truth_value : Value → Value
truth_value v = Integer (truth (holds v))

-- a conversion to a kind (6.3.1.3)
abbrev pub converted_value : IntKind → Value → Value
converted_value k v = Integer (converted k (integer v))

-- the number that is left, or the trap
abbrev pub outcome : Result ℤ Trap → World → Outcome
outcome (Ok n) w = Gives (Integer n) w
outcome (Err t) w = Traps t w

-- `+ - ! ~` at an operand of the kind (6.5.3.3)
abbrev pub unary : UnaryOp → Option IntKind → Value → World → Outcome
unary op k v w = outcome (unary_result op (operand_kind k) (integer v)) w

-- a binary mark at operands of the kinds j and k (6.5.5 to 6.5.12)
abbrev pub binary : BinaryOp → Option IntKind → Option IntKind → Value → Value → World → Outcome
binary op j k a b w = outcome (binary_result op (operand_kind j) (operand_kind k) (integer a) (integer b)) w

-- the number in the cell that a value designates (6.3.2.1)
abbrev pub loaded : Value → World → Value
loaded p w = Integer (load p w)

-- what an assignment stores and leaves: the value converted to the kind of the cell (6.5.16)
abbrev pub stored_value : Value → Value → World → Value
stored_value p v w = converted_value (kind_at p w) v

-- an assignment of a value to the cell that p designates (6.5.16.1)
abbrev pub assign : Value → Value → World → Outcome
assign p v w = Gives (stored_value p v w) (store p (integer v) w)

-- the cell gets its value after `++` or `--`; the whole has the value before if the mark stands after its place
abbrev pub counted : Bool → Value → Result ℤ Trap → World → Outcome
counted after p (Ok n) w = Gives (cond after (loaded p w) (stored_value p (Integer n) w)) (store p n w)
counted after p (Err t) w = Traps t w

-- the mark by which `++` and `--` count
abbrev pub count_mark : Bool → ArithOp
count_mark up = cond up Add Sub

-- `++` or `--`: 1 is added or subtracted in the promoted kind (6.5.2.4, 6.5.3.1)
abbrev pub count : Bool → Bool → Value → World → Outcome
count up after p w = counted after p (arith_result (count_mark up) (promoted (kind_at p w)) (load p w) (pos 1)) w
