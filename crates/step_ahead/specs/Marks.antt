-- What `&&`, `||`, casts and the other marks leave of numbers, and after how many steps.
use Rattle.std.specs.Prelude.{ℕ, ◌+◌, ℤ, pos, negsuc, Bool, false, not, nat_lt, Option, Some, None, Ok}
use Rattle.c_types.specs.declared.kinds.IntKind.{IntKind}
use Rattle.c_types.specs.Numbers.{converted}
use Rattle.c_tree.specs.declared.tree.BinaryOp.{BinaryOp}
use Rattle.c_tree.specs.declared.tree.BinaryOp.TheVariants.{AndThen, OrElse}
use Rattle.c_tree.specs.Operators.{is_zero, truth, binary_result}
use Rattle.jump_meaning.specs.Operations.{operand_kind}
use Rattle.step_ahead.specs.declared.marks.Computed.{Computed}
use Rattle.step_ahead.specs.Taken.{IsAfter}

-- whether the first operand of `&&` or `||` decides, and what it decides
abbrev pub decides : BinaryOp → ℤ → Bool
decides AndThen z = is_zero z
decides OrElse z = not (is_zero z)
decides _ z = false

abbrev pub decided : BinaryOp → ℤ
decided OrElse = pos 1
decided _ = pos 0

-- a cast to a kind
abbrev pub IsCast : Option IntKind → Computed → Computed → Type 0
IsCast None a r = ⊥
IsCast (Some k) a r = IsAfter (Ok (converted k a.number)) (a.steps + 2) r

-- a mark at both operands, of the kinds j and k
abbrev pub IsOfBoth : BinaryOp → Option IntKind → Option IntKind → Computed → Computed → Computed → Type 0
IsOfBoth AndThen j k a b r = IsAfter (Ok (truth (not (is_zero b.number)))) (a.steps + b.steps + 3) r
IsOfBoth OrElse j k a b r = IsAfter (Ok (truth (not (is_zero b.number)))) (a.steps + b.steps + 3) r
IsOfBoth op j k a b r = IsAfter (binary_result op (operand_kind j) (operand_kind k) a.number b.number) (a.steps + b.steps + 2) r

-- whether an array of n cells has the cell of an index
abbrev pub has_cell : ℤ → ℕ → Bool
has_cell (pos i) n = nat_lt i n
has_cell (negsuc i) n = false
