-- Numbers as constant expressions.
use Rattle.std.specs.Prelude.{ℤ, pos, cond, neg_ℤ, int_le, Some}
use Rattle.c_types.specs.declared.kinds.ArithOp.TheVariants.{Sub}
use Rattle.c_types.specs.declared.kinds.IntKind.{IntKind}
use Rattle.c_types.specs.Numbers.{least, greatest}
use Rattle.c_tree.specs.declared.tree.UnaryOp.TheVariants.{Minus}
use Rattle.c_tree.specs.declared.tree.BinaryOp.TheVariants.{Arith}
use Rattle.c_tree.specs.ExpressionTrees.{ExpressionTree, Typed, Number, Unary, Binary}

-- a number as it is written, of the kind
abbrev pub number : IntKind → ℤ → ExpressionTree
number k n = Typed (Some k) (Number n)

-- the least number of a kind, as `-max - 1`
abbrev pub least_constant : IntKind → ExpressionTree
least_constant k = Typed (Some k) (Binary (Arith Sub) (Typed (Some k) (Unary Minus (number k (greatest k)))) (number k (pos 1)))

-- a number of a kind as a constant expression of it: `n`, `-n`, or for the least number of the kind `-max - 1`
abbrev pub constant : IntKind → ℤ → ExpressionTree
constant k n = cond (int_le (pos 0) n) (number k n) (cond (int_le n (least k)) (least_constant k) (Typed (Some k) (Unary Minus (number k (neg_ℤ n)))))
