-- What the unary and the binary marks give, at numbers of the kinds of their operands.
use Rattle.std.specs.Prelude.{ℤ, pos, neg_ℤ, ◌-ℤ◌, Bool, not, ◌&&◌, ◌||◌, int_lt, int_le, cond, Result, Ok}
use Rattle.std.specs.Ordering.{int_eq}
use Rattle.c_types.specs.declared.kinds.ArithOp.{ArithOp}
use Rattle.c_types.specs.declared.kinds.ArithOp.TheVariants.{Shl, Shr}
use Rattle.c_types.specs.declared.kinds.IntKind.{IntKind}
use Rattle.c_types.specs.declared.trap.Trap.{Trap}
use Rattle.c_types.specs.Numbers.{promoted, usual_kind, converted, number_or, arith_result}
use Rattle.c_tree.specs.declared.tree.UnaryOp.{UnaryOp}
use Rattle.c_tree.specs.declared.tree.UnaryOp.TheVariants.{Plus, Minus, Not, Flip}
use Rattle.c_tree.specs.declared.tree.BinaryOp.{BinaryOp}
use Rattle.c_tree.specs.declared.tree.BinaryOp.TheVariants.{Arith, Less, Greater, AtMost, AtLeast, Equal, Unequal, AndThen, OrElse}

abbrev pub is_zero : ℤ → Bool
is_zero a = int_eq a (pos 0)

-- 1 or 0
abbrev pub truth : Bool → ℤ
truth b = cond b (pos 1) (pos 0)

-- `+ - ! ~`, at an operand of the kind
abbrev pub unary_result : UnaryOp → IntKind → ℤ → Result ℤ Trap
unary_result Plus k a = Ok (converted (promoted k) a)
unary_result Minus k a = number_or Trap.Overflow (promoted k) (neg_ℤ (converted (promoted k) a))
unary_result Not k a = Ok (truth (is_zero a))
unary_result Flip k a = Ok (converted (promoted k) (neg_ℤ a -ℤ pos 1))

-- the kind in which an arithmetic mark computes: a shift in that of its left operand
abbrev pub arith_kind : ArithOp → IntKind → IntKind → IntKind
arith_kind Shl j k = promoted j
arith_kind Shr j k = promoted j
arith_kind _ j k = usual_kind j k

-- what an arithmetic mark takes of its right operand: the count of a shift keeps its kind
abbrev pub right_operand : ArithOp → IntKind → IntKind → ℤ → ℤ
right_operand Shl j k b = b
right_operand Shr j k b = b
right_operand _ j k b = converted (usual_kind j k) b

-- a binary mark at operands of the kinds j and k, both of which are evaluated
abbrev pub binary_result : BinaryOp → IntKind → IntKind → ℤ → ℤ → Result ℤ Trap
binary_result (Arith op) j k a b = arith_result op (arith_kind op j k) (converted (arith_kind op j k) a) (right_operand op j k b)
binary_result Less j k a b = Ok (truth (int_lt (converted (usual_kind j k) a) (converted (usual_kind j k) b)))
binary_result Greater j k a b = Ok (truth (int_lt (converted (usual_kind j k) b) (converted (usual_kind j k) a)))
binary_result AtMost j k a b = Ok (truth (int_le (converted (usual_kind j k) a) (converted (usual_kind j k) b)))
binary_result AtLeast j k a b = Ok (truth (int_le (converted (usual_kind j k) b) (converted (usual_kind j k) a)))
binary_result Equal j k a b = Ok (truth (int_eq (converted (usual_kind j k) a) (converted (usual_kind j k) b)))
binary_result Unequal j k a b = Ok (truth (not (int_eq (converted (usual_kind j k) a) (converted (usual_kind j k) b))))
binary_result AndThen j k a b = Ok (truth (not (is_zero a) && not (is_zero b)))
binary_result OrElse j k a b = Ok (truth (not (is_zero a) || not (is_zero b)))
