-- Constant expressions and their values.
use Rattle.std.specs.Prelude.{ℤ, pos, Bool, cond, Option, Some, None, option_map, option_and_then, Result, Ok, Err, not}
use Rattle.c_types.specs.declared.kinds.IntKind.{IntKind}
use Rattle.c_types.specs.declared.kinds.IntKind.TheVariants.{Char}
use Rattle.c_types.specs.declared.trap.Trap.{Trap}
use Rattle.c_types.specs.Numbers.{converted}
use Rattle.c_tree.specs.declared.tree.BinaryOp.{BinaryOp}
use Rattle.c_tree.specs.declared.tree.BinaryOp.TheVariants.{AndThen, OrElse}
use Rattle.c_tree.specs.ExpressionTrees.{ExpressionTree, NodeTree, Typed, Number, Character, EnumName, Unary, Cast, Binary, Conditional}
use Rattle.c_tree.specs.Operators.{is_zero, truth, unary_result, binary_result}

abbrev pub kind_of : ExpressionTree → Option IntKind
kind_of (Typed kind node) = kind

-- a cast is one to a number type where it has a kind
abbrev pub HasKind : Option IntKind → Type 0
HasKind None = ⊥
HasKind (Some k) = Unit {0}

abbrev mutual
  -- made of numbers, characters, enum constants, marks, casts to number types and `?:`
  pub IsConstant : ExpressionTree → Type 0
  IsConstant (Typed kind node) = IsConstantNode kind node

  pub IsConstantNode : Option IntKind → NodeTree → Type 0
  IsConstantNode kind (Number n) = Unit {0}
  IsConstantNode kind (Character b) = Unit {0}
  IsConstantNode kind (EnumName m n) = Unit {0}
  IsConstantNode kind (Unary op a) = IsConstant a
  IsConstantNode kind (Cast a) = HasKind kind × IsConstant a
  IsConstantNode kind (Binary op a b) = IsConstant a × IsConstant b
  IsConstantNode kind (Conditional a b c) = IsConstant a × IsConstant b × IsConstant c
  IsConstantNode kind _ = ⊥

-- a value, where there is no trap
abbrev pub untrapped : Result ℤ Trap → Option ℤ
untrapped (Ok v) = Some v
untrapped (Err t) = None

abbrev pub convert_to : Option IntKind → ℤ → Option ℤ
convert_to kind v = option_map (λ k. converted k v) kind

abbrev pub unary_value : (IntKind → ℤ → Result ℤ Trap) → Option IntKind → ℤ → Option ℤ
unary_value f kind v = option_and_then (λ k. untrapped (f k v)) kind

abbrev pub binary_value : (IntKind → IntKind → ℤ → ℤ → Result ℤ Trap) → Option IntKind → Option IntKind → ℤ → ℤ → Option ℤ
binary_value f j k a b = option_and_then (λ i. unary_value (λ l c. f i l a c) k b) j

-- `a && b` and `a || b` evaluate b only where a does not decide; `shortcut` is the value of a that does
abbrev pub chosen_value : Bool → ℤ → Option ℤ → Option ℤ
chosen_value decides value b = cond decides (Some value) (option_map (λ v. truth (not (is_zero v))) b)

abbrev pub marked_value : BinaryOp → Option IntKind → Option IntKind → Option ℤ → ℤ → Option ℤ
marked_value AndThen j k b a = chosen_value (is_zero a) (pos 0) b
marked_value OrElse j k b a = chosen_value (not (is_zero a)) (pos 1) b
marked_value op j k b a = option_and_then (binary_value (binary_result op) j k a) b

abbrev mutual
  -- the value of a constant expression; none where it traps, and for other expressions
  pub constant_value : ExpressionTree → Option ℤ
  constant_value (Typed kind node) = node_value kind node

  pub node_value : Option IntKind → NodeTree → Option ℤ
  node_value kind (Number n) = Some n
  node_value kind (Character b) = Some (converted Char (pos b))
  node_value kind (EnumName m n) = Some n
  node_value kind (Unary op a) = option_and_then (unary_value (unary_result op) (kind_of a)) (constant_value a)
  node_value kind (Cast a) = option_and_then (convert_to kind) (constant_value a)
  node_value kind (Binary op a b) = option_and_then (marked_value op (kind_of a) (kind_of b) (constant_value b)) (constant_value a)
  node_value kind (Conditional a b c) =
      option_and_then (λ v. option_and_then (convert_to kind) (cond (is_zero v) (constant_value c) (constant_value b))) (constant_value a)
  node_value kind _ = None
