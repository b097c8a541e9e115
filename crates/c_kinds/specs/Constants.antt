-- Constant expressions (ISO/IEC 9899:2011, 6.6).
use Rattle.std.specs.Prelude.{ℕ, ℤ, Bool, true, false, cond, not, ◌&&◌, is_some, Option, None, option_map}
use Rattle.c_types.specs.declared.kinds.IntKind.{IntKind}
use Rattle.c_tree.specs.declared.tree.Expression.{Expression}
use Rattle.c_tree.specs.ExpressionTrees.{ExpressionTree, NodeTree, Typed, Number, Character, EnumName, Unary, Cast, Binary, Conditional, expression_tree}
use Rattle.c_tree.specs.Constants.{constant_value}
use Rattle.c_kinds.specs.declared.typed.Typed as typed
use Rattle.c_kinds.specs.declared.typed.Typed.TheVariants.{Value}
use Rattle.c_kinds.specs.Scopes.{Faults, fault_if}
use Rattle.c_kinds.specs.Values.{expression, use_fault}

abbrev mutual
  -- made of numbers, characters, enum constants, marks, casts to number types and `?:`
  pub is_constant : ExpressionTree → Bool
  is_constant (Typed kind n) = is_constant_node kind n

  pub is_constant_node : Option IntKind → NodeTree → Bool
  is_constant_node kind (Number n) = true
  is_constant_node kind (Character b) = true
  is_constant_node kind (EnumName m n) = true
  is_constant_node kind (Unary op a) = is_constant a
  is_constant_node kind (Cast a) = is_some kind && is_constant a
  is_constant_node kind (Binary op a b) = is_constant a && is_constant b
  is_constant_node kind (Conditional a b c) = is_constant a && is_constant b && is_constant c
  is_constant_node kind _ = false

abbrev pub with_value : Expression → Option (Expression × ℤ)
with_value e = cond (is_constant (expression_tree e)) (option_map (λ n. (e, n)) (constant_value (expression_tree e))) None

-- the expression and its value, where it is a constant expression without a trap
abbrev pub constant_of : typed.Typed → Option (Expression × ℤ)
constant_of (Value v) = with_value (expression v)
constant_of _ = None

-- a value is used here, and it has to be a constant expression's
abbrev pub constant_fault : ℕ → typed.Typed → Faults → Faults
constant_fault first x vs = fault_if (not (is_some (constant_of x))) first 34 (use_fault first x vs)
