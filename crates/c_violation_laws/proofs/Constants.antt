-- A constant expression is what the walk finds to be one.
use Rattle.std.proofs.Common.{◌≡◌, ℤ, Option, Some, None, refl, ap, ◌∙◌}
use Rattle.c_tree.specs.declared.tree.Expression.{Expression}
use Rattle.c_grammar.specs.Terms.{Term}
use Rattle.c_kinds.specs.declared.typed.Typed.{Typed}
use Rattle.c_kinds.specs.declared.typed.Typed.TheVariants.{Value}
use Rattle.c_kinds.specs.Constants.{constant_of}
use Rattle.c_kinds.specs.Scopes.{Env}
use Rattle.c_kinds.specs.Typing.{typed}
use Rattle.c_reading_defs.specs.Meanings.{IsConstantExpression}
use Rattle.c_violation_laws.proofs.Meanings.{is_typed, typed_is, value_right}

module _ (env : Env) (t : Term) where
  constant_by : (e : Expression) (n : ℤ) (x : Typed) → typed env t ≡ x → constant_of x ≡ Some (e, n) → IsConstantExpression env t e n
  constant_by e n (Value v) i k = (v, typed_is env t (Value v) i (value_right v), k)
  constant_by e n _ i k = cc

  pub constant_is : (e : Expression) (n : ℤ) → constant_of (typed env t) ≡ Some (e, n) → IsConstantExpression env t e n
  constant_is e n k = constant_by e n (typed env t) refl k

  pub is_constant : (e : Expression) (n : ℤ) → IsConstantExpression env t e n → constant_of (typed env t) ≡ Some (e, n)
  is_constant e n h = ap constant_of (is_typed env t (Value h.0) h.1) ∙ h.2

  -- where there is none
  none_by : (o : Option (Expression × ℤ)) → constant_of (typed env t) ≡ o → ((e : Expression) (n : ℤ) → IsConstantExpression env t e n → ⊥) → o ≡ None
  none_by None k h = refl
  none_by (Some c) k h = absurd (h c.0 c.1 (constant_is c.0 c.1 k))

  pub no_constant : ((e : Expression) (n : ℤ) → IsConstantExpression env t e n → ⊥) → constant_of (typed env t) ≡ None
  no_constant h = none_by (constant_of (typed env t)) refl h

  pub constant_not : constant_of (typed env t) ≡ None → (e : Expression) (n : ℤ) → IsConstantExpression env t e n → ⊥
  constant_not k e n h = let g : constant_of (typed env t) ≡ Some (e, n) = is_constant e n h in cc
