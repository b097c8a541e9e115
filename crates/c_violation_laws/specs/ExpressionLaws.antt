-- What `expression_laws` states: what walks over expressions find.
use Rattle.std.specs.Prelude.{◌≡◌, ℕ, List, Some, None}
use Rattle.c_grammar.specs.Terms.{Term}
use Rattle.c_kinds.specs.declared.binding.Binding.{Binding}
use Rattle.c_kinds.specs.Scopes.{Scope, Env, look_up}
use Rattle.c_kinds.specs.Typing.{faults, used, unused, constant_faults}
use Rattle.c_reading_defs.specs.Bindings.{IsBoundTo, IsUnbound}
use Rattle.c_reading_defs.specs.Expressions.{NeedsValue, NeedsConstant, MayBeVoid, IsJudgedElsewhere, ExpressionBreaks}
use Rattle.c_violation_laws.specs.Finds.{Finds}

pub record ExpressionLaws : Type 0 where
  -- what is looked up is what the name is bound to
  pub bound : (name : List ℕ) (b : Binding) (ss : List Scope) → (look_up ss name ≡ Some b → IsBoundTo name b ss) ×
      (IsBoundTo name b ss → look_up ss name ≡ Some b)
  pub unbound : (name : List ℕ) (ss : List Scope) → (look_up ss name ≡ None → IsUnbound name ss) × (IsUnbound name ss → look_up ss name ≡ None)
  -- an expression by what it is used for
  pub value : (env : Env) (t : Term) → Finds (λ vs. used env t (faults env t vs)) (λ v. ExpressionBreaks env NeedsValue t v)
  pub dropped : (env : Env) (t : Term) → Finds (λ vs. unused env t (faults env t vs)) (λ v. ExpressionBreaks env MayBeVoid t v)
  pub constant : (env : Env) (t : Term) → Finds (constant_faults env t) (λ v. ExpressionBreaks env NeedsConstant t v)
  pub argument : (env : Env) (t : Term) → Finds (faults env t) (λ v. ExpressionBreaks env IsJudgedElsewhere t v)
