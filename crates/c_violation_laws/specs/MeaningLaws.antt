-- What `meaning_laws` states.
use Rattle.std.specs.Prelude.{◌≡◌, ◌≢◌, ℕ, ℤ, List, Some, None}
use Rattle.c_tree.specs.declared.tree.Expression.{Expression}
use Rattle.c_grammar.specs.Terms.{Term}
use Rattle.c_kinds.specs.declared.binding.Binding.{Binding}
use Rattle.c_kinds.specs.declared.binding.Want.{Want}
use Rattle.c_kinds.specs.declared.typed.Typed.{Typed}
use Rattle.c_kinds.specs.declared.typed.Typed.TheVariants.{Wrong}
use Rattle.c_kinds.specs.declared.typed.Target.{Target}
use Rattle.c_kinds.specs.Constants.{constant_of}
use Rattle.c_kinds.specs.Formats.{wanted}
use Rattle.c_kinds.specs.Scopes.{Env, Scope, look_up}
use Rattle.c_kinds.specs.Typing.{typed, target_of}
use Rattle.c_reading_defs.specs.Bindings.{IsBoundTo, IsUnbound}
use Rattle.c_reading_defs.specs.Formats.{IsFormat}
use Rattle.c_reading_defs.specs.Meanings.{Means, MeansTarget, IsConstantExpression}
use Rattle.c_reading_defs.specs.Typings.{Typing, IsTyping}

pub record MeaningLaws : Type 0 where
  -- a name that is looked up is what it is bound to
  pub bound : (name : List ℕ) (ss : List Scope) (b : Binding) → (look_up ss name ≡ Some b → IsBoundTo name b ss) ×
      (IsBoundTo name b ss → look_up ss name ≡ Some b)
  pub unbound : (name : List ℕ) (ss : List Scope) → (look_up ss name ≡ None → IsUnbound name ss) × (IsUnbound name ss → look_up ss name ≡ None)
  -- what a format wants
  pub format : (bytes : List ℕ) (ws : List Want) → (wanted bytes ≡ Some ws → IsFormat bytes ws) × (IsFormat bytes ws → wanted bytes ≡ Some ws)
  -- an expression is what it means
  pub means : (env : Env) (t : Term) (x : Typed) → (typed env t ≡ x → x ≢ Wrong → Means env t x) × (Means env t x → typed env t ≡ x)
  -- so is a constant expression
  pub constant : (env : Env) (t : Term) (e : Expression) (n : ℤ) → (constant_of (typed env t) ≡ Some (e, n) → IsConstantExpression env t e n) ×
      (IsConstantExpression env t e n → constant_of (typed env t) ≡ Some (e, n))
  pub right : (env : Env) (t : Term) → Means env t Wrong → ⊥
  -- and so is a target
  pub target : (env : Env) (t : Term) (y : Target) → (target_of env t ≡ Some y → MeansTarget env t y) × (MeansTarget env t y → target_of env t ≡ Some y)
  -- what the walk finds all expressions to be is the one typing
  pub typing : IsTyping typed
  pub sole : (typing : Typing) → IsTyping typing → typing ≡ typed
