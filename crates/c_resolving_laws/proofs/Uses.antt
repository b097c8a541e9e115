-- The expressions of statements without a violation.
use Rattle.std.proofs.Common.{ℤ, Bool, true, false, cond, ◌&&◌, List, [], Option, Some, None, is_some, not, option_map, ◌≡◌, refl, sym, ap, subst, ◌∙◌, true≢false}
use Rattle.std.specs.Prelude.{IsSomeAnd, IsSome}
use Rattle.c_types.specs.declared.kinds.IntKind.{IntKind}
use Rattle.c_tree.specs.declared.tree.Expression.{Expression}
use Rattle.c_tree.specs.ExpressionTrees.{ExpressionTree, NodeTree, Typed, Number, Character, EnumName, Unary, Cast, Binary, Conditional, expression_tree}
use Rattle.c_tree.specs.Constants.{HasKind, IsConstant, IsConstantNode, constant_value}
use Rattle.c_grammar.specs.Terms.{Term, first_of}
use Rattle.c_kinds.specs.declared.typed.Typed as typed
use Rattle.c_kinds.specs.declared.typed.Typed.TheVariants as T
use Rattle.c_kinds.specs.declared.typed.Valued.{Valued}
use Rattle.c_kinds.specs.Constants.{is_constant, is_constant_node, with_value, constant_of}
use Rattle.c_kinds.specs.Scopes.{Env, fault_if}
use Rattle.c_kinds.specs.Typing.{typed, faults, used, constant_faults}
use Rattle.c_kinds.specs.Values.{expression, value_of, dropped}
use Rattle.c_statements.specs.Declarations.{or_placeholder, value_at, constant_or_placeholder, constant_at, value_faults, placeholder}
use Rattle.c_statements.specs.Statements.{dropped_at}
use Rattle.c_statements.specs.Violations.{dropped_faults}
use Rattle.c_resolved_defs.specs.Kinds.{HasValue}
use Rattle.c_resolved_defs.specs.Names.{Names}
use Rattle.c_resolved_defs.specs.Scopes.{Scope}
use Rattle.c_resolved_defs.specs.Switches.{IsConstantValue}
use Rattle.c_resolving_laws.proofs.Lists.{none_left, and_left, and_right}
use Rattle.c_resolving_laws.proofs.Known.{Knows}
use Rattle.c_resolving_laws.specs.Read.{IsReadTerm}
use Rattle.c_resolving_laws.proofs.Values.{value_tree, value_rolls, Operand, SoundTyped, SoundValue, SoundDropped}
use Rattle.c_resolving_laws.proofs.Expressions.{sound, used_clean, unused_clean}
use Rattle.c_resolving_laws.proofs.Empty.{use_empty}

kind_there : (k : Option IntKind) → is_some k ≡ true → HasKind k
kind_there None e = absurd (true≢false (sym e))
kind_there (Some k) e = tt

mutual
  constant_is : (e : ExpressionTree) → is_constant e ≡ true → IsConstant e
  constant_is (Typed kind n) h = constant_node_is kind n h

  constant_node_is : (kind : Option IntKind) (n : NodeTree) → is_constant_node kind n ≡ true → IsConstantNode kind n
  constant_node_is kind (Number n) h = tt
  constant_node_is kind (Character b) h = tt
  constant_node_is kind (EnumName m n) h = tt
  constant_node_is kind (Unary op a) h = constant_is a h
  constant_node_is kind (Cast a) h = (kind_there kind (and_left (is_some kind) (is_constant a) h), constant_is a (and_right (is_some kind) (is_constant a) h))
  constant_node_is kind (Binary op a b) h = (
    constant_is a (and_left (is_constant a) (is_constant b) h),
    constant_is b
        (and_right (is_constant a) (is_constant b) h),
  )
  constant_node_is kind (Conditional a b c) h =
      let l = and_left (is_constant a && is_constant b) (is_constant c) h in (
        constant_is a (and_left (is_constant a) (is_constant b) l),
        constant_is b (and_right (is_constant a) (is_constant b) l),
        constant_is c (and_right (is_constant a && is_constant b) (is_constant c) h),
      )
  constant_node_is kind _ h = absurd (true≢false (sym h))

pub value_found : (e : Expression) (x : ExpressionTree) → expression_tree e ≡ x → is_some (with_value e) ≡ true →
    (z : ℤ) × (with_value e ≡ Some (e, z)) × IsConstant x × (constant_value x ≡ Some z)
value_found e x i h = subst (λ x. (z : ℤ) × (with_value e ≡ Some (e, z)) × IsConstant x × (constant_value x ≡ Some z)) i
    (by (is_constant (expression_tree e)) (constant_value (expression_tree e)) refl refl h)
  where
    by : (b : Bool) (o : Option ℤ) → is_constant (expression_tree e) ≡ b → constant_value (expression_tree e) ≡ o →
        is_some {T = Expression × ℤ} (cond b (option_map (λ n. (e, n)) o) None) ≡ true
        → (z : ℤ) × (with_value e ≡ Some (e, z)) × IsConstant (expression_tree e) × (constant_value (expression_tree e) ≡ Some z)
    by false o p q h = absurd (true≢false (sym h))
    by true None p q h = absurd (true≢false (sym h))
    by true (Some z) p q h = (
      z,
      ap (λ b. cond b (option_map (λ n. (e, n)) (constant_value (expression_tree e))) None) p ∙ ap (λ o. option_map (λ n. (e, n)) o) q,
      constant_is (expression_tree e) p,
      q,
    )

module _ (n : Names) (ss : List Scope) (env : Env) (knows : Knows n ss env) where
  -- ---- values

  or_value : (o : Option Valued) → IsSomeAnd o (SoundValue n ss) → Operand n ss (expression_tree (or_placeholder o)) × HasValue
      (expression_tree (or_placeholder o))
  or_value None h = absurd h
  or_value (Some v) h = subst (λ x. Operand n ss x × HasValue x) (sym (value_rolls v)) (h, record { operand = h.1; kind = tt })

  pub value_is : (t : Term) → IsReadTerm env.word t → value_faults env t [] ≡ [] →
      Operand n ss (expression_tree (value_at env t)) × HasValue (expression_tree (value_at env t))
  value_is t r e = or_value (value_of (typed env t)) (used_clean n ss env knows t [] e (sound n ss env knows t [] r)).1

  or_dropped : (o : Option Expression) → IsSomeAnd o (SoundDropped n ss) → Operand n ss (expression_tree (elim o [ Some e ↦ e | None ↦ placeholder ]))
  or_dropped None h = absurd h
  or_dropped (Some e) h = h

  pub dropped_is : (t : Term) → IsReadTerm env.word t → dropped_faults env t [] ≡ [] → Operand n ss (expression_tree (dropped_at env t))
  dropped_is t r e = or_dropped (dropped (typed env t)) (unused_clean n ss env knows t [] e (sound n ss env knows t [] r)).1.1

  -- ---- constants

  pub record ConstantIs (o : Option (Expression × ℤ)) (e : Expression) : Type 0 where
    pub number : ℤ
    pub given : o ≡ Some (e, number)
    pub operand : Operand n ss (expression_tree e)
    pub constant : IsConstantValue (expression_tree e)
    pub value : constant_value (expression_tree e) ≡ Some number

  some_value : (o : Option ℤ) (z : ℤ) → o ≡ Some z → IsSome o
  some_value o z e = ap is_some e

  constant_typed : (x : typed.Typed) → SoundTyped n ss x → is_some (constant_of x) ≡ true → ConstantIs (constant_of x) (constant_or_placeholder (constant_of x))
  constant_typed (T.Value v) s h =
      let c = value_found (expression v) (value_tree v) (value_rolls v) h in
      let i = value_rolls v in
      let e = sym (ap constant_or_placeholder c.1) in
      subst (λ x. ConstantIs (with_value (expression v)) x) e
      (record {
        number = c.0;
        given = c.1;
        operand = subst (Operand n ss) (sym i) s;
        constant = subst IsConstantValue (sym i) (record { kind = tt; constant = c.2; untrapped = some_value (constant_value (value_tree v)) c.0 c.3 });
        value = ap constant_value i ∙ c.3;
      })
  constant_typed _ s h = absurd (true≢false (sym h))

  pub constant_is_value : (t : Term) → IsReadTerm env.word t → constant_faults env t [] ≡ [] → ConstantIs (constant_of (typed env t)) (constant_at env t)
  constant_is_value t r e = by (is_some (constant_of (typed env t))) refl e
    where
      by : (b : Bool) → is_some (constant_of (typed env t)) ≡ b → fault_if (not b) (first_of t) 34 (used env t (faults env t [])) ≡ [] →
          ConstantIs (constant_of (typed env t)) (constant_at env t)
      by true i e = constant_typed (typed env t) (sound n ss env knows t [] r (use_empty (first_of t) (typed env t) (faults env t []) e)).1 i
      by false i e = absurd (none_left _ _ e)
