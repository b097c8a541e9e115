-- What a walk finds in an expression.
use Rattle.std.proofs.Common.{Bool, Option, Some, None}
use Rattle.c_lexer.specs.Marks.{mark_of}
use Rattle.c_grammar.specs.Terms.{Term, Form, Terms, At, Constant, Variable, Cell, Prefix, Suffix, CastTo, CastVoid, Binary, Choice, Assign, Commas, Call, Texts, Unknown, NoTerm, Then}
use Rattle.c_kinds.specs.Marks.{step_of}
use Rattle.c_kinds.specs.Scopes.{Env}
use Rattle.c_kinds.specs.Typing.{used, unused, faults, form_faults, target_faults, unused_faults, given_faults, constant_faults}
use Rattle.c_reading_defs.specs.Expressions.{NeedsValue, NeedsConstant, MayBeVoid, IsJudgedElsewhere, ExpressionBreaks, InExpression, TargetBreaks, ExpressionsBreak}
use Rattle.c_violation_laws.specs.Finds.{Finds}
use Rattle.c_violation_laws.proofs.Finding.{finds_none, finds_both}
use Rattle.c_violation_laws.proofs.Uses.{read_name, read_cell, write_name, write_cell, needs_value, needs_constant, may_be_void, may_be_anything}
use Rattle.c_violation_laws.proofs.CallFaults.{call}

module _ (env : Env) where
  -- `++` and `--` write to what stands behind them
  prefixed : (o : Option Bool) (a : Term) → Finds (target_faults env a) (λ v. TargetBreaks env a v) →
      Finds (λ vs. used env a (faults env a vs)) (λ v. ExpressionBreaks env NeedsValue a v)
      → Finds (λ vs. elim o [ Some up ↦ target_faults env a vs | None ↦ used env a (faults env a vs) ])
      (λ v. elim o [ Some up ↦ TargetBreaks env a v | None ↦ ExpressionBreaks env NeedsValue a v ])
  prefixed (Some up) a t u = t
  prefixed None a t u = u

  mutual
    pub form : (x : Form) → Finds (form_faults env x) (λ v. InExpression env x v)
    form (Constant at) = finds_none
    form (Variable at) = read_name env at
    form (Cell at i) = finds_both _ _ _ _ (value i) (read_cell env at i)
    form (Prefix m a) = prefixed (step_of (mark_of (env.word m))) a (target a) (value a)
    form (Suffix m a) = target a
    form (CastTo words a) = value a
    form (CastVoid a) = dropped a
    form (Binary m a b) = finds_both _ _ _ _ (value a) (value b)
    form (Choice a b c) = finds_both _ _ _ _ (value a) (finds_both _ _ _ _ (value b) (value c))
    form (Assign m t a) = finds_both _ _ _ _ (target t) (value a)
    form (Commas a bs) = finds_both _ _ _ _ (dropped a) (all_dropped bs)
    form (Call at xs) = finds_both _ _ _ _ (arguments xs) (call env at xs)
    form _ = finds_none

    -- an expression of which the value is used
    pub value : (t : Term) → Finds (λ vs. used env t (faults env t vs)) (λ v. ExpressionBreaks env NeedsValue t v)
    value (At first x) = finds_both _ _ _ _ (form x) (needs_value env (At first x))

    -- of which the value, if it has one, is dropped
    pub dropped : (t : Term) → Finds (λ vs. unused env t (faults env t vs)) (λ v. ExpressionBreaks env MayBeVoid t v)
    dropped (At first x) = finds_both _ _ _ _ (form x) (may_be_void env (At first x))

    pub argument : (t : Term) → Finds (faults env t) (λ v. ExpressionBreaks env IsJudgedElsewhere t v)
    argument (At first x) = finds_both _ _ _ _ (form x) (may_be_anything env (At first x))

    target : (t : Term) → Finds (target_faults env t) (λ v. TargetBreaks env t v)
    target (At first (Variable at)) = write_name env at
    target (At first (Cell at i)) = finds_both _ _ _ _ (value i) (write_cell env at i)
    target (At first (Constant at)) = finds_none
    target (At first (Prefix m a)) = finds_none
    target (At first (Suffix m a)) = finds_none
    target (At first (CastTo words a)) = finds_none
    target (At first (CastVoid a)) = finds_none
    target (At first (Binary m a b)) = finds_none
    target (At first (Choice a b c)) = finds_none
    target (At first (Assign m t a)) = finds_none
    target (At first (Commas a bs)) = finds_none
    target (At first (Call at xs)) = finds_none
    target (At first (Texts ats)) = finds_none
    target (At first Unknown) = finds_none

    all_dropped : (xs : Terms) → Finds (unused_faults env xs) (λ v. ExpressionsBreak env MayBeVoid xs v)
    all_dropped NoTerm = finds_none
    all_dropped (Then x xs) = finds_both _ _ _ _ (dropped x) (all_dropped xs)

    arguments : (xs : Terms) → Finds (given_faults env xs) (λ v. ExpressionsBreak env IsJudgedElsewhere xs v)
    arguments NoTerm = finds_none
    arguments (Then x xs) = finds_both _ _ _ _ (argument x) (arguments xs)

  -- a constant expression
  pub constant : (t : Term) → Finds (constant_faults env t) (λ v. ExpressionBreaks env NeedsConstant t v)
  constant (At first x) = finds_both _ _ _ _ (form x) (needs_constant env (At first x))
