-- The rules for expressions (ISO/IEC 9899:2011, 6.5 and 6.6).
use Rattle.std.specs.Prelude.{◌≡◌, ◌⊎◌, ℕ, ℤ, Bool, true, false, not, List, Some, None}
use Rattle.c_tree.specs.declared.tree.Expression.{Expression}
use Rattle.c_tree.specs.declared.tree.Node.{Node}
use Rattle.c_lexer.specs.Marks.{mark_of}
use Rattle.c_grammar.specs.Terms.{Term, Form, Terms, At, Variable, Cell, Prefix, Suffix, CastTo, CastVoid, Binary, Choice, Assign, Commas, Call, NoTerm, Then, first_of}
use Rattle.c_kinds.specs.declared.binding.Binding.{Binding}
use Rattle.c_kinds.specs.declared.binding.Binding.TheVariants.{Global, Local, Function, Printf}
use Rattle.c_kinds.specs.declared.typed.Fault.{Fault}
use Rattle.c_kinds.specs.declared.typed.ArrayName.{ArrayName}
use Rattle.c_kinds.specs.declared.typed.Typed.TheVariants.{Void, Text, Array}
use Rattle.c_kinds.specs.Marks.{step_of}
use Rattle.c_kinds.specs.Scopes.{Env}
use Rattle.c_reading_defs.specs.Bindings.{IsBoundTo, IsUnbound}
use Rattle.c_reading_defs.specs.Calls.{CallBreaks}
use Rattle.c_reading_defs.specs.Meanings.{Means, IsConstantExpression}
use Rattle.c_reading_defs.specs.Violations.{broken}

-- ---- names

-- a function, `printf` among them
abbrev pub IsFunctionBinding : Binding → Type 0
IsFunctionBinding (Function s) = Unit {0}
IsFunctionBinding Printf = Unit {0}
IsFunctionBinding _ = ⊥

abbrev pub is_array_binding : Binding → Bool
is_array_binding (Global shape) = shape.array
is_array_binding (Local slot shape) = shape.array
is_array_binding _ = false

-- a variable that is a number
abbrev pub is_number_variable : Binding → Bool
is_number_variable (Global shape) = not shape.array
is_number_variable (Local slot shape) = not shape.array
is_number_variable _ = false

abbrev pub is_const : Binding → Bool
is_const (Global shape) = shape.constant
is_const (Local slot shape) = shape.constant
is_const _ = false

-- a name, or a cell of what it names, that is not written to
pub data ReadBreaks (env : Env) : Form → Fault → Type 0 where
  undeclared : {at : ℕ} → IsUnbound (env.word at) env.scopes → ReadBreaks env (Variable at) (broken at 20)
  not_called : {at : ℕ} (b : Binding) → IsBoundTo (env.word at) b env.scopes → IsFunctionBinding b → ReadBreaks env (Variable at) (broken at 22)
  undeclared_array : {at : ℕ} {i : Term} → IsUnbound (env.word at) env.scopes → ReadBreaks env (Cell at i) (broken at 20)
  no_array : {at : ℕ} {i : Term} (b : Binding) → IsBoundTo (env.word at) b env.scopes → is_array_binding b ≡ false → ReadBreaks env (Cell at i) (broken at 22)

-- a name or a cell that is assigned or counted up or down
pub data WriteBreaks (env : Env) : Form → Fault → Type 0 where
  undeclared : {at : ℕ} → IsUnbound (env.word at) env.scopes → WriteBreaks env (Variable at) (broken at 20)
  no_number : {at : ℕ} (b : Binding) → IsBoundTo (env.word at) b env.scopes → is_number_variable b ≡ false → WriteBreaks env (Variable at) (broken at 22)
  const : {at : ℕ} (b : Binding) → IsBoundTo (env.word at) b env.scopes → is_number_variable b ≡ true → is_const b ≡ true →
      WriteBreaks env (Variable at) (broken at 26)
  undeclared_array : {at : ℕ} {i : Term} → IsUnbound (env.word at) env.scopes → WriteBreaks env (Cell at i) (broken at 20)
  no_array : {at : ℕ} {i : Term} (b : Binding) → IsBoundTo (env.word at) b env.scopes → is_array_binding b ≡ false → WriteBreaks env (Cell at i) (broken at 22)
  const_cell : {at : ℕ} {i : Term} (b : Binding) → IsBoundTo (env.word at) b env.scopes → is_array_binding b ≡ true → is_const b ≡ true →
      WriteBreaks env (Cell at i) (broken at 26)

-- ---- what an expression is used for

pub data Role : Type 0 where
  -- its value is needed
  NeedsValue : Role
  -- its value has to be constant
  NeedsConstant : Role
  -- it may be void: a whole statement, the first or third part of a `for`, an operand of a comma, or one of a cast to void
  MayBeVoid : Role
  -- an argument, of which the call says what it has to be, or what a void function returns, which is wrong in any case
  IsJudgedElsewhere : Role

-- a text or the name of an array is wrong there
abbrev pub TakesNoArray : Role → Type 0
TakesNoArray IsJudgedElsewhere = ⊥
TakesNoArray _ = Unit {0}

-- a void expression is wrong there
abbrev pub NeedsSomeValue : Role → Type 0
NeedsSomeValue NeedsValue = Unit {0}
NeedsSomeValue NeedsConstant = Unit {0}
NeedsSomeValue _ = ⊥

-- an expression that can't be used so
pub data UseBreaks (env : Env) (t : Term) : Role → Fault → Type 0 where
  void : {role : Role} (n : Node) → NeedsSomeValue role → Means env t (Void n) → UseBreaks env t role (broken (first_of t) 24)
  -- no file breaks this: the grammar has texts as arguments alone
  text : {role : Role} (bytes : List ℕ) → TakesNoArray role → Means env t (Text bytes) → UseBreaks env t role (broken (first_of t) 40)
  -- the name of an array
  array : {role : Role} (a : ArrayName) → TakesNoArray role → Means env t (Array a) → UseBreaks env t role (broken a.token 22)
  not_constant : ((e : Expression) (n : ℤ) → IsConstantExpression env t e n → ⊥) → UseBreaks env t NeedsConstant (broken (first_of t) 34)

-- ---- in an expression

abbrev mutual
  -- a rule is broken by an expression that is used so, or by one within it
  pub ExpressionBreaks : Env → Role → Term → Fault → Type 0
  ExpressionBreaks env role (At first form) v = InExpression env form v ⊎ UseBreaks env (At first form) role v

  pub InExpression : Env → Form → Fault → Type 0
  InExpression env (Variable at) v = ReadBreaks env (Variable at) v
  InExpression env (Cell at i) v = ExpressionBreaks env NeedsValue i v ⊎ ReadBreaks env (Cell at i) v
  InExpression env (Prefix m a) v = elim (step_of (mark_of (env.word m))) [ Some up ↦ TargetBreaks env a v | None ↦ ExpressionBreaks env NeedsValue a v ]
  InExpression env (Suffix m a) v = TargetBreaks env a v
  InExpression env (CastTo words a) v = ExpressionBreaks env NeedsValue a v
  InExpression env (CastVoid a) v = ExpressionBreaks env MayBeVoid a v
  InExpression env (Binary m a b) v = ExpressionBreaks env NeedsValue a v ⊎ ExpressionBreaks env NeedsValue b v
  InExpression env (Choice a b c) v = ExpressionBreaks env NeedsValue a v ⊎ (ExpressionBreaks env NeedsValue b v ⊎ ExpressionBreaks env NeedsValue c v)
  InExpression env (Assign m t a) v = TargetBreaks env t v ⊎ ExpressionBreaks env NeedsValue a v
  InExpression env (Commas a bs) v = ExpressionBreaks env MayBeVoid a v ⊎ ExpressionsBreak env MayBeVoid bs v
  InExpression env (Call at xs) v = ExpressionsBreak env IsJudgedElsewhere xs v ⊎ CallBreaks env at xs v
  InExpression env _ v = ⊥

  -- by what is written to, or in its index
  pub TargetBreaks : Env → Term → Fault → Type 0
  TargetBreaks env (At first (Variable at)) v = WriteBreaks env (Variable at) v
  TargetBreaks env (At first (Cell at i)) v = ExpressionBreaks env NeedsValue i v ⊎ WriteBreaks env (Cell at i) v
  -- the grammar has no other targets
  TargetBreaks env _ v = ⊥

  pub ExpressionsBreak : Env → Role → Terms → Fault → Type 0
  ExpressionsBreak env role NoTerm v = ⊥
  ExpressionsBreak env role (Then x xs) v = ExpressionBreaks env role x v ⊎ ExpressionsBreak env role xs v
