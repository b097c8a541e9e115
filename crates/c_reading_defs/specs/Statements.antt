-- The rules for statements (ISO/IEC 9899:2011, 6.8).
use Rattle.std.specs.Prelude.{◌≡◌, ◌⊎◌, ℕ, false, List, [], ◌∷◌, Option, Some, None, option_map}
use Rattle.c_types.specs.declared.kinds.IntKind.{IntKind}
use Rattle.c_grammar.specs.Terms.{Term}
use Rattle.c_grammar.specs.Items.{Label, Case, Default, Start, NoStart, StartValue, StartNames, Item, Declares, States, Plain, From, Statement, Evaluate, If, IfElse, While, DoWhile, For, Switch, Block, Goto, Break, Continue, Return, Body, Braces, Lone, Items, NoItem, Then, items_in}
use Rattle.c_kinds.specs.declared.typed.Fault.{Fault}
use Rattle.c_kinds.specs.Scopes.{Env}
use Rattle.c_kinds.specs.Values.{value_of}
use Rattle.c_statements.specs.Context.{Around}
use Rattle.c_reading_defs.specs.Typings.{Typing}
use Rattle.c_reading_defs.specs.Labels.{InFunction}
use Rattle.c_reading_defs.specs.Behind.{IsOne}
use Rattle.c_reading_defs.specs.Declared.{DeclarationBreaks}
use Rattle.c_reading_defs.specs.Expressions.{Role, NeedsValue, NeedsConstant, MayBeVoid, IsJudgedElsewhere, ExpressionBreaks}
use Rattle.c_reading_defs.specs.Places.{Place, names, within, within_for, within_loop, within_switch}
use Rattle.c_reading_defs.specs.Switches.{body_entries, EntriesBreak, IsLost}
use Rattle.c_reading_defs.specs.Violations.{broken}

-- ---- one statement

-- a label with these constructs round it, and the constant of a case
pub data LabelBreaks (env : Term → Env) (around : Around) : Label → Fault → Type 0 where
  case_outside : {at after : ℕ} {t : Term} → around.switch ≡ false → LabelBreaks env around (Case at after t) (broken at 29)
  default_outside : {at after : ℕ} → around.switch ≡ false → LabelBreaks env around (Default at after) (broken at 29)
  bad_case : {at after : ℕ} {t : Term} {v : Fault} → ExpressionBreaks (env t) NeedsConstant t v → LabelBreaks env around (Case at after t) v

abbrev pub LabelsBreak : (Term → Env) → Around → List Label → Fault → Type 0
LabelsBreak env around [] v = ⊥
LabelsBreak env around (l ∷ ls) v = LabelBreaks env around l v ⊎ LabelsBreak env around ls v

-- a statement that begins at this token, without what stands in it
pub data StatementBreaks (f : InFunction) (around : Around) (first : ℕ) : Statement → Fault → Type 0 where
  no_value : (kind : IntKind) → f.result ≡ Some kind → StatementBreaks f around first (Return None) (broken first 25)
  value_in_void : {t : Term} → f.result ≡ None → StatementBreaks f around first (Return (Some t)) (broken first 25)
  break_outside : around.loop ≡ false → around.switch ≡ false → StatementBreaks f around first Break (broken first 27)
  continue_outside : around.loop ≡ false → StatementBreaks f around first Continue (broken first 28)
  unknown_label : {at : ℕ} → (IsOne (f.word at) f.labels → ⊥) → StatementBreaks f around first (Goto at) (broken at 33)

-- what a `return` in a function of this result needs
abbrev pub returned : Option IntKind → Role
returned (Some kind) = NeedsValue
returned None = IsJudgedElsewhere

-- an expression that may be left out
abbrev pub OptionBreaks : (Term → Env) → Role → Option Term → Fault → Type 0
OptionBreaks env role (Some t) v = ExpressionBreaks (env t) role t v
OptionBreaks env role None v = ⊥

-- the first part of a `for`
abbrev pub StartBreaks : Typing → InFunction → Place → Start → Fault → Type 0
StartBreaks typing f p NoStart v = ⊥
StartBreaks typing f p (StartValue t) v = ExpressionBreaks (names f p t) MayBeVoid t v
StartBreaks typing f p (StartNames d) v = DeclarationBreaks typing f p d v

-- ---- a rule is broken by a statement at this place, or within it

abbrev mutual
  pub ItemBreaks : Typing → InFunction → Place → Item → Fault → Type 0
  ItemBreaks typing f p (Declares first after d) v = DeclarationBreaks typing f p d v
  ItemBreaks typing f p (States ls s) v = LabelsBreak (names f p) p.around ls v ⊎ PlainBreaks typing f p s v

  pub PlainBreaks : Typing → InFunction → Place → Plain → Fault → Type 0
  PlainBreaks typing f p (From first after s) v = StatementBreaks f p.around first s v ⊎ InStatement typing f p s v

  pub InStatement : Typing → InFunction → Place → Statement → Fault → Type 0
  InStatement typing f p (Evaluate t) v = ExpressionBreaks (names f p t) MayBeVoid t v
  InStatement typing f p (If t b) v = ExpressionBreaks (names f p t) NeedsValue t v ⊎ BodyBreaks typing f p b v
  InStatement typing f p (IfElse t b c) v = ExpressionBreaks (names f p t) NeedsValue t v ⊎ (BodyBreaks typing f p b v ⊎ BodyBreaks typing f p c v)
  InStatement typing f p (While t b) v = ExpressionBreaks (names f p t) NeedsValue t v ⊎ BodyBreaks typing f (within_loop p) b v
  InStatement typing f p (DoWhile b t) v = BodyBreaks typing f (within_loop p) b v ⊎ ExpressionBreaks (names f p t) NeedsValue t v
  InStatement typing f p (For start t u b) v =
      let inner = within_for f start p in
      StartBreaks typing f inner start v ⊎
      (OptionBreaks (names f inner) NeedsValue t v ⊎ (OptionBreaks (names f inner) MayBeVoid u v ⊎ BodyBreaks typing f (within_loop inner) b v))
  InStatement typing f p (Switch t b) v =
      ExpressionBreaks (names f p t) NeedsValue t v
      ⊎ (BodyBreaks typing f (within_switch p) b v
      ⊎ (IsLost (items_in b) v
      ⊎ EntriesBreak (option_map (λ x. x.kind) (value_of (typing (names f p t) t))) (body_entries typing f p b) v))
  InStatement typing f p (Block b) v = BodyBreaks typing f p b v
  InStatement typing f p (Return t) v = OptionBreaks (names f p) (returned f.result) t v
  InStatement typing f p _ v = ⊥

  pub BodyBreaks : Typing → InFunction → Place → Body → Fault → Type 0
  BodyBreaks typing f p (Braces first after xs) v = ListBreaks typing f (within f (Braces first after xs) p) xs v
  BodyBreaks typing f p (Lone first after x) v = ItemBreaks typing f (within f (Lone first after x) p) x v

  pub ListBreaks : Typing → InFunction → Place → Items → Fault → Type 0
  ListBreaks typing f p NoItem v = ⊥
  ListBreaks typing f p (Then x xs) v = ItemBreaks typing f p x v ⊎ ListBreaks typing f p xs v
