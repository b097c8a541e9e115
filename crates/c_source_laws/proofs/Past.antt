-- What each token of a text is known to be is known behind a derivation too.
use Rattle.std.proofs.Common.{◌+◌, ℕ, Bool, true, false, List, [], ◌∷◌, Option, Some, None}
use Rattle.c_grammar.specs.declared.class.Class.{Class}
use Rattle.c_grammar.specs.declared.class.Class.TheVariants as c
use Rattle.c_grammar.specs.Expressions.{Base, CharBase, IntBase, LongBase, LongIntBase, NumberType, OfBase, Signed, SignedOf, Unsigned, UnsignedOf, Expression, One, More, Assignment, To, Value, Conditional, Choose, Only, Binary, Single, Both, Unary, Prefixed, StepTo, CastTo, CastVoid, Place, StepAfter, CallNone, CallWith, Number, Character, Within, Target, Variable, Cell, Round, Arguments, Last, Then, Argument, Given, Written, Texts, OneText, MoreTexts, base_tokens, type_tokens, expression_tokens, assignment_tokens, conditional_tokens, binary_tokens, unary_tokens, target_tokens, arguments_tokens, argument_tokens, texts_tokens}
use Rattle.c_grammar.specs.ExpressionSyntax.{base_end, type_end, expression_end, assignment_end, conditional_end, binary_end, unary_end, target_end, arguments_end, argument_end, texts_end}
use Rattle.c_grammar.specs.Statements.{Size, NoSize, Unsized, Sized, Initialiser, OneValue, ValueList, Declarator, Declared, Local, Locals, Label, NameLabel, CaseLabel, DefaultLabel, ForStart, StartLocal, StartValue, Block, Braces, Items, NoItems, LocalItem, StatementItem, Statement, Labelled, Unlabelled, Plain, Compound, Simple, If, IfElse, While, DoWhile, For, Switch, Goto, Break, Continue, Return, word_tokens, more_tokens, rest_tokens, optional_tokens, size_tokens, initialiser_tokens, value_tokens, declarator_tokens, local_tokens, label_tokens, for_start_tokens, items_tokens, statement_tokens, plain_tokens}
use Rattle.c_grammar.specs.StatementSyntax.{word_end, more_end, rest_end, optional_end, size_end, initialiser_end, value_end, declarator_end, local_end, label_end, for_start_end, items_end, statement_end, plain_end}
use Rattle.c_grammar.specs.Files.{Parameter, Typed, Parameters, NoParameters, VoidParameters, SomeParameters, Enumerated, Declares, Defined, Top, Line, OfEnum, OfDeclaration, OfFunction, parameter_tokens, parameters_tokens, constant_tokens, enumerator_tokens, result_tokens, body_tokens, top_tokens}
use Rattle.c_grammar.specs.FileSyntax.{parameter_end, parameters_end, constant_end, enumerator_end, result_end, body_end, top_end}
use Rattle.c_source_laws.proofs.Numbered.{Along}

module _ (P : Class → List ℕ → Type 0) (word : ℕ → List ℕ) where
  abbrev Stands : ℕ → List Class → Type 0
  Stands at r = Along P word at r

  base_past : (b : Base) (at : ℕ) (r : List Class) → Stands at (base_tokens b r) → Stands (base_end at b) r
  base_past CharBase at r s = s.1
  base_past IntBase at r s = s.1
  base_past LongBase at r s = s.1
  base_past LongIntBase at r s = (s.1).1

  pub type_past : (n : NumberType) (at : ℕ) (r : List Class) → Stands at (type_tokens n r) → Stands (type_end at n) r
  type_past (OfBase b) at r s = base_past b at r s
  type_past Signed at r s = s.1
  type_past (SignedOf b) at r s = base_past b (at + 1) r (s.1)
  type_past Unsigned at r s = s.1
  type_past (UnsignedOf b) at r s = base_past b (at + 1) r (s.1)

  texts_past : (n : Texts) (at : ℕ) (r : List Class) → Stands at (texts_tokens n r) → Stands (texts_end at n) r
  texts_past OneText at r s = s.1
  texts_past (MoreTexts n) at r s = texts_past n (at + 1) r (s.1)

  mutual
    pub expression_past : (e : Expression) (at : ℕ) (r : List Class) → Stands at (expression_tokens e r) → Stands (expression_end at e) r
    expression_past (One a) at r s = assignment_past a at r s
    expression_past (More a e) at r s = expression_past e (assignment_end at a + 1) r (assignment_past a at _ s).1

    pub assignment_past : (a : Assignment) (at : ℕ) (r : List Class) → Stands at (assignment_tokens a r) → Stands (assignment_end at a) r
    assignment_past (To t m a) at r s = assignment_past a (target_end at t + 1) r (target_past t at _ s).1
    assignment_past (Value d) at r s = conditional_past d at r s

    pub conditional_past : (d : Conditional) (at : ℕ) (r : List Class) → Stands at (conditional_tokens d r) → Stands (conditional_end at d) r
    conditional_past (Choose b e d) at r s =
        let x = binary_end at b + 1 in conditional_past d (expression_end x e + 1) r (expression_past e x _ (binary_past b at _ s).1).1
    conditional_past (Only b) at r s = binary_past b at r s

    pub binary_past : (b : Binary) (at : ℕ) (r : List Class) → Stands at (binary_tokens b r) → Stands (binary_end at b) r
    binary_past (Single u) at r s = unary_past u at r s
    binary_past (Both a m b) at r s = binary_past b (binary_end at a + 1) r (binary_past a at _ s).1

    unary_past : (u : Unary) (at : ℕ) (r : List Class) → Stands at (unary_tokens u r) → Stands (unary_end at u) r
    unary_past (Prefixed m u) at r s = unary_past u (at + 1) r (s.1)
    unary_past (StepTo t) at r s = target_past t (at + 1) r (s.1)
    unary_past (CastTo n u) at r s = unary_past u (type_end (at + 1) n + 1) r (type_past n (at + 1) _ (s.1)).1
    unary_past (CastVoid u) at r s = unary_past u (at + 1 + 1 + 1) r (((s.1).1).1)
    unary_past (Place t) at r s = target_past t at r s
    unary_past (StepAfter t) at r s = (target_past t at _ s).1
    unary_past CallNone at r s = ((s.1).1).1
    unary_past (CallWith xs) at r s = (arguments_past xs (at + 1 + 1) _ ((s.1).1)).1
    unary_past Number at r s = s.1
    unary_past Character at r s = s.1
    unary_past (Within e) at r s = (expression_past e (at + 1) _ (s.1)).1

    pub target_past : (t : Target) (at : ℕ) (r : List Class) → Stands at (target_tokens t r) → Stands (target_end at t) r
    target_past Variable at r s = s.1
    target_past (Cell e) at r s = (expression_past e (at + 1 + 1) _ ((s.1).1)).1
    target_past (Round t) at r s = (target_past t (at + 1) _ (s.1)).1

    pub arguments_past : (xs : Arguments) (at : ℕ) (r : List Class) → Stands at (arguments_tokens xs r) → Stands (arguments_end at xs) r
    arguments_past (Last x) at r s = argument_past x at r s
    arguments_past (Then x xs) at r s = arguments_past xs (argument_end at x + 1) r (argument_past x at _ s).1

    pub argument_past : (x : Argument) (at : ℕ) (r : List Class) → Stands at (argument_tokens x r) → Stands (argument_end at x) r
    argument_past (Given a) at r s = assignment_past a at r s
    argument_past (Written n) at r s = texts_past n at r s

  -- ---- declarations

  pub word_past : (given : Bool) (k : Class) (at : ℕ) (r : List Class) → Stands at (word_tokens k given r) → Stands (word_end at given) r
  word_past false k at r s = s
  word_past true k at r s = s.1

  pub optional_past : (o : Option Expression) (at : ℕ) (r : List Class) → Stands at (optional_tokens o r) → Stands (optional_end at o) r
  optional_past None at r s = s
  optional_past (Some e) at r s = expression_past e at r s

  pub size_past : (x : Size) (at : ℕ) (r : List Class) → Stands at (size_tokens x r) → Stands (size_end at x) r
  size_past NoSize at r s = s
  size_past Unsized at r s = (s.1).1
  size_past (Sized d) at r s = (conditional_past d (at + 1) _ (s.1)).1

  pub more_past : {X : Type 0} (f : X → List Class → List Class) (z : ℕ → X → ℕ) → ((x : X) (at : ℕ) (r : List Class) → Stands at (f x r) → Stands (z at x) r)
      → (xs : List X) (at : ℕ) (r : List Class) → Stands at (more_tokens f xs r) → Stands (more_end z at xs) r
  more_past {X} f z g [] at r s = s
  more_past {X} f z g (x ∷ xs) at r s = more_past f z g xs (z (at + 1) x) r (g x (at + 1) _ (s.1))

  pub rest_past : {X : Type 0} (f : X → List Class → List Class) (z : ℕ → X → ℕ) → ((x : X) (at : ℕ) (r : List Class) → Stands at (f x r) → Stands (z at x) r)
      → (xs : List X) (trailing : Bool) (at : ℕ) (r : List Class) → Stands at (rest_tokens f xs trailing r) → Stands (rest_end z at xs trailing) r
  rest_past {X} f z g [] trailing at r s = (word_past trailing c.Comma at _ s).1
  rest_past {X} f z g (x ∷ xs) trailing at r s = rest_past f z g xs trailing (z (at + 1) x) r (g x (at + 1) _ (s.1))

  pub initialiser_past : (i : Initialiser) (at : ℕ) (r : List Class) → Stands at (initialiser_tokens i r) → Stands (initialiser_end at i) r
  initialiser_past (OneValue a) at r s = assignment_past a at r s
  initialiser_past (ValueList a xs trailing) at r s = rest_past assignment_tokens assignment_end assignment_past xs trailing
      (assignment_end (at + 1) a) r (assignment_past a (at + 1) _ (s.1))

  pub value_past : (o : Option Initialiser) (at : ℕ) (r : List Class) → Stands at (value_tokens o r) → Stands (value_end at o) r
  value_past None at r s = s
  value_past (Some i) at r s = initialiser_past i (at + 1) r (s.1)

  pub declarator_past : (d : Declarator) (at : ℕ) (r : List Class) → Stands at (declarator_tokens d r) → Stands (declarator_end at d) r
  declarator_past (Declared size value) at r s = value_past value (size_end (at + 1) size) r (size_past size (at + 1) _ (s.1))

  pub local_past : (x : Local) (at : ℕ) (r : List Class) → Stands at (local_tokens x r) → Stands (local_end at x) r
  local_past (Locals constant n d ds) at r s =
      let x = word_end at constant in
      let y = type_end x n in
      (more_past declarator_tokens declarator_end declarator_past ds (declarator_end y d)
      _ (declarator_past d y _ (type_past n x _ (word_past constant c.Const at _ s)))).1

  -- ---- statements

  pub label_past : (x : Label) (at : ℕ) (r : List Class) → Stands at (label_tokens x r) → Stands (label_end at x) r
  label_past NameLabel at r s = (s.1).1
  label_past (CaseLabel d) at r s = (conditional_past d (at + 1) _ (s.1)).1
  label_past DefaultLabel at r s = (s.1).1

  pub start_past : (x : ForStart) (at : ℕ) (r : List Class) → Stands at (for_start_tokens x r) → Stands (for_start_end at x) r
  start_past (StartLocal x) at r s = local_past x at r s
  start_past (StartValue o) at r s = (optional_past o at _ s).1

  mutual
    pub items_past : (xs : Items) (at : ℕ) (r : List Class) → Stands at (items_tokens xs r) → Stands (items_end at xs) r
    items_past NoItems at r s = s
    items_past (LocalItem x xs) at r s = items_past xs (local_end at x) r (local_past x at _ s)
    items_past (StatementItem t xs) at r s = items_past xs (statement_end at t) r (statement_past t at _ s)

    pub statement_past : (t : Statement) (at : ℕ) (r : List Class) → Stands at (statement_tokens t r) → Stands (statement_end at t) r
    statement_past (Labelled x t) at r s = statement_past t (label_end at x) r (label_past x at _ s)
    statement_past (Unlabelled x) at r s = plain_past x at r s

    plain_past : (x : Plain) (at : ℕ) (r : List Class) → Stands at (plain_tokens x r) → Stands (plain_end at x) r
    plain_past (Compound (Braces xs)) at r s = (items_past xs (at + 1) _ (s.1)).1
    plain_past (Simple o) at r s = (optional_past o at _ s).1
    plain_past (If e t) at r s = statement_past t (expression_end (at + 1 + 1) e + 1) r (expression_past e (at + 1 + 1) _ ((s.1).1)).1
    plain_past (IfElse e t u) at r s =
        let x = expression_end (at + 1 + 1) e + 1 in statement_past u (statement_end x t + 1) r
        (statement_past t x _ (expression_past e (at + 1 + 1) _ ((s.1).1)).1).1
    plain_past (While e t) at r s = statement_past t (expression_end (at + 1 + 1) e + 1) r (expression_past e (at + 1 + 1) _ ((s.1).1)).1
    plain_past (DoWhile t e) at r s = ((expression_past e (statement_end (at + 1) t + 1 + 1) _ ((statement_past t (at + 1) _ (s.1)).1).1).1).1
    plain_past (For f t u b) at r s =
        let x = for_start_end (at + 1 + 1) f in
        let y = optional_end x t + 1 in
        statement_past b (optional_end y u + 1) r (optional_past u y _ (optional_past t x _ (start_past f (at + 1 + 1) _ ((s.1).1))).1).1
    plain_past (Switch e t) at r s = statement_past t (expression_end (at + 1 + 1) e + 1) r (expression_past e (at + 1 + 1) _ ((s.1).1)).1
    plain_past Goto at r s = ((s.1).1).1
    plain_past Break at r s = (s.1).1
    plain_past Continue at r s = (s.1).1
    plain_past (Return o) at r s = (optional_past o (at + 1) _ (s.1)).1

  -- ---- files

  constant_past : (o : Option Conditional) (at : ℕ) (r : List Class) → Stands at (constant_tokens o r) → Stands (constant_end at o) r
  constant_past None at r s = s
  constant_past (Some d) at r s = conditional_past d (at + 1) r (s.1)

  pub enumerator_past : (o : Option Conditional) (at : ℕ) (r : List Class) → Stands at (enumerator_tokens o r) → Stands (enumerator_end at o) r
  enumerator_past o at r s = constant_past o (at + 1) r (s.1)

  pub parameter_past : (x : Parameter) (at : ℕ) (r : List Class) → Stands at (parameter_tokens x r) → Stands (parameter_end at x) r
  parameter_past (Typed constant n named size) at r s =
      let x = word_end at constant in
      let y = type_end x n in
      size_past size (word_end y named) r (word_past named c.Name y _ (type_past n x _ (word_past constant c.Const at _ s)))

  pub parameters_past : (xs : Parameters) (at : ℕ) (r : List Class) → Stands at (parameters_tokens xs r) → Stands (parameters_end at xs) r
  parameters_past NoParameters at r s = s
  parameters_past VoidParameters at r s = s.1
  parameters_past (SomeParameters x xs) at r s = more_past parameter_tokens parameter_end parameter_past xs (parameter_end at x) r (parameter_past x at _ s)

  pub result_past : (o : Option NumberType) (at : ℕ) (r : List Class) → Stands at (result_tokens o r) → Stands (result_end at o) r
  result_past None at r s = s.1
  result_past (Some n) at r s = type_past n at r s

  body_past : (b : Option Block) (at : ℕ) (r : List Class) → Stands at (body_tokens b r) → Stands (body_end at b) r
  body_past None at r s = s.1
  body_past (Some (Braces xs)) at r s = (items_past xs (at + 1) _ (s.1)).1

  pub top_past : (x : Top) (at : ℕ) (r : List Class) → Stands at (top_tokens x r) → Stands (top_end at x) r
  top_past Line at r s = s.1
  top_past (OfEnum (Enumerated o xs trailing)) at r s = (rest_past enumerator_tokens enumerator_end enumerator_past xs trailing
      (enumerator_end (at + 1 + 1) o) _ (enumerator_past o (at + 1 + 1) _ ((s.1).1))).1
  top_past (OfDeclaration (Declares static x)) at r s = local_past x (word_end at static) r (word_past static c.Static at _ s)
  top_past (OfFunction (Defined static n xs b)) at r s =
      let w = word_end at static in
      let x = result_end w n in
      let y = parameters_end (x + 1 + 1) xs in
      body_past b (y + 1) r (parameters_past xs (x + 1 + 1) _ ((result_past n w _ (word_past static c.Static at _ s)).1).1).1
