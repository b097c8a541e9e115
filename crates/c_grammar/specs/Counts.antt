-- What the limits count in the derivations: the events of their tokens, behind these.
-- The last event stands first, so each list is read from right to left; an `Opened` stands to the right of its token.
use Rattle.std.specs.Prelude.{◌+◌, ℕ, Bool, true, false, cond, List, [], ◌∷◌, Option, Some, None}
use Rattle.c_grammar.specs.Events.{Event, Uncounted, Counted, Outside, Opened}
use Rattle.c_grammar.specs.Expressions.{Base, LongIntBase, NumberType, OfBase, SignedOf, UnsignedOf, Expression, One, More, Assignment, To, Value, Conditional, Choose, Only, Binary, Single, Both, Unary, Prefixed, StepTo, CastTo, CastVoid, Place, StepAfter, CallNone, CallWith, Number, Character, Within, Target, Variable, Cell, Round, Arguments, Last, Then, Argument, Given, Written, Texts, OneText, MoreTexts}
use Rattle.c_grammar.specs.Statements.{Size, NoSize, Unsized, Sized, Initialiser, OneValue, ValueList, Declarator, Declared, Local, Locals, Label, NameLabel, CaseLabel, DefaultLabel, ForStart, StartLocal, StartValue, Block, Braces, Items, NoItems, LocalItem, StatementItem, Statement, Labelled, Unlabelled, Plain, Compound, Simple, If, IfElse, While, DoWhile, For, Switch, Goto, Break, Continue, Return, is_block}
use Rattle.c_grammar.specs.Files.{Parameter, Typed, Parameters, NoParameters, VoidParameters, SomeParameters, Enumeration, Enumerated, Declaration, Declares, Function, Defined, Top, Line, OfEnum, OfDeclaration, OfFunction}

-- ---- expressions

abbrev pub base_events : Base → List Event → List Event
base_events LongIntBase q = Uncounted ∷ Uncounted ∷ q
base_events _ q = Uncounted ∷ q

abbrev pub type_events : NumberType → List Event → List Event
type_events (OfBase b) q = base_events b q
type_events (SignedOf b) q = base_events b (Uncounted ∷ q)
type_events (UnsignedOf b) q = base_events b (Uncounted ∷ q)
type_events _ q = Uncounted ∷ q

abbrev mutual
  pub expression_events : Expression → List Event → List Event
  expression_events (One a) q = assignment_events a q
  expression_events (More a e) q = expression_events e (Counted ∷ assignment_events a q)

  pub assignment_events : Assignment → List Event → List Event
  assignment_events (To t m a) q = assignment_events a (Counted ∷ target_events t q)
  assignment_events (Value d) q = conditional_events d q

  pub conditional_events : Conditional → List Event → List Event
  conditional_events (Choose b e d) q = conditional_events d (Uncounted ∷ expression_events e (Counted ∷ binary_events b q))
  conditional_events (Only b) q = binary_events b q

  pub binary_events : Binary → List Event → List Event
  binary_events (Single u) q = unary_events u q
  binary_events (Both a m b) q = binary_events b (Counted ∷ binary_events a q)

  pub unary_events : Unary → List Event → List Event
  unary_events (Prefixed m u) q = unary_events u (Counted ∷ q)
  unary_events (StepTo t) q = target_events t (Counted ∷ q)
  unary_events (CastTo n u) q = unary_events u (Uncounted ∷ type_events n (Counted ∷ q))
  unary_events (CastVoid u) q = unary_events u (Uncounted ∷ Uncounted ∷ Counted ∷ q)
  unary_events (Place t) q = target_events t q
  unary_events (StepAfter t) q = Counted ∷ target_events t q
  unary_events CallNone q = Uncounted ∷ Counted ∷ Uncounted ∷ q
  unary_events (CallWith xs) q = Uncounted ∷ arguments_events xs (Counted ∷ Uncounted ∷ q)
  unary_events Number q = Uncounted ∷ q
  unary_events Character q = Uncounted ∷ q
  unary_events (Within e) q = Uncounted ∷ expression_events e (Counted ∷ q)

  pub target_events : Target → List Event → List Event
  target_events Variable q = Uncounted ∷ q
  target_events (Cell e) q = Uncounted ∷ expression_events e (Counted ∷ Uncounted ∷ q)
  target_events (Round t) q = Uncounted ∷ target_events t (Counted ∷ q)

  pub arguments_events : Arguments → List Event → List Event
  arguments_events (Last x) q = argument_events x q
  arguments_events (Then x xs) q = arguments_events xs (Uncounted ∷ argument_events x q)

  pub argument_events : Argument → List Event → List Event
  argument_events (Given a) q = assignment_events a q
  argument_events (Written n) q = texts_events n q

  pub texts_events : Texts → List Event → List Event
  texts_events OneText q = Uncounted ∷ q
  texts_events (MoreTexts n) q = texts_events n (Uncounted ∷ q)

-- ---- declarations: the tokens of expressions and types stand inside, all others outside

abbrev pub optional_events : Option Expression → List Event → List Event
optional_events None q = q
optional_events (Some e) q = expression_events e q

abbrev pub word_events : Bool → List Event → List Event
word_events false q = q
word_events true q = Outside ∷ q

abbrev pub more_events : {X : Type 0} → (X → List Event → List Event) → List X → List Event → List Event
more_events k [] q = q
more_events k (x ∷ xs) q = more_events k xs (k x (Outside ∷ q))

abbrev pub rest_events : {X : Type 0} → (X → List Event → List Event) → List X → Bool → List Event → List Event
rest_events k [] trailing q = Outside ∷ word_events trailing q
rest_events k (x ∷ xs) trailing q = rest_events k xs trailing (k x (Outside ∷ q))

abbrev pub size_events : Size → List Event → List Event
size_events NoSize q = q
size_events Unsized q = Outside ∷ Outside ∷ q
size_events (Sized d) q = Outside ∷ conditional_events d (Outside ∷ q)

abbrev pub initialiser_events : Initialiser → List Event → List Event
initialiser_events (OneValue a) q = assignment_events a q
initialiser_events (ValueList a xs trailing) q = rest_events assignment_events xs trailing (assignment_events a (Outside ∷ q))

abbrev pub value_events : Option Initialiser → List Event → List Event
value_events None q = q
value_events (Some i) q = initialiser_events i (Outside ∷ q)

abbrev pub declarator_events : Declarator → List Event → List Event
declarator_events (Declared size value) q = value_events value (size_events size (Outside ∷ q))

abbrev pub local_events : Local → List Event → List Event
local_events (Locals constant n d ds) q = Outside ∷ more_events declarator_events ds (declarator_events d (type_events n (word_events constant q)))

-- ---- statements, in a list of this level

abbrev pub label_events : Label → List Event → List Event
label_events NameLabel q = Outside ∷ Uncounted ∷ q
label_events (CaseLabel d) q = Outside ∷ conditional_events d (Outside ∷ q)
label_events DefaultLabel q = Outside ∷ Outside ∷ q

abbrev pub for_start_events : ForStart → List Event → List Event
for_start_events (StartLocal x) q = local_events x q
for_start_events (StartValue o) q = Outside ∷ optional_events o q

-- a block as the list of a construct opens the level itself, any other statement with its first token
abbrev pub level_within : ℕ → Statement → ℕ
level_within level s = cond (is_block s) level (level + 1)

abbrev pub opened_by : ℕ → Statement → List Event → List Event
opened_by level s q = cond (is_block s) q (Opened (level + 1) ∷ q)

abbrev mutual
  -- the list of this block has this level
  pub block_events : ℕ → Block → List Event → List Event
  block_events level (Braces xs) q = Outside ∷ items_events level xs (Outside ∷ Opened level ∷ q)

  pub items_events : ℕ → Items → List Event → List Event
  items_events level NoItems q = q
  items_events level (LocalItem x xs) q = items_events level xs (local_events x q)
  items_events level (StatementItem s xs) q = items_events level xs (statement_events level s q)

  pub statement_events : ℕ → Statement → List Event → List Event
  statement_events level (Labelled x s) q = statement_events level s (label_events x q)
  statement_events level (Unlabelled x) q = plain_events level x q

  pub plain_events : ℕ → Plain → List Event → List Event
  plain_events level (Compound b) q = block_events (level + 1) b q
  plain_events level (Simple o) q = Outside ∷ optional_events o q
  plain_events level (If e s) q = statement_events (level_within level s) s (opened_by level s (Outside ∷ expression_events e (Outside ∷ Outside ∷ q)))
  plain_events level (IfElse e s t) q =
      statement_events (level_within level t) t
      (opened_by level t (Outside ∷ statement_events (level_within level s) s (opened_by level s (Outside ∷ expression_events e (Outside ∷ Outside ∷ q)))))
  plain_events level (While e s) q = statement_events (level_within level s) s (opened_by level s (Outside ∷ expression_events e (Outside ∷ Outside ∷ q)))
  plain_events level (DoWhile s e) q = Outside ∷ Outside ∷ expression_events e
      (Outside ∷ Outside ∷ statement_events (level_within level s) s (opened_by level s (Outside ∷ q)))
  plain_events level (For x t u s) q =
      statement_events (level_within level s) s
      (opened_by level s (Outside ∷ optional_events u (Outside ∷ optional_events t (for_start_events x (Outside ∷ Outside ∷ q)))))
  plain_events level (Switch e s) q = statement_events (level_within level s) s (opened_by level s (Outside ∷ expression_events e (Outside ∷ Outside ∷ q)))
  plain_events level Goto q = Outside ∷ Outside ∷ Outside ∷ q
  plain_events level Break q = Outside ∷ Outside ∷ q
  plain_events level Continue q = Outside ∷ Outside ∷ q
  plain_events level (Return o) q = Outside ∷ optional_events o (Outside ∷ q)

-- ---- files

abbrev pub constant_events : Option Conditional → List Event → List Event
constant_events None q = q
constant_events (Some d) q = conditional_events d (Outside ∷ q)

abbrev pub enumerator_events : Option Conditional → List Event → List Event
enumerator_events value q = constant_events value (Outside ∷ q)

abbrev pub enumeration_events : Enumeration → List Event → List Event
enumeration_events (Enumerated x xs trailing) q = Outside ∷ rest_events enumerator_events xs trailing (enumerator_events x (Outside ∷ Outside ∷ q))

abbrev pub parameter_events : Parameter → List Event → List Event
parameter_events (Typed constant n named size) q = size_events size (word_events named (type_events n (word_events constant q)))

abbrev pub parameters_events : Parameters → List Event → List Event
parameters_events NoParameters q = q
parameters_events VoidParameters q = Outside ∷ q
parameters_events (SomeParameters x xs) q = more_events parameter_events xs (parameter_events x q)

abbrev pub result_events : Option NumberType → List Event → List Event
result_events None q = Outside ∷ q
result_events (Some n) q = type_events n q

-- the list of a function's body has level 1
abbrev pub body_events : Option Block → List Event → List Event
body_events None q = Outside ∷ q
body_events (Some b) q = block_events 1 b q

abbrev pub function_events : Function → List Event → List Event
function_events (Defined static n xs b) q = body_events b (Outside ∷ parameters_events xs (Outside ∷ Outside ∷ result_events n (word_events static q)))

abbrev pub declaration_events : Declaration → List Event → List Event
declaration_events (Declares static x) q = local_events x (word_events static q)

abbrev pub top_events : Top → List Event → List Event
top_events Line q = Outside ∷ q
top_events (OfEnum x) q = enumeration_events x q
top_events (OfDeclaration x) q = declaration_events x q
top_events (OfFunction x) q = function_events x q

abbrev pub file_events : List Top → List Event → List Event
file_events [] q = q
file_events (x ∷ xs) q = file_events xs (top_events x q)
