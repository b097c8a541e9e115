-- Within the limits of a derivation no list stands too deep in others.
use Rattle.std.proofs.Common.{◌≡◌, ◌≤◌, ◌+◌, ℕ, Bool, true, false, cond, nat_lt, List, [], ◌∷◌, Option, Some, None, is_some, refl, ap, arith, true≢false}
use Rattle.std.specs.Prelude.{IfSome}
use Rattle.std.proofs.lemmas.Bool.{ltb-false}
use Rattle.c_grammar.specs.Events.{Event, Uncounted, Counted, Outside, Opened, number_of, over, earlier, first_over}
use Rattle.c_grammar.specs.Counts.{base_events, type_events, expression_events, assignment_events, conditional_events, binary_events, unary_events, target_events, arguments_events, argument_events, texts_events, optional_events, word_events, more_events, rest_events, size_events, initialiser_events, value_events, declarator_events, local_events, label_events, for_start_events, level_within, opened_by, items_events, statement_events, plain_events, constant_events, enumerator_events, enumeration_events, parameter_events, parameters_events, result_events, body_events, top_events, file_events}
use Rattle.c_grammar.specs.Expressions.{Base, CharBase, IntBase, LongBase, LongIntBase, NumberType, OfBase, Signed, SignedOf, Unsigned, UnsignedOf, Expression, One, More, Assignment, To, Value, Conditional, Choose, Only, Binary, Single, Both, Unary, Prefixed, StepTo, CastTo, CastVoid, Place, StepAfter, CallNone, CallWith, Number, Character, Within, Target, Variable, Cell, Round, Arguments, Last, Then, Argument, Given, Written, Texts, OneText, MoreTexts}
use Rattle.c_grammar.specs.ExpressionSyntax.{expression_end}
use Rattle.c_grammar.specs.Statements.{Size, NoSize, Unsized, Sized, Initialiser, OneValue, ValueList, Declarator, Declared, Local, Locals, Label, NameLabel, CaseLabel, DefaultLabel, ForStart, StartLocal, StartValue, Block, Braces, Items, NoItems, LocalItem, StatementItem, Statement, Labelled, Unlabelled, Plain, Compound, Simple, If, IfElse, While, DoWhile, For, Switch, Goto, Break, Continue, Return}
use Rattle.c_grammar.specs.StatementSyntax.{word_end, optional_end, local_end, label_end, for_start_end, statement_end}
use Rattle.c_grammar.specs.Files.{Parameter, Typed, Parameters, NoParameters, VoidParameters, SomeParameters, Enumeration, Enumerated, Declares, Defined, Top, Line, OfEnum, OfDeclaration, OfFunction}
use Rattle.c_grammar.specs.FileSyntax.{parameters_end, result_end, top_end}
use Rattle.c_grammar.specs.Tops as s
use Rattle.c_statements.specs.Measures.{plain_depth, statement_depth, body_depth, list_depth}
use Rattle.c_resolved_defs.specs.Within.{Each}
use Rattle.reread_parts_laws.specs.WrittenStatements.{behind_labels, written_plain, written_items, written_body}
use Rattle.reread_parts_laws.specs.WrittenFunctions.{written_function_body}
use Rattle.reread_parts_laws.specs.WrittenFiles.{written_form, written_tops}
use Rattle.c_source_laws.specs.Formed.{IsShallow}

-- ---- no event is over a limit

split : (a b : Option ℕ) → earlier a b ≡ None → (a ≡ None) × (b ≡ None)
split None b h = (refl, h)
split (Some n) b h = absurd (true≢false (ap is_some h))

pub back : (e : Event) (q : List Event) → first_over (e ∷ q) ≡ None → (first_over q ≡ None) × (over e q ≡ None)
back e q h = split (first_over q) (over e q) h

pub before : (e : Event) (q : List Event) → first_over (e ∷ q) ≡ None → first_over q ≡ None
before e q h = (back e q h).0

pub none_given : (b : Bool) (n : ℕ) → cond b (Some n) None ≡ None → b ≡ false
none_given true n h = absurd (true≢false (ap is_some h))
none_given false n h = refl

pub level_low : (level : ℕ) (q : List Event) → over (Opened level) q ≡ None → level ≤ 400
level_low level q h = ltb-false 400 level (none_given (nat_lt 400 level) (number_of q) h)

-- none is over a limit before these
abbrev pub Back : (List Event → List Event) → Type 0
Back k = (q : List Event) → first_over (k q) ≡ None → first_over q ≡ None

-- ---- expressions

base_back : (b : Base) → Back (base_events b)
base_back CharBase q h = before Uncounted q h
base_back IntBase q h = before Uncounted q h
base_back LongBase q h = before Uncounted q h
base_back LongIntBase q h = before Uncounted q (before Uncounted (Uncounted ∷ q) h)

pub type_back : (n : NumberType) → Back (type_events n)
type_back (OfBase b) q h = base_back b q h
type_back Signed q h = before Uncounted q h
type_back (SignedOf b) q h = before Uncounted q (base_back b (Uncounted ∷ q) h)
type_back Unsigned q h = before Uncounted q h
type_back (UnsignedOf b) q h = before Uncounted q (base_back b (Uncounted ∷ q) h)

texts_back : (n : Texts) → Back (texts_events n)
texts_back OneText q h = before Uncounted q h
texts_back (MoreTexts n) q h = before Uncounted q (texts_back n (Uncounted ∷ q) h)

mutual
  pub expression_back : (e : Expression) → Back (expression_events e)
  expression_back (One a) q h = assignment_back a q h
  expression_back (More a e) q h = let r = assignment_events a q in assignment_back a q (before Counted r (expression_back e (Counted ∷ r) h))

  pub assignment_back : (a : Assignment) → Back (assignment_events a)
  assignment_back (To t m a) q h = let r = target_events t q in target_back t q (before Counted r (assignment_back a (Counted ∷ r) h))
  assignment_back (Value d) q h = conditional_back d q h

  pub conditional_back : (d : Conditional) → Back (conditional_events d)
  conditional_back (Choose b e d) q h =
      let r = binary_events b q in
      let u = expression_events e (Counted ∷ r) in
      binary_back b q (before Counted r (expression_back e (Counted ∷ r) (before Uncounted u (conditional_back d (Uncounted ∷ u) h))))
  conditional_back (Only b) q h = binary_back b q h

  binary_back : (b : Binary) → Back (binary_events b)
  binary_back (Single u) q h = unary_back u q h
  binary_back (Both a m b) q h = let r = binary_events a q in binary_back a q (before Counted r (binary_back b (Counted ∷ r) h))

  unary_back : (u : Unary) → Back (unary_events u)
  unary_back (Prefixed m u) q h = before Counted q (unary_back u (Counted ∷ q) h)
  unary_back (StepTo t) q h = before Counted q (target_back t (Counted ∷ q) h)
  unary_back (CastTo n u) q h = let r = type_events n (Counted ∷ q) in
      before Counted q (type_back n (Counted ∷ q) (before Uncounted r (unary_back u (Uncounted ∷ r) h)))
  unary_back (CastVoid u) q h = before Counted q
      (before Uncounted (Counted ∷ q) (before Uncounted (Uncounted ∷ Counted ∷ q) (unary_back u (Uncounted ∷ Uncounted ∷ Counted ∷ q) h)))
  unary_back (Place t) q h = target_back t q h
  unary_back (StepAfter t) q h = target_back t q (before Counted (target_events t q) h)
  unary_back CallNone q h = before Uncounted q (before Counted (Uncounted ∷ q) (before Uncounted (Counted ∷ Uncounted ∷ q) h))
  unary_back (CallWith xs) q h =
      let r = Counted ∷ Uncounted ∷ q in before Uncounted q (before Counted (Uncounted ∷ q) (arguments_back xs r (before Uncounted (arguments_events xs r) h)))
  unary_back Number q h = before Uncounted q h
  unary_back Character q h = before Uncounted q h
  unary_back (Within e) q h = before Counted q (expression_back e (Counted ∷ q) (before Uncounted (expression_events e (Counted ∷ q)) h))

  target_back : (t : Target) → Back (target_events t)
  target_back Variable q h = before Uncounted q h
  target_back (Cell e) q h = let r = Counted ∷ Uncounted ∷ q in before Uncounted q
      (before Counted (Uncounted ∷ q) (expression_back e r (before Uncounted (expression_events e r) h)))
  target_back (Round t) q h = before Counted q (target_back t (Counted ∷ q) (before Uncounted (target_events t (Counted ∷ q)) h))

  arguments_back : (xs : Arguments) → Back (arguments_events xs)
  arguments_back (Last x) q h = argument_back x q h
  arguments_back (Then x xs) q h = let r = argument_events x q in argument_back x q (before Uncounted r (arguments_back xs (Uncounted ∷ r) h))

  argument_back : (x : Argument) → Back (argument_events x)
  argument_back (Given a) q h = assignment_back a q h
  argument_back (Written n) q h = texts_back n q h

-- ---- declarations

pub word_back : (given : Bool) → Back (word_events given)
word_back false q h = h
word_back true q h = before Outside q h

pub optional_back : (o : Option Expression) → Back (optional_events o)
optional_back None q h = h
optional_back (Some e) q h = expression_back e q h

pub more_back : {X : Type 0} (k : X → List Event → List Event) → ((x : X) → Back (k x)) → (xs : List X) → Back (more_events k xs)
more_back {X} k f [] q h = h
more_back {X} k f (x ∷ xs) q h = before Outside q (f x (Outside ∷ q) (more_back k f xs (k x (Outside ∷ q)) h))

pub rest_back : {X : Type 0} (k : X → List Event → List Event) → ((x : X) → Back (k x)) → (xs : List X) (trailing : Bool) → Back (rest_events k xs trailing)
rest_back {X} k f [] trailing q h = word_back trailing q (before Outside (word_events trailing q) h)
rest_back {X} k f (x ∷ xs) trailing q h = before Outside q (f x (Outside ∷ q) (rest_back k f xs trailing (k x (Outside ∷ q)) h))

pub size_back : (x : Size) → Back (size_events x)
size_back NoSize q h = h
size_back Unsized q h = before Outside q (before Outside (Outside ∷ q) h)
size_back (Sized d) q h = before Outside q (conditional_back d (Outside ∷ q) (before Outside (conditional_events d (Outside ∷ q)) h))

pub initialiser_back : (i : Initialiser) → Back (initialiser_events i)
initialiser_back (OneValue a) q h = assignment_back a q h
initialiser_back (ValueList a xs trailing) q h =
    before Outside q (assignment_back a (Outside ∷ q) (rest_back assignment_events assignment_back xs trailing (assignment_events a (Outside ∷ q)) h))

pub value_back : (o : Option Initialiser) → Back (value_events o)
value_back None q h = h
value_back (Some i) q h = before Outside q (initialiser_back i (Outside ∷ q) h)

pub declarator_back : (d : Declarator) → Back (declarator_events d)
declarator_back (Declared size value) q h = before Outside q (size_back size (Outside ∷ q) (value_back value (size_events size (Outside ∷ q)) h))

pub local_back : (x : Local) → Back (local_events x)
local_back (Locals constant n d ds) q h =
    let r = word_events constant q in
    let u = type_events n r in
    let v = declarator_events d u in
    word_back constant q (type_back n r (declarator_back d u
    (more_back declarator_events declarator_back ds v (before Outside (more_events declarator_events ds v) h))))

pub label_back : (x : Label) → Back (label_events x)
label_back NameLabel q h = before Uncounted q (before Outside (Uncounted ∷ q) h)
label_back (CaseLabel d) q h = before Outside q (conditional_back d (Outside ∷ q) (before Outside (conditional_events d (Outside ∷ q)) h))
label_back DefaultLabel q h = before Outside q (before Outside (Outside ∷ q) h)

pub start_back : (x : ForStart) → Back (for_start_events x)
start_back (StartLocal x) q h = local_back x q h
start_back (StartValue o) q h = optional_back o q (before Outside (optional_events o q) h)

-- ---- statements: none is over a limit before them, and in a list that has a level none stands too deep

record Deep (depth level : ℕ) (q : List Event) : Type 0 where
  pub none : first_over q ≡ None
  pub low : level ≤ 400 → depth + level ≤ 400

abbrev StatementDeep : Statement → Type 0
StatementDeep t = (level at : ℕ) (q : List Event) → first_over (statement_events level t q) ≡ None → Deep (plain_depth (behind_labels at t)) level q

-- a list opens its level
opened : (depth level : ℕ) (q : List Event) → Deep depth (level + 1) (Opened (level + 1) ∷ q) → Deep (depth + 1) level q
opened depth level q d =
    let m = back (Opened (level + 1)) q (d.none) in
    let a = d.low (level_low (level + 1) q (m.1)) in
    record { none = m.0; low = λ l. omega (arith, a) }

body_deep : (t : Statement) → StatementDeep t → (level at : ℕ) (q : List Event) →
    first_over (statement_events (level_within level t) t (opened_by level t q)) ≡ None → Deep (body_depth (written_body at t)) level q
body_deep (Unlabelled (Compound (Braces xs))) g level at q h = g level at q h
body_deep (Unlabelled (Simple None)) g level at q h = opened _ level q (g (level + 1) at (Opened (level + 1) ∷ q) h)
body_deep (Unlabelled _) g level at q h = opened _ level q (g (level + 1) at (Opened (level + 1) ∷ q) h)
body_deep (Labelled x t) g level at q h = opened _ level q (g (level + 1) at (Opened (level + 1) ∷ q) h)

-- it has no list
flat : (level : ℕ) (q : List Event) → first_over q ≡ None → Deep 0 level q
flat level q h = record { none = h; low = λ l. omega (arith, l) }

pub tested : (e : Expression) (q : List Event) → first_over (Outside ∷ expression_events e (Outside ∷ Outside ∷ q)) ≡ None → first_over q ≡ None
tested e q h = let r = Outside ∷ Outside ∷ q in before Outside q (before Outside (Outside ∷ q) (expression_back e r (before Outside (expression_events e r) h)))

mutual
  items_deep : (xs : Items) (level at : ℕ) (q : List Event) → first_over (items_events level xs q) ≡ None → Deep (list_depth (written_items at xs)) level q
  items_deep NoItems level at q h = flat level q h
  items_deep (LocalItem x xs) level at q h =
      let d = items_deep xs level (local_end at x) (local_events x q) h in
      record { none = local_back x q (d.none); low = λ l. let a = d.low l in omega (arith, a, l) }
  items_deep (StatementItem t xs) level at q h =
      let d = items_deep xs level (statement_end at t) (statement_events level t q) h in
      let e = statement_deep t level at q (d.none) in
      record { none = e.none; low = λ l. let a = d.low l in let b = e.low l in omega (arith, a, b) }

  statement_deep : (t : Statement) → StatementDeep t
  statement_deep (Labelled x t) level at q h =
      let d = statement_deep t level (label_end at x) (label_events x q) h in
      record { none = label_back x q (d.none); low = d.low }
  statement_deep (Unlabelled x) level at q h = plain_deep x level at q h

  plain_deep : (x : Plain) (level at : ℕ) (q : List Event) → first_over (plain_events level x q) ≡ None → Deep (statement_depth (written_plain at x)) level q
  plain_deep (Compound (Braces xs)) level at q h =
      let r = Outside ∷ Opened (level + 1) ∷ q in
      let d = items_deep xs (level + 1) (at + 1) r (before Outside (items_events (level + 1) xs r) h) in
      opened (list_depth (written_items (at + 1) xs)) level q (record { none = before Outside (Opened (level + 1) ∷ q) (d.none); low = d.low })
  plain_deep (Simple None) level at q h = flat level q (before Outside q h)
  plain_deep (Simple (Some e)) level at q h = flat level q (expression_back e q (before Outside (expression_events e q) h))
  plain_deep (If e t) level at q h =
      let r = Outside ∷ expression_events e (Outside ∷ Outside ∷ q) in
      let d = body_deep t (statement_deep t) level (expression_end (at + 1 + 1) e + 1) r h in
      record { none = tested e q (d.none); low = d.low }
  plain_deep (IfElse e t u) level at q h =
      let x = expression_end (at + 1 + 1) e + 1 in
      let r = Outside ∷ expression_events e (Outside ∷ Outside ∷ q) in
      let v = statement_events (level_within level t) t (opened_by level t r) in
      let d = body_deep u (statement_deep u) level (statement_end x t + 1) (Outside ∷ v) h in
      let f = body_deep t (statement_deep t) level x r (before Outside v (d.none)) in
      record { none = tested e q (f.none); low = λ l. let a = d.low l in let b = f.low l in omega (arith, a, b) }
  plain_deep (While e t) level at q h =
      let r = Outside ∷ expression_events e (Outside ∷ Outside ∷ q) in
      let d = body_deep t (statement_deep t) level (expression_end (at + 1 + 1) e + 1) r h in
      record { none = tested e q (d.none); low = d.low }
  plain_deep (DoWhile t e) level at q h =
      let v = statement_events (level_within level t) t (opened_by level t (Outside ∷ q)) in
      let u = expression_events e (Outside ∷ Outside ∷ v) in
      let n = tested e v (before Outside (Outside ∷ u) h) in
      let d = body_deep t (statement_deep t) level (at + 1) (Outside ∷ q) n in
      record { none = before Outside q (d.none); low = d.low }
  plain_deep (For f t u b) level at q h =
      let i = for_start_end (at + 1 + 1) f in
      let j = optional_end i t + 1 in
      let k = Outside ∷ Outside ∷ q in
      let l = for_start_events f k in
      let m = optional_events t l in
      let n = optional_events u (Outside ∷ m) in
      let d = body_deep b (statement_deep b) level (optional_end j u + 1) (Outside ∷ n) h in
      let e = optional_back t l (before Outside m (optional_back u (Outside ∷ m) (before Outside n (d.none)))) in
      record { none = before Outside q (before Outside (Outside ∷ q) (start_back f k e)); low = d.low }
  plain_deep (Switch e t) level at q h =
      let r = Outside ∷ expression_events e (Outside ∷ Outside ∷ q) in
      let d = body_deep t (statement_deep t) level (expression_end (at + 1 + 1) e + 1) r h in
      record { none = tested e q (d.none); low = d.low }
  plain_deep Goto level at q h = flat level q (before Outside q (before Outside (Outside ∷ q) (before Outside (Outside ∷ Outside ∷ q) h)))
  plain_deep Break level at q h = flat level q (before Outside q (before Outside (Outside ∷ q) h))
  plain_deep Continue level at q h = flat level q (before Outside q (before Outside (Outside ∷ q) h))
  plain_deep (Return o) level at q h = flat level q (before Outside q (optional_back o (Outside ∷ q) (before Outside (optional_events o (Outside ∷ q)) h)))

-- ---- files

constant_back : (o : Option Conditional) → Back (constant_events o)
constant_back None q h = h
constant_back (Some d) q h = before Outside q (conditional_back d (Outside ∷ q) h)

pub enumerator_back : (o : Option Conditional) → Back (enumerator_events o)
enumerator_back o q h = before Outside q (constant_back o (Outside ∷ q) h)

pub enumeration_back : (x : Enumeration) → Back (enumeration_events x)
enumeration_back (Enumerated o xs trailing) q h =
    let r = Outside ∷ Outside ∷ q in
    let u = enumerator_events o r in
    before Outside q (before Outside (Outside ∷ q)
    (enumerator_back o r (rest_back enumerator_events enumerator_back xs trailing u (before Outside (rest_events enumerator_events xs trailing u) h))))

pub parameter_back : (x : Parameter) → Back (parameter_events x)
parameter_back (Typed constant n named size) q h =
    let r = word_events constant q in
    let u = type_events n r in
    word_back constant q (type_back n r (word_back named u (size_back size (word_events named u) h)))

pub parameters_back : (xs : Parameters) → Back (parameters_events xs)
parameters_back NoParameters q h = h
parameters_back VoidParameters q h = before Outside q h
parameters_back (SomeParameters x xs) q h = parameter_back x q (more_back parameter_events parameter_back xs (parameter_events x q) h)

pub result_back : (o : Option NumberType) → Back (result_events o)
result_back None q h = before Outside q h
result_back (Some n) q h = type_back n q h

body_shallow : (b : Option Block) (at : ℕ) (q : List Event) → first_over (body_events b q) ≡ None →
    IfSome (written_function_body at b) (λ x. body_depth x ≤ 400) × (first_over q ≡ None)
body_shallow None at q h = (tt, before Outside q h)
body_shallow (Some (Braces xs)) at q h =
    let r = Outside ∷ Opened 1 ∷ q in
    let d = items_deep xs 1 (at + 1) r (before Outside (items_events 1 xs r) h) in
    let m = back (Opened 1) q (before Outside (Opened 1 ∷ q) (d.none)) in
    let a = d.low (level_low 1 q (m.1)) in
    (omega (arith, a), m.0)

pub top_shallow : (x : Top) (word : ℕ → List ℕ) (at : ℕ) (q : List Event) → first_over (top_events x q) ≡ None →
    IsShallow (s.From at (top_end at x) (written_form word at x)) × (first_over q ≡ None)
top_shallow Line word at q h = (tt, before Outside q h)
top_shallow (OfEnum x) word at q h = (tt, enumeration_back x q h)
top_shallow (OfDeclaration (Declares static x)) word at q h = (tt, word_back static q (local_back x (word_events static q) h))
top_shallow (OfFunction (Defined static n xs b)) word at q h =
    let w = word_events static q in
    let r = result_events n w in
    let p = parameters_events xs (Outside ∷ Outside ∷ r) in
    let m = body_shallow b (parameters_end (result_end (word_end at static) n + 1 + 1) xs + 1) (Outside ∷ p) h in
    let u = parameters_back xs (Outside ∷ Outside ∷ r) (before Outside p (m.1)) in
    (m.0, word_back static q (result_back n w (before Outside r (before Outside (Outside ∷ r) u))))

pub file_shallow : (xs : List Top) (word : ℕ → List ℕ) (at : ℕ) (q : List Event) → first_over (file_events xs q) ≡ None →
    Each IsShallow (written_tops word at xs) × (first_over q ≡ None)
file_shallow [] word at q h = (tt, h)
file_shallow (x ∷ xs) word at q h =
    let n = file_shallow xs word (top_end at x) (top_events x q) h in
    let m = top_shallow x word at q (n.1) in
    ((m.0, n.0), m.1)
