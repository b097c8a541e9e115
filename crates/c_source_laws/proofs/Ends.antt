-- What is derived ends no earlier than it begins, and behind two tokens for each of its cases.
use Rattle.std.proofs.Common.{◌≡◌, ◌≤◌, ◌<◌, ◌+◌, ℕ, Bool, true, false, List, [], ◌∷◌, Option, Some, None, refl, arith}
use Rattle.c_grammar.specs.declared.class.Class.{Class}
use Rattle.c_grammar.specs.Expressions.{Base, CharBase, IntBase, LongBase, LongIntBase, NumberType, OfBase, Signed, SignedOf, Unsigned, UnsignedOf, Expression, One, More, Assignment, To, Value, Conditional, Choose, Only, Binary, Single, Both, Unary, Prefixed, StepTo, CastTo, CastVoid, Place, StepAfter, CallNone, CallWith, Number, Character, Within, Target, Variable, Cell, Round, Arguments, Last, Then, Argument, Given, Written, Texts, OneText, MoreTexts}
use Rattle.c_grammar.specs.ExpressionSyntax.{base_end, type_end, expression_end, assignment_end, conditional_end, binary_end, unary_end, target_end, arguments_end, argument_end, texts_end}
use Rattle.c_grammar.specs.Statements.{Size, NoSize, Unsized, Sized, Initialiser, OneValue, ValueList, Declarator, Declared, Local, Locals, NameLabel, CaseLabel, DefaultLabel, ForStart, StartLocal, StartValue, Braces, Items, NoItems, LocalItem, StatementItem, Statement, Labelled, Unlabelled, Plain, Compound, Simple, If, IfElse, While, DoWhile, For, Switch, Goto, Break, Continue, Return}
use Rattle.c_grammar.specs.StatementSyntax.{word_end, more_end, rest_end, optional_end, size_end, initialiser_end, value_end, declarator_end, local_end, for_start_end, items_end, statement_end, plain_end}
use Rattle.c_grammar.specs.Items as s
use Rattle.c_grammar.specs.Parts.{list_of_plain}
use Rattle.reread_parts_laws.specs.WrittenStatements.{written_labels, behind_labels, written_plain, written_items, written_body}
use Rattle.c_resolving_laws.specs.Read.{label_cases, plain_cases, statement_cases, body_cases, list_cases}
use Rattle.c_source_laws.specs.Classed.{Stand}

-- ---- expressions

base_on : (at : ℕ) (b : Base) → at ≤ base_end at b
base_on at CharBase = omega arith
base_on at IntBase = omega arith
base_on at LongBase = omega arith
base_on at LongIntBase = omega arith

type_on : (at : ℕ) (n : NumberType) → at ≤ type_end at n
type_on at (OfBase b) = base_on at b
type_on at Signed = omega arith
type_on at (SignedOf b) = let h = base_on (at + 1) b in omega (arith, h)
type_on at Unsigned = omega arith
type_on at (UnsignedOf b) = let h = base_on (at + 1) b in omega (arith, h)

texts_on : (at : ℕ) (n : Texts) → at ≤ texts_end at n
texts_on at OneText = omega arith
texts_on at (MoreTexts n) = let h = texts_on (at + 1) n in omega (arith, h)

mutual
  pub expression_on : (at : ℕ) (e : Expression) → at ≤ expression_end at e
  expression_on at (One a) = assignment_on at a
  expression_on at (More a e) = let g = assignment_on at a in let h = expression_on (assignment_end at a + 1) e in omega (arith, g, h)

  assignment_on : (at : ℕ) (a : Assignment) → at ≤ assignment_end at a
  assignment_on at (To t m a) = let g = target_on at t in let h = assignment_on (target_end at t + 1) a in omega (arith, g, h)
  assignment_on at (Value d) = conditional_on at d

  conditional_on : (at : ℕ) (d : Conditional) → at ≤ conditional_end at d
  conditional_on at (Choose b e d) =
      let f = binary_on at b in let g = expression_on (binary_end at b + 1) e in let h =
      conditional_on (expression_end (binary_end at b + 1) e + 1)
      d in omega (arith, f, g, h)
  conditional_on at (Only b) = binary_on at b

  binary_on : (at : ℕ) (b : Binary) → at ≤ binary_end at b
  binary_on at (Single u) = unary_on at u
  binary_on at (Both a m b) = let g = binary_on at a in let h = binary_on (binary_end at a + 1) b in omega (arith, g, h)

  unary_on : (at : ℕ) (u : Unary) → at ≤ unary_end at u
  unary_on at (Prefixed m u) = let h = unary_on (at + 1) u in omega (arith, h)
  unary_on at (StepTo t) = let h = target_on (at + 1) t in omega (arith, h)
  unary_on at (CastTo n u) = let g = type_on (at + 1) n in let h = unary_on (type_end (at + 1) n + 1) u in omega (arith, g, h)
  unary_on at (CastVoid u) = let h = unary_on (at + 1 + 1 + 1) u in omega (arith, h)
  unary_on at (Place t) = target_on at t
  unary_on at (StepAfter t) = let h = target_on at t in omega (arith, h)
  unary_on at CallNone = omega arith
  unary_on at (CallWith xs) = let h = arguments_on (at + 1 + 1) xs in omega (arith, h)
  unary_on at Number = omega arith
  unary_on at Character = omega arith
  unary_on at (Within e) = let h = expression_on (at + 1) e in omega (arith, h)

  target_on : (at : ℕ) (t : Target) → at ≤ target_end at t
  target_on at Variable = omega arith
  target_on at (Cell e) = let h = expression_on (at + 1 + 1) e in omega (arith, h)
  target_on at (Round t) = let h = target_on (at + 1) t in omega (arith, h)

  arguments_on : (at : ℕ) (xs : Arguments) → at ≤ arguments_end at xs
  arguments_on at (Last x) = argument_on at x
  arguments_on at (Then x xs) = let g = argument_on at x in let h = arguments_on (argument_end at x + 1) xs in omega (arith, g, h)

  argument_on : (at : ℕ) (x : Argument) → at ≤ argument_end at x
  argument_on at (Given a) = assignment_on at a
  argument_on at (Written n) = texts_on at n

-- ---- declarations

pub word_on : (at : ℕ) (given : Bool) → at ≤ word_end at given
word_on at false = omega arith
word_on at true = omega arith

optional_on : (at : ℕ) (o : Option Expression) → at ≤ optional_end at o
optional_on at None = omega arith
optional_on at (Some e) = expression_on at e

size_on : (at : ℕ) (x : Size) → at ≤ size_end at x
size_on at NoSize = omega arith
size_on at Unsized = omega arith
size_on at (Sized d) = let h = conditional_on (at + 1) d in omega (arith, h)

rest_on : (xs : List Assignment) (at : ℕ) (trailing : Bool) → at ≤ rest_end assignment_end at xs trailing
rest_on [] at trailing = let h = word_on at trailing in omega (arith, h)
rest_on (x ∷ xs) at trailing = let g = assignment_on (at + 1) x in let h = rest_on xs (assignment_end (at + 1) x) trailing in omega (arith, g, h)

initialiser_on : (at : ℕ) (i : Initialiser) → at ≤ initialiser_end at i
initialiser_on at (OneValue a) = assignment_on at a
initialiser_on at (ValueList a xs trailing) = let g = assignment_on (at + 1) a in let h = rest_on xs (assignment_end (at + 1) a) trailing in omega (arith, g, h)

value_on : (at : ℕ) (o : Option Initialiser) → at ≤ value_end at o
value_on at None = omega arith
value_on at (Some i) = let h = initialiser_on (at + 1) i in omega (arith, h)

declarator_on : (at : ℕ) (d : Declarator) → at ≤ declarator_end at d
declarator_on at (Declared size value) = let g = size_on (at + 1) size in let h = value_on (size_end (at + 1) size) value in omega (arith, g, h)

further_on : (ds : List Declarator) (at : ℕ) → at ≤ more_end declarator_end at ds
further_on [] at = omega arith
further_on (d ∷ ds) at = let g = declarator_on (at + 1) d in let h = further_on ds (declarator_end (at + 1) d) in omega (arith, g, h)

pub local_on : (at : ℕ) (x : Local) → at ≤ local_end at x
local_on at (Locals constant n d ds) =
    let a = word_end at constant in
    let b = type_end a n in
    let e = word_on at constant in let f = type_on a n in let g = declarator_on b d in let h = further_on ds (declarator_end b d) in omega (arith, e, f, g, h)

start_on : (at : ℕ) (x : ForStart) → at ≤ for_start_end at x
start_on at (StartLocal x) = local_on at x
start_on at (StartValue o) = let h = optional_on at o in omega (arith, h)

-- ---- statements, with the cases in them, each of which has two tokens at least

abbrev pub twice : ℕ → ℕ
twice n = n + n

body_is : (first after : ℕ) (ls : List s.Label) (p : s.Plain) → body_cases (list_of_plain first after ls p) ≡ label_cases ls + plain_cases p
body_is first after [] (s.From a b (s.Block list)) = omega arith
body_is first after [] (s.From a b _) = refl
body_is first after (l ∷ ls) p = refl

around : (t : Statement) (at : ℕ) → twice (label_cases (written_labels at t) + plain_cases (behind_labels at t)) + at < statement_end at t →
    twice (body_cases (written_body at t)) + at < statement_end at t
around t at h = let e = body_is at (statement_end at t) (written_labels at t) (behind_labels at t) in omega (arith, e, h)

mutual
  items_cases : (xs : Items) (at : ℕ) → twice (list_cases (written_items at xs)) + at ≤ items_end at xs
  items_cases NoItems at = omega arith
  items_cases (LocalItem x xs) at = let g = local_on at x in let h = items_cases xs (local_end at x) in omega (arith, g, h)
  items_cases (StatementItem t xs) at = let g = cases t at in let h = items_cases xs (statement_end at t) in omega (arith, g, h)

  cases : (t : Statement) (at : ℕ) → twice (label_cases (written_labels at t) + plain_cases (behind_labels at t)) + at < statement_end at t
  cases (Labelled NameLabel t) at = let h = cases t (at + 1 + 1) in omega (arith, h)
  cases (Labelled (CaseLabel d) t) at = let g = conditional_on (at + 1) d in let h = cases t (conditional_end (at + 1) d + 1) in omega (arith, g, h)
  cases (Labelled DefaultLabel t) at = let h = cases t (at + 1 + 1) in omega (arith, h)
  cases (Unlabelled x) at = let h = plain_few x at in omega (arith, h)

  plain_few : (x : Plain) (at : ℕ) → twice (statement_cases (written_plain at x)) + at < plain_end at x
  plain_few (Compound (Braces xs)) at = let h = items_cases xs (at + 1) in omega (arith, h)
  plain_few (Simple None) at = omega arith
  plain_few (Simple (Some e)) at = let h = expression_on at e in omega (arith, h)
  plain_few (If e t) at = let g = expression_on (at + 1 + 1) e in let h =
      around t (expression_end (at + 1 + 1) e + 1)
      (cases t (expression_end (at + 1 + 1) e + 1)) in omega (arith, g, h)
  plain_few (IfElse e t u) at =
      let x = expression_end (at + 1 + 1) e + 1 in
      let f = expression_on (at + 1 + 1) e in let g = around t x (cases t x) in let h =
      around u (statement_end x t + 1)
      (cases u (statement_end x t + 1)) in omega (arith, f, g, h)
  plain_few (While e t) at = let g = expression_on (at + 1 + 1) e in let h =
      around t (expression_end (at + 1 + 1) e + 1)
      (cases t (expression_end (at + 1 + 1) e + 1)) in omega (arith, g, h)
  plain_few (DoWhile t e) at = let g = around t (at + 1) (cases t (at + 1)) in let h = expression_on (statement_end (at + 1) t + 1 + 1) e in omega (arith, g, h)
  plain_few (For f t u b) at =
      let x = for_start_end (at + 1 + 1) f in
      let y = optional_end x t + 1 in
      let z = optional_end y u + 1 in
      let d = start_on (at + 1 + 1) f in let e = optional_on x t in let g = optional_on y u in let h = around b z (cases b z) in omega (arith, d, e, g, h)
  plain_few (Switch e t) at = let g = expression_on (at + 1 + 1) e in let h =
      around t (expression_end (at + 1 + 1) e + 1)
      (cases t (expression_end (at + 1 + 1) e + 1)) in omega (arith, g, h)
  plain_few Goto at = omega arith
  plain_few Break at = omega arith
  plain_few Continue at = omega arith
  plain_few (Return o) at = let h = optional_on (at + 1) o in omega (arith, h)

pub body_few : (t : Statement) (at : ℕ) → twice (body_cases (written_body at t)) + at < statement_end at t
body_few t at = around t at (cases t at)

pub stand_below : (word : ℕ → List ℕ) (r : List Class) (at : ℕ) → Stand word at r → at ≤ 4294967296
stand_below word [] at s = s
stand_below word (k ∷ r) at s = let h = stand_below word r (at + 1) (s.1) in omega (arith, h)
