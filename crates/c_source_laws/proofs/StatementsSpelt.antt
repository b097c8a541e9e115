-- What the derivations of declarations, statements and files spell is their tokens and events.
use Rattle.std.proofs.Common.{◌≡◌, ◌+◌, ℕ, Bool, true, false, List, [], ◌∷◌, ◌++◌, Option, Some, None, ap, sym, subst, ◌∙◌, append_assoc}
use Rattle.c_grammar.specs.declared.class.Class.{Class}
use Rattle.c_grammar.specs.declared.class.Class.TheVariants as c
use Rattle.c_grammar.specs.Events.{Event}
use Rattle.c_grammar.specs.Events as ev
use Rattle.c_grammar.specs.Counts.{expression_events, word_events, more_events, rest_events, optional_events, size_events, initialiser_events, value_events, declarator_events, local_events, label_events, for_start_events, level_within, opened_by, block_events, items_events, statement_events, plain_events, enumerator_events, enumeration_events, parameter_events, parameters_events, result_events, body_events, function_events, top_events, file_events}
use Rattle.c_grammar.specs.Expressions.{NumberType, Expression, Conditional, expression_tokens, assignment_tokens}
use Rattle.c_grammar.specs.Statements.{Size, NoSize, Unsized, Sized, Initialiser, OneValue, ValueList, Declarator, Declared, Local, Locals, Label, NameLabel, CaseLabel, DefaultLabel, ForStart, StartLocal, StartValue, Block, Braces, Items, NoItems, LocalItem, StatementItem, Statement, Labelled, Unlabelled, Plain, Compound, Simple, If, IfElse, While, DoWhile, For, Switch, Goto, Break, Continue, Return, word_tokens, more_tokens, rest_tokens, optional_tokens, size_tokens, initialiser_tokens, value_tokens, declarator_tokens, local_tokens, label_tokens, for_start_tokens, block_tokens, items_tokens, statement_tokens, plain_tokens}
use Rattle.c_grammar.specs.Files.{Parameter, Typed, Parameters, NoParameters, VoidParameters, SomeParameters, Enumeration, Enumerated, Declares, Function, Defined, Top, Line, OfEnum, OfDeclaration, OfFunction, parameter_tokens, parameters_tokens, enumerator_tokens, enumeration_tokens, result_tokens, body_tokens, function_tokens, top_tokens, file_tokens}
use Rattle.c_reading_defs.specs.Symbols.{Symbol, Outside, classes_in}
use Rattle.c_source_laws.proofs.ExpressionSymbols.{assignment_symbols}
use Rattle.c_source_laws.proofs.StatementSymbols.{word_symbols, more_symbols, optional_symbols, size_symbols, initialiser_symbols, value_symbols, declarator_symbols, local_symbols, label_symbols, start_symbols, tested_symbols, block_symbols, items_symbols, statement_symbols, body_symbols, plain_symbols}
use Rattle.c_source_laws.proofs.FileSymbols.{parameter_symbols, parameters_symbols, enumerator_symbols, enumeration_symbols, declaration_symbols, result_symbols, function_symbols, top_symbols, file_symbols}
use Rattle.c_source_laws.proofs.FileSymbols as files
use Rattle.c_source_laws.proofs.Spelt.{Spelt, events, AreNested, nothing, uncounted, outside, join, in_level, type_spelt, expression_spelt, assignment_spelt, conditional_spelt}

pub word_spelt : {level : ℕ} (k : Class) (given : Bool) → Spelt level (word_tokens k given) (word_events given) (word_symbols k given)
word_spelt k false = nothing
word_spelt k true = outside k

more_spelt : {level : ℕ} {X : Type 0} (f : X → List Class → List Class) (k : X → List Event → List Event) (n : X → List Symbol) →
    ((x : X) → Spelt level (f x) (k x) (n x))
    → (xs : List X) → Spelt level (more_tokens f xs) (more_events k xs) (more_symbols n xs)
more_spelt {level} {X} f k n each [] = nothing
more_spelt {level} {X} f k n each (x ∷ xs) = join (join (outside c.Comma) (each x)) (more_spelt f k n each xs)

-- the same symbols in another order of brackets
again : {level : ℕ} {f : List Class → List Class} {k : List Event → List Event} (xs ys : List Symbol) → xs ≡ ys → Spelt level f k xs → Spelt level f k ys
again {level} {f} {k} xs ys e a = record {
  tokens = λ r. a.tokens r ∙ ap (λ z. classes_in z ++ r) e;
  counts = λ rest q. ap (λ z. events level (z ++ rest) q) (sym e) ∙ a.counts rest q;
  nests = λ rest h. subst (λ z. AreNested level (z ++ rest)) e (a.nests rest h);
}

regroup : (f m w e : List Symbol) → f ++ (m ++ w ++ e) ≡ f ++ m ++ w ++ e
regroup f m w e = sym (append_assoc f (m ++ w) e) ∙ ap (λ z. z ++ e) (sym (append_assoc f m w))

-- what stands behind commas, up to a `}`
abbrev rest_symbols : {X : Type 0} → (X → List Symbol) → List X → Bool → List Symbol
rest_symbols n xs trailing = more_symbols n xs ++ word_symbols c.Comma trailing ++ Outside c.CloseBlock ∷ []

rest_spelt : {level : ℕ} {X : Type 0} (f : X → List Class → List Class) (k : X → List Event → List Event) (n : X → List Symbol) →
    ((x : X) → Spelt level (f x) (k x) (n x))
    → (xs : List X) (trailing : Bool) → Spelt level (rest_tokens f xs trailing) (rest_events k xs trailing) (rest_symbols n xs trailing)
rest_spelt {level} {X} f k n each [] trailing = join (word_spelt c.Comma trailing) (outside c.CloseBlock)
rest_spelt {level} {X} f k n each (x ∷ xs) trailing =
    let last = word_symbols c.Comma trailing in
    let end = Outside c.CloseBlock ∷ [] in
    let front = Outside c.Comma ∷ n x in
    again (front ++ (more_symbols n xs ++ last ++ end)) (front ++ more_symbols n xs ++ last ++ end) (regroup front (more_symbols n xs) last end)
    (join (join (outside c.Comma) (each x)) (rest_spelt f k n each xs trailing))

pub optional_spelt : {level : ℕ} (o : Option Expression) → Spelt level (optional_tokens o) (optional_events o) (optional_symbols o)
optional_spelt None = nothing
optional_spelt (Some e) = expression_spelt e

pub size_spelt : {level : ℕ} (x : Size) → Spelt level (size_tokens x) (size_events x) (size_symbols x)
size_spelt NoSize = nothing
size_spelt Unsized = join (outside c.OpenIndex) (outside c.CloseIndex)
size_spelt (Sized d) = join (join (outside c.OpenIndex) (conditional_spelt d)) (outside c.CloseIndex)

initialiser_spelt : {level : ℕ} (x : Initialiser) → Spelt level (initialiser_tokens x) (initialiser_events x) (initialiser_symbols x)
initialiser_spelt (OneValue a) = assignment_spelt a
initialiser_spelt (ValueList a xs trailing) =
    let front = Outside c.OpenBlock ∷ assignment_symbols a in
    again _ _ (regroup front (more_symbols assignment_symbols xs) (word_symbols c.Comma trailing) (Outside c.CloseBlock ∷ []))
    (join (join (outside c.OpenBlock) (assignment_spelt a)) (rest_spelt assignment_tokens _ assignment_symbols assignment_spelt xs trailing))

value_spelt : {level : ℕ} (o : Option Initialiser) → Spelt level (value_tokens o) (value_events o) (value_symbols o)
value_spelt None = nothing
value_spelt (Some x) = join (outside c.Equals) (initialiser_spelt x)

pub declarator_spelt : {level : ℕ} (d : Declarator) → Spelt level (declarator_tokens d) (declarator_events d) (declarator_symbols d)
declarator_spelt (Declared size value) = join (join (outside c.Name) (size_spelt size)) (value_spelt value)

pub local_spelt : {level : ℕ} (x : Local) → Spelt level (local_tokens x) (local_events x) (local_symbols x)
local_spelt (Locals constant n d ds) = join (join (join (word_spelt c.Const constant) (type_spelt n))
    (join (declarator_spelt d) (more_spelt declarator_tokens declarator_events declarator_symbols declarator_spelt ds))) (outside c.Semicolon)

pub label_spelt : {level : ℕ} (x : Label) → Spelt level (label_tokens x) (label_events x) (label_symbols x)
label_spelt NameLabel = join (uncounted c.Name) (outside c.Colon)
label_spelt (CaseLabel d) = join (join (outside c.Case) (conditional_spelt d)) (outside c.Colon)
label_spelt DefaultLabel = join (outside c.Default) (outside c.Colon)

pub start_spelt : {level : ℕ} (x : ForStart) → Spelt level (for_start_tokens x) (for_start_events x) (start_symbols x)
start_spelt (StartLocal x) = local_spelt x
start_spelt (StartValue o) = join (optional_spelt o) (outside c.Semicolon)

pub tested_spelt : {level : ℕ} (k : Class) (e : Expression) → Spelt level (λ r. k ∷ c.Open ∷ expression_tokens e (c.Close ∷ r))
    (λ q. ev.Outside ∷ expression_events e (ev.Outside ∷ ev.Outside ∷ q)) (tested_symbols k e)
tested_spelt k e = join (join (outside k) (join (outside c.Open) (expression_spelt e))) (outside c.Close)

-- the list of a construct, and its events
abbrev body_counts : ℕ → Statement → List Event → List Event
body_counts level t q = statement_events (level_within level t) t (opened_by level t q)

lone_spelt : {level : ℕ} (x : Plain) → ((n : ℕ) → Spelt n (plain_tokens x) (plain_events n x) (plain_symbols x)) →
    Spelt level (plain_tokens x) (body_counts level (Unlabelled x)) (body_symbols (Unlabelled x))
lone_spelt {level} (Compound b) a = a level
lone_spelt {level} x a = in_level (a (level + 1))

mutual
  pub block_spelt : (level : ℕ) (b : Block) → Spelt level (block_tokens b) (block_events (level + 1) b) (block_symbols b)
  block_spelt level (Braces xs) = in_level (join (join (outside c.OpenBlock) (items_spelt (level + 1) xs)) (outside c.CloseBlock))

  pub items_spelt : (level : ℕ) (xs : Items) → Spelt level (items_tokens xs) (items_events level xs) (items_symbols xs)
  items_spelt level NoItems = nothing
  items_spelt level (LocalItem x xs) = join (local_spelt x) (items_spelt level xs)
  items_spelt level (StatementItem t xs) = join (statement_spelt level t) (items_spelt level xs)

  pub statement_spelt : (level : ℕ) (t : Statement) → Spelt level (statement_tokens t) (statement_events level t) (statement_symbols t)
  statement_spelt level (Labelled x t) = join (label_spelt x) (statement_spelt level t)
  statement_spelt level (Unlabelled x) = plain_spelt level x

  pub body_spelt : (level : ℕ) (t : Statement) → Spelt level (statement_tokens t) (body_counts level t) (body_symbols t)
  body_spelt level (Labelled x t) = in_level (join (label_spelt x) (statement_spelt (level + 1) t))
  body_spelt level (Unlabelled x) = lone_spelt x (λ n. plain_spelt n x)

  pub plain_spelt : (level : ℕ) (x : Plain) → Spelt level (plain_tokens x) (plain_events level x) (plain_symbols x)
  plain_spelt level (Compound b) = block_spelt level b
  plain_spelt level (Simple o) = join (optional_spelt o) (outside c.Semicolon)
  plain_spelt level (If e t) = join (tested_spelt c.If e) (body_spelt level t)
  plain_spelt level (IfElse e t u) = join (join (tested_spelt c.If e) (body_spelt level t)) (join (outside c.Else) (body_spelt level u))
  plain_spelt level (While e t) = join (tested_spelt c.While e) (body_spelt level t)
  plain_spelt level (DoWhile t e) = join (join (join (outside c.Do) (body_spelt level t)) (tested_spelt c.While e)) (outside c.Semicolon)
  plain_spelt level (For f t u b) =
      join (join (join (join (outside c.For) (join (outside c.Open) (start_spelt f))) (optional_spelt t))
      (join (outside c.Semicolon) (optional_spelt u))) (join (outside c.Close) (body_spelt level b))
  plain_spelt level (Switch e t) = join (tested_spelt c.Switch e) (body_spelt level t)
  plain_spelt level Goto = join (outside c.Goto) (join (outside c.Name) (outside c.Semicolon))
  plain_spelt level Break = join (outside c.Break) (outside c.Semicolon)
  plain_spelt level Continue = join (outside c.Continue) (outside c.Semicolon)
  plain_spelt level (Return o) = join (join (outside c.Return) (optional_spelt o)) (outside c.Semicolon)

-- ---- files

pub parameter_spelt : {level : ℕ} (x : Parameter) → Spelt level (parameter_tokens x) (parameter_events x) (parameter_symbols x)
parameter_spelt (Typed constant n named size) = join (join (join (word_spelt c.Const constant) (type_spelt n)) (word_spelt c.Name named)) (size_spelt size)

pub parameters_spelt : {level : ℕ} (xs : Parameters) → Spelt level (parameters_tokens xs) (parameters_events xs) (parameters_symbols xs)
parameters_spelt NoParameters = nothing
parameters_spelt VoidParameters = outside c.Void
parameters_spelt (SomeParameters x xs) = join (parameter_spelt x) (more_spelt parameter_tokens parameter_events parameter_symbols parameter_spelt xs)

pub enumerator_spelt : {level : ℕ} (o : Option Conditional) → Spelt level (enumerator_tokens o) (enumerator_events o) (enumerator_symbols o)
enumerator_spelt None = outside c.Name
enumerator_spelt (Some d) = join (outside c.Name) (join (outside c.Equals) (conditional_spelt d))

enumeration_spelt : {level : ℕ} (x : Enumeration) → Spelt level (enumeration_tokens x) (enumeration_events x) (enumeration_symbols x)
enumeration_spelt (Enumerated x xs trailing) =
    let front = Outside c.Enum ∷ Outside c.OpenBlock ∷ enumerator_symbols x in
    let more = more_symbols enumerator_symbols xs in
    let last = word_symbols c.Comma trailing in
    let close = Outside c.CloseBlock ∷ [] in
    let end = Outside c.Semicolon ∷ [] in
    again _ _ (ap (λ z. z ++ end) (regroup front more last close) ∙ append_assoc (front ++ more ++ last) close end)
    (join (join (join (outside c.Enum) (join (outside c.OpenBlock) (enumerator_spelt x)))
    (rest_spelt enumerator_tokens enumerator_events enumerator_symbols enumerator_spelt xs trailing)) (outside c.Semicolon))

pub result_spelt : {level : ℕ} (o : Option NumberType) → Spelt level (result_tokens o) (result_events o) (result_symbols o)
result_spelt None = outside c.Void
result_spelt (Some n) = type_spelt n

body_of_function : (b : Option Block) → Spelt 0 (body_tokens b) (body_events b) (files.body_symbols b)
body_of_function None = outside c.Semicolon
body_of_function (Some b) = block_spelt 0 b

pub function_spelt : (x : Function) → Spelt 0 (function_tokens x) (function_events x) (function_symbols x)
function_spelt (Defined static n xs b) =
    join (join (join (word_spelt c.Static static) (result_spelt n)) (join (outside c.Name) (join (outside c.Open) (parameters_spelt xs))))
    (join (outside c.Close) (body_of_function b))

pub top_spelt : (x : Top) → Spelt 0 (top_tokens x) (top_events x) (top_symbols x)
top_spelt Line = outside c.Directive
top_spelt (OfEnum x) = enumeration_spelt x
top_spelt (OfDeclaration (Declares static x)) = join (word_spelt c.Static static) (local_spelt x)
top_spelt (OfFunction x) = function_spelt x

pub file_spelt : (xs : List Top) → Spelt 0 (file_tokens xs) (file_events xs) (file_symbols xs)
file_spelt [] = nothing
file_spelt (x ∷ xs) = join (top_spelt x) (file_spelt xs)
