-- What the derivations of declarations and statements write (ISO/IEC 9899:2011, 6.7 and 6.8), from the number of the first token on.
use Rattle.std.specs.Prelude.{ℕ, ◌+◌, List, [], ◌∷◌, ◌++◌, Option, Some, None, option_map}
use Rattle.c_grammar.specs.declared.class.Class.TheVariants as c
use Rattle.c_grammar.specs.Expressions.{Expression}
use Rattle.c_grammar.specs.Statements.{Size, NoSize, Unsized, Sized, Initialiser, OneValue, ValueList, Declarator, Declared, Local, Locals, Label, NameLabel, CaseLabel, DefaultLabel, ForStart, StartLocal, StartValue, Block, Braces, Items, NoItems, LocalItem, StatementItem, Statement, Labelled, Unlabelled, Plain, Compound, Simple, If, IfElse, While, DoWhile, For, Switch, Goto, Break, Continue, Return}
use Rattle.c_grammar.specs.Terms.{Term}
use Rattle.c_grammar.specs.Items as s
use Rattle.c_reading_defs.specs.Symbols.{Symbol, token_behind, numbers_of}
use Rattle.c_source_laws.proofs.ExpressionSymbols.{type_symbols, assignment_symbols, conditional_symbols}
use Rattle.c_source_laws.proofs.StatementSymbols.{word_symbols, optional_symbols, size_symbols, declarator_symbols, local_symbols, label_symbols, start_symbols, tested_symbols, items_symbols, statement_symbols, body_symbols, plain_symbols}
use Rattle.c_source_laws.proofs.SourceTerms.{expression_term, assignment_term, conditional_term}

-- what stands behind commas, from the first of them on
abbrev pub further : {X Y : Type 0} → (X → List Symbol) → (ℕ → X → Y) → ℕ → List X → List Y
further symbols of at [] = []
further symbols of at (x ∷ xs) = of (at + 1) x ∷ further symbols of (token_behind (at + 1) (symbols x)) xs

-- all of a list between commas
abbrev pub each : {X Y : Type 0} → (X → List Symbol) → (ℕ → X → Y) → ℕ → X → List X → List Y
each symbols of at x xs = of at x ∷ further symbols of (token_behind at (symbols x)) xs

-- ---- declarations

-- from its bracket on
abbrev pub size_of : ℕ → Size → s.Size
size_of at NoSize = s.NoSize
size_of at Unsized = s.Unsized
size_of at (Sized d) = s.Sized (conditional_term (at + 1) d)

abbrev pub initialiser_of : ℕ → Initialiser → s.Initialiser
initialiser_of at (OneValue a) = s.OneValue (assignment_term at a)
initialiser_of at (ValueList a xs trailing) = s.ValueList (each assignment_symbols assignment_term (at + 1) a xs)

-- from its `=` on
abbrev pub value_of : ℕ → Option Initialiser → s.Initialiser
value_of at None = s.NoValue
value_of at (Some i) = initialiser_of (at + 1) i

abbrev pub declarator_of : ℕ → Declarator → s.Declarator
declarator_of at (Declared size value) = record { name = at; size = size_of (at + 1) size; value = value_of (token_behind (at + 1) (size_symbols size)) value }

abbrev pub declaration_of : ℕ → Local → s.Declaration
declaration_of at (Locals constant n d ds) =
    let x = token_behind at (word_symbols c.Const constant) in
    record { constant = constant; words = numbers_of x (type_symbols n); names = each declarator_symbols declarator_of (token_behind x (type_symbols n)) d ds }

-- ---- statements

abbrev pub optional_term : ℕ → Option Expression → Option Term
optional_term at o = option_map (expression_term at) o

abbrev pub label_of : ℕ → Label → s.Label
label_of at NameLabel = s.Named at (at + 1 + 1)
label_of at (CaseLabel d) = s.Case at (token_behind (at + 1) (conditional_symbols d) + 1) (conditional_term (at + 1) d)
label_of at DefaultLabel = s.Default at (at + 1 + 1)

abbrev pub start_of : ℕ → ForStart → s.Start
start_of at (StartLocal x) = s.StartNames (declaration_of at x)
start_of at (StartValue None) = s.NoStart
start_of at (StartValue (Some e)) = s.StartValue (expression_term at e)

abbrev pub labels_of : ℕ → Statement → List s.Label
labels_of at (Labelled x t) = label_of at x ∷ labels_of (token_behind at (label_symbols x)) t
labels_of at (Unlabelled x) = []

abbrev mutual
  pub block_of : ℕ → Block → s.Body
  block_of at (Braces xs) = s.Braces at (token_behind (at + 1) (items_symbols xs) + 1) (items_of (at + 1) xs)

  pub items_of : ℕ → Items → s.Items
  items_of at NoItems = s.NoItem
  items_of at (LocalItem x xs) = let y = token_behind at (local_symbols x) in s.Then (s.Declares at y (declaration_of at x)) (items_of y xs)
  items_of at (StatementItem t xs) = s.Then (s.States (labels_of at t) (statement_of at t)) (items_of (token_behind at (statement_symbols t)) xs)

  -- behind its labels
  pub statement_of : ℕ → Statement → s.Plain
  statement_of at (Labelled x t) = statement_of (token_behind at (label_symbols x)) t
  statement_of at (Unlabelled x) = s.From at (token_behind at (plain_symbols x)) (plain_of at x)

  -- the list of a construct: a block alone is its own list
  pub body_of : ℕ → Statement → s.Body
  body_of at (Unlabelled (Compound b)) = block_of at b
  body_of at (Unlabelled x) = let y = token_behind at (plain_symbols x) in s.Lone at y (s.States [] (s.From at y (plain_of at x)))
  body_of at (Labelled x t) =
      s.Lone at (token_behind at (label_symbols x ++ statement_symbols t))
      (s.States (label_of at x ∷ labels_of (token_behind at (label_symbols x)) t) (statement_of (token_behind at (label_symbols x)) t))

  pub plain_of : ℕ → Plain → s.Statement
  plain_of at (Compound b) = s.Block (block_of at b)
  plain_of at (Simple None) = s.Null
  plain_of at (Simple (Some e)) = s.Evaluate (expression_term at e)
  plain_of at (If e t) = s.If (expression_term (at + 1 + 1) e) (body_of (token_behind at (tested_symbols c.If e)) t)
  plain_of at (IfElse e t u) =
      let x = token_behind at (tested_symbols c.If e) in
      s.IfElse (expression_term (at + 1 + 1) e) (body_of x t) (body_of (token_behind x (body_symbols t) + 1) u)
  plain_of at (While e t) = s.While (expression_term (at + 1 + 1) e) (body_of (token_behind at (tested_symbols c.While e)) t)
  plain_of at (DoWhile t e) = s.DoWhile (body_of (at + 1) t) (expression_term (token_behind (at + 1) (body_symbols t) + 1 + 1) e)
  plain_of at (For f t u b) =
      let x = token_behind (at + 1 + 1) (start_symbols f) in
      let y = token_behind x (optional_symbols t) + 1 in
      s.For (start_of (at + 1 + 1) f) (optional_term x t) (optional_term y u) (body_of (token_behind y (optional_symbols u) + 1) b)
  plain_of at (Switch e t) = s.Switch (expression_term (at + 1 + 1) e) (body_of (token_behind at (tested_symbols c.Switch e)) t)
  plain_of at Goto = s.Goto (at + 1)
  plain_of at Break = s.Break
  plain_of at Continue = s.Continue
  plain_of at (Return o) = s.Return (optional_term (at + 1) o)
