-- What the derivations of local declarations and statements spell (ISO/IEC 9899:2011, 6.7 and 6.8).
use Rattle.std.specs.Prelude.{Bool, true, false, List, [], ◌∷◌, ◌++◌, Option, Some, None}
use Rattle.c_grammar.specs.declared.class.Class.{Class}
use Rattle.c_grammar.specs.declared.class.Class.TheVariants as c
use Rattle.c_grammar.specs.Expressions.{Expression}
use Rattle.c_grammar.specs.Statements.{Size, NoSize, Unsized, Sized, Initialiser, OneValue, ValueList, Declarator, Declared, Local, Locals, Label, NameLabel, CaseLabel, DefaultLabel, ForStart, StartLocal, StartValue, Block, Braces, Items, NoItems, LocalItem, StatementItem, Statement, Labelled, Unlabelled, Plain, Compound, Simple, If, IfElse, While, DoWhile, For, Switch, Goto, Break, Continue, Return}
use Rattle.c_reading_defs.specs.Symbols.{Symbol, Uncounted, Outside}
use Rattle.c_reading_defs.specs.DerivedItems.{nested}
use Rattle.c_source_laws.proofs.ExpressionSymbols.{type_symbols, expression_symbols, assignment_symbols, conditional_symbols}

-- a token that may be left out
abbrev pub word_symbols : Class → Bool → List Symbol
word_symbols k false = []
word_symbols k true = Outside k ∷ []

-- each behind a comma
abbrev pub more_symbols : {X : Type 0} → (X → List Symbol) → List X → List Symbol
more_symbols f [] = []
more_symbols f (x ∷ xs) = Outside c.Comma ∷ f x ++ more_symbols f xs

abbrev pub each_symbols : {X : Type 0} → (X → List Symbol) → X → List X → List Symbol
each_symbols f x xs = f x ++ more_symbols f xs

abbrev pub optional_symbols : Option Expression → List Symbol
optional_symbols None = []
optional_symbols (Some e) = expression_symbols e

abbrev pub size_symbols : Size → List Symbol
size_symbols NoSize = []
size_symbols Unsized = Outside c.OpenIndex ∷ Outside c.CloseIndex ∷ []
size_symbols (Sized d) = Outside c.OpenIndex ∷ conditional_symbols d ++ Outside c.CloseIndex ∷ []

abbrev pub initialiser_symbols : Initialiser → List Symbol
initialiser_symbols (OneValue a) = assignment_symbols a
initialiser_symbols (ValueList a xs trailing) = Outside c.OpenBlock ∷ each_symbols assignment_symbols a xs ++ word_symbols c.Comma trailing ++ Outside
    c.CloseBlock ∷ []

abbrev pub value_symbols : Option Initialiser → List Symbol
value_symbols None = []
value_symbols (Some i) = Outside c.Equals ∷ initialiser_symbols i

abbrev pub declarator_symbols : Declarator → List Symbol
declarator_symbols (Declared size value) = Outside c.Name ∷ size_symbols size ++ value_symbols value

abbrev pub local_symbols : Local → List Symbol
local_symbols (Locals constant n d ds) = word_symbols c.Const constant ++ type_symbols n ++ each_symbols declarator_symbols d ds ++ Outside c.Semicolon ∷ []

abbrev pub label_symbols : Label → List Symbol
label_symbols NameLabel = Uncounted c.Name ∷ Outside c.Colon ∷ []
label_symbols (CaseLabel d) = Outside c.Case ∷ conditional_symbols d ++ Outside c.Colon ∷ []
label_symbols DefaultLabel = Outside c.Default ∷ Outside c.Colon ∷ []

abbrev pub start_symbols : ForStart → List Symbol
start_symbols (StartLocal x) = local_symbols x
start_symbols (StartValue o) = optional_symbols o ++ Outside c.Semicolon ∷ []

-- an expression in brackets, behind a word
abbrev pub tested_symbols : Class → Expression → List Symbol
tested_symbols k e = Outside k ∷ Outside c.Open ∷ expression_symbols e ++ Outside c.Close ∷ []

abbrev mutual
  pub block_symbols : Block → List Symbol
  block_symbols (Braces xs) = nested (Outside c.OpenBlock ∷ items_symbols xs ++ Outside c.CloseBlock ∷ [])

  pub items_symbols : Items → List Symbol
  items_symbols NoItems = []
  items_symbols (LocalItem x xs) = local_symbols x ++ items_symbols xs
  items_symbols (StatementItem t xs) = statement_symbols t ++ items_symbols xs

  pub statement_symbols : Statement → List Symbol
  statement_symbols (Labelled x t) = label_symbols x ++ statement_symbols t
  statement_symbols (Unlabelled x) = plain_symbols x

  -- the list of a construct: a block opens the level itself
  pub body_symbols : Statement → List Symbol
  body_symbols (Unlabelled (Compound b)) = block_symbols b
  body_symbols (Unlabelled x) = nested (plain_symbols x)
  body_symbols (Labelled x t) = nested (label_symbols x ++ statement_symbols t)

  pub plain_symbols : Plain → List Symbol
  plain_symbols (Compound b) = block_symbols b
  plain_symbols (Simple o) = optional_symbols o ++ Outside c.Semicolon ∷ []
  plain_symbols (If e t) = tested_symbols c.If e ++ body_symbols t
  plain_symbols (IfElse e t u) = tested_symbols c.If e ++ body_symbols t ++ Outside c.Else ∷ body_symbols u
  plain_symbols (While e t) = tested_symbols c.While e ++ body_symbols t
  plain_symbols (DoWhile t e) = Outside c.Do ∷ body_symbols t ++ tested_symbols c.While e ++ Outside c.Semicolon ∷ []
  plain_symbols (For f t u b) =
      Outside c.For ∷ Outside c.Open ∷ start_symbols f ++ optional_symbols t ++ Outside c.Semicolon ∷ optional_symbols u ++ Outside c.Close ∷ body_symbols b
  plain_symbols (Switch e t) = tested_symbols c.Switch e ++ body_symbols t
  plain_symbols Goto = Outside c.Goto ∷ Outside c.Name ∷ Outside c.Semicolon ∷ []
  plain_symbols Break = Outside c.Break ∷ Outside c.Semicolon ∷ []
  plain_symbols Continue = Outside c.Continue ∷ Outside c.Semicolon ∷ []
  plain_symbols (Return o) = Outside c.Return ∷ optional_symbols o ++ Outside c.Semicolon ∷ []
