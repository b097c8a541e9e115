-- The tokens of a file at which names are declared or expressions begin, in text order; behind a name also the next one.
use Rattle.std.proofs.Common.{◌+◌, ℕ, List, [], ◌∷◌, ◌++◌, Option, Some, None}
use Rattle.c_grammar.specs.Terms.{Term, first_of}
use Rattle.c_grammar.specs.Items.{Initialiser, NoValue, OneValue, ValueList, Declarator, Declaration, Label, Case, Start, NoStart, StartValue, StartNames, Item, Declares, States, Plain, From, Statement, Evaluate, If, IfElse, While, DoWhile, For, Switch, Block, Return, Body, Braces, Lone, Items, NoItem, Then}
use Rattle.c_grammar.specs.Tops.{Enumerator, Parameter, Function, Form, Line, Enum, Globals, Defines, Top}
use Rattle.c_grammar.specs.Tops as tops

-- of these, in order
abbrev pub each_marks : {W : Type 0} → (W → List ℕ) → List W → List ℕ
each_marks f [] = []
each_marks f (w ∷ ws) = f w ++ each_marks f ws

abbrev pub term_marks : Term → List ℕ
term_marks t = first_of t ∷ []

abbrev pub option_marks : Option Term → List ℕ
option_marks (Some t) = term_marks t
option_marks None = []

-- ---- declarations

abbrev pub value_marks : Initialiser → List ℕ
value_marks NoValue = []
value_marks (OneValue t) = term_marks t
value_marks (ValueList ts) = each_marks term_marks ts

abbrev pub declarator_marks : Declarator → List ℕ
declarator_marks d = d.name ∷ (d.name + 1) ∷ value_marks d.value

abbrev pub declaration_marks : Declaration → List ℕ
declaration_marks d = each_marks declarator_marks d.names

-- ---- statements

abbrev pub label_marks : Label → List ℕ
label_marks (Case at after t) = term_marks t
label_marks _ = []

abbrev pub start_marks : Start → List ℕ
start_marks NoStart = []
start_marks (StartValue t) = term_marks t
start_marks (StartNames d) = declaration_marks d

abbrev mutual
  pub item_marks : Item → List ℕ
  item_marks (Declares first after d) = declaration_marks d
  item_marks (States ls s) = each_marks label_marks ls ++ plain_marks s

  pub plain_marks : Plain → List ℕ
  plain_marks (From first after s) = statement_marks s

  pub statement_marks : Statement → List ℕ
  statement_marks (Evaluate t) = term_marks t
  statement_marks (If t b) = term_marks t ++ body_marks b
  statement_marks (IfElse t b c) = term_marks t ++ (body_marks b ++ body_marks c)
  statement_marks (While t b) = term_marks t ++ body_marks b
  statement_marks (DoWhile b t) = body_marks b ++ term_marks t
  statement_marks (For start t u b) = start_marks start ++ (option_marks t ++ (option_marks u ++ body_marks b))
  statement_marks (Switch t b) = term_marks t ++ body_marks b
  statement_marks (Block b) = body_marks b
  statement_marks (Return t) = option_marks t
  statement_marks _ = []

  pub body_marks : Body → List ℕ
  body_marks (Braces first after xs) = list_marks xs
  body_marks (Lone first after x) = item_marks x

  pub list_marks : Items → List ℕ
  list_marks NoItem = []
  list_marks (Then x xs) = item_marks x ++ list_marks xs

-- ---- files

abbrev pub name_marks : Option ℕ → List ℕ
name_marks (Some at) = at ∷ (at + 1) ∷ []
name_marks None = []

abbrev pub parameter_marks : Parameter → List ℕ
parameter_marks x = x.first ∷ (x.first + 1) ∷ name_marks x.name

abbrev pub within_marks : Option Body → List ℕ
within_marks (Some b) = body_marks b
within_marks None = []

abbrev pub inner_marks : Function → List ℕ
inner_marks f = each_marks parameter_marks f.parameters ++ within_marks f.body

abbrev pub enumerator_marks : Enumerator → List ℕ
enumerator_marks e = e.name ∷ (e.name + 1) ∷ []

abbrev pub form_marks : Form → List ℕ
form_marks (Enum es) = each_marks enumerator_marks es
form_marks (Globals static d) = declaration_marks d
form_marks (Defines f) = f.name ∷ (f.name + 1) ∷ inner_marks f
form_marks _ = []

abbrev pub top_marks : Top → List ℕ
top_marks (tops.From first after form) = form_marks form
