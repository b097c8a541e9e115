-- The variables of a function, which are its parameters and those that its body declares, and their numbers.
use Rattle.std.specs.Prelude.{ℕ, suc, cond, ◌==◌, List, [], ◌∷◌, ◌++◌, map, Option, Some, None}
use Rattle.c_grammar.specs.Items.{Declarator, Start, StartNames, Item, Declares, States, Plain, From, Statement, If, IfElse, While, DoWhile, For, Switch, Block, Body, Braces, Lone, Items, NoItem, Then}
use Rattle.c_grammar.specs.Tops.{Function}

-- ---- by the tokens of their names, in text order

abbrev pub name_tokens : List Declarator → List ℕ
name_tokens ds = map (λ d. d.name) ds

abbrev pub start_variables : Start → List ℕ
start_variables (StartNames d) = name_tokens d.names
start_variables _ = []

abbrev mutual
  pub item_variables : Item → List ℕ
  item_variables (Declares first after d) = name_tokens d.names
  item_variables (States ls s) = plain_variables s

  pub plain_variables : Plain → List ℕ
  plain_variables (From first after s) = statement_variables s

  pub statement_variables : Statement → List ℕ
  statement_variables (If t b) = body_variables b
  statement_variables (IfElse t b c) = body_variables b ++ body_variables c
  statement_variables (While t b) = body_variables b
  statement_variables (DoWhile b t) = body_variables b
  statement_variables (For start t u b) = start_variables start ++ body_variables b
  statement_variables (Switch t b) = body_variables b
  statement_variables (Block b) = body_variables b
  statement_variables _ = []

  pub body_variables : Body → List ℕ
  body_variables (Braces first after xs) = list_variables xs
  body_variables (Lone first after x) = item_variables x

  pub list_variables : Items → List ℕ
  list_variables NoItem = []
  list_variables (Then x xs) = item_variables x ++ list_variables xs

abbrev pub variables_within : Option Body → List ℕ
variables_within None = []
variables_within (Some b) = body_variables b

-- a parameter may have no name, and is told by its first token
abbrev pub variables_of : Function → List ℕ
variables_of f = map (λ x. x.first) f.parameters ++ variables_within f.body

-- ---- numbers

-- how many of these variables come before the one at this token
abbrev pub variable_number : List ℕ → ℕ → ℕ
variable_number [] at = 0
variable_number (v ∷ vs) at = cond (v == at) 0 (suc (variable_number vs at))
