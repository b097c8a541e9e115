-- The numbers by which a function with jumps is too tangled.
use Rattle.std.specs.Prelude.{ℕ, ◌+◌, ◌*◌, Bool, ◌||◌, nat_lt, List, [], ◌∷◌, length, max, min, Option, Some, None}
use Rattle.c_grammar.specs.Items.{Declarator, Label, Named, Start, StartNames, Item, Declares, States, Plain, From, Statement, If, IfElse, While, DoWhile, For, Switch, Block, Body, Braces, Lone, Items, NoItem, Then}
use Rattle.c_statements.specs.declared.measures.Measures.{Measures}

-- ---- statement nesting: a list is one level more than what it stands in

abbrev mutual
  pub item_depth : Item → ℕ
  item_depth (Declares first after d) = 0
  item_depth (States ls p) = plain_depth p

  pub plain_depth : Plain → ℕ
  plain_depth (From first after s) = statement_depth s

  pub statement_depth : Statement → ℕ
  statement_depth (If t b) = body_depth b
  statement_depth (IfElse t b c) = max (body_depth b) (body_depth c)
  statement_depth (While t b) = body_depth b
  statement_depth (DoWhile b t) = body_depth b
  statement_depth (For start t u b) = body_depth b
  statement_depth (Switch t b) = body_depth b
  statement_depth (Block b) = body_depth b
  statement_depth _ = 0

  pub body_depth : Body → ℕ
  body_depth (Braces first after xs) = list_depth xs + 1
  body_depth (Lone first after x) = item_depth x + 1

  pub list_depth : Items → ℕ
  list_depth NoItem = 0
  list_depth (Then x xs) = max (item_depth x) (list_depth xs)

-- a number that counts no further than 64 bits do
abbrev pub bounded : ℕ → ℕ
bounded n = min n 18446744073709551615

-- ---- the longest name of a label or a variable

-- of what may be a declarator
abbrev pub declared_length : (ℕ → List ℕ) → Option Declarator → ℕ
declared_length word (Some d) = length (word d.name)
declared_length word None = 0

abbrev pub longest_declared : (ℕ → List ℕ) → List Declarator → ℕ
longest_declared word [] = 0
longest_declared word (d ∷ ds) = max (length (word d.name)) (longest_declared word ds)

abbrev pub label_length : (ℕ → List ℕ) → Label → ℕ
label_length word (Named at after) = length (word at)
label_length word _ = 0

-- of what may be a label
abbrev pub length_in : (ℕ → List ℕ) → Option Label → ℕ
length_in word (Some l) = label_length word l
length_in word None = 0

abbrev pub longest_label : (ℕ → List ℕ) → List Label → ℕ
longest_label word [] = 0
longest_label word (l ∷ ls) = max (label_length word l) (longest_label word ls)

abbrev pub start_longest : (ℕ → List ℕ) → Start → ℕ
start_longest word (StartNames d) = longest_declared word d.names
start_longest word _ = 0

abbrev mutual
  pub item_longest : (ℕ → List ℕ) → Item → ℕ
  item_longest word (Declares first after d) = longest_declared word d.names
  item_longest word (States ls p) = max (longest_label word ls) (plain_longest word p)

  pub plain_longest : (ℕ → List ℕ) → Plain → ℕ
  plain_longest word (From first after s) = statement_longest word s

  pub statement_longest : (ℕ → List ℕ) → Statement → ℕ
  statement_longest word (If t b) = body_longest word b
  statement_longest word (IfElse t b c) = max (body_longest word b) (body_longest word c)
  statement_longest word (While t b) = body_longest word b
  statement_longest word (DoWhile b t) = body_longest word b
  statement_longest word (For start t u b) = max (start_longest word start) (body_longest word b)
  statement_longest word (Switch t b) = body_longest word b
  statement_longest word (Block b) = body_longest word b
  statement_longest word _ = 0

  pub body_longest : (ℕ → List ℕ) → Body → ℕ
  body_longest word (Braces first after xs) = list_longest word xs
  body_longest word (Lone first after x) = item_longest word x

  pub list_longest : (ℕ → List ℕ) → Items → ℕ
  list_longest word NoItem = 0
  list_longest word (Then x xs) = max (item_longest word x) (list_longest word xs)

-- ---- too tangled

abbrev pub is_tangled : Measures → Bool
is_tangled m = nat_lt 400 (m.depth + 3 * m.jumps) || nat_lt 400 (m.counted + 6 * m.labels) || nat_lt 63 m.longest

-- the numbers, counted no further than 64 bits do
abbrev pub within_bounds : Measures → Measures
within_bounds m = record { depth = bounded m.depth; counted = bounded m.counted; jumps = m.jumps; labels = m.labels; longest = m.longest }
