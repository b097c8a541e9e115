-- The first jump of a file, by its token: a `goto`, or a case or default label that begins no section of a switch.
use Rattle.std.specs.Prelude.{ℕ, ◌-◌, List, [], ◌∷◌, Option, Some, None}
use Rattle.c_grammar.specs.Items.{Label, Named, Case, Default, Item, Declares, States, Plain, From, Statement, If, IfElse, While, DoWhile, For, Switch, Block, Goto, Body, Braces, Lone, Items, NoItem, Then}
use Rattle.c_grammar.specs.Tops.{Top, Defines}
use Rattle.c_grammar.specs.Tops as tops

-- ---- each of these is the first jump of what it is named by, or else the one that follows it

abbrev pub label_jump : Label → Option ℕ → Option ℕ
label_jump (Named first after) rest = rest
label_jump (Case first after t) rest = Some first
label_jump (Default first after) rest = Some first

-- of what may be a label
abbrev pub jump_in : Option Label → Option ℕ → Option ℕ
jump_in (Some l) rest = label_jump l rest
jump_in None rest = rest

abbrev pub labels_jump : List Label → Option ℕ → Option ℕ
labels_jump [] rest = rest
labels_jump (l ∷ ls) rest = label_jump l (labels_jump ls rest)

abbrev mutual
  pub item_jump : Item → Option ℕ → Option ℕ
  item_jump (Declares first after d) rest = rest
  item_jump (States ls p) rest = labels_jump ls (plain_jump p rest)

  pub plain_jump : Plain → Option ℕ → Option ℕ
  plain_jump (From first after s) rest = statement_jump s rest

  -- the word `goto` stands right before the name of its label
  pub statement_jump : Statement → Option ℕ → Option ℕ
  statement_jump (If t b) rest = body_jump b rest
  statement_jump (IfElse t b c) rest = body_jump b (body_jump c rest)
  statement_jump (While t b) rest = body_jump b rest
  statement_jump (DoWhile b t) rest = body_jump b rest
  statement_jump (For start t u b) rest = body_jump b rest
  statement_jump (Switch t b) rest = switch_jump b rest
  statement_jump (Block b) rest = body_jump b rest
  statement_jump (Goto at) rest = Some (at - 1)
  statement_jump _ rest = rest

  pub body_jump : Body → Option ℕ → Option ℕ
  body_jump (Braces first after xs) rest = list_jump xs rest
  body_jump (Lone first after x) rest = item_jump x rest

  pub list_jump : Items → Option ℕ → Option ℕ
  list_jump NoItem rest = rest
  list_jump (Then x xs) rest = item_jump x (list_jump xs rest)

  -- the list of a switch: labels of its items begin its sections
  pub switch_jump : Body → Option ℕ → Option ℕ
  switch_jump (Braces first after xs) rest = sections_jump xs rest
  switch_jump (Lone first after x) rest = section_jump x rest

  pub sections_jump : Items → Option ℕ → Option ℕ
  sections_jump NoItem rest = rest
  sections_jump (Then x xs) rest = section_jump x (sections_jump xs rest)

  pub section_jump : Item → Option ℕ → Option ℕ
  section_jump (Declares first after d) rest = rest
  section_jump (States ls p) rest = plain_jump p rest

-- of what may be a body
abbrev pub block_jump : Option Body → Option ℕ → Option ℕ
block_jump (Some b) rest = body_jump b rest
block_jump None rest = rest

abbrev pub top_jump : Top → Option ℕ → Option ℕ
top_jump (tops.From first after (Defines f)) rest = block_jump f.body rest
top_jump _ rest = rest

-- the first jump of a file, if it has one
abbrev pub first_jump : List Top → Option ℕ
first_jump [] = None
first_jump (x ∷ xs) = top_jump x (first_jump xs)
