-- Labels (ISO/IEC 9899:2011, 6.8.1): those of a function, and the items that a statement's labels are.
use Rattle.std.specs.Prelude.{ℕ, Bool, true, false, cond, not, ◌||◌, List, [], ◌∷◌, ◌++◌, Option, Some, None, length}
use Rattle.c_tree.specs.declared.tree.Expression.{Expression}
use Rattle.c_tree.specs.declared.tree.Item as item
use Rattle.c_grammar.specs.Items.{Label, Named, Case, Default, Declares, States, Plain, From, Statement, Null, Evaluate, If, IfElse, While, DoWhile, For, Switch, Block, Goto, Break, Continue, Return, Unread, Body, Braces, Lone, Items, NoItem, Then}
use Rattle.c_grammar.specs.Items as items
use Rattle.c_kinds.specs.Scopes.{Env, Faults, Names, fault_if, with_entry}
use Rattle.c_kinds.specs.Typing.{constant_faults}
use Rattle.c_statements.specs.Context.{Context, Before, notes_at, number_in, has_label}
use Rattle.c_statements.specs.Declarations.{constant_at}

-- ---- the labels of a function, by the tokens of their names

-- a label's name, if it has one, and then these
abbrev pub label_name : Label → List ℕ → List ℕ
label_name (Named at after) rest = at ∷ rest
label_name _ rest = rest

-- of what may be a label
abbrev pub name_in : Option Label → List ℕ → List ℕ
name_in (Some l) rest = label_name l rest
name_in None rest = rest

abbrev pub named_in : List Label → List ℕ → List ℕ
named_in [] rest = rest
named_in (l ∷ ls) rest = label_name l (named_in ls rest)

-- in text order, and then these
abbrev mutual
  pub item_labels : items.Item → List ℕ → List ℕ
  item_labels (Declares first after d) rest = rest
  item_labels (States ls p) rest = named_in ls (plain_labels p rest)

  pub plain_labels : Plain → List ℕ → List ℕ
  plain_labels (From first after s) rest = statement_labels s rest

  pub statement_labels : Statement → List ℕ → List ℕ
  statement_labels (If t b) rest = body_labels b rest
  statement_labels (IfElse t b c) rest = body_labels b (body_labels c rest)
  statement_labels (While t b) rest = body_labels b rest
  statement_labels (DoWhile b t) rest = body_labels b rest
  statement_labels (For start t u b) rest = body_labels b rest
  statement_labels (Switch t b) rest = body_labels b rest
  statement_labels (Block b) rest = body_labels b rest
  statement_labels _ rest = rest

  pub body_labels : Body → List ℕ → List ℕ
  body_labels (Braces first after xs) rest = list_labels xs rest
  body_labels (Lone first after x) rest = item_labels x rest

  pub list_labels : Items → List ℕ → List ℕ
  list_labels NoItem rest = rest
  list_labels (Then x xs) rest = item_labels x (list_labels xs rest)

-- a name with the next number, unless it has one
abbrev pub with_number : List ℕ → Names ℕ → Names ℕ
with_number name known = cond (has_label known name) known (with_entry name (length known) known)

-- names with their numbers, in the order in which they come first, behind those that are known
abbrev pub numbers_from : Names ℕ → List (List ℕ) → Names ℕ
numbers_from known [] = known
numbers_from known (n ∷ ns) = numbers_from (with_number n known) ns

abbrev pub numbers : List (List ℕ) → Names ℕ
numbers ns = numbers_from [] ns

abbrev pub new_name : Bool → List ℕ → List (List ℕ) → List (List ℕ)
new_name known n ns = cond known ns (n ∷ ns)

-- the names that are not known, each once, in the order in which they come first
abbrev pub distinct_from : Names ℕ → List (List ℕ) → List (List ℕ)
distinct_from known [] = []
distinct_from known (n ∷ ns) = new_name (has_label known n) n (distinct_from (with_number n known) ns)

abbrev pub distinct : List (List ℕ) → List (List ℕ)
distinct ns = distinct_from [] ns

-- a label with a name that an earlier label has
abbrev pub twice_from : Names ℕ → (ℕ → List ℕ) → List ℕ → Faults → Faults
twice_from known word [] vs = vs
twice_from known word (at ∷ ats) vs = twice_from (with_number (word at) known) word ats (fault_if (has_label known (word at)) at 32 vs)

abbrev pub twice_faults : (ℕ → List ℕ) → List ℕ → Faults → Faults
twice_faults word ats vs = twice_from [] word ats vs

-- ---- the labels of a statement

abbrev pub is_case : Label → Bool
is_case (Named at after) = false
is_case _ = true

-- a case or default label among them: the statement begins a section where it stands in a switch body
abbrev pub has_case : List Label → Bool
has_case [] = false
has_case (l ∷ ls) = is_case l || has_case ls

abbrev pub mark : Context → ℕ → List item.Item
mark ctx at = notes_at ctx (Before at) ++ item.Mark (number_in ctx.labels (ctx.word at)) ∷ []

-- in a nested statement a case or default label is an Arrival
abbrev pub label_items : Context → Env → Label → List item.Item
label_items ctx env (Named at after) = mark ctx at
label_items ctx env (Case at after t) = notes_at ctx (Before at) ++ item.Arrival (Some (constant_at env t)) ∷ []
label_items ctx env (Default at after) = notes_at ctx (Before at) ++ item.Arrival None ∷ []

abbrev pub labels_items : Context → Env → List Label → List item.Item
labels_items ctx env [] = []
labels_items ctx env (l ∷ ls) = label_items ctx env l ++ labels_items ctx env ls

-- of a section: its named labels stand in its list, its cases and its default at its head
abbrev pub label_marks : Context → Label → List item.Item
label_marks ctx (Named at after) = mark ctx at
label_marks ctx _ = []

abbrev pub label_cases : Env → Label → List Expression
label_cases env (Case at after t) = constant_at env t ∷ []
label_cases env _ = []

abbrev pub is_default : Label → Bool
is_default (Default at after) = true
is_default _ = false

abbrev pub section_marks : Context → List Label → List item.Item
section_marks ctx [] = []
section_marks ctx (l ∷ ls) = label_marks ctx l ++ section_marks ctx ls

abbrev pub section_cases : Env → List Label → List Expression
section_cases env [] = []
section_cases env (l ∷ ls) = label_cases env l ++ section_cases env ls

abbrev pub has_default : List Label → Bool
has_default [] = false
has_default (l ∷ ls) = is_default l || has_default ls

-- ---- violations: a case or default label outside of a switch

abbrev pub label_faults : Env → Bool → Label → Faults → Faults
label_faults env switch (Named at after) vs = vs
label_faults env switch (Case at after t) vs = constant_faults env t (fault_if (not switch) at 29 vs)
label_faults env switch (Default at after) vs = fault_if (not switch) at 29 vs

abbrev pub labels_faults : Env → Bool → List Label → Faults → Faults
labels_faults env switch [] vs = vs
labels_faults env switch (l ∷ ls) vs = labels_faults env switch ls (label_faults env switch l vs)
