-- The items that statements are, each at its place (ISO/IEC 9899:2011, 6.8).
use Rattle.std.specs.Prelude.{ℕ, cond, ◌||◌, List, [], ◌∷◌, ◌++◌, map, option_map}
use Rattle.c_tree.specs.declared.tree.Item as item
use Rattle.c_tree.specs.declared.tree.Section.{Section}
use Rattle.c_tree.specs.declared.tree.Selector as selector
use Rattle.c_tree.specs.SectionLabels.{labels_passed}
use Rattle.c_grammar.specs.Items.{Declarator, Declaration, Label, Start, NoStart, StartValue, StartNames, Declares, States, Plain, From, Statement, Null, Evaluate, If, IfElse, While, DoWhile, For, Switch, Block, Goto, Break, Continue, Return, Unread, Body, Braces, Lone, Items, NoItem, Then, first_label}
use Rattle.c_grammar.specs.Items as items
use Rattle.c_statements.specs.declared.anchors.Anchor.TheVariants.{Before, AtEnd, AtSection}
use Rattle.c_statements.specs.Declarations.{initial}
use Rattle.c_statements.specs.Labels.{has_case, has_default}
use Rattle.c_statements.specs.Sections.{Reading, ended, front}
use Rattle.c_statements.specs.Statements.{is_null, begins}
use Rattle.c_reading_defs.specs.Typings.{Typing}
use Rattle.c_reading_defs.specs.Labels.{InFunction, notes_at, label_number}
use Rattle.c_reading_defs.specs.Written.{dropped_at, labels_items, section_cases, section_marks, test_at, value_at}
use Rattle.c_reading_defs.specs.Variables.{variable_number}
use Rattle.c_reading_defs.specs.Places.{Place, names, within, within_for}

abbrev pub local : Typing → InFunction → Place → Declarator → item.Item
local typing f p d = item.Local (variable_number f.variables d.name) (initial (value_at typing (names f p)) d.value)

-- one Local for each name, in order
abbrev pub declaration_items : Typing → InFunction → Declaration → Place → List item.Item
declaration_items typing f d p = map (local typing f p) d.names

-- with the Notes in front of it
abbrev pub declares_items : Typing → InFunction → ℕ → Declaration → Place → List item.Item
declares_items typing f first d p = notes_at f (Before first) ++ declaration_items typing f d p

abbrev pub start_items : Typing → InFunction → Start → Place → List item.Item
start_items typing f NoStart p = []
start_items typing f (StartValue t) p = item.Evaluate (dropped_at typing (names f p) t) ∷ []
start_items typing f (StartNames d) p = declaration_items typing f d p

-- ---- the sections of a switch

-- a section with these labels, and these items behind them
abbrev pub section_with : Typing → InFunction → Place → List Label → List item.Item → Reading
section_with typing f p ls xs = record {
  cases = section_cases typing (names f p) ls;
  default = has_default ls;
  list = notes_at f (AtSection (first_label ls)) ++ section_marks f ls ++ xs;
}

-- ---- items

abbrev mutual
  pub item_items : Typing → InFunction → items.Item → Place → List item.Item
  item_items typing f (Declares first after d) p = declares_items typing f first d p
  item_items typing f (States ls s) p = labels_items typing f (names f p) ls ++ plain_items typing f s p

  pub plain_items : Typing → InFunction → Plain → Place → List item.Item
  plain_items typing f (From first after s) p = notes_at f (Before first) ++ statement_items typing f s p

  -- a null statement is no item
  pub statement_items : Typing → InFunction → Statement → Place → List item.Item
  statement_items typing f Null p = []
  statement_items typing f (Evaluate t) p = item.Evaluate (dropped_at typing (names f p) t) ∷ []
  statement_items typing f (If t b) p = item.If (test_at typing (names f p) t) (body_items typing f b p) [] ∷ []
  statement_items typing f (IfElse t b c) p = item.If (test_at typing (names f p) t) (body_items typing f b p) (body_items typing f c p) ∷ []
  statement_items typing f (While t b) p = item.While (test_at typing (names f p) t) (body_items typing f b p) ∷ []
  statement_items typing f (DoWhile b t) p = item.Do (body_items typing f b p) (test_at typing (names f p) t) ∷ []
  statement_items typing f (For start t u b) p =
      let inner = within_for f start p in
      item.For (start_items typing f start inner) (option_map (value_at typing (names f inner)) t) (option_map (dropped_at typing (names f inner)) u)
      (body_items typing f b inner) ∷ []
  statement_items typing f (Switch t b) p = item.Switch (selector.Source (value_at typing (names f p) t)) (labels_passed (switch_sections typing f b p)) ∷ []
  statement_items typing f (Block b) p = item.Block (body_items typing f b p) ∷ []
  statement_items typing f (Goto at) p = item.Goto (label_number f.labels (f.word at)) ∷ []
  statement_items typing f Break p = item.Break ∷ []
  statement_items typing f Continue p = item.Continue ∷ []
  statement_items typing f (Return t) p = item.Return (option_map (value_at typing (names f p)) t) ∷ []
  statement_items typing f Unread p = []

  pub body_items : Typing → InFunction → Body → Place → List item.Item
  body_items typing f (Braces first after xs) p = list_items typing f xs (within f (Braces first after xs) p) ++ notes_at f (AtEnd first)
  body_items typing f (Lone first after x) p = item_items typing f x (within f (Lone first after x) p) ++ notes_at f (AtEnd first)

  pub list_items : Typing → InFunction → Items → Place → List item.Item
  list_items typing f NoItem p = []
  list_items typing f (Then x xs) p = item_items typing f x p ++ list_items typing f xs p

  -- the sections of a switch, and what stands in front of them
  pub switch_sections : Typing → InFunction → Body → Place → List Section
  switch_sections typing f (Braces first after xs) p =
      let inner = within f (Braces first after xs) p in front (outside_items typing f xs inner) ++ map ended
      (list_sections typing f xs (notes_at f (AtEnd first)) inner)
  switch_sections typing f (Lone first after x) p =
      let inner = within f (Lone first after x) p in
      front (outside_item typing f x inner) ++ map ended (item_sections typing f x (notes_at f (AtEnd first)) inner)

  -- up to the first section; null statements are left out
  pub outside_items : Typing → InFunction → Items → Place → List item.Item
  outside_items typing f NoItem p = []
  outside_items typing f (Then x xs) p = cond (begins x) [] (outside_item typing f x p ++ outside_items typing f xs p)

  pub outside_item : Typing → InFunction → items.Item → Place → List item.Item
  outside_item typing f (Declares first after d) p = declares_items typing f first d p
  outside_item typing f (States ls s) p = cond (has_case ls || is_null ls s) [] (labels_items typing f (names f p) ls ++ plain_items typing f s p)

  -- the sections of a list that ends with these Notes
  pub list_sections : Typing → InFunction → Items → List item.Item → Place → List Reading
  list_sections typing f NoItem notes p = []
  list_sections typing f (Then x xs) notes p = item_sections typing f x (run_items typing f xs notes p) p ++ list_sections typing f xs notes p

  -- the section that an item begins, if it has case labels: the item without them, and these behind it
  pub item_sections : Typing → InFunction → items.Item → List item.Item → Place → List Reading
  item_sections typing f (Declares first after d) run p = []
  item_sections typing f (States ls s) run p = cond (has_case ls) (section_with typing f p ls (plain_items typing f s p ++ run) ∷ []) []

  -- up to the next item that begins a section; the last of them ends with these Notes
  pub run_items : Typing → InFunction → Items → List item.Item → Place → List item.Item
  run_items typing f NoItem notes p = notes
  run_items typing f (Then x xs) notes p = cond (begins x) [] (item_items typing f x p ++ run_items typing f xs notes p)
