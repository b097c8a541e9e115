-- The items that statements are (ISO/IEC 9899:2011, 6.8).
use Rattle.std.specs.Prelude.{Bool, true, false, cond, not, ◌||◌, List, [], ◌∷◌, ◌++◌, Option, Some, None, option_map}
use Rattle.c_tree.specs.declared.tree.Expression.{Expression}
use Rattle.c_tree.specs.declared.tree.Item as item
use Rattle.c_tree.specs.declared.tree.Test as test
use Rattle.c_tree.specs.declared.tree.Selector as selector
use Rattle.c_tree.specs.declared.tree.Section.{Section}
use Rattle.c_tree.specs.SectionLabels.{labels_passed}
use Rattle.c_grammar.specs.Terms.{Term}
use Rattle.c_grammar.specs.Items.{Declaration, Label, Start, NoStart, StartValue, StartNames, Declares, States, Plain, From, Statement, Null, Evaluate, If, IfElse, While, DoWhile, For, Switch, Block, Goto, Break, Continue, Return, Unread, Body, Braces, Lone, Items, NoItem, Then}
use Rattle.c_grammar.specs.Items as items
use Rattle.c_kinds.specs.Scopes.{Env}
use Rattle.c_kinds.specs.Values.{dropped}
use Rattle.c_kinds.specs.Typing.{typed}
use Rattle.c_statements.specs.Context.{Context, Walk, env_at, enter, leave, Before, AtEnd, AtSection, notes_at, number_in}
use Rattle.c_statements.specs.Declarations.{placeholder, value_at, kinded, all_declared, locals}
use Rattle.c_statements.specs.Labels.{has_case, labels_items, section_marks, section_cases, has_default}
use Rattle.c_statements.specs.Sections.{Reading, extended, closed, front}

-- ---- what is declared behind a statement

abbrev pub declared_by : Context → Declaration → Walk → Walk
declared_by ctx d w = all_declared ctx.word (kinded ctx.word d) d.names w

abbrev pub declaration_items : Context → Declaration → Walk → List item.Item
declaration_items ctx d w = locals ctx.word (kinded ctx.word d) d.names w

abbrev pub behind_start : Context → Start → Walk → Walk
behind_start ctx (StartNames d) w = declared_by ctx d w
behind_start ctx _ w = w

abbrev mutual
  pub behind_item : Context → items.Item → Walk → Walk
  behind_item ctx (Declares first after d) w = declared_by ctx d w
  behind_item ctx (States ls p) w = behind_plain ctx p w

  pub behind_plain : Context → Plain → Walk → Walk
  behind_plain ctx (From first after s) w = behind_statement ctx s w

  pub behind_statement : Context → Statement → Walk → Walk
  behind_statement ctx (If t b) w = behind_body ctx b w
  behind_statement ctx (IfElse t b c) w = behind_body ctx c (behind_body ctx b w)
  behind_statement ctx (While t b) w = behind_body ctx b w
  behind_statement ctx (DoWhile b t) w = behind_body ctx b w
  behind_statement ctx (For start t u b) w = leave w (behind_body ctx b (behind_start ctx start (enter w)))
  behind_statement ctx (Switch t b) w = behind_body ctx b w
  behind_statement ctx (Block b) w = behind_body ctx b w
  behind_statement ctx _ w = w

  -- a list is a scope of its own
  pub behind_body : Context → Body → Walk → Walk
  behind_body ctx (Braces first after xs) w = leave w (behind_items ctx xs (enter w))
  behind_body ctx (Lone first after x) w = leave w (behind_item ctx x (enter w))

  pub behind_items : Context → Items → Walk → Walk
  behind_items ctx NoItem w = w
  behind_items ctx (Then x xs) w = behind_items ctx xs (behind_item ctx x w)

-- ---- items

-- an expression of which a value is dropped
abbrev pub or_dropped : Option Expression → Expression
or_dropped (Some e) = e
or_dropped None = placeholder

abbrev pub dropped_at : Env → Term → Expression
dropped_at env t = or_dropped (dropped (typed env t))

abbrev pub test_at : Env → Term → test.Test
test_at env t = test.Source (value_at env t)

abbrev pub start_items : Context → Start → Walk → List item.Item
start_items ctx NoStart w = []
start_items ctx (StartValue t) w = item.Evaluate (dropped_at (env_at ctx w) t) ∷ []
start_items ctx (StartNames d) w = declaration_items ctx d w

-- a statement that begins a section of a switch
abbrev pub begun : Context → Env → List Label → List item.Item → Option Reading
begun ctx env ls xs = Some (record {
  cases = section_cases env ls;
  default = has_default ls;
  list = notes_at ctx (AtSection (items.first_label ls)) ++ section_marks ctx ls ++ xs;
})

abbrev pub sections_of : Option Reading → List item.Item → List Section
sections_of (Some s) notes = closed (extended (Some s) notes)
sections_of None notes = []

-- ---- a statement in front of the first section

-- a null statement without labels
abbrev pub is_null : List Label → Plain → Bool
is_null [] (From first after Null) = true
is_null _ _ = false

-- whether an item is an element there
abbrev pub is_element : items.Item → Bool
is_element (Declares first after d) = true
is_element (States ls p) = not (is_null ls p)

-- whether it begins a section
abbrev pub begins : items.Item → Bool
begins (Declares first after d) = false
begins (States ls p) = has_case ls

abbrev pub a_switch : Expression → List Section → List item.Item
a_switch e sections = item.Switch (selector.Source e) (labels_passed sections) ∷ []

abbrev mutual
  pub item_items : Context → items.Item → Walk → List item.Item
  item_items ctx (Declares first after d) w = notes_at ctx (Before first) ++ declaration_items ctx d w
  item_items ctx (States ls p) w = labels_items ctx (env_at ctx w) ls ++ plain_items ctx p w

  pub plain_items : Context → Plain → Walk → List item.Item
  plain_items ctx (From first after s) w = notes_at ctx (Before first) ++ statement_items ctx s w

  -- a null statement is no item
  pub statement_items : Context → Statement → Walk → List item.Item
  statement_items ctx Null w = []
  statement_items ctx (Evaluate t) w = item.Evaluate (dropped_at (env_at ctx w) t) ∷ []
  statement_items ctx (If t b) w = item.If (test_at (env_at ctx w) t) (body_items ctx b w) [] ∷ []
  statement_items ctx (IfElse t b c) w = item.If (test_at (env_at ctx w) t) (body_items ctx b w) (body_items ctx c (behind_body ctx b w)) ∷ []
  statement_items ctx (While t b) w = item.While (test_at (env_at ctx w) t) (body_items ctx b w) ∷ []
  statement_items ctx (DoWhile b t) w = item.Do (body_items ctx b w) (test_at (env_at ctx w) t) ∷ []
  statement_items ctx (For start t u b) w =
      let inner = behind_start ctx start (enter w) in
      let env = env_at ctx inner in
      item.For (start_items ctx start (enter w)) (option_map (value_at env) t) (option_map (dropped_at env) u) (body_items ctx b inner) ∷ []
  statement_items ctx (Switch t b) w = a_switch (value_at (env_at ctx w) t) (switch_sections ctx b w)
  statement_items ctx (Block b) w = item.Block (body_items ctx b w) ∷ []
  statement_items ctx (Goto at) w = item.Goto (number_in ctx.labels (ctx.word at)) ∷ []
  statement_items ctx Break w = item.Break ∷ []
  statement_items ctx Continue w = item.Continue ∷ []
  statement_items ctx (Return t) w = item.Return (option_map (value_at (env_at ctx w)) t) ∷ []
  statement_items ctx Unread w = []

  pub body_items : Context → Body → Walk → List item.Item
  body_items ctx (Braces first after xs) w = list_items ctx xs (enter w) ++ notes_at ctx (AtEnd first)
  body_items ctx (Lone first after x) w = item_items ctx x (enter w) ++ notes_at ctx (AtEnd first)

  pub list_items : Context → Items → Walk → List item.Item
  list_items ctx NoItem w = []
  list_items ctx (Then x xs) w = item_items ctx x w ++ list_items ctx xs (behind_item ctx x w)

  -- the sections of a switch, and what stands in front of them
  pub switch_sections : Context → Body → Walk → List Section
  switch_sections ctx (Braces first after xs) w = front (outside_items ctx xs (enter w)) ++ sections_from ctx None xs (notes_at ctx (AtEnd first)) (enter w)
  switch_sections ctx (Lone first after x) w = front (outside_item ctx x (enter w)) ++ sections_at ctx None x (notes_at ctx (AtEnd first)) (enter w)

  -- up to the first section
  pub outside_items : Context → Items → Walk → List item.Item
  outside_items ctx NoItem w = []
  outside_items ctx (Then x xs) w = cond (begins x) [] (outside_item ctx x w ++ outside_items ctx xs (behind_item ctx x w))

  pub outside_item : Context → items.Item → Walk → List item.Item
  outside_item ctx (Declares first after d) w = notes_at ctx (Before first) ++ declaration_items ctx d w
  outside_item ctx (States ls p) w = cond (has_case ls || is_null ls p) [] (labels_items ctx (env_at ctx w) ls ++ plain_items ctx p w)

  -- behind the section that is being read; the Notes stand at the end of the last
  pub sections_from : Context → Option Reading → Items → List item.Item → Walk → List Section
  sections_from ctx reading NoItem notes w = sections_of reading notes
  sections_from ctx reading (Then (Declares first after d) xs) notes w =
      sections_from ctx (extended reading (notes_at ctx (Before first) ++ declaration_items ctx d w)) xs notes (declared_by ctx d w)
  sections_from ctx reading (Then (States ls p) xs) notes w = elim (has_case ls) [
    | true ↦ closed reading ++ sections_from ctx (begun ctx (env_at ctx w) ls (plain_items ctx p w)) xs notes (behind_plain ctx p w)
    | false ↦ sections_from ctx (extended reading (labels_items ctx (env_at ctx w) ls ++ plain_items ctx p w)) xs notes (behind_plain ctx p w)
  ]

  pub sections_at : Context → Option Reading → items.Item → List item.Item → Walk → List Section
  sections_at ctx reading (Declares first after d) notes w = sections_of (extended reading (notes_at ctx (Before first) ++ declaration_items ctx d w)) notes
  sections_at ctx reading (States ls p) notes w = elim (has_case ls) [
    | true ↦ sections_of (begun ctx (env_at ctx w) ls (plain_items ctx p w)) notes
    | false ↦ sections_of (extended reading (labels_items ctx (env_at ctx w) ls ++ plain_items ctx p w)) notes
  ]
