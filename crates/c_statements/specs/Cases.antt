-- The case and default labels that belong to a switch, nested ones among them.
use Rattle.std.specs.Prelude.{ℕ, ℤ, Bool, true, false, List, [], ◌∷◌, ◌++◌, Option, Some, None}
use Rattle.std.specs.BTreeSet.{insert_key}
use Rattle.std.specs.List.{list_any}
use Rattle.std.specs.Ordering.{eq_by_cmp, int_cmp}
use Rattle.c_types.specs.declared.kinds.IntKind.{IntKind}
use Rattle.c_types.specs.Numbers.{promoted, converted}
use Rattle.c_tree.specs.declared.tree.Expression.{Expression}
use Rattle.c_grammar.specs.Items.{Label, Named, Case, Default, Item, Declares, States, Plain, From, Statement, If, IfElse, While, DoWhile, For, Block, Body, Braces, Lone, Items, NoItem, Then}
use Rattle.c_statements.specs.declared.entries.Entry.{Entry}
use Rattle.c_statements.specs.declared.entries.Entry.TheVariants.{Value, Other}
use Rattle.c_kinds.specs.Scopes.{Env, Faults, fault_if}
use Rattle.c_kinds.specs.Constants.{constant_of}
use Rattle.c_kinds.specs.Typing.{typed}
use Rattle.c_statements.specs.Context.{Context, Walk, env_at, enter}
use Rattle.c_statements.specs.Statements.{behind_start, behind_item, behind_body}

-- behind those that were found before; a case without a value has a violation of its own
abbrev pub case_entry : ℕ → Option (Expression × ℤ) → List Entry → List Entry
case_entry at (Some c) found = found ++ Value at c.1 ∷ []
case_entry at None found = found

abbrev pub label_entry : Env → Label → List Entry → List Entry
label_entry env (Named at after) found = found
label_entry env (Default at after) found = found ++ Other at ∷ []
label_entry env (Case at after t) found = case_entry at (constant_of (typed env t)) found

abbrev pub label_entries : Env → List Label → List Entry → List Entry
label_entries env [] found = found
label_entries env (l ∷ ls) found = label_entries env ls (label_entry env l found)

-- in text order; those of a switch within belong to that
abbrev mutual
  pub item_entries : Context → Item → Walk → List Entry → List Entry
  item_entries ctx (Declares first after d) w found = found
  item_entries ctx (States ls p) w found = plain_entries ctx p w (label_entries (env_at ctx w) ls found)

  pub plain_entries : Context → Plain → Walk → List Entry → List Entry
  plain_entries ctx (From first after s) w found = statement_entries ctx s w found

  pub statement_entries : Context → Statement → Walk → List Entry → List Entry
  statement_entries ctx (If t b) w found = body_entries ctx b w found
  statement_entries ctx (IfElse t b c) w found = body_entries ctx c (behind_body ctx b w) (body_entries ctx b w found)
  statement_entries ctx (While t b) w found = body_entries ctx b w found
  statement_entries ctx (DoWhile b t) w found = body_entries ctx b w found
  statement_entries ctx (For start t u b) w found = body_entries ctx b (behind_start ctx start (enter w)) found
  statement_entries ctx (Block b) w found = body_entries ctx b w found
  statement_entries ctx _ w found = found

  pub body_entries : Context → Body → Walk → List Entry → List Entry
  body_entries ctx (Braces first after xs) w found = list_entries ctx xs (enter w) found
  body_entries ctx (Lone first after x) w found = item_entries ctx x (enter w) found

  pub list_entries : Context → Items → Walk → List Entry → List Entry
  list_entries ctx NoItem w found = found
  list_entries ctx (Then x xs) w found = list_entries ctx xs (behind_item ctx x w) (item_entries ctx x w found)

-- ---- violations: equal cases, after conversion to the promoted kind of the selector, and a second default

-- numbers in rising order, each once
abbrev pub is_among : ℤ → List ℤ → Bool
is_among v seen = list_any (eq_by_cmp int_cmp v) seen

abbrev pub with_value : ℤ → List ℤ → List ℤ
with_value v seen = insert_key int_cmp seen v

abbrev pub entry_faults : IntKind → List ℤ → Bool → List Entry → Faults → Faults
entry_faults kind seen default [] vs = vs
entry_faults kind seen default (Value at v ∷ es) vs = entry_faults kind (with_value (converted kind v) seen) default es
    (fault_if (is_among (converted kind v) seen) at 30 vs)
entry_faults kind seen default (Other at ∷ es) vs = entry_faults kind seen true es (fault_if default at 31 vs)

-- where the selector has a violation, equal cases are not looked for
abbrev pub default_faults : Bool → List Entry → Faults → Faults
default_faults default [] vs = vs
default_faults default (Value at v ∷ es) vs = default_faults default es vs
default_faults default (Other at ∷ es) vs = default_faults true es (fault_if default at 31 vs)

-- by the kind of the selector
abbrev pub switch_faults : Option IntKind → List Entry → Faults → Faults
switch_faults (Some kind) es vs = entry_faults (promoted kind) [] false es vs
switch_faults None es vs = default_faults false es vs
