-- One item of a switch's body: the sections that are closed before it and read behind it, and its violations.
use Rattle.std.specs.Prelude.{ℕ, Bool, true, false, cond, not, ◌&&◌, ◌||◌, List, [], ◌∷◌, ◌++◌, Option, Some, None}
use Rattle.c_bodies.specs.declared.reading.Reading as declared
use Rattle.c_grammar.specs.declared.syntax.Syntax.{Syntax, out-Syntax}
use Rattle.c_grammar.specs.ItemViews.{item_of}
use Rattle.c_grammar.specs.Parts.{is_token}
use Rattle.c_kinds.specs.Scopes.{Faults, fault_if}
use Rattle.c_grammar.specs.Items.{Label, label_first, Item, Declares, States, Items, Then, item_first}
use Rattle.c_statements.specs.Context.{Context, Walk, Around, env_at}
use Rattle.c_statements.specs.Labels.{has_case}
use Rattle.c_statements.specs.Sections.{Reading, extended, closed, front}
pub use Rattle.c_statements.specs.Statements.{begins, is_element}
use Rattle.c_statements.specs.Statements.{begun, plain_items, item_items, outside_item, outside_items, sections_from}
use Rattle.c_statements.specs.Violations.{item_faults, list_faults, outside_faults}
use Rattle.c_tree.specs.declared.tree.Item as tree
use Rattle.c_tree.specs.declared.tree.Section.{Section}

-- the first token of the first label
abbrev pub first_of : List Label → Option ℕ
first_of [] = None
first_of (l ∷ ls) = Some (label_first l)

-- the section that is read; none in front of the first
abbrev pub reading_of : declared.Reading → Option Reading
reading_of r = cond r.begun (Some (record { cases = r.cases; default = r.default; list = r.list })) None

-- the items in front of the first section, where none was begun
abbrev pub outside_of : declared.Reading → List tree.Item
outside_of r = cond r.begun [] r.list

-- what is closed where a section is begun
abbrev pub closed_now : declared.Reading → List Section
closed_now r = front (outside_of r) ++ closed (reading_of r)

abbrev pub closed_before : declared.Reading → Item → List Section
closed_before r x = cond (begins x) (closed_now r) []

-- the items in front of the first section behind an item
abbrev pub outside_behind : Context → declared.Reading → Item → Walk → List tree.Item
outside_behind ctx r x w = cond (r.begun || begins x) [] (r.list ++ outside_item ctx x w)

-- the sections to come
abbrev pub sections_behind : Context → declared.Reading → Items → List tree.Item → Walk → List Section
sections_behind ctx r xs notes w = front (outside_of r ++ cond r.begun [] (outside_items ctx xs w)) ++ sections_from ctx (reading_of r) xs notes w

abbrev pub reading_behind : Context → Option Reading → Item → Walk → Option Reading
reading_behind ctx r (Declares first after d) w = extended r (item_items ctx (Declares first after d) w)
reading_behind ctx r (States ls p) w = cond (has_case ls) (begun ctx (env_at ctx w) ls (plain_items ctx p w)) (extended r (item_items ctx (States ls p) w))

abbrev pub is_outside : Bool → Item → Bool
is_outside begun x = not begun && not (begins x) && is_element x

-- of an item, where a section was begun or not
abbrev pub section_item_faults : Context → Around → Bool → Item → Walk → Faults → Faults
section_item_faults ctx around begun x w vs = fault_if (is_outside begun x) (item_first x) 29 (item_faults ctx around x w vs)

abbrev pub section_faults : Context → Around → Bool → Items → Walk → Faults → Faults
section_faults ctx around begun xs w vs = cond begun (list_faults ctx around xs w vs) (outside_faults ctx around xs w vs)

-- ---- the items of a node, which may be a token, and then these

abbrev pub with_node : (ℕ → List ℕ) → Syntax → Items → Items
with_node word x xs = cond (is_token (out-Syntax x).rule) xs (Then (item_of word x) xs)
