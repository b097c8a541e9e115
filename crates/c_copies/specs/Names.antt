-- The names of a program, each once and in byte order.
use Rattle.std.specs.Prelude.{ℕ, Bool, List, [], ◌∷◌, ◌++◌, map, Option, Some, None}
use Rattle.std.specs.List.{list_any}
use Rattle.std.specs.BTreeSet.{insert_key}
use Rattle.std.specs.Str.{bytes_eq}
use Rattle.c_types.specs.Words.{name_cmp}
use Rattle.c_tree.specs.declared.tree.Home.{Home}
use Rattle.c_tree.specs.declared.tree.Home.TheVariants as H
use Rattle.c_tree.specs.declared.tree.Expression.{Expression, Expression-F, fold-Expression}
use Rattle.c_tree.specs.declared.tree.Place.{Place, fold-Place}
use Rattle.c_tree.specs.declared.tree.Node.{Node, fold-Node}
use Rattle.c_tree.specs.declared.tree.Node.TheOpen.{Node-F, Place-F, EnumName, Array, Read, Unary, Cast, Binary, Conditional, Assign, Update, Count, Comma, Call, Var, Cell}
use Rattle.c_tree.specs.declared.tree.Test.{Test, Test-F, fold-Test}
use Rattle.c_tree.specs.declared.tree.Test.TheOpen as T
use Rattle.c_tree.specs.declared.tree.Selector.{Selector, Selector-F, fold-Selector}
use Rattle.c_tree.specs.declared.tree.Selector.TheOpen as S
use Rattle.c_tree.specs.declared.tree.Item.{Item, Item-F, fold-Item}
use Rattle.c_tree.specs.declared.tree.Item.TheOpen.{Section-F, Evaluate, Return, If, While, Do, For, Switch, Block, Local, Arm, Arrival}
use Rattle.c_tree.specs.declared.tree.Section.{Section, fold-Section}
use Rattle.c_tree.specs.declared.tree.Slot.{Slot}
use Rattle.c_tree.specs.declared.tree.EnumItem.{EnumItem}
use Rattle.c_tree.specs.declared.tree.GlobalVariable.{GlobalVariable}
use Rattle.c_tree.specs.declared.tree.Function.{Function}
use Rattle.c_tree.specs.declared.tree.Top.{Top}
use Rattle.c_tree.specs.declared.tree.Top.TheVariants as P
use Rattle.c_tree.specs.declared.tree.Program.{Program}

-- ---- sets of names

-- a rising list of names with one more name at its place, unless it is there
abbrev pub with_name : List (List ℕ) → List ℕ → List (List ℕ)
with_name known n = insert_key name_cmp known n

-- a rising list of names with some more
abbrev pub with_names : List (List ℕ) → List (List ℕ) → List (List ℕ)
with_names known [] = known
with_names known (n ∷ ns) = with_names (with_name known n) ns

-- whether a name stands in a list of names
abbrev pub has_name : List (List ℕ) → List ℕ → Bool
has_name known n = list_any (λ m. bytes_eq n m) known

-- the names of a list, each once and in byte order
abbrev pub rising : List (List ℕ) → List (List ℕ)
rising ns = with_names [] ns

-- a name, unless it is empty, as that of a parameter without a name
abbrev pub given_name : List ℕ → List (List ℕ)
given_name [] = []
given_name (c ∷ cs) = (c ∷ cs) ∷ []

-- ---- all names that stand in a part of the tree

-- the names of all parts
abbrev pub joined_names : List (List (List ℕ)) → List (List ℕ)
joined_names [] = []
joined_names (a ∷ as') = a ++ joined_names as'

abbrev pub home_names : Home → List (List ℕ)
home_names (H.Global n) = n ∷ []
home_names (H.Slot k) = []

abbrev pub node_names_step : Node-F (List (List ℕ)) (List (List ℕ)) (List (List ℕ)) → List (List ℕ)
node_names_step (EnumName n v) = n ∷ []
node_names_step (Array h) = home_names h
node_names_step (Read p) = p
node_names_step (Unary op a) = a
node_names_step (Cast a) = a
node_names_step (Binary op a b) = a ++ b
node_names_step (Conditional a b c) = a ++ b ++ c
node_names_step (Assign p a) = p ++ a
node_names_step (Update op p a) = p ++ a
node_names_step (Count p up after) = p
node_names_step (Comma a b) = a ++ b
node_names_step (Call f args) = f ∷ joined_names args
node_names_step _ = []

abbrev pub place_names_step : Place-F (List (List ℕ)) (List (List ℕ)) (List (List ℕ)) → List (List ℕ)
place_names_step (Var h) = home_names h
place_names_step (Cell h a) = home_names h ++ a

abbrev pub expression_names_step : Expression-F (List (List ℕ)) (List (List ℕ)) (List (List ℕ)) → List (List ℕ)
expression_names_step e = e.node

abbrev pub expression_names : Expression → List (List ℕ)
expression_names e = fold-Expression (List (List ℕ)) (List (List ℕ)) (List (List ℕ)) node_names_step place_names_step expression_names_step e

abbrev pub node_names : Node → List (List ℕ)
node_names n = fold-Node (List (List ℕ)) (List (List ℕ)) (List (List ℕ)) node_names_step place_names_step expression_names_step n

abbrev pub place_names : Place → List (List ℕ)
place_names p = fold-Place (List (List ℕ)) (List (List ℕ)) (List (List ℕ)) node_names_step place_names_step expression_names_step p

abbrev pub expressions_names : List Expression → List (List ℕ)
expressions_names es = joined_names (map expression_names es)

abbrev pub option_names : Option Expression → List (List ℕ)
option_names None = []
option_names (Some e) = expression_names e

abbrev pub given_names : Option (List Expression) → List (List ℕ)
given_names None = []
given_names (Some es) = expressions_names es

abbrev pub test_names_step : Test-F (List (List ℕ)) → List (List ℕ)
test_names_step (T.Source e) = expression_names e
test_names_step (T.AndOff l t) = t
test_names_step (T.OrOn l t) = t
test_names_step _ = []

abbrev pub test_names : Test → List (List ℕ)
test_names t = fold-Test (List (List ℕ)) test_names_step t

abbrev pub selector_names_step : Selector-F (List (List ℕ)) → List (List ℕ)
selector_names_step (S.Source e) = expression_names e
selector_names_step (S.Pick l k s) = s

abbrev pub selector_names : Selector → List (List ℕ)
selector_names s = fold-Selector (List (List ℕ)) selector_names_step s

abbrev pub item_names_step : Item-F (List (List ℕ)) (List (List ℕ)) → List (List ℕ)
item_names_step (Evaluate e) = expression_names e
item_names_step (Return e) = option_names e
item_names_step (If t a b) = test_names t ++ joined_names a ++ joined_names b
item_names_step (While t a) = test_names t ++ joined_names a
item_names_step (Do a t) = joined_names a ++ test_names t
item_names_step (For f t u a) = joined_names f ++ option_names t ++ option_names u ++ joined_names a
item_names_step (Switch s cs) = selector_names s ++ joined_names cs
item_names_step (Block a) = joined_names a
item_names_step (Local k es) = given_names es
item_names_step (Arm l e) = option_names e
item_names_step (Arrival e) = option_names e
item_names_step _ = []

abbrev pub section_names_step : Section-F (List (List ℕ)) (List (List ℕ)) → List (List ℕ)
section_names_step c = expressions_names c.cases ++ joined_names c.list

abbrev pub item_names : Item → List (List ℕ)
item_names x = fold-Item (List (List ℕ)) (List (List ℕ)) item_names_step section_names_step x

abbrev pub section_names : Section → List (List ℕ)
section_names c = fold-Section (List (List ℕ)) (List (List ℕ)) item_names_step section_names_step c

abbrev pub items_names : List Item → List (List ℕ)
items_names xs = joined_names (map item_names xs)

abbrev pub sections_names : List Section → List (List ℕ)
sections_names cs = joined_names (map section_names cs)

abbrev pub body_names : Option (List Item) → List (List ℕ)
body_names None = []
body_names (Some xs) = items_names xs

abbrev pub slot_names : Slot → List (List ℕ)
slot_names s = given_name s.name

abbrev pub slots_names : List Slot → List (List ℕ)
slots_names ss = joined_names (map slot_names ss)

abbrev pub function_names : Function → List (List ℕ)
function_names f = f.name ∷ slots_names f.slots ++ f.labels ++ body_names f.body

abbrev pub enum_names : EnumItem → List (List ℕ)
enum_names e = e.name ∷ option_names e.given

abbrev pub enums_names : List EnumItem → List (List ℕ)
enums_names es = joined_names (map enum_names es)

abbrev pub global_names : GlobalVariable → List (List ℕ)
global_names g = g.slot.name ∷ given_names g.init

abbrev pub top_names : Top → List (List ℕ)
top_names (P.Enum es) = enums_names es
top_names (P.Global g) = global_names g
top_names (P.Function f) = function_names f
top_names _ = []

abbrev pub tops_names : List Top → List (List ℕ)
tops_names ts = joined_names (map top_names ts)

-- all names that stand in a program, in text order
abbrev pub all_names : Program → List (List ℕ)
all_names p = tops_names p.tops

-- the names of a program
abbrev pub names : Program → List (List ℕ)
names p = rising (all_names p)

-- ---- the names of file scope

abbrev pub enum_name : EnumItem → List (List ℕ)
enum_name e = e.name ∷ []

abbrev pub enums_name : List EnumItem → List (List ℕ)
enums_name es = joined_names (map enum_name es)

abbrev pub top_name : Top → List (List ℕ)
top_name (P.Enum es) = enums_name es
top_name (P.Global g) = g.slot.name ∷ []
top_name (P.Function f) = f.name ∷ []
top_name _ = []

abbrev pub tops_name : List Top → List (List ℕ)
tops_name ts = joined_names (map top_name ts)

-- the names of the enum constants, variables and functions of the file, in text order
abbrev pub all_file_names : Program → List (List ℕ)
all_file_names p = tops_name p.tops

abbrev pub file_names : Program → List (List ℕ)
file_names p = rising (all_file_names p)
