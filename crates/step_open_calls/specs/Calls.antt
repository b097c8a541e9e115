-- Calls of functions that have no body and are none of the library's, wherever they stand in a program.
use Rattle.std.specs.Prelude.{ℕ, Bool, false, not, ◌&&◌, ◌||◌, List, [], ◌∷◌, map, Option, None, Some, is_some}
use Rattle.c_types.specs.Words.{is_known}
use Rattle.c_tree.specs.declared.tree.Expression.{Expression, Expression-F, fold-Expression}
use Rattle.c_tree.specs.declared.tree.Place.{Place, fold-Place}
use Rattle.c_tree.specs.declared.tree.Node.{Node, fold-Node}
use Rattle.c_tree.specs.declared.tree.Node.TheOpen.{Node-F, Place-F, Read, Unary, Cast, Binary, Conditional, Assign, Update, Count, Comma, Call, Var, Cell}
use Rattle.c_tree.specs.declared.tree.Test.{Test, Test-F, fold-Test}
use Rattle.c_tree.specs.declared.tree.Test.TheOpen as T
use Rattle.c_tree.specs.declared.tree.Selector.{Selector, Selector-F, fold-Selector}
use Rattle.c_tree.specs.declared.tree.Selector.TheOpen as S
use Rattle.c_tree.specs.declared.tree.Item.{Item, Item-F, fold-Item}
use Rattle.c_tree.specs.declared.tree.Item.TheOpen.{Section-F, Evaluate, Return, If, While, Do, For, Switch, Block, Local, Arm, Arrival}
use Rattle.c_tree.specs.declared.tree.Section.{Section, fold-Section}
use Rattle.c_tree.specs.declared.tree.Top.{Top}
use Rattle.c_tree.specs.declared.tree.Top.TheVariants as P
use Rattle.c_tree.specs.declared.tree.Program.{Program}
use Rattle.jump_meaning.specs.Code.{function_named}

abbrev pub any_of : List Bool → Bool
any_of [] = false
any_of (b ∷ bs) = b || any_of bs

-- ---- whether a function is called whose name passes the test

abbrev pub node_step : (List ℕ → Bool) → Node-F Bool Bool Bool → Bool
node_step p (Read a) = a
node_step p (Unary op a) = a
node_step p (Cast a) = a
node_step p (Binary op a b) = a || b
node_step p (Conditional a b c) = a || (b || c)
node_step p (Assign a b) = a || b
node_step p (Update op a b) = a || b
node_step p (Count a up after) = a
node_step p (Comma a b) = a || b
node_step p (Call f as') = p f || any_of as'
node_step p _ = false

abbrev pub place_step : Place-F Bool Bool Bool → Bool
place_step (Var h) = false
place_step (Cell h a) = a

abbrev pub expression_step : Expression-F Bool Bool Bool → Bool
expression_step e = e.node

abbrev pub expression_calls : (List ℕ → Bool) → Expression → Bool
expression_calls p e = fold-Expression Bool Bool Bool (node_step p) place_step expression_step e

abbrev pub node_calls : (List ℕ → Bool) → Node → Bool
node_calls p n = fold-Node Bool Bool Bool (node_step p) place_step expression_step n

abbrev pub place_calls : (List ℕ → Bool) → Place → Bool
place_calls p a = fold-Place Bool Bool Bool (node_step p) place_step expression_step a

abbrev pub expressions_call : (List ℕ → Bool) → List Expression → Bool
expressions_call p es = any_of (map (expression_calls p) es)

abbrev pub option_calls : (List ℕ → Bool) → Option Expression → Bool
option_calls p None = false
option_calls p (Some e) = expression_calls p e

abbrev pub given_call : (List ℕ → Bool) → Option (List Expression) → Bool
given_call p None = false
given_call p (Some es) = expressions_call p es

abbrev pub test_step : (List ℕ → Bool) → Test-F Bool → Bool
test_step p (T.Source e) = expression_calls p e
test_step p (T.AndOff l t) = t
test_step p (T.OrOn l t) = t
test_step p _ = false

abbrev pub test_calls : (List ℕ → Bool) → Test → Bool
test_calls p t = fold-Test Bool (test_step p) t

abbrev pub selector_step : (List ℕ → Bool) → Selector-F Bool → Bool
selector_step p (S.Source e) = expression_calls p e
selector_step p (S.Pick l k s) = s

abbrev pub selector_calls : (List ℕ → Bool) → Selector → Bool
selector_calls p s = fold-Selector Bool (selector_step p) s

abbrev pub item_step : (List ℕ → Bool) → Item-F Bool Bool → Bool
item_step p (Evaluate e) = expression_calls p e
item_step p (Return e) = option_calls p e
item_step p (If t a b) = test_calls p t || (any_of a || any_of b)
item_step p (While t a) = test_calls p t || any_of a
item_step p (Do a t) = test_calls p t || any_of a
item_step p (For f t u a) = any_of f || (option_calls p t || (option_calls p u || any_of a))
item_step p (Switch s cs) = selector_calls p s || any_of cs
item_step p (Block a) = any_of a
item_step p (Local k es) = given_call p es
item_step p (Arm l e) = option_calls p e
item_step p (Arrival e) = option_calls p e
item_step p _ = false

abbrev pub section_step : (List ℕ → Bool) → Section-F Bool Bool → Bool
section_step p c = expressions_call p c.cases || any_of c.list

abbrev pub item_calls : (List ℕ → Bool) → Item → Bool
item_calls p x = fold-Item Bool Bool (item_step p) (section_step p) x

abbrev pub section_calls : (List ℕ → Bool) → Section → Bool
section_calls p c = fold-Section Bool Bool (item_step p) (section_step p) c

abbrev pub items_call : (List ℕ → Bool) → List Item → Bool
items_call p xs = any_of (map (item_calls p) xs)

abbrev pub sections_call : (List ℕ → Bool) → List Section → Bool
sections_call p cs = any_of (map (section_calls p) cs)

abbrev pub body_calls : (List ℕ → Bool) → Option (List Item) → Bool
body_calls p None = false
body_calls p (Some xs) = items_call p xs

-- in the body of a function
abbrev pub top_calls : (List ℕ → Bool) → Top → Bool
top_calls p (P.Function f) = body_calls p f.body
top_calls p _ = false

-- ---- of a program

-- no function of the name has a body, and it is no known function
abbrev pub is_open : Program → List ℕ → Bool
is_open p m = not (is_known m) && not (is_some (function_named m p.tops).body)

-- a call names a function without a body
abbrev pub has_open_call : Program → Bool
has_open_call p = any_of (map (top_calls (is_open p)) p.tops)
