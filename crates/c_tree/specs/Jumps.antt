-- Which forms of items stand in a body.
use Rattle.std.specs.Prelude.{Bool, true, false, ◌&&◌, if◌then◌else◌, List, [], ◌∷◌, map, Option, Some, None}
use Rattle.c_tree.specs.declared.tree.Item.{Item, Item-F, fold-Item}
use Rattle.c_tree.specs.declared.tree.Item.TheOpen.{Section-F, If, While, Do, For, Switch, Block, Goto, Mark, Arm, Leap, Land, Arrival}
use Rattle.c_tree.specs.declared.tree.Section.{Section, fold-Section}
use Rattle.c_tree.specs.declared.tree.Test.{Test, Source}
use Rattle.c_tree.specs.declared.tree.Selector.{Selector}
use Rattle.c_tree.specs.declared.tree.Selector as S
use Rattle.c_tree.specs.declared.tree.Function.{Function}
use Rattle.c_tree.specs.declared.tree.Top.{Top}
use Rattle.c_tree.specs.declared.tree.Top.TheVariants as P
use Rattle.c_tree.specs.declared.tree.Program.{Program}

-- whether a test is an expression of the source
abbrev pub is_source_test : Test → Bool
is_source_test (Source e) = true
is_source_test _ = false

-- whether a selector is an expression of the source
abbrev pub is_source_selector : Selector → Bool
is_source_selector (S.Source e) = true
is_source_selector _ = false

-- whether all of them are true
abbrev pub all_true : List Bool → Bool
all_true [] = true
all_true (b ∷ bs) = b && all_true bs

-- whether all that was found in the lists of an item is true
abbrev pub children_true : Item-F Bool Bool → Bool
children_true (If t a b) = all_true a && all_true b
children_true (While t a) = all_true a
children_true (Do a t) = all_true a
children_true (For f t u a) = all_true f && all_true a
children_true (Switch s cs) = all_true cs
children_true (Block a) = all_true a
children_true _ = true

-- whether an item by itself is no goto, label, jump or nested case label
abbrev pub is_jump_free_layer : Item-F Bool Bool → Bool
is_jump_free_layer (Goto l) = false
is_jump_free_layer (Mark l) = false
is_jump_free_layer (Leap l) = false
is_jump_free_layer (Arrival c) = false
is_jump_free_layer _ = true

-- whether an item by itself has a form that C has, without jumps
abbrev pub is_plain_layer : Item-F Bool Bool → Bool
is_plain_layer (Goto l) = false
is_plain_layer (Mark l) = false
is_plain_layer (Arm l c) = false
is_plain_layer (Leap l) = false
is_plain_layer (Land l) = false
is_plain_layer (Arrival c) = false
is_plain_layer (If t a b) = is_source_test t
is_plain_layer (While t a) = is_source_test t
is_plain_layer (Do a t) = is_source_test t
is_plain_layer (Switch s cs) = is_source_selector s
is_plain_layer _ = true

-- whether the test holds of an item and of all items in it
abbrev pub throughout_step : (Item-F Bool Bool → Bool) → Item-F Bool Bool → Bool
throughout_step p x = p x && children_true x

abbrev pub section_throughout_step : Section-F Bool Bool → Bool
section_throughout_step s = all_true s.list

abbrev pub holds_throughout : (Item-F Bool Bool → Bool) → Item → Bool
holds_throughout p x = fold-Item Bool Bool (throughout_step p) section_throughout_step x

abbrev pub section_holds_throughout : (Item-F Bool Bool → Bool) → Section → Bool
section_holds_throughout p c = fold-Section Bool Bool (throughout_step p) section_throughout_step c

-- whether the test holds of all items of a body, at any depth
abbrev pub all_hold_throughout : (Item-F Bool Bool → Bool) → List Item → Bool
all_hold_throughout p xs = all_true (map (holds_throughout p) xs)

-- whether no Goto, Mark, Leap or Arrival stands in a body
abbrev pub is_jump_free : List Item → Bool
is_jump_free xs = all_hold_throughout is_jump_free_layer xs

-- whether a body has no Goto, Mark, Arm, Leap, Land or Arrival, and all its tests and selectors are
-- expressions
abbrev pub is_plain : List Item → Bool
is_plain xs = all_hold_throughout is_plain_layer xs

-- whether a test holds of the body of a function, if it has one
abbrev pub body_holds : (List Item → Bool) → Option (List Item) → Bool
body_holds p None = true
body_holds p (Some xs) = p xs

-- whether a function has no guards and no jumps
abbrev pub is_plain_function : Function → Bool
is_plain_function f = body_holds is_plain f.body

-- whether a function has no jumps once its guards are variables: a flat one has no goto, label or jump,
-- and every other has no guards and no jumps
abbrev pub is_jump_free_function : Function → Bool
is_jump_free_function f = body_holds (if f.flat then is_jump_free else is_plain) f.body

-- whether a test holds of every function of a program
abbrev pub top_holds : (Function → Bool) → Top → Bool
top_holds p (P.Function f) = p f
top_holds p _ = true

abbrev pub all_functions_hold : (Function → Bool) → Program → Bool
all_functions_hold p q = all_true (map (top_holds p) q.tops)

abbrev pub is_plain_program : Program → Bool
is_plain_program q = all_functions_hold is_plain_function q

abbrev pub is_jump_free_program : Program → Bool
is_jump_free_program q = all_functions_hold is_jump_free_function q
