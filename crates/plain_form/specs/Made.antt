-- The plain form of a body as it is made: guards become variables or stay, and sections get their ends, in one walk.
use Rattle.std.specs.Prelude.{ℕ, List, map, Option}
use Rattle.c_tree.specs.declared.tree.Expression.{Expression}
use Rattle.c_tree.specs.declared.tree.Test.{Test, Source}
use Rattle.c_tree.specs.declared.tree.Selector.{Selector}
use Rattle.c_tree.specs.declared.tree.Selector as V
use Rattle.c_tree.specs.declared.tree.Item.{Item, Item-F, fold-Item, roll-Item, Arm, Land, If, While, Do, Switch}
use Rattle.c_tree.specs.declared.tree.Item.TheOpen as I
use Rattle.c_tree.specs.declared.tree.Section.{Section, fold-Section}
use Rattle.c_types.specs.declared.kinds.IntKind.TheVariants.{Int}
use Rattle.std.specs.Prelude.{pos}
use Rattle.c_tree.specs.SectionLabels.{labels_passed}
use Rattle.plain_laws.specs.Plain.{number, guard_set, armed, plain_test, plain_selector, slot_among, ended}
use Rattle.plain_form.specs.declared.slots.Slots.{Slots}
use Rattle.plain_form.specs.declared.slots.Guards.{Guards}
use Rattle.plain_form.specs.declared.slots.Guards.TheVariants.{Kept, Variables}

-- the slot of each label
abbrev pub slot_in : Slots → ℕ → ℕ
slot_in s l = slot_among s.base s.left l

-- a test with its guards as they become
abbrev pub test_made : Guards → Test → Test
test_made Kept t = t
test_made (Variables s) t = Source (plain_test (slot_in s) t)

-- a selector
abbrev pub selector_made : Guards → Selector → Selector
selector_made Kept s = s
selector_made (Variables b) s = V.Source (plain_selector (slot_in b) s)

-- an Arm
abbrev pub arm_made : Guards → ℕ → Option Expression → Item
arm_made Kept l e = Arm l e
arm_made (Variables s) l e = guard_set (slot_in s l) (armed e)

-- a Land
abbrev pub land_made : Guards → ℕ → Item
land_made Kept l = Land l
land_made (Variables s) l = guard_set (slot_in s l) (number Int (pos 0))

-- an item whose lists are made
abbrev pub made_step : Guards → Item-F Item Section → Item
made_step g (I.Arm l e) = arm_made g l e
made_step g (I.Land l) = land_made g l
made_step g (I.If t a b) = If (test_made g t) a b
made_step g (I.While t a) = While (test_made g t) a
made_step g (I.Do a t) = Do a (test_made g t)
made_step g (I.Switch s cs) = Switch (selector_made g s) (labels_passed cs)
made_step g x = roll-Item x

-- an item
abbrev pub made_item : Guards → Item → Item
made_item g x = fold-Item Item Section (made_step g) ended x

-- a section
abbrev pub made_section : Guards → Section → Section
made_section g c = fold-Section Item Section (made_step g) ended c

-- a list of items
abbrev pub made_items : Guards → List Item → List Item
made_items g xs = map (made_item g) xs

-- sections, before they pass labels to each other
abbrev pub made_sections : Guards → List Section → List Section
made_sections g cs = map (made_section g) cs
