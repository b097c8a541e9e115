-- Functions that are their own plain form.
use Rattle.std.specs.Prelude.{Bool, true, false, not, ◌&&◌, ◌||◌, List, map, Some, None}
use Rattle.c_tree.specs.declared.tree.Function.{Function}
use Rattle.c_tree.specs.declared.tree.Item.{Item, Item-F, fold-Item}
use Rattle.c_tree.specs.declared.tree.Item.TheOpen as I
use Rattle.plain_laws.specs.Plain.{any_true, section_names_step}

-- whether an item is a switch or holds one, by whether the items in it do
abbrev pub switch_step : Item-F Bool Bool → Bool
switch_step (I.Switch s cs) = true
switch_step (I.If t a b) = any_true a || any_true b
switch_step (I.While t a) = any_true a
switch_step (I.Do a t) = any_true a
switch_step (I.For f t u a) = any_true f || any_true a
switch_step (I.Block a) = any_true a
switch_step _ = false

-- whether an item is a switch or holds one, at any depth
abbrev pub holds_switch : Item → Bool
holds_switch x = fold-Item Bool Bool switch_step section_names_step x

-- whether one stands in a list
abbrev pub has_switch : List Item → Bool
has_switch xs = any_true (map holds_switch xs)

-- a prototype, or a function that isn't flat and has no switch
abbrev pub stays : Function → Bool
stays f = elim f.body [ None ↦ true | Some body ↦ not f.flat && not (has_switch body) ]
