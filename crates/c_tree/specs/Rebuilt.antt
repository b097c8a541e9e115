-- An item put together again from what stands in the place of the items of its lists.
use Rattle.std.specs.Prelude.{List, flat_map}
use Rattle.c_tree.specs.declared.tree.Item as I
use Rattle.c_tree.specs.declared.tree.Item.{Item, Item-F}
use Rattle.c_tree.specs.declared.tree.Item.TheOpen.{Section-F, Evaluate, Return, If, While, Do, For, Switch, Block, Local, Break, Continue, Goto, Mark, Arm, Leap, Land, Arrival, Note}
use Rattle.c_tree.specs.declared.tree.Section.{Section, roll-Section}

-- the item with the items f x in the place of each x of its lists
abbrev pub rebuilt : {X : Type 0} → (X → List Item) → Item-F X Section → Item
rebuilt f (Evaluate e) = I.Evaluate e
rebuilt f (Return e) = I.Return e
rebuilt f (If t a b) = I.If t (flat_map f a) (flat_map f b)
rebuilt f (While t a) = I.While t (flat_map f a)
rebuilt f (Do a t) = I.Do (flat_map f a) t
rebuilt f (For a t u b) = I.For (flat_map f a) t u (flat_map f b)
rebuilt f (Switch s cs) = I.Switch s cs
rebuilt f (Block a) = I.Block (flat_map f a)
rebuilt f (Local x e) = I.Local x e
rebuilt f Break = I.Break
rebuilt f Continue = I.Continue
rebuilt f (Goto l) = I.Goto l
rebuilt f (Mark l) = I.Mark l
rebuilt f (Arm l e) = I.Arm l e
rebuilt f (Leap l) = I.Leap l
rebuilt f (Land l) = I.Land l
rebuilt f (Arrival e) = I.Arrival e
rebuilt f (Note b) = I.Note b

-- the section in the same way
abbrev pub rebuilt_section : {X : Type 0} → (X → List Item) → Section-F X Section → Section
rebuilt_section f s = roll-Section (record { cases = s.cases; default = s.default; list = flat_map f s.list; ends = s.ends })
