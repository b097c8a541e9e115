-- Functions and programs whose numbers of slots and labels name something.
use Rattle.std.specs.Prelude.{◌≡◌, ◌<◌, ◌≤◌, length, false, All}
use Rattle.std.specs.Option.{option_map_or}
use Rattle.c_tree.specs.declared.tree.Function.{Function}
use Rattle.c_tree.specs.declared.tree.Program.{Program}
use Rattle.c_tree.specs.declared.tree.Top.{Top}
use Rattle.c_tree.specs.declared.tree.Top.TheVariants as T
use Rattle.c_tree.specs.TestTrees.{TestTree, Source, SelectorTree, Selects}
use Rattle.c_tree.specs.Trees.{Tree, Forest, Nil, If, While, Do, Switch, Arm, Leap, Land, trees_of}
use Rattle.c_tree.specs.Everywhere.{Everywhere}
use Rattle.c_tree.specs.Labels.{ItemLabels}
use Rattle.c_tree.specs.Slots.{ItemSlots}

-- the items of a function, none where it has no body
abbrev pub body_of : Function → Forest
body_of f = option_map_or trees_of f.body Nil

abbrev pub IsSourceTest : TestTree → Type 0
IsSourceTest (Source e) = Unit {0}
IsSourceTest _ = ⊥

abbrev pub IsSourceSelector : SelectorTree → Type 0
IsSourceSelector (Selects e) = Unit {0}
IsSourceSelector _ = ⊥

-- an item that no guard has to do with
abbrev pub IsUnguarded : Tree → Type 0
IsUnguarded (Arm l e) = ⊥
IsUnguarded (Leap l) = ⊥
IsUnguarded (Land l) = ⊥
IsUnguarded (If t a b) = IsSourceTest t
IsUnguarded (While t a) = IsSourceTest t
IsUnguarded (Do a t) = IsSourceTest t
IsUnguarded (Switch s c) = IsSourceSelector s
IsUnguarded _ = Unit {0}

pub record IsInRange (f : Function) : Type 0 where
  -- its parameters are slots
  pub parameters : f.params ≤ length f.slots
  -- each slot that it names is one of its slots
  pub slots : Everywhere (ItemSlots (λ x. x < length f.slots)) (body_of f)
  -- each label that it names is one of its labels
  pub labels : Everywhere (ItemLabels (λ l. l < length f.labels)) (body_of f)
  -- where it isn't flat, it has no guards
  pub unguarded : f.flat ≡ false → Everywhere IsUnguarded (body_of f)

abbrev pub IsTopInRange : Top → Type 0
IsTopInRange (T.Function f) = IsInRange f
IsTopInRange _ = Unit {0}

-- each function of the program is in range
abbrev pub IsProgramInRange : Program → Type 0
IsProgramInRange p = All IsTopInRange p.tops
