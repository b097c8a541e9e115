-- Lists without their labels, or without case labels that no switch is around.
use Rattle.std.specs.Prelude.{Bool, false, not, cond, Some, None}
use Rattle.c_tree.specs.declared.tree.Function.{Function}
use Rattle.c_tree.specs.Trees.{Tree, Forest, Nil, Then, Sections, If, While, Do, For, Switch, Block, Mark, Arrival, trees_of}
use Rattle.flat_laws.specs.Parts.{has_jumps}
use Rattle.flat_laws.specs.Unlabelled.{unlabelled, unlabelled_among}
use Rattle.c_resolved_laws.specs.Counts.{without_strays}

-- an item goes: a case label where strays are taken out, and else a label
abbrev pub goes : Bool → Tree → Bool
goes strays (Mark l) = not strays
goes strays (Arrival e) = strays
goes strays _ = false

-- a list without those that go, but with those in other items
abbrev pub kept : Bool → Forest → Forest
kept strays Nil = Nil
kept strays (Then x xs) = cond (goes strays x) (kept strays xs) (Then x (kept strays xs))

-- a list without any that goes
abbrev pub cleared : Bool → Forest → Forest
cleared strays a = cond strays (without_strays a) (unlabelled a)

-- the first part of a `for`
abbrev pub cleared_first : Bool → Forest → Forest
cleared_first strays a = cond strays a (unlabelled a)

-- the sections of a switch
abbrev pub cleared_among : Bool → Sections → Sections
cleared_among strays d = cond strays d (unlabelled_among d)

-- an item without those in it that go
abbrev pub inside : Bool → Tree → Tree
inside strays (If t a b) = If t (cleared strays a) (cleared strays b)
inside strays (While t a) = While t (cleared strays a)
inside strays (Do a t) = Do (cleared strays a) t
inside strays (For first t u a) = For (cleared_first strays first) t u (cleared strays a)
inside strays (Switch s d) = Switch s (cleared_among strays d)
inside strays (Block a) = Block (cleared strays a)
inside strays x = x

-- so with each item of a list
abbrev pub each_inside : Bool → Forest → Forest
each_inside strays Nil = Nil
each_inside strays (Then x xs) = Then (inside strays x) (each_inside strays xs)

-- a function has a body with jumps
abbrev pub jumps_in : Function → Bool
jumps_in f = elim f.body [ None ↦ false | Some body ↦ has_jumps (trees_of body) ]
