use Rattle.std.proofs.Common.{◌≡◌, ◌≤◌, ◌+◌, ◌-◌, length, take, drop}
use Rattle.c_tree.specs.Trees.{trees_of}
use Rattle.c_tree.specs.Everywhere.{Everywhere}
use Rattle.c_tree.specs.Labels.{lands}
use Rattle.c_tree.specs.WellMade.{IsPlainFor}
use Rattle.label_offsets.proofs.search.place_around.Given as goal

abbrev pub invariant-loop-far : goal.invariant-loop-far
invariant-loop-far l =
    (l.middle ≤ length l.items)
    × (Everywhere IsPlainFor (trees_of l.items) → lands l.label (trees_of l.items) ≡ lands l.label
    (trees_of (take (l.middle - l.far) l.items)) + lands l.label (trees_of (drop (l.middle + l.far) l.items)))
