-- A flat list in pieces, as it is while it is written.
use Rattle.std.specs.Prelude.{List, [], ◌∷◌}
use Rattle.c_tree.specs.declared.tree.Item.{Item}
use Rattle.c_tree.specs.Trees.{Forest, Nil, trees_of, join}
use Rattle.lower_items.specs.declared.written.Written as W

-- the items of lists, one list behind another
abbrev pub pieces_of : List (List Item) → Forest
pieces_of [] = Nil
pieces_of (a ∷ rest) = join (trees_of a) (pieces_of rest)

-- all that is written
abbrev pub written : W.Written → Forest
written w = join (pieces_of w.pieces) (trees_of w.last)
