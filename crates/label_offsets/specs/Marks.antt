-- Leaps and Lands in a list, and the Leap at a path.
use Rattle.std.specs.Prelude.{ℕ, ◌+◌, Bool, false, ◌==◌, List, Option, Some, None, option_map, option_and_then, drop}
use Rattle.std.specs.List.{position}
use Rattle.c_tree.specs.declared.tree.Item.{Item, Item-F, out-Item}
use Rattle.c_tree.specs.declared.tree.Item.TheOpen.{If, While, Do, For, Switch, Block, Leap, Land}
use Rattle.c_tree.specs.declared.tree.Section.{Section}
use Rattle.c_tree.specs.declared.tree.Path.{Path}
use Rattle.c_tree.specs.Paths.{item_at}
use Rattle.c_tree.specs.Trees.{trees_of, sections_of}
use Rattle.c_tree.specs.Everywhere.{total_in}
use Rattle.c_tree.specs.Labels.{land_of, lands}

-- the label of a Leap
abbrev pub leap_label_F : Item-F Item Section → Option ℕ
leap_label_F (Leap l) = Some l
leap_label_F _ = None

abbrev pub leap_label : Item → Option ℕ
leap_label x = leap_label_F (out-Item x)

-- the label of the Leap at a path; none where it leads to no Leap
abbrev pub label_at : List Item → Path → Option ℕ
label_at body at = option_and_then leap_label (item_at body at.steps at.item)

-- whether an item is the Land of the label
abbrev pub is_land_F : ℕ → Item-F Item Section → Bool
is_land_F l (Land k) = k == l
is_land_F l _ = false

abbrev pub is_land : ℕ → Item → Bool
is_land l x = is_land_F l (out-Item x)

-- the place of the first Land of the label after the place i of a list
abbrev pub land_after : ℕ → ℕ → List Item → Option ℕ
land_after l i xs = option_map (λ k. i + 1 + k) (position (is_land l) (drop (i + 1) xs))

-- the Lands of the label in the lists of an item
abbrev pub held_F : ℕ → Item-F Item Section → ℕ
held_F l (If t a b) = lands l (trees_of a) + lands l (trees_of b)
held_F l (While t a) = lands l (trees_of a)
held_F l (Do a t) = lands l (trees_of a)
held_F l (For f t u a) = lands l (trees_of f) + lands l (trees_of a)
held_F l (Switch s cs) = total_in (land_of l) (sections_of cs)
held_F l (Block a) = lands l (trees_of a)
held_F l _ = 0

abbrev pub held : ℕ → Item → ℕ
held l x = held_F l (out-Item x)
