-- Lists of items with the same trees are the same.
use Rattle.std.proofs.Common.{◌≡◌, false, List, [], None, sym, ap, ◌∙◌}
use Rattle.c_tree.specs.declared.tree.Function.{Function}
use Rattle.c_tree.specs.declared.tree.Item.{Item}
use Rattle.c_tree.specs.Trees.{trees_of}
use Rattle.reread_parts_laws.proofs.ItemMirrors.{forest_in, items_whole}

-- any function: how an item is printed doesn't matter here
some_function : Function
some_function = record { name = []; result = None; file_only = false; params = 0; slots = []; labels = []; body = None; flat = false }

pub same_items : (xs ys : List Item) → trees_of xs ≡ trees_of ys → xs ≡ ys
same_items xs ys e = sym (items_whole some_function xs) ∙ ap forest_in e ∙ items_whole some_function ys
