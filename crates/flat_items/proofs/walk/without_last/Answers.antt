use Rattle.std.proofs.Common.{refl, sym, ap, ◌∙◌}
use Rattle.c_tree.specs.Trees.{trees_of}
use Rattle.flat_items.proofs.LastItems.{popped}
use Rattle.flat_items.proofs.walk.without_last.Goals as goal

pub returns-then-is_empty : goal.returns-then-is_empty
returns-then-is_empty c = ap trees_of (c.new.ensures ∙ sym (c.if-is_empty.ensures.0 refl)) ∙ popped c.pop.result c.args.list c.pop.new.self c.pop.ensures

pub returns-else-is_empty : goal.returns-else-is_empty
returns-else-is_empty c = popped c.pop.result c.args.list c.pop.new.self c.pop.ensures
