use Rattle.std.proofs.Common.{sym, ap, ◌∙◌}
use Rattle.c_tree.specs.Trees.{trees_of}
use Rattle.c_tree.proofs.TreeLaws.{trees-none}
use Rattle.tidy_loops.proofs.Made.{then_none}
use Rattle.tidy_loops.proofs.ways.then_of.Goals as goal

pub returns-in_default : goal.returns-in_default
returns-in_default c = ap trees_of c.new.ensures ∙ trees-none ∙ sym (then_none c.args.item c.in_default.not-If)
