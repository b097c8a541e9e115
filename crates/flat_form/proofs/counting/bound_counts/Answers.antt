use Rattle.std.proofs.Common.{sym, ◌∙◌}
use Rattle.c_tree.specs.Trees.{trees_of}
use Rattle.flat_form.proofs.Measured.{measured}
use Rattle.flat_form.proofs.counting.bound_counts.Goals as goal

pub returns-in_ok-labels : goal.returns-in_ok-labels
returns-in_ok-labels c = measured (trees_of c.args.body.now) _ _ (sym c.has_jumps.ensures ∙ c.if-has_jumps.true) c.in_ok-gotos.ensures c.in_ok-labels.ensures
