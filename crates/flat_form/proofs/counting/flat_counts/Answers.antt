use Rattle.std.proofs.Common.{sym, ◌∙◌}
use Rattle.c_tree.specs.Trees.{trees_of}
use Rattle.flat_form.proofs.StrayLists.{none_stray_answer}
use Rattle.flat_form.proofs.counting.flat_counts.Goals as goal

pub returns-else-has_arrival : goal.returns-else-has_arrival
returns-else-has_arrival c = none_stray_answer c.bound_counts-else-has_arrival.result (trees_of c.args.body.now)
    (sym c.has_arrival.ensures ∙ c.if-has_arrival.false) c.bound_counts-else-has_arrival.ensures
