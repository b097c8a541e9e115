use Rattle.std.proofs.Common.{sym, ap, ◌∙◌}
use Rattle.c_tree.specs.TestTrees.{Source}
use Rattle.tidy_loops.specs.Views.{test_at}
use Rattle.tidy_loops.proofs.FormLaws.{expression_same, at_source}
use Rattle.tidy_loops.specs.Slots.{second_half}
use Rattle.tidy_loops.proofs.reading.second_half.Goals as goal

pub returns-in-Source : goal.returns-in-Source
returns-in-Source c =
    c.second_half_of.ensures ∙ ap (λ z. second_half (Source z)) (sym (expression_same c.in-Source.e)) ∙
    sym (ap second_half (ap test_at c.in-Source.is ∙ at_source c.in-Source.e))
