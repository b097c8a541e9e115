use Rattle.std.proofs.Common.{sym, ap, ◌∙◌}
use Rattle.c_tree.specs.ExpressionTrees.{expression_tree}
use Rattle.c_tree.specs.TestTrees.{Source, test_tree}
use Rattle.c_tree.proofs.ExpressionLaws.{test-Source}
use Rattle.tidy_loops.proofs.Read.{rest_some, rest_none}
use Rattle.tidy_loops.proofs.making.rest.Goals as goal

pub returns-in_ok-e-in-Some : goal.returns-in_ok-e-in-Some
returns-in_ok-e-in-Some c =
    ap test_tree c.replace.ensures.after ∙ test-Source c.in_ok-e-in-Some.e ∙ ap (λ z. Source (expression_tree z)) c.in_ok-e-in-Some.ensures
    ∙ sym (rest_some c.args.test.now c.in-Some.e.now c.in-Some.ensures)

pub returns-in-None : goal.returns-in-None
returns-in-None c = sym (rest_none c.args.test.now c.in-None.ensures)
