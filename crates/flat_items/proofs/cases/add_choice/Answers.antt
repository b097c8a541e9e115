use Rattle.std.proofs.Common.{ap, ◌∙◌}
use Rattle.std.proofs.lemmas.Result.{on_ok_weaker}
use Rattle.c_tree.specs.Cases.{selector_source}
use Rattle.c_tree.specs.Changed.{one}
use Rattle.c_tree.specs.ExpressionTrees.{expression_tree}
use Rattle.c_tree.specs.TestTrees.{selector_tree}
use Rattle.c_tree.specs.Trees as Plain
use Rattle.c_tree.specs.Trees.{Tree, Forest, Nil, Then, Sections, NoSection, trees_of, sections_of, expression_trees, join}
use Rattle.flat_laws.specs.Pieces.{assign_number}
use Rattle.flat_items.proofs.cases.add_choice.Goals as goal
use Rattle.flat_items.proofs.Joining.{joined, one_more}
use Rattle.flat_items.specs.Plans.{plan_of, number_label}
use Rattle.flat_items.specs.Pieces.{number_tests}
use Rattle.flat_items.specs.Plans.{here_of}
use Rattle.flat_laws.specs.FlatForm.{otherwise_label}

pub returns : goal.returns
returns c =
    let k = c.args.cases.now.kind in
    let v = c.args.here.variable in
    let label = number_label c.args.plan.now c.args.cases.now in
    let out = trees_of c.args.out.now in
    let tests = number_tests k v label c.args.cases.now.numbers in
    let goto = one (Plain.Goto (otherwise_label (plan_of c.args.plan.now) (here_of c.args.here) (sections_of c.args.sections.now))) in
    let first = ap (λ e. join out (one (Plain.Evaluate (assign_number k v e)))) (ap expression_tree c.in_ok-source.ensures ∙ c.selector_source.ensures) in
    on_ok_weaker c.add_otherwise.result (λ h. h ∙ ap (λ z. join z goto)
    (c.in_ok-add_tests.ensures ∙ ap (λ ns. join (trees_of c.add.new.out) (number_tests k v label ns)) c.as_slice.ensures.value) ∙
    joined (trees_of c.add.new.out) tests goto
    ∙ one_more out (trees_of c.add.new.out) (Plain.Evaluate (assign_number k v (selector_source (selector_tree c.args.selector.now))))
    (join tests goto) (c.in_ok-add.ensures ∙ ap (λ z. join out (one z)) c.in_ok-first.ensures ∙ first))
    c.add_otherwise.ensures
