use Rattle.std.proofs.Common.{ap, ◌∙◌}
use Rattle.std.proofs.Math.Path.{fun_ext}
use Rattle.c_types.specs.declared.kinds.IntKind.{IntKind}
use Rattle.c_tree.specs.Cases.{selector_source}
use Rattle.c_tree.specs.Changed.{one}
use Rattle.c_tree.specs.TestTrees.{selector_tree}
use Rattle.c_tree.specs.Trees as Plain
use Rattle.c_tree.specs.Trees.{Then, trees_of, sections_of, join}
use Rattle.flat_laws.specs.Pieces.{assign_number}
use Rattle.flat_items.specs.Pieces.{number_tests}
use Rattle.flat_items.proofs.Joining.{joined, one_more}
use Rattle.flat_items.specs.Plans.{here_of}
use Rattle.lower_items.specs.Plans.{number_label}
use Rattle.lower_items.specs.Choices.{label_of, numbers_of, otherwise_of}
use Rattle.lower_items.proofs.cases.add_choice.Goals as goal

pub returns-clause-items : goal.returns-clause-items
returns-clause-items c =
    let k = c.switch_kind-kind.result in
    let v = c.args.here.variable in
    let d = sections_of c.args.sections.now in
    let h = here_of c.args.here in
    let out = trees_of c.args.out.now in
    let o = trees_of c.add.new.out in
    let cs = c.in_ok-chosen.chosen.cases in
    let src = selector_source (selector_tree c.args.selector) in
    let x = Plain.Evaluate (assign_number k v src) in
    let goto = one (Plain.Goto (otherwise_of d h.construct)) in
    let ts = number_tests k v (label_of k d h) (numbers_of k d) in
    let are = c.in_ok-chosen.ensures.cases in
    let first = c.in_ok-add.ensures ∙ ap (λ z. join out (one z))
    (c.in_ok-assignment.ensures ∙ ap (λ z. Plain.Evaluate (assign_number k v z)) c.into_source.ensures) in
    let tests = c.in_ok-add_tests.ensures ∙ ap (λ ns. join o (number_tests cs.kind v (number_label cs) ns)) c.as_slice.ensures.value
    ∙ ap (λ f. join o (number_tests cs.kind v f cs.numbers)) (fun_ext are.labels) ∙ ap (λ j. join o (number_tests j v (label_of k d h) cs.numbers)) are.kind
    ∙ ap (λ ns. join o (number_tests k v (label_of k d h) ns)) are.numbers in
    c.in_ok-add_goto.ensures ∙ ap (λ w. join (trees_of c.add_tests.new.out) (one (Plain.Goto w))) c.in_ok-chosen.ensures.otherwise
    ∙ ap (λ z. join z goto) tests ∙ joined o ts goto ∙ one_more out o x (join ts goto) first
    ∙ ap (λ (j : IntKind). join out (Then (Plain.Evaluate (assign_number j v src)) (join (number_tests j v (label_of j d h) (numbers_of j d)) goto)))
    c.switch_kind-kind.ensures
