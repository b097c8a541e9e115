use Rattle.std.proofs.Common.{ap, ◌∙◌, arith}
use Rattle.c_tree.specs.Trees.{sections_of}
use Rattle.flat_laws.specs.Parts.{switch_labels, cases_among}
use Rattle.flat_form.specs.Given.{some_in}
use Rattle.flat_form.proofs.Tested.{tested_are}
use Rattle.flat_form.proofs.gotos.of_scattered.Goals as goal

pub returns : goal.returns
returns c =
    let m = ap some_in (c.as_slice.ensures.value ∙ c.in_ok-numbers.ensures) ∙
    tested_are c.args.kind (cases_among (switch_labels (sections_of c.args.sections.now))) in
    let a = c.in_ok-add_tests.ensures in
    let b = c.in_ok-add_ends.ensures in
    omega arith
