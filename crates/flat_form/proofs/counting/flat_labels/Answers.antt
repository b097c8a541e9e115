use Rattle.std.proofs.Common.{false, ap, ◌∙◌, arith}
use Rattle.c_tree.specs.Trees.{trees_of}
use Rattle.flat_questions.specs.Reading.{is_flagged}
use Rattle.c_resolved_laws.specs.Counts.{labels_in, labels_named, summed}
use Rattle.flat_form.proofs.Measured.{labels_flagged}
use Rattle.flat_form.proofs.counting.flat_labels.Goals as goal

pub returns-in-Some : goal.returns-in-Some
returns-in-Some c =
    let body = trees_of c.args.body.now in
    let flags = c.as_slice.ensures.value in
    let flags-2 = c.as_slice-2.ensures.value in
    let labels = c.as_slice-3.ensures.value in
    let made = c.in_ok-made.ensures ∙ ap (λ z. summed (labels_in (is_flagged z)) (is_flagged z) false body) flags in
    let stay = c.in_ok-stay.ensures ∙ (λ i. labels_named (is_flagged (flags-2 i)) (labels i)) in
    let all = labels_flagged body (is_flagged c.in_ok-named.named) c.in_ok-labels.labels c.in_ok-made.made c.in_ok-stay.stay c.in_ok-named.ensures
    c.in_ok-labels.ensures made stay in
    let sum = c.in-Some.ensures in
    omega (arith, all, sum)
