use Rattle.std.proofs.Common.{false, ap, ◌∙◌}
use Rattle.c_tree.specs.Trees.{trees_of}
use Rattle.flat_questions.specs.Reading.{is_flagged}
use Rattle.c_resolved_laws.specs.Counts.{gotos_in, summed}
use Rattle.flat_form.proofs.counting.flat_gotos.Goals as goal

pub returns : goal.returns
returns c =
    let body = trees_of c.args.body.now in
    let same = c.in_ok-named.ensures in
    c.in_ok-gotos.ensures ∙ ap (λ z. summed (gotos_in (is_flagged z)) (is_flagged z) false body) c.as_slice.ensures.value
    ∙ (λ i. summed (gotos_in (λ l. same l i)) (λ l. same l i) false body)
