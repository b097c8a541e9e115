use Rattle.std.proofs.Common.{◌++◌, map, refl, ap, ◌∙◌}
use Rattle.c_tree.specs.Cases.{case_number}
use Rattle.c_tree.specs.Trees.{Sections, trees_of, expression_trees}
use Rattle.flat_laws.specs.Parts.{arrivals, switch_labels, cases_among}
use Rattle.c_tree.proofs.Collecting.{collected_in, collected_all_in}
use Rattle.flat_questions.proofs.Steps.{numbers_more}
use Rattle.flat_questions.proofs.cases.case_numbers.Goals as goal
use Rattle.std.proofs.Common.{append_assoc}
use Rattle.c_tree.specs.declared.tree.Section.{out-Section}
use Rattle.flat_questions.proofs.Steps.{numbers_in}

pub loop-i-preserved : goal.loop-i-preserved
loop-i-preserved c =
    let k = c.args.kind in
    let s = c.index-sections-i.result in
    let o = out-Section s in
    let ns = map (case_number k) (expression_trees o.cases) in
    let ms = map (case_number k) (cases_among (arrivals (trees_of o.list))) in
    collected_in (λ (d : Sections). map (case_number k) (cases_among (switch_labels d))) (numbers_in k) (numbers_more k)
    c.args.sections.now c.loop-i.i s c.loop-i-test.true c.index-sections-i.is c.loop-i.out c.add_list.new.out _ c.loop-i.invariant
    (c.in_ok-add_list.ensures ∙ ap (λ z. z ++ ms) (c.in_ok-add_cases.ensures ∙
    ap (λ z. c.loop-i.out ++ map (case_number k) (expression_trees z)) c.as_slice.ensures.value) ∙ append_assoc c.loop-i.out ns ms)

pub returns : goal.returns
returns c = collected_all_in (λ (d : Sections). map (case_number c.args.kind) (cases_among (switch_labels d))) refl c.args.sections.now c.loop-i.i
    c.loop-i-test.false c.loop-i.out _ c.loop-i.invariant
