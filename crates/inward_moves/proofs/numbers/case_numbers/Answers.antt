use Rattle.std.proofs.Common.{◌++◌, map, sym, ap, ◌∙◌, append_assoc, drop, ◌+◌, append-nil}
use Rattle.c_tree.specs.Cases.{case_number, case_numbers}
use Rattle.c_tree.specs.Trees.{expression_trees, sections_of}
use Rattle.inward_moves.proofs.CaseLemmas.{numbers-more, numbers-all}
use Rattle.inward_moves.proofs.numbers.case_numbers.Goals as goal

pub loop-section-preserved : goal.loop-section-preserved
loop-section-preserved c =
    let k = c.args.kind in
    let cs = c.args.sections.now in
    let i = c.loop-section.section-index in
    let s = c.section-item.result in
    let rest = case_numbers k (sections_of (drop (i + 1) cs)) in
    ap (λ a. a ++ rest) (c.in_ok-add_numbers.ensures ∙ ap (λ es. c.loop-section.numbers.items ++ map (case_number k) (expression_trees es))
    c.as_slice.ensures.value)
    ∙ append_assoc c.loop-section.numbers.items (map (case_number k) (expression_trees s.cases)) rest
    ∙ ap (λ a. c.loop-section.numbers.items ++ a) (sym (numbers-more k cs i s c.loop-section-test.true c.section-item.is))
    ∙ c.loop-section.invariant

pub returns : goal.returns
returns c =
    sym (append-nil c.loop-section.numbers.items)
    ∙ ap (λ a. c.loop-section.numbers.items ++ a) (sym (numbers-all c.args.kind c.args.sections.now c.loop-section.section-index c.loop-section-test.false))
    ∙ c.loop-section.invariant
