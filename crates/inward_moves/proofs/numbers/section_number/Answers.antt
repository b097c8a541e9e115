use Rattle.std.proofs.Common.{List, sym, subst, rules}
use Rattle.std.specs.Prelude.{IfOk}
use Rattle.c_tree.specs.ExpressionTrees.{ExpressionTree}
use Rattle.c_tree.specs.Cases.{IsNumberFor}
use Rattle.c_tree.specs.Trees.{sections_of}
use Rattle.inward_moves.proofs.CaseLemmas.{cases_past, no_case, first_case, section_read, has_number}
use Rattle.inward_moves.proofs.numbers.section_number.Goals as goal

pub returns-in_default : goal.returns-in_default
returns-in_default c =
    let cs = c.args.sections.now in
    subst (λ (es : List ExpressionTree). IfOk c.free_number.result (λ n. IsNumberFor c.args.kind (sections_of cs) es n))
    (sym (cases_past cs c.args.k c.in_default.ensures.lookup.3)) c.free_number.ensures

pub returns-in_default-get : goal.returns-in_default-get
returns-in_default-get c =
    let cs = c.args.sections.now in
    subst (λ (es : List ExpressionTree). IfOk c.free_number-in_default-get.result (λ n. IsNumberFor c.args.kind (sections_of cs) es n))
    (sym (no_case cs c.args.k c.in-Some.section.now (section_read cs c.args.k c.in-Some.section.now c.in-Some.ensures.lookup.3.0
    c.in-Some.ensures.lookup.1) (sym c.in_default-get.ensures.value)))
    c.free_number-in_default-get.ensures

pub unreachable-requires : goal.unreachable-requires
unreachable-requires c =
    let cs = c.args.sections.now in
    has_number c.args.kind c.args.k (sections_of cs) _ _ c.requires
    (first_case cs c.args.k c.in-Some.section.now c.in-Some-get.first.now
    (section_read cs c.args.k c.in-Some.section.now c.in-Some.ensures.lookup.3.0 c.in-Some.ensures.lookup.1) (sym c.in-Some-get.ensures.value))
    (sym c.in-None.ensures)

pub returns : goal.returns
returns c =
    let cs = c.args.sections.now in
    let e = first_case cs c.args.k c.in-Some.section.now c.in-Some-get.first.now
    (section_read cs c.args.k c.in-Some.section.now c.in-Some.ensures.lookup.3.0 c.in-Some.ensures.lookup.1) (sym c.in-Some-get.ensures.value) in
    rw e (search rules)
