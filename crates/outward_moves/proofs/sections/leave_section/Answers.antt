use Rattle.std.proofs.Common.{arith, ◌<◌, length, slice_set, ap, ◌∙◌}
use Rattle.std.proofs.Math.ListN.{length-set}
use Rattle.std.proofs.lemmas.Option.{slice_get_within}
use Rattle.c_tree.proofs.PathLemmas.{set_same}
use Rattle.outward_moves.proofs.SectionLemmas.{left_ends, left_on, fallen_later_on}
use Rattle.outward_moves.proofs.sections.leave_section.Goals as goal

pub returns-in-Err-clause-err : goal.returns-in-Err-clause-err
returns-in-Err-clause-err c =
    let sections = c.args.sections.now in
    let there = c.at_mut-section.ensures.value in
    ap (slice_set sections c.args.k) c.in-Err.ensures.err ∙ set_same sections c.args.k c.at_mut-section.result.now there

pub guard_later-requires-clause-within : goal.guard_later-requires-clause-within
guard_later-requires-clause-within c =
    let within : c.args.k < length c.args.sections.now = slice_get_within c.args.sections.now c.args.k c.at_mut-section.result.now
    c.at_mut-section.ensures.value in
    simp length-set (omega arith)

pub guard_later-requires-clause-enough : goal.guard_later-requires-clause-enough
guard_later-requires-clause-enough c =
    let same = fallen_later_on c.args.sections.now c.args.k c.at_mut-section.result.now c.guard_first.new.section c.at_mut-section.ensures.value
    c.if-not-ends.true in
    omega (arith, same, c.requires.enough)

pub returns-then-not-ends-clause-ok : goal.returns-then-not-ends-clause-ok
returns-then-not-ends-clause-ok c =
    c.guard_later.ensures
    ∙ left_on c.args.label c.args.leap c.args.sections.now c.args.k c.at_mut-section.result.now c.guard_first.new.section
    c.at_mut-section.ensures.value c.in-Ok.ensures.ok c.if-not-ends.true

pub returns-else-not-ends-clause-ok : goal.returns-else-not-ends-clause-ok
returns-else-not-ends-clause-ok c =
    left_ends c.args.label c.args.leap c.args.sections.now c.args.k c.at_mut-section.result.now c.guard_first.new.section
    c.at_mut-section.ensures.value c.in-Ok.ensures.ok c.if-not-ends.false
