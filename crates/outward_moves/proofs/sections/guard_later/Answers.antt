use Rattle.std.proofs.Common.{arith, ◌<◌, length, ◌∙◌}
use Rattle.std.proofs.lemmas.Bool.{false≢true}
use Rattle.std.proofs.lemmas.Grind.{common_steps}
use Rattle.outward_moves.proofs.SectionLemmas.{later_ends, later_on, fallen_some, fallen_on}
use Rattle.outward_moves.proofs.sections.guard_later.Goals as goal

pub unreachable-requires : goal.unreachable-requires
unreachable-requires c =
    let within : c.loop-k.k < length c.loop-k.sections = omega (arith, c.loop-k.invariant.1) in
    let some = fallen_some c.loop-k.sections c.loop-k.k within in
    false≢true (c.in_default.ensures.variant.1 (omega (arith, c.loop-k.invariant.2)))

pub returns-then-ends : goal.returns-then-ends
returns-then-ends c =
    later_ends c.args.label c.loop-k.sections c.loop-k.k c.at_mut-section.result.now c.wrap_section.new.section c.at_mut-section.ensures.value
    c.wrap_section.ensures c.if-ends.true
    ∙ c.loop-k.invariant.0

pub loop-k-preserved : goal.loop-k-preserved
loop-k-preserved c =
    let s = c.at_mut-section.result.now in
    let t = c.wrap_section.new.section in
    let fewer = fallen_on c.loop-k.sections c.loop-k.k s t c.at_mut-section.ensures.value c.if-ends.false in (
      later_on c.args.label c.loop-k.sections c.loop-k.k s t c.at_mut-section.ensures.value c.wrap_section.ensures c.if-ends.false ∙ c.loop-k.invariant.0,
      grind (arith, common_steps),
      omega (arith, fewer, c.loop-k.invariant.2, c.in-Some.ensures.len),
    )
