use Rattle.std.proofs.Common.{arith, ap, ◌∙◌}
use Rattle.label_offsets.specs.Offset.{count, counts, section_counts}
use Rattle.label_offsets.proofs.CountLemmas.{count-If, count-While, count-Do, count-For, count-Switch, sections_more}
use Rattle.label_offsets.proofs.places.+count.Goals as goal

pub count-returns-in-If : goal.count-returns-in-If
count-returns-in-If t c = let e = ap count c.in-If.is ∙ count-If c.in-If.field-0 c.in-If.a c.in-If.b in omega (arith, e)

pub count-returns-in-While : goal.count-returns-in-While
count-returns-in-While t c = let e = ap count c.in-While.is ∙ count-While c.in-While.field-0 c.in-While.a in omega (arith, e)

pub count-returns-in-Do : goal.count-returns-in-Do
count-returns-in-Do t c = let e = ap count c.in-Do.is ∙ count-Do c.in-Do.a c.in-Do.field-1 in omega (arith, e)

pub count-returns-in-For : goal.count-returns-in-For
count-returns-in-For t c = let e = ap count c.in-For.is ∙ count-For c.in-For.f c.in-For.field-1 c.in-For.field-2 c.in-For.a in omega (arith, e)

pub count-returns-in-Switch : goal.count-returns-in-Switch
count-returns-in-Switch t c = let e = ap count c.in-Switch.is ∙ count-Switch c.in-Switch.field-0 c.in-Switch.sections in let v =
    ap section_counts
    c.as_slice.ensures.value in omega (arith, e, v)

pub section_counts-loop-section-preserved : goal.section_counts-loop-section-preserved
section_counts-loop-section-preserved t c =
    let m = sections_more c.args.sections.now c.loop-section.section-index c.section-item.result c.loop-section-test.true in
    let s = ap (λ x. counts x.list) c.section-item.is in
    omega (arith, m, s)
