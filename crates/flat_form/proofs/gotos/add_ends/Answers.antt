use Rattle.std.proofs.Common.{arith, ap}
use Rattle.c_tree.specs.Exits.{breaks_in}
use Rattle.c_tree.proofs.Views.{sections-at, sections-end}
use Rattle.c_resolved_laws.specs.Counts.{section_ends}
use Rattle.flat_form.proofs.gotos.add_ends.Goals as goal

pub loop-i-preserved : goal.loop-i-preserved
loop-i-preserved c =
    let e = sections-at c.args.sections.now c.loop-i.i c.index-sections-i.result c.loop-i-test.true c.index-sections-i.is in
    let m = ap section_ends e in
    let n = ap breaks_in e in
    let a = c.in_ok-add.ensures in
    let o = c.one_if.ensures.value in
    let b = c.in_ok-add_breaks.ensures in
    let i = c.loop-i.invariant in
    omega arith

pub returns : goal.returns
returns c =
    let e = sections-end c.args.sections.now c.loop-i.i c.loop-i-test.false in
    let m = ap section_ends e in
    let n = ap breaks_in e in
    let i = c.loop-i.invariant in
    omega arith
