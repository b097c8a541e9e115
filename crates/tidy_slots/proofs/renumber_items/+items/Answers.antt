use Rattle.std.proofs.Common.{arith}
use Rattle.tidy_slots.proofs.ItemRemovals.{SameItem, items_same, SameSection, sections_same}
use Rattle.tidy_slots.proofs.LoopLaws.{all_done}
use Rattle.tidy_slots.specs.Numbers.{number}
use Rattle.tidy_slots.proofs.renumber_items.+items.Goals as goal

pub renumber_items-returns-clause-made : goal.renumber_items-returns-clause-made
renumber_items-returns-clause-made t c =
    let g = number c.args.numbers.now in
    items_same g c.args.items.now c.loop-i.items c.loop-i.invariant.1.0
    (all_done (SameItem g) c.loop-i.i c.args.items.now c.loop-i.items (omega (arith, c.loop-i-test.false, c.loop-i.invariant.1.0)) c.loop-i.invariant.1)

pub renumber_sections-returns-clause-made : goal.renumber_sections-returns-clause-made
renumber_sections-returns-clause-made t c =
    let g = number c.args.numbers.now in
    sections_same g c.args.sections.now c.loop-i.sections c.loop-i.invariant.1.0
    (all_done (SameSection g) c.loop-i.i c.args.sections.now c.loop-i.sections (omega (arith, c.loop-i-test.false, c.loop-i.invariant.1.0))
    c.loop-i.invariant.1)
