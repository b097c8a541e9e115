use Rattle.std.proofs.Common.{◌≡◌, drop}
use Rattle.step_open_calls.specs.Calls.{is_open, items_call, sections_call}
use Rattle.step_open_calls.proofs.bodies.+item.Given as goal

abbrev pub invariant-in_items-loop-item : goal.invariant-in_items-loop-item
invariant-in_items-loop-item l = items_call (is_open l.program) l.items ≡ items_call (is_open l.program) (drop l.item-index l.items)

abbrev pub invariant-in_sections-loop-section : goal.invariant-in_sections-loop-section
invariant-in_sections-loop-section l = sections_call (is_open l.program) l.sections ≡ sections_call (is_open l.program) (drop l.section-index l.sections)
