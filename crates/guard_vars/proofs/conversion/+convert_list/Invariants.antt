use Rattle.std.proofs.Common.{◌≡◌, ◌++◌, map, take, drop}
use Rattle.guard_vars.specs.Conversion.{converted_list, converted_section}
use Rattle.guard_vars.proofs.conversion.+convert_list.Given as goal

abbrev pub invariant-convert_slice-loop-item : goal.invariant-convert_slice-loop-item
invariant-convert_slice-loop-item l = l.out ++ converted_list (drop l.item-index l.items) ≡ converted_list l.items

abbrev pub invariant-convert_sections-loop-section : goal.invariant-convert_sections-loop-section
invariant-convert_sections-loop-section l = l.out ≡ map converted_section (take l.section-index l.sections)
