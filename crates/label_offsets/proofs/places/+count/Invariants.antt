use Rattle.std.proofs.Common.{◌≡◌, take, min}
use Rattle.label_offsets.specs.Offset.{counts, section_counts}
use Rattle.label_offsets.proofs.places.+count.Given as goal

abbrev pub invariant-counts_of-loop-item : goal.invariant-counts_of-loop-item
invariant-counts_of-loop-item l = l.n ≡ min (counts (take l.item-index l.items)) 18446744073709551615

abbrev pub invariant-section_counts-loop-section : goal.invariant-section_counts-loop-section
invariant-section_counts-loop-section l = l.n ≡ min (section_counts (take l.section-index l.sections)) 18446744073709551615
