use Rattle.std.proofs.Common.{◌≡◌, drop}
use Rattle.c_tree.specs.Trees.{trees_of, sections_of}
use Rattle.c_tree.specs.Everywhere.{total_in}
use Rattle.c_tree.specs.Labels.{land_of, lands}
use Rattle.label_offsets.proofs.marks.+land.Given as goal

abbrev pub invariant-items_have_land-loop-item : goal.invariant-items_have_land-loop-item
invariant-items_have_land-loop-item l = lands l.label (trees_of l.items) ≡ lands l.label (trees_of (drop l.item-index l.items))

abbrev pub invariant-sections_have_land-loop-section : goal.invariant-sections_have_land-loop-section
invariant-sections_have_land-loop-section l = total_in (land_of l.label) (sections_of l.sections) ≡ total_in (land_of l.label)
    (sections_of (drop l.section-index l.sections))
