use Rattle.std.proofs.Common.{◌≡◌}
use Rattle.std.specs.Vec.Iter.{into_iter_items}
use Rattle.c_tree.specs.Trees.{trees_of, sections_of, join}
use Rattle.lower_laws.specs.Lowered.{past, lowered, lowered_among}
use Rattle.lower_items.specs.Forms.{past_among}
use Rattle.lower_items.specs.Pieces.{written}
use Rattle.flat_items.specs.Plans.{here_of, aim_of}
use Rattle.lower_items.specs.Plans.{layout_of, arrivals_of, case_names}
use Rattle.lower_items.proofs.walk.+write.Given as goal

abbrev pub invariant-write_list-loop-item : goal.invariant-write_list-loop-item
invariant-write_list-loop-item l = record {
  place : past (trees_of (into_iter_items l.item-iterator)) (here_of l.here) ≡ past (trees_of l.fn.list) (here_of l.initial.here);
  items : join (written l.out) (lowered (layout_of l.plan) (here_of l.here) (aim_of l.scope.breaks) (aim_of l.scope.continues) (arrivals_of l.cases)
      (trees_of (into_iter_items l.item-iterator))) ≡ join (written l.initial.out)
      (lowered (layout_of l.plan) (here_of l.initial.here) (aim_of l.scope.breaks) (aim_of l.scope.continues) (arrivals_of l.cases) (trees_of l.fn.list));
}

abbrev pub invariant-write_sections-loop-section : goal.invariant-write_sections-loop-section
invariant-write_sections-loop-section l = record {
  place : past_among (sections_of (into_iter_items l.section-iterator)) (here_of l.here) ≡ past_among (sections_of l.fn.sections) (here_of l.initial.here);
  items : join (written l.out) (lowered_among (layout_of l.plan) (here_of l.here) (aim_of l.scope.breaks) (aim_of l.scope.continues)
      (case_names l.cases) (sections_of (into_iter_items l.section-iterator))) ≡ join (written l.initial.out)
      (lowered_among (layout_of l.plan) (here_of l.initial.here) (aim_of l.scope.breaks) (aim_of l.scope.continues) (case_names l.cases)
      (sections_of l.fn.sections));
}
