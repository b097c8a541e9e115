use Rattle.std.proofs.Common.{◌≡◌, drop}
use Rattle.c_tree.specs.Trees.{trees_of, sections_of, join}
use Rattle.flat_laws.specs.Parts.{past}
use Rattle.flat_laws.specs.FlatForm.{flat, flat_sections, spread}
use Rattle.flat_items.specs.Forms.{past_among}
use Rattle.flat_items.specs.Pieces.{behind}
use Rattle.flat_items.specs.Plans.{plan_of, here_of, aim_of, arrivals_of, case_names}
use Rattle.flat_items.proofs.walk.+write.Given as goal

abbrev pub invariant-write_items-loop-i : goal.invariant-write_items-loop-i
invariant-write_items-loop-i l = record {
  place : past (trees_of (drop l.i l.items)) (here_of l.here) ≡ past (trees_of l.items) (here_of l.initial.here);
  items : join (trees_of l.out) (flat (plan_of l.plan) (here_of l.here) (aim_of l.scope.breaks) (aim_of l.scope.continues)
      (arrivals_of l.plan l.cases) (trees_of (drop l.i l.items))) ≡ join (trees_of l.initial.out)
      (flat (plan_of l.plan) (here_of l.initial.here) (aim_of l.scope.breaks) (aim_of l.scope.continues) (arrivals_of l.plan l.cases) (trees_of l.items));
}

abbrev pub invariant-write_sections-loop-i : goal.invariant-write_sections-loop-i
invariant-write_sections-loop-i l = record {
  place : past_among (sections_of (drop l.i l.sections)) (here_of l.here) ≡ past_among (sections_of l.sections) (here_of l.initial.here);
  sections : behind (sections_of l.out) (flat_sections (plan_of l.plan) (here_of l.here) l.jumpy (aim_of l.scope.breaks) (aim_of l.scope.continues)
      (sections_of (drop l.i l.sections))) ≡ flat_sections (plan_of l.plan) (here_of l.initial.here) l.jumpy (aim_of l.scope.breaks)
      (aim_of l.scope.continues) (sections_of l.sections);
}

abbrev pub invariant-write_spread-loop-i : goal.invariant-write_spread-loop-i
invariant-write_spread-loop-i l = record {
  place : past_among (sections_of (drop l.i l.sections)) (here_of l.here) ≡ past_among (sections_of l.sections) (here_of l.initial.here);
  items : join (trees_of l.out) (spread (plan_of l.plan) (here_of l.here) (aim_of l.scope.breaks) (aim_of l.scope.continues)
      (case_names l.plan l.cases) (sections_of (drop l.i l.sections))) ≡ join (trees_of l.initial.out)
      (spread (plan_of l.plan) (here_of l.initial.here) (aim_of l.scope.breaks) (aim_of l.scope.continues) (case_names l.plan l.cases)
      (sections_of l.sections));
}
