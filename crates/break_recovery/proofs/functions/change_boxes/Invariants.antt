use Rattle.std.proofs.Common.{◌≡◌, true, length, reverse}
use Rattle.c_tree.specs.Trees.{trees_of}
use Rattle.tidy_laws.specs.Gone.{left}
use Rattle.break_recovery.specs.Ends.{with_body}
use Rattle.break_recovery.specs.Fronts.{DeclaresFirst}
use Rattle.break_recovery.specs.Starts.{IsStart}
use Rattle.break_recovery.proofs.Numbered.{Going}
use Rattle.break_recovery.proofs.functions.change_boxes.Given as goal

abbrev pub invariant-changes : goal.invariant-changes
invariant-changes l = Going l.count (with_body l.function l.initial.list) l.gone l.counts (with_body l.function l.list) ×
    (IsStart l.counts l.start l.sure (reverse l.way) (trees_of l.list) × (l.first ≡ true → DeclaresFirst (trees_of l.list)))

abbrev pub decreases-changes : goal.decreases-changes
decreases-changes l = length (left l.gone l.function.slots)
