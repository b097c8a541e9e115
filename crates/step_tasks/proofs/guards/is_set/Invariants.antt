use Rattle.std.proofs.Common.{◌≡◌, drop, eqb}
use Rattle.std.specs.List.{list_any}
use Rattle.step_tasks.specs.Controls.{guards_of}
use Rattle.step_tasks.proofs.guards.is_set.Given as goal

abbrev pub invariant-loop-set : goal.invariant-loop-set
invariant-loop-set l = guards_of l.guards l.label ≡ list_any (eqb l.label) (drop l.set-index l.guards)
