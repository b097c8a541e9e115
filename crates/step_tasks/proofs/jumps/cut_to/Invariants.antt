use Rattle.std.proofs.Common.{◌≡◌, length}
use Rattle.jump_meaning.specs.Tasks.{cut_to}
use Rattle.step_tasks.specs.Tasks.{tasks_of}
use Rattle.step_tasks.proofs.jumps.cut_to.Given as goal

abbrev pub invariant-loop-work : goal.invariant-loop-work
invariant-loop-work l = cut_to (tasks_of l.tasks) ≡ cut_to (tasks_of l.initial.tasks)

abbrev pub decreases-loop-work : goal.decreases-loop-work
decreases-loop-work l = length l.tasks
