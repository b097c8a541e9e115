use Rattle.std.proofs.Common.{◌≡◌}
use Rattle.step_tasks.specs.Controls.{weights}
use Rattle.step_tasks.specs.Tasks.{tasks_of}
use Rattle.step_tasks.proofs.upcoming.next_task.Given as goal

abbrev pub invariant-loop-work : goal.invariant-loop-work
invariant-loop-work l = tasks_of l.tasks ≡ tasks_of l.initial.tasks

abbrev pub decreases-loop-work : goal.decreases-loop-work
decreases-loop-work l = weights l.tasks
