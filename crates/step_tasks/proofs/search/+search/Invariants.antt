use Rattle.std.proofs.Common.{◌≡◌, drop}
use Rattle.c_tree.specs.Trees.{trees_of}
use Rattle.jump_meaning.specs.Search.{seek}
use Rattle.step_tasks.specs.Controls.{goal_of}
use Rattle.step_tasks.specs.Tasks.{tasks_of}
use Rattle.step_tasks.proofs.search.+search.Given as goal

abbrev pub invariant-seek-loop-at : goal.invariant-seek-loop-at
invariant-seek-loop-at l = record {
  tasks : l.tasks ≡ l.initial.tasks;
  found : seek (goal_of l.goal) (trees_of (drop l.at l.list)) (tasks_of l.initial.tasks) ≡ seek (goal_of l.goal) (trees_of l.list) (tasks_of l.initial.tasks);
}
