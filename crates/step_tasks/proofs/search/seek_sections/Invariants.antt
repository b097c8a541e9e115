use Rattle.std.proofs.Common.{◌≡◌, drop}
use Rattle.c_tree.specs.Trees.{sections_of}
use Rattle.jump_meaning.specs.Search.{seek_sections}
use Rattle.step_tasks.specs.Controls.{goal_of}
use Rattle.step_tasks.specs.Tasks.{tasks_of}
use Rattle.step_tasks.proofs.search.seek_sections.Given as goal

abbrev pub invariant-loop-at : goal.invariant-loop-at
invariant-loop-at l = record {
  tasks : l.tasks ≡ l.initial.tasks;
  found : seek_sections (goal_of l.goal) (sections_of (drop l.at l.sections)) (tasks_of l.initial.tasks) ≡ seek_sections (goal_of l.goal)
      (sections_of l.sections) (tasks_of l.initial.tasks);
}
