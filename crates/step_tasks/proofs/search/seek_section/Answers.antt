use Rattle.std.proofs.Common.{◌∷◌, ap, sym, ◌∙◌}
use Rattle.std.proofs.lemmas.Result.{IfOk-weaker}
use Rattle.c_tree.specs.Trees.{trees_of, section_tree}
use Rattle.c_tree.proofs.TreeLaws.{section-parts}
use Rattle.jump_meaning.specs.Search.{seek}
use Rattle.jump_meaning.specs.Tasks.{EndsSection, end_of}
use Rattle.step_tasks.specs.Controls.{goal_of, Sought}
use Rattle.step_tasks.specs.Tasks.{tasks_of}
use Rattle.step_tasks.proofs.SearchLemmas.{sought_as}
use Rattle.step_tasks.proofs.search.seek_section.Goals as goal

pub returns-then-section : goal.returns-then-section
returns-then-section c = record {
  ok = IfOk-weaker c.seek_before.result (λ b. Sought b (seek (goal_of c.args.goal.now) (trees_of c.as_slice-list.result.now)
      (EndsSection ∷ (tasks_of c.args.tasks.now))) c.args.tasks.now c.seek_before.new.tasks)
      (λ b. Sought b (let s = section_tree c.args.section.now in seek (goal_of c.args.goal.now) s.list (end_of s.ends (tasks_of c.args.tasks.now)))
      c.args.tasks.now c.seek_before.new.tasks)
      (λ b h. sought_as b _ _ _ _ (ap (λ s. seek (goal_of c.args.goal.now) s.list (end_of s.ends (tasks_of c.args.tasks.now)))
      (section-parts c.args.section.now) ∙ ap (λ e. seek (goal_of c.args.goal.now) (trees_of c.args.section.now.list)
      (end_of e (tasks_of c.args.tasks.now))) c.if-section.true ∙
      ap (λ xs. seek (goal_of c.args.goal.now) (trees_of xs) (EndsSection ∷ (tasks_of c.args.tasks.now))) (sym c.as_slice-list.ensures.value)) h)
      c.seek_before.ensures.ok;
}

pub returns-else-section : goal.returns-else-section
returns-else-section c = record {
  ok = IfOk-weaker c.seek.result (λ b. Sought b (seek (goal_of c.args.goal.now) (trees_of c.as_slice-list.result.now) ((tasks_of c.args.tasks.now)))
      c.args.tasks.now c.seek.new.tasks)
      (λ b. Sought b (let s = section_tree c.args.section.now in seek (goal_of c.args.goal.now) s.list (end_of s.ends (tasks_of c.args.tasks.now)))
      c.args.tasks.now c.seek.new.tasks)
      (λ b h. sought_as b _ _ _ _ (ap (λ s. seek (goal_of c.args.goal.now) s.list (end_of s.ends (tasks_of c.args.tasks.now)))
      (section-parts c.args.section.now) ∙ ap (λ e. seek (goal_of c.args.goal.now) (trees_of c.args.section.now.list)
      (end_of e (tasks_of c.args.tasks.now))) c.if-section.false ∙
      ap (λ xs. seek (goal_of c.args.goal.now) (trees_of xs) ((tasks_of c.args.tasks.now))) (sym c.as_slice-list.ensures.value)) h)
      c.seek.ensures.ok;
}
