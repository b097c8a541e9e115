use Rattle.std.proofs.Common.{◌+◌, drop, Some, ap, sym, ◌∙◌, arith}
use Rattle.std.proofs.lemmas.List.{drop_all, take_rest}
use Rattle.c_tree.specs.Trees.{section_tree, sections_of}
use Rattle.jump_meaning.specs.Search.{seek}
use Rattle.jump_meaning.specs.Tasks.{end_of, tail_tasks}
use Rattle.step_tasks.specs.Controls.{goal_of}
use Rattle.step_tasks.specs.Tasks.{tasks_of}
use Rattle.step_tasks.proofs.SearchLemmas.{section_here, section_inside, section_later, past_sections, sought_true, sought_false}
use Rattle.step_tasks.proofs.TopLemmas.{popped_back}
use Rattle.step_tasks.proofs.search.seek_sections.Goals as goal

pub returns-then-is_section_goal : goal.returns-then-is_section_goal
returns-then-is_section_goal c = record {
  ok = sym c.loop-at.invariant.found
      ∙ section_here (goal_of c.args.goal.now) c.args.sections.now c.loop-at.at c.index-sections-at.result (tasks_of c.args.tasks.now)
      c.loop-at-test.true c.index-sections-at.is (sym c.is_section_goal.ensures ∙ c.if-is_section_goal.true)
      ∙ ap Some (sym (ap tasks_of c.in_ok-push.ensures.ok ∙ ap (λ xs. tail_tasks (sections_of xs) (tasks_of c.loop-at.tasks))
      (take_rest c.args.sections.now c.loop-at.at) ∙ ap (λ ts. tail_tasks (sections_of (drop c.loop-at.at c.args.sections.now)) (tasks_of ts))
      c.loop-at.invariant.tasks));
}

pub returns-then-branch : goal.returns-then-branch
returns-then-branch c =
    let h = sought_true _ _ _ _ c.if-branch.true c.in_ok-seek_section.ensures.ok in
    record {
      ok = sym c.loop-at.invariant.found
          ∙ section_inside (goal_of c.args.goal.now) c.args.sections.now c.loop-at.at c.index-sections-at.result (tasks_of c.args.tasks.now)
          c.loop-at-test.true c.index-sections-at.is (tasks_of c.seek_section.new.tasks) (sym c.is_section_goal.ensures ∙ c.if-is_section_goal.false)
          (ap (λ ts. let s = section_tree c.index-sections-at.result in
          seek (goal_of c.args.goal.now) s.list
          (end_of s.ends (tail_tasks (sections_of (drop (c.loop-at.at + 1) c.args.sections.now)) (tasks_of ts)))) (sym c.loop-at.invariant.tasks)
          ∙ ap (λ xs. let s = section_tree c.index-sections-at.result in
          seek (goal_of c.args.goal.now) s.list (end_of s.ends (tail_tasks (sections_of xs) (tasks_of c.loop-at.tasks))))
          (sym (take_rest c.args.sections.now (c.loop-at.at + 1)))
          ∙ ap (λ ts. let s = section_tree c.index-sections-at.result in seek (goal_of c.args.goal.now) s.list (end_of s.ends (tasks_of ts)))
          (sym c.in_ok-push-2.ensures.ok) ∙ h);
    }

pub loop-at-preserved : goal.loop-at-preserved
loop-at-preserved c =
    let h = sought_false _ _ _ _ c.if-branch.false c.in_ok-seek_section.ensures.ok in
    record {
      tasks = popped_back c.pop.result _ c.seek_section.new.tasks c.pop.new.self c.loop-at.tasks c.pop.ensures (h.1 ∙ c.in_ok-push-2.ensures.ok) ∙
          c.loop-at.invariant.tasks;
      found = sym (section_later (goal_of c.args.goal.now) c.args.sections.now c.loop-at.at c.index-sections-at.result (tasks_of c.args.tasks.now)
          c.loop-at-test.true c.index-sections-at.is (sym c.is_section_goal.ensures ∙ c.if-is_section_goal.false)
          (ap (λ ts. let s = section_tree c.index-sections-at.result in
          seek (goal_of c.args.goal.now) s.list
          (end_of s.ends (tail_tasks (sections_of (drop (c.loop-at.at + 1) c.args.sections.now)) (tasks_of ts)))) (sym c.loop-at.invariant.tasks)
          ∙ ap (λ xs. let s = section_tree c.index-sections-at.result in
          seek (goal_of c.args.goal.now) s.list (end_of s.ends (tail_tasks (sections_of xs) (tasks_of c.loop-at.tasks))))
          (sym (take_rest c.args.sections.now (c.loop-at.at + 1)))
          ∙ ap (λ ts. let s = section_tree c.index-sections-at.result in seek (goal_of c.args.goal.now) s.list (end_of s.ends (tasks_of ts)))
          (sym c.in_ok-push-2.ensures.ok) ∙ h.0))
          ∙ c.loop-at.invariant.found;
    }

pub returns : goal.returns
returns c = record {
  ok = (
    sym c.loop-at.invariant.found ∙ past_sections (goal_of c.args.goal.now) (drop c.loop-at.at c.args.sections.now) (tasks_of c.args.tasks.now)
        (drop_all c.loop-at.at c.args.sections.now (omega (arith, c.loop-at-test.false))),
    c.loop-at.invariant.tasks,
  );
}
