use Rattle.std.proofs.Common.{◌∷◌, ◌+◌, drop, Some, refl, ap, sym, ◌∙◌, subst, arith}
use Rattle.std.proofs.lemmas.Result.{IfOk-weaker}
use Rattle.std.proofs.lemmas.List.{drop_all, take_rest}
use Rattle.c_tree.specs.TestTrees.{selector_tree}
use Rattle.c_tree.specs.Trees.{tree_of, trees_of, sections_of}
use Rattle.c_tree.proofs.TreeLaws.{tree-If, tree-While, tree-Do, tree-For, tree-Switch, tree-Block}
use Rattle.jump_meaning.specs.Search.{or_else, seek, seek_in}
use Rattle.jump_meaning.specs.Tasks.{items}
use Rattle.step_tasks.specs.Controls.{goal_of, Sought}
use Rattle.step_tasks.specs.Tasks.{loop_of, tasks_of}
use Rattle.step_tasks.proofs.SearchLemmas.{no_lists, is_here, is_inside, is_later, past_last, sought_as, no_switch, sought_true, sought_false}
use Rattle.step_tasks.proofs.search.+search.Goals as goal

pub seek-returns-then-is_goal : goal.seek-returns-then-is_goal
seek-returns-then-is_goal t c = record {
  ok = sym c.loop-at.invariant.found
      ∙ is_here (goal_of c.args.goal.now) c.args.list.now c.loop-at.at c.index-list-at.result (tasks_of c.args.tasks.now) c.loop-at-test.true
      c.index-list-at.is (sym c.is_goal.ensures ∙ c.if-is_goal.true)
      ∙ ap Some (sym (ap tasks_of c.in_ok-push.ensures.ok ∙ ap (λ xs. items (trees_of xs) (tasks_of c.loop-at.tasks))
      (take_rest c.args.list.now c.loop-at.at) ∙ ap (λ ts. items (trees_of (drop c.loop-at.at c.args.list.now)) (tasks_of ts)) c.loop-at.invariant.tasks));
}

pub seek-returns-then-branch : goal.seek-returns-then-branch
seek-returns-then-branch t c =
    let h = sought_true _ _ _ _ c.if-branch.true c.in_ok-seek_inside.ensures.ok in
    record {
      ok = sym c.loop-at.invariant.found
          ∙ is_inside (goal_of c.args.goal.now) c.args.list.now c.loop-at.at c.index-list-at.result (tasks_of c.args.tasks.now)
          (tasks_of c.seek_inside.new.tasks) c.loop-at-test.true c.index-list-at.is (sym c.is_goal.ensures ∙ c.if-is_goal.false)
          (ap (λ ts. seek_in (goal_of c.args.goal.now) (tree_of c.index-list-at.result)
          (items (trees_of (drop (c.loop-at.at + 1) c.args.list.now)) (tasks_of ts))) (sym c.loop-at.invariant.tasks)
          ∙ ap (λ xs. seek_in (goal_of c.args.goal.now) (tree_of c.index-list-at.result) (items (trees_of xs) (tasks_of c.loop-at.tasks)))
          (sym (take_rest c.args.list.now (c.loop-at.at + 1))) ∙ h);
    }

pub seek-loop-at-preserved : goal.seek-loop-at-preserved
seek-loop-at-preserved t c =
    let h = sought_false _ _ _ _ c.if-branch.false c.in_ok-seek_inside.ensures.ok in
    record {
      tasks = h.1 ∙ c.loop-at.invariant.tasks;
      found = sym (is_later (goal_of c.args.goal.now) c.args.list.now c.loop-at.at c.index-list-at.result (tasks_of c.args.tasks.now)
          c.loop-at-test.true c.index-list-at.is (sym c.is_goal.ensures ∙ c.if-is_goal.false)
          (ap (λ ts. seek_in (goal_of c.args.goal.now) (tree_of c.index-list-at.result)
          (items (trees_of (drop (c.loop-at.at + 1) c.args.list.now)) (tasks_of ts))) (sym c.loop-at.invariant.tasks)
          ∙ ap (λ xs. seek_in (goal_of c.args.goal.now) (tree_of c.index-list-at.result) (items (trees_of xs) (tasks_of c.loop-at.tasks)))
          (sym (take_rest c.args.list.now (c.loop-at.at + 1))) ∙ h.0))
          ∙ c.loop-at.invariant.found;
    }

pub seek-returns : goal.seek-returns
seek-returns t c = record {
  ok = (
    sym c.loop-at.invariant.found ∙ past_last (goal_of c.args.goal.now) (drop c.loop-at.at c.args.list.now) (tasks_of c.args.tasks.now)
        (drop_all c.loop-at.at c.args.list.now (omega (arith, c.loop-at-test.false))),
    c.loop-at.invariant.tasks,
  );
}

pub seek_in-returns-then-branch : goal.seek_in-returns-then-branch
seek_in-returns-then-branch t c = record {
  ok = ap (λ x. seek_in (goal_of c.args.goal.now) x (tasks_of c.args.tasks.now)) (ap tree_of c.in-If.is ∙ tree-If c.in-If.field-0 c.in-If.a c.in-If.b)
      ∙ ap (λ o. or_else o (seek (goal_of c.args.goal.now) (trees_of c.in-If.b) (tasks_of c.args.tasks.now)))
      (ap (λ xs. seek (goal_of c.args.goal.now) (trees_of xs) (tasks_of c.args.tasks.now)) (sym c.as_slice.ensures.value) ∙
      sought_true _ _ _ _ c.if-branch.true c.in_ok-seek-in-If.ensures.ok);
}

pub seek_in-returns-else-branch : goal.seek_in-returns-else-branch
seek_in-returns-else-branch t c =
    let none = sought_false _ _ _ _ c.if-branch.false c.in_ok-seek-in-If.ensures.ok in
    record {
      ok = IfOk-weaker c.seek-in-If.result
          (λ b. Sought b (seek (goal_of c.args.goal.now) (trees_of c.as_slice-in-If.result.now) (tasks_of c.seek.new.tasks)) c.seek.new.tasks
          c.seek-in-If.new.tasks)
          (λ b. Sought b (seek_in (goal_of c.args.goal.now) (tree_of c.args.item.now) (tasks_of c.args.tasks.now)) c.args.tasks.now c.seek-in-If.new.tasks)
          (λ b h. sought_as b _ _ _ _
          (ap (λ x. seek_in (goal_of c.args.goal.now) x (tasks_of c.args.tasks.now)) (ap tree_of c.in-If.is ∙ tree-If c.in-If.field-0 c.in-If.a c.in-If.b)
          ∙ ap (λ o. or_else o (seek (goal_of c.args.goal.now) (trees_of c.in-If.b) (tasks_of c.args.tasks.now)))
          (ap (λ xs. seek (goal_of c.args.goal.now) (trees_of xs) (tasks_of c.args.tasks.now)) (sym c.as_slice.ensures.value) ∙ none.0)
          ∙ ap (λ xs. seek (goal_of c.args.goal.now) (trees_of xs) (tasks_of c.args.tasks.now)) (sym c.as_slice-in-If.ensures.value))
          (subst (λ ts. Sought b (seek (goal_of c.args.goal.now) (trees_of c.as_slice-in-If.result.now) (tasks_of ts)) ts c.seek-in-If.new.tasks) none.1 h))
          c.seek-in-If.ensures.ok;
    }

pub seek_in-returns-in-While : goal.seek_in-returns-in-While
seek_in-returns-in-While t c = record {
  ok = IfOk-weaker c.seek_before.result (λ b. Sought b (seek (goal_of c.args.goal.now) (trees_of c.as_slice-in-While.result.now)
      (loop_of (tree_of c.args.item.now) ∷ (tasks_of c.args.tasks.now))) c.args.tasks.now c.seek_before.new.tasks)
      (λ b. Sought b (seek_in (goal_of c.args.goal.now) (tree_of c.args.item.now) (tasks_of c.args.tasks.now)) c.args.tasks.now c.seek_before.new.tasks)
      (λ b h. sought_as b _ _ _ _ (ap (λ x. seek_in (goal_of c.args.goal.now) x (tasks_of c.args.tasks.now))
      (ap tree_of c.in-While.is ∙ tree-While c.in-While.field-0 c.in-While.a) ∙
      sym (ap (λ x. seek (goal_of c.args.goal.now) (trees_of c.in-While.a) (loop_of x ∷ (tasks_of c.args.tasks.now)))
      (ap tree_of c.in-While.is ∙ tree-While c.in-While.field-0 c.in-While.a)) ∙
      ap (λ xs. seek (goal_of c.args.goal.now) (trees_of xs) (loop_of (tree_of c.args.item.now) ∷ (tasks_of c.args.tasks.now)))
      (sym c.as_slice-in-While.ensures.value)) h) c.seek_before.ensures.ok;
}

pub seek_in-returns-in-Do : goal.seek_in-returns-in-Do
seek_in-returns-in-Do t c = record {
  ok = IfOk-weaker c.seek_before-in-Do.result
      (λ b. Sought b (seek (goal_of c.args.goal.now) (trees_of c.as_slice-in-Do.result.now)
      (loop_of (tree_of c.args.item.now) ∷ (tasks_of c.args.tasks.now))) c.args.tasks.now c.seek_before-in-Do.new.tasks)
      (λ b. Sought b (seek_in (goal_of c.args.goal.now) (tree_of c.args.item.now) (tasks_of c.args.tasks.now)) c.args.tasks.now c.seek_before-in-Do.new.tasks)
      (λ b h. sought_as b _ _ _ _ (ap (λ x. seek_in (goal_of c.args.goal.now) x (tasks_of c.args.tasks.now))
      (ap tree_of c.in-Do.is ∙ tree-Do c.in-Do.a c.in-Do.field-1) ∙
      sym (ap (λ x. seek (goal_of c.args.goal.now) (trees_of c.in-Do.a) (loop_of x ∷ (tasks_of c.args.tasks.now)))
      (ap tree_of c.in-Do.is ∙ tree-Do c.in-Do.a c.in-Do.field-1)) ∙
      ap (λ xs. seek (goal_of c.args.goal.now) (trees_of xs) (loop_of (tree_of c.args.item.now) ∷ (tasks_of c.args.tasks.now)))
      (sym c.as_slice-in-Do.ensures.value)) h) c.seek_before-in-Do.ensures.ok;
}

pub seek_in-returns-in-For : goal.seek_in-returns-in-For
seek_in-returns-in-For t c = record {
  ok = IfOk-weaker c.seek_before-in-For.result
      (λ b. Sought b (seek (goal_of c.args.goal.now) (trees_of c.as_slice-in-For.result.now)
      (loop_of (tree_of c.args.item.now) ∷ (tasks_of c.args.tasks.now))) c.args.tasks.now c.seek_before-in-For.new.tasks)
      (λ b. Sought b (seek_in (goal_of c.args.goal.now) (tree_of c.args.item.now) (tasks_of c.args.tasks.now)) c.args.tasks.now c.seek_before-in-For.new.tasks)
      (λ b h. sought_as b _ _ _ _ (ap (λ x. seek_in (goal_of c.args.goal.now) x (tasks_of c.args.tasks.now))
      (ap tree_of c.in-For.is ∙ tree-For c.in-For.field-0 c.in-For.field-1 c.in-For.field-2 c.in-For.a) ∙
      sym (ap (λ x. seek (goal_of c.args.goal.now) (trees_of c.in-For.a) (loop_of x ∷ (tasks_of c.args.tasks.now)))
      (ap tree_of c.in-For.is ∙ tree-For c.in-For.field-0 c.in-For.field-1 c.in-For.field-2 c.in-For.a)) ∙
      ap (λ xs. seek (goal_of c.args.goal.now) (trees_of xs) (loop_of (tree_of c.args.item.now) ∷ (tasks_of c.args.tasks.now)))
      (sym c.as_slice-in-For.ensures.value)) h) c.seek_before-in-For.ensures.ok;
}

pub seek_in-returns-in-Block : goal.seek_in-returns-in-Block
seek_in-returns-in-Block t c = record {
  ok = IfOk-weaker c.seek-in-Block.result
      (λ b. Sought b (seek (goal_of c.args.goal.now) (trees_of c.as_slice-in-Block.result.now) (tasks_of c.args.tasks.now)) c.args.tasks.now
      c.seek-in-Block.new.tasks) (λ b. Sought b (seek_in (goal_of c.args.goal.now) (tree_of c.args.item.now) (tasks_of c.args.tasks.now))
      c.args.tasks.now c.seek-in-Block.new.tasks)
      (λ b h. sought_as b _ _ _ _ (ap (λ x. seek_in (goal_of c.args.goal.now) x (tasks_of c.args.tasks.now))
      (ap tree_of c.in-Block.is ∙ tree-Block c.in-Block.a) ∙ ap (λ xs. seek (goal_of c.args.goal.now) (trees_of xs) (tasks_of c.args.tasks.now))
      (sym c.as_slice-in-Block.ensures.value)) h) c.seek-in-Block.ensures.ok;
}

pub seek_in-returns-in_default : goal.seek_in-returns-in_default
seek_in-returns-in_default t c = record {
  ok = (
    no_lists c.args.item.now c.in_default.not-If c.in_default.not-While c.in_default.not-Do c.in_default.not-For c.in_default.not-Switch
        c.in_default.not-Block (goal_of c.args.goal.now) (tasks_of c.args.tasks.now),
    refl,
  );
}

pub seek_in-returns-in-Switch : goal.seek_in-returns-in-Switch
seek_in-returns-in-Switch t c = record {
  ok = (
    ap (λ x. seek_in (goal_of c.args.goal.now) x (tasks_of c.args.tasks.now))
        (ap tree_of c.in-Switch.is ∙ tree-Switch c.in-Switch.field-0 c.in-Switch.field-1) ∙
        no_switch c.args.goal.now (selector_tree c.in-Switch.field-0) (sections_of c.in-Switch.field-1) (tasks_of c.args.tasks.now),
    refl,
  );
}
