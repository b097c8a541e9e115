use Rattle.std.proofs.Common.{ap, sym, ◌∙◌, arith}
use Rattle.std.proofs.lemmas.Result.{on_ok_weaker}
use Rattle.c_tree.specs.Trees.{trees_of}
use Rattle.jump_meaning.specs.Tasks.{items, end_of}
use Rattle.step_tasks.specs.Controls.{weights}
use Rattle.step_tasks.specs.Tasks.{tasks_of}
use Rattle.step_tasks.proofs.SectionLemmas.{opened}
use Rattle.step_tasks.proofs.upcoming.add_section.Goals as goal

pub returns : goal.returns
returns c = record {
  ok = on_ok_weaker c.push-2.result (λ e. record {
    tasks = ap tasks_of e ∙ ap (λ xs. items (trees_of xs) (tasks_of c.add_end.new.tasks)) c.as_slice.ensures.value
        ∙ ap (items (trees_of c.args.section.now.list)) (c.in_ok-add_end.ensures.tasks ∙
        ap (λ ws. end_of c.args.section.now.ends (tasks_of ws)) c.in_ok-push.ensures.ok)
        ∙ sym (opened c.args.section.now c.args.later.now (tasks_of c.args.tasks.now));
    weight = omega (arith, ap weights e, ap weights c.in_ok-push.ensures.ok, c.in_ok-add_end.ensures.weight);
  }) c.push-2.ensures.ok;
}
