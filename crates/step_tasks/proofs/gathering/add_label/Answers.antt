use Rattle.std.proofs.Common.{◌≡◌, ◌≢◌, arith}
use Rattle.std.proofs.lemmas.Result.{on_ok_weaker}
use Rattle.c_tree.specs.Trees.{trees_of}
use Rattle.jump_meaning.specs.Tasks.{items}
use Rattle.step_tasks.specs.declared.work.Work.TheVariants.{Items}
use Rattle.step_tasks.specs.Labels.{start_of}
use Rattle.step_tasks.proofs.LabelLemmas.{has_label, new_label}
use Rattle.step_tasks.proofs.gathering.add_label.Goals as goal

pub returns-then-start-ne0 : goal.returns-then-start-ne0
returns-then-start-ne0 c =
    let some : start_of c.args.labels.now c.args.label ≢ 0 = λ e. absurd (omega (arith, c.if-start-ne0.true, c.start.ensures, e)) in
    has_label c.args.labels.now c.args.label c.args.below (λ k. items (trees_of c.args.list.now) k) some

pub returns : goal.returns
returns c =
    let none : start_of c.args.labels.now c.args.label ≡ 0 = omega (arith, c.if-start-ne0.false, c.start.ensures) in
    on_ok_weaker c.set_start.result
    (λ e. new_label c.args.labels.now c.put.new.labels c.set_start.new.labels c.args.label c.args.below c.in_ok-level.level (Items c.args.list) none
    c.in_ok-level.ensures c.set_start.ensures.levels e)
    c.set_start.ensures.starts
