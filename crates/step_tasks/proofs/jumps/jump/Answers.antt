use Rattle.std.proofs.Common.{[], sym, subst}
use Rattle.std.proofs.lemmas.Result.{on_ok_weaker}
use Rattle.jump_meaning.specs.Code.{function_tree, items_of}
use Rattle.jump_meaning.specs.Search.{ToLabel, find, seek}
use Rattle.step_tasks.specs.Controls.{body_of}
use Rattle.step_tasks.specs.Labels.{IsStack}
use Rattle.step_tasks.proofs.LabelLemmas.{found_tasks}
use Rattle.step_tasks.proofs.jumps.jump.Goals as goal

pub returns : goal.returns
returns c = record {
  ok = on_ok_weaker c.restore.result
      (λ h f a. h (find c.args.label (body_of f))
      (subst (λ i. IsStack c.args.labels.now.levels i (find c.args.label (body_of f))) (sym c.start.ensures)
      (found_tasks c.args.labels.now c.args.label (seek (ToLabel c.args.label) (items_of (function_tree f)) []) (a c.args.label))) c.clear.ensures)
      c.restore.ensures;
}
