use Rattle.std.proofs.lemmas.Result.{on_ok_weaker}
use Rattle.c_tree.specs.Trees.{tree_of}
use Rattle.step_tasks.specs.Tasks.{turn_of}
use Rattle.step_tasks.proofs.ControlLemmas.{turned}
use Rattle.step_tasks.proofs.items.turn.Goals as goal

pub returns-clause-ok : goal.returns-clause-ok
returns-clause-ok c =
    on_ok_weaker c.add_turn.result (λ p. turned (turn_of (tree_of c.args.item.now)) c.args.call.now c.add_turn.new.tasks c.take_truth-holds.new.values
    c.take_truth-holds.result p c.take_truth-holds.ensures.value c.take_truth-holds.ensures.left) c.add_turn.ensures.ok
