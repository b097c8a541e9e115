use Rattle.std.proofs.Common.{rules}
use Rattle.c_tree.specs.ExpressionTrees.{expression_tree}
use Rattle.step_tasks.proofs.NodeEffects.{plain_tasks, kind_is}
use Rattle.step_tasks.proofs.expressions.add_binary.Goals as goal

pub returns-in_ok-add-in_default-2 : goal.returns-in_ok-add-in_default-2
returns-in_ok-add-in_default-2 c =
    rw (plain_tasks c.args.op (expression_tree c.args.a.now) (expression_tree c.args.b.now) c.in_default.not-AndThen c.in_default.not-OrElse)
    (rw (kind_is c.args.a.now) (rw (kind_is c.args.b.now) (search rules)))
