use Rattle.std.proofs.Common.{refl}
use Rattle.c_tree.specs.ExpressionTrees.{expression_tree}
use Rattle.jump_meaning.specs.Values.{Integer}
use Rattle.step_ahead.proofs.RunLemmas.{only_dropped}
use Rattle.step_ahead.proofs.storing.dropped.Goals as goal

pub returns : goal.returns
returns c = (
  c.if-steps-most.false,
  only_dropped c.args.store.now (expression_tree c.args.e.now) (Integer c.in-Some.x.number) _ c.in-Some.x.steps refl
      c.in-Some.ensures.ok,
)
