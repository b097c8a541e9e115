use Rattle.std.proofs.Common.{◌+◌, None, ap, ◌∙◌}
use Rattle.c_tree.specs.Changed.{one}
use Rattle.c_tree.specs.declared.tree.Item as I
use Rattle.c_tree.specs.Trees.{trees_of, join}
use Rattle.c_tree.proofs.Views.{at-Local, trees-push}
use Rattle.goto_lowering.proofs.Layouts.{declared_start, declared_step, declared_end}
use Rattle.goto_lowering.proofs.bodies.declare.Goals as goal

pub loop-i-init : goal.loop-i-init
loop-i-init c = declared_start c.args.from c.args.count (trees_of c.args.out.now)

pub loop-i-preserved : goal.loop-i-preserved
loop-i-preserved c =
    let o = c.loop-i.out in
    declared_step c.args.from c.loop-i.i c.args.count (trees_of o) (trees_of c.push.new.self) _ c.loop-i-test.true
    (ap trees_of c.in_ok-push.ensures.ok ∙ trees-push o (I.Local (c.args.from + c.loop-i.i) None) ∙
    ap (λ z. join (trees_of o) (one z)) (at-Local (c.args.from + c.loop-i.i) None)) c.loop-i.invariant

pub returns : goal.returns
returns c = declared_end c.args.from c.loop-i.i c.args.count (trees_of c.loop-i.out) _ c.loop-i-test.false c.loop-i.invariant
