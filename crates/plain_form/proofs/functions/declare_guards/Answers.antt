use Rattle.std.proofs.Common.{[], ◌∷◌, ◌++◌, ap, ◌∙◌}
use Rattle.c_tree.specs.declared.tree.Item.{Item}
use Rattle.plain_laws.specs.Plain.{guard_declared}
use Rattle.plain_form.proofs.LoopLemmas.{declare_step}
use Rattle.plain_form.proofs.functions.declare_guards.Goals as goal

pub loop-k-preserved : goal.loop-k-preserved
loop-k-preserved c =
    declare_step guard_declared c.loop-k.out c.push.new.self _ c.loop-k.k c.args.to c.loop-k-test.true
    (c.in_ok-push.ensures.ok ∙ ap (λ (x : Item). c.loop-k.out ++ x ∷ []) c.in_ok-guard_declared.ensures) c.loop-k.invariant
