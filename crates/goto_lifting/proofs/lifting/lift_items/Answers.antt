use Rattle.std.proofs.Common.{[], ◌∷◌, ◌++◌, rules, arith, ap, ◌∙◌}
use Rattle.c_tree.specs.declared.tree.Item.{Leap}
use Rattle.goto_lifting.proofs.LiftLemmas.{lifted-is}
use Rattle.goto_lifting.proofs.lifting.lift_items.Goals as goal

pub returns-clause-ok : goal.returns-clause-ok
returns-clause-ok c =
    c.set_at.ensures ∙ lifted-is c.args.label c.args.leap c.args.place c.args.items.now.items c.cut.new.items.items c.from_vec.result
    c.requires.order (omega (arith, c.args.items.now.ok.0)) (search rules)
    (c.from_vec.ensures ∙ c.in-Ok.ensures.items
    ∙ ap (λ a. a ++ c.in_ok-stretch.stretch.items) (c.in_ok-push.ensures.items ∙ ap (λ a. a ++ Leap c.args.label ∷ []) c.in_ok-inner.ensures.items)
    ∙ ap (λ a. Leap c.args.label ∷ a) c.in_ok-stretch.ensures.cut)
