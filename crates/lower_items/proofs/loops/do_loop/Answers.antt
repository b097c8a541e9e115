use Rattle.std.proofs.Common.{true, ap, ◌∙◌}
use Rattle.c_tree.specs.Changed.{one}
use Rattle.c_tree.specs.Exits.{breaks, continues}
use Rattle.c_tree.specs.TestTrees.{test_tree}
use Rattle.c_tree.specs.Trees as Plain
use Rattle.c_tree.specs.Trees.{trees_of}
use Rattle.flat_laws.specs.FlatForm.{aim}
use Rattle.lower_laws.specs.Straight.{jump_if}
use Rattle.c_tree.proofs.Views.{at-Mark}
use Rattle.lower_items.specs.declared.plans.Labels as N
use Rattle.lower_items.proofs.Shapes.{frame_equal}
use Rattle.lower_items.proofs.loops.do_loop.Goals as goal

pub returns-in_ok-opening-in-Ok-clause-frame : goal.returns-in_ok-opening-in-Ok-clause-frame
returns-in_ok-opening-in-Ok-clause-frame c =
    let ls = c.in-Ok.ensures.labels in
    let a = trees_of c.args.a.now in
    let next = c.continue_aim-continues.ensures ∙ ap (λ (w : N.Labels). aim true (continues a) w.next) ls in
    frame_equal (c.in_ok-opening-in-Ok.ensures ∙ ap one (at-Mark _) ∙ ap (λ (w : N.Labels). one (Plain.Mark w.list)) ls) next
    (c.in_ok-closing-in-Ok.ensures ∙ ap one c.in_ok-jump-in-Ok.ensures ∙ ap (λ (w : N.Labels). one (jump_if (test_tree c.args.test) w.list)) ls)
    (c.break_aim.ensures ∙ ap (λ (w : N.Labels). aim true (breaks a) w.behind) ls) next
