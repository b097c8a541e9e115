use Rattle.std.proofs.Common.{sym, ap, ◌∙◌}
use Rattle.c_tree.specs.Trees.{trees_of}
use Rattle.flat_items.specs.Plans.{number_at}
use Rattle.goto_lowering.specs.Renumbered.{lone_goto}
use Rattle.goto_lowering.proofs.Layouts.{lone_long, set_lone}
use Rattle.goto_lowering.proofs.renumbering.renumbered_goto.Goals as goal

pub set-requires : goal.set-requires
set-requires c = lone_long c.args.list c.in-Some.label (sym (c.lone_goto.ensures ∙ ap (λ z. lone_goto (trees_of z)) c.as_slice.ensures.value) ∙ c.in-Some.is)

pub returns-in_ok-label-in-Some : goal.returns-in_ok-label-in-Some
returns-in_ok-label-in-Some c =
    ap trees_of c.set.ensures
    ∙ set_lone (number_at c.args.places.now) c.args.list c.in-Some.label c.in_ok-label-in-Some.label
    (sym (c.lone_goto.ensures ∙ ap (λ z. lone_goto (trees_of z)) c.as_slice.ensures.value) ∙ c.in-Some.is) c.in_ok-label-in-Some.ensures
