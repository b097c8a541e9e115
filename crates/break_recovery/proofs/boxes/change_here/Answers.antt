use mathlib.Core.Path.{fun_ext}
use Rattle.std.proofs.Common.{take, drop, Some, sym, ap, subst, ◌∙◌}
use Rattle.c_tree.specs.Trees.{trees_of, join}
use Rattle.tidy_loops.specs.Slots.{count_in}
use Rattle.break_recovery.specs.Next.{changed_to}
use Rattle.break_recovery.proofs.Loops.{here_changed, here_none}
use Rattle.c_tree.specs.Views.{tree_at}
use Rattle.break_recovery.specs.Exits.{HoldsAtMost}
use Rattle.break_recovery.proofs.Steps.{entry_is}
use Rattle.break_recovery.proofs.ExitsPlaced.{list_holds}
use Rattle.break_recovery.proofs.boxes.change_here.Goals as goal

pub returns-in_ok-make-in-Some-clause-made : goal.returns-in_ok-make-in-Some-clause-made
returns-in_ok-make-in-Some-clause-made c =
    let xs = c.args.list.now in
    let at = c.args.at in
    let b = trees_of c.make.new.list in
    λ f h. ap (λ g. changed_to (Some g) b) c.slot_of.ensures ∙ here_changed f c.args.level (trees_of (drop at xs)) (join (trees_of (take at xs)))
    (count_in c.args.counts.now) (fun_ext h) _ c.in_ok-change.ensures c.in-Some.change b c.in-Some.is c.in_ok-make-in-Some.ensures

pub returns-in-None-clause-made : goal.returns-in-None-clause-made
returns-in-None-clause-made c =
    let xs = c.args.list.now in
    let at = c.args.at in
    λ f h. here_none f c.args.level (trees_of (drop at xs)) (join (trees_of (take at xs))) (count_in c.args.counts.now) (fun_ext h)
    _ c.in_ok-change.ensures (trees_of xs) c.in-None.is

pub make-requires-clause-exits : goal.make-requires-clause-exits
make-requires-clause-exits c = λ x e.
    let xs = c.args.list.now in
    subst (λ n. HoldsAtMost c.in-Some.change n (tree_at x)) (sym c.exits_of.ensures)
    (list_holds (count_in c.args.counts.now) c.args.level xs c.args.at x c.in-Some.change c.requires.place (entry_is xs c.args.at x e) c.requires.within
    (sym c.in_ok-change.ensures ∙ c.in-Some.is))
