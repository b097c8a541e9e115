use mathlib.Core.Path.{fun_ext}
use Rattle.std.proofs.Common.{◌+◌, take, drop, Some, get_or, ap, sym, subst, ◌≡◌, ◌∙◌, arith}
use Rattle.c_tree.specs.Trees.{trees_of, join}
use Rattle.c_tree.specs.Views.{tree_at}
use Rattle.tidy_loops.specs.Slots.{count_in}
use Rattle.break_recovery.specs.Next.{changed_to}
use Rattle.break_recovery.specs.Steady.{AreAlike}
use Rattle.break_recovery.proofs.Likeness.{here_alike, said_here}
use Rattle.break_recovery.proofs.Outermost.{some_none}
use Rattle.break_recovery.proofs.Loops.{here_changed, here_none}
use Rattle.break_recovery.specs.Exits.{HoldsAtMost}
use Rattle.break_recovery.proofs.Steps.{entry_is}
use Rattle.break_recovery.proofs.Within.{is_less, within_apart}
use Rattle.break_recovery.proofs.WithinAfter.{count_join_of}
use Rattle.break_recovery.proofs.HeldLaws.{held_left}
use Rattle.break_recovery.proofs.ExitsPlaced.{list_holds}
use Rattle.break_recovery.proofs.here.change_here.Goals as goal

pub returns-in_ok-make-in-Some : goal.returns-in_ok-make-in-Some
returns-in_ok-make-in-Some c =
    let xs = c.args.list.now in
    let at = c.args.at in
    let ys = c.make.new.list in
    let r = c.in-Some.change in
    let g = c.slot_of.result in
    let x = c.index-as_slice-at.result in
    let e : x ≡ get_or xs at x = c.index-as_slice-at.is ∙ ap (λ z. get_or z at x) c.as_slice.ensures.value in
    record {
      made = λ f h. ap (λ g. changed_to (Some g) (trees_of ys)) c.slot_of.ensures
          ∙ here_changed f c.args.level (trees_of (drop at xs)) (join (trees_of (take at xs))) (count_in c.args.counts.now) (fun_ext h)
          _ c.in_ok-change.ensures r (trees_of ys) c.in-Some.is c.in_ok-make-in-Some.ensures;
      kept = λ e. some_none g e;
      alike = said_here g c.in_ok-held-in-Some.held (λ g. AreAlike c.args.counts.now g (trees_of xs) (trees_of ys))
          (λ i. subst (λ g. AreAlike c.args.counts.now g (trees_of xs) (trees_of ys)) (sym c.slot_of.ensures)
          (here_alike c.args.counts.now (count_in c.args.counts.now) c.args.level xs ys at x r c.requires.place e (sym c.in_ok-change.ensures ∙ c.in-Some.is)
          (held_left c.args.counts.now r (tree_at x) c.in_ok-turned-in-Some.turned xs (at + 1) c.in_ok-turned-in-Some.ensures (c.in_ok-held-in-Some.ensures i))
          c.in_ok-make-in-Some.ensures));
    }

pub returns-in-None-clause-made : goal.returns-in-None-clause-made
returns-in-None-clause-made c =
    let xs = c.args.list.now in
    let at = c.args.at in
    λ f h. here_none f c.args.level (trees_of (drop at xs)) (join (trees_of (take at xs))) (count_in c.args.counts.now) (fun_ext h)
    _ c.in_ok-change.ensures (trees_of xs) c.in-None.is

pub turned_by-requires : goal.turned_by-requires
turned_by-requires c =
    let xs = c.args.list.now in
    let x = c.index-as_slice-at.result in
    let e : x ≡ get_or xs c.args.at x = c.index-as_slice-at.is ∙ ap (λ z. get_or z c.args.at x) c.as_slice.ensures.value in
    subst (λ n. HoldsAtMost c.in-Some.change n (tree_at x)) (sym c.exits_of-exits.ensures)
    (list_holds (count_in c.args.counts.now) c.args.level xs c.args.at x c.in-Some.change c.requires.place e (within_apart _ (trees_of xs) c.requires.within)
    (sym c.in_ok-change.ensures ∙ c.in-Some.is))

pub make-requires-clause-exits : goal.make-requires-clause-exits
make-requires-clause-exits c = λ x e.
    let xs = c.args.list.now in
    subst (λ n. HoldsAtMost c.in-Some.change n (tree_at x)) (sym c.exits_of-exits.ensures)
    (list_holds (count_in c.args.counts.now) c.args.level xs c.args.at x c.in-Some.change c.requires.place (entry_is xs c.args.at x e)
    (within_apart _ (trees_of xs) c.requires.within) (sym c.in_ok-change.ensures ∙ c.in-Some.is))

pub are_held_there-requires : goal.are_held_there-requires
are_held_there-requires c = λ g.
    let t = count_join_of g c.args.list.now (c.args.at + 1) in
    is_less (count_in c.args.counts.now g) _ _ (omega (arith, t)) (c.requires.within g)
