use Rattle.std.proofs.Common.{◌+◌, sym, subst}
use Rattle.std.proofs.lemmas.List.Elements.{All-nil}
use Rattle.c_tree.specs.Trees.{trees_of}
use Rattle.break_recovery.specs.InARow.{closed}
use Rattle.break_recovery.proofs.Walks.{RowTo, stays, closed_none}
use Rattle.tidy_loops.specs.Slots.{count_in}
use Rattle.break_recovery.specs.Within.{IsWithin}
use Rattle.break_recovery.specs.Held.{AreHeld}
use Rattle.break_recovery.proofs.walk.change_along.Goals as goal

pub returns-then-are_few : goal.returns-then-are_few
returns-then-are_few c =
    let s = c.args.counts.now in
    let k = c.args.place.now in
    let a = trees_of c.args.list.now in
    subst (λ gs. RowTo c.args.level s s gs k k a a) (sym c.new.ensures) (stays c.args.level s k a)

pub returns : goal.returns
returns c =
    let n = c.args.level in
    let s = c.args.counts.now in
    let t = c.walk_on.new.counts in
    let gs = c.in_ok-slots.slots in
    let k = c.args.place.now in
    let xs = c.args.list.now in
    let v = c.walk_on.new.walk in
    let a = trees_of xs in
    subst (λ ys. RowTo n s t gs k v.at a (trees_of ys)) (sym c.in_ok-close_gap.ensures)
    (subst (λ ys. RowTo n s t gs k v.at (trees_of ys) (trees_of (closed v.at v.next c.walk_on.new.list))) (closed_none k xs) c.in_ok-slots.ensures.row)

pub walk_on-requires-clause-within : goal.walk_on-requires-clause-within
walk_on-requires-clause-within c =
    subst (λ ys. IsWithin (count_in c.args.counts.now) (trees_of ys)) (sym (closed_none c.args.place.now c.args.list.now)) c.requires

pub walk_on-requires-clause-known : goal.walk_on-requires-clause-known
walk_on-requires-clause-known c = subst (λ hs. AreHeld hs c.args.list.now (c.args.place.now + 1)) (sym c.forget_holds.ensures) (All-nil _)
