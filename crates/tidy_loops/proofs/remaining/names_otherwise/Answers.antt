use Rattle.std.proofs.Common.{sym, subst, arith}
use Rattle.std.proofs.lemmas.Bool.{le-ltb, lt-ltb}
use Rattle.c_tree.specs.Views.{tree_at}
use Rattle.tidy_slots.specs.Counts.{item_count}
use Rattle.tidy_loops.specs.Exits.{exits_of}
use Rattle.tidy_loops.specs.Remaining.{IsLeft}
use Rattle.tidy_loops.proofs.remaining.names_otherwise.Goals as goal

pub returns-in-Some : goal.returns-in-Some
returns-in-Some c =
    let g = c.args.slot in
    let x = tree_at c.args.item.now in
    let l = subst (IsLeft c.args.most (exits_of g x) (item_count g x)) c.in-Some.is c.behind_item.ensures in
    sym (le-ltb (exits_of g x) (item_count g x) (omega (arith, l)))

pub returns-in-None : goal.returns-in-None
returns-in-None c =
    let g = c.args.slot in
    let x = tree_at c.args.item.now in
    sym (lt-ltb (exits_of g x) (item_count g x) (subst (IsLeft c.args.most (exits_of g x) (item_count g x)) c.in-None.is c.behind_item.ensures))
