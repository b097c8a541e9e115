use Rattle.std.proofs.Common.{sym, ap, ◌∙◌}
use Rattle.std.proofs.lemmas.Result.{on_ok_weaker}
use Rattle.c_tree.specs.declared.tree.Item.{Block}
use Rattle.c_tree.specs.Trees.{trees_of, join}
use Rattle.c_tree.specs.Changed.{one}
use Rattle.c_tree.proofs.Views.{trees-push, at-Block}
use Rattle.tidy_laws.specs.Changes.{has_local}
use Rattle.tidy_loops.proofs.Made.{given_block, given_items, trees_join}
use Rattle.tidy_loops.proofs.ways.give_way.Goals as goal

pub returns-then-has_local : goal.returns-then-has_local
returns-then-has_local c =
    let l = ap (λ z. has_local (trees_of z)) (sym c.as_slice.ensures.value) ∙ sym c.has_local.ensures ∙ c.if-has_local.true in
    on_ok_weaker c.push.result
    (λ h. ap trees_of h ∙ trees-push c.args.out.now (Block c.args.list) ∙ ap (λ z. join (trees_of c.args.out.now) (one z)) (at-Block c.args.list) ∙
    ap (join (trees_of c.args.out.now)) (given_block (trees_of c.args.list) l))
    c.push.ensures.ok

pub returns-else-has_local : goal.returns-else-has_local
returns-else-has_local c =
    let l = ap (λ z. has_local (trees_of z)) (sym c.as_slice.ensures.value) ∙ sym c.has_local.ensures ∙ c.if-has_local.false in
    on_ok_weaker c.append.result
    (λ h. ap trees_of h ∙ trees_join c.args.out.now c.args.list ∙ ap (join (trees_of c.args.out.now)) (given_items (trees_of c.args.list) l))
    c.append.ensures
