use Rattle.std.proofs.Common.{◌≡◌, ◌+◌, ◌<◌, ◌≤◌, length, sym, ap, subst, ◌∙◌, arith}
use Rattle.std.proofs.lemmas.List.{length-set}
use Rattle.c_tree.specs.Trees.{trees_of}
use Rattle.c_tree.specs.Views.{tree_at}
use Rattle.break_recovery.specs.Loops.{loop_after}
use Rattle.break_recovery.proofs.Loops.{next_kept, next_taken, none_next}
use Rattle.break_recovery.proofs.Steps.{entry_is}
use Rattle.break_recovery.specs.Exits.{HoldsAtMost}
use Rattle.break_recovery.proofs.boxes.make.Goals as goal

pub returns-then-keeps_next : goal.returns-then-keeps_next
returns-then-keeps_next c =
    let xs = c.args.list.now in
    let at = c.args.at in
    let x = c.at_mut.result.now in
    let y = c.changed_loop.new.item in
    let k : tree_at y ≡ loop_after c.args.change (tree_at x) = c.in_ok-changed_loop.ensures ∙ ap (λ z. loop_after c.args.change (tree_at z))
    c.get_mut.ensures.value in
    next_kept xs at x c.requires.place (entry_is xs at x c.at_mut.ensures.value) y c.args.change k (sym c.keeps_next.ensures ∙ c.if-keeps_next.true)

pub returns-then-at-count : goal.returns-then-at-count
returns-then-at-count c =
    let xs = c.args.list.now in
    let at = c.args.at in
    let x = c.at_mut.result.now in
    let y = c.changed_loop.new.item in
    let k : tree_at y ≡ loop_after c.args.change (tree_at x) = c.in_ok-changed_loop.ensures ∙ ap (λ z. loop_after c.args.change (tree_at z))
    c.get_mut.ensures.value in
    let l : at + 1 < length xs = omega (arith, c.if-at-count.true, c.len-count.ensures.value, length-set xs at y) in
    ap trees_of c.remove.ensures.rest ∙ next_taken xs at x c.requires.place (entry_is xs at x c.at_mut.ensures.value) y c.args.change k
    (sym c.keeps_next.ensures ∙ c.if-keeps_next.false) l

pub returns-else-at-count : goal.returns-else-at-count
returns-else-at-count c =
    let xs = c.args.list.now in
    let at = c.args.at in
    let x = c.at_mut.result.now in
    let y = c.changed_loop.new.item in
    let k : tree_at y ≡ loop_after c.args.change (tree_at x) = c.in_ok-changed_loop.ensures ∙ ap (λ z. loop_after c.args.change (tree_at z))
    c.get_mut.ensures.value in
    let l : length xs ≤ at + 1 = omega (arith, c.if-at-count.false, c.len-count.ensures.value, length-set xs at y) in
    none_next xs at x c.requires.place (entry_is xs at x c.at_mut.ensures.value) y c.args.change k (sym c.keeps_next.ensures ∙ c.if-keeps_next.false) l

pub changed_loop-requires : goal.changed_loop-requires
changed_loop-requires c =
    subst (λ z. HoldsAtMost c.args.change c.args.exits (tree_at z)) (sym c.get_mut.ensures.value)
    (c.requires.exits c.at_mut.result.now c.at_mut.ensures.value)
