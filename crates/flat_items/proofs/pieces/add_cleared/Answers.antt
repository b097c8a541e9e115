use Rattle.std.proofs.Common.{◌+◌, ◌-◌, [], sym, ap, ◌∙◌}
use Rattle.c_tree.specs.Changed.{one}
use Rattle.c_tree.specs.Trees as Plain
use Rattle.c_tree.specs.Trees.{trees_of, join}
use Rattle.c_tree.proofs.TreeLaws.{join-nil}
use Rattle.flat_laws.specs.Pieces.{assign_cell, assigned_cells, zero_tree}
use Rattle.flat_items.proofs.pieces.add_cleared.Goals as goal
use Rattle.flat_items.proofs.Joining.{one_more, cells_more, cells_end}

pub loop-i-preserved : goal.loop-i-preserved
loop-i-preserved c =
    let k = c.args.kind in
    let x = Plain.Evaluate (assign_cell k c.args.slot c.loop-i.i zero_tree) in
    let out = trees_of c.loop-i.out in
    one_more out (trees_of c.add.new.out) x (assigned_cells k c.args.slot (c.loop-i.i + 1) [] (c.args.cells - (c.loop-i.i + 1)))
    (c.in_ok-add.ensures ∙ ap (λ z. join out (one z)) c.in_ok-cell_cleared.ensures)
    ∙ ap (join out) (sym (cells_more k c.args.slot c.loop-i.i c.args.cells c.loop-i-test.true)) ∙ c.loop-i.invariant

pub returns : goal.returns
returns c = sym (join-nil (trees_of c.loop-i.out)) ∙ ap (join (trees_of c.loop-i.out))
    (sym (cells_end c.args.kind c.args.slot c.loop-i.i c.args.cells c.loop-i-test.false)) ∙ c.loop-i.invariant
