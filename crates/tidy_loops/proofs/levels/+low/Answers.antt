use Rattle.std.proofs.Common.{true, false, sym, ap, ◌∙◌}
use Rattle.c_tree.proofs.Views.{trees-end}
use Rattle.tidy_laws.specs.Changes.{are_low}
use Rattle.tidy_loops.proofs.Made.{low_first}
use Rattle.tidy_loops.proofs.levels.+low.Goals as goal

pub items_are_low-returns-then-not-branch : goal.items_are_low-returns-then-not-branch
items_are_low-returns-then-not-branch t c =
    low_first c.args.slot c.args.level c.args.items.now c.loop-i.i c.index-items-i.result false c.loop-i-test.true c.index-items-i.is
    (sym c.in_ok-is_low.ensures ∙ c.if-not-branch.true)
    ∙ c.loop-i.invariant

pub items_are_low-loop-i-preserved : goal.items_are_low-loop-i-preserved
items_are_low-loop-i-preserved t c =
    low_first c.args.slot c.args.level c.args.items.now c.loop-i.i c.index-items-i.result true c.loop-i-test.true c.index-items-i.is
    (sym c.in_ok-is_low.ensures ∙ c.if-not-branch.false)
    ∙ c.loop-i.invariant

pub items_are_low-returns : goal.items_are_low-returns
items_are_low-returns t c = sym (ap (are_low c.args.slot c.args.level) (trees-end c.args.items.now c.loop-i.i c.loop-i-test.false)) ∙ c.loop-i.invariant
