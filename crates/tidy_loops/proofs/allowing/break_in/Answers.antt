use Rattle.std.proofs.Common.{cond, Some, None, sym, ap, ◌∙◌}
use Rattle.c_tree.specs.TestTrees.{test_tree}
use Rattle.c_tree.specs.Trees.{trees_of}
use Rattle.tidy_slots.specs.Counts.{list_count}
use Rattle.tidy_loops.proofs.FormLaws.{test_same}
use Rattle.tidy_loops.specs.Slots.{count_in, allowed, breaks, stop_slot}
use Rattle.tidy_loops.proofs.Outside.{stop_one, outside_test}
use Rattle.tidy_loops.proofs.allowing.break_in.Goals as goal

pub returns-then-branch : goal.returns-then-branch
returns-then-branch c =
    let P = breaks (count_in c.args.counts.now) c.args.level (trees_of c.args.list.now) (trees_of c.args.rest.now) in
    sym (ap (allowed P) (ap stop_slot (test_same c.args.test.now) ∙ sym c.in-Some.ensures) ∙
    ap (λ b. cond b (Some c.in-Some.slot) None) (sym c.in_ok-breaks-in-Some.ensures ∙ c.if-branch.true))

pub returns-else-branch : goal.returns-else-branch
returns-else-branch c =
    let P = breaks (count_in c.args.counts.now) c.args.level (trees_of c.args.list.now) (trees_of c.args.rest.now) in
    sym (ap (allowed P) (ap stop_slot (test_same c.args.test.now) ∙ sym c.in-Some.ensures) ∙
    ap (λ b. cond b (Some c.in-Some.slot) None) (sym c.in_ok-breaks-in-Some.ensures ∙ c.if-branch.false))

pub returns-in-None : goal.returns-in-None
returns-in-None c =
    let P = breaks (count_in c.args.counts.now) c.args.level (trees_of c.args.list.now) (trees_of c.args.rest.now) in
    sym (ap (allowed P) (ap stop_slot (test_same c.args.test.now) ∙ sym c.in-None.ensures))

pub breaks-requires : goal.breaks-requires
breaks-requires c = λ h.
    let g = c.in-Some.slot in
    outside_test (count_in c.args.counts.now g) _ (list_count g (trees_of c.args.list.now)) _ (c.requires g)
    (stop_one g (test_tree c.args.test.now) (ap stop_slot (test_same c.args.test.now) ∙ sym c.stop_slot.ensures ∙ c.in-Some.is)) h
