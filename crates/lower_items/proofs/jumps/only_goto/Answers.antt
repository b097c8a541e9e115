use Rattle.std.proofs.Common.{cond, None, sym, ap, ◌∙◌}
use Rattle.flat_questions.specs.Reading.{is_flagged}
use Rattle.c_tree.specs.Views.{tree_at}
use Rattle.lower_items.specs.Jumps.{goto_of}
use Rattle.lower_items.proofs.Jumping.{goto_next, goto_here, goto_end}
use Rattle.lower_items.proofs.jumps.only_goto.Goals as goal

pub returns-then-not-is_gone : goal.returns-then-not-is_gone
returns-then-not-is_gone c =
    let x = c.index-items-i.result in
    c.goto_if.ensures ∙ ap (λ y. cond y (goto_of (tree_at x)) None) c.is_bare.ensures
    ∙ sym (c.loop-i.invariant ∙ goto_here (is_flagged c.args.named.now) c.args.items.now c.loop-i.i x c.loop-i-test.true c.index-items-i.is
    (sym c.is_gone.ensures ∙ c.if-not-is_gone.true))

pub loop-i-preserved : goal.loop-i-preserved
loop-i-preserved c =
    c.loop-i.invariant ∙ goto_next (is_flagged c.args.named.now) c.args.items.now c.loop-i.i c.index-items-i.result c.loop-i-test.true
    c.index-items-i.is (sym c.is_gone.ensures ∙ c.if-not-is_gone.false)

pub returns : goal.returns
returns c = sym (c.loop-i.invariant ∙ goto_end (is_flagged c.args.named.now) c.args.items.now c.loop-i.i c.loop-i-test.false)
