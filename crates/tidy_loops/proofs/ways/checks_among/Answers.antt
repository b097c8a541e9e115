use Rattle.std.proofs.Common.{[], cond, sym, ap, ◌∙◌}
use Rattle.c_tree.specs.Trees.{trees_of}
use Rattle.tidy_loops.specs.Exits.{checks_told}
use Rattle.tidy_loops.proofs.Giving.{told_more, told_all}
use Rattle.tidy_loops.proofs.ways.checks_among.Goals as goal

pub loop-i-preserved : goal.loop-i-preserved
loop-i-preserved c =
    told_more c.args.slot c.args.items.now c.loop-i.i c.index-items-i.result c.is_check.result c.loop-i.checks c.push.new.self c.loop-i-test.true
    c.index-items-i.is c.is_check.ensures c.in_ok-push.ensures.ok
    ∙ c.loop-i.invariant

pub returns : goal.returns
returns c =
    let a = checks_told c.args.slot (trees_of c.args.items.now) in
    told_all c.args.slot c.args.items.now c.loop-i.i c.loop-i.checks c.loop-i-test.false c.loop-i.invariant ∙
    sym (ap (λ b. cond b a []) (sym c.has_check.ensures ∙ c.if-not-has_check.false))
