use Rattle.std.proofs.Common.{rules, arith, ◌∙◌}
use Rattle.sibling_elim.proofs.PairLemmas.{joined_before-is}
use Rattle.sibling_elim.proofs.siblings.join_before.Goals as goal

pub returns-clause-ok : goal.returns-clause-ok
returns-clause-ok c =
    c.set_at.ensures ∙ joined_before-is c.args.label c.args.leap c.args.land c.args.items.now.items c.cut.new.items.items c.from_vec.result
    c.requires.order (omega (arith, c.args.items.now.ok.0)) (search rules) (search rules)
