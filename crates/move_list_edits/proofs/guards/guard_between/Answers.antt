use Rattle.std.proofs.Common.{rules, arith, ◌∙◌}
use Rattle.move_list_edits.proofs.CutLemmas.{guarded-is}
use Rattle.move_list_edits.proofs.guards.guard_between.Goals as goal

pub returns-clause-ok : goal.returns-clause-ok
returns-clause-ok c =
    c.set_at.ensures ∙ guarded-is c.args.label c.args.from c.args.to c.args.items.now.items c.cut.new.items.items c.from_vec.result c.new.result
    (omega arith) (omega (arith, c.args.items.now.ok.0)) (search rules) (search rules) (search rules)
