use Rattle.c_copies.specs.Names.{top_names}
use Rattle.c_copies.proofs.NameLemmas.{names_step}
use Rattle.c_copies.proofs.program_names.add_tops.Goals as goal

pub loop-i-preserved : goal.loop-i-preserved
loop-i-preserved c =
    names_step top_names c.loop-i.set c.add_top.new.set _ c.args.tops.now c.loop-i.i c.index-tops-i.result
    c.loop-i-test.true c.index-tops-i.is c.in_ok-add_top.ensures c.loop-i.invariant
