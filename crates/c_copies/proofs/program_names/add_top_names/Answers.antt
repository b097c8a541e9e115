use Rattle.c_copies.specs.Names.{top_name}
use Rattle.c_copies.proofs.NameLemmas.{names_step}
use Rattle.c_copies.proofs.program_names.add_top_names.Goals as goal

pub loop-i-preserved : goal.loop-i-preserved
loop-i-preserved c =
    names_step top_name c.loop-i.set c.add_top_name.new.set _ c.args.tops.now c.loop-i.i c.index-tops-i.result
    c.loop-i-test.true c.index-tops-i.is c.in_ok-add_top_name.ensures c.loop-i.invariant
