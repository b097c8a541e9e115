use Rattle.c_copies.specs.Names.{enum_names}
use Rattle.c_copies.proofs.NameLemmas.{names_step}
use Rattle.c_copies.proofs.program_names.add_enum.Goals as goal

pub loop-i-preserved : goal.loop-i-preserved
loop-i-preserved c =
    names_step enum_names c.loop-i.set c.add_enum_item.new.set _ c.args.items.now c.loop-i.i c.index-items-i.result
    c.loop-i-test.true c.index-items-i.is c.in_ok-add_enum_item.ensures c.loop-i.invariant
