use Rattle.demo_gen.proofs.Texts.{call_line}
use Rattle.demo_gen.proofs.add_call.Goals as goal

pub returns : goal.returns
returns c = call_line c.args.out.now.items c.add.new.out.items c.add_number.new.out.items c.add-2.new.out.items c.args.k c.in_ok-add.ensures
    c.in_ok-add_number.ensures c.in_ok-add-2.ensures
