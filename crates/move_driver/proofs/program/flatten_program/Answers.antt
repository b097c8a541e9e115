use Rattle.c_copies.specs.Names.{names, file_names}
use Rattle.move_driver.proofs.program.flatten_program.Goals as goal

pub returns-clause-flat : goal.returns-clause-flat
returns-clause-flat c = c.in_ok-flatten_tops.ensures (names c.args.program.now) (file_names c.args.program.now) c.in_ok-used.ensures.gathered
