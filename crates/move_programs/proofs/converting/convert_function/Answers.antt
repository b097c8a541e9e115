use Rattle.std.proofs.lemmas.Result.{on_ok_weaker}
use Rattle.move_programs.proofs.Converted.{kept}
use Rattle.move_programs.proofs.converting.convert_function.Goals as goal

pub returns-clause-behaves : goal.returns-clause-behaves
returns-clause-behaves c = on_ok_weaker c.convert.result (kept c.args.function.now c.convert.new.function) c.convert.ensures.ok
