use Rattle.std.proofs.lemmas.Result.{on_ok_weaker}
use Rattle.flat_function.proofs.Exchanged.{flattened_keeps, flattened_convertible}
use Rattle.flat_function.proofs.functions.flatten_beside.Goals as goal

pub returns-clause-behaves : goal.returns-clause-behaves
returns-clause-behaves c =
    on_ok_weaker c.flatten_function.result (flattened_keeps c.args.names.now.used.file c.args.names.now.taken.file c.args.function.now
    c.flatten_function.new.function) c.flatten_function.ensures.ok

pub returns-clause-convertible : goal.returns-clause-convertible
returns-clause-convertible c =
    on_ok_weaker c.flatten_function.result (flattened_convertible c.args.names.now.used.file c.args.names.now.taken.file c.args.function.now
    c.flatten_function.new.function) c.flatten_function.ensures.ok
