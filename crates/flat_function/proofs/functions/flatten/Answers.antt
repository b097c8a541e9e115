use Rattle.std.proofs.lemmas.Result.{on_ok_weaker}
use Rattle.flat_form.proofs.Gathered.{gathered_beside}
use Rattle.flat_function.proofs.functions.flatten.Goals as goal

pub returns-clause-value : goal.returns-clause-value
returns-clause-value c =
    on_ok_weaker c.flatten_beside.result (gathered_beside c.args.names.now c.args.file_names.now c.in_ok-gathered.gathered c.args.function.now
    c.flatten_beside.new.function c.in_ok-gathered.ensures) c.flatten_beside.ensures.value
