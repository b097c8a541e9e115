use Rattle.std.proofs.Common.{sym, subst}
use Rattle.c_tree.specs.declared.tree.Top.TheVariants as T
use Rattle.flat_form.proofs.Gathered.{gathered_beside}
use Rattle.restructure_laws.specs.Flattened.{fd_function}
use Rattle.move_driver.specs.Flattened.{IsTopFlattenedBeside}
use Rattle.move_driver.proofs.Programs.{stays}
use Rattle.move_driver.proofs.program.flatten_top.Goals as goal

pub returns-in_ok-flatten_beside-in-Function-clause-ok : goal.returns-in_ok-flatten_beside-in-Function-clause-ok
returns-in_ok-flatten_beside-in-Function-clause-ok c =
    subst (λ t. IsTopFlattenedBeside c.args.names.now t (T.Function c.flatten_beside.new.function)) (sym c.in-Function.is)
    (λ names file a. fd_function (gathered_beside names file c.args.names.now c.in-Function.function c.flatten_beside.new.function a
    c.in_ok-flatten_beside-in-Function.ensures.value) c.as_slice.ensures.bound)

pub returns-in_default-clause-ok : goal.returns-in_default-clause-ok
returns-in_default-clause-ok c names file a = stays names file c.args.top.now c.in_default.not-Function
