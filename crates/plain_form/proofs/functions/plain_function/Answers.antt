use Rattle.std.proofs.Common.{sym, ◌∙◌}
use Rattle.guard_vars.specs.GuardNames.{guard_names_beside}
use Rattle.plain_form.proofs.StayingLaws.{stays_plain}
use Rattle.plain_form.proofs.functions.plain_function.Goals as goal

pub returns-then-stays-clause-value : goal.returns-then-stays-clause-value
returns-then-stays-clause-value c =
    sym (stays_plain (guard_names_beside c.args.used.now.file c.args.function) c.args.function (sym c.stays.ensures ∙ c.if-stays.true))
