use Rattle.std.proofs.Common.{ap, sym, ◌∙◌}
use Rattle.std.specs.Option.{option_copied}
use Rattle.step_interp.specs.Functions.{routine_at, stays_before}
use Rattle.step_interp.proofs.functions.keeps.Goals as goal

pub returns-in-Some : goal.returns-in-Some
returns-in-Some c =
    c.stays.ensures
    ∙ ap (λ o. stays_before o c.args.function.now) (sym (ap option_copied c.in-Some.is) ∙ c.get.ensures.value ∙
    ap (routine_at c.args.functions.now) c.as_str.ensures)

pub returns-in-None : goal.returns-in-None
returns-in-None c =
    ap (λ o. stays_before o c.args.function.now) (sym (ap option_copied c.in-None.is) ∙ c.get.ensures.value ∙
    ap (routine_at c.args.functions.now) c.as_str.ensures)
