use Rattle.std.proofs.Common.{ap, sym, ◌∙◌}
use Rattle.std.specs.Option.{option_copied}
use Rattle.jump_meaning.specs.Effects.{top}
use Rattle.step_memory.specs.Values.{values_of}
use Rattle.step_tasks.proofs.TopLemmas.{on_top, none_on_top}
use Rattle.step_tasks.proofs.pending.last.Goals as goal

pub returns-in-Some : goal.returns-in-Some
returns-in-Some c ns =
    sym (ap (λ vs. top (values_of ns vs)) (on_top c.in-Some.value.now c.args.values.now (sym (ap option_copied c.in-Some.is) ∙ c.top.ensures)))

pub returns-in-None : goal.returns-in-None
returns-in-None c ns = sym (ap (λ vs. top (values_of ns vs)) (none_on_top c.args.values.now (sym (ap option_copied c.in-None.is) ∙ c.top.ensures)))
