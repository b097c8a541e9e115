use Rattle.std.proofs.Common.{sym, ◌∙◌}
use Rattle.regoto.proofs.TidyOutcome.{is_tidied, only_tidied}
use Rattle.regoto.proofs.tidied_text.tidy_text.Goals as goal

pub returns-clause-tidied : goal.returns-clause-tidied
returns-clause-tidied c =
    let plain = c.in_ok-plain.ensures in
    is_tidied c.args.text.now c.in_ok-program.program c.in_ok-plain.plain c.in_ok-result.result c.in_ok-plain.field-0-1 c.in_ok-program.ensures.program
    (record { text = c.in_ok-text.text; changes = c.in_ok-result.changes }) c.in_ok-result.ensures.tidied c.in_ok-text.ensures
    plain.value.0 (sym c.in_ok-refusal.ensures ∙ c.in_default.is) c.in_ok-program.ensures.resolved plain.value.1 plain.resolved plain.plain plain.behaves

pub returns-clause-only : goal.returns-clause-only
returns-clause-only c =
    let plain = c.in_ok-plain.ensures in
    only_tidied c.args.text.now c.in_ok-program.program c.in_ok-plain.plain c.in_ok-result.result c.in_ok-plain.field-0-1 c.in_ok-program.ensures.program
    (record { text = c.in_ok-text.text; changes = c.in_ok-result.changes }) c.in_ok-result.ensures.tidied c.in_ok-text.ensures
    plain.only.0 plain.only.1
