use Rattle.std.proofs.Common.{refl}
use Rattle.move_driver.proofs.Settled.{only_output, replayable, text_settled}
use Rattle.move_driver.specs.Text.{output}
use Rattle.move_driver.proofs.text.restructure_text.Goals as goal

pub returns-clause-only : goal.returns-clause-only
returns-clause-only c =
    only_output c.args.text.now c.in_ok-program.program c.in_ok-program.ensures.program c.in_ok-program-2.field-0.program
    c.in_ok-program-2.field-0.moves c.in_ok-program-2.field-0.counts
    c.in_ok-program-2.ensures.only (output
    (record { text = c.in_ok-text.text; report = c.in_ok-report.report; counts = c.in_ok-program-2.field-0.counts })) c.in_ok-text.ensures
    c.in_ok-report.ensures.value refl

pub returns-clause-replayable : goal.returns-clause-replayable
returns-clause-replayable c =
    replayable c.args.text.now c.in_ok-program.program c.in_ok-program.ensures.program c.in_ok-program-2.field-0.program
    c.in_ok-program-2.field-0.moves c.in_ok-program-2.field-0.counts
    c.in_ok-program-2.ensures.only (output
    (record { text = c.in_ok-text.text; report = c.in_ok-report.report; counts = c.in_ok-program-2.field-0.counts }))
    c.in_ok-program.ensures.resolved c.in_ok-report.ensures.fits

pub returns-clause-settled : goal.returns-clause-settled
returns-clause-settled c =
    text_settled c.in_ok-text.text c.in_ok-program-2.field-0.program c.in_ok-program-2.ensures.settled c.in_ok-text.ensures c.in_ok-program-2.ensures.reads_back
