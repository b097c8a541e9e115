use Rattle.regoto.proofs.LowerOutcome.{whole, only}
use Rattle.regoto.proofs.lowered_text.lower_text.Goals as goal

pub returns-clause-lowered : goal.returns-clause-lowered
returns-clause-lowered c =
    whole c.args.text.now _ c.in_ok-program.program c.in_ok-program-2.program c.in_ok-program.ensures.resolved c.in_ok-program.ensures.program
    c.in_ok-program-2.ensures.lowered c.in_ok-program-2.ensures.behaves
    c.in_ok-text.ensures c.in_ok-program-2.ensures.gotos

pub returns-clause-only : goal.returns-clause-only
returns-clause-only c =
    only c.args.text.now _
    (whole c.args.text.now _ c.in_ok-program.program c.in_ok-program-2.program c.in_ok-program.ensures.resolved c.in_ok-program.ensures.program
    c.in_ok-program-2.ensures.lowered c.in_ok-program-2.ensures.behaves
    c.in_ok-text.ensures c.in_ok-program-2.ensures.gotos)
