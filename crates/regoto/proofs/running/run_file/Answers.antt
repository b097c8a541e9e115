use Rattle.regoto.proofs.RunCompletion.{completes, same_program}
use Rattle.regoto.proofs.running.run_file.Goals as goal

pub returns-in-Ok-clause-completes : goal.returns-in-Ok-clause-completes
returns-in-Ok-clause-completes g c = λ files text p input told there short given can tells still stays keeps.
    let same = same_program g.R.ProgramReader.gives g.R.ProgramReader.refuses g.met.R.ProgramReader.one g.met.R.ProgramReader.apart
    _ files c.args.from.now text c.in-Ok.ready.program p told there c.in-Ok.ensures.read given in
    rw (← same) (c.run_ready.ensures.complete stays keeps input tells)

pub returns-in-Err-clause-completes : goal.returns-in-Err-clause-completes
returns-in-Err-clause-completes g c =
    completes g.R.ProgramReader.gives g.R.ProgramReader.refuses g.met.R.ProgramReader.one g.met.R.ProgramReader.apart
    _ c.args.from.now c.args.steps _ _ _ _ _ _ _ _ c.in-Err.status c.in-Err.ensures.unrun
