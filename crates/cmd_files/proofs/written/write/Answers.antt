use Rattle.cmd_files.proofs.Completion.{completes}
use Rattle.cmd_files.proofs.written.write.Goals as goal

pub returns-in-Err-clause-completes : goal.returns-in-Err-clause-completes
returns-in-Err-clause-completes g c =
    completes g.T.Translator.accepts g.T.Translator.refuses g.met.T.Translator.apart _ c.args.from.now _ _ _ _ _ c.in-Err.status c.in-Err.ensures.untranslated
