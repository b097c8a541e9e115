use Rattle.std.proofs.Common.{sym, ◌∙◌, arith}
use Rattle.tidy_loops.proofs.Read.{free_in, not_free}
use Rattle.tidy_loops.proofs.counts.is_free.Goals as goal

pub returns-in-Some : goal.returns-in-Some
returns-in-Some c = c.is_flag.ensures ∙ sym (free_in c.args.function.now c.args.slot c.in-Some.found.now (omega (arith, c.if-slot-function.false))
    c.in-Some.ensures.within c.in-Some.ensures.value)

pub returns-in-None : goal.returns-in-None
returns-in-None c = not_free c.args.function.now c.args.slot c.in-None.ensures.value
