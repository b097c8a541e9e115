use Rattle.std.proofs.Common.{ap, ◌∙◌}
use Rattle.rg_ports.specs.Written.{more}
use Rattle.rg_ports.proofs.Progress.{flushed, broken}
use Rattle.rg_ports.proofs.writer.Writer.flush.Goals as goal

pub returns-in-Ok-clause-gives : goal.returns-in-Ok-clause-gives
returns-in-Ok-clause-gives g c =
    flushed _ _ _ _ _ _ _ _ c.if-self.false (c.in-Ok.ensures.ok ∙ ap (more _) c.as_slice.ensures.value) c.write_all.ensures.grows c.clear-in-Ok.ensures

pub returns-in-Err-clause-gives : goal.returns-in-Err-clause-gives
returns-in-Err-clause-gives g c =
    broken _ _ _ _ _ _ _ _ c.if-self.false (rw c.as_slice.ensures.value at c.in-Err.ensures.err) c.in-Err.ensures.failed c.write_all.ensures.grows
