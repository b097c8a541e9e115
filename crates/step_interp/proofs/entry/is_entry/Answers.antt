use Rattle.std.proofs.Common.{true≢false, sym}
use Rattle.jump_meaning.specs.Code.{code_of}
use Rattle.step_interp.proofs.EntryLemmas.{no_entry}
use Rattle.step_interp.proofs.entry.is_entry.Goals as goal

pub returns-in-None : goal.returns-in-None
returns-in-None c = (
  λ t. absurd (true≢false (sym t)),
  λ h. absurd (no_entry (code_of c.args.program.now) c.args.entry.now.function c.args.entry.now.arguments
      c.in-None.ensures h),
)
