-- The laws of lowered programs.
use Rattle.lower_result_laws.specs.LoweredBehavesLaws.{LoweredProgramLaws}
use Rattle.lower_result_laws.proofs.Expressions.{expressions}
use Rattle.lower_result_laws.proofs.Tops.{rewritten, behaves}

pub lowered_program_laws : LoweredProgramLaws
lowered_program_laws = record { rewritten = rewritten; behaves = behaves; expressions = expressions }
