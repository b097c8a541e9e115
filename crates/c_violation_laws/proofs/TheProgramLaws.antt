-- The laws of this crate.
use Rattle.c_violation_laws.specs.ProgramLaws.{ProgramLaws}
use Rattle.c_violation_laws.proofs.Scoped.{file_scope}
use Rattle.c_violation_laws.proofs.Programs.{program_same}
use Rattle.c_violation_laws.proofs.SameFunctions.{program_written, violation_written}

pub program_laws : ProgramLaws
program_laws = record {
  scope = file_scope;
  same = program_same;
  written = λ flat text tokens comments symbols xs. program_written flat text tokens
      comments xs symbols;
  violation = violation_written;
}
