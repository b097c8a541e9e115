use Rattle.c_copies.specs.Names.{names, file_names}
use Rattle.c_resolved_laws.specs.Counts.{flat_counts}
use Rattle.lower_result_laws.proofs.Expressions.{expressions}
use Rattle.lower_result_laws.proofs.Tops.{behaves}
use Rattle.goto_lowering.proofs.program.lower.Goals as goal

pub returns-clause-lowered : goal.returns-clause-lowered
returns-clause-lowered c = record {
  held = c.in_ok-names.ensures.held;
  tops = c.in_ok-tops.ensures.tops (names c.args.program) (file_names c.args.program) c.in_ok-names.ensures.gathered;
}

pub returns-clause-behaves : goal.returns-clause-behaves
returns-clause-behaves c = behaves flat_counts c.args.program _ c.requires (returns-clause-lowered c)

pub returns-clause-expressions : goal.returns-clause-expressions
returns-clause-expressions c = expressions flat_counts c.args.program _ c.requires (returns-clause-lowered c)
