-- What `lowered_program_laws` states.
use Rattle.c_tree.specs.declared.tree.Program.{Program}
use Rattle.jump_meaning.specs.Runs.{BehaveTheSame}
use Rattle.lower_laws.specs.Rewritten.{RewrittenTops}
use Rattle.lower_laws.specs.Functions.{IsLowered}
use Rattle.c_resolved_defs.specs.Limits.{FlatCounts}
use Rattle.c_resolved_defs.specs.Resolved.{IsResolvedWith}
use Rattle.lower_laws.specs.Lowering.{IsLoweredProgram}
use Rattle.lower_result_laws.specs.Expressions.{KeepsExpressions}

pub record LoweredProgramLaws : Type 0 where
  -- each function with a body of what a resolved program is lowered to has the flat list of gotos of that body
  pub rewritten : (counts : FlatCounts) (p q : Program) → IsResolvedWith counts p → IsLoweredProgram p q → RewrittenTops IsLowered p.tops q.tops
  -- so it behaves the same
  pub behaves : (counts : FlatCounts) (p q : Program) → IsResolvedWith counts p → IsLoweredProgram p q → BehaveTheSame p q
  -- and its full expressions come from those of the program
  pub expressions : (counts : FlatCounts) (p q : Program) → IsResolvedWith counts p → IsLoweredProgram p q → KeepsExpressions p q
