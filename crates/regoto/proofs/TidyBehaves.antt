-- What a program is tidied to behaves by structure as the program does by steps.
use Rattle.c_tree.specs.declared.tree.Program.{Program}
use Rattle.jump_meaning.specs.Code.{code_of}
use Rattle.jump_meaning.specs.Runs.{jump_run}
use Rattle.jump_meaning.proofs.Covering.{same_runs_trans}
use Rattle.struct_meaning.specs.Runs.{structural_run}
use Rattle.plain_laws.specs.Laws.{BehavesAsStructured}
use Rattle.tidy_laws.specs.TidyBehaviourLaws.{BehaveAlike}

-- what behaves by structure as what behaves by structure as the program does so as the program
pub behaves : (p plain q : Program) → BehavesAsStructured p plain → BehaveAlike (code_of plain) (code_of q) → BehavesAsStructured p q
behaves p plain q b alike = record {
  entries = λ m arguments. (λ e. (alike.entries m arguments).0 ((b.entries m arguments).0 e), λ e. (b.entries m arguments).1 ((alike.entries m arguments).1 e));
  runs = λ m arguments entry input answers.
      let first = jump_run (code_of p) m arguments input answers in
      let between = structural_run (code_of plain) m arguments input answers in
      let last = structural_run (code_of q) m arguments input answers in
      same_runs_trans first between last (b.runs m arguments entry input answers) (alike.runs m arguments ((b.entries m arguments).0 entry) input answers);
}
