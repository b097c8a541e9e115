-- What `named_program_laws` states.
use Rattle.std.specs.Prelude.{ℕ, ◌≤◌, List, length, All}
use Rattle.c_copies.specs.Names.{names, file_names}
use Rattle.c_tree.specs.declared.tree.Top.{Top}
use Rattle.c_tree.specs.declared.tree.Program.{Program}
use Rattle.c_resolved_defs.specs.Limits.{FlatCounts}
use Rattle.c_resolved_defs.specs.Resolved.{IsResolvedWith}
use Rattle.guard_vars.specs.GuardNames.{guard_names}
use Rattle.plain_laws.specs.Plain.{plain_with}
use Rattle.c_resolved_laws.specs.Counts.{IsResolved}
use Rattle.report_moves.specs.declared.moves.Move.{Move}
use Rattle.move_order_laws.specs.Moved.{MovedTops}
use Rattle.whole_laws.specs.Rewritten.{FlatTops, IsRewritten}
use Rattle.whole_laws.specs.Guards.{TopHasNames}
use Rattle.restructure_laws.specs.RereadPlainLaws.{ReadsBack}
use Rattle.restructure_laws.specs.Flattened.{most_held, FlattenedTops}

-- q is what p is rewritten to by these moves in this order, with the names of p, which are held in memory
pub record IsRewrittenWithNames (p q : Program) (ms : List Move) : Type 0 where
  pub flat : Program
  pub held : length (names p) ≤ most_held
  pub flattened : FlattenedTops (names p) (file_names p) p.tops flat.tops
  pub moved : MovedTops flat.tops q.tops ms

pub record NamedProgramLaws : Type 0 where
  -- what the tops of a resolved program are flattened to, with whatever names, are flat forms
  pub flat : (names file : List (List ℕ)) (counts : FlatCounts) (p : Program) (us : List Top) → IsResolvedWith counts p →
      FlattenedTops names file p.tops us → FlatTops p.tops us
  -- so the program is rewritten
  pub rewritten : (counts : FlatCounts) (p q : Program) (ms : List Move) → IsResolvedWith counts p → IsRewrittenWithNames p q ms → IsRewritten p q ms
  -- the variables, labels and guards of its flat functions have names of their own
  pub named : (p q : Program) (ms : List Move) → IsResolved p → IsRewrittenWithNames p q ms → All (TopHasNames p) q.tops
  -- and its plain form reads back
  pub reads_back : (p q : Program) (ms : List Move) → IsResolved p → IsRewrittenWithNames p q ms → ReadsBack p (plain_with (guard_names (names p)) q)
