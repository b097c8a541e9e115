-- What `whole_laws` states.
use Rattle.std.specs.Prelude.{ℕ, ◌≡◌, true, List, length, All}
use Rattle.c_tree.specs.declared.tree.Function.{Function}
use Rattle.c_tree.specs.declared.tree.Top.{Top}
use Rattle.c_tree.specs.declared.tree.Top.TheVariants as T
use Rattle.c_tree.specs.declared.tree.Program.{Program}
use Rattle.c_tree.specs.InRange.{IsProgramInRange}
use Rattle.c_tree.specs.Jumps.{is_jump_free_program, is_plain_program}
use Rattle.jump_meaning.specs.Runs.{BehaveTheSame}
use Rattle.jump_meaning.specs.Steady.{IsSteady}
use Rattle.plain_laws.specs.Plain.{plain_with}
use Rattle.plain_laws.specs.Laws.{BehavesAsStructured}
use Rattle.report_moves.specs.declared.moves.Move.{Move}
use Rattle.whole_laws.specs.Rewritten.{IsRewritten}
use Rattle.c_resolved_defs.specs.Limits.{FlatCounts}
use Rattle.c_resolved_defs.specs.Resolved.{IsResolvedWith}

-- a name for each label of a function
abbrev pub IsTopNamed : (Function → List (List ℕ)) → Top → Type 0
IsTopNamed names (T.Function f) = length (names f) ≡ length f.labels
IsTopNamed names _ = Unit {0}

-- the plain form of q, which p is rewritten to
pub record IsRight (names : Function → List (List ℕ)) (p q : Program) : Type 0 where
  pub steady : IsSteady q
  pub same : BehaveTheSame p q
  pub ranged : IsProgramInRange (plain_with names q)
  pub plain : is_plain_program (plain_with names q) ≡ true
  pub runs : BehavesAsStructured p (plain_with names q)

pub record WholeLaws : Type 0 where
  -- what a resolved program is rewritten to is steady, and behaves the same
  pub steady : (counts : FlatCounts) (p q : Program) (ms : List Move) → IsResolvedWith counts p → IsRewritten p q ms → IsSteady q × BehaveTheSame p q
  -- it has no jumps
  pub jump_free : (counts : FlatCounts) (p q : Program) (ms : List Move) → IsResolvedWith counts p → IsRewritten p q ms → is_jump_free_program q ≡ true
  -- and its plain form is plain, in range, and its structural runs are the runs of the program
  pub whole : (counts : FlatCounts) (names : Function → List (List ℕ)) (p q : Program) (ms : List Move) → IsResolvedWith counts p →
      IsRewritten p q ms → All (IsTopNamed names) q.tops → IsRight names p q
