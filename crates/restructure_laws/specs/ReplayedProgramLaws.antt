-- What `replayed_program_laws` states.
use Rattle.std.specs.Prelude.{◌≡◌, ◌≤◌, true, List, length, All}
use Rattle.std.specs.List.{AllByRecursion}
use Rattle.c_copies.specs.Names.{names, file_names}
use Rattle.c_tree.specs.declared.tree.Program.{Program}
use Rattle.guard_vars.specs.GuardNames.{guard_names}
use Rattle.plain_laws.specs.Plain.{plain_with}
use Rattle.c_resolved_laws.specs.Counts.{IsResolved}
use Rattle.report_moves.specs.declared.moves.Move.{Move}
use Rattle.report_moves.specs.Report.{is_name, names_label, HasLabel}
use Rattle.print_limits.specs.Limits.{IsWithinLimits}
use Rattle.restructure_laws.specs.Lawful.{Moves}
use Rattle.restructure_laws.specs.Replayed.{converted_tops, IsTopLeapless}
use Rattle.whole_laws.specs.Guards.{TopHasNames}
use Rattle.restructure_laws.specs.RereadPlainLaws.{ReadsBack}
use Rattle.restructure_laws.specs.Flattened.{most_held, FlattenedTops}

-- q is what p is made by these moves, each lawful where it is made, with the names of p, which are held in memory
pub record IsReplayedWithNames (p q : Program) (ms : List Move) : Type 0 where
  pub flat : Program
  pub held : length (names p) ≤ most_held
  pub flattened : FlattenedTops (names p) (file_names p) p.tops flat.tops
  pub moved : Moves (converted_tops flat.tops) ms q.tops

-- the move names a function, and a label exactly where its kind has one
pub record IsNamed (m : Move) : Type 0 where
  pub function : is_name m.function ≡ true
  pub label : HasLabel (names_label m.kind) m.label

pub record ReplayedProgramLaws : Type 0 where
  -- the variables, labels and guards of the flat functions have names of their own
  pub named : (p q : Program) (ms : List Move) → IsResolved p → IsReplayedWithNames p q ms → All (TopHasNames p) q.tops
  -- where no Leap is left and the plain form is within the limits of a text, it reads back
  pub reads_back : (p q : Program) (ms : List Move) → IsResolved p → IsReplayedWithNames p q ms → All IsTopLeapless q.tops
      → IsWithinLimits (plain_with (guard_names (names p)) q) → ReadsBack p (plain_with (guard_names (names p)) q)
  -- the moves have names
  pub moves : (p q : Program) (ms : List Move) → IsResolved p → IsReplayedWithNames p q ms → AllByRecursion IsNamed ms
