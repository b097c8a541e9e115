-- What a report makes of a program, and what is said of one that makes nothing of it.
use Rattle.std.specs.Prelude.{◌≡◌, ◌⊎◌, ◌+◌, ◌-◌, ◌≤◌, ℕ, List, length, All}
use Rattle.c_types.specs.declared.refusal.Refusal.{Refusal}
use Rattle.c_copies.specs.Names.{names, file_names}
use Rattle.c_tree.specs.declared.tree.Top.{Top}
use Rattle.c_tree.specs.declared.tree.Program.{Program}
use Rattle.report_moves.specs.declared.moves.Move.{Move}
use Rattle.report_moves.specs.Report.{IsBadLine}
use Rattle.move_report.specs.Answers.{IsReport}
use Rattle.move_order_laws.specs.MoveFunctionCounts.{jumps}
use Rattle.plain_form.specs.Plain.{plain}
use Rattle.restructure_laws.specs.Flattened.{most_held, FlattenedTops}
use Rattle.move_driver.specs.declared.counts.Counts.{Counts}
use Rattle.move_driver.specs.Counts.{counted, guards_from, counts_of}
use Rattle.print_limits.specs.Limits.{IsWithinLimits}
use Rattle.restructure_laws.specs.Lawful.{Moves}
use Rattle.restructure_laws.specs.Replayed.{converted_tops, IsTopLeapless}
use Rattle.move_replay.specs.Steps.{StopsAt}
use Rattle.move_replay.specs.Lines.{line_start}

-- the functions of p have their flat forms, with the names of p, which are held in memory, and are converted
pub record IsStart (p : Program) (us : List Top) : Type 0 where
  pub flat : List Top
  pub held : length (names p) ≤ most_held
  pub flattened : FlattenedTops (names p) (file_names p) p.tops flat
  pub is : us ≡ converted_tops flat

-- and these moves, each lawful where it is made, lead to q
pub record IsReached (p q : Program) (ms : List Move) : Type 0 where
  pub start : List Top
  pub is_start : IsStart p start
  pub moved : Moves start ms q.tops

-- ---- a report that is accepted

-- it is the text of lawful moves that leave no Leap; q is the plain form of what they reach, and is within the limits of
-- a text; counted are the jumps of the flat forms, the moves, and the guards that are declared
pub record IsReplay (p : Program) (text : List ℕ) (q : Program) (counts : Counts) : Type 0 where
  pub moves : List Move
  pub program : Program
  pub report : IsReport text moves
  pub reached : IsReached p program moves
  pub leapless : All IsTopLeapless program.tops
  pub result : q ≡ plain (names p) program
  pub within : IsWithinLimits q
  pub jumps : counts.jumps ≡ jumps reached.is_start.flat
  pub moved : counts.moves ≡ length moves
  pub guards : counts.guards ≡ counted (guards_from program.tops q.tops)

-- the plain form of what these moves have reached, within the limits of a text, and what was done
pub record IsFinished (used : List (List ℕ)) (ms : List Move) (program made : Program) (counts : Counts) : Type 0 where
  pub result : made ≡ plain used program
  pub within : IsWithinLimits made
  pub counted : counts ≡ counts_of ms program made

-- ---- a report that is refused

-- for this reason, at the first byte of this line
pub record IsAt (reason line at : ℕ) (r : Refusal) : Type 0 where
  pub reason_is : r.reason ≡ reason
  pub line_is : r.line ≡ line
  pub column_is : r.column ≡ 1
  pub at_is : r.at ≡ at

-- a line is no line of a report, and it is the first such line
pub record IsUnreadable (text : List ℕ) (r : Refusal) : Type 0 where
  pub line : ℕ
  pub bad : IsBadLine line text
  pub at : IsAt 50 line (line_start (line - 1) text) r

-- a move isn't lawful, and it is the first such move
pub record IsUnlawful (p : Program) (text : List ℕ) (r : Refusal) : Type 0 where
  pub moves : List Move
  pub report : IsReport text moves
  pub start : List Top
  pub is_start : IsStart p start
  pub place : ℕ
  pub stops : StopsAt place moves start
  pub at : IsAt 51 (place + 1) (line_start place text) r

-- each move is lawful, and a Leap is left
pub record HasLeapLeft (p : Program) (text : List ℕ) (r : Refusal) : Type 0 where
  pub moves : List Move
  pub program : Program
  pub report : IsReport text moves
  pub reached : IsReached p program moves
  pub left : ¬ (All IsTopLeapless program.tops)
  pub at : IsAt 52 (length moves + 1) (length text) r

-- no Leap is left, and the plain form is not within the limits of a text
pub record IsTooDeep (p : Program) (text : List ℕ) (r : Refusal) : Type 0 where
  pub moves : List Move
  pub program : Program
  pub report : IsReport text moves
  pub reached : IsReached p program moves
  pub leapless : All IsTopLeapless program.tops
  pub beyond : ¬ (IsWithinLimits (plain (names p) program))
  pub at : IsAt 53 (length moves + 1) (length text) r

abbrev pub IsRefusal : Program → List ℕ → Refusal → Type 0
IsRefusal p text r = IsUnreadable text r ⊎ IsUnlawful p text r ⊎ HasLeapLeft p text r ⊎ IsTooDeep p text r

-- what stops the moves from these functions on
pub record IsStopped (start : List Top) (ms : List Move) (text : List ℕ) (r : Refusal) : Type 0 where
  pub place : ℕ
  pub stops : StopsAt place ms start
  pub at : IsAt 51 (place + 1) (line_start place text) r

pub record IsLeftOver (start : List Top) (ms : List Move) (text : List ℕ) (r : Refusal) : Type 0 where
  pub end : List Top
  pub moved : Moves start ms end
  pub left : ¬ (All IsTopLeapless end)
  pub at : IsAt 52 (length ms + 1) (length text) r

abbrev pub Stops : List Top → List Move → List ℕ → Refusal → Type 0
Stops start ms text r = IsStopped start ms text r ⊎ IsLeftOver start ms text r
