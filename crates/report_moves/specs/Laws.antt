-- What `report_laws` states: a report is the text of one list of moves.
use Rattle.std.specs.Prelude.{◌≡◌, ◌≢◌, ℕ, List}
use Rattle.report_moves.specs.declared.moves.Move.{Move}
use Rattle.report_moves.specs.Report.{report_text, AreReportable, IsBadLine}

-- a report is the text of one list of moves, and any other text has one first bad line
pub record ReportLaws : Type 0 where
  -- no two lists of moves have one text
  pub one_list : (ms ns : List Move) → AreReportable ms → AreReportable ns → report_text ms ≡ report_text ns → ms ≡ ns
  -- a text with a bad line is the text of no list of moves
  pub no_list : (n : ℕ) (text : List ℕ) (ms : List Move) → IsBadLine n text → AreReportable ms → text ≢ report_text ms
  -- and its first bad line is one
  pub one_line : (m n : ℕ) (text : List ℕ) → IsBadLine m text → IsBadLine n text → m ≡ n
