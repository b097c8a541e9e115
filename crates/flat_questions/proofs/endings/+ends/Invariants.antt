use Rattle.std.proofs.Common.{◌≡◌, ◌-◌, true}
use Rattle.flat_questions.specs.Reading.{is_flagged}
use Rattle.flat_questions.proofs.EndLaws.{goes}
use Rattle.flat_questions.proofs.endings.+ends.Given as goal

abbrev pub invariant-items_end_by-loop-k : goal.invariant-items_end_by-loop-k
invariant-items_end_by-loop-k l = goes (is_flagged l.named) l.items (l.count - l.k) ≡ true
