use Rattle.std.proofs.Common.{◌≡◌, length}
use Rattle.step_interp.specs.Files.{AreFirstCells}
use Rattle.step_interp.proofs.files.first_numbers.Given as goal

abbrev pub invariant-loop-at : goal.invariant-loop-at
invariant-loop-at l = record { count : length l.cells ≡ l.at; cells : AreFirstCells l.kind l.initialisers l.cells }
