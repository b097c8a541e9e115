use Rattle.std.proofs.Common.{◌≡◌, ℕ, length}
use Rattle.flat_questions.specs.Reading.{is_flagged}
use Rattle.flat_questions.proofs.named.grow.Given as goal

abbrev pub invariant-loop-i : goal.invariant-loop-i
invariant-loop-i l = ((m : ℕ) → is_flagged l.flags m ≡ is_flagged l.initial.flags m) × (length l.flags ≡ l._i)
