use Rattle.std.proofs.Common.{◌≡◌, ◌≤◌, ◌-◌, true, drop, length}
use Rattle.c_lexer.specs.declared.state.State.TheVariants.{Between}
use Rattle.c_lexer.specs.Answers.{nothing}
use Rattle.c_lexer.specs.Machine as spec
use Rattle.c_lexer.proofs.read.scan_pieces.Given as goal

-- what is left goes on to what the whole text gives
abbrev pub invariant-loop-i : goal.invariant-loop-i
invariant-loop-i l = record {
  same : spec.run spec.add_ended l.text (Between true) 0 nothing l.text ≡ spec.run spec.add_ended l.text l.state l.i l.out (drop l.i l.text);
  order : spec.least l.state ≤ l.i;
  within : l.i ≤ length l.text;
}

abbrev pub decreases-loop-i : goal.decreases-loop-i
decreases-loop-i l = length l.text - l.i
