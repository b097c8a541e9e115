use Rattle.std.proofs.Common.{◌≡◌, ◌-◌, ℕ, List}
use Rattle.jump_meaning.specs.Calls.{arguments_taken, last_values, without_last}
use Rattle.step_memory.specs.Values.{values_of}
use Rattle.step_interp.proofs.calling.take_arguments.Given as goal

abbrev pub invariant-loop-at : goal.invariant-loop-at
invariant-loop-at l = record {
  taken : (ns : List (List ℕ)) → last_values (l.count - l._at) (values_of ns l.arguments) (values_of ns l.values) ≡ arguments_taken l.count
      (values_of ns l.initial.values);
  left : (ns : List (List ℕ)) → without_last (l.count - l._at) (values_of ns l.values) ≡ without_last l.count (values_of ns l.initial.values);
}
