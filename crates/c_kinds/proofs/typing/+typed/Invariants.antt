use Rattle.std.proofs.Common.{◌≡◌, ◌+◌, ◌-◌, ◌*◌, ◌++◌, drop}
use Rattle.c_grammar.specs.Weights.{weight, weights}
use Rattle.c_kinds.specs.Typing.{commas, unused_faults, given, given_faults}
use Rattle.c_kinds.specs.Views.{env_of, terms}
use Rattle.c_kinds.proofs.typing.+typed.Given as goal

abbrev pub decreases-typed_of : goal.decreases-typed_of
decreases-typed_of l = 4 * weight l.x.now

abbrev pub decreases-used_value : goal.decreases-used_value
decreases-used_value l = 4 * weight l.x.now + 1

abbrev pub decreases-dropped_value : goal.decreases-dropped_value
decreases-dropped_value l = 4 * weight l.x.now + 1

abbrev pub decreases-cell : goal.decreases-cell
decreases-cell l = 4 * weight l.i.now + 2

abbrev pub decreases-target : goal.decreases-target
decreases-target l = 4 * weight l.x.now

abbrev pub decreases-prefix : goal.decreases-prefix
decreases-prefix l = 4 * weight l.a.now + 2

abbrev pub decreases-typed_binary : goal.decreases-typed_binary
decreases-typed_binary l = 4 * weight l.a.now + 4 * (weight l.b.now - weight l.a.now) + 2

abbrev pub decreases-assigned : goal.decreases-assigned
decreases-assigned l = 4 * weight l.t.now + 4 * (weight l.a.now - weight l.t.now) + 2

abbrev pub decreases-typed_choice : goal.decreases-typed_choice
decreases-typed_choice l = 4 * weight l.a.now + 4 * (weight l.b.now - weight l.a.now) + 4 * (weight l.c.now -
    (weight l.a.now + (weight l.b.now - weight l.a.now))) + 2

abbrev pub decreases-behind_left : goal.decreases-behind_left
decreases-behind_left l = 4 * weight l.x.now + 1

abbrev pub decreases-commas : goal.decreases-commas
decreases-commas l = 4 * weights l.parts.now + 2

abbrev pub decreases-sequence : goal.decreases-sequence
decreases-sequence l = 4 * weight l.a.now + 4 * (weights l.parts.now - weight l.a.now) + 3

abbrev pub decreases-give : goal.decreases-give
decreases-give l = 4 * weight l.x.now + 1

abbrev pub decreases-arguments_given : goal.decreases-arguments_given
decreases-arguments_given l = 4 * weights l.parts.now + 2

abbrev pub invariant-commas-loop-x : goal.invariant-commas-loop-x
invariant-commas-loop-x l = record {
  value : commas (env_of l.known) l.left (terms l.known (drop l.x-index l.parts)) ≡ commas (env_of l.known) l.initial.left (terms l.known l.parts);
  faults : unused_faults (env_of l.known) (terms l.known (drop l.x-index l.parts)) l.faults ≡ unused_faults (env_of l.known) (terms l.known l.parts)
      l.initial.faults;
}

abbrev pub invariant-arguments_given-loop-x : goal.invariant-arguments_given-loop-x
invariant-arguments_given-loop-x l = record {
  value : l.out ++ given (env_of l.known) (terms l.known (drop l.x-index l.parts)) ≡ given (env_of l.known) (terms l.known l.parts);
  faults : given_faults (env_of l.known) (terms l.known (drop l.x-index l.parts)) l.faults ≡ given_faults (env_of l.known) (terms l.known l.parts)
      l.initial.faults;
}
