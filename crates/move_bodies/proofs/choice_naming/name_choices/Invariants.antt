use Rattle.std.proofs.Common.{◌≡◌, ◌++◌}
use Rattle.std.specs.Vec.Iter.{into_iter_items}
use Rattle.guard_simplify.specs.Naming.{choices_named}
use Rattle.move_bodies.proofs.choice_naming.name_choices.Given as goal

abbrev pub invariant-loop-choice : goal.invariant-loop-choice
invariant-loop-choice l = choices_named l.function l.labels (into_iter_items l.initial.choice-iterator) ≡ l.out ++
    choices_named l.function l.labels (into_iter_items l.choice-iterator)
