use Rattle.std.proofs.Common.{◌≡◌, ◌++◌}
use Rattle.std.specs.Vec.Iter.{into_iter_items}
use Rattle.move_order_laws.specs.Naming.{all_named}
use Rattle.move_bodies.proofs.naming.name_moves.Given as goal

abbrev pub invariant-loop-kept : goal.invariant-loop-kept
invariant-loop-kept l = all_named l.function l.labels (into_iter_items l.initial.kept-iterator) ≡ l.out ++
    all_named l.function l.labels (into_iter_items l.kept-iterator)
