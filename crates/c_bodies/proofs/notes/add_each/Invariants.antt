use Rattle.std.proofs.Common.{◌≡◌, ◌++◌, drop, map}
use Rattle.c_statements.specs.NoteViews.{all_now}
use Rattle.c_tree.specs.declared.tree.Item as item
use Rattle.c_bodies.proofs.notes.add_each.Given as goal

abbrev pub invariant-loop-bytes : goal.invariant-loop-bytes
invariant-loop-bytes l = l.out ++ map item.Note (all_now (drop l.bytes-index l.notes)) ≡ l.initial.out ++ map item.Note (all_now l.notes)
