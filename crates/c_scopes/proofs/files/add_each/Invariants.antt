use Rattle.std.proofs.Common.{◌≡◌, ◌++◌, drop, map}
use Rattle.c_statements.specs.NoteViews.{all_now}
use Rattle.c_tree.specs.declared.tree.Top.TheVariants as top
use Rattle.c_scopes.proofs.files.add_each.Given as goal

abbrev pub invariant-loop-bytes : goal.invariant-loop-bytes
invariant-loop-bytes l = l.out ++ map top.Note (all_now (drop l.bytes-index l.notes)) ≡ l.initial.out ++ map top.Note (all_now l.notes)
