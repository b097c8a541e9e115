use Rattle.std.proofs.Common.{◌≡◌, drop, map}
use Rattle.c_tree.specs.declared.tree.Function.{Function}
use Rattle.c_tree.specs.TextItems.{printed, begins_with_local}
use Rattle.c_printer.proofs.shape.begins_with_local.Given as goal

abbrev pub invariant-loop-i : goal.invariant-loop-i
invariant-loop-i l = (f : Function) → begins_with_local (map (printed f) l.items) ≡ begins_with_local (map (printed f) (drop l.i l.items))
