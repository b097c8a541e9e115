use Rattle.std.proofs.Common.{[], ◌∷◌}
use Rattle.c_tree.specs.TextPieces.{Punctuator}
use Rattle.c_tree.specs.TextExpressions.{count_spelling}
use Rattle.c_printer.proofs.gap.count_begins_with.Goals as goal

pub returns-then-after : goal.returns-then-after
returns-then-after c =
    rw c.if-after.true (c.place_begins_with.ensures (Punctuator (count_spelling c.args.up) ∷ []) (c.first_of_count.ensures [] c.args.byte))
