use Rattle.std.proofs.Common.{ℕ, List, drop, map}
use Rattle.c_tree.specs.TextPieces.{Piece}
use Rattle.c_tree.specs.TextItems.{printed, printed_section, list_text, sections_text}
use Rattle.rg_ports.specs.Writing.{Start}
use Rattle.c_printer.specs.Writing.{StandsBefore}
use Rattle.c_printer.proofs.items.+put_list.Given as goal

abbrev pub invariant-put_list-loop-i : goal.invariant-put_list-loop-i
invariant-put_list-loop-i g l =
    (start : Start) (whole : List ℕ) (rest : List Piece)
    → StandsBefore start whole (g.W.Output.progress l.fn.out) (list_text (map (printed l.function) l.items) l.depth rest)
    → StandsBefore start whole (g.W.Output.progress l.out) (list_text (map (printed l.function) (drop l.i l.items)) l.depth rest)

abbrev pub invariant-put_sections-loop-i : goal.invariant-put_sections-loop-i
invariant-put_sections-loop-i g l =
    (start : Start) (whole : List ℕ) (rest : List Piece)
    → StandsBefore start whole (g.W.Output.progress l.fn.out) (sections_text (map (printed_section l.function) l.sections) l.depth rest)
    → StandsBefore start whole (g.W.Output.progress l.out) (sections_text (map (printed_section l.function) (drop l.i l.sections)) l.depth rest)
