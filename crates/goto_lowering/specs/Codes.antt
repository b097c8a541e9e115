-- The labels of a flat list by their codes.
use Rattle.std.specs.Prelude.{ℕ, List, length}
use Rattle.c_tree.specs.declared.tree.Slot.{Slot}
use Rattle.c_tree.specs.Numerals.{constant}
use Rattle.c_tree.specs.Trees.{Forest}
use Rattle.flat_laws.specs.Loose.{NoArrival}
use Rattle.flat_laws.specs.Pieces.{Stays}
use Rattle.flat_laws.specs.FlatForm.{first_here, marks}
use Rattle.lower_laws.specs.Lowered.{coded, lowered}

-- in text order, of a body of a function with these variables
abbrev pub codes_of : List Slot → Forest → List ℕ
codes_of slots body = marks (lowered (coded constant slots body) (first_here (length slots)) Stays Stays NoArrival body)
