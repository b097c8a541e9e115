-- The labels of a flat form by their codes.
use Rattle.std.specs.Prelude.{ℕ, List, length}
use Rattle.c_tree.specs.declared.tree.Function.{Function}
use Rattle.c_tree.specs.Numerals.{constant}
use Rattle.c_tree.specs.Trees.{Forest}
use Rattle.flat_laws.specs.Loose.{NoArrival}
use Rattle.flat_laws.specs.Pieces.{Stays}
use Rattle.flat_laws.specs.FlatForm.{flat, coded, first_here, marks}

-- the flat form of a body, in which each label has its code as its number
abbrev pub coded_form : Function → Forest → Forest
coded_form f body = flat (coded constant f.slots (length f.labels) body) (first_here (length f.slots)) Stays Stays NoArrival body

-- the labels of the flat form of a body, by their codes, in text order
abbrev pub label_codes : Function → Forest → List ℕ
label_codes f body = marks (coded_form f body)
