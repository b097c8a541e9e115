-- The labels of sections with an empty list (ISO/IEC 9899:2011, 6.8.4.2).
use Rattle.std.specs.Prelude.{not, ◌&&◌, ◌||◌, if◌then◌else◌, List, [], ◌∷◌, ◌++◌}
use Rattle.c_tree.specs.declared.tree.Item.{Item}
use Rattle.c_tree.specs.declared.tree.Item.TheOpen as I
use Rattle.c_tree.specs.declared.tree.Section.{Section, roll-Section, out-Section}
use Rattle.c_tree.specs.TextItems.{is_empty}

-- the section with the cases and the default of another before its own
abbrev pub with_entries : I.Section-F Item Section → Section → Section
with_entries c d = let e = out-Section d in roll-Section (record { cases = c.cases ++ e.cases; default = c.default || e.default; list = e.list; ends = e.ends })

-- a section before others: with an empty list and no end it gives its cases and its default to the next
abbrev pub pass_to : Section → List Section → List Section
pass_to c [] = c ∷ []
pass_to c (d ∷ ds) = let e = out-Section c in if is_empty e.list && not e.ends then with_entries e d ∷ ds else c ∷ d ∷ ds

-- sections, each of which passes its labels so to the next, if there is one
abbrev pub labels_passed : List Section → List Section
labels_passed [] = []
labels_passed (c ∷ cs) = pass_to c (labels_passed cs)

-- what is made of sections, of which the last may still pass its labels on, and of those that follow
abbrev pub passed_after : List Section → List Section → List Section
passed_after [] cs = labels_passed cs
passed_after (c ∷ []) cs = labels_passed (c ∷ cs)
passed_after (c ∷ d ∷ ds) cs = c ∷ passed_after (d ∷ ds) cs
