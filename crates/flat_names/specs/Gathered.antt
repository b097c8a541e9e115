-- Names that are gathered once for all functions of a program, and what was given beside them.
use Rattle.std.specs.Prelude.{ℕ, ◌≡◌, List}
use Rattle.c_tree.specs.declared.tree.Slot.{Slot}
use Rattle.c_copies.specs.Names.{with_names}
use Rattle.c_fresh_names.specs.declared.used.UsedNames.{UsedNames}
use Rattle.flat_names.specs.declared.giving.GivenNames.{GivenNames}
use Rattle.flat_names.specs.declared.whole.ProgramNames.{ProgramNames}
use Rattle.flat_names.specs.FlatNames.{Given, Named, with_known}

-- all names that are used
abbrev pub all_used : UsedNames → List (List ℕ)
all_used u = with_names u.file u.own

-- the names that were given so far
abbrev pub given_of : UsedNames → GivenNames → Given
given_of u g = record { used = all_used u; variables = g.variables; made = g.made }

-- variables, and the names that are used then
abbrev pub named_of : UsedNames → List Slot → Named
named_of u ss = record { slots = ss; used = all_used u }

-- the names of a program and those of its file scope are gathered
pub record AreGathered (names file : List (List ℕ)) (n : ProgramNames) : Type 0 where
  pub used : n.used.file ≡ with_known names
  pub taken : n.taken.file ≡ with_known file
