-- The laws of this crate: reading the printed text of a resolved program gives the program.
use Rattle.std.specs.Prelude.{◌≡◌, Ok}
use Rattle.c_statements.specs.Functions.{FlatCounts}
use Rattle.c_scopes.specs.Reading.{reading}
use Rattle.c_tree.specs.declared.tree.Program.{Program}
use Rattle.c_tree.specs.Text.{text_of}
use Rattle.c_tree.specs.Trees.{trees_of}
use Rattle.c_resolved_laws.specs.Counts.{flat_counts, IsResolved}
use Rattle.c_resolved_laws.specs.Laws.{HasText}
use Rattle.reread_program_laws.specs.RereadProgramLaws.{OfPrinted}

-- the jumps and labels of the flat form of a body, as reading counts them
abbrev pub counted : FlatCounts
counted body = flat_counts (trees_of body)

pub record ReadingBackLaws : Type 0 where
  -- a resolved program that has a text is what its text reads as, where both count jumps alike
  pub printed : OfPrinted (λ counts flat p. reading flat (text_of p) ≡ Ok p)
  -- so it is where the jumps and labels of flat forms are counted
  pub resolved : (p : Program) → IsResolved p → HasText p → reading counted (text_of p) ≡ Ok p
