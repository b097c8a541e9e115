-- What is restructured to itself.
use Rattle.std.specs.Prelude.{ℕ, List, []}
use Rattle.c_tree.specs.declared.tree.Program.{Program}
use Rattle.c_text.specs.Reading.{IsInSubset}
use Rattle.move_driver.specs.declared.counts.Counts.{Counts}
use Rattle.move_driver.specs.Restructured.{IsOnly}
use Rattle.move_driver.specs.Text.{Output, IsOnlyOutput}

abbrev pub no_counts : Counts
no_counts = record { jumps = 0; moves = 0; guards = 0 }

-- whatever the program is restructured to is the program, by no moves
abbrev pub IsSettled : Program → Type 0
IsSettled p = IsOnly p p [] no_counts

-- a text as it is, with an empty report
abbrev pub unchanged : List ℕ → Output
unchanged t = record { text = t; report = []; counts = no_counts }

-- the text is in the subset, and whatever it is restructured to is the text, with an empty report
pub record IsTextSettled (t : List ℕ) : Type 0 where
  pub subset : IsInSubset t
  pub every : IsOnlyOutput t (unchanged t)
