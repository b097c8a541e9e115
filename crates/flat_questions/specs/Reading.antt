-- What the code answers, as the definitions have it: flags of labels, and how lists end.
use Rattle.std.specs.Prelude.{ℕ, Bool, false, ◌||◌, List, get_or}
use Rattle.c_tree.specs.declared.tree.Section.{Section, out-Section}
use Rattle.c_tree.specs.Trees.{trees_of}
use Rattle.flat_laws.specs.Parts.{arrivals, has_default, Ending, Gone, Breaks, Jumps, Otherwise}
use Rattle.flat_questions.specs.declared.endings.Ending as Answer
use Rattle.flat_questions.specs.declared.endings.Ending.TheVariants as A

-- whether a label is flagged; labels past the last flag aren't
abbrev pub is_flagged : List Bool → ℕ → Bool
is_flagged flags l = get_or flags l false

-- how a list ends
abbrev pub ending_as : Answer.Ending → Ending
ending_as A.Gone = Gone
ending_as A.Breaks = Breaks
ending_as A.Jumps = Jumps
ending_as A.Otherwise = Otherwise

-- a section has a default, its own or one in a nested statement
abbrev pub default_in : Section → Bool
default_in c = let o = out-Section c in o.default || has_default (arrivals (trees_of o.list))

-- a section has an end
abbrev pub ends_in : Section → Bool
ends_in c = (out-Section c).ends
