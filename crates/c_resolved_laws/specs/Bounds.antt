-- How many gotos and labels a body's flat form has at most, told without making it.
use Rattle.std.specs.Prelude.{ℕ, ◌+◌, cond, length}
use Rattle.c_tree.specs.Trees.{Tree, Sections, NoSection, Section, While, Do, For, Switch, Break, Continue, Goto, Mark, Arrival}
use Rattle.c_resolved_laws.specs.Counts.{section_ends}

-- the labels of sections themselves: of their cases and their defaults
abbrev pub entries : Sections → ℕ
entries NoSection = 0
entries (Section cases default a ends c) = length cases + cond default 1 0 + entries c

-- the gotos that an item may become, apart from those of the items in it: an exit becomes one, a nested case label a
-- test, and a switch one for each case label and each end, and one for where no case is selected
abbrev pub most_gotos : Tree → ℕ
most_gotos (Goto l) = 1
most_gotos Break = 1
most_gotos Continue = 1
most_gotos (Arrival e) = 1
most_gotos (Switch s c) = 1 + entries c + section_ends c
most_gotos _ = 0

-- the labels in the same way: a loop has two, and a switch one for each of its own and one behind it
abbrev pub most_labels : Tree → ℕ
most_labels (Mark l) = 1
most_labels (Arrival e) = 1
most_labels (While t a) = 2
most_labels (Do a t) = 2
most_labels (For first t u a) = 2
most_labels (Switch s c) = 1 + entries c
most_labels _ = 0
