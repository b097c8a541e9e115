-- What nodes write: items, and the words of a type.
use Rattle.std.specs.Prelude.{ℕ, List, [], map, Option, Some, None}
use Rattle.std.specs.Borrow.{Bor}
use Rattle.c_grammar.specs.declared.syntax.Syntax.{Syntax}
use Rattle.c_grammar.specs.Items.{Items}
use Rattle.c_grammar.specs.Parts.{part_of, items_in}

-- those among these nodes, in order
abbrev pub items_of : (ℕ → List ℕ) → List Syntax → Items
items_of word xs = items_in (map (part_of word) xs)

-- the words of the type that a node names
abbrev pub type_words : (ℕ → List ℕ) → Option (Bor Syntax) → List ℕ
type_words word (Some k) = (part_of word k.now).firsts
type_words word None = []
