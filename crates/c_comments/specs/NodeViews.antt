-- What the nodes of a file write, in order.
use Rattle.std.specs.Prelude.{ℕ, List, map}
use Rattle.c_grammar.specs.declared.syntax.Syntax.{Syntax}
use Rattle.c_grammar.specs.Tops.{Top}
use Rattle.c_grammar.specs.TopViews.{top_of}

abbrev pub tops_in : (ℕ → List ℕ) → List Syntax → List Top
tops_in word xs = map (top_of word) xs
