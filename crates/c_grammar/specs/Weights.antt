-- How many nodes a syntax has.
use Rattle.std.specs.Prelude.{◌+◌, ℕ, List, [], ◌∷◌, map}
use Rattle.c_grammar.specs.declared.syntax.Syntax.{Syntax, fold-Syntax}
use Rattle.c_grammar.specs.declared.syntax.Syntax.TheOpen.{Syntax-F}

abbrev pub total : List ℕ → ℕ
total [] = 0
total (n ∷ ns) = n + total ns

unfoldable pub weight : Syntax → ℕ
weight x = fold-Syntax ℕ (λ (s : Syntax-F ℕ). total s.parts + 1) x

abbrev pub weights : List Syntax → ℕ
weights xs = total (map weight xs)
