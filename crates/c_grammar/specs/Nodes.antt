-- The nodes of a syntax.
use Rattle.std.specs.Prelude.{◌+◌, ℕ, List, []}
use Rattle.c_grammar.specs.declared.syntax.Syntax.{Syntax, roll-Syntax}
use Rattle.c_grammar.specs.declared.syntax.Production.{Production}
use Rattle.c_grammar.specs.declared.syntax.Production.TheVariants as p

abbrev pub node : Production → ℕ → ℕ → List Syntax → Syntax
node rule first after parts = roll-Syntax (record { rule = rule; first = first; after = after; parts = parts })

-- the token with this number
abbrev pub leaf : ℕ → Syntax
leaf at = node p.Token at (at + 1) []
