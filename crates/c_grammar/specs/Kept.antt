-- What an expression is, by its node as it is kept.
use Rattle.std.specs.Prelude.{Bool, true, false, ◌&&◌, List, []}
use Rattle.c_grammar.specs.declared.syntax.Syntax.{Syntax}
use Rattle.c_grammar.specs.declared.syntax.Production.{Production}
use Rattle.c_grammar.specs.declared.syntax.Production.TheVariants as p
use Rattle.c_grammar.specs.Levels.{is_level}
use Rattle.c_grammar.specs.Parts.{is_token}

-- a token below the productions of an expression
abbrev pub is_constant : Production → Production → Bool
is_constant top base = is_token base && is_level top

-- a target that is a name
abbrev pub is_variable : Production → Bool → List Syntax → Bool
is_variable p.Target true [] = true
is_variable _ _ _ = false
