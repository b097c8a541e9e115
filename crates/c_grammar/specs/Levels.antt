-- The productions of expressions that can have one part, and which is the one below.
use Rattle.std.specs.Prelude.{Bool, true, false}
use Rattle.c_grammar.specs.declared.syntax.Production.{Production}
use Rattle.c_grammar.specs.declared.syntax.Production.TheVariants as p

-- a production of an expression that can stand around one part alone
abbrev pub is_level : Production → Bool
is_level p.Expression = true
is_level p.Assignment = true
is_level p.Conditional = true
is_level p.Binary = true
is_level p.Unary = true
is_level p.Postfix = true
is_level p.Argument = true
is_level _ = false

-- the part of the first can be the second, alone
abbrev pub is_below : Production → Production → Bool
is_below p.Expression p.Assignment = true
is_below p.Argument p.Assignment = true
is_below p.Assignment p.Conditional = true
is_below p.Conditional p.Binary = true
is_below p.Binary p.Unary = true
is_below p.Unary p.Postfix = true
is_below p.Postfix p.Target = true
is_below p.Postfix p.Token = true
is_below _ _ = false

-- a node of this production has the parts that are kept
abbrev pub keeps_parts : Production → Bool
keeps_parts p.Expression = false
keeps_parts p.Assignment = false
keeps_parts p.Conditional = false
keeps_parts p.Binary = false
keeps_parts p.Unary = false
keeps_parts p.Postfix = false
keeps_parts p.Target = false
keeps_parts p.Argument = false
keeps_parts _ = true
