-- Where a production of full expressions stands above the innermost of those that are kept as one.
use Rattle.std.specs.Prelude.{Bool, true, false}
use Rattle.c_grammar.specs.declared.syntax.Production.{Production}
use Rattle.c_grammar.specs.declared.syntax.Production.TheVariants as p

abbrev pub is_full_above : Production → Production → Bool
is_full_above p.Argument p.Argument = false
is_full_above p.Argument p.Assignment = false
is_full_above p.Argument _ = true
is_full_above p.Expression p.Expression = false
is_full_above p.Expression _ = true
is_full_above p.Assignment p.Assignment = false
is_full_above p.Assignment _ = true
is_full_above p.Conditional p.Conditional = false
is_full_above p.Conditional _ = true
is_full_above _ _ = false
