-- What a node in memory shows. Productions that have one part alone, each around the next, take no memory of their own: a node
-- tells the outermost of them, and holds the parts of the innermost.
use Rattle.std.specs.Prelude.{ℕ, Bool, true, List, [], ◌∷◌}
use Rattle.c_grammar.specs.declared.syntax.Syntax.{Syntax}
use Rattle.c_grammar.specs.declared.syntax.Production.{Production}
use Rattle.c_grammar.specs.declared.syntax.Production.TheVariants as p
use Rattle.c_grammar.specs.Nodes.{node, leaf}

-- ---- the productions of expressions that can have one part, around an innermost one that is below them

abbrev pub in_postfix : Production → ℕ → ℕ → Syntax → Syntax
in_postfix p.Postfix first after x = x
in_postfix base first after x = node p.Postfix first after (x ∷ [])

abbrev pub in_unary : Production → ℕ → ℕ → Syntax → Syntax
in_unary p.Unary first after x = x
in_unary base first after x = node p.Unary first after (in_postfix base first after x ∷ [])

abbrev pub in_binary : Production → ℕ → ℕ → Syntax → Syntax
in_binary p.Binary first after x = x
in_binary base first after x = node p.Binary first after (in_unary base first after x ∷ [])

abbrev pub in_conditional : Production → ℕ → ℕ → Syntax → Syntax
in_conditional p.Conditional first after x = x
in_conditional base first after x = node p.Conditional first after (in_binary base first after x ∷ [])

abbrev pub in_assignment : Production → ℕ → ℕ → Syntax → Syntax
in_assignment p.Assignment first after x = x
in_assignment base first after x = node p.Assignment first after (in_conditional base first after x ∷ [])

abbrev pub in_expression : Production → ℕ → ℕ → Syntax → Syntax
in_expression p.Expression first after x = x
in_expression base first after x = node p.Expression first after (in_assignment base first after x ∷ [])

abbrev pub in_argument : Production → ℕ → ℕ → Syntax → Syntax
in_argument p.Argument first after x = x
in_argument base first after x = node p.Argument first after (in_assignment base first after x ∷ [])

-- from the outermost production down to the innermost, whose node this is
abbrev pub raised : Production → Production → ℕ → ℕ → Syntax → Syntax
raised p.Postfix base first after x = in_postfix base first after x
raised p.Unary base first after x = in_unary base first after x
raised p.Binary base first after x = in_binary base first after x
raised p.Conditional base first after x = in_conditional base first after x
raised p.Assignment base first after x = in_assignment base first after x
raised p.Expression base first after x = in_expression base first after x
raised p.Argument base first after x = in_argument base first after x
raised _ base first after x = x

-- the innermost node; a target that is a name has its token as its part
abbrev pub innermost : Production → Bool → ℕ → ℕ → List Syntax → Syntax
innermost p.Target true first after [] = node p.Target first after (leaf first ∷ [])
innermost base is_name first after parts = node base first after parts

abbrev pub shown : Production → Production → Bool → ℕ → ℕ → List Syntax → Syntax
shown top base is_name first after parts = raised top base first after (innermost base is_name first after parts)
