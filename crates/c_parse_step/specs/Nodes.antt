-- What is found, as nodes: a target alone has no nodes round it yet.
use Rattle.std.specs.Prelude.{ℕ, List, [], ◌∷◌, ◌++◌}
use Rattle.c_grammar.specs.declared.syntax.Syntax.{Syntax}
use Rattle.c_grammar.specs.declared.syntax.Production.{Production}
use Rattle.c_grammar.specs.declared.syntax.Production.TheVariants as p
use Rattle.c_grammar.specs.Nodes.{node}
use Rattle.c_parse_step.specs.declared.frame.Found.{Found}
use Rattle.c_parse_step.specs.declared.frame.Found.TheVariants.{Lone, Whole}
use Rattle.c_parse_step.specs.declared.frame.Full.{Full}
use Rattle.c_parse_step.specs.declared.frame.Full.TheVariants as f

-- one more node around it, and none around a target alone
abbrev pub lift : Production → ℕ → ℕ → Found → Found
lift rule first after (Lone t) = Lone t
lift rule first after (Whole s) = Whole (node rule first after (s ∷ []))

abbrev pub solid_unary : ℕ → ℕ → Found → Syntax
solid_unary first after (Lone t) = node p.Unary first after (node p.Postfix first after (t ∷ []) ∷ [])
solid_unary first after (Whole s) = s

abbrev pub solid_binary : ℕ → ℕ → Found → Syntax
solid_binary first after (Lone t) = node p.Binary first after (solid_unary first after (Lone t) ∷ [])
solid_binary first after (Whole s) = s

abbrev pub solid_conditional : ℕ → ℕ → Found → Syntax
solid_conditional first after (Lone t) = node p.Conditional first after (solid_binary first after (Lone t) ∷ [])
solid_conditional first after (Whole s) = s

abbrev pub solid_assignment : ℕ → ℕ → Found → Syntax
solid_assignment first after (Lone t) = node p.Assignment first after (solid_conditional first after (Lone t) ∷ [])
solid_assignment first after (Whole s) = s

abbrev pub solid_expression : ℕ → ℕ → Found → Syntax
solid_expression first after (Lone t) = node p.Expression first after (solid_assignment first after (Lone t) ∷ [])
solid_expression first after (Whole s) = s

abbrev pub solid : Full → ℕ → ℕ → Found → Syntax
solid f.Expression first after v = solid_expression first after v
solid f.Assignment first after v = solid_assignment first after v
solid f.Conditional first after v = solid_conditional first after v

abbrev pub postfix : ℕ → ℕ → List Syntax → Found
postfix first after parts = Whole (node p.Unary first after (node p.Postfix first after parts ∷ []))

abbrev pub target : ℕ → ℕ → List Syntax → Found
target first after parts = Lone (node p.Target first after parts)

-- an expression: assignments and commas, and the last assignment, from `start` on
abbrev pub commas : ℕ → ℕ → ℕ → List Syntax → Found → Found
commas first start after [] (Lone t) = Lone t
commas first start after [] (Whole s) = Whole (node p.Expression first after (s ∷ []))
commas first start after (x ∷ xs) v = Whole (node p.Expression first after ((x ∷ xs) ++ solid_assignment start after v ∷ []))
