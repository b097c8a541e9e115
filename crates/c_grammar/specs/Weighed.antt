-- A syntax has more nodes than each part of the node that shows it.
use Rattle.std.specs.Prelude.{◌≡◌, ◌+◌, ◌≤◌, ℕ, Bool, true, List, [], ◌∷◌}
use Rattle.std.proofs.Common.{arith, ap, ◌∙◌}
use denote.Param.Weighed.{most}
use Rattle.c_grammar.specs.declared.syntax.Syntax.{Syntax, out-Syntax, fold_out-Syntax, out-roll-Syntax}
use Rattle.c_grammar.specs.declared.syntax.Syntax.TheOpen.{Syntax-F}
use Rattle.c_grammar.specs.declared.syntax.Production.{Production}
use Rattle.c_grammar.specs.declared.syntax.Production.TheVariants as p
use Rattle.c_grammar.specs.Nodes.{node, leaf}
use Rattle.c_grammar.specs.Shown.{in_postfix, in_unary, in_binary, in_conditional, in_assignment, in_expression, in_argument, raised, innermost, shown}
use Rattle.c_grammar.specs.Weights.{total, weight, weights}

-- a node has one node more than its parts
pub open_weight : (x : Syntax) → weight x ≡ weights (out-Syntax x).parts + 1
unfolding weight
open_weight x = fold_out-Syntax ℕ (λ s. total s.parts + 1) x

pub weight_node : (rule : Production) (first after : ℕ) (parts : List Syntax) → weight (node rule first after parts) ≡ weights parts + 1
weight_node rule first after parts = open_weight (node rule first after parts) ∙
    ap (λ (s : Syntax-F Syntax). weights s.parts + 1) (out-roll-Syntax (record { rule = rule; first = first; after = after; parts = parts }))

pub most_of_parts : (xs : List Syntax) → most (λ k. weight k + 1) xs ≤ weights xs + 1
most_of_parts [] = omega arith
most_of_parts (x ∷ xs) = omega (arith, most_of_parts xs)

-- a node that has this one alone as its part
pub weight_around : (rule : Production) (first after : ℕ) (x : Syntax) → weight x ≤ weight (node rule first after (x ∷ []))
weight_around rule first after x = omega (arith, weight_node rule first after (x ∷ []))

pub weight_innermost : (base : Production) (is_name : Bool) (first after : ℕ) (parts : List Syntax) →
    weights parts + 1 ≤ weight (innermost base is_name first after parts)
weight_innermost p.Target true first after [] = omega (arith, weight_node p.Target first after (leaf first ∷ []))
weight_innermost p.Target true first after (x ∷ xs) = omega (arith, weight_node p.Target first after (x ∷ xs))
weight_innermost base is_name first after parts = omega (arith, weight_node base first after parts)

pub weight_in_postfix : (base : Production) (first after : ℕ) (x : Syntax) → weight x ≤ weight (in_postfix base first after x)
weight_in_postfix p.Postfix first after x = omega arith
weight_in_postfix base first after x = weight_around p.Postfix first after x

pub weight_in_unary : (base : Production) (first after : ℕ) (x : Syntax) → weight x ≤ weight (in_unary base first after x)
weight_in_unary p.Unary first after x = omega arith
weight_in_unary base first after x = omega (arith, weight_in_postfix base first after x, weight_around p.Unary first after (in_postfix base first after x))

pub weight_in_binary : (base : Production) (first after : ℕ) (x : Syntax) → weight x ≤ weight (in_binary base first after x)
weight_in_binary p.Binary first after x = omega arith
weight_in_binary base first after x = omega (arith, weight_in_unary base first after x, weight_around p.Binary first after (in_unary base first after x))

pub weight_in_conditional : (base : Production) (first after : ℕ) (x : Syntax) → weight x ≤ weight (in_conditional base first after x)
weight_in_conditional p.Conditional first after x = omega arith
weight_in_conditional base first after x = omega (
  arith,
  weight_in_binary base first after x,
  weight_around p.Conditional first after
      (in_binary base first after x),
)

pub weight_in_assignment : (base : Production) (first after : ℕ) (x : Syntax) → weight x ≤ weight (in_assignment base first after x)
weight_in_assignment p.Assignment first after x = omega arith
weight_in_assignment base first after x = omega (
  arith,
  weight_in_conditional base first after x,
  weight_around p.Assignment first after
      (in_conditional base first after x),
)

pub weight_in_expression : (base : Production) (first after : ℕ) (x : Syntax) → weight x ≤ weight (in_expression base first after x)
weight_in_expression p.Expression first after x = omega arith
weight_in_expression base first after x = omega (
  arith,
  weight_in_assignment base first after x,
  weight_around p.Expression first after
      (in_assignment base first after x),
)

pub weight_in_argument : (base : Production) (first after : ℕ) (x : Syntax) → weight x ≤ weight (in_argument base first after x)
weight_in_argument p.Argument first after x = omega arith
weight_in_argument base first after x = omega (
  arith,
  weight_in_assignment base first after x,
  weight_around p.Argument first after (in_assignment base first after x),
)

pub weight_raised : (top base : Production) (first after : ℕ) (x : Syntax) → weight x ≤ weight (raised top base first after x)
weight_raised p.Postfix base first after x = weight_in_postfix base first after x
weight_raised p.Unary base first after x = weight_in_unary base first after x
weight_raised p.Binary base first after x = weight_in_binary base first after x
weight_raised p.Conditional base first after x = weight_in_conditional base first after x
weight_raised p.Assignment base first after x = weight_in_assignment base first after x
weight_raised p.Expression base first after x = weight_in_expression base first after x
weight_raised p.Argument base first after x = weight_in_argument base first after x
weight_raised _ base first after x = omega arith

pub parts_weigh : (top base : Production) (is_name : Bool) (first after : ℕ) (parts : List Syntax) →
    most (λ k. weight k + 1) parts ≤ weight (shown top base is_name first after parts)
parts_weigh top base is_name first after parts =
    omega (
      arith,
      most_of_parts parts,
      weight_innermost base is_name first after parts,
      weight_raised top base first after (innermost base is_name first after parts),
    )
