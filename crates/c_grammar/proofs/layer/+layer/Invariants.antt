-- The form of an expression is found by that of a smaller one: `layer_of` at a node, the others at the parts of one.
use Rattle.std.proofs.Common.{◌+◌, ◌*◌}
use Rattle.c_grammar.specs.Weights.{weight, weights}
use Rattle.c_grammar.proofs.layer.+layer.Given as goal

abbrev pub decreases-expression_layer : goal.decreases-expression_layer
decreases-expression_layer l = 4 * weights l.parts.now + 1

abbrev pub decreases-assignment_layer : goal.decreases-assignment_layer
decreases-assignment_layer l = 4 * weights l.parts.now + 1

abbrev pub decreases-conditional_layer : goal.decreases-conditional_layer
decreases-conditional_layer l = 4 * weights l.parts.now + 1

abbrev pub decreases-binary_layer : goal.decreases-binary_layer
decreases-binary_layer l = 4 * weights l.parts.now + 1

abbrev pub decreases-unary_layer : goal.decreases-unary_layer
decreases-unary_layer l = 4 * weights l.parts.now + 1

abbrev pub decreases-bracket_layer : goal.decreases-bracket_layer
decreases-bracket_layer l = 4 * weights l.parts.now + 1

abbrev pub decreases-target_layer : goal.decreases-target_layer
decreases-target_layer l = 4 * weights l.parts.now + 1

abbrev pub decreases-argument_layer : goal.decreases-argument_layer
decreases-argument_layer l = 4 * weights l.parts.now + 1

abbrev pub decreases-postfix_layer : goal.decreases-postfix_layer
decreases-postfix_layer l = 4 * weights l.parts.now + 2

abbrev pub decreases-form : goal.decreases-form
decreases-form l = 4 * weights l.parts.now + 3

abbrev pub decreases-layer_of : goal.decreases-layer_of
decreases-layer_of l = 4 * weight l.x.now
