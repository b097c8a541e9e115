use Rattle.std.proofs.Common.{List, refl, sym, ◌∙◌, true≢false, arith}
use Rattle.c_tree.specs.declared.tree.Expression.{Expression}
use Rattle.c_tree.specs.ExpressionTrees.{expression_tree}
use Rattle.c_tree.specs.Trees.{expression_trees}
use Rattle.c_resolved_defs.specs.Limits.{most_of}
use Rattle.c_resolved_defs.specs.PrintableExpressions.{counted_at}
use Rattle.c_resolved_defs.specs.PrintableStatements.{most}
use Rattle.print_limits.proofs.Measures.{one_passed, one_stopped, all_ended}
use Rattle.print_limits.proofs.expressions.are_short.Goals as goal

pub returns-then-not-is_short_at : goal.returns-then-not-is_short_at
returns-then-not-is_short_at c =
    one_stopped (λ (es : List Expression). most_of c.args.need (expression_trees es)) (λ (e : Expression). counted_at c.args.need (expression_tree e))
    refl (λ x a. refl) most c.args.items.now c.loop-i.i c.index-items-i.result c.loop-i-test.true c.index-items-i.is
    (λ f. true≢false (sym (c.is_short_at.ensures.1 f) ∙ c.if-not-is_short_at.true)) c.loop-i.invariant

pub loop-i-preserved : goal.loop-i-preserved
loop-i-preserved c =
    one_passed (λ (es : List Expression). most_of c.args.need (expression_trees es)) (λ (e : Expression). counted_at c.args.need (expression_tree e))
    refl (λ x a. refl) most c.args.items.now c.loop-i.i c.index-items-i.result c.loop-i-test.true c.index-items-i.is
    (c.is_short_at.ensures.0 c.if-not-is_short_at.false) c.loop-i.invariant

pub returns : goal.returns
returns c =
    all_ended (λ (es : List Expression). most_of c.args.need (expression_trees es)) (λ (e : Expression). counted_at c.args.need (expression_tree e))
    refl (λ x a. refl) most c.args.items.now c.loop-i.i (omega (arith, c.loop-i-test.false)) c.loop-i.invariant
