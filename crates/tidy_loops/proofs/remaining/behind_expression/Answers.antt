use Rattle.std.proofs.Common.{is_some, sym, ap, ◌∙◌, arith}
use Rattle.c_tree.specs.ExpressionTrees.{expression_tree}
use Rattle.tidy_laws.specs.Mentions.{lacks}
use Rattle.tidy_laws.specs.Changes.{set_value}
use Rattle.tidy_slots.specs.Counts.{one_if, expression_count}
use Rattle.tidy_slots.proofs.CountLemmas.{expression_none}
use Rattle.tidy_loops.proofs.ExitCounts.{set_when}
use Rattle.tidy_loops.proofs.LeftOver.{some_named, none_named, one_when, left_none, left_one}
use Rattle.tidy_loops.proofs.remaining.behind_expression.Goals as goal

pub returns-then-is_exit : goal.returns-then-is_exit
returns-then-is_exit c =
    let g = c.args.slot in
    let e = expression_tree c.args.e.now in
    let s = is_some (set_value g e) in
    let h = sym c.is_exit.ensures ∙ c.if-is_exit.true in
    left_one c.args.left c.saturating_sub.result _ _ (one_when c.args.tail s ∙ ap one_if h) (set_when g e c.args.tail h) c.requires c.saturating_sub.ensures

pub returns-then-names : goal.returns-then-names
returns-then-names c =
    let g = c.args.slot in
    let e = expression_tree c.args.e.now in
    let s = is_some (set_value g e) in
    let z = one_when c.args.tail s ∙ ap one_if (sym c.is_exit.ensures ∙ c.if-is_exit.false) in
    let n = some_named (expression_count g e) c.names.result (lacks g e) c.names.ensures (expression_none g e) c.if-names.true in
    omega (arith, z, n)

pub returns : goal.returns
returns c =
    let g = c.args.slot in
    let e = expression_tree c.args.e.now in
    let s = is_some (set_value g e) in
    left_none c.args.left _ (expression_count g e) (one_when c.args.tail s ∙ ap one_if (sym c.is_exit.ensures ∙ c.if-is_exit.false))
    (none_named (expression_count g e) c.names.result (lacks g e) c.names.ensures (expression_none g e) c.if-names.false)
