use Rattle.std.proofs.Common.{◌≡◌, ℕ, ◌+◌, Some, None, cond, sym, ap, ◌∙◌, arith}
use Rattle.c_tree.specs.Everywhere.{total}
use Rattle.c_tree.specs.Trees.{trees_of}
use Rattle.c_resolved_laws.specs.Bounds.{most_gotos, most_labels}
use Rattle.c_resolved_laws.proofs.Bounds.{none_counted}
use Rattle.flat_form.proofs.MostLaws.{most_counted}
use Rattle.flat_form.proofs.most.most_counts.Goals as goal

pub returns-in_ok-add_list-clause-some : goal.returns-in_ok-add_list-clause-some
returns-in_ok-add_list-clause-some c =
    most_counted (trees_of c.args.body.now) _ _ (sym c.has_jumps.ensures ∙ c.if-has_jumps.true) c.in_ok-add_list.ensures.gotos c.in_ok-add_list.ensures.labels

pub returns-else-has_jumps-clause-none : goal.returns-else-has_jumps-clause-none
returns-else-has_jumps-clause-none c = none_counted (trees_of c.args.body.now) (sym c.has_jumps.ensures ∙ c.if-has_jumps.false)

plus_nothing : (n : ℕ) → 0 + n ≡ n
plus_nothing n = omega arith

pub returns-in_ok-add_list-clause-value : goal.returns-in_ok-add_list-clause-value
returns-in_ok-add_list-clause-value c =
    let body = trees_of c.args.body.now in
    let gotos = c.in_ok-add_list.ensures.gotos in
    let labels = c.in_ok-add_list.ensures.labels in
    (λ i. Some ((gotos ∙ plus_nothing (total most_gotos body)) i, (labels ∙ plus_nothing (total most_labels body)) i)) ∙
    sym (ap (λ b. cond b (Some (total most_gotos body, total most_labels body)) None) (sym c.has_jumps.ensures ∙ c.if-has_jumps.true))
