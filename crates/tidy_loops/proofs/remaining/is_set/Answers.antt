use Rattle.std.proofs.Common.{rules, is_some, sym, ap, ◌∙◌, ◌≡◌}
use Rattle.std.specs.Option.{option_copied}
use Rattle.c_tree.specs.ExpressionTrees.{expression_tree}
use Rattle.tidy_laws.specs.Changes.{set_value}
use Rattle.tidy_loops.proofs.FormLaws.{expression_same, is_some_map}
use Rattle.tidy_loops.proofs.remaining.is_set.Goals as goal

pub returns : goal.returns
returns c =
    let e : c.is_some.result ≡ is_some (option_copied c.set_value.result) = search rules in
    e ∙ is_some_map expression_tree (option_copied c.set_value.result) _ c.set_value.ensures ∙
    ap (λ z. is_some (set_value c.args.slot z)) (sym (expression_same c.args.e.now))
