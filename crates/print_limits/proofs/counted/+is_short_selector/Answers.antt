use Rattle.std.proofs.Common.{◌≤◌, ◌∙◌, sym, ap, subst, IsTrue}
use Rattle.c_tree.specs.Cases.{selector_source}
use Rattle.c_tree.specs.TestTrees.{selector_tree}
use Rattle.c_tree.proofs.ExpressionLaws.{selector-Source, selector-Pick}
use Rattle.c_resolved_defs.specs.PrintableExpressions.{counted}
use Rattle.c_resolved_defs.specs.PrintableStatements.{most}
use Rattle.print_limits.proofs.Measures.{Same}
use Rattle.print_limits.proofs.counted.+is_short_selector.Goals as goal

pub returns-in-Source : goal.returns-in-Source
returns-in-Source t c = subst (λ n. Same (IsTrue c.is_short.result) (n ≤ most))
    (sym (ap (λ s. counted (selector_source s)) (ap selector_tree c.in-Source.is ∙ selector-Source c.in-Source.e))) c.is_short.ensures

pub returns-in-Pick : goal.returns-in-Pick
returns-in-Pick t c =
    subst (λ n. Same (IsTrue c.is_short_selector.result) (n ≤ most))
    (sym (ap (λ s. counted (selector_source s)) (ap selector_tree c.in-Pick.is ∙ selector-Pick c.in-Pick.field-0 c.in-Pick.field-1 c.in-Pick.s)))
    (subst (λ z. Same (IsTrue c.is_short_selector.result) (counted (selector_source (selector_tree z)) ≤ most)) c.get.ensures c.is_short_selector.ensures)
