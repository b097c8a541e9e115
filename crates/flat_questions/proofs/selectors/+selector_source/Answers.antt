use Rattle.std.proofs.Common.{sym, ap, ◌∙◌}
use Rattle.c_tree.specs.Cases.{selector_source}
use Rattle.c_tree.specs.TestTrees.{selector_tree}
use Rattle.c_tree.proofs.ExpressionLaws.{selector-Source, selector-Pick}
use Rattle.flat_questions.proofs.selectors.+selector_source.Goals as goal

pub returns-in-Source : goal.returns-in-Source
returns-in-Source t c = sym (ap (λ z. selector_source (selector_tree z)) c.in-Source.is ∙ ap selector_source (selector-Source c.in-Source.e))

pub returns-in-Pick : goal.returns-in-Pick
returns-in-Pick t c = c.selector_source.ensures ∙ ap (λ z. selector_source (selector_tree z)) c.get.ensures ∙
    sym (ap (λ z. selector_source (selector_tree z)) c.in-Pick.is ∙ ap selector_source (selector-Pick c.in-Pick.field-0 c.in-Pick.field-1 c.in-Pick.rest))
