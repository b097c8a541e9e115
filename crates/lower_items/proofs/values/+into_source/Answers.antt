use Rattle.std.proofs.Common.{sym, ap, ◌∙◌}
use Rattle.c_tree.specs.Cases.{selector_source}
use Rattle.c_tree.specs.TestTrees.{selector_tree}
use Rattle.c_tree.proofs.ExpressionLaws.{selector-Source, selector-Pick}
use Rattle.lower_items.proofs.values.+into_source.Goals as goal

pub returns-in-Source : goal.returns-in-Source
returns-in-Source t c = sym (ap selector_source (ap selector_tree c.in-Source.is ∙ selector-Source c.in-Source.e))

pub returns-in-Pick : goal.returns-in-Pick
returns-in-Pick t c =
    c.into_source.ensures ∙ ap (λ z. selector_source (selector_tree z)) c.into_inner.ensures ∙
    sym (ap selector_source (ap selector_tree c.in-Pick.is ∙ selector-Pick _ _ c.in-Pick.rest))
