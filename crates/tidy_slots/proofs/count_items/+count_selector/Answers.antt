use Rattle.c_tree.specs.declared.tree.Selector.{Source, Pick}
use Rattle.c_tree.proofs.ExpressionLaws.{selector-Source, selector-Pick}
use Rattle.tidy_slots.proofs.AddedLemmas.{by_selector, selector_got}
use Rattle.tidy_slots.proofs.count_items.+count_selector.Goals as goal

pub returns-in-Source : goal.returns-in-Source
returns-in-Source t c = by_selector c.count_expression.result c.args.counts.now c.count_expression.new.counts c.args.selector.now
    (Source c.in-Source.e) _ c.in-Source.is (selector-Source c.in-Source.e) c.count_expression.ensures

pub returns-in-Pick : goal.returns-in-Pick
returns-in-Pick t c =
    by_selector c.count_selector.result c.args.counts.now c.count_selector.new.counts c.args.selector.now
    (Pick c.in-Pick.field-0 c.in-Pick.field-1 c.in-Pick.rest) _ c.in-Pick.is (selector-Pick c.in-Pick.field-0 c.in-Pick.field-1 c.in-Pick.rest)
    (selector_got c.count_selector.result _ _ c.get.result.now c.in-Pick.rest c.get.ensures c.count_selector.ensures)
