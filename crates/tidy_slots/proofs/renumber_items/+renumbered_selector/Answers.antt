use Rattle.std.proofs.Common.{rules, ap, ◌∙◌}
use Rattle.c_tree.specs.TestTrees.{selector_tree}
use Rattle.tidy_laws.specs.Renamed.{renamed_selector}
use Rattle.tidy_slots.specs.Numbers.{number}
use Rattle.tidy_slots.proofs.ItemRemovals.{selects-Source, selects-Pick}
use Rattle.tidy_slots.proofs.renumber_items.+renumbered_selector.Goals as goal

pub returns-in-Source : goal.returns-in-Source
returns-in-Source t c = selects-Source (number c.args.numbers.now) c.args.selector c.in-Source.e c.renumber_expression.new.e c.in-Source.is
    c.renumber_expression.ensures

pub returns-in-Pick : goal.returns-in-Pick
returns-in-Pick t c =
    selects-Pick (number c.args.numbers.now) c.args.selector c.in-Pick.label c.in-Pick.n _ c.in-Pick.rest c.set.new.self c.in-Pick.is (search rules)
    (ap selector_tree c.set.ensures ∙ c.renumbered_selector.ensures ∙ ap (λ u. renamed_selector (number c.args.numbers.now) (selector_tree u))
    (c.replace-inner.ensures.value ∙ c.get_mut.ensures.value))
