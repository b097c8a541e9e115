use Rattle.std.proofs.Common.{ap, ◌∙◌}
use Rattle.c_tree.specs.TestTrees.{test_tree}
use Rattle.tidy_laws.specs.Renamed.{renamed_test}
use Rattle.tidy_slots.specs.Numbers.{number}
use Rattle.tidy_slots.proofs.ItemRemovals.{of-Source, of-On, of-Off, of-AndOff, of-OrOn}
use Rattle.tidy_slots.proofs.renumber_items.+renumbered_test.Goals as goal

pub returns-in-Source : goal.returns-in-Source
returns-in-Source t c = of-Source (number c.args.numbers.now) c.args.test c.in-Source.e c.renumber_expression.new.e c.in-Source.is c.renumber_expression.ensures

pub returns-in-On : goal.returns-in-On
returns-in-On t c = of-On (number c.args.numbers.now) c.args.test c.in-On.label c.in-On.is

pub returns-in-Off : goal.returns-in-Off
returns-in-Off t c = of-Off (number c.args.numbers.now) c.args.test c.in-Off.label c.in-Off.is

pub returns-in-AndOff : goal.returns-in-AndOff
returns-in-AndOff t c =
    of-AndOff (number c.args.numbers.now) c.args.test c.in-AndOff.label c.in-AndOff.rest c.set.new.self c.in-AndOff.is
    (ap test_tree c.set.ensures ∙ c.renumbered_test.ensures ∙ ap (λ u. renamed_test (number c.args.numbers.now) (test_tree u))
    (c.replace-inner.ensures.value ∙ c.get_mut.ensures.value))

pub returns-in-OrOn : goal.returns-in-OrOn
returns-in-OrOn t c =
    of-OrOn (number c.args.numbers.now) c.args.test c.in-OrOn.label c.in-OrOn.rest c.set-in-OrOn.new.self c.in-OrOn.is
    (ap test_tree c.set-in-OrOn.ensures ∙ c.renumbered_test-in-OrOn.ensures ∙
    ap (λ u. renamed_test (number c.args.numbers.now) (test_tree u)) (c.replace-inner-in-OrOn.ensures.value ∙ c.get_mut-in-OrOn.ensures.value))
