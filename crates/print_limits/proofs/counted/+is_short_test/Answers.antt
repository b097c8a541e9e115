use Rattle.std.proofs.Common.{◌≡◌, ◌≤◌, ◌∙◌, refl, sym, ap, subst, IsTrue, arith}
use Rattle.c_tree.specs.TestTrees.{test_tree}
use Rattle.c_tree.proofs.ExpressionLaws.{test-Source, test-On, test-Off, test-AndOff, test-OrOn}
use Rattle.c_resolved_defs.specs.Limits.{most_tested}
use Rattle.c_resolved_defs.specs.PrintableStatements.{most}
use Rattle.print_limits.proofs.Measures.{Same}
use Rattle.print_limits.proofs.counted.+is_short_test.Goals as goal

pub returns-in-Source : goal.returns-in-Source
returns-in-Source t c = subst (λ n. Same (IsTrue c.is_short.result) (n ≤ most))
    (sym (ap most_tested (ap test_tree c.in-Source.is ∙ test-Source c.in-Source.e))) c.is_short.ensures

pub returns-in-AndOff : goal.returns-in-AndOff
returns-in-AndOff t c =
    subst (λ n. Same (IsTrue c.is_short_test.result) (n ≤ most))
    (sym (ap most_tested (ap test_tree c.in-AndOff.is ∙ test-AndOff c.in-AndOff.field-0 c.in-AndOff.t)))
    (subst (λ z. Same (IsTrue c.is_short_test.result) (most_tested (test_tree z) ≤ most)) c.get.ensures c.is_short_test.ensures)

pub returns-in-OrOn : goal.returns-in-OrOn
returns-in-OrOn t c =
    subst (λ n. Same (IsTrue c.is_short_test-in-OrOn.result) (n ≤ most))
    (sym (ap most_tested (ap test_tree c.in-OrOn.is ∙ test-OrOn c.in-OrOn.field-0 c.in-OrOn.t)))
    (subst (λ z. Same (IsTrue c.is_short_test-in-OrOn.result) (most_tested (test_tree z) ≤ most)) c.get-in-OrOn.ensures c.is_short_test-in-OrOn.ensures)

pub returns-in-On : goal.returns-in-On
returns-in-On t c = let e : most_tested (test_tree c.args.test.now) ≡ 0 = ap most_tested (ap test_tree c.in-On.is ∙ test-On c.in-On.field-0) in
    ((λ h. omega (arith, e)), λ h. refl)

pub returns-in-Off : goal.returns-in-Off
returns-in-Off t c = let e : most_tested (test_tree c.args.test.now) ≡ 0 = ap most_tested (ap test_tree c.in-Off.is ∙ test-Off c.in-Off.field-0) in
    ((λ h. omega (arith, e)), λ h. refl)
