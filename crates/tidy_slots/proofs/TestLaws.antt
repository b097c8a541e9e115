-- Whether each form of a test and of a selector names a slot.
use Rattle.std.proofs.Common.{ℕ, ℤ, true, ◌≡◌, ap, ◌∙◌}
use Rattle.c_tree.specs.declared.tree.Expression.{Expression}
use Rattle.c_tree.specs.declared.tree.Test.{Test, Source, On, Off, AndOff, OrOn}
use Rattle.c_tree.specs.declared.tree.Selector as S
use Rattle.c_tree.specs.ExpressionTrees.{expression_tree}
use Rattle.c_tree.specs.TestTrees.{test_tree, selector_tree}
use Rattle.c_tree.proofs.ExpressionLaws.{test-Source, test-On, test-Off, test-AndOff, test-OrOn, selector-Source, selector-Pick}
use Rattle.tidy_laws.specs.Mentions.{lacks, test_lacks, selector_lacks}

module _ (g : ℕ) where
  pub in-Source : (t : Test) (e : Expression) → t ≡ Source e → test_lacks g (test_tree t) ≡ lacks g (expression_tree e)
  in-Source t e h = ap (λ t. test_lacks g (test_tree t)) h ∙ ap (test_lacks g) (test-Source e)

  pub in-On : (t : Test) (l : ℕ) → t ≡ On l → test_lacks g (test_tree t) ≡ true
  in-On t l h = ap (λ t. test_lacks g (test_tree t)) h ∙ ap (test_lacks g) (test-On l)

  pub in-Off : (t : Test) (l : ℕ) → t ≡ Off l → test_lacks g (test_tree t) ≡ true
  in-Off t l h = ap (λ t. test_lacks g (test_tree t)) h ∙ ap (test_lacks g) (test-Off l)

  pub in-AndOff : (t : Test) (l : ℕ) (r : Test) → t ≡ AndOff l r → test_lacks g (test_tree t) ≡ test_lacks g (test_tree r)
  in-AndOff t l r h = ap (λ t. test_lacks g (test_tree t)) h ∙ ap (test_lacks g) (test-AndOff l r)

  pub in-OrOn : (t : Test) (l : ℕ) (r : Test) → t ≡ OrOn l r → test_lacks g (test_tree t) ≡ test_lacks g (test_tree r)
  in-OrOn t l r h = ap (λ t. test_lacks g (test_tree t)) h ∙ ap (test_lacks g) (test-OrOn l r)

  pub selects-Source : (s : S.Selector) (e : Expression) → s ≡ S.Source e → selector_lacks g (selector_tree s) ≡ lacks g (expression_tree e)
  selects-Source s e h = ap (λ s. selector_lacks g (selector_tree s)) h ∙ ap (selector_lacks g) (selector-Source e)

  pub selects-Pick : (s : S.Selector) (l : ℕ) (z : ℤ) (r : S.Selector) → s ≡ S.Pick l z r →
      selector_lacks g (selector_tree s) ≡ selector_lacks g (selector_tree r)
  selects-Pick s l z r h = ap (λ s. selector_lacks g (selector_tree s)) h ∙ ap (selector_lacks g) (selector-Pick l z r)
