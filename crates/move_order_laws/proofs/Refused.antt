-- Bodies without jumps that do the same as `if (c) goto L; a; L: b;` and have another skeleton, by computation: so no
-- rewriting that keeps the skeleton writes one of them.
use Rattle.std.proofs.Common.{◌≡◌, [], ◌∷◌, true, false, Some, refl, sym, ap, true≢false}
use Rattle.std.specs.Prelude.{Bool}
use Rattle.c_tree.specs.ExpressionTrees.{ExpressionTree}
use Rattle.c_tree.specs.TestTrees.{Source, On, Off, Selects}
use Rattle.c_tree.specs.Trees.{Forest, Nil, Then, NoSection, Section, Evaluate, If, While, Switch, Goto, Mark, Arm}
use Rattle.c_tree.specs.Changed.{one}
use Rattle.move_order_laws.specs.Skeletons.{skeleton}

-- whether a list has three items
abbrev are_three : Forest → Bool
are_three (Then x (Then y (Then z Nil))) = true
are_three _ = false

module _ (a b c : ExpressionTree) where
  -- `if (c) goto L; a; L: b;`
  abbrev jumping : Forest
  jumping = Then (If (Source c) (one (Goto 0)) Nil) (Then (Evaluate a) (Then (Mark 0) (one (Evaluate b))))

  three : are_three (skeleton jumping) ≡ true
  three = refl

  -- the code behind the label is copied to the goto
  abbrev copied : Forest
  copied = Then (Arm 0 (Some c)) (Then (If (On 0) (one (Evaluate b)) Nil) (one (If (Off 0) (Then (Evaluate a) (one (Evaluate b))) Nil)))

  copied_refused : skeleton copied ≡ skeleton jumping → ⊥
  copied_refused e = absurd (true≢false (sym (ap are_three e)))

  -- a loop round a switch over a program counter p, where n is the number of a part and s, t and u go on to another
  abbrev counted : (p l m n s t u : ExpressionTree) → Forest
  counted p l m n s t u = one (While (Source p) (one (Switch (Selects p)
      (Section (l ∷ []) false (one (If (Source c) (one (Evaluate t)) (one (Evaluate s)))) true
      (Section (m ∷ []) false (Then (Evaluate a) (one (Evaluate t))) true
      (Section (n ∷ []) false (Then (Evaluate b) (one (Evaluate u))) true NoSection))))))

  counted_refused : (p l m n s t u : ExpressionTree) → skeleton (counted p l m n s t u) ≡ skeleton jumping → ⊥
  counted_refused p l m n s t u e = absurd (true≢false (sym (ap are_three e)))
