-- The conversion keeps the skeleton.
use Rattle.std.proofs.Common.{◌≡◌, ℕ, Option, Some, None, refl, sym, ap, ap₂, ◌∙◌}
use Rattle.std.specs.Option.{option_map_or}
use Rattle.c_tree.specs.ExpressionTrees.{ExpressionTree}
use Rattle.c_tree.specs.TestTrees.{TestTree, Source}
use Rattle.c_tree.specs.Trees.{Tree, Forest, Nil, Then, Sections, NoSection, Section, Evaluate, Return, If, While, Do, For, Switch, Block, Local, Break, Continue, Goto, Mark, Arm, join}
use Rattle.c_tree.specs.Changed.{one}
use Rattle.c_tree.proofs.TreeLaws.{join-nil}
use Rattle.c_tree.specs.Conversions.{jump_tree, source_tree, lone_goto, conditional_goto, convert, convert_item, convert_sections}
use Rattle.move_order_laws.specs.Skeletons.{test_source, reduced_selector, reduced, if_skeleton, do_skeleton, goto_condition, or_statement, arm_skeleton, skeleton, skeleton_of, skeleton_in}
use Rattle.move_order_laws.proofs.Moved.{skeleton-join}

-- no conversion is one goto

front_goto : (x : Tree) (r : Forest) → lone_goto (join (convert_item x) r) ≡ None
front_goto (If t a b) r = of_if (conditional_goto t a b) where
  of_if : (o : Option ℕ) → lone_goto (join (option_map_or (λ l. jump_tree l (source_tree t)) o (one (If t (convert a) (convert b)))) r) ≡ None
  of_if None = refl
  of_if (Some l) = refl
front_goto (Goto l) r = refl
front_goto (Mark l) r = refl
front_goto _ r = refl

no_goto : (a : Forest) → lone_goto (convert a) ≡ None
no_goto Nil = refl
no_goto (Then x a) = front_goto x (convert a)

-- the condition of a conditional goto, by its label
by_label : (t : TestTree) (a b : Forest) → lone_goto a ≡ None → goto_condition t a b ≡ None
by_label (Source e) (Then (Goto l) Nil) Nil h = cc
by_label (Source e) Nil b h = refl
by_label (Source e) (Then (Goto l) Nil) (Then y b) h = refl
by_label (Source e) (Then (Goto l) (Then x a)) b h = refl
by_label (Source e) (Then _ a) b h = refl
by_label _ a b h = refl

-- a conditional goto, or none
record IsJump (t : TestTree) (a b : Forest) (l : ℕ) : Type 0 where
  condition : ExpressionTree
  source : source_tree t ≡ Some condition
  is : goto_condition t a b ≡ Some condition

jump : (t : TestTree) (a b : Forest) (l : ℕ) → conditional_goto t a b ≡ Some l → IsJump t a b l
jump (Source e) (Then (Goto m) Nil) Nil l h = record { condition = e; source = refl; is = refl }
jump (Source e) Nil Nil l h = cc
jump (Source e) (Then (Goto m) (Then x a)) Nil l h = cc
jump (Source e) (Then _ a) Nil l h = cc
jump (Source e) a (Then y b) l h = cc
jump _ a b l h = cc

no_jump : (t : TestTree) (a b : Forest) → conditional_goto t a b ≡ None → goto_condition t a b ≡ None
no_jump (Source e) a Nil h = by_label (Source e) a Nil h
no_jump (Source e) Nil (Then y b) h = refl
no_jump (Source e) (Then (Goto l) Nil) (Then y b) h = refl
no_jump (Source e) (Then (Goto l) (Then x a)) (Then y b) h = refl
no_jump (Source e) (Then _ a) (Then y b) h = refl
no_jump _ a b h = refl

if_kept : (t : TestTree) (a b : Forest) → skeleton (convert a) ≡ skeleton a → skeleton (convert b) ≡ skeleton b →
    skeleton (convert_item (If t a b)) ≡ skeleton_of (If t a b)
if_kept t a b p q = by_jump (conditional_goto t a b) refl where
  made : Option ℕ → Forest
  made o = skeleton (option_map_or (λ l. jump_tree l (source_tree t)) o (one (If t (convert a) (convert b))))

  by_jump : (o : Option ℕ) → conditional_goto t a b ≡ o → skeleton
      (option_map_or (λ l. jump_tree l (source_tree t)) (conditional_goto t a b) (one (If t (convert a) (convert b)))) ≡ skeleton_of (If t a b)
  by_jump None e =
      ap (λ o. skeleton (option_map_or (λ l. jump_tree l (source_tree t)) o (one (If t (convert a) (convert b))))) e
      ∙ join-nil (skeleton_of (If t (convert a) (convert b)))
      ∙ ap (λ o. or_statement o (if_skeleton (test_source t) (skeleton (convert a)) (skeleton (convert b)))) (by_label t (convert a) (convert b) (no_goto a))
      ∙ ap₂ (if_skeleton (test_source t)) p q
      ∙ sym (ap (λ o. or_statement o (if_skeleton (test_source t) (skeleton a) (skeleton b))) (no_jump t a b e))
  by_jump (Some l) e =
      let j = jump t a b l e in
      ap (λ o. skeleton (option_map_or (λ l. jump_tree l (source_tree t)) o (one (If t (convert a) (convert b))))) e
      ∙ ap (λ o. skeleton (jump_tree l o)) j.source
      ∙ sym (ap (λ o. or_statement o (if_skeleton (test_source t) (skeleton a) (skeleton b))) j.is)

mutual
  pub converted_kept : (a : Forest) → skeleton (convert a) ≡ skeleton a
  converted_kept Nil = refl
  converted_kept (Then x a) = skeleton-join (convert_item x) (convert a) ∙ ap₂ join (converted_item_kept x) (converted_kept a)

  converted_item_kept : (x : Tree) → skeleton (convert_item x) ≡ skeleton_of x
  converted_item_kept (If t a b) = if_kept t a b (converted_kept a) (converted_kept b)
  converted_item_kept (While t a) = ap (λ z. one (While (reduced t) z)) (converted_kept a)
  converted_item_kept (Do a t) = join-nil (do_skeleton (test_source t) (skeleton (convert a))) ∙ ap (do_skeleton (test_source t)) (converted_kept a)
  converted_item_kept (For f t u a) = ap₂ (λ y z. one (For y t u z)) (converted_kept f) (converted_kept a)
  converted_item_kept (Switch s c) = ap (λ z. one (Switch (reduced_selector s) z)) (converted_sections_kept c)
  converted_item_kept (Block a) = ap (λ z. one (Block z)) (converted_kept a)
  converted_item_kept (Goto l) = refl
  converted_item_kept (Mark l) = refl
  converted_item_kept (Evaluate e) = refl
  converted_item_kept (Return e) = refl
  converted_item_kept (Local x es) = refl
  converted_item_kept Break = refl
  converted_item_kept Continue = refl
  converted_item_kept (Arm l e) = join-nil (arm_skeleton e)
  converted_item_kept _ = refl

  converted_sections_kept : (c : Sections) → skeleton_in (convert_sections c) ≡ skeleton_in c
  converted_sections_kept NoSection = refl
  converted_sections_kept (Section cases default a ends c) = ap₂ (λ y z. Section cases default y ends z) (converted_kept a) (converted_sections_kept c)
