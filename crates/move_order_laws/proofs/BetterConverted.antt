-- The conversion of a list is at least as good as the list: gotos and labels keep their place in the core.
use Rattle.std.proofs.Common.{ℕ, cond, Option, Some, None, ◌≡◌, refl, sym, ap, subst, arith, eq-eqb}
use Rattle.std.specs.Option.{option_map_or}
use Rattle.c_tree.specs.ExpressionTrees.{ExpressionTree}
use Rattle.c_tree.specs.TestTrees.{TestTree, Source}
use Rattle.c_tree.specs.Trees.{Tree, Forest, Nil, Then, Sections, NoSection, Section, If, While, Do, For, Switch, Block, Goto, Mark, Leap, Land}
use Rattle.c_tree.specs.Changed.{one}
use Rattle.core_laws.specs.Ways.{Lands, Past, ◌▷◌, Follow, lost, before}
use Rattle.core_laws.specs.Core.{jump_if}
use Rattle.core_laws.specs.Better.{LeAll, le_for, Better}
use Rattle.move_laws.proofs.Orders.{follow_refl, all_refl}
use Rattle.move_laws.proofs.Cores.{one_le}
use Rattle.move_laws.proofs.BetterLists.{better_refl, better_join, better_one, better_if, better_while, better_do, better_block, BetterSections, better_section, sections_better, better_switch}
use Rattle.c_tree.specs.Conversions.{jump_tree, source_tree, lone_goto, conditional_goto, convert, convert_item, convert_sections}

-- behind an Arm stands its Leap: the way lands
leap_lands : (l : ℕ) (w : Follow) → before (one (Leap l)) w l ≡ Lands
leap_lands l w = ap (λ b. (cond b Lands Past ▷ Past) ▷ w l) (eq-eqb l l refl)

goto_better : (l : ℕ) → Better (one (Goto l)) (jump_tree l None)
goto_better l = record {
  stops = refl;
  goes = refl;
  ways = λ m. tt;
  cores = λ w w' h. subst (λ y. LeAll (one (Goto l)) (one (jump_if y l))) (sym (leap_lands l w')) (all_refl (one (Goto l)));
}

conditional_better : (l : ℕ) (e : ExpressionTree) → Better (one (If (Source e) (one (Goto l)) Nil)) (jump_tree l (Some e))
conditional_better l e = record {
  stops = refl;
  goes = refl;
  ways = λ m. tt;
  cores = λ w w' h. subst (λ y. LeAll (one (If (Source e) (one (Goto l)) Nil)) (one (If (Source e) (one (jump_if y l)) Nil))) (sym (leap_lands l w'))
      (all_refl (one (If (Source e) (one (Goto l)) Nil)));
}

mark_better : (l : ℕ) → Better (one (Mark l)) (one (Land l))
mark_better l = record { stops = refl; goes = refl; ways = λ m. tt; cores = λ w w' h. all_refl (one (Mark l)) }

lone_better : (e : ExpressionTree) (a : Forest) → Better a (convert a) →
    Better (one (If (Source e) a Nil)) (option_map_or (λ l. jump_tree l (Some e)) (lone_goto a) (one (If (Source e) (convert a) Nil)))
lone_better e (Then (Goto l) Nil) p = conditional_better l e
lone_better e _ p = better_if (Source e) p (better_refl Nil)

if_better : (t : TestTree) (a b : Forest) → Better a (convert a) → Better b (convert b)
    → Better (one (If t a b)) (option_map_or (λ l. jump_tree l (source_tree t)) (conditional_goto t a b) (one (If t (convert a) (convert b))))
if_better (Source e) a Nil p q = lone_better e a p
if_better (Source e) a (Then y b) p q = better_if (Source e) p q
if_better t a b p q = better_if t p q

for_better : (t u : Option ExpressionTree) {first first' a a' : Forest} → Better first first' → Better a a' →
    Better (one (For first t u a)) (one (For first' t u a'))
for_better t u p q =
    better_one _ _ (let x = p.stops in omega arith) (let x = p.goes in omega arith) (λ l. tt)
    (λ w w' h. one_le (le_for t u (p.cores lost lost (follow_refl lost)) (q.cores lost lost (follow_refl lost))))

mutual
  pub convert_better : (a : Forest) → Better a (convert a)
  convert_better Nil = better_refl Nil
  convert_better (Then x a) = better_join (convert_item_better x) (convert_better a)

  convert_item_better : (x : Tree) → Better (one x) (convert_item x)
  convert_item_better (If t a b) = if_better t a b (convert_better a) (convert_better b)
  convert_item_better (While t a) = better_while t (convert_better a)
  convert_item_better (Do a t) = better_do t (convert_better a)
  convert_item_better (For first t u a) = for_better t u (convert_better first) (convert_better a)
  convert_item_better (Switch s c) = better_switch s (convert_sections_better c)
  convert_item_better (Block a) = better_block (convert_better a)
  convert_item_better (Goto l) = goto_better l
  convert_item_better (Mark l) = mark_better l
  convert_item_better x = better_refl (one x)

  convert_sections_better : (c : Sections) → BetterSections c (convert_sections c)
  convert_sections_better NoSection = sections_better NoSection
  convert_sections_better (Section cases default a ends c) = better_section cases default ends (convert_better a) (convert_sections_better c)
