-- The conversion, the moves and the simplifications of a body, and the loss of its labels, keep facts of its expressions.
use Rattle.std.proofs.Common.{ℕ, Bool, List, ◌++◌, Option, ◌≡◌, refl, sym, ap, subst, eqb}
use Rattle.std.specs.List.{AllByRecursion}
use Rattle.c_tree.specs.declared.tree.Item.{Item}
use Rattle.c_tree.specs.Cases.{selector_source, all_cases}
use Rattle.c_tree.specs.Conversions.{convert_sections}
use Rattle.c_tree.specs.Everywhere.{Everywhere}
use Rattle.c_tree.specs.ExpressionTrees.{ExpressionTree}
use Rattle.c_tree.specs.Trees.{Tree, Forest, Sections, NoSection, Section, trees_of}
use Rattle.c_tree.proofs.KeptLemmas.{IsKept, changed_kept}
use Rattle.move_order_laws.proofs.ConvertedTrees.{converted_trees}
use Rattle.move_order_laws.proofs.KeptByConversion.{IsKeptByConversion, convert_kept}
use Rattle.flat_laws.specs.Unlabelled.{unlabelled, unlabelled_among}
use Rattle.guard_vars.specs.Conversion.{converted_list}
use Rattle.move_laws.proofs.Kept.{IsOfLabels, shorter_kept, round_kept, selector_kept, IsStable, simplified_kept}
use Rattle.move_laws.specs.Drops.{dropped_sections}
use Rattle.move_laws.proofs.DroppedItems.{Becomes, becomes}
use Rattle.move_laws.proofs.WellDropped.{cases_drop}
use Rattle.c_resolved_defs.specs.Within.{TestExpression}
use Rattle.whole_laws.proofs.Unlabelled.{IsLeft, left}
use Rattle.whole_laws.proofs.Facts.{ItemHas}
use Rattle.whole_laws.proofs.Rewrites.{Rewrites, rewritten_kept}

-- ---- the cases of sections

same_cases : (cases : List ExpressionTree) (c d : Sections) → all_cases d ≡ all_cases c → cases ++ all_cases d ≡ cases ++ all_cases c
same_cases cases c d e = ap (λ es. cases ++ es) e

converted_cases : (c : Sections) → all_cases (convert_sections c) ≡ all_cases c
converted_cases NoSection = refl
converted_cases (Section cases default a ends c) = same_cases cases c (convert_sections c) (converted_cases c)

unlabelled_cases : (c : Sections) → all_cases (unlabelled_among c) ≡ all_cases c
unlabelled_cases NoSection = refl
unlabelled_cases (Section cases default a ends c) = same_cases cases c (unlabelled_among c) (unlabelled_cases c)

-- ---- facts

abbrev AnyLabel : ℕ → Type 0
AnyLabel l = Unit {0}

module _ (V O C : ExpressionTree → Type 0) (R : Option ExpressionTree → Type 0) (N : List ℕ → Type 0) (of_value : (e : ExpressionTree) → V e → O e) where
  abbrev H : Tree → Type 0
  H x = ItemHas V O C R N x

  abbrev Cases : Sections → Type 0
  Cases c = AllByRecursion C (all_cases c)

  cases_over : (c d : Sections) → all_cases d ≡ all_cases c → Cases c → Cases d
  cases_over c d e h = subst (AllByRecursion C) (sym e) h

  facts_of_tests : IsOfLabels (TestExpression V) AnyLabel
  facts_of_tests = record { off = λ l h. tt; and_out = λ l t h. (tt, h); or_out = λ l t h. (tt, h); and_in = λ l t q h. h; or_in = λ l t q h. h }

  kept_by_moves : IsKept H
  kept_by_moves = record {
    made_if = λ m a h. tt;
    made_do = λ m a h. tt;
    then = λ t a b c h. h;
    else = λ t a b c j h. h;
    whiles = λ t a b h. h;
    dos = λ t a b h. h;
    fors = λ f a b t u j h. h;
    switches = λ s c d e h. (h.0, cases_over c d (sym e.cases) h.1);
    blocks = λ a b h. tt;
    or_if = λ m t a b i h. h;
    and_if = λ m t a b i h. h;
    or_while = λ m t a i h. h;
    and_while = λ m t a i h. h;
    and_do = λ m t a i h. h;
    picks = λ m k n s c i e h. h;
  }

  stable : IsStable H
  stable = record {
    ifs = λ t a b a' b' e h. h;
    whiles = λ t a a' n h. h;
    dos = λ t a a' n h. h;
    fors = λ first t u a a' n h. h;
    switches = λ s c d e h. (h.0, cases_over c d (sym e.entries.cases) h.1);
    blocks = λ a a' h. tt;
    if_tests = λ a b r h. shorter_kept (TestExpression V) AnyLabel facts_of_tests r h;
    while_tests = λ a r h. shorter_kept (TestExpression V) AnyLabel facts_of_tests r h;
    do_tests = λ a r h. shorter_kept (TestExpression V) AnyLabel facts_of_tests r h;
    selectors = λ c r h. (selector_kept (λ s. V (selector_source s)) (λ l n s i. i) (λ l n s u i j. j) r h.0, h.1);
    nests = λ t u a o h j. round_kept (TestExpression V) AnyLabel facts_of_tests t u o h j;
  }

  kept_by_drops : (d : ℕ → Bool) → Becomes d H H
  kept_by_drops d = record {
    arm = λ l e i h. h;
    arm_if = λ l e i h. of_value e h;
    land = λ l i h. tt;
    ifs = λ t a b h. h;
    whiles = λ t a h. h;
    dos = λ t a h. h;
    fors = λ first t u a h. h;
    switches = λ s c h. (h.0, cases_over c (dropped_sections d c) (cases_drop d c) h.1);
    blocks = λ a h. tt;
    others = λ x o h. h;
  }

  kept_by_conversion : IsKeptByConversion H
  kept_by_conversion = record {
    goto = λ l h. (tt, tt);
    conditional = λ l e h i. (h, tt);
    label = λ l h. tt;
    ifs = λ t a b h. h;
    whiles = λ t a h. h;
    dos = λ t a h. h;
    fors = λ first t u a h. h;
    switches = λ s c h. (h.0, cases_over c (convert_sections c) (converted_cases c) h.1);
    blocks = λ a h. tt;
  }

  kept_without_labels : IsLeft H H
  kept_without_labels = record {
    ifs = λ t a b h. h;
    whiles = λ t a h. h;
    dos = λ t a h. h;
    fors = λ first t u a h. h;
    switches = λ s c h. (h.0, cases_over c (unlabelled_among c) (unlabelled_cases c) h.1);
    blocks = λ a h. tt;
    leaves = λ x i h. h;
  }

  -- ---- of bodies

  pub facts_converted : (a : List Item) → Everywhere H (trees_of a) → Everywhere H (trees_of (converted_list a))
  facts_converted a h = subst (Everywhere H) (sym (converted_trees a)) (convert_kept H kept_by_conversion (trees_of a) h)

  pub facts_rewritten : {old new : List Item} → Rewrites old new → Everywhere H (trees_of old) → Everywhere H (trees_of new)
  facts_rewritten r h = rewritten_kept H (λ xs ys c i. changed_kept H kept_by_moves c i) (λ xs ys c i. simplified_kept H stable c i)
      (λ l xs i. becomes (eqb l) H H (kept_by_drops (eqb l)) xs i) r h

  pub facts_unlabelled : (a : Forest) → Everywhere H a → Everywhere H (unlabelled a)
  facts_unlabelled a h = left H H kept_without_labels a h
