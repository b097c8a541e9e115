-- The labels of sections and the tests of cases, from one on.
use Rattle.std.proofs.Common.{◌≡◌, ℕ, ℤ, ◌+◌, ◌<◌, ◌≤◌, Bool, true, false, List, [], ◌∷◌, ◌++◌, length, drop, get_or, map, Option, Some, None, refl, sym, ap, ◌∙◌}
use Rattle.std.specs.Option.{option_map_or}
use Rattle.std.proofs.lemmas.List.{at_drop_more, at_drop_all}
use Rattle.c_types.specs.declared.kinds.IntKind.{IntKind}
use Rattle.c_tree.specs.Cases.{case_number}
use Rattle.c_tree.specs.Changed.{one}
use Rattle.c_tree.specs.Numerals.{constant}
use Rattle.c_tree.specs.declared.tree.Expression.{Expression}
use Rattle.c_tree.specs.ExpressionTrees.{ExpressionTree, expression_tree}
use Rattle.c_tree.specs.TestTrees.{Source}
use Rattle.c_tree.specs.Trees.{Tree, Forest, Nil, Then, Sections, NoSection, Section, If, While, Do, For, Block, Goto, Mark, Arrival, expression_trees, join}
use Rattle.flat_laws.specs.Pieces.{Names, is_number, tests_for, tests, tests_in, tests_among, case_marks}
use Rattle.flat_laws.specs.Parts.{arrivals, arrivals_in, section_labels, switch_labels, cases_among}
use Rattle.flat_items.specs.Pieces.{number_test, number_tests}
use Rattle.flat_questions.proofs.Steps.{numbers_append}
use Rattle.flat_items.proofs.Joining.{joined}

pub marks_more : (names : Names) (es : List Expression) (d : Bool) (i : ℕ) (e : Expression) → i < length es → e ≡ get_or es i e
    → case_marks names (expression_trees (drop i es)) d ≡ Then (Mark (names (Some (expression_tree e))))
    (case_marks names (expression_trees (drop (i + 1) es)) d)
marks_more names es d i e h q =
    at_drop_more (λ z. case_marks names (expression_trees z) d) es i e h ∙
    ap (λ z. Then (Mark (names (Some (expression_tree z)))) (case_marks names (expression_trees (drop (i + 1) es)) d)) (sym q)

pub marks_end : (names : Names) (es : List Expression) (d : Bool) (i : ℕ) → length es ≤ i →
    case_marks names (expression_trees (drop i es)) d ≡ case_marks names [] d
marks_end names es d i h = at_drop_all (λ z. case_marks names (expression_trees z) d) es i h

pub numbers_more : (k : IntKind) (v : ℕ) (label : Option ℤ → ℕ) (ns : List (Option ℤ)) (i : ℕ) (d : Option ℤ) → i < length ns
    → number_tests k v label (drop i ns) ≡ join (number_test k v label (get_or ns i d)) (number_tests k v label (drop (i + 1) ns))
numbers_more k v label ns i d h = at_drop_more (number_tests k v label) ns i d h

pub numbers_end : (k : IntKind) (v : ℕ) (label : Option ℤ → ℕ) (ns : List (Option ℤ)) (i : ℕ) → length ns ≤ i → number_tests k v label (drop i ns) ≡ Nil
numbers_end k v label ns i h = at_drop_all (number_tests k v label) ns i h

-- ---- the tests of a switch are those of the numbers of its cases

tests_append : (k : IntKind) (v : ℕ) (label : Option ℤ → ℕ) (ms ns : List (Option ℤ)) →
    number_tests k v label (ms ++ ns) ≡ join (number_tests k v label ms) (number_tests k v label ns)
tests_append k v label [] ns = refl
tests_append k v label (m ∷ ms) ns = ap (join (number_test k v label m)) (tests_append k v label ms ns) ∙
    sym (joined (number_test k v label m) (number_tests k v label ms) (number_tests k v label ns))

module _ (k : IntKind) (v : ℕ) (names : Names) (label : Option ℤ → ℕ) (same : (e : ExpressionTree) → names (Some e) ≡ label (case_number k e)) where
  numbers : List (Option ExpressionTree) → List (Option ℤ)
  numbers ls = map (case_number k) (cases_among ls)

  one_test : (e : ExpressionTree) (n : Option ℤ) → case_number k e ≡ n →
      option_map_or (λ m. one (If (Source (is_number k v (constant k m))) (one (Goto (names (Some e)))) Nil)) n Nil ≡ number_test k v label n
  one_test e None q = refl
  one_test e (Some m) q = ap (λ l. one (If (Source (is_number k v (constant k m))) (one (Goto l)) Nil)) (same e ∙ ap label q)

  these : (es : List ExpressionTree) → tests_for constant k v names es ≡ number_tests k v label (map (case_number k) es)
  these [] = refl
  these (e ∷ es) = ap (λ z. join z (tests_for constant k v names es)) (one_test e (case_number k e) refl) ∙
      ap (join (number_test k v label (case_number k e))) (these es)

  split : (as' bs : List (Option ExpressionTree)) → number_tests k v label (map (case_number k) (cases_among (as' ++ bs))) ≡ join
      (number_tests k v label (map (case_number k) (cases_among as'))) (number_tests k v label (map (case_number k) (cases_among bs)))
  split as' bs = ap (number_tests k v label) (numbers_append k as' bs) ∙
      tests_append k v label (map (case_number k) (cases_among as')) (map (case_number k) (cases_among bs))

  join_empty : (a : Forest) → join a Nil ≡ a
  join_empty Nil = refl
  join_empty (Then x a) = ap (Then x) (join_empty a)

  mutual
    in_list : (xs : Forest) → tests constant k v names xs ≡ number_tests k v label (map (case_number k) (cases_among (arrivals xs)))
    in_list Nil = refl
    in_list (Then x xs) =
        ap (λ z. join z (tests constant k v names xs)) (in_item x) ∙
        ap (join (number_tests k v label (map (case_number k) (cases_among (arrivals_in x))))) (in_list xs) ∙ sym (split (arrivals_in x) (arrivals xs))

    in_item : (x : Tree) → tests_in constant k v names x ≡ number_tests k v label (map (case_number k) (cases_among (arrivals_in x)))
    in_item (If t a b) =
        ap (λ z. join z (tests constant k v names b)) (in_list a) ∙
        ap (join (number_tests k v label (map (case_number k) (cases_among (arrivals a))))) (in_list b) ∙ sym (split (arrivals a) (arrivals b))
    in_item (While t a) = in_list a
    in_item (Do a t) = in_list a
    in_item (For f t u a) = in_list a
    in_item (Block a) = in_list a
    in_item (Arrival (Some e)) = one_test e (case_number k e) refl ∙ sym (join_empty (number_test k v label (case_number k e)))
    in_item (Arrival None) = refl
    in_item _ = refl

  section_cases : (cases : List ExpressionTree) (d : Bool) → cases_among (section_labels cases d) ≡ cases
  section_cases [] true = refl
  section_cases [] false = refl
  section_cases (e ∷ es) d = ap (λ z. e ∷ z) (section_cases es d)

  pub tests_are : (d : Sections) → tests_among constant k v names d ≡ number_tests k v label (map (case_number k) (cases_among (switch_labels d)))
  tests_are NoSection = refl
  tests_are (Section cases default a ends d) =
      ap (λ z. join z (join (tests constant k v names a) (tests_among constant k v names d)))
      (these cases ∙ ap (λ z. number_tests k v label (map (case_number k) z)) (sym (section_cases cases default)))
      ∙ ap (join (number_tests k v label (map (case_number k) (cases_among (section_labels cases default)))))
      (ap (λ z. join z (tests_among constant k v names d)) (in_list a) ∙
      ap (join (number_tests k v label (map (case_number k) (cases_among (arrivals a))))) (tests_are d) ∙ sym (split (arrivals a) (switch_labels d)))
      ∙ sym (split (section_labels cases default) (arrivals a ++ switch_labels d))
