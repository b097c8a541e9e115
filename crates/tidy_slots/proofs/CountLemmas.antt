-- What the count says, and how it adds up.
use Rattle.std.proofs.Common.{ℕ, zero, suc, ◌+◌, ◌≢◌, Bool, true, false, not, ◌&&◌, eqb, List, [], ◌∷◌, Option, Some, None, ◌≡◌, refl, sym, ap, ◌∙◌, arith}
use Rattle.std.proofs.lemmas.Bool.{ne_eqb}
use Rattle.c_tree.specs.declared.tree.Home.{Home}
use Rattle.c_tree.specs.declared.tree.Home.TheVariants as H
use Rattle.c_tree.specs.ExpressionTrees.{ExpressionTree, PlaceTree, NodeTree, Arguments, Typed, Var, Cell, Array, Read, Unary, Cast, Binary, Conditional, Assign, Update, Count, Comma, Call, NoArgument, Argument}
use Rattle.c_tree.specs.TestTrees.{TestTree, Source, AndOff, OrOn, SelectorTree, Selects, Pick}
use Rattle.c_tree.specs.Trees.{Tree, Forest, Nil, Then, Sections, NoSection, Section, Evaluate, Return, If, While, Do, For, Switch, Block, Local, Arm, join}
use Rattle.tidy_laws.specs.Mentions.{home_lacks, lacks, place_lacks, node_lacks, arguments_lack, test_lacks, selector_lacks, option_lacks, all_lack, values_lack, list_lacks, item_lacks, sections_lack}
use Rattle.tidy_slots.specs.Counts.{one_if, home_count, expression_count, place_count, node_count, arguments_count, test_count, selector_count, option_count, all_count, values_count, list_count, item_count, sections_count}
use Rattle.tidy_slots.specs.Laws.{CountLaws}

one_lacks : (b : Bool) → not b ≡ eqb (one_if b) 0
one_lacks true = refl
one_lacks false = refl

two : (a b : Bool) (m n : ℕ) → a ≡ eqb m 0 → b ≡ eqb n 0 → (a && b) ≡ eqb (m + n) 0
two a b zero n e h = ap (λ z. z && b) e ∙ h ∙ ap (λ z. eqb z 0) (omega arith)
two a b (suc m) n e h =
    let p : suc m ≢ 0 = omega arith in
    let q : suc m + n ≢ 0 = omega arith in
    ap (λ z. z && b) (e ∙ ne_eqb (suc m) 0 p) ∙ sym (ne_eqb (suc m + n) 0 q)

three : (a b c : Bool) (l m n : ℕ) → a ≡ eqb l 0 → b ≡ eqb m 0 → c ≡ eqb n 0 → (a && (b && c)) ≡ eqb (l + (m + n)) 0
three a b c l m n e h k = two a (b && c) l (m + n) e (two b c m n h k)

none_home : (g : ℕ) (h : Home) → home_lacks g h ≡ eqb (home_count g h) 0
none_home g (H.Slot x) = one_lacks (eqb x g)
none_home g (H.Global n) = refl

mutual
  none_expression : (g : ℕ) (e : ExpressionTree) → lacks g e ≡ eqb (expression_count g e) 0
  none_expression g (Typed kind node) = none_node g node

  none_place : (g : ℕ) (p : PlaceTree) → place_lacks g p ≡ eqb (place_count g p) 0
  none_place g (Var h) = none_home g h
  none_place g (Cell h a) = two (home_lacks g h) (lacks g a) (home_count g h) (expression_count g a) (none_home g h) (none_expression g a)

  none_node : (g : ℕ) (n : NodeTree) → node_lacks g n ≡ eqb (node_count g n) 0
  none_node g (Array h) = none_home g h
  none_node g (Read p) = none_place g p
  none_node g (Unary op a) = none_expression g a
  none_node g (Cast a) = none_expression g a
  none_node g (Binary op a b) = two (lacks g a) (lacks g b) (expression_count g a) (expression_count g b) (none_expression g a) (none_expression g b)
  none_node g (Conditional a b c) = three (lacks g a) (lacks g b) (lacks g c) (expression_count g a) (expression_count g b) (expression_count g c)
      (none_expression g a) (none_expression g b) (none_expression g c)
  none_node g (Assign p a) = two (place_lacks g p) (lacks g a) (place_count g p) (expression_count g a) (none_place g p) (none_expression g a)
  none_node g (Update op p a) = two (place_lacks g p) (lacks g a) (place_count g p) (expression_count g a) (none_place g p) (none_expression g a)
  none_node g (Count p up after) = none_place g p
  none_node g (Comma a b) = two (lacks g a) (lacks g b) (expression_count g a) (expression_count g b) (none_expression g a) (none_expression g b)
  none_node g (Call f xs) = none_arguments g xs
  none_node g _ = refl

  none_arguments : (g : ℕ) (xs : Arguments) → arguments_lack g xs ≡ eqb (arguments_count g xs) 0
  none_arguments g NoArgument = refl
  none_arguments g (Argument x xs) = two (lacks g x) (arguments_lack g xs) (expression_count g x) (arguments_count g xs) (none_expression g x)
      (none_arguments g xs)

pub none_test : (g : ℕ) (t : TestTree) → test_lacks g t ≡ eqb (test_count g t) 0
none_test g (Source e) = none_expression g e
none_test g (AndOff l t) = none_test g t
none_test g (OrOn l t) = none_test g t
none_test g _ = refl

pub none_selector : (g : ℕ) (s : SelectorTree) → selector_lacks g s ≡ eqb (selector_count g s) 0
none_selector g (Selects e) = none_expression g e
none_selector g (Pick l n s) = none_selector g s

pub none_option : (g : ℕ) (e : Option ExpressionTree) → option_lacks g e ≡ eqb (option_count g e) 0
none_option g None = refl
none_option g (Some e) = none_expression g e

none_all : (g : ℕ) (es : List ExpressionTree) → all_lack g es ≡ eqb (all_count g es) 0
none_all g [] = refl
none_all g (e ∷ es) = two (lacks g e) (all_lack g es) (expression_count g e) (all_count g es) (none_expression g e) (none_all g es)

none_values : (g : ℕ) (es : Option (List ExpressionTree)) → values_lack g es ≡ eqb (values_count g es) 0
none_values g None = refl
none_values g (Some es) = none_all g es

mutual
  pub none_list : (g : ℕ) (a : Forest) → list_lacks g a ≡ eqb (list_count g a) 0
  none_list g Nil = refl
  none_list g (Then x xs) = two (item_lacks g x) (list_lacks g xs) (item_count g x) (list_count g xs) (none_item g x) (none_list g xs)

  pub none_item : (g : ℕ) (x : Tree) → item_lacks g x ≡ eqb (item_count g x) 0
  none_item g (If t a b) = three (test_lacks g t) (list_lacks g a) (list_lacks g b) (test_count g t) (list_count g a) (list_count g b) (none_test g t)
      (none_list g a) (none_list g b)
  none_item g (While t a) = two (test_lacks g t) (list_lacks g a) (test_count g t) (list_count g a) (none_test g t) (none_list g a)
  none_item g (Do a t) = two (list_lacks g a) (test_lacks g t) (list_count g a) (test_count g t) (none_list g a) (none_test g t)
  none_item g (For f t u a) =
      two (list_lacks g f) (option_lacks g t && (option_lacks g u && list_lacks g a)) (list_count g f)
      (option_count g t + (option_count g u + list_count g a)) (none_list g f)
      (three (option_lacks g t) (option_lacks g u) (list_lacks g a) (option_count g t) (option_count g u) (list_count g a) (none_option g t)
      (none_option g u) (none_list g a))
  none_item g (Switch s c) = two (selector_lacks g s) (sections_lack g c) (selector_count g s) (sections_count g c) (none_selector g s) (none_sections g c)
  none_item g (Block a) = none_list g a
  none_item g (Evaluate e) = none_expression g e
  none_item g (Return e) = none_option g e
  none_item g (Local x es) = two (not (eqb x g)) (values_lack g es) (one_if (eqb x g)) (values_count g es) (one_lacks (eqb x g)) (none_values g es)
  none_item g (Arm l e) = none_option g e
  none_item g x = refl

  none_sections : (g : ℕ) (c : Sections) → sections_lack g c ≡ eqb (sections_count g c) 0
  none_sections g NoSection = refl
  none_sections g (Section cases default a ends c) = two (list_lacks g a) (sections_lack g c) (list_count g a) (sections_count g c) (none_list g a)
      (none_sections g c)

pub expression_none : (g : ℕ) (e : ExpressionTree) → lacks g e ≡ eqb (expression_count g e) 0
expression_none = none_expression

pub count_join : (g : ℕ) (a b : Forest) → list_count g (join a b) ≡ list_count g a + list_count g b
count_join g Nil b = omega arith
count_join g (Then x xs) b = let e = count_join g xs b in omega (arith, e)

pub count_laws_hold : CountLaws
count_laws_hold = record { none = none_list; both = count_join }
