-- How often a slot is named where slots have other numbers, each its own.
use mathlib.Core.Path.{ap₂}
use Rattle.std.proofs.Common.{ℕ, ◌+◌, eqb, List, [], ◌∷◌, map, Option, Some, None, ◌≡◌, refl, sym, ap, ◌∙◌}
use Rattle.c_tree.specs.declared.tree.Home.{Home}
use Rattle.c_tree.specs.declared.tree.Home.TheVariants as H
use Rattle.c_tree.specs.ExpressionTrees.{ExpressionTree, PlaceTree, NodeTree, Arguments, Typed, Var, Cell, Array, Read, Unary, Cast, Binary, Conditional, Assign, Update, Count, Comma, Call, NoArgument, Argument}
use Rattle.c_tree.specs.TestTrees.{TestTree, Source, AndOff, OrOn, SelectorTree, Selects, Pick}
use Rattle.c_tree.specs.Trees.{Tree, Forest, Nil, Then, Sections, NoSection, Section, Evaluate, Return, If, While, Do, For, Switch, Block, Local, Arm}
use Rattle.tidy_laws.specs.Mentions.{lacks}
use Rattle.tidy_slots.specs.Counts.{one_if, home_count, expression_count, place_count, node_count, arguments_count, test_count, selector_count, option_count, all_count, values_count, list_count, item_count, sections_count}
use Rattle.tidy_slots.proofs.CountLemmas.{expression_none}
use Rattle.tidy_laws.specs.Renamed.{renamed_home, renamed, renamed_place, renamed_node, renamed_arguments, renamed_test, renamed_selector, renamed_option, renamed_values, renamed_list, renamed_item, renamed_sections}

pub three_same : {A B C D : Type 0} (f : A → B → C → D) {a b : A} {c d : B} {x y : C} → a ≡ b → c ≡ d → x ≡ y → f a c x ≡ f b d y
three_same f {a} {b} {c} {d} {x} {y} e h k = ap (λ z. f z c x) e ∙ ap₂ (f b) h k

pub four_same : {A B C D E : Type 0} (f : A → B → C → D → E) {a b : A} {c d : B} {x y : C} {u v : D} → a ≡ b → c ≡ d → x ≡ y → u ≡ v → f a c x u ≡ f b d y v
four_same f {a} {b} {c} {d} {x} {y} {u} {v} e h k l = ap (λ z. f z c x u) e ∙ three_same (f b) h k l

module _ (s : ℕ → ℕ) (same : (x y : ℕ) → eqb (s x) (s y) ≡ eqb x y) where
  count_home : (g : ℕ) (h : Home) → home_count (s g) (renamed_home s h) ≡ home_count g h
  count_home g (H.Slot x) = ap one_if (same x g)
  count_home g (H.Global m) = refl

  mutual
    count_expression : (g : ℕ) (e : ExpressionTree) → expression_count (s g) (renamed s e) ≡ expression_count g e
    count_expression g (Typed k n) = count_node g n

    count_place : (g : ℕ) (p : PlaceTree) → place_count (s g) (renamed_place s p) ≡ place_count g p
    count_place g (Var h) = count_home g h
    count_place g (Cell h a) = ap₂ (λ m n. m + n) (count_home g h) (count_expression g a)

    count_node : (g : ℕ) (n : NodeTree) → node_count (s g) (renamed_node s n) ≡ node_count g n
    count_node g (Array h) = count_home g h
    count_node g (Read p) = count_place g p
    count_node g (Unary op a) = count_expression g a
    count_node g (Cast a) = count_expression g a
    count_node g (Binary op a b) = ap₂ (λ m n. m + n) (count_expression g a) (count_expression g b)
    count_node g (Conditional a b c) = three_same (λ l m n. l + (m + n)) (count_expression g a) (count_expression g b) (count_expression g c)
    count_node g (Assign p a) = ap₂ (λ m n. m + n) (count_place g p) (count_expression g a)
    count_node g (Update op p a) = ap₂ (λ m n. m + n) (count_place g p) (count_expression g a)
    count_node g (Count p up after) = count_place g p
    count_node g (Comma a b) = ap₂ (λ m n. m + n) (count_expression g a) (count_expression g b)
    count_node g (Call m xs) = count_arguments g xs
    count_node g n = refl

    count_arguments : (g : ℕ) (xs : Arguments) → arguments_count (s g) (renamed_arguments s xs) ≡ arguments_count g xs
    count_arguments g NoArgument = refl
    count_arguments g (Argument x xs) = ap₂ (λ m n. m + n) (count_expression g x) (count_arguments g xs)

  count_test : (g : ℕ) (t : TestTree) → test_count (s g) (renamed_test s t) ≡ test_count g t
  count_test g (Source e) = count_expression g e
  count_test g (AndOff m t) = count_test g t
  count_test g (OrOn m t) = count_test g t
  count_test g t = refl

  count_selector : (g : ℕ) (v : SelectorTree) → selector_count (s g) (renamed_selector s v) ≡ selector_count g v
  count_selector g (Selects e) = count_expression g e
  count_selector g (Pick m n v) = count_selector g v

  count_option : (g : ℕ) (o : Option ExpressionTree) → option_count (s g) (renamed_option s o) ≡ option_count g o
  count_option g None = refl
  count_option g (Some e) = count_expression g e

  count_all : (g : ℕ) (es : List ExpressionTree) → all_count (s g) (map (renamed s) es) ≡ all_count g es
  count_all g [] = refl
  count_all g (e ∷ es) = ap₂ (λ m n. m + n) (count_expression g e) (count_all g es)

  count_values : (g : ℕ) (o : Option (List ExpressionTree)) → values_count (s g) (renamed_values s o) ≡ values_count g o
  count_values g None = refl
  count_values g (Some es) = count_all g es

  mutual
    pub count_list : (g : ℕ) (a : Forest) → list_count (s g) (renamed_list s a) ≡ list_count g a
    count_list g Nil = refl
    count_list g (Then x xs) = ap₂ (λ m n. m + n) (count_item g x) (count_list g xs)

    count_item : (g : ℕ) (x : Tree) → item_count (s g) (renamed_item s x) ≡ item_count g x
    count_item g (Evaluate e) = count_expression g e
    count_item g (Return e) = count_option g e
    count_item g (If t a b) = three_same (λ l m n. l + (m + n)) (count_test g t) (count_list g a) (count_list g b)
    count_item g (While t a) = ap₂ (λ m n. m + n) (count_test g t) (count_list g a)
    count_item g (Do a t) = ap₂ (λ m n. m + n) (count_list g a) (count_test g t)
    count_item g (For f t u a) = four_same (λ k l m n. k + (l + (m + n))) (count_list g f) (count_option g t) (count_option g u) (count_list g a)
    count_item g (Switch v c) = ap₂ (λ m n. m + n) (count_selector g v) (count_sections g c)
    count_item g (Block a) = count_list g a
    count_item g (Local x es) = ap₂ (λ m n. m + n) (ap one_if (same x g)) (count_values g es)
    count_item g (Arm m e) = count_option g e
    count_item g x = refl

    count_sections : (g : ℕ) (c : Sections) → sections_count (s g) (renamed_sections s c) ≡ sections_count g c
    count_sections g NoSection = refl
    count_sections g (Section cases default a ends c) = ap₂ (λ m n. m + n) (count_list g a) (count_sections g c)

  pub lacks_same : (g : ℕ) (e : ExpressionTree) → lacks (s g) (renamed s e) ≡ lacks g e
  lacks_same g e = expression_none (s g) (renamed s e) ∙ ap (λ n. eqb n 0) (count_expression g e) ∙ sym (expression_none g e)
