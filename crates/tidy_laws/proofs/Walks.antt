-- Walks over items whose slots get other numbers.
use mathlib.Core.Path.{ap₂}
use Rattle.std.proofs.Common.{ℕ, true, false, not, ◌&&◌, eqb, List, [], ◌∷◌, map, Option, Some, None, ◌≡◌, refl, ap, ◌∙◌}
use Rattle.std.proofs.lemmas.Bool.{and_parts, not-true}
use Rattle.c_tree.specs.declared.tree.Home.{Home}
use Rattle.c_tree.specs.declared.tree.Home.TheVariants as H
use Rattle.c_tree.specs.ExpressionTrees.{ExpressionTree, PlaceTree, NodeTree, Arguments, Typed, Var, Cell, Array, Read, Unary, Cast, Binary, Conditional, Assign, Update, Count, Comma, Call, NoArgument, Argument}
use Rattle.c_tree.specs.TestTrees.{TestTree, Source, AndOff, OrOn, SelectorTree, Selects, Pick}
use Rattle.c_tree.specs.Trees.{Tree, Forest, Nil, Then, Sections, NoSection, Section, Evaluate, Return, If, While, Do, For, Switch, Block, Local, Arm}
use Rattle.tidy_laws.specs.Mentions.{home_lacks, lacks, place_lacks, node_lacks, arguments_lack, test_lacks, selector_lacks, option_lacks, all_lack, values_lack, list_lacks, item_lacks, sections_lack}
use Rattle.tidy_laws.specs.Renumbered.{new_number, renumbered_home, renumbered, renumbered_place, renumbered_node, renumbered_arguments, renumbered_test, renumbered_selector, renumbered_option, renumbered_values, renumbered_list, renumbered_item, renumbered_sections}
use Rattle.tidy_laws.specs.Renamed.{renamed_home, renamed, renamed_place, renamed_node, renamed_arguments, renamed_test, renamed_selector, renamed_option, renamed_values, renamed_list, renamed_item, renamed_sections}

pub three_same : {A B C D : Type 0} (f : A → B → C → D) {a b : A} {c d : B} {x y : C} → a ≡ b → c ≡ d → x ≡ y → f a c x ≡ f b d y
three_same f {a} {b} {c} {d} {x} {y} e h k = ap (λ z. f z c x) e ∙ ap₂ (f b) h k

four_same : {A B C D E : Type 0} (f : A → B → C → D → E) {a b : A} {c d : B} {x y : C} {u v : D} → a ≡ b → c ≡ d → x ≡ y → u ≡ v → f a c x u ≡ f b d y v
four_same f {a} {b} {c} {d} {x} {y} {u} {v} e h k l = ap (λ z. f z c x u) e ∙ three_same (f b) h k l

-- ---- each has its own number

module _ (r : ℕ → ℕ) (h : (x : ℕ) → r x ≡ x) where
  same_home : (h : Home) → renamed_home r h ≡ h
  same_home (H.Slot x) = ap H.Slot (h x)
  same_home (H.Global m) = refl

  same_slot : (x : ℕ) → r x ≡ x
  same_slot x = h x

  mutual
    same_expression : (e : ExpressionTree) → renamed r e ≡ e
    same_expression (Typed k n) = ap (Typed k) (same_node n)

    same_place : (p : PlaceTree) → renamed_place r p ≡ p
    same_place (Var h) = ap (Var) (same_home h)
    same_place (Cell h a) = ap₂ (Cell) (same_home h) (same_expression a)

    same_node : (n : NodeTree) → renamed_node r n ≡ n
    same_node (Array h) = ap (Array) (same_home h)
    same_node (Read p) = ap (Read) (same_place p)
    same_node (Unary op a) = ap (Unary op) (same_expression a)
    same_node (Cast a) = ap (Cast) (same_expression a)
    same_node (Binary op a b) = ap₂ (Binary op) (same_expression a) (same_expression b)
    same_node (Conditional a b c) = three_same Conditional (same_expression a) (same_expression b) (same_expression c)
    same_node (Assign p a) = ap₂ (Assign) (same_place p) (same_expression a)
    same_node (Update op p a) = ap₂ (Update op) (same_place p) (same_expression a)
    same_node (Count p up after) = ap (λ q. Count q up after) (same_place p)
    same_node (Comma a b) = ap₂ (Comma) (same_expression a) (same_expression b)
    same_node (Call m xs) = ap (Call m) (same_arguments xs)
    same_node n = refl

    same_arguments : (xs : Arguments) → renamed_arguments r xs ≡ xs
    same_arguments NoArgument = refl
    same_arguments (Argument x xs) = ap₂ (Argument) (same_expression x) (same_arguments xs)

  same_test : (t : TestTree) → renamed_test r t ≡ t
  same_test (Source e) = ap (Source) (same_expression e)
  same_test (AndOff m t) = ap (AndOff m) (same_test t)
  same_test (OrOn m t) = ap (OrOn m) (same_test t)
  same_test t = refl

  same_selector : (v : SelectorTree) → renamed_selector r v ≡ v
  same_selector (Selects e) = ap (Selects) (same_expression e)
  same_selector (Pick m n v) = ap (Pick m n) (same_selector v)

  same_option : (o : Option ExpressionTree) → renamed_option r o ≡ o
  same_option None = refl
  same_option (Some e) = ap (Some) (same_expression e)

  same_all : (es : List ExpressionTree) → map (renamed r) es ≡ es
  same_all [] = refl
  same_all (e ∷ es) = ap₂ (λ z zs. z ∷ zs) (same_expression e) (same_all es)

  same_values : (o : Option (List ExpressionTree)) → renamed_values r o ≡ o
  same_values None = refl
  same_values (Some es) = ap (Some) (same_all es)

  mutual
    pub same_list : (a : Forest) → renamed_list r a ≡ a
    same_list Nil = refl
    same_list (Then x xs) = ap₂ (Then) (same_item x) (same_list xs)

    same_item : (x : Tree) → renamed_item r x ≡ x
    same_item (Evaluate e) = ap (Evaluate) (same_expression e)
    same_item (Return e) = ap (Return) (same_option e)
    same_item (If t a b) = three_same If (same_test t) (same_list a) (same_list b)
    same_item (While t a) = ap₂ (While) (same_test t) (same_list a)
    same_item (Do a t) = ap₂ (Do) (same_list a) (same_test t)
    same_item (For f t u a) = four_same For (same_list f) (same_option t) (same_option u) (same_list a)
    same_item (Switch v c) = ap₂ (Switch) (same_selector v) (same_sections c)
    same_item (Block a) = ap (Block) (same_list a)
    same_item (Local x es) = ap₂ Local (same_slot x) (same_values es)
    same_item (Arm m e) = ap (Arm m) (same_option e)
    same_item x = refl

    same_sections : (c : Sections) → renamed_sections r c ≡ c
    same_sections NoSection = refl
    same_sections (Section cases default a ends c) = ap₂ (λ b d. Section cases default b ends d) (same_list a) (same_sections c)

-- ---- each gets its number back

module _ (r s : ℕ → ℕ) (h : (x : ℕ) → r (s x) ≡ x) where
  back_home : (h : Home) → renamed_home r (renamed_home s h) ≡ h
  back_home (H.Slot x) = ap H.Slot (h x)
  back_home (H.Global m) = refl

  back_slot : (x : ℕ) → r (s x) ≡ x
  back_slot x = h x

  mutual
    back_expression : (e : ExpressionTree) → renamed r (renamed s e) ≡ e
    back_expression (Typed k n) = ap (Typed k) (back_node n)

    back_place : (p : PlaceTree) → renamed_place r (renamed_place s p) ≡ p
    back_place (Var h) = ap (Var) (back_home h)
    back_place (Cell h a) = ap₂ (Cell) (back_home h) (back_expression a)

    back_node : (n : NodeTree) → renamed_node r (renamed_node s n) ≡ n
    back_node (Array h) = ap (Array) (back_home h)
    back_node (Read p) = ap (Read) (back_place p)
    back_node (Unary op a) = ap (Unary op) (back_expression a)
    back_node (Cast a) = ap (Cast) (back_expression a)
    back_node (Binary op a b) = ap₂ (Binary op) (back_expression a) (back_expression b)
    back_node (Conditional a b c) = three_same Conditional (back_expression a) (back_expression b) (back_expression c)
    back_node (Assign p a) = ap₂ (Assign) (back_place p) (back_expression a)
    back_node (Update op p a) = ap₂ (Update op) (back_place p) (back_expression a)
    back_node (Count p up after) = ap (λ q. Count q up after) (back_place p)
    back_node (Comma a b) = ap₂ (Comma) (back_expression a) (back_expression b)
    back_node (Call m xs) = ap (Call m) (back_arguments xs)
    back_node n = refl

    back_arguments : (xs : Arguments) → renamed_arguments r (renamed_arguments s xs) ≡ xs
    back_arguments NoArgument = refl
    back_arguments (Argument x xs) = ap₂ (Argument) (back_expression x) (back_arguments xs)

  back_test : (t : TestTree) → renamed_test r (renamed_test s t) ≡ t
  back_test (Source e) = ap (Source) (back_expression e)
  back_test (AndOff m t) = ap (AndOff m) (back_test t)
  back_test (OrOn m t) = ap (OrOn m) (back_test t)
  back_test t = refl

  back_selector : (v : SelectorTree) → renamed_selector r (renamed_selector s v) ≡ v
  back_selector (Selects e) = ap (Selects) (back_expression e)
  back_selector (Pick m n v) = ap (Pick m n) (back_selector v)

  back_option : (o : Option ExpressionTree) → renamed_option r (renamed_option s o) ≡ o
  back_option None = refl
  back_option (Some e) = ap (Some) (back_expression e)

  back_all : (es : List ExpressionTree) → map (renamed r) (map (renamed s) es) ≡ es
  back_all [] = refl
  back_all (e ∷ es) = ap₂ (λ z zs. z ∷ zs) (back_expression e) (back_all es)

  back_values : (o : Option (List ExpressionTree)) → renamed_values r (renamed_values s o) ≡ o
  back_values None = refl
  back_values (Some es) = ap (Some) (back_all es)

  mutual
    pub back_list : (a : Forest) → renamed_list r (renamed_list s a) ≡ a
    back_list Nil = refl
    back_list (Then x xs) = ap₂ (Then) (back_item x) (back_list xs)

    back_item : (x : Tree) → renamed_item r (renamed_item s x) ≡ x
    back_item (Evaluate e) = ap (Evaluate) (back_expression e)
    back_item (Return e) = ap (Return) (back_option e)
    back_item (If t a b) = three_same If (back_test t) (back_list a) (back_list b)
    back_item (While t a) = ap₂ (While) (back_test t) (back_list a)
    back_item (Do a t) = ap₂ (Do) (back_list a) (back_test t)
    back_item (For f t u a) = four_same For (back_list f) (back_option t) (back_option u) (back_list a)
    back_item (Switch v c) = ap₂ (Switch) (back_selector v) (back_sections c)
    back_item (Block a) = ap (Block) (back_list a)
    back_item (Local x es) = ap₂ Local (back_slot x) (back_values es)
    back_item (Arm m e) = ap (Arm m) (back_option e)
    back_item x = refl

    back_sections : (c : Sections) → renamed_sections r (renamed_sections s c) ≡ c
    back_sections NoSection = refl
    back_sections (Section cases default a ends c) = ap₂ (λ b d. Section cases default b ends d) (back_list a) (back_sections c)

-- ---- one that isn't named goes

module _ (r s : ℕ → ℕ) (g : ℕ) (h : (x : ℕ) → eqb x g ≡ false → r (new_number g x) ≡ s x) where
  step_slot : (x : ℕ) → not (eqb x g) ≡ true → r (new_number g x) ≡ s x
  step_slot x l = h x (not-true (eqb x g) l)

  step_home : (h : Home) → home_lacks g h ≡ true → renamed_home r (renumbered_home g h) ≡ renamed_home s h
  step_home (H.Slot x) l = ap H.Slot (step_slot x l)
  step_home (H.Global m) l = refl

  mutual
    step_expression : (e : ExpressionTree) → lacks g e ≡ true → renamed r (renumbered g e) ≡ renamed s e
    step_expression (Typed k n) l = ap (Typed k) (step_node n l)

    step_place : (p : PlaceTree) → place_lacks g p ≡ true → renamed_place r (renumbered_place g p) ≡ renamed_place s p
    step_place (Var h) l = ap (Var) (step_home h l)
    step_place (Cell h a) l = let w = and_parts (home_lacks g h) (lacks g a) l in ap₂ (Cell) (step_home h w.0) (step_expression a w.1)

    step_node : (n : NodeTree) → node_lacks g n ≡ true → renamed_node r (renumbered_node g n) ≡ renamed_node s n
    step_node (Array h) l = ap (Array) (step_home h l)
    step_node (Read p) l = ap (Read) (step_place p l)
    step_node (Unary op a) l = ap (Unary op) (step_expression a l)
    step_node (Cast a) l = ap (Cast) (step_expression a l)
    step_node (Binary op a b) l = let w = and_parts (lacks g a) (lacks g b) l in ap₂ (Binary op) (step_expression a w.0) (step_expression b w.1)
    step_node (Conditional a b c) l = let d = and_parts (lacks g a) (lacks g b && lacks g c) l in let e = and_parts (lacks g b) (lacks g c) d.1 in
        three_same Conditional (step_expression a d.0) (step_expression b e.0) (step_expression c e.1)
    step_node (Assign p a) l = let w = and_parts (place_lacks g p) (lacks g a) l in ap₂ (Assign) (step_place p w.0) (step_expression a w.1)
    step_node (Update op p a) l = let w = and_parts (place_lacks g p) (lacks g a) l in ap₂ (Update op) (step_place p w.0) (step_expression a w.1)
    step_node (Count p up after) l = ap (λ q. Count q up after) (step_place p l)
    step_node (Comma a b) l = let w = and_parts (lacks g a) (lacks g b) l in ap₂ (Comma) (step_expression a w.0) (step_expression b w.1)
    step_node (Call m xs) l = ap (Call m) (step_arguments xs l)
    step_node n l = refl

    step_arguments : (xs : Arguments) → arguments_lack g xs ≡ true → renamed_arguments r (renumbered_arguments g xs) ≡ renamed_arguments s xs
    step_arguments NoArgument l = refl
    step_arguments (Argument x xs) l = let w = and_parts (lacks g x) (arguments_lack g xs) l in ap₂ (Argument) (step_expression x w.0) (step_arguments xs w.1)

  step_test : (t : TestTree) → test_lacks g t ≡ true → renamed_test r (renumbered_test g t) ≡ renamed_test s t
  step_test (Source e) l = ap (Source) (step_expression e l)
  step_test (AndOff m t) l = ap (AndOff m) (step_test t l)
  step_test (OrOn m t) l = ap (OrOn m) (step_test t l)
  step_test t l = refl

  step_selector : (v : SelectorTree) → selector_lacks g v ≡ true → renamed_selector r (renumbered_selector g v) ≡ renamed_selector s v
  step_selector (Selects e) l = ap (Selects) (step_expression e l)
  step_selector (Pick m n v) l = ap (Pick m n) (step_selector v l)

  step_option : (o : Option ExpressionTree) → option_lacks g o ≡ true → renamed_option r (renumbered_option g o) ≡ renamed_option s o
  step_option None l = refl
  step_option (Some e) l = ap (Some) (step_expression e l)

  step_all : (es : List ExpressionTree) → all_lack g es ≡ true → map (renamed r) (map (renumbered g) es) ≡ map (renamed s) es
  step_all [] l = refl
  step_all (e ∷ es) l = let w = and_parts (lacks g e) (all_lack g es) l in ap₂ (λ z zs. z ∷ zs) (step_expression e w.0) (step_all es w.1)

  step_values : (o : Option (List ExpressionTree)) → values_lack g o ≡ true → renamed_values r (renumbered_values g o) ≡ renamed_values s o
  step_values None l = refl
  step_values (Some es) l = ap (Some) (step_all es l)

  mutual
    pub step_list : (a : Forest) → list_lacks g a ≡ true → renamed_list r (renumbered_list g a) ≡ renamed_list s a
    step_list Nil l = refl
    step_list (Then x xs) l = let w = and_parts (item_lacks g x) (list_lacks g xs) l in ap₂ (Then) (step_item x w.0) (step_list xs w.1)

    step_item : (x : Tree) → item_lacks g x ≡ true → renamed_item r (renumbered_item g x) ≡ renamed_item s x
    step_item (Evaluate e) l = ap (Evaluate) (step_expression e l)
    step_item (Return e) l = ap (Return) (step_option e l)
    step_item (If t a b) l = let d = and_parts (test_lacks g t) (list_lacks g a && list_lacks g b) l in let e =
        and_parts (list_lacks g a) (list_lacks g b)
        d.1 in three_same If (step_test t d.0) (step_list a e.0) (step_list b e.1)
    step_item (While t a) l = let w = and_parts (test_lacks g t) (list_lacks g a) l in ap₂ (While) (step_test t w.0) (step_list a w.1)
    step_item (Do a t) l = let w = and_parts (list_lacks g a) (test_lacks g t) l in ap₂ (Do) (step_list a w.0) (step_test t w.1)
    step_item (For f t u a) l = let c = and_parts (list_lacks g f) (option_lacks g t && (option_lacks g u && list_lacks g a)) l in let d =
        and_parts
        (option_lacks g t) (option_lacks g u && list_lacks g a) c.1 in let e = and_parts (option_lacks g u) (list_lacks g a) d.1 in
        four_same For (step_list f c.0) (step_option t d.0) (step_option u e.0) (step_list a e.1)
    step_item (Switch v c) l = let w = and_parts (selector_lacks g v) (sections_lack g c) l in ap₂ (Switch) (step_selector v w.0) (step_sections c w.1)
    step_item (Block a) l = ap (Block) (step_list a l)
    step_item (Local x es) l = let w = and_parts (not (eqb x g)) (values_lack g es) l in ap₂ Local (step_slot x w.0) (step_values es w.1)
    step_item (Arm m e) l = ap (Arm m) (step_option e l)
    step_item x l = refl

    step_sections : (c : Sections) → sections_lack g c ≡ true → renamed_sections r (renumbered_sections g c) ≡ renamed_sections s c
    step_sections NoSection l = refl
    step_sections (Section cases default a ends c) l = let w = and_parts (list_lacks g a) (sections_lack g c) l in
        ap₂ (λ b d. Section cases default b ends d) (step_list a w.0) (step_sections c w.1)
