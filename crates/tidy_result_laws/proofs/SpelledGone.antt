-- A body that is spelled stays so without a slot that it doesn't name.
use Rattle.std.proofs.Common.{◌≡◌, ℕ, ◌+◌, ◌≤◌, Bool, true, false, not, ◌&&◌, cond, eqb, List, [], ◌∷◌, map, Option, Some, None, slice_get, refl, sym, subst}
use Rattle.std.proofs.lemmas.Bool.{and_parts, not-true}
use Rattle.c_types.specs.declared.kinds.IntKind.{IntKind}
use Rattle.c_tree.specs.declared.tree.Slot.{Slot}
use Rattle.c_tree.specs.declared.tree.Function.{Function}
use Rattle.c_tree.specs.declared.tree.Home.{Home}
use Rattle.c_tree.specs.ExpressionTrees.{ExpressionTree, PlaceTree, NodeTree, Arguments, Typed, Var, Cell, Number, Character, EnumName, Text, Array, Read, Unary, Cast, Binary, Conditional, Assign, Update, Count, Comma, Call, NoArgument, Argument}
use Rattle.c_tree.specs.TestTrees.{TestTree, Source, SelectorTree, Selects, Pick}
use Rattle.c_tree.specs.TextExpressions.{home_name}
use Rattle.c_tree.specs.Trees.{Tree, Forest, Nil, Then, Sections, NoSection, Section, Evaluate, Return, If, While, Do, For, Switch, Block, Local, Break, Continue, Goto, Mark, Arm, Leap, Land, Arrival, Note}
use Rattle.c_tree.specs.Everywhere.{Everywhere, EverywhereOf, EverywhereIn}
use Rattle.c_resolved_defs.specs.PrintableExpressions.{IsName, ArgumentPrints, Prints, NodePrints, PlacePrints, AllPrint, level_of, bracket_count, counted, node_counted, place_counted, all_counted, counted_at}
use Rattle.c_resolved_defs.specs.PrintableStatements.{most, FullPrints, OptionPrints, ListPrints, ValuesPrint, SlotPrints, TestPrints, SelectorPrints, FurtherPrint, StartPrints}
use Rattle.c_resolved_defs.specs.Spelling.{ItemIsSpelled, AreSpelled, SectionsAreSpelled}
use Rattle.c_resolved_defs.specs.Within.{Each, CaseExpressions}
use Rattle.struct_meaning.specs.Structured.{IsStructured}
use Rattle.tidy_laws.specs.Mentions.{home_lacks, lacks, node_lacks, place_lacks, arguments_lack, test_lacks, selector_lacks, all_lack, option_lacks, values_lack, list_lacks, item_lacks, sections_lack}
use Rattle.tidy_laws.specs.Renumbered.{new_number, without, renumbered_home, renumbered, renumbered_place, renumbered_node, renumbered_arguments, renumbered_test, renumbered_selector, renumbered_option, renumbered_values, renumbered_list, renumbered_item, renumbered_sections}
use Rattle.tidy_laws.specs.Changes.{is_declaration, undeclared}
use Rattle.tidy_result_laws.proofs.SlotGone.{same_get, home_same, IsFreeOf}
use Rattle.tidy_result_laws.proofs.ItemsGone.{HasFreeCases}

-- ---- counted tokens

module _ (g : ℕ) where
  level_stays : (e : ExpressionTree) → level_of (renumbered g e) ≡ level_of e
  level_stays (Typed kind (Binary op a b)) = refl
  level_stays (Typed kind (Conditional a b c)) = refl
  level_stays (Typed kind (Assign at a)) = refl
  level_stays (Typed kind (Update op at a)) = refl
  level_stays (Typed kind (Comma a b)) = refl
  level_stays (Typed kind (Number z)) = refl
  level_stays (Typed kind (Character b)) = refl
  level_stays (Typed kind (EnumName m z)) = refl
  level_stays (Typed kind (Text bs)) = refl
  level_stays (Typed kind (Array a)) = refl
  level_stays (Typed kind (Read at)) = refl
  level_stays (Typed kind (Unary op a)) = refl
  level_stays (Typed kind (Cast a)) = refl
  level_stays (Typed kind (Count at up after)) = refl
  level_stays (Typed kind (Call m xs)) = refl

  mutual
    counted_stays : (e : ExpressionTree) → counted (renumbered g e) ≡ counted e
    counted_stays (Typed kind node) = node_stays node

    node_stays : (n : NodeTree) → node_counted (renumbered_node g n) ≡ node_counted n
    node_stays (Read at) = place_stays at
    node_stays (Unary op a) = (λ i. counted_stays a i + bracket_count (level_stays a i) 14 + 1)
    node_stays (Cast a) = (λ i. counted_stays a i + bracket_count (level_stays a i) 14 + 1)
    node_stays (Binary op a b) =
        (λ i. counted_stays a i + bracket_count (level_stays a i)
        (level_of (Typed None (Binary op a b))) + 1 + (counted_stays b i + bracket_count (level_stays b i) (level_of (Typed None (Binary op a b)) + 1)))
    node_stays (Conditional a b c) = (λ i. counted_stays a i + bracket_count (level_stays a i) 4 + 1 + counted_stays b
        i + (counted_stays c i + bracket_count (level_stays c i) 3))
    node_stays (Assign at a) = (λ i. place_stays at i + 1 + (counted_stays a i + bracket_count (level_stays a i) 2))
    node_stays (Update op at a) = (λ i. place_stays at i + 1 + (counted_stays a i + bracket_count (level_stays a i) 2))
    node_stays (Count at up after) = (λ i. place_stays at i + 1)
    node_stays (Comma a b) = (λ i. counted_stays a i + 1 + (counted_stays b i + bracket_count (level_stays b i) 2))
    node_stays (Call m xs) = (λ i. 1 + arguments_stay xs i)
    node_stays _ = refl

    place_stays : (at : PlaceTree) → place_counted (renumbered_place g at) ≡ place_counted at
    place_stays (Var h) = refl
    place_stays (Cell h a) = (λ i. 1 + counted_stays a i)

    arguments_stay : (xs : Arguments) → all_counted (renumbered_arguments g xs) ≡ all_counted xs
    arguments_stay NoArgument = refl
    arguments_stay (Argument x xs) = (λ i. counted_stays x i + bracket_count (level_stays x i) 2 + arguments_stay xs i)

  at_stays : (need : ℕ) (e : ExpressionTree) → counted_at need (renumbered g e) ≡ counted_at need e
  at_stays need e = (λ i. counted_stays e i + bracket_count (level_stays e i) need)

-- ---- expressions

module _ (g : ℕ) (ss : List Slot) where
  abbrev rest : List Slot
  rest = without g ss

  home_prints : (h : Home) → home_lacks g h ≡ true → IsName (home_name ss h) → IsName (home_name rest (renumbered_home g h))
  home_prints h l i = subst IsName (sym (home_same g ss h l)) i

  mutual
    prints_without : (e : ExpressionTree) → lacks g e ≡ true → Prints ss e → Prints rest (renumbered g e)
    prints_without (Typed kind node) l h = node_prints kind node l h

    node_prints : (kind : Option IntKind) (node : NodeTree) → node_lacks g node ≡ true → NodePrints ss kind node → NodePrints rest kind (renumbered_node g node)
    node_prints kind (Number z) l h = h
    node_prints kind (Character b) l h = h
    node_prints kind (EnumName m z) l h = h
    node_prints kind (Text bs) l h = absurd h
    node_prints kind (Array a) l h = home_prints a l h
    node_prints kind (Read at) l h = place_prints at l h
    node_prints kind (Unary op a) l h = prints_without a l h
    node_prints kind (Cast a) l h = prints_without a l h
    node_prints kind (Binary op a b) l h = let i = and_parts (lacks g a) (lacks g b) l in (prints_without a i.0 h.0, prints_without b i.1 h.1)
    node_prints kind (Conditional a b c) l h =
        let i = and_parts (lacks g a) (lacks g b && lacks g c) l in
        let j = and_parts (lacks g b) (lacks g c) i.1 in (prints_without a i.0 h.0, prints_without b j.0 h.1, prints_without c j.1 h.2)
    node_prints kind (Assign at a) l h = let i = and_parts (place_lacks g at) (lacks g a) l in (place_prints at i.0 h.0, prints_without a i.1 h.1)
    node_prints kind (Update op at a) l h = let i = and_parts (place_lacks g at) (lacks g a) l in (place_prints at i.0 h.0, prints_without a i.1 h.1)
    node_prints kind (Count at up after) l h = place_prints at l h
    node_prints kind (Comma a b) l h = let i = and_parts (lacks g a) (lacks g b) l in (prints_without a i.0 h.0, prints_without b i.1 h.1)
    node_prints kind (Call m xs) l h = (h.0, arguments_print xs l h.1)

    place_prints : (at : PlaceTree) → place_lacks g at ≡ true → PlacePrints ss at → PlacePrints rest (renumbered_place g at)
    place_prints (Var h) l i = home_prints h l i
    place_prints (Cell h a) l i = let j = and_parts (home_lacks g h) (lacks g a) l in (home_prints h j.0 i.0, prints_without a j.1 i.1)

    arguments_print : (xs : Arguments) → arguments_lack g xs ≡ true → AllPrint ss xs → AllPrint rest (renumbered_arguments g xs)
    arguments_print NoArgument l h = tt
    arguments_print (Argument x xs) l h = let i = and_parts (lacks g x) (arguments_lack g xs) l in (argument_prints x i.0 h.0, arguments_print xs i.1 h.1)

    argument_prints : (x : ExpressionTree) → lacks g x ≡ true → ArgumentPrints (Prints ss x) x → ArgumentPrints (Prints rest (renumbered g x)) (renumbered g x)
    argument_prints (Typed kind node) l h = argument_node kind node l h

    argument_node : (kind : Option IntKind) (node : NodeTree) → node_lacks g node ≡ true →
        ArgumentPrints (NodePrints ss kind node) (Typed kind node) → ArgumentPrints (NodePrints rest kind (renumbered_node g node))
        (Typed kind (renumbered_node g node))
    argument_node kind (Text bs) l h = h
    argument_node kind (Number z) l h = h
    argument_node kind (Character b) l h = h
    argument_node kind (EnumName m z) l h = h
    argument_node kind (Array a) l h = home_prints a l h
    argument_node kind (Read at) l h = place_prints at l h
    argument_node kind (Unary op a) l h = prints_without a l h
    argument_node kind (Cast a) l h = prints_without a l h
    argument_node kind (Binary op a b) l h = let i = and_parts (lacks g a) (lacks g b) l in (prints_without a i.0 h.0, prints_without b i.1 h.1)
    argument_node kind (Conditional a b c) l h =
        let i = and_parts (lacks g a) (lacks g b && lacks g c) l in
        let j = and_parts (lacks g b) (lacks g c) i.1 in (prints_without a i.0 h.0, prints_without b j.0 h.1, prints_without c j.1 h.2)
    argument_node kind (Assign at a) l h = let i = and_parts (place_lacks g at) (lacks g a) l in (place_prints at i.0 h.0, prints_without a i.1 h.1)
    argument_node kind (Update op at a) l h = let i = and_parts (place_lacks g at) (lacks g a) l in (place_prints at i.0 h.0, prints_without a i.1 h.1)
    argument_node kind (Count at up after) l h = place_prints at l h
    argument_node kind (Comma a b) l h = let i = and_parts (lacks g a) (lacks g b) l in (prints_without a i.0 h.0, prints_without b i.1 h.1)
    argument_node kind (Call m xs) l h = (h.0, arguments_print xs l h.1)

  -- ---- the parts of statements

  full_without : (need : ℕ) (e : ExpressionTree) → lacks g e ≡ true → FullPrints ss need e → FullPrints rest need (renumbered g e)
  full_without need e l h = record { prints = prints_without e l h.prints; few = subst (λ n. n ≤ most) (sym (at_stays g need e)) h.few }

  option_prints : (o : Option ExpressionTree) → option_lacks g o ≡ true → OptionPrints ss o → OptionPrints rest (renumbered_option g o)
  option_prints None l h = tt
  option_prints (Some e) l h = full_without 1 e l h

  list_prints : (need : ℕ) (es : List ExpressionTree) → all_lack g es ≡ true → ListPrints ss need es → ListPrints rest need (map (renumbered g) es)
  list_prints need [] l h = tt
  list_prints need (e ∷ es) l h = let i = and_parts (lacks g e) (all_lack g es) l in (full_without need e i.0 h.0, list_prints need es i.1 h.1)

  cases_print : (es : List ExpressionTree) → Each (IsFreeOf g) es → ListPrints ss 3 es → ListPrints rest 3 es
  cases_print [] k h = tt
  cases_print (e ∷ es) k h = (subst (FullPrints rest 3) k.0.1 (full_without 3 e k.0.0 h.0), cases_print es k.1 h.1)

  values_print : (c : Option ℕ) (o : Option (List ExpressionTree)) → values_lack g o ≡ true → ValuesPrint ss c o → ValuesPrint rest c (renumbered_values g o)
  values_print c None l h = tt
  values_print None (Some []) l h = absurd h
  values_print None (Some (e ∷ [])) l h = full_without 2 e (and_parts (lacks g e) true l).0 h
  values_print None (Some (e ∷ d ∷ es)) l h = absurd h
  values_print (Some n) (Some []) l h = absurd h
  values_print (Some n) (Some (e ∷ es)) l h = list_prints 2 (e ∷ es) l h

  slot_prints : (o : Option Slot) (es : Option (List ExpressionTree)) → values_lack g es ≡ true → SlotPrints ss o es →
      SlotPrints rest o (renumbered_values g es)
  slot_prints None es l h = absurd h
  slot_prints (Some s) es l h = record { named = h.named; length = h.length; values = values_print s.cells es l h.values }

  local_prints : (x : ℕ) (es : Option (List ExpressionTree)) → (not (eqb x g) && values_lack g es) ≡ true → SlotPrints ss (slice_get ss x) es →
      SlotPrints rest (slice_get rest (new_number g x)) (renumbered_values g es)
  local_prints x es l h =
      let i = and_parts (not (eqb x g)) (values_lack g es) l in subst (λ o. SlotPrints rest o (renumbered_values g es))
      (sym (same_get g x ss (not-true (eqb x g) i.0))) (slot_prints (slice_get ss x) es i.1 h)

  test_prints : (t : TestTree) → test_lacks g t ≡ true → TestPrints ss t → TestPrints rest (renumbered_test g t)
  test_prints (Source e) l h = full_without 1 e l h
  test_prints _ l h = absurd h

  selector_prints : (s : SelectorTree) → selector_lacks g s ≡ true → SelectorPrints ss s → SelectorPrints rest (renumbered_selector g s)
  selector_prints (Selects e) l h = full_without 1 e l h
  selector_prints (Pick m n s) l h = absurd h

  further_print : (a : Forest) → list_lacks g a ≡ true → FurtherPrint ss a → FurtherPrint rest (renumbered_list g a)
  further_print Nil l h = tt
  further_print (Then (Local x es) xs) l h = let i = and_parts (not (eqb x g) && values_lack g es) (list_lacks g xs) l in
      (local_prints x es i.0 h.0, further_print xs i.1 h.1)
  further_print (Then _ a) l h = absurd h

  start_prints : (a : Forest) → list_lacks g a ≡ true → StartPrints ss a → StartPrints rest (renumbered_list g a)
  start_prints Nil l h = tt
  start_prints (Then (Evaluate e) Nil) l h = full_without 1 e (and_parts (lacks g e) true l).0 h
  start_prints (Then (Local x es) xs) l h = let i = and_parts (not (eqb x g) && values_lack g es) (list_lacks g xs) l in
      (local_prints x es i.0 h.0, further_print xs i.1 h.1)
  start_prints _ l h = absurd h

-- ---- items, in a function whose slots are those without this one

module _ (g : ℕ) (f h : Function) (e : h.slots ≡ without g f.slots) where
  over : (P : List Slot → Type 0) → P (without g f.slots) → P h.slots
  over P i = subst P (sym e) i

  abbrev pub IsFit : Tree → Type 0
  IsFit x = IsStructured x × HasFreeCases g x

  mutual
    pub spelled_without : (a : Forest) → list_lacks g a ≡ true → Everywhere IsFit a → AreSpelled f a → AreSpelled h (renumbered_list g a)
    spelled_without Nil l p k = tt
    spelled_without (Then x xs) l p k = let i = and_parts (item_lacks g x) (list_lacks g xs) l in (item_spelled x i.0 p.0 k.0, spelled_without xs i.1 p.1 k.1)

    item_spelled : (x : Tree) → item_lacks g x ≡ true → EverywhereOf IsFit x → ItemIsSpelled f x → ItemIsSpelled h (renumbered_item g x)
    item_spelled (If t a b) l p k =
        let i = and_parts (test_lacks g t) (list_lacks g a && list_lacks g b) l in
        let j = and_parts (list_lacks g a) (list_lacks g b) i.1 in
        (over (λ ss. TestPrints ss (renumbered_test g t)) (test_prints g f.slots t i.0 k.0), spelled_without a j.0 p.1 k.1, spelled_without b j.1 p.2 k.2)
    item_spelled (While t a) l p k =
        let i = and_parts (test_lacks g t) (list_lacks g a) l in (
          over (λ ss. TestPrints ss (renumbered_test g t)) (test_prints g f.slots t i.0 k.0),
          spelled_without a i.1 p.1 k.1,
        )
    item_spelled (Do a t) l p k =
        let i = and_parts (list_lacks g a) (test_lacks g t) l in (
          spelled_without a i.0 p.1 k.0,
          over (λ ss. TestPrints ss (renumbered_test g t))
              (test_prints g f.slots t i.1 k.1),
        )
    item_spelled (For first t u a) l p k =
        let i = and_parts (list_lacks g first) (option_lacks g t && (option_lacks g u && list_lacks g a)) l in
        let j = and_parts (option_lacks g t) (option_lacks g u && list_lacks g a) i.1 in
        let m = and_parts (option_lacks g u) (list_lacks g a) j.1 in (
          over (λ ss. StartPrints ss (renumbered_list g first)) (start_prints g f.slots first i.0 k.0),
          over (λ ss. OptionPrints ss (renumbered_option g t)) (option_prints g f.slots t j.0 k.1),
          over (λ ss. OptionPrints ss (renumbered_option g u)) (option_prints g f.slots u m.0 k.2),
          spelled_without a m.1 p.2 k.3,
        )
    item_spelled (Switch s c) l p k =
        let i = and_parts (selector_lacks g s) (sections_lack g c) l in
        (over (λ ss. SelectorPrints ss (renumbered_selector g s)) (selector_prints g f.slots s i.0 k.0), sections_spelled c i.1 p.0.1 p.1 k.1)
    item_spelled (Block a) l p k = spelled_without a l p.1 k
    item_spelled (Evaluate x) l p k = over (λ ss. FullPrints ss 1 (renumbered g x)) (full_without g f.slots 1 x l k)
    item_spelled (Return x) l p k = over (λ ss. OptionPrints ss (renumbered_option g x)) (option_prints g f.slots x l k)
    item_spelled (Local x es) l p k = over (λ ss. SlotPrints ss (slice_get ss (new_number g x)) (renumbered_values g es)) (local_prints g f.slots x es l k)
    item_spelled Break l p k = tt
    item_spelled Continue l p k = tt
    item_spelled (Goto m) l p k = absurd p.0
    item_spelled (Mark m) l p k = absurd p.0
    item_spelled (Arm m x) l p k = absurd k
    item_spelled (Leap m) l p k = absurd p.0
    item_spelled (Land m) l p k = absurd k
    item_spelled (Arrival x) l p k = absurd p.0
    item_spelled (Note bs) l p k = k

    sections_spelled : (c : Sections) → sections_lack g c ≡ true → CaseExpressions (IsFreeOf g) c → EverywhereIn IsFit c → SectionsAreSpelled f c →
        SectionsAreSpelled h (renumbered_sections g c)
    sections_spelled NoSection l q p k = tt
    sections_spelled (Section cases default a ends c) l q p k =
        let i = and_parts (list_lacks g a) (sections_lack g c) l in
        (over (λ ss. ListPrints ss 3 cases) (cases_print g f.slots cases q.0 k.0), spelled_without a i.0 p.0 k.1, sections_spelled c i.1 q.1 p.1 k.2)

-- ---- a list without its declaration

module _ (g : ℕ) (f : Function) where
  pub spelled_undeclared : (a : Forest) → AreSpelled f a → AreSpelled f (undeclared g a)
  spelled_undeclared Nil h = tt
  spelled_undeclared (Then x xs) h = at (is_declaration g x) (spelled_undeclared xs h.1)
    where
      at : (b : Bool) → AreSpelled f (undeclared g xs) → AreSpelled f (cond b xs (Then x (undeclared g xs)))
      at true k = h.1
      at false k = (h.0, k)
