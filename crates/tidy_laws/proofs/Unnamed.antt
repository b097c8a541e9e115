-- No expression whose kinds agree names a slot behind those of its function.
use mathlib.Core.Path.{ap₂}
use Rattle.std.proofs.Common.{ℕ, true, false, not, eqb, nat_lt, List, [], ◌∷◌, map, length, Option, Some, None, ◌≡◌, refl, ap, ◌∙◌, arith}
use Rattle.std.proofs.lemmas.Bool.Decides.{nat_tests}
use Rattle.std.specs.Prelude.{IfSome}
use Rattle.std.proofs.lemmas.Bool.{and_from}
use Rattle.c_tree.specs.declared.tree.Slot.{Slot}
use Rattle.c_tree.specs.declared.tree.Home.{Home}
use Rattle.c_tree.specs.declared.tree.Home.TheVariants as H
use Rattle.c_tree.specs.ExpressionTrees.{ExpressionTree, PlaceTree, Arguments, Typed, Var, Cell, Array, Read, Unary, Cast, Binary, Conditional, Assign, Update, Count, Comma, Call, Argument}
use Rattle.c_tree.specs.TestTrees.{TestTree, Source, On, Off, AndOff, OrOn, SelectorTree, Selects, Pick}
use Rattle.c_tree.specs.Trees.{Tree, Forest, Nil, Then, Sections, NoSection, Section, Evaluate, Return, If, While, Do, For, Switch, Block, Local, Arm}
use Rattle.c_tree.specs.Everywhere.{Everywhere, EverywhereOf, EverywhereIn}
use Rattle.c_tree.specs.Constants.{kind_of}
use Rattle.jump_meaning.specs.Code.{Code}
use Rattle.jump_meaning.specs.Operations.{operand_kind}
use Rattle.plain_laws.specs.Kinded.{Kinded, k_number, k_character, k_enum, k_text, k_read, k_unary, k_cast, k_binary, k_conditional, k_assign, k_update, k_count, k_comma, k_call, KindedPlace, k_var, k_cell, KindedArguments, k_none, k_argument, k_array, unary_kind, binary_kind, place_kind, call_kind, later_slots, IsHome, KindedTest, KindedSelector, KindedItem, AreKinded}
use Rattle.tidy_laws.specs.Mentions.{home_lacks, lacks, place_lacks, arguments_lack, test_lacks, selector_lacks, option_lacks, values_lack, all_lack, item_lacks, list_lacks, sections_lack}
use Rattle.tidy_laws.specs.Renumbered.{renumbered_home, renumbered, renumbered_place, renumbered_arguments, renumbered_test, renumbered_selector, renumbered_option, renumbered_values, renumbered_item, renumbered_list, renumbered_sections}
use Rattle.tidy_laws.proofs.TidyChangesNumbers.{number_before}

abbrev number_of : Home → ℕ
number_of (H.Slot x) = x
number_of (H.Global m) = 0

module _ (p : Code) (ss : List Slot) where
  abbrev n : ℕ
  n = length ss

  home_free : (h : Home) → IsHome ss h → (home_lacks n h ≡ true) × (renumbered_home n h ≡ h)
  home_free (H.Global m) i = (refl, refl)
  home_free (H.Slot x) i =
      let e : eqb x n ≡ false = grind (arith, nat_tests) in
      let l : nat_lt n x ≡ false = grind (arith, nat_tests) in
      (ap not e, ap H.Slot (number_before n x l))

  mutual
    pub free : (e : ExpressionTree) → Kinded p ss e → (lacks n e ≡ true) × (renumbered n e ≡ e)
    free _ (k_number kind z i) = (refl, refl)
    free _ (k_character kind b i) = (refl, refl)
    free _ (k_enum kind m z i) = (refl, refl)
    free _ (k_text kind bs) = (refl, refl)
    free _ (k_read at i) = let h = place_free at i in (h.0, ap (Typed (Some (place_kind p ss at))) (ap Read h.1))
    free _ (k_unary op a i) = let h = free a i in (h.0, ap (Typed (Some (unary_kind op (operand_kind (kind_of a))))) (ap (Unary op) h.1))
    free _ (k_cast kind a i) = let h = free a i in (h.0, ap (Typed kind) (ap Cast h.1))
    free _ (k_binary op a b i j) = let h = free a i in let k = free b j in
        (and_from _ _ h.0 k.0, ap (Typed (Some (binary_kind op (operand_kind (kind_of a)) (operand_kind (kind_of b))))) (ap₂ (Binary op) h.1 k.1))
    free _ (k_conditional kind a b c i j l) = let h = free a i in let k = free b j in let m = free c l in (
      and_from _ _ h.0 (and_from _ _ k.0 m.0),
      ap (Typed kind)
          (ap (λ x. Conditional x (renumbered n b) (renumbered n c)) h.1 ∙ ap₂ (Conditional a) k.1 m.1),
    )
    free _ (k_assign at a i j) = let h = place_free at i in let k = free a j in
        (and_from _ _ h.0 k.0, ap (Typed (Some (place_kind p ss at))) (ap₂ Assign h.1 k.1))
    free _ (k_update op at a i j) = let h = place_free at i in let k = free a j in
        (and_from _ _ h.0 k.0, ap (Typed (Some (place_kind p ss at))) (ap₂ (Update op) h.1 k.1))
    free _ (k_count at up after i) = let h = place_free at i in (h.0, ap (Typed (Some (place_kind p ss at))) (ap (λ x. Count x up after) h.1))
    free _ (k_comma a b i j) = let h = free a i in let k = free b j in (and_from _ _ h.0 k.0, ap (Typed (kind_of b)) (ap₂ Comma h.1 k.1))
    free _ (k_call m xs i) = let h = arguments_free (p.functions m).slots xs i in (h.0, ap (Typed (call_kind p m)) (ap (Call m) h.1))

    place_free : (at : PlaceTree) → KindedPlace p ss at → (place_lacks n at ≡ true) × (renumbered_place n at ≡ at)
    place_free _ (k_var h i) = let k = home_free h i in (k.0, ap Var k.1)
    place_free _ (k_cell h a i j) = let k = home_free h i in let m = free a j in (and_from _ _ k.0 m.0, ap₂ Cell k.1 m.1)

    arguments_free : (ts : List Slot) (xs : Arguments) → KindedArguments p ss ts xs → (arguments_lack n xs ≡ true) × (renumbered_arguments n xs ≡ xs)
    arguments_free ts _ (k_none us) = (refl, refl)
    arguments_free ts _ (k_argument us x xs i j) = let h = free x i in let k = arguments_free (later_slots ts) xs j in
        (and_from _ _ h.0 k.0, ap₂ Argument h.1 k.1)
    arguments_free ts _ (k_array us kind h xs i z e j) = let m = home_free h i in let k = arguments_free (later_slots ts) xs j in
        (and_from _ _ m.0 k.0, ap₂ (λ x y. Argument (Typed kind (Array x)) y) m.1 k.1)

  option_free : (o : Option ExpressionTree) → IfSome o (Kinded p ss) → (option_lacks n o ≡ true) × (renumbered_option n o ≡ o)
  option_free None h = (refl, refl)
  option_free (Some e) h = let k = free e h in (k.0, ap Some k.1)

  test_free : (t : TestTree) → KindedTest p ss t → (test_lacks n t ≡ true) × (renumbered_test n t ≡ t)
  test_free (Source e) h = let k = free e h.0 in (k.0, ap Source k.1)
  test_free (On l) h = (refl, refl)
  test_free (Off l) h = (refl, refl)
  test_free (AndOff l t) h = let k = test_free t h in (k.0, ap (AndOff l) k.1)
  test_free (OrOn l t) h = let k = test_free t h in (k.0, ap (OrOn l) k.1)

  selector_free : (s : SelectorTree) → KindedSelector p ss s → (selector_lacks n s ≡ true) × (renumbered_selector n s ≡ s)
  selector_free (Selects e) h = let k = free e h in (k.0, ap Selects k.1)
  selector_free (Pick l m s) h = let k = selector_free s h in (k.0, ap (Pick l m) k.1)

  list_free : (es : List ExpressionTree) → AreKinded p ss es → (all_lack n es ≡ true) × (map (renumbered n) es ≡ es)
  list_free [] h = (refl, refl)
  list_free (e ∷ es) h = let k = free e h.0 in let m = list_free es h.1 in (and_from _ _ k.0 m.0, ap₂ ◌∷◌ k.1 m.1)

  values_free : (o : Option (List ExpressionTree)) → IfSome o (AreKinded p ss) → (values_lack n o ≡ true) × (renumbered_values n o ≡ o)
  values_free None h = (refl, refl)
  values_free (Some es) h = let k = list_free es h in (k.0, ap Some k.1)

  abbrev K : Tree → Type 0
  K = KindedItem p ss

  mutual
    pub items_free : (a : Forest) → Everywhere K a → (list_lacks n a ≡ true) × (renumbered_list n a ≡ a)
    items_free Nil h = (refl, refl)
    items_free (Then x xs) h = let k = item_free x h.0 in let m = items_free xs h.1 in (and_from _ _ k.0 m.0, ap₂ Then k.1 m.1)

    item_free : (x : Tree) → EverywhereOf K x → (item_lacks n x ≡ true) × (renumbered_item n x ≡ x)
    item_free (Evaluate e) h = let k = free e h in (k.0, ap Evaluate k.1)
    item_free (Return e) h = let k = option_free e h in (k.0, ap Return k.1)
    item_free (If t a b) h = let k = test_free t h.0 in let m = items_free a h.1 in let i = items_free b h.2 in
        (and_from _ _ k.0 (and_from _ _ m.0 i.0), ap (λ x. If x (renumbered_list n a) (renumbered_list n b)) k.1 ∙ ap₂ (If t) m.1 i.1)
    item_free (While t a) h = let k = test_free t h.0 in let m = items_free a h.1 in (and_from _ _ k.0 m.0, ap₂ While k.1 m.1)
    item_free (Do a t) h = let k = test_free t h.0 in let m = items_free a h.1 in (and_from _ _ m.0 k.0, ap₂ Do m.1 k.1)
    item_free (For f t u a) h = let i = items_free f h.1 in let j = option_free t h.0.0 in let k = option_free u h.0.1 in let m = items_free a h.2 in (
      and_from _ _ i.0 (and_from _ _ j.0 (and_from _ _ k.0 m.0)),
      ap₂ (λ x y. For x y (renumbered_option n u) (renumbered_list n a)) i.1 j.1 ∙
          ap₂ (λ x y. For f t x y) k.1 m.1,
    )
    item_free (Switch s c) h = let k = selector_free s h.0 in let m = sections_free c h.1 in (and_from _ _ k.0 m.0, ap₂ Switch k.1 m.1)
    item_free (Block a) h = let m = items_free a h.1 in (m.0, ap Block m.1)
    item_free (Local x es) h = let k = values_free es h.1 in let i = home_free (H.Slot x) h.0 in (and_from _ _ i.0 k.0, ap₂ Local (ap number_of i.1) k.1)
    item_free (Arm l None) h = (refl, refl)
    item_free (Arm l (Some e)) h = let k = free e h.0 in (k.0, ap (λ x. Arm l (Some x)) k.1)
    item_free _ h = (refl, refl)

    sections_free : (c : Sections) → EverywhereIn K c → (sections_lack n c ≡ true) × (renumbered_sections n c ≡ c)
    sections_free NoSection h = (refl, refl)
    sections_free (Section cases default a ends c) h = let k = items_free a h.0 in let m = sections_free c h.1 in
        (and_from _ _ k.0 m.0, ap₂ (λ x y. Section cases default x ends y) k.1 m.1)
