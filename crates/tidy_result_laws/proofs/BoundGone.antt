-- A body whose names are bound stays so without a slot that it doesn't name, and without its declaration.
use Rattle.std.proofs.Common.{◌≡◌, ℕ, Bool, true, false, not, ◌&&◌, cond, eqb, eqb-true, eq-eqb, nat_lt, List, Option, Some, None, bytes_eq, refl, sym, ap, ◌∙◌, subst, true≢false, arith}
use Rattle.std.proofs.lemmas.Bool.Decides.{nat_tests}
use Rattle.std.proofs.lemmas.Bool.{and_parts, not-true}
use Rattle.c_tree.specs.declared.tree.Slot.{Slot}
use Rattle.c_tree.specs.declared.tree.Home.{Home}
use Rattle.c_tree.specs.declared.tree.Home.TheVariants as H
use Rattle.c_tree.specs.ExpressionTrees.{ExpressionTree, PlaceTree, Typed, Var, Cell, Number, Character, EnumName, Text, Array, Read, Unary, Cast, Binary, Conditional, Assign, Update, Count, Comma, Call}
use Rattle.c_tree.specs.TextExpressions.{slot_name, home_name}
use Rattle.c_tree.specs.Trees.{Tree, Forest, Nil, Then, Sections, NoSection, Section, Evaluate, Return, If, While, Do, For, Switch, Block, Local, Arm, Arrival}
use Rattle.c_tree.specs.Everywhere.{Everywhere, EverywhereOf, EverywhereIn}
use Rattle.c_resolved_defs.specs.Names.{home_of}
use Rattle.c_resolved_defs.specs.Scopes.{Meaning, AConstant, AVariable, AFunction, Scope, look_up, bind, IsNew, NameIsBound, IsBound, behind, behind_all, inside, ItemIsBound, AreBound, SectionsAreBound}
use Rattle.c_resolved_defs.specs.Within.{CaseExpressions}
use Rattle.struct_meaning.specs.Structured.{IsStructured}
use Rattle.tidy_laws.specs.Mentions.{home_lacks, lacks, place_lacks, test_lacks, selector_lacks, option_lacks, values_lack, list_lacks, item_lacks, sections_lack}
use Rattle.tidy_laws.specs.Renumbered.{new_number, without, renumbered_home, renumbered, renumbered_place, renumbered_values, renumbered_list, renumbered_item, renumbered_sections}
use Rattle.tidy_laws.specs.Changes.{is_zero_value, is_declaration, undeclared}
use Rattle.tidy_laws.proofs.TidyChangesNumbers.{number_before}
use Rattle.tidy_result_laws.proofs.SlotGone.{slot_same, home_same, IsFreeOf, within_without}
use Rattle.tidy_result_laws.proofs.ItemsGone.{HasFreeCases, test_without, option_without, values_without, selector_without, each_case}
use Rattle.tidy_result_laws.proofs.FileScopes.{AreBelow}
use Rattle.tidy_result_laws.proofs.TrimBound.{look_bound, found_first, new_first, first_new, first_bound, unbound_before}

module _ (g : ℕ) where
  -- ---- scopes without the name of the slot

  abbrev pub renumbered_meaning : Meaning → Meaning
  renumbered_meaning (AVariable h) = AVariable (renumbered_home g h)
  renumbered_meaning b = b

  -- it is not the slot
  abbrev pub is_other : Meaning → Bool
  is_other (AVariable h) = home_lacks g h
  is_other b = true

  pub record AreWithout (ss ts : List Scope) : Type 0 where
    pub finds : (m : List ℕ) (b : Meaning) → is_other b ≡ true → look_up ss m ≡ Some b → look_up ts m ≡ Some (renumbered_meaning b)
    pub news : (m : List ℕ) → IsNew m ss → IsNew m ts

  pub without_inside : (ss ts : List Scope) → AreWithout ss ts → AreWithout (inside ss) (inside ts)
  without_inside ss ts h = record { finds = h.finds; news = λ m i. refl }

  -- another variable is declared in both
  pub without_bind : (name : List ℕ) (k : ℕ) (ss ts : List Scope) → AreWithout ss ts →
      AreWithout (bind name (AVariable (H.Slot k)) ss) (bind name (AVariable (H.Slot (new_number g k))) ts)
  without_bind name k ss ts h = record {
    finds = λ m b o e. look_bound m name (AVariable (H.Slot (new_number g k))) ts ∙
        at m (bytes_eq m name) b o (sym (look_bound m name (AVariable (H.Slot k)) ss) ∙ e);
    news = λ m i. first_new m (bind name (AVariable (H.Slot (new_number g k))) ts) (first_bound m name (AVariable (H.Slot (new_number g k))) ts
        ∙ (let j = unbound_before (bytes_eq m name) (AVariable (H.Slot k)) (found_first m ss)
        (sym (first_bound m name (AVariable (H.Slot k)) ss) ∙ new_first m (bind name (AVariable (H.Slot k)) ss) i) in
        ap (λ t. cond t (Some (AVariable (H.Slot (new_number g k)))) (found_first m ts)) j.0 ∙ new_first m ts (h.news m (first_new m ss j.1))));
  }
    where
      meaning_or : Meaning → Option Meaning → Meaning
      meaning_or d (Some b) = b
      meaning_or d None = d

      at : (m : List ℕ) (t : Bool) (b : Meaning) → is_other b ≡ true → cond t (Some (AVariable (H.Slot k))) (look_up ss m) ≡ Some b →
          cond t (Some (AVariable (H.Slot (new_number g k)))) (look_up ts m) ≡ Some (renumbered_meaning b)
      at m true b o e = ap (λ c. Some (renumbered_meaning c)) (ap (meaning_or b) e)
      at m false b o e = h.finds m b o e

  -- the slot is declared in the first alone
  pub without_its : (name : List ℕ) (ss ts : List Scope) → AreWithout ss ts → AreWithout (bind name (AVariable (H.Slot g)) ss) ts
  without_its name ss ts h = record {
    finds = λ m b o e. at m (bytes_eq m name) b o (sym (look_bound m name (AVariable (H.Slot g)) ss) ∙ e);
    news = λ m i. h.news m (first_new m ss (unbound_before (bytes_eq m name) (AVariable (H.Slot g)) (found_first m ss)
        (sym (first_bound m name (AVariable (H.Slot g)) ss) ∙ new_first m (bind name (AVariable (H.Slot g)) ss) i)).1);
  }
    where
      meaning_or : Meaning → Option Meaning → Meaning
      meaning_or d (Some b) = b
      meaning_or d None = d

      at : (m : List ℕ) (t : Bool) (b : Meaning) → is_other b ≡ true → cond t (Some (AVariable (H.Slot g))) (look_up ss m) ≡ Some b →
          look_up ts m ≡ Some (renumbered_meaning b)
      at m true b o e =
          let q : AVariable (H.Slot g) ≡ b = ap (meaning_or b) e in
          let r : not (eqb g g) ≡ true = ap is_other q ∙ o in absurd (true≢false (sym (eq-eqb g g refl) ∙ not-true (eqb g g) r))
      at m false b o e = h.finds m b o e

  module _ (slots : List Slot) where
    abbrev fewer : List Slot
    fewer = without g slots

    -- ---- expressions

    module _ (ss ts : List Scope) (h : AreWithout ss ts) where
      home_bound : (a : Home) → home_lacks g a ≡ true → look_up ss (home_name slots a) ≡ Some (AVariable a) →
          look_up ts (home_name fewer (renumbered_home g a)) ≡ Some (AVariable (renumbered_home g a))
      home_bound a l e = ap (look_up ts) (home_same g slots a l) ∙ h.finds (home_name slots a) (AVariable a) l e

      home_place : (at : PlaceTree) → place_lacks g at ≡ true → look_up ss (home_name slots (home_of at)) ≡ Some (AVariable (home_of at))
          → look_up ts (home_name fewer (home_of (renumbered_place g at))) ≡ Some (AVariable (home_of (renumbered_place g at)))
      home_place (Var a) l e = home_bound a l e
      home_place (Cell a x) l e = home_bound a (and_parts (home_lacks g a) (lacks g x) l).0 e

      name_bound : (e : ExpressionTree) → lacks g e ≡ true → NameIsBound slots ss e → NameIsBound fewer ts (renumbered g e)
      name_bound (Typed kind (EnumName m z)) l i = h.finds m (AConstant z) refl i
      name_bound (Typed kind (Array a)) l i = home_bound a l i
      name_bound (Typed kind (Read at)) l i = home_place at l i
      name_bound (Typed kind (Assign at a)) l i = home_place at (and_parts (place_lacks g at) (lacks g a) l).0 i
      name_bound (Typed kind (Update op at a)) l i = home_place at (and_parts (place_lacks g at) (lacks g a) l).0 i
      name_bound (Typed kind (Count at up after)) l i = home_place at l i
      name_bound (Typed kind (Call m xs)) l i = h.finds m AFunction refl i
      name_bound (Typed kind (Number z)) l i = tt
      name_bound (Typed kind (Character b)) l i = tt
      name_bound (Typed kind (Text bs)) l i = tt
      name_bound (Typed kind (Unary op a)) l i = tt
      name_bound (Typed kind (Cast a)) l i = tt
      name_bound (Typed kind (Binary op a b)) l i = tt
      name_bound (Typed kind (Conditional a b c)) l i = tt
      name_bound (Typed kind (Comma a b)) l i = tt

      pub bound_without : (e : ExpressionTree) → lacks g e ≡ true → IsBound slots ss e → IsBound fewer ts (renumbered g e)
      bound_without e l i = within_without g (NameIsBound slots ss) (NameIsBound fewer ts) name_bound e l i

    -- ---- items

    other_slot : (x : ℕ) (es : Option (List ExpressionTree)) → (not (eqb x g) && values_lack g es) ≡ true → (eqb x g ≡ false) × (values_lack g es ≡ true)
    other_slot x es l = let i = and_parts (not (eqb x g)) (values_lack g es) l in (not-true (eqb x g) i.0, i.1)

    -- behind a declaration of another variable
    local_behind : (x : ℕ) (es ds : Option (List ExpressionTree)) (ss ts : List Scope) → eqb x g ≡ false → AreWithout ss ts →
        AreWithout (behind slots ss (Local x es)) (behind fewer ts (Local (new_number g x) ds))
    local_behind x es ds ss ts o h = subst (λ m. AreWithout (bind (slot_name slots x) (AVariable (H.Slot x)) ss)
        (bind m (AVariable (H.Slot (new_number g x))) ts)) (sym (slot_same g slots x o)) (without_bind (slot_name slots x) x ss ts h)

    item_behind : (x : Tree) (ss ts : List Scope) → item_lacks g x ≡ true → AreWithout ss ts →
        AreWithout (behind slots ss x) (behind fewer ts (renumbered_item g x))
    item_behind (Local x es) ss ts l h = local_behind x es (renumbered_values g es) ss ts (other_slot x es l).0 h
    item_behind _ ss ts l h = h

    all_behind : (a : Forest) (ss ts : List Scope) → list_lacks g a ≡ true → AreWithout ss ts →
        AreWithout (behind_all slots ss a) (behind_all fewer ts (renumbered_list g a))
    all_behind Nil ss ts l h = h
    all_behind (Then x xs) ss ts l h =
        let i = and_parts (item_lacks g x) (list_lacks g xs) l in all_behind xs (behind slots ss x) (behind fewer ts (renumbered_item g x)) i.1
        (item_behind x ss ts i.0 h)

    abbrev IsFit : Tree → Type 0
    IsFit x = IsStructured x × HasFreeCases g x

    mutual
      pub list_bound : (a : Forest) (ss ts : List Scope) → list_lacks g a ≡ true → Everywhere IsFit a → AreWithout ss ts → AreBound slots ss a →
          AreBound fewer ts (renumbered_list g a)
      list_bound Nil ss ts l p h i = tt
      list_bound (Then x xs) ss ts l p h i =
          let j = and_parts (item_lacks g x) (list_lacks g xs) l in
          (item_bound x ss ts j.0 p.0 h i.0, list_bound xs (behind slots ss x) (behind fewer ts (renumbered_item g x)) j.1 p.1 (item_behind x ss ts j.0 h) i.1)

      item_bound : (x : Tree) (ss ts : List Scope) → item_lacks g x ≡ true → EverywhereOf IsFit x → AreWithout ss ts → ItemIsBound slots ss x →
          ItemIsBound fewer ts (renumbered_item g x)
      item_bound (If t a b) ss ts l p h i =
          let j = and_parts (test_lacks g t) (list_lacks g a && list_lacks g b) l in
          let m = and_parts (list_lacks g a) (list_lacks g b) j.1 in
          let n = without_inside ss ts h in (
            test_without g (IsBound slots ss) (IsBound fewer ts) (bound_without ss ts h) t j.0 i.0,
            list_bound a (inside ss) (inside ts) m.0 p.1 n i.1,
            list_bound b (inside ss) (inside ts) m.1 p.2 n i.2,
          )
      item_bound (While t a) ss ts l p h i =
          let j = and_parts (test_lacks g t) (list_lacks g a) l in (
            test_without g (IsBound slots ss) (IsBound fewer ts) (bound_without ss ts h) t j.0 i.0,
            list_bound a (inside ss) (inside ts) j.1 p.1 (without_inside ss ts h) i.1,
          )
      item_bound (Do a t) ss ts l p h i =
          let j = and_parts (list_lacks g a) (test_lacks g t) l in (
            test_without g (IsBound slots ss) (IsBound fewer ts) (bound_without ss ts h) t j.1 i.0,
            list_bound a (inside ss) (inside ts) j.0 p.1 (without_inside ss ts h) i.1,
          )
      item_bound (For f t u a) ss ts l p h i =
          let j = and_parts (list_lacks g f) (option_lacks g t && (option_lacks g u && list_lacks g a)) l in
          let m = and_parts (option_lacks g t) (option_lacks g u && list_lacks g a) j.1 in
          let n = and_parts (option_lacks g u) (list_lacks g a) m.1 in
          let k = without_inside ss ts h in
          let r = all_behind f (inside ss) (inside ts) j.0 k in
          let s = behind_all slots (inside ss) f in
          let z = behind_all fewer (inside ts) (renumbered_list g f) in (
            list_bound f (inside ss) (inside ts) j.0 p.1 k i.0,
            option_without g (IsBound slots s) (IsBound fewer z) (bound_without s z r) t m.0 i.1,
            option_without g (IsBound slots s) (IsBound fewer z) (bound_without s z r) u n.0 i.2,
            list_bound a (inside s) (inside z) n.1 p.2 (without_inside s z r) i.3,
          )
      item_bound (Switch s c) ss ts l p h i =
          let j = and_parts (selector_lacks g s) (sections_lack g c) l in (
            selector_without g (IsBound slots ss) (IsBound fewer ts) (bound_without ss ts h) s j.0 i.0,
            sections_bound c (inside ss) (inside ts) j.1 p.0.1 p.1 (without_inside ss ts h) i.1,
          )
      item_bound (Block a) ss ts l p h i = list_bound a (inside ss) (inside ts) l p.1 (without_inside ss ts h) i
      item_bound (Local x es) ss ts l p h i =
          let o = other_slot x es l in (
            subst (λ m. IsNew m ts) (sym (slot_same g slots x o.0)) (h.news (slot_name slots x) i.0),
            values_without g (IsBound slots (behind slots ss (Local x es))) (IsBound fewer (behind fewer ts (renumbered_item g (Local x es))))
                (bound_without (behind slots ss (Local x es)) (behind fewer ts (renumbered_item g (Local x es))) (item_behind (Local x es) ss ts l h))
                es o.1 i.1,
          )
      item_bound (Evaluate e) ss ts l p h i = bound_without ss ts h e l i
      item_bound (Return e) ss ts l p h i = option_without g (IsBound slots ss) (IsBound fewer ts) (bound_without ss ts h) e l i
      item_bound (Arm m e) ss ts l p h i = option_without g (IsBound slots ss) (IsBound fewer ts) (bound_without ss ts h) e l i
      item_bound (Arrival e) ss ts l p h i = absurd p.0
      item_bound _ ss ts l p h i = tt

      sections_bound : (c : Sections) (ss ts : List Scope) → sections_lack g c ≡ true → CaseExpressions (IsFreeOf g) c → EverywhereIn IsFit c →
          AreWithout ss ts → SectionsAreBound slots ss c → SectionsAreBound fewer ts (renumbered_sections g c)
      sections_bound NoSection ss ts l q p h i = tt
      sections_bound (Section cases default a ends c) ss ts l q p h i =
          let j = and_parts (list_lacks g a) (sections_lack g c) l in (
            each_case g (IsBound slots ss) (IsBound fewer ts) (bound_without ss ts h) cases q.0 i.0,
            list_bound a ss ts j.0 p.0 h i.1,
            sections_bound c (behind_all slots ss a) (behind_all fewer ts (renumbered_list g a)) j.1 q.1 p.1 (all_behind a ss ts j.0 h) i.2,
          )

    -- ---- a body without the declaration

    its_behind : (x : Tree) (ss ts : List Scope) → is_declaration g x ≡ true → AreWithout ss ts → AreWithout (behind slots ss x) ts
    its_behind (Local x es) ss ts e h = subst (λ y. AreWithout (bind (slot_name slots y) (AVariable (H.Slot y)) ss) ts)
        (sym (eqb-true x g (and_parts (eqb x g) (is_zero_value es) e).0)) (without_its (slot_name slots g) ss ts h)
    its_behind x ss ts e h = absurd (true≢false (sym e))

    pub body_bound : (a : Forest) (ss ts : List Scope) → list_lacks g (undeclared g a) ≡ true → Everywhere IsFit a → AreWithout ss ts →
        AreBound slots ss a → AreBound fewer ts (renumbered_list g (undeclared g a))
    body_bound Nil ss ts l p h i = tt
    body_bound (Then x xs) ss ts l p h i = at (is_declaration g x) refl l
        (λ l h. body_bound xs (behind slots ss x) (behind fewer ts (renumbered_item g x)) l p.1 h i.1)
      where
        at : (b : Bool) → is_declaration g x ≡ b → list_lacks g (cond b xs (Then x (undeclared g xs))) ≡ true
            → (list_lacks g (undeclared g xs) ≡ true → AreWithout (behind slots ss x) (behind fewer ts (renumbered_item g x)) →
            AreBound fewer (behind fewer ts (renumbered_item g x)) (renumbered_list g (undeclared g xs)))
            → AreBound fewer ts (renumbered_list g (cond b xs (Then x (undeclared g xs))))
        at true q l k = list_bound xs (behind slots ss x) ts l p.1 (its_behind x ss ts q h) i.1
        at false q l k = let j = and_parts (item_lacks g x) (list_lacks g (undeclared g xs)) l in
            (item_bound x ss ts j.0 p.0 h i.0, k j.1 (item_behind x ss ts j.0 h))

  -- ---- parameters, which are all before the slot

  pub below_without : (ss : List Scope) → AreBelow g ss → AreWithout ss ss
  below_without ss h = record { finds = at; news = λ m i. i }
    where
      at : (m : List ℕ) (b : Meaning) → is_other b ≡ true → look_up ss m ≡ Some b → look_up ss m ≡ Some (renumbered_meaning b)
      at m (AConstant z) o e = e
      at m AFunction o e = e
      at m (AVariable (H.Global n)) o e = e
      at m (AVariable (H.Slot k)) o e =
          let l = h m k e in
          let q : nat_lt g k ≡ false = grind (arith, nat_tests) in e ∙ ap (λ y. Some (AVariable (H.Slot y))) (sym (number_before g k q))
