-- Facts of the items of a body stay without a slot that it doesn't name, over the slots without it.
use Rattle.std.proofs.Common.{ℕ, suc, ◌≤◌, Bool, true, false, not, ◌&&◌, cond, List, [], ◌∷◌, ◌++◌, map, length, Option, Some, None, option_map, slice_get, eqb, ◌≡◌, refl, sym, ap, ◌∙◌, subst}
use Rattle.std.specs.Prelude.{IsSomeAnd, IfSome}
use Rattle.std.proofs.lemmas.Bool.{and_parts, not-true}
use Rattle.c_types.specs.declared.kinds.IntKind.{IntKind}
use Rattle.c_tree.specs.declared.tree.Slot.{Slot}
use Rattle.c_tree.specs.Cases.{selector_source, selector_kind, AllEntered}
use Rattle.c_tree.specs.ExpressionTrees.{ExpressionTree}
use Rattle.c_tree.specs.TestTrees.{TestTree, Source, On, Off, AndOff, OrOn, SelectorTree, Selects, Pick}
use Rattle.c_tree.specs.Trees.{Tree, Forest, Nil, Then, Sections, NoSection, Section, Evaluate, Return, If, While, Do, For, Switch, Block, Local, Break, Continue, Goto, Mark, Arm, Leap, Land, Arrival, Note}
use Rattle.c_tree.specs.Everywhere.{Everywhere, EverywhereOf, EverywhereIn}
use Rattle.c_tree.specs.InRange.{IsUnguarded}
use Rattle.c_resolved_defs.specs.Files.{AreInitialisers, SlotIsInitialised}
use Rattle.c_resolved_defs.specs.Form.{AreAlike, IsFirstPart}
use Rattle.c_resolved_defs.specs.Kinds.{IsOperand, HasValue, KindsAgree, UsesValues, ItemAgrees, ReturnFits, WritesNoConst, KeepsConsts}
use Rattle.c_resolved_defs.specs.Names.{Names}
use Rattle.c_resolved_defs.specs.Resolved.{IsInitialised}
use Rattle.c_resolved_defs.specs.Switches.{arrivals, arrivals_of, section_labels, switch_labels, cases_among, IsConstantValue, AreLabels, HasCases}
use Rattle.c_resolved_defs.specs.Within.{Each, Within, TestExpression, CaseExpressions, ItemExpressions}
use Rattle.c_resolved_laws.proofs.Ranged.{the_some}
use Rattle.struct_meaning.specs.Structured.{IsStructured}
use Rattle.tidy_laws.specs.Mentions.{lacks, test_lacks, selector_lacks, all_lack, option_lacks, values_lack, list_lacks, item_lacks, sections_lack}
use Rattle.tidy_laws.specs.Renumbered.{without, renumbered, renumbered_test, renumbered_selector, renumbered_option, renumbered_values, renumbered_list, renumbered_item, renumbered_sections}
use Rattle.tidy_laws.specs.Changes.{is_declaration, undeclared}
use Rattle.tidy_result_laws.proofs.SlotGone.{same_get, kind_stays, IsFreeOf, constant_free}
use Rattle.tidy_result_laws.proofs.KindsGone.{operand_stays, value_stays, fewer_names, kinds_without, consts_without}
use Rattle.tidy_result_laws.proofs.TrimLists.{HasFirst}
use Rattle.tidy_result_laws.proofs.KeptFacts.{HasEntries}

-- ---- a list without its declaration

module _ (g : ℕ) (P : Tree → Type 0) where
  pub everywhere_undeclared : (a : Forest) → Everywhere P a → Everywhere P (undeclared g a)
  everywhere_undeclared Nil h = tt
  everywhere_undeclared (Then x xs) h = at (is_declaration g x) (everywhere_undeclared xs h.1)
    where
      at : (b : Bool) → Everywhere P (undeclared g xs) → Everywhere P (cond b xs (Then x (undeclared g xs)))
      at true k = h.1
      at false k = (h.0, k)

-- ---- facts of each item

module _ (g : ℕ) (P Q : Tree → Type 0) (f : (x : Tree) → item_lacks g x ≡ true → P x → Q (renumbered_item g x)) where
  mutual
    pub everywhere_without : (a : Forest) → list_lacks g a ≡ true → Everywhere P a → Everywhere Q (renumbered_list g a)
    everywhere_without Nil l h = tt
    everywhere_without (Then x xs) l h = let i = and_parts (item_lacks g x) (list_lacks g xs) l in (item_without x i.0 h.0, everywhere_without xs i.1 h.1)

    item_without : (x : Tree) → item_lacks g x ≡ true → EverywhereOf P x → EverywhereOf Q (renumbered_item g x)
    item_without (If t a b) l h =
        let i = and_parts (test_lacks g t) (list_lacks g a && list_lacks g b) l in
        let j = and_parts (list_lacks g a) (list_lacks g b) i.1 in (f (If t a b) l h.0, everywhere_without a j.0 h.1, everywhere_without b j.1 h.2)
    item_without (While t a) l h = (f (While t a) l h.0, everywhere_without a (and_parts (test_lacks g t) (list_lacks g a) l).1 h.1)
    item_without (Do a t) l h = (f (Do a t) l h.0, everywhere_without a (and_parts (list_lacks g a) (test_lacks g t) l).0 h.1)
    item_without (For first t u a) l h =
        let i = and_parts (list_lacks g first) (option_lacks g t && (option_lacks g u && list_lacks g a)) l in
        let j = and_parts (option_lacks g t) (option_lacks g u && list_lacks g a) i.1 in
        let k = and_parts (option_lacks g u) (list_lacks g a) j.1 in (f (For first t u a) l h.0, everywhere_without first i.0 h.1, everywhere_without a k.1 h.2)
    item_without (Switch s c) l h = (f (Switch s c) l h.0, sections_without c (and_parts (selector_lacks g s) (sections_lack g c) l).1 h.1)
    item_without (Block a) l h = (f (Block a) l h.0, everywhere_without a l h.1)
    item_without (Evaluate e) l h = f (Evaluate e) l h
    item_without (Return e) l h = f (Return e) l h
    item_without (Local x es) l h = f (Local x es) l h
    item_without Break l h = f Break l h
    item_without Continue l h = f Continue l h
    item_without (Goto m) l h = f (Goto m) l h
    item_without (Mark m) l h = f (Mark m) l h
    item_without (Arm m e) l h = f (Arm m e) l h
    item_without (Leap m) l h = f (Leap m) l h
    item_without (Land m) l h = f (Land m) l h
    item_without (Arrival e) l h = f (Arrival e) l h
    item_without (Note bs) l h = f (Note bs) l h

    sections_without : (c : Sections) → sections_lack g c ≡ true → EverywhereIn P c → EverywhereIn Q (renumbered_sections g c)
    sections_without NoSection l h = tt
    sections_without (Section cases default a ends c) l h = let i = and_parts (list_lacks g a) (sections_lack g c) l in
        (everywhere_without a i.0 h.0, sections_without c i.1 h.1)

-- ---- cases name no slot

abbrev pub HasFreeCases : ℕ → Tree → Type 0
HasFreeCases g (Switch s c) = CaseExpressions (IsFreeOf g) c
HasFreeCases g _ = Unit {0}

module _ (P : ExpressionTree → Type 0) where
  of_cases : (cases : List ExpressionTree) (default : Bool) (rest : List (Option ExpressionTree)) →
      Each P (cases_among (section_labels cases default ++ rest)) → Each P cases × Each P (cases_among rest)
  of_cases [] true rest h = (tt, h)
  of_cases [] false rest h = (tt, h)
  of_cases (e ∷ es) default rest h = let i = of_cases es default rest h.1 in ((h.0, i.0), i.1)

  of_rest : (ls rest : List (Option ExpressionTree)) → Each P (cases_among (ls ++ rest)) → Each P (cases_among rest)
  of_rest [] rest h = h
  of_rest (Some e ∷ ls) rest h = of_rest ls rest h.1
  of_rest (None ∷ ls) rest h = of_rest ls rest h

each_free : (g : ℕ) (es : List ExpressionTree) → Each IsConstantValue es → Each (IsFreeOf g) es
each_free g [] h = tt
each_free g (e ∷ es) h = (constant_free g e h.0.constant, each_free g es h.1)

free_sections : (g : ℕ) (c : Sections) → Each IsConstantValue (cases_among (switch_labels c)) → CaseExpressions (IsFreeOf g) c
free_sections g NoSection h = tt
free_sections g (Section cases default a ends c) h =
    let i = of_cases IsConstantValue cases default (arrivals a ++ switch_labels c) h in
    (each_free g cases i.0, free_sections g c (of_rest IsConstantValue (arrivals a) (switch_labels c) i.1))

pub free_cases : (g : ℕ) (x : Tree) → HasCases x → HasFreeCases g x
free_cases g (Switch s c) h = free_sections g c (the_some (λ k. AreLabels k (switch_labels c)) (selector_kind s) h).2.constant
free_cases g _ h = tt

-- ---- the expressions of an item

pub source_stays : (g : ℕ) (s : SelectorTree) → selector_source (renumbered_selector g s) ≡ renumbered g (selector_source s)
source_stays g (Selects e) = refl
source_stays g (Pick l n s) = source_stays g s

source_lacks : (g : ℕ) (s : SelectorTree) → selector_lacks g s ≡ true → lacks g (selector_source s) ≡ true
source_lacks g (Selects e) l = l
source_lacks g (Pick m n s) l = source_lacks g s l

module _ (g : ℕ) (P Q : ExpressionTree → Type 0) (f : (e : ExpressionTree) → lacks g e ≡ true → P e → Q (renumbered g e)) where
  pub test_without : (t : TestTree) → test_lacks g t ≡ true → TestExpression P t → TestExpression Q (renumbered_test g t)
  test_without (Source e) l h = f e l h
  test_without (On m) l h = tt
  test_without (Off m) l h = tt
  test_without (AndOff m t) l h = test_without t l h
  test_without (OrOn m t) l h = test_without t l h

  pub option_without : (o : Option ExpressionTree) → option_lacks g o ≡ true → IfSome o P → IfSome (renumbered_option g o) Q
  option_without None l h = tt
  option_without (Some e) l h = f e l h

  pub list_without : (es : List ExpressionTree) → all_lack g es ≡ true → Each P es → Each Q (map (renumbered g) es)
  list_without [] l h = tt
  list_without (e ∷ es) l h = let i = and_parts (lacks g e) (all_lack g es) l in (f e i.0 h.0, list_without es i.1 h.1)

  pub values_without : (o : Option (List ExpressionTree)) → values_lack g o ≡ true → IfSome o (Each P) → IfSome (renumbered_values g o) (Each Q)
  values_without None l h = tt
  values_without (Some es) l h = list_without es l h

  pub selector_without : (s : SelectorTree) → selector_lacks g s ≡ true → P (selector_source s) → Q (selector_source (renumbered_selector g s))
  selector_without s l h = subst Q (sym (source_stays g s)) (f (selector_source s) (source_lacks g s l) h)

  pub each_case : (es : List ExpressionTree) → Each (IsFreeOf g) es → Each P es → Each Q es
  each_case [] k h = tt
  each_case (e ∷ es) k h = (subst Q k.0.1 (f e k.0.0 h.0), each_case es k.1 h.1)

  pub cases_without : (c : Sections) → CaseExpressions (IsFreeOf g) c → CaseExpressions P c → CaseExpressions Q (renumbered_sections g c)
  cases_without NoSection k h = tt
  cases_without (Section cases default a ends c) k h = (each_case cases k.0 h.0, cases_without c k.1 h.1)

  pub expressions_without : (x : Tree) → IsStructured x → item_lacks g x ≡ true → HasFreeCases g x → ItemExpressions P x →
      ItemExpressions Q (renumbered_item g x)
  expressions_without (Evaluate e) j l k h = f e l h
  expressions_without (Return e) j l k h = option_without e l h
  expressions_without (If t a b) j l k h = test_without t (and_parts (test_lacks g t) (list_lacks g a && list_lacks g b) l).0 h
  expressions_without (While t a) j l k h = test_without t (and_parts (test_lacks g t) (list_lacks g a) l).0 h
  expressions_without (Do a t) j l k h = test_without t (and_parts (list_lacks g a) (test_lacks g t) l).1 h
  expressions_without (For first t u a) j l k h =
      let i = and_parts (list_lacks g first) (option_lacks g t && (option_lacks g u && list_lacks g a)) l in
      let m = and_parts (option_lacks g t) (option_lacks g u && list_lacks g a) i.1 in
      let n = and_parts (option_lacks g u) (list_lacks g a) m.1 in (option_without t m.0 h.0, option_without u n.0 h.1)
  expressions_without (Switch s c) j l k h = (selector_without s (and_parts (selector_lacks g s) (sections_lack g c) l).0 h.0, cases_without c k h.1)
  expressions_without (Local x es) j l k h = values_without es (and_parts _ (values_lack g es) l).1 h
  expressions_without (Arm m e) j l k h = option_without e l h
  expressions_without (Arrival e) j l k h = absurd j
  expressions_without _ j l k h = tt

-- ---- kinds

module _ (g : ℕ) where
  uses_without : (x : Tree) → item_lacks g x ≡ true → UsesValues x → UsesValues (renumbered_item g x)
  uses_without (Evaluate e) l h = operand_stays g e h
  uses_without (Return e) l h = option_without g HasValue HasValue (λ e l. value_stays g e) e l h
  uses_without (If t a b) l h = test_without g HasValue HasValue (λ e l. value_stays g e) t (and_parts (test_lacks g t) (list_lacks g a && list_lacks g b) l).0 h
  uses_without (While t a) l h = test_without g HasValue HasValue (λ e l. value_stays g e) t (and_parts (test_lacks g t) (list_lacks g a) l).0 h
  uses_without (Do a t) l h = test_without g HasValue HasValue (λ e l. value_stays g e) t (and_parts (list_lacks g a) (test_lacks g t) l).1 h
  uses_without (For first t u a) l h =
      let i = and_parts (list_lacks g first) (option_lacks g t && (option_lacks g u && list_lacks g a)) l in
      let m = and_parts (option_lacks g t) (option_lacks g u && list_lacks g a) i.1 in
      let n = and_parts (option_lacks g u) (list_lacks g a) m.1 in
      (option_without g HasValue HasValue (λ e l. value_stays g e) t m.0 h.0, option_without g IsOperand IsOperand (λ e l. operand_stays g e) u n.0 h.1)
  uses_without (Switch s c) l h = selector_without g HasValue HasValue (λ e l. value_stays g e) s (and_parts (selector_lacks g s) (sections_lack g c) l).0 h
  uses_without (Local x es) l h = values_without g HasValue HasValue (λ e l. value_stays g e) es (and_parts _ (values_lack g es) l).1 h
  uses_without _ l h = tt

  pub agrees_without : (n : Names) (x : Tree) → item_lacks g x ≡ true → IsStructured x × (HasFreeCases g x × ItemAgrees n x) →
      ItemAgrees (fewer_names g n) (renumbered_item g x)
  agrees_without n x l h = record {
    kinds = expressions_without g (KindsAgree n) (KindsAgree (fewer_names g n)) (kinds_without g n) x h.0 l h.1.0 h.1.1.kinds;
    values = uses_without x l h.1.1.values;
  }

  pub keeps_without : (n : Names) (x : Tree) → item_lacks g x ≡ true → IsStructured x × (HasFreeCases g x × KeepsConsts n x) →
      KeepsConsts (fewer_names g n) (renumbered_item g x)
  keeps_without n x l h = expressions_without g (Within (WritesNoConst n)) (Within (WritesNoConst (fewer_names g n))) (consts_without g n) x h.0 l h.1.0 h.1.1

  pub fits_without : (result : Option IntKind) (x : Tree) → item_lacks g x ≡ true → ReturnFits result x → ReturnFits result (renumbered_item g x)
  fits_without None (Return None) l h = tt
  fits_without None (Return (Some e)) l h = absurd h
  fits_without (Some k) (Return None) l h = absurd h
  fits_without (Some k) (Return (Some e)) l h = tt
  fits_without _ x l h = tt

  -- ---- cases

  mutual
    pub arrivals_stay : (a : Forest) → arrivals (renumbered_list g a) ≡ arrivals a
    arrivals_stay Nil = refl
    arrivals_stay (Then x xs) = (λ i. arrivals_of_stay x i ++ arrivals_stay xs i)

    arrivals_of_stay : (x : Tree) → arrivals_of (renumbered_item g x) ≡ arrivals_of x
    arrivals_of_stay (If t a b) = (λ i. arrivals_stay a i ++ arrivals_stay b i)
    arrivals_of_stay (While t a) = arrivals_stay a
    arrivals_of_stay (Do a t) = arrivals_stay a
    arrivals_of_stay (For first t u a) = arrivals_stay a
    arrivals_of_stay (Block a) = arrivals_stay a
    arrivals_of_stay x = refl

  labels_stay : (c : Sections) → switch_labels (renumbered_sections g c) ≡ switch_labels c
  labels_stay NoSection = refl
  labels_stay (Section cases default a ends c) = (λ i. section_labels cases default ++ (arrivals_stay a i ++ labels_stay c i))

  selector_kind_stays : (s : SelectorTree) → selector_kind (renumbered_selector g s) ≡ selector_kind s
  selector_kind_stays (Selects e) = ap (option_map _) (kind_stays g e)
  selector_kind_stays (Pick l n s) = selector_kind_stays s

  pub cases_stay : (x : Tree) → item_lacks g x ≡ true → HasCases x → HasCases (renumbered_item g x)
  cases_stay (Switch s c) l h = subst (λ o. IsSomeAnd o (λ k. AreLabels k (switch_labels (renumbered_sections g c)))) (sym (selector_kind_stays s))
      (subst (λ ls. IsSomeAnd (selector_kind s) (λ k. AreLabels k ls)) (sym (labels_stay c)) h)
  cases_stay x l h = tt

  -- ---- declarations and first parts

  module _ (ss : List Slot) where
    initialisers_stay : (o : Option Slot) (es : Option (List ExpressionTree)) → SlotIsInitialised o es → SlotIsInitialised o (renumbered_values g es)
    initialisers_stay None es h = absurd h
    initialisers_stay (Some s) None h = tt
    initialisers_stay (Some s) (Some es) h = as_many s.cells es h
      where
        same_length : (es : List ExpressionTree) → length (map (renumbered g) es) ≡ length es
        same_length [] = refl
        same_length (e ∷ es) = ap suc (same_length es)

        as_many : (c : Option ℕ) (es : List ExpressionTree) → AreInitialisers 1024 c es → AreInitialisers 1024 c (map (renumbered g) es)
        as_many None es h = same_length es ∙ h
        as_many (Some n) es h = (subst (λ m. m ≤ n) (sym (same_length es)) h.0, h.1)

    pub initialised_without : (x : Tree) → item_lacks g x ≡ true → IsInitialised ss x → IsInitialised (without g ss) (renumbered_item g x)
    initialised_without (Local x es) l h =
        let i = and_parts (not (eqb x g)) (values_lack g es) l in
        subst (λ o. SlotIsInitialised o (renumbered_values g es)) (sym (same_get g x ss (not-true (eqb x g) i.0))) (initialisers_stay (slice_get ss x) es h)
    initialised_without x l h = tt

    alike_without : (s : Slot) (a : Forest) → list_lacks g a ≡ true → AreAlike ss s a → AreAlike (without g ss) s (renumbered_list g a)
    alike_without s Nil l h = tt
    alike_without s (Then (Local x es) xs) l h =
        let i = and_parts (not (eqb x g) && values_lack g es) (list_lacks g xs) l in
        let j = and_parts (not (eqb x g)) (values_lack g es) i.0 in (
          subst (λ o. IsSomeAnd o (λ (r : Slot). (r.kind ≡ s.kind) × (r.constant ≡ s.constant))) (sym (same_get g x ss (not-true (eqb x g) j.0))) h.0,
          alike_without s xs i.1 h.1,
        )
    alike_without s (Then _ xs) l h = absurd h

    first_alike : (o : Option Slot) (a : Forest) → list_lacks g a ≡ true → IsSomeAnd o (λ s. AreAlike ss s a) →
        IsSomeAnd o (λ s. AreAlike (without g ss) s (renumbered_list g a))
    first_alike None a l h = absurd h
    first_alike (Some s) a l h = alike_without s a l h

    first_without : (a : Forest) → list_lacks g a ≡ true → IsFirstPart ss a → IsFirstPart (without g ss) (renumbered_list g a)
    first_without Nil l h = tt
    first_without (Then (Evaluate e) Nil) l h = tt
    first_without (Then (Local x es) xs) l h =
        let i = and_parts (not (eqb x g) && values_lack g es) (list_lacks g xs) l in
        let j = and_parts (not (eqb x g)) (values_lack g es) i.0 in
        subst (λ o. IsSomeAnd o (λ s. AreAlike (without g ss) s (renumbered_list g xs))) (sym (same_get g x ss (not-true (eqb x g) j.0)))
        (first_alike (slice_get ss x) xs i.1 h)
    first_without _ l h = absurd h

    pub firsts_without : (x : Tree) → item_lacks g x ≡ true → HasFirst ss x → HasFirst (without g ss) (renumbered_item g x)
    firsts_without (For first t u a) l h = first_without first (and_parts (list_lacks g first) _ l).0 h
    firsts_without x l h = tt

  -- ---- forms

  pub jumps_without : (x : Tree) → item_lacks g x ≡ true → IsStructured x → IsStructured (renumbered_item g x)
  jumps_without (Goto m) l h = absurd h
  jumps_without (Mark m) l h = absurd h
  jumps_without (Leap m) l h = absurd h
  jumps_without (Arrival e) l h = absurd h
  jumps_without (Arm m e) l h = absurd h
  jumps_without (Land m) l h = absurd h
  jumps_without x l h = tt

  unguarded_test : (a b : Forest) (t : TestTree) → IsUnguarded (If t a b) → IsUnguarded (If (renumbered_test g t) (renumbered_list g a) (renumbered_list g b))
  unguarded_test a b (Source e) h = tt
  unguarded_test a b _ h = absurd h

  pub unguarded_without : (x : Tree) → item_lacks g x ≡ true → IsUnguarded x → IsUnguarded (renumbered_item g x)
  unguarded_without (If t a b) l h = unguarded_test a b t h
  unguarded_without (While t a) l h = unguarded_test a Nil t h
  unguarded_without (Do a t) l h = unguarded_test a Nil t h
  unguarded_without (Switch (Selects e) c) l h = tt
  unguarded_without (Switch (Pick m n s) c) l h = absurd h
  unguarded_without (Arm m e) l h = absurd h
  unguarded_without (Leap m) l h = absurd h
  unguarded_without (Land m) l h = absurd h
  unguarded_without x l h = tt

  entered_stays : (c : Sections) → AllEntered c → AllEntered (renumbered_sections g c)
  entered_stays NoSection h = tt
  entered_stays (Section cases default a ends c) h = (h.0, entered_stays c h.1)

  pub entries_without : (x : Tree) → item_lacks g x ≡ true → HasEntries x → HasEntries (renumbered_item g x)
  entries_without (Switch s c) l h = entered_stays c h
  entries_without x l h = tt
