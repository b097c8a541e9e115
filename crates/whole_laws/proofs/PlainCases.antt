-- The cases of the switches of the plain form.
use Rattle.std.proofs.Common.{◌≡◌, ◌≢◌, ℕ, zero, suc, ◌+◌, ◌<◌, ◌≤◌, Bool, true, false, List, [], ◌∷◌, ◌++◌, map, length, Option, Some, None, option_map, IsSome, AllPairs, refl, sym, ap, subst, ◌∙◌, arith, append_assoc}
use Rattle.std.specs.Prelude.{IfSome, IsSomeAnd}
use Rattle.std.specs.List.{AllByRecursion}
use Rattle.std.proofs.lemmas.List.Elements.{recursion_from_All}
use Rattle.c_types.specs.declared.kinds.IntKind.{IntKind}
use Rattle.c_types.specs.Numbers.{promoted}
use Rattle.c_tree.specs.declared.tree.Function.{Function}
use Rattle.c_tree.specs.ExpressionTrees.{ExpressionTree}
use Rattle.c_tree.specs.TestTrees.{TestTree, Source as SourceTest, On, Off, AndOff, OrOn, SelectorTree, Selects, Pick}
use Rattle.c_tree.specs.Cases.{selector_source, selector_kind, all_cases, defaults, case_number, AreCases}
use Rattle.c_tree.specs.Constants.{kind_of}
use Rattle.c_tree.specs.Trees.{Tree, Forest, Nil, Then, Sections, NoSection, Section, Evaluate, Return, If, While, Do, For, Switch, Block, Local, Break, Continue, Goto, Mark, Arm, join, trees_of}
use Rattle.c_tree.specs.Everywhere.{Everywhere, EverywhereOf, EverywhereIn}
use Rattle.c_tree.specs.InRange.{body_of}
use Rattle.c_tree.specs.WellMade.{HasSelectorKind, HasEntries}
use Rattle.c_tree.specs.WellMade as WellMade
use Rattle.c_tree.proofs.WellMoved.{everywhere_map, everywhere_both}
use Rattle.jump_meaning.specs.Operations.{operand_kind}
use Rattle.jump_meaning.specs.Step.{switch_kind}
use Rattle.flat_laws.specs.Pieces.{assigned_cells}
use Rattle.flat_laws.specs.Parts.{is_scattered}
use Rattle.flat_laws.specs.FlatForm.{assigned}
use Rattle.flat_laws.specs.Unlabelled.{unlabelled, unlabelled_item, unlabelled_among}
use Rattle.plain_laws.specs.GuardSlots.{plain_list, plain_item, plain_sections, picked, plain_selector}
use Rattle.plain_laws.specs.Plain.{declared}
use Rattle.plain_laws.specs.Slotted.{AreDeclarations, none, one_more, variable, guarding}
use Rattle.plain_laws.specs.Tidied.{tidy, tidy_item, tidy_sections}
use Rattle.plain_laws.proofs.PlainFunctions.{are_declared}
use Rattle.plain_laws.proofs.PlainRange.{tidy_everywhere, plain_everywhere, join_everywhere}
use Rattle.plain_laws.proofs.Statements.{picked_kind}
use Rattle.whole_laws.proofs.Unlabelled.{IsPlainItem, IsLeaf, IsLeft, left}
use Rattle.c_resolved_defs.specs.Within.{Each, AllDiffer, TestExpression}
use Rattle.c_resolved_laws.proofs.Ranged.{each_map}
use Rattle.c_resolved_defs.specs.Switches.{arrivals, arrivals_of, section_labels, switch_labels, cases_among, IsConstantValue, AreLabels, HasCases}
use Rattle.c_resolved_laws.proofs.GoodSource.{same_cases, same_defaults}
use Rattle.whole_laws.proofs.Facts.{AnyNote, ItemHas}
use Rattle.whole_laws.proofs.FactsMoved.{labels_of, slot_of, reached_of, plain_trees, left_trees, Source, facts_moved}
use Rattle.whole_laws.proofs.FactsPlain.{tidy_cases, plain_cases}
use Rattle.whole_laws.proofs.ItemKinds.{each_front, each_back, each_join}
use Rattle.whole_laws.proofs.PlainForms.{body_before}
use Rattle.whole_laws.proofs.PlainTops.{IsMovedForm, IsUnmovedForm}
use Rattle.whole_laws.proofs.TidyForm.{tidy_plain, unscattered, tidy_defaults}

-- ---- switches that aren't scattered

abbrev IsUnscattered : Tree → Type 0
IsUnscattered (Switch s c) = is_scattered c ≡ false
IsUnscattered _ = Unit {0}

mutual
  all_unscattered : (a : Forest) → Everywhere IsPlainItem a → Everywhere IsUnscattered a
  all_unscattered Nil h = tt
  all_unscattered (Then x a) h = (unscattered_of x h.0, all_unscattered a h.1)

  unscattered_of : (x : Tree) → EverywhereOf IsPlainItem x → EverywhereOf IsUnscattered x
  unscattered_of (If t a b) h = (tt, all_unscattered a h.1, all_unscattered b h.2)
  unscattered_of (While t a) h = (tt, all_unscattered a h.1)
  unscattered_of (Do a t) h = (tt, all_unscattered a h.1)
  unscattered_of (For first t u a) h = (tt, all_unscattered first h.1, all_unscattered a h.2)
  unscattered_of (Switch s c) h = (unscattered c h.1, unscattered_in c h.1)
  unscattered_of (Block a) h = (tt, all_unscattered a h.1)
  unscattered_of _ h = tt

  unscattered_in : (c : Sections) → EverywhereIn IsPlainItem c → EverywhereIn IsUnscattered c
  unscattered_in NoSection h = tt
  unscattered_in (Section cases default a ends c) h = (all_unscattered a h.0, unscattered_in c h.1)

-- ---- the cases of sections

pub record AreSectionCases (k : IntKind) (c : Sections) : Type 0 where
  pub single : defaults c ≤ 1
  pub constant : Each IsConstantValue (all_cases c)
  pub distinct : AllDiffer (map (case_number k) (all_cases c))
  pub few : length (all_cases c) < 2147483648

abbrev HasSectionCases : Tree → Type 0
HasSectionCases (Switch s c) = IsSomeAnd (selector_kind s) (λ k. AreSectionCases k c)
HasSectionCases _ = Unit {0}

some_and : {A : Type 0} (Q R : A → Type 0) → ((a : A) → Q a → R a) → (o : Option A) → IsSomeAnd o Q → IsSomeAnd o R
some_and Q R f None h = absurd h
some_and Q R f (Some a) h = f a h

to_labels : (k : IntKind) (c : Sections) → is_scattered c ≡ false → AreSectionCases k c → AreLabels k (switch_labels c)
to_labels k c e h =
    let cases = sym (same_cases c e) in
    record {
      single = subst (λ n. n ≤ 1) (sym (same_defaults c e)) h.single;
      constant = subst (Each IsConstantValue) cases h.constant;
      distinct = subst (λ es. AllDiffer (map (case_number k) es)) cases h.distinct;
      few = subst (λ es. length es < 2147483648) cases h.few;
    }

of_labels : (k : IntKind) (c : Sections) → is_scattered c ≡ false → AreLabels k (switch_labels c) → AreSectionCases k c
of_labels k c e h =
    let cases = same_cases c e in
    record {
      single = subst (λ n. n ≤ 1) (same_defaults c e) h.single;
      constant = subst (Each IsConstantValue) cases h.constant;
      distinct = subst (λ es. AllDiffer (map (case_number k) es)) cases h.distinct;
      few = subst (λ es. length es < 2147483648) cases h.few;
    }

to_cases : (x : Tree) → HasSectionCases x × IsUnscattered x → HasCases x
to_cases (Switch s c) h = some_and (λ k. AreSectionCases k c) (λ k. AreLabels k (switch_labels c)) (λ k i. to_labels k c h.1 i) (selector_kind s) h.0
to_cases x h = tt

of_cases : (x : Tree) → HasCases x × IsUnscattered x → HasSectionCases x
of_cases (Switch s c) h = some_and (λ k. AreLabels k (switch_labels c)) (λ k. AreSectionCases k c) (λ k i. of_labels k c h.1 i) (selector_kind s) h.0
of_cases x h = tt

tidy_section_cases : (k : IntKind) (c : Sections) → AreSectionCases k c → AreSectionCases k (tidy_sections c)
tidy_section_cases k c h =
    let e = sym (tidy_cases c) in
    let d = tidy_defaults c in
    let s = h.single in
    record {
      single = omega (arith, d, s);
      constant = subst (Each IsConstantValue) e h.constant;
      distinct = subst (λ es. AllDiffer (map (case_number k) es)) e h.distinct;
      few = subst (λ es. length es < 2147483648) e h.few;
    }

tidy_item_cases : (x : Tree) → HasSectionCases x → HasSectionCases (tidy_item x)
tidy_item_cases (Switch s c) h = some_and (λ k. AreSectionCases k c) (λ k. AreSectionCases k (tidy_sections c)) (λ k i. tidy_section_cases k c i)
    (selector_kind s) h
tidy_item_cases _ h = tt

tidied_cases : (a : Forest) → Everywhere IsPlainItem a → Everywhere HasSectionCases a → Everywhere HasCases (tidy a)
tidied_cases a p h =
    everywhere_map (λ x. HasSectionCases x × IsUnscattered x) HasCases to_cases (tidy a)
    (everywhere_both HasSectionCases IsUnscattered (tidy a) (tidy_everywhere HasSectionCases tidy_item_cases a h) (all_unscattered (tidy a) (tidy_plain a p)))

-- ---- without jumps

pub arrivals_join : (a b : Forest) → arrivals (join a b) ≡ arrivals a ++ arrivals b
arrivals_join Nil b = refl
arrivals_join (Then x a) b = ap (λ l. arrivals_of x ++ l) (arrivals_join a b) ∙ sym (append_assoc (arrivals_of x) (arrivals a) (arrivals b))

no_more : (xs : List (Option ExpressionTree)) → xs ++ [] ≡ xs
no_more [] = refl
no_more (x ∷ xs) = ap (λ l. x ∷ l) (no_more xs)

both_lists : (a b c d : List (Option ExpressionTree)) → a ≡ c → b ≡ d → a ++ b ≡ c ++ d
both_lists a b c d e f = (λ i. e i ++ f i)

mutual
  arrivals_left : (a : Forest) → arrivals (unlabelled a) ≡ arrivals a
  arrivals_left Nil = refl
  arrivals_left (Then x a) = arrivals_join (unlabelled_item x) (unlabelled a) ∙
      both_lists (arrivals (unlabelled_item x)) (arrivals (unlabelled a)) (arrivals_of x) (arrivals a) (arrivals_left_of x) (arrivals_left a)

  arrivals_left_of : (x : Tree) → arrivals (unlabelled_item x) ≡ arrivals_of x
  arrivals_left_of (If t a b) = no_more _ ∙ both_lists (arrivals (unlabelled a)) (arrivals (unlabelled b)) (arrivals a) (arrivals b) (arrivals_left a)
      (arrivals_left b)
  arrivals_left_of (While t a) = no_more _ ∙ arrivals_left a
  arrivals_left_of (Do a t) = no_more _ ∙ arrivals_left a
  arrivals_left_of (For first t u a) = no_more _ ∙ arrivals_left a
  arrivals_left_of (Block a) = no_more _ ∙ arrivals_left a
  arrivals_left_of _ = refl

labels_left : (c : Sections) → switch_labels (unlabelled_among c) ≡ switch_labels c
labels_left NoSection = refl
labels_left (Section cases default a ends c) = ap (λ l. section_labels cases default ++ l)
    (both_lists (arrivals (unlabelled a)) (switch_labels (unlabelled_among c)) (arrivals a) (switch_labels c) (arrivals_left a) (labels_left c))

leaf_cases : (x : Tree) → IsLeaf x → HasCases x → HasCases x
leaf_cases x i h = h

cases_left : IsLeft HasCases HasCases
cases_left = record {
  ifs = λ t a b h. tt;
  whiles = λ t a h. tt;
  dos = λ t a h. tt;
  fors = λ first t u a h. tt;
  switches = λ s c h. some_and (λ k. AreLabels k (switch_labels c)) (λ k. AreLabels k (switch_labels (unlabelled_among c)))
      (λ k i. subst (AreLabels k) (sym (labels_left c)) i) (selector_kind s) h;
  blocks = λ a h. tt;
  leaves = leaf_cases;
}

pub unmoved_cases : (f h : Function) (m : IsUnmovedForm f h) → Everywhere IsPlainItem (unlabelled (body_of f)) → Everywhere HasCases (body_of f) →
    Everywhere HasCases (body_of h)
unmoved_cases f h m p k =
    let a = unlabelled (body_of f) in
    subst (Everywhere HasCases) (sym (left_trees f h m))
    (tidied_cases a p (everywhere_map (λ x. HasCases x × IsUnscattered x) HasSectionCases of_cases a
    (everywhere_both HasCases IsUnscattered a (left HasCases HasCases cases_left (body_of f) k) (all_unscattered a p))))

-- ---- with jumps: the constants of cases are those of the source

abbrev Any : ExpressionTree → Type 0
Any e = Unit {0}

abbrev AnyReturned : Option ExpressionTree → Type 0
AnyReturned e = Unit {0}

abbrev HasConstants : Tree → Type 0
HasConstants x = ItemHas Any Any IsConstantValue AnyReturned AnyNote x

cases_append : (xs ys : List (Option ExpressionTree)) → cases_among (xs ++ ys) ≡ cases_among xs ++ cases_among ys
cases_append [] ys = refl
cases_append (Some e ∷ xs) ys = ap (λ l. e ∷ l) (cases_append xs ys)
cases_append (None ∷ xs) ys = cases_append xs ys

section_cases : (cases : List ExpressionTree) (default : Bool) → cases_among (section_labels cases default) ≡ cases
section_cases [] true = refl
section_cases [] false = refl
section_cases (e ∷ es) default = ap (λ l. e ∷ l) (section_cases es default)

constants_of : (c : Sections) → Each IsConstantValue (cases_among (switch_labels c)) → Each IsConstantValue (all_cases c)
constants_of NoSection h = tt
constants_of (Section cases default a ends c) h =
    let rest = arrivals a ++ switch_labels c in
    let i = subst (Each IsConstantValue) (cases_append (section_labels cases default) rest) h in
    let first = subst (Each IsConstantValue) (section_cases cases default)
    (each_front IsConstantValue (cases_among (section_labels cases default)) (cases_among rest) i) in
    let later = subst (Each IsConstantValue) (cases_append (arrivals a) (switch_labels c))
    (each_back IsConstantValue (cases_among (section_labels cases default)) (cases_among rest) i) in
    each_join IsConstantValue cases (all_cases c) first
    (constants_of c (each_back IsConstantValue (cases_among (arrivals a)) (cases_among (switch_labels c)) later))

labels_constants : (o : Option IntKind) (c : Sections) → IsSomeAnd o (λ k. AreLabels k (switch_labels c)) → Each IsConstantValue (all_cases c)
labels_constants None c h = absurd h
labels_constants (Some k) c h = constants_of c h.constant

each_any : (es : List ExpressionTree) → AllByRecursion Any es
each_any [] = tt
each_any (e ∷ es) = (tt, each_any es)

any_test : (o : Option ExpressionTree) → IfSome o Any
any_test None = tt
any_test (Some e) = tt

any_list : (o : Option (List ExpressionTree)) → IfSome o (AllByRecursion Any)
any_list None = tt
any_list (Some es) = each_any es

any_cells : (k : IntKind) (x i : ℕ) (es : List ExpressionTree) (m : ℕ) → Everywhere HasConstants (assigned_cells k x i es m)
any_cells k x i (e ∷ es) m = (tt, any_cells k x (suc i) es m)
any_cells k x i [] zero = tt
any_cells k x i [] (suc m) = (tt, any_cells k x (suc i) [] m)

any_assigned : (k : IntKind) (x : ℕ) (o : Option ℕ) (es : List ExpressionTree) → Everywhere HasConstants (assigned k x o es)
any_assigned k x None [] = tt
any_assigned k x None (e ∷ es) = (tt, tt)
any_assigned k x (Some n) es = any_cells k x 0 es _

any_source : (t : TestTree) → TestExpression Any t
any_source (SourceTest e) = tt
any_source (On l) = tt
any_source (Off l) = tt
any_source (AndOff l t) = any_source t
any_source (OrOn l t) = any_source t

constant_item : (x : Tree) → HasCases x → HasConstants x
constant_item (Evaluate e) h = tt
constant_item (Return e) h = tt
constant_item (If t a b) h = any_source t
constant_item (While t a) h = any_source t
constant_item (Do a t) h = any_source t
constant_item (For first t u a) h = (any_test t, any_test u)
constant_item (Switch s c) h = (tt, labels_constants (selector_kind s) c h)
constant_item (Local x es) h = any_list es
constant_item (Arm l e) h = any_test e
constant_item _ h = tt

all_differ : {A : Type 0} (xs : List A) → AllPairs (λ m n. m ≢ n) xs → AllDiffer xs
all_differ [] h = tt
all_differ (x ∷ xs) h = (
  each_map (λ y. x ≢ y) (λ y. y ≢ x) (λ y d e. d (sym e)) xs
      (recursion_from_All (λ y. x ≢ y) xs (λ i d b. h 0 (suc i) d (omega arith) (omega (arith, b)))),
  all_differ xs (λ i j d a b. h (suc i) (suc j) d (omega (arith, a)) (omega (arith, b))),
)

kind_some : (slot : ℕ → ℕ) (k : IntKind) (s : SelectorTree) → IsSome (kind_of (selector_source s)) → IsSome (kind_of (picked slot k s))
kind_some slot k (Selects e) h = h
kind_some slot k (Pick l n s) h = refl

kind_cases : (o : Option IntKind) (k : IntKind) (Q : IntKind → Type 0) → IsSome o → promoted (operand_kind o) ≡ k → Q k → IsSomeAnd (option_map promoted o) Q
kind_cases None k Q h e q = cc
kind_cases (Some j) k Q h e q = subst Q (sym e) q

well_cases : (o : Option IntKind) (c : Sections) → IsSome o → IfSome (option_map promoted o) (λ k. AreCases k c) → AreCases (promoted (operand_kind o)) c
well_cases None c h i = cc
well_cases (Some j) c h i = i

plain_defaults : (slot : ℕ → ℕ) (c : Sections) → defaults (plain_sections slot c) ≡ defaults c
plain_defaults slot NoSection = refl
plain_defaults slot (Section cases true a ends c) = ap (λ n. 1 + n) (plain_defaults slot c)
plain_defaults slot (Section cases false a ends c) = ap (λ n. 0 + n) (plain_defaults slot c)

section_cases_of : (slot : ℕ → ℕ) (k : IntKind) (c : Sections) → defaults c ≤ 1 → AllByRecursion IsConstantValue (all_cases c) → AreCases k c →
    AreSectionCases k (plain_sections slot c)
section_cases_of slot k c d h w =
    let e = sym (plain_cases slot c) in
    record {
      single = subst (λ n. n ≤ 1) (sym (plain_defaults slot c)) d;
      constant = subst (Each IsConstantValue) e h;
      distinct = subst (λ es. AllDiffer (map (case_number k) es)) e (all_differ (map (case_number k) (all_cases c)) w.distinct);
      few = subst (λ es. length es < 2147483648) e w.few;
    }

abbrev IsCased : Tree → Type 0
IsCased x = HasConstants x × (HasSelectorKind x × (HasEntries x × WellMade.HasCases x))

cased_plain : (slot : ℕ → ℕ) (x : Tree) → IsCased x → HasSectionCases (plain_item slot x)
cased_plain slot (Switch s c) h =
    let o = kind_of (selector_source s) in
    kind_cases (kind_of (plain_selector slot s)) (switch_kind s) (λ k. AreSectionCases k (plain_sections slot c))
    (kind_some slot (switch_kind s) s h.1.0) (picked_kind slot s)
    (section_cases_of slot (switch_kind s) c h.1.1.0.1 h.0.1 (well_cases o c h.1.0 h.1.1.1))
cased_plain slot (If t a b) h = tt
cased_plain slot _ h = tt

declarations_cases : (base end : ℕ) (a : Forest) → AreDeclarations base end a → Everywhere HasSectionCases a
declarations_cases base end Nil none = tt
declarations_cases base end (Then x a) (one_more (variable y) r) = (tt, declarations_cases base end a r)
declarations_cases base end (Then x a) (one_more (guarding y i j) r) = (tt, declarations_cases base end a r)

module _ (f h : Function) (m : IsMovedForm f h) (params : f.params ≤ length f.slots) where
  abbrev FromSource : Tree → Type 0
  FromSource x = Source Any Any IsConstantValue AnyReturned AnyNote (λ e i. tt) f h m tt (λ t v a w b. (tt, λ z. tt)) x

  from_source : (x : Tree) → HasCases x → FromSource x
  from_source (Local x None) g = (any_list None, tt)
  from_source (Local x (Some es)) g = (any_list (Some es), any_assigned _ x _ es)
  from_source (Evaluate e) g = (tt, tt)
  from_source (Return e) g = (tt, tt)
  from_source (If t a b) g = (any_source t, tt)
  from_source (While t a) g = (any_source t, tt)
  from_source (Do a t) g = (any_source t, tt)
  from_source (For first t u a) g = ((any_test t, any_test u), tt)
  from_source (Switch s c) g = (constant_item (Switch s c) g, tt)
  from_source (Block a) g = (tt, tt)
  from_source Break g = (tt, tt)
  from_source Continue g = (tt, tt)
  from_source (Goto l) g = (tt, tt)
  from_source (Mark l) g = (tt, tt)
  from_source (Arm l e) g = (any_test e, tt)
  from_source _ g = (tt, tt)

  constants_moved : Everywhere HasCases (body_of f) → Everywhere HasConstants (trees_of m.new)
  constants_moved k = facts_moved Any Any IsConstantValue AnyReturned AnyNote (λ e i. tt) f h m tt (λ t v a w b. (tt, λ z. tt))
      (everywhere_map HasCases FromSource from_source (body_of f) k)

  pub moved_cases : Everywhere IsPlainItem (body_before f h m params) → Everywhere HasCases (body_of f) → Everywhere HasCases (body_of h)
  moved_cases p k =
      let decls = trees_of (declared (reached_of f h m) (labels_of f h m)) in
      let slot = slot_of f h m in
      let new = trees_of m.new in
      subst (Everywhere HasCases) (sym (plain_trees f h m))
      (tidied_cases (body_before f h m params) p
      (join_everywhere HasSectionCases decls (plain_list slot new) (declarations_cases _ _ decls (are_declared (reached_of f h m) (labels_of f h m)))
      (plain_everywhere slot IsCased HasSectionCases (cased_plain slot) new
      (everywhere_both HasConstants (λ x. HasSelectorKind x × (HasEntries x × WellMade.HasCases x)) new (constants_moved k)
      (everywhere_both HasSelectorKind (λ x. HasEntries x × WellMade.HasCases x) new m.made.selectors
      (everywhere_both HasEntries WellMade.HasCases new m.made.entries m.made.cases))))))
