-- No full expression of the plain form of a function has many more counted tokens than those of the function.
use Rattle.std.proofs.Common.{◌≡◌, ℕ, zero, suc, ◌+◌, ◌*◌, ◌-◌, ◌≤◌, ◌<◌, pos, List, [], ◌∷◌, ◌++◌, length, Option, Some, None, refl, sym, ap, subst, ◌∙◌, arith}
use Rattle.std.specs.Prelude.{ℤ, IfSome}
use Rattle.std.specs.List.{AllByRecursion}
use Rattle.c_types.specs.declared.kinds.IntKind.{IntKind}
use Rattle.c_types.specs.declared.kinds.IntKind.TheVariants.{Int}
use Rattle.c_types.specs.Numbers.{converted}
use Rattle.c_tree.specs.declared.tree.Function.{Function}
use Rattle.c_tree.specs.Cases.{selector_source, all_cases}
use Rattle.c_tree.specs.Conversions.{convert}
use Rattle.c_tree.specs.ExpressionTrees.{ExpressionTree}
use Rattle.c_tree.specs.Labels.{ItemLabels, TestLabels}
use Rattle.c_tree.specs.Numerals.{number, constant}
use Rattle.c_tree.specs.TestTrees.{TestTree, Source, On, Off, AndOff, OrOn, SelectorTree}
use Rattle.c_tree.specs.Trees.{Tree, Forest, Nil, Then, Sections, NoSection, Section, Evaluate, Return, If, While, Do, For, Switch, Block, Local, Break, Continue, Goto, Mark, Arm, Land, Arrival, join, trees_of}
use Rattle.c_tree.specs.Everywhere.{Everywhere, EverywhereOf, EverywhereIn}
use Rattle.c_tree.specs.InRange.{body_of}
use Rattle.c_tree.proofs.WellMoved.{everywhere_map, everywhere_both}
use Rattle.jump_meaning.specs.Code.{entry_or}
use Rattle.jump_meaning.specs.World.{no_slot}
use Rattle.jump_meaning.specs.Step.{switch_kind}
use Rattle.flat_laws.specs.Pieces.{Stays, assign_number, assigned_cells, is_number}
use Rattle.flat_laws.specs.Loose.{NoArrival}
use Rattle.flat_laws.specs.FlatForm.{assigned, coded, numbered, first_here, flat, flat_body, marks}
use Rattle.flat_laws.specs.Source.{IsVariable}
use Rattle.plain_laws.specs.GuardSlots.{truth, armed, plain_test, plain_item}
use Rattle.plain_laws.proofs.PlainFunctions.{are_declared}
use Rattle.plain_laws.proofs.PlainRange.{plain_everywhere, join_everywhere}
use Rattle.move_order_laws.proofs.ConvertedTrees.{converted_trees}
use Rattle.guard_simplify.specs.Choice.{repeat, barred}
use Rattle.guard_simplify.specs.Application.{IsSimple}
use Rattle.guard_vars.specs.Conversion.{converted_list}
use Rattle.whole_laws.specs.Rewritten.{setting}
use Rattle.whole_laws.proofs.Unlabelled.{IsPlainItem}
use Rattle.c_resolved_defs.specs.Form.{HasSourceForm}
use Rattle.c_resolved_defs.specs.Limits.{most_of, most_if, most_listed, most_tested, most_counted, most_counted_of, most_counted_in}
use Rattle.c_resolved_defs.specs.PrintableExpressions.{level_of, counted, counted_at}
use Rattle.c_resolved_defs.specs.Within.{TestExpression}
use Rattle.whole_laws.proofs.PlainLists.{each_append}
use Rattle.whole_laws.proofs.Facts.{AnyNote, ItemHas, facts_map}
use Rattle.whole_laws.proofs.FactsFlat.{Tests}
use Rattle.whole_laws.proofs.FactsMoved.{flat_trees, labels_of, reached_of, slot_of, Source as FromSource, facts_moved, declarations_have, plain_trees}
use Rattle.whole_laws.proofs.FactsPlain.{plain_cases, facts_tidy}
use Rattle.whole_laws.proofs.FlatTests.{tested, flat_tested, HasFewTests, moved_tests}
use Rattle.whole_laws.proofs.PlainForms.{decls, items, body_before, moved_ready}
use Rattle.whole_laws.proofs.PlainTops.{IsMovedForm}
use Rattle.whole_laws.proofs.Simple.{RepeatsNone, none_from}
use Rattle.whole_laws.proofs.TidyForm.{plain_of, tidy_plain}
use Rattle.whole_laws.proofs.Wrappers.{bracket_most, truth_counted, case_counted, simple_test, simple_selector}

-- ---- the counts of an item, where all of its parts are within bounds: of an expression whose value is used, of one
-- whose value is dropped, and of others

abbrev Counts : (V O C : ℕ) → Tree → Type 0
Counts v o c x = ItemHas (λ e. counted_at 2 e ≤ v) (λ e. counted e ≤ o) (λ e. counted_at 3 e ≤ c) (λ e. most_if e ≤ c) AnyNote x

first_all : (P : ExpressionTree → Type 0) (xs ys : List ExpressionTree) → AllByRecursion P (xs ++ ys) → AllByRecursion P xs
first_all P [] ys h = tt
first_all P (x ∷ xs) ys h = (h.0, first_all P xs ys h.1)

second_all : (P : ExpressionTree → Type 0) (xs ys : List ExpressionTree) → AllByRecursion P (xs ++ ys) → AllByRecursion P ys
second_all P [] ys h = h
second_all P (x ∷ xs) ys h = second_all P xs ys h.1

list_within : (need n : ℕ) (es : List ExpressionTree) → most_of need es ≤ n → AllByRecursion (λ e. counted_at need e ≤ n) es
list_within need n [] h = tt
list_within need n (e ∷ es) h = (omega (arith, h), list_within need n es (omega (arith, h)))

within_list : (need n : ℕ) (es : List ExpressionTree) → AllByRecursion (λ e. counted_at need e ≤ n) es → most_of need es ≤ n
within_list need n [] h = omega arith
within_list need n (e ∷ es) h = let a = h.0 in let b = within_list need n es h.1 in omega (arith, a, b)

list_more : (need m n : ℕ) (es : List ExpressionTree) → m ≤ n → AllByRecursion (λ e. counted_at need e ≤ m) es → AllByRecursion (λ e. counted_at need e ≤ n) es
list_more need m n [] l h = tt
list_more need m n (e ∷ es) l h = let a = h.0 in (omega (arith, a, l), list_more need m n es l h.1)

-- ---- of a body, from its greatest count

module _ (f : Function) (n v : ℕ) (more : n + 1 ≤ v) where
  used : (e : ExpressionTree) → counted e ≤ n → counted_at 2 e ≤ v
  used e h = let b = bracket_most (level_of e) 2 in omega (arith, b, h, more)

  test_within : (t : TestTree) → most_tested t ≤ n → TestExpression (λ e. counted_at 2 e ≤ v) t
  test_within (Source e) h = used e h
  test_within (On l) h = tt
  test_within (Off l) h = tt
  test_within (AndOff l t) h = test_within t h
  test_within (OrOn l t) h = test_within t h

  some_used : (o : Option ExpressionTree) → most_if o ≤ n → IfSome o (λ e. counted_at 2 e ≤ v)
  some_used None h = tt
  some_used (Some e) h = used e h

  some_within : (o : Option ExpressionTree) → most_if o ≤ n → IfSome o (λ e. counted e ≤ v + 3)
  some_within None h = tt
  some_within (Some e) h = omega (arith, h, more)

  listed_within : (o : Option (List ExpressionTree)) → most_listed o ≤ n → IfSome o (AllByRecursion (λ e. counted_at 2 e ≤ v))
  listed_within None h = tt
  listed_within (Some es) h = list_more 2 n v es (omega (arith, more)) (list_within 2 n es h)

  cases_within : (c : Sections) → most_counted_in c ≤ n → AllByRecursion (λ e. counted_at 3 e ≤ n) (all_cases c)
  cases_within NoSection h = tt
  cases_within (Section cases default a ends c) h =
      each_append (λ e. counted_at 3 e ≤ n) cases (all_cases c) (list_within 3 n cases (omega (arith, h))) (cases_within c (omega (arith, h)))

  abbrev Counted : Tree → Type 0
  Counted x = Counts v (v + 3) n x

  mutual
    measured : (a : Forest) → Everywhere (HasSourceForm f) a → most_counted a ≤ n → Everywhere Counted a
    measured Nil s h = tt
    measured (Then x a) s h = (measured_of x s.0 (omega (arith, h)), measured a s.1 (omega (arith, h)))

    measured_of : (x : Tree) → EverywhereOf (HasSourceForm f) x → most_counted_of x ≤ n → EverywhereOf Counted x
    measured_of (Evaluate e) s h = omega (arith, h, more)
    measured_of (Return e) s h = h
    measured_of (If t a b) s h = (test_within t (omega (arith, h)), measured a s.1 (omega (arith, h)), measured b s.2 (omega (arith, h)))
    measured_of (While t a) s h = (test_within t (omega (arith, h)), measured a s.1 (omega (arith, h)))
    measured_of (Do a t) s h = (test_within t (omega (arith, h)), measured a s.1 (omega (arith, h)))
    measured_of (For first t u a) s h =
        ((some_used t (omega (arith, h)), some_within u (omega (arith, h))), measured first s.1 (omega (arith, h)), measured a s.2 (omega (arith, h)))
    measured_of (Switch t c) s h = ((used (selector_source t) (omega (arith, h)), cases_within c (omega (arith, h))), measured_in c s.1 (omega (arith, h)))
    measured_of (Block a) s h = (tt, measured a s.1 h)
    measured_of (Local x es) s h = listed_within es h
    measured_of (Arm l e) s h = absurd s
    measured_of _ s h = tt

    measured_in : (c : Sections) → EverywhereIn (HasSourceForm f) c → most_counted_in c ≤ n → EverywhereIn Counted c
    measured_in NoSection s h = tt
    measured_in (Section cases default a ends c) s h = (measured a s.0 (omega (arith, h)), measured_in c s.1 (omega (arith, h)))

-- ---- the greatest count of a body, from those of its items

module _ (n : ℕ) where
  within_test : (t : TestTree) → TestExpression (λ e. counted_at 2 e ≤ n) t → most_tested t ≤ n
  within_test (Source e) h = omega (arith, h)
  within_test (On l) h = omega arith
  within_test (Off l) h = omega arith
  within_test (AndOff l t) h = within_test t h
  within_test (OrOn l t) h = within_test t h

  within_used : (o : Option ExpressionTree) → IfSome o (λ e. counted_at 2 e ≤ n) → most_if o ≤ n
  within_used None h = omega arith
  within_used (Some e) h = omega (arith, h)

  within_some : (o : Option ExpressionTree) → IfSome o (λ e. counted e ≤ n) → most_if o ≤ n
  within_some None h = omega arith
  within_some (Some e) h = h

  within_listed : (o : Option (List ExpressionTree)) → IfSome o (AllByRecursion (λ e. counted_at 2 e ≤ n)) → most_listed o ≤ n
  within_listed None h = omega arith
  within_listed (Some es) h = within_list 2 n es h

  abbrev Few : Tree → Type 0
  Few x = Counts n n n x × IsPlainItem x

  mutual
    pub few : (a : Forest) → Everywhere Few a → most_counted a ≤ n
    few Nil h = omega arith
    few (Then x a) h = let i = few_of x h.0 in let j = few a h.1 in omega (arith, i, j)

    few_of : (x : Tree) → EverywhereOf Few x → most_counted_of x ≤ n
    few_of (Evaluate e) h = h.0
    few_of (Return e) h = h.0
    few_of (If t a b) h = let i = within_test t h.0.0 in let j = few a h.1 in let k = few b h.2 in omega (arith, i, j, k)
    few_of (While t a) h = let i = within_test t h.0.0 in let j = few a h.1 in omega (arith, i, j)
    few_of (Do a t) h = let i = within_test t h.0.0 in let j = few a h.1 in omega (arith, i, j)
    few_of (For first t u a) h =
        let g = within_used t h.0.0.0 in
        let i = within_some u h.0.0.1 in
        let j = few first h.1 in
        let k = few a h.2 in
        omega (arith, g, i, j, k)
    few_of (Switch s c) h = let i = h.0.0.0 in let j = few_in c h.0.0.1 h.1 in omega (arith, i, j)
    few_of (Block a) h = few a h.1
    few_of (Local x es) h = within_listed es h.0
    few_of (Arrival e) h = absurd h.1
    few_of _ h = omega arith

    few_in : (c : Sections) → AllByRecursion (λ e. counted_at 3 e ≤ n) (all_cases c) → EverywhereIn Few c → most_counted_in c ≤ n
    few_in NoSection k h = omega arith
    few_in (Section cases default a ends c) k h =
        let i = within_list 3 n cases (first_all (λ e. counted_at 3 e ≤ n) cases (all_cases c) k) in
        let j = few a h.0 in
        let l = few_in c (second_all (λ e. counted_at 3 e ≤ n) cases (all_cases c) k) h.1 in
        omega (arith, i, j, l)

-- ---- the assignments of declarations

module _ (v c : ℕ) where
  cells_counted : (k : IntKind) (x i : ℕ) (es : List ExpressionTree) (m : ℕ) → AllByRecursion (λ e. counted_at 2 e ≤ v) es →
      Everywhere (Counts v (v + 3) c) (assigned_cells k x i es m)
  cells_counted k x i (e ∷ es) m h = (let a = h.0 in omega (arith, a), cells_counted k x (suc i) es m h.1)
  cells_counted k x i [] zero h = tt
  cells_counted k x i [] (suc m) h = (omega arith, cells_counted k x (suc i) [] m tt)

  assigned_counted : (k : IntKind) (x : ℕ) (o : Option ℕ) (es : List ExpressionTree) → AllByRecursion (λ e. counted_at 2 e ≤ v) es →
      Everywhere (Counts v (v + 3) c) (assigned k x o es)
  assigned_counted k x None [] h = tt
  assigned_counted k x None (e ∷ es) h = (let a = h.0 in omega (arith, a), tt)
  assigned_counted k x (Some m) es h = cells_counted k x 0 es (m - length es) h

-- ---- guards as variables

-- of an expression whose value is used, also by itself where a guard is set to whether it isn't 0
abbrev Value : ℕ → ExpressionTree → Type 0
Value n e = (counted_at 2 e ≤ n + 4) × (counted_at 2 (truth e) ≤ n + 4)

abbrev HasFew : ℕ → Tree → Type 0
HasFew n x = ItemHas (Value n) (λ e. counted e ≤ n + 6) (λ e. counted_at 3 e ≤ n) (λ e. most_if e ≤ n) AnyNote x

module _ (slot : ℕ → ℕ) (f : Function) (n labels most : ℕ) (some : 0 < labels) (all : most ≡ n + 6 * labels) where
  used_more : (o : Option ExpressionTree) → IfSome o (Value n) → IfSome o (λ e. counted_at 2 e ≤ most)
  used_more None h = tt
  used_more (Some e) h = let a = h.0 in omega (arith, a, some, all)

  some_more : (o : Option ExpressionTree) → IfSome o (λ e. counted e ≤ n + 6) → IfSome o (λ e. counted e ≤ most)
  some_more None h = tt
  some_more (Some e) h = omega (arith, h, some, all)

  list_used : (es : List ExpressionTree) → AllByRecursion (Value n) es → AllByRecursion (λ e. counted_at 2 e ≤ most) es
  list_used [] h = tt
  list_used (e ∷ es) h = let a = h.0.0 in (omega (arith, a, some, all), list_used es h.1)

  listed_more : (o : Option (List ExpressionTree)) → IfSome o (AllByRecursion (Value n)) → IfSome o (AllByRecursion (λ e. counted_at 2 e ≤ most))
  listed_more None h = tt
  listed_more (Some es) h = list_used es h

  armed_counted : (e : Option ExpressionTree) → IfSome e (Value n) → counted_at 2 (armed e) ≤ n + 4
  armed_counted None h = omega arith
  armed_counted (Some e) h = h.1

  test_fits : (t : TestTree) → most_tested t ≤ n → repeat [] [] t ≡ None → TestLabels (λ l. l < labels) t → counted_at 2 (plain_test slot t) ≤ most
  test_fits t h r l = let a = simple_test slot (n + 1) labels (omega arith) t r l (test_within f n (n + 1) (omega arith) t h) in omega (arith, a, some, all)

  abbrev Simple : Tree → Type 0
  Simple x = HasFew n x × (HasFewTests n x × (RepeatsNone x × ItemLabels (λ l. l < labels) x))

  item_counted : (x : Tree) → Simple x → Counts most most most (plain_item slot x)
  item_counted (Evaluate e) h = let a = h.0 in omega (arith, a, some, all)
  item_counted (Return e) h = let a = h.0 in omega (arith, a, all)
  item_counted (If t a b) h = test_fits t h.1.0 h.1.1.0 h.1.1.1
  item_counted (While t a) h = test_fits t h.1.0 h.1.1.0 h.1.1.1
  item_counted (Do a t) h = test_fits t h.1.0 h.1.1.0 h.1.1.1
  item_counted (For first t u a) h = (used_more t h.0.0, some_more u h.0.1)
  item_counted (Switch s d) h = (
    let a = simple_selector slot (n + 1) labels (omega arith) (switch_kind s) s h.1.1.0 h.1.1.1
        (used f n (n + 1) (omega arith) (selector_source s) h.1.0) in omega (arith, a, some, all),
    subst (AllByRecursion (λ e. counted_at 3 e ≤ most)) (sym (plain_cases slot d)) (list_more 3 n most (all_cases d) (omega (arith, all)) h.0.1),
  )
  item_counted (Block a) h = tt
  item_counted (Local x es) h = listed_more es h.0
  item_counted (Arm l e) h = let a = armed_counted e h.0 in omega (arith, a, some, all)
  item_counted (Land l) h = omega (arith, some, all)
  item_counted _ h = tt

-- ---- a function with jumps

module _ (f h : Function) (m : IsMovedForm f h) (params : f.params ≤ length f.slots) (form : Everywhere (HasSourceForm f) (body_of f))
    (some : 0 < length m.flat_form.labels) (is_simple : IsSimple m.new) where
  abbrev before : ℕ
  before = most_counted (body_of f)

  -- six more for each label of the flat form
  abbrev most : ℕ
  most = before + 6 * length m.flat_form.labels

  abbrev H : Tree → Type 0
  H x = HasFew before x

  abbrev Of : Tree → Type 0
  Of x = Counts (before + 1) (before + 1 + 3) before x

  value : (e : ExpressionTree) → counted_at 2 e ≤ before + 1 → Value before e
  value e i = let t = truth_counted e in (omega (arith, i), omega (arith, i, t))

  from_counts : (x : Tree) → Of x → H x
  from_counts x i =
      facts_map (λ e. counted_at 2 e ≤ before + 1) (λ e. counted e ≤ before + 1 + 3) (λ e. counted_at 3 e ≤ before) (Value before)
      (λ e. counted e ≤ before + 6) (λ e. counted_at 3 e ≤ before) (λ e. most_if e ≤ before) (λ e. most_if e ≤ before) value
      (λ e j. omega (arith, j)) (λ e j. j) (λ e j. j) AnyNote AnyNote (λ bs j. j) x i

  dropped_less : (e : ExpressionTree) → Value before e → counted e ≤ before + 6
  dropped_less e i = let a = i.0 in omega (arith, a)

  one : Value before (number Int (pos 1))
  one = (omega arith, omega arith)

  case_value : (k : IntKind) (v : ℕ) (z : ℤ) → Value before (is_number k v (constant k z))
  case_value k v z = let a = case_counted k v z in (omega (arith, a), omega (arith, a))

  selects : (t : SelectorTree) (v : ℕ) → Value before (selector_source t) → IsVariable (setting f m.flat_form) v (switch_kind t) → v < length m.flat_form.slots
      → (counted (assign_number (switch_kind t) v (selector_source t)) ≤ before + 6) ×
      Tests (Value before) (λ e. counted e ≤ before + 6) (λ e. counted_at 3 e ≤ before) (λ e. most_if e ≤ before) AnyNote constant (switch_kind t) v
  selects t v s w b = (let a = s.0 in omega (arith, a), λ z. case_value (switch_kind t) v (converted (switch_kind t) z))

  abbrev Known : Tree → Type 0
  Known x = FromSource (Value before) (λ e. counted e ≤ before + 6) (λ e. counted_at 3 e ≤ before) (λ e. most_if e ≤ before) AnyNote dropped_less f h
      m one selects x

  from_source : (x : Tree) → Of x → Known x
  from_source (Local x None) g = (tt, tt)
  from_source (Local x (Some es)) g = (
    from_counts (Local x (Some es)) g,
    everywhere_map Of H from_counts (assigned (entry_or no_slot f.slots x).kind x (entry_or no_slot f.slots x).cells es)
        (assigned_counted (before + 1) before (entry_or no_slot f.slots x).kind x (entry_or no_slot f.slots x).cells es g),
  )
  from_source (Evaluate e) g = (from_counts (Evaluate e) g, tt)
  from_source (Return e) g = (from_counts (Return e) g, tt)
  from_source (If t a b) g = (from_counts (If t a b) g, tt)
  from_source (While t a) g = (from_counts (While t a) g, tt)
  from_source (Do a t) g = (from_counts (Do a t) g, tt)
  from_source (For first t u a) g = (from_counts (For first t u a) g, tt)
  from_source (Switch s c) g = (from_counts (Switch s c) g, tt)
  from_source (Block a) g = (tt, tt)
  from_source Break g = (tt, tt)
  from_source Continue g = (tt, tt)
  from_source (Goto l) g = (tt, tt)
  from_source (Mark l) g = (tt, tt)
  from_source (Arm l e) g = (from_counts (Arm l e) g, tt)
  from_source _ g = (tt, tt)

  source : Everywhere Known (body_of f)
  source = everywhere_map Of Known from_source (body_of f) (measured f before (before + 1) (omega arith) (body_of f) form (omega arith))

  moved : Everywhere H (trees_of m.new)
  moved = facts_moved (Value before) (λ e. counted e ≤ before + 6) (λ e. counted_at 3 e ≤ before) (λ e. most_if e ≤ before) AnyNote dropped_less f h m
      one selects source

  tests : Everywhere (HasFewTests before) (trees_of m.new)
  tests =
      let c = coded constant f.slots (length f.labels) (body_of f) in
      let p = numbered (marks (flat c (first_here (length f.slots)) Stays Stays NoArrival (body_of f))) c in
      let start : tested (trees_of (converted_list m.body)) ≡ tested (convert (flat_body constant f.slots (length f.labels) (body_of f))) =
      ap tested (converted_trees m.body ∙ ap convert (flat_trees f h m)) in
      let few = flat_tested p (first_here (length f.slots)) Stays Stays NoArrival (body_of f) in
      moved_tests before (omega (arith, start, few)) m.rewritten

  simple : Everywhere RepeatsNone (trees_of m.new)
  simple = none_from (λ l. barred l (trees_of m.new)) 0 (trees_of m.new) is_simple m.made.loops

  plain_counts : Everywhere (Counts most most most) (body_of h)
  plain_counts =
      let labels = length m.flat_form.labels in
      let a = decls f h m params in
      let b = items f h m params in
      let all = everywhere_both RepeatsNone (ItemLabels (λ l. l < labels)) (trees_of m.new) simple m.ranged.labels in
      let known = everywhere_both H (λ x. HasFewTests before x × (RepeatsNone x × ItemLabels (λ l. l < labels) x)) (trees_of m.new) moved
      (everywhere_both (HasFewTests before) (λ x. RepeatsNone x × ItemLabels (λ l. l < labels) x) (trees_of m.new) tests all) in
      let declarations =
      declarations_have (λ e. counted_at 2 e ≤ most) (λ e. counted e ≤ most) (λ e. counted_at 3 e ≤ most) (λ e. most_if e ≤ most) AnyNote
      (λ e i. omega (arith, i)) (omega arith) _ _ a
      (are_declared (reached_of f h m) (labels_of f h m)) in
      let others = plain_everywhere (slot_of f h m) (Simple (slot_of f h m) f before labels most some refl) (Counts most most most)
      (item_counted (slot_of f h m) f before labels most some refl) (trees_of m.new) known in
      subst (Everywhere (Counts most most most)) (sym (plain_trees f h m))
      (facts_tidy (λ e. counted_at 2 e ≤ most) (λ e. counted e ≤ most) (λ e. counted_at 3 e ≤ most) (λ e. most_if e ≤ most) AnyNote (join a b)
      (join_everywhere (Counts most most most) a b declarations others))

  pub moved_few : most_counted (body_of h) ≤ most
  moved_few =
      let plain = subst (Everywhere IsPlainItem) (sym (plain_trees f h m))
      (tidy_plain (body_before f h m params) (plain_of h (body_before f h m params) (moved_ready f h m params))) in
      few most (body_of h) (everywhere_both (Counts most most most) IsPlainItem (body_of h) plain_counts plain)
