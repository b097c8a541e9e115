-- The items of a resolved function are those that its flat form takes.
use Rattle.std.proofs.Common.{ℕ, zero, suc, ◌-◌, ◌≤◌, ◌<◌, Bool, true, List, [], ◌∷◌, ◌++◌, length, Option, Some, None, ◌≡◌, refl, sym, ap, subst, ◌∙◌, slice_get, arith}
use Rattle.std.specs.Prelude.{IfSome}
use Rattle.std.proofs.lemmas.List.Elements.{recursion_from_All}
use Rattle.std.proofs.lemmas.Option.{slice_get_within}
use Rattle.c_tree.specs.declared.tree.Slot.{Slot}
use Rattle.c_tree.specs.declared.tree.Function.{Function}
use Rattle.c_tree.specs.declared.tree.Top.{Top}
use Rattle.c_tree.specs.ExpressionTrees.{ExpressionTree}
use Rattle.c_tree.specs.TestTrees.{TestTree, Source, SelectorTree, Selects, Pick}
use Rattle.c_tree.specs.TextItems.{is_empty}
use Rattle.c_tree.specs.Slots.{ExpressionSlots, TestSlots, SelectorSlots, ItemSlots}
use Rattle.c_tree.specs.Trees.{Tree, Forest, Nil, Then, Sections, NoSection, Section, Evaluate, Return, If, While, Do, For, Switch, Block, Local, Break, Continue, Goto, Mark, Arm, Leap, Land, Arrival}
use Rattle.c_tree.specs.Everywhere.{Everywhere, EverywhereOf, EverywhereIn}
use Rattle.c_tree.specs.InRange.{IsSourceTest, IsSourceSelector, body_of}
use Rattle.c_tree.proofs.WellMoved.{everywhere_map, everywhere_both}
use Rattle.jump_meaning.specs.Code.{entry_or}
use Rattle.jump_meaning.specs.World.{no_slot}
use Rattle.flat_laws.specs.Loose.{Setting, In, AreIn}
use Rattle.flat_laws.specs.Parts as P
use Rattle.flat_laws.specs.Parts.{is_named}
use Rattle.flat_laws.specs.Source.{InTest, InSelector, AreInitialisers, IsSourceItem}
use Rattle.c_resolved_defs.specs.Within.{Each}
use Rattle.c_resolved_defs.specs.Form.{HasNoLoose, IsNotLoose, gathered, gathered_of, gathered_in, declared_slot, numbers_from, HasSourceForm, IsFirstPart, AreAlike}
use Rattle.c_resolved_defs.specs.Files as F
use Rattle.c_resolved_defs.specs.Limits.{FlatCounts}
use Rattle.c_resolved_defs.specs.Resolved.{IsResolvedFunction, IsInitialised}
use Rattle.c_resolved_laws.specs.Laws.{IsSettingOf}
use Rattle.c_resolved_laws.proofs.LiveGotos.{NamesLive, named_live}
use Rattle.c_resolved_laws.proofs.Ranged.{the_some, each_left, each_right, function_ranged}

-- ---- a fact of each declared slot

module _ (Q : ℕ → Type 0) where
  abbrev pub Declared : Tree → Type 0
  Declared x = Each Q (declared_slot x)

  mutual
    pub declared : (xs : Forest) → Each Q (gathered declared_slot xs) → Everywhere Declared xs
    declared Nil h = tt
    declared (Then x xs) h = (
      declared_of x (each_left Q (gathered_of declared_slot x) (gathered declared_slot xs) h),
      declared xs (each_right Q (gathered_of declared_slot x) (gathered declared_slot xs) h),
    )

    declared_of : (x : Tree) → Each Q (gathered_of declared_slot x) → EverywhereOf Declared x
    declared_of (If t a b) h = (
      tt,
      declared a (each_left Q (gathered declared_slot a) (gathered declared_slot b) h),
      declared b (each_right Q (gathered declared_slot a) (gathered declared_slot b) h),
    )
    declared_of (While t a) h = (tt, declared a h)
    declared_of (Do a t) h = (tt, declared a h)
    declared_of (For first t u a) h = (
      tt,
      declared first (each_left Q (gathered declared_slot first) (gathered declared_slot a) h),
      declared a (each_right Q (gathered declared_slot first) (gathered declared_slot a) h),
    )
    declared_of (Switch s c) h = (tt, declared_in c h)
    declared_of (Block a) h = (tt, declared a h)
    declared_of _ h = h

    declared_in : (c : Sections) → Each Q (gathered_in declared_slot c) → EverywhereIn Declared c
    declared_in NoSection h = tt
    declared_in (Section cases default a ends c) h = (
      declared a (each_left Q (gathered declared_slot a) (gathered_in declared_slot c) h),
      declared_in
          c (each_right Q (gathered declared_slot a) (gathered_in declared_slot c) h),
    )

numbers_from_on : (m i n : ℕ) → m ≤ i → Each (λ x. m ≤ x) (numbers_from i n)
numbers_from_on m i zero h = tt
numbers_from_on m i (suc n) h = (h, numbers_from_on m (suc i) n (grind (arith)))

-- ---- first parts have no nested case labels

alike_calm : (ss : List Slot) (s : Slot) (xs : Forest) → AreAlike ss s xs → P.arrivals xs ≡ []
alike_calm ss s Nil h = refl
alike_calm ss s (Then (Local k given) xs) h = alike_calm ss s xs h.1
alike_calm ss s (Then _ xs) h = absurd h

first_calm : (ss : List Slot) (xs : Forest) → IsFirstPart ss xs → P.arrivals xs ≡ []
first_calm ss Nil h = refl
first_calm ss (Then (Evaluate e) Nil) h = refl
first_calm ss (Then (Local k given) xs) h = let s = the_some _ (slice_get ss k) h in alike_calm ss s.0 xs s.2
first_calm ss _ h = absurd h

-- ---- no nested case label is outside of a switch

no_more : {A : Type 0} (xs ys : List A) → xs ≡ [] → ys ≡ [] → xs ++ ys ≡ []
no_more xs ys e f = subst (λ zs. zs ++ ys ≡ []) (sym e) f

mutual
  pub none_loose : (xs : Forest) → HasNoLoose xs → P.arrivals xs ≡ []
  none_loose Nil h = refl
  none_loose (Then x xs) h = no_more (P.arrivals_in x) (P.arrivals xs) (none_loose_of x h.0) (none_loose xs h.1)

  none_loose_of : (x : Tree) → IsNotLoose x → P.arrivals_in x ≡ []
  none_loose_of (If t a b) h = no_more (P.arrivals a) (P.arrivals b) (none_loose a h.0) (none_loose b h.1)
  none_loose_of (While t a) h = none_loose a h
  none_loose_of (Do a t) h = none_loose a h
  none_loose_of (For first t u a) h = none_loose a h
  none_loose_of (Block a) h = none_loose a h
  none_loose_of (Arrival e) h = absurd h
  none_loose_of _ h = refl

-- ---- items

pub slot_there : (ss : List Slot) (x : ℕ) (r : Slot) → slice_get ss x ≡ Some r → slice_get ss x ≡ Some (entry_or no_slot ss x)
slot_there [] x r e = let h : x < 0 = slice_get_within [] x r e in grind (arith)
slot_there (s ∷ ss) zero r e = refl
slot_there (s ∷ ss) (suc x) r e = slot_there ss x r e

not_one : (n : ℕ) → n ≡ 0 → n ≡ 1 → ⊥
not_one n e h = grind (arith)

module _ (f : Function) (s : Setting) (live : ℕ → Bool) (g : IsSettingOf s f) where
  in_old : (e : ExpressionTree) → ExpressionSlots (λ x. x < length f.slots) e → In s e
  in_old e h = subst (λ (ss : List Slot). ExpressionSlots (λ x. x < length ss) e) (sym g.old) h

  some_in : (o : Option ExpressionTree) → IfSome o (ExpressionSlots (λ x. x < length f.slots)) → IfSome o (In s)
  some_in None h = tt
  some_in (Some e) h = in_old e h

  all_in : (es : List ExpressionTree) → Each (ExpressionSlots (λ x. x < length f.slots)) es → AreIn s es
  all_in [] h = tt
  all_in (e ∷ es) h = (in_old e h.0, all_in es h.1)

  test_in : (t : TestTree) → IsSourceTest t → TestSlots (λ x. x < length f.slots) t → InTest s t
  test_in (Source e) u h = in_old e h
  test_in _ u h = absurd u

  selector_in : (t : SelectorTree) → IsSourceSelector t → SelectorSlots (λ x. x < length f.slots) t → InSelector s t
  selector_in (Selects e) u h = in_old e h
  selector_in (Pick l k t) u h = absurd u

  initialisers : (c : Option ℕ) (es : List ExpressionTree) → F.AreInitialisers 1024 c es → AreInitialisers c es
  initialisers None [] h = absurd (not_one 0 refl h)
  initialisers None (e ∷ []) h = tt
  initialisers None (e ∷ d ∷ es) h = let i : suc (suc (length es)) ≡ 1 = h in grind (arith)
  initialisers (Some n) es h = h.0

  abbrev Known : Tree → Type 0
  Known x = (HasSourceForm f x × ItemSlots (λ y. y < length f.slots) x) × (IsInitialised f.slots x × (Declared (λ y. f.params ≤ y) x × NamesLive live x))

  local_source : (x : ℕ) (given : Option (List ExpressionTree)) → Known (Local x given) → IsSourceItem s live (Local x given)
  local_source x None h = tt
  local_source x (Some es) h =
      let r = the_some _ (slice_get f.slots x) h.1.0 in
      let there = sym r.1 ∙ slot_there f.slots x r.0 r.1 in
      let below = slice_get_within f.slots x r.0 r.1 in (
        (subst (λ n. n ≤ x) (sym g.params) h.1.1.0.0, subst (λ (ss : List Slot). x < length ss) (sym g.old) below),
        subst (λ c. AreInitialisers c es) (ap cells_in there ∙ sym (g.cells x below)) (initialisers r.0.cells es r.2),
        all_in es (recursion_from_All (ExpressionSlots (λ y. y < length f.slots)) es h.0.1.1),
      )
    where
      cells_in : Option Slot → Option ℕ
      cells_in None = None
      cells_in (Some t) = t.cells

  item_source : (x : Tree) → Known x → IsSourceItem s live x
  item_source (Evaluate e) h = in_old e h.0.1
  item_source (Return e) h = some_in e h.0.1
  item_source (If t a b) h = test_in t h.0.0 h.0.1
  item_source (While t a) h = test_in t h.0.0 h.0.1
  item_source (Do a t) h = test_in t h.0.0 h.0.1
  item_source (For first t u a) h = (some_in t h.0.1.0, some_in u h.0.1.1, ap is_empty (first_calm f.slots first h.0.0))
  item_source (Switch t c) h = selector_in t h.0.0.1 h.0.1.0
  item_source (Block a) h = tt
  item_source (Local x given) h = local_source x given h
  item_source Break h = tt
  item_source Continue h = tt
  item_source (Goto l) h = h.1.1.1
  item_source (Mark l) h = tt
  item_source (Arm l e) h = h.0.0
  item_source (Leap l) h = h.0.0
  item_source (Land l) h = h.0.0
  item_source _ h = tt

-- each slot that a body declares is none of a parameter
pub function_declared : (counts : FlatCounts) (ts : List Top) (f : Function) → IsResolvedFunction counts ts f →
    Everywhere (Declared (λ y. f.params ≤ y)) (body_of f)
function_declared counts ts f r =
    declared (λ y. f.params ≤ y) (body_of f) (subst (Each (λ y. f.params ≤ y)) (sym r.form.slots)
    (numbers_from_on f.params f.params (length f.slots - f.params) (grind (arith))))

pub function_source : (counts : FlatCounts) (ts : List Top) (f : Function) (s : Setting) → IsResolvedFunction counts ts f → IsSettingOf s f →
    Everywhere (IsSourceItem s (is_named (body_of f))) (body_of f)
function_source counts ts f s r g =
    let a = body_of f in
    let live = is_named a in
    let D = Declared (λ y. f.params ≤ y) in
    everywhere_map (Known f s live g) (IsSourceItem s live) (item_source f s live g) a
    (everywhere_both (λ x. HasSourceForm f x × ItemSlots (λ y. y < length f.slots) x) (λ x. IsInitialised f.slots x × (D x × NamesLive live x)) a
    (everywhere_both (HasSourceForm f) (ItemSlots (λ y. y < length f.slots)) a r.form.items (function_ranged counts ts f r).slots)
    (everywhere_both (IsInitialised f.slots) (λ x. D x × NamesLive live x) a r.initialised
    (everywhere_both D (NamesLive live) a (function_declared counts ts f r) (named_live a))))

pub function_calm : (counts : FlatCounts) (ts : List Top) (f : Function) → IsResolvedFunction counts ts f → is_empty (P.arrivals (body_of f)) ≡ true
function_calm counts ts f r = ap is_empty (none_loose (body_of f) r.form.cases)
