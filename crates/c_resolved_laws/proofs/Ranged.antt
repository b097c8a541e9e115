-- A resolved program is in range, and so steady.
use Rattle.std.proofs.Common.{ℕ, zero, suc, ◌+◌, ◌≤◌, ◌<◌, List, [], ◌∷◌, ◌++◌, length, Option, Some, None, ◌≡◌, refl, sym, subst, All, slice_get, arith}
use Rattle.std.specs.Prelude.{IfSome, IsSomeAnd}
use Rattle.std.proofs.lemmas.List.Elements.{All-from_recursion}
use Rattle.std.proofs.lemmas.Option.{slice_get_within}
use Rattle.c_tree.specs.declared.tree.Slot.{Slot}
use Rattle.c_tree.specs.declared.tree.Home.{Home}
use Rattle.c_tree.specs.declared.tree.Home.TheVariants as H
use Rattle.c_tree.specs.declared.tree.Function.{Function}
use Rattle.c_tree.specs.declared.tree.Top.{Top}
use Rattle.c_tree.specs.declared.tree.Top.TheVariants as T
use Rattle.c_tree.specs.declared.tree.Program.{Program}
use Rattle.c_types.specs.declared.kinds.IntKind.{IntKind}
use Rattle.c_tree.specs.ExpressionTrees.{ExpressionTree, PlaceTree, Arguments, Typed, Var, Cell, Number, Character, EnumName, Text, Array, Read, Unary, Cast, Binary, Conditional, Assign, Update, Count, Comma, Call, NoArgument, Argument}
use Rattle.c_tree.specs.TestTrees.{TestTree, Source, On, Off, AndOff, OrOn, SelectorTree, Selects, Pick}
use Rattle.c_tree.specs.Trees.{Tree, Forest, Nil, Then, Sections, NoSection, Section, Evaluate, Return, If, While, Do, For, Switch, Block, Local, Break, Continue, Goto, Mark, Arm, Leap, Land, Arrival, Note}
use Rattle.c_tree.specs.Everywhere.{Everywhere, EverywhereOf, EverywhereIn}
use Rattle.c_tree.specs.Labels.{TestLabels, SelectorLabels, ItemLabels}
use Rattle.c_tree.specs.Slots.{HomeSlots, ExpressionSlots, PlaceSlots, ArgumentSlots, TestSlots, SelectorSlots, CaseSlots, ItemSlots}
use Rattle.c_tree.specs.Cases.{selector_source}
use Rattle.c_tree.specs.InRange.{IsUnguarded, IsSourceTest, IsSourceSelector, IsInRange, IsTopInRange, IsProgramInRange, body_of}
use Rattle.c_tree.proofs.WellMoved.{everywhere_map, everywhere_both}
use Rattle.jump_meaning.specs.Steady.{IsSteady}
use Rattle.jump_meaning.specs.Laws.{IsTopUnflat}
use Rattle.jump_meaning.proofs.UnguardedPrograms.{steady_laws}
use Rattle.c_resolved_defs.specs.Within.{Each, Within, PlaceWithin, ArgumentsWithin, TestExpression, CaseExpressions, ItemExpressions}
use Rattle.c_resolved_defs.specs.Names.{Names, variable}
use Rattle.c_resolved_defs.specs.Kinds.{KindAgrees, PlaceAgrees, ItemAgrees}
use Rattle.c_resolved_defs.specs.Form.{HasSourceForm, gathered, gathered_of, gathered_in, marked_label, numbers_from}
use Rattle.c_resolved_defs.specs.Limits.{FlatCounts}
use Rattle.c_resolved_defs.specs.Resolved.{IsResolvedFunction, IsResolvedTop, IsResolvedWith, IsInitialised, names_in}

-- ---- lists

pub each_map : {A : Type 0} (P Q : A → Type 0) → ((a : A) → P a → Q a) → (xs : List A) → Each P xs → Each Q xs
each_map P Q f [] h = tt
each_map P Q f (x ∷ xs) h = (f x h.0, each_map P Q f xs h.1)

pub each_left : {A : Type 0} (P : A → Type 0) (xs ys : List A) → Each P (xs ++ ys) → Each P xs
each_left P [] ys h = tt
each_left P (x ∷ xs) ys h = (h.0, each_left P xs ys h.1)

pub each_right : {A : Type 0} (P : A → Type 0) (xs ys : List A) → Each P (xs ++ ys) → Each P ys
each_right P [] ys h = h
each_right P (x ∷ xs) ys h = each_right P xs ys h.1

pub if_some_map : {A : Type 0} (P Q : A → Type 0) → ((a : A) → P a → Q a) → (o : Option A) → IfSome o P → IfSome o Q
if_some_map P Q f None h = tt
if_some_map P Q f (Some a) h = f a h

-- ---- slots

-- what is there, and the fact of it
pub the_some : {A : Type 0} (P : A → Type 0) (o : Option A) → IsSomeAnd o P → (a : A) × (o ≡ Some a) × P a
the_some P None h = absurd h
the_some P (Some a) h = (a, refl, h)

module _ (n : Names) where
  abbrev Below : ℕ → Type 0
  Below x = x < length n.slots

  pub home_below : (P : Slot → Type 0) (h : Home) → IsSomeAnd (variable n h) P → HomeSlots Below h
  home_below P (H.Global m) i = tt
  home_below P (H.Slot x) i = let s = the_some P (slice_get n.slots x) i in slice_get_within n.slots x s.0 s.1

  mutual
    pub below : (x : ExpressionTree) → Within (KindAgrees n) x → ExpressionSlots Below x
    below (Typed kind (Number z)) h = tt
    below (Typed kind (Character b)) h = tt
    below (Typed kind (EnumName m z)) h = tt
    below (Typed kind (Text bs)) h = tt
    below (Typed kind (Array a)) h = home_below _ a h.0
    below (Typed kind (Read at)) h = place_below kind at h.0 h.1
    below (Typed kind (Unary op a)) h = below a h.1
    below (Typed kind (Cast a)) h = below a h.1
    below (Typed kind (Binary op a b)) h = (below a h.1.0, below b h.1.1)
    below (Typed kind (Conditional a b c)) h = (below a h.1.0, below b h.1.1, below c h.1.2)
    below (Typed kind (Assign at a)) h = (place_below kind at h.0.0 h.1.0, below a h.1.1)
    below (Typed kind (Update op at a)) h = (place_below kind at h.0.0 h.1.0, below a h.1.1)
    below (Typed kind (Count at up after)) h = place_below kind at h.0 h.1
    below (Typed kind (Comma a b)) h = (below a h.1.0, below b h.1.1)
    below (Typed kind (Call m xs)) h = arguments_below xs h.1

    place_below : (kind : Option IntKind) (at : PlaceTree) → PlaceAgrees n kind at → PlaceWithin (KindAgrees n) at → PlaceSlots Below at
    place_below kind (Var h) i w = home_below _ h i
    place_below kind (Cell h a) i w = (home_below _ h i.0, below a w)

    arguments_below : (xs : Arguments) → ArgumentsWithin (KindAgrees n) xs → ArgumentSlots Below xs
    arguments_below NoArgument h = tt
    arguments_below (Argument x xs) h = (below x h.0, arguments_below xs h.1)

  all_below : (xs : List ExpressionTree) → Each (Within (KindAgrees n)) xs → All (ExpressionSlots Below) xs
  all_below xs h = All-from_recursion (ExpressionSlots Below) xs (each_map (Within (KindAgrees n)) (ExpressionSlots Below) below xs h)

  test_below : (t : TestTree) → TestExpression (Within (KindAgrees n)) t → TestSlots Below t
  test_below (Source e) h = below e h
  test_below (On l) h = tt
  test_below (Off l) h = tt
  test_below (AndOff l t) h = test_below t h
  test_below (OrOn l t) h = test_below t h

  selector_below : (s : SelectorTree) → Within (KindAgrees n) (selector_source s) → SelectorSlots Below s
  selector_below (Selects e) h = below e h
  selector_below (Pick l k s) h = selector_below s h

  cases_below : (c : Sections) → CaseExpressions (Within (KindAgrees n)) c → CaseSlots Below c
  cases_below NoSection h = tt
  cases_below (Section cases default a ends c) h = (all_below cases h.0, cases_below c h.1)

  some_below : (o : Option ExpressionTree) → IfSome o (Within (KindAgrees n)) → IfSome o (ExpressionSlots Below)
  some_below o h = if_some_map (Within (KindAgrees n)) (ExpressionSlots Below) below o h

  item_below : (x : Tree) → ItemExpressions (Within (KindAgrees n)) x × IsInitialised n.slots x → ItemSlots Below x
  item_below (Evaluate e) h = below e h.0
  item_below (Return e) h = some_below e h.0
  item_below (If t a b) h = test_below t h.0
  item_below (While t a) h = test_below t h.0
  item_below (Do a t) h = test_below t h.0
  item_below (For first t u a) h = (some_below t h.0.0, some_below u h.0.1)
  item_below (Switch s c) h = (selector_below s h.0.0, cases_below c h.0.1)
  item_below (Block a) h = tt
  item_below (Local k given) h =
      let s = the_some _ (slice_get n.slots k) h.1 in
      (slice_get_within n.slots k s.0 s.1, if_some_map (Each (Within (KindAgrees n))) (All (ExpressionSlots Below)) all_below given h.0)
  item_below Break h = tt
  item_below Continue h = tt
  item_below (Goto l) h = tt
  item_below (Mark l) h = tt
  item_below (Arm l e) h = some_below e h.0
  item_below (Leap l) h = tt
  item_below (Land l) h = tt
  item_below (Arrival e) h = some_below e h.0
  item_below (Note bs) h = tt

-- ---- labels

-- a fact of each number that is gathered is one of each label
module _ (Q : ℕ → Type 0) where
  abbrev pub Marked : Tree → Type 0
  Marked x = Each Q (marked_label x)

  mutual
    pub marked : (xs : Forest) → Each Q (gathered marked_label xs) → Everywhere Marked xs
    marked Nil h = tt
    marked (Then x xs) h = (
      marked_of x (each_left Q (gathered_of marked_label x) (gathered marked_label xs) h),
      marked xs (each_right Q (gathered_of marked_label x) (gathered marked_label xs) h),
    )

    marked_of : (x : Tree) → Each Q (gathered_of marked_label x) → EverywhereOf Marked x
    marked_of (If t a b) h = (
      tt,
      marked a (each_left Q (gathered marked_label a) (gathered marked_label b) h),
      marked b (each_right Q (gathered marked_label a) (gathered marked_label b) h),
    )
    marked_of (While t a) h = (tt, marked a h)
    marked_of (Do a t) h = (tt, marked a h)
    marked_of (For first t u a) h = (
      tt,
      marked first (each_left Q (gathered marked_label first) (gathered marked_label a) h),
      marked a (each_right Q (gathered marked_label first) (gathered marked_label a) h),
    )
    marked_of (Switch s c) h = (tt, marked_in c h)
    marked_of (Block a) h = (tt, marked a h)
    marked_of _ h = h

    marked_in : (c : Sections) → Each Q (gathered_in marked_label c) → EverywhereIn Marked c
    marked_in NoSection h = tt
    marked_in (Section cases default a ends c) h = (
      marked a (each_left Q (gathered marked_label a) (gathered_in marked_label c) h),
      marked_in c
          (each_right Q (gathered marked_label a) (gathered_in marked_label c) h),
    )

-- numbers from i on are below i + n
pub numbers_below : (i n m : ℕ) → i + n ≤ m → Each (λ l. l < m) (numbers_from i n)
numbers_below i zero m h = tt
numbers_below i (suc n) m h = (grind (arith), numbers_below (suc i) n m (grind (arith)))

source_labels : (P : ℕ → Type 0) (t : TestTree) → IsSourceTest t → TestLabels P t
source_labels P (Source e) h = tt
source_labels P _ h = absurd h

source_selector_labels : (P : ℕ → Type 0) (s : SelectorTree) → IsSourceSelector s → SelectorLabels P s
source_selector_labels P (Selects e) h = tt
source_selector_labels P (Pick l k s) h = absurd h

pub unguarded : (f : Function) (x : Tree) → HasSourceForm f x → IsUnguarded x
unguarded f (For first t u a) h = tt
unguarded f (Switch s c) h = h.1
unguarded f (Goto l) h = tt
unguarded f _ h = h

module _ (f : Function) where
  abbrev IsLabel : ℕ → Type 0
  IsLabel l = l < length f.labels

  item_labels : (x : Tree) → HasSourceForm f x × Marked IsLabel x → ItemLabels IsLabel x
  item_labels (Goto l) h = h.0
  item_labels (Mark l) h = h.1.0
  item_labels (If t a b) h = source_labels IsLabel t h.0
  item_labels (While t a) h = source_labels IsLabel t h.0
  item_labels (Do a t) h = source_labels IsLabel t h.0
  item_labels (Switch s c) h = source_selector_labels IsLabel s h.0.1
  item_labels (Arm l e) h = absurd h.0
  item_labels (Leap l) h = absurd h.0
  item_labels (Land l) h = absurd h.0
  item_labels _ h = tt

-- ---- functions and programs

module _ (counts : FlatCounts) (ts : List Top) where
  pub function_ranged : (f : Function) → IsResolvedFunction counts ts f → IsInRange f
  function_ranged f r =
      let n = names_in ts f in
      let a = body_of f in
      record {
        parameters = r.form.parameters;
        slots =
            everywhere_map (λ x. ItemExpressions (Within (KindAgrees n)) x × IsInitialised f.slots x) (ItemSlots (λ x. x < length f.slots)) (item_below n) a
            (everywhere_both (ItemExpressions (Within (KindAgrees n))) (IsInitialised f.slots) a
            (everywhere_map (ItemAgrees n) (ItemExpressions (Within (KindAgrees n))) (λ x h. h.kinds) a r.kinds) r.initialised);
        labels =
            everywhere_map (λ x. HasSourceForm f x × Marked (IsLabel f) x) (ItemLabels (IsLabel f)) (item_labels f) a
            (everywhere_both (HasSourceForm f) (Marked (IsLabel f)) a r.form.items
            (marked (IsLabel f) a (subst (Each (IsLabel f)) (sym r.form.labels) (numbers_below 0 (length f.labels) (length f.labels) (grind (arith))))));
        unguarded = λ e. everywhere_map (HasSourceForm f) IsUnguarded (unguarded f) a r.form.items;
      }

  top_ranged : (t : Top) → IsResolvedTop counts ts t → IsTopInRange t
  top_ranged (T.Function f) r = function_ranged f r
  top_ranged _ r = tt

  top_unflat : (t : Top) → IsResolvedTop counts ts t → IsTopUnflat t
  top_unflat (T.Function f) r = r.form.unflat
  top_unflat _ r = tt

pub resolved_ranged : (counts : FlatCounts) (p : Program) → IsResolvedWith counts p → IsProgramInRange p
resolved_ranged counts p r = All-from_recursion IsTopInRange p.tops
    (each_map (IsResolvedTop counts p.tops) IsTopInRange (top_ranged counts p.tops) p.tops r.tops)

pub resolved_unflat : (counts : FlatCounts) (p : Program) → IsResolvedWith counts p → All IsTopUnflat p.tops
resolved_unflat counts p r = All-from_recursion IsTopUnflat p.tops (each_map (IsResolvedTop counts p.tops) IsTopUnflat (top_unflat counts p.tops) p.tops r.tops)

pub resolved_steady : (counts : FlatCounts) (p : Program) → IsResolvedWith counts p → IsSteady p
resolved_steady counts p r = steady_laws.of_programs p (resolved_ranged counts p r) (resolved_unflat counts p r)
