-- The plain form of a program that is ready is in range.
use Rattle.std.proofs.Common.{ℕ, pos, ℤ, Bool, true, false, not, ◌&&◌, cond, Option, Some, None, List, [], ◌∷◌, ◌++◌, All}
use Rattle.std.specs.Prelude.{IfSome, int_le}
use Rattle.std.specs.List.{AllByRecursion}
use Rattle.std.proofs.lemmas.List.Elements.{All-from_recursion, recursion_from_All}
use Rattle.c_types.specs.declared.kinds.IntKind.{IntKind}
use Rattle.c_types.specs.Numbers.{least}
use Rattle.c_tree.specs.declared.tree.Home.TheVariants as H
use Rattle.c_tree.specs.declared.tree.Home.{Home}
use Rattle.c_tree.specs.ExpressionTrees as E
use Rattle.c_tree.specs.ExpressionTrees.{ExpressionTree}
use Rattle.c_tree.specs.TestTrees.{TestTree, Source, On, Off, AndOff, OrOn, SelectorTree, Selects, Pick}
use Rattle.c_tree.specs.Trees.{Tree, Forest, Nil, Then, Sections, NoSection, Section, Evaluate, Return, If, While, Do, For, Switch, Block, Local, Break, Continue, Goto, Mark, Arm, Leap, Land, Arrival, Note, join}
use Rattle.c_tree.specs.Everywhere.{Everywhere, EverywhereOf, EverywhereIn}
use Rattle.c_tree.specs.Labels.{ItemLabels, TestLabels, SelectorLabels}
use Rattle.c_tree.specs.Slots.{HomeSlots, PlaceSlots, NodeSlots, ArgumentSlots, ExpressionSlots, TestSlots, SelectorSlots, CaseSlots, ItemSlots}
use Rattle.c_tree.specs.InRange.{IsUnguarded}
use Rattle.c_tree.specs.WellMade.{IsConverted}
use Rattle.plain_laws.specs.Laws.{IsNoLeap}
use Rattle.c_tree.specs.Numerals.{least_constant, constant}
use Rattle.plain_laws.specs.GuardSlots.{is_truth, plain_test, picked, armed, plain_list, plain_item, plain_sections}
use Rattle.plain_laws.specs.Tidied.{last_break, without_last, give, tidy, tidy_item, tidy_sections}
use Rattle.plain_laws.specs.Slotted.{ArmLabels, variable, guarding, AreDeclarations, none, one_more}

-- ---- sections in their plain form

without_everywhere : (P : Tree → Type 0) (a : Forest) → Everywhere P a → Everywhere P (without_last a)
without_everywhere P Nil h = tt
without_everywhere P (Then x Nil) h = tt
without_everywhere P (Then x (Then y ys)) h = (h.0, without_everywhere P (Then y ys) h.1)

give_everywhere : (P : Tree → Type 0) (cases : List ExpressionTree) (default : Bool) (a : Forest) (ends : Bool) (c : Sections) → Everywhere P a →
    EverywhereIn P c → EverywhereIn P (give cases default a ends c)
give_everywhere P cases default Nil false NoSection h g = (h, g)
give_everywhere P cases default Nil false (Section cases' default' b ends c) h g = g
give_everywhere P cases default Nil true c h g = (h, g)
give_everywhere P cases default (Then x a) ends c h g = (h, g)

put_everywhere : (P : Tree → Type 0) (b : Bool) (cases : List ExpressionTree) (default : Bool) (a : Forest) (ends : Bool) (c : Sections) →
    Everywhere P a → EverywhereIn P c
    → EverywhereIn P (cond b (give cases default (without_last a) true c) (give cases default a ends c))
put_everywhere P true cases default a ends c h g = give_everywhere P cases default (without_last a) true c (without_everywhere P a h) g
put_everywhere P false cases default a ends c h g = give_everywhere P cases default a ends c h g

-- a fact that an item keeps
module _ (P : Tree → Type 0) (keeps : (x : Tree) → P x → P (tidy_item x)) where
  mutual
    pub tidy_everywhere : (a : Forest) → Everywhere P a → Everywhere P (tidy a)
    tidy_everywhere Nil h = tt
    tidy_everywhere (Then x a) h = (tidy_everywhere_of x h.0, tidy_everywhere a h.1)

    tidy_everywhere_of : (x : Tree) → EverywhereOf P x → EverywhereOf P (tidy_item x)
    tidy_everywhere_of (If t a b) h = (keeps (If t a b) h.0, tidy_everywhere a h.1, tidy_everywhere b h.2)
    tidy_everywhere_of (While t a) h = (keeps (While t a) h.0, tidy_everywhere a h.1)
    tidy_everywhere_of (Do a t) h = (keeps (Do a t) h.0, tidy_everywhere a h.1)
    tidy_everywhere_of (For first t u a) h = (keeps (For first t u a) h.0, tidy_everywhere first h.1, tidy_everywhere a h.2)
    tidy_everywhere_of (Switch s c) h = (keeps (Switch s c) h.0, tidy_everywhere_in c h.1)
    tidy_everywhere_of (Block a) h = (keeps (Block a) h.0, tidy_everywhere a h.1)
    tidy_everywhere_of _ h = h

    tidy_everywhere_in : (c : Sections) → EverywhereIn P c → EverywhereIn P (tidy_sections c)
    tidy_everywhere_in NoSection h = tt
    tidy_everywhere_in (Section cases default a ends c) h = put_everywhere P (not ends && last_break (tidy a)) cases default (tidy a) ends
        (tidy_sections c) (tidy_everywhere a h.0) (tidy_everywhere_in c h.1)

-- ---- what holds of the items of a plain list

module _ (slot : ℕ → ℕ) (P R : Tree → Type 0) (becomes : (x : Tree) → P x → R (plain_item slot x)) where
  mutual
    pub plain_everywhere : (a : Forest) → Everywhere P a → Everywhere R (plain_list slot a)
    plain_everywhere Nil h = tt
    plain_everywhere (Then x a) h = (plain_everywhere_of x h.0, plain_everywhere a h.1)

    plain_everywhere_of : (x : Tree) → EverywhereOf P x → EverywhereOf R (plain_item slot x)
    plain_everywhere_of (If t a b) h = (becomes (If t a b) h.0, plain_everywhere a h.1, plain_everywhere b h.2)
    plain_everywhere_of (While t a) h = (becomes (While t a) h.0, plain_everywhere a h.1)
    plain_everywhere_of (Do a t) h = (becomes (Do a t) h.0, plain_everywhere a h.1)
    plain_everywhere_of (For first t u a) h = (becomes (For first t u a) h.0, plain_everywhere first h.1, plain_everywhere a h.2)
    plain_everywhere_of (Switch s c) h = (becomes (Switch s c) h.0, plain_everywhere_in c h.1)
    plain_everywhere_of (Block a) h = (becomes (Block a) h.0, plain_everywhere a h.1)
    plain_everywhere_of (Evaluate e) h = becomes (Evaluate e) h
    plain_everywhere_of (Return e) h = becomes (Return e) h
    plain_everywhere_of (Local x es) h = becomes (Local x es) h
    plain_everywhere_of Break h = becomes Break h
    plain_everywhere_of Continue h = becomes Continue h
    plain_everywhere_of (Goto l) h = becomes (Goto l) h
    plain_everywhere_of (Mark l) h = becomes (Mark l) h
    plain_everywhere_of (Arm l e) h = becomes (Arm l e) h
    plain_everywhere_of (Leap l) h = becomes (Leap l) h
    plain_everywhere_of (Land l) h = becomes (Land l) h
    plain_everywhere_of (Arrival e) h = becomes (Arrival e) h
    plain_everywhere_of (Note bs) h = becomes (Note bs) h

    plain_everywhere_in : (c : Sections) → EverywhereIn P c → EverywhereIn R (plain_sections slot c)
    plain_everywhere_in NoSection h = tt
    plain_everywhere_in (Section cases default a ends c) h = (plain_everywhere a h.0, plain_everywhere_in c h.1)

pub join_everywhere : (P : Tree → Type 0) (a b : Forest) → Everywhere P a → Everywhere P b → Everywhere P (join a b)
join_everywhere P Nil b h g = g
join_everywhere P (Then x a) b h g = (h.0, join_everywhere P a b h.1 g)

-- ---- slots

module _ (P R : ℕ → Type 0) (f : (x : ℕ) → P x → R x) where
  home_map : (h : Home) → HomeSlots P h → HomeSlots R h
  home_map (H.Slot x) h = f x h
  home_map (H.Global m) h = tt

  mutual
    slots_map : (e : ExpressionTree) → ExpressionSlots P e → ExpressionSlots R e
    slots_map (E.Typed kind node) h = node_map node h

    place_map : (p : E.PlaceTree) → PlaceSlots P p → PlaceSlots R p
    place_map (E.Var h) i = home_map h i
    place_map (E.Cell h a) i = (home_map h i.0, slots_map a i.1)

    node_map : (n : E.NodeTree) → NodeSlots P n → NodeSlots R n
    node_map (E.Array h) i = home_map h i
    node_map (E.Read p) i = place_map p i
    node_map (E.Unary op a) i = slots_map a i
    node_map (E.Cast a) i = slots_map a i
    node_map (E.Binary op a b) i = (slots_map a i.0, slots_map b i.1)
    node_map (E.Conditional a b c) i = (slots_map a i.0, slots_map b i.1, slots_map c i.2)
    node_map (E.Assign p a) i = (place_map p i.0, slots_map a i.1)
    node_map (E.Update op p a) i = (place_map p i.0, slots_map a i.1)
    node_map (E.Count p up after) i = place_map p i
    node_map (E.Comma a b) i = (slots_map a i.0, slots_map b i.1)
    node_map (E.Call m xs) i = arguments_map xs i
    node_map _ i = tt

    arguments_map : (xs : E.Arguments) → ArgumentSlots P xs → ArgumentSlots R xs
    arguments_map E.NoArgument i = tt
    arguments_map (E.Argument x xs) i = (slots_map x i.0, arguments_map xs i.1)

  all_map : (es : List ExpressionTree) → All (ExpressionSlots P) es → All (ExpressionSlots R) es
  all_map es h = All-from_recursion (ExpressionSlots R) es (each es (recursion_from_All (ExpressionSlots P) es h))
    where
      each : (xs : List ExpressionTree) → AllByRecursion (ExpressionSlots P) xs → AllByRecursion (ExpressionSlots R) xs
      each [] g = tt
      each (x ∷ xs) g = (slots_map x g.0, each xs g.1)

  some_map : (o : Option ExpressionTree) → IfSome o (ExpressionSlots P) → IfSome o (ExpressionSlots R)
  some_map None h = h
  some_map (Some e) h = slots_map e h

  list_map : (o : Option (List ExpressionTree)) → IfSome o (All (ExpressionSlots P)) → IfSome o (All (ExpressionSlots R))
  list_map None h = h
  list_map (Some es) h = all_map es h

  -- variables for guards are slots of R
  module _ (slot : ℕ → ℕ) (Left : ℕ → Type 0) (new : (l : ℕ) → Left l → R (slot l)) where
    test_plain : (t : TestTree) → TestSlots P t → TestLabels Left t → ExpressionSlots R (plain_test slot t)
    test_plain (Source e) h g = slots_map e h
    test_plain (On l) h g = new l g
    test_plain (Off l) h g = new l g
    test_plain (AndOff l t) h g = (new l g.0, test_plain t h g.1)
    test_plain (OrOn l t) h g = (new l g.0, test_plain t h g.1)

    chosen_slots : (b : Bool) (x y : ExpressionTree) → ExpressionSlots R x → ExpressionSlots R y → ExpressionSlots R (cond b x y)
    chosen_slots true x y h g = h
    chosen_slots false x y h g = g

    constant_slots : (k : IntKind) (z : ℤ) → ExpressionSlots R (constant k z)
    constant_slots k z = chosen_slots (int_le (pos 0) z) _ _ tt (chosen_slots (int_le z (least k)) (least_constant k) _ (tt, tt) tt)

    picked_slots : (k : IntKind) (s : SelectorTree) → SelectorSlots P s → SelectorLabels Left s → ExpressionSlots R (picked slot k s)
    picked_slots k (Selects e) h g = slots_map e h
    picked_slots k (Pick l z s) h g = (new l g.0, constant_slots k z, picked_slots k s h g.1)

    armed_slots : (o : Option ExpressionTree) → IfSome o (ExpressionSlots P) → ExpressionSlots R (armed o)
    armed_slots None h = tt
    armed_slots (Some e) h = chosen_slots (is_truth e) e _ (slots_map e h) (slots_map e h, tt)

    case_map : (c : Sections) → CaseSlots P c → CaseSlots R c
    case_map NoSection h = tt
    case_map (Section cases default a ends c) h = (all_map cases h.0, case_map c h.1)

    case_plain : (c : Sections) → CaseSlots P c → CaseSlots R (plain_sections slot c)
    case_plain NoSection h = tt
    case_plain (Section cases default a ends c) h = (all_map cases h.0, case_plain c h.1)

    pub slots_plain : (x : Tree) → ItemSlots P x × ArmLabels Left x → ItemSlots R (plain_item slot x)
    slots_plain (Evaluate e) h = slots_map e h.0
    slots_plain (Return e) h = some_map e h.0
    slots_plain (If t a b) h = test_plain t h.0 h.1
    slots_plain (While t a) h = test_plain t h.0 h.1
    slots_plain (Do a t) h = test_plain t h.0 h.1
    slots_plain (For first t u a) h = (some_map t h.0.0, some_map u h.0.1)
    slots_plain (Switch s c) h = (picked_slots _ s h.0.0 h.1, case_plain c h.0.1)
    slots_plain (Local x es) h = (f x h.0.0, list_map es h.0.1)
    slots_plain (Arm l e) h = (new l h.1, armed_slots e h.0)
    slots_plain (Land l) h = (new l h.1, tt)
    slots_plain (Arrival e) h = some_map e h.0
    slots_plain _ h = tt

-- ---- facts that items keep when their sections get their plain form

all_join : (P : ExpressionTree → Type 0) (xs ys : List ExpressionTree) → All P xs → All P ys → All P (xs ++ ys)
all_join P xs ys h g = All-from_recursion P (xs ++ ys) (joined xs (recursion_from_All P xs h))
  where
    joined : (xs : List ExpressionTree) → AllByRecursion P xs → AllByRecursion P (xs ++ ys)
    joined [] h = recursion_from_All P ys g
    joined (x ∷ xs) h = (h.0, joined xs h.1)

module _ (P : ℕ → Type 0) where
  give_cases : (cases : List ExpressionTree) (default : Bool) (a : Forest) (ends : Bool) (c : Sections) → All (ExpressionSlots P) cases →
      CaseSlots P c → CaseSlots P (give cases default a ends c)
  give_cases cases default Nil false NoSection h g = (h, g)
  give_cases cases default Nil false (Section cases' default' b ends c) h g = (all_join (ExpressionSlots P) cases cases' h g.0, g.1)
  give_cases cases default Nil true c h g = (h, g)
  give_cases cases default (Then x a) ends c h g = (h, g)

  put_cases : (b : Bool) (cases : List ExpressionTree) (default : Bool) (a : Forest) (ends : Bool) (c : Sections) → All (ExpressionSlots P) cases →
      CaseSlots P c → CaseSlots P (cond b (give cases default (without_last a) true c) (give cases default a ends c))
  put_cases true cases default a ends c h g = give_cases cases default (without_last a) true c h g
  put_cases false cases default a ends c h g = give_cases cases default a ends c h g

  cases_tidy : (c : Sections) → CaseSlots P c → CaseSlots P (tidy_sections c)
  cases_tidy NoSection h = tt
  cases_tidy (Section cases default a ends c) h = put_cases (not ends && last_break (tidy a)) cases default (tidy a) ends (tidy_sections c) h.0
      (cases_tidy c h.1)

  pub slots_tidy : (x : Tree) → ItemSlots P x → ItemSlots P (tidy_item x)
  slots_tidy (Switch s c) h = (h.0, cases_tidy c h.1)
  slots_tidy (If t a b) h = h
  slots_tidy (While t a) h = h
  slots_tidy (Do a t) h = h
  slots_tidy (For first t u a) h = h
  slots_tidy (Block a) h = tt
  slots_tidy _ h = h

  pub labels_tidy : (x : Tree) → ItemLabels P x → ItemLabels P (tidy_item x)
  labels_tidy (Switch s c) h = h
  labels_tidy (If t a b) h = h
  labels_tidy (While t a) h = h
  labels_tidy (Do a t) h = h
  labels_tidy (For first t u a) h = h
  labels_tidy (Block a) h = h
  labels_tidy _ h = h

pub unguarded_tidy : (x : Tree) → IsUnguarded x → IsUnguarded (tidy_item x)
unguarded_tidy (Switch s c) h = h
unguarded_tidy (If t a b) h = h
unguarded_tidy (While t a) h = h
unguarded_tidy (Do a t) h = h
unguarded_tidy (For first t u a) h = h
unguarded_tidy (Block a) h = h
unguarded_tidy _ h = h

-- ---- labels and guards

pub labels_plain : (slot : ℕ → ℕ) (R : ℕ → Type 0) (x : Tree) → IsConverted x × IsNoLeap x → ItemLabels R (plain_item slot x)
labels_plain slot R (Goto l) h = absurd h.0
labels_plain slot R (Mark l) h = absurd h.0
labels_plain slot R (Leap l) h = absurd h.1
labels_plain slot R _ h = tt

pub unguarded_plain : (slot : ℕ → ℕ) (x : Tree) → IsNoLeap x → IsUnguarded (plain_item slot x)
unguarded_plain slot (Leap l) h = absurd h
unguarded_plain slot _ h = tt

-- ---- declarations

pub slots_declared : (R : ℕ → Type 0) (base end : ℕ) (a : Forest) → AreDeclarations base end a → Everywhere (ItemLabels R) a × Everywhere IsUnguarded a
slots_declared R base end Nil none = (tt, tt)
slots_declared R base end (Then x a) (one_more (variable y) r) = let i = slots_declared R base end a r in ((tt, i.0), (tt, i.1))
slots_declared R base end (Then x a) (one_more (guarding y h j) r) = let i = slots_declared R base end a r in ((tt, i.0), (tt, i.1))
