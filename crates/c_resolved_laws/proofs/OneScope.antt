-- A body without declarations sees the same names in all its lists: it is bound if each of its names is.
use Rattle.std.proofs.Common.{ℕ, List, Option, ◌≡◌, refl, sym, ◌∙◌, subst}
use Rattle.std.specs.Prelude.{IfSome}
use Rattle.c_tree.specs.declared.tree.Slot.{Slot}
use Rattle.c_tree.specs.ExpressionTrees.{ExpressionTree, PlaceTree, NodeTree, Arguments, Typed, Var, Cell, EnumName, Array, Read, Unary, Cast, Binary, Conditional, Assign, Update, Count, Comma, Call, NoArgument, Argument}
use Rattle.c_tree.specs.TestTrees.{TestTree, Source, On, Off, AndOff, OrOn}
use Rattle.c_tree.specs.Trees.{Tree, Forest, Nil, Then, Sections, NoSection, Section, Evaluate, Return, If, While, Do, For, Switch, Block, Local, Arm, Arrival}
use Rattle.c_tree.specs.Cases.{selector_source}
use Rattle.c_tree.specs.Everywhere.{Everywhere, EverywhereOf, EverywhereIn}
use Rattle.c_tree.specs.TextExpressions.{home_name}
use Rattle.c_resolved_defs.specs.Within.{Within, NodeWithin, PlaceWithin, ArgumentsWithin, TestExpression, CaseExpressions}
use Rattle.c_resolved_defs.specs.Scopes.{Scope, look_up, inside, behind, behind_all, NameIsBound, IsBound, ItemIsBound, AreBound, SectionsAreBound}
use Rattle.c_resolved_laws.specs.Laws.{BindsNothing}
use Rattle.c_resolved_laws.proofs.Ranged.{each_map, if_some_map}

-- ---- a fact of each part gives another

module _ (P Q : ExpressionTree → Type 0) (f : (x : ExpressionTree) → P x → Q x) where
  mutual
    pub within_map : (x : ExpressionTree) → Within P x → Within Q x
    within_map (Typed kind n) h = (f (Typed kind n) h.0, node_map n h.1)

    node_map : (n : NodeTree) → NodeWithin P n → NodeWithin Q n
    node_map (Read at) h = place_map at h
    node_map (Unary op a) h = within_map a h
    node_map (Cast a) h = within_map a h
    node_map (Binary op a b) h = (within_map a h.0, within_map b h.1)
    node_map (Conditional a b c) h = (within_map a h.0, within_map b h.1, within_map c h.2)
    node_map (Assign at a) h = (place_map at h.0, within_map a h.1)
    node_map (Update op at a) h = (place_map at h.0, within_map a h.1)
    node_map (Count at up after) h = place_map at h
    node_map (Comma a b) h = (within_map a h.0, within_map b h.1)
    node_map (Call m xs) h = arguments_map xs h
    node_map _ h = tt

    place_map : (at : PlaceTree) → PlaceWithin P at → PlaceWithin Q at
    place_map (Var h) i = tt
    place_map (Cell h a) i = within_map a i

    arguments_map : (xs : Arguments) → ArgumentsWithin P xs → ArgumentsWithin Q xs
    arguments_map NoArgument h = tt
    arguments_map (Argument x xs) h = (within_map x h.0, arguments_map xs h.1)

module _ (P Q : ExpressionTree → Type 0) (f : (x : ExpressionTree) → P x → Q x) where
  test_map : (t : TestTree) → TestExpression P t → TestExpression Q t
  test_map (Source e) h = f e h
  test_map (On l) h = tt
  test_map (Off l) h = tt
  test_map (AndOff l t) h = test_map t h
  test_map (OrOn l t) h = test_map t h

-- ---- the same names

module _ (slots : List Slot) (ss : List Scope) where
  abbrev SeesAs : List Scope → Type 0
  SeesAs ts = (m : List ℕ) → look_up ts m ≡ look_up ss m

  name_bound : (ts : List Scope) → SeesAs ts → (x : ExpressionTree) → NameIsBound slots ss x → NameIsBound slots ts x
  name_bound ts e (Typed kind (EnumName m z)) h = e m ∙ h
  name_bound ts e (Typed kind (Array a)) h = e (home_name slots a) ∙ h
  name_bound ts e (Typed kind (Read at)) h = e _ ∙ h
  name_bound ts e (Typed kind (Assign at a)) h = e _ ∙ h
  name_bound ts e (Typed kind (Update op at a)) h = e _ ∙ h
  name_bound ts e (Typed kind (Count at up after)) h = e _ ∙ h
  name_bound ts e (Typed kind (Call m xs)) h = e m ∙ h
  name_bound ts e _ h = tt

  bound : (ts : List Scope) → SeesAs ts → (x : ExpressionTree) → IsBound slots ss x → IsBound slots ts x
  bound ts e x h = within_map (NameIsBound slots ss) (NameIsBound slots ts) (name_bound ts e) x h

  some_bound : (ts : List Scope) → SeesAs ts → (o : Option ExpressionTree) → IfSome o (IsBound slots ss) → IfSome o (IsBound slots ts)
  some_bound ts e o h = if_some_map (IsBound slots ss) (IsBound slots ts) (bound ts e) o h

  abbrev Known : Tree → Type 0
  Known x = BindsNothing slots ss x

  -- nothing is bound behind
  same_behind : (ts : List Scope) (x : Tree) → EverywhereOf Known x → behind slots ts x ≡ ts
  same_behind ts (Local k given) h = absurd h.1
  same_behind ts _ h = refl

  same_behind_all : (xs : Forest) (ts : List Scope) → Everywhere Known xs → behind_all slots ts xs ≡ ts
  same_behind_all Nil ts h = refl
  same_behind_all (Then x xs) ts h = subst (λ us. behind_all slots us xs ≡ ts) (sym (same_behind ts x h.0)) (same_behind_all xs ts h.1)

  mutual
    item_bound : (x : Tree) (ts : List Scope) → SeesAs ts → EverywhereOf Known x → ItemIsBound slots ts x
    item_bound (If t a b) ts e h = (
      test_map (IsBound slots ss) (IsBound slots ts) (bound ts e) t h.0.0,
      all_bound a (inside ts) e h.1,
      all_bound b (inside ts) e h.2,
    )
    item_bound (While t a) ts e h = (test_map (IsBound slots ss) (IsBound slots ts) (bound ts e) t h.0.0, all_bound a (inside ts) e h.1)
    item_bound (Do a t) ts e h = (test_map (IsBound slots ss) (IsBound slots ts) (bound ts e) t h.0.0, all_bound a (inside ts) e h.1)
    item_bound (For first t u a) ts e h =
        let b = sym (same_behind_all first (inside ts) h.1) in (
          all_bound first (inside ts) e h.1,
          subst (λ us. IfSome t (IsBound slots us)) b (some_bound (inside ts) e t h.0.0.0),
          subst (λ us. IfSome u (IsBound slots us)) b (some_bound (inside ts) e u h.0.0.1),
          subst (λ us. AreBound slots (inside us) a) b (all_bound a (inside (inside ts)) e h.2),
        )
    item_bound (Switch s c) ts e h = (bound ts e (selector_source s) h.0.0.0, sections_bound c (inside ts) e h.0.0.1 h.1)
    item_bound (Block a) ts e h = all_bound a (inside ts) e h.1
    item_bound (Local k given) ts e h = absurd h.1
    item_bound (Evaluate x) ts e h = bound ts e x h.0
    item_bound (Return x) ts e h = some_bound ts e x h.0
    item_bound (Arm l x) ts e h = some_bound ts e x h.0
    item_bound (Arrival x) ts e h = some_bound ts e x h.0
    item_bound _ ts e h = tt

    all_bound : (xs : Forest) (ts : List Scope) → SeesAs ts → Everywhere Known xs → AreBound slots ts xs
    all_bound Nil ts e h = tt
    all_bound (Then x xs) ts e h = (item_bound x ts e h.0, subst (λ us. AreBound slots us xs) (sym (same_behind ts x h.0)) (all_bound xs ts e h.1))

    sections_bound : (c : Sections) (ts : List Scope) → SeesAs ts → CaseExpressions (IsBound slots ss) c → EverywhereIn Known c → SectionsAreBound slots ts c
    sections_bound NoSection ts e k h = tt
    sections_bound (Section cases default a ends c) ts e k h = (
      each_map (IsBound slots ss) (IsBound slots ts) (bound ts e) cases k.0,
      all_bound a ts e h.0,
      subst (λ us. SectionsAreBound slots us c) (sym (same_behind_all a ts h.0)) (sections_bound c ts e k.1 h.1),
    )

pub one_scope : (slots : List Slot) (ss : List Scope) (xs : Forest) → Everywhere (BindsNothing slots ss) xs → AreBound slots ss xs
one_scope slots ss xs h = all_bound slots ss xs ss (λ m. refl) h
