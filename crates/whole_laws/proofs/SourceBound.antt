-- The names of a source body, each bound where it stands, are bound alike in the scopes of its plain form.
use Rattle.std.proofs.Common.{◌≡◌, ℕ, ◌<◌, ◌≤◌, Bool, true, false, cond, List, [], ◌∷◌, Option, Some, None, refl, sym, ap, subst, ◌∙◌, bytes_eq}
use Rattle.std.specs.Prelude.{IfSome}
use Rattle.std.specs.Option.{option_or}
use Rattle.std.specs.List.{AllByRecursion}
use Rattle.c_tree.specs.declared.tree.Slot.{Slot}
use Rattle.c_tree.specs.declared.tree.Home.{Home}
use Rattle.c_tree.specs.declared.tree.Home.TheVariants as H
use Rattle.c_tree.specs.Cases.{selector_source, all_cases}
use Rattle.c_tree.specs.ExpressionTrees.{ExpressionTree, Typed, Number, Character, EnumName, Text, Array, Read, Unary, Cast, Binary, Conditional, Assign, Update, Count, Comma, Call}
use Rattle.c_tree.specs.TextExpressions.{slot_name, home_name}
use Rattle.c_tree.specs.Trees.{Tree, Forest, Nil, Then, Sections, NoSection, Section, Evaluate, Return, If, While, Do, For, Switch, Block, Local, Arm}
use Rattle.c_tree.specs.Everywhere.{Everywhere, EverywhereOf, EverywhereIn}
use Rattle.c_resolved_defs.specs.Names.{home_of}
use Rattle.c_resolved_defs.specs.Scopes.{Meaning, AConstant, AVariable, AFunction, Scope, found, look_up, bind, NameIsBound, IsBound, behind, behind_all, inside, ItemIsBound, AreBound, SectionsAreBound}
use Rattle.c_resolved_laws.proofs.OneScope.{within_map}
use Rattle.whole_laws.proofs.Facts.{AnyNote, ItemHas, test_map, list_map, some_map, listed_map}
use Rattle.whole_laws.proofs.ItemKinds.{each_join}
use Rattle.whole_laws.proofs.ScopeLists.{slot_in, same_meaning, none_some}

-- a declaration declares one of the slots from p on, below n
abbrev pub DeclaresIn : ℕ → ℕ → Tree → Type 0
DeclaresIn p n (Local k es) = (p ≤ k) × (k < n)
DeclaresIn p n _ = Unit {0}

pub slot_some : (j k : ℕ) → Some (AVariable (H.Slot j)) ≡ Some (AVariable (H.Slot k)) → j ≡ k
slot_some j k e = ap (λ o. number (slot_of o)) e
  where
    slot_of : Option Meaning → Option ℕ
    slot_of (Some b) = slot_in b
    slot_of None = None

    number : Option ℕ → ℕ
    number (Some i) = i
    number None = j

pub not_slot : (b : Meaning) (k : ℕ) → slot_in b ≡ None → Some b ≡ Some (AVariable (H.Slot k)) → ⊥
not_slot b k n e = none_some k (sym n ∙ ap slot_in (same_meaning b (AVariable (H.Slot k)) e))

-- the slots of the source and those of the plain form, of which those from p to n are variables of blocks; the scopes
-- that the body stands in, and those behind the declarations of the plain form
module _ (old new : List Slot) (p n : ℕ) (base last : List Scope)
    (block : (k : ℕ) → p ≤ k → k < n → look_up last (slot_name new k) ≡ Some (AVariable (H.Slot k)))
    (others : (m : List ℕ) (b : Meaning) → look_up base m ≡ Some b → look_up last m ≡ Some b)
    (named : (k : ℕ) → look_up base (slot_name old k) ≡ Some (AVariable (H.Slot k)) → slot_name new k ≡ slot_name old k) where
  abbrev pub A : ExpressionTree → Type 0
  A e = IsBound new last e

  abbrev pub Returns : Option ExpressionTree → Type 0
  Returns o = IfSome o A

  abbrev pub HasNames : Tree → Type 0
  HasNames x = ItemHas A A A Returns AnyNote x

  -- what a name is bound to within the body: a variable of a block, or as outside
  data Seen (m : List ℕ) (o : Option Meaning) : Type 0 where
    own : (k : ℕ) → p ≤ k → k < n → o ≡ Some (AVariable (H.Slot k)) → Seen m o
    outer : o ≡ look_up base m → Seen m o

  abbrev Over : List Scope → Type 0
  Over ss = (m : List ℕ) → Seen m (look_up ss m)

  over_bind : (name : List ℕ) (k : ℕ) (ss : List Scope) → p ≤ k → k < n → Over ss → Over (bind name (AVariable (H.Slot k)) ss)
  over_bind name k [] a b o m = at (bytes_eq m name) (o m)
    where
      at : (t : Bool) → Seen m None → Seen m (option_or (cond t (Some (AVariable (H.Slot k))) None) None)
      at true s = own k a b refl
      at false s = s
  over_bind name k (s ∷ ss) a b o m = at (bytes_eq m name) (o m)
    where
      at : (t : Bool) → Seen m (look_up (s ∷ ss) m) → Seen m (option_or (cond t (Some (AVariable (H.Slot k))) (found m s)) (look_up ss m))
      at true s = own k a b refl
      at false s = s

  -- ---- expressions

  module _ (ss : List Scope) (o : Over ss) where
    other_seen : (m : List ℕ) (b : Meaning) → slot_in b ≡ None → look_up ss m ≡ Some b → look_up last m ≡ Some b
    other_seen m b g e = at (o m)
      where
        at : Seen m (look_up ss m) → look_up last m ≡ Some b
        at (own k i j q) = absurd (not_slot b k g (sym e ∙ q))
        at (outer q) = others m b (sym q ∙ e)

    slot_seen : (x : ℕ) → look_up ss (slot_name old x) ≡ Some (AVariable (H.Slot x)) → look_up last (slot_name new x) ≡ Some (AVariable (H.Slot x))
    slot_seen x e = at (o (slot_name old x))
      where
        at : Seen (slot_name old x) (look_up ss (slot_name old x)) → look_up last (slot_name new x) ≡ Some (AVariable (H.Slot x))
        at (own k i j q) = let s = slot_some x k (sym e ∙ q) in subst (λ y. look_up last (slot_name new y) ≡ Some (AVariable (H.Slot y))) (sym s) (block k i j)
        at (outer q) =
            let b = sym q ∙ e in
            ap (look_up last) (named x b) ∙ others (slot_name old x) (AVariable (H.Slot x)) b

    home_seen : (h : Home) → look_up ss (home_name old h) ≡ Some (AVariable h) → look_up last (home_name new h) ≡ Some (AVariable h)
    home_seen (H.Slot x) e = slot_seen x e
    home_seen (H.Global m) e = other_seen m (AVariable (H.Global m)) refl e

    name_seen : (e : ExpressionTree) → NameIsBound old ss e → NameIsBound new last e
    name_seen (Typed kind (EnumName m z)) h = other_seen m (AConstant z) refl h
    name_seen (Typed kind (Array a)) h = home_seen a h
    name_seen (Typed kind (Read at)) h = home_seen (home_of at) h
    name_seen (Typed kind (Assign at a)) h = home_seen (home_of at) h
    name_seen (Typed kind (Update op at a)) h = home_seen (home_of at) h
    name_seen (Typed kind (Count at up after)) h = home_seen (home_of at) h
    name_seen (Typed kind (Call m xs)) h = other_seen m AFunction refl h
    name_seen (Typed kind (Number z)) h = tt
    name_seen (Typed kind (Character b)) h = tt
    name_seen (Typed kind (Text bs)) h = tt
    name_seen (Typed kind (Unary op a)) h = tt
    name_seen (Typed kind (Cast a)) h = tt
    name_seen (Typed kind (Binary op a b)) h = tt
    name_seen (Typed kind (Conditional a b c)) h = tt
    name_seen (Typed kind (Comma a b)) h = tt

    seen : (e : ExpressionTree) → IsBound old ss e → A e
    seen e h = within_map (NameIsBound old ss) (NameIsBound new last) name_seen e h

  -- ---- items

  mutual
    items_seen : (a : Forest) (ss : List Scope) → Over ss → AreBound old ss a → Everywhere (DeclaresIn p n) a →
        Everywhere HasNames a × Over (behind_all old ss a)
    items_seen Nil ss o h i = (tt, o)
    items_seen (Then x a) ss o h i =
        let r = item_seen x ss o h.0 i.0 in
        let s = items_seen a (behind old ss x) r.1 h.1 i.1 in ((r.0, s.0), s.1)

    item_seen : (x : Tree) (ss : List Scope) → Over ss → ItemIsBound old ss x → EverywhereOf (DeclaresIn p n) x →
        EverywhereOf HasNames x × Over (behind old ss x)
    item_seen (If t a b) ss o h i = (
      (
        test_map (IsBound old ss) A (seen ss o) t h.0,
        (items_seen a (inside ss) o h.1 i.1).0,
        (items_seen b (inside ss) o h.2 i.2).0,
      ),
      o,
    )
    item_seen (While t a) ss o h i = ((test_map (IsBound old ss) A (seen ss o) t h.0, (items_seen a (inside ss) o h.1 i.1).0), o)
    item_seen (Do a t) ss o h i = ((test_map (IsBound old ss) A (seen ss o) t h.0, (items_seen a (inside ss) o h.1 i.1).0), o)
    item_seen (For first t u a) ss o h i =
        let r = items_seen first (inside ss) o h.0 i.1 in
        let later = behind_all old (inside ss) first in (
          (
            (some_map (IsBound old later) A (seen later r.1) t h.1, some_map (IsBound old later) A (seen later r.1) u h.2),
            r.0,
            (items_seen a (inside later) r.1 h.3 i.2).0,
          ),
          o,
        )
    item_seen (Switch s c) ss o h i = let r = sections_seen c (inside ss) o h.1 i.1 in (((seen ss o (selector_source s) h.0, r.1), r.0), o)
    item_seen (Block a) ss o h i = ((tt, (items_seen a (inside ss) o h i.1).0), o)
    item_seen (Local k es) ss o h i =
        let later = behind old ss (Local k es) in
        let r = over_bind (slot_name old k) k ss i.0 i.1 o in (listed_map (IsBound old later) A (seen later r) es h.1, r)
    item_seen (Evaluate e) ss o h i = (seen ss o e h, o)
    item_seen (Return e) ss o h i = (some_map (IsBound old ss) A (seen ss o) e h, o)
    item_seen (Arm l e) ss o h i = (some_map (IsBound old ss) A (seen ss o) e h, o)
    item_seen _ ss o h i = (tt, o)

    sections_seen : (c : Sections) (ss : List Scope) → Over ss → SectionsAreBound old ss c → EverywhereIn (DeclaresIn p n) c →
        EverywhereIn HasNames c × AllByRecursion A (all_cases c)
    sections_seen NoSection ss o h i = (tt, tt)
    sections_seen (Section cases default a ends c) ss o h i =
        let r = items_seen a ss o h.1 i.0 in
        let s = sections_seen c (behind_all old ss a) r.1 h.2 i.1 in
        ((r.0, s.0), each_join A cases (all_cases c) (list_map (IsBound old ss) A (seen ss o) cases h.0) s.1)

  pub source_seen : (a : Forest) → AreBound old base a → Everywhere (DeclaresIn p n) a → Everywhere HasNames a
  source_seen a h i = (items_seen a base (λ m. outer refl) h i).0
