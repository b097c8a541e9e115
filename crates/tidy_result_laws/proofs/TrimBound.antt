-- A body whose names are bound stays so where it is changed.
use Rattle.std.proofs.Common.{◌≡◌, ℕ, Bool, true, false, cond, List, [], ◌∷◌, Option, Some, None, bytes_eq, refl, sym, ap, ◌∙◌, subst, true≢false}
use Rattle.std.specs.Prelude.{IfSome}
use Rattle.std.specs.Option.{option_or}
use Rattle.c_tree.specs.declared.tree.Slot.{Slot}
use Rattle.c_tree.specs.declared.tree.Home.TheVariants as H
use Rattle.c_tree.specs.Cases.{selector_source}
use Rattle.c_tree.specs.ExpressionTrees.{ExpressionTree, Typed, Number, Character, EnumName, Text, Array, Read, Unary, Cast, Binary, Conditional, Assign, Update, Count, Comma, Call}
use Rattle.c_tree.specs.TestTrees.{TestTree, Source, On, Off, AndOff, OrOn}
use Rattle.c_tree.specs.TextExpressions.{slot_name, home_name}
use Rattle.c_tree.specs.Trees.{Tree, Forest, Nil, Then, Sections, NoSection, Section, Evaluate, Return, If, While, Do, For, Switch, Block, Local, Arm, Arrival, join}
use Rattle.c_resolved_defs.specs.Names.{home_of}
use Rattle.c_resolved_defs.specs.Scopes.{Meaning, AVariable, Scope, found, look_up, bind, IsNew, NameIsBound, IsBound, behind, behind_all, inside, ItemIsBound, AreBound, SectionsAreBound}
use Rattle.c_resolved_defs.specs.Within.{Each, TestExpression}
use Rattle.c_resolved_laws.proofs.Ranged.{each_map, if_some_map}
use Rattle.c_resolved_laws.proofs.OneScope.{within_map}
use Rattle.tidy_laws.specs.Settles.{jump_by}
use Rattle.tidy_laws.specs.Changes.{has_local}
use Rattle.tidy_result_laws.proofs.Trims.{NewTest, same_test, second_half, Trim, t_nil, t_then, t_given, t_left, t_left_if, t_reset, TrimItem, i_same, i_if, i_while, i_do, i_for, i_switch, i_block, i_checked, TrimSections, s_none, s_more}

-- ---- scopes in which names mean the same, and of which the nearest has no more names

pub record AreAsGood (ss ts : List Scope) : Type 0 where
  pub finds : (m : List ℕ) → look_up ts m ≡ look_up ss m
  pub news : (m : List ℕ) → IsNew m ss → IsNew m ts

-- names mean the same in them
abbrev pub FindTheSame : List Scope → List Scope → Type 0
FindTheSame ss ts = (m : List ℕ) → look_up ts m ≡ look_up ss m

pub look_bound : (m name : List ℕ) (b : Meaning) (ss : List Scope) → look_up (bind name b ss) m ≡ cond (bytes_eq m name) (Some b) (look_up ss m)
look_bound m name b [] = at (bytes_eq m name)
  where
    at : (t : Bool) → option_or (cond t (Some b) None) None ≡ cond t (Some b) None
    at true = refl
    at false = refl
look_bound m name b (s ∷ ss) = at (bytes_eq m name)
  where
    at : (t : Bool) → option_or (cond t (Some b) (found m s)) (look_up ss m) ≡ cond t (Some b) (option_or (found m s) (look_up ss m))
    at true = refl
    at false = refl

abbrev pub found_first : List ℕ → List Scope → Option Meaning
found_first m [] = None
found_first m (s ∷ ss) = found m s

pub new_first : (m : List ℕ) (ss : List Scope) → IsNew m ss → found_first m ss ≡ None
new_first m [] h = refl
new_first m (s ∷ ss) h = h

pub first_new : (m : List ℕ) (ss : List Scope) → found_first m ss ≡ None → IsNew m ss
first_new m [] h = tt
first_new m (s ∷ ss) h = h

pub first_bound : (m name : List ℕ) (b : Meaning) (ss : List Scope) → found_first m (bind name b ss) ≡ cond (bytes_eq m name) (Some b) (found_first m ss)
first_bound m name b [] = refl
first_bound m name b (s ∷ ss) = refl

-- what was there before a name was bound, if that is not this one
pub unbound_before : (t : Bool) (b : Meaning) (o : Option Meaning) → cond t (Some b) o ≡ None → (t ≡ false) × (o ≡ None)
unbound_before true b o h = cc
unbound_before false b o h = (refl, h)

pub good_inside : (ss ts : List Scope) → FindTheSame ss ts → AreAsGood (inside ss) (inside ts)
good_inside ss ts h = record { finds = h; news = λ m i. refl }

pub good_bind : (name : List ℕ) (b : Meaning) (ss ts : List Scope) → AreAsGood ss ts → AreAsGood (bind name b ss) (bind name b ts)
good_bind name b ss ts h = record {
  finds = λ m. look_bound m name b ts ∙ ap (cond (bytes_eq m name) (Some b)) (h.finds m) ∙ sym (look_bound m name b ss);
  news = λ m i. first_new m (bind name b ts) (first_bound m name b ts
      ∙ (let j = unbound_before (bytes_eq m name) b (found_first m ss) (sym (first_bound m name b ss) ∙ new_first m (bind name b ss) i) in
      ap (λ t. cond t (Some b) (found_first m ts)) j.0 ∙ new_first m ts (h.news m (first_new m ss j.1))));
}

module _ (slots : List Slot) where
  pub bound_join : (a b : Forest) (ss : List Scope) → AreBound slots ss a → AreBound slots (behind_all slots ss a) b → AreBound slots ss (join a b)
  bound_join Nil b ss h g = g
  bound_join (Then x a) b ss h g = (h.0, bound_join a b (behind slots ss x) h.1 g)

  behind_join : (a b : Forest) (ss : List Scope) → behind_all slots ss (join a b) ≡ behind_all slots (behind_all slots ss a) b
  behind_join Nil b ss = refl
  behind_join (Then x a) b ss = behind_join a b (behind slots ss x)

  good_behind : (x : Tree) (ss ts : List Scope) → AreAsGood ss ts → AreAsGood (behind slots ss x) (behind slots ts x)
  good_behind (Local k es) ss ts h = good_bind (slot_name slots k) (AVariable (H.Slot k)) ss ts h
  good_behind _ ss ts h = h

  good_all : (a : Forest) (ss ts : List Scope) → AreAsGood ss ts → AreAsGood (behind_all slots ss a) (behind_all slots ts a)
  good_all Nil ss ts h = h
  good_all (Then x xs) ss ts h = good_all xs (behind slots ss x) (behind slots ts x) (good_behind x ss ts h)

  -- ---- expressions

  module _ (ss ts : List Scope) (h : FindTheSame ss ts) where
    name_over : (x : ExpressionTree) → NameIsBound slots ss x → NameIsBound slots ts x
    name_over (Typed kind (EnumName m z)) i = h m ∙ i
    name_over (Typed kind (Array a)) i = h (home_name slots a) ∙ i
    name_over (Typed kind (Read at)) i = h (home_name slots (home_of at)) ∙ i
    name_over (Typed kind (Assign at a)) i = h (home_name slots (home_of at)) ∙ i
    name_over (Typed kind (Update op at a)) i = h (home_name slots (home_of at)) ∙ i
    name_over (Typed kind (Count at up after)) i = h (home_name slots (home_of at)) ∙ i
    name_over (Typed kind (Call m xs)) i = h m ∙ i
    name_over (Typed kind (Number z)) i = tt
    name_over (Typed kind (Character b)) i = tt
    name_over (Typed kind (Text bs)) i = tt
    name_over (Typed kind (Unary op a)) i = tt
    name_over (Typed kind (Cast a)) i = tt
    name_over (Typed kind (Binary op a b)) i = tt
    name_over (Typed kind (Conditional a b c)) i = tt
    name_over (Typed kind (Comma a b)) i = tt

    pub bound_over : (x : ExpressionTree) → IsBound slots ss x → IsBound slots ts x
    bound_over x i = within_map (NameIsBound slots ss) (NameIsBound slots ts) name_over x i

    pub test_over : (t : TestTree) → TestExpression (IsBound slots ss) t → TestExpression (IsBound slots ts) t
    test_over (Source e) i = bound_over e i
    test_over (On l) i = tt
    test_over (Off l) i = tt
    test_over (AndOff l t) i = test_over t i
    test_over (OrOn l t) i = test_over t i

    pub some_over : (o : Option ExpressionTree) → IfSome o (IsBound slots ss) → IfSome o (IsBound slots ts)
    some_over o i = if_some_map (IsBound slots ss) (IsBound slots ts) bound_over o i

    pub each_over : (es : List ExpressionTree) → Each (IsBound slots ss) es → Each (IsBound slots ts) es
    each_over es i = each_map (IsBound slots ss) (IsBound slots ts) bound_over es i

    pub listed_over : (o : Option (List ExpressionTree)) → IfSome o (Each (IsBound slots ss)) → IfSome o (Each (IsBound slots ts))
    listed_over o i = if_some_map (Each (IsBound slots ss)) (Each (IsBound slots ts)) each_over o i

  -- ---- a changed list, in scopes that are as good

  half_bound : (g : ℕ) (ss : List Scope) {t s : TestTree} → NewTest g t s → TestExpression (IsBound slots ss) t → TestExpression (IsBound slots ss) s
  half_bound g ss (same_test t) h = h
  half_bound g ss (second_half k e t) h = h.1.1

  jump_bound : (ss : List Scope) (leave : Bool) → ItemIsBound slots ss (jump_by leave)
  jump_bound ss true = tt
  jump_bound ss false = tt

  jump_behind : (ss : List Scope) (leave : Bool) → behind slots ss (jump_by leave) ≡ ss
  jump_behind ss true = refl
  jump_behind ss false = refl

  -- without declarations nothing is bound behind
  undeclared_behind : (a : Forest) (ss : List Scope) → has_local a ≡ false → behind_all slots ss a ≡ ss
  undeclared_behind Nil ss q = refl
  undeclared_behind (Then (Local k es) xs) ss q = absurd (true≢false q)
  undeclared_behind (Then x xs) ss q = undeclared_behind xs ss q

  -- ---- in scopes in which names mean the same

  abbrev IsNoLocal : Tree → Type 0
  IsNoLocal (Local k es) = ⊥
  IsNoLocal _ = Unit {0}

  abbrev News : List Scope → List Scope → Type 0
  News ss ts = (m : List ℕ) → IsNew m ss → IsNew m ts

  mutual
    -- a list of which no declaration needs a new name, or of which each has one
    pub list_over : (a : Forest) (ss ts : List Scope) → FindTheSame ss ts → (has_local a ≡ true → News ss ts) → AreBound slots ss a → AreBound slots ts a
    list_over Nil ss ts h n i = tt
    list_over (Then (Local k es) xs) ss ts h n i =
        let s = behind slots ss (Local k es) in
        let t = behind slots ts (Local k es) in
        let g = good_bind (slot_name slots k) (AVariable (H.Slot k)) ss ts (record { finds = h; news = n refl }) in
        ((n refl (slot_name slots k) i.0.0, listed_over s t g.finds es i.0.1), list_over xs s t g.finds (λ e. g.news) i.1)
    list_over (Then x xs) ss ts h n i = (item_over x tt ss ts h i.0, list_over xs ss ts h n i.1)

    item_over : (x : Tree) → IsNoLocal x → (ss ts : List Scope) → FindTheSame ss ts → ItemIsBound slots ss x → ItemIsBound slots ts x
    item_over (If t a b) z ss ts h i = (
      test_over ss ts h t i.0,
      list_over a (inside ss) (inside ts) (good_inside ss ts h).finds
          (λ e. (good_inside ss ts h).news) i.1,
      list_over b (inside ss) (inside ts) (good_inside ss ts h).finds (λ e. (good_inside ss ts h).news) i.2,
    )
    item_over (While t a) z ss ts h i = (
      test_over ss ts h t i.0,
      list_over a (inside ss) (inside ts) (good_inside ss ts h).finds
          (λ e. (good_inside ss ts h).news) i.1,
    )
    item_over (Do a t) z ss ts h i = (
      test_over ss ts h t i.0,
      list_over a (inside ss) (inside ts) (good_inside ss ts h).finds
          (λ e. (good_inside ss ts h).news) i.1,
    )
    item_over (For f t u a) z ss ts h i =
        let k = good_inside ss ts h in
        let j = good_all f (inside ss) (inside ts) k in
        let s = behind_all slots (inside ss) f in
        let r = behind_all slots (inside ts) f in (
          list_over f (inside ss) (inside ts) k.finds (λ e. k.news) i.0,
          some_over s r j.finds t i.1,
          some_over s r j.finds u i.2,
          list_over a (inside s) (inside r) (good_inside s r j.finds).finds (λ e. (good_inside s r j.finds).news) i.3,
        )
    item_over (Switch s c) z ss ts h i = (bound_over ss ts h (selector_source s) i.0, sections_over c (inside ss) (inside ts) (good_inside ss ts h) i.1)
    item_over (Block a) z ss ts h i = list_over a (inside ss) (inside ts) (good_inside ss ts h).finds (λ e. (good_inside ss ts h).news) i
    item_over (Local k es) z ss ts h i = absurd z
    item_over (Evaluate e) z ss ts h i = bound_over ss ts h e i
    item_over (Return e) z ss ts h i = some_over ss ts h e i
    item_over (Arm l e) z ss ts h i = some_over ss ts h e i
    item_over (Arrival e) z ss ts h i = some_over ss ts h e i
    item_over _ z ss ts h i = tt

    sections_over : (c : Sections) (ss ts : List Scope) → AreAsGood ss ts → SectionsAreBound slots ss c → SectionsAreBound slots ts c
    sections_over NoSection ss ts h i = tt
    sections_over (Section cases default a ends c) ss ts h i = (
      each_over ss ts h.finds cases i.0,
      list_over a ss ts h.finds (λ e. h.news) i.1,
      sections_over c (behind_all slots ss a) (behind_all slots ts a) (good_all a ss ts h) i.2,
    )

  -- ---- a changed list

  module _ (g : ℕ) where
    item_behind : {b : Bool} {n : ℕ} {x y : Tree} (ss : List Scope) → TrimItem g b n x y → behind slots ss y ≡ behind slots ss x
    item_behind ss (i_same x) = refl
    item_behind ss (i_if t h k) = refl
    item_behind ss (i_while t h) = refl
    item_behind ss (i_do t h) = refl
    item_behind ss (i_for f t u h) = refl
    item_behind ss (i_switch s h) = refl
    item_behind ss (i_block h) = refl
    item_behind ss (i_checked e h) = refl

    pub trim_behind : {b : Bool} {n : ℕ} {a c : Forest} (ss : List Scope) → Trim g b n a c → behind_all slots ss c ≡ behind_all slots ss a
    trim_behind ss t_nil = refl
    trim_behind ss (t_then {x = x} {y = y} {xs = xs} {ys = ys} i h) = ap (λ sc. behind_all slots sc ys) (item_behind ss i) ∙ trim_behind (behind slots ss x) h
    trim_behind ss (t_given e {c = c} {ys = ys} k q h) = behind_join c ys ss ∙ ap (λ sc. behind_all slots sc ys) (undeclared_behind c ss q) ∙ trim_behind ss h
    trim_behind ss (t_left leave k e {ys = ys} q h) = ap (λ sc. behind_all slots sc ys) (jump_behind ss leave) ∙ trim_behind ss h
    trim_behind ss (t_left_if leave k e q l h) = trim_behind ss h
    trim_behind ss (t_reset h) = trim_behind ss h

    mutual
      pub trim_bound : {b : Bool} {n : ℕ} {a c : Forest} (ss : List Scope) → Trim g b n a c → AreBound slots ss a → AreBound slots ss c
      trim_bound ss t_nil h = tt
      trim_bound ss (t_then {x = x} {y = y} {ys = ys} i r) h =
          (item_bound ss i h.0, subst (λ sc. AreBound slots sc ys) (sym (item_behind ss i)) (trim_bound (behind slots ss x) r h.1))
      trim_bound ss (t_given e {c = c} {ys = ys} i q r) h =
          bound_join c ys ss (list_over c (inside ss) ss (λ m. refl) (λ z. absurd (true≢false (sym z ∙ q))) (trim_bound (inside ss) i h.0.1))
          (subst (λ sc. AreBound slots sc ys) (sym (undeclared_behind c ss q)) (trim_bound ss r h.1))
      trim_bound ss (t_left leave k e {ys = ys} q r) h = (
        jump_bound ss leave,
        subst (λ sc. AreBound slots sc ys) (sym (jump_behind ss leave))
            (trim_bound ss r h.1),
      )
      trim_bound ss (t_left_if leave k e q l r) h = ((h.0.1.1, (jump_bound (inside ss) leave, tt), tt), trim_bound ss r h.1)
      trim_bound ss (t_reset r) h = trim_bound ss r h.1

      item_bound : {b : Bool} {n : ℕ} {x y : Tree} (ss : List Scope) → TrimItem g b n x y → ItemIsBound slots ss x → ItemIsBound slots ss y
      item_bound ss (i_same x) h = h
      item_bound ss (i_if t i r) h = (h.0, trim_bound (inside ss) i h.1, trim_bound (inside ss) r h.2)
      item_bound ss (i_while t i) h = (half_bound g ss t h.0, trim_bound (inside ss) i h.1)
      item_bound ss (i_do t i) h = (half_bound g ss t h.0, trim_bound (inside ss) i h.1)
      item_bound ss (i_for f t u i) h = (h.0, h.1, h.2, trim_bound (inside (behind_all slots (inside ss) f)) i h.3)
      item_bound ss (i_switch s i) h = (h.0, sections_bound (inside ss) i h.1)
      item_bound ss (i_block i) h = trim_bound (inside ss) i h
      item_bound ss (i_checked e i) h = trim_bound (inside ss) i h.1

      sections_bound : {n : ℕ} {c d : Sections} (ss : List Scope) → TrimSections g n c d → SectionsAreBound slots ss c → SectionsAreBound slots ss d
      sections_bound ss s_none h = tt
      sections_bound ss (s_more cases default ends {a = a} {b = b} {d = d} i r) h =
          (h.0, trim_bound ss i h.1, subst (λ sc. SectionsAreBound slots sc d) (sym (trim_behind ss i)) (sections_bound (behind_all slots ss a) r h.2))
