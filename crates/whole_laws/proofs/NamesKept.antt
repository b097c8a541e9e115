-- Expressions whose kinds agree and that assign no const variable, where the names stand for variables of the same kinds
-- and for the same functions.
use Rattle.std.proofs.Common.{ℕ, zero, suc, Bool, false, List, [], ◌∷◌, ◌++◌, Option, Some, None, IsSome, inl, inr, slice_get, take, drop, ◌≡◌, refl, sym, ap, subst, ◌∙◌}
use Rattle.std.specs.Prelude.{IsSomeAnd}
use Rattle.c_types.specs.declared.kinds.IntKind.{IntKind}
use Rattle.c_tree.specs.declared.tree.Slot.{Slot}
use Rattle.c_tree.specs.declared.tree.Home.{Home}
use Rattle.c_tree.specs.declared.tree.Home.TheVariants as H
use Rattle.c_tree.specs.ExpressionTrees.{ExpressionTree, PlaceTree, Arguments, Typed, Var, Cell, Number, Character, EnumName, Text, Array, Read, Unary, Cast, Binary, Conditional, Assign, Update, Count, Comma, Call, NoArgument, Argument}
use Rattle.flat_laws.specs.Loose.{ExtendSlots}
use Rattle.c_resolved_defs.specs.Within.{Each, Within}
use Rattle.c_resolved_defs.specs.Names.{Names, Callee, Plain, Printf, Unknown, variable, home_of, callee}
use Rattle.c_resolved_defs.specs.Kinds.{HasValue, IsNumber, IsArray, PlaceAgrees, KeepsConst, IsArrayFor, FitsCells, ArgumentsFit, CallFits, KindAgrees, KindsAgree, IsWritable, WritesNoConst}
use Rattle.c_resolved_laws.proofs.OneScope.{within_map}

-- ---- variables

-- a variable of the same kind and cells, which isn't const where the first isn't
pub record SameVariable (s t : Slot) : Type 0 where
  pub kind : t.kind ≡ s.kind
  pub cells : t.cells ≡ s.cells
  pub constant : s.constant ≡ false → t.constant ≡ false

pub self_variable : (s : Slot) → SameVariable s s
self_variable s = record { kind = refl; cells = refl; constant = λ e. e }

-- there is such a variable for each of these, in the same place, and there may be more
abbrev pub KeepsSlots : List Slot → List Slot → Type 0
KeepsSlots [] ts = Unit {0}
KeepsSlots (s ∷ ss) [] = ⊥
KeepsSlots (s ∷ ss) (t ∷ ts) = SameVariable s t × KeepsSlots ss ts

pub keeps_self : (ss : List Slot) → KeepsSlots ss ss
keeps_self [] = tt
keeps_self (s ∷ ss) = (self_variable s, keeps_self ss)

pub keeps_more : (ss ts more : List Slot) → KeepsSlots ss ts → KeepsSlots ss (ts ++ more)
keeps_more [] ts more h = tt
keeps_more (s ∷ ss) [] more h = absurd h
keeps_more (s ∷ ss) (t ∷ ts) more h = (h.0, keeps_more ss ts more h.1)

abbrev first_or : Slot → List Slot → Slot
first_or d [] = d
first_or d (s ∷ ss) = s

pub same_first : (n : ℕ) (s t : Slot) (ss ts : List Slot) → take (suc n) (t ∷ ts) ≡ take (suc n) (s ∷ ss) → t ≡ s
same_first n s t ss ts e = ap (first_or t) e

pub same_rest : (n : ℕ) (s t : Slot) (ss ts : List Slot) → take (suc n) (t ∷ ts) ≡ take (suc n) (s ∷ ss) → take n ts ≡ take n ss
same_rest n s t ss ts e = ap (drop 1) e

-- the first n are the same, and none of the others is const
pub extended : (n : ℕ) (ss ts : List Slot) → ExtendSlots ss ts → take n ts ≡ take n ss → Each (λ (s : Slot). s.constant ≡ false) (drop n ts) → KeepsSlots ss ts
extended n [] ts h e c = tt
extended n (s ∷ ss) [] h e c = absurd h
extended zero (s ∷ ss) (t ∷ ts) h e c = (record { kind = sym h.0; cells = sym h.1; constant = λ f. c.0 }, extended zero ss ts h.2 refl c.1)
extended (suc n) (s ∷ ss) (t ∷ ts) h e c = (
  subst (SameVariable s) (sym (same_first n s t ss ts e)) (self_variable s),
  extended n ss ts h.2
      (same_rest n s t ss ts e) c,
)

-- the variable in the same place
abbrev pub Found : Slot → Option Slot → Type 0
Found s o = IsSomeAnd o (SameVariable s)

pub slot_over : (ss ts : List Slot) → KeepsSlots ss ts → (x : ℕ) (s : Slot) → slice_get ss x ≡ Some s → Found s (slice_get ts x)
slot_over [] ts h x s e = cc
slot_over (r ∷ ss) [] h x s e = absurd h
slot_over (r ∷ ss) (t ∷ ts) h zero s e = subst (λ o. IsSomeAnd o (λ q. SameVariable q t)) e h.0
slot_over (r ∷ ss) (t ∷ ts) h (suc x) s e = slot_over ss ts h.1 x s e

-- ---- names

pub record KeepsNames (n k : Names) : Type 0 where
  pub variables : (h : Home) (s : Slot) → variable n h ≡ Some s → Found s (variable k h)
  pub callees : (m : List ℕ) → callee k m ≡ callee n m

some_found : (a : Option Slot) (s : Slot) → a ≡ Some s → Found s a
some_found a s e = subst (Found s) (sym e) (self_variable s)

pub names_kept : (n k : Names) → KeepsSlots n.slots k.slots → ((m : List ℕ) → variable k (H.Global m) ≡ variable n (H.Global m)) →
    ((m : List ℕ) → callee k m ≡ callee n m) → KeepsNames n k
names_kept n k h g c = record { variables = at; callees = c }
  where
    at : (h : Home) (s : Slot) → variable n h ≡ Some s → Found s (variable k h)
    at (H.Slot x) s e = slot_over n.slots k.slots h x s e
    at (H.Global m) s e = some_found (variable k (H.Global m)) s (g m ∙ e)

map_found : (s : Slot) (o : Option Slot) (Q : Slot → Type 0) → Found s o → ((t : Slot) → SameVariable s t → Q t) → IsSomeAnd o Q
map_found s None Q h f = absurd h
map_found s (Some t) Q h f = f t h

module _ (n k : Names) (kept : KeepsNames n k) where
  some_over : (P Q : Slot → Type 0) → ((s t : Slot) → SameVariable s t → P s → Q t) → (h : Home) → IsSomeAnd (variable n h) P → IsSomeAnd (variable k h) Q
  some_over P Q f h i = at (variable n h) refl i
    where
      at : (o : Option Slot) → variable n h ≡ o → IsSomeAnd o P → IsSomeAnd (variable k h) Q
      at None e j = absurd j
      at (Some s) e j = map_found s (variable k h) Q (kept.variables h s e) (λ t v. f s t v j)

  number_over : (kind : Option IntKind) (s t : Slot) → SameVariable s t → IsNumber s × (kind ≡ Some s.kind) → IsNumber t × (kind ≡ Some t.kind)
  number_over kind s t v h = (v.cells ∙ h.0, h.1 ∙ sym (ap Some v.kind))

  array_over : (kind : Option IntKind) (s t : Slot) → SameVariable s t → IsArray s × (kind ≡ Some s.kind) → IsArray t × (kind ≡ Some t.kind)
  array_over kind s t v h = (subst IsSome (sym v.cells) h.0, h.1 ∙ sym (ap Some v.kind))

  place_over : (kind : Option IntKind) (at : PlaceTree) → PlaceAgrees n kind at → PlaceAgrees k kind at
  place_over kind (Var h) i = some_over _ _ (number_over kind) h i
  place_over kind (Cell h a) i = (some_over _ _ (array_over kind) h i.0, i.1)

  const_over : (s v w : Slot) → SameVariable v w → KeepsConst s v → KeepsConst s w
  const_over s v w e (inl h) = inl h
  const_over s v w e (inr h) = inr (e.constant h)

  array_for_over : (defined : Bool) (s : Slot) (x : ExpressionTree) → IsArrayFor n defined s x → IsArrayFor k defined s x
  array_for_over defined s (Typed kind (Array h)) i = (
    i.0,
    some_over (λ v. (v.kind ≡ s.kind) × KeepsConst s v)
        (λ v. (v.kind ≡ s.kind) × KeepsConst s v) (λ v w e j. (e.kind ∙ j.0, const_over s v w e j.1)) h i.1,
  )
  array_for_over defined s (Typed kind (Number z)) i = absurd i
  array_for_over defined s (Typed kind (Character b)) i = absurd i
  array_for_over defined s (Typed kind (EnumName m z)) i = absurd i
  array_for_over defined s (Typed kind (Text bs)) i = absurd i
  array_for_over defined s (Typed kind (Read at)) i = absurd i
  array_for_over defined s (Typed kind (Unary op a)) i = absurd i
  array_for_over defined s (Typed kind (Cast a)) i = absurd i
  array_for_over defined s (Typed kind (Binary op a b)) i = absurd i
  array_for_over defined s (Typed kind (Conditional a b c)) i = absurd i
  array_for_over defined s (Typed kind (Assign at a)) i = absurd i
  array_for_over defined s (Typed kind (Update op at a)) i = absurd i
  array_for_over defined s (Typed kind (Count at up after)) i = absurd i
  array_for_over defined s (Typed kind (Comma a b)) i = absurd i
  array_for_over defined s (Typed kind (Call m xs)) i = absurd i

  cells_over : (o : Option ℕ) (A B C : Type 0) → (B → C) → FitsCells o A B → FitsCells o A C
  cells_over None A B C f h = h
  cells_over (Some cells) A B C f h = f h

  arguments_over : (defined : Bool) (ss : List Slot) (xs : Arguments) → ArgumentsFit n defined ss xs → ArgumentsFit k defined ss xs
  arguments_over defined [] NoArgument h = tt
  arguments_over defined (s ∷ ss) (Argument x xs) h = (
    cells_over s.cells (HasValue x) (IsArrayFor n defined s x) (IsArrayFor k defined s x)
        (array_for_over defined s x) h.0,
    arguments_over defined ss xs h.1,
  )
  arguments_over defined [] (Argument x xs) h = absurd h
  arguments_over defined (s ∷ ss) NoArgument h = absurd h

  call_over : (kind : Option IntKind) (c : Callee) (xs : Arguments) → CallFits n kind c xs → CallFits k kind c xs
  call_over kind (Plain s) xs h = (h.0, arguments_over s.defined s.parameters xs h.1)
  call_over kind Printf xs h = h
  call_over kind Unknown xs h = absurd h

  agrees_over : (x : ExpressionTree) → KindAgrees n x → KindAgrees k x
  agrees_over (Typed kind (Number z)) h = h
  agrees_over (Typed kind (Character b)) h = h
  agrees_over (Typed kind (EnumName m z)) h = h
  agrees_over (Typed kind (Text bs)) h = h
  agrees_over (Typed kind (Array a)) h = some_over _ _ (array_over kind) a h
  agrees_over (Typed kind (Read at)) h = place_over kind at h
  agrees_over (Typed kind (Unary op a)) h = h
  agrees_over (Typed kind (Cast a)) h = h
  agrees_over (Typed kind (Binary op a b)) h = h
  agrees_over (Typed kind (Conditional a b c)) h = h
  agrees_over (Typed kind (Assign at a)) h = (place_over kind at h.0, h.1)
  agrees_over (Typed kind (Update op at a)) h = (place_over kind at h.0, h.1)
  agrees_over (Typed kind (Count at up after)) h = place_over kind at h
  agrees_over (Typed kind (Comma a b)) h = h
  agrees_over (Typed kind (Call m xs)) h = subst (λ c. CallFits k kind c xs) (sym (kept.callees m)) (call_over kind (callee n m) xs h)

  writable_over : (at : PlaceTree) → IsWritable n at → IsWritable k at
  writable_over at h = some_over (λ s. s.constant ≡ false) (λ s. s.constant ≡ false) (λ s t v e. v.constant e) (home_of at) h

  writes_over : (x : ExpressionTree) → WritesNoConst n x → WritesNoConst k x
  writes_over (Typed kind (Assign at a)) h = writable_over at h
  writes_over (Typed kind (Update op at a)) h = writable_over at h
  writes_over (Typed kind (Count at up after)) h = writable_over at h
  writes_over (Typed kind (Number z)) h = tt
  writes_over (Typed kind (Character b)) h = tt
  writes_over (Typed kind (EnumName m z)) h = tt
  writes_over (Typed kind (Text bs)) h = tt
  writes_over (Typed kind (Array a)) h = tt
  writes_over (Typed kind (Read at)) h = tt
  writes_over (Typed kind (Unary op a)) h = tt
  writes_over (Typed kind (Cast a)) h = tt
  writes_over (Typed kind (Binary op a b)) h = tt
  writes_over (Typed kind (Conditional a b c)) h = tt
  writes_over (Typed kind (Comma a b)) h = tt
  writes_over (Typed kind (Call m xs)) h = tt

  pub kinds_over : (x : ExpressionTree) → KindsAgree n x → KindsAgree k x
  kinds_over x h = within_map (KindAgrees n) (KindAgrees k) agrees_over x h

  pub consts_over : (x : ExpressionTree) → Within (WritesNoConst n) x → Within (WritesNoConst k) x
  consts_over x h = within_map (WritesNoConst n) (WritesNoConst k) writes_over x h
