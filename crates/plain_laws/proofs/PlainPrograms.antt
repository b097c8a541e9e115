-- The plain form of a program that is ready behaves the same.
use Rattle.std.proofs.Common.{◌≡◌, ℕ, ◌+◌, ◌<◌, Bool, true, false, Option, Some, None, option_map, IsSome, List, length, refl, sym, ap, subst, true≢false, arith}
use Rattle.std.specs.Prelude.{IfSome}
use Rattle.std.specs.Option.{option_map_or}
use Rattle.c_types.specs.declared.kinds.IntKind.{IntKind}
use Rattle.c_types.specs.Numbers.{promoted}
use Rattle.c_tree.specs.declared.tree.Item.{Item}
use Rattle.c_tree.specs.declared.tree.Slot.{Slot}
use Rattle.c_tree.specs.declared.tree.Function.{Function}
use Rattle.c_tree.specs.TestTrees as TT
use Rattle.c_tree.specs.TestTrees.{TestTree, Source, SelectorTree, Selects, Pick}
use Rattle.c_tree.specs.Trees.{Tree, Forest, Nil, Then, Sections, NoSection, Section, Evaluate, Return, If, While, Do, For, Switch, Block, Local, Break, Continue, Goto, Mark, Arm, Leap, Land, Arrival, Note, trees_of}
use Rattle.c_tree.specs.Everywhere.{Everywhere, EverywhereOf, EverywhereIn}
use Rattle.c_tree.specs.Labels.{ItemLabels, TestLabels, SelectorLabels}
use Rattle.c_tree.specs.Cases.{ArePicks, selector_source}
use Rattle.c_tree.specs.Constants.{kind_of}
use Rattle.c_tree.specs.InRange as Range
use Rattle.c_tree.specs.InRange.{body_of, IsUnguarded, IsSourceTest, IsSourceSelector}
use Rattle.c_tree.specs.WellMade.{IsConverted, HasSelectorKind, HasPicks, IsWellMade}
use Rattle.jump_meaning.specs.Code.{FunctionTree, Code, function_tree}
use Rattle.jump_meaning.specs.Operations.{operand_kind}
use Rattle.jump_meaning.specs.Step.{switch_kind}
use Rattle.plain_laws.specs.Kinded.{KindedItem}
use Rattle.plain_laws.specs.Slotted.{ArmLabels, IsUnleaping, PicksFit, Fits, IsSlotted, AreDeclarations, none}
use Rattle.plain_laws.specs.Plain.{declared, labels_left, names_left}
use Rattle.plain_laws.specs.Laws.{IsNoLeap, IsReady}
use Rattle.plain_laws.proofs.LeftLabels.{is_among, left_among, slot_below, slot_within, slot_apart, slots_left, guard_slots_ints, body_named}
use Rattle.plain_laws.proofs.PlainFunctions.{guarding_by, guarding_of, are_declared}

-- ---- facts of each item

abbrev both : (Tree → Type 0) → (Tree → Type 0) → Tree → Type 0
both P R x = P x × R x

mutual
  pub everywhere_both : (P R : Tree → Type 0) (a : Forest) → Everywhere P a → Everywhere R a → Everywhere (both P R) a
  everywhere_both P R Nil h g = tt
  everywhere_both P R (Then x a) h g = (everywhere_both_of P R x h.0 g.0, everywhere_both P R a h.1 g.1)

  everywhere_both_of : (P R : Tree → Type 0) (x : Tree) → EverywhereOf P x → EverywhereOf R x → EverywhereOf (both P R) x
  everywhere_both_of P R (If t a b) h g = ((h.0, g.0), everywhere_both P R a h.1 g.1, everywhere_both P R b h.2 g.2)
  everywhere_both_of P R (While t a) h g = ((h.0, g.0), everywhere_both P R a h.1 g.1)
  everywhere_both_of P R (Do a t) h g = ((h.0, g.0), everywhere_both P R a h.1 g.1)
  everywhere_both_of P R (For first t u a) h g = ((h.0, g.0), everywhere_both P R first h.1 g.1, everywhere_both P R a h.2 g.2)
  everywhere_both_of P R (Switch s c) h g = ((h.0, g.0), everywhere_both_in P R c h.1 g.1)
  everywhere_both_of P R (Block a) h g = ((h.0, g.0), everywhere_both P R a h.1 g.1)
  everywhere_both_of P R _ h g = (h, g)

  everywhere_both_in : (P R : Tree → Type 0) (c : Sections) → EverywhereIn P c → EverywhereIn R c → EverywhereIn (both P R) c
  everywhere_both_in P R NoSection h g = tt
  everywhere_both_in P R (Section cases default a ends c) h g = (everywhere_both P R a h.0 g.0, everywhere_both_in P R c h.1 g.1)

mutual
  everywhere_map : (P R : Tree → Type 0) → ((x : Tree) → P x → R x) → (a : Forest) → Everywhere P a → Everywhere R a
  everywhere_map P R f Nil h = tt
  everywhere_map P R f (Then x a) h = (everywhere_map_of P R f x h.0, everywhere_map P R f a h.1)

  everywhere_map_of : (P R : Tree → Type 0) → ((x : Tree) → P x → R x) → (x : Tree) → EverywhereOf P x → EverywhereOf R x
  everywhere_map_of P R f (If t a b) h = (f (If t a b) h.0, everywhere_map P R f a h.1, everywhere_map P R f b h.2)
  everywhere_map_of P R f (While t a) h = (f (While t a) h.0, everywhere_map P R f a h.1)
  everywhere_map_of P R f (Do a t) h = (f (Do a t) h.0, everywhere_map P R f a h.1)
  everywhere_map_of P R f (For first t u a) h = (f (For first t u a) h.0, everywhere_map P R f first h.1, everywhere_map P R f a h.2)
  everywhere_map_of P R f (Switch s c) h = (f (Switch s c) h.0, everywhere_map_in P R f c h.1)
  everywhere_map_of P R f (Block a) h = (f (Block a) h.0, everywhere_map P R f a h.1)
  everywhere_map_of P R f (Evaluate e) h = f (Evaluate e) h
  everywhere_map_of P R f (Return e) h = f (Return e) h
  everywhere_map_of P R f (Local x es) h = f (Local x es) h
  everywhere_map_of P R f Break h = f Break h
  everywhere_map_of P R f Continue h = f Continue h
  everywhere_map_of P R f (Goto l) h = f (Goto l) h
  everywhere_map_of P R f (Mark l) h = f (Mark l) h
  everywhere_map_of P R f (Arm l e) h = f (Arm l e) h
  everywhere_map_of P R f (Leap l) h = f (Leap l) h
  everywhere_map_of P R f (Land l) h = f (Land l) h
  everywhere_map_of P R f (Arrival e) h = f (Arrival e) h
  everywhere_map_of P R f (Note bs) h = f (Note bs) h

  everywhere_map_in : (P R : Tree → Type 0) → ((x : Tree) → P x → R x) → (c : Sections) → EverywhereIn P c → EverywhereIn R c
  everywhere_map_in P R f NoSection h = tt
  everywhere_map_in P R f (Section cases default a ends c) h = (everywhere_map P R f a h.0, everywhere_map_in P R f c h.1)

-- ---- items fit

picks_by : (o : Option IntKind) (s : SelectorTree) → IsSome o → IfSome (option_map promoted o) (λ k. ArePicks k s) → ArePicks (promoted (operand_kind o)) s
picks_by (Some k) s h g = g
picks_by None s h g = cc

picks_fit : (x : Tree) → HasSelectorKind x → HasPicks x → PicksFit x
picks_fit (Switch s c) h g = picks_by (kind_of (selector_source s)) s h g
picks_fit _ h g = tt

unleaping : (x : Tree) → IsConverted x → IsNoLeap x → IsUnleaping false x
unleaping (Goto l) h g = absurd h
unleaping (Leap l) h g = absurd g
unleaping (Land l) h g = refl
unleaping _ h g = tt

-- an item of a flat function
abbrev Flat : Code → List Slot → (ℕ → Bool) → Tree → Type 0
Flat p ss left = both (both (KindedItem p ss) (ArmLabels (λ l. left l ≡ true))) (both (both IsConverted IsNoLeap) (both HasSelectorKind HasPicks))

flat_fits : (p : Code) (ss : List Slot) (left : ℕ → Bool) (x : Tree) → Flat p ss left x → Fits p ss left false x
flat_fits p ss left x h = record { kinded = h.0.0; labels = h.0.1; form = unleaping x h.1.0.0 h.1.0.1; picks = picks_fit x h.1.1.0 h.1.1.1 }

source_labels : (P : ℕ → Type 0) (t : TestTree) → IsSourceTest t → TestLabels P t
source_labels P (Source e) h = tt
source_labels P _ h = absurd h

selector_labels : (P : ℕ → Type 0) (s : SelectorTree) → IsSourceSelector s → SelectorLabels P s
selector_labels P (Selects e) h = tt
selector_labels P (Pick l n s) h = absurd h

unguarded_labels : (P : ℕ → Type 0) (x : Tree) → IsUnguarded x → ArmLabels P x
unguarded_labels P (Arm l e) h = absurd h
unguarded_labels P (Land l) h = absurd h
unguarded_labels P (If t a b) h = source_labels P t h
unguarded_labels P (While t a) h = source_labels P t h
unguarded_labels P (Do a t) h = source_labels P t h
unguarded_labels P (Switch s c) h = selector_labels P s h
unguarded_labels P _ h = tt

unguarded_form : (x : Tree) → IsUnguarded x → IsUnleaping true x
unguarded_form (Leap l) h = h
unguarded_form (Goto l) h = refl
unguarded_form (Land l) h = absurd h
unguarded_form _ h = tt

unguarded_selects : (s : SelectorTree) → IsSourceSelector s → ArePicks (switch_kind s) s
unguarded_selects (Selects e) h = tt
unguarded_selects (Pick l n s) h = absurd h

unguarded_picks : (x : Tree) → IsUnguarded x → PicksFit x
unguarded_picks (Switch s c) h = unguarded_selects s h
unguarded_picks _ h = tt

unguarded_fits : (p : Code) (ss : List Slot) (left : ℕ → Bool) (x : Tree) → both (KindedItem p ss) IsUnguarded x → Fits p ss left true x
unguarded_fits p ss left x h = record {
  kinded = h.0;
  labels = unguarded_labels (λ l. left l ≡ true) x h.1;
  form = unguarded_form x h.1;
  picks = unguarded_picks x h.1;
}

-- ---- functions

module _ (n : ℕ) (A : ℕ → Type 0) where
  abbrev Implied : ℕ → Type 0
  Implied l = l < n → A l

  abbrev Below : ℕ → Type 0
  Below l = l < n

  test_labels : (t : TestTree) → TestLabels Implied t → TestLabels Below t → TestLabels A t
  test_labels (Source e) h g = tt
  test_labels (TT.On l) h g = h g
  test_labels (TT.Off l) h g = h g
  test_labels (TT.AndOff l t) h g = (h.0 g.0, test_labels t h.1 g.1)
  test_labels (TT.OrOn l t) h g = (h.0 g.0, test_labels t h.1 g.1)

  select_labels : (s : SelectorTree) → SelectorLabels Implied s → SelectorLabels Below s → SelectorLabels A s
  select_labels (Selects e) h g = tt
  select_labels (Pick l z s) h g = (h.0 g.0, select_labels s h.1 g.1)

  arm_labels : (x : Tree) → both (ArmLabels Implied) (ItemLabels Below) x → ArmLabels A x
  arm_labels (Arm l e) h = h.0 h.1
  arm_labels (Land l) h = h.0 h.1
  arm_labels (If t a b) h = test_labels t h.0 h.1
  arm_labels (While t a) h = test_labels t h.0 h.1
  arm_labels (Do a t) h = test_labels t h.0 h.1
  arm_labels (Switch s c) h = select_labels s h.0 h.1
  arm_labels _ h = tt

-- labels that are named are those of the function
pub among_labels : (names : List (List ℕ)) (n : ℕ) (xs : List Item) → length names ≡ n → Everywhere (ItemLabels (λ l. l < n)) (trees_of xs) →
    Everywhere (ArmLabels (λ l. is_among l (labels_left xs 0 names) ≡ true)) (trees_of xs)
among_labels names n xs e h =
    let A = λ (l : ℕ). is_among l (labels_left xs 0 names) ≡ true in
    everywhere_map (both (ArmLabels (λ l. l < n → A l)) (ItemLabels (λ l. l < n))) (ArmLabels A) (arm_labels n A) (trees_of xs)
    (everywhere_both (ArmLabels (λ l. l < n → A l)) (ItemLabels (λ l. l < n)) (trees_of xs)
    (body_named (λ l. l < n → A l) xs (λ l i j. left_among xs 0 names l i (omega arith) (omega (arith, j, e)))) h)

abbrev tree_by : Function → Option (List Item) → FunctionTree
tree_by f b = record { result = f.result; params = f.params; slots = f.slots; body = option_map trees_of b }

some_none : {A : Type 0} (x : A) → Some x ≡ None → ⊥
some_none x e = cc

fits_by : (flat : Bool) (b : Option (List Item)) (p : Code) (names : List (List ℕ)) (f : Function) → f.flat ≡ flat → f.body ≡ b → Range.IsInRange f →
    Everywhere (KindedItem p f.slots) (body_of f)
    → (f.flat ≡ true → IsWellMade (body_of f)) → (f.flat ≡ true → Everywhere IsNoLeap (body_of f)) → length names ≡ length f.labels →
    IsSlotted p (tree_by f b) (guarding_by flat b names f)
fits_by flat None p names f q e ranged kinded made leapless named = record {
  parameters = ranged.parameters;
  ints = tt;
  bodiless = λ z. refl;
  beyond = λ l i. absurd (true≢false (sym i));
  within = λ l i. absurd (true≢false (sym i));
  apart = λ l m i j z. absurd (true≢false (sym i));
  declared = none;
  jumping = true;
  fits = tt;
}
fits_by true (Some xs) p names f q e ranged kinded made leapless named =
    let ls = labels_left xs 0 names in
    let body : body_of f ≡ trees_of xs = ap (λ o. option_map_or trees_of o Nil) e in
    let m = made q in
    let at = λ (R : Tree → Type 0) (h : Everywhere R (body_of f)). subst (Everywhere R) body h in
    let left = λ (l : ℕ). is_among l ls in
    let ss = f.slots in
    record {
      parameters = ranged.parameters;
      ints = guard_slots_ints (names_left xs 0 names);
      bodiless = λ z. absurd (some_none (trees_of xs) z);
      beyond = λ l i. slot_below (length f.slots) ls l;
      within = λ l i. let h = slot_within (length f.slots) ls l i in let c = slots_left xs 0 names in omega (arith, h, c);
      apart = λ l k i j z. slot_apart (length f.slots) ls l k i j z;
      declared = subst (λ z. AreDeclarations (length f.slots) (length f.slots + z) (trees_of (declared f ls))) (sym (slots_left xs 0 names))
          (are_declared f ls);
      jumping = false;
      fits = everywhere_map (Flat p ss left) (Fits p ss left false) (flat_fits p ss left) (trees_of xs)
          (everywhere_both (both (KindedItem p ss) (ArmLabels (λ l. left l ≡ true)))
          (both (both IsConverted IsNoLeap) (both HasSelectorKind HasPicks)) (trees_of xs)
          (everywhere_both (KindedItem p ss) (ArmLabels (λ l. left l ≡ true)) (trees_of xs) (at (KindedItem p ss) kinded)
          (among_labels names (length f.labels) xs named (at (ItemLabels (λ l. l < length f.labels)) ranged.labels)))
          (everywhere_both (both IsConverted IsNoLeap) (both HasSelectorKind HasPicks) (trees_of xs)
          (everywhere_both IsConverted IsNoLeap (trees_of xs) (at IsConverted m.converted) (at IsNoLeap (leapless q)))
          (everywhere_both HasSelectorKind HasPicks (trees_of xs) (at HasSelectorKind m.selectors) (at HasPicks m.picks))));
    }
fits_by false (Some xs) p names f q e ranged kinded made leapless named =
    let body : body_of f ≡ trees_of xs = ap (λ o. option_map_or trees_of o Nil) e in
    let left = λ (l : ℕ). false in
    record {
      parameters = ranged.parameters;
      ints = tt;
      bodiless = λ z. refl;
      beyond = λ l i. absurd (true≢false (sym i));
      within = λ l i. absurd (true≢false (sym i));
      apart = λ l m i j z. absurd (true≢false (sym i));
      declared = none;
      jumping = true;
      fits = everywhere_map (both (KindedItem p f.slots) IsUnguarded) (Fits p f.slots left true) (unguarded_fits p f.slots left) (trees_of xs)
          (everywhere_both (KindedItem p f.slots) IsUnguarded (trees_of xs) (subst (Everywhere (KindedItem p f.slots)) body kinded)
          (subst (Everywhere IsUnguarded) body (ranged.unguarded q)));
    }

pub function_slotted : (p : Code) (names : Function → List (List ℕ)) (f : Function) → IsReady p names f →
    IsSlotted p (function_tree f) (guarding_of (names f) f)
function_slotted p names f h = fits_by f.flat f.body p (names f) f refl refl h.ranged h.finished.kinded h.finished.made h.finished.leapless h.finished.named
