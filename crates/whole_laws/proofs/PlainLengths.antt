-- Arrays and initialisers of the plain form, and that it has no jumps.
use Rattle.std.proofs.Common.{◌≡◌, ℕ, zero, suc, ◌+◌, ◌<◌, ◌≤◌, false, cond, List, [], ◌∷◌, ◌++◌, length, map, drop, Option, Some, None, slice_get, refl, sym, ap, subst, ◌∙◌, arith}
use Rattle.std.specs.Prelude.{IfSome, IsSomeAnd}
use Rattle.c_tree.specs.declared.tree.Slot.{Slot}
use Rattle.c_tree.specs.declared.tree.Function.{Function}
use Rattle.c_tree.specs.ExpressionTrees.{ExpressionTree}
use Rattle.c_tree.specs.Slots.{ItemSlots}
use Rattle.c_tree.specs.Trees.{Tree, Forest, Nil, Then, Sections, NoSection, Section, If, While, Do, For, Switch, Block, Local, Goto, join, trees_of}
use Rattle.c_tree.specs.Everywhere.{total, total_of, total_in, Everywhere, EverywhereOf, EverywhereIn}
use Rattle.c_tree.specs.InRange.{body_of, IsInRange}
use Rattle.c_tree.specs.WellMade.{IsConverted}
use Rattle.c_tree.proofs.WellMoved.{everywhere_map, everywhere_both}
use Rattle.jump_meaning.specs.Code.{entry_or}
use Rattle.jump_meaning.specs.World.{no_slot}
use Rattle.flat_laws.specs.Loose.{ExtendSlots}
use Rattle.flat_laws.specs.Parts.{has_jumps, jumps_of, is_some_number}
use Rattle.flat_laws.specs.Unlabelled.{unlabelled}
use Rattle.plain_laws.specs.GuardSlots.{plain_list, plain_item}
use Rattle.plain_laws.specs.Plain.{declared, names_left, guard_slot}
use Rattle.plain_laws.specs.Slotted.{AreDeclarations, none, one_more, variable, guarding}
use Rattle.plain_laws.specs.Tidied.{tidy, tidy_item}
use Rattle.plain_laws.proofs.LeftLabels.{slots_left}
use Rattle.plain_laws.proofs.PlainFunctions.{are_declared}
use Rattle.plain_laws.proofs.PlainRange.{tidy_everywhere, plain_everywhere, join_everywhere}
use Rattle.whole_laws.proofs.Unlabelled.{IsPlainItem, IsLeaf, IsLeft, left}
use Rattle.c_resolved_defs.specs.Files.{IsLength, AreLengths, SlotIsInitialised, AreInitialisers}
use Rattle.c_resolved_defs.specs.Resolved.{IsInitialised, HasLengths}
use Rattle.whole_laws.proofs.FactsMoved.{labels_of, slot_of, reached_of, plain_trees, left_trees}
use Rattle.whole_laws.proofs.PlainSlots.{get_guard, entry_there}
use Rattle.whole_laws.proofs.PlainTops.{IsMovedForm, IsUnmovedForm}
use Rattle.whole_laws.proofs.SameTops.{moved_slots, moved_params, moved_declared, unmoved_slots, unmoved_params, unmoved_declared}
use Rattle.whole_laws.proofs.TidyForm.{unscattered}

-- ---- lengths

none_lengths : (n : ℕ) (ts : List Slot) → ExtendSlots [] ts → AreLengths IsLength (drop n ts)
none_lengths zero [] h = tt
none_lengths (suc n) [] h = tt
none_lengths zero (t ∷ ts) h = (subst IsLength (sym h.0) tt, none_lengths zero ts h.1)
none_lengths (suc n) (t ∷ ts) h = none_lengths n ts h.1

extended_lengths : (n : ℕ) (ss ts : List Slot) → ExtendSlots ss ts → AreLengths IsLength (drop n ss) → AreLengths IsLength (drop n ts)
extended_lengths n [] ts h l = none_lengths n ts h
extended_lengths n (s ∷ ss) [] h l = absurd h
extended_lengths zero (s ∷ ss) (t ∷ ts) h l = (subst IsLength h.1 l.0, extended_lengths zero ss ts h.2 l.1)
extended_lengths (suc n) (s ∷ ss) (t ∷ ts) h l = extended_lengths n ss ts h.2 l

guard_lengths : (n : ℕ) (ts : List Slot) (ns : List (List ℕ)) → AreLengths IsLength (drop n ts) → AreLengths IsLength (drop n (ts ++ map guard_slot ns))
guard_lengths zero [] [] l = tt
guard_lengths (suc n) [] [] l = tt
guard_lengths zero [] (m ∷ ns) l = (tt, guard_lengths zero [] ns tt)
guard_lengths (suc n) [] (m ∷ ns) l = guard_lengths n [] ns (nothing n)
  where
    nothing : (n : ℕ) → AreLengths IsLength (drop n [])
    nothing zero = tt
    nothing (suc n) = tt
guard_lengths zero (t ∷ ts) ns l = (l.0, guard_lengths zero ts ns l.1)
guard_lengths (suc n) (t ∷ ts) ns l = guard_lengths n ts ns l

pub moved_lengths : (f h : Function) (m : IsMovedForm f h) → f.params ≤ length f.slots → HasLengths f → HasLengths h
moved_lengths f h m params l = record {
  parameters = subst (AreLengths _) (sym (moved_declared f h m params).parameters) l.parameters;
  others = subst (AreLengths IsLength) (sym (λ i. drop (moved_params f h m params i) (moved_slots f h m params i)))
      (guard_lengths f.params m.flat_form.slots (names_left m.new 0 m.names) (extended_lengths f.params f.slots m.flat_form.slots m.is_flat.slots l.others));
}

pub unmoved_lengths : (f h : Function) (m : IsUnmovedForm f h) → HasLengths f → HasLengths h
unmoved_lengths f h m l = record {
  parameters = subst (AreLengths _) (sym (unmoved_declared f h m).parameters) l.parameters;
  others = subst (AreLengths IsLength) (sym (λ i. drop (unmoved_params f h m i) (unmoved_slots f h m i))) l.others;
}

-- ---- initialisers

-- a declaration has no initialiser, or is that of a guard
abbrev IsGuardLocal : ℕ → ℕ → Tree → Type 0
IsGuardLocal base end (Local x es) = IfSome es (λ gs. (base ≤ x) × (x < end) × (length gs ≡ 1))
IsGuardLocal base end _ = Unit {0}

declarations_guard : (base end : ℕ) (a : Forest) → AreDeclarations base end a → Everywhere (IsGuardLocal base end) a
declarations_guard base end Nil none = tt
declarations_guard base end (Then x a) (one_more (variable y) r) = (tt, declarations_guard base end a r)
declarations_guard base end (Then x a) (one_more (guarding y i j) r) = ((i, j, refl), declarations_guard base end a r)

guard_item : (base end : ℕ) (slot : ℕ → ℕ) (x : Tree) → IsConverted x → IsGuardLocal base end (plain_item slot x)
guard_item base end slot (Local x es) h = absurd h
guard_item base end slot _ h = tt

-- what tidying leaves of an item has the fact, where the fact is one of declarations
module _ (P : ℕ → Option (List ExpressionTree) → Type 0) where
  abbrev pub OfLocals : Tree → Type 0
  OfLocals (Local x es) = P x es
  OfLocals _ = Unit {0}

  pub locals_tidy : (x : Tree) → OfLocals x → OfLocals (tidy_item x)
  locals_tidy (Local x es) h = h
  locals_tidy _ h = tt

  locals_leaf : (x : Tree) → IsLeaf x → OfLocals x → OfLocals x
  locals_leaf x i h = h

  pub locals_left : IsLeft OfLocals OfLocals
  locals_left = record {
    ifs = λ t a b h. tt;
    whiles = λ t a h. tt;
    dos = λ t a h. tt;
    fors = λ first t u a h. tt;
    switches = λ s c h. tt;
    blocks = λ a h. tt;
    leaves = locals_leaf;
  }

to_locals : (P : ℕ → Option (List ExpressionTree) → Type 0) (Q : Tree → Type 0) →
    ((x : ℕ) (es : Option (List ExpressionTree)) → Q (Local x es) → P x es) → (x : Tree) → Q x → OfLocals P x
to_locals P Q f (Local x es) h = f x es h
to_locals P Q f _ h = tt

of_locals : (ss : List Slot) (x : Tree) → OfLocals (λ k es. SlotIsInitialised (slice_get ss k) es) x → IsInitialised ss x
of_locals ss (Local x es) h = h
of_locals ss _ h = tt

module _ (f h : Function) (m : IsMovedForm f h) (params : f.params ≤ length f.slots) where
  abbrev base : ℕ
  base = length m.flat_form.slots

  abbrev end : ℕ
  end = length m.flat_form.slots + length (labels_of f h m)

  abbrev Guards : ℕ → Option (List ExpressionTree) → Type 0
  Guards x es = IfSome es (λ gs. (base ≤ x) × (x < end) × (length gs ≡ 1))

  abbrev Initialised : ℕ → Option (List ExpressionTree) → Type 0
  Initialised x es = SlotIsInitialised (slice_get h.slots x) es

  guard_locals : Everywhere (OfLocals Guards) (body_of h)
  guard_locals =
      let decls = trees_of (declared (reached_of f h m) (labels_of f h m)) in
      let slot = slot_of f h m in
      let new = trees_of m.new in
      let P = IsGuardLocal base end in
      subst (Everywhere (OfLocals Guards)) (sym (plain_trees f h m))
      (tidy_everywhere (OfLocals Guards) (locals_tidy Guards) (join decls (plain_list slot new))
      (everywhere_map P (OfLocals Guards) (to_locals Guards P (λ x es k. k)) (join decls (plain_list slot new))
      (join_everywhere P decls (plain_list slot new) (declarations_guard base end decls (are_declared (reached_of f h m) (labels_of f h m)))
      (plain_everywhere slot IsConverted P (guard_item base end slot) new m.made.converted))))

  initialised_by : (o : Option Slot) (s : Slot) (es : Option (List ExpressionTree)) → o ≡ Some s → IfSome es (AreInitialisers 1024 s.cells) →
      SlotIsInitialised o es
  initialised_by o s es e i = subst (λ p. IsSomeAnd p (λ (r : Slot). IfSome es (AreInitialisers 1024 r.cells))) (sym e) i

  guard_initialised : (x : ℕ) (es : Option (List ExpressionTree)) → Guards x es → x < length h.slots → Initialised x es
  guard_initialised x None k b = initialised_by (slice_get h.slots x) (entry_or no_slot h.slots x) None (entry_there h.slots x b) tt
  guard_initialised x (Some gs) k b =
      let ns = names_left m.new 0 m.names in
      let c = slots_left m.new 0 m.names in
      let d = length_slots ns in
      let low = k.0 in
      let high = k.1 in
      let g = get_guard m.flat_form.slots ns x low (omega (arith, high, c, d)) in
      initialised_by (slice_get h.slots x) (guard_slot g.0) (Some gs) (ap (λ ss. slice_get ss x) (moved_slots f h m params) ∙ g.1) k.2
    where
      length_slots : (ns : List (List ℕ)) → length (map guard_slot ns) ≡ length ns
      length_slots [] = refl
      length_slots (n ∷ ns) = ap suc (length_slots ns)

  pub moved_initialised : IsInRange h → Everywhere (IsInitialised h.slots) (body_of h)
  moved_initialised r =
      everywhere_map (λ x. OfLocals Guards x × ItemSlots (λ y. y < length h.slots) x) (IsInitialised h.slots)
      (λ x k. of_locals h.slots x (both_locals x k)) (body_of h)
      (everywhere_both (OfLocals Guards) (ItemSlots (λ y. y < length h.slots)) (body_of h) guard_locals r.slots)
    where
      both_locals : (x : Tree) → OfLocals Guards x × ItemSlots (λ y. y < length h.slots) x → OfLocals Initialised x
      both_locals x k = to_locals Initialised (λ z. OfLocals Guards z × ItemSlots (λ y. y < length h.slots) z) (λ y es g. guard_initialised y es g.0 g.1.0) x k

pub unmoved_initialised : (f h : Function) (m : IsUnmovedForm f h) → Everywhere (IsInitialised f.slots) (body_of f) →
    Everywhere (IsInitialised h.slots) (body_of h)
unmoved_initialised f h m k =
    let P = λ (x : ℕ) (es : Option (List ExpressionTree)). SlotIsInitialised (slice_get f.slots x) es in
    let a = unlabelled (body_of f) in
    subst (λ ss. Everywhere (IsInitialised ss) (body_of h)) (sym (unmoved_slots f h m))
    (subst (Everywhere (IsInitialised f.slots)) (sym (left_trees f h m))
    (everywhere_map (OfLocals P) (IsInitialised f.slots) (of_locals f.slots) (tidy a)
    (tidy_everywhere (OfLocals P) (locals_tidy P) a (left (OfLocals P) (OfLocals P) (locals_left P) (body_of f)
    (everywhere_map (IsInitialised f.slots) (OfLocals P) (to_locals P (IsInitialised f.slots) (λ x es i. i)) (body_of f) k)))))

-- ---- jumps

mutual
  jumps_none : (a : Forest) → Everywhere IsPlainItem a → total jumps_of a ≡ 0
  jumps_none Nil h = refl
  jumps_none (Then x a) h = let i = jumps_none_of x h.0 in let j = jumps_none a h.1 in omega (arith, i, j)

  jumps_none_of : (x : Tree) → EverywhereOf IsPlainItem x → total_of jumps_of x ≡ 0
  jumps_none_of (If t a b) h = let i = jumps_none a h.1 in let j = jumps_none b h.2 in omega (arith, i, j)
  jumps_none_of (While t a) h = let i = jumps_none a h.1 in omega (arith, i)
  jumps_none_of (Do a t) h = let i = jumps_none a h.1 in omega (arith, i)
  jumps_none_of (For first t u a) h = let i = jumps_none first h.1 in let j = jumps_none a h.2 in omega (arith, i, j)
  jumps_none_of (Switch s c) h = let e = ap {B = ℕ} (λ b. cond b 1 0) (unscattered c h.1) in let i = jumps_none_in c h.1 in omega (arith, e, i)
  jumps_none_of (Block a) h = let i = jumps_none a h.1 in omega (arith, i)
  jumps_none_of (Goto l) h = absurd h
  jumps_none_of x h = refl

  jumps_none_in : (c : Sections) → EverywhereIn IsPlainItem c → total_in jumps_of c ≡ 0
  jumps_none_in NoSection h = refl
  jumps_none_in (Section cases default a ends c) h = let i = jumps_none a h.0 in let j = jumps_none_in c h.1 in omega (arith, i, j)

pub no_jumps : (a : Forest) → Everywhere IsPlainItem a → has_jumps a ≡ false
no_jumps a h = ap is_some_number (jumps_none a h)
