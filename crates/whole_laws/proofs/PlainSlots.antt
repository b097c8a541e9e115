-- The variables of the plain form of a function with jumps: which are numbers or arrays that may be assigned.
use Rattle.std.proofs.Common.{◌≡◌, ℕ, zero, suc, ◌+◌, ◌<◌, ◌≤◌, false, List, [], ◌∷◌, ◌++◌, length, map, drop, Option, Some, None, IsSome, slice_get, refl, sym, ap, subst, ◌∙◌, arith}
use Rattle.std.specs.Prelude.{IsSomeAnd}
use Rattle.std.specs.List.{AllByRecursion}
use Rattle.c_types.specs.declared.kinds.IntKind.{IntKind}
use Rattle.c_types.specs.declared.kinds.IntKind.TheVariants.{Int}
use Rattle.c_tree.specs.declared.tree.Slot.{Slot}
use Rattle.c_tree.specs.declared.tree.Function.{Function}
use Rattle.jump_meaning.specs.Code.{entry_or}
use Rattle.jump_meaning.specs.World.{no_slot}
use Rattle.flat_laws.specs.Source.{IsVariable}
use Rattle.plain_laws.specs.Plain.{names_left, guard_slot}
use Rattle.plain_laws.proofs.LeftLabels.{slot_below, slot_within, slots_left}
use Rattle.whole_laws.specs.Rewritten.{setting}
use Rattle.c_resolved_defs.specs.Names.{Names}
use Rattle.whole_laws.proofs.FactsMoved.{labels_of, slot_of, Left}
use Rattle.whole_laws.proofs.MadeKinds.{IsFreeNumber, IsFreeArray}
use Rattle.whole_laws.proofs.NamesKept.{SameVariable, slot_over, Found}
use Rattle.whole_laws.proofs.PlainTops.{IsMovedForm}
use Rattle.whole_laws.proofs.SameTops.{moved_slots, moved_keeps}

-- ---- lists

pub get_front : {A : Type 0} (xs ys : List A) (x : ℕ) → x < length xs → slice_get (xs ++ ys) x ≡ slice_get xs x
get_front [] ys x h = absurd (omega (arith, h))
get_front (a ∷ xs) ys zero h = refl
get_front (a ∷ xs) ys (suc x) h = get_front xs ys x (omega (arith, h))

pub get_guard : (xs : List Slot) (ns : List (List ℕ)) (x : ℕ) → length xs ≤ x → x < length xs + length ns →
    (m : List ℕ) × (slice_get (xs ++ map guard_slot ns) x ≡ Some (guard_slot m))
get_guard [] [] x h i = absurd (omega (arith, i))
get_guard [] (n ∷ ns) zero h i = (n, refl)
get_guard [] (n ∷ ns) (suc x) h i = get_guard [] ns x (omega arith) (omega (arith, i))
get_guard (s ∷ xs) ns zero h i = absurd (omega (arith, h))
get_guard (s ∷ xs) ns (suc x) h i = get_guard xs ns x (omega (arith, h)) (omega (arith, i))

pub entry_there : (ss : List Slot) (x : ℕ) → x < length ss → slice_get ss x ≡ Some (entry_or no_slot ss x)
entry_there [] x h = absurd (omega (arith, h))
entry_there (s ∷ ss) zero h = refl
entry_there (s ∷ ss) (suc x) h = entry_there ss x (omega (arith, h))

abbrev or_this : {A : Type 0} → A → Option A → A
or_this b (Some a) = a
or_this b None = b

same_some : {A : Type 0} (P : A → Type 0) (b a : A) → Some b ≡ Some a → P b → P a
same_some P b a e p = subst P (ap (or_this b) e) p

pub in_drop : {A : Type 0} (P : A → Type 0) (n : ℕ) (xs : List A) (x : ℕ) (a : A) → AllByRecursion P (drop n xs) → n ≤ x → slice_get xs x ≡ Some a → P a
in_drop P n [] x a h i e = cc
in_drop P zero (b ∷ xs) zero a h i e = same_some P b a e h.0
in_drop P zero (b ∷ xs) (suc x) a h i e = in_drop P zero xs x a h.1 (omega arith) e
in_drop P (suc n) (b ∷ xs) zero a h i e = absurd (omega (arith, i))
in_drop P (suc n) (b ∷ xs) (suc x) a h i e = in_drop P n xs x a h (omega (arith, i)) e

found_map : (o : Option Slot) (s : Slot) (Q : Slot → Type 0) → o ≡ Some s → Q s → IsSomeAnd o Q
found_map o s Q e q = subst (λ p. IsSomeAnd p Q) (sym e) q

-- ---- of a function with jumps

module _ (f h : Function) (m : IsMovedForm f h) (params : f.params ≤ length f.slots) (k : Names) (slots : k.slots ≡ h.slots) where
  abbrev G : List Slot
  G = m.flat_form.slots

  enough : length f.slots ≤ length G
  enough = let w = m.is_flat in let e = w.more_slots in omega (arith, e)

  get_flat : (x : ℕ) → x < length G → slice_get k.slots x ≡ slice_get G x
  get_flat x b = ap (λ ss. slice_get ss x) (slots ∙ moved_slots f h m params) ∙ get_front G _ x b

  flat_free : (x : ℕ) (s : Slot) → f.params ≤ x → slice_get G x ≡ Some s → s.constant ≡ false
  flat_free x s p e = let w = m.is_flat in in_drop (λ (r : Slot). r.constant ≡ false) f.params G x s w.constants p e

  -- the variable of a scattered switch
  pub switch_free : (v : ℕ) (kind : IntKind) → IsVariable (setting f m.flat_form) v kind → v < length G → IsFreeNumber k v kind
  switch_free v kind w b =
      let e = entry_there G v b in
      let n = w.new in
      found_map (slice_get k.slots v) (entry_or no_slot G v) _ (get_flat v b ∙ e) (w.kind, w.cells, flat_free v (entry_or no_slot G v) n.0 e)

  -- a variable of a block
  module _ (x : ℕ) (r : Slot) (e : slice_get f.slots x ≡ Some r) (p : f.params ≤ x) (b : x < length f.slots) where
    same_there : Found r (slice_get k.slots x)
    same_there = subst (λ ss. Found r (slice_get ss x)) (sym slots) (slot_over f.slots h.slots (moved_keeps f h m params) x r e)

    block_by : (Q : Slot → Type 0) → ((t : Slot) → SameVariable r t → t.constant ≡ false → Q t) → IsSomeAnd (slice_get k.slots x) Q
    block_by Q g = at (slice_get k.slots x) refl same_there
      where
        at : (o : Option Slot) → slice_get k.slots x ≡ o → Found r o → IsSomeAnd o Q
        at None i d = absurd d
        at (Some t) i d = let q = enough in g t d (flat_free x t p (sym (get_flat x (omega (arith, b, q))) ∙ i))

    pub block_number : r.cells ≡ None → IsFreeNumber k x r.kind
    block_number c = block_by (λ (t : Slot). (t.kind ≡ r.kind) × (t.cells ≡ None) × (t.constant ≡ false)) (λ t v q. (v.kind, v.cells ∙ c, q))

    pub block_array : IsSome r.cells → IsFreeArray k x r.kind
    block_array c = block_by (λ (t : Slot). (t.kind ≡ r.kind) × IsSome t.cells × (t.constant ≡ false)) (λ t v q. (v.kind, subst IsSome (sym v.cells) c, q))

  -- the variable of a guard
  pub guard_free : (l : ℕ) → Left f h m l → IsFreeNumber k (slot_of f h m l) Int
  guard_free l i =
      let ls = labels_of f h m in
      let ns = names_left m.new 0 m.names in
      let x = slot_of f h m l in
      let low = slot_below (length G) ls l in
      let high = slot_within (length G) ls l i in
      let c = slots_left m.new 0 m.names in
      let d = length_slots ns in
      let g = get_guard G ns x low (omega (arith, high, c, d)) in
      found_map (slice_get k.slots x) (guard_slot g.0) _ (ap (λ ss. slice_get ss x) (slots ∙ moved_slots f h m params) ∙ g.1) (refl, refl, refl)
    where
      length_slots : (ns : List (List ℕ)) → length (map guard_slot ns) ≡ length ns
      length_slots [] = refl
      length_slots (n ∷ ns) = ap suc (length_slots ns)
