-- The slots of a call, one after the other.
use Rattle.std.proofs.Common.{ℕ, zero, suc, ◌+◌, ◌-◌, ◌<◌, ◌≤◌, cond, pos, List, [], ◌∷◌, ◌++◌, map, replicate, length, get_or, drop, slice_get, Option, Some, None, option_map, inl, inr, ◌≡◌, refl, sym, ap, ◌∙◌, subst, arith}
use Rattle.std.proofs.lemmas.Bool.{cases_lt, lt-ltb, le-ltb}
use Rattle.std.proofs.lemmas.List.{length-replicate}
use Rattle.std.proofs.lemmas.Option.{slice_get-map, slice_get_within}
use Rattle.c_types.specs.declared.kinds.IntKind.{IntKind}
use Rattle.c_tree.specs.declared.tree.Slot.{Slot}
use Rattle.jump_meaning.specs.Values as Meant
use Rattle.jump_meaning.specs.Values.{Variable}
use Rattle.jump_meaning.specs.Code.{FunctionTree, entry_or}
use Rattle.jump_meaning.specs.Effects.{top, rest}
use Rattle.jump_meaning.specs.World.{no_slot, parameter, zeros, slot_at_start}
use Rattle.jump_meaning.proofs.Memory.{chosen}
use Rattle.step_memory.specs.declared.room.Room.{Room}
use Rattle.step_memory.specs.Pages.{room_at_start, cells_at_start}
use Rattle.step_memory.specs.Rooms.{IsRoom, AreCells, AreSlots}
use Rattle.step_memory.proofs.PageLemmas.{get_left, get_right, get_drop}

-- one more slot behind the others
pub one_slot_more : (ns : List (List ℕ)) (rooms : List Room) (room : Room) (slots : ℕ → Variable) → AreSlots ns rooms slots →
    IsRoom ns room (slots (length rooms)) → AreSlots ns (rooms ++ room ∷ []) slots
one_slot_more ns [] room slots a h zero r e = subst (λ x. IsRoom ns x (slots 0)) (cc) h
one_slot_more ns [] room slots a h (suc x) r e = cc
one_slot_more ns (y ∷ rooms) room slots a h zero r e = a 0 r e
one_slot_more ns (y ∷ rooms) room slots a h (suc x) r e = one_slot_more ns rooms room (λ i. slots (suc i)) (λ i q d. a (suc i) q d) h x r e

-- the entry at a place, in the rest of a list
pub entry_top : (v : List Meant.Value) (i : ℕ) → top (drop i v) ≡ entry_or Meant.Missing v i
entry_top [] zero = refl
entry_top [] (suc i) = refl
entry_top (x ∷ v) zero = refl
entry_top (x ∷ v) (suc i) = entry_top v i

pub entry_rest : (v : List Meant.Value) (i : ℕ) → rest (drop i v) ≡ drop (suc i) v
entry_rest [] zero = refl
entry_rest [] (suc i) = refl
entry_rest (x ∷ v) zero = refl
entry_rest (x ∷ v) (suc i) = entry_rest v i

pub entry_slot : (ss : List Slot) (i : ℕ) (s : Slot) → i < length ss → s ≡ get_or ss i s → entry_or no_slot ss i ≡ s
entry_slot [] i s h e = absurd (omega arith)
entry_slot (x ∷ ss) zero s h e = sym e
entry_slot (x ∷ ss) (suc i) s h e = entry_slot ss i s (omega arith) e

-- the variable that the next parameter is
pub next_slot : (f : FunctionTree) (vs left : List Meant.Value) (i : ℕ) (s : Slot) → i < f.params → i < length f.slots → s ≡ get_or f.slots i s →
    left ≡ drop i vs → parameter s (top left) ≡ slot_at_start f vs i
next_slot f vs left i s p h e k =
    sym (ap (λ b. cond b (parameter (entry_or no_slot f.slots i) (entry_or Meant.Missing vs i)) (zeros (entry_or no_slot f.slots i))) (lt-ltb i f.params p)
    ∙ ap (λ q. parameter q (entry_or Meant.Missing vs i)) (entry_slot f.slots i s h e)
    ∙ ap (parameter s) (sym (ap top k ∙ entry_top vs i)))

pub next_arguments : (vs left : List Meant.Value) (i : ℕ) → left ≡ drop i vs → rest left ≡ drop (i + 1) vs
next_arguments vs left i k = let one : suc i ≡ i + 1 = omega arith in ap rest k ∙ entry_rest vs i ∙ ap (λ n. drop n vs) one

-- ---- the slots that are as at the start of a call

zeros_within : (n i : ℕ) → i < n → slice_get (replicate n (pos 0)) i ≡ Some (pos 0)
zeros_within zero i h = absurd (omega arith)
zeros_within (suc n) zero h = refl
zeros_within (suc n) (suc i) h = zeros_within n i (omega arith)

cells_zero : (ns : List (List ℕ)) (k : IntKind) (cells : Option ℕ) → AreCells ns k (cells_at_start cells) (Meant.Holds k cells (λ i. pos 0))
cells_zero ns k None = (refl, refl)
cells_zero ns k (Some n) = (refl, sym (length-replicate n (pos 0)), λ i h. zeros_within n i (omega (arith, h, length-replicate n (pos 0))))

pub zero_slot : (ns : List (List ℕ)) (s : Slot) → IsRoom ns (room_at_start s) (zeros s)
zero_slot ns s = cells_zero ns s.kind s.cells

entry_got : (ss : List Slot) (i : ℕ) (s : Slot) → slice_get ss i ≡ Some s → entry_or no_slot ss i ≡ s
entry_got [] i s e = cc
entry_got (x ∷ ss) zero s e = cc
entry_got (x ∷ ss) (suc i) s e = entry_got ss i s e

mapped_slot : (ns : List (List ℕ)) (o : Option Slot) (r : Room) (v : Variable) → option_map room_at_start o ≡ Some r →
    ((s : Slot) → o ≡ Some s → v ≡ zeros s) → IsRoom ns r v
mapped_slot ns None r v e h = cc
mapped_slot ns (Some s) r v e h = let same : room_at_start s ≡ r = cc in
    subst (λ x. IsRoom ns x v) same (subst (IsRoom ns (room_at_start s)) (sym (h s refl)) (zero_slot ns s))

pub rest_slots : (ns : List (List ℕ)) (f : FunctionTree) (vs : List Meant.Value) (first : List Room) (n : ℕ) → length first ≡ n →
    (n < length f.slots → f.params ≤ n)
    → AreSlots ns first (slot_at_start f vs) → AreSlots ns (first ++ map room_at_start (drop n f.slots)) (slot_at_start f vs)
rest_slots ns f vs first n e p a x r h = elim (cases_lt x n) as (λ _. IsRoom ns r (slot_at_start f vs x)) [
  | inl l ↦ a x r (sym (get_left first (map room_at_start (drop n f.slots)) x (omega (arith, e, l))) ∙ h)
  | inr l ↦
      let behind : x ≡ length first + (x - n) = omega (arith, e, l) in
      let there : n + (x - n) ≡ x = omega (arith, l) in
      mapped_slot ns (slice_get f.slots x) r (slot_at_start f vs x)
      (ap (option_map room_at_start) (sym (get_drop f.slots n (x - n) ∙ ap (slice_get f.slots) there))
      ∙ sym (slice_get-map room_at_start (drop n f.slots) (x - n))
      ∙ sym (get_right first (map room_at_start (drop n f.slots)) x (x - n) behind) ∙ h)
      (λ s g.
      let within : n < length f.slots = omega (arith, l, slice_get_within f.slots x s g) in
      ap (λ b. cond b (parameter (entry_or no_slot f.slots x) (entry_or Meant.Missing vs x)) (zeros (entry_or no_slot f.slots x)))
      (le-ltb x f.params (omega (arith, p within, l)))
      ∙ ap zeros (entry_got f.slots x s g))
]
