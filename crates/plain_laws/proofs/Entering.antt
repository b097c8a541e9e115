-- A call begins: both sides get new variables, and the right side declares those of its guards.
use Rattle.std.proofs.Common.{ℕ, zero, suc, ◌+◌, ◌≤◌, ◌<◌, Bool, true, false, cond, eqb, nat_lt, List, [], ◌∷◌, ◌++◌, length, None, ◌≡◌, refl, sym, ap, ◌∙◌, subst, true≢false, eqb-true, eq-eqb, arith}
use Rattle.std.proofs.lemmas.Bool.Decides.{nat_tests}
use Rattle.std.specs.Option.{option_map_or}
use Rattle.c_types.specs.declared.kinds.IntKind.TheVariants.{Int}
use Rattle.c_types.proofs.Residues.{converted-in_range}
use Rattle.c_tree.specs.declared.tree.Slot.{Slot}
use Rattle.jump_meaning.specs.Values.{Owner, OfFile, OfCall, Variable, Holds, Lent, Value, Integer, Designates, Lends, Format, Missing}
use Rattle.jump_meaning.specs.Code.{FunctionTree, Code, entry_or, cell_count, cells_of}
use Rattle.jump_meaning.specs.World.{put_call, parameter, zeros, no_slot, slot_at_start}
use Rattle.plain_laws.specs.Slotted.{Guarding, slotted, AreInts}
use Rattle.plain_laws.proofs.Memories.{Shape, Shapes, Variables, Target, Good, Memories, zero_in_range}
use Rattle.plain_laws.proofs.Sorts.{ForSlot, HasSort}
use Rattle.plain_laws.proofs.Relation.{IsBit}
use Rattle.plain_laws.proofs.Carried.{Agree, target_grows, kind_grows, good_grows}

-- ---- slots of ints behind others

pub more_cells : (ss more : List Slot) → AreInts more → cells_of (ss ++ more) ≡ cells_of ss
more_cells [] [] h = refl
more_cells [] (s ∷ more) h = let e : cell_count s ≡ 0 = ap (λ o. option_map_or (λ n. n) o 0) h.1 in let i = more_cells [] more h.2 in omega (arith, e, i)
more_cells (s ∷ ss) more h = ap (λ n. cell_count s + n) (more_cells ss more h)

pub entry_before : (ss more : List Slot) (x : ℕ) → x < length ss → entry_or no_slot (ss ++ more) x ≡ entry_or no_slot ss x
entry_before [] more x h = absurd (omega (arith, h))
entry_before (s ∷ ss) more zero h = refl
entry_before (s ∷ ss) more (suc x) h = entry_before ss more x (omega (arith, h))

entry_int : (more : List Slot) (x : ℕ) → AreInts more → x < length more → ((entry_or no_slot more x).kind ≡ Int) × ((entry_or no_slot more x).cells ≡ None)
entry_int [] x i h = absurd (omega (arith, h))
entry_int (s ∷ more) zero i h = (i.0, i.1)
entry_int (s ∷ more) (suc x) i h = entry_int more x i.2 (omega (arith, h))

entry_behind : (ss more : List Slot) (x : ℕ) → AreInts more → length ss ≤ x → x < length ss + length more →
    ((entry_or no_slot (ss ++ more) x).kind ≡ Int) × ((entry_or no_slot (ss ++ more) x).cells ≡ None)
entry_behind [] more x i g h = entry_int more x i (omega (arith, h))
entry_behind (s ∷ ss) more zero i g h = absurd (omega (arith, g))
entry_behind (s ∷ ss) more (suc x) i g h = entry_behind ss more x i (omega (arith, g)) (omega (arith, h))

-- ---- variables at the start of a call

abbrev is_own : Variable → Bool
is_own (Holds k n cells) = true
is_own (Lent o) = false

bit_zero : (s : Slot) → s.kind ≡ Int → s.cells ≡ None → IsBit (zeros s) false
bit_zero s e h = (e, h, refl)

chosen_variable : (P : Variable → Type 0) (b : Bool) (x y : Variable) → P x → P y → P (cond b x y)
chosen_variable P true x y h g = h
chosen_variable P false x y h g = g

pub start_bit : (f : FunctionTree) (g : Guarding) (vs : List Value) (x : ℕ) → f.params ≤ length f.slots → AreInts g.more → length f.slots ≤ x →
    x < length f.slots + length g.more → IsBit (slot_at_start (slotted g f) vs x) false
start_bit f g vs x h i j k =
    let e : nat_lt x f.params ≡ false = grind (arith, nat_tests) in
    let s = entry_behind f.slots g.more x i j k in
    subst (λ b. IsBit (cond b (parameter (entry_or no_slot (f.slots ++ g.more) x) (entry_or Missing vs x))
    (zeros (entry_or no_slot (f.slots ++ g.more) x))) false) (sym e) (bit_zero (entry_or no_slot (f.slots ++ g.more) x) s.0 s.1)

start_same : (f : FunctionTree) (g : Guarding) (vs : List Value) (x : ℕ) → x < length f.slots → slot_at_start (slotted g f) vs x ≡ slot_at_start f vs x
start_same f g vs x h = ap (λ s. cond (nat_lt x f.params) (parameter s (entry_or Missing vs x)) (zeros s)) (entry_before f.slots g.more x h)

-- the shapes with that of one more call
abbrev pub with_call : ℕ → Shape → Shapes → Shapes
with_call c new sh d = cond (eqb c d) new (sh d)

abbrev pub start_shape : FunctionTree → List Value → Shape
start_shape f vs = record { slots = f.slots; own = λ x. is_own (slot_at_start f vs x) }

pub call_apart : (n d : ℕ) → d ≤ n → eqb (suc n) d ≡ false
call_apart n d h = at (eqb (suc n) d) refl
  where
    at : (b : Bool) → eqb (suc n) d ≡ b → b ≡ false
    at true e = let i = eqb-true (suc n) d e in absurd (omega (arith, i, h))
    at false e = refl

pub shapes_agree : (p : Code) (n : ℕ) (new : Shape) (sh : Shapes) → Agree p n sh (with_call (suc n) new sh)
shapes_agree p n new sh d h = ap (λ b. cond b new (sh d)) (call_apart n d h)

-- the arguments of a call: an array is one of the kind of its parameter
pub record AreArguments (p : Code) (sh : Shapes) (c : ℕ) (f : FunctionTree) (vs : List Value) : Type 0 where
  pub each : (x : ℕ) → HasSort p sh c (ForSlot (entry_or no_slot f.slots x).kind) (entry_or Missing vs x)

module _ (p : Code) (sh : Shapes) (n : ℕ) (f : FunctionTree) (vs : List Value) (are : AreArguments p sh n f vs) where
  abbrev pub grown : Shapes
  grown = with_call (suc n) (start_shape f vs) sh

  agree : Agree p n sh grown
  agree = shapes_agree p n (start_shape f vs) sh

  good_parameter : (s : Slot) (v : Value) → HasSort p sh n (ForSlot s.kind) v → Good p grown (suc n) s.kind (is_own (parameter s v)) (parameter s v)
  good_parameter s (Lends o) h = let t = target_grows p n sh grown agree n o (omega arith) h.0 in
      (below o t, kind_grows p n sh grown agree n o (omega arith) h.0 ∙ h.1, refl)
    where
      below : (o : Owner) → Target p grown n o → Target p grown (suc n) o
      below (OfFile m) t = tt
      below (OfCall d x) t = (let g = t.0 in omega (arith, g), t.1, t.2)
  good_parameter s (Integer z) h = (refl, (λ i. converted-in_range s.kind _), refl)
  good_parameter s (Designates o i) h = (refl, (λ i. converted-in_range s.kind _), refl)
  good_parameter s (Format bs) h = (refl, (λ i. converted-in_range s.kind _), refl)
  good_parameter s Missing h = (refl, (λ i. converted-in_range s.kind _), refl)

  good_zeros : (s : Slot) → Good p grown (suc n) s.kind (is_own (zeros s)) (zeros s)
  good_zeros s = (refl, (λ i. zero_in_range s.kind), refl)

  good_start : (x : ℕ) → Good p grown (suc n) (entry_or no_slot f.slots x).kind (is_own (slot_at_start f vs x)) (slot_at_start f vs x)
  good_start x =
      chosen_variable (λ u. Good p grown (suc n) (entry_or no_slot f.slots x).kind (is_own u) u) (nat_lt x f.params) _ _
      (good_parameter (entry_or no_slot f.slots x) (entry_or Missing vs x) (are.each x)) (good_zeros (entry_or no_slot f.slots x))

  module _ (g : Guarding) (s v : Variables) (m : Memories p sh n s v) where
    pub entered : Memories p grown (suc n) (put_call (suc n) (slot_at_start f vs) s) (put_call (suc n) (slot_at_start (slotted g f) vs) v)
    entered = record {
      file_same = m.file_same;
      file_good = λ r. good_grows p n sh grown agree 0 _ true (s (OfFile r)) (omega arith) (m.file_good r);
      call_same = λ d x h i. same d x h (eqb (suc n) d) refl i;
      call_good = λ d x h i. good d x h (eqb (suc n) d) refl i;
    }
      where
        older : (d : ℕ) → d ≤ suc n → eqb (suc n) d ≡ false → d ≤ n
        older d h e = let q : suc n ≡ d → ⊥ = (λ z. true≢false (sym (eq-eqb (suc n) d z) ∙ e)) in grind arith

        same : (d x : ℕ) → d ≤ suc n → (b : Bool) → eqb (suc n) d ≡ b → x < length (cond b (start_shape f vs) (sh d)).slots
            → cond b (slot_at_start (slotted g f) vs x) (v (OfCall d x)) ≡ cond b (slot_at_start f vs x) (s (OfCall d x))
        same d x h true e i = start_same f g vs x i
        same d x h false e i = m.call_same d x (older d h e) i

        good : (d x : ℕ) → d ≤ suc n → (b : Bool) → eqb (suc n) d ≡ b →
            (let z = cond b (start_shape f vs) (sh d) in x < length z.slots → Good p grown d (entry_or no_slot z.slots x).kind (z.own x)
            (cond b (slot_at_start f vs x) (s (OfCall d x))))
        good d x h true e i = subst (λ z. Good p grown z (entry_or no_slot f.slots x).kind (is_own (slot_at_start f vs x)) (slot_at_start f vs x))
            (eqb-true (suc n) d e) (good_start x)
        good d x h false e i = good_grows p n sh grown agree d _ _ (s (OfCall d x)) (older d h e) (m.call_good d x (older d h e) i)

    -- memory of earlier calls stays
    pub entered_kept : (u : ℕ → Variable) (d y : ℕ) → d ≤ n → put_call (suc n) u v (OfCall d y) ≡ v (OfCall d y)
    entered_kept u d y h = ap (λ b. cond b (u y) (v (OfCall d y))) (call_apart n d h)

    pub entered_here : (u : ℕ → Variable) (y : ℕ) → put_call (suc n) u v (OfCall (suc n) y) ≡ u y
    entered_here u y = ap (λ b. cond b (u y) (v (OfCall (suc n) y))) (eq-eqb (suc n) (suc n) refl)
