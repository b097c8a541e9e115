-- The beginning and the end of a call in Worlds that are apart.
use Rattle.std.proofs.Common.{ℕ, zero, suc, pred, ◌+◌, ◌-◌, ◌≤◌, ◌<◌, ◌⊎◌, inl, inr, pos, Bool, true, false, cond, not, ◌&&◌, eqb, nat_lt, List, [], ◌∷◌, map, length, None, ◌≡◌, refl, sym, ap, ◌∙◌, subst, true≢false, eqb-true, eq-eqb, arith}
use Rattle.std.proofs.lemmas.Bool.Decides.{nat_tests}
use Rattle.std.specs.Option.{option_map_or}
use Rattle.c_types.specs.declared.kinds.IntKind.{IntKind}
use Rattle.c_types.specs.declared.kinds.IntKind.TheVariants.{Int}
use Rattle.c_types.proofs.Residues.{converted-in_range}
use Rattle.c_tree.specs.declared.tree.Slot.{Slot}
use Rattle.jump_meaning.specs.Values.{Owner, OfFile, OfCall, Variable, Holds, Lent, Value, Integer, Designates, Lends, Format, Missing}
use Rattle.jump_meaning.specs.Code.{FunctionTree, Code, entry_or, cell_count, cells_of}
use Rattle.jump_meaning.specs.World.{World, parameter, zeros, no_slot, slot_at_start, enter_call, pop}
use Rattle.plain_laws.proofs.Memories.{Shape, Shapes, zero_in_range, Target, Good}
use Rattle.plain_laws.proofs.Sorts.{ForSlot, HasSort}
use Rattle.plain_laws.proofs.Carried.{Agree, target_grows, kind_grows, good_grows}
use Rattle.plain_laws.proofs.Entering.{AreArguments, with_call, shapes_agree, call_apart}
use Rattle.tidy_laws.specs.Renumbered.{new_number, without}
use Rattle.tidy_laws.specs.Settled.{MayGo}
use Rattle.tidy_laws.proofs.TidyChangesNumbers.{number_before, same_parameter, same_entry}
use Rattle.tidy_laws.proofs.Apart.{IsFlag, Apart, new_owner, new_variable, new_lending}

abbrev is_own : Variable → Bool
is_own (Holds k n cells) = true
is_own (Lent o) = false

-- a function without a slot, with this body
abbrev pub narrowed : ℕ → FunctionTree → FunctionTree
narrowed g f = record f { slots = without g f.slots }

pub gone_cells : (g : ℕ) (f : FunctionTree) → MayGo g f → cell_count (entry_or no_slot f.slots g) ≡ 0
gone_cells g f h = ap (λ o. option_map_or (λ n. n) o 0) h.single

-- the call after n
abbrev pub inside_shape : ℕ → FunctionTree → List Value → Shape
inside_shape g f vs = record { slots = f.slots; own = λ x. not (eqb x g) && is_own (slot_at_start f vs x) }

abbrev pub with_hole : ℕ → ℕ → (ℕ → ℕ) → ℕ → ℕ
with_hole c g holes d = cond (eqb c d) g (holes d)

pub this_call : (n : ℕ) → eqb (suc n) (suc n) ≡ true
this_call n = eq-eqb (suc n) (suc n) refl

flag_zeros : (s : Slot) → s.kind ≡ Int → s.cells ≡ None → IsFlag false (zeros s)
flag_zeros s i j = subst (λ k. IsFlag false (Holds k s.cells (λ i. pos 0))) (sym i) (subst (λ o. IsFlag false (Holds Int o (λ i. pos 0))) (sym j) (λ e. refl))

chosen_variable : (P : Variable → Type 0) (b : Bool) (x y : Variable) → P x → P y → P (cond b x y)
chosen_variable P true x y h g = h
chosen_variable P false x y h g = g

entry_image : (holes : ℕ → ℕ) (vs : List Value) (x : ℕ) → entry_or Missing (map (new_lending holes) vs) x ≡ new_lending holes (entry_or Missing vs x)
entry_image holes [] x = refl
entry_image holes (v ∷ vs) zero = refl
entry_image holes (v ∷ vs) (suc x) = entry_image holes vs x

module _ (p : Code) (sh : Shapes) (holes : ℕ → ℕ) (n : ℕ) (g : ℕ) (f : FunctionTree) (vs : List Value) where
  abbrev pub grown : Shapes
  grown = with_call (suc n) (inside_shape g f vs) sh

  abbrev pub bored : ℕ → ℕ
  bored = with_hole (suc n) g holes

  agree : Agree p n sh grown
  agree = shapes_agree p n (inside_shape g f vs) sh

  disagree : Agree p n grown sh
  disagree d h = sym (agree d h)

  pub hole_before : (d : ℕ) → d ≤ n → bored d ≡ holes d
  hole_before d h = ap (λ b. cond b g (holes d)) (call_apart n d h)

  pub hole_here : bored (suc n) ≡ g
  hole_here = ap (λ b. cond b g (holes (suc n))) (this_call n)

  pub shape_here : grown (suc n) ≡ inside_shape g f vs
  shape_here = ap (λ b. cond b (inside_shape g f vs) (sh (suc n))) (this_call n)

  owner_before : (c : ℕ) (s : Shapes) (o : Owner) → c ≤ n → Target p s c o → new_owner bored o ≡ new_owner holes o
  owner_before c s (OfFile m) h t = refl
  owner_before c s (OfCall d x) h t = let i = t.0 in ap (λ y. OfCall d (new_number y x)) (hole_before d (omega (arith, i, h)))

  variable_before : (c : ℕ) (s : Shapes) (k : IntKind) (b : Bool) (v : Variable) → c ≤ n → Good p s c k b v → new_variable bored v ≡ new_variable holes v
  variable_before c s k b (Holds j i cells) h t = refl
  variable_before c s k b (Lent o) h t = ap Lent (owner_before c s o h t.0)

  module _ (are : AreArguments p sh n f vs) (may : MayGo g f) where
    -- ---- the slots at the start

    good_parameter : (s : Slot) (v : Value) → HasSort p sh n (ForSlot s.kind) v → Good p grown (suc n) s.kind (is_own (parameter s v)) (parameter s v)
    good_parameter s (Lends o) h = let t = target_grows p n sh grown agree n o (omega arith) h.0 in
        (below o t, kind_grows p n sh grown agree n o (omega arith) h.0 ∙ h.1, refl)
      where
        below : (o : Owner) → Target p grown n o → Target p grown (suc n) o
        below (OfFile m) t = tt
        below (OfCall d x) t = (let g = t.0 in omega (arith, g), t.1, t.2)
    good_parameter s (Integer z) h = (refl, (λ i. converted-in_range s.kind _), refl)
    good_parameter s (Designates o i) h = (refl, (λ i. converted-in_range s.kind _), refl)
    good_parameter s (Format bs) h = (refl, (λ i. converted-in_range s.kind _), refl)
    good_parameter s Missing h = (refl, (λ i. converted-in_range s.kind _), refl)

    good_zeros : (s : Slot) → Good p grown (suc n) s.kind (is_own (zeros s)) (zeros s)
    good_zeros s = (refl, (λ i. zero_in_range s.kind), refl)

    good_start : (x : ℕ) → Good p grown (suc n) (entry_or no_slot f.slots x).kind (is_own (slot_at_start f vs x)) (slot_at_start f vs x)
    good_start x = chosen_variable (λ u. Good p grown (suc n) (entry_or no_slot f.slots x).kind (is_own u) u) (nat_lt x f.params) _ _
        (good_parameter (entry_or no_slot f.slots x) (entry_or Missing vs x) (are.each x)) (good_zeros (entry_or no_slot f.slots x))

    parameter_image : (s : Slot) (v : Value) → HasSort p sh n (ForSlot s.kind) v → parameter s (new_lending holes v) ≡ new_variable bored (parameter s v)
    parameter_image s (Lends o) h = ap Lent (sym (owner_before n sh o (omega arith) h.0))
    parameter_image s _ h = refl

    start_image : (x : ℕ) → eqb x g ≡ false → slot_at_start (narrowed g f) (map (new_lending holes) vs) (new_number g x) ≡ new_variable bored
        (slot_at_start f vs x)
    start_image x h =
        ap (λ b. cond b (parameter (entry_or no_slot (without g f.slots) (new_number g x))
        (entry_or Missing (map (new_lending holes) vs) (new_number g x))) (zeros (entry_or no_slot (without g f.slots) (new_number g x))))
        (same_parameter g f.params x may.local h)
        ∙ ap (λ s. cond (nat_lt x f.params) (parameter s (entry_or Missing (map (new_lending holes) vs) (new_number g x))) (zeros s)) (same_entry g x f.slots h)
        ∙ at (nat_lt x f.params) refl
      where
        at : (b : Bool) → nat_lt x f.params ≡ b
            → cond b (parameter (entry_or no_slot f.slots x) (entry_or Missing (map (new_lending holes) vs) (new_number g x)))
            (zeros (entry_or no_slot f.slots x))
            ≡ new_variable bored (cond b (parameter (entry_or no_slot f.slots x) (entry_or Missing vs x)) (zeros (entry_or no_slot f.slots x)))
        at true e =
            let l = may.local in
            let i : nat_lt g x ≡ false = grind (arith, nat_tests) in
            ap (λ y. parameter (entry_or no_slot f.slots x) (entry_or Missing (map (new_lending holes) vs) y)) (number_before g x i)
            ∙ ap (parameter (entry_or no_slot f.slots x)) (entry_image holes vs x)
            ∙ parameter_image (entry_or no_slot f.slots x) (entry_or Missing vs x) (are.each x)
        at false e = refl

    start_flag : IsFlag false (slot_at_start f vs g)
    start_flag =
        let l = may.local in
        let e : nat_lt g f.params ≡ false = grind (arith, nat_tests) in
        subst (λ b. IsFlag false (cond b (parameter (entry_or no_slot f.slots g) (entry_or Missing vs g)) (zeros (entry_or no_slot f.slots g))))
        (sym e) (flag_zeros (entry_or no_slot f.slots g) may.int may.single)

    -- ---- the beginning

    module _ (w u : World) (a : Apart p sh holes false n w u) (cells : cells_of (without g f.slots) ≡ cells_of f.slots) where
      before : (d : ℕ) → d ≤ suc n → eqb (suc n) d ≡ false → d ≤ n
      before d h e = let q : suc n ≡ d → ⊥ = (λ z. true≢false (sym (eq-eqb (suc n) d z) ∙ e)) in grind arith

      flag_before : (d : ℕ) → d ≤ n → IsFlag false (w.variables (OfCall d (holes d)))
      flag_before d h = at (way d h)
        where
          way : (d : ℕ) → d ≤ n → (d < n) ⊎ (n ≡ d)
          way d h = grind arith

          at : (d < n) ⊎ (n ≡ d) → IsFlag false (w.variables (OfCall d (holes d)))
          at (inl i) = a.older d i
          at (inr e) = subst (λ d. IsFlag false (w.variables (OfCall d (holes d)))) e a.newest

      old_at : (d x : ℕ) → (enter_call f vs w).variables (OfCall d x) ≡ cond (eqb (suc n) d) (slot_at_start f vs x) (w.variables (OfCall d x))
      old_at d x = ap (λ k. cond (eqb (suc k) d) (slot_at_start f vs x) (w.variables (OfCall d x))) a.calls

      new_at : (d x : ℕ) → (enter_call (narrowed g f) (map (new_lending holes) vs) u).variables (OfCall d x) ≡ cond (eqb (suc n) d)
          (slot_at_start (narrowed g f) (map (new_lending holes) vs) x) (u.variables (OfCall d x))
      new_at d x = ap (λ k. cond (eqb (suc k) d) (slot_at_start (narrowed g f) (map (new_lending holes) vs) x) (u.variables (OfCall d x))) a.same_calls

      sealed_in : (d : ℕ) → d ≤ suc n → (b : Bool) → eqb (suc n) d ≡ b → (let z = cond b (inside_shape g f vs) (sh d) in z.own (cond b g (holes d)) ≡ false)
      sealed_in d h true e = ap (λ b. not b && is_own (slot_at_start f vs g)) (eq-eqb g g refl)
      sealed_in d h false e = a.sealed d (before d h e)

      same_in : (d x : ℕ) → d ≤ suc n → (b : Bool) → eqb (suc n) d ≡ b → (let z = cond b (inside_shape g f vs) (sh d) in x < length z.slots) →
          eqb x (cond b g (holes d)) ≡ false
          → cond b (slot_at_start (narrowed g f) (map (new_lending holes) vs) (new_number (cond b g (holes d)) x))
          (u.variables (OfCall d (new_number (cond b g (holes d)) x)))
          ≡ new_variable bored (cond b (slot_at_start f vs x) (w.variables (OfCall d x)))
      same_in d x h true e i k = start_image x k
      same_in d x h false e i k = let j = before d h e in a.call_same d x j i k ∙ sym
          (variable_before d sh (entry_or no_slot (sh d).slots x).kind ((sh d).own x) (w.variables (OfCall d x)) j (a.call_good d x j i k))

      good_in : (d x : ℕ) → d ≤ suc n → (b : Bool) → eqb (suc n) d ≡ b →
          (let z = cond b (inside_shape g f vs) (sh d) in x < length z.slots → eqb x (cond b g (holes d)) ≡ false
          → Good p grown d (entry_or no_slot z.slots x).kind (z.own x) (cond b (slot_at_start f vs x) (w.variables (OfCall d x))))
      good_in d x h true e i k = subst (λ y. Good p grown d (entry_or no_slot f.slots x).kind (not y && is_own (slot_at_start f vs x))
          (slot_at_start f vs x)) (sym k)
          (subst (λ z. Good p grown z (entry_or no_slot f.slots x).kind (is_own (slot_at_start f vs x)) (slot_at_start f vs x)) (eqb-true (suc n) d e)
          (good_start x))
      good_in d x h false e i k = good_grows p n sh grown agree d _ _ (w.variables (OfCall d x)) (before d h e) (a.call_good d x (before d h e) i k)

      pub enter_apart : Apart p grown bored false (suc n) (enter_call f vs w) (enter_call (narrowed g f) (map (new_lending holes) vs) u)
      enter_apart = record {
        calls = ap suc a.calls;
        same_calls = ap suc a.same_calls;
        cells = ap (λ k. u.cells + k) cells ∙ ap (λ k. k + cells_of f.slots) a.cells;
        input = a.input;
        answers = a.answers;
        events = a.events;
        sealed = λ d h. sealed_in d h (eqb (suc n) d) refl;
        file_same = a.file_same;
        file_good = λ m. good_grows p n sh grown agree 0 _ true (w.variables (OfFile m)) (omega arith) (a.file_good m);
        call_same = λ d x h i k. new_at d (new_number (bored d) x) ∙ same_in d x h (eqb (suc n) d) refl i k ∙ ap (new_variable bored) (sym (old_at d x));
        call_good = λ d x h i k. subst (λ v. Good p grown d (entry_or no_slot (grown d).slots x).kind ((grown d).own x) v) (sym (old_at d x))
            (good_in d x h (eqb (suc n) d) refl i k);
        older = λ d h. let i : d ≤ n = omega (arith, h) in subst (IsFlag false)
            (sym (old_at d (bored d) ∙ ap (λ b. cond b (slot_at_start f vs (bored d)) (w.variables (OfCall d (bored d)))) (call_apart n d i) ∙
            ap (λ y. w.variables (OfCall d y)) (hole_before d i))) (flag_before d i);
        newest = subst (IsFlag false) (sym
            (old_at (suc n) (bored (suc n)) ∙ ap (λ b. cond b (slot_at_start f vs (bored (suc n))) (w.variables (OfCall (suc n) (bored (suc n)))))
            (this_call n) ∙ ap (slot_at_start f vs) hole_here)) start_flag;
      }

  -- ---- the end

  pub leave_apart : (cells : cells_of (without g f.slots) ≡ cells_of f.slots) (w u : World) → Apart p grown bored false (suc n) w u →
      Apart p sh holes false n (pop f w) (pop (narrowed g f) u)
  leave_apart cells w u a = record {
    calls = ap pred a.calls;
    same_calls = ap pred a.same_calls;
    cells = ap (λ k. u.cells - k) cells ∙ ap (λ k. k - cells_of f.slots) a.cells;
    input = a.input;
    answers = a.answers;
    events = a.events;
    sealed = λ d h. subst (λ y. (sh d).own y ≡ false) (hole_before d h)
        (subst (λ (z : Shape). z.own (bored d) ≡ false) (agree d h) (a.sealed d (omega (arith, h))));
    file_same = a.file_same;
    file_good = λ m. good_grows p n grown sh disagree 0 _ true (w.variables (OfFile m)) (omega arith) (a.file_good m);
    call_same = λ d x h i k.
        let i' : x < length (grown d).slots = subst (λ (z : Shape). x < length z.slots) (sym (agree d h)) i in
        let k' : eqb x (bored d) ≡ false = subst (λ y. eqb x y ≡ false) (sym (hole_before d h)) k in
        let h' : d ≤ suc n = omega (arith, h) in
        subst (λ y. u.variables (OfCall d (new_number y x)) ≡ new_variable holes (w.variables (OfCall d x))) (hole_before d h)
        (a.call_same d x h' i' k' ∙ variable_before d grown (entry_or no_slot (grown d).slots x).kind ((grown d).own x) (w.variables (OfCall d x)) h
        (a.call_good d x h' i' k'));
    call_good = λ d x h i k.
        let i' : x < length (grown d).slots = subst (λ (z : Shape). x < length z.slots) (sym (agree d h)) i in
        let k' : eqb x (bored d) ≡ false = subst (λ y. eqb x y ≡ false) (sym (hole_before d h)) k in
        subst (λ (z : Shape). Good p sh d (entry_or no_slot z.slots x).kind (z.own x) (w.variables (OfCall d x))) (agree d h)
        (good_grows p n grown sh disagree d _ _ (w.variables (OfCall d x)) h (a.call_good d x (omega (arith, h)) i' k'));
    older = λ d h. subst (λ y. IsFlag false (w.variables (OfCall d y))) (hole_before d (omega (arith, h))) (a.older d (omega (arith, h)));
    newest = subst (λ y. IsFlag false (w.variables (OfCall n y))) (hole_before n (omega arith)) (a.older n (omega arith));
  }
