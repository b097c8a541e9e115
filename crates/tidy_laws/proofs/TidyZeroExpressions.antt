-- Expressions whose kinds agree and that don't name the slot come to the same in Worlds that are apart.
use Rattle.std.proofs.Common.{ℕ, zero, suc, Bool, true, false, ◌&&◌, List, [], ◌∷◌, map, Option, Some, None, ◌≡◌, refl, sym, ap, ◌∙◌, subst}
use Rattle.std.proofs.lemmas.Bool.{and_parts}
use Rattle.c_types.specs.declared.kinds.ArithOp.{ArithOp}
use Rattle.c_types.specs.declared.kinds.IntKind.{IntKind}
use Rattle.c_tree.specs.declared.tree.Slot.{Slot}
use Rattle.c_tree.specs.declared.tree.BinaryOp.{BinaryOp}
use Rattle.c_tree.specs.declared.tree.BinaryOp.TheVariants.{Arith, AndThen, OrElse}
use Rattle.c_tree.specs.declared.tree.UnaryOp.{UnaryOp}
use Rattle.c_tree.specs.Constants.{kind_of}
use Rattle.c_tree.specs.Operators.{truth}
use Rattle.c_tree.specs.ExpressionTrees.{ExpressionTree, PlaceTree, Arguments, Typed}
use Rattle.jump_meaning.specs.Values.{Value, Integer, Designates, Lends, Format, Missing, integer}
use Rattle.jump_meaning.specs.Code.{Code, entry_or}
use Rattle.jump_meaning.specs.World.{World, owner, no_slot}
use Rattle.jump_meaning.specs.Operations.{operand_kind, holds, truth_value, binary, unary, loaded, assign}
use Rattle.struct_meaning.specs.Structural.{Evaluation, LessFuel, given, and_then, chosen, and_second, or_second, eval, eval_place, eval_arguments}
use Rattle.plain_laws.specs.Kinded.{Kinded, k_number, k_character, k_enum, k_text, k_read, k_unary, k_cast, k_binary, k_conditional, k_assign, k_update, k_count, k_comma, k_call, KindedPlace, k_var, k_cell, KindedArguments, k_none, k_argument, k_array, unary_kind, binary_kind, IsNumberOf, home_kind, place_kind, call_kind, first_slot, later_slots}
use Rattle.plain_laws.proofs.Memories.{Shapes}
use Rattle.plain_laws.proofs.Sorts.{Num, Spot, ForSlot, HasSort, InKind, IsNumber, bit_in_range}
use Rattle.plain_laws.proofs.Entering.{AreArguments}
use Rattle.tidy_laws.specs.Mentions.{home_lacks, lacks, place_lacks, arguments_lack}
use Rattle.tidy_laws.specs.Renumbered.{renumbered_home, renumbered, renumbered_place, renumbered_arguments}
use Rattle.tidy_laws.proofs.Evaluations.{Alike, bind_alike, looser}
use Rattle.tidy_laws.proofs.Apart.{Apart, new_value, new_lending, home_reached, home_same}
use Rattle.tidy_laws.proofs.Operations.{zero_in, converted_in, Post, then_alike, unary_alike, binary_alike, cell_alike, load_in, load_same, assign_alike, count_alike}

-- an update of what a place designates, where it held x
abbrev updated : LessFuel → ArithOp → Option IntKind → ExpressionTree → Value → Value → World → Evaluation Value
updated L op kind e at x w = and_then (eval L false e w) (λ v w. and_then (given (binary (Arith op) kind (kind_of e) x v w)) (λ v w. given (assign at v w)))

-- what follows the first operand of a mark
abbrev second_operand : LessFuel → BinaryOp → Option IntKind → Option IntKind → ExpressionTree → Value → World → Evaluation Value
second_operand L op j k f v w = and_then (eval L false f w) (λ x w. given (binary op j k v x w))

number_in : (kind : Option IntKind) (v : Value) → IsNumberOf kind (integer v) → InKind kind v
number_in None v h = tt
number_in (Some k) v h = h

pub kind_stays : (g : ℕ) (e : ExpressionTree) → kind_of (renumbered g e) ≡ kind_of e
kind_stays g (Typed kind node) = refl

bit_in : (kind : Option IntKind) (b : Bool) → InKind kind (Integer (truth b))
bit_in None b = tt
bit_in (Some k) b = bit_in_range k b

module _ (p : Code) (sh : Shapes) (holes : ℕ → ℕ) (c : ℕ) (L M : LessFuel) where
  abbrev pub CallsAlike : Type 0
  CallsAlike = (d : Bool) (m : List ℕ) (vs : List Value) (w u : World) → AreArguments p sh c (p.functions m) vs → Apart p sh holes false c w u
      → Alike (Post p sh holes c (Num (call_kind p m))) (L.calls d m vs w) (M.calls d m (map (new_lending holes) vs) u)

  -- two meanings that come to the same number
  abbrev pub Values : Option IntKind → (World → Evaluation Value) → (World → Evaluation Value) → Type 0
  Values kind f h = (w u : World) → Apart p sh holes false c w u → Alike (Post p sh holes c (Num kind)) (f w) (h u)

  abbrev Places : IntKind → (World → Evaluation Value) → (World → Evaluation Value) → Type 0
  Places k f h = (w u : World) → Apart p sh holes false c w u → Alike (Post p sh holes c (Spot k)) (f w) (h u)

  pub no_kind : (kind : Option IntKind) (f h : World → Evaluation Value) → Values kind f h → Values None f h
  no_kind kind f h k w u a = looser (Post p sh holes c (Num kind)) (Post p sh holes c (Num None)) (f w) (h u) (λ v w b u i. ((i.0.0, tt), i.1, i.2)) (k w u a)

  chosen_alike : (kind : Option IntKind) (b : Bool) (i j m n : World → Evaluation Value) → Values kind i m → Values kind j n →
      Values kind (chosen b i j) (chosen b m n)
  chosen_alike kind true i j m n h k w u a = h w u a
  chosen_alike kind false i j m n h k w u a = k w u a

  truth_alike : (kind : Option IntKind) (v : Value) (w u : World) → Apart p sh holes false c w u →
      Post p sh holes c (Num kind) (truth_value v) w (truth_value v) u
  truth_alike kind v w u a = ((tt, bit_in kind (holds v)), refl, a)

  and_alike : (kind k : Option IntKind) (b : Bool) (f h : World → Evaluation Value) → Values k f h → Values kind (and_second b f) (and_second b h)
  and_alike kind k true f h i w u a = then_alike p sh holes c (Num k) (Post p sh holes c (Num kind)) (f w) (h u) _ _ (i w u a)
      (λ v w u s a. truth_alike kind v w u a)
  and_alike kind k false f h i w u a = ((tt, bit_in kind false), refl, a)

  or_alike : (kind k : Option IntKind) (b : Bool) (f h : World → Evaluation Value) → Values k f h → Values kind (or_second b f) (or_second b h)
  or_alike kind k true f h i w u a = ((tt, bit_in kind true), refl, a)
  or_alike kind k false f h i w u a = then_alike p sh holes c (Num k) (Post p sh holes c (Num kind)) (f w) (h u) _ _ (i w u a)
      (λ v w u s a. truth_alike kind v w u a)

  abbrev slots : List Slot
  slots = (sh c).slots

  abbrev g : ℕ
  g = holes c

  -- a number, then what follows it
  pub then_number : (kind : Option IntKind) {A : Type 0} (R : A → World → A → World → Type 0) (f h : World → Evaluation Value)
      (i j : Value → World → Evaluation A) → Values kind f h
      → ((v : Value) (w u : World) → HasSort p sh c (Num kind) v → Apart p sh holes false c w u → Alike R (i v w) (j v u))
      → (w u : World) → Apart p sh holes false c w u → Alike R (and_then (f w) i) (and_then (h u) j)
  then_number kind R f h i j k l w u a = then_alike p sh holes c (Num kind) R (f w) (h u) i j (k w u a) l

  then_place : (k : IntKind) (s : Option IntKind) (f h : World → Evaluation Value) (i j : Value → World → Evaluation Value) → Places k f h
      → ((v : Value) (w u : World) → HasSort p sh c (Spot k) v → Apart p sh holes false c w u →
      Alike (Post p sh holes c (Num s)) (i v w) (j (new_value holes v) u))
      → Values s (λ w. and_then (f w) i) (λ w. and_then (h w) j)
  then_place k s f h i j l m w u a = then_alike p sh holes c (Spot k) (Post p sh holes c (Num s)) (f w) (h u) i j (l w u a) m

  updated_alike : (op : ArithOp) (k : IntKind) (e : ExpressionTree) → Values (kind_of e) (eval L false e) (eval M false (renumbered g e)) →
      (at x : Value) → HasSort p sh c (Spot k) at
      → Values (Some k) (updated L op (Some k) e at x) (updated M op (Some k) (renumbered g e) (new_value holes at) x)
  updated_alike op k e h at x s w u a = then_number (kind_of e) (Post p sh holes c (Num (Some k))) (eval L false e) (eval M false (renumbered g e)) _ _ h
      (λ v w u i a. then_alike p sh holes c (Num (Some (binary_kind (Arith op) k (operand_kind (kind_of e))))) (Post p sh holes c (Num (Some k)))
      (given (binary (Arith op) (Some k) (kind_of e) x v w)) (given (binary (Arith op) (Some k) (kind_of (renumbered g e)) x v u)) _ _
      (subst (λ j. Alike (Post p sh holes c (Num (Some (binary_kind (Arith op) k (operand_kind (kind_of e))))))
      (given (binary (Arith op) (Some k) (kind_of e) x v w)) (given (binary (Arith op) (Some k) j x v u))) (sym (kind_stays g e))
      (binary_alike p sh holes c (Arith op) k (operand_kind (kind_of e)) x v w u a))
      (λ v w u i a. assign_alike p sh holes c k at v s w u a)) w u a

  sign_alike : (op : UnaryOp) (e : ExpressionTree) (v : Value) (w u : World) → Apart p sh holes false c w u
      → Alike (Post p sh holes c (Num (Some (unary_kind op (operand_kind (kind_of e)))))) (given (unary op (kind_of e) v w))
      (given (unary op (kind_of (renumbered g e)) v u))
  sign_alike op e v w u a =
      subst (λ j. Alike (Post p sh holes c (Num (Some (unary_kind op (operand_kind (kind_of e)))))) (given (unary op (kind_of e) v w))
      (given (unary op j v u))) (sym (kind_stays g e)) (unary_alike p sh holes c op (operand_kind (kind_of e)) v w u a)

  mark_alike : (op : BinaryOp) (e f : ExpressionTree) (v x : Value) (w u : World) → Apart p sh holes false c w u
      → Alike (Post p sh holes c (Num (Some (binary_kind op (operand_kind (kind_of e)) (operand_kind (kind_of f))))))
      (given (binary op (kind_of e) (kind_of f) v x w)) (given (binary op (kind_of (renumbered g e)) (kind_of (renumbered g f)) v x u))
  mark_alike op e f v x w u a =
      let k = Some (binary_kind op (operand_kind (kind_of e)) (operand_kind (kind_of f))) in
      subst (λ z. Alike (Post p sh holes c (Num k)) (given (binary op (kind_of e) (kind_of f) v x w))
      (given (binary op z (kind_of (renumbered g f)) v x u))) (sym (kind_stays g e))
      (subst (λ z. Alike (Post p sh holes c (Num k)) (given (binary op (kind_of e) (kind_of f) v x w)) (given (binary op (kind_of e) z v x u)))
      (sym (kind_stays g f)) (binary_alike p sh holes c op (operand_kind (kind_of e)) (operand_kind (kind_of f)) v x w u a))

  -- arguments for these parameters
  abbrev Fit : List Slot → List Value → Type 0
  Fit ts [] = Unit {0}
  Fit ts (v ∷ vs) = HasSort p sh c (ForSlot (first_slot ts).kind) v × Fit (later_slots ts) vs

  abbrev Given : List Slot → List Value → World → List Value → World → Type 0
  Given ts vs w ys u = Fit ts vs × (ys ≡ map (new_lending holes) vs) × Apart p sh holes false c w u

  first_entry : (ts : List Slot) → entry_or no_slot ts 0 ≡ first_slot ts
  first_entry [] = refl
  first_entry (t ∷ ts) = refl

  later_entry : (ts : List Slot) (x : ℕ) → entry_or no_slot ts (suc x) ≡ entry_or no_slot (later_slots ts) x
  later_entry [] x = refl
  later_entry (t ∷ ts) x = refl

  each_fits : (ts : List Slot) (vs : List Value) → Fit ts vs → (x : ℕ) → HasSort p sh c (ForSlot (entry_or no_slot ts x).kind) (entry_or Missing vs x)
  each_fits ts [] h x = tt
  each_fits ts (v ∷ vs) h zero = subst (λ (s : Slot). HasSort p sh c (ForSlot s.kind) v) (sym (first_entry ts)) h.0
  each_fits ts (v ∷ vs) h (suc x) = subst (λ (s : Slot). HasSort p sh c (ForSlot s.kind) (entry_or Missing vs x)) (sym (later_entry ts x))
      (each_fits (later_slots ts) vs h.1 x)

  number_fits : (k : IntKind) (v : Value) → IsNumber v → HasSort p sh c (ForSlot k) v
  number_fits k (Integer n) h = tt
  number_fits k (Designates o i) h = tt
  number_fits k (Lends o) h = absurd h
  number_fits k _ h = tt

  number_stays : (v : Value) → IsNumber v → v ≡ new_lending holes v
  number_stays (Integer n) h = refl
  number_stays (Designates o i) h = refl
  number_stays (Lends o) h = absurd h
  number_stays _ h = refl

  module _ (calls : CallsAlike) where
    mutual
      pub value_alike : (e : ExpressionTree) → Kinded p slots e → lacks g e ≡ true → (d : Bool) → Values (kind_of e) (eval L d e) (eval M d (renumbered g e))
      value_alike _ (k_number kind n i) l d w u a = ((tt, number_in kind (Integer n) i), refl, a)
      value_alike _ (k_character kind b i) l d w u a = ((tt, number_in kind (Integer _) i), refl, a)
      value_alike _ (k_enum kind m n i) l d w u a = ((tt, number_in kind (Integer n) i), refl, a)
      value_alike _ (k_text kind bs) l d w u a = ((tt, zero_in kind (Format bs) refl), refl, a)
      value_alike _ (k_read at i) l d w u a =
          let k = place_kind p slots at in
          then_place k (Some k) (eval_place L at) (eval_place M (renumbered_place g at)) _ _ (place_alike at i l)
          (λ x w u s a. (load_in p sh holes c k x s w u a, load_same p sh holes c k x s w u a, a)) w u a
      value_alike _ (k_unary op e i) l d w u a = then_number (kind_of e) (Post p sh holes c (Num (Some (unary_kind op (operand_kind (kind_of e))))))
          (eval L false e) (eval M false (renumbered g e)) _ _ (value_alike e i l false)
          (λ v w u s a. sign_alike op e v w u a) w u a
      value_alike _ (k_cast None e i) l d w u a = then_number (kind_of e) (Post p sh holes c (Num None)) (eval L true e)
          (eval M true (renumbered g e)) _ _ (value_alike e i l true) (λ v w u s a. ((tt, tt), refl, a)) w u a
      value_alike _ (k_cast (Some k) e i) l d w u a = then_number (kind_of e) (Post p sh holes c (Num (Some k))) (eval L false e)
          (eval M false (renumbered g e)) _ _ (value_alike e i l false) (λ v w u s a. ((tt, converted_in k v), refl, a)) w u a
      value_alike _ (k_binary AndThen e f i j) l d w u a = let h = and_parts (lacks g e) (lacks g f) l in
          then_number (kind_of e) (Post p sh holes c (Num (Some (binary_kind AndThen (operand_kind (kind_of e)) (operand_kind (kind_of f))))))
          (eval L false e) (eval M false (renumbered g e)) _ _ (value_alike e i h.0 false)
          (λ v w u s a. and_alike (Some (binary_kind AndThen (operand_kind (kind_of e)) (operand_kind (kind_of f)))) (kind_of f) (holds v)
          (eval L false f) (eval M false (renumbered g f)) (value_alike f j h.1 false) w u a) w u a
      value_alike _ (k_binary OrElse e f i j) l d w u a = let h = and_parts (lacks g e) (lacks g f) l in
          then_number (kind_of e) (Post p sh holes c (Num (Some (binary_kind OrElse (operand_kind (kind_of e)) (operand_kind (kind_of f))))))
          (eval L false e) (eval M false (renumbered g e)) _ _ (value_alike e i h.0 false)
          (λ v w u s a. or_alike (Some (binary_kind OrElse (operand_kind (kind_of e)) (operand_kind (kind_of f)))) (kind_of f) (holds v)
          (eval L false f) (eval M false (renumbered g f)) (value_alike f j h.1 false) w u a) w u a
      value_alike _ (k_binary op e f i j) l d w u a = let h = and_parts (lacks g e) (lacks g f) l in
          then_number (kind_of e) (Post p sh holes c (Num (Some (binary_kind op (operand_kind (kind_of e)) (operand_kind (kind_of f))))))
          (eval L false e) (eval M false (renumbered g e)) (second_operand L op (kind_of e) (kind_of f) f)
          (second_operand M op (kind_of (renumbered g e)) (kind_of (renumbered g f)) (renumbered g f)) (value_alike e i h.0 false)
          (λ v w u s a. then_number (kind_of f)
          (Post p sh holes c (Num (Some (binary_kind op (operand_kind (kind_of e)) (operand_kind (kind_of f)))))) (eval L false f)
          (eval M false (renumbered g f)) _ _ (value_alike f j h.1 false)
          (λ x w u s a. mark_alike op e f v x w u a) w u a) w u a
      value_alike _ (k_conditional None e f h i j k) l d w u a = let m = and_parts (lacks g e) (lacks g f && lacks g h) l in let n =
          and_parts (lacks g f)
          (lacks g h) m.1 in
          then_number (kind_of e) (Post p sh holes c (Num None)) (eval L false e) (eval M false (renumbered g e)) _ _ (value_alike e i m.0 false)
          (λ v w u s a. chosen_alike None (holds v) (eval L d f) (eval L d h) (eval M d (renumbered g f)) (eval M d (renumbered g h))
          (no_kind (kind_of f) (eval L d f) (eval M d (renumbered g f)) (value_alike f j n.0 d))
          (no_kind (kind_of h) (eval L d h) (eval M d (renumbered g h)) (value_alike h k n.1 d)) w u a) w u a
      value_alike _ (k_conditional (Some t) e f h i j k) l d w u a = let m = and_parts (lacks g e) (lacks g f && lacks g h) l in let n =
          and_parts (lacks g f)
          (lacks g h) m.1 in
          then_number (kind_of e) (Post p sh holes c (Num (Some t))) (eval L false e) (eval M false (renumbered g e)) _ _ (value_alike e i m.0 false)
          (λ v w u s a. then_number None (Post p sh holes c (Num (Some t))) (chosen (holds v) (eval L false f) (eval L false h))
          (chosen (holds v) (eval M false (renumbered g f)) (eval M false (renumbered g h))) _ _
          (chosen_alike None (holds v) (eval L false f) (eval L false h) (eval M false (renumbered g f)) (eval M false (renumbered g h))
          (no_kind (kind_of f) (eval L false f) (eval M false (renumbered g f)) (value_alike f j n.0 false))
          (no_kind (kind_of h) (eval L false h) (eval M false (renumbered g h)) (value_alike h k n.1 false)))
          (λ x w u s a. ((tt, converted_in t x), refl, a)) w u a) w u a
      value_alike _ (k_assign at e i j) l d w u a = let k = place_kind p slots at in let h = and_parts (place_lacks g at) (lacks g e) l in
          then_place k (Some k) (eval_place L at) (eval_place M (renumbered_place g at)) _ _ (place_alike at i h.0)
          (λ x w u s a. then_number (kind_of e) (Post p sh holes c (Num (Some k))) (eval L false e) (eval M false (renumbered g e))
          _ _ (value_alike e j h.1 false) (λ v w u r a. assign_alike p sh holes c k x v s w u a) w u a) w u a
      value_alike _ (k_update op at e i j) l d w u a = let k = place_kind p slots at in let h = and_parts (place_lacks g at) (lacks g e) l in
          then_place k (Some k) (eval_place L at) (eval_place M (renumbered_place g at)) _ _ (place_alike at i h.0)
          (λ x w u s a. subst (λ z. Alike (Post p sh holes c (Num (Some k))) (updated L op (Some k) e x (loaded x w) w)
          (updated M op (Some k) (renumbered g e) (new_value holes x) z u)) (sym (load_same p sh holes c k x s w u a))
          (updated_alike op k e (value_alike e j h.1 false) x (loaded x w) s w u a)) w u a
      value_alike _ (k_count at up after i) l d w u a = let k = place_kind p slots at in
          then_place k (Some k) (eval_place L at) (eval_place M (renumbered_place g at)) _ _ (place_alike at i l)
          (λ x w u s a. count_alike p sh holes c up after k x s w u a) w u a
      value_alike _ (k_comma e f i j) l d w u a = let h = and_parts (lacks g e) (lacks g f) l in
          then_number (kind_of e) (Post p sh holes c (Num (kind_of f))) (eval L true e) (eval M true (renumbered g e)) _ _ (value_alike e i h.0 true)
          (λ v w u s a. value_alike f j h.1 d w u a) w u a
      value_alike _ (k_call m xs i) l d w u a =
          bind_alike (Given (p.functions m).slots) (Post p sh holes c (Num (call_kind p m))) (eval_arguments L xs w)
          (eval_arguments M (renumbered_arguments g xs) u) _ _ (arguments_alike (p.functions m).slots xs i l w u a)
          (λ vs w ys u h. subst (λ z. Alike (Post p sh holes c (Num (call_kind p m))) (L.calls d m vs w) (M.calls d m z u)) (sym h.1)
          (calls d m vs w u (record { each = each_fits (p.functions m).slots vs h.0 }) h.2))

      place_alike : (at : PlaceTree) → KindedPlace p slots at → place_lacks g at ≡ true →
          Places (place_kind p slots at) (eval_place L at) (eval_place M (renumbered_place g at))
      place_alike _ (k_var h i) l w u a = (home_reached p sh holes false c w u a h i l, ap (λ o. Designates o 0) (home_same p sh holes false c w u a h i l), a)
      place_alike _ (k_cell h e i j) l w u a = let k = and_parts (home_lacks g h) (lacks g e) l in
          then_alike p sh holes c (Num (kind_of e)) (Post p sh holes c (Spot (home_kind p slots h))) (eval L false e w)
          (eval M false (renumbered g e) u) _ _ (value_alike e j k.1 false w u a)
          (λ v w u s a. cell_alike p sh holes c h (integer v) i k.0 w u a)

      arguments_alike : (ts : List Slot) (xs : Arguments) → KindedArguments p slots ts xs → arguments_lack g xs ≡ true → (w u : World) →
          Apart p sh holes false c w u → Alike (Given ts) (eval_arguments L xs w) (eval_arguments M (renumbered_arguments g xs) u)
      arguments_alike ts _ (k_none ts') l w u a = (tt, refl, a)
      arguments_alike ts _ (k_argument ts' x xs i j) l w u a = let h = and_parts (lacks g x) (arguments_lack g xs) l in
          then_alike p sh holes c (Num (kind_of x)) (Given ts) (eval L false x w) (eval M false (renumbered g x) u) _ _ (value_alike x i h.0 false w u a)
          (λ v w u s a. bind_alike (Given (later_slots ts)) (Given ts) (eval_arguments L xs w) (eval_arguments M (renumbered_arguments g xs) u)
          _ _ (arguments_alike (later_slots ts) xs j h.1 w u a)
          (λ vs w ys u k. (
            (number_fits (first_slot ts).kind v s.0, k.0),
            ap (λ z. v ∷ z) k.1 ∙
                ap (λ z. z ∷ map (new_lending holes) vs) (number_stays v s.0),
            k.2,
          )))
      arguments_alike ts _ (k_array ts' kind h xs i z e j) l w u a =
          let k = and_parts (home_lacks g h) (arguments_lack g xs) l in
          let r = home_reached p sh holes false c w u a h i k.0 in
          bind_alike (Given (later_slots ts)) (Given ts) (eval_arguments L xs w) (eval_arguments M (renumbered_arguments g xs) u)
          _ _ (arguments_alike (later_slots ts) xs j k.1 w u a)
          (λ vs w' ys u' q. (
            ((r.0, r.1 ∙ e), q.0),
            ap (λ z. Lends (owner (renumbered_home g h) u) ∷ z) q.1 ∙
                ap (λ o. Lends o ∷ map (new_lending holes) vs) (home_same p sh holes false c w u a h i k.0),
            q.2,
          ))
