-- While the slot is 0 its tests may go, and a set with its jump may become a test of what was set.
use Rattle.std.proofs.Common.{ℕ, ℤ, pos, Bool, true, false, cond, not, eqb, eqb-true, [], ◌∷◌, Option, Some, None, ◌≡◌, refl, sym, ap, ◌∙◌, subst, true≢false, arith}
use Rattle.std.proofs.lemmas.Int.{ints}
use Rattle.c_types.specs.declared.kinds.IntKind.{IntKind}
use Rattle.c_types.specs.declared.kinds.IntKind.TheVariants.{Char, UChar, Int}
use Rattle.c_types.specs.Numbers.{converted, IsInRange}
use Rattle.c_types.proofs.Residues.{converted-in_kind}
use Rattle.c_tree.specs.Operators.{is_zero, truth}
use Rattle.c_tree.specs.Constants.{kind_of}
use Rattle.c_tree.specs.declared.tree.Home.TheVariants as H
use Rattle.c_tree.specs.declared.tree.BinaryOp.TheVariants.{AndThen}
use Rattle.c_tree.specs.ExpressionTrees.{ExpressionTree, Typed, Var, Number, Binary, Assign}
use Rattle.c_tree.specs.TestTrees.{Source}
use Rattle.c_tree.specs.Trees.{Tree, Forest, Nil, Then, Evaluate, If, Local}
use Rattle.c_tree.specs.Changed.{one}
use Rattle.jump_meaning.specs.Values.{OfCall, Variable, Holds, Value, Integer, integer}
use Rattle.jump_meaning.specs.Code.{Code}
use Rattle.jump_meaning.specs.World.{World, place, store, clear}
use Rattle.jump_meaning.specs.Operations.{holds, truth_value, assign}
use Rattle.jump_meaning.specs.Calls.{is_array, is_array_slot}
use Rattle.struct_meaning.specs.Structural.{Evaluation, Yields, Faults, Quits, Spent, Completion, Normal, Continued, Meaning, LessFuel, given, and_then, and_second, chosen, eval, eval_test, seq, exec, execs}
use Rattle.tidy_laws.specs.Tails.{is_off, reset, leave_if}
use Rattle.tidy_laws.proofs.Tails.{is_on}
use Rattle.plain_laws.specs.Kinded.{Kinded}
use Rattle.plain_laws.proofs.Memories.{Shapes}
use Rattle.plain_laws.proofs.Sorts.{Num, HasSort, InKind}
use Rattle.tidy_laws.specs.Mentions.{lacks}
use Rattle.tidy_laws.specs.Renumbered.{renumbered}
use Rattle.tidy_laws.specs.Changes.{is_narrow_expression, leaving}
use Rattle.tidy_laws.proofs.Evaluations.{Alike}
use Rattle.tidy_laws.proofs.Apart.{Apart, IsFlag}
use Rattle.tidy_laws.proofs.TidyZeroExpressions.{CallsAlike, then_number, value_alike}
use Rattle.tidy_laws.proofs.Flags.{off_on, slot_off, slot_place, set_to, set_apart, set_on, tighten, zero_kept}
use Rattle.tidy_laws.proofs.Completions.{breaking, Done, Ends}
use Rattle.tidy_laws.specs.Settles.{left_by, jump_by, nought}

holds_truth : (b : Bool) → holds (Integer (truth b)) ≡ b
holds_truth true = refl
holds_truth false = refl

truth_bind : {A : Type 0} (x : Evaluation Value) (k : Value → World → Evaluation A) →
    and_then (and_then x (λ v w. Yields (truth_value v) w)) k ≡ and_then x (λ v w. k (truth_value v) w)
truth_bind (Yields v w) k = refl
truth_bind (Faults t w) k = refl
truth_bind (Quits n w) k = refl
truth_bind (Spent w) k = refl

-- `g = e;`, then what follows
set_shape : (x : Evaluation Value) (at : Value) (next : Meaning)
    → seq (and_then (and_then x (λ v w. given (assign at v w))) (λ v w. Yields Normal w)) next ≡ and_then x (λ v w. next (store at (integer v) w))
set_shape (Yields v w) at next = refl
set_shape (Faults t w) at next = refl
set_shape (Quits n w) at next = refl
set_shape (Spent w) at next = refl

-- `if (e) i else j`, then what follows
if_shape : (x : Evaluation Value) (i j next : Meaning) → seq (and_then x (λ v w. chosen (holds v) i j w)) next ≡ and_then x
    (λ v w. seq (chosen (holds v) i j w) next)
if_shape (Yields v w) i j next = refl
if_shape (Faults t w) i j next = refl
if_shape (Quits n w) i j next = refl
if_shape (Spent w) i j next = refl

char_in : (n : ℤ) → IsInRange Char n → IsInRange Int n
char_in n h = let i = h.from_least in let j = h.to_greatest in record { from_least = grind (arith, ints); to_greatest = grind (arith, ints) }

byte_in : (n : ℤ) → IsInRange UChar n → IsInRange Int n
byte_in n h = let i = h.from_least in let j = h.to_greatest in record { from_least = grind (arith, ints); to_greatest = grind (arith, ints) }

-- a narrow value is one of `int`
narrow_stays : (e : ExpressionTree) (v : Value) → is_narrow_expression e ≡ true → InKind (kind_of e) v → converted Int (integer v) ≡ integer v
narrow_stays (Typed (Some Char) n) v h i = converted-in_kind Int (integer v) (char_in (integer v) i)
narrow_stays (Typed (Some UChar) n) v h i = converted-in_kind Int (integer v) (byte_in (integer v) i)
narrow_stays (Typed (Some Int) n) v h i = converted-in_kind Int (integer v) i
narrow_stays e v h i = cc

flag_single : (on : Bool) (v : Variable) → IsFlag on v → is_array v ≡ false
flag_single on (Holds Int None cells) h = refl
flag_single on v h = absurd h

-- what a set becomes runs as a test of the value
module _ (M : LessFuel) (leave : Bool) (ys : Forest) (u : World) where
  abbrev tested : ExpressionTree → Tree
  tested e = If (Source e) (one (jump_by leave)) Nil

  jump_one : (leave : Bool) → execs M (Then (jump_by leave) ys) u ≡ execs M
      (Then (If (Source (Typed (Some Int) (Number (pos 1)))) (one (jump_by leave)) Nil) ys) u
  jump_one true = refl
  jump_one false = refl

  by_number : (m : ℕ) (b : Bool) → eqb m 1 ≡ b → execs M (Then (cond b (jump_by leave) (tested (Typed (Some Int) (Number (pos m))))) ys) u ≡ execs M
      (Then (tested (Typed (Some Int) (Number (pos m)))) ys) u
  by_number m true h = subst (λ z. execs M (Then (jump_by leave) ys) u ≡ execs M (Then (tested (Typed (Some Int) (Number (pos z)))) ys) u)
      (sym (eqb-true m 1 h)) (jump_one leave)
  by_number m false h = refl

  pub leaving_is : (e : ExpressionTree) → execs M (Then (leaving (jump_by leave) e) ys) u ≡ execs M (Then (tested e) ys) u
  leaving_is (Typed (Some Int) (Number (pos m))) = by_number m (eqb m 1) refl
  leaving_is e = refl

module _ (p : Code) (sh : Shapes) (holes : ℕ → ℕ) (c : ℕ) (L M : LessFuel) (calls : CallsAlike p sh holes c L M) where
  abbrev g : ℕ
  g = holes c

  -- a check gives way to its list
  pub check_ends : (b : Bool) (e : ExpressionTree) → is_off g e ≡ true → (a d : Forest) → Ends p sh holes c (breaking b) (execs L a) (execs M d) →
      Ends p sh holes c (breaking b) (exec L (If (Source e) a Nil)) (execs M d)
  check_ends b e o a d h w u i =
      subst (λ z. Alike (Done p sh holes c (breaking b)) z (execs M d u))
      (sym (ap (λ x. and_then x (λ v w. chosen (holds v) (execs L a) (execs L Nil) w)) (off_on L g e o false w (slot_off p sh holes c w u i)))) (h w u i)

  -- `!g && t` and t decide the same
  pub guarded_ends : (at : Completion → Bool) (k : Option IntKind) (e t : ExpressionTree) → is_off g e ≡ true → Kinded p (sh c).slots t →
      lacks g t ≡ true → (i j : Bool → Meaning) → ((y : Bool) → Ends p sh holes c at (i y) (j y))
      → Ends p sh holes c at (λ w. and_then (eval_test L (Source (Typed k (Binary AndThen e t))) w) (λ v w. i (holds v) w))
      (λ w. and_then (eval_test M (Source (renumbered g t)) w) (λ v w. j (holds v) w))
  guarded_ends at k e t o kt lt i j h w u a =
      subst (λ z. Alike (Done p sh holes c at) z (and_then (eval M false (renumbered g t) u) (λ v w. j (holds v) w)))
      (sym (ap (λ x. and_then (and_then x (λ v w. and_second (holds v) (eval L false t) w)) (λ v w. i (holds v) w))
      (off_on L g e o false w (slot_off p sh holes c w u a)) ∙ truth_bind (eval L false t w) (λ v w. i (holds v) w)))
      (then_number p sh holes c L M (kind_of t) (Done p sh holes c at) (eval L false t) (eval M false (renumbered g t))
      _ _ (value_alike p sh holes c L M calls t kt lt false)
      (λ v w u s a. subst (λ y. Alike (Done p sh holes c at) (i y w) (j (holds v) u)) (sym (holds_truth (holds v))) (h (holds v) w u a)) w u a)

  -- `g = 0;` alone, wherever the slot stands
  pub reset_ends : (at : Completion → Bool) (on : Bool) (xs ys : Forest) → Ends p sh holes c at (execs L xs) (execs M ys) → (w u : World) →
      Apart p sh holes on c w u → Alike (Done p sh holes c at) (execs L (Then (reset g) xs) w) (execs M ys u)
  reset_ends at on xs ys h w u a =
      subst (λ q. Alike (Done p sh holes c at) (execs L xs (store q (pos 0) w)) (execs M ys u)) (sym (slot_place p sh holes c on w u a))
      (h (set_to p sh holes c (pos 0) w) u (set_apart p sh holes c on false (pos 0) w u (λ i. zero_kept) a))

  -- `int g = 0;`
  pub declared_ends : (at : Completion → Bool) (xs ys : Forest) → Ends p sh holes c at (execs L xs) (execs M ys) →
      Ends p sh holes c at (execs L (Then (Local g (Some (nought ∷ []))) xs)) (execs M ys)
  declared_ends at xs ys h w u a =
      let v = set_to p sh holes c (pos 0) w in
      let i = set_apart p sh holes c false false (pos 0) w u (λ i. zero_kept) a in
      subst (λ q. Alike (Done p sh holes c at)
      (seq (Yields Normal (cond (is_array_slot g (store q (pos 0) w)) (clear (H.Slot g) 1 (store q (pos 0) w)) (store q (pos 0) w))) (execs L xs))
      (execs M ys u)) (sym (slot_place p sh holes c false w u a))
      (subst (λ y. Alike (Done p sh holes c at) (execs L xs (cond y (clear (H.Slot g) 1 v) v)) (execs M ys u))
      (sym (ap (λ d. is_array (v.variables (OfCall d g))) i.calls ∙ flag_single false (v.variables (OfCall c g)) i.newest)) (h v u i))

  -- ---- a set and its jump

  -- the two ways after the set, by whether the slot is on
  ways : (b leave y : Bool) → (leave ≡ true → b ≡ true) → (xs ys : Forest) → Ends p sh holes c (breaking b) (execs L xs) (execs M ys) →
      (w u : World) → Apart p sh holes true c w u → is_on g w ≡ y
      → Alike (Done p sh holes c (breaking b)) (seq (chosen y (execs L (left_by g leave)) (execs L Nil) w) (execs L xs))
      (seq (chosen y (execs M (one (jump_by leave))) (execs M Nil) u) (execs M ys))
  ways b leave false k xs ys h w u a off = h w u (tighten p sh holes c true w u a off)
  ways b true true k xs ys h w u a on = (refl, subst (λ x. Apart p sh holes x c w u) (sym (k refl)) a)
  ways b false true k xs ys h w u a on =
      subst (λ q. Alike (Done p sh holes c (breaking b)) (Yields Continued (store q (pos 0) w)) (Yields Continued u))
      (sym (slot_place p sh holes c true w u a)) (refl, set_apart p sh holes c true false (pos 0) w u (λ i. zero_kept) a)

  pub sets_ends : (b leave : Bool) (k : Option IntKind) (e : ExpressionTree) → (leave ≡ true → b ≡ true) → Kinded p (sh c).slots e →
      lacks g e ≡ true → is_narrow_expression e ≡ true
      → (xs ys : Forest) → Ends p sh holes c (breaking b) (execs L xs) (execs M ys)
      → Ends p sh holes c (breaking b) (execs L (Then (Evaluate (Typed k (Assign (Var (H.Slot g)) e))) (Then (leave_if g (left_by g leave)) xs)))
      (execs M (Then (leaving (jump_by leave) (renumbered g e)) ys))
  sets_ends b leave k e l ke le ne xs ys h w u a =
      let next = execs L (Then (leave_if g (left_by g leave)) xs) in
      let i = execs M (one (jump_by leave)) in
      subst (λ z. Alike (Done p sh holes c (breaking b)) z (execs M (Then (leaving (jump_by leave) (renumbered g e)) ys) u))
      (sym (set_shape (eval L false e w) (place (H.Slot g) w) next))
      (subst (λ z. Alike (Done p sh holes c (breaking b)) (and_then (eval L false e w) (λ v w1. next (store (place (H.Slot g) w) (integer v) w1))) z)
      (sym (leaving_is M leave ys u (renumbered g e) ∙ if_shape (eval M false (renumbered g e) u) i (execs M Nil) (execs M ys)))
      (then_number p sh holes c L M (kind_of e) (Done p sh holes c (breaking b)) (eval L false e) (eval M false (renumbered g e))
      _ _ (value_alike p sh holes c L M calls e ke le false)
      (λ v w1 u1 s a1. subst (λ q. Alike (Done p sh holes c (breaking b)) (next (store q (integer v) w1))
      (seq (chosen (holds v) i (execs M Nil) u1) (execs M ys))) (sym (slot_place p sh holes c false w u a)) (then_ways v w1 u1 s a1)) w u a))
    where
      then_ways : (v : Value) (w1 u1 : World) → HasSort p sh c (Num (kind_of e)) v → Apart p sh holes false c w1 u1
          → Alike (Done p sh holes c (breaking b)) (execs L (Then (leave_if g (left_by g leave)) xs) (set_to p sh holes c (integer v) w1))
          (seq (chosen (holds v) (execs M (one (jump_by leave))) (execs M Nil) u1) (execs M ys))
      then_ways v w1 u1 s a1 =
          let w2 = set_to p sh holes c (integer v) w1 in
          let a2 = set_apart p sh holes c false true (integer v) w1 u1 (λ i. absurd (true≢false i)) a1 in
          let on = set_on p sh holes c false (integer v) w1 u1 a1 ∙ ap (λ z. not (is_zero z)) (narrow_stays e v ne s.1) in
          subst (λ y. Alike (Done p sh holes c (breaking b)) (seq (chosen y (execs L (left_by g leave)) (execs L Nil) w2) (execs L xs))
          (seq (chosen (holds v) (execs M (one (jump_by leave))) (execs M Nil) u1) (execs M ys))) (sym on)
          (ways b leave (holds v) l xs ys h w2 u1 a2 on)
