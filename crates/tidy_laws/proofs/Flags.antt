-- The slot that the second World doesn't have, in the first.
use Rattle.std.proofs.Common.{ℕ, ℤ, pos, Bool, true, false, not, eqb, None, ◌≡◌, refl, sym, ap, ◌∙◌, subst, true≢false, arith}
use Rattle.std.proofs.lemmas.Bool.Decides.{Decides-int_eq}
use Rattle.c_types.specs.declared.kinds.IntKind.TheVariants.{Int}
use Rattle.c_types.specs.Numbers.{converted}
use Rattle.c_tree.specs.Operators.{is_zero, truth}
use Rattle.c_tree.specs.declared.tree.UnaryOp.TheVariants.{Not}
use Rattle.c_tree.specs.declared.tree.Home.TheVariants as H
use Rattle.c_tree.specs.ExpressionTrees.{ExpressionTree, Typed, Unary}
use Rattle.jump_meaning.specs.Values.{Owner, OfFile, OfCall, Variable, Holds, Integer, Designates, integer}
use Rattle.jump_meaning.specs.Code.{Code, entry_or}
use Rattle.jump_meaning.specs.World.{World, holder, owner, place, load, store, number_held, with_number, kind_held, no_slot}
use Rattle.struct_meaning.specs.Structural.{Yields, LessFuel, and_then, eval}
use Rattle.tidy_laws.specs.Tails.{is_off}
use Rattle.tidy_laws.proofs.Tails.{is_on, read_is}
use Rattle.plain_laws.proofs.Memories.{Shapes, Good}
use Rattle.plain_laws.proofs.Carried.{put_here, put_beside, call_of, slot_of, is_of_call}
use Rattle.tidy_laws.proofs.TidyChangesNumbers.{other}
use Rattle.tidy_laws.proofs.Apart.{IsFlag, new_variable, Apart}

flag_holder : (on : Bool) (o : Owner) (v : Variable) → IsFlag on v → holder o v ≡ o
flag_holder on o (Holds Int None f) h = refl
flag_holder on o v h = absurd h

flag_number : (v : Variable) → IsFlag false v → number_held v 0 ≡ pos 0
flag_number (Holds Int None f) h = h refl
flag_number v h = absurd h

flag_off : (on : Bool) (v : Variable) → number_held v 0 ≡ pos 0 → IsFlag on v → IsFlag false v
flag_off on (Holds Int None f) e h = λ i. e
flag_off on v e h = absurd h

flag_set : (on new : Bool) (z : ℤ) (v : Variable) → (new ≡ false → converted Int z ≡ pos 0) → IsFlag on v → IsFlag new (with_number 0 z v)
flag_set on new z (Holds Int None f) e h = λ i. e i
flag_set on new z v e h = absurd h

flag_holds : (on : Bool) (z : ℤ) (v : Variable) → IsFlag on v → number_held (with_number 0 z v) 0 ≡ converted Int z
flag_holds on z (Holds Int None f) h = refl
flag_holds on z v h = absurd h

is_one : (b : Bool) → not b ≡ false → Integer (truth b) ≡ Integer (pos 1)
is_one true h = refl
is_one false h = cc

-- while the slot is off, `!g` is 1
pub off_on : (L : LessFuel) (g : ℕ) (e : ExpressionTree) → is_off g e ≡ true → (d : Bool) (w : World) → is_on g w ≡ false →
    eval L d e w ≡ Yields (Integer (pos 1)) w
off_on L g (Typed k (Unary Not e)) h d w off =
    ap (λ x. and_then x (λ v u. Yields (Integer (truth (is_zero (integer v)))) u)) (read_is L g e h false w) ∙
    ap (λ v. Yields v w) (is_one (is_zero (load (place (H.Slot g) w) w)) off)
off_on L g e h d w off = cc

zero_of : (z : ℤ) → not (is_zero z) ≡ false → z ≡ pos 0
zero_of z h = (Decides-int_eq z (pos 0)).0 (unnot (is_zero z) h)
  where
    unnot : (b : Bool) → not b ≡ false → b ≡ true
    unnot true h = refl
    unnot false h = absurd (true≢false h)

pub zero_kept : converted Int (pos 0) ≡ pos 0
unfolding converted
zero_kept = refl

module _ (p : Code) (sh : Shapes) (holes : ℕ → ℕ) (c : ℕ) where
  abbrev g : ℕ
  g = holes c

  abbrev pub slot : Owner
  slot = OfCall c (holes c)

  -- the slot, where it holds z
  abbrev pub set_to : ℤ → World → World
  set_to z w = store (Designates slot 0) z w

  pub slot_owner : (on : Bool) (w u : World) → Apart p sh holes on c w u → owner (H.Slot g) w ≡ slot
  slot_owner on w u a = ap (λ d. holder (OfCall d g) (w.variables (OfCall d g))) a.calls ∙ flag_holder on slot (w.variables slot) a.newest

  pub slot_place : (on : Bool) (w u : World) → Apart p sh holes on c w u → place (H.Slot g) w ≡ Designates slot 0
  slot_place on w u a = ap (λ o. Designates o 0) (slot_owner on w u a)

  slot_on : (on : Bool) (w u : World) → Apart p sh holes on c w u → is_on g w ≡ not (is_zero (number_held (w.variables slot) 0))
  slot_on on w u a = ap (λ o. not (is_zero (number_held (w.variables o) 0))) (slot_owner on w u a)

  pub slot_off : (w u : World) → Apart p sh holes false c w u → is_on g w ≡ false
  slot_off w u a = slot_on false w u a ∙ ap (λ z. not (is_zero z)) (flag_number (w.variables slot) a.newest)

  -- where the slot is off both are apart as ever
  pub tighten : (on : Bool) (w u : World) → Apart p sh holes on c w u → is_on g w ≡ false → Apart p sh holes false c w u
  tighten on w u a h = record {
    calls = a.calls;
    same_calls = a.same_calls;
    cells = a.cells;
    input = a.input;
    answers = a.answers;
    events = a.events;
    sealed = a.sealed;
    file_same = a.file_same;
    file_good = a.file_good;
    call_same = a.call_same;
    call_good = a.call_good;
    older = a.older;
    newest = flag_off on (w.variables slot) (zero_of (number_held (w.variables slot) 0) (sym (slot_on on w u a) ∙ h)) a.newest;
  }

  apart_slot : (d x : ℕ) → eqb x (holes d) ≡ false → slot ≡ OfCall d x → ⊥
  apart_slot d x h e = other x (holes d) h (sym (ap slot_of e) ∙ ap holes (ap call_of e))

  -- the slot is set
  pub set_apart : (on new : Bool) (z : ℤ) (w u : World) → (new ≡ false → converted Int z ≡ pos 0) → Apart p sh holes on c w u →
      Apart p sh holes new c (set_to z w) u
  set_apart on new z w u e a = record {
    calls = a.calls;
    same_calls = a.same_calls;
    cells = a.cells;
    input = a.input;
    answers = a.answers;
    events = a.events;
    sealed = a.sealed;
    file_same = λ m. a.file_same m ∙ sym (put_beside slot (OfFile m) v w.variables (λ i. true≢false (ap is_of_call i)));
    file_good = λ m. subst (λ y. Good p sh 0 (kind_held (p.globals m)) true y)
        (sym (put_beside slot (OfFile m) v w.variables (λ i. true≢false (ap is_of_call i)))) (a.file_good m);
    call_same = λ d x h i k. a.call_same d x h i k ∙ ap (new_variable holes) (sym (put_beside slot (OfCall d x) v w.variables (apart_slot d x k)));
    call_good = λ d x h i k. subst (λ y. Good p sh d (entry_or no_slot (sh d).slots x).kind ((sh d).own x) y)
        (sym (put_beside slot (OfCall d x) v w.variables (apart_slot d x k))) (a.call_good d x h i k);
    older = λ d h. subst (IsFlag false) (sym (put_beside slot (OfCall d (holes d)) v w.variables
        (λ i. let q : c ≡ d = ap call_of i in omega (arith, q, h)))) (a.older d h);
    newest = subst (IsFlag new) (sym (put_here slot v w.variables)) (flag_set on new z (w.variables slot) e a.newest);
  }
    where
      v : Variable
      v = with_number 0 z (w.variables slot)

  -- whether it is on then
  pub set_on : (on : Bool) (z : ℤ) (w u : World) → Apart p sh holes on c w u → is_on g (set_to z w) ≡ not (is_zero (converted Int z))
  set_on on z w u a =
      slot_on true (set_to z w) u (set_apart on true z w u (λ i. absurd (true≢false i)) a)
      ∙ ap (λ y. not (is_zero (number_held y 0))) (put_here slot (with_number 0 z (w.variables slot)) w.variables)
      ∙ ap (λ y. not (is_zero y)) (flag_holds on z (w.variables slot) a.newest)
