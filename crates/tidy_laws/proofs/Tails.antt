-- After a set of the slot to another number than 0 a tail only ends `if`s and skips checks: so the turn may be left there.
use Rattle.std.proofs.Common.{ℕ, pos, Bool, true, false, cond, not, ◌⊎◌, inl, inr, ◌≡◌, refl, ap, sym, ◌∙◌, subst}
use Rattle.std.proofs.lemmas.Bool.{eqb-true}
use Rattle.c_tree.specs.Operators.{is_zero, truth}
use Rattle.c_tree.specs.declared.tree.UnaryOp.TheVariants.{Not}
use Rattle.c_tree.specs.declared.tree.BinaryOp.TheVariants.{AndThen}
use Rattle.c_tree.specs.declared.tree.Home.TheVariants as H
use Rattle.c_tree.specs.ExpressionTrees.{ExpressionTree, Typed, Var, Read, Unary, Binary}
use Rattle.c_tree.specs.TestTrees.{TestTree, Source}
use Rattle.c_tree.specs.Trees.{Tree, Forest, Nil, Then, Evaluate, If}
use Rattle.jump_meaning.specs.Values.{Integer, integer}
use Rattle.jump_meaning.specs.World.{World, place, load}
use Rattle.jump_meaning.specs.Operations.{holds, loaded}
use Rattle.struct_meaning.specs.Structural.{Evaluation, Yields, Completion, Normal, Meaning, LessFuel, and_then, and_second, chosen, eval, eval_test, seq, exec, execs}
use Rattle.tidy_laws.specs.Tails.{reads, is_off, is_check, is_set, stops, is_end, leave_if, leaves, placed, by_break, by_continue}

-- whether the slot holds another number than 0
abbrev pub is_on : ℕ → World → Bool
is_on g w = holds (loaded (place (H.Slot g) w) w)

pub read_is : (L : LessFuel) (g : ℕ) (e : ExpressionTree) → reads g e ≡ true → (d : Bool) (w : World) → eval L d e w ≡ Yields (loaded (place (H.Slot g) w) w) w
read_is L g (Typed k (Read (Var (H.Slot x)))) h d w = ap (λ y. Yields (loaded (place (H.Slot y) w) w) w) (eqb-true x g h)
read_is L g e h d w = cc

not_zero : (b : Bool) → not b ≡ true → Integer (truth b) ≡ Integer (pos 0)
not_zero true h = cc
not_zero false h = refl

-- while the slot is on, `!g` is 0
pub off_is : (L : LessFuel) (g : ℕ) (e : ExpressionTree) → is_off g e ≡ true → (d : Bool) (w : World) → is_on g w ≡ true →
    eval L d e w ≡ Yields (Integer (pos 0)) w
off_is L g (Typed k (Unary Not e)) h d w on =
    ap (λ x. and_then x (λ v u. Yields (Integer (truth (is_zero (integer v)))) u)) (read_is L g e h false w)
    ∙ ap (λ v. Yields v w) (not_zero (is_zero (load (place (H.Slot g) w) w)) on)
off_is L g e h d w on = cc

-- a check is skipped
check_is : (L : LessFuel) (g : ℕ) (x : Tree) → is_check g x ≡ true → (w : World) → is_on g w ≡ true → exec L x w ≡ Yields Normal w
check_is L g (If (Source e) a Nil) h w on = ap (λ x. and_then x (λ v w. chosen (holds v) (execs L a) (execs L Nil) w)) (off_is L g e h false w on)
check_is L g x h w on = cc

-- and so is the end of a list
end_is : (L : LessFuel) (g : ℕ) (xs : Forest) → is_end g xs ≡ true → (w : World) → is_on g w ≡ true → execs L xs w ≡ Yields Normal w
end_is L g Nil h w on = refl
end_is L g (Then x Nil) h w on = ap (λ z. seq z (execs L Nil)) (check_is L g x h w on)
end_is L g xs h w on = cc

-- `!g && t` is 0 without t
pub stop_is : (L : LessFuel) (g : ℕ) (t : TestTree) → stops g t ≡ true → (w : World) → is_on g w ≡ true → eval_test L t w ≡ Yields (Integer (pos 0)) w
stop_is L g (Source (Typed k (Binary AndThen e t))) h w on =
    ap (λ x. and_then x (λ v w. and_second (holds v) (eval L false t) w)) (off_is L g e h false w on)
stop_is L g t h w on = cc

module _ (L : LessFuel) (g : ℕ) (l : Forest) where
  -- the second is the first, or leaves where the first comes to its end with the slot on
  abbrev pub Left : Evaluation Completion → Evaluation Completion → Type 0
  Left x y = (y ≡ x) ⊎ ((w : World) × (x ≡ Yields Normal w) × (is_on g w ≡ true) × (y ≡ execs L l w))

  -- nothing follows l
  abbrev pub Escapes : Type 0
  Escapes = (w : World) (next : Meaning) → seq (execs L l w) next ≡ execs L l w

  left_seq : (e : Evaluation Completion) (m n : Meaning) → ((w : World) → Left (m w) (n w)) → Left (seq e m) (seq e n)
  left_seq (Yields Normal w) m n h = h w
  left_seq _ m n h = inl refl

  left_bind : {A : Type 0} (e : Evaluation A) (m n : A → World → Evaluation Completion) → ((a : A) (w : World) → Left (m a w) (n a w)) →
      Left (and_then e m) (and_then e n)
  left_bind (Yields a w) m n h = h a w
  left_bind _ m n h = inl refl

  left_chosen : (y : Bool) (a b c d : Meaning) → ((w : World) → Left (a w) (c w)) → ((w : World) → Left (b w) (d w)) → (w : World) →
      Left (chosen y a b w) (chosen y c d w)
  left_chosen true a b c d h k w = h w
  left_chosen false a b c d h k w = k w

  module _ (escapes : Escapes) where
    -- an item that leaves, then the end of its list
    left_end : (xs rest : Forest) → is_end g xs ≡ true → ((w : World) → Left (execs L xs w) (execs L rest w))
        → (x y : Evaluation Completion) → Left x y → Left (seq x (execs L xs)) (seq y (execs L rest))
    left_end xs rest e h x y (inl q) = subst (λ z. Left (seq x (execs L xs)) (seq z (execs L rest))) (sym q) (left_seq x (execs L xs) (execs L rest) h)
    left_end xs rest e h x y (inr p) = inr (
      p.0,
      ap (λ z. seq z (execs L xs)) p.1 ∙ end_is L g xs e p.0 p.2,
      p.2,
      ap (λ z. seq z (execs L rest)) p.3 ∙ escapes p.0 (execs L rest),
    )

    -- `if (g) { l }`, by whether the slot is on
    left_if : (y : Bool) (w : World) → is_on g w ≡ y → (xs rest : Forest) → is_end g xs ≡ true → ((w : World) → Left (execs L xs w) (execs L rest w))
        → Left (execs L xs w) (seq (chosen y (execs L l) (execs L Nil) w) (execs L rest))
    left_if true w on xs rest e h = inr (w, end_is L g xs e w on, on, escapes w (execs L rest))
    left_if false w on xs rest e h = h w

    left_set : (y : Bool) (e : ExpressionTree) (xs rest : Forest) → is_end g xs ≡ true → ((w : World) → Left (execs L xs w) (execs L rest w)) → (w : World)
        → Left (seq (exec L (Evaluate e) w) (execs L xs)) (execs L (cond y (Then (Evaluate e) (Then (leave_if g l) rest)) (Then (Evaluate e) rest)) w)
    left_set true e xs rest q h w = left_seq (exec L (Evaluate e) w) (execs L xs) (execs L (Then (leave_if g l) rest))
        (λ u. left_if (is_on g u) u refl xs rest q h)
    left_set false e xs rest q h w = left_seq (exec L (Evaluate e) w) (execs L xs) (execs L rest) h

    mutual
      -- a list and the one whose sets at a tail are followed by a jump
      pub list_left : (a : Forest) (w : World) → Left (execs L a w) (execs L (leaves g l a) w)
      list_left Nil w = inl refl
      list_left (Then x xs) w = item_left (is_end g xs) x xs refl (list_left xs) w

      item_left : (y : Bool) (x : Tree) (xs : Forest) → is_end g xs ≡ y → ((w : World) → Left (execs L xs w) (execs L (leaves g l xs) w)) → (w : World)
          → Left (seq (exec L x w) (execs L xs)) (execs L (cond y (placed g l x (leaves g l xs)) (Then x (leaves g l xs))) w)
      item_left false x xs e h w = left_seq (exec L x w) (execs L xs) (execs L (leaves g l xs)) h
      item_left true (Evaluate c) xs e h w = left_set (is_set g c) c xs (leaves g l xs) e h w
      item_left true (If t a b) xs e h w = left_end xs (leaves g l xs) e h _ _
          (left_bind (eval_test L t w) _ _ (λ v u. left_chosen (holds v) (execs L a) (execs L b) (execs L (leaves g l a)) (execs L (leaves g l b))
          (list_left a) (list_left b) u))
      item_left true x xs e h w = left_seq (exec L x w) (execs L xs) (execs L (leaves g l xs)) h

-- `break` and `g = 0; continue` are followed by nothing
pub break_escapes : (L : LessFuel) (g : ℕ) → Escapes L g by_break
break_escapes L g w next = refl

pub continue_escapes : (L : LessFuel) (g : ℕ) → Escapes L g (by_continue g)
continue_escapes L g w next = refl
