-- A change of one slot makes no mention of another.
use Rattle.std.proofs.Common.{ℕ, ◌+◌, ◌≤◌, arith, false, eqb, ◌≡◌}
use Rattle.c_tree.specs.TestTrees.{TestTree, Source}
use Rattle.c_tree.specs.ExpressionTrees.{Typed, Binary}
use Rattle.c_tree.specs.declared.tree.BinaryOp.TheVariants.{AndThen}
use Rattle.c_tree.specs.Trees.{Tree, Forest, Nil, Then, While, Do, For, Break, Continue}
use Rattle.tidy_slots.specs.Counts.{test_count, list_count, item_count}
use Rattle.tidy_loops.specs.Slots.{rest_test, broken, continued, but_first, but_last}
use Rattle.break_recovery.specs.Loops.{slot_of, list_after}
use Rattle.break_recovery.specs.declared.here.Change.{Change}
use Rattle.break_recovery.specs.declared.here.Change.TheVariants as V
use Rattle.break_recovery.proofs.Others.{tailed_other}

rest_less : (h : ℕ) (t : TestTree) → test_count h (rest_test t) ≤ test_count h t
rest_less h (Source (Typed k (Binary AndThen e t))) = omega arith
rest_less h _ = omega arith

last_less : (h : ℕ) (a : Forest) → list_count h (but_last a) ≤ list_count h a
last_less h Nil = omega arith
last_less h (Then x Nil) = omega arith
last_less h (Then x (Then y ys)) = let r = last_less h (Then y ys) in omega (arith, r)

pub first_less : (h : ℕ) (a : Forest) → list_count h (but_first a) ≤ list_count h a
first_less h Nil = omega arith
first_less h (Then x xs) = omega arith

module _ (g h : ℕ) (other : eqb g h ≡ false) where
  pub broken_less : (x : Tree) → item_count h (broken g x) ≤ item_count h x
  broken_less (While t a) = let r = rest_less h t in let m = tailed_other g h other Break (omega arith) a in omega (arith, r, m)
  broken_less (Do a t) = let r = rest_less h t in let m = tailed_other g h other Break (omega arith) a in omega (arith, r, m)
  broken_less _ = omega arith

  pub continued_less : (x : Tree) → item_count h (continued g x) ≤ item_count h x
  continued_less (While t a) = let r = last_less h a in let m = tailed_other g h other Continue (omega arith) (but_last a) in omega (arith, r, m)
  continued_less (Do a t) = let r = last_less h a in let m = tailed_other g h other Continue (omega arith) (but_last a) in omega (arith, r, m)
  continued_less (For f t u a) = let r = last_less h a in let m = tailed_other g h other Continue (omega arith) (but_last a) in omega (arith, r, m)
  continued_less _ = omega arith

pub after_less : (c : Change) (h : ℕ) → eqb (slot_of c) h ≡ false → (a : Forest) → list_count h (list_after c a) ≤ list_count h a
after_less (V.Break g) h o Nil = omega arith
after_less (V.Break g) h o (Then x xs) = let b = broken_less g h o x in let f = first_less h xs in omega (arith, b, f)
after_less (V.Continue g) h o Nil = omega arith
after_less (V.Continue g) h o (Then x xs) = let b = continued_less g h o x in omega (arith, b)
