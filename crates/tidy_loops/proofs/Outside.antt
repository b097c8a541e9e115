-- What a slot is named by outside the body of its loop: its declaration, the test, and the `g = 0;`.
use Rattle.std.proofs.Common.{ℕ, ◌+◌, ◌-◌, ◌≤◌, ◌<◌, ◌⊎◌, inl, inr, ◌≢◌, Bool, true, false, cond, ◌&&◌, eqb, Some, None, ◌≡◌, refl, sym, ap, ◌∙◌, arith}
use Rattle.std.proofs.lemmas.Bool.{ne_eqb, eq-eqb}
use Rattle.c_tree.specs.declared.tree.BinaryOp.TheVariants.{AndThen}
use Rattle.c_tree.specs.declared.tree.Home.TheVariants as H
use Rattle.c_tree.specs.ExpressionTrees.{PlaceTree, Typed, Var, Assign, Binary}
use Rattle.c_tree.specs.TestTrees.{TestTree, Source}
use Rattle.c_tree.specs.Trees.{Tree, Forest, Nil, Then, Evaluate}
use Rattle.tidy_laws.specs.Changes.{is_number}
use Rattle.tidy_slots.specs.Counts.{one_if, expression_count, place_count, test_count, list_count, item_count}
use Rattle.tidy_loops.specs.Views.{place_slot, is_it, is_int_kind}
use Rattle.tidy_loops.specs.Slots.{stop_slot, reset_slot, last_reset, but_last}
use Rattle.tidy_loops.proofs.FormLaws.{off_it}
use Rattle.tidy_loops.proofs.ExitCounts.{off_one}

self : (g : ℕ) → is_it g (Some g) ≡ true
self g = eq-eqb g g refl

pub stop_one : (g : ℕ) (t : TestTree) → stop_slot t ≡ Some g → 1 ≤ test_count g t
stop_one g (Source (Typed k (Binary AndThen e t))) h =
    let o = off_one g e (off_it g e ∙ ap (is_it g) h ∙ self g) in
    omega (arith, o)
stop_one g _ h = cc

place_one : (g : ℕ) (p : PlaceTree) → place_slot p ≡ Some g → 1 ≤ place_count g p
place_one g (Var (H.Slot x)) h = let o = ap one_if (ap (is_it g) h ∙ self g) in omega (arith, o)
place_one g _ h = cc

pub reset_one : (g : ℕ) (x : Tree) → reset_slot x ≡ Some g → 1 ≤ item_count g x
reset_one g (Evaluate (Typed k (Assign p e))) h = by (is_int_kind k && is_number 0 e) h
  where
    by : (b : Bool) → cond b (place_slot p) None ≡ Some g → 1 ≤ place_count g p + expression_count g e
    by true i = let o = place_one g p i in omega (arith, o)
    by false i = cc
reset_one g _ h = cc

pub last_one : (g : ℕ) (a : Forest) → last_reset a ≡ Some g → list_count g (but_last a) + 1 ≤ list_count g a
last_one g Nil h = cc
last_one g (Then x Nil) h = let o = reset_one g x h in omega (arith, o)
last_one g (Then x (Then y ys)) h = let o = last_one g (Then y ys) h in omega (arith, o)

pub outside_test : (c t l : ℕ) (r : Bool) → (c ≡ 0) ⊎ (t + l + one_if r < c) → 1 ≤ t → r ≡ true → (c ≡ 0) ⊎ (l + 3 ≤ c)
outside_test c t l r (inl z) h e = inl z
outside_test c t l r (inr m) h e = let o = ap one_if e in inr (omega (arith, m, h, o))

pub outside_reset : (c l f : ℕ) → (c ≡ 0) ⊎ (l < c) → f + 1 ≤ l → (c ≡ 0) ⊎ (f + 2 ≤ c)
outside_reset c l f (inl z) h = inl z
outside_reset c l f (inr m) h = inr (omega (arith, m, h))

pub not_all : (a : Bool) (m n : ℕ) → m ≢ n → false ≡ (a && eqb m n)
not_all true m n h = sym (ne_eqb m n h)
not_all false m n h = refl

pub all_low : (a : Bool) (m n : ℕ) → a ≡ true → m ≡ n → true ≡ (a && eqb m n)
all_low true m n e h = sym (eq-eqb m n h)
all_low false m n e h = cc

pub not_so : (b : Bool) → b ≡ true → b ≡ false → ⊥
not_so true e h = cc
not_so false e h = cc

pub none_there : (m o l n : ℕ) → 0 < o → (m ≡ 0) ⊎ (n + o ≤ m) → (o ≤ m) × (l ≡ m - o) → l ≡ 0 → n ≡ 0
none_there m o l n p (inl z) (h, k) e = absurd (omega (arith, p, z, h))
none_there m o l n p (inr q) (h, k) e = omega (arith, q, h, k, e)
