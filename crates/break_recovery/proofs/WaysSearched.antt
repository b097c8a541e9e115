-- The search goes on at the end of a way, and a change makes one.
use Rattle.std.proofs.Common.{ℕ, zero, suc, ◌-◌, ◌<◌, ◌≤◌, inl, inr, Bool, false, true, List, [], ◌∷◌, Option, Some, None, ◌≡◌, refl, sym, ap, subst, ◌∙◌, arith}
use Rattle.c_tree.specs.ExpressionTrees.{ExpressionTree}
use Rattle.c_tree.specs.TestTrees.{TestTree, SelectorTree}
use Rattle.c_tree.specs.Trees.{Tree, Forest, Then, Sections, NoSection, Section, If, While, Do, For, Switch, Block}
use Rattle.jump_meaning.specs.Code.{FunctionTree}
use Rattle.tidy_loops.specs.Slots.{Tells, counts_of}
use Rattle.break_recovery.specs.Next.{next_list, next_here, next_at}
use Rattle.break_recovery.specs.Places.{behind, replaced, removed, AreQuiet, Fewer, IsFoundAt}
use Rattle.tidy_loops.specs.Remaining.{IsApart}
use Rattle.break_recovery.specs.Steady.{IsAlike}
use Rattle.break_recovery.specs.Ways.{IfSure, AreQuietSections, list_there, IsWay, IsWayAt, IsWayIn, IsWayOf, IsWayThrough, IsStep, KeepsWay}
use Rattle.break_recovery.proofs.NothingBefore.{quiet_replaced, moved_up}
use Rattle.break_recovery.proofs.Stays.{list_still}

-- a way in an item is one in its lists

pub in_while_way : (sure : Bool) (f : FunctionTree) (n : ℕ) (w : List ℕ) (t : TestTree) (a : Forest) → IsWayIn sure f n w (While t a) → IsWay sure f n w a
in_while_way sure f n [] t a q = tt
in_while_way sure f n (k ∷ w) t a q = q

pub while_way : (sure : Bool) (f : FunctionTree) (n : ℕ) (w : List ℕ) (t : TestTree) (a : Forest) → IsWay sure f n w a → IsWayIn sure f n w (While t a)
while_way sure f n [] t a q = tt
while_way sure f n (k ∷ w) t a q = q

pub in_do_way : (sure : Bool) (f : FunctionTree) (n : ℕ) (w : List ℕ) (a : Forest) (t : TestTree) → IsWayIn sure f n w (Do a t) → IsWay sure f n w a
in_do_way sure f n [] a t q = tt
in_do_way sure f n (k ∷ w) a t q = q

pub do_way : (sure : Bool) (f : FunctionTree) (n : ℕ) (w : List ℕ) (a : Forest) (t : TestTree) → IsWay sure f n w a → IsWayIn sure f n w (Do a t)
do_way sure f n [] a t q = tt
do_way sure f n (k ∷ w) a t q = q

pub in_block_way : (sure : Bool) (f : FunctionTree) (n : ℕ) (w : List ℕ) (a : Forest) → IsWayIn sure f n w (Block a) → IsWay sure f n w a
in_block_way sure f n [] a q = tt
in_block_way sure f n (k ∷ w) a q = q

pub block_way : (sure : Bool) (f : FunctionTree) (n : ℕ) (w : List ℕ) (a : Forest) → IsWay sure f n w a → IsWayIn sure f n w (Block a)
block_way sure f n [] a q = tt
block_way sure f n (k ∷ w) a q = q

pub in_if_way : (sure : Bool) (f : FunctionTree) (n : ℕ) (w : List ℕ) (t : TestTree) (a b : Forest) → IsWayIn sure f n w (If t a b) → IsWayOf sure f n w a b
in_if_way sure f n [] t a b q = tt
in_if_way sure f n (zero ∷ []) t a b q = tt
in_if_way sure f n (zero ∷ k ∷ w) t a b q = q
in_if_way sure f n (suc j ∷ []) t a b q = q
in_if_way sure f n (suc j ∷ k ∷ w) t a b q = q

pub if_way : (sure : Bool) (f : FunctionTree) (n : ℕ) (w : List ℕ) (t : TestTree) (a b : Forest) → IsWayOf sure f n w a b → IsWayIn sure f n w (If t a b)
if_way sure f n [] t a b q = tt
if_way sure f n (zero ∷ []) t a b q = tt
if_way sure f n (zero ∷ k ∷ w) t a b q = q
if_way sure f n (suc j ∷ []) t a b q = q
if_way sure f n (suc j ∷ k ∷ w) t a b q = q

pub in_for_way : (sure : Bool) (f : FunctionTree) (n : ℕ) (w : List ℕ) (a : Forest) (t u : Option ExpressionTree) (b : Forest) →
    IsWayIn sure f n w (For a t u b) → IsWayOf sure f n w a b
in_for_way sure f n [] a t u b q = tt
in_for_way sure f n (zero ∷ []) a t u b q = tt
in_for_way sure f n (zero ∷ k ∷ w) a t u b q = q
in_for_way sure f n (suc j ∷ []) a t u b q = q
in_for_way sure f n (suc j ∷ k ∷ w) a t u b q = q

pub for_way : (sure : Bool) (f : FunctionTree) (n : ℕ) (w : List ℕ) (a : Forest) (t u : Option ExpressionTree) (b : Forest) → IsWayOf sure f n w a b →
    IsWayIn sure f n w (For a t u b)
for_way sure f n [] a t u b q = tt
for_way sure f n (zero ∷ []) a t u b q = tt
for_way sure f n (zero ∷ k ∷ w) a t u b q = q
for_way sure f n (suc j ∷ []) a t u b q = q
for_way sure f n (suc j ∷ k ∷ w) a t u b q = q

pub in_switch_way : (sure : Bool) (f : FunctionTree) (n : ℕ) (w : List ℕ) (s : SelectorTree) (c : Sections) → IsWayIn sure f n w (Switch s c) →
    IsWayThrough sure f n w c
in_switch_way sure f n [] s c q = tt
in_switch_way sure f n (j ∷ []) s c q = q
in_switch_way sure f n (j ∷ k ∷ w) s c q = q

pub switch_way : (sure : Bool) (f : FunctionTree) (n : ℕ) (w : List ℕ) (s : SelectorTree) (c : Sections) → IsWayThrough sure f n w c →
    IsWayIn sure f n w (Switch s c)
switch_way sure f n [] s c q = tt
switch_way sure f n (j ∷ []) s c q = q
switch_way sure f n (j ∷ k ∷ w) s c q = q

-- the places before that of a change stay quiet
pub still_quiet : (f h : FunctionTree) → Fewer (counts_of f) (counts_of h) → (n k : ℕ) (a : Forest) (g : ℕ) (c : Forest) →
    next_at f n (behind k a) ≡ Some (g, c) → AreQuiet f n k a → AreQuiet h n k (replaced k c a)
still_quiet f h l n k a g c e q j i = quiet_replaced f h l n j k a g c e i (q j i)

-- a step of a way
pub step_in_list : (sure : Bool) (f : FunctionTree) (n k : ℕ) (v w : List ℕ) (a : Forest) → IsStep v k w → IsWay sure f n v a →
    AreQuiet f (suc n) k a × IsWayAt sure f (suc n) w (behind k a)
step_in_list sure f n k v w a (inl e) q = subst (λ v. IsWay sure f n v a) e q
step_in_list sure f n k v w a (inr (e, (z, r))) q = (λ j i. absurd (omega (arith, z, i)), subst (λ w. IsWayAt sure f (suc n) w (behind k a)) (sym r) (tt, tt))

pub step_in_first : (sure : Bool) (f : FunctionTree) (n k : ℕ) (v w : List ℕ) (a b : Forest) → k ≡ 0 → IsStep v k w → IsWayOf sure f n v a b →
    IsWay sure f n w a
step_in_first sure f n k v w a b z (inl e) q = subst (λ v. IsWayOf sure f n v a b) (e ∙ ap (λ k. k ∷ w) z) q
step_in_first sure f n k v w a b z (inr (e, (y, r))) q = subst (λ w. IsWay sure f n w a) (sym r) tt

pub step_in_second : (sure : Bool) (f : FunctionTree) (n k : ℕ) (v w : List ℕ) (a b : Forest) → 0 < k → IsStep v k w → IsWayOf sure f n v a b →
    (next_list f n a ≡ None) × IsWay sure f n w b
step_in_second sure f n zero v w a b z s q = absurd (omega (arith, z))
step_in_second sure f n (suc k) v w a b z (inl e) q = subst (λ v. IsWayOf sure f n v a b) e q
step_in_second sure f n (suc k) v w a b z (inr (e, (y, r))) q = absurd (omega (arith, y))

pub step_in_sections : (sure : Bool) (f : FunctionTree) (n k : ℕ) (v w : List ℕ) (c : Sections) → IsStep v k w → IsWayThrough sure f n v c →
    AreQuietSections f n k c × IsWay sure f n w (list_there k c)
step_in_sections sure f n k v w c (inl e) q = subst (λ v. IsWayThrough sure f n v c) e q
step_in_sections sure f n k v w c (inr (e, (z, r))) q = (
  subst (λ k. AreQuietSections f n k c) (sym z) tt,
  subst (λ w. IsWay sure f n w (list_there k c)) (sym r) tt,
)

pub quiet_sections_still : (f h : FunctionTree) → Fewer (counts_of f) (counts_of h) → (n k : ℕ) (c : Sections) → AreQuietSections f n k c →
    AreQuietSections h n k c
quiet_sections_still f h l n zero c q = tt
quiet_sections_still f h l n (suc k) NoSection q = tt
quiet_sections_still f h l n (suc k) (Section cases default a ends c) (e, q) = (list_still f h l a n e, quiet_sections_still f h l n k c q)

-- a change at a place, or in it, makes a way
pub found_way : (sure : Bool) (f h : FunctionTree) → Fewer (counts_of f) (counts_of h) → (n g k : ℕ) (a b : Forest) (w : List ℕ) →
    IsFoundAt f (suc n) (Some (g, k)) a b → IsWayAt sure h (suc n) w (behind k b) → IsWay sure h n (k ∷ w) b
found_way sure f h l n g k a b w (q, c, e, i) p = (subst (AreQuiet h (suc n) k) (sym i) (still_quiet f h l (suc n) k a g c e q), p)

pub second_way : (sure : Bool) (f h : FunctionTree) → Fewer (counts_of f) (counts_of h) → (n : ℕ) (a b : Forest) (w : List ℕ) →
    next_list f n a ≡ None → IsWay sure h n w b → IsWayOf sure h n (1 ∷ w) a b
second_way sure f h l n a b w e q = (list_still f h l a n e, q)

-- no way says nothing
pub no_way : (sure : Bool) (f : FunctionTree) (n : ℕ) (w : List ℕ) (a : Forest) → w ≡ [] → IsWayAt sure f n w a
no_way sure f n w a e = subst (λ w. IsWayAt sure f n w a) (sym e) (tt, tt)

-- ---- without a declaration

pub keeps_behind : (k d : ℕ) → d ≤ k → KeepsWay k (Some d) (k - 1)
keeps_behind k d i p sure f n w a q = by k refl
  where
    by : (m : ℕ) → m ≡ k → IsWayAt sure f n w (behind (k - 1) (removed d a))
    by zero e = absurd (omega (arith, p, e))
    by (suc m) e =
        let l : (suc m - 1) ≡ m = omega arith in
        let r : d < suc m = omega (arith, p, e) in
        subst (λ j. IsWayAt sure f n w (behind j (removed d a))) (sym l ∙ ap (λ j. j - 1) e)
        (subst (IsWayAt sure f n w) (sym (moved_up m d a r)) (subst (λ j. IsWayAt sure f n w (behind j a)) (sym e) q))

-- what goes stands behind
pub keeps_none : (k d from : ℕ) → k < d → KeepsWay k (Some d) from
keeps_none k d from i p = absurd (omega (arith, i, p))

-- ---- a way that goes on in an item

if_sure : (sure : Bool) (P : Type 0) → (sure ≡ true → P) → IfSure sure P
if_sure false P h = tt
if_sure true P h = h refl

when_sure : (sure : Bool) (P : Type 0) → sure ≡ true → IfSure sure P → P
when_sure false P e h = cc
when_sure true P e h = h

-- where an item is like one that allowed no change itself, a way in it is one from it on
pub goes_in : (sure : Bool) (counts : List ℕ) (f h : FunctionTree) → Tells counts f → (g : ℕ) → Fewer (counts_of f) (counts_of h) → counts_of h g ≡ 0 →
    (n : ℕ) (w : List ℕ) (x y : Tree) (xs : Forest) → (sure ≡ true → IsAlike counts g x y) → IsApart (counts_of f) x xs
    → next_here f n (Then x xs) ≡ None → IsWayIn sure h n w y → IsWayAt sure h n w (Then y xs)
goes_in sure counts f h t g l z n [] x y xs s a k p = (tt, tt)
goes_in sure counts f h t g l z n (j ∷ w) x y xs s a k p = (if_sure sure (next_here h n (Then y xs) ≡ None) (λ e. (s e).asks f h t l z n xs a k), p)

-- an item on a sure way was asked before
pub asked_before : (sure : Bool) (f : FunctionTree) (n : ℕ) (w : List ℕ) (a : Forest) → sure ≡ true → (w ≡ [] → ⊥) → IsWayAt sure f n w a →
    next_here f n a ≡ None
asked_before sure f n [] a e k q = absurd (k refl)
asked_before sure f n (j ∷ w) a e k q = when_sure sure (next_here f n a ≡ None) e q.0
