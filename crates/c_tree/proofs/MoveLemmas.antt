-- Each rule on a body changes its trees in one place, by that rule on plain lists.
use Rattle.std.proofs.Common.{◌≡◌, ◌≢◌, ℕ, zero, suc, ◌+◌, ◌-◌, ◌<◌, ◌≤◌, List, [], ◌∷◌, ◌++◌, Bool, true, false, Some, cond, nat_lt, take, drop, slice_get, slice_range, refl, sym, ap, subst, ◌∙◌, arith, add-one}
use Rattle.std.proofs.lemmas.List.{take-append-drop}
use Rattle.std.proofs.lemmas.List.Folds.{drop_split}
use Rattle.c_tree.specs.declared.tree.Item.{Item, Do, Leap, Land}
use Rattle.c_tree.specs.declared.tree.Test.{Off, On}
use Rattle.std.proofs.lemmas.Bool.{ltb-true, ltb-false}
use Rattle.c_tree.specs.Join as J
use Rattle.c_tree.specs.Lift.{lifted}
use Rattle.c_tree.specs.Labels.{lands_inside}
use Rattle.c_tree.specs.TestTrees as Plain
use Rattle.c_tree.specs.Trees as T
use Rattle.c_tree.specs.Trees.{Tree, Forest, Nil, Then, join, tree_of, trees_of}
use Rattle.c_tree.specs.Changed.{Changed, one, within, here}
use Rattle.c_tree.specs.Moves as M
use Rattle.c_tree.specs.Moves.{Moved}
use Rattle.c_tree.proofs.TreeLaws.{trees-append, trees-more, join-join, tree-If, tree-Do, tree-Leap, tree-Land}
use Rattle.c_tree.proofs.ExpressionLaws.{test-Off, test-On}

pub some_same : {A : Type 0} {x y : A} → Some x ≡ Some y → x ≡ y
some_same e = cc

lt_unless : (i j : ℕ) → j ≤ i → (i ≢ j) → j < i
lt_unless i j h n = omega arith

-- a list at one of its items, and at two

pub drop_at : {A : Type 0} (xs : List A) (i : ℕ) (x : A) → slice_get xs i ≡ Some x → drop i xs ≡ x ∷ drop (suc i) xs
drop_at [] i x e = cc
drop_at (y ∷ ys) zero x e = let h : y ≡ x = cc in ap (λ z. z ∷ ys) h
drop_at (y ∷ ys) (suc i) x e = drop_at ys i x e

pub cut_at : {A : Type 0} (xs : List A) (i : ℕ) (x : A) → slice_get xs i ≡ Some x → xs ≡ take i xs ++ x ∷ drop (i + 1) xs
cut_at xs i x e = rw add-one (sym (take-append-drop i xs) ∙ ap (λ l. take i xs ++ l) (drop_at xs i x e))

pub cut_twice : {A : Type 0} (xs : List A) (i j : ℕ) (x y : A) → i < j → slice_get xs i ≡ Some x → slice_get xs j ≡ Some y
    → xs ≡ take i xs ++ x ∷ (slice_range xs (i + 1) j ++ y ∷ drop (j + 1) xs)
cut_twice xs i j x y h e f =
    cut_at xs i x e
    ∙ ap (λ l. take i xs ++ x ∷ l) (drop_split xs (i + 1) j (omega arith) ∙ ap (λ l. slice_range xs (i + 1) j ++ l) (rw add-one (drop_at xs j y f)))

-- the trees of such lists

pub trees-three : (a b : List Item) (x : Item) → trees_of (a ++ x ∷ b) ≡ join (trees_of a) (Then (tree_of x) (trees_of b))
trees-three a b x = trees-append a (x ∷ b) ∙ ap (join (trees_of a)) (trees-more x b)

pub trees-guarded : (l : ℕ) (xs : List Item) → trees_of (J.guarded l xs) ≡ M.guarded l (trees_of xs)
unfolding trees_of
trees-guarded l [] = refl
trees-guarded l (x ∷ xs) = ap one (tree-If (Off l) (x ∷ xs) [] ∙ ap (λ t. T.If t (trees_of (x ∷ xs)) Nil) (test-Off l))

pub placed : (xs ys : List Item) (a b : Forest) {u v : Forest} → trees_of xs ≡ join a (join u b) → trees_of ys ≡ join a (join v b) → Moved u v →
    Changed Moved (trees_of xs) (trees_of ys)
placed xs ys a b {u} {v} e f m =
    subst (λ z. Changed Moved z (trees_of ys)) (sym e) (subst (λ z. Changed Moved (join a (join u b)) z) (sym f) (within a b (here m)))

-- x, the items between, y
pub trees-stretch : (front mid back : List Item) (x y : Item) →
    trees_of (front ++ x ∷ (mid ++ y ∷ back)) ≡ join (trees_of front) (join (Then (tree_of x) (join (trees_of mid) (one (tree_of y)))) (trees_of back))
trees-stretch front mid back x y =
    trees-three front (mid ++ y ∷ back) x
    ∙ ap (λ t. join (trees_of front) (Then (tree_of x) t)) (trees-three mid back y ∙ sym (join-join (trees_of mid) (one (tree_of y)) (trees_of back)))

-- the items between under the guard, y
pub trees-guarded_stretch : (l : ℕ) (front mid back : List Item) (y : Item) →
    trees_of (front ++ J.guarded l mid ++ y ∷ back) ≡ join (trees_of front) (join (join (M.guarded l (trees_of mid)) (one (tree_of y))) (trees_of back))
trees-guarded_stretch l front mid back y =
    trees-three (front ++ J.guarded l mid) back y
    ∙ ap (λ t. join t (Then (tree_of y) (trees_of back))) (trees-append front (J.guarded l mid) ∙ ap (join (trees_of front)) (trees-guarded l mid))
    ∙ join-join (trees_of front) (M.guarded l (trees_of mid)) (Then (tree_of y) (trees_of back))
    ∙ ap (join (trees_of front)) (sym (join-join (M.guarded l (trees_of mid)) (one (tree_of y)) (trees_of back)))

-- the items from one on
range_from : {A : Type 0} (xs : List A) (j i : ℕ) (x : A) → j < i → slice_get xs j ≡ Some x → slice_range xs j i ≡ x ∷ slice_range xs (j + 1) i
range_from xs j i x h e =
    let n : i - j ≡ suc (i - (j + 1)) = omega arith in
    ap (λ m. take m (drop j xs)) n ∙ rw add-one (ap (take (suc (i - (suc j)))) (drop_at xs j x e))

-- rule J

join_after_changed : (l i j : ℕ) (xs : List Item) → i < j → slice_get xs i ≡ Some (Leap l) → slice_get xs j ≡ Some (Land l) →
    Changed Moved (trees_of xs) (trees_of (J.joined_after l i j xs))
join_after_changed l i j xs h e f =
    let mid = slice_range xs (i + 1) j in
    let back = drop (j + 1) xs in
    let land : drop j xs ≡ Land l ∷ back = rw add-one (drop_at xs j (Land l) f) in
    placed xs (J.joined_after l i j xs) (trees_of (take i xs)) (trees_of back)
    (ap trees_of (cut_twice xs i j (Leap l) (Land l) h e f)
    ∙ trees-stretch (take i xs) mid back (Leap l) (Land l)
    ∙ ap (λ t. join (trees_of (take i xs)) (join (Then t (join (trees_of mid) (one (tree_of (Land l))))) (trees_of back))) (tree-Leap l)
    ∙ ap (λ t. join (trees_of (take i xs)) (join (Then (T.Leap l) (join (trees_of mid) (one t))) (trees_of back))) (tree-Land l))
    (ap (λ d. trees_of (take i xs ++ J.guarded l mid ++ d)) land
    ∙ trees-guarded_stretch l (take i xs) mid back (Land l)
    ∙ ap (λ t. join (trees_of (take i xs)) (join (join (M.guarded l (trees_of mid)) (one t)) (trees_of back))) (tree-Land l))
    (M.join_after l (trees_of mid))

join_before_changed : (l i j : ℕ) (xs : List Item) → j < i → slice_get xs i ≡ Some (Leap l) → slice_get xs j ≡ Some (Land l) →
    Changed Moved (trees_of xs) (trees_of (J.joined_before l i j xs))
join_before_changed l i j xs h e f =
    let mid = slice_range xs (j + 1) i in
    let back = drop (i + 1) xs in
    placed xs (J.joined_before l i j xs) (trees_of (take j xs)) (trees_of back)
    (ap trees_of (cut_twice xs j i (Land l) (Leap l) h f e)
    ∙ trees-stretch (take j xs) mid back (Land l) (Leap l)
    ∙ ap (λ t. join (trees_of (take j xs)) (join (Then t (join (trees_of mid) (one (tree_of (Leap l))))) (trees_of back))) (tree-Land l)
    ∙ ap (λ t. join (trees_of (take j xs)) (join (Then (T.Land l) (join (trees_of mid) (one t))) (trees_of back))) (tree-Leap l))
    (trees-three (take j xs) back (Do (slice_range xs j i) (On l))
    ∙ ap (λ t. join (trees_of (take j xs)) (Then t (trees_of back)))
    (tree-Do (slice_range xs j i) (On l)
    ∙ ap (λ t. T.Do (trees_of (slice_range xs j i)) t) (test-On l)
    ∙ ap (λ t. T.Do t (Plain.On l)) (ap trees_of (range_from xs j i (Land l) h f) ∙ trees-more (Land l) mid ∙ ap (λ t. Then t (trees_of mid)) (tree-Land l))))
    (M.join_before l (trees_of mid))

leap_no_land : (l m : ℕ) → Leap l ≡ Land m → ⊥
leap_no_land l m e = let f : T.Leap l ≡ T.Land m = sym (tree-Leap l) ∙ ap tree_of e ∙ tree-Land m in cc

joined_split : (l i j : ℕ) (xs : List Item) → slice_get xs i ≡ Some (Leap l) → slice_get xs j ≡ Some (Land l) → (b : Bool) → nat_lt i j ≡ b
    → Changed Moved (trees_of xs) (trees_of (cond b (J.joined_after l i j xs) (J.joined_before l i j xs)))
joined_split l i j xs e f true c = join_after_changed l i j xs (ltb-true i j c) e f
joined_split l i j xs e f false c = join_before_changed l i j xs (before (ltb-false i j c)) e f where
  before : j ≤ i → j < i
  before h = lt_unless i j h (λ g. leap_no_land l l (some_same (sym e ∙ ap (slice_get xs) g ∙ f)))

pub joined_changed : (l i j : ℕ) (xs : List Item) → slice_get xs i ≡ Some (Leap l) → slice_get xs j ≡ Some (Land l) →
    Changed Moved (trees_of xs) (trees_of (J.joined l i j xs))
joined_changed l i j xs e f = joined_split l i j xs e f (nat_lt i j) refl

-- rule L

pub lifted_changed : (l i j : ℕ) (xs : List Item) (x : Item) → j < i → slice_get xs i ≡ Some (Leap l) → slice_get xs j ≡ Some x → 0 < lands_inside l (tree_of x)
    → Changed Moved (trees_of xs) (trees_of (lifted l i j xs))
lifted_changed l i j xs x h e f p =
    let mid = slice_range xs (j + 1) i in
    let back = drop (i + 1) xs in
    placed xs (lifted l i j xs) (trees_of (take j xs)) (trees_of back)
    (ap trees_of (cut_twice xs j i x (Leap l) h f e)
    ∙ trees-stretch (take j xs) mid back x (Leap l)
    ∙ ap (λ t. join (trees_of (take j xs)) (join (Then (tree_of x) (join (trees_of mid) (one t))) (trees_of back))) (tree-Leap l))
    (trees-three (take j xs) back (Do (Leap l ∷ slice_range xs j i) (On l))
    ∙ ap (λ t. join (trees_of (take j xs)) (Then t (trees_of back)))
    (tree-Do (Leap l ∷ slice_range xs j i) (On l)
    ∙ ap (λ t. T.Do (trees_of (Leap l ∷ slice_range xs j i)) t) (test-On l)
    ∙ ap (λ t. T.Do t (Plain.On l))
    (trees-more (Leap l) (slice_range xs j i)
    ∙ ap (λ t. Then t (trees_of (slice_range xs j i))) (tree-Leap l)
    ∙ ap (Then (T.Leap l)) (ap trees_of (range_from xs j i x h f) ∙ trees-more x mid))))
    (M.lifted l (tree_of x) (trees_of mid) p)
