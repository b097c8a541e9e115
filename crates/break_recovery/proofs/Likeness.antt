-- Lists of items that show the same of all slots that count but one, and the steps of a way to what was changed.
use Rattle.std.proofs.Common.{ℕ, zero, suc, ◌+◌, ◌<◌, inl, inr, arith, Bool, true, false, eqb, List, [], ◌∷◌, length, take, drop, get_or, slice_set, reverse, option_map, Option, Some, None, Result, Ok, Err, IfOk, ◌≡◌, refl, sym, ap, subst, ◌∙◌}
use Rattle.std.proofs.lemmas.List.{reverse-reverse}
use Rattle.c_tree.specs.declared.tree.Item.{Item, If, While, Do, For, Switch, Block}
use Rattle.c_tree.specs.declared.tree.Expression.{Expression}
use Rattle.c_tree.specs.declared.tree.Test.{Test}
use Rattle.c_tree.specs.declared.tree.Selector.{Selector}
use Rattle.c_tree.specs.ExpressionTrees.{expression_tree}
use Rattle.c_tree.specs.TestTrees.{test_tree, selector_tree}
use Rattle.c_tree.specs.Trees as Trees
use Rattle.c_tree.specs.declared.tree.Section as Real
use Rattle.c_tree.specs.Paths.{list_of}
use Rattle.c_tree.specs.Trees.{Tree, Forest, Nil, Then, expression_trees, trees_of, sections_of, join}
use Rattle.c_tree.specs.Views.{tree_at, before}
use Rattle.c_tree.proofs.TreeLaws.{trees-none}
use Rattle.c_tree.proofs.Views.{trees-first, trees-at, section-first, at-If, at-While, at-Do, at-For, at-Switch, at-Block}
use Rattle.jump_meaning.specs.Code.{FunctionTree}
use Rattle.tidy_loops.specs.Slots.{Tells, count_in, counts_of, break_slot, continue_slot, but_first, but_last}
use Rattle.break_recovery.specs.Next.{or_else, next_here}
use Rattle.break_recovery.specs.Places.{Fewer}
use Rattle.break_recovery.specs.Steady.{NeedsOtherwise, SectionsKept, AreAlike, AreAlikeOf, AreSectionsAlike, IsAlike, IsSaid}
use Rattle.break_recovery.specs.Within.{AreApart}
use Rattle.break_recovery.specs.Ways.{IsWayIn, IsWayAt}
use Rattle.break_recovery.proofs.Alike.{or_more, otherwise_behind, IsLeftAlone, alike_behind, alike_first, broken_alike, continued_alike, if_alike, while_alike, do_alike, for_alike, switch_alike, block_alike, first_kept, later_kept}
use Rattle.break_recovery.proofs.Within.{apart_told, apart_there}
use Rattle.break_recovery.proofs.WaysSearched.{goes_in, asked_before}
use Rattle.break_recovery.specs.declared.here.Change.{Change}
use Rattle.break_recovery.specs.declared.here.Change.TheVariants as V
use Rattle.break_recovery.specs.Loops.{slot_of, continue_there, change_there, change_first, list_after}
use Rattle.break_recovery.proofs.Ways.{dropped_set}

-- ---- lists

pub alike_set : (counts : List ℕ) (g : ℕ) (xs : List Item) (i : ℕ) (x y : Item) → i < length xs → x ≡ get_or xs i x → IsAlike counts g (tree_at x) (tree_at y) →
    AreAlike counts g (trees_of xs) (trees_of (slice_set xs i y))
alike_set counts g [] i x y h e s = absurd (omega (arith, h))
alike_set counts g (z ∷ zs) zero x y h e s =
    subst (λ a. AreAlike counts g a (trees_of (y ∷ zs))) (sym (trees-first z zs))
    (subst (AreAlike counts g (Then (tree_at z) (trees_of zs))) (sym (trees-first y zs))
    (subst (λ w. AreAlike counts g (Then (tree_at w) (trees_of zs)) (Then (tree_at y) (trees_of zs))) e
    (alike_first counts g (tree_at x) (tree_at y) (trees_of zs) s.shows s.none)))
alike_set counts g (z ∷ zs) (suc i) x y h e s =
    subst (λ a. AreAlike counts g a (trees_of (z ∷ slice_set zs i y))) (sym (trees-first z zs))
    (subst (AreAlike counts g (Then (tree_at z) (trees_of zs))) (sym (trees-first z (slice_set zs i y)))
    (alike_behind counts g (tree_at z) (trees_of zs) (trees_of (slice_set zs i y)) (alike_set counts g zs i x y (omega (arith, h)) e s)))

pub alike_join : (counts : List ℕ) (g : ℕ) (xs : List Item) (i : ℕ) (b : Forest) → AreAlike counts g (trees_of (drop i xs)) b →
    AreAlike counts g (trees_of xs) (join (trees_of (take i xs)) b)
alike_join counts g xs zero b q = subst (λ z. AreAlike counts g (trees_of xs) (join z b)) (sym trees-none) q
alike_join counts g [] (suc i) b q = subst (λ z. AreAlike counts g (trees_of []) (join z b)) (sym trees-none) q
alike_join counts g (x ∷ xs) (suc i) b q =
    subst (λ a. AreAlike counts g a (join (trees_of (x ∷ take i xs)) b)) (sym (trees-first x xs))
    (subst (λ z. AreAlike counts g (Then (tree_at x) (trees_of xs)) (join z b)) (sym (trees-first x (take i xs)))
    (alike_behind counts g (tree_at x) (trees_of xs) (join (trees_of (take i xs)) b) (alike_join counts g xs i b q)))

pub sections_alike : (counts : List ℕ) (g : ℕ) (cs : List Real.Section) (i : ℕ) (s t : Real.Section) → i < length cs → s ≡ get_or cs i s →
    AreAlike counts g (trees_of (list_of s)) (trees_of (list_of t))
    → AreSectionsAlike counts g (sections_of cs) (sections_of (slice_set cs i t))
sections_alike counts g [] i s t l e q h o = absurd (omega (arith, l))
sections_alike counts g (c ∷ cs) zero s t l e q h o =
    let u : c ≡ s = sym e in
    let v = Real.out-Section s in
    let w = Real.out-Section t in
    or_more (q h o) (λ k. subst (λ z. SectionsKept h z (sections_of (t ∷ cs))) (sym (section-first c cs ∙ ap (λ c. before c (sections_of cs)) u))
    (subst (SectionsKept h (before s (sections_of cs))) (sym (section-first t cs))
    (first_kept h (expression_trees v.cases) (expression_trees w.cases) v.default w.default v.ends w.ends (trees_of v.list) (trees_of w.list) (sections_of cs)
    k.0)))
sections_alike counts g (c ∷ cs) (suc i) s t l e q h o =
    let v = Real.out-Section c in
    or_more (sections_alike counts g cs i s t (omega (arith, l)) e q h o)
    (λ k. subst (λ z. SectionsKept h z (sections_of (c ∷ slice_set cs i t))) (sym (section-first c cs))
    (subst (SectionsKept h (before c (sections_of cs))) (sym (section-first c (slice_set cs i t)))
    (later_kept h (expression_trees v.cases) v.default v.ends (trees_of v.list) (sections_of cs) (sections_of (slice_set cs i t)) k)))

-- ---- the change at a loop

-- an item that is left goes back to the list behind the `g = 0;`
needs_behind : (h : ℕ) (xs : Forest) → NeedsOtherwise h (but_first xs) → NeedsOtherwise h xs
needs_behind h (Then z Nil) s = absurd (omega (arith, s))
needs_behind h (Then z (Then y ys)) s = (otherwise_behind h z (Then y ys) s.0, otherwise_behind h z (but_last (Then y ys)) s.1)
needs_behind h Nil s = s

left_behind : (counts : List ℕ) (g h : ℕ) (x : Tree) (xs : Forest) → IsLeftAlone counts g h x (but_first xs) → IsLeftAlone counts g h x xs
left_behind counts g h x xs (inl e) = inl e
left_behind counts g h x xs (inr (inl e)) = inr (inl e)
left_behind counts g h x xs (inr (inr s)) = inr (inr (needs_behind h xs s))

-- each other slot that counts is left alone by a change, where the item behind the loop goes or not
abbrev pub AreLeftAlone : List ℕ → Change → Tree → Forest → Type 0
AreLeftAlone counts r x xs = (h : ℕ) → eqb (slot_of r) h ≡ false → IsLeftAlone counts (slot_of r) h x (but_first xs)

change_alike : (counts : List ℕ) (c : ℕ → ℕ) (n : ℕ) (x : Tree) (xs : Forest) (r : Change) → change_there c n x xs ≡ Some r → AreLeftAlone counts r x xs →
    AreAlike counts (slot_of r) (Then x xs) (list_after r (Then x xs))
change_alike counts c n x xs r e s = by (break_slot c n x xs) (continue_slot c n x) refl refl
  where
    it_is : (q : Change) → Some q ≡ Some r → q ≡ r
    it_is q k = cc

    by : (o p : Option ℕ) → break_slot c n x xs ≡ o → continue_slot c n x ≡ p → AreAlike counts (slot_of r) (Then x xs) (list_after r (Then x xs))
    by (Some g) p h k =
        let i = it_is (V.Break g) (sym (ap (λ o. or_else (option_map V.Break o) (continue_there c n x)) h) ∙ e) in
        subst (λ r. AreAlike counts (slot_of r) (Then x xs) (list_after r (Then x xs))) i
        (broken_alike counts c n g x xs h (subst (λ r. AreLeftAlone counts r x xs) (sym i) s))
    by None (Some g) h k =
        let i = it_is (V.Continue g) (sym (ap (λ o. or_else (option_map V.Break o) (continue_there c n x)) h ∙ ap (option_map V.Continue) k) ∙ e) in
        let l = subst (λ r. AreLeftAlone counts r x xs) (sym i) s in
        subst (λ r. AreAlike counts (slot_of r) (Then x xs) (list_after r (Then x xs))) i
        (continued_alike counts c n g x xs k (λ j o. left_behind counts g j x xs (l j o)))
    by None None h k = absurd (no (sym (ap (λ o. or_else (option_map V.Break o) (continue_there c n x)) h ∙ ap (option_map V.Continue) k) ∙ e))
      where
        no : None ≡ Some r → ⊥
        no e = cc

pub here_alike : (counts : List ℕ) (c : ℕ → ℕ) (n : ℕ) (xs ys : List Item) (i : ℕ) (x : Item) (r : Change) → i < length xs → x ≡ get_or xs i x →
    change_first c n (trees_of (drop i xs)) ≡ Some r → AreLeftAlone counts r (tree_at x) (trees_of (drop (i + 1) xs))
    → trees_of ys ≡ join (trees_of (take i xs)) (list_after r (trees_of (drop i xs))) → AreAlike counts (slot_of r) (trees_of xs) (trees_of ys)
here_alike counts c n xs ys i x r h k e s j =
    let t = trees-at xs i x h k in
    subst (AreAlike counts (slot_of r) (trees_of xs)) (sym j)
    (alike_join counts (slot_of r) xs i (list_after r (trees_of (drop i xs)))
    (subst (λ a. AreAlike counts (slot_of r) a (list_after r a)) (sym t)
    (change_alike counts c n (tree_at x) (trees_of (drop (i + 1) xs)) r (sym (ap (change_first c n) t) ∙ e) s)))

-- ---- what is said of a change

pub said_more : (s : Option ℕ) (sure : Bool) (P Q : ℕ → Type 0) → ((g : ℕ) → P g → Q g) → IsSaid s sure P → IsSaid s sure Q
said_more s sure P Q h q g e i = h g (q g e i)

-- ---- ways

pub empty_back : (w : List ℕ) → reverse w ≡ [] → w ≡ []
empty_back w e = sym (reverse-reverse w) ∙ ap reverse e

-- an item on a sure way was asked
pub was_asked : (sure : Bool) (f : FunctionTree) (n : ℕ) (w : List ℕ) (a : Forest) → sure ≡ true → (w ≡ [] → ⊥) → IsWayAt sure f n (reverse w) a →
    next_here f n a ≡ None
was_asked sure f n w a e h q = asked_before sure f n (reverse w) a e (λ i. h (empty_back w i)) q

-- where the changed item is like it was, the way goes on in it
pub item_goes_in : (sure : Bool) (f h : FunctionTree) (g : ℕ) → Fewer (counts_of f) (counts_of h) → counts_of h g ≡ 0 →
    (n i : ℕ) (w : List ℕ) (xs : List Item) (x y : Item) → i < length xs → x ≡ get_or xs i x
    → (counts : List ℕ) → (sure ≡ true → IsAlike counts g (tree_at x) (tree_at y)) → Tells counts f → AreApart (count_in counts) (trees_of xs) →
    next_here f n (trees_of (drop i xs)) ≡ None → IsWayIn sure h n w (tree_at y) → IsWayAt sure h n w (trees_of (drop i (slice_set xs i y)))
item_goes_in sure f h g l z n i w xs x y b e counts s t a k p =
    subst (IsWayAt sure h n w) (sym (dropped_set xs i y b))
    (goes_in sure counts f h t g l z n w (tree_at x) (tree_at y) (trees_of (drop (i + 1) xs)) s
    (apart_told counts f (tree_at x) (trees_of (drop (i + 1) xs)) t (apart_there (count_in counts) xs i x b e a))
    (sym (ap (next_here f n) (trees-at xs i x b e)) ∙ k) p)

pub true_false : true ≡ false → ⊥
true_false e = cc

-- ---- the forms of an item

module _ (counts : List ℕ) (g : ℕ) (x : Item) where
  pub if_is_alike : (t : Test) (a b c d : List Item) → x ≡ If t a b → AreAlikeOf counts g (trees_of a) (trees_of b) (trees_of c) (trees_of d) →
      IsAlike counts g (tree_at x) (tree_at (If t c d))
  if_is_alike t a b c d e q =
      subst (λ y. IsAlike counts g y (tree_at (If t c d))) (sym (ap tree_at e ∙ at-If t a b))
      (subst (IsAlike counts g (Trees.If (test_tree t) (trees_of a) (trees_of b))) (sym (at-If t c d))
      (if_alike counts g (test_tree t) (trees_of a) (trees_of b) (trees_of c) (trees_of d) q))

  pub while_is_alike : (t : Test) (a c : List Item) → x ≡ While t a → AreAlike counts g (trees_of a) (trees_of c) →
      IsAlike counts g (tree_at x) (tree_at (While t c))
  while_is_alike t a c e q =
      subst (λ y. IsAlike counts g y (tree_at (While t c))) (sym (ap tree_at e ∙ at-While t a))
      (subst (IsAlike counts g (Trees.While (test_tree t) (trees_of a))) (sym (at-While t c)) (while_alike counts g (test_tree t) (trees_of a) (trees_of c) q))

  pub do_is_alike : (t : Test) (a c : List Item) → x ≡ Do a t → AreAlike counts g (trees_of a) (trees_of c) → IsAlike counts g (tree_at x) (tree_at (Do c t))
  do_is_alike t a c e q =
      subst (λ y. IsAlike counts g y (tree_at (Do c t))) (sym (ap tree_at e ∙ at-Do a t))
      (subst (IsAlike counts g (Trees.Do (trees_of a) (test_tree t))) (sym (at-Do c t)) (do_alike counts g (test_tree t) (trees_of a) (trees_of c) q))

  pub for_is_alike : (a : List Item) (t u : Option Expression) (b c d : List Item) → x ≡ For a t u b →
      AreAlikeOf counts g (trees_of a) (trees_of b) (trees_of c) (trees_of d) → IsAlike counts g (tree_at x) (tree_at (For c t u d))
  for_is_alike a t u b c d e q =
      let i = option_map expression_tree t in
      let j = option_map expression_tree u in
      subst (λ y. IsAlike counts g y (tree_at (For c t u d))) (sym (ap tree_at e ∙ at-For a t u b))
      (subst (IsAlike counts g (Trees.For (trees_of a) i j (trees_of b))) (sym (at-For c t u d))
      (for_alike counts g i j (trees_of a) (trees_of b) (trees_of c) (trees_of d) q))

  pub switch_is_alike : (s : Selector) (c d : List Real.Section) → x ≡ Switch s c → AreSectionsAlike counts g (sections_of c) (sections_of d) →
      IsAlike counts g (tree_at x) (tree_at (Switch s d))
  switch_is_alike s c d e q =
      subst (λ y. IsAlike counts g y (tree_at (Switch s d))) (sym (ap tree_at e ∙ at-Switch s c))
      (subst (IsAlike counts g (Trees.Switch (selector_tree s) (sections_of c))) (sym (at-Switch s d))
      (switch_alike counts g (selector_tree s) (sections_of c) (sections_of d) q))

  pub block_is_alike : (a c : List Item) → x ≡ Block a → AreAlike counts g (trees_of a) (trees_of c) → IsAlike counts g (tree_at x) (tree_at (Block c))
  block_is_alike a c e q =
      subst (λ y. IsAlike counts g y (tree_at (Block c))) (sym (ap tree_at e ∙ at-Block a))
      (subst (IsAlike counts g (Trees.Block (trees_of a))) (sym (at-Block c)) (block_alike counts g (trees_of a) (trees_of c) q))

-- ---- of one answer two things are known

pub if_ok_both : {A E : Type 0} (r : Result A E) (P Q R : A → Type 0) → ((x : A) → P x → Q x → R x) → IfOk r P → IfOk r Q → IfOk r R
if_ok_both (Ok x) P Q R h p q = h x p q
if_ok_both (Err e) P Q R h p q = p

pub said_here : (s : ℕ) (sure : Bool) (P : ℕ → Type 0) → (sure ≡ true → P s) → IsSaid (Some s) sure P
said_here s sure P h g e i = subst P (it_is s g e) (h i)
  where
    it_is : (x y : ℕ) → Some x ≡ Some y → x ≡ y
    it_is x y i = cc
