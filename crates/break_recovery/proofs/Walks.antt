-- A walk over a list that leaves a gap behind it.
use mathlib.Core.Path.{ap₂, fun_ext}
use Rattle.std.proofs.Common.{ℕ, zero, suc, ◌+◌, ◌-◌, ◌<◌, ◌≤◌, arith, true, false, List, [], ◌∷◌, ◌++◌, length, take, drop, get_or, slice_get, slice_set, option_map, Option, Some, None, is_some, Result, Ok, Err, OnOk, ◌≡◌, refl, sym, ap, subst, ◌∙◌}
use Rattle.std.specs.Prelude.{remove}
use Rattle.std.proofs.lemmas.List.{append-nil, drop-set-lt, length-drop, length-set}
use Rattle.c_tree.specs.declared.tree.Item.{Item, If, While, Do, For, Switch, Block}
use Rattle.c_tree.specs.declared.tree.Expression.{Expression}
use Rattle.c_tree.specs.declared.tree.Test.{Test}
use Rattle.c_tree.specs.declared.tree.Selector.{Selector}
use Rattle.c_tree.specs.declared.tree.Section.{Section}
use Rattle.c_tree.specs.ExpressionTrees.{expression_tree}
use Rattle.c_tree.specs.TestTrees.{test_tree, selector_tree}
use Rattle.c_tree.specs.Trees as Trees
use Rattle.c_tree.specs.Trees.{Forest, Then, trees_of, sections_of, join}
use Rattle.c_tree.specs.Views.{tree_at}
use Rattle.c_tree.proofs.Views.{trees-at, at-If, at-While, at-Do, at-For, at-Switch, at-Block}
use Rattle.jump_meaning.specs.Code.{FunctionTree}
use Rattle.tidy_loops.specs.Slots.{Tells, counts_of, count_in}
use Rattle.break_recovery.specs.Next.{or_else, put, next_list, next_item, next_sections, next_here, next_at, changed_to}
use Rattle.break_recovery.specs.Places.{behind, replaced, AreQuiet, IsFoundAt, Fewer}
use Rattle.break_recovery.specs.Steady.{AreAlike}
use Rattle.break_recovery.specs.declared.here.Change.{Change}
use Rattle.break_recovery.specs.Loops.{slot_of, keeps_next, change_there, change_first, loop_after, list_after}
use Rattle.break_recovery.specs.InARow.{IsRow, closed}
use Rattle.break_recovery.proofs.NextLaws.{in_if, in_while, in_do, in_for, in_switch, in_block}
use Rattle.break_recovery.proofs.Rows.{row_none, row_more, row_one}
use Rattle.break_recovery.proofs.Loops.{here_changed, here_none, next_kept, next_taken, none_next as next_last, before_rest}
use Rattle.break_recovery.proofs.Likeness.{AreLeftAlone, here_alike}
use Rattle.break_recovery.proofs.Steps.{entry_is, here_found, no_here, some_none}
use Rattle.break_recovery.proofs.Ways.{at_told, list_found}
use Rattle.break_recovery.proofs.WaysSearched.{still_quiet}
use Rattle.break_recovery.proofs.Outermost.{behind_is, one_found, more_quiet}

pub no_answer_of : {A : Type 0} (s : Option A) → is_some s ≡ false → s ≡ None
no_answer_of None h = refl
no_answer_of (Some x) h = cc

pub slice_there : {A : Type 0} (xs : List A) (i : ℕ) (x : A) → i < length xs → x ≡ get_or xs i x → slice_get xs i ≡ Some x
slice_there [] i x h e = absurd (omega (arith, h))
slice_there (y ∷ ys) zero x h e = ap Some (sym e)
slice_there (y ∷ ys) (suc i) x h e = slice_there ys i x (omega (arith, h)) e

-- ---- the list that is meant

pub drop_at : {A : Type 0} (xs : List A) (i : ℕ) (x : A) → slice_get xs i ≡ Some x → drop i xs ≡ x ∷ drop (i + 1) xs
drop_at [] i x e = cc
drop_at (y ∷ ys) zero x e = cc
drop_at (y ∷ ys) (suc i) x e = let j : suc i + 1 ≡ suc (i + 1) = omega arith in drop_at ys i x e ∙ sym (ap (λ m. x ∷ drop m (y ∷ ys)) j)

drop_one : {A : Type 0} (m : ℕ) (xs : List A) → m < length xs → drop (m + 1) xs ≡ remove (drop m xs) 0
drop_one m [] h = absurd (omega (arith, h))
drop_one zero (x ∷ xs) h = refl
drop_one (suc m) (x ∷ xs) h = let j : suc m + 1 ≡ suc (m + 1) = omega arith in ap (λ k. drop k (x ∷ xs)) j ∙ drop_one m xs (omega (arith, h))

pub closed_get : {A : Type 0} (at m : ℕ) (xs : List A) (x : A) → at < m → slice_get xs at ≡ Some x → slice_get (closed at m xs) at ≡ Some x
closed_get at m [] x h e = cc
closed_get zero m (y ∷ ys) x h e = e
closed_get (suc at) zero (y ∷ ys) x h e = absurd (omega (arith, h))
closed_get (suc at) (suc m) (y ∷ ys) x h e = closed_get at m ys x (omega (arith, h)) e

pub closed_behind : {A : Type 0} (at m : ℕ) (xs : List A) → at < m → m ≤ length xs → drop (at + 1) (closed at m xs) ≡ drop m xs
closed_behind at m [] h l = absurd (omega (arith, h, l))
closed_behind zero m (y ∷ ys) h l = refl
closed_behind (suc at) zero (y ∷ ys) h l = absurd (omega (arith, h))
closed_behind (suc at) (suc m) (y ∷ ys) h l =
    let j : suc at + 1 ≡ suc (at + 1) = omega arith in
    ap (λ k. drop k (closed (suc at) (suc m) (y ∷ ys))) j ∙ closed_behind at m ys (omega (arith, h)) (omega (arith, l))

pub closed_set : {A : Type 0} (at m : ℕ) (xs : List A) (y : A) → at < m → closed at m (slice_set xs at y) ≡ slice_set (closed at m xs) at y
closed_set at zero xs y h = absurd (omega (arith, h))
closed_set zero (suc m) [] y h = refl
closed_set (suc at) (suc m) [] y h = refl
closed_set zero (suc m) (x ∷ xs) y h = refl
closed_set (suc at) (suc m) (x ∷ xs) y h = ap (λ z. x ∷ z) (closed_set at m xs y (omega (arith, h)))

pub closed_removed : {A : Type 0} (at m : ℕ) (xs : List A) → at < m → m < length xs → closed at (m + 1) xs ≡ remove (closed at m xs) (at + 1)
closed_removed at m [] h l = absurd (omega (arith, l))
closed_removed at zero (x ∷ xs) h l = absurd (omega (arith, h))
closed_removed zero (suc m) (x ∷ xs) h l =
    let j : suc m + 1 ≡ suc (m + 1) = omega arith in
    ap (λ k. closed 0 k (x ∷ xs)) j ∙ ap (λ z. x ∷ z) (drop_one m xs (omega (arith, l)))
closed_removed (suc at) (suc m) (x ∷ xs) h l =
    let j : suc m + 1 ≡ suc (m + 1) = omega arith in
    let k : suc at + 1 ≡ suc (at + 1) = omega arith in
    ap (λ k. closed (suc at) k (x ∷ xs)) j ∙ ap (λ z. x ∷ z) (closed_removed at m xs (omega (arith, h)) (omega (arith, l))) ∙
    sym (ap (remove (closed (suc at) (suc m) (x ∷ xs))) k)

none_dropped : {A : Type 0} (k : ℕ) → drop {A = A} k [] ≡ []
none_dropped zero = refl
none_dropped (suc k) = refl

pub closed_none : {A : Type 0} (at : ℕ) (xs : List A) → closed at (at + 1) xs ≡ xs
closed_none at [] = none_dropped (at + 1)
closed_none zero (x ∷ xs) = refl
closed_none (suc at) (x ∷ xs) = let j : suc at + 1 ≡ suc (at + 1) = omega arith in ap (λ k. closed (suc at) k (x ∷ xs)) j ∙ ap (λ z. x ∷ z) (closed_none at xs)

moved_first : {A : Type 0} (m : ℕ) (xs : List A) (z b : A) → slice_get xs m ≡ Some z →
    closed 0 (m + 1) (slice_set (slice_set xs m b) 0 z) ≡ drop m xs
moved_first m [] z b e = cc
moved_first zero (x ∷ xs) z b e = cc
moved_first (suc m) (x ∷ xs) z b e =
    let j : suc m + 1 ≡ suc (m + 1) = omega arith in
    ap (λ k. closed 0 k (z ∷ slice_set xs m b)) j ∙ ap (λ w. z ∷ w) (drop-set-lt (m + 1) xs m b (omega arith)) ∙ sym (drop_at xs m z e)

pub closed_moved : {A : Type 0} (at m : ℕ) (xs : List A) (z b : A) → at < m → slice_get xs m ≡ Some z →
    closed (at + 1) (m + 1) (slice_set (slice_set xs m b) (at + 1) z) ≡ closed at m xs
closed_moved at m [] z b h e = cc
closed_moved at zero (x ∷ xs) z b h e = absurd (omega (arith, h))
closed_moved zero (suc m) (x ∷ xs) z b h e =
    let j : suc m + 1 ≡ suc (m + 1) = omega arith in
    ap (λ k. closed 1 k (x ∷ slice_set (slice_set xs m b) 0 z)) j ∙ ap (λ w. x ∷ w) (moved_first m xs z b e)
closed_moved (suc at) (suc m) (x ∷ xs) z b h e =
    let j : suc m + 1 ≡ suc (m + 1) = omega arith in
    let i : suc at + 1 ≡ suc (at + 1) = omega arith in
    ap₂ (λ i k. closed i k (slice_set (x ∷ slice_set xs m b) i z)) i j ∙ ap (λ w. x ∷ w) (closed_moved at m xs z b (omega (arith, h)) e)

-- ---- one step

-- nothing applies where the item allows none itself, nor in it
pub none_at : (f : FunctionTree) (m : ℕ) (counts : List ℕ) (at : ℕ) (xs : List Item) (x : Item) → at < length xs → x ≡ get_or xs at x →
    Tells counts f → None ≡ change_first (count_in counts) m (trees_of (drop at xs)) → next_item f m (tree_at x) ≡ None →
    next_at f m (behind at (trees_of xs)) ≡ None
none_at f m counts at xs x h e t k i =
    let rest = trees_of (drop (at + 1) xs) in
    let u = trees-at xs at x h e in
    let o = no_here xs at f m None (trees_of xs)
    (here_none f m (trees_of (drop at xs)) (join (trees_of (take at xs))) (count_in counts) (fun_ext t) None k (trees_of xs) refl) refl in
    ap (next_at f m) (sym (behind_is at xs) ∙ u) ∙
    ap₂ (λ o z. or_else o (put (λ y. Then y rest) z)) (ap (next_here f m) (sym u) ∙ o) i

module _ (n : ℕ) (counts : List ℕ) (at : ℕ) (xs : List Item) (x : Item) (h : at < length xs) (e : slice_get xs at ≡ Some x) where
  abbrev pub RowAt : List ℕ → List ℕ → ℕ → List Item → Type 0
  RowAt after gs to ys = IsRow (λ f. next_list f n) AreAlike (λ f. AreQuiet f (suc n)) counts after gs at to (trees_of xs) (trees_of ys)

  pub change_row : (after : List ℕ) (r : Change) (ys : List Item) → Some r ≡ change_first (count_in counts) (suc n) (trees_of (drop at xs)) →
      AreLeftAlone counts r (tree_at x) (trees_of (drop (at + 1) xs)) → trees_of ys ≡ join (trees_of (take at xs)) (list_after r (trees_of (drop at xs))) →
      after ≡ slice_set counts (slot_of r) 0 → RowAt after (slot_of r ∷ []) at ys
  change_row after r ys k s j q =
      row_one (λ f. next_list f n) AreAlike (λ f. AreQuiet f (suc n)) counts after g at at a b q
      (λ f t p. (sym (list_found f n at a b (Some g) refl (told f t) p), λ i l z. by f i l (one_found f (suc n) at a b (Some g) g (told f t) refl p)))
      (here_alike counts (count_in counts) (suc n) xs ys at x r h (entry_is xs at x e) (sym k) s j)
    where
      g : ℕ
      g = slot_of r

      a : Forest
      a = trees_of xs

      b : Forest
      b = trees_of ys

      told : (f : FunctionTree) → Tells counts f → changed_to (Some g) b ≡ put (λ c. replaced at c a) (next_at f (suc n) (behind at a))
      told f t =
          at_told f n (suc n) at xs xs (Some g) b refl refl
          (here_found xs at x f (suc n) (Some (g, b)) h (entry_is xs at x e)
          (here_changed f (suc n) (trees_of (drop at xs)) (join (trees_of (take at xs))) (count_in counts) (fun_ext t) (Some r) k r b refl j)
          (some_none (g, b)))

      by : (f i : FunctionTree) → Fewer (counts_of f) (counts_of i) → IsFoundAt f (suc n) (Some (g, at)) a b → AreQuiet i (suc n) at b
      by f i l (p, c, d, o) = subst (AreQuiet i (suc n) at) (sym o) (still_quiet f i l (suc n) at a g c d p)

  pub pass_row : None ≡ change_first (count_in counts) (suc n) (trees_of (drop at xs)) →
      ((f : FunctionTree) → Tells counts f → next_item f (suc n) (tree_at x) ≡ None) → RowAt counts [] (at + 1) xs
  pass_row k i = (
    refl,
    λ f t p. (
      refl,
      λ g u. more_quiet g (suc n) at (trees_of xs)
          (none_at g (suc n) counts at xs x h (entry_is xs at x e) u k (i g u)) (p g u),
    ),
  )

-- ---- the change at the item before the gap

closed_long : {A : Type 0} (at m : ℕ) (xs : List A) → at < m → m ≤ length xs → length (closed at m xs) ≡ suc at + (length xs - m)
closed_long at m [] h l = absurd (omega (arith, h, l))
closed_long at zero (x ∷ xs) h l = absurd (omega (arith, h))
closed_long zero (suc m) (x ∷ xs) h l = let i = length-drop m xs in omega (arith, i)
closed_long (suc at) (suc m) (x ∷ xs) h l = let i = closed_long at m xs (omega (arith, h)) (omega (arith, l)) in omega (arith, i)

module _ (at m : ℕ) (xs : List Item) (x : Item) (h : at < m) (l : m ≤ length xs) (e : slice_get xs at ≡ Some x) where
  abbrev pub Meant : List Item
  Meant = closed at m xs

  long_so : at < length Meant
  long_so = let i = closed_long at m xs h l in omega (arith, i)

  pub meant_get : x ≡ get_or Meant at x
  meant_get = entry_is Meant at x (closed_get at m xs x h e)

  module _ (y : Item) (c : Change) (k : tree_at y ≡ loop_after c (tree_at x)) where
    abbrev pub Made : List Item → Type 0
    Made ys = trees_of ys ≡ join (trees_of (take at Meant)) (list_after c (trees_of (drop at Meant)))

    pub closed_kept : keeps_next c ≡ true → Made (closed at m (slice_set xs at y))
    closed_kept t = ap trees_of (closed_set at m xs y h) ∙ next_kept Meant at x long_so meant_get y c k t

    pub closed_taken : keeps_next c ≡ false → m < length xs → Made (closed at (m + 1) (slice_set xs at y))
    closed_taken t n =
        let i = length-set xs at y in
        let j = closed_long at m xs h l in
        ap trees_of (closed_removed at m (slice_set xs at y) h (omega (arith, n, i)) ∙ ap (λ z. remove z (at + 1)) (closed_set at m xs y h)) ∙
        next_taken Meant at x long_so meant_get y c k t (omega (arith, n, j))

    pub closed_last : keeps_next c ≡ false → length xs ≤ m → Made (closed at m (slice_set xs at y))
    closed_last t n =
        let j = closed_long at m xs h l in
        ap trees_of (closed_set at m xs y h) ∙ next_last Meant at x long_so meant_get y c k t (omega (arith, n, j))

  -- what is found there
  pub meant_change : (c : ℕ → ℕ) (n : ℕ) → change_there c n (tree_at x) (trees_of (drop m xs)) ≡ change_first c n (trees_of (drop at Meant))
  meant_change c n = ap (λ z. change_there c n (tree_at x) (trees_of z)) (sym (closed_behind at m xs h l)) ∙ before_rest c n Meant at x long_so meant_get

  pub long_meant : at < length Meant
  long_meant = long_so

  pub get_meant : slice_get Meant at ≡ Some x
  get_meant = closed_get at m xs x h e

-- ---- the steps of a walk

pub on_ok_more : {A E : Type 0} (r : Result A E) (P Q : Type 0) → (P → Q) → OnOk r P → OnOk r Q
on_ok_more (Ok x) P Q h p = h p
on_ok_more (Err e) P Q h p = p

abbrev pub RowTo : ℕ → List ℕ → List ℕ → List ℕ → ℕ → ℕ → Forest → Forest → Type 0
RowTo n = IsRow (λ f. next_list f n) AreAlike (λ f. AreQuiet f (suc n))

pub stays : (n : ℕ) (counts : List ℕ) (at : ℕ) (a : Forest) → RowTo n counts counts [] at at a a
stays n counts at a = row_none (λ f. next_list f n) AreAlike (λ f. AreQuiet f (suc n)) counts at a

pub stays_more : (n : ℕ) (counts slots : List ℕ) (at : ℕ) (a : Forest) → (gs : List ℕ) × (slots ≡ slots ++ gs) × RowTo n counts counts gs at at a a
stays_more n counts slots at a = ([], sym (append-nil slots), stays n counts at a)

pub none_more : (n : ℕ) (counts slots : List ℕ) (at to : ℕ) (a b : Forest) → RowTo n counts counts [] at to a b →
    (gs : List ℕ) × (slots ≡ slots ++ gs) × RowTo n counts counts gs at to a b
none_more n counts slots at to a b r = ([], sym (append-nil slots), r)

pub goes_more : (n : ℕ) (counts mid after hs slots late : List ℕ) (at by to : ℕ) (a b c : Forest) → RowTo n counts mid hs at by a b →
    (gs : List ℕ) × (late ≡ hs ++ gs) × RowTo n mid after gs by to b c → RowTo n counts after late at to a c
goes_more n counts mid after hs slots late at by to a b c q (gs, e, r) =
    subst (λ z. RowTo n counts after z at to a c) (sym e)
    (row_more (λ f. next_list f n) AreAlike (λ f. AreQuiet f (suc n)) counts mid after hs gs at by to a b c q r)

module _ (n at m : ℕ) (counts : List ℕ) (xs ys : List Item) (x : Item) (to : ℕ) (h : at < m) (l : m ≤ length xs) (e : slice_get xs at ≡ Some x) where
  pub passed : (i : ℕ) → i ≡ suc n → ys ≡ closed at m xs → to ≡ at + 1 →
      None ≡ change_first (count_in counts) i (trees_of (drop at (closed at m xs))) →
      ((f : FunctionTree) → Tells counts f → next_item f i (tree_at x) ≡ None) →
      RowTo n counts counts [] at to (trees_of (closed at m xs)) (trees_of ys)
  passed i j o p k q =
      subst (λ z. RowTo n counts counts [] at to (trees_of (closed at m xs)) (trees_of z)) (sym o)
      (subst (λ t. RowTo n counts counts [] at t (trees_of (closed at m xs)) (trees_of (closed at m xs))) (sym p)
      (pass_row n counts at (closed at m xs) x (long_meant at m xs x h l e) (get_meant at m xs x h l e)
      (k ∙ ap (λ i. change_first (count_in counts) i (trees_of (drop at (closed at m xs)))) j)
      (λ f t. ap (λ i. next_item f i (tree_at x)) (sym j) ∙ q f t)))

  pub changed : (after slots late : List ℕ) (g : ℕ) (r : Change) → Some r ≡ change_first (count_in counts) (suc n) (trees_of (drop at (closed at m xs))) →
      g ≡ slot_of r → AreLeftAlone counts r (tree_at x) (trees_of (drop m xs)) → to ≡ at →
      trees_of ys ≡ join (trees_of (take at (closed at m xs))) (list_after r (trees_of (drop at (closed at m xs)))) → after ≡ slice_set counts g 0 →
      late ≡ slots ++ g ∷ [] → (gs : List ℕ) × (late ≡ slots ++ gs) × RowTo n counts after gs at to (trees_of (closed at m xs)) (trees_of ys)
  changed after slots late g r k i s p j q t = (
    g ∷ [],
    t,
    subst (λ t. RowTo n counts after (g ∷ []) at t (trees_of (closed at m xs)) (trees_of ys)) (sym p)
        (subst (λ g. RowTo n counts after (g ∷ []) at at (trees_of (closed at m xs)) (trees_of ys)) (sym i)
        (change_row n counts at (closed at m xs) x (long_meant at m xs x h l e) (get_meant at m xs x h l e) after r ys k
        (subst (λ a. AreLeftAlone counts r (tree_at x) (trees_of a)) (sym (closed_behind at m xs h l)) s) j (q ∙ ap (λ g. slice_set counts g 0) i))),
  )

-- the gap closes
pub all_closed : {A : Type 0} (at m : ℕ) (xs ys : List A) → ys ≡ take (at + 1) xs ++ drop m xs → ys ≡ closed at m xs
all_closed at m xs ys e = let j : at + 1 ≡ suc at = omega arith in e ∙ ap (λ k. take k xs ++ drop m xs) j

pub none_between : {A : Type 0} (m k : ℕ) (xs : List A) → m ≡ k → xs ≡ take m xs ++ drop k xs
none_between {A} m k xs e = sym (ap (λ k. take m xs ++ drop k xs) (sym e) ∙ by m xs)
  where
    by : (m : ℕ) (xs : List A) → take m xs ++ drop m xs ≡ xs
    by zero xs = refl
    by (suc m) [] = refl
    by (suc m) (x ∷ xs) = ap (λ z. x ∷ z) (by m xs)

-- ---- the forms of an item in which nothing applies

module _ (f : FunctionTree) (n : ℕ) (x : Item) where
  pub if_none : (t : Test) (a b : List Item) → x ≡ If t a b → next_list f n (trees_of a) ≡ None → next_list f n (trees_of b) ≡ None →
      next_item f n (tree_at x) ≡ None
  if_none t a b e p q =
      ap (next_item f n) (ap tree_at e ∙ at-If t a b) ∙ in_if f n (test_tree t) (trees_of a) (trees_of b) ∙
      ap₂ (λ o z. or_else (put (λ c. Trees.If (test_tree t) c (trees_of b)) o) (put (Trees.If (test_tree t) (trees_of a)) z)) p q

  pub while_none : (t : Test) (a : List Item) → x ≡ While t a → next_list f n (trees_of a) ≡ None → next_item f n (tree_at x) ≡ None
  while_none t a e p =
      ap (next_item f n) (ap tree_at e ∙ at-While t a) ∙ in_while f n (test_tree t) (trees_of a) ∙ ap (put (Trees.While (test_tree t))) p

  pub do_none : (t : Test) (a : List Item) → x ≡ Do a t → next_list f n (trees_of a) ≡ None → next_item f n (tree_at x) ≡ None
  do_none t a e p =
      ap (next_item f n) (ap tree_at e ∙ at-Do a t) ∙ in_do f n (trees_of a) (test_tree t) ∙ ap (put (λ c. Trees.Do c (test_tree t))) p

  pub for_none : (a : List Item) (t u : Option Expression) (b : List Item) → x ≡ For a t u b → next_list f n (trees_of a) ≡ None →
      next_list f n (trees_of b) ≡ None → next_item f n (tree_at x) ≡ None
  for_none a t u b e p q =
      let i = option_map expression_tree t in
      let j = option_map expression_tree u in
      ap (next_item f n) (ap tree_at e ∙ at-For a t u b) ∙ in_for f n (trees_of a) i j (trees_of b) ∙
      ap₂ (λ o z. or_else (put (λ c. Trees.For c i j (trees_of b)) o) (put (Trees.For (trees_of a) i j) z)) p q

  pub switch_none : (s : Selector) (c : List Section) → x ≡ Switch s c → next_sections f n (sections_of c) ≡ None → next_item f n (tree_at x) ≡ None
  switch_none s c e p =
      ap (next_item f n) (ap tree_at e ∙ at-Switch s c) ∙ in_switch f n (selector_tree s) (sections_of c) ∙ ap (put (Trees.Switch (selector_tree s))) p

  pub block_none : (a : List Item) → x ≡ Block a → next_list f n (trees_of a) ≡ None → next_item f n (tree_at x) ≡ None
  block_none a e p = ap (next_item f n) (ap tree_at e ∙ at-Block a) ∙ in_block f n (trees_of a) ∙ ap (put Trees.Block) p
