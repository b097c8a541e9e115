-- Changes in a row in a list, in an item that holds it and in a list that holds the item.
use mathlib.Core.Path.{ap₂}
use Rattle.std.proofs.Common.{ℕ, zero, suc, ◌+◌, ◌<◌, ◌≤◌, ◌⊎◌, arith, true, false, List, [], ◌∷◌, length, take, drop, slice_get, slice_set, Bool, eqb, eqb-true, option_map, Option, Some, None, ◌≡◌, refl, sym, ap, subst, inl, inr, ◌∙◌}
use Rattle.c_tree.specs.declared.tree.Item.{Item, If, While, Do, For, Switch, Block}
use Rattle.c_tree.specs.declared.tree.Expression.{Expression}
use Rattle.c_tree.specs.declared.tree.Test.{Test}
use Rattle.c_tree.specs.declared.tree.Selector.{Selector}
use Rattle.c_tree.specs.ExpressionTrees.{expression_tree, ExpressionTree}
use Rattle.c_tree.specs.TestTrees.{test_tree, selector_tree, TestTree, SelectorTree}
use Rattle.c_tree.specs.Trees as Trees
use Rattle.c_tree.specs.declared.tree.Section as Real
use Rattle.c_tree.specs.Paths.{list_of}
use Rattle.c_tree.specs.Paths as Paths
use Rattle.c_tree.specs.Trees.{Tree, Forest, Nil, Then, Sections, Section, Local, expression_trees, trees_of, sections_of, join}
use Rattle.c_tree.specs.Views.{tree_at, before}
use Rattle.c_tree.proofs.TreeLaws.{trees-none}
use Rattle.c_tree.proofs.PathLemmas.{set_same}
use Rattle.c_tree.proofs.Views.{trees-first, section-first, at-If, at-While, at-Do, at-For, at-Switch, at-Block}
use Rattle.jump_meaning.specs.Code.{FunctionTree}
use Rattle.tidy_laws.specs.Changes.{is_declaration}
use Rattle.tidy_slots.specs.Counts.{one_if, item_count}
use Rattle.tidy_loops.specs.Views.{is_it}
use Rattle.tidy_loops.specs.Slots.{Tells, count_in, counts_of, first_reset}
use Rattle.tidy_loops.specs.Remaining.{IsApart}
use Rattle.break_recovery.specs.Next.{or_else, put, next_list, next_item, next_sections, next_either, next_here, next_at}
use Rattle.break_recovery.specs.Places.{behind, replaced, AreQuiet, Fewer}
use Rattle.break_recovery.specs.Steady.{ItemIsKept, AreAlike, AreAlikeOf, AreSectionsAlike, IsAlike}
use Rattle.break_recovery.specs.Ways.{IsStep, IsAsked, IsWay, IsWayAt, IsWayIn, IsWayOf, IsWayThrough}
use Rattle.break_recovery.specs.InARow.{IsRow}
use Rattle.break_recovery.proofs.Rows.{row_lifted, row_said}
use Rattle.break_recovery.proofs.Stays.{list_still}
use Rattle.break_recovery.proofs.NextLaws.{in_if, in_while, in_do, in_for, in_switch, in_block, more_sections}
use Rattle.break_recovery.proofs.NothingBefore.{found_next}
use Rattle.break_recovery.proofs.Alike.{or_more, still_none, alike_behind, alike_first, if_alike, while_alike, do_alike, for_alike, switch_alike, block_alike, first_kept, later_kept}
use Rattle.break_recovery.proofs.Steps.{either_in, set_trees, before_with, entry_is}
use Rattle.break_recovery.specs.Within.{IsWithin}
use Rattle.break_recovery.proofs.Within.{apart_told, apart_there, within_apart}
use Rattle.break_recovery.proofs.WaysSearched.{in_if_way, if_way, in_while_way, while_way, in_do_way, do_way, in_for_way, for_way, in_block_way, block_way, in_switch_way, switch_way, still_quiet, asked_before, step_in_list, step_in_first, step_in_second, step_in_sections}

-- ---- the rows

abbrev pub RowOfList : ℕ → List ℕ → List ℕ → List ℕ → List ℕ → List ℕ → Forest → Forest → Type 0
RowOfList n = IsRow (λ f. next_list f n) AreAlike (λ f. IsWay true f n)

abbrev pub RowOfItem : ℕ → List ℕ → List ℕ → List ℕ → List ℕ → List ℕ → Tree → Tree → Type 0
RowOfItem n = IsRow (λ f. next_item f n) IsAlike (λ f. IsWayIn true f n)

abbrev pub RowOfSections : ℕ → List ℕ → List ℕ → List ℕ → List ℕ → List ℕ → Sections → Sections → Type 0
RowOfSections n = IsRow (λ f. next_sections f n) AreSectionsAlike (λ f. IsWayThrough true f n)

abbrev pub next_of_two : FunctionTree → ℕ → Forest × Forest → Option (ℕ × (Forest × Forest))
next_of_two f n c = next_either f n c.0 c.1

abbrev pub AreTwoAlike : List ℕ → ℕ → Forest × Forest → Forest × Forest → Type 0
AreTwoAlike counts g c d = AreAlikeOf counts g c.0 c.1 d.0 d.1

abbrev pub IsWayOfTwo : FunctionTree → ℕ → List ℕ → Forest × Forest → Type 0
IsWayOfTwo f n w c = IsWayOf true f n w c.0 c.1

abbrev pub RowOfTwo : ℕ → List ℕ → List ℕ → List ℕ → List ℕ → List ℕ → Forest × Forest → Forest × Forest → Type 0
RowOfTwo n = IsRow (λ f. next_of_two f n) AreTwoAlike (λ f. IsWayOfTwo f n)

abbrev Always : {A : Type 0} → FunctionTree → A → Type 0
Always f a = Unit {0}

-- ---- items

module _ (n : ℕ) (counts after gs v w : List ℕ) where
  while_made : (t : TestTree) (a b : Forest) → RowOfList n counts after gs v w a b → RowOfItem n counts after gs v w (Trees.While t a) (Trees.While t b)
  while_made t a b r =
      row_lifted (λ f. next_list f n) (λ f. next_item f n) AreAlike IsAlike (Trees.While t) Always
      (λ f g a c p e. in_while f n t a ∙ ap (put (Trees.While t)) e) (λ s g a c l. while_alike s g t a c l) (λ s f h t l g z a c e k p. tt)
      (λ f. IsWay true f n) (λ f. IsWayIn true f n) counts after gs v w v w a b
      (λ h d q. (in_while_way true h n v t a q, tt)) (λ h q p. while_way true h n w t b q) r

  do_made : (t : TestTree) (a b : Forest) → RowOfList n counts after gs v w a b → RowOfItem n counts after gs v w (Trees.Do a t) (Trees.Do b t)
  do_made t a b r =
      row_lifted (λ f. next_list f n) (λ f. next_item f n) AreAlike IsAlike (λ c. Trees.Do c t) Always
      (λ f g a c p e. in_do f n a t ∙ ap (put (λ c. Trees.Do c t)) e) (λ s g a c l. do_alike s g t a c l) (λ s f h t l g z a c e k p. tt)
      (λ f. IsWay true f n) (λ f. IsWayIn true f n) counts after gs v w v w a b
      (λ h d q. (in_do_way true h n v a t q, tt)) (λ h q p. do_way true h n w b t q) r

  block_made : (a b : Forest) → RowOfList n counts after gs v w a b → RowOfItem n counts after gs v w (Trees.Block a) (Trees.Block b)
  block_made a b r =
      row_lifted (λ f. next_list f n) (λ f. next_item f n) AreAlike IsAlike Trees.Block Always
      (λ f g a c p e. in_block f n a ∙ ap (put Trees.Block) e) (λ s g a c l. block_alike s g a c l) (λ s f h t l g z a c e k p. tt)
      (λ f. IsWay true f n) (λ f. IsWayIn true f n) counts after gs v w v w a b
      (λ h d q. (in_block_way true h n v a q, tt)) (λ h q p. block_way true h n w b q) r

  switch_made : (s : SelectorTree) (c d : Sections) → RowOfSections n counts after gs v w c d →
      RowOfItem n counts after gs v w (Trees.Switch s c) (Trees.Switch s d)
  switch_made s c d r =
      row_lifted (λ f. next_sections f n) (λ f. next_item f n) AreSectionsAlike IsAlike (Trees.Switch s) Always
      (λ f g c d p e. in_switch f n s c ∙ ap (put (Trees.Switch s)) e) (λ o g c d l. switch_alike o g s c d l) (λ s f h t l g z c d e k p. tt)
      (λ f. IsWayThrough true f n) (λ f. IsWayIn true f n) counts after gs v w v w c d
      (λ h d q. (in_switch_way true h n v s c q, tt)) (λ h q p. switch_way true h n w s d q) r

  if_made : (t : TestTree) (c d : Forest × Forest) → RowOfTwo n counts after gs v w c d →
      RowOfItem n counts after gs v w (Trees.If t c.0 c.1) (Trees.If t d.0 d.1)
  if_made t c d r =
      row_lifted (λ f. next_of_two f n) (λ f. next_item f n) AreTwoAlike IsAlike (λ c. Trees.If t c.0 c.1) Always
      (λ f g c d p e. in_if f n t c.0 c.1 ∙ sym (either_in (λ a b. Trees.If t a b) (next_list f n c.0) (next_list f n c.1) c.0 c.1) ∙
      ap (put (λ (c : Forest × Forest). Trees.If t c.0 c.1)) e)
      (λ s g c d l. if_alike s g t c.0 c.1 d.0 d.1 l) (λ s f h t l g z c d e k p. tt)
      (λ f. IsWayOfTwo f n) (λ f. IsWayIn true f n) counts after gs v w v w c d
      (λ h d q. (in_if_way true h n v t c.0 c.1 q, tt)) (λ h q p. if_way true h n w t d.0 d.1 q) r

  for_made : (t u : Option ExpressionTree) (c d : Forest × Forest) → RowOfTwo n counts after gs v w c d →
      RowOfItem n counts after gs v w (Trees.For c.0 t u c.1) (Trees.For d.0 t u d.1)
  for_made t u c d r =
      row_lifted (λ f. next_of_two f n) (λ f. next_item f n) AreTwoAlike IsAlike (λ c. Trees.For c.0 t u c.1) Always
      (λ f g c d p e. in_for f n c.0 t u c.1 ∙ sym (either_in (λ a b. Trees.For a t u b) (next_list f n c.0) (next_list f n c.1) c.0 c.1) ∙
      ap (put (λ (c : Forest × Forest). Trees.For c.0 t u c.1)) e)
      (λ s g c d l. for_alike s g t u c.0 c.1 d.0 d.1 l) (λ s f h t l g z c d e k p. tt)
      (λ f. IsWayOfTwo f n) (λ f. IsWayIn true f n) counts after gs v w v w c d
      (λ h d q. (in_for_way true h n v c.0 t u c.1 q, tt)) (λ h q p. for_way true h n w d.0 t u d.1 q) r

  -- as items
  pub while_row : (x : Item) (t : Test) (a b : List Item) → x ≡ While t a → RowOfList n counts after gs v w (trees_of a) (trees_of b) →
      RowOfItem n counts after gs v w (tree_at x) (tree_at (While t b))
  while_row x t a b e r = subst (RowOfItem n counts after gs v w (tree_at x)) (sym (at-While t b))
      (subst (λ y. RowOfItem n counts after gs v w y (Trees.While (test_tree t) (trees_of b))) (sym (ap tree_at e ∙ at-While t a))
      (while_made (test_tree t) (trees_of a) (trees_of b) r))

  pub do_row : (x : Item) (t : Test) (a b : List Item) → x ≡ Do a t → RowOfList n counts after gs v w (trees_of a) (trees_of b) →
      RowOfItem n counts after gs v w (tree_at x) (tree_at (Do b t))
  do_row x t a b e r = subst (RowOfItem n counts after gs v w (tree_at x)) (sym (at-Do b t))
      (subst (λ y. RowOfItem n counts after gs v w y (Trees.Do (trees_of b) (test_tree t))) (sym (ap tree_at e ∙ at-Do a t))
      (do_made (test_tree t) (trees_of a) (trees_of b) r))

  pub block_row : (x : Item) (a b : List Item) → x ≡ Block a → RowOfList n counts after gs v w (trees_of a) (trees_of b) →
      RowOfItem n counts after gs v w (tree_at x) (tree_at (Block b))
  block_row x a b e r = subst (RowOfItem n counts after gs v w (tree_at x)) (sym (at-Block b))
      (subst (λ y. RowOfItem n counts after gs v w y (Trees.Block (trees_of b))) (sym (ap tree_at e ∙ at-Block a))
      (block_made (trees_of a) (trees_of b) r))

  pub switch_row : (x : Item) (s : Selector) (c d : List Real.Section) → x ≡ Switch s c →
      RowOfSections n counts after gs v w (sections_of c) (sections_of d) → RowOfItem n counts after gs v w (tree_at x) (tree_at (Switch s d))
  switch_row x s c d e r = subst (RowOfItem n counts after gs v w (tree_at x)) (sym (at-Switch s d))
      (subst (λ y. RowOfItem n counts after gs v w y (Trees.Switch (selector_tree s) (sections_of d))) (sym (ap tree_at e ∙ at-Switch s c))
      (switch_made (selector_tree s) (sections_of c) (sections_of d) r))

  pub if_row : (x : Item) (t : Test) (a b c d : List Item) → x ≡ If t a b →
      RowOfTwo n counts after gs v w (trees_of a, trees_of b) (trees_of c, trees_of d) → RowOfItem n counts after gs v w (tree_at x) (tree_at (If t c d))
  if_row x t a b c d e r = subst (RowOfItem n counts after gs v w (tree_at x)) (sym (at-If t c d))
      (subst (λ y. RowOfItem n counts after gs v w y (Trees.If (test_tree t) (trees_of c) (trees_of d))) (sym (ap tree_at e ∙ at-If t a b))
      (if_made (test_tree t) (trees_of a, trees_of b) (trees_of c, trees_of d) r))

  pub for_row : (x : Item) (a : List Item) (t u : Option Expression) (b c d : List Item) → x ≡ For a t u b →
      RowOfTwo n counts after gs v w (trees_of a, trees_of b) (trees_of c, trees_of d) →
      RowOfItem n counts after gs v w (tree_at x) (tree_at (For c t u d))
  for_row x a t u b c d e r =
      let i = option_map expression_tree t in
      let j = option_map expression_tree u in
      subst (RowOfItem n counts after gs v w (tree_at x)) (sym (at-For c t u d))
      (subst (λ y. RowOfItem n counts after gs v w y (Trees.For (trees_of c) i j (trees_of d))) (sym (ap tree_at e ∙ at-For a t u b))
      (for_made i j (trees_of a, trees_of b) (trees_of c, trees_of d) r))

-- ---- two lists

module _ (n : ℕ) (counts after gs v w : List ℕ) where
  first_made : (u : List ℕ) (a b c : Forest) → ((h : FunctionTree) → IsWayOf true h n u a b → IsWay true h n v a) →
      RowOfList n counts after gs v w a c → RowOfTwo n counts after gs u (0 ∷ w) (a, b) (c, b)
  first_made u a b c i r =
      row_lifted (λ f. next_list f n) (λ f. next_of_two f n) AreAlike AreTwoAlike (λ c. (c, b)) Always
      (λ f g a c p e. ap (λ o. or_else (put (λ c. (c, b)) o) (put (λ d. (a, d)) (next_list f n b))) e)
      (λ s g a c l. inl (l, refl)) (λ s f h t l g z a c e k p. tt)
      (λ f. IsWay true f n) (λ f. IsWayOfTwo f n) counts after gs v w u (0 ∷ w) a c
      (λ h d q. (i h q, tt)) (λ h q p. q) r

  second_made : (u : List ℕ) (a b c : Forest) → ((h : FunctionTree) → IsWayOf true h n u a b → (next_list h n a ≡ None) × IsWay true h n v b) →
      RowOfList n counts after gs v w b c → RowOfTwo n counts after gs u (1 ∷ w) (a, b) (a, c)
  second_made u a b c i r =
      row_lifted (λ f. next_list f n) (λ f. next_of_two f n) AreAlike AreTwoAlike (λ c. (a, c)) (λ f c. next_list f n a ≡ None)
      (λ f g b c p e. ap₂ (λ o z. or_else (put (λ c. (c, b)) o) (put (λ c. (a, c)) z)) p e)
      (λ s g b c l. inr (refl, l)) (λ s f h t l g z b c e k p. list_still f h l a n p)
      (λ f. IsWay true f n) (λ f. IsWayOfTwo f n) counts after gs v w u (1 ∷ w) b c
      (λ h d q. ((i h q).1, (i h q).0)) (λ h q p. (p, q)) r

-- ---- an item of a list

-- how many items a list has itself
abbrev pub long : Forest → ℕ
long Nil = 0
long (Then x xs) = suc (long xs)

pub behind_long : (p r : Forest) → behind (long p) (join p r) ≡ r
behind_long Nil r = refl
behind_long (Then x xs) r = behind_long xs r

pub replaced_long : (p c r : Forest) → replaced (long p) c (join p r) ≡ join p c
replaced_long Nil c r = refl
replaced_long (Then x xs) c r = ap (Then x) (replaced_long xs c r)

pub long_take : (xs : List Item) (i : ℕ) → i < length xs → long (trees_of (take i xs)) ≡ i
long_take xs zero h = ap long trees-none
long_take [] (suc i) h = absurd (omega (arith, h))
long_take (x ∷ xs) (suc i) h = ap long (trees-first x (take i xs)) ∙ ap suc (long_take xs i (omega (arith, h)))

alike_front : (counts : List ℕ) (g : ℕ) (p a b : Forest) → AreAlike counts g a b → AreAlike counts g (join p a) (join p b)
alike_front counts g Nil a b q = q
alike_front counts g (Then x xs) a b q = alike_behind counts g x (join xs a) (join xs b) (alike_front counts g xs a b q)

pub asked_none : (h : FunctionTree) (n : ℕ) (w : List ℕ) (a : Forest) → next_here h n a ≡ None → IsAsked true h n w a
asked_none h n [] a e = tt
asked_none h n (j ∷ w) a e = e

-- what holds no list allows no change in it
no_declaration : (f : FunctionTree) (n : ℕ) (y : Tree) (c : ℕ × Tree) → next_item f n y ≡ Some c → (g : ℕ) → is_declaration g y ≡ false
no_declaration f n (Local x es) c e g = absurd (no e)
  where
    no : None ≡ Some c → ⊥
    no e = cc
no_declaration f n _ c e g = refl

-- an item that was changed stays apart, since it names each other slot that counts no more often
apart_still : (f h : FunctionTree) → Fewer (counts_of f) (counts_of h) → (g : ℕ) → counts_of h g ≡ 0 → (y z : Tree) (r : Forest) →
    ((j : ℕ) → is_declaration j y ≡ false) → ((j : ℕ) → eqb g j ≡ false → (counts_of h j ≡ 0) ⊎ (item_count j z ≤ item_count j y)) →
    IsApart (counts_of f) y r → IsApart (counts_of h) z r
apart_still f h l g o y z r d m a j i = by (eqb g j) refl
  where
    less : (counts_of f j ≡ 0) ⊎ (item_count j y + one_if (is_it j (first_reset r)) < counts_of f j) → item_count j z ≤ item_count j y →
        (counts_of h j ≡ counts_of f j) ⊎ (counts_of h j ≡ 0) →
        (counts_of h j ≡ 0) ⊎ (item_count j z + one_if (is_it j (first_reset r)) < counts_of h j)
    less w k (inr q) = inl q
    less (inl w) k (inl q) = inl (q ∙ w)
    less (inr w) k (inl q) = inr (omega (arith, w, k, q))

    counted : (counts_of h j ≡ 0) ⊎ (item_count j z ≤ item_count j y) →
        (counts_of h j ≡ 0) ⊎ (item_count j z + one_if (is_it j (first_reset r)) < counts_of h j)
    counted (inl k) = inl k
    counted (inr k) = less (a j (d j)) k (l j)

    by : (b : Bool) → eqb g j ≡ b → (counts_of h j ≡ 0) ⊎ (item_count j z + one_if (is_it j (first_reset r)) < counts_of h j)
    by true e = inl (sym (ap (counts_of h) (eqb-true g j e)) ∙ o)
    by false e = counted (m j e)

module _ (n : ℕ) (p r : Forest) where
  abbrev With : Tree → Forest
  With y = join p (Then y r)

  abbrev pub Held : FunctionTree → Tree → Type 0
  Held f y = AreQuiet f (suc n) (long p) (join p (Then y r)) × (next_here f (suc n) (Then y r) ≡ None) × IsApart (counts_of f) y r

  pub at_it : (f : FunctionTree) (g : ℕ) (y z : Tree) → next_here f (suc n) (Then y r) ≡ None → next_item f (suc n) y ≡ Some (g, z) →
      next_at f (suc n) (behind (long p) (With y)) ≡ Some (g, Then z r)
  at_it f g y z h e = ap (next_at f (suc n)) (behind_long p (Then y r)) ∙ ap₂ (λ o z. or_else o (put (λ y. Then y r) z)) h e

  pub with_next : (f : FunctionTree) (g : ℕ) (y z : Tree) → Held f y → next_item f (suc n) y ≡ Some (g, z) → next_list f n (With y) ≡ Some (g, With z)
  with_next f g y z (q, k, a) e = found_next f n (long p) (With y) g (Then z r) q (at_it f g y z k e) ∙
      ap (λ z. Some (g, z)) (replaced_long p (Then z r) (Then y r))

  pub held_still : (counts : List ℕ) (f h : FunctionTree) → Tells counts f → Fewer (counts_of f) (counts_of h) → (g : ℕ) → counts_of h g ≡ 0 →
      (y z : Tree) → next_item f (suc n) y ≡ Some (g, z) → IsAlike counts g y z → Held f y → Held h z
  held_still counts f h t l g o y z e s (q, k, a) = (
    subst (AreQuiet h (suc n) (long p)) (replaced_long p (Then z r) (Then y r))
        (still_quiet f h l (suc n) (long p) (With y) g (Then z r) (at_it f g y z k e) q),
    s.asks f h t l o (suc n) r a k,
    apart_still f h l g o y z r (no_declaration f (suc n) y (g, z) e) (λ j i. by j (s.shows j i)) a,
  )
    where
      by : (j : ℕ) → (count_in counts j ≡ 0) ⊎ ItemIsKept j y z → (counts_of h j ≡ 0) ⊎ (item_count j z ≤ item_count j y)
      by j (inl c) = inl (still_none counts f h t l j c)
      by j (inr c) = inr c.less

  with_alike : (counts : List ℕ) (g : ℕ) (y z : Tree) → IsAlike counts g y z → AreAlike counts g (With y) (With z)
  with_alike counts g y z s = alike_front counts g p (Then y r) (Then z r) (alike_first counts g y z r s.shows s.none)

  way_out : (h : FunctionTree) (k : ℕ) (w : List ℕ) (z : Tree) → k ≡ long p → IsWayIn true h (suc n) w z → Held h z → IsWay true h n (k ∷ w) (With z)
  way_out h k w z e q (a, b, c) = subst (λ k. IsWay true h n (k ∷ w) (With z)) (sym e) (
    a,
    subst (IsWayAt true h (suc n) w) (sym (behind_long p (Then z r))) (asked_none h (suc n) w (Then z r) b, q),
  )

  way_in : (h : FunctionTree) (k : ℕ) (u v : List ℕ) (y : Tree) → k ≡ long p → IsStep u k v → (v ≡ [] → ⊥) → IsApart (counts_of h) y r →
      IsWay true h n u (With y) → IsWayIn true h (suc n) v y × Held h y
  way_in h k u v y e s o a q =
      let d = step_in_list true h n k u v (With y) s q in
      let b : IsWayAt true h (suc n) v (Then y r) = subst (IsWayAt true h (suc n) v) (ap (λ k. behind k (With y)) e ∙ behind_long p (Then y r)) d.1 in
      (b.1, (subst (λ k. AreQuiet h (suc n) k (With y)) e d.0, asked_before true h (suc n) v (Then y r) refl o b, a))

  list_made : (counts after gs u v w : List ℕ) (k : ℕ) (y z : Tree) → k ≡ long p → IsStep u k v → (v ≡ [] → ⊥) →
      ((h : FunctionTree) → Tells counts h → IsApart (counts_of h) y r) →
      RowOfItem (suc n) counts after gs v w y z → RowOfList n counts after gs u (k ∷ w) (With y) (With z)
  list_made counts after gs u v w k y z e s o a q =
      row_lifted (λ f. next_item f (suc n)) (λ f. next_list f n) IsAlike AreAlike With Held with_next with_alike held_still
      (λ f. IsWayIn true f (suc n)) (λ f. IsWay true f n) counts after gs v w u (k ∷ w) y z
      (λ h t. way_in h k u v y e s o (a h t)) (λ h. way_out h k w z e) q

pub split_at : (xs : List Item) (i : ℕ) (x : Item) → i < length xs → slice_get xs i ≡ Some x →
    trees_of xs ≡ join (trees_of (take i xs)) (Then (tree_at x) (trees_of (drop (i + 1) xs)))
split_at xs i x h e = ap trees_of (sym (set_same xs i x e)) ∙ set_trees xs i x h

pub list_row : (n m : ℕ) (counts after gs u v w : List ℕ) (xs : List Item) (i : ℕ) (x y : Item) → m ≡ suc n → i < length xs →
    slice_get xs i ≡ Some x → IsStep u i v → (v ≡ [] → ⊥) → IsWithin (count_in counts) (trees_of xs) →
    RowOfItem m counts after gs v w (tree_at x) (tree_at y) → RowOfList n counts after gs u (i ∷ w) (trees_of xs) (trees_of (slice_set xs i y))
list_row n m counts after gs u v w xs i x y k h e s o l q =
    let p = trees_of (take i xs) in
    let r = trees_of (drop (i + 1) xs) in
    subst (RowOfList n counts after gs u (i ∷ w) (trees_of xs)) (sym (set_trees xs i y h))
    (subst (λ a. RowOfList n counts after gs u (i ∷ w) a (join p (Then (tree_at y) r))) (sym (split_at xs i x h e))
    (list_made n p r counts after gs u v w i (tree_at x) (tree_at y) (sym (long_take xs i h)) s o
    (λ f t. apart_told counts f (tree_at x) r t (apart_there (count_in counts) xs i x h (entry_is xs i x e) (within_apart (count_in counts) (trees_of xs) l)))
    (subst (λ j. RowOfItem j counts after gs v w (tree_at x) (tree_at y)) k q)))

-- ---- the list at the end of a way

pub last_row : (n : ℕ) (counts after gs u v : List ℕ) (i j : ℕ) (a b : Forest) → IsStep u i v → v ≡ [] →
    IsRow (λ f. next_list f n) AreAlike (λ f. AreQuiet f (suc n)) counts after gs i j a b → RowOfList n counts after gs u (j ∷ []) a b
last_row n counts after gs u v i j a b s e q =
    row_said (λ f. next_list f n) AreAlike (λ f. AreQuiet f (suc n)) (λ f. IsWay true f n) counts after gs i j u (j ∷ []) a b
    (λ h p. (step_in_list true h n i u v a s p).0) (λ h p. (p, (tt, tt))) q

-- no changes, and the way given up
pub no_row : {A : Type 0} (next : FunctionTree → A → Option (ℕ × A)) (like : List ℕ → ℕ → A → A → Type 0) (P : FunctionTree → List ℕ → A → Type 0)
    (counts v : List ℕ) (a : A) → ((h : FunctionTree) → P h [] a) → IsRow next like P counts counts [] v [] a a
no_row next like P counts v a p = (refl, λ f t q. (refl, λ h d. p h))

-- ---- sections

module _ (n : ℕ) (counts after gs v w : List ℕ) (cases : List ExpressionTree) (default ends : Bool) where
  head_made : (a b : Forest) (c : Sections) → RowOfList n counts after gs v w a b →
      RowOfSections n counts after gs (0 ∷ v) (0 ∷ w) (Section cases default a ends c) (Section cases default b ends c)
  head_made a b c r =
      row_lifted (λ f. next_list f n) (λ f. next_sections f n) AreAlike AreSectionsAlike (λ a. Section cases default a ends c) Always
      (λ f g a d p e. more_sections f n cases default a ends c ∙
      ap (λ o. or_else (put (λ b. Section cases default b ends c) o) (put (Section cases default a ends) (next_sections f n c))) e)
      (λ s g a d l h o. or_more (l h o) (λ k. first_kept h cases cases default default ends ends a d c k.0)) (λ s f h t l g z a d e k p. tt)
      (λ f. IsWay true f n) (λ f. IsWayThrough true f n) counts after gs v w (0 ∷ v) (0 ∷ w) a b
      (λ h d q. (q.1, tt)) (λ h q p. (tt, q)) r

  tail_made : (k : ℕ) (a : Forest) (c d : Sections) → RowOfSections n counts after gs (k ∷ v) (k ∷ w) c d →
      RowOfSections n counts after gs (suc k ∷ v) (suc k ∷ w) (Section cases default a ends c) (Section cases default a ends d)
  tail_made k a c d r =
      row_lifted (λ f. next_sections f n) (λ f. next_sections f n) AreSectionsAlike AreSectionsAlike (Section cases default a ends)
      (λ f c. next_list f n a ≡ None)
      (λ f g c d p e. more_sections f n cases default a ends c ∙
      ap₂ (λ o z. or_else (put (λ b. Section cases default b ends c) o) (put (Section cases default a ends) z)) p e)
      (λ s g c d l h o. or_more (l h o) (later_kept h cases default ends a c d)) (λ s f h t l g z c d e k p. list_still f h l a n p)
      (λ f. IsWayThrough true f n) (λ f. IsWayThrough true f n) counts after gs (k ∷ v) (k ∷ w) (suc k ∷ v) (suc k ∷ w) c d
      (λ h d q. ((q.0.1, q.1), q.0.0)) (λ h q p. ((p, q.0), q.1)) r

sections_made : (n : ℕ) (counts after gs v w : List ℕ) (i : ℕ) (cs : List Real.Section) (s t : Real.Section) → i < length cs →
    slice_get cs i ≡ Some s → t ≡ Paths.with_list (list_of t) s → RowOfList n counts after gs v w (trees_of (list_of s)) (trees_of (list_of t)) →
    RowOfSections n counts after gs (i ∷ v) (i ∷ w) (sections_of cs) (sections_of (slice_set cs i t))
sections_made n counts after gs v w i [] s t h e k r = absurd (omega (arith, h))
sections_made n counts after gs v w zero (c ∷ cs) s t h e k r =
    let o = Real.out-Section s in
    let d = sections_of cs in
    let q : c ≡ s = cc in
    subst (λ z. RowOfSections n counts after gs (0 ∷ v) (0 ∷ w) z (sections_of (t ∷ cs))) (sym (section-first c cs ∙ ap (λ c. before c d) q))
    (subst (RowOfSections n counts after gs (0 ∷ v) (0 ∷ w) (before s d)) (sym (section-first t cs ∙ before_with s t d k))
    (head_made n counts after gs v w (expression_trees o.cases) o.default o.ends (trees_of (list_of s)) (trees_of (list_of t)) d r))
sections_made n counts after gs v w (suc i) (c ∷ cs) s t h e k r =
    let o = Real.out-Section c in
    subst (λ z. RowOfSections n counts after gs (suc i ∷ v) (suc i ∷ w) z (sections_of (c ∷ slice_set cs i t))) (sym (section-first c cs))
    (subst (RowOfSections n counts after gs (suc i ∷ v) (suc i ∷ w) (before c (sections_of cs))) (sym (section-first c (slice_set cs i t)))
    (tail_made n counts after gs v w (expression_trees o.cases) o.default o.ends i (trees_of o.list) (sections_of cs) (sections_of (slice_set cs i t))
    (sections_made n counts after gs v w i cs s t (omega (arith, h)) e k r)))

pub sections_row : (n : ℕ) (counts after gs u v w : List ℕ) (i : ℕ) (cs : List Real.Section) (s t : Real.Section) → i < length cs →
    slice_get cs i ≡ Some s → t ≡ Paths.with_list (list_of t) s → IsStep u i v →
    RowOfList n counts after gs v w (trees_of (list_of s)) (trees_of (list_of t)) →
    RowOfSections n counts after gs u (i ∷ w) (sections_of cs) (sections_of (slice_set cs i t))
sections_row n counts after gs u v w i cs s t h e k o r =
    row_said (λ f. next_sections f n) AreSectionsAlike (λ f. IsWayThrough true f n) (λ f. IsWayThrough true f n) counts after gs
    (i ∷ v) (i ∷ w) u (i ∷ w) (sections_of cs) (sections_of (slice_set cs i t))
    (λ f. step_in_sections true f n i u v (sections_of cs) o) (λ f q. q) (sections_made n counts after gs v w i cs s t h e k r)

-- ---- two lists

module _ (n : ℕ) (counts after gs u v w : List ℕ) (i : ℕ) (s : IsStep u i v) where
  pub first_row : (a b c : Forest) → i ≡ 0 → RowOfList n counts after gs v w a c → RowOfTwo n counts after gs u (0 ∷ w) (a, b) (c, b)
  first_row a b c e r = first_made n counts after gs v w u a b c (λ h. step_in_first true h n i u v a b e s) r

  pub second_row : (a b c : Forest) → 0 < i → RowOfList n counts after gs v w b c → RowOfTwo n counts after gs u (1 ∷ w) (a, b) (a, c)
  second_row a b c e r = second_made n counts after gs v w u a b c (λ h. step_in_second true h n i u v a b e s) r
