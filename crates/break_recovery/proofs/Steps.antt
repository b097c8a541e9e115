-- The search among sections, and what is changed in place.
use mathlib.Core.Path.{ap₂}
use Rattle.std.proofs.Common.{ℕ, zero, suc, ◌+◌, ◌<◌, ◌≤◌, arith, true, false, List, [], ◌∷◌, length, take, drop, get_or, slice_get, slice_set, option_map, Option, Some, None, is_some, ◌≡◌, refl, sym, ap, subst, ◌∙◌}
use Rattle.std.specs.Prelude.{remove}
use Rattle.c_tree.specs.declared.tree.Item.{Item, Item-F, out-Item, roll-Item, roll-out-Item, If, While, Do, For, Switch, Block}
use Rattle.c_tree.specs.declared.tree.Item.TheOpen as O
use Rattle.c_tree.specs.declared.tree.Item.TheVariants.{rolls-If, rolls-While, rolls-Do, rolls-For, rolls-Switch, rolls-Block}
use Rattle.c_tree.specs.declared.tree.Expression.{Expression}
use Rattle.c_tree.specs.declared.tree.Test.{Test}
use Rattle.c_tree.specs.declared.tree.Selector.{Selector}
use Rattle.c_tree.specs.ExpressionTrees.{expression_tree}
use Rattle.c_tree.specs.TestTrees.{test_tree, selector_tree}
use Rattle.c_tree.specs.Trees as P
use Rattle.c_tree.specs.declared.tree.Section as Real
use Rattle.c_tree.specs.Trees.{Tree, Forest, Then, Sections, Section, trees_of, sections_of, expression_trees, join}
use Rattle.c_tree.proofs.TreeLaws.{trees-none, sections-none}
use Rattle.jump_meaning.specs.Code.{FunctionTree}
use Rattle.c_tree.specs.Views.{layer_at, tree_at, before}
use Rattle.c_tree.proofs.Views.{trees-first, trees-at, trees-end, section-first, sections-at, sections-end, at-If, at-While, at-Do, at-For, at-Switch, at-Block}
use Rattle.c_tree.specs.Paths.{list_of}
use Rattle.c_tree.specs.Paths as Paths
use Rattle.tidy_loops.specs.Slots.{broken, continued, but_first}
use Rattle.break_recovery.specs.Next.{or_else, put, next_list, next_sections, next_at, next_here, next_item, next_either, with_list, behind_sections, broken_first, continued_first, changed_to}
use Rattle.break_recovery.specs.Ways.{AreQuietSections}
use Rattle.break_recovery.proofs.NextLaws.{more, in_if, in_while, in_do, in_for, in_switch, in_block, more_sections}

put_all : {A : Type 0} (F : A → A) → ((x : A) → F x ≡ x) → (o : Option (ℕ × A)) → put F o ≡ o
put_all F h None = refl
put_all F h (Some c) = ap (λ z. Some (c.0, z)) (h c.1)

put_put : {A B C : Type 0} (F : B → C) (G : A → B) (H : A → C) → ((x : A) → F (G x) ≡ H x) → (o : Option (ℕ × A)) → put F (put G o) ≡ put H o
put_put F G H h None = refl
put_put F G H h (Some c) = ap (λ z. Some (c.0, z)) (h c.1)

pub some_none : {A : Type 0} (x : A) → Some x ≡ None → ⊥
some_none x e = cc

-- nothing was found
nothing : {A B : Type 0} (F : A → B) (r : Option (ℕ × B)) (o : Option (ℕ × A)) → r ≡ put F o → r ≡ None → o ≡ None
nothing F r None e h = refl
nothing F r (Some c) e h = absurd (some_none (c.0, F c.1) (sym e ∙ h))

-- something was found
something : {A B : Type 0} (F : A → B) (r : Option (ℕ × B)) (o more : Option (ℕ × A)) → r ≡ put F o → (r ≡ None → ⊥) → put F (or_else o more) ≡ r
something F r None more e h = absurd (h e)
something F r (Some c) more e h = sym e

-- ---- sections

module _ (f : FunctionTree) (n : ℕ) (cs : List Real.Section) where
  abbrev pub SectionsGo : ℕ → Type 0
  SectionsGo i = next_sections f n (sections_of cs) ≡ put (behind_sections (sections_of (take i cs))) (next_sections f n (sections_of (drop i cs)))

  pub sections_start : SectionsGo 0
  sections_start = sym (put_all (behind_sections (sections_of (take 0 cs))) (λ x. ap (λ z. behind_sections z x) sections-none)
      (next_sections f n (sections_of cs)))

  split : (x : Real.Section) (d : Sections) → next_sections f n (before x d) ≡ or_else
      (put (λ b. with_list b x d) (next_list f n (trees_of (list_of x)))) (put (before x) (next_sections f n d))
  split x d = let o = Real.out-Section x in more_sections f n (expression_trees o.cases) o.default (trees_of o.list) o.ends d

  pub section_found : (i : ℕ) (x : Real.Section) (r : Option (ℕ × Sections)) → i < length cs → x ≡ get_or cs i x →
      r ≡ put (behind_sections (sections_of (take i cs))) (put (λ b. with_list b x (sections_of (drop (i + 1) cs)))
      (next_list f n (trees_of (list_of x)))) → (r ≡ None → ⊥) → SectionsGo i → r ≡ next_sections f n (sections_of cs)
  section_found i x r h e k o g =
      let F = behind_sections (sections_of (take i cs)) in
      let rest = sections_of (drop (i + 1) cs) in
      let t = sections-at cs i x h e in
      sym (g ∙ ap (put F) (ap (next_sections f n) t ∙ split x rest)
      ∙ something F r (put (λ b. with_list b x rest) (next_list f n (trees_of (list_of x)))) (put (before x) (next_sections f n rest)) k o)

  pub sections_end : (i : ℕ) → length cs ≤ i → SectionsGo i → None ≡ next_sections f n (sections_of cs)
  sections_end i h g = sym (g ∙ ap (λ z. put (behind_sections (sections_of (take i cs))) (next_sections f n z)) (sections-end cs i h))

-- where the first are quiet, the search goes on behind them
pub quiet_go : (f : FunctionTree) (n k : ℕ) (cs : List Real.Section) → AreQuietSections f n k (sections_of cs) → SectionsGo f n cs k
quiet_go f n zero cs q = sections_start f n cs
quiet_go f n (suc k) [] q = sections_start f n []
quiet_go f n (suc k) (x ∷ xs) q =
    let d = sections_of xs in
    let p : (next_list f n (trees_of (list_of x)) ≡ None) × AreQuietSections f n k d = subst (AreQuietSections f n (suc k)) (section-first x xs) q in
    ap (next_sections f n) (section-first x xs) ∙ split f n xs x d
    ∙ ap (λ z. or_else (put (λ b. with_list b x d) z) (put (before x) (next_sections f n d))) p.0
    ∙ ap (put (before x)) (quiet_go f n k xs p.1)
    ∙ put_put (before x) (behind_sections (sections_of (take k xs))) (behind_sections (sections_of (x ∷ take k xs)))
    (λ e. sym (ap (λ z. behind_sections z e) (section-first x (take k xs)))) (next_sections f n (sections_of (drop k xs)))

-- ---- an entry within bounds

pub an_entry : {A : Type 0} (xs : List A) (i : ℕ) → i < length xs → (x : A) × (x ≡ get_or xs i x)
an_entry [] i h = absurd (omega (arith, h))
an_entry (y ∷ ys) zero h = (y, refl)
an_entry (y ∷ ys) (suc i) h = let k : i < length ys = omega (arith, h) in an_entry ys i k

-- ---- what is changed in place

pub put_changed : {A B : Type 0} (F : A → B) (s : Option ℕ) (a : A) → put F (changed_to s a) ≡ changed_to s (F a)
put_changed F None a = refl
put_changed F (Some g) a = refl

-- no slot was answered, or one
pub no_slot : {A : Type 0} (s : Option ℕ) (a : A) → is_some s ≡ false → changed_to s a ≡ None
no_slot None a h = refl
no_slot (Some g) a h = cc

pub no_answer : (s : Option ℕ) → is_some s ≡ false → s ≡ None
no_answer None h = refl
no_answer (Some g) h = cc

pub a_slot : {A : Type 0} (s : Option ℕ) (a : A) → is_some s ≡ true → changed_to s a ≡ None → ⊥
a_slot None a h e = absurd (no h)
  where
    no : false ≡ true → ⊥
    no e = cc
a_slot (Some g) a h e = some_none (g, a) e

pub an_answer : {P : Type 0} (s : Option ℕ) → is_some s ≡ true → s ≡ None → P
an_answer None h e = absurd (no h)
  where
    no : false ≡ true → ⊥
    no e = cc
an_answer (Some g) h e = absurd (some_none g e)

-- ---- one item exchanged

pub set_trees : (xs : List Item) (i : ℕ) (y : Item) → i < length xs → trees_of (slice_set xs i y) ≡ join (trees_of (take i xs))
    (Then (tree_at y) (trees_of (drop (i + 1) xs)))
set_trees [] i y h = absurd (omega (arith, h))
set_trees (x ∷ xs) zero y h = trees-first y xs ∙ sym (ap (λ z. join z (Then (tree_at y) (trees_of xs))) trees-none)
set_trees (x ∷ xs) (suc i) y h =
    let k : i < length xs = omega (arith, h) in
    let j : suc i + 1 ≡ suc (i + 1) = omega arith in
    trees-first x (slice_set xs i y) ∙ ap (Then (tree_at x)) (set_trees xs i y k)
    ∙ sym (ap (λ m. join (trees_of (x ∷ take i xs)) (Then (tree_at y) (trees_of (drop m (x ∷ xs))))) j ∙
    ap (λ z. join z (Then (tree_at y) (trees_of (drop (i + 1) xs)))) (trees-first x (take i xs)))

-- and the next one taken out
pub set_remove : (xs : List Item) (i : ℕ) (y : Item) → i + 1 < length xs →
    trees_of (remove (slice_set xs i y) (i + 1)) ≡ join (trees_of (take i xs)) (Then (tree_at y) (but_first (trees_of (drop (i + 1) xs))))
set_remove [] i y h = absurd (omega (arith, h))
set_remove (x ∷ []) zero y h = absurd (omega (arith, h))
set_remove (x ∷ z ∷ xs) zero y h = trees-first y xs ∙ sym (ap (λ w. join w (Then (tree_at y) (but_first (trees_of (z ∷ xs))))) trees-none ∙
    ap (λ w. Then (tree_at y) (but_first w)) (trees-first z xs))
set_remove (x ∷ xs) (suc i) y h =
    let k : i + 1 < length xs = omega (arith, h) in
    let j : suc i + 1 ≡ suc (i + 1) = omega arith in
    ap (λ m. trees_of (remove (x ∷ slice_set xs i y) m)) j
    ∙ trees-first x (remove (slice_set xs i y) (i + 1)) ∙ ap (Then (tree_at x)) (set_remove xs i y k)
    ∙ sym (ap (λ m. join (trees_of (x ∷ take i xs)) (Then (tree_at y) (but_first (trees_of (drop m (x ∷ xs)))))) j ∙
    ap (λ z. join z (Then (tree_at y) (but_first (trees_of (drop (i + 1) xs))))) (trees-first x (take i xs)))

module _ (xs : List Item) (i : ℕ) (x : Item) (h : i < length xs) (e : x ≡ get_or xs i x) where
  -- a change by `break`
  pub breaks_next : (g : ℕ) (y : Item) → tree_at y ≡ broken g (tree_at x) → i + 1 < length xs →
      trees_of (remove (slice_set xs i y) (i + 1)) ≡ join (trees_of (take i xs)) (broken_first g (trees_of (drop i xs)))
  breaks_next g y k l =
      let rest = trees_of (drop (i + 1) xs) in
      set_remove xs i y l ∙ ap (λ z. join (trees_of (take i xs)) (Then z (but_first rest))) k ∙
      sym (ap (λ z. join (trees_of (take i xs)) (broken_first g z)) (trees-at xs i x h e))

  pub breaks_last : (g : ℕ) (y : Item) → tree_at y ≡ broken g (tree_at x) → length xs ≤ i + 1 →
      trees_of (slice_set xs i y) ≡ join (trees_of (take i xs)) (broken_first g (trees_of (drop i xs)))
  breaks_last g y k l =
      let rest = trees_of (drop (i + 1) xs) in
      let n = trees-end xs (i + 1) l in
      set_trees xs i y h ∙ ap₂ (λ z w. join (trees_of (take i xs)) (Then z w)) k (n ∙ sym (ap but_first n)) ∙
      sym (ap (λ z. join (trees_of (take i xs)) (broken_first g z)) (trees-at xs i x h e))

  -- a change by `continue`
  pub continues_at : (g : ℕ) (y : Item) → tree_at y ≡ continued g (tree_at x) →
      trees_of (slice_set xs i y) ≡ join (trees_of (take i xs)) (continued_first g (trees_of (drop i xs)))
  continues_at g y k =
      let rest = trees_of (drop (i + 1) xs) in
      set_trees xs i y h ∙ ap (λ z. join (trees_of (take i xs)) (Then z rest)) k ∙
      sym (ap (λ z. join (trees_of (take i xs)) (continued_first g z)) (trees-at xs i x h e))

  -- a change in the item
  pub item_changed : (f : FunctionTree) (n : ℕ) (y : Item) (s : Option ℕ) → next_here f n (trees_of (drop i xs)) ≡ None →
      changed_to s (tree_at y) ≡ next_item f n (tree_at x)
      → changed_to s (trees_of (slice_set xs i y)) ≡ put (join (trees_of (take i xs))) (next_at f n (trees_of (drop i xs)))
  item_changed f n y s o k =
      let rest = trees_of (drop (i + 1) xs) in
      let t = trees-at xs i x h e in
      ap (changed_to s) (set_trees xs i y h)
      ∙ sym (put_changed (λ z. join (trees_of (take i xs)) (Then z rest)) s (tree_at y))
      ∙ ap (put (λ z. join (trees_of (take i xs)) (Then z rest))) k
      ∙ sym (put_put (join (trees_of (take i xs))) (λ z. Then z rest) (λ z. join (trees_of (take i xs)) (Then z rest)) (λ z. refl) (next_item f n (tree_at x)))
      ∙ sym (ap (put (join (trees_of (take i xs)))) (ap (next_at f n) t ∙
      ap (λ z. or_else z (put (λ y. Then y rest) (next_item f n (tree_at x)))) (ap (next_here f n) (sym t) ∙ o)))

-- ---- sections

pub before_with : (s t : Real.Section) (d : Sections) → t ≡ Paths.with_list (list_of t) s → before t d ≡ with_list (trees_of (list_of t)) s d
before_with s t d e =
    let o = Real.out-Section s in
    ap (λ c. before c d) e
    ∙ ap (λ o. Section (expression_trees o.cases) o.default (trees_of o.list) o.ends d)
    (Real.out-roll-Section (record { cases = o.cases; default = o.default; list = list_of t; ends = o.ends }))

set_sections : (cs : List Real.Section) (i : ℕ) (t : Real.Section) → i < length cs →
    sections_of (slice_set cs i t) ≡ behind_sections (sections_of (take i cs)) (before t (sections_of (drop (i + 1) cs)))
set_sections [] i t h = absurd (omega (arith, h))
set_sections (c ∷ cs) zero t h = section-first t cs ∙ sym (ap (λ z. behind_sections z (before t (sections_of cs))) sections-none)
set_sections (c ∷ cs) (suc i) t h =
    let k : i < length cs = omega (arith, h) in
    let j : suc i + 1 ≡ suc (i + 1) = omega arith in
    section-first c (slice_set cs i t) ∙ ap (before c) (set_sections cs i t k)
    ∙ sym (ap (λ m. behind_sections (sections_of (c ∷ take i cs)) (before t (sections_of (drop m (c ∷ cs))))) j ∙
    ap (λ z. behind_sections z (before t (sections_of (drop (i + 1) cs)))) (section-first c (take i cs)))

pub section_changed : (f : FunctionTree) (n : ℕ) (cs : List Real.Section) (i : ℕ) (x t : Real.Section) (s : Option ℕ) → i < length cs
    → t ≡ Paths.with_list (list_of t) x → changed_to s (trees_of (list_of t)) ≡ next_list f n (trees_of (list_of x))
    → changed_to s (sections_of (slice_set cs i t)) ≡ put (behind_sections (sections_of (take i cs)))
    (put (λ b. with_list b x (sections_of (drop (i + 1) cs))) (next_list f n (trees_of (list_of x))))
section_changed f n cs i x t s h w k =
    let F = behind_sections (sections_of (take i cs)) in
    let rest = sections_of (drop (i + 1) cs) in
    ap (changed_to s) (set_sections cs i t h ∙ ap F (before_with x t rest w))
    ∙ sym (put_changed (λ b. F (with_list b x rest)) s (trees_of (list_of t)))
    ∙ ap (put (λ b. F (with_list b x rest))) k
    ∙ sym (put_put F (λ b. with_list b x rest) (λ b. F (with_list b x rest)) (λ b. refl) (next_list f n (trees_of (list_of x))))

-- ---- one item of a list

pub entry_is : {A : Type 0} (xs : List A) (i : ℕ) (x : A) → slice_get xs i ≡ Some x → x ≡ get_or xs i x
entry_is [] i x e = cc
entry_is (y ∷ ys) zero x e = cc
entry_is (y ∷ ys) (suc i) x e = entry_is ys i x e

pub here_found : (xs : List Item) (i : ℕ) (x : Item) (f : FunctionTree) (n : ℕ) (r : Option (ℕ × Forest)) → i < length xs → x ≡ get_or xs i x
    → r ≡ put (join (trees_of (take i xs))) (next_here f n (trees_of (drop i xs))) → (r ≡ None → ⊥) →
    r ≡ put (join (trees_of (take i xs))) (next_at f n (trees_of (drop i xs)))
here_found xs i x f n r h e k o =
    let F = join (trees_of (take i xs)) in
    let rest = trees_of (drop (i + 1) xs) in
    let t = trees-at xs i x h e in
    sym (ap (put F) (ap (next_at f n) t ∙ ap (λ z. or_else (next_here f n z) (put (λ y. Then y rest) (next_item f n (tree_at x)))) (sym t))
    ∙ something F r (next_here f n (trees_of (drop i xs))) (put (λ y. Then y rest) (next_item f n (tree_at x))) k o)

pub no_here : (xs : List Item) (i : ℕ) (f : FunctionTree) (n : ℕ) (s : Option ℕ) (a : Forest) →
    changed_to s a ≡ put (join (trees_of (take i xs))) (next_here f n (trees_of (drop i xs))) → is_some s ≡ false → next_here f n (trees_of (drop i xs)) ≡ None
no_here xs i f n s a k h = nothing (join (trees_of (take i xs))) (changed_to s a) (next_here f n (trees_of (drop i xs))) k (no_slot s a h)

-- ---- the forms of an item

-- a change of one of two lists, in an item that has both
pub either_in : (F : Forest → Forest → Tree) (o p : Option (ℕ × Forest)) (a b : Forest)
    → put (λ (c : Forest × Forest). F c.0 c.1) (or_else (put (λ c. (c, b)) o) (put (λ c. (a, c)) p)) ≡ or_else (put (λ c. F c b) o) (put (F a) p)
either_in F None None a b = refl
either_in F None (Some d) a b = refl
either_in F (Some c) p a b = refl

-- ---- two lists

pub first_changed : (f : FunctionTree) (n : ℕ) (a b v : Forest) (s : Option ℕ) → changed_to s v ≡ next_list f n a → is_some s ≡ true →
    changed_to s (v, b) ≡ next_either f n a b
first_changed f n a b v None k h = cc
first_changed f n a b v (Some g) k h = ap (λ o. or_else (put (λ c. (c, b)) o) (put (λ c. (a, c)) (next_list f n b))) k

module _ (f : FunctionTree) (n : ℕ) (x : Item) (s : Option ℕ) where
  abbrev pub Changes : Item → Type 0
  Changes y = changed_to s (tree_at y) ≡ next_item f n (tree_at x)

  pub if_changed : (t : Test) (a b v w : List Item) → x ≡ If t a b → changed_to s (trees_of v, trees_of w) ≡ next_either f n (trees_of a)
      (trees_of b) → Changes (If t v w)
  if_changed t a b v w e k =
      ap (changed_to s) (at-If t v w)
      ∙ sym (put_changed (λ (c : Forest × Forest). P.If (test_tree t) c.0 c.1) s (trees_of v, trees_of w))
      ∙ ap (put (λ (c : Forest × Forest). P.If (test_tree t) c.0 c.1)) k
      ∙ either_in (λ c d. P.If (test_tree t) c d) (next_list f n (trees_of a)) (next_list f n (trees_of b)) (trees_of a) (trees_of b)
      ∙ sym (ap (next_item f n) (ap tree_at e ∙ at-If t a b) ∙ in_if f n (test_tree t) (trees_of a) (trees_of b))

  pub while_changed : (t : Test) (a v : List Item) → x ≡ While t a → changed_to s (trees_of v) ≡ next_list f n (trees_of a) → Changes (While t v)
  while_changed t a v e k =
      ap (changed_to s) (at-While t v) ∙ sym (put_changed (P.While (test_tree t)) s (trees_of v)) ∙ ap (put (P.While (test_tree t))) k
      ∙ sym (ap (next_item f n) (ap tree_at e ∙ at-While t a) ∙ in_while f n (test_tree t) (trees_of a))

  pub do_changed : (t : Test) (a v : List Item) → x ≡ Do a t → changed_to s (trees_of v) ≡ next_list f n (trees_of a) → Changes (Do v t)
  do_changed t a v e k =
      ap (changed_to s) (at-Do v t) ∙ sym (put_changed (λ c. P.Do c (test_tree t)) s (trees_of v)) ∙ ap (put (λ c. P.Do c (test_tree t))) k
      ∙ sym (ap (next_item f n) (ap tree_at e ∙ at-Do a t) ∙ in_do f n (trees_of a) (test_tree t))

  pub for_changed : (t u : Option Expression) (a b v w : List Item) → x ≡ For a t u b →
      changed_to s (trees_of v, trees_of w) ≡ next_either f n (trees_of a) (trees_of b) → Changes (For v t u w)
  for_changed t u a b v w e k =
      let c = option_map expression_tree t in
      let d = option_map expression_tree u in
      ap (changed_to s) (at-For v t u w)
      ∙ sym (put_changed (λ (y : Forest × Forest). P.For y.0 c d y.1) s (trees_of v, trees_of w))
      ∙ ap (put (λ (y : Forest × Forest). P.For y.0 c d y.1)) k
      ∙ either_in (λ y z. P.For y c d z) (next_list f n (trees_of a)) (next_list f n (trees_of b)) (trees_of a) (trees_of b)
      ∙ sym (ap (next_item f n) (ap tree_at e ∙ at-For a t u b) ∙ in_for f n (trees_of a) c d (trees_of b))

  pub switch_changed : (t : Selector) (a v : List Real.Section) → x ≡ Switch t a → changed_to s (sections_of v) ≡ next_sections f n (sections_of a) →
      Changes (Switch t v)
  switch_changed t a v e k =
      ap (changed_to s) (at-Switch t v) ∙ sym (put_changed (P.Switch (selector_tree t)) s (sections_of v)) ∙ ap (put (P.Switch (selector_tree t))) k
      ∙ sym (ap (next_item f n) (ap tree_at e ∙ at-Switch t a) ∙ in_switch f n (selector_tree t) (sections_of a))

  pub block_changed : (a v : List Item) → x ≡ Block a → changed_to s (trees_of v) ≡ next_list f n (trees_of a) → Changes (Block v)
  block_changed a v e k =
      ap (changed_to s) (at-Block v) ∙ sym (put_changed P.Block s (trees_of v)) ∙ ap (put P.Block) k
      ∙ sym (ap (next_item f n) (ap tree_at e ∙ at-Block a) ∙ in_block f n (trees_of a))

leaf_layer : (f : FunctionTree) (n : ℕ) (x : Item) (y : Item-F Item Real.Section) → x ≡ roll-Item y
    → ((t : Test) (a b : List Item) → x ≡ If t a b → ⊥) → ((t : Test) (a : List Item) → x ≡ While t a → ⊥) → ((a : List Item) (t : Test) → x ≡ Do a t → ⊥)
    → ((a : List Item) (t u : Option Expression) (b : List Item) → x ≡ For a t u b → ⊥) → ((s : Selector) (c : List Real.Section) → x ≡ Switch s c → ⊥)
    → ((a : List Item) → x ≡ Block a → ⊥) → None ≡ next_item f n (layer_at y)
leaf_layer f n x (O.If t a b) e p q r s u v = absurd (p t a b (e ∙ rolls-If t a b))
leaf_layer f n x (O.While t a) e p q r s u v = absurd (q t a (e ∙ rolls-While t a))
leaf_layer f n x (O.Do a t) e p q r s u v = absurd (r a t (e ∙ rolls-Do a t))
leaf_layer f n x (O.For a t g b) e p q r s u v = absurd (s a t g b (e ∙ rolls-For a t g b))
leaf_layer f n x (O.Switch k c) e p q r s u v = absurd (u k c (e ∙ rolls-Switch k c))
leaf_layer f n x (O.Block a) e p q r s u v = absurd (v a (e ∙ rolls-Block a))
leaf_layer f n x _ e p q r s u v = refl

-- nothing stands in any other item
pub leaf_stays : (f : FunctionTree) (n : ℕ) (x y : Item) → x ≡ y
    → ((t : Test) (a b : List Item) → y ≡ If t a b → ⊥) → ((t : Test) (a : List Item) → y ≡ While t a → ⊥) → ((a : List Item) (t : Test) → y ≡ Do a t → ⊥)
    → ((a : List Item) (t u : Option Expression) (b : List Item) → y ≡ For a t u b → ⊥) → ((s : Selector) (c : List Real.Section) → y ≡ Switch s c → ⊥)
    → ((a : List Item) → y ≡ Block a → ⊥) → None ≡ next_item f n (tree_at x)
leaf_stays f n x y e p q r s u v = leaf_layer f n y (out-Item y) (sym (roll-out-Item y)) p q r s u v ∙ ap (λ z. next_item f n (tree_at z)) (sym e)
