-- Lists within others, and the lists of a body whose slots are counted.
use Rattle.std.proofs.Common.{ℕ, zero, suc, ◌+◌, ◌≤◌, ◌<◌, ◌⊎◌, inl, inr, arith, Bool, true, false, cond, ◌&&◌, ◌||◌, eqb, eqb-true, List, [], ◌∷◌, length, drop, get_or, slice_get, Option, Some, None, ◌≡◌, refl, sym, ap, subst, ◌∙◌}
use Rattle.c_tree.specs.declared.tree.Item.{Item}
use Rattle.c_tree.specs.Trees.{Tree, Forest, Nil, Then, Sections, NoSection, Section, If, While, Do, For, Switch, Block, Local, trees_of, sections_of}
use Rattle.c_tree.specs.Views.{tree_at}
use Rattle.c_tree.specs.declared.tree.Section.{Section as RealSection}
use Rattle.c_tree.specs.Paths.{list_of}
use Rattle.c_tree.proofs.Views.{trees-first, sections-at}
use Rattle.jump_meaning.specs.Code.{FunctionTree, items_of, entry_or}
use Rattle.jump_meaning.specs.World.{no_slot}
use Rattle.tidy_laws.specs.Changes.{is_declaration, is_zero_value, declares, is_flag}
use Rattle.tidy_slots.specs.Counts.{one_if, values_count, list_count, item_count, sections_count}
use Rattle.tidy_loops.specs.Views.{is_it}
use Rattle.tidy_loops.specs.Slots.{Tells, count_in, counts_of, may_go, reset_slot, first_reset}
use Rattle.tidy_loops.specs.Remaining.{IsApart}
use Rattle.tidy_loops.proofs.Outside.{reset_one}
use Rattle.break_recovery.specs.Within.{IsWithin, AreSectionsWithin, AreWithin, AreApart}

-- ---- a list within another

pub is_less : (c m n : ℕ) → m ≤ n → (c ≡ 0) ⊎ (n < c) → (c ≡ 0) ⊎ (m < c)
is_less c m n h (inl z) = inl z
is_less c m n h (inr k) = inr (omega (arith, h, k))

pub within_less : (c : ℕ → ℕ) (a b : Forest) → ((g : ℕ) → list_count g b ≤ list_count g a) → IsWithin c a → IsWithin c b
within_less c a b h w g = is_less (c g) (list_count g b) (list_count g a) (h g) (w g)

pub is_some_slot : (g : ℕ) (s : Option ℕ) → is_it g s ≡ true → s ≡ Some g
is_some_slot g None e = cc
is_some_slot g (Some x) e = ap Some (eqb-true x g e)

reset_most : (g : ℕ) (xs : Forest) → one_if (is_it g (first_reset xs)) ≤ list_count g xs
reset_most g Nil = omega arith
reset_most g (Then x xs) = by (is_it g (reset_slot x)) refl
  where
    by : (b : Bool) → is_it g (reset_slot x) ≡ b → one_if b ≤ item_count g x + list_count g xs
    by true e = let o = reset_one g x (is_some_slot g (reset_slot x) e) in omega (arith, o)
    by false e = omega arith

pub within_first : (c : ℕ → ℕ) (x : Tree) (xs : Forest) → IsWithin c (Then x xs) → IsApart c x xs
within_first c x xs w g n = let m = reset_most g xs in is_less (c g) _ (list_count g (Then x xs)) (omega (arith, m)) (w g)

pub within_rest : (c : ℕ → ℕ) (x : Tree) (xs : Forest) → IsWithin c (Then x xs) → IsWithin c xs
within_rest c x xs w = within_less c (Then x xs) xs (λ g. omega arith) w

pub within_apart : (c : ℕ → ℕ) (a : Forest) → IsWithin c a → AreApart c a
within_apart c Nil w = tt
within_apart c (Then x xs) w = (within_first c x xs w, within_apart c xs (within_rest c x xs w))

-- ---- the lists of an item

of_sections : (c : ℕ → ℕ) (d : Sections) → ((g : ℕ) → (c g ≡ 0) ⊎ (sections_count g d < c g)) → AreSectionsWithin c d
of_sections c NoSection w = tt
of_sections c (Section cases default a ends d) w = (
  λ g. is_less (c g) (list_count g a) _ (omega arith) (w g),
  of_sections c d (λ g. is_less (c g) (sections_count g d) _ (omega arith) (w g)),
)

pub lists_within : (c : ℕ → ℕ) (x : Tree) (xs : Forest) → IsApart c x xs → AreWithin c x
lists_within c (If t a b) xs w = (
  λ g. is_less (c g) (list_count g a) _ (omega arith) (w g refl),
  λ g. is_less (c g) (list_count g b) _ (omega arith) (w g refl),
)
lists_within c (While t a) xs w = λ g. is_less (c g) (list_count g a) _ (omega arith) (w g refl)
lists_within c (Do a t) xs w = λ g. is_less (c g) (list_count g a) _ (omega arith) (w g refl)
lists_within c (For f t u a) xs w = (
  λ g. is_less (c g) (list_count g f) _ (omega arith) (w g refl),
  λ g. is_less (c g) (list_count g a) _ (omega arith) (w g refl),
)
lists_within c (Switch s d) xs w = of_sections c d (λ g. is_less (c g) (sections_count g d) _ (omega arith) (w g refl))
lists_within c (Block a) xs w = λ g. is_less (c g) (list_count g a) _ (omega arith) (w g refl)
lists_within c _ xs w = tt

-- ---- at a place

apart_at : (c : ℕ → ℕ) (xs : List Item) (i : ℕ) (x : Item) → i < length xs → x ≡ get_or xs i x → AreApart c (trees_of xs) →
    IsApart c (tree_at x) (trees_of (drop (suc i) xs))
apart_at c [] i x h e w = absurd (omega (arith, h))
apart_at c (z ∷ zs) zero x h e w =
    let v = subst (AreApart c) (trees-first z zs) w in
    subst (λ y. IsApart c (tree_at y) (trees_of zs)) (sym e) v.0
apart_at c (z ∷ zs) (suc i) x h e w =
    let v = subst (AreApart c) (trees-first z zs) w in
    apart_at c zs i x (omega (arith, h)) e v.1

pub apart_there : (c : ℕ → ℕ) (xs : List Item) (i : ℕ) (x : Item) → i < length xs → x ≡ get_or xs i x → AreApart c (trees_of xs) →
    IsApart c (tree_at x) (trees_of (drop (i + 1) xs))
apart_there c xs i x h e w =
    let j : suc i ≡ i + 1 = omega arith in
    subst (λ m. IsApart c (tree_at x) (trees_of (drop m xs))) j (apart_at c xs i x h e w)

pub in_apart : (c : ℕ → ℕ) (xs : List Item) (i : ℕ) (x : Item) → i < length xs → x ≡ get_or xs i x → AreApart c (trees_of xs) → AreWithin c (tree_at x)
in_apart c xs i x h e w = lists_within c (tree_at x) (trees_of (drop (i + 1) xs)) (apart_there c xs i x h e w)

pub in_list : (c : ℕ → ℕ) (xs : List Item) (i : ℕ) (x : Item) → i < length xs → x ≡ get_or xs i x → IsWithin c (trees_of xs) → AreWithin c (tree_at x)
in_list c xs i x h e w = in_apart c xs i x h e (within_apart c (trees_of xs) w)

-- the counts of a function
pub apart_told : (counts : List ℕ) (f : FunctionTree) (x : Tree) (xs : Forest) → Tells counts f → IsApart (count_in counts) x xs → IsApart (counts_of f) x xs
apart_told counts f x xs t w g o = subst (λ m. (m ≡ 0) ⊎ (item_count g x + one_if (is_it g (first_reset xs)) < m)) (t g) (w g o)

-- what stands behind an item counts by its first item alone
pub apart_before : (c : ℕ → ℕ) (x : Tree) (xs ys : Forest) → first_reset ys ≡ first_reset xs → IsApart c x xs → IsApart c x ys
apart_before c x xs ys e w g o = let m = ap (λ s. one_if (is_it g s)) e in is_less (c g) _ _ (omega (arith, m)) (w g o)

pub apart_last : (c : ℕ → ℕ) (x : Tree) (xs : Forest) → IsApart c x xs → IsApart c x Nil
apart_last c x xs w g o = is_less (c g) _ _ (omega arith) (w g o)

pub section_in : (c : ℕ → ℕ) (cs : List RealSection) (i : ℕ) (s : RealSection) → i < length cs → s ≡ get_or cs i s → AreSectionsWithin c (sections_of cs) →
    IsWithin c (trees_of (list_of s))
section_in c [] i s h e w = absurd (omega (arith, h))
section_in c (z ∷ zs) zero s h e w =
    let k : 0 < length (z ∷ zs) = omega arith in
    subst (λ y. IsWithin c (trees_of (list_of y))) (sym e) (subst (AreSectionsWithin c) (sections-at (z ∷ zs) 0 z k refl) w).0
section_in c (z ∷ zs) (suc i) s h e w =
    let k : 0 < length (z ∷ zs) = omega arith in
    section_in c zs i s (omega (arith, h)) e (subst (AreSectionsWithin c) (sections-at (z ∷ zs) 0 z k refl) w).1

pub first_of : (xs : List Item) (i : ℕ) (x : Item) → slice_get xs i ≡ Some x → first_reset (trees_of (x ∷ [])) ≡ first_reset (trees_of (drop i xs))
first_of [] i x e = cc
first_of (z ∷ zs) zero x e =
    let q : x ≡ z = cc in
    ap first_reset (trees-first x []) ∙ ap (λ y. reset_slot (tree_at y)) q ∙ sym (ap first_reset (trees-first z zs))
first_of (z ∷ zs) (suc i) x e = first_of zs i x e

-- ---- the outermost list, which declares each slot that counts

declared_one : (g : ℕ) (x : Tree) → is_declaration g x ≡ true → 1 ≤ item_count g x
declared_one g (Local x es) e = by (eqb x g) (is_zero_value es) e
  where
    by : (a b : Bool) → (a && b) ≡ true → 1 ≤ one_if a + values_count g es
    by true b h = omega arith
    by false b h = cc
declared_one g _ e = cc

declares_one : (g : ℕ) (a : Forest) → declares g a ≡ true → 1 ≤ list_count g a
declares_one g Nil e = cc
declares_one g (Then x xs) e = by (is_declaration g x) refl e (declares_one g xs)
  where
    by : (b : Bool) → is_declaration g x ≡ b → (b || declares g xs) ≡ true → (declares g xs ≡ true → 1 ≤ list_count g xs) →
        1 ≤ item_count g x + list_count g xs
    by true h k r = let o = declared_one g x h in omega (arith, o)
    by false h k r = let o = r k in omega (arith, o)

reset_declares_none : (g : ℕ) (x : Tree) → reset_slot x ≡ Some g → is_declaration g x ≡ false
reset_declares_none g (Local x es) e = cc
reset_declares_none g _ e = refl

-- a declaration in a list stands beside the `g = 0;` in front
both_there : (g : ℕ) (xs : Forest) → declares g xs ≡ true → one_if (is_it g (first_reset xs)) + 1 ≤ list_count g xs
both_there g Nil e = cc
both_there g (Then x xs) e = by (is_it g (reset_slot x)) refl
  where
    by : (b : Bool) → is_it g (reset_slot x) ≡ b → one_if b + 1 ≤ item_count g x + list_count g xs
    by true h =
        let s = is_some_slot g (reset_slot x) h in
        let o = reset_one g x s in
        let p = declares_one g xs (sym (ap (λ z. z || declares g xs) (reset_declares_none g x s)) ∙ e) in
        omega (arith, o, p)
    by false h = let p = declares_one g (Then x xs) e in omega (arith, p)

-- of the slots that count, which a list declares, behind another list
module _ (c : ℕ → ℕ) (a : Forest) (counted : (g : ℕ) → (c g ≡ 0) ⊎ ((declares g a ≡ true) × (c g ≡ list_count g a))) where
  apart_behind : (n : ℕ → ℕ) (d : ℕ → Bool) (b : Forest) → ((g : ℕ) → list_count g a ≡ n g + list_count g b) →
      ((g : ℕ) → declares g a ≡ (d g || declares g b)) → ((g : ℕ) → d g ≡ true → 1 ≤ n g) → AreApart c b
  apart_behind n d Nil s e k = tt
  apart_behind n d (Then x xs) s e k = (
    λ g o. by g o (d g) refl (counted g),
    apart_behind (λ g. n g + item_count g x) (λ g. d g || is_declaration g x) xs (λ g. let m = s g in omega (arith, m))
        (λ g. e g ∙ or_both (d g) (is_declaration g x) (declares g xs)) (λ g. either g (d g) refl (is_declaration g x) refl),
  )
    where
      or_both : (p q r : Bool) → (p || (q || r)) ≡ ((p || q) || r)
      or_both true q r = refl
      or_both false q r = refl

      either : (g : ℕ) (p : Bool) → d g ≡ p → (q : Bool) → is_declaration g x ≡ q → (p || q) ≡ true → 1 ≤ n g + item_count g x
      either g true h q i j = let m = k g h in omega (arith, m)
      either g false h true i j = let m = declared_one g x i in omega (arith, m)
      either g false h false i j = cc

      by : (g : ℕ) → is_declaration g x ≡ false → (p : Bool) → d g ≡ p → (c g ≡ 0) ⊎ ((declares g a ≡ true) × (c g ≡ list_count g a)) →
          (c g ≡ 0) ⊎ (item_count g x + one_if (is_it g (first_reset xs)) < c g)
      by g o p h (inl z) = inl z
      by g o true h (inr (t, m)) =
          let l = k g h in
          let r = reset_most g xs in
          let q = s g in
          inr (omega (arith, m, l, r, q))
      by g o false h (inr (t, m)) =
          let r = both_there g xs (sym (e g ∙ ap (λ z. z || (is_declaration g x || declares g xs)) h ∙ ap (λ z. z || declares g xs) o) ∙ t) in
          let q = s g in
          inr (omega (arith, m, r, q))

  pub all_apart : AreApart c a
  all_apart = apart_behind (λ g. 0) (λ g. false) a (λ g. omega arith) (λ g. refl) (λ g h. cc)

may_declare : (p q r : Bool) → (p && (q && r)) ≡ true → r ≡ true
may_declare true true r e = e
may_declare true false r e = cc
may_declare false q r e = cc

pub outermost_apart : (counts : List ℕ) (f : FunctionTree) → Tells counts f → AreApart (count_in counts) (items_of f)
outermost_apart counts f t = all_apart (count_in counts) (items_of f) (λ g. by g (may_go f g) refl)
  where
    by : (g : ℕ) (b : Bool) → may_go f g ≡ b → (count_in counts g ≡ 0) ⊎ ((declares g (items_of f) ≡ true) × (count_in counts g ≡ list_count g (items_of f)))
    by g true h = inr (may_declare _ (is_flag (entry_or no_slot f.slots g)) (declares g (items_of f)) h, t g ∙ ap (λ b. cond b (list_count g (items_of f)) 0) h)
    by g false h = inl (t g ∙ ap (λ b. cond b (list_count g (items_of f)) 0) h)
