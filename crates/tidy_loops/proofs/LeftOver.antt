-- What is left of the mentions of a slot behind the parts of a list, from its end on.
use Rattle.std.proofs.Common.{ℕ, zero, suc, ◌+◌, ◌-◌, ◌≤◌, ◌<◌, Bool, true, false, not, cond, ◌&&◌, eqb, eqb-true, List, [], ◌∷◌, length, drop, get_or, Option, Some, None, ◌≡◌, refl, sym, ap, subst, ◌∙◌, arith}
use Rattle.c_tree.specs.declared.tree.Item.{Item}
use Rattle.c_tree.specs.declared.tree.Section.{Section as RealSection}
use Rattle.c_tree.specs.Paths.{list_of}
use Rattle.c_tree.specs.TestTrees.{TestTree}
use Rattle.c_tree.specs.Trees.{Tree, Forest, Nil, Then, If, trees_of, sections_of}
use Rattle.c_tree.specs.Views.{tree_at}
use Rattle.c_tree.proofs.Views.{trees-first, trees-at, trees-end, sections-at, sections-end}
use Rattle.tidy_laws.specs.Tails.{is_end}
use Rattle.tidy_laws.specs.Changes.{checks}
use Rattle.tidy_slots.specs.Counts.{one_if, list_count, item_count, sections_count}
use Rattle.tidy_loops.specs.Exits.{checks_in, checks_within}
use Rattle.tidy_loops.specs.Remaining.{exits_within, item_exits, IsLeft}
use Rattle.tidy_loops.proofs.Unnamed.{within_most, item_most}
use Rattle.tidy_loops.proofs.ExitCounts.{checks_in_most, checks_within_most}

-- ---- what is named, and what is not

pub some_named : (n : ℕ) (b l : Bool) → b ≡ not l → l ≡ eqb n 0 → b ≡ true → 0 < n
some_named n true true e h k = cc
some_named zero true false e h k = cc
some_named (suc n) true false e h k = omega arith
some_named n false l e h k = cc

pub none_named : (n : ℕ) (b l : Bool) → b ≡ not l → l ≡ eqb n 0 → b ≡ false → n ≡ 0
none_named n false true e h k = eqb-true n 0 (sym h)
none_named n false false e h k = cc
none_named n true l e h k = cc

pub one_when : (t s : Bool) → cond t (one_if s) 0 ≡ one_if (t && s)
one_when true s = refl
one_when false s = refl

pub left_none : (left e n : ℕ) → e ≡ 0 → n ≡ 0 → (e ≡ n) × (left + n ≡ left)
left_none left e n h k = (omega (arith, h, k), omega (arith, k))

pub left_one : (left less e n : ℕ) → e ≡ 1 → n ≡ 1 → n ≤ left → less ≡ left - 1 → (e ≡ n) × (less + n ≡ left)
left_one left less e n h k l m = (omega (arith, h, k), omega (arith, k, l, m))

-- ---- one part behind another

-- the part behind is read, and then the one in front
pub left_both : (left rest e f m n : ℕ) (r : Option ℕ) → (e ≡ m) × (rest + m ≡ left) → IsLeft rest f n r → IsLeft left (f + e) (n + m) r
left_both left rest e f m n None (p, q) h = omega (arith, p, h)
left_both left rest e f m n (Some z) (p, q) (h, k) = (omega (arith, p, h), omega (arith, q, k))

-- a part with other numbers
pub left_same : (left e f m n : ℕ) (r : Option ℕ) → f ≡ e → n ≡ m → IsLeft left e m r → IsLeft left f n r
left_same left e f m n None p q h = omega (arith, p, q, h)
left_same left e f m n (Some z) p q (h, k) = (omega (arith, p, q, h), omega (arith, q, k))

-- ---- a list from a place on

module _ (tail : Bool) (g : ℕ) where
  within_first : (x : Tree) (xs : Forest) → exits_within tail g (Then x xs) ≡ item_exits (tail && is_end g xs) g x + exits_within tail g xs
  within_first x xs = by tail
    where
      by : (t : Bool) → exits_within t g (Then x xs) ≡ item_exits (t && is_end g xs) g x + exits_within t g xs
      by true = refl
      by false = refl

  -- from one place of a list on there is no more than from the place before
  items_step : (xs : List Item) (i : ℕ) → let a = trees_of (drop i xs) in let b = trees_of (drop (suc i) xs) in
      (exits_within tail g b ≤ exits_within tail g a) × ((list_count g b ≤ list_count g a)
      × (exits_within tail g a + list_count g b ≤ list_count g a + exits_within tail g b))
  items_step [] zero = (omega arith, (omega arith, omega arith))
  items_step [] (suc i) = (omega arith, (omega arith, omega arith))
  items_step (x ∷ xs) zero =
      let e = ap (exits_within tail g) (trees-first x xs) ∙ within_first (tree_at x) (trees_of xs) in
      let n = ap (list_count g) (trees-first x xs) in
      let m = item_most (tail && is_end g (trees_of xs)) g (tree_at x) in
      (omega (arith, e), (omega (arith, n), omega (arith, e, n, m)))
  items_step (x ∷ xs) (suc i) = items_step xs i

sections_step : (g : ℕ) (xs : List RealSection) (i : ℕ) → let a = sections_of (drop i xs) in let b = sections_of (drop (suc i) xs) in
    (checks_within g b ≤ checks_within g a) × ((sections_count g b ≤ sections_count g a)
    × (checks_within g a + sections_count g b ≤ sections_count g a + checks_within g b))
sections_step g [] zero = (omega arith, (omega arith, omega arith))
sections_step g [] (suc i) = (omega arith, (omega arith, omega arith))
sections_step g (x ∷ xs) zero =
    let l : 0 < length (x ∷ xs) = omega arith in
    let e = ap (checks_within g) (sections-at (x ∷ xs) 0 x l refl) in
    let n = ap (sections_count g) (sections-at (x ∷ xs) 0 x l refl) in
    let m = checks_in_most g (trees_of (list_of x)) in
    (omega (arith, e), (omega (arith, n), omega (arith, e, n, m)))
sections_step g (x ∷ xs) (suc i) = sections_step g xs i

-- ---- from the end of a list to its front, by what stands from each place on

module _ (e n : ℕ → ℕ)
    (step : (i : ℕ) → (e (suc i) ≤ e i) × ((n (suc i) ≤ n i) × (e i + n (suc i) ≤ n i + e (suc i)))) where
  short_before : (i : ℕ) → e i < n i → e 0 < n 0
  short_before zero h = h
  short_before (suc i) h = let s = (step i).1.1 in short_before i (omega (arith, s, h))

  less_behind : (i : ℕ) → (e i ≤ e 0) × (n i ≤ n 0)
  less_behind zero = (omega arith, omega arith)
  less_behind (suc i) =
      let s = (step i).0 in
      let t = (step i).1.0 in
      let r = (less_behind i).0 in
      let u = (less_behind i).1 in
      (omega (arith, s, r), omega (arith, t, u))

  -- nothing is left for what stands in front
  all_read : (left i : ℕ) → e 0 ≤ n 0 → n 0 ≤ left → IsLeft left (e i) (n i) (Some 0) → IsLeft left (e 0) (n 0) (Some 0)
  all_read left i most within (h, k) =
      let r = (less_behind i).0 in
      let u = (less_behind i).1 in
      (omega (arith, most, within, h, k, r, u), omega (arith, within, k, u))

-- a list of items
pub items_none : (tail : Bool) (g left at : ℕ) (xs : List Item) → at ≡ length xs →
    IsLeft left (exits_within tail g (trees_of (drop at xs))) (list_count g (trees_of (drop at xs))) (Some left)
items_none tail g left at xs e =
    let k : length xs ≤ at = omega (arith, e) in
    left_none left _ _ (ap (exits_within tail g) (trees-end xs at k) ∙ nothing tail) (ap (list_count g) (trees-end xs at k))
  where
    nothing : (t : Bool) → exits_within t g Nil ≡ 0
    nothing true = refl
    nothing false = refl

pub items_next : (tail : Bool) (g left now at place : ℕ) (xs : List Item) (x : Item) (last : Bool) (r : Option ℕ) → place ≡ at - 1 → 0 < at → at ≤ length xs →
    x ≡ get_or xs place x → last ≡ (tail && is_end g (trees_of (drop (place + 1) xs))) →
    IsLeft now (item_exits last g (tree_at x)) (item_count g (tree_at x)) r →
    IsLeft left (exits_within tail g (trees_of (drop at xs))) (list_count g (trees_of (drop at xs))) (Some now) →
    IsLeft left (exits_within tail g (trees_of (drop place xs))) (list_count g (trees_of (drop place xs))) r
items_next tail g left now at place xs x last r p f l e o h i =
    let q : place + 1 ≡ at = omega (arith, p, f) in
    let k : place < length xs = omega (arith, p, f, l) in
    let t = trees-at xs place x k e in
    let i' = subst (λ z. IsLeft left (exits_within tail g (trees_of (drop z xs))) (list_count g (trees_of (drop z xs))) (Some now)) (sym q) i in
    left_same left _ _ _ _ r
    (ap (exits_within tail g) t ∙ within_first tail g (tree_at x) (trees_of (drop (place + 1) xs)) ∙
    ap (λ b. item_exits b g (tree_at x) + exits_within tail g (trees_of (drop (place + 1) xs))) (sym o))
    (ap (list_count g) t) (left_both left now _ _ _ _ r i' h)

pub items_short : (tail : Bool) (g at : ℕ) (xs : List Item) →
    exits_within tail g (trees_of (drop at xs)) < list_count g (trees_of (drop at xs)) → exits_within tail g (trees_of xs) < list_count g (trees_of xs)
items_short tail g at xs h =
    short_before (λ i. exits_within tail g (trees_of (drop i xs))) (λ i. list_count g (trees_of (drop i xs))) (items_step tail g xs) at h

pub items_read : (tail : Bool) (g left at : ℕ) (xs : List Item) → list_count g (trees_of xs) ≤ left →
    IsLeft left (exits_within tail g (trees_of (drop at xs))) (list_count g (trees_of (drop at xs))) (Some 0) →
    IsLeft left (exits_within tail g (trees_of xs)) (list_count g (trees_of xs)) (Some 0)
items_read tail g left at xs w h =
    all_read (λ i. exits_within tail g (trees_of (drop i xs))) (λ i. list_count g (trees_of (drop i xs))) (items_step tail g xs) left at
    (within_most tail g (trees_of xs)) w h

-- sections
pub sections_none : (g left at : ℕ) (xs : List RealSection) → at ≡ length xs →
    IsLeft left (checks_within g (sections_of (drop at xs))) (sections_count g (sections_of (drop at xs))) (Some left)
sections_none g left at xs e =
    let k : length xs ≤ at = omega (arith, e) in
    left_none left _ _ (ap (checks_within g) (sections-end xs at k)) (ap (sections_count g) (sections-end xs at k))

pub sections_next : (g left now at place : ℕ) (xs : List RealSection) (x : RealSection) (r : Option ℕ) → place ≡ at - 1 → 0 < at → at ≤ length xs →
    x ≡ get_or xs place x → IsLeft now (checks_in g (trees_of (list_of x))) (list_count g (trees_of (list_of x))) r →
    IsLeft left (checks_within g (sections_of (drop at xs))) (sections_count g (sections_of (drop at xs))) (Some now) →
    IsLeft left (checks_within g (sections_of (drop place xs))) (sections_count g (sections_of (drop place xs))) r
sections_next g left now at place xs x r p f l e h i =
    let q : place + 1 ≡ at = omega (arith, p, f) in
    let k : place < length xs = omega (arith, p, f, l) in
    let t = sections-at xs place x k e in
    let i' = subst (λ z. IsLeft left (checks_within g (sections_of (drop z xs))) (sections_count g (sections_of (drop z xs))) (Some now)) (sym q) i in
    left_same left _ _ _ _ r (ap (checks_within g) t) (ap (sections_count g) t) (left_both left now _ _ _ _ r i' h)

pub sections_short : (g at : ℕ) (xs : List RealSection) → checks_within g (sections_of (drop at xs)) < sections_count g (sections_of (drop at xs)) →
    checks_within g (sections_of xs) < sections_count g (sections_of xs)
sections_short g at xs h =
    short_before (λ i. checks_within g (sections_of (drop i xs))) (λ i. sections_count g (sections_of (drop i xs))) (sections_step g xs) at h

pub sections_read : (g left at : ℕ) (xs : List RealSection) → sections_count g (sections_of xs) ≤ left →
    IsLeft left (checks_within g (sections_of (drop at xs))) (sections_count g (sections_of (drop at xs))) (Some 0) →
    IsLeft left (checks_within g (sections_of xs)) (sections_count g (sections_of xs)) (Some 0)
sections_read g left at xs w h =
    all_read (λ i. checks_within g (sections_of (drop i xs))) (λ i. sections_count g (sections_of (drop i xs))) (sections_step g xs) left at
    (checks_within_most g (sections_of xs)) w h

-- what is left is enough for the item at the place in front, and for a section
pub item_left : (tail : Bool) (g left now at : ℕ) (xs : List Item) (x : Item) → 0 < at → at ≤ length xs → x ≡ get_or xs (at - 1) x →
    list_count g (trees_of xs) ≤ left → IsLeft left (exits_within tail g (trees_of (drop at xs))) (list_count g (trees_of (drop at xs))) (Some now) →
    item_count g (tree_at x) ≤ now
item_left tail g left now at xs x f l e w (h, k) =
    let q : at - 1 + 1 ≡ at = omega (arith, f) in
    let p : at - 1 < length xs = omega (arith, f, l) in
    let t = ap (list_count g) (trees-at xs (at - 1) x p e) in
    let u = ap (λ z. list_count g (trees_of (drop z xs))) q in
    let r = (less_behind (λ i. exits_within tail g (trees_of (drop i xs))) (λ i. list_count g (trees_of (drop i xs))) (items_step tail g xs) (at - 1)).1 in
    omega (arith, w, k, t, u, r)

pub section_left : (g left now at : ℕ) (xs : List RealSection) (x : RealSection) → 0 < at → at ≤ length xs → x ≡ get_or xs (at - 1) x →
    sections_count g (sections_of xs) ≤ left →
    IsLeft left (checks_within g (sections_of (drop at xs))) (sections_count g (sections_of (drop at xs))) (Some now) →
    list_count g (trees_of (list_of x)) ≤ now
section_left g left now at xs x f l e w (h, k) =
    let q : at - 1 + 1 ≡ at = omega (arith, f) in
    let p : at - 1 < length xs = omega (arith, f, l) in
    let t = ap (sections_count g) (sections-at xs (at - 1) x p e) in
    let u = ap (λ z. sections_count g (sections_of (drop z xs))) q in
    let r = (less_behind (λ i. checks_within g (sections_of (drop i xs))) (λ i. sections_count g (sections_of (drop i xs))) (sections_step g xs) (at - 1)).1 in
    omega (arith, w, k, t, u, r)

-- ---- the parts of an item

-- at a tail or not, an item holds the exits of its lists
pub in_loop : (tail : Bool) (n : ℕ) → cond tail n n ≡ n
in_loop true n = refl
in_loop false n = refl

pub in_if : (tail : Bool) (g : ℕ) (t : TestTree) (a b : Forest) →
    item_exits tail g (If t a b) ≡ one_if (checks g t b) + (exits_within tail g a + exits_within tail g b)
in_if true g t a b = refl
in_if false g t a b = refl
