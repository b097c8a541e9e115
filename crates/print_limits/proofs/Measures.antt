-- Measures of lists and sections, item by item.
use Rattle.std.proofs.Common.{◌≡◌, ℕ, zero, suc, ◌+◌, ◌≤◌, ◌<◌, max, List, [], ◌∷◌, length, get_or, take, drop, All, IsTrue, true, false, true≢false, refl, sym, ap, subst, ◌∙◌, arith}
use Rattle.std.proofs.lemmas.List.{drop_all}
use Rattle.c_tree.specs.declared.tree.Item.{Item}
use Rattle.c_tree.specs.declared.tree.Section as Real
use Rattle.c_tree.specs.TestTrees.{TestTree}
use Rattle.c_tree.specs.Trees.{Tree, Forest, Nil, Then, Sections, NoSection, If, trees_of, sections_of}
use Rattle.c_tree.proofs.TreeLaws.{trees-none, sections-none}
use Rattle.c_resolved_defs.specs.PrintableStatements.{depth, depth_of}
use Rattle.c_tree.specs.Views.{tree_at, before}
use Rattle.c_tree.proofs.Views.{view_laws}

pub depth_if : (t : TestTree) (a b : Forest) → depth_of (If t a b) ≡ max (depth a) (depth b) + 1
depth_if t a Nil = omega arith
depth_if t a (Then x xs) = refl

-- ---- one fact for another

abbrev pub Same : Type 0 → Type 0 → Type 0
Same P Q = (P → Q) × (Q → P)

max_le : (a b n : ℕ) → max a b ≤ n → (a ≤ n) × (b ≤ n)
max_le a b n h = (omega arith, omega arith)

le_max : (a b n : ℕ) → a ≤ n → b ≤ n → max a b ≤ n
le_max a b n h k = omega arith

-- the measure of a whole is that of what is left, where what was passed fits
passed : (whole here rest m n : ℕ) → here ≡ max m rest → m ≤ n → Same (whole ≤ n) (here ≤ n) → Same (whole ≤ n) (rest ≤ n)
passed whole here rest m n e h s = ((λ w. (max_le m rest n (subst (λ z. z ≤ n) e (s.0 w))).1), λ r. s.1 (subst (λ z. z ≤ n) (sym e) (le_max m rest n h r)))

-- where it doesn't fit, the whole doesn't
stopped : (whole here rest m n : ℕ) → here ≡ max m rest → (m ≤ n → ⊥) → Same (whole ≤ n) (here ≤ n) → whole ≤ n → ⊥
stopped whole here rest m n e h s w = h (max_le m rest n (subst (λ z. z ≤ n) e (s.0 w))).0

ended : (whole here n : ℕ) → here ≡ 0 → Same (whole ≤ n) (here ≤ n) → whole ≤ n
ended whole here n e s = s.1 (omega (arith, e))

-- ---- items

module _ (M : Forest → ℕ) (m : Tree → ℕ) (none : M Nil ≡ 0) (more : (x : Tree) (a : Forest) → M (Then x a) ≡ max (m x) (M a)) (n : ℕ) (xs : List Item)
    (i : ℕ) where
  here : (x : Item) → i < length xs → x ≡ get_or xs i x → M (trees_of (drop i xs)) ≡ max (m (tree_at x)) (M (trees_of (drop (i + 1) xs)))
  here x h e = ap M (view_laws.items xs i x h e) ∙ more (tree_at x) (trees_of (drop (i + 1) xs))

  pub item_passed : (x : Item) → i < length xs → x ≡ get_or xs i x → m (tree_at x) ≤ n → Same (M (trees_of xs) ≤ n) (M (trees_of (drop i xs)) ≤ n) →
      Same (M (trees_of xs) ≤ n) (M (trees_of (drop (i + 1) xs)) ≤ n)
  item_passed x h e f s = passed (M (trees_of xs)) (M (trees_of (drop i xs))) (M (trees_of (drop (i + 1) xs))) (m (tree_at x)) n (here x h e) f s

  pub item_stopped : (x : Item) → i < length xs → x ≡ get_or xs i x → (m (tree_at x) ≤ n → ⊥) →
      Same (M (trees_of xs) ≤ n) (M (trees_of (drop i xs)) ≤ n) → Same (IsTrue false) (M (trees_of xs) ≤ n)
  item_stopped x h e f s = (
    (λ t. absurd (true≢false (sym t))),
    λ w. absurd
        (stopped (M (trees_of xs)) (M (trees_of (drop i xs))) (M (trees_of (drop (i + 1) xs))) (m (tree_at x)) n (here x h e) f s w),
  )

  pub items_ended : length xs ≤ i → Same (M (trees_of xs) ≤ n) (M (trees_of (drop i xs)) ≤ n) → Same (IsTrue true) (M (trees_of xs) ≤ n)
  items_ended h s = (
    (λ t. ended (M (trees_of xs)) (M (trees_of (drop i xs))) n (ap (λ z. M (trees_of z)) (drop_all i xs h) ∙ ap M trees-none ∙ none)
        s),
    λ w. refl,
  )

-- ---- sections

module _ (M : Sections → ℕ) (m : Real.Section → ℕ) (none : M NoSection ≡ 0)
    (more : (c : Real.Section) (d : Sections) → M (before c d) ≡ max (m c) (M d)) (n : ℕ) (cs : List Real.Section) (i : ℕ) where
  there : (c : Real.Section) → i < length cs → c ≡ get_or cs i c → M (sections_of (drop i cs)) ≡ max (m c) (M (sections_of (drop (i + 1) cs)))
  there c h e = ap M (view_laws.sections cs i c h e) ∙ more c (sections_of (drop (i + 1) cs))

  pub section_passed : (c : Real.Section) → i < length cs → c ≡ get_or cs i c → m c ≤ n →
      Same (M (sections_of cs) ≤ n) (M (sections_of (drop i cs)) ≤ n) → Same (M (sections_of cs) ≤ n) (M (sections_of (drop (i + 1) cs)) ≤ n)
  section_passed c h e f s = passed (M (sections_of cs)) (M (sections_of (drop i cs))) (M (sections_of (drop (i + 1) cs))) (m c) n (there c h e) f s

  pub section_stopped : (c : Real.Section) → i < length cs → c ≡ get_or cs i c → (m c ≤ n → ⊥) →
      Same (M (sections_of cs) ≤ n) (M (sections_of (drop i cs)) ≤ n) → Same (IsTrue false) (M (sections_of cs) ≤ n)
  section_stopped c h e f s = (
    (λ t. absurd (true≢false (sym t))),
    λ w. absurd
        (stopped (M (sections_of cs)) (M (sections_of (drop i cs))) (M (sections_of (drop (i + 1) cs))) (m c) n (there c h e) f s w),
  )

  pub sections_ended : length cs ≤ i → Same (M (sections_of cs) ≤ n) (M (sections_of (drop i cs)) ≤ n) → Same (IsTrue true) (M (sections_of cs) ≤ n)
  sections_ended h s = (
    (λ t. ended (M (sections_of cs)) (M (sections_of (drop i cs))) n
        (ap (λ z. M (sections_of z)) (drop_all i cs h) ∙ ap M sections-none ∙ none) s),
    λ w. refl,
  )

-- ---- any list

dropped : {A : Type 0} (xs : List A) (i : ℕ) (x : A) → i < length xs → x ≡ get_or xs i x → drop i xs ≡ x ∷ drop (suc i) xs
dropped [] i x h e = absurd (omega arith)
dropped (y ∷ xs) zero x h e = ap (λ z. z ∷ xs) (sym e)
dropped (y ∷ xs) (suc i) x h e = let g : i < length xs = omega arith in dropped xs i x g e

pub taken : {A : Type 0} (xs : List A) (i : ℕ) → length xs ≤ i → take i xs ≡ xs
taken [] zero h = refl
taken [] (suc i) h = refl
taken (x ∷ xs) zero h = absurd (omega arith)
taken (x ∷ xs) (suc i) h = let g : length xs ≤ i = omega arith in ap (λ z. x ∷ z) (taken xs i g)

module _ {A : Type 0} (M : List A → ℕ) (m : A → ℕ) (none : M [] ≡ 0) (more : (x : A) (a : List A) → M (x ∷ a) ≡ max (m x) (M a)) (n : ℕ) (xs : List A)
    (i : ℕ) where
  at_it : (x : A) → i < length xs → x ≡ get_or xs i x → M (drop i xs) ≡ max (m x) (M (drop (i + 1) xs))
  at_it x h e = let k : suc i ≡ i + 1 = omega arith in ap M (dropped xs i x h e) ∙ more x (drop (suc i) xs) ∙ ap (λ j. max (m x) (M (drop j xs))) k

  pub one_passed : (x : A) → i < length xs → x ≡ get_or xs i x → m x ≤ n → Same (M xs ≤ n) (M (drop i xs) ≤ n) → Same (M xs ≤ n) (M (drop (i + 1) xs) ≤ n)
  one_passed x h e f s = passed (M xs) (M (drop i xs)) (M (drop (i + 1) xs)) (m x) n (at_it x h e) f s

  pub one_stopped : (x : A) → i < length xs → x ≡ get_or xs i x → (m x ≤ n → ⊥) → Same (M xs ≤ n) (M (drop i xs) ≤ n) → Same (IsTrue false) (M xs ≤ n)
  one_stopped x h e f s = ((λ t. absurd (true≢false (sym t))), λ w. absurd (stopped (M xs) (M (drop i xs)) (M (drop (i + 1) xs)) (m x) n (at_it x h e) f s w))

  pub all_ended : length xs ≤ i → Same (M xs ≤ n) (M (drop i xs) ≤ n) → Same (IsTrue true) (M xs ≤ n)
  all_ended h s = ((λ t. ended (M xs) (M (drop i xs)) n (ap M (drop_all i xs h) ∙ none) s), λ w. refl)

-- where one is not so, not all are
pub not_all : {A : Type 0} (P : A → Type 0) (xs : List A) (i : ℕ) (x : A) → i < length xs → x ≡ get_or xs i x → (P x → ⊥) → Same (IsTrue false) (All P xs)
not_all P xs i x h e n = ((λ t. absurd (true≢false (sym t))), λ a. absurd (n (subst P (sym e) (a i x h))))
