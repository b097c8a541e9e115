-- What is made of the items of a list, and then of those among them that give way, is what the list becomes.
use Rattle.std.proofs.Common.{ℕ, zero, suc, ◌+◌, ◌<◌, ◌≤◌, Bool, true, false, cond, ◌||◌, List, [], ◌∷◌, ◌++◌, length, drop, get_or, slice_get, None, ◌≡◌, refl, sym, ap, ◌∙◌}
use Rattle.std.proofs.lemmas.List.{append-nil, append_assoc}
use Rattle.c_tree.specs.declared.tree.Item.{Item}
use Rattle.c_tree.specs.Trees.{Tree, Forest, Nil, Then, If, trees_of, join}
use Rattle.c_tree.specs.Views.{tree_at}
use Rattle.c_tree.specs.Changed.{one}
use Rattle.c_tree.proofs.TreeLaws.{trees-none, join-join, join-nil}
use Rattle.c_tree.proofs.Views.{trees-first, trees-at, trees-end, trees-push}
use Rattle.tidy_laws.specs.Tails.{is_check, is_end}
use Rattle.tidy_laws.specs.Changes.{given_way, inner, inner_item, tailed, tailed_item}
use Rattle.tidy_loops.specs.Exits.{then_list, inner_kept, tailed_kept, each_inner, each_tailed, has_check, checks_told, way_given, ways_given}
use Rattle.tidy_loops.specs.Rewritten.{list_rewritten, each_rewritten}
use Rattle.tidy_loops.proofs.Made.{inner_by, tailed_by}

-- ---- one item

then_inner : (g : ℕ) (x : Tree) → then_list (inner_kept g x) ≡ inner g (then_list x)
then_inner g (If t a b) = refl
then_inner g x = refl

then_tailed : (g : ℕ) (l x : Tree) → is_check g x ≡ true → then_list (tailed_kept g l x) ≡ tailed g l (then_list x)
then_tailed g l (If t a b) h = refl
then_tailed g l x h = cc

way_inner : (g : ℕ) (x : Tree) → way_given (is_check g x) (inner_kept g x) ≡ inner_item g x
way_inner g x = ap (λ a. cond (is_check g x) (given_way a) (one (inner_kept g x))) (then_inner g x) ∙ sym (inner_by g x)

way_tailed : (g : ℕ) (l x : Tree) → way_given (is_check g x) (tailed_kept g l x) ≡ tailed_item g l x
way_tailed g l x = by (is_check g x) refl ∙ sym (tailed_by g l x)
  where
    by : (b : Bool) → is_check g x ≡ b → way_given b (tailed_kept g l x) ≡ cond b (given_way (tailed g l (then_list x))) (one (tailed_kept g l x))
    by true h = ap given_way (then_tailed g l x h)
    by false h = refl

way_either : (g : ℕ) (l x : Tree) (b : Bool) → way_given (is_check g x) (cond b (tailed_kept g l x) (inner_kept g x)) ≡ cond b (tailed_item g l x)
    (inner_item g x)
way_either g l x true = way_tailed g l x
way_either g l x false = way_inner g x

-- ---- a list

or_first : (a b : Bool) → (a || b) ≡ false → a ≡ false
or_first true b h = h
or_first false b h = refl

or_second : (a b : Bool) → (a || b) ≡ false → b ≡ false
or_second true b h = cc
or_second false b h = h

module _ (g : ℕ) (each all : Forest → Forest) (change : Tree → Forest → Tree) (each_none : each Nil ≡ Nil)
    (each_more : (x : Tree) (xs : Forest) → each (Then x xs) ≡ Then (change x xs) (each xs))
    (none : all Nil ≡ Nil) (more : (x : Tree) (xs : Forest) → join (way_given (is_check g x) (change x xs)) (all xs) ≡ all (Then x xs)) where
  some_given : (a : Forest) → ways_given (checks_told g a) (each a) ≡ all a
  some_given Nil = each_none ∙ sym none
  some_given (Then x xs) = ap (ways_given (checks_told g (Then x xs))) (each_more x xs) ∙
      ap (join (way_given (is_check g x) (change x xs))) (some_given xs) ∙ more x xs

  none_given : (a : Forest) → has_check g a ≡ false → each a ≡ all a
  none_given Nil h = each_none ∙ sym none
  none_given (Then x xs) h =
      each_more x xs ∙ ap (Then (change x xs)) (none_given xs (or_second (is_check g x) (has_check g xs) h))
      ∙ sym (ap (λ b. join (way_given b (change x xs)) (all xs)) (or_first (is_check g x) (has_check g xs) h)) ∙ more x xs

  all_given : (a : Forest) → ways_given (cond (has_check g a) (checks_told g a) []) (each a) ≡ all a
  all_given a = by (has_check g a) refl
    where
      by : (b : Bool) → has_check g a ≡ b → ways_given (cond b (checks_told g a) []) (each a) ≡ all a
      by true h = some_given a
      by false h = none_given a h

pub inner_given : (g : ℕ) (a : Forest) → ways_given (cond (has_check g a) (checks_told g a) []) (each_inner g a) ≡ inner g a
inner_given g a = all_given g (each_inner g) (inner g) (λ x xs. inner_kept g x) refl (λ x xs. refl) refl
    (λ x xs. ap (λ z. join z (inner g xs)) (way_inner g x)) a

pub tailed_given : (g : ℕ) (l : Tree) (a : Forest) → ways_given (cond (has_check g a) (checks_told g a) []) (each_tailed g l a) ≡ tailed g l a
tailed_given g l a =
    all_given g (each_tailed g l) (tailed g l) (λ x xs. cond (is_end g xs) (tailed_kept g l x) (inner_kept g x)) refl (λ x xs. refl) refl
    (λ x xs. ap (λ z. join z (tailed g l xs)) (way_either g l x (is_end g xs))) a

-- ---- what is told

pub told_more : (g : ℕ) (xs : List Item) (i : ℕ) (x : Item) (b : Bool) (bs new : List Bool) → i < length xs → x ≡ get_or xs i x →
    b ≡ is_check g (tree_at x) → new ≡ bs ++ b ∷ []
    → new ++ checks_told g (trees_of (drop (i + 1) xs)) ≡ bs ++ checks_told g (trees_of (drop i xs))
told_more g xs i x b bs new h e k n =
    let rest = checks_told g (trees_of (drop (i + 1) xs)) in
    ap (λ z. z ++ rest) n ∙ append_assoc bs (b ∷ []) rest ∙ ap (λ z. bs ++ z ∷ rest) k ∙ sym (ap (λ z. bs ++ checks_told g z) (trees-at xs i x h e))

pub told_all : (g : ℕ) (xs : List Item) (i : ℕ) (bs : List Bool) → length xs ≤ i →
    bs ++ checks_told g (trees_of (drop i xs)) ≡ checks_told g (trees_of xs) → bs ≡ checks_told g (trees_of xs)
told_all g xs i bs h d = sym (append-nil bs) ∙ sym (ap (λ z. bs ++ checks_told g z) (trees-end xs i h)) ∙ d

-- ---- one more item

pub none_told : (bs : List Bool) (i : ℕ) → slice_get bs i ≡ None → get_or bs i false ≡ false
none_told [] i e = refl
none_told (b ∷ bs) zero e = cc
none_told (b ∷ bs) (suc i) e = none_told bs i e

none_left : (bs : List Bool) → ways_given bs Nil ≡ Nil
none_left [] = refl
none_left (b ∷ bs) = refl

pub ways_more : (bs : List Bool) (xs : List Item) (x : Item) → ways_given bs (trees_of (xs ++ x ∷ [])) ≡ join (ways_given bs (trees_of xs))
    (way_given (get_or bs (length xs) false) (tree_at x))
ways_more [] xs x = trees-push xs x
ways_more (b ∷ bs) [] x =
    ap (ways_given (b ∷ bs)) (trees-first x [] ∙ ap (Then (tree_at x)) trees-none) ∙ ap (join (way_given b (tree_at x))) (none_left bs) ∙
    join-nil (way_given b (tree_at x))
    ∙ sym (ap (λ z. join (ways_given (b ∷ bs) z) (way_given b (tree_at x))) trees-none)
ways_more (b ∷ bs) (y ∷ ys) x =
    ap (ways_given (b ∷ bs)) (trees-first y (ys ++ x ∷ [])) ∙ ap (join (way_given b (tree_at y))) (ways_more bs ys x)
    ∙ sym (join-join (way_given b (tree_at y)) (ways_given bs (trees_of ys)) (way_given (get_or bs (length ys) false) (tree_at x)))
    ∙ sym (ap (λ z. join (ways_given (b ∷ bs) z) (way_given (get_or bs (length ys) false) (tree_at x))) (trees-first y ys))

-- with nothing behind it yet
pub ways_none : (bs : List Bool) → ways_given bs (trees_of []) ≡ Nil
ways_none bs = ap (ways_given bs) trees-none ∙ none_left bs

-- at a tail or not
pub rewritten_given : (tail : Bool) (g : ℕ) (l : Tree) (a : Forest) →
    ways_given (cond (has_check g a) (checks_told g a) []) (each_rewritten tail g l a) ≡ list_rewritten tail g l a
rewritten_given true g l a = tailed_given g l a
rewritten_given false g l a = inner_given g a
