-- Sums over a list, and over sections, from one place on.
use Rattle.std.proofs.Common.{◌≡◌, ℕ, ◌+◌, ◌<◌, ◌≤◌, Bool, List, length, drop, get_or, ap}
use Rattle.c_tree.specs.declared.tree.Item.{Item}
use Rattle.c_tree.specs.declared.tree.Section.{Section}
use Rattle.c_tree.specs.Everywhere.{total, total_of, total_in}
use Rattle.c_tree.specs.Paths.{list_of}
use Rattle.c_tree.specs.Trees.{Tree, trees_of, sections_of}
use Rattle.c_tree.specs.Views.{tree_at}
use Rattle.c_tree.proofs.Views.{trees-at, trees-end, sections-at, sections-end}
use Rattle.c_resolved_laws.specs.Counts.{summed, summed_of, summed_in}

pub total_more : (f : Tree → ℕ) (xs : List Item) (i : ℕ) (x : Item) → i < length xs → x ≡ get_or xs i x →
    total f (trees_of (drop i xs)) ≡ total_of f (tree_at x) + total f (trees_of (drop (i + 1) xs))
total_more f xs i x l e = ap (total f) (trees-at xs i x l e)

pub total_end : (f : Tree → ℕ) (xs : List Item) (i : ℕ) → length xs ≤ i → total f (trees_of (drop i xs)) ≡ 0
total_end f xs i l = ap (total f) (trees-end xs i l)

pub total_more_in : (f : Tree → ℕ) (cs : List Section) (i : ℕ) (c : Section) → i < length cs → c ≡ get_or cs i c →
    total_in f (sections_of (drop i cs)) ≡ total f (trees_of (list_of c)) + total_in f (sections_of (drop (i + 1) cs))
total_more_in f cs i c l e = ap (total_in f) (sections-at cs i c l e)

pub total_end_in : (f : Tree → ℕ) (cs : List Section) (i : ℕ) → length cs ≤ i → total_in f (sections_of (drop i cs)) ≡ 0
total_end_in f cs i l = ap (total_in f) (sections-end cs i l)

-- ---- the same with what stands round the items

pub summed_more : (f : Bool → Tree → ℕ) (named : ℕ → Bool) (j : Bool) (xs : List Item) (i : ℕ) (x : Item) → i < length xs → x ≡ get_or xs i x
    → summed f named j (trees_of (drop i xs)) ≡ summed_of f named j (tree_at x) + summed f named j (trees_of (drop (i + 1) xs))
summed_more f named j xs i x l e = ap (summed f named j) (trees-at xs i x l e)

pub summed_end : (f : Bool → Tree → ℕ) (named : ℕ → Bool) (j : Bool) (xs : List Item) (i : ℕ) → length xs ≤ i → summed f named j (trees_of (drop i xs)) ≡ 0
summed_end f named j xs i l = ap (summed f named j) (trees-end xs i l)

pub summed_more_in : (f : Bool → Tree → ℕ) (named : ℕ → Bool) (j : Bool) (cs : List Section) (i : ℕ) (c : Section) → i < length cs → c ≡ get_or cs i c
    → summed_in f named j (sections_of (drop i cs)) ≡ summed f named j (trees_of (list_of c)) + summed_in f named j (sections_of (drop (i + 1) cs))
summed_more_in f named j cs i c l e = ap (summed_in f named j) (sections-at cs i c l e)

pub summed_end_in : (f : Bool → Tree → ℕ) (named : ℕ → Bool) (j : Bool) (cs : List Section) (i : ℕ) → length cs ≤ i →
    summed_in f named j (sections_of (drop i cs)) ≡ 0
summed_end_in f named j cs i l = ap (summed_in f named j) (sections-end cs i l)
