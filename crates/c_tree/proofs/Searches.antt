-- A search of a list, or of sections, for one that has a property, which stops at the first.
use Rattle.std.proofs.Common.{◌≡◌, ℕ, ◌+◌, ◌<◌, ◌≤◌, Bool, true, false, ◌||◌, List, length, drop, get_or, sym, ap, ◌∙◌}
use Rattle.c_tree.specs.declared.tree.Item.{Item}
use Rattle.c_tree.specs.declared.tree.Section as Real
use Rattle.c_tree.specs.Trees.{Tree, Forest, Nil, Then, Sections, NoSection, trees_of, sections_of}
use Rattle.c_tree.specs.Views.{tree_at, before}
use Rattle.c_tree.proofs.Views.{trees-at, trees-end, sections-at, sections-end}

-- P holds of a list where Q holds of an item of it
pub found : (P : Forest → Bool) (Q : Tree → Bool) → ((x : Tree) (xs : Forest) → P (Then x xs) ≡ (Q x || P xs)) → (xs : List Item) (i : ℕ) (x : Item) →
    i < length xs → x ≡ get_or xs i x
    → P (trees_of xs) ≡ P (trees_of (drop i xs)) → (b : Bool) → b ≡ Q (tree_at x) → b ≡ true → true ≡ P (trees_of xs)
found P Q step xs i x h e inv b q t =
    let rest = trees_of (drop (i + 1) xs) in
    sym (inv ∙ ap P (trees-at xs i x h e) ∙ step (tree_at x) rest ∙ ap (λ y. y || P rest) (sym q ∙ t))

pub passed : (P : Forest → Bool) (Q : Tree → Bool) → ((x : Tree) (xs : Forest) → P (Then x xs) ≡ (Q x || P xs)) →
    (xs : List Item) (i : ℕ) (x : Item) → i < length xs → x ≡ get_or xs i x
    → P (trees_of xs) ≡ P (trees_of (drop i xs)) → (b : Bool) → b ≡ Q (tree_at x) → b ≡ false → P (trees_of xs) ≡ P (trees_of (drop (i + 1) xs))
passed P Q step xs i x h e inv b q t =
    let rest = trees_of (drop (i + 1) xs) in
    inv ∙ ap P (trees-at xs i x h e) ∙ step (tree_at x) rest ∙ ap (λ y. y || P rest) (sym q ∙ t)

pub missed : (P : Forest → Bool) → P Nil ≡ false → (xs : List Item) (i : ℕ) → length xs ≤ i → P (trees_of xs) ≡ P (trees_of (drop i xs)) →
    false ≡ P (trees_of xs)
missed P none xs i h inv = sym (inv ∙ ap P (trees-end xs i h) ∙ none)

-- P holds of sections where Q holds of one of them
pub found_in : (P : Sections → Bool) (Q : Real.Section → Bool) → ((c : Real.Section) (d : Sections) → P (before c d) ≡ (Q c || P d)) →
    (cs : List Real.Section) (i : ℕ) (c : Real.Section) → i < length cs → c ≡ get_or cs i c
    → P (sections_of cs) ≡ P (sections_of (drop i cs)) → (b : Bool) → b ≡ Q c → b ≡ true → true ≡ P (sections_of cs)
found_in P Q step cs i c h e inv b q t =
    let rest = sections_of (drop (i + 1) cs) in
    sym (inv ∙ ap P (sections-at cs i c h e) ∙ step c rest ∙ ap (λ y. y || P rest) (sym q ∙ t))

pub passed_in : (P : Sections → Bool) (Q : Real.Section → Bool) → ((c : Real.Section) (d : Sections) → P (before c d) ≡ (Q c || P d)) →
    (cs : List Real.Section) (i : ℕ) (c : Real.Section) → i < length cs → c ≡ get_or cs i c
    → P (sections_of cs) ≡ P (sections_of (drop i cs)) → (b : Bool) → b ≡ Q c → b ≡ false → P (sections_of cs) ≡ P (sections_of (drop (i + 1) cs))
passed_in P Q step cs i c h e inv b q t =
    let rest = sections_of (drop (i + 1) cs) in
    inv ∙ ap P (sections-at cs i c h e) ∙ step c rest ∙ ap (λ y. y || P rest) (sym q ∙ t)

pub missed_in : (P : Sections → Bool) → P NoSection ≡ false → (cs : List Real.Section) (i : ℕ) → length cs ≤ i →
    P (sections_of cs) ≡ P (sections_of (drop i cs)) → false ≡ P (sections_of cs)
missed_in P none cs i h inv = sym (inv ∙ ap P (sections-end cs i h) ∙ none)
