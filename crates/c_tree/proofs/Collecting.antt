-- What a walk collects from the items of a list, or from sections, in text order.
use Rattle.std.proofs.Common.{◌≡◌, ℕ, ◌+◌, ◌<◌, ◌≤◌, List, [], ◌++◌, length, drop, get_or, append_assoc, sym, ap, ◌∙◌}
use Rattle.std.proofs.lemmas.List.{append-nil}
use Rattle.c_tree.specs.declared.tree.Item.{Item}
use Rattle.c_tree.specs.declared.tree.Section as Real
use Rattle.c_tree.specs.Trees.{Tree, Forest, Nil, Then, Sections, NoSection, trees_of, sections_of}
use Rattle.c_tree.specs.Views.{tree_at, before}
use Rattle.c_tree.proofs.Views.{trees-at, trees-end, sections-at, sections-end}

pub collected : {A : Type 0} (F : Forest → List A) (G : Tree → List A) → ((x : Tree) (xs : Forest) → F (Then x xs) ≡ G x ++ F xs) →
    (xs : List Item) (i : ℕ) (x : Item) → i < length xs → x ≡ get_or xs i x
    → (out new all : List A) → out ++ F (trees_of (drop i xs)) ≡ all → new ≡ out ++ G (tree_at x) → new ++ F (trees_of (drop (i + 1) xs)) ≡ all
collected F G step xs i x h e out new all inv n =
    let rest = trees_of (drop (i + 1) xs) in
    ap (λ z. z ++ F rest) n ∙ append_assoc out (G (tree_at x)) (F rest) ∙ ap (λ z. out ++ z) (sym (ap F (trees-at xs i x h e) ∙ step (tree_at x) rest)) ∙ inv

pub collected_all : {A : Type 0} (F : Forest → List A) → F Nil ≡ [] → (xs : List Item) (i : ℕ) → length xs ≤ i → (out all : List A) →
    out ++ F (trees_of (drop i xs)) ≡ all → out ≡ all
collected_all F none xs i h out all inv = sym (append-nil out) ∙ ap (λ z. out ++ z) (sym (ap F (trees-end xs i h) ∙ none)) ∙ inv

pub collected_in : {A : Type 0} (F : Sections → List A) (G : Real.Section → List A) →
    ((c : Real.Section) (d : Sections) → F (before c d) ≡ G c ++ F d) → (cs : List Real.Section) (i : ℕ) (c : Real.Section) → i < length cs → c ≡ get_or cs i c
    → (out new all : List A) → out ++ F (sections_of (drop i cs)) ≡ all → new ≡ out ++ G c → new ++ F (sections_of (drop (i + 1) cs)) ≡ all
collected_in F G step cs i c h e out new all inv n =
    let rest = sections_of (drop (i + 1) cs) in
    ap (λ z. z ++ F rest) n ∙ append_assoc out (G c) (F rest) ∙ ap (λ z. out ++ z) (sym (ap F (sections-at cs i c h e) ∙ step c rest)) ∙ inv

pub collected_all_in : {A : Type 0} (F : Sections → List A) → F NoSection ≡ [] → (cs : List Real.Section) (i : ℕ) → length cs ≤ i →
    (out all : List A) → out ++ F (sections_of (drop i cs)) ≡ all → out ≡ all
collected_all_in F none cs i h out all inv = sym (append-nil out) ∙ ap (λ z. out ++ z) (sym (ap F (sections-end cs i h) ∙ none)) ∙ inv
