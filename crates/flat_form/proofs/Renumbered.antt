-- Items and sections that were changed one by one.
use mathlib.Core.Path.{ap₂}
use Rattle.std.proofs.Common.{◌≡◌, ℕ, suc, ◌<◌, List, [], ◌∷◌, length, get_or, arith, sym, ap, ◌∙◌}
use Rattle.c_tree.specs.declared.tree.Item.{Item}
use Rattle.c_tree.specs.declared.tree.Section as Real
use Rattle.c_tree.specs.Trees.{Tree, Forest, Nil, Then, Sections, NoSection, trees_of, sections_of}
use Rattle.c_tree.specs.Views.{tree_at, before}
use Rattle.c_tree.proofs.TreeLaws.{trees-none, sections-none}
use Rattle.c_tree.proofs.Views.{trees-first, section-first}
use Rattle.flat_items.specs.Pieces.{behind}

-- so many entries have changed what they show
abbrev pub DoneTo : {A B : Type 0} → (A → B) → (B → B) → ℕ → List A → List A → Type 0
DoneTo {A} show change i old new = (length new ≡ length old) × ((k : ℕ) (d : A) → k < i → show (get_or new k d) ≡ change (show (get_or old k d)))

-- a section alone
abbrev pub alone : Real.Section → Sections
alone c = before c NoSection

-- where a list is changed by changing each item
module _ (change : Tree → Tree) (all : Forest → Forest) (none : all Nil ≡ Nil) (more : (x : Tree) (a : Forest) → all (Then x a) ≡ Then (change x) (all a)) where
  pub items_done : (xs ys : List Item) → length ys ≡ length xs
      → ((k : ℕ) (d : Item) → k < length ys → tree_at (get_or ys k d) ≡ change (tree_at (get_or xs k d))) → trees_of ys ≡ all (trees_of xs)
  items_done [] [] e h = trees-none ∙ sym (ap all trees-none ∙ none)
  items_done [] (y ∷ ys) e h = absurd (omega (arith, e))
  items_done (x ∷ xs) [] e h = absurd (omega (arith, e))
  items_done (x ∷ xs) (y ∷ ys) e h =
      trees-first y ys ∙ ap₂ Then (h 0 x (omega arith)) (items_done xs ys (omega (arith, e)) (λ k d l. h (suc k) d (omega (arith, l))))
      ∙ sym (ap all (trees-first x xs) ∙ more (tree_at x) (trees_of xs))

-- and sections so
module _ (all : Sections → Sections) (none : all NoSection ≡ NoSection)
    (more : (c : Real.Section) (d : Sections) → all (before c d) ≡ behind (all (alone c)) (all d)) where
  pub sections_done : (xs ys : List Real.Section) → length ys ≡ length xs
      → ((k : ℕ) (d : Real.Section) → k < length ys → alone (get_or ys k d) ≡ all (alone (get_or xs k d)))
      → sections_of ys ≡ all (sections_of xs)
  sections_done [] [] e h = sections-none ∙ sym (ap all sections-none ∙ none)
  sections_done [] (y ∷ ys) e h = absurd (omega (arith, e))
  sections_done (x ∷ xs) [] e h = absurd (omega (arith, e))
  sections_done (x ∷ xs) (y ∷ ys) e h =
      section-first y ys ∙ ap₂ behind (h 0 x (omega arith)) (sections_done xs ys (omega (arith, e)) (λ k d l. h (suc k) d (omega (arith, l))))
      ∙ sym (ap all (section-first x xs) ∙ more x (sections_of xs))
