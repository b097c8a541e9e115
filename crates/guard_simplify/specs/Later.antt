-- The first simplification that applies to a body at a place or behind it, in text order.
use Rattle.std.specs.Prelude.{◌≡◌, ℕ, ◌+◌, Bool, List, [], ◌∷◌, ◌++◌, drop, Option, Some, None, option_map, slice_get}
use Rattle.std.specs.Option.{option_and_then}
use Rattle.c_tree.specs.declared.tree.Item.{Item, Item-F, out-Item}
use Rattle.c_tree.specs.declared.tree.Item.TheOpen.{If, Switch}
use Rattle.c_tree.specs.declared.tree.Section.{Section}
use Rattle.c_tree.specs.declared.tree.Branch.{Branch}
use Rattle.c_tree.specs.declared.tree.Branch.TheVariants as B
use Rattle.c_tree.specs.declared.tree.Step.{Step}
use Rattle.c_tree.specs.Paths.{child}
use Rattle.c_tree.specs.Trees.{trees_of, sections_of}
use Rattle.guard_simplify.specs.declared.choice.Choice.{Choice}
use Rattle.guard_simplify.specs.Choice.{has, barred, under_one, under, choices_from, choices_of_sections, first}

-- these are the labels whose guards can't go from the body
abbrev pub AreBarred : List ℕ → List Item → Type 0
AreBarred labels body = (l : ℕ) → has l labels ≡ barred l (trees_of body)

-- those in the lists of the item i that stand behind the one at a branch
abbrev pub behind_F : (ℕ → Bool) → ℕ → Branch → Item-F Item Section → List Choice
behind_F bar i B.Then (If t a b) = under i B.Else (choices_from bar 0 (trees_of b))
behind_F bar i (B.Section k) (Switch s cs) = choices_of_sections bar i (k + 1) (sections_of (drop (k + 1) cs))
behind_F bar i _ _ = []

abbrev pub behind : (ℕ → Bool) → ℕ → Branch → Item → List Choice
behind bar i b x = behind_F bar i b (out-Item x)

-- those behind the list that the step leads to from the item x of a list
abbrev pub after : (ℕ → Bool) → List Item → Item → Step → List Choice
after bar xs x s = behind bar s.item s.branch x ++ choices_from bar (s.item + 1) (trees_of (drop (s.item + 1) xs))

-- the first of them, where there is one, or else a later one
abbrev pub else_first : Option Choice → Option Choice → Option Choice
else_first None later = later
else_first (Some c) later = Some c

-- the first at the place i of the list after the steps, or behind it in the body
abbrev pub first_from : (ℕ → Bool) → List Item → List Step → ℕ → Option Choice
first_from bar xs [] i = first (choices_from bar i (trees_of (drop i xs)))
first_from bar xs (s ∷ ss) i =
    option_and_then (λ x. else_first (option_and_then (λ a. option_map (under_one s.item s.branch) (first_from bar a ss i)) (child s.branch x))
    (first (after bar xs x s))) (slice_get xs s.item)
