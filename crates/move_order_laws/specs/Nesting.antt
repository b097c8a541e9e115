-- How deep the lists of a body stand in one another, and what that is where the items after a Leap in
-- text order count as one level deeper.
use Rattle.std.specs.Prelude.{ℕ, ◌+◌, max, List, [], ◌∷◌, take, drop, slice_get}
use Rattle.std.specs.Option.{option_map_or}
use Rattle.c_tree.specs.declared.tree.Item.{Item, Item-F, out-Item}
use Rattle.c_tree.specs.declared.tree.Item.TheOpen as O
use Rattle.c_tree.specs.declared.tree.Section.{Section}
use Rattle.c_tree.specs.declared.tree.Branch.{Branch}
use Rattle.c_tree.specs.declared.tree.Branch.TheVariants as B
use Rattle.c_tree.specs.declared.tree.Path.{Path}
use Rattle.c_tree.specs.declared.tree.Step.{Step}
use Rattle.c_tree.specs.Paths.{child}
use Rattle.c_tree.specs.Join.{list_there}
use Rattle.c_tree.specs.Trees.{Tree, Forest, Nil, Then, Sections, NoSection, Section as SectionOf, If, While, Do, For, Switch, Block, trees_of, sections_of}

abbrev mutual
  -- the greatest list level of a list: its own is 1, that of each list of an `if`, a loop, a switch or a
  -- block one more; the first part of a `for` is no list of it
  pub nesting : Forest → ℕ
  nesting Nil = 1
  nesting (Then x xs) = max (1 + nesting_of x) (nesting xs)

  -- of the lists of an item
  pub nesting_of : Tree → ℕ
  nesting_of (If t a b) = max (nesting a) (nesting b)
  nesting_of (While t a) = nesting a
  nesting_of (Do a t) = nesting a
  nesting_of (For f t u a) = nesting a
  nesting_of (Switch s c) = nesting_in c
  nesting_of (Block a) = nesting a
  nesting_of _ = 0

  -- of the lists of a switch; one without sections counts as one with an empty list
  pub nesting_in : Sections → ℕ
  nesting_in NoSection = 1
  nesting_in (SectionOf cases default a ends c) = max (nesting a) (nesting_in c)

-- of a list whose items stand after the Leap: they count as one level deeper
abbrev pub later : Forest → ℕ
later Nil = 1
later (Then x xs) = 1 + nesting (Then x xs)

-- of sections that stand after the Leap
abbrev pub later_in : Sections → ℕ
later_in NoSection = 1
later_in (SectionOf cases default a ends c) = max (later a) (later_in c)

-- of the lists of an item, where the Leap stands in the list at the branch, and that counts as n
abbrev pub beside_F : Branch → ℕ → Item-F Item Section → ℕ
beside_F B.Then n (O.If t a b) = max n (later (trees_of b))
beside_F B.Else n (O.If t a b) = max (nesting (trees_of a)) n
beside_F (B.Section k) n (O.Switch s cs) = max (nesting_in (sections_of (take k cs))) (max n (later_in (sections_of (drop (k + 1) cs))))
beside_F _ n _ = n

-- of the lists of an item of the tree, where the Leap stands in the list at the branch, and that counts as n
abbrev pub beside : Branch → ℕ → Item → ℕ
beside b n x = beside_F b n (out-Item x)

-- of a list, where the Leap stands in its element k, and the lists of that count as n
abbrev pub around_element : List Item → ℕ → ℕ → ℕ
around_element xs k n = max (nesting (trees_of (take k xs))) (max (1 + n) (later (trees_of (drop (k + 1) xs))))

-- of a body, where the Leap stands in the list at the steps, and that counts as n
abbrev pub around : List Item → List Step → ℕ → ℕ
around xs [] n = n
around xs (s ∷ ss) n = option_map_or (λ x. around_element xs s.item (beside s.branch (option_map_or (λ a. around a ss n) (child s.branch x) n) x))
    (slice_get xs s.item) n

-- of the list of the Leap, at its place there
abbrev pub at_leap : List Item → ℕ → ℕ
at_leap xs i = max (nesting (trees_of (take i xs))) (later (trees_of (drop (i + 1) xs)))

-- of a body and the path of the Leap in it
abbrev pub reach : List Item → Path → ℕ
reach body at = around body at.steps (at_leap (list_there body at.steps) at.item)
