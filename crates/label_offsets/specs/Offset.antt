-- How many items stand before one, in text order.
use Rattle.std.specs.Prelude.{ℕ, ◌+◌, List, [], ◌∷◌, map, sum, take, slice_get}
use Rattle.std.specs.Option.{option_map_or}
use Rattle.c_tree.specs.declared.tree.Item.{Item, Item-F, out-Item, fold-Item}
use Rattle.c_tree.specs.declared.tree.Item.TheOpen.{Section-F, If, While, Do, For, Switch, Block}
use Rattle.c_tree.specs.declared.tree.Section.{Section, fold-Section}
use Rattle.c_tree.specs.declared.tree.Branch.{Branch}
use Rattle.c_tree.specs.declared.tree.Branch.TheVariants as B
use Rattle.c_tree.specs.declared.tree.Step.{Step}
use Rattle.c_tree.specs.Paths.{child}

-- an item and all that stands in it
abbrev pub count_step : Item-F ℕ ℕ → ℕ
count_step (If t a b) = 1 + sum a + sum b
count_step (While t a) = 1 + sum a
count_step (Do a t) = 1 + sum a
count_step (For f t u a) = 1 + sum f + sum a
count_step (Switch s cs) = 1 + sum cs
count_step (Block a) = 1 + sum a
count_step _ = 1

abbrev pub section_count_step : Section-F ℕ ℕ → ℕ
section_count_step s = sum s.list

abbrev pub count : Item → ℕ
count x = fold-Item ℕ ℕ count_step section_count_step x

abbrev pub section_count : Section → ℕ
section_count c = fold-Section ℕ ℕ count_step section_count_step c

abbrev pub counts : List Item → ℕ
counts xs = sum (map count xs)

abbrev pub section_counts : List Section → ℕ
section_counts cs = sum (map section_count cs)

-- the items in an item that stand before its list at a branch
abbrev pub before_branch_F : Branch → Item-F Item Section → ℕ
before_branch_F B.Else (If t a b) = counts a
before_branch_F B.Body (For f t u a) = counts f
before_branch_F (B.Section k) (Switch s cs) = section_counts (take k cs)
before_branch_F _ _ = 0

abbrev pub before_branch : Branch → Item → ℕ
before_branch b x = before_branch_F b (out-Item x)

-- the items that stand before the item i of the list at the steps
abbrev pub before : List Item → List Step → ℕ → ℕ
before xs [] i = counts (take i xs)
before xs (s ∷ ss) i =
    counts (take s.item xs) + option_map_or (λ x. 1 + before_branch s.branch x + option_map_or (λ a. before a ss i) (child s.branch x) 0)
    (slice_get xs s.item) 0
