-- Paths: the list that a path leads to, and the body with another list put there.
use Rattle.std.specs.Prelude.{◌≡◌, ◌≢◌, ℕ, Bool, false, nat_lt, List, [], ◌∷◌, ◌++◌, Option, Some, None, length, slice_get, slice_set, option_map, option_and_then}
use Rattle.std.specs.Option.{option_map_or}
use Rattle.c_tree.specs.declared.tree.Item.{Item, Item-F, out-Item, roll-Item}
use Rattle.c_tree.specs.declared.tree.Item.TheOpen.{If, While, Do, For, Switch, Block}
use Rattle.c_tree.specs.declared.tree.Section.{Section, out-Section, roll-Section}
use Rattle.c_tree.specs.declared.tree.Branch.{Branch}
use Rattle.c_tree.specs.declared.tree.Branch.TheVariants as B
use Rattle.c_tree.specs.declared.tree.Step.{Step}

-- the list of a section
abbrev pub list_of : Section → List Item
list_of s = (out-Section s).list

-- the section with another list
abbrev pub with_list : List Item → Section → Section
with_list w s = let o = out-Section s in roll-Section (record { cases = o.cases; default = o.default; list = w; ends = o.ends })

-- the sections with another list in section k
abbrev pub with_section_list : ℕ → List Item → List Section → List Section
with_section_list k w cs = option_map_or (λ c. slice_set cs k (with_list w c)) (slice_get cs k) cs

-- the list of one layer at a branch
abbrev pub child_F : Branch → Item-F Item Section → Option (List Item)
child_F B.Body (While t a) = Some a
child_F B.Body (Do a t) = Some a
child_F B.Body (For f t u a) = Some a
child_F B.Body (Block a) = Some a
child_F B.Then (If t a b) = Some a
child_F B.Else (If t a b) = Some b
child_F (B.Section k) (Switch s cs) = option_map list_of (slice_get cs k)
child_F _ _ = None

abbrev pub child : Branch → Item → Option (List Item)
child b x = child_F b (out-Item x)

-- one layer with another list at a branch
abbrev pub with_child_F : Branch → List Item → Item-F Item Section → Item-F Item Section
with_child_F B.Body w (While t a) = While t w
with_child_F B.Body w (Do a t) = Do w t
with_child_F B.Body w (For f t u a) = For f t u w
with_child_F B.Body w (Block a) = Block w
with_child_F B.Then w (If t a b) = If t w b
with_child_F B.Else w (If t a b) = If t a w
with_child_F (B.Section k) w (Switch s cs) = Switch s (with_section_list k w cs)
with_child_F _ w x = x

abbrev pub with_child : Branch → List Item → Item → Item
with_child b w x = roll-Item (with_child_F b w (out-Item x))

-- the list after the steps
abbrev pub list_at : List Item → List Step → Option (List Item)
list_at xs [] = Some xs
list_at xs (s ∷ ss) = option_and_then (λ x. option_and_then (λ a. list_at a ss) (child s.branch x)) (slice_get xs s.item)

-- the body with w put in place of the list after the steps
abbrev pub put_at : List Item → List Step → List Item → List Item
put_at xs [] w = w
put_at xs (s ∷ ss) w =
    option_map_or (λ x. option_map_or (λ a. slice_set xs s.item (with_child s.branch (put_at a ss w) x)) (child s.branch x) xs) (slice_get xs s.item) xs

-- whether the steps and the number i lead to an item
abbrev pub fits : List Item → List Step → ℕ → Bool
fits xs ss i = option_map_or (λ a. nat_lt i (length a)) (list_at xs ss) false

-- the item at the place i of the list after the steps
abbrev pub item_at : List Item → List Step → ℕ → Option Item
item_at xs ss i = option_and_then (λ a. slice_get a i) (list_at xs ss)

-- the steps part: after a common front one takes another item, or another branch of the same item
pub data Apart : List Step → List Step → Type 0 where
  at_item : (s t : Step) (ss ts : List Step) → s.item ≢ t.item → Apart (s ∷ ss) (t ∷ ts)
  at_branch : (s t : Step) (ss ts : List Step) → s.item ≡ t.item → s.branch ≢ t.branch → Apart (s ∷ ss) (t ∷ ts)
  further : (s : Step) (ss ts : List Step) → Apart ss ts → Apart (s ∷ ss) (s ∷ ts)

-- the body `new` is `old` with another list after the steps, and nothing else is changed
pub record IsExchanged (old : List Item) (steps : List Step) (w : List Item) (new : List Item) : Type 0 where
  -- the other list stands there, with all that stands in it
  pub within : (more : List Step) → list_at new (steps ++ more) ≡ list_at w more
  -- lists that are reached another way are as they were
  pub beside : (others : List Step) → Apart steps others → list_at new others ≡ list_at old others
  -- in a list on the way, the exchange is inside
  pub above : (front rest : List Step) (a : List Item) → steps ≡ front ++ rest → list_at old front ≡ Some a → list_at new front ≡ Some (put_at a rest w)
  -- with the list that was there put back, it is the old body
  pub back : (a : List Item) → list_at old steps ≡ Some a → put_at new steps a ≡ old
