-- Rule I: a Leap goes into a later element that holds its label.
use Rattle.std.specs.Prelude.{◌≡◌, ℕ, ◌+◌, ◌<◌, ℤ, List, [], ◌∷◌, ◌++◌, length, take, drop, slice_get, slice_set, slice_range, Some}
use Rattle.std.specs.Option.{option_map_or}
use Rattle.c_tree.specs.declared.tree.Item.{Item, Item-F, Leap, out-Item, roll-Item}
use Rattle.c_tree.specs.declared.tree.Item.TheOpen.{If, While, Do, Switch}
use Rattle.c_tree.specs.declared.tree.Section.{Section}
use Rattle.c_tree.specs.declared.tree.Test.{AndOff, OrOn}
use Rattle.c_tree.specs.declared.tree.Selector.{Pick}
use Rattle.c_tree.specs.declared.tree.Branch.{Branch}
use Rattle.c_tree.specs.declared.tree.Branch.TheVariants as B
use Rattle.c_tree.specs.declared.tree.Step.{Step}
use Rattle.c_tree.specs.declared.tree.Path.{Path}
use Rattle.c_tree.specs.Paths.{list_of, with_list, list_at, item_at, put_at}
use Rattle.c_tree.specs.Join.{guarded, Holds, list_there}
use Rattle.c_tree.specs.Outward.{HasBranch}
use Rattle.c_tree.specs.Trees.{tree_of, trees_of}
use Rattle.c_tree.specs.Labels.{lands}
use Rattle.c_tree.specs.Cases.{SelectsBranch}

-- the sections with the Leap first in section k
abbrev pub section_entered : ℕ → ℕ → List Section → List Section
section_entered l k cs = option_map_or (λ c. slice_set cs k (with_list (Leap l ∷ list_of c) c)) (slice_get cs k) cs

-- one layer with the Leap first at the branch; n is the number that the selector then has
abbrev pub entered_F : ℕ → ℤ → Branch → Item-F Item Section → Item-F Item Section
entered_F l n B.Then (If t a b) = If (OrOn l t) (Leap l ∷ a) b
entered_F l n B.Else (If t a b) = If (AndOff l t) a (Leap l ∷ b)
entered_F l n B.Body (While t a) = While (OrOn l t) (Leap l ∷ a)
entered_F l n B.Body (Do a t) = Do (Leap l ∷ a) t
entered_F l n (B.Section k) (Switch s cs) = Switch (Pick l n s) (section_entered l k cs)
entered_F l n b x = x

abbrev pub entered : ℕ → ℤ → Branch → Item → Item
entered l n b x = roll-Item (entered_F l n b (out-Item x))

-- Leap, T, X, with the Leap at i and X at j
abbrev pub moved_in : ℕ → ℤ → ℕ → ℕ → Branch → List Item → List Item
moved_in l n i j b xs =
    option_map_or (λ x. take i xs ++ guarded l (slice_range xs (i + 1) j) ++ entered l n b x ∷ drop (j + 1) xs) (slice_get xs j) xs

-- the body after the Leap in the list at the steps has gone in
abbrev pub moved_in_at : ℕ → ℤ → ℕ → ℕ → Branch → List Step → List Item → List Item
moved_in_at l n i j b ss xs = put_at xs ss (moved_in l n i j b (list_there xs ss))

-- where the Leap stands then
abbrev pub path_inside : ℕ → ℕ → ℕ → Branch → List Step → List Item → Path
path_inside l i j b ss xs =
    record { steps = ss ++ record { item = i + length (guarded l (slice_range (list_there xs ss) (i + 1) j)); branch = b } ∷ []; item = 0 }

-- rule I applies, with the Leap at i, the element at j and the list of it at the branch
pub record CanMoveIn (l : ℕ) (n : ℤ) (i j : ℕ) (b : Branch) (steps : List Step) (body : List Item) : Type 0 where
  -- the Leap
  pub leap : item_at body steps i ≡ Some (Leap l)
  -- a later element
  pub later : i < j
  -- whose list at the branch leads to the Land
  pub construct : Holds (HasBranch b) (item_at body steps j)
  pub held : Holds (λ a. 0 < lands l (trees_of a)) (list_at body (steps ++ record { item = j; branch = b } ∷ []))
  -- and whose section n selects, if it is a switch
  pub number : Holds (λ x. SelectsBranch b n (tree_of x)) (item_at body steps j)

-- the body `old` becomes `new` by rule I, and the Leap then stands at `to`
pub record MovesIn (l : ℕ) (n : ℤ) (i j : ℕ) (b : Branch) (steps : List Step) (old new : List Item) (to : Path) : Type 0 where
  pub applies : CanMoveIn l n i j b steps old
  pub body : new ≡ moved_in_at l n i j b steps old
  pub path : to ≡ path_inside l i j b steps old
