-- Rule O: a Leap goes out of the construct in whose list it stands.
use Rattle.std.specs.Prelude.{◌≡◌, ℕ, ◌+◌, List, [], ◌∷◌, ◌++◌, take, drop, slice_get, cond, Some}
use Rattle.std.specs.Option.{option_map_or}
use Rattle.c_tree.specs.declared.tree.Item.{Item, Item-F, Leap, out-Item, roll-Item}
use Rattle.c_tree.specs.declared.tree.Item.TheOpen.{If, While, Do, Switch}
use Rattle.c_tree.specs.declared.tree.Section.{Section, out-Section}
use Rattle.c_tree.specs.declared.tree.Test.{AndOff}
use Rattle.c_tree.specs.declared.tree.Branch.{Branch}
use Rattle.c_tree.specs.declared.tree.Branch.TheVariants as B
use Rattle.c_tree.specs.declared.tree.Step.{Step}
use Rattle.c_tree.specs.declared.tree.Path.{Path}
use Rattle.c_tree.specs.Paths.{list_of, with_list, item_at, put_at}
use Rattle.c_tree.specs.Join.{guarded, Holds, list_there}
use Rattle.c_tree.specs.Trees.{trees_of}
use Rattle.c_tree.specs.Labels.{lands}

-- A, Leap, B: the rest B under the guard
abbrev pub rest_guarded : ℕ → ℕ → List Item → List Item
rest_guarded l i xs = take i xs ++ guarded l (drop (i + 1) xs)

abbrev pub section_guarded : ℕ → Section → Section
section_guarded l c = with_list (guarded l (list_of c)) c

-- the sections that are fallen into, under the guard: up to and including the first that has an end
abbrev pub later_guarded : ℕ → List Section → List Section
later_guarded l [] = []
later_guarded l (c ∷ cs) = section_guarded l c ∷ cond (out-Section c).ends cs (later_guarded l cs)

-- the sections from the one with the Leap at i on
abbrev pub sections_left : ℕ → ℕ → List Section → List Section
sections_left l i [] = []
sections_left l i (c ∷ cs) = with_list (rest_guarded l i (list_of c)) c ∷ cond (out-Section c).ends cs (later_guarded l cs)

-- one layer that the Leap at i of the branch leaves
abbrev pub left_F : ℕ → Branch → ℕ → Item-F Item Section → Item-F Item Section
left_F l B.Then i (If t a b) = If t (rest_guarded l i a) b
left_F l B.Else i (If t a b) = If t a (rest_guarded l i b)
left_F l B.Body i (While t a) = While (AndOff l t) (rest_guarded l i a)
left_F l B.Body i (Do a t) = Do (rest_guarded l i a) (AndOff l t)
left_F l (B.Section k) i (Switch s cs) = Switch s (take k cs ++ sections_left l i (drop k cs))
left_F l b i x = x

abbrev pub left : ℕ → Branch → ℕ → Item → Item
left l b i x = roll-Item (left_F l b i (out-Item x))

-- the list of the construct at k, after the Leap at i of its branch has gone out
abbrev pub moved_out : ℕ → ℕ → Branch → ℕ → List Item → List Item
moved_out l k b i xs = option_map_or (λ x. take k xs ++ left l b i x ∷ Leap l ∷ drop (k + 1) xs) (slice_get xs k) xs

-- the body, where the steps `outer` lead to the list of the construct and `last` into it
abbrev pub moved_out_at : ℕ → List Step → Step → ℕ → List Item → List Item
moved_out_at l outer last i xs = put_at xs outer (moved_out l last.item last.branch i (list_there xs outer))

-- where the Leap stands then
abbrev pub path_outside : List Step → Step → Path
path_outside outer last = record { steps = outer; item = last.item + 1 }

-- the branch is a list of an `if`, a while, a do or a switch
abbrev pub HasBranch_F : Branch → Item-F Item Section → Type 0
HasBranch_F B.Then (If t a b) = Unit {0}
HasBranch_F B.Else (If t a b) = Unit {0}
HasBranch_F B.Body (While t a) = Unit {0}
HasBranch_F B.Body (Do a t) = Unit {0}
HasBranch_F (B.Section k) (Switch s cs) = Unit {0}
HasBranch_F b x = ⊥

abbrev pub HasBranch : Branch → Item → Type 0
HasBranch b x = HasBranch_F b (out-Item x)

-- rule O applies
pub record CanMoveOut (l : ℕ) (outer : List Step) (last : Step) (i : ℕ) (body : List Item) : Type 0 where
  -- the Leap
  pub leap : item_at body (outer ++ last ∷ []) i ≡ Some (Leap l)
  -- what it stands in
  pub construct : Holds (HasBranch last.branch) (item_at body outer last.item)
  -- neither its list has the Land nor an element of it
  pub elsewhere : lands l (trees_of (list_there body (outer ++ last ∷ []))) ≡ 0

-- the body `old` becomes `new` by rule O, and the Leap then stands at `to`
pub record MovesOut (l : ℕ) (outer : List Step) (last : Step) (i : ℕ) (old new : List Item) (to : Path) : Type 0 where
  pub applies : CanMoveOut l outer last i old
  pub body : new ≡ moved_out_at l outer last i old
  pub path : to ≡ path_outside outer last
