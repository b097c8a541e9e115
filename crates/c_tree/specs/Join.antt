-- Rule J: a Leap is joined with the Land in its list.
use Rattle.std.specs.Prelude.{◌≡◌, ℕ, ◌+◌, List, [], ◌∷◌, ◌++◌, take, drop, slice_range, cond, nat_lt, Option, Some, None, unwrap_or}
use Rattle.c_tree.specs.declared.tree.Step.{Step}
use Rattle.c_tree.specs.Paths.{list_at, item_at, put_at}
use Rattle.c_tree.specs.declared.tree.Item.{Item, If, Do, Leap, Land}
use Rattle.c_tree.specs.declared.tree.Test.{Off, On}

-- the items under `if (Off L)`, or nothing where there are none
abbrev pub guarded : ℕ → List Item → List Item
guarded l [] = []
guarded l (x ∷ xs) = If (Off l) (x ∷ xs) [] ∷ []

-- Leap, T, Land at the places i and j
abbrev pub joined_after : ℕ → ℕ → ℕ → List Item → List Item
joined_after l i j xs = take i xs ++ guarded l (slice_range xs (i + 1) j) ++ drop j xs

-- Land, T, Leap at the places j and i
abbrev pub joined_before : ℕ → ℕ → ℕ → List Item → List Item
joined_before l i j xs = take j xs ++ Do (slice_range xs j i) (On l) ∷ drop (i + 1) xs

abbrev pub joined : ℕ → ℕ → ℕ → List Item → List Item
joined l i j xs = cond (nat_lt i j) (joined_after l i j xs) (joined_before l i j xs)

-- where a list is, and the fact holds of it
abbrev pub Holds : {A : Type 0} → (A → Type 0) → Option A → Type 0
Holds P None = ⊥
Holds P (Some a) = P a

abbrev pub list_there : List Item → List Step → List Item
list_there xs ss = unwrap_or (list_at xs ss) []

-- the body after the list at the steps was joined
abbrev pub joined_at : ℕ → ℕ → ℕ → List Step → List Item → List Item
joined_at l i j ss xs = put_at xs ss (joined l i j (list_there xs ss))

-- rule J applies
pub record CanJoin (l i j : ℕ) (steps : List Step) (body : List Item) : Type 0 where
  -- the Leap
  pub leap : item_at body steps i ≡ Some (Leap l)
  -- the Land, in the same list
  pub land : item_at body steps j ≡ Some (Land l)

-- the body `old` becomes `new` by rule J
pub record Joins (l i j : ℕ) (steps : List Step) (old new : List Item) : Type 0 where
  pub applies : CanJoin l i j steps old
  pub body : new ≡ joined_at l i j steps old
