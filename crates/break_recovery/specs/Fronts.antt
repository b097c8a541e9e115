-- Where the declarations of slots stand.
use Rattle.std.specs.Prelude.{ℕ, ◌≡◌, ◌⊎◌, Bool, true, false, List, [], ◌∷◌, slice_set}
use Rattle.c_tree.specs.Trees.{Tree, Forest, Nil, Then, If, While, Do, For, Switch, Block}
use Rattle.tidy_laws.specs.Changes.{declares, undeclared}

-- an item that holds no list
abbrev pub holds_none : Tree → Bool
holds_none (If t a b) = false
holds_none (While t a) = false
holds_none (Do a t) = false
holds_none (For a t u b) = false
holds_none (Switch s c) = false
holds_none (Block a) = false
holds_none x = true

-- no `int g = 0;` stands in the list itself
abbrev pub DeclaresNone : Forest → Type 0
DeclaresNone a = (g : ℕ) → declares g a ≡ false

-- each `int g = 0;` stands in front of all items that hold lists
abbrev pub DeclaresFirst : Forest → Type 0
DeclaresFirst Nil = Unit {0}
DeclaresFirst (Then x xs) = ((holds_none x ≡ true) × DeclaresFirst xs) ⊎ DeclaresNone (Then x xs)

-- a list without the first `int g = 0;` of each of these slots
abbrev pub all_undeclared : List ℕ → Forest → Forest
all_undeclared [] a = a
all_undeclared (g ∷ gs) a = all_undeclared gs (undeclared g a)

-- with these slots marked
abbrev pub all_marked : List Bool → List ℕ → List Bool
all_marked gone [] = gone
all_marked gone (g ∷ gs) = all_marked (slice_set gone g true) gs
