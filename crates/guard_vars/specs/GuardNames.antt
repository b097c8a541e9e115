-- The names of the guards of labels.
use Rattle.std.specs.Prelude.{ℕ, ◌≡◌, false, List, [], ◌∷◌, ◌++◌, codes}
use Rattle.c_types.specs.Words.{known_functions}
use Rattle.c_copies.specs.Names.{has_name, with_name, with_names, slots_names}
use Rattle.c_tree.specs.declared.tree.Function.{Function}
use Rattle.c_fresh_names.specs.Fresh.{fresh}

-- the name of a label's guard
abbrev pub guard_name : List ℕ → List (List ℕ) → List ℕ
guard_name label used = fresh (codes "goto_" ++ label) used

-- a name for the guard of each label; a name that was given is used from then on
abbrev pub named_guards : List (List ℕ) → List (List ℕ) → List (List ℕ)
named_guards used [] = []
named_guards used (l ∷ ls) = let g = guard_name l used in g ∷ named_guards (with_name used g) ls

-- the names that no guard of a file may have: those of the file and those of the library
abbrev pub names_used : List (List ℕ) → List (List ℕ)
names_used ns = with_names [] (ns ++ known_functions)

-- the names of a function's variables and labels
abbrev pub own_names : Function → List (List ℕ)
own_names f = slots_names f.slots ++ f.labels

-- the names of a function's guards, where these names and its own are used
abbrev pub guard_names_beside : List (List ℕ) → Function → List (List ℕ)
guard_names_beside used f = named_guards (with_names used (own_names f)) f.labels

-- in a file with these names
abbrev pub guard_names : List (List ℕ) → Function → List (List ℕ)
guard_names ns f = guard_names_beside (names_used ns) f

-- names of which none is used, and none stands before it
abbrev pub AreNew : List (List ℕ) → List (List ℕ) → Type 0
AreNew used [] = Unit {0}
AreNew used (g ∷ gs) = (has_name used g ≡ false) × AreNew (g ∷ used) gs
