-- From which number on a name with a number may be free.
use Rattle.std.specs.Prelude.{ℕ, ◌≤◌, cond, List, [], ◌∷◌, Option, Some, None}
use Rattle.std.specs.BTreeMap.{insert_entry}
use Rattle.std.specs.List.{AllByRecursion}
use Rattle.std.specs.Str.{bytes_eq}
use Rattle.c_types.specs.Words.{name_cmp}
use Rattle.c_fresh_names.specs.Runs.{AreUsedFrom}

-- names in byte order, each with a number
abbrev pub Numbers : Type 0
Numbers = List (List ℕ × ℕ)

abbrev pub found : List ℕ → Numbers → Option ℕ
found name [] = None
found name (e ∷ es) = cond (bytes_eq name e.0) (Some e.1) (found name es)

-- the number of a name, or the first
abbrev pub or_first : Option ℕ → ℕ
or_first None = 2
or_first (Some n) = n

abbrev pub with_number : List ℕ → ℕ → Numbers → Numbers
with_number name n es = insert_entry name_cmp es name n

-- the names base_2, base_3 and so on below base_n are used
abbrev pub IsUsedBelow : List (List ℕ) → List ℕ → ℕ → Type 0
IsUsedBelow used base n = AreUsedFrom used base 2 n

-- so are those of each name below its number, which is no less than 2
abbrev pub AreUsedBelow : List (List ℕ) → Numbers → Type 0
AreUsedBelow used es = AllByRecursion (λ (e : List ℕ × ℕ). (2 ≤ e.1) × IsUsedBelow used e.0 e.1) es
