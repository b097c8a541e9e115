-- What a shelf holds, and what a source gives.
use Rattle.std.specs.Prelude.{◌≡◌, ℕ, ◌⊎◌, List, ◌++◌, take, Option, None, Some}
use Rattle.std.specs.FinMap.{FinMap, insert}
use Rattle.c_types.specs.Words.{name_cmp}

-- the bytes of each file, by the bytes of its name
abbrev pub Files : Type 0
Files = FinMap name_cmp (List ℕ)

-- where a source tells its bytes, these are the next, and the others are left
abbrev pub Takes : Option (List ℕ) → Option (List ℕ) → List ℕ → Type 0
Takes None new bytes = new ≡ None
Takes (Some left) new bytes = (others : List ℕ) × (left ≡ bytes ++ others) × (new ≡ Some others)

-- where a shelf tells its files, they are as before, or the named one holds a prefix of the bytes
abbrev pub HoldsPrefix : Option Files → Option Files → List ℕ → List ℕ → Type 0
HoldsPrefix None new name bytes = new ≡ None
HoldsPrefix (Some files) new name bytes =
    (new ≡ Some files) ⊎ ((n : ℕ) × (new ≡ Some (insert files name (take n bytes))))
