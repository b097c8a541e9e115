-- Names that are not used yet.
use Rattle.std.specs.Prelude.{ℕ, zero, suc, ◌+◌, cond, List, ◌++◌, length, codes}
use Rattle.std.specs.Fmt.{decimal}
use Rattle.c_copies.specs.Names.{has_name}

-- the name with a number, as name_2
abbrev pub numbered : List ℕ → ℕ → List ℕ
numbered base n = base ++ codes "_" ++ decimal n

-- the first of base_n, base_(n + 1) and so on that is not used, after at most so many that are
abbrev pub first_free : List (List ℕ) → List ℕ → ℕ → ℕ → List ℕ
first_free used base n zero = numbered base n
first_free used base n (suc more) = cond (has_name used (numbered base n)) (first_free used base (n + 1) more) (numbered base n)

-- the name itself if it is not used, else the first of base_2, base_3 and so on that is not used
abbrev pub fresh : List ℕ → List (List ℕ) → List ℕ
fresh base used = cond (has_name used base) (first_free used base 2 (length used)) base
