-- Names with numbers that follow one another.
use Rattle.std.specs.Prelude.{ℕ, ◌≡◌, ◌≤◌, ◌<◌, true, List}
use Rattle.std.specs.List.{AllByRecursion}
use Rattle.c_copies.specs.Names.{has_name}
use Rattle.c_fresh_names.specs.Fresh.{numbered}
use Rattle.c_fresh_names.specs.declared.file_names.Run.{Run}

-- base_m, base_(m + 1) and so on below base_n are used
abbrev pub AreUsedFrom : List (List ℕ) → List ℕ → ℕ → ℕ → Type 0
AreUsedFrom used base m n = (i : ℕ) → m ≤ i → i < n → has_name used (numbered base i) ≡ true

-- these are such stretches
abbrev pub AreRuns : List (List ℕ) → List Run → Type 0
AreRuns used rs = AllByRecursion (λ (r : Run). AreUsedFrom used r.base r.first r.behind) rs
