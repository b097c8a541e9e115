-- One label after another: its name, the names that are used then, and the number of the next name that is made.
use Rattle.std.specs.Prelude.{ℕ, ◌+◌, ◌/◌, ◌%◌, eqb, cond, List, [], get_or, codes}
use Rattle.c_copies.specs.Names.{with_name}
use Rattle.c_fresh_names.specs.Fresh.{numbered, fresh}

-- the name of a label with this code, of a function with these labels
abbrev pub chosen : List (List ℕ) → List (List ℕ) → ℕ → ℕ → List ℕ
chosen labels used n c = cond (eqb (c % 7) 0) (get_or labels (c / 7) []) (fresh (numbered (codes "low") n) used)

abbrev pub used_then : List (List ℕ) → ℕ → ℕ → List (List ℕ)
used_then used n c = cond (eqb (c % 7) 0) used (with_name used (fresh (numbered (codes "low") n) used))

abbrev pub next_then : ℕ → ℕ → ℕ
next_then n c = cond (eqb (c % 7) 0) n (n + 1)
