-- The plain form of a program in which these names are used.
use Rattle.std.specs.Prelude.{ℕ, List}
use Rattle.c_tree.specs.declared.tree.Program.{Program}
use Rattle.plain_laws.specs.Plain.{plain_with}
use Rattle.guard_vars.specs.GuardNames.{guard_names}

-- with the names that `guard_names` gives to the guards of each function
abbrev pub plain : List (List ℕ) → Program → Program
plain ns p = plain_with (guard_names ns) p
