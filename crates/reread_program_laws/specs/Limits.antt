-- The printed functions of a file are not too tangled.
use Rattle.std.specs.Prelude.{◌≡◌, ℕ, ◌+◌, List, [], ◌∷◌}
use Rattle.c_tree.specs.declared.tree.Function.{Function}
use Rattle.c_tree.specs.declared.tree.Top.{Top}
use Rattle.c_tree.specs.declared.tree.Top.TheVariants as T
use Rattle.c_grammar.specs.FileSyntax.{enumeration_end, declaration_end, function_end}
use Rattle.c_kinds.specs.Scopes.{Faults}
use Rattle.c_scopes.specs.Files.{File}
use Rattle.print_laws.specs.FileDerivations.{enumeration_of, global_of, function_of}
use Rattle.reread_parts_laws.specs.WrittenFunctions.{written_function}
use Rattle.reread_parts_laws.specs.Laws.{measured}

-- a function that begins at a token
abbrev pub IsMeasured : File → ℕ → Function → Type 0
IsMeasured file at f = (vs : Faults) → measured file.flat file.word (written_function file.word at (function_of f))
    (written_function file.word at (function_of f)).body f.body vs ≡ vs

abbrev pub AreMeasured : File → ℕ → List Top → Type 0
AreMeasured file at [] = Unit {0}
AreMeasured file at (T.Note bytes ∷ xs) = AreMeasured file at xs
AreMeasured file at (T.Include bytes ∷ xs) = AreMeasured file (at + 1) xs
AreMeasured file at (T.Enum [] ∷ xs) = AreMeasured file at xs
AreMeasured file at (T.Enum (x ∷ es) ∷ xs) = AreMeasured file (enumeration_end at (enumeration_of x es)) xs
AreMeasured file at (T.Global g ∷ xs) = AreMeasured file (declaration_end at (global_of g)) xs
AreMeasured file at (T.Function f ∷ xs) = IsMeasured file at f × AreMeasured file (function_end at (function_of f)) xs
