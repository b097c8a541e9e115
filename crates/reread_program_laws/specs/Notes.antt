-- The comments of a text stand where the Notes of a file are printed.
use Rattle.std.specs.Prelude.{◌≡◌, ℕ, ◌+◌, List, [], ◌∷◌, ◌++◌}
use Rattle.c_tree.specs.declared.tree.Top.{Top}
use Rattle.c_tree.specs.declared.tree.Top.TheVariants as T
use Rattle.c_grammar.specs.FileSyntax.{enumeration_end, declaration_end, function_end}
use Rattle.c_statements.specs.declared.anchors.Anchor.{Anchor}
use Rattle.c_statements.specs.declared.anchors.Anchor.TheVariants.{Before, Last}
use Rattle.print_laws.specs.FileDerivations.{enumeration_of, global_of, function_of}
use Rattle.reread_parts_laws.specs.Laws.{NotesOfFunction, body_at}

-- from a token on, behind Notes that no token has been behind
abbrev pub NotesOfTops : (Anchor → List (List ℕ)) → ℕ → List (List ℕ) → List Top → Type 0
NotesOfTops notes at noted [] = notes Last ≡ noted
NotesOfTops notes at noted (T.Note bytes ∷ xs) = NotesOfTops notes at (noted ++ bytes ∷ []) xs
NotesOfTops notes at noted (T.Include bytes ∷ xs) = (notes (Before at) ≡ noted) × NotesOfTops notes (at + 1) [] xs
NotesOfTops notes at noted (T.Enum [] ∷ xs) = NotesOfTops notes at noted xs
NotesOfTops notes at noted (T.Enum (x ∷ es) ∷ xs) = (notes (Before at) ≡ noted) × NotesOfTops notes (enumeration_end at (enumeration_of x es)) [] xs
NotesOfTops notes at noted (T.Global g ∷ xs) = (notes (Before at) ≡ noted) × NotesOfTops notes (declaration_end at (global_of g)) [] xs
NotesOfTops notes at noted (T.Function f ∷ xs) =
    (notes (Before at) ≡ noted) × NotesOfFunction f notes (body_at at f) f.body × NotesOfTops notes (function_end at (function_of f)) [] xs
