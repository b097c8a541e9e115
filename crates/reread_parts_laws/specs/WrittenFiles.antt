-- What the derivations of files write (ISO/IEC 9899:2011, 6.9), from the number of the first token on.
use Rattle.std.specs.Prelude.{ℕ, ◌+◌, List, [], ◌∷◌, Option, Some, None}
use Rattle.c_grammar.specs.Expressions.{Conditional}
use Rattle.c_grammar.specs.StatementSyntax.{word_end}
use Rattle.c_grammar.specs.Files.{Enumeration, Enumerated, Declares, Top, Line, OfEnum, OfDeclaration, OfFunction}
use Rattle.c_grammar.specs.FileSyntax.{enumerator_end, top_end}
use Rattle.c_grammar.specs.Terms.{Term, At}
use Rattle.c_grammar.specs.Tops as s
use Rattle.reread_parts_laws.specs.WrittenExpressions.{conditional_form}
use Rattle.reread_parts_laws.specs.WrittenStatements.{written_declaration}
use Rattle.reread_parts_laws.specs.WrittenFunctions.{written_function}
use Rattle.reread_parts_laws.specs.Keywords.{FunctionHasKeywords}

-- from its `=` on
abbrev pub written_constant : ℕ → Option Conditional → Option Term
written_constant at None = None
written_constant at (Some d) = Some (At (at + 1) (conditional_form (at + 1) d))

abbrev pub written_enumerator : ℕ → Option Conditional → s.Enumerator
written_enumerator at value = record { name = at; value = written_constant (at + 1) value }

-- from the comma on
abbrev pub further_enumerators : ℕ → List (Option Conditional) → List s.Enumerator
further_enumerators at [] = []
further_enumerators at (x ∷ xs) = written_enumerator (at + 1) x ∷ further_enumerators (enumerator_end (at + 1) x) xs

abbrev pub written_enumeration : ℕ → Enumeration → List s.Enumerator
written_enumeration at (Enumerated x xs trailing) = written_enumerator (at + 1 + 1) x ∷ further_enumerators (enumerator_end (at + 1 + 1) x) xs

abbrev pub written_form : (ℕ → List ℕ) → ℕ → Top → s.Form
written_form word at Line = s.Line
written_form word at (OfEnum x) = s.Enum (written_enumeration at x)
written_form word at (OfDeclaration (Declares static x)) = s.Globals static (written_declaration (word_end at static) x)
written_form word at (OfFunction x) = s.Defines (written_function word at x)

abbrev pub written_tops : (ℕ → List ℕ) → ℕ → List Top → List s.Top
written_tops word at [] = []
written_tops word at (x ∷ xs) = s.From at (top_end at x) (written_form word at x) ∷ written_tops word (top_end at x) xs

-- ---- the words are keywords as the derivations have them

abbrev pub TopHasKeywords : (ℕ → List ℕ) → ℕ → Top → Type 0
TopHasKeywords word at (OfFunction x) = FunctionHasKeywords word at x
TopHasKeywords word at _ = Unit {0}

abbrev pub FileHasKeywords : (ℕ → List ℕ) → ℕ → List Top → Type 0
FileHasKeywords word at [] = Unit {0}
FileHasKeywords word at (x ∷ xs) = TopHasKeywords word at x × FileHasKeywords word (top_end at x) xs
