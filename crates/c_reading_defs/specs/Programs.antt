-- The program that a file writes (ISO/IEC 9899:2011, 6.9).
use Rattle.std.specs.Prelude.{ℕ, Bool, cond, is_some, List, [], ◌∷◌, ◌++◌, map, flat_map, option_map}
use Rattle.c_tree.specs.declared.tree.EnumItem.{EnumItem}
use Rattle.c_tree.specs.declared.tree.Program.{Program}
use Rattle.c_tree.specs.declared.tree.Top as tree_top
use Rattle.c_tree.specs.declared.tree.Top.TheVariants as top
use Rattle.c_lexer.specs.Behind.{each_behind}
use Rattle.c_lexer.specs.declared.token.Token.{Token}
use Rattle.c_lexer.specs.declared.token.Span.{Span}
use Rattle.c_grammar.specs.Words.{word_of}
use Rattle.c_grammar.specs.Items.{Declarator}
use Rattle.c_grammar.specs.Tops.{Enumerator, Form, Line, Enum, Globals, Defines, Unread, Top, From}
use Rattle.c_statements.specs.declared.extents.Kinded.{Kinded}
use Rattle.c_statements.specs.declared.anchors.Anchor.TheVariants.{Before, Last}
use Rattle.c_statements.specs.Declarations.{kinded, initial}
use Rattle.c_statements.specs.Functions.{FlatCounts}
use Rattle.c_scopes.specs.Enums.{or_zero}
use Rattle.c_scopes.specs.Files.{File, notes_tops}
use Rattle.c_reading_defs.specs.Comments.{notes_of}
use Rattle.c_reading_defs.specs.Typings.{Typing}
use Rattle.c_reading_defs.specs.Written.{constant_at, slot_of}
use Rattle.c_reading_defs.specs.Scopes.{Identifier, names_at, names_for}
use Rattle.c_reading_defs.specs.FileScopes.{enumerator_value}
use Rattle.c_reading_defs.specs.Bodies.{function_of}

-- ---- what stands at file scope

abbrev pub enum_item : Typing → (ℕ → List ℕ) → List (List Identifier) → List Enumerator → Enumerator → EnumItem
enum_item typing word scopes front e = record {
  name = word e.name;
  given = option_map (constant_at typing (λ t. names_at word scopes e.name)) e.value;
  value = or_zero (enumerator_value typing word scopes front e);
}

abbrev pub global : Typing → (ℕ → List ℕ) → List (List Identifier) → Bool → Kinded → Declarator → tree_top.Top
global typing word scopes static k d =
    top.Global (record {
      slot = slot_of typing (names_at word scopes d.name) k d;
      init = initial (constant_at typing (names_for word scopes)) d.value;
      file_only = static;
    })

abbrev pub form_tops : Typing → File → List (List Identifier) → ℕ → Form → List tree_top.Top
form_tops typing file scopes first Line = top.Include (file.word first) ∷ []
form_tops typing file scopes first (Enum es) = top.Enum (each_behind (enum_item typing file.word scopes) es) ∷ []
form_tops typing file scopes first (Globals static d) = map (global typing file.word scopes static (kinded file.word d)) d.names
form_tops typing file scopes first (Defines f) = top.Function (function_of typing file.word file.notes f scopes) ∷ []
form_tops typing file scopes first Unread = []

-- with the Notes in front of it
abbrev pub top_tops : Typing → File → List (List Identifier) → Top → List tree_top.Top
top_tops typing file scopes (From first after form) = notes_tops file (Before first) ++ form_tops typing file scopes first form

-- of a file of this scope
abbrev pub program : Typing → File → List Identifier → List Top → Program
program typing file scope xs = record { tops = flat_map (top_tops typing file (scope ∷ [])) xs ++ notes_tops file Last }

-- ---- the file

-- the functions that have a body in the file
abbrev pub defined : (ℕ → List ℕ) → List Top → List (List ℕ)
defined word [] = []
defined word (From first after (Defines f) ∷ xs) = cond (is_some f.body) (word f.name ∷ defined word xs) (defined word xs)
defined word (x ∷ xs) = defined word xs

-- what is known of the file of a text everywhere in it
abbrev pub file_written : FlatCounts → List ℕ → List Token → List Span → List Top → File
file_written flat text tokens comments xs =
    record { word = word_of text tokens; notes = notes_of text tokens comments xs; bodies = defined (word_of text tokens) xs; flat = flat }
