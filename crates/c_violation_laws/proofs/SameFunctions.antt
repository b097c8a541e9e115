-- A file is read the same, whether its functions with a body are listed in text order or are a set.
use Rattle.std.proofs.Common.{◌≡◌, ℕ, not, List, [], ◌∷◌, ◌++◌, refl, ap, ◌∙◌}
use Rattle.c_lexer.specs.declared.token.Token.{Token}
use Rattle.c_lexer.specs.declared.token.Span.{Span}
use Rattle.c_tree.specs.declared.tree.Top.TheVariants as top
use Rattle.c_grammar.specs.Words.{word_of}
use Rattle.c_grammar.specs.Tops.{Function, Form, Line, Enum, Globals, Defines, Unread, Top, From}
use Rattle.c_kinds.specs.declared.binding.Binding.TheVariants as binding
use Rattle.c_kinds.specs.Scopes.{Faults}
use Rattle.c_statements.specs.declared.anchors.Anchor.TheVariants.{Before}
use Rattle.c_statements.specs.Functions.{FlatCounts, signature, function_of, function_faults}
use Rattle.c_scopes.specs.FileNames.{bound_in}
use Rattle.c_scopes.specs.FunctionNames.{has_function, with_body, signature_in, name_faults}
use Rattle.c_scopes.specs.Files.{File, State, env_of, start, notes_tops, function_declared, behind_form, form_tops, form_faults, tops_of, file_faults}
use Rattle.c_scopes.specs.Resolving.{file_at, program_of, violation_of, least}
use Rattle.c_kinds.specs.Typing.{typed}
use Rattle.c_reading_defs.specs.Symbols.{Symbol}
use Rattle.c_reading_defs.specs.DerivedTops.{IsFile}
use Rattle.c_reading_defs.specs.Scopes.{Identifier}
use Rattle.c_reading_defs.specs.FileScopes.{IsFileScope}
use Rattle.c_reading_defs.specs.Programs.{program, defined, file_written}
use Rattle.c_violation_laws.proofs.Comments.{notes_same}
use Rattle.c_violation_laws.proofs.Programs.{program_same, defined_same}

module _ (file : File) (bodies : List (List ℕ)) (same : (name : List ℕ) → has_function file.bodies name ≡ has_function bodies name) where
  abbrev again : File
  again = record { word = file.word; notes = file.notes; bodies = bodies; flat = file.flat }

  signature_same : (f : Function) → signature_in file.bodies file.word f ≡ signature_in bodies file.word f
  signature_same f = λ i. signature file.word (not (same (file.word f.name) i)) f

  declared_same : (f : Function) (s : State) → function_declared file f s ≡ function_declared again f s
  declared_same f s = λ i. record {
    scopes = (bound_in f.name (binding.Function (signature_same f i)) (env_of file s)).scopes;
    bodies = with_body file.word f s.bodies;
  }

  form_behind : (form : Form) (s : State) → behind_form file form s ≡ behind_form again form s
  form_behind Line s = refl
  form_behind (Enum es) s = refl
  form_behind (Globals static d) s = refl
  form_behind (Defines f) s = declared_same f s
  form_behind Unread s = refl

  form_same : (first : ℕ) (form : Form) (s : State) → form_tops file first form s ≡ form_tops again first form s
  form_same first Line s = refl
  form_same first (Enum es) s = refl
  form_same first (Globals static d) s = refl
  form_same first (Defines f) s = λ i. top.Function (function_of file.word file.notes f (declared_same f s i).scopes) ∷ []
  form_same first Unread s = refl

  tops_same : (xs : List Top) (s : State) → tops_of file xs s ≡ tops_of again xs s
  tops_same [] s = refl
  tops_same (From first after form ∷ xs) s = λ i. (notes_tops file (Before first) ++ form_same first form s i) ++ tops_same xs (form_behind form s i) i

  faults_of_form : (form : Form) (s : State) (vs : Faults) → form_faults file form s vs ≡ form_faults again form s vs
  faults_of_form Line s vs = refl
  faults_of_form (Enum es) s vs = refl
  faults_of_form (Globals static d) s vs = refl
  faults_of_form (Defines f) s vs =
      λ i. function_faults file.flat file.word file.notes f (declared_same f s i).scopes (name_faults s.bodies (signature_same f i) f (env_of file s) vs)
  faults_of_form Unread s vs = refl

  faults_same : (xs : List Top) (s : State) (vs : Faults) → file_faults file xs s vs ≡ file_faults again xs s vs
  faults_same [] s vs = refl
  faults_same (From first after form ∷ xs) s vs = λ i. faults_same xs (form_behind form s i) (faults_of_form form s vs i) i

module _ (flat : FlatCounts) (text : List ℕ) (tokens : List Token) (comments : List Span) (xs : List Top) where
  -- with the comments at their places
  noted : again (file_at flat text tokens comments xs) (defined (word_of text tokens) xs) (defined_same (word_of text tokens) xs) ≡ file_written flat
      text tokens comments xs
  noted = λ i. record { word = word_of text tokens; notes = notes_same text tokens comments xs i; bodies = defined (word_of text tokens) xs; flat = flat }

  -- the file of a text breaks the same rules
  pub violation_written : violation_of (file_at flat text tokens comments xs) xs ≡ violation_of (file_written flat text tokens comments xs) xs
  violation_written =
      ap least (faults_same (file_at flat text tokens comments xs) (defined (word_of text tokens) xs) (defined_same (word_of text tokens) xs) xs start [])
      ∙ (λ i. violation_of (noted i) xs)

  -- and is the same program
  pub program_written : (symbols : List Symbol) → IsFile 0 symbols xs → (scope : List Identifier) →
      IsFileScope typed (file_written flat text tokens comments xs) xs scope
      → program_of (file_at flat text tokens comments xs) xs ≡ program typed (file_written flat text tokens comments xs) scope xs
  program_written symbols derives scope e =
      (λ i. record {
        tops = tops_same (file_at flat text tokens comments xs) (defined (word_of text tokens) xs)
            (defined_same (word_of text tokens) xs) xs start i;
      })
      ∙ (λ i. program_of (noted i) xs)
      ∙ program_same (file_written flat text tokens comments xs) symbols xs derives scope e
