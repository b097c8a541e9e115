-- The printed text of what stands in a file reads back as it is (ISO/IEC 9899:2011, 6.9).
use Rattle.std.proofs.Common.{◌≡◌, ◌+◌, ℕ, cond, List, [], ◌∷◌, ◌++◌, map, Option, Some, None, is_some, refl, ap, sym, subst, ◌∙◌}
use Rattle.std.specs.Prelude.{IsSomeAnd}
use Rattle.std.specs.Prelude.{Ok}
use Rattle.c_types.specs.Words.{known_functions}
use Rattle.c_tree.specs.declared.tree.Program.{Program}
use Rattle.c_lexer.specs.declared.token.Token.{Token}
use Rattle.c_lexer.specs.declared.token.Span.{Span}
use Rattle.c_grammar.specs.Words.{word_of}
use Rattle.c_scopes.specs.Files.{start}
use Rattle.c_scopes.specs.Resolving.{file_at, resolved, answer, program_of, violation_of, least}
use Rattle.c_resolved_defs.specs.Scopes.{at_start, NamesAreBound}
use Rattle.print_laws.specs.Reread.{spellings}
use Rattle.print_laws.specs.PrintSyntaxLaws.{printed_pieces}
use Rattle.print_laws.proofs.Standings.{first_stands}
use Rattle.reread_parts_laws.specs.Laws.{ScopeIsOfFile}
use Rattle.reread_parts_laws.proofs.StartScopes.{at_the_start}
use Rattle.reread_parts_laws.proofs.FileSources.{file_writes}
use Rattle.c_tree.specs.declared.tree.Top.{Top}
use Rattle.c_tree.specs.declared.tree.Top.TheVariants as T
use Rattle.c_tree.specs.declared.tree.Home.TheVariants as H
use Rattle.c_tree.specs.declared.tree.Function.{Function}
use Rattle.c_tree.specs.declared.tree.Item.{Item}
use Rattle.c_tree.specs.declared.tree.EnumItem.{EnumItem}
use Rattle.c_tree.specs.TextPieces.{Piece, newline, verbatim, joined}
use Rattle.c_tree.specs.Text.{top_text, function_text}
use Rattle.c_grammar.specs.FileSyntax.{enumeration_end, declaration_end, function_end}
use Rattle.c_lexer.specs.Pieces.{bare}
use Rattle.c_lexer.specs.declared.token.TokenKind.TheVariants as k
use Rattle.c_grammar.specs.Tops as tops
use Rattle.c_kinds.specs.declared.binding.Binding.TheVariants as binding
use Rattle.c_kinds.specs.Scopes.{Faults}
use Rattle.c_kinds.specs.Scopes as kinds
use Rattle.c_scopes.specs.Files.{File, State, env_of, function_declared, behind_form, file_faults}
use Rattle.c_scopes.specs.FunctionNames.{with_function}
use Rattle.c_resolved_defs.specs.Names.{Names, the_function}
use Rattle.c_resolved_defs.specs.Scopes.{Scope, Meaning, AConstant, AVariable, AFunction, bind, bind_constants, behind_top}
use Rattle.c_resolved_defs.specs.Limits.{FlatCounts}
use Rattle.c_resolved_defs.specs.Verbatims.{IsDirective}
use Rattle.print_laws.specs.Reread.{Spelling, spelling}
use Rattle.print_laws.specs.Standing.{Stands}
use Rattle.print_laws.specs.FileDerivations.{global_of, enumeration_of, function_of, body_of}
use Rattle.print_laws.specs.FileDerivations as derivation
use Rattle.print_laws.proofs.Standings.{next}
use Rattle.reread_parts_laws.specs.WrittenFunctions.{written_function, written_function_body}
use Rattle.reread_parts_laws.specs.WrittenFiles.{written_tops, written_form, written_enumeration}
use Rattle.c_grammar.specs.Files.{OfDeclaration}
use Rattle.reread_parts_laws.specs.Words.{AreWords}
use Rattle.reread_parts_laws.specs.Bindings.{IsInScope, AreSameScopes}
use Rattle.reread_parts_laws.specs.Laws.{FunctionReads, IsWrittenAs, IsDeclared, NameReads, IsOfFile, AreOfFile, IsFileFunction, bodies_behind, AreTops, FileReads}
use Rattle.reread_parts_laws.proofs.ListsRead.{past_comment}
use Rattle.reread_parts_laws.proofs.GlobalsRead.{global_reads}
use Rattle.reread_parts_laws.proofs.EnumsRead.{enum_reads}
use Rattle.reread_parts_laws.proofs.FunctionsRead.{function_reads}
use Rattle.reread_parts_laws.proofs.FunctionNamesRead.{sig, bound_same, name_reads}
use Rattle.reread_parts_laws.proofs.StartScopes.{in_function}

-- ---- scopes

bind_inside : (m : List ℕ) (b : Meaning) (ss : List Scope) → IsInScope ss → IsInScope (bind m b ss)
bind_inside m b [] h = absurd h
bind_inside m b (s ∷ ss) h = tt

bind_of_file : (m : List ℕ) (b : Meaning) (ss : List Scope) → IsOfFile b → AreOfFile ss → AreOfFile (bind m b ss)
bind_of_file m b [] k h = ((k, tt), tt)
bind_of_file m b (s ∷ ss) k h = ((k, h.0), h.1)

constants_inside : (es : List EnumItem) (ss : List Scope) → IsInScope ss → IsInScope (bind_constants es ss)
constants_inside [] ss h = h
constants_inside (e ∷ es) ss h = constants_inside es (bind e.name (AConstant e.value) ss) (bind_inside e.name (AConstant e.value) ss h)

constants_of_file : (es : List EnumItem) (ss : List Scope) → AreOfFile ss → AreOfFile (bind_constants es ss)
constants_of_file [] ss h = h
constants_of_file (e ∷ es) ss h = constants_of_file es (bind e.name (AConstant e.value) ss) (bind_of_file e.name (AConstant e.value) ss tt h)

-- ---- lines

directive_here : (word : ℕ → List ℕ) (tokens : List Spelling) → AreWords word tokens → (bytes : List ℕ) (at : ℕ) (ps : List Piece) →
    IsDirective bytes → Stands tokens at (verbatim bytes (newline ps)) → (word at ≡ bytes) × Stands tokens (at + 1) ps
directive_here word tokens words [] at ps h s = absurd h
directive_here word tokens words (a ∷ []) at ps h s = absurd h
directive_here word tokens words (a ∷ b ∷ w) at ps h s =
    let e = subst (λ x. Stands tokens at (verbatim (x ∷ b ∷ w) (newline ps))) (h.0) s in
    let m = next tokens at (spelling k.Directive (35 ∷ bare (b ∷ w))) (newline ps) e in
    (words at _ (m.here) ∙ (λ i. sym (h.0) i ∷ (h.1).ended i), m.behind)

notes_on : (noted : List (List ℕ)) (b : List ℕ) (xs : List Top) → map T.Note (noted ++ b ∷ []) ++ xs ≡ map T.Note noted ++ T.Note b ∷ xs
notes_on [] b xs = refl
notes_on (x ∷ noted) b xs = ap (λ l. T.Note x ∷ l) (notes_on noted b xs)

through : (l : List Top) (b : Top) (d : List Top) → (l ++ (b ∷ [])) ++ d ≡ l ++ (b ∷ d)
through [] b d = refl
through (x ∷ l) b d = ap (λ r. x ∷ r) (through l b d)

one_more : (l noted : List (List ℕ)) (a : List Top) (b : Top) (c d : List Top) → l ≡ noted → a ≡ b ∷ [] → c ≡ d →
    map T.Note l ++ a ++ c ≡ map T.Note noted ++ b ∷ d
one_more l noted a b c d e f g = (λ i. map T.Note (e i) ++ f i ++ g i) ∙ through (map T.Note noted) b d

-- ---- functions

module _ (counts : FlatCounts) (ts : List Top) (file : File) (tokens : List Spelling) (words : AreWords file.word tokens) where
  abbrev n : Names
  n = record { tops = ts; slots = [] }

  abbrev of : Function → ℕ → tops.Function
  of f at = written_function file.word at (function_of f)

  body_same : (f : Function) (at : ℕ) → is_some (of f at).body ≡ is_some f.body
  body_same f at = by_body f.body _
    where
      by_body : (o : Option (List Item)) (y : ℕ) → is_some (written_function_body y (body_of f.slots o)) ≡ is_some o
      by_body None y = refl
      by_body (Some xs) y = refl

  record FunctionHere (f : Function) (s : State) (ss : List Scope) (at : ℕ) (ps : List Piece) : Type 0 where
    here : FunctionReads f file.word file.notes tokens (function_declared file (of f at) s).scopes at ps
    named : NameReads ts f file.bodies s.bodies (of f at) (env_of file s) ss
    bodies_are : (function_declared file (of f at) s).bodies ≡ bodies_behind f s.bodies

  function_here : (f : Function) (s : State) (ss : List Scope) (at : ℕ) (ps : List Piece) → IsInScope ss → AreOfFile ss →
      AreSameScopes n ss s.scopes → IsFileFunction counts ts file f ss s.bodies at → Stands tokens at (function_text f ps) → FunctionHere f s ss at ps
  function_here f s ss at ps there k h g b = by_declared (the_function f.name ts) (g.declared)
    where
      by_declared : (o : Option Function) → IsSomeAnd o (λ g. IsDeclared ts f g file.bodies s.bodies ss) → FunctionHere f s ss at ps
      by_declared None d = absurd d
      by_declared (Some q) d =
          let x = of f at in
          let behind = behind_top ss (T.Function f) in
          let known = bind_of_file f.name AFunction ss tt k in
          let first = bound_same ts f q file.word x file.bodies s.bodies ss d s.scopes there h in
          let scopes = kinds.bind f.name (binding.Function (sig ts f q file.word x file.bodies s.bodies ss d)) s.scopes in
          let r = function_reads counts ts f file.word file.notes tokens behind scopes at (g.function) words
          (in_function ts f behind scopes known first) ps (g.notes) b in
          let w : IsWrittenAs file.word x f = record { name = r.name; result = r.result; wants = r.wants; static = refl; body = body_same f at } in
          let named = name_reads ts f q file.word x file.bodies s.bodies ss d w s.scopes there h in
          let inner = (function_declared file x s).scopes in
          record {
            here = function_reads counts ts f file.word file.notes tokens behind inner at (g.function) words
                (in_function ts f behind inner known (named.same)) ps (g.notes) b;
            named = named;
            bodies_are = (λ i. cond (w.body i) (with_function (w.name i) s.bodies) s.bodies);
          }

  -- ---- files

  pub file_reads : (xs : List Top) (ss : List Scope) (s : State) (at : ℕ) (noted : List (List ℕ)) → IsInScope ss → AreOfFile ss →
      AreSameScopes n ss s.scopes → AreTops counts ts file ss s.bodies at noted xs → Stands tokens at (joined (map top_text xs) []) →
      FileReads file s at noted xs
  file_reads [] ss s at noted there k h g b = record { tops = ap (map T.Note) g ∙ sym (ends (map T.Note noted)); clear = λ vs. refl; keywords = tt }
    where
      ends : (l : List Top) → l ++ [] ≡ l
      ends [] = refl
      ends (x ∷ l) = ap (λ r. x ∷ r) (ends l)
  file_reads (T.Note bytes ∷ xs) ss s at noted there k h g b =
      let r = file_reads xs ss s at (noted ++ bytes ∷ []) there k h (g.1) (past_comment tokens at bytes (newline (joined (map top_text xs) [])) (g.0) b) in
      record { tops = r.tops ∙ notes_on noted bytes xs; clear = r.clear; keywords = r.keywords }
  file_reads (T.Include bytes ∷ xs) ss s at noted there k h g b =
      let d = directive_here file.word tokens words bytes at (joined (map top_text xs) []) (g.0) b in
      let r = file_reads xs ss s (at + 1) [] there k h (g.2) (d.1) in
      record {
        tops = one_more _ noted (T.Include (file.word at) ∷ []) (T.Include bytes) _ xs (g.1) (λ i. T.Include (d.0 i) ∷ []) (r.tops);
        clear = r.clear;
        keywords = (tt, r.keywords);
      }
  file_reads (T.Enum [] ∷ xs) ss s at noted there k h g b = absurd g
  file_reads (T.Enum (x ∷ es) ∷ xs) ss s at noted there k h g b =
      let form = tops.Enum (written_enumeration at (enumeration_of x es)) in
      let e = enum_reads ts file.word tokens words x es ss s.scopes at (joined (map top_text xs) []) there h (g.0) b in
      let inner = behind_form file form s in
      let r = file_reads xs (bind_constants (x ∷ es) ss) inner (enumeration_end at (enumeration_of x es)) [] (constants_inside (x ∷ es) ss there)
      (constants_of_file (x ∷ es) ss k) (e.same) (g.2) (e.behind) in
      record {
        tops = one_more _ noted _ (T.Enum (x ∷ es)) _ xs (g.1) (λ i. T.Enum (e.items i) ∷ []) (r.tops);
        keywords = (tt, r.keywords);
        clear = λ vs. ap (file_faults file (written_tops file.word (enumeration_end at (enumeration_of x es)) (derivation.tops_of xs)) inner)
            (e.clear vs) ∙ r.clear vs;
      }
  file_reads (T.Global v ∷ xs) ss s at noted there k h g b =
      let e = global_reads ts v ss (env_of file s) tokens words there h (g.0) at (joined (map top_text xs) []) b in
      let form = written_form file.word at (OfDeclaration (global_of v)) in
      let inner = behind_form file form s in
      let y = declaration_end at (global_of v) in
      let r = file_reads xs (behind_top ss (T.Global v)) inner y [] (bind_inside v.slot.name (AVariable (H.Global v.slot.name)) ss there)
      (bind_of_file v.slot.name (AVariable (H.Global v.slot.name)) ss tt k) (e.same) (g.2) (e.behind) in
      record {
        tops = one_more _ noted _ (T.Global v) _ xs (g.1) (e.tops) (r.tops);
        keywords = (tt, r.keywords);
        clear = λ vs. ap (file_faults file (written_tops file.word y (derivation.tops_of xs)) inner) (e.clear vs) ∙ r.clear vs;
      }
  file_reads (T.Function f ∷ xs) ss s at noted there k h g b =
      let e = function_here f s ss at (joined (map top_text xs) []) there k h (g.0) b in
      let x = of f at in
      let inner = function_declared file x s in
      let y = function_end at (function_of f) in
      let behind = behind_top ss (T.Function f) in
      let later = subst (λ z. AreTops counts ts file behind z y [] xs) (sym (e.bodies_are)) (g.2) in
      let r = file_reads xs behind inner y [] (bind_inside f.name AFunction ss there) (bind_of_file f.name AFunction ss tt k) (e.named.same) later
      (e.here.behind) in
      record {
        tops = one_more _ noted _ (T.Function f) _ xs (g.1) (λ i. T.Function (e.here.function i) ∷ []) (r.tops);
        keywords = (e.here.keywords, r.keywords);
        clear = λ vs. ap (file_faults file (written_tops file.word y (derivation.tops_of xs)) inner)
            (e.here.clear file.flat _ ∙ (g.0).untangled _ ∙ e.named.clear vs) ∙ r.clear vs;
      }

pub program_reads : (counts : FlatCounts) (p : Program) (flat : List Item → Option (ℕ × ℕ)) (text : List ℕ) (tokens : List Token)
    (comments : List Span) → AreWords (word_of text tokens) (spellings (printed_pieces p)) → NamesAreBound p.tops
    → AreTops counts p.tops (file_at flat text tokens comments (written_tops (word_of text tokens) 0 (derivation.file_of p))) at_start [] 0 []
    p.tops → resolved flat text tokens comments (derivation.syntax_of p) ≡ Ok p
program_reads counts p flat text tokens comments words bound h =
    let word = word_of text tokens in
    let xs = written_tops word 0 (derivation.file_of p) in
    let file = file_at flat text tokens comments xs in
    let known = at_the_start p.tops bound in
    let r = file_reads counts p.tops file (spellings (printed_pieces p)) words p.tops at_start start 0 [] tt ((tt, (library_of_file, tt))) known h
    (first_stands p) in
    ap (λ z. answer text tokens (program_of (file_at flat text tokens comments z) z) (violation_of (file_at flat text tokens comments z) z))
    (file_writes word (derivation.file_of p) (r.keywords))
    ∙ (λ i. answer text tokens (record { tops = r.tops i }) (least (r.clear [] i)))
  where
    library_of_file : ScopeIsOfFile (map (λ m. (m, AFunction)) known_functions)
    library_of_file = (tt, (tt, (tt, (tt, (tt, tt)))))
