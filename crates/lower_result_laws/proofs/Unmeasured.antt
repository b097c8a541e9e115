-- The text of a program that is resolved but for the measures of its flat forms has no fault but functions that are too tangled.
use Rattle.std.proofs.Common.{◌≡◌, ◌⊎◌, inl, inr, ℕ, ◌+◌, Bool, true, false, cond, List, [], ◌∷◌, ◌++◌, map, Option, Some, None, is_some, Ok, Err, refl, sym, ap, subst, ◌∙◌}
use Rattle.std.specs.Prelude.{IsSomeAnd, IfSome, Result}
use Rattle.c_types.specs.Words.{known_functions}
use Rattle.c_types.specs.declared.refusal.Refusal.{Refusal}
use Rattle.c_tree.specs.declared.tree.Function.{Function}
use Rattle.c_tree.specs.declared.tree.Home.TheVariants as H
use Rattle.c_tree.specs.declared.tree.Item.{Item}
use Rattle.c_tree.specs.declared.tree.EnumItem.{EnumItem}
use Rattle.c_tree.specs.declared.tree.Program.{Program}
use Rattle.c_tree.specs.declared.tree.Top.{Top}
use Rattle.c_tree.specs.declared.tree.Top.TheVariants as T
use Rattle.c_tree.specs.TextPieces.{Piece, newline, verbatim, joined}
use Rattle.c_tree.specs.Text.{text_of, top_text, function_text}
use Rattle.c_grammar.specs.FileSyntax.{enumeration_end, declaration_end, function_end}
use Rattle.c_grammar.specs.Files.{OfDeclaration}
use Rattle.c_lexer.specs.declared.token.Token.{Token}
use Rattle.c_lexer.specs.declared.token.TokenKind.TheVariants as k
use Rattle.c_lexer.specs.Pieces.{bare, scanned_of}
use Rattle.c_grammar.specs.Words.{word_of}
use Rattle.c_grammar.specs.Tops as tops
use Rattle.c_kinds.specs.declared.typed.Fault.{Fault}
use Rattle.c_kinds.specs.declared.binding.Binding.TheVariants as binding
use Rattle.c_kinds.specs.Scopes.{Faults, fault_if}
use Rattle.c_kinds.specs.Scopes as kinds
use Rattle.c_grammar.specs.Items.{Body}
use Rattle.c_statements.specs.Measures.{is_tangled}
use Rattle.c_statements.specs.declared.anchors.Anchor.TheVariants.{Before}
use Rattle.c_statements.specs.Functions.{FlatCounts, measures}
use Rattle.c_scopes.specs.Files.{File, State, start, env_of, function_declared, form_tops, behind_form, tops_of, file_faults}
use Rattle.c_scopes.specs.FunctionNames.{with_function}
use Rattle.c_scopes.specs.Resolving.{file_at, answer, program_of, violation_of, refused, is_before, earlier, least_with}
use Rattle.c_scopes.specs.Reading.{of_syntax, of_tokens, reading}
use Rattle.c_resolved_defs.specs.Names.{Names, the_function}
use Rattle.c_resolved_defs.specs.Limits.{no_counts}
use Rattle.c_resolved_defs.specs.Resolved.{IsResolvedWith}
use Rattle.c_resolved_defs.specs.Scopes.{Scope, Meaning, AConstant, AVariable, AFunction, bind, bind_constants, behind_top, at_start}
use Rattle.c_resolved_defs.specs.Verbatims.{IsDirective}
use Rattle.print_laws.specs.PrintSyntaxLaws.{printed_pieces}
use Rattle.print_laws.specs.Reread.{Spelling, spelling, spellings}
use Rattle.print_laws.specs.Standing.{Stands}
use Rattle.print_laws.specs.FileDerivations.{global_of, enumeration_of, function_of, body_of}
use Rattle.print_laws.specs.FileDerivations as derivation
use Rattle.print_laws.proofs.Standings.{next, first_stands}
use Rattle.print_laws.proofs.Parsing.{printed_text_parses}
use Rattle.reread_parts_laws.specs.Bindings.{IsInScope, AreSameScopes}
use Rattle.reread_parts_laws.specs.Laws.{FunctionReads, IsWrittenAs, IsDeclared, NameReads, IsOfFile, AreOfFile, ScopeIsOfFile, IsFileFunction, bodies_behind, AreTops, measured}
use Rattle.reread_parts_laws.specs.Words.{AreWords}
use Rattle.reread_parts_laws.specs.WrittenFiles.{written_tops, written_form, written_enumeration}
use Rattle.reread_parts_laws.specs.WrittenFunctions.{written_function, written_function_body}
use Rattle.reread_parts_laws.proofs.EnumsRead.{enum_reads}
use Rattle.reread_parts_laws.proofs.FileSources.{file_writes}
use Rattle.reread_parts_laws.proofs.FilesRead.{file_reads}
use Rattle.reread_parts_laws.proofs.FunctionsRead.{function_reads}
use Rattle.reread_parts_laws.proofs.FunctionNamesRead.{sig, bound_same, name_reads}
use Rattle.reread_parts_laws.proofs.GlobalsRead.{global_reads}
use Rattle.reread_parts_laws.proofs.ListsRead.{past_comment}
use Rattle.reread_parts_laws.proofs.StartScopes.{at_the_start, in_function}
use Rattle.c_resolved_laws.specs.Laws.{HasText}
use Rattle.c_resolved_laws.proofs.TheLaws.{resolved_laws}
use Rattle.c_resolving_laws.specs.Laws.{AreCounts}
use Rattle.reread_program_laws.specs.RereadProgramLaws.{tokens_in, comments_in, tops_in, file_in}
use Rattle.reread_program_laws.proofs.Back.{words, back_laws}
use Rattle.lower_result_laws.specs.LoweredRereadLaws.{too_tangled, IsReadOrTangled}

-- ---- violations of one reason

abbrev AreTangled : Faults → Type 0
AreTangled [] = Unit {0}
AreTangled (v ∷ vs) = (v.reason ≡ too_tangled) × AreTangled vs

if_tangled : (b : Bool) (at : ℕ) (vs : Faults) → AreTangled vs → AreTangled (fault_if b at 39 vs)
if_tangled true at vs h = (refl, h)
if_tangled false at vs h = h

measured_tangled : (flat : FlatCounts) (word : ℕ → List ℕ) (x : tops.Function) (o : Option Body) (q : Option (List Item)) (vs : Faults) →
    AreTangled vs → AreTangled (measured flat word x o q vs)
measured_tangled flat word x (Some b) (Some items) vs h = at (flat items)
  where
    at : (m : Option (ℕ × ℕ)) → AreTangled (elim m [ Some n ↦ fault_if (is_tangled (measures word x b n)) x.name 39 vs | None ↦ vs ])
    at None = h
    at (Some n) = if_tangled (is_tangled (measures word x b n)) x.name vs h
measured_tangled flat word x (Some b) None vs h = h
measured_tangled flat word x None q vs h = h

abbrev IsTangled : Option Fault → Type 0
IsTangled o = IfSome o (λ (v : Fault). v.reason ≡ too_tangled)

earlier_tangled : (o : Option Fault) (v : Fault) → IsTangled o → v.reason ≡ too_tangled → (earlier o v).reason ≡ too_tangled
earlier_tangled None v h e = e
earlier_tangled (Some w) v h e = at (is_before v w)
  where
    at : (b : Bool) → (cond b v w).reason ≡ too_tangled
    at true = e
    at false = h

least_tangled : (o : Option Fault) (vs : Faults) → IsTangled o → AreTangled vs → IsTangled (least_with o vs)
least_tangled o [] h a = h
least_tangled o (v ∷ vs) h a = least_tangled (Some (earlier o v)) vs (earlier_tangled o v h a.0) a.1

-- ---- scopes

bind_inside : (m : List ℕ) (b : Meaning) (ss : List Scope) → IsInScope ss → IsInScope (bind m b ss)
bind_inside m b [] h = absurd h
bind_inside m b (s ∷ ss) h = tt

bind_of_file : (m : List ℕ) (b : Meaning) (ss : List Scope) → IsOfFile b → AreOfFile ss → AreOfFile (bind m b ss)
bind_of_file m b [] k h = ((k, tt), tt)
bind_of_file m b (s ∷ ss) k h = ((k, h.0), h.1)

constants_inside : (es : List EnumItem) (ss : List Scope) → IsInScope ss → IsInScope (bind_constants es ss)
constants_inside [] ss h = h
constants_inside (e ∷ es) ss h = constants_inside es (bind e.name (AConstant e.value) ss) (bind_inside e.name (AConstant e.value) ss h)

constants_of_file : (es : List EnumItem) (ss : List Scope) → AreOfFile ss → AreOfFile (bind_constants es ss)
constants_of_file [] ss h = h
constants_of_file (e ∷ es) ss h = constants_of_file es (bind e.name (AConstant e.value) ss) (bind_of_file e.name (AConstant e.value) ss tt h)

-- ---- files

directive_behind : (tokens : List Spelling) (bytes : List ℕ) (at : ℕ) (ps : List Piece) → IsDirective bytes →
    Stands tokens at (verbatim bytes (newline ps)) → Stands tokens (at + 1) ps
directive_behind tokens [] at ps h s = absurd h
directive_behind tokens (a ∷ []) at ps h s = absurd h
directive_behind tokens (a ∷ b ∷ w) at ps h s =
    let e = subst (λ x. Stands tokens at (verbatim (x ∷ b ∷ w) (newline ps))) h.0 s in
    let m = next tokens at (spelling k.Directive (35 ∷ bare (b ∷ w))) (newline ps) e in
    m.behind

-- a file whose jumps are not measured, and the same one where they are
module _ (ts : List Top) (file : File) (tokens : List Spelling) (words : AreWords file.word tokens) (flat : FlatCounts) where
  abbrev measuring : File
  measuring = record file { flat = flat }

  -- ---- what is read is the same

  same_form : (first : ℕ) (form : tops.Form) (s : State) → form_tops measuring first form s ≡ form_tops file first form s
  same_form first tops.Line s = refl
  same_form first (tops.Enum es) s = refl
  same_form first (tops.Globals static d) s = refl
  same_form first (tops.Defines f) s = refl
  same_form first tops.Unread s = refl

  same_state : (form : tops.Form) (s : State) → behind_form measuring form s ≡ behind_form file form s
  same_state tops.Line s = refl
  same_state (tops.Enum es) s = refl
  same_state (tops.Globals static d) s = refl
  same_state (tops.Defines f) s = refl
  same_state tops.Unread s = refl

  same_tops : (xs : List tops.Top) (s : State) → tops_of measuring xs s ≡ tops_of file xs s
  same_tops [] s = refl
  same_tops (tops.From first after form ∷ xs) s =
      (λ i. map T.Note (file.notes (Before first)) ++ same_form first form s i ++ tops_of measuring xs (same_state form s i))
      ∙ ap (λ l. map T.Note (file.notes (Before first)) ++ form_tops file first form s ++ l) (same_tops xs (behind_form file form s))

  -- ---- functions

  abbrev n : Names
  n = record { tops = ts; slots = [] }

  abbrev of : Function → ℕ → tops.Function
  of f at = written_function file.word at (function_of f)

  body_same : (f : Function) (at : ℕ) → is_some (of f at).body ≡ is_some f.body
  body_same f at = by_body f.body _
    where
      by_body : (o : Option (List Item)) (y : ℕ) → is_some (written_function_body y (body_of f.slots o)) ≡ is_some o
      by_body None y = refl
      by_body (Some xs) y = refl

  record FunctionHere (f : Function) (s : State) (ss : List Scope) (at : ℕ) (ps : List Piece) : Type 0 where
    here : FunctionReads f file.word file.notes tokens (function_declared file (of f at) s).scopes at ps
    named : NameReads ts f file.bodies s.bodies (of f at) (env_of file s) ss
    bodies_are : (function_declared file (of f at) s).bodies ≡ bodies_behind f s.bodies

  function_here : (f : Function) (s : State) (ss : List Scope) (at : ℕ) (ps : List Piece) → IsInScope ss → AreOfFile ss →
      AreSameScopes n ss s.scopes → IsFileFunction no_counts ts file f ss s.bodies at → Stands tokens at (function_text f ps) → FunctionHere f s ss at ps
  function_here f s ss at ps there k h g b = by_declared (the_function f.name ts) (g.declared)
    where
      by_declared : (o : Option Function) → IsSomeAnd o (λ g. IsDeclared ts f g file.bodies s.bodies ss) → FunctionHere f s ss at ps
      by_declared None d = absurd d
      by_declared (Some q) d =
          let x = of f at in
          let behind = behind_top ss (T.Function f) in
          let known = bind_of_file f.name AFunction ss tt k in
          let first = bound_same ts f q file.word x file.bodies s.bodies ss d s.scopes there h in
          let scopes = kinds.bind f.name (binding.Function (sig ts f q file.word x file.bodies s.bodies ss d)) s.scopes in
          let r = function_reads no_counts ts f file.word file.notes tokens behind scopes at (g.function) words
          (in_function ts f behind scopes known first) ps (g.notes) b in
          let w : IsWrittenAs file.word x f = record { name = r.name; result = r.result; wants = r.wants; static = refl; body = body_same f at } in
          let named = name_reads ts f q file.word x file.bodies s.bodies ss d w s.scopes there h in
          let inner = (function_declared file x s).scopes in
          record {
            here = function_reads no_counts ts f file.word file.notes tokens behind inner at (g.function) words
                (in_function ts f behind inner known (named.same)) ps (g.notes) b;
            named = named;
            bodies_are = (λ i. cond (w.body i) (with_function (w.name i) s.bodies) s.bodies);
          }

  -- ---- violations

  tangled : (xs : List Top) (ss : List Scope) (s : State) (at : ℕ) (noted : List (List ℕ)) → IsInScope ss → AreOfFile ss →
      AreSameScopes n ss s.scopes → AreTops no_counts ts file ss s.bodies at noted xs → Stands tokens at (joined (map top_text xs) [])
      → (vs : Faults) → AreTangled vs → AreTangled (file_faults measuring (written_tops file.word at (derivation.tops_of xs)) s vs)
  tangled [] ss s at noted there k h g b vs a = a
  tangled (T.Note bytes ∷ xs) ss s at noted there k h g b vs a = tangled xs ss s at (noted ++ bytes ∷ []) there k h (g.1)
      (past_comment tokens at bytes (newline (joined (map top_text xs) [])) (g.0) b) vs a
  tangled (T.Include bytes ∷ xs) ss s at noted there k h g b vs a = tangled xs ss s (at + 1) [] there k h (g.2)
      (directive_behind tokens bytes at (joined (map top_text xs) []) (g.0) b) vs a
  tangled (T.Enum [] ∷ xs) ss s at noted there k h g b vs a = absurd g
  tangled (T.Enum (x ∷ es) ∷ xs) ss s at noted there k h g b vs a =
      let form = tops.Enum (written_enumeration at (enumeration_of x es)) in
      let e = enum_reads ts file.word tokens words x es ss s.scopes at (joined (map top_text xs) []) there h (g.0) b in
      let inner = behind_form file form s in
      let y = enumeration_end at (enumeration_of x es) in
      subst AreTangled (sym (ap (file_faults measuring (written_tops file.word y (derivation.tops_of xs)) inner) (e.clear vs)))
      (tangled xs (bind_constants (x ∷ es) ss) inner y [] (constants_inside (x ∷ es) ss there) (constants_of_file (x ∷ es) ss k) (e.same) (g.2) (e.behind) vs a)
  tangled (T.Global v ∷ xs) ss s at noted there k h g b vs a =
      let e = global_reads ts v ss (env_of file s) tokens words there h (g.0) at (joined (map top_text xs) []) b in
      let form = written_form file.word at (OfDeclaration (global_of v)) in
      let inner = behind_form file form s in
      let y = declaration_end at (global_of v) in
      subst AreTangled (sym (ap (file_faults measuring (written_tops file.word y (derivation.tops_of xs)) inner) (e.clear vs)))
      (tangled xs (behind_top ss (T.Global v)) inner y [] (bind_inside v.slot.name (AVariable (H.Global v.slot.name)) ss there)
      (bind_of_file v.slot.name (AVariable (H.Global v.slot.name)) ss tt k) (e.same) (g.2) (e.behind) vs a)
  tangled (T.Function f ∷ xs) ss s at noted there k h g b vs a =
      let e = function_here f s ss at (joined (map top_text xs) []) there k h (g.0) b in
      let x = of f at in
      let inner = function_declared file x s in
      let y = function_end at (function_of f) in
      let behind = behind_top ss (T.Function f) in
      let later = subst (λ z. AreTops no_counts ts file behind z y [] xs) (sym (e.bodies_are)) (g.2) in
      let ws = measured flat file.word x x.body f.body vs in
      let found = e.here.clear flat _ ∙ ap (measured flat file.word x x.body f.body) (e.named.clear vs) in
      subst AreTangled (sym (ap (file_faults measuring (written_tops file.word y (derivation.tops_of xs)) inner) found))
      (tangled xs behind inner y [] (bind_inside f.name AFunction ss there) (bind_of_file f.name AFunction ss tt k) (e.named.same) later
      (e.here.behind) ws (measured_tangled flat file.word x x.body f.body vs a))

-- ---- the text of a program

abbrev IsGood : Program → Result Program Refusal → Type 0
IsGood p o = (o ≡ Ok p) ⊎ ((refusal : Refusal) × ((o ≡ Err refusal) × (refusal.reason ≡ too_tangled)))

by_violation : (p : Program) (text : List ℕ) (tokens : List Token) (o : Option Fault) → IsTangled o → IsGood p (answer text tokens p o)
by_violation p text tokens None h = inl refl
by_violation p text tokens (Some v) h = inr (refused text tokens v, (refl, h))

abbrev unmeasuring : FlatCounts
unmeasuring xs = None

none_counted : AreCounts unmeasuring no_counts
none_counted = record { same = λ xs. refl; none = refl }

pub unmeasured : (flat : FlatCounts) (p : Program) → IsResolvedWith no_counts p → HasText p → IsReadOrTangled flat (text_of p) p
unmeasured flat p r t =
    let printable = resolved_laws.printable no_counts p r t in
    let text = text_of p in
    let tokens = tokens_in p in
    let comments = comments_in p in
    let spelled = spellings (printed_pieces p) in
    let known = words no_counts unmeasuring p r printable in
    let file = file_in unmeasuring p in
    let xs = tops_in p in
    let tops = back_laws.tops no_counts unmeasuring none_counted p r t in
    let scopes = at_the_start p.tops r.bound in
    let reads = file_reads no_counts p.tops file spelled known p.tops at_start start 0 [] tt ((tt, (library_of_file, tt))) scopes tops (first_stands p) in
    let all = tangled p.tops file spelled known flat p.tops at_start start 0 [] tt ((tt, (library_of_file, tt))) scopes tops (first_stands p) [] tt in
    let parses = printed_text_parses p printable in
    let word = word_of text tokens in
    let read : reading flat text ≡ answer text tokens p (violation_of (file_at flat text tokens comments xs) xs) =
    ap (of_tokens flat text) (parses.scanned) ∙ ap (of_syntax flat text (scanned_of (printed_pieces p))) (parses.parsed_so)
    ∙ ap (λ z. answer text tokens (program_of (file_at flat text tokens comments z) z) (violation_of (file_at flat text tokens comments z) z))
    (file_writes word (derivation.file_of p) (reads.keywords))
    ∙ ap (λ l. answer text tokens (record { tops = l }) (violation_of (file_at flat text tokens comments xs) xs))
    (same_tops p.tops file spelled known flat xs start ∙ reads.tops) in
    subst (IsGood p) (sym read) (by_violation p text tokens (violation_of (file_at flat text tokens comments xs) xs) (least_tangled None _ tt all))
  where
    library_of_file : ScopeIsOfFile (map (λ m. (m, AFunction)) known_functions)
    library_of_file = (tt, (tt, (tt, (tt, (tt, tt)))))
