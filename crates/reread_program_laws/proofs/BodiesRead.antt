-- The functions with a body that reading finds in the printed text of a program.
use Rattle.std.proofs.Common.{◌≡◌, ℕ, ◌+◌, Bool, true, false, cond, ◌&&◌, ◌||◌, List, [], ◌∷◌, map, length, Option, Some, None, is_some, refl, ap, subst, arith}
use Rattle.c_lexer.specs.Pieces.{bare}
use Rattle.c_lexer.specs.declared.token.TokenKind.TheVariants as k
use Rattle.c_tree.specs.declared.tree.Function.{Function}
use Rattle.c_tree.specs.declared.tree.Item.{Item}
use Rattle.c_tree.specs.declared.tree.EnumItem.{EnumItem}
use Rattle.c_tree.specs.declared.tree.Top.{Top}
use Rattle.c_tree.specs.declared.tree.Top.TheVariants as T
use Rattle.c_tree.specs.declared.tree.Home.TheVariants as H
use Rattle.c_tree.specs.Text.{top_text, function_text}
use Rattle.c_tree.specs.TextPieces.{Piece, newline, verbatim, joined}
use Rattle.c_grammar.specs.declared.class.Class.{Class}
use Rattle.c_grammar.specs.FileSyntax.{enumeration_end, declaration_end, function_end}
use Rattle.c_grammar.specs.Tops as tops
use Rattle.c_kinds.specs.declared.binding.Binding.TheVariants as binding
use Rattle.c_kinds.specs.Scopes as kinds
use Rattle.c_statements.specs.declared.anchors.Anchor.{Anchor}
use Rattle.c_statements.specs.Functions as read
use Rattle.c_scopes.specs.FunctionNames.{has_function, with_function, bodies_of}
use Rattle.c_comments.specs.Notes.{form_place}
use Rattle.c_resolved_defs.specs.Limits.{FlatCounts}
use Rattle.c_resolved_defs.specs.Names.{Names}
use Rattle.c_resolved_defs.specs.Scopes.{Scope, Meaning, AConstant, AVariable, AFunction, bind, bind_constants, behind_top}
use Rattle.c_resolved_defs.specs.Verbatims.{IsDirective}
use Rattle.print_laws.specs.Reread.{Spelling, spelling}
use Rattle.print_laws.specs.Standing.{Stands}
use Rattle.print_laws.specs.FileDerivations.{enumeration_of, global_of, function_of, body_of, tops_of}
use Rattle.print_laws.proofs.Standings.{next}
use Rattle.reread_parts_laws.specs.WrittenFunctions.{written_function, written_function_body}
use Rattle.reread_parts_laws.specs.WrittenFiles.{written_tops}
use Rattle.reread_parts_laws.specs.Words.{AreWords}
use Rattle.reread_parts_laws.specs.Bindings.{IsInScope, AreSameScopes}
use Rattle.reread_parts_laws.specs.Laws.{IsDeclared, IsOfFile, AreOfFile}
use Rattle.reread_parts_laws.proofs.TheLaws.{reread_laws}
use Rattle.reread_parts_laws.proofs.ListsRead.{past_comment}
use Rattle.reread_parts_laws.proofs.FunctionNamesRead.{sig, bound_same}
use Rattle.c_kinds.proofs.Entries.{names_same}
use Rattle.reread_program_laws.proofs.Chosen.{chosen}
use Rattle.reread_program_laws.proofs.Declared.{named_bodies}
use Rattle.reread_program_laws.proofs.TopsTold.{AreFormed, body_here}
use Rattle.reread_program_laws.proofs.Given.{IsGiven, AreGiven}

-- ---- scopes of the file

bind_inside : (m : List ℕ) (b : Meaning) (ss : List Scope) → IsInScope ss → IsInScope (bind m b ss)
bind_inside m b [] h = absurd h
bind_inside m b (s ∷ ss) h = tt

bind_of_file : (m : List ℕ) (b : Meaning) (ss : List Scope) → IsOfFile b → AreOfFile ss → AreOfFile (bind m b ss)
bind_of_file m b [] k h = ((k, tt), tt)
bind_of_file m b (s ∷ ss) k h = ((k, h.0), h.1)

constants_inside : (es : List EnumItem) (ss : List Scope) → IsInScope ss → IsInScope (bind_constants es ss)
constants_inside [] ss h = h
constants_inside (e ∷ es) ss h = constants_inside es (bind e.name (AConstant e.value) ss) (bind_inside e.name (AConstant e.value) ss h)

constants_of_file : (es : List EnumItem) (ss : List Scope) → AreOfFile ss → AreOfFile (bind_constants es ss)
constants_of_file [] ss h = h
constants_of_file (e ∷ es) ss h = constants_of_file es (bind e.name (AConstant e.value) ss) (bind_of_file e.name (AConstant e.value) ss tt h)

-- behind a directive
past_directive : (tokens : List Spelling) (bytes : List ℕ) (at : ℕ) (ps : List Piece) → IsDirective bytes →
    Stands tokens at (verbatim bytes (newline ps)) → Stands tokens (at + 1) ps
past_directive tokens [] at ps h s = absurd h
past_directive tokens (a ∷ []) at ps h s = absurd h
past_directive tokens (a ∷ b ∷ w) at ps h s =
    let e = subst (λ x. Stands tokens at (verbatim (x ∷ b ∷ w) (newline ps))) (h.0) s in
    (next tokens at (spelling k.Directive (35 ∷ bare (b ∷ w))) (newline ps) e).behind

module _ (counts : FlatCounts) (ts : List Top) (word : ℕ → List ℕ) (tokens : List Spelling) (words : AreWords word tokens) where
  abbrev n : Names
  n = record { tops = ts; slots = [] }

  abbrev of : ℕ → Function → tops.Function
  of at f = written_function word at (function_of f)

  -- a set with the function, if it has a body
  abbrev own : Function → Function → List (List ℕ)
  own f g = cond (is_some g.body) (f.name ∷ []) []

  own_has : (f g : Function) → has_function (own f g) f.name ≡ is_some g.body
  own_has f g = by (is_some g.body)
    where
      by : (b : Bool) → has_function (cond b (f.name ∷ []) []) f.name ≡ b
      by true = ap (λ b. b || false) (names_same f.name f.name refl)
      by false = refl

  -- it reads back with some comments, in some scopes
  pub record IsReadBack (f : Function) (at : ℕ) : Type 0 where
    pub notes : Anchor → List (List ℕ)
    pub scopes : List kinds.Scope
    pub name : word (of at f).name ≡ f.name
    pub function : read.function_of word notes (of at f) scopes ≡ f

  abbrev pub AllReadBack : ℕ → List Top → Type 0
  AllReadBack at [] = Unit {0}
  AllReadBack at (T.Note bytes ∷ xs) = AllReadBack at xs
  AllReadBack at (T.Include bytes ∷ xs) = AllReadBack (at + 1) xs
  AllReadBack at (T.Enum [] ∷ xs) = AllReadBack at xs
  AllReadBack at (T.Enum (x ∷ es) ∷ xs) = AllReadBack (enumeration_end at (enumeration_of x es)) xs
  AllReadBack at (T.Global v ∷ xs) = AllReadBack (declaration_end at (global_of v)) xs
  AllReadBack at (T.Function f ∷ xs) = IsReadBack f at × AllReadBack (function_end at (function_of f)) xs

  record FunctionStands (f : Function) (ss : List Scope) (at : ℕ) (ps : List Piece) : Type 0 where
    scopes : List kinds.Scope
    same : AreSameScopes n (behind_top ss (T.Function f)) scopes
    back : IsReadBack f at
    behind : Stands tokens (function_end at (function_of f)) ps

  -- wherever its Notes stand
  function_stands : (f : Function) (ss : List Scope) (scopes : List kinds.Scope) (at : ℕ) (ps : List Piece) → IsInScope ss → AreOfFile ss →
      AreSameScopes n ss scopes → IsGiven counts ts f ss → AreFormed (T.Function f ∷ [])
      → Stands tokens at (function_text f ps) → FunctionStands f ss at ps
  function_stands f ss scopes at ps there k h g form b =
      let q = (g.the).function in
      let d : IsDeclared ts f q (own f q) [] ss
      = record {
        is = (g.the).is;
        defined = own_has f q;
        result = (g.the).alike.result;
        parameters = (g.the).alike.parameters;
        named = g.named;
        unknown = g.unknown;
        formed = g.formed;
        single = alone (is_some f.body);
      } in
      let x = of at f in
      let behind = behind_top ss (T.Function f) in
      let first = bound_same ts f q word x (own f q) [] ss d scopes there h in
      let inner = kinds.bind f.name (binding.Function (sig ts f q word x (own f q) [] ss d)) scopes in
      let end = function_end at (function_of f) in
      let z : end + length {A = Class} [] ≡ end = omega arith in
      let o = body_here word (λ t. form_place at (tops.Defines x) t) end f at [] (form.0) z (λ t u v. refl) in
      let notes : Anchor → List (List ℕ) = λ a. chosen a o.here in
      let r = reread_laws.functions counts ts f word notes tokens behind inner at ps (g.function) words
      (reread_laws.inward ts f behind inner (bind_of_file f.name AFunction ss tt k) first) (o.holds notes (λ a i. refl)) b in
      record { scopes = inner; same = first; back = record { notes = notes; scopes = inner; name = r.name; function = r.function }; behind = r.behind }
    where
      alone : (b : Bool) → (b && false) ≡ false
      alone true = refl
      alone false = refl

  body_same : (f : Function) (at : ℕ) → is_some (of at f).body ≡ is_some f.body
  body_same f at = by f.body _
    where
      by : (o : Option (List Item)) (y : ℕ) → is_some (written_function_body y (body_of f.slots o)) ≡ is_some o
      by None y = refl
      by (Some xs) y = refl

  pub all_read : (xs : List Top) (ss : List Scope) (scopes : List kinds.Scope) (at : ℕ) → IsInScope ss → AreOfFile ss → AreSameScopes n ss scopes →
      AreGiven counts ts ss xs → AreFormed xs → Stands tokens at (joined (map top_text xs) []) → AllReadBack at xs
  all_read [] ss scopes at there k h g f b = tt
  all_read (T.Note bytes ∷ xs) ss scopes at there k h g f b = all_read xs ss scopes at there k h g.1 f.1
      (past_comment tokens at bytes (newline (joined (map top_text xs) [])) (g.0) b)
  all_read (T.Include bytes ∷ xs) ss scopes at there k h g f b = all_read xs ss scopes (at + 1) there k h g.1 f.1
      (past_directive tokens bytes at (joined (map top_text xs) []) (g.0) b)
  all_read (T.Enum [] ∷ xs) ss scopes at there k h g f b = absurd g
  all_read (T.Enum (x ∷ es) ∷ xs) ss scopes at there k h g f b =
      let e = reread_laws.enums ts x es ss (record { word = word; scopes = scopes }) tokens at (joined (map top_text xs) []) words there h (g.0) b in
      all_read xs (bind_constants (x ∷ es) ss) _ (enumeration_end at (enumeration_of x es)) (constants_inside (x ∷ es) ss there)
      (constants_of_file (x ∷ es) ss k) (e.same) g.1 f.1 (e.behind)
  all_read (T.Global v ∷ xs) ss scopes at there k h g f b =
      let e = reread_laws.variables ts v ss (record { word = word; scopes = scopes }) tokens at (joined (map top_text xs) []) words there h (g.0) b in
      all_read xs (behind_top ss (T.Global v)) _ (declaration_end at (global_of v))
      (bind_inside v.slot.name (AVariable (H.Global v.slot.name)) ss there) (bind_of_file v.slot.name (AVariable (H.Global v.slot.name)) ss tt k)
      (e.same) g.1 f.1 (e.behind)
  all_read (T.Function v ∷ xs) ss scopes at there k h g f b =
      let e = function_stands v ss scopes at (joined (map top_text xs) []) there k h (g.0) (f.0, tt) b in (
        e.back,
        all_read xs (behind_top ss (T.Function v)) (e.scopes) (function_end at (function_of v)) (bind_inside v.name AFunction ss there)
            (bind_of_file v.name AFunction ss tt k) (e.same) g.1 f.1 (e.behind),
      )

  -- so the functions with a body are those of the program
  pub bodies_read : (xs : List Top) (at : ℕ) → AllReadBack at xs → bodies_of word (written_tops word at (tops_of xs)) ≡ named_bodies xs
  bodies_read [] at h = refl
  bodies_read (T.Note bytes ∷ xs) at h = bodies_read xs at h
  bodies_read (T.Include bytes ∷ xs) at h = bodies_read xs (at + 1) h
  bodies_read (T.Enum [] ∷ xs) at h = bodies_read xs at h
  bodies_read (T.Enum (x ∷ es) ∷ xs) at h = bodies_read xs (enumeration_end at (enumeration_of x es)) h
  bodies_read (T.Global v ∷ xs) at h = bodies_read xs (declaration_end at (global_of v)) h
  bodies_read (T.Function v ∷ xs) at h =
      let r = bodies_read xs (function_end at (function_of v)) h.1 in
      (λ i. cond (body_same v at i) (with_function ((h.0).name i) (r i)) (r i))
