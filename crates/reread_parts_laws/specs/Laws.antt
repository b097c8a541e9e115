-- The laws of this crate: what is printed of a resolved program reads back as it was.
use Rattle.std.specs.Prelude.{◌≡◌, ◌+◌, ℕ, List, [], ◌∷◌, map, Some, negsuc, ◌&&◌, false, ◌++◌, ◌≤◌, length, IsSomeAnd, Ok, Bool, cond, is_some, take, Option, None, option_map}
use Rattle.c_tree.specs.declared.tree.Expression.{Expression, out-Expression}
use Rattle.c_tree.specs.ExpressionTrees.{ExpressionTree, expression_tree}
use Rattle.c_tree.specs.declared.tree.Function.{Function}
use Rattle.c_tree.specs.declared.tree.Top.{Top}
use Rattle.c_tree.specs.declared.tree.Item.{Item}
use Rattle.c_tree.specs.Trees.{trees_of, expression_trees}
use Rattle.c_tree.specs.TextItems.{braced, printed, label_name}
use Rattle.c_tree.specs.TextPieces.{Piece, newline, joined}
use Rattle.c_tree.specs.TextExpressions.{expression_text}
use Rattle.c_grammar.specs.declared.syntax.Syntax.{Syntax}
use Rattle.c_grammar.specs.Expressions.{Assignment, Conditional}
use Rattle.c_grammar.specs.Expressions as g
use Rattle.c_grammar.specs.ExpressionSyntax.{expression_node, assignment_node, conditional_node, expression_end, assignment_end, conditional_end}
use Rattle.c_grammar.specs.Terms.{Term, At}
use Rattle.c_grammar.specs.Statements.{Local, Items, NoItems, Braces}
use Rattle.c_grammar.specs.StatementSyntax.{local_node, block_node, block_end, word_end}
use Rattle.c_grammar.specs.Parts.{part_of, term_of, declaration_in, block_in, OfTop, file_of}
use Rattle.c_kinds.specs.Scopes.{Env, Faults}
use Rattle.c_kinds.specs.Values.{of_result}
use Rattle.c_kinds.specs.Typing.{typed, faults}
use Rattle.c_resolved_defs.specs.Names.{Names, the_function, the_global}
use Rattle.c_statements.specs.declared.anchors.Anchor.{Anchor}
use Rattle.c_statements.specs.declared.anchors.Anchor.TheVariants.{Before, Last}
use Rattle.c_statements.specs.Context.{Context, Walk, no_construct}
use Rattle.c_statements.specs.Functions.{result_kind, context, body_items, behind_body, body_faults, want_of, function_of, tangle_fault, function_faults}
use Rattle.c_statements.specs.Labels.{body_labels, distinct, twice_faults}
use Rattle.c_resolved_defs.specs.Form.{gathered, marked_label}
use Rattle.c_resolved_defs.specs.Resolved.{names_in, IsResolvedFunction}
use Rattle.c_resolved_defs.specs.Limits.{FlatCounts}
use Rattle.c_resolved_defs.specs.Within.{AllDiffer, Each}
use Rattle.c_resolved_defs.specs.PrintableStatements.{ItemsPrint, DeclaratorPrints}
use Rattle.c_grammar.specs.Tops as tops
use Rattle.c_resolved_defs.specs.Scopes.{Scope, behind_all, AreBound, bind_constants, ConstantsAreBound, Meaning, AVariable, at_start, NamesAreBound, IsFunctionName, behind_top, TopIsBound, inside, AreNewParameters, BodyIsBound}
use Rattle.print_laws.specs.Reread.{Spelling, spellings, read_at}
use Rattle.print_laws.specs.Standing.{Stands}
use Rattle.print_laws.specs.ExpressionDerivations.{derivation_of, type_of}
use Rattle.print_laws.specs.StatementDerivations.{assignment_of, conditional_of, items_of, declaration_of}
use Rattle.reread_parts_laws.specs.WrittenExpressions.{expression_form, assignment_form, conditional_form}
use Rattle.reread_parts_laws.specs.WrittenStatements.{written_declaration, written_block}
use Rattle.reread_parts_laws.specs.Keywords.{ItemsHaveKeywords, FunctionHasKeywords}
use Rattle.reread_parts_laws.specs.Words.{AreWords}
use Rattle.reread_parts_laws.specs.Places.{IsPlace, IsExpressionOf, Standing}
use Rattle.reread_parts_laws.specs.GoodItems.{AreGood, slots_in}
use Rattle.reread_parts_laws.specs.PlacedNotes.{NotesOfBody}
use Rattle.c_tree.specs.declared.tree.EnumItem.{EnumItem}
use Rattle.c_tree.specs.Text.{enum_text, top_text, global_text, function_text}
use Rattle.c_grammar.specs.FileSyntax.{enumeration_end, declaration_end, parameters_end, result_end, function_end, function_node, file_node}
use Rattle.c_grammar.specs.Tops.{Enumerator}
use Rattle.c_scopes.specs.Enums.{enum_items, behind_enum, enum_faults}
use Rattle.c_resolved_defs.specs.Files.{HaveValues, AreNotMain, SameParameters, MainIsFormed, IsGlobal, IsNotMain}
use Rattle.c_resolved_defs.specs.PrintablePrograms.{EnumPrints, FunctionPrints}
use Rattle.print_laws.specs.FileDerivations.{enumeration_of, global_of, parameters_of}
use Rattle.reread_parts_laws.specs.WrittenFiles.{written_enumeration, written_tops, FileHasKeywords}
use Rattle.c_tree.specs.declared.tree.Home.TheVariants as H
use Rattle.c_scopes.specs.Files.{start, File, State, tops_of, file_faults}
use Rattle.c_types.specs.Words.{is_known}
use Rattle.c_scopes.specs.FunctionNames.{has_function, function_bound, function_name_faults, with_function}
use Rattle.c_resolved_defs.specs.Verbatims.{IsComment, IsDirective}
use Rattle.c_tree.specs.declared.tree.Program.{Program}
use Rattle.c_lexer.specs.declared.token.Token.{Token}
use Rattle.c_lexer.specs.declared.token.Span.{Span}
use Rattle.c_grammar.specs.Words.{word_of}
use Rattle.c_scopes.specs.Resolving.{file_at, resolved}
use Rattle.print_laws.specs.PrintSyntaxLaws.{printed_pieces}
use Rattle.c_tree.specs.declared.tree.Top.TheVariants as T
use Rattle.c_tree.specs.declared.tree.GlobalVariable.{GlobalVariable}
use Rattle.c_grammar.specs.Items.{Declaration, Body}
use Rattle.c_statements.specs.Declarations.{kinded}
use Rattle.c_scopes.specs.Globals.{behind_globals, globals, globals_faults}
use Rattle.reread_parts_laws.specs.Bindings.{IsInScope, AreSameScopes}
use Rattle.c_tree.specs.declared.tree.Slot.{Slot}
use Rattle.c_grammar.specs.Files as files
use Rattle.c_kinds.specs.declared.binding.Want.{Want}
use Rattle.c_kinds.specs.declared.binding.Want.TheVariants as want
use Rattle.c_kinds.specs.Scopes as kinds
use Rattle.c_resolved_defs.specs.Spelling.{FunctionIsSpelled}
use Rattle.print_laws.specs.FileDerivations as derivation
use Rattle.reread_parts_laws.specs.WrittenFunctions.{written_function}

-- ---- expressions

-- a source tree is read as an expression, without a violation, and these pieces stand behind it
pub record ReadsAs (env : Env) (tokens : List Spelling) (term : Term) (end : ℕ) (ps : List Piece) (e : Expression) : Type 0 where
  pub typed_as : typed env term ≡ of_result (out-Expression e).kind (out-Expression e).node
  pub clear : (vs : Faults) → faults env term vs ≡ vs
  pub behind : Stands tokens end ps

-- the printed text of an expression, where the grammar needs a level, and the syntax and the end of its derivation there
abbrev pub ReadsBackAt : ℕ → (ℕ → ExpressionTree → Syntax) → (ℕ → ExpressionTree → ℕ) → Type 0
ReadsBackAt need syntax end =
    (n : Names) (ss : List Scope) (env : Env) (tokens : List Spelling) → IsPlace n ss env tokens → (e : Expression) (at : ℕ) (ps : List Piece) →
    IsExpressionOf n ss (expression_tree e)
    → Stands tokens at (expression_text n.slots e need ps) → ReadsAs env tokens (term_of env.word (syntax at (expression_tree e)))
    (end at (expression_tree e)) ps e

-- ---- bodies

-- the printed list of a body, from its brace on, reads back as the items, without a violation
pub record BodyReads (ts : List Top) (f : Function) (ctx : Context) (tokens : List Spelling) (ss : List Scope) (k : ℕ) (w : Walk) (at : ℕ)
    (xs : List Item) (ps : List Piece) : Type 0 where
  pub keywords : ItemsHaveKeywords ctx.word (at + 1) (items_of f.slots (trees_of xs) NoItems)
  pub items : body_items ctx (written_block at (items_of f.slots (trees_of xs) NoItems)) w ≡ xs
  pub standing : Standing (names_in ts f) (behind_all f.slots ss (trees_of xs)) (k + slots_in (trees_of xs))
      (behind_body ctx (written_block at (items_of f.slots (trees_of xs) NoItems)) w)
  pub clear : (vs : Faults) → body_faults ctx (written_block at (items_of f.slots (trees_of xs) NoItems)) w vs ≡ vs
  pub behind : Stands tokens (block_end at (Braces (items_of f.slots (trees_of xs) NoItems))) ps
  -- its labels are those of its Marks, in text order
  pub labels : map ctx.word (body_labels (written_block at (items_of f.slots (trees_of xs) NoItems)) []) ≡ map (label_name f)
      (gathered marked_label (trees_of xs))

-- ---- bodies of resolved functions

-- a body that prints, in these scopes
pub record IsBody (counts : FlatCounts) (ts : List Top) (f : Function) (ss : List Scope) (body : List Item) : Type 0 where
  pub is : f.body ≡ Some body
  pub resolved : IsResolvedFunction counts ts f
  pub labels : AllDiffer f.labels
  pub prints : ItemsPrint f (trees_of body)
  pub bound : AreBound f.slots ss (trees_of body)

-- it reads back, with the labels of the function, none of them twice
pub record ResolvedBodyReads (ts : List Top) (f : Function) (word : ℕ → List ℕ) (notes : Anchor → List (List ℕ)) (x : tops.Function)
    (tokens : List Spelling) (ss : List Scope) (w : Walk) (at : ℕ) (body : List Item) (ps : List Piece) : Type 0 where
  pub reads : BodyReads ts f (context word notes x (written_block at (items_of f.slots (trees_of body) NoItems))) tokens ss f.params w at body ps
  pub names : distinct (map word (body_labels (written_block at (items_of f.slots (trees_of body) NoItems)) [])) ≡ f.labels
  pub once : (vs : Faults) → twice_faults word (body_labels (written_block at (items_of f.slots (trees_of body) NoItems)) []) vs ≡ vs

-- ---- functions

-- a function that prints, in these scopes, in which its own name is bound
pub record IsFunction (counts : FlatCounts) (ts : List Top) (f : Function) (ss : List Scope) : Type 0 where
  pub resolved : IsResolvedFunction counts ts f
  pub spelled : FunctionIsSpelled f
  pub prints : FunctionPrints f
  pub parameters : AreNewParameters f.params 0 f.slots (inside ss)
  pub bound : BodyIsBound f ss f.body

-- the Notes of the body stand where they are printed; the body begins at this token
abbrev pub NotesOfFunction : Function → (Anchor → List (List ℕ)) → ℕ → Option (List Item) → Type 0
NotesOfFunction f notes at None = Unit {0}
NotesOfFunction f notes at (Some body) = NotesOfBody f.slots notes at (trees_of body)

-- the token behind the brackets of the parameters
abbrev pub body_at : ℕ → Function → ℕ
body_at at f = parameters_end (result_end (word_end at f.file_only) (option_map type_of f.result) + 1 + 1) (parameters_of (take f.params f.slots)) + 1

-- the violation of a function with a body that is too tangled, if it is
abbrev pub measured : (List Item → Option (ℕ × ℕ)) → (ℕ → List ℕ) → tops.Function → Option Body → Option (List Item) → Faults → Faults
measured flat word x (Some b) (Some items) vs = tangle_fault flat word x b items vs
measured flat word x _ _ vs = vs

-- what a function in a file takes
abbrev pub wants_in : Bool → List Slot → List Want
wants_in external xs = map (λ (s : Slot). cond (is_some s.cells) (want.Array s.kind s.constant external) (want.Number s.kind s.constant)) xs

-- it reads back, and has no violation but that it may be too tangled
pub record FunctionReads (f : Function) (word : ℕ → List ℕ) (notes : Anchor → List (List ℕ)) (tokens : List Spelling) (scopes : List kinds.Scope)
    (at : ℕ) (ps : List Piece) : Type 0 where
  pub keywords : FunctionHasKeywords word at (derivation.function_of f)
  pub function : function_of word notes (written_function word at (derivation.function_of f)) scopes ≡ f
  pub name : word (written_function word at (derivation.function_of f)).name ≡ f.name
  pub result : result_kind word (written_function word at (derivation.function_of f)) ≡ f.result
  pub wants : (external : Bool) → map (want_of word external) (written_function word at (derivation.function_of f)).parameters ≡ wants_in external
      (take f.params f.slots)
  pub clear : (flat : List Item → Option (ℕ × ℕ)) (vs : Faults) → function_faults flat word notes
      (written_function word at (derivation.function_of f)) scopes vs
      ≡ measured flat word (written_function word at (derivation.function_of f)) (written_function word at (derivation.function_of f)).body f.body vs
  pub behind : Stands tokens (function_end at (derivation.function_of f)) ps

-- ---- variables of file scope

-- a variable of the program, which prints, in these scopes
pub record IsFileVariable (ts : List Top) (g : GlobalVariable) (ss : List Scope) : Type 0 where
  pub is : the_global g.slot.name ts ≡ Some g.slot
  pub resolved : IsGlobal ts g (option_map expression_trees g.init)
  pub prints : DeclaratorPrints [] g.slot (option_map expression_trees g.init)
  pub bound : TopIsBound ss (T.Global g)
  pub formed : IsNotMain g.slot.name

-- it reads back, without a violation, and its name is bound behind it
pub record GlobalReads (ts : List Top) (g : GlobalVariable) (ss : List Scope) (env : Env) (tokens : List Spelling) (at : ℕ) (d : Declaration)
    (ps : List Piece) : Type 0 where
  pub tops : globals g.file_only (kinded env.word d) d.names env ≡ T.Global g ∷ []
  pub clear : (vs : Faults) → globals_faults (kinded env.word d) d.names env vs ≡ vs
  pub same : AreSameScopes (record { tops = ts; slots = [] }) (behind_top ss (T.Global g)) (behind_globals (kinded env.word d) d.names env).scopes
  pub behind : Stands tokens (declaration_end at (global_of g)) ps

-- ---- enums

-- an enum of the program, which prints, in these scopes
pub record IsEnum (ts : List Top) (xs : List EnumItem) (ss : List Scope) : Type 0 where
  pub values : HaveValues ts (negsuc 0) xs
  pub prints : EnumPrints xs
  pub bound : ConstantsAreBound ss xs
  pub formed : AreNotMain xs

-- it reads back, without a violation, and its constants are bound behind it
pub record EnumReads (ts : List Top) (xs : List EnumItem) (ss : List Scope) (env : Env) (tokens : List Spelling) (es : List Enumerator) (end : ℕ)
    (ps : List Piece) : Type 0 where
  pub items : enum_items es (Some (negsuc 0)) env ≡ xs
  pub clear : (vs : Faults) → enum_faults es (Some (negsuc 0)) env vs ≡ vs
  pub same : AreSameScopes (record { tops = ts; slots = [] }) (bind_constants xs ss) (behind_enum es (Some (negsuc 0)) env).scopes
  pub behind : Stands tokens end ps

-- ---- scopes of the file

-- what a name of file scope stands for: no variable of a function
abbrev pub IsOfFile : Meaning → Type 0
IsOfFile (AVariable (H.Slot k)) = ⊥
IsOfFile _ = Unit {0}

abbrev pub ScopeIsOfFile : Scope → Type 0
ScopeIsOfFile [] = Unit {0}
ScopeIsOfFile (e ∷ s) = IsOfFile e.1 × ScopeIsOfFile s

abbrev pub AreOfFile : List Scope → Type 0
AreOfFile [] = Unit {0}
AreOfFile (s ∷ ss) = ScopeIsOfFile s × AreOfFile ss

-- ---- names of functions

-- what is read of a function is that of the program
pub record IsWrittenAs (word : ℕ → List ℕ) (x : tops.Function) (f : Function) : Type 0 where
  pub name : word x.name ≡ f.name
  pub result : result_kind word x ≡ f.result
  pub wants : (external : Bool) → map (want_of word external) x.parameters ≡ wants_in external (take f.params f.slots)
  pub static : x.static ≡ f.file_only
  pub body : is_some x.body ≡ is_some f.body

-- a function with the declaration that its calls go by, where these of the file have a body, and these of them stand before
pub record IsDeclared (ts : List Top) (f g : Function) (bodies before : List (List ℕ)) (ss : List Scope) : Type 0 where
  pub is : the_function f.name ts ≡ Some g
  pub defined : has_function bodies f.name ≡ is_some g.body
  pub result : f.result ≡ g.result
  pub parameters : SameParameters (take f.params f.slots) (take g.params g.slots)
  pub named : IsFunctionName f.name ss
  pub unknown : is_known f.name ≡ false
  pub formed : MainIsFormed (T.Function f)
  pub single : (is_some f.body && has_function before f.name) ≡ false

-- its name is bound as it is in the program, without a violation
pub record NameReads (ts : List Top) (f : Function) (bodies before : List (List ℕ)) (x : tops.Function) (env : Env) (ss : List Scope) : Type 0 where
  pub same : AreSameScopes (record { tops = ts; slots = [] }) (behind_top ss (T.Function f)) (function_bound bodies x env).scopes
  pub clear : (vs : Faults) → function_name_faults bodies before x env vs ≡ vs

-- ---- files

-- a function, of which these stand before with a body, and which is not too tangled
pub record IsFileFunction (counts : FlatCounts) (ts : List Top) (file : File) (f : Function) (ss : List Scope) (before : List (List ℕ)) (at : ℕ) : Type 0 where
  pub declared : IsSomeAnd (the_function f.name ts) (λ g. IsDeclared ts f g file.bodies before ss)
  pub function : IsFunction counts ts f (behind_top ss (T.Function f))
  pub notes : NotesOfFunction f file.notes (body_at at f) f.body
  pub untangled : (vs : Faults) → measured file.flat file.word (written_function file.word at (derivation.function_of f))
      (written_function file.word at (derivation.function_of f)).body f.body vs ≡ vs

abbrev pub bodies_behind : Function → List (List ℕ) → List (List ℕ)
bodies_behind f before = cond (is_some f.body) (with_function f.name before) before

-- what stands from a token on, behind these comments that no token has been behind
abbrev pub AreTops : FlatCounts → List Top → File → List Scope → List (List ℕ) → ℕ → List (List ℕ) → List Top → Type 0
AreTops counts ts file ss before at noted [] = file.notes Last ≡ noted
AreTops counts ts file ss before at noted (T.Note bytes ∷ xs) = IsComment bytes × AreTops counts ts file ss before at (noted ++ bytes ∷ []) xs
AreTops counts ts file ss before at noted (T.Include bytes ∷ xs) = IsDirective bytes × (file.notes (Before at) ≡ noted) × AreTops counts ts file ss
    before (at + 1) [] xs
AreTops counts ts file ss before at noted (T.Enum [] ∷ xs) = ⊥
AreTops counts ts file ss before at noted (T.Enum (x ∷ es) ∷ xs) =
    IsEnum ts (x ∷ es) ss × (file.notes (Before at) ≡ noted) × AreTops counts ts file (bind_constants (x ∷ es) ss) before
    (enumeration_end at (enumeration_of x es)) [] xs
AreTops counts ts file ss before at noted (T.Global g ∷ xs) =
    IsFileVariable ts g ss × (file.notes (Before at) ≡ noted) × AreTops counts ts file (behind_top ss (T.Global g)) before
    (declaration_end at (global_of g)) [] xs
AreTops counts ts file ss before at noted (T.Function f ∷ xs) =
    IsFileFunction counts ts file f ss before at × (file.notes (Before at) ≡ noted) ×
    AreTops counts ts file (behind_top ss (T.Function f)) (bodies_behind f before) (function_end at (derivation.function_of f)) [] xs

-- the printed text of them reads back as they are, without a violation
pub record FileReads (file : File) (s : State) (at : ℕ) (noted : List (List ℕ)) (xs : List Top) : Type 0 where
  pub keywords : FileHasKeywords file.word at (derivation.tops_of xs)
  pub tops : tops_of file (written_tops file.word at (derivation.tops_of xs)) s ≡ map T.Note noted ++ xs
  pub clear : (vs : Faults) → file_faults file (written_tops file.word at (derivation.tops_of xs)) s vs ≡ vs

-- the name of a variable of file scope stands for that variable
abbrev pub IsFound : List Top → Top → Type 0
IsFound ts (T.Global g) = the_global g.slot.name ts ≡ Some g.slot
IsFound ts _ = Unit {0}

-- a token that stands in a text
pub record IsTokenOf (text : List ℕ) (t : Token) : Type 0 where
  pub in_order : t.start ≤ t.end
  pub inside : t.end ≤ length text

pub record RereadLaws : Type 0 where
  -- what the syntax of a derivation writes
  pub expression : (word : ℕ → List ℕ) (at : ℕ) (e : g.Expression) → term_of word (expression_node at e) ≡ At at (expression_form at e)
  pub assignment : (word : ℕ → List ℕ) (at : ℕ) (a : Assignment) → term_of word (assignment_node at a) ≡ At at (assignment_form at a)
  pub conditional : (word : ℕ → List ℕ) (at : ℕ) (d : Conditional) → term_of word (conditional_node at d) ≡ At at (conditional_form at d)
  pub declaration : (word : ℕ → List ℕ) (at : ℕ) (x : Local) → declaration_in (part_of word (local_node at x)).content ≡ written_declaration at x
  -- a block's, where the words are keywords as its derivation has them
  pub block : (word : ℕ → List ℕ) (at : ℕ) (xs : Items) → ItemsHaveKeywords word (at + 1) xs →
      block_in (part_of word (block_node at (Braces xs))) ≡ Some (written_block at xs)
  -- the printed text of an expression reads back as the expression: by itself, where an assignment is needed, and where a constant is
  pub expressions : ReadsBackAt 1 (λ at x. expression_node at (derivation_of x)) (λ at x. expression_end at (derivation_of x))
  pub assignments : ReadsBackAt 2 (λ at x. assignment_node at (assignment_of x)) (λ at x. assignment_end at (assignment_of x))
  pub conditionals : ReadsBackAt 3 (λ at x. conditional_node at (conditional_of x)) (λ at x. conditional_end at (conditional_of x))
  -- and that of a body as the body, where the comments stand where its Notes are printed
  pub bodies : (ts : List Top) (f : Function) (ctx : Context) (tokens : List Spelling) (ss : List Scope) (k : ℕ) (w : Walk) (at depth : ℕ)
      (xs : List Item) (ps : List Piece) → AreWords ctx.word tokens → Standing (names_in ts f) ss k w
      → AreGood (names_in ts f) f ctx ss k no_construct (trees_of xs) → NotesOfBody f.slots ctx.notes at (trees_of xs) →
      Stands tokens at (braced (map (printed f) xs) depth ps) → BodyReads ts f ctx tokens ss k w at xs ps
  -- so that the body of a resolved function reads back, whatever function has its result
  pub resolved_bodies : (counts : FlatCounts) (ts : List Top) (f : Function) (word : ℕ → List ℕ) (notes : Anchor → List (List ℕ)) (x : tops.Function)
      (tokens : List Spelling) (ss : List Scope) (w : Walk) (at depth : ℕ) (body : List Item) (ps : List Piece)
      → IsBody counts ts f ss body → AreWords word tokens → result_kind word x ≡ f.result → Standing (names_in ts f) ss f.params w →
      NotesOfBody f.slots notes at (trees_of body) → Stands tokens at (braced (map (printed f) body) depth ps)
      → ResolvedBodyReads ts f word notes x tokens ss w at body ps
  -- what the syntax of a function writes, and the printed text of a function reads back as the function
  pub function : (word : ℕ → List ℕ) (at : ℕ) (x : files.Function) → FunctionHasKeywords word at x →
      (part_of word (function_node at x)).content ≡ OfTop (tops.Defines (written_function word at x))
  pub functions : (counts : FlatCounts) (ts : List Top) (f : Function) (word : ℕ → List ℕ) (notes : Anchor → List (List ℕ)) (tokens : List Spelling)
      (ss : List Scope) (scopes : List kinds.Scope) (at : ℕ) (ps : List Piece)
      → IsFunction counts ts f ss → AreWords word tokens → AreSameScopes (names_in ts f) ss scopes → NotesOfFunction f notes (body_at at f) f.body →
      Stands tokens at (function_text f ps) → FunctionReads f word notes tokens scopes at ps
  -- what the syntax of a file writes
  pub files : (word : ℕ → List ℕ) (xs : List files.Top) → FileHasKeywords word 0 xs → file_of word (file_node xs) ≡ written_tops word 0 xs
  -- the printed text of a variable of file scope reads back as the variable
  pub variables : (ts : List Top) (g : GlobalVariable) (ss : List Scope) (env : Env) (tokens : List Spelling) (at : ℕ) (ps : List Piece) →
      AreWords env.word tokens → IsInScope ss → AreSameScopes (record { tops = ts; slots = [] }) ss env.scopes
      → IsFileVariable ts g ss → Stands tokens at (global_text g ps) →
      GlobalReads ts g ss env tokens at (written_declaration (word_end at g.file_only) (declaration_of g.slot (option_map expression_trees g.init) [])) ps
  -- and that of an enum as the enum
  pub enums : (ts : List Top) (x : EnumItem) (xs : List EnumItem) (ss : List Scope) (env : Env) (tokens : List Spelling) (at : ℕ) (ps : List Piece) →
      AreWords env.word tokens → IsInScope ss → AreSameScopes (record { tops = ts; slots = [] }) ss env.scopes
      → IsEnum ts (x ∷ xs) ss → Stands tokens at (enum_text (x ∷ xs) ps) →
      EnumReads ts (x ∷ xs) ss env tokens (written_enumeration at (enumeration_of x xs)) (enumeration_end at (enumeration_of x xs)) (newline ps)
  -- the scopes at the start of a file are the same, and names of the file are the same in each function
  pub starts : (ts : List Top) → NamesAreBound ts → AreSameScopes (record { tops = ts; slots = [] }) at_start start.scopes
  pub inward : (ts : List Top) (f : Function) (ss : List Scope) (scopes : List kinds.Scope) → AreOfFile ss →
      AreSameScopes (record { tops = ts; slots = [] }) ss scopes → AreSameScopes (names_in ts f) ss scopes
  -- the name of a function is bound as in the program
  pub names : (ts : List Top) (f g : Function) (bodies before : List (List ℕ)) (x : tops.Function) (env : Env) (ss : List Scope) →
      IsWrittenAs env.word x f → IsDeclared ts f g bodies before ss → IsInScope ss
      → AreSameScopes (record { tops = ts; slots = [] }) ss env.scopes → NameReads ts f bodies before x env ss
  -- and what stands in a file reads back, where the comments stand where they are printed
  pub whole_files : (counts : FlatCounts) (ts : List Top) (file : File) (tokens : List Spelling) (xs : List Top) (ss : List Scope) (s : State)
      (at : ℕ) (noted : List (List ℕ)) → AreWords file.word tokens → IsInScope ss → AreOfFile ss
      → AreSameScopes (record { tops = ts; slots = [] }) ss s.scopes → AreTops counts ts file ss s.bodies at noted xs →
      Stands tokens at (joined (map top_text xs) []) → FileReads file s at noted xs
  -- so that the syntax of the printed text of a program gives the program
  pub programs : (counts : FlatCounts) (p : Program) (flat : List Item → Option (ℕ × ℕ)) (text : List ℕ) (tokens : List Token)
      (comments : List Span) → AreWords (word_of text tokens) (spellings (printed_pieces p)) → NamesAreBound p.tops
      → AreTops counts p.tops (file_at flat text tokens comments (written_tops (word_of text tokens) 0 (derivation.file_of p))) at_start [] 0 []
      p.tops → resolved flat text tokens comments (derivation.syntax_of p) ≡ Ok p
  -- whose words are those of its tokens
  pub words : (text : List ℕ) (tokens : List Token) (found : List Spelling) → Each (IsTokenOf text) tokens → map (read_at text) tokens ≡ found →
      AreWords (word_of text tokens) found
  -- where each name of a program is bound, that of a variable stands for that variable
  pub found_variables : (ts : List Top) → NamesAreBound ts → Each (IsFound ts) ts
