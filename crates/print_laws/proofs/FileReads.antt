-- The printed text of a program has the tokens of its derivation, and its pieces stand apart.
use Rattle.std.proofs.Common.{◌≡◌, ℕ, Bool, true, false, List, [], ◌∷◌, map, Option, Some, None, inl, refl, ap, sym, subst, ◌∙◌}
use Rattle.std.specs.Prelude.{codes, take, option_map}
use Rattle.c_types.specs.declared.kinds.IntKind.{IntKind}
use Rattle.c_types.specs.Words.{is_word_byte}
use Rattle.c_tree.specs.declared.tree.Slot.{Slot}
use Rattle.c_tree.specs.declared.tree.Expression.{Expression}
use Rattle.c_tree.specs.declared.tree.EnumItem.{EnumItem}
use Rattle.c_tree.specs.declared.tree.GlobalVariable.{GlobalVariable}
use Rattle.c_tree.specs.declared.tree.Function.{Function}
use Rattle.c_tree.specs.declared.tree.Item.{Item}
use Rattle.c_tree.specs.declared.tree.Top.{Top}
use Rattle.c_tree.specs.declared.tree.Top.TheVariants as T
use Rattle.c_tree.specs.ExpressionTrees.{expression_tree}
use Rattle.c_tree.specs.Trees.{forest, expression_trees, tree_of, trees_of}
use Rattle.c_tree.specs.TextPieces.{Piece, Text, spelled, ◌⨾◌, space, newline, word, punctuator, verbatim, listed, joined}
use Rattle.c_tree.specs.TextExpressions.{result_text, expression_text}
use Rattle.c_tree.specs.TextItems.{kind_words, declaration_text, braced, printed}
use Rattle.c_tree.specs.Text.{given_text, enumerator_text, enum_end, enum_text, static_text, global_text, parameter_name, array_brackets, parameter_text, parameters_text, body_text, function_text, top_text}
use Rattle.c_lexer.specs.Bytes.{NotFirst}
use Rattle.c_grammar.specs.declared.class.Class.{Class}
use Rattle.c_grammar.specs.declared.class.Class.TheVariants as c
use Rattle.c_grammar.specs.Expressions.{type_tokens, conditional_tokens}
use Rattle.c_grammar.specs.Statements.{word_tokens, size_tokens}
use Rattle.c_grammar.specs.Files.{parameter_tokens, parameters_tokens, enumerator_tokens, enumeration_tokens, declaration_tokens, result_tokens, body_tokens, function_tokens, file_tokens}
use Rattle.print_laws.specs.Reread.{classes, Comments, noted}
use Rattle.c_resolved_defs.specs.Verbatims.{IsDirective}
use Rattle.print_laws.specs.Notes.{items_notes, body_notes, tops_notes}
use Rattle.print_laws.specs.ExpressionDerivations.{type_of}
use Rattle.print_laws.specs.StatementDerivations.{conditional_of}
use Rattle.print_laws.specs.FileDerivations.{given_of, enumeration_of, global_of, is_named, parameter_size, parameter_of, parameters_of, body_of, function_of, tops_of}
use Rattle.c_resolved_defs.specs.PrintableStatements.{DeclaratorPrints, ItemsPrint}
use Rattle.c_resolved_defs.specs.PrintablePrograms.{GivenPrints, EnumeratorPrints, EnumeratorsPrint, ParameterPrints, ParametersPrint, MaybeBody, FunctionPrints, TopsPrint}
use Rattle.print_laws.proofs.Neighbours.{never}
use Rattle.print_laws.proofs.Parts.{Front, Part, part_of_front, starts_before, name_front, kind_front, void_front, spaced_part}
use Rattle.print_laws.proofs.ExpressionReads.{equals_is}
use Rattle.print_laws.proofs.DeclarationReads.{AreAll, more_part, rest_is, full_chosen, kinds_front, declaration_part}
use Rattle.print_laws.proofs.StatementReads.{Told, Stretch, along, stretch_as, ended, opening, closing, open_block, close_block, a_space, end_line, empty, line_end, list_tokens, AllRead, braced_reads}
use Rattle.print_laws.proofs.SectionReads.{keyword}
use Rattle.print_laws.proofs.ItemReads.{note_line, name_line, item_reads}

-- a front, and a stretch that begins with what doesn't go on with a name
fronted : {k : List Class → Comments → Comments} (a b : Bool) (s t : Text) (f g : List Class → List Class) → Front s f →
    ((ps : List Piece) → NotFirst is_word_byte (spelled (t ps))) → Told false b t g k → Told a b (s ⨾ t) (λ r. f (g r)) k
fronted a b s t f g h n k = record {
  reads = λ ps. h.reads (t ps) ∙ ap f (k.reads ps);
  tells = λ ps. h.quiet (t ps) ∙ k.tells ps;
  apart = λ ps e. h.apart a (t ps) (n ps) (k.apart ps e);
}

-- ---- enums

enumerator_part : (x : EnumItem) → EnumeratorPrints x → Part (enumerator_text x) (enumerator_tokens (given_of x))
enumerator_part x h = by_given x.given h.given
  where
    by_given : (g : Option Expression) → GivenPrints g → Part (word x.name ⨾ given_text g)
        (enumerator_tokens (option_map (λ (e : Expression). conditional_of (expression_tree e)) g))
    by_given None h' = part_of_front (word x.name) _ (name_front x.name h.named)
    by_given (Some e) h' = spaced_part (word x.name) (expression_text [] e 3) (λ r. c.Name ∷ r)
        (conditional_tokens (conditional_of (expression_tree e))) (codes "=") c.Equals (part_of_front (word x.name) _ (name_front x.name h.named))
        equals_is (full_chosen [] 3 e h')

enumerators_read : (xs : List EnumItem) → EnumeratorsPrint xs → AreAll enumerator_tokens (map enumerator_text xs) (map given_of xs)
enumerators_read [] h = tt
enumerators_read (x ∷ xs) h = (enumerator_part x h.0, enumerators_read xs h.1)

enum_reads : (x : EnumItem) (xs : List EnumItem) → EnumeratorPrints x → EnumeratorsPrint xs →
    Stretch true true (enum_text (x ∷ xs)) (enumeration_tokens (enumeration_of x xs))
enum_reads x xs h k =
    stretch_as true true _ _ _ (λ r. ap (λ l. c.Enum ∷ c.OpenBlock ∷ enumerator_tokens (given_of x) l)
    (rest_is enumerator_tokens (map given_of xs) (c.Semicolon ∷ r)))
    (keyword true true (codes "enum") c.Enum (space ⨾ punctuator (codes "{") ⨾ space ⨾ listed (map enumerator_text (x ∷ xs)) ⨾ enum_end) _ refl refl
    (λ ps. refl)
    (along false false true space (punctuator (codes "{") ⨾ space ⨾ listed (map enumerator_text (x ∷ xs)) ⨾ enum_end) _ _ (a_space false)
    (along false false true (punctuator (codes "{")) (space ⨾ listed (map enumerator_text (x ∷ xs)) ⨾ enum_end) _ _ (open_block false)
    (along false false true space (listed (map enumerator_text (x ∷ xs)) ⨾ enum_end) _ _ (a_space false)
    (ended false true (listed (map enumerator_text (x ∷ xs))) enum_end _ _
    (more_part enumerator_tokens (enumerator_text x) (map enumerator_text xs) (given_of x) (map given_of xs) (enumerator_part x h)
    (enumerators_read xs k)) (λ ps. refl)
    (along false false true space (punctuator (codes "}") ⨾ punctuator (codes ";") ⨾ newline) _ _ (a_space false)
    (along false false true (punctuator (codes "}")) (punctuator (codes ";") ⨾ newline) _ _ (close_block false) (line_end false))))))))

-- ---- variables

static_reads : {k : List Class → Comments → Comments} (a b : Bool) (static : Bool) (s : Text) (g : List Class → List Class) →
    ((x : Bool) → Told x b s g k) → Told a b (static_text static ⨾ s) (λ r. word_tokens c.Static static (g r)) k
static_reads a b false s g k = k a
static_reads a b true s g k = keyword a b (codes "static") c.Static (space ⨾ s) g refl refl (λ ps. refl)
    (along false false b space s _ g (a_space false) (k false))

global_reads : (v : GlobalVariable) → DeclaratorPrints [] v.slot (option_map expression_trees v.init) →
    Stretch true true (global_text v) (declaration_tokens (global_of v))
global_reads v h =
    static_reads true true v.file_only (declaration_text [] v.slot v.init ⨾ punctuator (codes ";") ⨾ newline) _
    (λ x. ended x true (declaration_text [] v.slot v.init) (punctuator (codes ";") ⨾ newline) _ _ (declaration_part [] v.slot v.init h) (λ ps. refl)
    (line_end false))

-- ---- functions

brackets_part : (s : Text) (f : List Class → List Class) (cells : Option ℕ) → Front s f →
    Part (s ⨾ array_brackets cells) (λ r. f (size_tokens (parameter_size cells) r))
brackets_part s f None h = part_of_front s f h
brackets_part s f (Some n) h = record {
  reads = λ ps. h.reads ((punctuator (codes "[") ⨾ punctuator (codes "]")) ps);
  quiet = λ ps. h.quiet ((punctuator (codes "[") ⨾ punctuator (codes "]")) ps);
  starts = starts_before s (punctuator (codes "[") ⨾ punctuator (codes "]")) h.starts;
  apart = λ first ps k a. h.apart first ((punctuator (codes "[") ⨾ punctuator (codes "]")) ps) refl
      (refl, never (codes "[") (λ b. refl) (93 ∷ spelled ps), (refl, never (codes "]") (λ b. refl) (spelled ps), a));
}

parameter_front : (s : Slot) (name : List ℕ) → ParameterPrints name → Front (kind_words s ⨾ parameter_name name)
    (λ r. word_tokens c.Const s.constant (type_tokens (type_of s.kind) (word_tokens c.Name (is_named name) r)))
parameter_front s [] h = kinds_front s
parameter_front s (b ∷ bs) h =
    let k = kinds_front s in
    let v = name_front (b ∷ bs) h in
    record {
      reads = λ ps. k.reads ((space ⨾ word (b ∷ bs)) ps) ∙ ap (λ l. word_tokens c.Const s.constant (type_tokens (type_of s.kind) l)) (v.reads ps);
      quiet = λ ps. k.quiet ((space ⨾ word (b ∷ bs)) ps) ∙ v.quiet ps;
      starts = starts_before (kind_words s) (space ⨾ word (b ∷ bs)) k.starts;
      apart = λ first ps n a. k.apart first ((space ⨾ word (b ∷ bs)) ps) refl (v.apart false ps n a);
    }

parameter_part : (s : Slot) → ParameterPrints s.name → Part (parameter_text s) (parameter_tokens (parameter_of s))
parameter_part s h = brackets_part (kind_words s ⨾ parameter_name s.name)
    (λ r. word_tokens c.Const s.constant (type_tokens (type_of s.kind) (word_tokens c.Name (is_named s.name) r))) s.cells (parameter_front s s.name h)

each_parameter : (ss : List Slot) → ParametersPrint ss → AreAll parameter_tokens (map parameter_text ss) (map parameter_of ss)
each_parameter [] h = tt
each_parameter (s ∷ ss) h = (parameter_part s h.0, each_parameter ss h.1)

parameters_part : (ss : List Slot) → ParametersPrint ss → Part (parameters_text ss) (parameters_tokens (parameters_of ss))
parameters_part [] h = part_of_front (word (codes "void")) (λ r. c.Void ∷ r) void_front
parameters_part (s ∷ ss) h = more_part parameter_tokens (parameter_text s) (map parameter_text ss) (parameter_of s) (map parameter_of ss)
    (parameter_part s h.0) (each_parameter ss h.1)

result_front : (r : Option IntKind) → Front (result_text r) (result_tokens (option_map type_of r))
result_front None = void_front
result_front (Some kind) = kind_front kind

all_read : (f : Function) (xs : List Item) → ItemsPrint f (forest (map tree_of xs)) → AllRead f.slots (map (printed f) xs) (forest (map tree_of xs))
all_read f [] h = tt
all_read f (x ∷ xs) h = let i = item_reads f x in (record { shape = i.shape; lines = i.lines h.0 }, all_read f xs h.1)

trees_are : (xs : List Item) → trees_of xs ≡ forest (map tree_of xs)
unfolding trees_of
trees_are xs = refl

body_reads : (f : Function) (body : Option (List Item)) → MaybeBody f body →
    Told false true (body_text f body ⨾ newline) (body_tokens (body_of f.slots body)) (body_notes f body)
body_reads f None h = line_end false
body_reads f (Some xs) h =
    along false false true space (braced (map (printed f) xs) 0 ⨾ newline) _ _ (a_space false)
    (along false false true (braced (map (printed f) xs) 0) newline _ _
    (subst (λ a. Told false false (braced (map (printed f) xs) 0) (λ r. c.OpenBlock ∷ list_tokens f.slots a (c.CloseBlock ∷ r))
    (λ r n. items_notes f.slots a (c.CloseBlock ∷ r) n)) (sym (trees_are xs))
    (braced_reads f.slots false (map (printed f) xs) (forest (map tree_of xs)) (all_read f xs (subst (ItemsPrint f) (trees_are xs) h.items)) 0))
    (end_line false))

function_reads : (f : Function) → FunctionPrints f → Told true true (function_text f) (function_tokens (function_of f)) (body_notes f f.body)
function_reads f h =
    let behind = along false false true (punctuator (codes ")")) (body_text f f.body ⨾ newline) _ _ (closing false) (body_reads f f.body h.body) in
    let inside = ended false true (parameters_text (take f.params f.slots)) (punctuator (codes ")") ⨾ body_text f f.body ⨾ newline)
    _ _ (parameters_part (take f.params f.slots) h.parameters) (λ ps. refl) behind in
    let bracket = along false false true (punctuator (codes "(")) (parameters_text (take f.params f.slots) ⨾ punctuator (codes ")") ⨾ body_text f
    f.body ⨾ newline) _ _ (opening false) inside in
    let named = name_line false true f.name (punctuator (codes "(") ⨾ parameters_text (take f.params f.slots) ⨾ punctuator (codes ")") ⨾ body_text f
    f.body ⨾ newline) _ h.named (λ ps. refl) bracket in
    let spaced = along false false true space
    (word f.name ⨾ punctuator (codes "(") ⨾ parameters_text (take f.params f.slots) ⨾ punctuator (codes ")") ⨾ body_text f f.body ⨾ newline)
    _ _ (a_space false) named in
    static_reads true true f.file_only (result_text f.result ⨾ space ⨾ word f.name ⨾ punctuator
    (codes "(") ⨾ parameters_text (take f.params f.slots) ⨾ punctuator (codes ")") ⨾ body_text f f.body ⨾ newline) _
    (λ x. fronted x true (result_text f.result)
    (space ⨾ word f.name ⨾ punctuator (codes "(") ⨾ parameters_text (take f.params f.slots) ⨾ punctuator (codes ")") ⨾ body_text f
    f.body ⨾ newline) (result_tokens (option_map type_of f.result)) _ (result_front f.result) (λ ps. refl) spaced)

-- ---- files

directive_reads : (bytes : List ℕ) → IsDirective bytes → Stretch true true (verbatim bytes ⨾ newline) (λ r. c.Directive ∷ r)
directive_reads bytes h = record { reads = directive_class bytes h; tells = directive_quiet bytes h; apart = λ ps e. (inl (refl, h), refl, e) }
  where
    directive_class : (bytes : List ℕ) → IsDirective bytes → (ps : List Piece) → classes ((verbatim bytes ⨾ newline) ps) ≡ c.Directive ∷ classes ps
    directive_class [] h ps = absurd h
    directive_class (a ∷ []) h ps = absurd h
    directive_class (a ∷ b ∷ w) h ps = (λ i. classes ((verbatim (h.0 i ∷ b ∷ w) ⨾ newline) ps))

    directive_quiet : (bytes : List ℕ) → IsDirective bytes → (ps : List Piece) → noted ((verbatim bytes ⨾ newline) ps) ≡ noted ps
    directive_quiet [] h ps = absurd h
    directive_quiet (a ∷ []) h ps = absurd h
    directive_quiet (a ∷ b ∷ w) h ps = (λ i. noted ((verbatim (h.0 i ∷ b ∷ w) ⨾ newline) ps))

pub program_reads : (ts : List Top) → TopsPrint ts → Told true true (joined (map top_text ts)) (file_tokens (tops_of ts)) (tops_notes ts)
program_reads [] h = empty true
program_reads (T.Include bytes ∷ ts) h = along true true true (verbatim bytes ⨾ newline) (joined (map top_text ts)) _ _ (directive_reads bytes h.0)
    (program_reads ts h.1)
program_reads (T.Enum [] ∷ ts) h = absurd h.0
program_reads (T.Enum (x ∷ xs) ∷ ts) h = along true true true (enum_text (x ∷ xs)) (joined (map top_text ts)) _ _ (enum_reads x xs h.0.0 h.0.1)
    (program_reads ts h.1)
program_reads (T.Global v ∷ ts) h = along true true true (global_text v) (joined (map top_text ts)) _ _ (global_reads v h.0) (program_reads ts h.1)
program_reads (T.Function f ∷ ts) h = along true true true (function_text f) (joined (map top_text ts)) _ _ (function_reads f h.0) (program_reads ts h.1)
program_reads (T.Note bytes ∷ ts) h = along true true true (verbatim bytes ⨾ newline) (joined (map top_text ts)) _ _ (note_line true bytes h.0)
    (program_reads ts h.1)
