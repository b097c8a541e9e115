-- The printed text of the sections of a switch has the tokens of its derivation: each label stands before a statement.
use Rattle.std.proofs.Common.{◌≡◌, ◌-◌, ℕ, suc, Bool, true, false, cond, List, [], ◌∷◌, map, length, refl, ap, sym, subst, ◌∙◌, arith}
use Rattle.std.specs.Prelude.{◌||◌, ◌&&◌, codes, slice_get}
use Rattle.std.specs.Option.{option_map_or}
use Rattle.c_tree.specs.declared.tree.Slot.{Slot}
use Rattle.c_tree.specs.declared.tree.Expression.{Expression}
use Rattle.c_tree.specs.ExpressionTrees.{ExpressionTree, expression_tree}
use Rattle.c_tree.specs.Trees.{Tree, Forest, Nil, Then, Sections, NoSection, Section}
use Rattle.c_tree.specs.Trees as t
use Rattle.c_types.specs.Words.{is_word, is_word_byte}
use Rattle.c_tree.specs.TextPieces.{Piece, Text, spelled, ◌⨾◌, space, newline, word, punctuator, only_if, joined}
use Rattle.c_tree.specs.TextExpressions.{expression_text}
use Rattle.c_tree.specs.TextItems.{is_note, is_local, Printed, deeper, list_text, is_empty, case_line, default_line, null_line, begins_with_local, ends_in_note}
use Rattle.c_tree.specs.TextItems as x
use Rattle.c_lexer.specs.Bytes.{NotFirst}
use Rattle.c_lexer.specs.Pieces.{word_kind}
use Rattle.c_grammar.specs.declared.class.Class.{Class}
use Rattle.c_grammar.specs.declared.class.Class.TheVariants as c
use Rattle.c_grammar.specs.Expressions.{conditional_tokens}
use Rattle.c_grammar.specs.Statements.{Label, Items, NoItems, StatementItem, Statement, label_tokens, items_tokens, statement_tokens}
use Rattle.print_laws.specs.Reread.{spelling, class_of_spelling, Comments}
use Rattle.print_laws.specs.Notes.{items_notes}
use Rattle.print_laws.specs.StatementDerivations.{conditional_of, default_label, labels_of, behind_labels, labelled, null_statement, starts_with_local, is_nil, ends_with_note, is_last, optional_item, section_end, items_of, sections_of}
use Rattle.c_resolved_defs.specs.PrintableStatements.{FullPrints, ListPrints}
use Rattle.print_laws.proofs.DeclarationReads.{full_chosen}
use Rattle.print_laws.proofs.StatementReads.{Told, Stretch, along, ended, colon, a_space, end_line, empty, indented, line_end, shape_in, list_tokens, items_before, AllRead, list_reads}

-- ---- keywords

-- a keyword in front of what doesn't go on with it
pub keyword : {k : List Class → Comments → Comments} (a b : Bool) (w : List ℕ) (class : Class) (s : Text) (g : List Class → List Class) →
    is_word w ≡ true → class_of_spelling (spelling (word_kind w) w) ≡ class → ((ps : List Piece) → NotFirst is_word_byte (spelled (s ps))) → Told false b s g k
    → Told a b (word w ⨾ s) (λ r. class ∷ g r) k
keyword a b w class s g h e n k = record { reads = λ ps. (λ i. e i ∷ k.reads ps i); tells = k.tells; apart = λ ps f. (h, n ps, k.apart ps f) }

-- a keyword and `;` on a line
pub keyword_line : (a : Bool) (w : List ℕ) (class : Class) → is_word w ≡ true → class_of_spelling (spelling (word_kind w) w) ≡ class →
    Stretch a true (word w ⨾ punctuator (codes ";") ⨾ newline) (λ r. class ∷ c.Semicolon ∷ r)
keyword_line a w class h e = keyword a true w class (punctuator (codes ";") ⨾ newline) (λ r. c.Semicolon ∷ r) h e (λ ps. refl) (line_end false)

pub break_line : (a : Bool) → Stretch a true (word (codes "break") ⨾ punctuator (codes ";") ⨾ newline) (λ r. c.Break ∷ c.Semicolon ∷ r)
break_line a = keyword_line a (codes "break") c.Break refl refl

-- ---- labels

-- the tokens of labels, and then these
abbrev pub labels_tokens : List Label → List Class → List Class
labels_tokens [] r = r
labels_tokens (l ∷ ls) r = label_tokens l (labels_tokens ls r)

case_reads : (slots : List Slot) (depth : ℕ) (e : Expression) → FullPrints slots 3 (expression_tree e)
    → Stretch true true (case_line slots depth e) (λ r. c.Case ∷ conditional_tokens (conditional_of (expression_tree e)) (c.Colon ∷ r))
case_reads slots depth e h =
    indented depth true true _ _
    (keyword true true (codes "case") c.Case (space ⨾ expression_text slots e 3 ⨾ punctuator (codes ":") ⨾ newline) _ refl refl (λ ps. refl)
    (along false false true space (expression_text slots e 3 ⨾ punctuator (codes ":") ⨾ newline) _ _ (a_space false)
    (ended false true (expression_text slots e 3) (punctuator (codes ":") ⨾ newline) _ _ (full_chosen slots 3 e h) (λ ps. refl)
    (along false false true (punctuator (codes ":")) newline _ _ (colon false) (end_line false)))))

default_reads : (depth : ℕ) → Stretch true true (default_line depth) (λ r. c.Default ∷ c.Colon ∷ r)
default_reads depth =
    indented depth true true _ _
    (keyword true true (codes "default") c.Default (punctuator (codes ":") ⨾ newline) _ refl refl (λ ps. refl)
    (along false false true (punctuator (codes ":")) newline _ _ (colon false) (end_line false)))

maybe_default : (b : Bool) (depth : ℕ) → Stretch true true (only_if b (default_line depth)) (λ r. labels_tokens (default_label b) r)
maybe_default true depth = default_reads depth
maybe_default false depth = empty true

-- the lines of the labels, before a stretch
labels_read : (slots : List Slot) (depth : ℕ) (cases : List Expression) (default : Bool) → ListPrints slots 3 (map expression_tree cases)
    → Stretch true true (joined (map (case_line slots depth) cases) ⨾ only_if default (default_line depth))
    (λ r. labels_tokens (labels_of (map expression_tree cases) default) r)
labels_read slots depth [] default h = maybe_default default depth
labels_read slots depth (e ∷ es) default h =
    along true true true (case_line slots depth e) (joined (map (case_line slots depth) es) ⨾ only_if default (default_line depth))
    _ _ (case_reads slots depth e h.0) (labels_read slots depth es default h.1)

-- ---- null statements

null_reads : (depth : ℕ) → Stretch true true (null_line depth) (λ r. c.Semicolon ∷ r)
null_reads depth = indented depth true true _ _ (line_end true)

maybe_null : (b : Bool) (depth : ℕ) → Stretch true true (only_if b (null_line depth)) (λ r. items_tokens (optional_item b null_statement NoItems) r)
maybe_null true depth = null_reads depth
maybe_null false depth = empty true

-- ---- shapes

begins_local : (slots : List Slot) (xs : List Printed) (a : Forest) → AllRead slots xs a → begins_with_local xs ≡ starts_with_local a
begins_local slots [] Nil h = refl
begins_local slots (x ∷ xs) (Then y a) h = ap (λ s. cond (is_note s) (begins_with_local xs) (is_local s)) h.0.shape ∙ by_tree y (begins_local slots xs a h.1)
  where
    by_tree : (y : Tree) → begins_with_local xs ≡ starts_with_local a →
        cond (is_note (shape_in y)) (begins_with_local xs) (is_local (shape_in y)) ≡ starts_with_local (Then y a)
    by_tree (t.Note bytes) e = e
    by_tree (t.Local k given) e = refl
    by_tree _ e = refl
begins_local slots [] (Then y a) h = absurd h
begins_local slots (x ∷ xs) Nil h = absurd h

last_of_more : (x y : Printed) (xs : List Printed) → slice_get (x ∷ y ∷ xs) (length (x ∷ y ∷ xs) - 1) ≡ slice_get (y ∷ xs) (length (y ∷ xs) - 1)
last_of_more x y xs =
    let e : length (x ∷ y ∷ xs) - 1 ≡ suc (length (y ∷ xs) - 1) = omega arith in
    ap (slice_get (x ∷ y ∷ xs)) e

ends_note : (slots : List Slot) (xs : List Printed) (a : Forest) → AllRead slots xs a → ends_in_note xs ≡ ends_with_note a
ends_note slots [] Nil h = refl
ends_note slots (x ∷ []) (Then y Nil) h = ap is_note h.0.shape ∙ by_tree y
  where
    by_tree : (y : Tree) → is_note (shape_in y) ≡ ends_with_note (Then y Nil)
    by_tree (t.Note bytes) = refl
    by_tree _ = refl
ends_note slots (x ∷ z ∷ xs) (Then y (Then w a)) h = ap (λ o. option_map_or (λ (p : Printed). is_note p.shape) o false) (last_of_more x z xs) ∙
    ends_note slots (z ∷ xs) (Then w a) h.1 ∙ by_tree y
  where
    by_tree : (y : Tree) → ends_with_note (Then w a) ≡ ends_with_note (Then y (Then w a))
    by_tree (t.Note bytes) = refl
    by_tree _ = refl
ends_note slots [] (Then y a) h = absurd h
ends_note slots (x ∷ xs) Nil h = absurd h
ends_note slots (x ∷ []) (Then y (Then w a)) h = absurd h.1
ends_note slots (x ∷ z ∷ xs) (Then y Nil) h = absurd h.1

is_empty_as : (slots : List Slot) (xs : List Printed) (a : Forest) → AllRead slots xs a → is_empty xs ≡ is_nil a
is_empty_as slots [] Nil h = refl
is_empty_as slots (x ∷ xs) (Then y a) h = refl
is_empty_as slots [] (Then y a) h = absurd h
is_empty_as slots (x ∷ xs) Nil h = absurd h

-- ---- a section

end_reads : (slots : List Slot) (ends : Bool) (xs : List Printed) (a : Forest) → AllRead slots xs a → (last : Bool) (depth : ℕ) →
    Stretch true true (x.section_end ends xs last depth) (λ r. items_tokens (section_end ends a last NoItems) r)
end_reads slots true xs a h last depth = indented depth true true _ _ (break_line true)
end_reads slots false xs a h last depth =
    let e : ((last && is_empty xs) || ends_in_note xs) ≡ ((last && is_nil a) || ends_with_note a) =
    (λ i. (last && is_empty_as slots xs a h i) || ends_note slots xs a h i) in
    subst (λ b. Stretch true true (only_if b (null_line depth))
    (λ r. items_tokens (optional_item ((last && is_nil a) || ends_with_note a) null_statement NoItems) r)) (sym e)
    (maybe_null ((last && is_nil a) || ends_with_note a) depth)

-- the tokens of a section, and then these
abbrev pub section_tokens : List Slot → List ExpressionTree → Bool → Forest → Bool → Bool → List Class → List Class
section_tokens slots cases default a ends last r =
    labels_tokens (labels_of cases default) (items_tokens (optional_item (starts_with_local a) null_statement NoItems)
    (list_tokens slots a (items_tokens (section_end ends a last NoItems) r)))

-- the comments of a section, in front of these tokens and comments
abbrev pub section_notes : List Slot → Forest → Bool → Bool → List Class → Comments → Comments
section_notes slots a ends last r n = items_notes slots a (items_tokens (section_end ends a last NoItems) r) n

pub section_reads : (slots : List Slot) (cases : List Expression) (default : Bool) (xs : List Printed) (a : Forest) (ends last : Bool) (depth : ℕ) →
    ListPrints slots 3 (map expression_tree cases) → AllRead slots xs a
    → Told true true
    (joined (map (case_line slots depth) cases) ⨾ only_if default (default_line depth) ⨾ only_if (begins_with_local xs)
    (null_line (deeper depth)) ⨾ list_text xs (deeper depth) ⨾ x.section_end ends xs last (deeper depth))
    (section_tokens slots (map expression_tree cases) default a ends last) (section_notes slots a ends last)
section_reads slots cases default xs a ends last depth h k =
    along true true true (joined (map (case_line slots depth) cases) ⨾ only_if default (default_line depth)) _ _ _ (labels_read slots depth cases default h)
    (along true true true (only_if (begins_with_local xs) (null_line (deeper depth))) _ _ _
    (subst (λ b. Stretch true true (only_if b (null_line (deeper depth)))
    (λ r. items_tokens (optional_item (starts_with_local a) null_statement NoItems) r)) (sym (begins_local slots xs a k))
    (maybe_null (starts_with_local a) (deeper depth)))
    (along true true true (list_text xs (deeper depth)) _ _ _ (list_reads slots xs a k (deeper depth)) (end_reads slots ends xs a k last (deeper depth))))

-- ---- the sections of a switch

-- the first item is a statement
abbrev BeginsWithStatement : Items → Type 0
BeginsWithStatement (StatementItem s xs) = Unit {0}
BeginsWithStatement _ = ⊥

behind_tokens : (ls : List Label) (s : Statement) (r : List Class) → statement_tokens (behind_labels ls s) r ≡ labels_tokens ls (statement_tokens s r)
behind_tokens [] s r = refl
behind_tokens (l ∷ ls) s r = ap (label_tokens l) (behind_tokens ls s r)

labelled_tokens : (ls : List Label) (xs : Items) (r : List Class) → BeginsWithStatement xs →
    items_tokens (labelled ls xs) r ≡ labels_tokens ls (items_tokens xs r)
labelled_tokens ls (StatementItem s xs) r h = behind_tokens ls s (items_tokens xs r)
labelled_tokens ls _ r h = absurd h

labelled_begins : (ls : List Label) (xs : Items) → BeginsWithStatement xs → BeginsWithStatement (labelled ls xs)
labelled_begins ls (StatementItem s xs) h = tt
labelled_begins ls _ h = absurd h

optional_tokens : (b : Bool) (s : Statement) (xs : Items) (r : List Class) →
    items_tokens (optional_item b s xs) r ≡ items_tokens (optional_item b s NoItems) (items_tokens xs r)
optional_tokens true s xs r = refl
optional_tokens false s xs r = refl

end_tokens : (ends : Bool) (a : Forest) (last : Bool) (xs : Items) (r : List Class) →
    items_tokens (section_end ends a last xs) r ≡ items_tokens (section_end ends a last NoItems) (items_tokens xs r)
end_tokens true a last xs r = refl
end_tokens false a last xs r = optional_tokens ((last && is_nil a) || ends_with_note a) null_statement xs r

-- nothing but comments
abbrev has_notes_alone : Forest → Bool
has_notes_alone Nil = true
has_notes_alone (Then (t.Note bytes) a) = has_notes_alone a
has_notes_alone (Then _ a) = false

notes_end : (x : Tree) (a : Forest) → has_notes_alone (Then x a) ≡ true → ends_with_note (Then x a) ≡ true
notes_end (t.Note bytes) Nil h = refl
notes_end (t.Note bytes) (Then y a) h = notes_end y a h
notes_end _ a h = cc

-- behind comments alone a statement follows
end_begins : (ends : Bool) (a : Forest) (last : Bool) (xs : Items) → has_notes_alone a ≡ true → (last ≡ false → BeginsWithStatement xs) →
    BeginsWithStatement (section_end ends a last xs)
end_begins true a last xs h k = tt
end_begins false Nil true xs h k = tt
end_begins false Nil false xs h k = k refl
end_begins false (Then y a) last xs h k = by_or (last && is_nil (Then y a)) (ends_with_note (Then y a)) (notes_end y a h)
  where
    by_or : (b d : Bool) → d ≡ true → BeginsWithStatement (optional_item (b || d) null_statement xs)
    by_or true d e = tt
    by_or false true e = tt
    by_or false false e = absurd cc

items_begin : (slots : List Slot) (a : Forest) (xs : Items) → starts_with_local a ≡ false → (has_notes_alone a ≡ true → BeginsWithStatement xs) →
    BeginsWithStatement (items_of slots a xs)
items_begin slots Nil xs h k = k refl
items_begin slots (Then (t.Note bytes) a) xs h k = items_begin slots a xs h k
items_begin slots (Then (t.Local l given) a) xs h k = cc
items_begin slots (Then _ a) xs h k = tt

section_begins : (slots : List Slot) (a : Forest) (xs : Items) → (has_notes_alone a ≡ true → BeginsWithStatement xs) →
    BeginsWithStatement (optional_item (starts_with_local a) null_statement (items_of slots a xs))
section_begins slots a xs k = by_test (starts_with_local a) refl
  where
    by_test : (b : Bool) → starts_with_local a ≡ b → BeginsWithStatement (optional_item b null_statement (items_of slots a xs))
    by_test true e = tt
    by_test false e = items_begin slots a xs e k

sections_begin : (slots : List Slot) (cs : Sections) → is_last cs ≡ false → BeginsWithStatement (sections_of slots cs)
sections_begin slots NoSection h = cc
sections_begin slots (Section cases default a ends cs) h =
    labelled_begins (labels_of cases default) _
    (section_begins slots a (section_end ends a (is_last cs) (sections_of slots cs))
    (λ n. end_begins ends a (is_last cs) (sections_of slots cs) n (λ e. sections_begin slots cs e)))

-- the tokens of sections are those of each
pub sections_are : (slots : List Slot) (cases : List ExpressionTree) (default : Bool) (a : Forest) (ends : Bool) (cs : Sections) (r : List Class)
    → items_tokens (sections_of slots (Section cases default a ends cs)) r ≡ section_tokens slots cases default a ends (is_last cs)
    (items_tokens (sections_of slots cs) r)
sections_are slots cases default a ends cs r =
    labelled_tokens (labels_of cases default) _ r
    (section_begins slots a (section_end ends a (is_last cs) (sections_of slots cs))
    (λ n. end_begins ends a (is_last cs) (sections_of slots cs) n (λ e. sections_begin slots cs e)))
    ∙ ap (labels_tokens (labels_of cases default))
    (optional_tokens (starts_with_local a) null_statement (items_of slots a (section_end ends a (is_last cs) (sections_of slots cs))) r
    ∙ ap (λ l. items_tokens (optional_item (starts_with_local a) null_statement NoItems) l)
    (items_before slots a (section_end ends a (is_last cs) (sections_of slots cs)) r
    ∙ ap (list_tokens slots a) (end_tokens ends a (is_last cs) (sections_of slots cs) r)))
