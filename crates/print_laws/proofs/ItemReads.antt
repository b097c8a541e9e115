-- The printed text of items has the tokens of its derivation, and its pieces stand apart.
use Rattle.std.proofs.Common.{◌≡◌, ℕ, Bool, true, false, cond, ◌&&◌, List, [], ◌∷◌, map, Option, Some, None, inl, inr, refl, ap, sym, subst, ◌∙◌}
use Rattle.std.specs.Prelude.{codes, slice_get, option_map}
use Rattle.std.specs.Option.{option_map_or}
use Rattle.c_types.specs.Words.{is_word, is_word_byte}
use Rattle.c_lexer.specs.Pieces.{word_kind}
use Rattle.c_tree.specs.declared.tree.Slot.{Slot}
use Rattle.c_tree.specs.declared.tree.Function.{Function}
use Rattle.c_tree.specs.declared.tree.Expression.{Expression}
use Rattle.c_tree.specs.declared.tree.Test.{Test, Test-F, out-Test, roll-Test, roll-out-Test}
use Rattle.c_tree.specs.declared.tree.Test.TheOpen as T
use Rattle.c_tree.specs.declared.tree.Test.TheVariants as TV
use Rattle.c_tree.specs.declared.tree.Selector.{Selector, Selector-F, out-Selector, roll-Selector, roll-out-Selector}
use Rattle.c_tree.specs.declared.tree.Selector.TheOpen as S
use Rattle.c_tree.specs.declared.tree.Selector.TheVariants as SV
use Rattle.c_tree.specs.declared.tree.Item.{Item, Item-F, roll-Item, map-Item, ind-Item, fold-roll-Item}
use Rattle.c_tree.specs.declared.tree.Item.TheOpen as I
use Rattle.c_tree.specs.declared.tree.Section.{Section as RealSection, roll-Section, map-Section, fold-roll-Section}
use Rattle.c_tree.specs.ExpressionTrees.{ExpressionTree, expression_tree}
use Rattle.c_tree.specs.TestTrees.{TestTree, SelectorTree, test_tree, selector_tree}
use Rattle.c_tree.specs.TestTrees as te
use Rattle.c_tree.proofs.ExpressionLaws.{test-Source, test-On, test-Off, test-AndOff, test-OrOn, selector-Source, selector-Pick}
use Rattle.c_tree.specs.Trees.{Tree, Forest, Nil, Then, Sections, NoSection, Section, SectionTree, forest, sections, expression_trees, layer, section_layer, tree_of, section_tree}
use Rattle.c_tree.specs.Trees as t
use Rattle.c_tree.specs.TextPieces.{Piece, Text, spelled, ◌⨾◌, nothing, space, newline, indentation, word, punctuator, verbatim, comma, joined}
use Rattle.c_tree.specs.TextExpressions.{expression_text}
use Rattle.c_tree.specs.TextItems.{is_if, Printed, PrintedSection, first_text, braced, is_empty, else_text, sections_text, lines_of, item_step, section_step, printed, printed_section, test_step, test_text, selector_step, selector_text, part_text, label_name, local_text, further_text, declaration_text, declarator_text}
use Rattle.c_lexer.specs.Bytes.{NotFirst}
use Rattle.c_grammar.specs.declared.class.Class.{Class}
use Rattle.c_grammar.specs.declared.class.Class.TheVariants as c
use Rattle.c_grammar.specs.Expressions.{type_tokens, expression_tokens}
use Rattle.c_grammar.specs.Statements.{Local, Locals, Declarator, NoItems, Statement, word_tokens, more_tokens, declarator_tokens, local_tokens, for_start_tokens, items_tokens, statement_tokens}
use Rattle.print_laws.specs.Reread.{spelling, class_of_spelling, classes, Comments, noted, AreApart}
use Rattle.c_resolved_defs.specs.Verbatims.{IsComment}
use Rattle.print_laws.specs.Notes.{item_notes, items_notes, sections_notes}
use Rattle.print_laws.specs.ExpressionDerivations.{derivation_of}
use Rattle.c_resolved_defs.specs.PrintableExpressions.{IsName}
use Rattle.print_laws.specs.StatementDerivations.{declarator_of, no_declarator, no_local, slot_declarator, declaration_of, slot_declaration, test_of, selector_of, declarators_of, start_of, is_last, is_lone_if, placed, block, statement_of, items_of, sections_of}
use Rattle.c_resolved_defs.specs.PrintableStatements.{FullPrints, OptionPrints, ListPrints, SlotPrints, TestPrints, SelectorPrints, FurtherPrint, StartPrints, ItemPrints, ItemsPrint, SectionsPrint}
use Rattle.print_laws.proofs.Neighbours.{IsClosed, never}
use Rattle.print_laws.proofs.Parts.{Part, name_front, starts_before}
use Rattle.print_laws.proofs.DeclarationReads.{full_opened, declarator_part, declaration_part}
use Rattle.print_laws.proofs.StatementReads.{Told, along, stretch_as, ended, semicolon, opening, closing, open_block, close_block, colon, a_space, end_line, empty, indented, line_end, in_brackets, optional, shape_in, item_tokens, list_tokens, ReadsItem, AllRead, braced_reads}
use Rattle.print_laws.proofs.SectionReads.{keyword, keyword_line, break_line, section_tokens, section_notes, section_reads, sections_are}

-- ---- tests and selectors

pub test_reads : (slots : List Slot) (c : Test) → TestPrints slots (test_tree c) →
    Part (test_step slots (out-Test c)) (expression_tokens (test_of (test_tree c)))
test_reads slots c h = at_layer (out-Test c) (sym (roll-out-Test c)) h
  where
    at_layer : (o : Test-F Test) → c ≡ roll-Test o → TestPrints slots (test_tree c) → Part (test_step slots o) (expression_tokens (test_of (test_tree c)))
    at_layer (T.Source e) q h =
        let s : test_tree c ≡ te.Source (expression_tree e) = ap test_tree (q ∙ TV.rolls-Source e) ∙ test-Source e in
        subst (λ x. Part (expression_text slots e 1) (expression_tokens (test_of x))) (sym s) (full_opened slots 1 e (subst (TestPrints slots) s h))
    at_layer (T.On l) q h = absurd (subst (TestPrints slots) (ap test_tree (q ∙ TV.rolls-On l) ∙ test-On l) h)
    at_layer (T.Off l) q h = absurd (subst (TestPrints slots) (ap test_tree (q ∙ TV.rolls-Off l) ∙ test-Off l) h)
    at_layer (T.AndOff l x) q h = absurd (subst (TestPrints slots) (ap test_tree (q ∙ TV.rolls-AndOff l x) ∙ test-AndOff l x) h)
    at_layer (T.OrOn l x) q h = absurd (subst (TestPrints slots) (ap test_tree (q ∙ TV.rolls-OrOn l x) ∙ test-OrOn l x) h)

pub selector_reads : (slots : List Slot) (s : Selector) → SelectorPrints slots (selector_tree s) →
    Part (selector_step slots (out-Selector s)) (expression_tokens (selector_of (selector_tree s)))
selector_reads slots s h = at_layer (out-Selector s) (sym (roll-out-Selector s)) h
  where
    at_layer : (o : Selector-F Selector) → s ≡ roll-Selector o → SelectorPrints slots (selector_tree s) →
        Part (selector_step slots o) (expression_tokens (selector_of (selector_tree s)))
    at_layer (S.Source e) q h =
        let w : selector_tree s ≡ te.Selects (expression_tree e) = ap selector_tree (q ∙ SV.rolls-Source e) ∙ selector-Source e in
        subst (λ x. Part (expression_text slots e 1) (expression_tokens (selector_of x))) (sym w) (full_opened slots 1 e (subst (SelectorPrints slots) w h))
    at_layer (S.Pick l k x) q h = absurd (subst (SelectorPrints slots) (ap selector_tree (q ∙ SV.rolls-Pick l k x) ∙ selector-Pick l k x) h)

-- ---- the first part of a `for`

-- a text that goes on with a part, and ends as one
pub record Tail (s : Text) (tokens : List Class → List Class) : Type 0 where
  reads : (ps : List Piece) → classes (s ps) ≡ tokens (classes ps)
  quiet : (ps : List Piece) → noted (s ps) ≡ noted ps
  closed : (ps : List Piece) → IsClosed (spelled ps) → IsClosed (spelled (s ps))
  apart : (ps : List Piece) → IsClosed (spelled ps) → AreApart false ps → AreApart false (s ps)

no_tail : Tail nothing (λ r. r)
no_tail = record { reads = λ ps. refl; quiet = λ ps. refl; closed = λ ps h. h; apart = λ ps n a. a }

tail_along : (s u : Text) (f g : List Class → List Class) → Tail s f → Tail u g → Tail (s ⨾ u) (λ r. f (g r))
tail_along s u f g h k = record {
  reads = λ ps. h.reads (u ps) ∙ ap f (k.reads ps);
  quiet = λ ps. h.quiet (u ps) ∙ k.quiet ps;
  closed = λ ps n. h.closed (u ps) (k.closed ps n);
  apart = λ ps n a. h.apart (u ps) (k.closed ps n) (k.apart ps n a);
}

part_tail : (s u : Text) (f g : List Class → List Class) → Part s f → Tail u g → Part (s ⨾ u) (λ r. f (g r))
part_tail s u f g h k = record {
  reads = λ ps. h.reads (u ps) ∙ ap f (k.reads ps);
  quiet = λ ps. h.quiet (u ps) ∙ k.quiet ps;
  starts = starts_before s u h.starts;
  apart = λ first ps n a. h.apart first (u ps) (k.closed ps n) (k.apart ps n a);
}

comma_tail : (s : Text) (f : List Class → List Class) → Part s f → Tail (comma ⨾ s) (λ r. c.Comma ∷ f r)
comma_tail s f h = record {
  reads = λ ps. ap (λ l. c.Comma ∷ l) (h.reads ps);
  quiet = h.quiet;
  closed = λ ps n. refl;
  apart = λ ps n a. (refl, never (codes ",") (λ b. refl) (spelled (space (s ps))), h.apart false ps n a);
}

-- the tokens of a declaration in front of further declarators
abbrev pub front_tokens : Local → List Class → List Class
front_tokens (Locals constant n d ds) r = word_tokens c.Const constant (type_tokens n (declarator_tokens d r))

-- what may stand in the first part of a `for`
abbrev pub HeadPrints : List Slot → Tree → Type 0
HeadPrints slots (t.Evaluate e) = FullPrints slots 1 e
HeadPrints slots (t.Local k given) = SlotPrints slots (slice_get slots k) given
HeadPrints slots _ = ⊥

abbrev pub head_tokens : List Slot → Tree → List Class → List Class
head_tokens slots (t.Evaluate e) r = expression_tokens (derivation_of e) r
head_tokens slots (t.Local k given) r = front_tokens (slot_declaration slots k given []) r
head_tokens slots _ r = r

abbrev pub MorePrints : List Slot → Tree → Type 0
MorePrints slots (t.Local k given) = SlotPrints slots (slice_get slots k) given
MorePrints slots _ = ⊥

abbrev pub more_of : List Slot → Tree → List Class → List Class
more_of slots (t.Local k given) r = c.Comma ∷ declarator_tokens (slot_declarator slots k given) r
more_of slots _ r = r

-- ---- what is proved of each item

pub record Reads (f : Function) (p : Printed) (y : Tree) : Type 0 where
  pub shape : p.shape ≡ shape_in y
  pub lines : ItemPrints f y → (first : Bool) (depth : ℕ) → Told first true (p.lines depth) (item_tokens f.slots y) (item_notes f.slots y)
  pub head : HeadPrints f.slots y → Part p.head (head_tokens f.slots y)
  pub further : MorePrints f.slots y → Tail p.further (more_of f.slots y)

-- a declaration, in front of others, without its `;`
local_part : (f : Function) (k : ℕ) (given : Option (List Expression)) → SlotPrints f.slots (slice_get f.slots k) (option_map expression_trees given)
    → Part (local_text f k given) (front_tokens (slot_declaration f.slots k (option_map expression_trees given) []))
local_part f k given h = by_slot (slice_get f.slots k) h
  where
    by_slot : (o : Option Slot) → SlotPrints f.slots o (option_map expression_trees given)
        → Part (option_map_or (λ (s : Slot). declaration_text f.slots s given) o nothing)
        (front_tokens (option_map_or (λ (s : Slot). declaration_of s (option_map expression_trees given) []) o no_local))
    by_slot None h = absurd h
    by_slot (Some s) h = declaration_part f.slots s given h

further_tail : (f : Function) (k : ℕ) (given : Option (List Expression)) → SlotPrints f.slots (slice_get f.slots k) (option_map expression_trees given)
    → Tail (further_text f k given) (λ r. c.Comma ∷ declarator_tokens (slot_declarator f.slots k (option_map expression_trees given)) r)
further_tail f k given h = by_slot (slice_get f.slots k) h
  where
    by_slot : (o : Option Slot) → SlotPrints f.slots o (option_map expression_trees given)
        → Tail (option_map_or (λ (s : Slot). comma ⨾ declarator_text f.slots s given) o nothing)
        (λ r. c.Comma ∷ declarator_tokens (option_map_or (λ (s : Slot). declarator_of s (option_map expression_trees given)) o no_declarator) r)
    by_slot None h = absurd h
    by_slot (Some s) h = comma_tail (declarator_text f.slots s given) (declarator_tokens (declarator_of s (option_map expression_trees given)))
        (declarator_part f.slots s given h)

local_as : (slots : List Slot) (k : ℕ) (given : Option (List ExpressionTree)) (ds : List Declarator) → SlotPrints slots (slice_get slots k) given →
    (r : List Class)
    → local_tokens (slot_declaration slots k given ds) r ≡ front_tokens (slot_declaration slots k given []) (more_tokens declarator_tokens ds (c.Semicolon ∷ r))
local_as slots k given ds h r = by_slot (slice_get slots k) h
  where
    by_slot : (o : Option Slot) → SlotPrints slots o given
        → local_tokens (option_map_or (λ (s : Slot). declaration_of s given ds) o no_local) r ≡ front_tokens
        (option_map_or (λ (s : Slot). declaration_of s given []) o no_local) (more_tokens declarator_tokens ds (c.Semicolon ∷ r))
    by_slot None h = absurd h
    by_slot (Some s) h = refl

-- ---- comments

comment_reads : (bytes : List ℕ) → IsComment bytes → (ps : List Piece) → classes (verbatim bytes ps) ≡ classes ps
comment_reads [] h ps = absurd h
comment_reads (a ∷ []) h ps = absurd h
comment_reads (a ∷ b ∷ w) (e, inl h) ps = (λ i. classes (verbatim (e i ∷ h.0 i ∷ w) ps))
comment_reads (a ∷ b ∷ w) (e, inr h) ps = (λ i. classes (verbatim (e i ∷ h.0 i ∷ w) ps))

comment_tells : (bytes : List ℕ) → IsComment bytes → (ps : List Piece) → noted (verbatim bytes ps) ≡ (classes ps, bytes) ∷ noted ps
comment_tells [] h ps = absurd h
comment_tells (a ∷ []) h ps = absurd h
comment_tells (a ∷ b ∷ w) (e, inl h) ps =
    (λ i. noted (verbatim (e i ∷ h.0 i ∷ w) ps)) ∙ (λ i. (classes ps, 47 ∷ 47 ∷ h.1.ended i) ∷ noted ps) ∙ sym (λ i. (classes ps, e i ∷ h.0 i ∷ w) ∷ noted ps)
comment_tells (a ∷ b ∷ w) (e, inr h) ps = (λ i. noted (verbatim (e i ∷ h.0 i ∷ w) ps)) ∙ sym (λ i. (classes ps, e i ∷ h.0 i ∷ w) ∷ noted ps)

pub note_line : (a : Bool) (bytes : List ℕ) → IsComment bytes → Told a true (verbatim bytes ⨾ newline) (λ r. r) (λ r n. (r, bytes) ∷ n)
note_line a bytes h = record {
  reads = λ ps. comment_reads bytes h (newline ps);
  tells = λ ps. comment_tells bytes h (newline ps);
  apart = λ ps e. (inr h, refl, e);
}

-- ---- names of labels

pub name_line : {k : List Class → Comments → Comments} (a b : Bool) (w : List ℕ) (s : Text) (g : List Class → List Class) → IsName w →
    ((ps : List Piece) → NotFirst is_word_byte (spelled (s ps))) → Told false b s g k → Told a b (word w ⨾ s) (λ r. c.Name ∷ g r) k
name_line a b w s g h n k =
    let v = name_front w h in
    record {
      reads = λ ps. v.reads (s ps) ∙ ap (λ l. c.Name ∷ l) (k.reads ps);
      tells = λ ps. v.quiet (s ps) ∙ k.tells ps;
      apart = λ ps e. v.apart a (s ps) (n ps) (k.apart ps e);
    }

-- ---- else

lone_as : (slots : List Slot) (x : Printed) (xs : List Printed) (y : Tree) (a : Forest) → ReadsItem slots x y → AllRead slots xs a →
    (is_empty xs && is_if x.shape) ≡ is_lone_if y a
lone_as slots x [] y Nil h k = ap is_if h.shape ∙ by_tree y
  where
    by_tree : (y : Tree) → is_if (shape_in y) ≡ is_lone_if y Nil
    by_tree (t.If c a b) = refl
    by_tree _ = refl
lone_as slots x (z ∷ xs) y (Then w a) h k = by_tree y
  where
    by_tree : (y : Tree) → false ≡ is_lone_if y (Then w a)
    by_tree (t.If c a b) = refl
    by_tree _ = refl
lone_as slots x [] y (Then w a) h k = absurd k
lone_as slots x (z ∷ xs) y Nil h k = absurd k

lone_tokens : (slots : List Slot) (y : Tree) (a : Forest) → is_lone_if y a ≡ true → (r : List Class) →
    statement_tokens (statement_of slots y) r ≡ item_tokens slots y r
lone_tokens slots (t.If c a b) Nil h r = refl
lone_tokens slots (t.If c a b) (Then w d) h r = refl
lone_tokens slots _ a h r = cc

abbrev else_statement : List Slot → Bool → Tree → Forest → Statement
else_statement slots b y a = cond b (statement_of slots y) (block (placed slots y (statement_of slots y) (items_of slots a NoItems)))

abbrev lone_notes : List Slot → Tree → Forest → Bool → List Class → Comments → Comments
lone_notes slots y a b r n = cond b (item_notes slots y r n)
    (item_notes slots y (items_tokens (items_of slots a NoItems) (c.CloseBlock ∷ r)) (items_notes slots a (c.CloseBlock ∷ r) n))

else_reads : (slots : List Slot) (x : Printed) (xs : List Printed) (y : Tree) (a : Forest) → ReadsItem slots x y → AllRead slots xs a → (depth : ℕ)
    → Told false true (else_text (x ∷ xs) depth) (λ r. c.Else ∷ statement_tokens (else_statement slots (is_lone_if y a) y a) r)
    (lone_notes slots y a (is_lone_if y a))
else_reads slots x xs y a h k depth =
    along false false true space (word (codes "else") ⨾ space ⨾ cond (is_empty xs && is_if x.shape) (x.lines depth) (braced (x ∷ xs) depth ⨾ newline))
    _ _ (a_space false)
    (keyword false true (codes "else") c.Else (space ⨾ cond (is_empty xs && is_if x.shape) (x.lines depth) (braced (x ∷ xs) depth ⨾ newline)) _ refl
    refl (λ ps. refl)
    (along false false true space _ _ _ (a_space false)
    (subst (λ b. Told false true (cond b (x.lines depth) (braced (x ∷ xs) depth ⨾ newline))
    (λ r. statement_tokens (else_statement slots (is_lone_if y a) y a) r) (lone_notes slots y a (is_lone_if y a)))
    (sym (lone_as slots x xs y a h k)) (by_test (is_lone_if y a) refl))))
  where
    by_test : (b : Bool) → is_lone_if y a ≡ b → Told false true (cond b (x.lines depth) (braced (x ∷ xs) depth ⨾ newline))
        (λ r. statement_tokens (else_statement slots b y a) r) (lone_notes slots y a b)
    by_test true e = stretch_as false true (x.lines depth) (item_tokens slots y) _ (lone_tokens slots y a e) (h.lines false depth)
    by_test false e = along false false true (braced (x ∷ xs) depth) newline _ _ (braced_reads slots false (x ∷ xs) (Then y a) (h, k) depth) (end_line false)

-- ---- each item

module _ (f : Function) where
  abbrev pub ItemReads : Item → Type 0
  ItemReads x = Reads f (printed f x) (tree_of x)

  -- the lines of a section, given whether it is the last of its switch
  abbrev SectionReads : PrintedSection → SectionTree → Type 0
  SectionReads s d =
      ListPrints f.slots 3 d.cases → ItemsPrint f d.list → (last : Bool) (depth : ℕ) →
      Told true true (s last depth) (section_tokens f.slots d.cases d.default d.list d.ends last) (section_notes f.slots d.list d.ends last)

  abbrev IX : Type 0
  IX = (x : Item) × ItemReads x

  abbrev IC : Type 0
  IC = (d : RealSection) × SectionReads (printed_section f d) (section_tree d)

  abbrev item : IX → Item
  item e = e.0

  abbrev section : IC → RealSection
  section e = e.0

  abbrev texts : List IX → List Printed
  texts a = map (printed f) (map item a)

  abbrev trees : List IX → Forest
  trees a = forest (map tree_of (map item a))

  all_read : (a : List IX) → ItemsPrint f (trees a) → AllRead f.slots (texts a) (trees a)
  all_read [] h = tt
  all_read (x ∷ a) h = (record { shape = x.1.shape; lines = x.1.lines h.0 }, all_read a h.1)

  -- a list in braces, and what stands behind it
  braces : {k : List Class → Comments → Comments} (a b : Bool) (xs : List IX) (depth : ℕ) (s : Text) (g : List Class → List Class) →
      ItemsPrint f (trees xs) → Told false b s g k
      → Told a b (braced (texts xs) depth ⨾ s) (λ r. c.OpenBlock ∷ list_tokens f.slots (trees xs) (c.CloseBlock ∷ g r))
      (λ r n. items_notes f.slots (trees xs) (c.CloseBlock ∷ g r) (k r n))
  braces a b xs depth s g h k = along a false b (braced (texts xs) depth) s _ g (braced_reads f.slots a (texts xs) (trees xs) (all_read xs h) depth) k

  -- a keyword, a test in brackets, and what stands behind them
  tested : {k : List Class → Comments → Comments} (a b : Bool) (w : List ℕ) (class : Class) (x : Test) (s : Text) (g : List Class → List Class)
      → is_word w ≡ true → class_of_spelling (spelling (word_kind w) w) ≡ class
      → TestPrints f.slots (test_tree x) → Told false b s g k
      → Told a b (word w ⨾ space ⨾ test_text f.slots x ⨾ s) (λ r. class ∷ c.Open ∷ expression_tokens (test_of (test_tree x)) (c.Close ∷ g r)) k
  tested a b w class x s g h e p k =
      keyword a b w class (space ⨾ test_text f.slots x ⨾ s) _ h e (λ ps. refl)
      (along false false b space (test_text f.slots x ⨾ s) _ _ (a_space false)
      (along false false b (test_text f.slots x) s _ g (in_brackets false (test_step f.slots (out-Test x)) (expression_tokens (test_of (test_tree x)))
      (test_reads f.slots x p)) k))

  if_reads : (x : Test) (a b : List IX) → TestPrints f.slots (test_tree x) → ItemsPrint f (trees a) → ItemsPrint f (trees b) → (first : Bool) (depth : ℕ)
      → Told first true (lines_of f (I.If x (texts a) (texts b)) depth) (item_tokens f.slots (t.If (test_tree x) (trees a) (trees b)))
      (item_notes f.slots (t.If (test_tree x) (trees a) (trees b)))
  if_reads x a [] p h k first depth =
      tested first true (codes "if") c.If x (space ⨾ braced (texts a) depth ⨾ newline) _ refl refl p
      (along false false true space (braced (texts a) depth ⨾ newline) _ _ (a_space false) (braces false true a depth newline (λ r. r) h (end_line false)))
  if_reads x a (y ∷ b) p h k first depth =
      let r = all_read (y ∷ b) k in
      tested first true (codes "if") c.If x (space ⨾ braced (texts a) depth ⨾ else_text (texts (y ∷ b)) depth) _ refl refl p
      (along false false true space (braced (texts a) depth ⨾ else_text (texts (y ∷ b)) depth) _ _ (a_space false)
      (braces false true a depth (else_text (texts (y ∷ b)) depth) _ h (else_reads f.slots (printed f y.0) (texts b) (tree_of y.0) (trees b) r.0 r.1 depth)))

  while_reads : (x : Test) (a : List IX) → TestPrints f.slots (test_tree x) → ItemsPrint f (trees a) → (first : Bool) (depth : ℕ)
      → Told first true (lines_of f (I.While x (texts a)) depth) (item_tokens f.slots (t.While (test_tree x) (trees a)))
      (item_notes f.slots (t.While (test_tree x) (trees a)))
  while_reads x a p h first depth =
      tested first true (codes "while") c.While x (space ⨾ braced (texts a) depth ⨾ newline) _ refl refl p
      (along false false true space (braced (texts a) depth ⨾ newline) _ _ (a_space false) (braces false true a depth newline (λ r. r) h (end_line false)))

  do_reads : (a : List IX) (x : Test) → ItemsPrint f (trees a) → TestPrints f.slots (test_tree x) → (first : Bool) (depth : ℕ)
      → Told first true (lines_of f (I.Do (texts a) x) depth) (item_tokens f.slots (t.Do (trees a) (test_tree x)))
      (item_notes f.slots (t.Do (trees a) (test_tree x)))
  do_reads a x h p first depth =
      keyword first true (codes "do") c.Do (space ⨾ braced (texts a) depth ⨾ space ⨾ word (codes "while") ⨾ space ⨾ test_text f.slots x ⨾ punctuator
      (codes ";") ⨾ newline) _ refl refl (λ ps. refl)
      (along false false true space (braced (texts a) depth ⨾ space ⨾ word (codes "while") ⨾ space ⨾ test_text f.slots x ⨾ punctuator
      (codes ";") ⨾ newline) _ _ (a_space false)
      (braces false true a depth (space ⨾ word (codes "while") ⨾ space ⨾ test_text f.slots x ⨾ punctuator (codes ";") ⨾ newline) _ h
      (along false false true space (word (codes "while") ⨾ space ⨾ test_text f.slots x ⨾ punctuator (codes ";") ⨾ newline) _ _ (a_space false)
      (tested false true (codes "while") c.While x (punctuator (codes ";") ⨾ newline) _ refl refl p (line_end false)))))

  block_reads : (a : List IX) → ItemsPrint f (trees a) → (first : Bool) (depth : ℕ) →
      Told first true (lines_of f (I.Block (texts a)) depth) (item_tokens f.slots (t.Block (trees a))) (item_notes f.slots (t.Block (trees a)))
  block_reads a h first depth = braces first true a depth newline (λ r. r) h (end_line false)

  furthers : (a : List IX) → FurtherPrint f.slots (trees a) → Tail (joined (map (λ (y : Printed). y.further) (texts a)))
      (more_tokens declarator_tokens (declarators_of f.slots (trees a)))
  furthers [] h = no_tail
  furthers (x ∷ a) h = by_tree (tree_of x.0) x.1.further h (λ k. furthers a k)
    where
      by_tree : (y : Tree) → (MorePrints f.slots y → Tail (printed f x.0).further (more_of f.slots y)) → FurtherPrint f.slots (Then y (trees a))
          → (FurtherPrint f.slots (trees a) → Tail (joined (map (λ (y : Printed). y.further) (texts a)))
          (more_tokens declarator_tokens (declarators_of f.slots (trees a))))
          → Tail (joined (map (λ (y : Printed). y.further) (texts (x ∷ a)))) (more_tokens declarator_tokens (declarators_of f.slots (Then y (trees a))))
      by_tree (t.Local k given) g h later = tail_along (printed f x.0).further (joined (map (λ (y : Printed). y.further) (texts a))) _ _ (g h.0) (later h.1)
      by_tree _ g h later = absurd h

  -- the first part of a `for`, its `;`, and what stands behind it
  start_reads : {k : List Class → Comments → Comments} (a : List IX) (b : Bool) (s : Text) (g : List Class → List Class) →
      StartPrints f.slots (trees a) → Told false b s g k
      → Told false b (first_text (texts a) ⨾ punctuator (codes ";") ⨾ s) (λ r. for_start_tokens (start_of f.slots (trees a)) (g r)) k
  start_reads [] b s g h k = along false false b (punctuator (codes ";")) s _ g (semicolon false) k
  start_reads {k = m} (x ∷ a) b s g h k = by_tree (tree_of x.0) x.1.head a h
    where
      its_end : Told false b (punctuator (codes ";") ⨾ s) (λ r. c.Semicolon ∷ g r) m
      its_end = along false false b (punctuator (codes ";")) s _ g (semicolon false) k

      by_tree : (y : Tree) → (HeadPrints f.slots y → Part (printed f x.0).head (head_tokens f.slots y)) → (a : List IX) → StartPrints f.slots (Then y (trees a))
          → Told false b (((printed f x.0).head ⨾ joined (map (λ (y : Printed). y.further) (texts a))) ⨾ punctuator (codes ";") ⨾ s)
          (λ r. for_start_tokens (start_of f.slots (Then y (trees a))) (g r)) m
      by_tree (t.Evaluate e) p [] h = ended false b (printed f x.0).head (punctuator (codes ";") ⨾ s) (expression_tokens (derivation_of e))
          (λ r. c.Semicolon ∷ g r) (p h) (λ ps. refl) its_end
      by_tree (t.Evaluate e) p (z ∷ a) h = absurd h
      by_tree (t.Local l given) p a h =
          stretch_as false b _ _ _ (λ r. local_as f.slots l given (declarators_of f.slots (trees a)) h.0 (g r))
          (ended false b ((printed f x.0).head ⨾ joined (map (λ (y : Printed). y.further) (texts a))) (punctuator (codes ";") ⨾ s) _ (λ r. c.Semicolon ∷ g r)
          (part_tail (printed f x.0).head (joined (map (λ (y : Printed). y.further) (texts a))) (front_tokens (slot_declaration f.slots l given []))
          (more_tokens declarator_tokens (declarators_of f.slots (trees a))) (p h.0) (furthers a h.1))
          (λ ps. refl) its_end)
      by_tree _ p a h = absurd h

  part_closed : (e : Option Expression) (s : Text) → ((ps : List Piece) → IsClosed (spelled (s ps))) → (ps : List Piece) →
      IsClosed (spelled ((part_text f.slots e ⨾ s) ps))
  part_closed None s n ps = n ps
  part_closed (Some e) s n ps = refl

  for_reads : (a : List IX) (u v : Option Expression) (d : List IX) → StartPrints f.slots (trees a) →
      OptionPrints f.slots (option_map expression_tree u) → OptionPrints f.slots (option_map expression_tree v) → ItemsPrint f (trees d) →
      (first : Bool) (depth : ℕ)
      → Told first true (lines_of f (I.For (texts a) u v (texts d)) depth)
      (item_tokens f.slots (t.For (trees a) (option_map expression_tree u) (option_map expression_tree v) (trees d)))
      (item_notes f.slots (t.For (trees a) (option_map expression_tree u) (option_map expression_tree v) (trees d)))
  for_reads a u v d h i j k first depth =
      let body = braces false true d depth newline (λ r. r) k (end_line false) in
      let behind = along false false true (punctuator (codes ")")) (space ⨾ braced (texts d) depth ⨾ newline) _ _ (closing false)
      (along false false true space (braced (texts d) depth ⨾ newline) _ _ (a_space false) body) in
      let third = optional f.slots v true (punctuator (codes ")") ⨾ space ⨾ braced (texts d) depth ⨾ newline) _ j (λ ps. refl) behind in
      let second = along false false true (punctuator (codes ";")) (part_text f.slots v ⨾ punctuator (codes ")") ⨾ space ⨾ braced (texts d)
      depth ⨾ newline) _ _ (semicolon false) third in
      let tests = optional f.slots u true (punctuator (codes ";") ⨾ part_text f.slots v ⨾ punctuator (codes ")") ⨾ space ⨾ braced (texts d)
      depth ⨾ newline) _ i (λ ps. refl) second in
      let start = start_reads a true (part_text f.slots u ⨾ punctuator (codes ";") ⨾ part_text f.slots v ⨾ punctuator (codes ")") ⨾ space ⨾ braced
      (texts d) depth ⨾ newline) _ h tests in
      keyword first true (codes "for") c.For
      (space ⨾ punctuator (codes "(") ⨾ first_text (texts a) ⨾ punctuator (codes ";") ⨾ part_text f.slots u ⨾ punctuator (codes ";") ⨾ part_text
      f.slots v ⨾ punctuator (codes ")") ⨾ space ⨾ braced (texts d) depth ⨾ newline) _ refl refl (λ ps. refl)
      (along false false true space (punctuator (codes "(") ⨾ first_text (texts a) ⨾ punctuator (codes ";") ⨾ part_text f.slots u ⨾ punctuator
      (codes ";") ⨾ part_text f.slots v ⨾ punctuator (codes ")") ⨾ space ⨾ braced (texts d) depth ⨾ newline) _ _ (a_space false)
      (along false false true (punctuator (codes "(")) (first_text (texts a) ⨾ punctuator (codes ";") ⨾ part_text f.slots u ⨾ punctuator
      (codes ";") ⨾ part_text f.slots v ⨾ punctuator (codes ")") ⨾ space ⨾ braced (texts d) depth ⨾ newline) _ _ (opening false) start))

  return_ends : (e : Option Expression) (ps : List Piece) → NotFirst is_word_byte (spelled ((part_text f.slots e ⨾ punctuator (codes ";") ⨾ newline) ps))
  return_ends None ps = refl
  return_ends (Some e) ps = refl

  -- ---- switches

  abbrev section_texts : List IC → List PrintedSection
  section_texts a = map (printed_section f) (map section a)

  abbrev section_trees : List IC → Sections
  section_trees a = sections (map section_tree (map section a))

  last_as : (a : List IC) → is_empty (section_texts a) ≡ is_last (section_trees a)
  last_as [] = refl
  last_as (x ∷ a) = refl

  sections_read : (a : List IC) → SectionsPrint f (section_trees a) → (depth : ℕ) →
      Told true true (sections_text (section_texts a) depth) (λ r. items_tokens (sections_of f.slots (section_trees a)) r)
      (sections_notes f.slots (section_trees a))
  sections_read [] h depth = empty true
  sections_read (x ∷ a) h depth =
      let d = section_tree x.0 in
      stretch_as true true _ _ _ (sections_are f.slots d.cases d.default d.list d.ends (section_trees a))
      (along true true true (printed_section f x.0 (is_empty (section_texts a)) depth) (sections_text (section_texts a) depth) _ _
      (subst (λ b. Told true true (printed_section f x.0 b depth) (section_tokens f.slots d.cases d.default d.list d.ends (is_last (section_trees a)))
      (section_notes f.slots d.list d.ends (is_last (section_trees a)))) (sym (last_as a)) (x.1 h.0 h.1 (is_last (section_trees a)) depth))
      (sections_read a h.2 depth))

  switch_reads : (s : Selector) (a : List IC) → SelectorPrints f.slots (selector_tree s) → SectionsPrint f (section_trees a) → (first : Bool) (depth : ℕ)
      → Told first true (lines_of f (I.Switch s (section_texts a)) depth) (item_tokens f.slots (t.Switch (selector_tree s) (section_trees a)))
      (item_notes f.slots (t.Switch (selector_tree s) (section_trees a)))
  switch_reads s a p h first depth =
      keyword first true (codes "switch") c.Switch (space ⨾ selector_text f.slots s ⨾ space ⨾ punctuator
      (codes "{") ⨾ newline ⨾ sections_text (section_texts a) depth ⨾ indentation depth ⨾ punctuator (codes "}") ⨾ newline) _ refl refl (λ ps. refl)
      (along false false true space (selector_text f.slots s ⨾ space ⨾ punctuator
      (codes "{") ⨾ newline ⨾ sections_text (section_texts a) depth ⨾ indentation depth ⨾ punctuator (codes "}") ⨾ newline) _ _ (a_space false)
      (along false false true (selector_text f.slots s)
      (space ⨾ punctuator (codes "{") ⨾ newline ⨾ sections_text (section_texts a) depth ⨾ indentation depth ⨾ punctuator (codes "}") ⨾ newline) _ _
      (in_brackets false (selector_step f.slots (out-Selector s)) (expression_tokens (selector_of (selector_tree s))) (selector_reads f.slots s p))
      (along false false true space (punctuator (codes "{") ⨾ newline ⨾ sections_text (section_texts a) depth ⨾ indentation depth ⨾ punctuator
      (codes "}") ⨾ newline) _ _ (a_space false)
      (along false false true (punctuator (codes "{")) (newline ⨾ sections_text (section_texts a) depth ⨾ indentation depth ⨾ punctuator
      (codes "}") ⨾ newline) _ _ (open_block false)
      (along false true true newline (sections_text (section_texts a) depth ⨾ indentation depth ⨾ punctuator (codes "}") ⨾ newline) _ _ (end_line false)
      (along true true true (sections_text (section_texts a) depth) (indentation depth ⨾ punctuator (codes "}") ⨾ newline) _ _ (sections_read a h depth)
      (indented depth true true (punctuator (codes "}") ⨾ newline) _ (along true false true (punctuator (codes "}")) newline _ _ (close_block true)
      (end_line false)))))))))

  -- ---- all items

  abbrev texts_of : Item-F Item RealSection → Item-F Printed PrintedSection
  texts_of z = map-Item Item RealSection Printed PrintedSection (printed f) (printed_section f) z

  abbrev trees_of : Item-F Item RealSection → Item-F Tree SectionTree
  trees_of z = map-Item Item RealSection Tree SectionTree tree_of section_tree z

  layer_reads : (y : Item-F IX IC) → Reads f (item_step f (texts_of (map-Item IX IC Item RealSection item section y)))
      (layer (trees_of (map-Item IX IC Item RealSection item section y)))
  layer_reads (I.Evaluate e) = record {
    shape = refl;
    lines = λ h first depth. ended first true (expression_text f.slots e 1) (punctuator (codes ";") ⨾ newline) _ _ (full_opened f.slots 1 e h)
        (λ ps. refl) (line_end false);
    head = λ h. full_opened f.slots 1 e h;
    further = λ h. absurd h;
  }
  layer_reads (I.Return e) = record {
    shape = refl;
    lines = λ h first depth. keyword first true (codes "return") c.Return (part_text f.slots e ⨾ punctuator (codes ";") ⨾ newline) _ refl refl
        (return_ends e) (optional f.slots e true (punctuator (codes ";") ⨾ newline) _ h (λ ps. refl) (line_end false));
    head = λ h. absurd h;
    further = λ h. absurd h;
  }
  layer_reads (I.If x a b) = record {
    shape = refl;
    lines = λ h first depth. if_reads x a b h.0 h.1 h.2 first depth;
    head = λ h. absurd h;
    further = λ h. absurd h;
  }
  layer_reads (I.While x a) = record {
    shape = refl;
    lines = λ h first depth. while_reads x a h.0 h.1 first depth;
    head = λ h. absurd h;
    further = λ h. absurd h;
  }
  layer_reads (I.Do a x) = record { shape = refl; lines = λ h first depth. do_reads a x h.0 h.1 first depth; head = λ h. absurd h; further = λ h. absurd h }
  layer_reads (I.For a u v d) = record {
    shape = refl;
    lines = λ h first depth. for_reads a u v d h.0 h.1 h.2 h.3 first depth;
    head = λ h. absurd h;
    further = λ h. absurd h;
  }
  layer_reads (I.Switch s a) = record {
    shape = refl;
    lines = λ h first depth. switch_reads s a h.0 h.1 first depth;
    head = λ h. absurd h;
    further = λ h. absurd h;
  }
  layer_reads (I.Block a) = record { shape = refl; lines = λ h first depth. block_reads a h first depth; head = λ h. absurd h; further = λ h. absurd h }
  layer_reads (I.Local k given) = record {
    shape = refl;
    lines =
        λ h first depth. stretch_as first true _ _ _ (λ r. local_as f.slots k (option_map expression_trees given) [] h r)
        (ended first true (local_text f k given) (punctuator (codes ";") ⨾ newline) _ _ (local_part f k given h) (λ ps. refl) (line_end false));
    head = λ h. local_part f k given h;
    further = λ h. further_tail f k given h;
  }
  layer_reads I.Break = record { shape = refl; lines = λ h first depth. break_line first; head = λ h. absurd h; further = λ h. absurd h }
  layer_reads I.Continue = record {
    shape = refl;
    lines = λ h first depth. keyword_line first (codes "continue") c.Continue refl refl;
    head = λ h. absurd h;
    further = λ h. absurd h;
  }
  layer_reads (I.Goto l) = record {
    shape = refl;
    lines =
        λ h first depth. keyword first true (codes "goto") c.Goto (space ⨾ word (label_name f l) ⨾ punctuator (codes ";") ⨾ newline) _ refl refl (λ ps. refl)
        (along false false true space (word (label_name f l) ⨾ punctuator (codes ";") ⨾ newline) _ _ (a_space false)
        (name_line false true (label_name f l) (punctuator (codes ";") ⨾ newline) _ h (λ ps. refl) (line_end false)));
    head = λ h. absurd h;
    further = λ h. absurd h;
  }
  layer_reads (I.Mark l) = record {
    shape = refl;
    lines =
        λ h first depth. name_line first true (label_name f l) (punctuator (codes ":") ⨾ space ⨾ punctuator (codes ";") ⨾ newline) _ h (λ ps. refl)
        (along false false true (punctuator (codes ":")) (space ⨾ punctuator (codes ";") ⨾ newline) _ _ (colon false)
        (along false false true space (punctuator (codes ";") ⨾ newline) _ _ (a_space false) (line_end false)));
    head = λ h. absurd h;
    further = λ h. absurd h;
  }
  layer_reads (I.Arm l e) = record { shape = refl; lines = λ h. absurd h; head = λ h. absurd h; further = λ h. absurd h }
  layer_reads (I.Leap l) = record { shape = refl; lines = λ h. absurd h; head = λ h. absurd h; further = λ h. absurd h }
  layer_reads (I.Land l) = record { shape = refl; lines = λ h. absurd h; head = λ h. absurd h; further = λ h. absurd h }
  layer_reads (I.Arrival e) = record { shape = refl; lines = λ h. absurd h; head = λ h. absurd h; further = λ h. absurd h }
  layer_reads (I.Note bytes) = record { shape = refl; lines = λ h first depth. note_line first bytes h; head = λ h. absurd h; further = λ h. absurd h }

  tree_rolls : (z : Item-F Item RealSection) → tree_of (roll-Item z) ≡ layer (trees_of z)
  unfolding tree_of section_tree
  tree_rolls z = fold-roll-Item Tree SectionTree layer section_layer z

  section_rolls : (z : I.Section-F Item RealSection) → section_tree (roll-Section z) ≡ section_layer
      (map-Section Item RealSection Tree SectionTree tree_of section_tree z)
  unfolding tree_of section_tree
  section_rolls z = fold-roll-Section Tree SectionTree layer section_layer z

  section_layer_reads : (y : I.Section-F IX IC) → SectionReads
      (section_step f (map-Section Item RealSection Printed PrintedSection (printed f) (printed_section f)
      (map-Section IX IC Item RealSection item section y)))
      (section_layer (map-Section Item RealSection Tree SectionTree tree_of section_tree (map-Section IX IC Item RealSection item section y)))
  section_layer_reads y h k last depth = section_reads f.slots y.cases y.default (texts y.list) (trees y.list) y.ends last depth h (all_read y.list k)

  -- Where an item prints, its lines have the tokens of its derivation, and their pieces stand apart.
  pub item_reads : (x : Item) → ItemReads x
  item_reads = ind-Item ItemReads (λ d. SectionReads (printed_section f d) (section_tree d))
      (λ x y e. subst (λ (z : Item-F Item RealSection). Reads f (printed f (roll-Item z)) (tree_of (roll-Item z))) e
      (subst (λ (p : Printed). Reads f p (tree_of (roll-Item (map-Item IX IC Item RealSection item section y))))
      (sym (fold-roll-Item Printed PrintedSection (item_step f) (section_step f) _))
      (subst (λ (w : Tree). Reads f (item_step f (texts_of (map-Item IX IC Item RealSection item section y))) w) (sym (tree_rolls _)) (layer_reads y))))
      (λ x y e. subst (λ (z : I.Section-F Item RealSection). SectionReads (printed_section f (roll-Section z)) (section_tree (roll-Section z))) e
      (subst (λ (p : PrintedSection). SectionReads p (section_tree (roll-Section (map-Section IX IC Item RealSection item section y))))
      (sym (fold-roll-Section Printed PrintedSection (item_step f) (section_step f) _))
      (subst (λ (w : SectionTree). SectionReads
      (section_step f (map-Section Item RealSection Printed PrintedSection (printed f) (printed_section f)
      (map-Section IX IC Item RealSection item section y))) w) (sym (section_rolls _)) (section_layer_reads y))))
