-- The printed text of statements has the tokens of its derivation, and its pieces stand apart.
use Rattle.std.proofs.Common.{◌≡◌, ◌*◌, ℕ, zero, suc, Bool, true, false, List, [], ◌∷◌, ◌++◌, map, Option, Some, None, refl, ap, sym, ◌∙◌}
use Rattle.std.specs.Prelude.{codes, option_map}
use Rattle.c_tree.specs.declared.tree.Slot.{Slot}
use Rattle.c_tree.specs.declared.tree.Expression.{Expression}
use Rattle.c_tree.specs.ExpressionTrees.{expression_tree}
use Rattle.c_tree.specs.Trees.{Tree, Forest, Nil, Then, Sections, NoSection, Section, forest}
use Rattle.c_tree.specs.Trees as t
use Rattle.c_tree.specs.TextPieces.{Piece, Text, spelled, ◌⨾◌, nothing, space, newline, indentation, punctuator, only_if}
use Rattle.c_tree.specs.TextExpressions.{expression_text}
use Rattle.c_tree.specs.TextItems.{Shape, AnIf, ALocal, ANote, Unprinted, Other, is_printed, Printed, deeper, item_text, list_text, braced, part_text}
use Rattle.c_lexer.specs.Pieces as l
use Rattle.c_grammar.specs.declared.class.Class.{Class}
use Rattle.c_grammar.specs.declared.class.Class.TheVariants as c
use Rattle.c_grammar.specs.Statements.{Items, NoItems, Statement, items_tokens, optional_tokens}
use Rattle.print_laws.specs.Reread.{spaces, spellings, reread_all, class_of_spelling, classes, Comments, placed_comments, noted, AreApart}
use Rattle.print_laws.specs.Notes.{item_notes, items_notes}
use Rattle.print_laws.specs.ExpressionDerivations.{derivation_of}
use Rattle.print_laws.specs.StatementDerivations.{placed, statement_of, items_of}
use Rattle.c_resolved_defs.specs.PrintableStatements.{OptionPrints}
use Rattle.print_laws.proofs.Neighbours.{IsClosed, never}
use Rattle.print_laws.proofs.Parts.{Part}
use Rattle.print_laws.proofs.DeclarationReads.{full_opened}

-- ---- stretches of a text

-- A text with these tokens and comments, behind which pieces stand apart. The flags say that nothing but white space
-- stands before it on its line, and before what follows on that line.
pub record Told (before after : Bool) (t : Text) (tokens : List Class → List Class) (notes : List Class → Comments → Comments) : Type 0 where
  pub reads : (ps : List Piece) → classes (t ps) ≡ tokens (classes ps)
  pub tells : (ps : List Piece) → noted (t ps) ≡ notes (classes ps) (noted ps)
  pub apart : (ps : List Piece) → AreApart after ps → AreApart before (t ps)

-- one without comments
abbrev pub Stretch : Bool → Bool → Text → (List Class → List Class) → Type 0
Stretch before after t tokens = Told before after t tokens (λ r n. n)

-- one behind another
pub along : {m k : List Class → Comments → Comments} (a b d : Bool) (s t : Text) (f g : List Class → List Class) → Told a b s f m → Told b d t g k →
    Told a d (s ⨾ t) (λ r. f (g r)) (λ r n. m (g r) (k r n))
along {m = m} a b d s t f g h k = record {
  reads = λ ps. h.reads (t ps) ∙ ap f (k.reads ps);
  tells = λ ps. h.tells (t ps) ∙ (λ i. m (k.reads ps i) (k.tells ps i));
  apart = λ ps e. h.apart (t ps) (k.apart ps e);
}

pub stretch_as : {m : List Class → Comments → Comments} (a b : Bool) (t : Text) (f g : List Class → List Class) → ((r : List Class) → g r ≡ f r) →
    Told a b t f m → Told a b t g m
stretch_as a b t f g e h = record { reads = λ ps. h.reads ps ∙ sym (e (classes ps)); tells = h.tells; apart = h.apart }

-- a part, and a stretch that begins with what ends a part
pub ended : {k : List Class → Comments → Comments} (a b : Bool) (s t : Text) (f g : List Class → List Class) → Part s f →
    ((ps : List Piece) → IsClosed (spelled (t ps))) → Told false b t g k → Told a b (s ⨾ t) (λ r. f (g r)) k
ended a b s t f g h n k = record {
  reads = λ ps. h.reads (t ps) ∙ ap f (k.reads ps);
  tells = λ ps. h.quiet (t ps) ∙ k.tells ps;
  apart = λ ps e. h.apart a (t ps) (n ps) (k.apart ps e);
}

-- ---- marks and words

pub semicolon : (a : Bool) → Stretch a false (punctuator (codes ";")) (λ r. c.Semicolon ∷ r)
semicolon a = record { reads = λ ps. refl; tells = λ ps. refl; apart = λ ps e. (refl, never (codes ";") (λ b. refl) (spelled ps), e) }

pub opening : (a : Bool) → Stretch a false (punctuator (codes "(")) (λ r. c.Open ∷ r)
opening a = record { reads = λ ps. refl; tells = λ ps. refl; apart = λ ps e. (refl, never (codes "(") (λ b. refl) (spelled ps), e) }

pub closing : (a : Bool) → Stretch a false (punctuator (codes ")")) (λ r. c.Close ∷ r)
closing a = record { reads = λ ps. refl; tells = λ ps. refl; apart = λ ps e. (refl, never (codes ")") (λ b. refl) (spelled ps), e) }

pub open_block : (a : Bool) → Stretch a false (punctuator (codes "{")) (λ r. c.OpenBlock ∷ r)
open_block a = record { reads = λ ps. refl; tells = λ ps. refl; apart = λ ps e. (refl, never (codes "{") (λ b. refl) (spelled ps), e) }

pub close_block : (a : Bool) → Stretch a false (punctuator (codes "}")) (λ r. c.CloseBlock ∷ r)
close_block a = record { reads = λ ps. refl; tells = λ ps. refl; apart = λ ps e. (refl, never (codes "}") (λ b. refl) (spelled ps), e) }

pub colon : (a : Bool) → Stretch a false (punctuator (codes ":")) (λ r. c.Colon ∷ r)
colon a = record { reads = λ ps. refl; tells = λ ps. refl; apart = λ ps e. (refl, never (codes ":") (λ b. refl) (spelled ps), e) }

pub a_space : (a : Bool) → Stretch a a space (λ r. r)
a_space a = record { reads = λ ps. refl; tells = λ ps. refl; apart = λ ps e. e }

pub end_line : (a : Bool) → Stretch a true newline (λ r. r)
end_line a = record { reads = λ ps. refl; tells = λ ps. refl; apart = λ ps e. e }

pub empty : (a : Bool) → Stretch a a nothing (λ r. r)
empty a = record { reads = λ ps. refl; tells = λ ps. refl; apart = λ ps e. e }

pub spaces_tell : (n : ℕ) (qs : List l.Piece) → spellings (spaces n ++ qs) ≡ spellings qs
spaces_tell zero qs = refl
spaces_tell (suc n) qs = spaces_tell n qs

spaces_quiet : (n : ℕ) (qs : List l.Piece) → placed_comments (spaces n ++ qs) ≡ placed_comments qs
spaces_quiet zero qs = refl
spaces_quiet (suc n) qs = spaces_quiet n qs

-- the spaces before a line
pub indented : {m : List Class → Comments → Comments} (depth : ℕ) (a b : Bool) (t : Text) (f : List Class → List Class) → Told a b t f m →
    Told a b (indentation depth ⨾ t) f m
indented depth a b t f h = record {
  reads = λ ps. ap (λ s. map class_of_spelling s ++ c.End ∷ []) (spaces_tell (4 * depth) (reread_all (t ps))) ∙ h.reads ps;
  tells = λ ps. spaces_quiet (4 * depth) (reread_all (t ps)) ∙ h.tells ps;
  apart = h.apart;
}

pub maybe_indented : {m : List Class → Comments → Comments} (x : Bool) (depth : ℕ) (a b : Bool) (t : Text) (f : List Class → List Class) →
    Told a b t f m → Told a b (only_if x (indentation depth) ⨾ t) f m
maybe_indented true depth a b t f h = indented depth a b t f h
maybe_indented false depth a b t f h = h

-- `;` at the end of a line
pub line_end : (a : Bool) → Stretch a true (punctuator (codes ";") ⨾ newline) (λ r. c.Semicolon ∷ r)
line_end a = along a false true (punctuator (codes ";")) newline _ _ (semicolon a) (end_line false)

-- ---- the parts of statements

-- a full expression in brackets
pub in_brackets : (a : Bool) (s : Text) (f : List Class → List Class) → Part s f →
    Stretch a false (punctuator (codes "(") ⨾ s ⨾ punctuator (codes ")")) (λ r. c.Open ∷ f (c.Close ∷ r))
in_brackets a s f h = along a false false (punctuator (codes "(")) (s ⨾ punctuator (codes ")")) _ _ (opening a)
    (ended false false s (punctuator (codes ")")) f (λ r. c.Close ∷ r) h (λ ps. refl) (closing false))

-- an expression, if it is there, behind a space, before a stretch
pub optional : {k : List Class → Comments → Comments} (slots : List Slot) (e : Option Expression) (b : Bool) (t : Text)
    (g : List Class → List Class) → OptionPrints slots (option_map expression_tree e) → ((ps : List Piece) → IsClosed (spelled (t ps))) → Told false b t g k
    → Told false b (part_text slots e ⨾ t) (λ r. optional_tokens (option_map derivation_of (option_map expression_tree e)) (g r)) k
optional slots None b t g h n k = k
optional slots (Some e) b t g h n k = along false false b space (expression_text slots e 1 ⨾ t) _ _ (a_space false)
    (ended false b (expression_text slots e 1) t _ g (full_opened slots 1 e h) n k)

-- ---- lists of items

-- what a tree is to the list that it stands in
abbrev pub shape_in : Tree → Shape
shape_in (t.If c a b) = AnIf
shape_in (t.Local k given) = ALocal
shape_in (t.Note bytes) = ANote
shape_in (t.Arm l e) = Unprinted
shape_in (t.Leap l) = Unprinted
shape_in (t.Land l) = Unprinted
shape_in (t.Arrival e) = Unprinted
shape_in _ = Other

-- the tokens of an item, and then these
abbrev pub item_tokens : List Slot → Tree → List Class → List Class
item_tokens slots x r = items_tokens (placed slots x (statement_of slots x) NoItems) r

abbrev pub list_tokens : List Slot → Forest → List Class → List Class
list_tokens slots a r = items_tokens (items_of slots a NoItems) r

pub placed_tokens : (slots : List Slot) (x : Tree) (s : Statement) (xs : Items) (r : List Class) →
    items_tokens (placed slots x s xs) r ≡ items_tokens (placed slots x s NoItems) (items_tokens xs r)
placed_tokens slots (t.Local k given) s xs r = refl
placed_tokens slots (t.Note bytes) s xs r = refl
placed_tokens slots _ s xs r = refl

pub items_before : (slots : List Slot) (a : Forest) (xs : Items) (r : List Class) →
    items_tokens (items_of slots a xs) r ≡ list_tokens slots a (items_tokens xs r)
items_before slots Nil xs r = refl
items_before slots (Then x a) xs r =
    placed_tokens slots x (statement_of slots x) (items_of slots a xs) r
    ∙ ap (λ l. item_tokens slots x l) (items_before slots a xs r)
    ∙ sym (placed_tokens slots x (statement_of slots x) (items_of slots a NoItems) (items_tokens xs r))

-- what is proved of an item
pub record ReadsItem (slots : List Slot) (x : Printed) (y : Tree) : Type 0 where
  pub shape : x.shape ≡ shape_in y
  pub lines : (first : Bool) (depth : ℕ) → Told first true (x.lines depth) (item_tokens slots y) (item_notes slots y)

-- and of a list
abbrev pub AllRead : List Slot → List Printed → Forest → Type 0
AllRead slots [] Nil = Unit {0}
AllRead slots (x ∷ xs) (Then y ys) = ReadsItem slots x y × AllRead slots xs ys
AllRead slots _ _ = ⊥

pub list_reads : (slots : List Slot) (xs : List Printed) (a : Forest) → AllRead slots xs a → (depth : ℕ) →
    Told true true (list_text xs depth) (list_tokens slots a) (items_notes slots a)
list_reads slots [] Nil h depth = empty true
list_reads slots (x ∷ xs) (Then y a) h depth =
    stretch_as true true _ _ _ (placed_tokens slots y (statement_of slots y) (items_of slots a NoItems))
    (along true true true (item_text x depth) (list_text xs depth) (item_tokens slots y) (list_tokens slots a)
    (maybe_indented (is_printed x.shape) depth true true (x.lines depth) (item_tokens slots y) (h.0.lines true depth)) (list_reads slots xs a h.1 depth))
list_reads slots [] (Then y a) h depth = absurd h
list_reads slots (x ∷ xs) Nil h depth = absurd h

-- a list in braces
pub braced_reads : (slots : List Slot) (a : Bool) (xs : List Printed) (ys : Forest) → AllRead slots xs ys → (depth : ℕ) →
    Told a false (braced xs depth) (λ r. c.OpenBlock ∷ list_tokens slots ys (c.CloseBlock ∷ r)) (λ r n. items_notes slots ys (c.CloseBlock ∷ r) n)
braced_reads slots a xs ys h depth =
    along a false false (punctuator (codes "{")) (newline ⨾ list_text xs (deeper depth) ⨾ indentation depth ⨾ punctuator (codes "}")) _ _ (open_block a)
    (along false true false newline (list_text xs (deeper depth) ⨾ indentation depth ⨾ punctuator (codes "}")) _ _ (end_line false)
    (along true true false (list_text xs (deeper depth)) (indentation depth ⨾ punctuator (codes "}")) _ _ (list_reads slots xs ys h (deeper depth))
    (indented depth true false (punctuator (codes "}")) _ (close_block true))))
