-- Texts whose pieces stand apart and have the tokens of a derivation.
use Rattle.std.proofs.Common.{◌≡◌, ◌≤◌, ℕ, Bool, true, false, nat_lt, ◌==◌, List, [], ◌∷◌, ◌++◌, refl, ap, sym, subst, ◌∙◌, eq-eqb}
use Rattle.std.specs.Prelude.{codes, nat_eq}
use Rattle.std.proofs.lemmas.Bool.{eqb-true, le-ltb}
use Rattle.c_types.specs.declared.kinds.IntKind.{IntKind}
use Rattle.c_types.specs.declared.kinds.IntKind.TheVariants as K
use Rattle.c_types.specs.Words.{is_word, is_keyword, is_word_byte, is_letter}
use Rattle.c_tree.specs.declared.tree.UnaryOp.{UnaryOp}
use Rattle.c_tree.specs.declared.tree.UnaryOp.TheVariants.{Plus, Minus, Not, Flip}
use Rattle.c_tree.specs.TextPieces.{Piece, Text, spelled, ◌⨾◌, space, word, punctuator, only_if, spaced, comma, more, starts, begins_with}
use Rattle.c_tree.specs.TextExpressions.{kind_text, unary_spelling, gap, bracketed}
use Rattle.c_lexer.specs.Bytes.{NotFirst}
use Rattle.c_grammar.specs.declared.class.Class.{Class}
use Rattle.c_grammar.specs.declared.class.Class.TheVariants as c
use Rattle.c_grammar.specs.Expressions.{Expression, Argument, type_tokens, expression_tokens, argument_tokens, arguments_tokens}
use Rattle.print_laws.specs.Reread.{grows, classes, noted, AreApart}
use Rattle.print_laws.specs.ExpressionDerivations.{type_of, unary_class, listed}
use Rattle.c_resolved_defs.specs.PrintableExpressions.{IsName}
use Rattle.print_laws.proofs.Levels.{bracketed_tokens}
use Rattle.print_laws.proofs.Neighbours.{IsClosed, word_closed, never, differs, first_of_and, IsMark}

-- ---- the first byte

-- the text begins with a byte that makes no mark of `+`, `-` or `!` longer, but for these themselves
pub record Starts (t : Text) : Type 0 where
  pub byte : ℕ
  pub not_equals : (byte == 61) ≡ false
  pub not_greater : (byte == 62) ≡ false
  pub first : (ps : List Piece) → (r : List ℕ) × (spelled (t ps) ≡ byte ∷ r)

pub starts_before : (s t : Text) → Starts s → Starts (s ⨾ t)
starts_before s t h = record { byte = h.byte; not_equals = h.not_equals; not_greater = h.not_greater; first = λ ps. h.first (t ps) }

pub word_starts : (w : List ℕ) → is_word w ≡ true → Starts (word w)
word_starts [] h = cc
word_starts (b ∷ w) h =
    let l : is_letter b ≡ true = first_of_and (is_letter b) _ h in
    record { byte = b; not_equals = differs is_letter 61 b refl l; not_greater = differs is_letter 62 b refl l; first = λ ps. (w ++ spelled ps, refl) }

-- ---- parts

-- a text that ends where nothing goes on with a name
pub record Front (t : Text) (tokens : List Class → List Class) : Type 0 where
  pub reads : (ps : List Piece) → classes (t ps) ≡ tokens (classes ps)
  pub quiet : (ps : List Piece) → noted (t ps) ≡ noted ps
  pub starts : Starts t
  pub apart : (first : Bool) (ps : List Piece) → NotFirst is_word_byte (spelled ps) → AreApart false ps → AreApart first (t ps)

-- a text that ends where nothing goes on with an expression
pub record Part (t : Text) (tokens : List Class → List Class) : Type 0 where
  pub reads : (ps : List Piece) → classes (t ps) ≡ tokens (classes ps)
  pub quiet : (ps : List Piece) → noted (t ps) ≡ noted ps
  pub starts : Starts t
  pub apart : (first : Bool) (ps : List Piece) → IsClosed (spelled ps) → AreApart false ps → AreApart first (t ps)

pub part_of_front : (t : Text) (f : List Class → List Class) → Front t f → Part t f
part_of_front t f h = record { reads = h.reads; quiet = h.quiet; starts = h.starts; apart = λ first ps c a. h.apart first ps (word_closed (spelled ps) c) a }

-- the same tokens in another form
pub part_as : (t : Text) (f g : List Class → List Class) → ((r : List Class) → g r ≡ f r) → Part t f → Part t g
part_as t f g e h = record { reads = λ ps. h.reads ps ∙ sym (e (classes ps)); quiet = h.quiet; starts = h.starts; apart = h.apart }

name_class : (b : Bool) (w : List ℕ) (r : List Class) → is_keyword w ≡ b → b ≡ false → (ps : List Piece) → r ≡ classes ps → classes (word w ps) ≡ c.Name ∷ r
name_class b w r e f ps s = rw (e ∙ f) (ap (λ l. c.Name ∷ l) (sym s))

pub name_front : (w : List ℕ) → IsName w → Front (word w) (λ r. c.Name ∷ r)
name_front w (h, k) = record {
  reads = λ ps. name_class (is_keyword w) w (classes ps) refl k ps refl;
  quiet = λ ps. refl;
  starts = word_starts w h;
  apart = λ first ps n a. (h, n, a);
}

-- ---- the words of a kind

pub kind_front : (kind : IntKind) → Front (kind_text kind) (type_tokens (type_of kind))
kind_front K.Char = record { reads = λ ps. refl; quiet = λ ps. refl; starts = word_starts (codes "char") refl; apart = λ first ps n a. (refl, n, a) }
kind_front K.UChar = record {
  reads = λ ps. refl;
  quiet = λ ps. refl;
  starts = starts_before (word (codes "unsigned")) (space ⨾ word (codes "char"))
      (word_starts (codes "unsigned") refl);
  apart = λ first ps n a. (refl, refl, (refl, n, a));
}
kind_front K.Int = record { reads = λ ps. refl; quiet = λ ps. refl; starts = word_starts (codes "int") refl; apart = λ first ps n a. (refl, n, a) }
kind_front K.UInt = record { reads = λ ps. refl; quiet = λ ps. refl; starts = word_starts (codes "unsigned") refl; apart = λ first ps n a. (refl, n, a) }
kind_front K.Long = record { reads = λ ps. refl; quiet = λ ps. refl; starts = word_starts (codes "long") refl; apart = λ first ps n a. (refl, n, a) }
kind_front K.ULong = record {
  reads = λ ps. refl;
  quiet = λ ps. refl;
  starts = starts_before (word (codes "unsigned")) (space ⨾ word (codes "long"))
      (word_starts (codes "unsigned") refl);
  apart = λ first ps n a. (refl, refl, (refl, n, a));
}

pub void_front : Front (word (codes "void")) (λ r. c.Void ∷ r)
void_front = record { reads = λ ps. refl; quiet = λ ps. refl; starts = word_starts (codes "void") refl; apart = λ first ps n a. (refl, n, a) }

-- ---- brackets

pub bracketed_part : (level need : ℕ) (t : Text) (e : Expression) → Part t (expression_tokens e) →
    Part (bracketed level need t) (bracketed_tokens (nat_lt level need) e)
bracketed_part level need t e h = by_test (nat_lt level need)
  where
    by_test : (b : Bool) → Part (only_if b (punctuator (codes "(")) ⨾ t ⨾ only_if b (punctuator (codes ")"))) (bracketed_tokens b e)
    by_test true = record {
      reads = λ ps. ap (λ l. c.Open ∷ l) (h.reads (punctuator (codes ")") ps));
      quiet = λ ps. h.quiet (punctuator (codes ")") ps);
      starts = record { byte = 40; not_equals = refl; not_greater = refl; first = λ ps. (_, refl) };
      apart = λ first ps n a. (
        refl,
        never (codes "(") (λ b. refl) _,
        h.apart false (punctuator (codes ")") ps) refl (
          refl,
          never (codes ")")
              (λ b. refl) (spelled ps),
          a,
        ),
      );
    }
    by_test false = record { reads = h.reads; quiet = h.quiet; starts = h.starts; apart = h.apart }

-- what takes no brackets
pub bare_part : (need : ℕ) (t : Text) (e : Expression) → need ≤ 14 → Part t (expression_tokens e) → Part t (bracketed_tokens (nat_lt 14 need) e)
bare_part need t e n h = part_as t (expression_tokens e) _ (λ r. ap (λ b. bracketed_tokens b e r) (le-ltb 14 need n)) h

-- ---- unary marks

gap_reads : (b : Bool) (t : Text) (ps : List Piece) → classes (only_if b space (t ps)) ≡ classes (t ps)
gap_reads true t ps = refl
gap_reads false t ps = refl

gap_quiet : (b : Bool) (t : Text) (ps : List Piece) → noted (only_if b space (t ps)) ≡ noted (t ps)
gap_quiet true t ps = refl
gap_quiet false t ps = refl

-- behind a mark an operand begins, with a space before it where they would run together
gap_apart : (b : Bool) (w : List ℕ) (t : Text) (f : List Class → List Class) → (h : Part t f) → grows w 32 ≡ false →
    (b ≡ false → grows w h.starts.byte ≡ false) → (ps : List Piece) → NotFirst (grows w) (spelled (only_if b space (t ps)))
gap_apart true w t f h s n ps = s
gap_apart false w t f h s n ps = let x = h.starts.first ps in subst (NotFirst (grows w)) (sym x.1) (n refl)

gap_over : (b : Bool) (t : Text) (f : List Class → List Class) → Part t f → (ps : List Piece) → IsClosed (spelled ps) → AreApart false ps →
    AreApart false (only_if b space (t ps))
gap_over true t f h ps c a = h.apart false ps c a
gap_over false t f h ps c a = h.apart false ps c a

-- the gap is there exactly where the operand begins with the byte
begins_is : (b : ℕ) (t : Text) (h : Starts t) → begins_with b t ≡ nat_eq b h.byte
begins_is b t h = ap (λ l. starts l b) (h.first []).1

other_way : (a b : ℕ) → nat_eq a b ≡ false → (b == a) ≡ false
other_way a b e = by_test (b == a) refl
  where
    by_test : (x : Bool) → (b == a) ≡ x → x ≡ false
    by_test false h = refl
    by_test true h =
        let s : b ≡ a = eqb-true b a h in
        let y : nat_eq a a ≡ false = ap (nat_eq a) (sym s) ∙ e in
        let z : nat_eq a a ≡ true = eq-eqb a a refl in cc

module _ (t : Text) (f : List Class → List Class) (h : Part t f) where
  plus_grows : begins_with 43 t ≡ false → grows (codes "+") h.starts.byte ≡ false
  plus_grows e = let p : (h.starts.byte == 43) ≡ false = other_way 43 h.starts.byte (sym (begins_is 43 t h.starts) ∙ e) in rw (p, h.starts.not_equals) refl

  minus_grows : begins_with 45 t ≡ false → grows (codes "-") h.starts.byte ≡ false
  minus_grows e = let p : (h.starts.byte == 45) ≡ false = other_way 45 h.starts.byte (sym (begins_is 45 t h.starts) ∙ e) in
      rw (p, h.starts.not_equals, h.starts.not_greater) refl

  not_grows : grows (codes "!") h.starts.byte ≡ false
  not_grows = rw (h.starts.not_equals) refl

  pub unary_part : (op : UnaryOp) → Part (punctuator (unary_spelling op) ⨾ gap op t ⨾ t) (λ r. unary_class op ∷ f r)
  unary_part Plus = record {
    reads = λ ps. ap (λ l. c.Sign ∷ l) (gap_reads (begins_with 43 t) t ps ∙ h.reads ps);
    quiet = λ ps. gap_quiet (begins_with 43 t) t ps ∙ h.quiet ps;
    starts = record { byte = 43; not_equals = refl; not_greater = refl; first = λ ps. (_, refl) };
    apart = λ first ps n a. (refl, gap_apart (begins_with 43 t) (codes "+") t f h refl plus_grows ps, gap_over (begins_with 43 t) t f h ps n a);
  }
  unary_part Minus = record {
    reads = λ ps. ap (λ l. c.Sign ∷ l) (gap_reads (begins_with 45 t) t ps ∙ h.reads ps);
    quiet = λ ps. gap_quiet (begins_with 45 t) t ps ∙ h.quiet ps;
    starts = record { byte = 45; not_equals = refl; not_greater = refl; first = λ ps. (_, refl) };
    apart = λ first ps n a. (refl, gap_apart (begins_with 45 t) (codes "-") t f h refl minus_grows ps, gap_over (begins_with 45 t) t f h ps n a);
  }
  unary_part Not = record {
    reads = λ ps. ap (λ l. c.Flip ∷ l) (h.reads ps);
    quiet = h.quiet;
    starts = record { byte = 33; not_equals = refl; not_greater = refl; first = λ ps. (_, refl) };
    apart = λ first ps n a. (refl, gap_apart false (codes "!") t f h refl (λ e. not_grows) ps, h.apart false ps n a);
  }
  unary_part Flip = record {
    reads = λ ps. ap (λ l. c.Flip ∷ l) (h.reads ps);
    quiet = h.quiet;
    starts = record { byte = 126; not_equals = refl; not_greater = refl; first = λ ps. (_, refl) };
    apart = λ first ps n a. (refl, never (codes "~") (λ b. refl) _, h.apart false ps n a);
  }

-- `++` or `--` before a place
-- a cast
pub cast_part : (s t : Text) (f g : List Class → List Class) → Front s f → Part t g →
    Part (punctuator (codes "(") ⨾ s ⨾ punctuator (codes ")") ⨾ t) (λ r. c.Open ∷ f (c.Close ∷ g r))
cast_part s t f g h k = record {
  reads = λ ps. ap (λ l. c.Open ∷ l) (h.reads (punctuator (codes ")") (t ps)) ∙ ap (λ l. f (c.Close ∷ l)) (k.reads ps));
  quiet = λ ps. h.quiet (punctuator (codes ")") (t ps)) ∙ k.quiet ps;
  starts = record { byte = 40; not_equals = refl; not_greater = refl; first = λ ps. (_, refl) };
  apart = λ first ps n a. (
    refl,
    never (codes "(") (λ b. refl) _,
    h.apart false (punctuator (codes ")") (t ps)) refl (
      refl,
      never (codes ")")
          (λ b. refl) _,
      k.apart false ps n a,
    ),
  );
}

-- ---- one after another

-- two with a spaced mark between them
pub spaced_part : (s t : Text) (f g : List Class → List Class) (w : List ℕ) (class : Class) → Part s f → IsMark w class → Part t g →
    Part (s ⨾ spaced w ⨾ t) (λ r. f (class ∷ g r))
spaced_part s t f g w class h m k = record {
  reads = λ ps. h.reads ((spaced w ⨾ t) ps) ∙ ap f (λ i. m.classed i ∷ k.reads ps i);
  quiet = λ ps. h.quiet ((spaced w ⨾ t) ps) ∙ k.quiet ps;
  starts = starts_before s (spaced w ⨾ t) h.starts;
  apart = λ first ps n a. h.apart first ((spaced w ⨾ t) ps) refl (m.same, m.spaced, k.apart false ps n a);
}

-- two with a comma between them
pub comma_part : (s t : Text) (f g : List Class → List Class) → Part s f → Part t g → Part (s ⨾ comma ⨾ t) (λ r. f (c.Comma ∷ g r))
comma_part s t f g h k = record {
  reads = λ ps. h.reads ((comma ⨾ t) ps) ∙ ap (λ l. f (c.Comma ∷ l)) (k.reads ps);
  quiet = λ ps. h.quiet ((comma ⨾ t) ps) ∙ k.quiet ps;
  starts = starts_before s (comma ⨾ t) h.starts;
  apart = λ first ps n a. h.apart first ((comma ⨾ t) ps) refl (refl, never (codes ",") (λ b. refl) (spelled (space (t ps))), k.apart false ps n a);
}

-- ---- lists with commas between them

-- each text is that of the argument
abbrev pub AreParts : List Text → List Argument → Type 0
AreParts [] [] = Unit {0}
AreParts (t ∷ ts) (x ∷ xs) = Part t (argument_tokens x) × AreParts ts xs
AreParts _ _ = ⊥

pub listed_part : (t : Text) (ts : List Text) (x : Argument) (xs : List Argument) → Part t (argument_tokens x) → AreParts ts xs →
    Part (t ⨾ more ts) (arguments_tokens (listed x xs))
listed_part t [] x [] h k = h
listed_part t (s ∷ ts) x (y ∷ ys) h k = comma_part t (s ⨾ more ts) (argument_tokens x) (arguments_tokens (listed y ys)) h (listed_part s ts y ys k.0 k.1)
listed_part t [] x (y ∷ ys) h k = absurd k
listed_part t (s ∷ ts) x [] h k = absurd k
