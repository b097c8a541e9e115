-- The marks of the tokens of a text: whether they count, and how tightly they bind, as their classes say.
use Rattle.std.proofs.Common.{◌≡◌, ◌<◌, ◌||◌, ℕ, Bool, true, false, cond, List, [], ◌∷◌, ◌++◌, Option, Some, None, refl, ap, sym, ◌∙◌, arith}
use Rattle.std.specs.List.{list_all}
use Rattle.c_types.specs.Words.{is_letter, is_digit, is_word_byte, is_keyword}
use Rattle.c_tree.specs.TextExpressions.{binary_level}
use Rattle.c_lexer.specs.declared.mark.Mark.{Mark}
use Rattle.c_lexer.specs.declared.mark.Mark.TheVariants as m
use Rattle.c_lexer.specs.declared.token.TokenKind.TheVariants as k
use Rattle.c_lexer.specs.Marks.{mark_of, mark_text}
use Rattle.c_lexer.specs.MarkSteps.{mark_at, grown}
use Rattle.c_lexer.specs.Numbers.{continues}
use Rattle.c_lexer.specs.Pieces.{Piece, tokens_of, Fits, Spells}
use Rattle.c_lexer.specs.Pieces as l
use Rattle.c_lexer.proofs.MarkTable.{mark_is}
use Rattle.c_lexer.proofs.Truths.{both_true}
use Rattle.c_grammar.specs.declared.class.Class.{Class}
use Rattle.c_grammar.specs.declared.class.Class.TheVariants as c
use Rattle.c_grammar.specs.Classes.{level}
use Rattle.c_grammar.specs.TokenClasses.{class_of_bytes, class_of_found, classes_of, keyword_class}
use Rattle.c_grammar.specs.Counted.{is_counted}
use Rattle.c_grammar.specs.Words.{word_of}
use Rattle.c_kinds.specs.Marks.{binary_op}
use Rattle.c_resolved_defs.specs.Within.{Each}
use Rattle.print_laws.specs.Reread.{Spelling, spelling_of}
use Rattle.print_laws.proofs.Neighbours.{differs}
use Rattle.c_source_laws.proofs.Classes.{is_word_class, word_class}
use Rattle.c_source_laws.proofs.Numbered.{each_token, Along, along}

abbrev pub weight : Class → ℕ
weight class = cond (is_counted class) 1 0

-- what the mark of a word says
pub record IsWeighed (class : Class) (w : List ℕ) : Type 0 where
  pub counts : weight (class_of_found (mark_of w)) ≡ weight class
  pub binds : 0 < level class → binary_level (binary_op (mark_of w)) ≡ level class

-- ---- a mark

mark_binds : (o : Option Mark) → 0 < level (class_of_found o) → binary_level (binary_op o) ≡ level (class_of_found o)
mark_binds None h = absurd (omega (arith, h))
mark_binds (Some m.Plus) h = refl
mark_binds (Some m.Minus) h = refl
mark_binds (Some m.Star) h = refl
mark_binds (Some m.Slash) h = refl
mark_binds (Some m.Percent) h = refl
mark_binds (Some m.ShiftLeft) h = refl
mark_binds (Some m.ShiftRight) h = refl
mark_binds (Some m.Ampersand) h = refl
mark_binds (Some m.Bar) h = refl
mark_binds (Some m.Caret) h = refl
mark_binds (Some m.Less) h = refl
mark_binds (Some m.Greater) h = refl
mark_binds (Some m.LessEquals) h = refl
mark_binds (Some m.GreaterEquals) h = refl
mark_binds (Some m.EqualsEquals) h = refl
mark_binds (Some m.ExclamationEquals) h = refl
mark_binds (Some m.AmpersandAmpersand) h = refl
mark_binds (Some m.BarBar) h = refl
mark_binds (Some _) h = absurd (omega (arith, h))

-- ---- any other token is no mark

record IsUncounted (class : Class) : Type 0 where
  pub counts : weight class ≡ 0
  pub binds : level class ≡ 0

keyword_uncounted : (class : Class) → is_word_class class ≡ true → IsUncounted class
keyword_uncounted c.Sign h = absurd cc
keyword_uncounted c.Flip h = absurd cc
keyword_uncounted c.Open h = absurd cc
keyword_uncounted c.OpenIndex h = absurd cc
keyword_uncounted c.Question h = absurd cc
keyword_uncounted c.Equals h = absurd cc
keyword_uncounted c.Update h = absurd cc
keyword_uncounted c.Step h = absurd cc
keyword_uncounted c.OrElse h = absurd cc
keyword_uncounted c.AndThen h = absurd cc
keyword_uncounted c.BitOr h = absurd cc
keyword_uncounted c.BitXor h = absurd cc
keyword_uncounted c.BitAnd h = absurd cc
keyword_uncounted c.Equality h = absurd cc
keyword_uncounted c.Order h = absurd cc
keyword_uncounted c.Shift h = absurd cc
keyword_uncounted c.Product h = absurd cc
keyword_uncounted _ h = record { counts = refl; binds = refl }

unmarked : (class : Class) (w : List ℕ) → mark_of w ≡ None → IsUncounted class → IsWeighed class w
unmarked class w e u =
    record {
      counts = ap (λ o. weight (class_of_found o)) e ∙ sym (u.counts);
      binds = λ h. absurd (let b = u.binds in omega (arith, h, b));
    }

-- a byte of a word begins no mark
word_byte : (b : ℕ) → is_word_byte b ≡ true → mark_at b ≡ None
word_byte b h =
    let d = λ (n : ℕ) (o : is_word_byte n ≡ false). differs is_word_byte n b o h in
    rw (
      d 91 refl,
      d 93 refl,
      d 40 refl,
      d 41 refl,
      d 123 refl,
      d 125 refl,
      d 46 refl,
      d 38 refl,
      d 42 refl,
      d 43 refl,
      d 45 refl,
      d 126 refl,
      d 33 refl,
      d 47 refl,
      d 37 refl,
      d 60 refl,
      d 62 refl,
      d 94 refl,
      d 124 refl,
      d 63 refl,
      d 58 refl,
      d 59 refl,
      d 61 refl,
      d 44 refl,
    ) refl

word_unmarked : (b : ℕ) (w : List ℕ) → is_word_byte b ≡ true → mark_of (b ∷ w) ≡ None
word_unmarked b w h = sym (mark_is (b ∷ w)) ∙ ap (λ o. grown o w) (word_byte b h)

-- ---- the tokens of a text

abbrev IsWeighedHere : Spelling → Type 0
IsWeighedHere s = IsWeighed (class_of_bytes s.kind s.bytes) s.bytes

of_word : (w : List ℕ) → mark_of w ≡ None → (b : Bool) → IsWeighed (class_of_bytes (cond b k.Keyword k.Name) w) w
of_word w e true = unmarked (keyword_class w) w e (keyword_uncounted (keyword_class w) (word_class w))
of_word w e false = unmarked c.Name w e (record { counts = refl; binds = refl })

weighed : (first : Bool) (p : Piece) → Fits first p → Each IsWeighedHere (spelling_of p)
weighed first (l.Word []) f = absurd cc
weighed first (l.Word (b ∷ w)) f =
    let x : is_word_byte b ≡ true = ap (λ y. y || is_digit b) (both_true (is_letter b) (list_all is_word_byte w) f).0 in
    (of_word (b ∷ w) (word_unmarked b w x) (is_keyword (b ∷ w)), tt)
weighed first (l.Number []) f = absurd (let x = f.0 in cc)
weighed first (l.Number (b ∷ w)) f =
    let x : is_word_byte b ≡ true = rw ((both_true (is_digit b) (continues (b ∷ w)) (f.0)).0) (or_true (is_letter b)) in
    (unmarked c.Number (b ∷ w) (word_unmarked b w x) (record { counts = refl; binds = refl }), tt)
  where
    or_true : (x : Bool) → (x || true) ≡ true
    or_true true = refl
    or_true false = refl
weighed first (l.Char x) f = (unmarked c.Character (l.spelled (l.Char x) []) refl (record { counts = refl; binds = refl }), tt)
weighed first (l.Text xs) f = (unmarked c.Text (l.spelled (l.Text xs) []) refl (record { counts = refl; binds = refl }), tt)
weighed first (l.Sign x) f = (record { counts = refl; binds = mark_binds (mark_of (mark_text x)) }, tt)
weighed first (l.Directive w) f = (unmarked c.Directive (35 ∷ l.bare w) refl (record { counts = refl; binds = refl }), tt)
weighed first _ f = tt

pub weights : (pieces : List Piece) (t : List ℕ) → Spells pieces t → Along IsWeighed (word_of t (tokens_of pieces)) 0
    (classes_of t (tokens_of pieces) ++ c.End ∷ [])
weights pieces t s = along IsWeighed (unmarked c.End [] refl (record { counts = refl; binds = refl })) pieces t s
    (each_token IsWeighedHere (λ first p r f m. weighed first p f) pieces t s)
