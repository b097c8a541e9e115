-- Which bytes go on with a piece, and which never do.
use Rattle.std.proofs.Common.{◌≡◌, ℕ, Bool, true, false, not, ◌&&◌, ◌||◌, ◌==◌, List, [], ◌∷◌, refl, ap, sym, subst, ◌∙◌}
use Rattle.std.specs.List.{list_any}
use Rattle.std.proofs.lemmas.Bool.{eqb-true, not-false}
use Rattle.c_types.specs.Words.{is_word_byte}
use Rattle.c_lexer.specs.Bytes.{is_run_byte, NotFirst}
use Rattle.c_lexer.specs.Marks.{mark_text}
use Rattle.c_lexer.specs.declared.token.TokenKind.TheVariants as k
use Rattle.c_grammar.specs.declared.class.Class.{Class}
use Rattle.print_laws.specs.Reread.{mark_in, grows, spelling, class_of_spelling}

-- white space, and what ends an expression: `;` `)` `,` `:` `]` `}`
abbrev pub closing_bytes : List ℕ
closing_bytes = 32 ∷ 10 ∷ 59 ∷ 41 ∷ 44 ∷ 58 ∷ 93 ∷ 125 ∷ []

abbrev pub is_closing : ℕ → Bool
is_closing b = list_any (λ c. b == c) closing_bytes

-- no byte that goes on with an expression follows
abbrev pub IsClosed : List ℕ → Type 0
IsClosed r = NotFirst (λ b. not (is_closing b)) r

abbrev AllOf : (ℕ → Type 0) → List ℕ → Type 0
AllOf P [] = Unit {0}
AllOf P (c ∷ cs) = P c × AllOf P cs

among : (P : ℕ → Type 0) (cs : List ℕ) → AllOf P cs → (b : ℕ) → list_any (λ c. b == c) cs ≡ true → P b
among P [] h b e = absurd cc
among P (c ∷ cs) h b e = by_test (b == c) refl e (λ f. among P cs h.1 b f)
  where
    by_test : (x : Bool) → (b == c) ≡ x → (x || list_any (λ c. b == c) cs) ≡ true → (list_any (λ c. b == c) cs ≡ true → P b) → P b
    by_test true t e later = subst P (sym (eqb-true b c t)) h.0
    by_test false t e later = later e

closed_by : (f : ℕ → Bool) → AllOf (λ b. f b ≡ false) closing_bytes → (r : List ℕ) → IsClosed r → NotFirst f r
closed_by f h [] c = tt
closed_by f h (b ∷ r) c = among (λ b. f b ≡ false) closing_bytes h b (not-false (is_closing b) c)

-- a name ends there
pub word_closed : (r : List ℕ) → IsClosed r → NotFirst is_word_byte r
word_closed r h = closed_by is_word_byte (refl, (refl, (refl, (refl, (refl, (refl, (refl, (refl, tt)))))))) r h

-- a number ends there
pub run_closed : (power : Bool) (r : List ℕ) → IsClosed r → NotFirst (is_run_byte power) r
run_closed true r h = closed_by (is_run_byte true) (refl, (refl, (refl, (refl, (refl, (refl, (refl, (refl, tt)))))))) r h
run_closed false r h = closed_by (is_run_byte false) (refl, (refl, (refl, (refl, (refl, (refl, (refl, (refl, tt)))))))) r h

-- a mark that nothing goes on with
pub never : (w : List ℕ) → ((b : ℕ) → grows w b ≡ false) → (r : List ℕ) → NotFirst (grows w) r
never w h [] = tt
never w h (b ∷ r) = h b

-- a byte of a class is none outside of it
pub differs : (f : ℕ → Bool) (n b : ℕ) → f n ≡ false → f b ≡ true → (b == n) ≡ false
differs f n b o h = by_test (b == n) refl
  where
    by_test : (x : Bool) → (b == n) ≡ x → x ≡ false
    by_test false e = refl
    by_test true e = let s : b ≡ n = eqb-true b n e in let y : true ≡ false = sym h ∙ ap f s ∙ o in cc

pub first_of_and : (a b : Bool) → (a && b) ≡ true → a ≡ true
first_of_and true b h = refl
first_of_and false b h = cc

-- a mark with its class, behind which a space may stand
pub record IsMark (w : List ℕ) (class : Class) : Type 0 where
  pub same : mark_text (mark_in w) ≡ w
  pub classed : class_of_spelling (spelling k.Mark (mark_text (mark_in w))) ≡ class
  pub spaced : grows w 32 ≡ false
