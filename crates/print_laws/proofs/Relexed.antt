-- Printed pieces that stand apart are pieces of the lexer, each the longest at its byte.
use Rattle.std.proofs.Common.{◌≡◌, ◌<◌, ◌+◌, ◌*◌, ◌/◌, ◌%◌, ℕ, zero, suc, Bool, true, false, cond, not, ◌&&◌, ◌||◌, ◌==◌, List, [], ◌∷◌, ◌++◌, map, replicate, Option, Some, None, inl, inr, refl, ap, sym, subst, ◌∙◌, arith, append_assoc}
use Rattle.std.specs.Prelude.{codes, is_some, nat_eq, nat_le, nat_lt}
use Rattle.std.specs.List.{list_all}
use Rattle.std.proofs.lemmas.Bool.{leb-true, ltb-true, ltb-false}
use Rattle.std.specs.Fmt.{signed_decimal}
use Rattle.c_types.specs.Words.{is_word_byte}
use Rattle.c_lexer.specs.declared.mark.Mark.{Mark}
use Rattle.c_lexer.specs.declared.mark.Mark.TheVariants.{Slash}
use Rattle.c_lexer.specs.Bytes.{is_newline, is_space, is_octal_digit, is_simple_escape, is_text_byte, is_character_byte, NotFirst}
use Rattle.c_lexer.specs.Characters.{Character, Plain, Simple, ThreeDigits, written, written_all, three_digits, IsCharacter, TakesDigits, AreCharacters}
use Rattle.c_lexer.specs.MarkSteps.{longer, is_slash, is_dot}
use Rattle.c_lexer.specs.Pieces.{Spells, Longest, Fits, Begins, text, comes_to_newline, returns_to_newline, runs_on}
use Rattle.c_lexer.specs.PieceSteps.{first_behind, Good}
use Rattle.c_lexer.specs.Pieces as l
use Rattle.c_lexer.proofs.MarkLemmas.{longest_mark, mark_last, no_dots}
use Rattle.c_lexer.proofs.PieceWalks.{walked_good}
use Rattle.c_tree.specs.TextPieces.{Piece, suffix, spelled, escaped, escaped_bytes, is_printing, octal}
use Rattle.c_tree.specs.TextPieces as p
use Rattle.print_laws.specs.Reread.{mark_in, character_in, spaces, verbatim_piece, number_text, reread_all, grows, EndsLine, AreApart}
use Rattle.c_resolved_defs.specs.Verbatims.{IsOneLine, IsComment, IsDirective}
use Rattle.print_laws.proofs.Neighbours.{first_of_and}

-- ---- characters

-- what is asked of a byte between quotes, as a test
abbrev is_good : Character → (ℕ → Bool) → Bool
is_good (Plain b) f = f b
is_good (Simple b) f = is_simple_escape b
is_good (ThreeDigits a b d) f = is_octal_digit a && is_octal_digit b && is_octal_digit d && nat_le (three_digits a b d) 255
is_good _ f = false

abbrev fits_character : ℕ → Bool
fits_character b = is_good (character_in 39 b) is_character_byte

abbrev fits_text : ℕ → Bool
fits_text b = is_good (character_in 34 b) is_text_byte

-- the numbers below a bound
abbrev pub below : ℕ → List ℕ
below zero = []
below (suc n) = n ∷ below n

pub second_of_and : (x y : Bool) → (x && y) ≡ true → y ≡ true
second_of_and true y h = h
second_of_and false y h = cc

pub all_below : (f : ℕ → Bool) (n : ℕ) → list_all f (below n) ≡ true → (b : ℕ) → b < n → f b ≡ true
all_below f zero h b k = absurd (omega (arith, k))
all_below f (suc n) h b k = by_test (nat_lt b n) refl (all_below f n (second_of_and (f n) _ h) b)
  where
    by_test : (x : Bool) → nat_lt b n ≡ x → (b < n → f b ≡ true) → f b ≡ true
    by_test true e later = later (ltb-true b n e)
    by_test false e later = let o = ltb-false b n e in let s : n ≡ b = omega (arith, o, k) in subst (λ m. f m ≡ true) s (first_of_and (f n) _ h)

good_characters : list_all fits_character (below 256) ≡ true
good_characters = refl

good_texts : list_all fits_text (below 256) ≡ true
good_texts = refl

is_character : (ch : Character) (f : ℕ → Bool) → is_good ch f ≡ true → IsCharacter f ch
is_character (Plain b) f h = h
is_character (Simple b) f h = h
is_character (ThreeDigits a b d) f h = each (is_octal_digit a) (is_octal_digit b) (is_octal_digit d) (nat_le (three_digits a b d) 255) h
  where
    each : (w x y z : Bool) → (w && x && y && z) ≡ true → (w ≡ true) × (x ≡ true) × (y ≡ true) × (z ≡ true)
    each true true true z h = (refl, refl, refl, h)
    each true true false z h = cc
    each true false y z h = cc
    each false x y z h = cc
is_character _ f h = cc

takes_digits : (ch : Character) (f : ℕ → Bool) (r : List ℕ) → is_good ch f ≡ true → TakesDigits ch r
takes_digits (Plain b) f r h = tt
takes_digits (Simple b) f r h = tt
takes_digits (ThreeDigits a b d) f r h = tt
takes_digits _ f r h = cc

-- a byte between quotes is spelled as its character
escaped_is : (quote b : ℕ) (r : List ℕ) → written (character_in quote b) r ≡ escaped quote b ++ r
escaped_is quote b r = by_tests (nat_eq b 10) (nat_eq b 9) (nat_eq b quote || nat_eq b 92) (is_printing b)
  where
    by_tests : (w x y z : Bool) → written
        (cond w (Simple 110) (cond x (Simple 116) (cond y (Simple b) (cond z (Plain b) (ThreeDigits (48 + b / 64) (48 + b / 8 % 8) (48 + b % 8)))))) r
        ≡ cond w (codes "\\n") (cond x (codes "\\t") (cond y (92 ∷ b ∷ []) (cond z (b ∷ []) (octal b)))) ++ r
    by_tests true x y z = refl
    by_tests false true y z = refl
    by_tests false false true z = refl
    by_tests false false false true = refl
    by_tests false false false false = refl

texts_are : (bs : List ℕ) (r : List ℕ) → written_all (map (character_in 34) bs) r ≡ escaped_bytes bs r
texts_are [] r = refl
texts_are (b ∷ bs) r = escaped_is 34 b (written_all (map (character_in 34) bs) r) ∙ ap (λ l. escaped 34 b ++ l) (texts_are bs r)

pub text_characters : (bs : List ℕ) (r : List ℕ) → list_all (λ b. nat_le b 255) bs ≡ true → AreCharacters is_text_byte (map (character_in 34) bs) r
text_characters [] r h = tt
text_characters (b ∷ bs) r h =
    let l = leb-true b 255 (first_of_and (nat_le b 255) _ h) in
    let g = all_below fits_text 256 good_texts b (omega (arith, l)) in (
      is_character (character_in 34 b) is_text_byte g,
      takes_digits (character_in 34 b) is_text_byte _ g,
      text_characters bs r (second_of_and (nat_le b 255) _ h),
    )

-- ---- marks

module _ (m : Mark) where
  abbrev stops : ℕ → Bool
  stops b = is_some (longer m b) || ((is_slash m && (b == 42 || b == 47)) || (is_dot m && b == 46))

  none_is : (o : Option Mark) (x : Bool) → (is_some o || x) ≡ false → o ≡ None
  none_is None x h = refl
  none_is (Some n) x h = cc

  parts : (o : Option Mark) (x y : Bool) → (is_some o || (x || y)) ≡ false → (x ≡ false) × (y ≡ false)
  parts None true y h = cc
  parts None false y h = (refl, h)
  parts (Some n) x y h = cc

  no_comment : (x : Bool) → m ≡ Slash → (is_slash m && x) ≡ false → x ≡ false
  no_comment x e h = sym (ap (λ n. is_slash n && x) e) ∙ h

  longest_sign : (r : List ℕ) → NotFirst stops r → Longest (l.Sign m) r
  longest_sign [] h = (λ n i. mark_last m n i, λ e. tt)
  longest_sign (b ∷ r) h =
      let p = parts (longer m b) (is_slash m && (b == 42 || b == 47)) (is_dot m && b == 46) h in
      (λ n i. longest_mark m b r (none_is (longer m b) _ h) (λ e. no_dots m b r p.1 e) n i, λ e. no_comment (b == 42 || b == 47) e p.0)

-- ---- the bytes

spaces_text : (n : ℕ) (qs : List l.Piece) (r : List ℕ) → text qs [] ≡ r → text (spaces n ++ qs) [] ≡ replicate n 32 ++ r
spaces_text zero qs r e = e
spaces_text (suc n) qs r e = ap (λ l. 32 ∷ l) (spaces_text n qs r e)

comment_text : (bytes : List ℕ) → IsComment bytes → (r : List ℕ) → l.spelled (verbatim_piece bytes) r ≡ bytes ++ r
comment_text [] h r = absurd h
comment_text (a ∷ []) h r = absurd h
comment_text (a ∷ b ∷ w) (e, inl h) r = subst (λ x. l.spelled (verbatim_piece (x ∷ b ∷ w)) r ≡ x ∷ b ∷ w ++ r) (sym e)
    (subst (λ x. l.spelled (verbatim_piece (47 ∷ x ∷ w)) r ≡ 47 ∷ x ∷ w ++ r) (sym h.0) refl)
comment_text (a ∷ b ∷ w) (e, inr h) r = subst (λ x. l.spelled (verbatim_piece (x ∷ b ∷ w)) r ≡ x ∷ b ∷ w ++ r) (sym e)
    (subst (λ x. l.spelled (verbatim_piece (47 ∷ x ∷ w)) r ≡ 47 ∷ x ∷ w ++ r) (sym h.0) refl)

directive_text : (bytes : List ℕ) → IsDirective bytes → (r : List ℕ) → l.spelled (verbatim_piece bytes) r ≡ bytes ++ r
directive_text [] h r = absurd h
directive_text (a ∷ []) h r = absurd h
directive_text (a ∷ b ∷ w) h r = subst (λ x. l.spelled (verbatim_piece (x ∷ b ∷ w)) r ≡ x ∷ b ∷ w ++ r) (sym h.0) refl

pub reread_text : (first : Bool) (ps : List Piece) → AreApart first ps → text (reread_all ps) [] ≡ spelled ps
reread_text first [] h = refl
reread_text first (p.Space ∷ ps) h = ap (λ l. 32 ∷ l) (reread_text first ps h)
reread_text first (p.Newline ∷ ps) h = ap (λ l. 10 ∷ l) (reread_text true ps h)
reread_text first (p.Indentation depth ∷ ps) h = spaces_text (4 * depth) (reread_all ps) (spelled ps) (reread_text first ps h)
reread_text first (p.Word w ∷ ps) h = ap (λ l. w ++ l) (reread_text false ps h.2)
reread_text first (p.Punctuator w ∷ ps) h = (λ i. h.0 i ++ reread_text false ps h.2 i)
reread_text first (p.Number kind n ∷ ps) h = ap (λ l. number_text kind n ++ l) (reread_text false ps h.3) ∙ append_assoc (signed_decimal n)
    (suffix kind) (spelled ps)
reread_text first (p.Character b ∷ ps) h = ap (λ l. 39 ∷ l) (escaped_is 39 b (39 ∷ text (reread_all ps) []) ∙ ap (λ l. escaped 39 b ++ 39 ∷ l)
    (reread_text false ps h.1))
reread_text first (p.Literal bs ∷ ps) h = ap (λ l. 34 ∷ l) (texts_are bs (34 ∷ text (reread_all ps) []) ∙ ap (λ l. escaped_bytes bs (34 ∷ l))
    (reread_text false ps h.1))
reread_text first (p.Verbatim bs ∷ ps) (inl d, n, h) = directive_text bs d.1 (text (reread_all ps) []) ∙ ap (λ l. bs ++ l) (reread_text false ps h)
reread_text first (p.Verbatim bs ∷ ps) (inr d, n, h) = comment_text bs d (text (reread_all ps) []) ∙ ap (λ l. bs ++ l) (reread_text false ps h)

-- ---- the pieces

good_spaces : (n : ℕ) (first : Bool) (qs : List l.Piece) → Good first qs [] → Good first (spaces n ++ qs) []
good_spaces zero first qs h = h
good_spaces (suc n) first qs h = (refl, tt, good_spaces n first qs h)

-- a line runs to the newline behind it, whatever comes then
comes_to_it : (w r : List ℕ) → comes_to_newline (w ++ 10 ∷ r) ≡ comes_to_newline (w ++ 10 ∷ [])
comes_to_it [] r = refl
comes_to_it (b ∷ w) r = ap (λ x. is_newline b || (is_space b && x)) (comes_to_it w r)

returns_to_it : (w r : List ℕ) → returns_to_newline (w ++ 10 ∷ r) ≡ returns_to_newline (w ++ 10 ∷ [])
returns_to_it [] r = refl
returns_to_it (b ∷ w) r = ap (λ x. is_newline b || (b == 13 && x)) (returns_to_it w r)

runs_to_it : (w r : List ℕ) → runs_on w (10 ∷ r) ≡ runs_on w (10 ∷ [])
runs_to_it [] r = refl
runs_to_it (b ∷ w) r = (λ i. not (is_newline b || ((b == 92 && comes_to_it w r i) || (b == 13 && not (returns_to_it w r i)))) && runs_to_it w r i)

whole_line : (w r : List ℕ) → IsOneLine w → EndsLine r → l.IsLine w r
whole_line w [] h e = absurd e
whole_line w (b ∷ r) h e = subst (λ x. l.IsLine w (x ∷ r)) (sym e) (runs_to_it w r ∙ h.whole, refl)

good_comment : (first : Bool) (bytes : List ℕ) → IsComment bytes → (r : List ℕ) → EndsLine r →
    Fits first (verbatim_piece bytes) × Longest (verbatim_piece bytes) r
good_comment first [] h r n = absurd h
good_comment first (a ∷ []) h r n = absurd h
good_comment first (a ∷ b ∷ w) (e, inl h) r n =
    subst (λ x. Fits first (verbatim_piece (x ∷ b ∷ w)) × Longest (verbatim_piece (x ∷ b ∷ w)) r) (sym e)
    (subst (λ x. Fits first (verbatim_piece (47 ∷ x ∷ w)) × Longest (verbatim_piece (47 ∷ x ∷ w)) r) (sym h.0) (tt, whole_line w r h.1 n))
good_comment first (a ∷ b ∷ w) (e, inr h) r n =
    subst (λ x. Fits first (verbatim_piece (x ∷ b ∷ w)) × Longest (verbatim_piece (x ∷ b ∷ w)) r) (sym e)
    (subst (λ x. Fits first (verbatim_piece (47 ∷ x ∷ w)) × Longest (verbatim_piece (47 ∷ x ∷ w)) r) (sym h.0) (h.1, tt))

good_directive : (first : Bool) (bytes : List ℕ) → first ≡ true → IsDirective bytes → (r : List ℕ) → EndsLine r →
    Fits first (verbatim_piece bytes) × Longest (verbatim_piece bytes) r
good_directive first [] f h r n = absurd h
good_directive first (a ∷ []) f h r n = absurd h
good_directive first (a ∷ b ∷ w) f h r n = subst (λ x. Fits first (verbatim_piece (x ∷ b ∷ w)) × Longest (verbatim_piece (x ∷ b ∷ w)) r) (sym h.0)
    ((f, h.2), whole_line (b ∷ w) r h.1 n)

-- behind a directive or a comment, something stands before on the line
behind_comment : (first : Bool) (bytes : List ℕ) → IsComment bytes → first_behind first (verbatim_piece bytes) ≡ false
behind_comment first [] h = absurd h
behind_comment first (a ∷ []) h = absurd h
behind_comment first (a ∷ b ∷ w) (e, inl h) = subst (λ x. first_behind first (verbatim_piece (x ∷ b ∷ w)) ≡ false) (sym e)
    (subst (λ x. first_behind first (verbatim_piece (47 ∷ x ∷ w)) ≡ false) (sym h.0) refl)
behind_comment first (a ∷ b ∷ w) (e, inr h) = subst (λ x. first_behind first (verbatim_piece (x ∷ b ∷ w)) ≡ false) (sym e)
    (subst (λ x. first_behind first (verbatim_piece (47 ∷ x ∷ w)) ≡ false) (sym h.0) refl)

behind_directive : (first : Bool) (bytes : List ℕ) → IsDirective bytes → first_behind first (verbatim_piece bytes) ≡ false
behind_directive first [] h = absurd h
behind_directive first (a ∷ []) h = absurd h
behind_directive first (a ∷ b ∷ w) h = subst (λ x. first_behind first (verbatim_piece (x ∷ b ∷ w)) ≡ false) (sym h.0) refl

pub reread_good : (first : Bool) (ps : List Piece) → AreApart first ps → Good first (reread_all ps) []
reread_good first [] h = tt
reread_good first (p.Space ∷ ps) h = (refl, tt, reread_good first ps h)
reread_good first (p.Newline ∷ ps) h = (refl, tt, reread_good true ps h)
reread_good first (p.Indentation depth ∷ ps) h = good_spaces (4 * depth) first (reread_all ps) (reread_good first ps h)
reread_good first (p.Word w ∷ ps) h = (h.0, subst (NotFirst is_word_byte) (sym (reread_text false ps h.2)) h.1, reread_good false ps h.2)
reread_good first (p.Punctuator w ∷ ps) h = (
  tt,
  longest_sign (mark_in w) (text (reread_all ps) [])
      (subst (NotFirst (grows w)) (sym (reread_text false ps h.2)) h.1),
  reread_good false ps h.2,
)
reread_good first (p.Number kind n ∷ ps) h = ((h.0, h.1), subst (NotFirst _) (sym (reread_text false ps h.3)) h.2, reread_good false ps h.3)
reread_good first (p.Character b ∷ ps) h = (
  is_character (character_in 39 b) is_character_byte (let l = h.0 in all_below fits_character 256 good_characters b (omega (arith, l))),
  tt,
  reread_good false ps h.1,
)
reread_good first (p.Literal bs ∷ ps) h = (text_characters bs (34 ∷ []) h.0, tt, reread_good false ps h.1)
reread_good first (p.Verbatim bs ∷ ps) (inl d, n, h) =
    let g = good_directive first bs d.0 d.1 (text (reread_all ps) []) (subst EndsLine (sym (reread_text false ps h)) n) in
    (g.0, g.1, subst (λ b. Good b (reread_all ps) []) (sym (behind_directive first bs d.1)) (reread_good false ps h))
reread_good first (p.Verbatim bs ∷ ps) (inr d, n, h) =
    let g = good_comment first bs d (text (reread_all ps) []) (subst EndsLine (sym (reread_text false ps h)) n) in
    (g.0, g.1, subst (λ b. Good b (reread_all ps) []) (sym (behind_comment first bs d)) (reread_good false ps h))

-- Printed pieces that stand apart spell their text in the lexer's sense.
pub reread_spells : (ps : List Piece) → AreApart true ps → Spells (reread_all ps) (spelled ps)
reread_spells ps h = record { spells = sym (reread_text true ps h); good = walked_good (reread_all ps) [] (reread_good true ps h) }
