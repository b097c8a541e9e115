-- A text that is spelled by good pieces is read as exactly what they are.
use Rattle.std.proofs.Common.{◌≡◌, ◌≤◌, ◌+◌, ◌*◌, ℕ, Bool, true, false, not, ◌&&◌, ◌||◌, ◌==◌, nat_le, cond, List, [], ◌∷◌, ◌++◌, length, Option, Some, None, refl, arith, ap, sym, ◌∙◌, subst, zero-add}
use Rattle.std.specs.Prelude.{slice_range, is_some}
use Rattle.std.specs.List.{list_all}
use Rattle.std.specs.Option.{option_map}
use Rattle.std.proofs.lemmas.Bool.{eqb-true}
use Rattle.std.proofs.lemmas.Bool.Decides.{nat_tests}
use Rattle.c_lexer.specs.declared.mark.Mark.{Mark}
use Rattle.c_lexer.specs.declared.mark.Mark.TheVariants.{OpenBracket, CloseBracket, OpenParenthesis, CloseParenthesis, OpenBrace, CloseBrace, Dot, Arrow, PlusPlus, MinusMinus, Ampersand, Star, Plus, Minus, Tilde, Exclamation, Slash, Percent, ShiftLeft, ShiftRight, Less, Greater, LessEquals, GreaterEquals, EqualsEquals, ExclamationEquals, Caret, Bar, AmpersandAmpersand, BarBar, Question, Colon, Semicolon, Ellipsis, Equals, StarEquals, SlashEquals, PercentEquals, PlusEquals, MinusEquals, ShiftLeftEquals, ShiftRightEquals, AmpersandEquals, CaretEquals, BarEquals, Comma}
use Rattle.c_lexer.specs.declared.token.TokenKind.TheVariants as k
use Rattle.c_lexer.specs.declared.state.State.{State}
use Rattle.c_lexer.specs.declared.state.State.TheVariants.{Between, InWord, InNumber, InMark, Dots, CharOpened, CharEscape, CharHeld, InText, TextEscape, InDirective, InComment, InLine}
use Rattle.c_lexer.specs.declared.state.Closing.{Closing}
use Rattle.c_lexer.specs.declared.state.Closing.TheVariants.{Open, Starred}
use Rattle.c_lexer.specs.declared.state.Escape.{Escape}
use Rattle.c_lexer.specs.declared.state.Escape.TheVariants.{Backslash, OneOctal, TwoOctal, HexadecimalStart, InHexadecimal}
use Rattle.c_lexer.specs.declared.state.Progress.{Progress}
use Rattle.c_lexer.specs.declared.state.Progress.TheVariants.{More, Whole, Over, Wrong}
use Rattle.c_lexer.specs.declared.state.Ended.{Ended}
use Rattle.c_lexer.specs.declared.state.Ended.TheVariants as ended
use Rattle.c_lexer.specs.declared.state.Taken.{Taken}
use Rattle.c_lexer.specs.declared.state.Taken.TheVariants.{Go, Fault}
use Rattle.c_types.specs.Words.{is_letter, is_digit, is_word, is_word_byte}
use Rattle.c_lexer.specs.Bytes.{between, is_space, is_newline, is_octal_digit, is_hexadecimal_digit, is_power, is_run_byte, is_simple_escape, is_text_byte, is_character_byte, digit_value, NotFirst}
use Rattle.c_lexer.specs.Numbers.{continues, is_run, ends_with_power, integer_of}
use Rattle.c_lexer.specs.NumberSteps.{continues_from, power_from, value_from}
use Rattle.c_lexer.specs.Characters.{Character, Plain, Simple, OneDigit, TwoDigits, ThreeDigits, Hexadecimal, written, written_all, IsCharacter, TakesDigits, AreCharacters}
use Rattle.c_lexer.specs.Marks.{mark_text}
use Rattle.c_lexer.specs.MarkSteps.{mark_at, is_slash, is_dot}
use Rattle.c_lexer.specs.Pieces.{Piece, Space, Word, Number, Char, Text, Sign, Directive, Line, Block, spelled, text, NewlineNext, runs_on, Fits, Begins, Longest, word_kind, span}
use Rattle.c_lexer.specs.IncludeSteps.{is_directive}
use Rattle.c_lexer.specs.PieceSteps.{first_behind, first_behind_all, Good}
use Rattle.c_lexer.specs.Machine.{begin, of_mark, found, mark, word, escape_step, char_escape, text_escape, line_end, broken_at, end_directive, end_line, closing_step, step, finish, Lexed, Read, go_on, run}
use Rattle.c_lexer.proofs.IncludeLemmas.{directive_decided}
use Rattle.c_lexer.proofs.MarkLemmas.{none_longer, longer_newline}
use Rattle.c_lexer.proofs.NumberLemmas.{value_up, value_is, run_continues, run_power}
use Rattle.c_lexer.proofs.Truths.{both_true, all_of_more, or_first, or_second, not_true}
use Rattle.c_lexer.proofs.Lines.{has_no_newline, no_newline, not_broken}
use Rattle.c_lexer.proofs.CommentEnds.{closes_so}
use Rattle.c_lexer.proofs.Closings.{closes_from, goes_on, none_left, closes_on, last_slash, comment_on}
use Rattle.c_lexer.proofs.PieceLemmas.{past, past_character, past_characters, ends, ends_all, Stands, stands_past, slice_is, stands_behind, end_from}

-- ---- all that is read

abbrev pub add_all : Ended → List Ended → List Ended
add_all ended.Nothing out = out
add_all (ended.Token t) out = out ++ ended.Token t ∷ []
add_all (ended.Dots a b) out = (out ++ ended.Token a ∷ []) ++ ended.Token b ∷ []
add_all (ended.Comment c) out = out ++ ended.Comment c ∷ []

abbrev pub scan : List ℕ → State → ℕ → List Ended → List ℕ → Lexed (List Ended)
scan t s at out bs = run add_all t s at out bs

-- ---- bytes

letter_space : (b : ℕ) → is_letter b ≡ true → is_space b ≡ false
letter_space b h = grind (arith, nat_tests)

digit_space : (b : ℕ) → is_digit b ≡ true → is_space b ≡ false
digit_space b h = grind (arith, nat_tests)

digit_letter : (b : ℕ) → is_digit b ≡ true → is_letter b ≡ false
digit_letter b h = grind (arith, nat_tests)

octal_simple : (b : ℕ) → is_octal_digit b ≡ true → is_simple_escape b ≡ false
octal_simple b h = grind (arith, nat_tests)

pub cond_true : (c : Bool) (x y : Taken) → c ≡ true → cond c x y ≡ x
cond_true true x y h = refl
cond_true false x y h = absurd cc

pub cond_false : (c : Bool) (x y : Taken) → c ≡ false → cond c x y ≡ y
cond_false true x y h = absurd cc
cond_false false x y h = refl

-- ---- what the next byte ends

same_cond : (c : Bool) (x y v w : Taken) (out more : List Ended) (f : State → List Ended → Lexed (List Ended)) →
    go_on add_all x out f ≡ go_on add_all v more f → go_on add_all y out f ≡ go_on add_all w more f →
    go_on add_all (cond c x y) out f ≡ go_on add_all (cond c v w) more f
same_cond true x y v w out more f h k = h
same_cond false x y v w out more f h k = k

begin_mark : (o : Option Mark) (e : Ended) (at : ℕ) (out : List Ended) (f : State → List Ended → Lexed (List Ended)) →
    go_on add_all (of_mark o e at) out f ≡ go_on add_all (of_mark o ended.Nothing at) (add_all e out) f
begin_mark (Some m) e at out f = refl
begin_mark None e at out f = refl

pub begin_after : (e : Ended) (b at : ℕ) (out : List Ended) (f : State → List Ended → Lexed (List Ended)) →
    go_on add_all (begin false e b at) out f ≡ go_on add_all (begin false ended.Nothing b at) (add_all e out) f
begin_after e b at out f =
    same_cond (is_space b) _ _ _ _ out (add_all e out) f refl
    (same_cond (is_letter b) _ _ _ _ out (add_all e out) f refl
    (same_cond (is_digit b) _ _ _ _ out (add_all e out) f refl
    (same_cond (b == 39) _ _ _ _ out (add_all e out) f refl
    (same_cond (b == 34) _ _ _ _ out (add_all e out) f refl
    (same_cond (b == 35) _ _ _ _ out (add_all e out) f refl (begin_mark (mark_at b) e at out f))))))

abbrev all_read : State → List Ended → Lexed (List Ended)
all_read z more = Read more

taken : (t : List ℕ) (s : State) (b at : ℕ) (out : List Ended) (r : List ℕ) (n : Taken) → step t s b at ≡ n →
    scan t s at out (b ∷ r) ≡ go_on add_all n out (λ z more. run add_all t z (at + 1) more r)
taken t s b at out r n e = ap (λ (m : Taken). go_on add_all m out (λ z more. run add_all t z (at + 1) more r)) e

-- ---- words

word_ends : (t : List ℕ) (s at : ℕ) (out : List Ended) (r : List ℕ) → NotFirst is_word_byte r →
    scan t (InWord s) at out r ≡ scan t (Between false) at (add_all (word t s at) out) r
word_ends t s at out [] h = refl
word_ends t s at out (b ∷ r) h = rw h (begin_after (word t s at) b at out (λ z more. run add_all t z (at + 1) more r))

word_run : (t w : List ℕ) → list_all is_word_byte w ≡ true → (s at : ℕ) (out : List Ended) (r : List ℕ) → NotFirst is_word_byte r
    → scan t (InWord s) at out (w ++ r) ≡ scan t (Between false) (past at w) (add_all (word t s (past at w)) out) r
word_run t [] e s at out r h = word_ends t s at out r h
word_run t (b ∷ w) e s at out r h = let q = all_of_more is_word_byte b w e in let x = q.0 in rw x (word_run t w q.1 s (at + 1) out r h)

-- ---- numbers

number_ends : (t : List ℕ) (s : ℕ) (power : Bool) (at : ℕ) (out : List Ended) (r : List ℕ) → is_some (integer_of (slice_range t s at)) ≡ true →
    NotFirst (is_run_byte power) r
    → scan t (InNumber s power) at out r ≡ scan t (Between false) at (add_all (found k.Number s at) out) r
number_ends t s true at out [] g h = rw g
number_ends t s false at out [] g h = rw g
number_ends t s power at out (b ∷ r) g h = rw (h, g) (begin_after (found k.Number s at) b at out (λ z more. run add_all t z (at + 1) more r))

number_run : (t w : List ℕ) (s : ℕ) (power : Bool) → continues_from power w ≡ true → (at : ℕ) (out : List Ended) (r : List ℕ) →
    is_some (integer_of (slice_range t s (past at w))) ≡ true → NotFirst (is_run_byte (power_from power w)) r
    → scan t (InNumber s power) at out (w ++ r) ≡ scan t (Between false) (past at w) (add_all (found k.Number s (past at w)) out) r
number_run t [] s power e at out r g h = number_ends t s power at out r g h
number_run t (b ∷ w) s power e at out r g h = let q = both_true (is_run_byte power b) (continues_from (is_power b) w) e in let x = q.0 in
    rw x (number_run t w s (is_power b) q.1 (at + 1) out r g h)

-- ---- marks

slash_newline : (m : Mark) (b : ℕ) → (10 == b) ≡ false → (is_slash m && 10 == b) ≡ false
slash_newline Slash b h = h
slash_newline _ b h = refl

dot_newline : (m : Mark) → (is_dot m && 10 == 46) ≡ false
dot_newline Dot = refl
dot_newline _ = refl

no_comment : (m : Mark) (b : ℕ) (r : List ℕ) → (m ≡ Slash → NotFirst (λ x. x == 42 || x == 47) (b ∷ r)) →
    ((is_slash m && b == 42) ≡ false) × ((is_slash m && b == 47) ≡ false)
no_comment Slash b r h = (or_first _ _ (h refl), or_second _ _ (h refl))
no_comment _ b r h = (refl, refl)

dot_is : (m : Mark) → is_dot m ≡ true → m ≡ Dot
dot_is Dot h = refl
dot_is _ h = cc

-- behind two dots no third one follows
not_third : (r : List ℕ) → ((n : Mark) → Begins (mark_text n) (46 ∷ 46 ∷ r) → length (mark_text n) ≤ 1) → NotFirst (λ b. b == 46) r
not_third [] h = tt
not_third (b ∷ r) h = go (b == 46) refl
  where
    go : (c : Bool) → (b == 46) ≡ c → c ≡ false
    go false e = refl
    go true e = let x : b ≡ 46 = eqb-true b 46 e in let y = h Ellipsis (r, ap (λ (i : ℕ). 46 ∷ 46 ∷ i ∷ r) x) in absurd (omega arith)

two_dots : (t : List ℕ) (s : ℕ) (out : List Ended) (r : List ℕ) → NotFirst (λ b. b == 46) r
    → scan t (Dots s) (s + 1 + 1) out r ≡ scan t (InMark (s + 1) Dot) (s + 1 + 1) (add_all (found k.Mark s (s + 1)) out) r
two_dots t s out [] h = refl
two_dots t s out (b ∷ r) h =
    taken t (Dots s) b (s + 1 + 1) out r _ (cond_false (b == 46) _ _ h)
    ∙ begin_after (ended.Dots (mark s (s + 1)) (mark (s + 1) (s + 1 + 1))) b (s + 1 + 1) out (λ z more. run add_all t z (s + 1 + 1 + 1) more r)
    ∙ sym (begin_after (found k.Mark (s + 1) (s + 1 + 1)) b (s + 1 + 1) (add_all (found k.Mark s (s + 1)) out)
    (λ z more. run add_all t z (s + 1 + 1 + 1) more r))
    ∙ sym (taken t (InMark (s + 1) Dot) b (s + 1 + 1) (add_all (found k.Mark s (s + 1)) out) r _ (cond_false (b == 46) _ _ h))

mark_ends : (t : List ℕ) (m : Mark) (s : ℕ) (out : List Ended) (r : List ℕ) → Longest (Sign m) r
    → scan t (InMark s m) (past s (mark_text m)) out r ≡ scan t (Between false) (past s (mark_text m)) (add_all (found k.Mark s (past s (mark_text m))) out) r
mark_ends t m s out [] h =
    let x = slash_newline m 42 refl in
    let z = dot_newline m in
    let n = longer_newline m in
    rw (x, z, n)
mark_ends t m s out (b ∷ r) h = go (is_dot m && b == 46) refl
  where
    go : (c : Bool) → (is_dot m && b == 46) ≡ c → scan t (InMark s m) (past s (mark_text m)) out (b ∷ r) ≡ scan t (Between false)
        (past s (mark_text m)) (add_all (found k.Mark s (past s (mark_text m))) out) (b ∷ r)
    go false d =
        let x = no_comment m b r h.1 in
        let p = x.0 in
        let q = x.1 in
        let n = none_longer m b r h.0 in
        rw (p, q, d, n) (begin_after (found k.Mark s (past s (mark_text m))) b (past s (mark_text m)) out
        (λ z more. run add_all t z (past s (mark_text m) + 1) more r))
    go true d = dots m b (dot_is m (both_true (is_dot m) (b == 46) d).0) (eqb-true b 46 (both_true (is_dot m) (b == 46) d).1) h.0
      where
        dots : (n : Mark) (i : ℕ) → n ≡ Dot → i ≡ 46 → ((o : Mark) → Begins (mark_text o) (mark_text n ++ i ∷ r) → length (mark_text o) ≤ length (mark_text n))
            → scan t (InMark s n) (past s (mark_text n)) out (i ∷ r) ≡ scan t (Between false) (past s (mark_text n))
            (add_all (found k.Mark s (past s (mark_text n))) out) (i ∷ r)
        dots n i e f l =
            subst (λ (z : Mark). scan t (InMark s z) (past s (mark_text z)) out (i ∷ r) ≡ scan t (Between false) (past s (mark_text z))
            (add_all (found k.Mark s (past s (mark_text z))) out) (i ∷ r)) (sym e)
            (subst (λ (z : ℕ). scan t (InMark s Dot) (s + 1) out (z ∷ r) ≡ scan t (Between false) (s + 1) (add_all (found k.Mark s (s + 1)) out)
            (z ∷ r)) (sym f)
            (two_dots t s out r (not_third r (subst (λ (z : ℕ). (o : Mark) → Begins (mark_text o) (46 ∷ z ∷ r) → length (mark_text o) ≤ 1) f
            (subst (λ (z : Mark). (o : Mark) → Begins (mark_text o) (mark_text z ++ i ∷ r) → length (mark_text o) ≤ length (mark_text z)) e l)))))

mark_run : (t : List ℕ) (first : Bool) (m : Mark) (at : ℕ) (out : List Ended) (r : List ℕ) →
    scan t (Between first) at out (mark_text m ++ r) ≡ scan t (InMark at m) (past at (mark_text m)) out r
mark_run t first OpenBracket at out r = refl
mark_run t first CloseBracket at out r = refl
mark_run t first OpenParenthesis at out r = refl
mark_run t first CloseParenthesis at out r = refl
mark_run t first OpenBrace at out r = refl
mark_run t first CloseBrace at out r = refl
mark_run t first Dot at out r = refl
mark_run t first Arrow at out r = refl
mark_run t first PlusPlus at out r = refl
mark_run t first MinusMinus at out r = refl
mark_run t first Ampersand at out r = refl
mark_run t first Star at out r = refl
mark_run t first Plus at out r = refl
mark_run t first Minus at out r = refl
mark_run t first Tilde at out r = refl
mark_run t first Exclamation at out r = refl
mark_run t first Slash at out r = refl
mark_run t first Percent at out r = refl
mark_run t first ShiftLeft at out r = refl
mark_run t first ShiftRight at out r = refl
mark_run t first Less at out r = refl
mark_run t first Greater at out r = refl
mark_run t first LessEquals at out r = refl
mark_run t first GreaterEquals at out r = refl
mark_run t first EqualsEquals at out r = refl
mark_run t first ExclamationEquals at out r = refl
mark_run t first Caret at out r = refl
mark_run t first Bar at out r = refl
mark_run t first AmpersandAmpersand at out r = refl
mark_run t first BarBar at out r = refl
mark_run t first Question at out r = refl
mark_run t first Colon at out r = refl
mark_run t first Semicolon at out r = refl
mark_run t first Ellipsis at out r = refl
mark_run t first Equals at out r = refl
mark_run t first StarEquals at out r = refl
mark_run t first SlashEquals at out r = refl
mark_run t first PercentEquals at out r = refl
mark_run t first PlusEquals at out r = refl
mark_run t first MinusEquals at out r = refl
mark_run t first ShiftLeftEquals at out r = refl
mark_run t first ShiftRightEquals at out r = refl
mark_run t first AmpersandEquals at out r = refl
mark_run t first CaretEquals at out r = refl
mark_run t first BarEquals at out r = refl
mark_run t first Comma at out r = refl

-- ---- comments and directives

-- its bytes are passed over
line_passes : (t w : List ℕ) → has_no_newline w ≡ true → (s e at : ℕ) (out : List Ended) (r : List ℕ) →
    scan t (InLine s e) at out (w ++ r) ≡ scan t (InLine s (end_from e at w)) (past at w) out r
line_passes t [] h s e at out r = refl
line_passes t (b ∷ w) h s e at out r = let q = all_of_more (λ c. not (is_newline c)) b w h in let x = not_true (b == 10) q.0 in
    rw x (line_passes t w q.1 s (line_end e b at) (at + 1) out r)

directive_passes : (t w : List ℕ) → has_no_newline w ≡ true → (s e at : ℕ) (out : List Ended) (r : List ℕ) →
    scan t (InDirective s e) at out (w ++ r) ≡ scan t (InDirective s (end_from e at w)) (past at w) out r
directive_passes t [] h s e at out r = refl
directive_passes t (b ∷ w) h s e at out r = let q = all_of_more (λ c. not (is_newline c)) b w h in let x = not_true (b == 10) q.0 in
    rw x (directive_passes t w q.1 s (line_end e b at) (at + 1) out r)

-- reading goes on from this, past the next byte if there is one
abbrev go_past : List ℕ → ℕ → Taken → List Ended → List ℕ → Lexed (List Ended)
go_past t at n out [] = go_on add_all n out all_read
go_past t at n out (b ∷ r) = go_on add_all n out (λ z more. run add_all t z (at + 1) more r)

-- what its newline, or the end of the text, does to it
at_newline : (t : List ℕ) (s : State) (at : ℕ) (out : List Ended) (r : List ℕ) (n : Taken) → NewlineNext r → finish t s at ≡ n → step t s 10 at ≡ n →
    scan t s at out r ≡ go_past t at n out r
at_newline t s at out [] n next last h = ap (λ (m : Taken). go_on add_all m out all_read) last
at_newline t s at out (b ∷ r) n next last h = taken t s b at out r n (ap (λ (i : ℕ). step t s i at) (eqb-true b 10 next) ∙ h)

line_newline : (t w : List ℕ) (s e at : ℕ) (out : List Ended) (r : List ℕ) (o : Option ℕ) → NewlineNext r → slice_range t s at ≡ w → broken_at w ≡ o →
    scan t (InLine s e) at out r ≡ go_past t at (end_line s e o) out r
line_newline t w s e at out r o next h k = let x = ap (end_line s e) (ap broken_at h ∙ k) in at_newline t (InLine s e) at out r (end_line s e o) next x x

directive_newline : (t w : List ℕ) (s e at : ℕ) (out : List Ended) (r : List ℕ) (o : Option ℕ) → NewlineNext r → slice_range t (s + 1) at ≡ w → broken_at w ≡ o
    → scan t (InDirective s e) at out r ≡ go_past t at (end_directive s e w o) out r
directive_newline t w s e at out r o next h k =
    let x = ap (λ (v : List ℕ). end_directive s e v (broken_at v)) h ∙ ap (end_directive s e w) k in
    at_newline t (InDirective s e) at out r (end_directive s e w o) next x x

past_line : (t : List ℕ) (at : ℕ) (x : Ended) (out : List Ended) (r : List ℕ) → NewlineNext r →
    go_past t at (Go (Between true) x) out r ≡ scan t (Between false) at (add_all x out) r
past_line t at x out [] next = refl
past_line t at x out (b ∷ r) next = subst (λ (i : ℕ). go_past t at (Go (Between true) x) out (i ∷ r) ≡ scan t (Between false) at (add_all x out)
    (i ∷ r)) (sym (eqb-true b 10 next)) refl

-- two bytes further
abbrev pub two_on : Option ℕ → Option ℕ
two_on o = option_map (λ n. n + 1) (option_map (λ n. n + 1) o)

line_reads : (t w : List ℕ) (s : ℕ) (out : List Ended) (r : List ℕ) → runs_on w r ≡ true → NewlineNext r → Stands t s (47 ∷ 47 ∷ w ++ r)
    → scan t (InLine s (s + 1 + 1)) (s + 1 + 1) out (w ++ r) ≡ scan t (Between false) (past (s + 1 + 1) w)
    (add_all (ended.Comment (span s (end_from (s + 1 + 1) (s + 1 + 1) w))) out) r
line_reads t w s out r runs next stands =
    line_passes t w (no_newline w r runs) s (s + 1 + 1) (s + 1 + 1) out r
    ∙ line_newline t (47 ∷ 47 ∷ w) s _ _ out r None next (slice_is t s (47 ∷ 47 ∷ w) r stands) (ap two_on (not_broken w r next runs))
    ∙ past_line t (past (s + 1 + 1) w) (ended.Comment (span s (end_from (s + 1 + 1) (s + 1 + 1) w))) out r next

directive_reads : (t w : List ℕ) (s : ℕ) (out : List Ended) (r : List ℕ) → is_directive w ≡ true → runs_on w r ≡ true → NewlineNext r →
    Stands t (s + 1) (w ++ r)
    → scan t (InDirective s (s + 1)) (s + 1) out (w ++ r) ≡ scan t (Between false) (past (s + 1) w)
    (add_all (found k.Directive s (end_from (s + 1) (s + 1) w)) out) r
directive_reads t w s out r include runs next stands =
    directive_passes t w (no_newline w r runs) s (s + 1) (s + 1) out r
    ∙ directive_newline t w s _ _ out r None next (slice_is t (s + 1) w r stands) (not_broken w r next runs)
    ∙ ap (λ (n : Taken). go_past t (past (s + 1) w) n out r)
    (cond_true (is_directive w) (Go (Between true) (found k.Directive s (end_from (s + 1) (s + 1) w))) (Fault 6 s) include)
    ∙ past_line t (past (s + 1) w) (found k.Directive s (end_from (s + 1) (s + 1) w)) out r next

block_run : (t w : List ℕ) (c : Closing) → closes_from c w ≡ true → (s at : ℕ) (out : List Ended) (r : List ℕ) →
    scan t (InComment s c) at out (w ++ r) ≡ scan t (Between false) (past at w) (add_all (ended.Comment (span s (past at w))) out) r
block_run t [] c h s at out r = absurd (let y : true ≡ false = sym h ∙ none_left c in cc)
block_run t (b ∷ w) c h s at out r = go (goes_on c b) refl (λ g. block_run t w (closing_step c b) (sym (closes_on c b w g) ∙ h) s (at + 1) out r)
  where
    go : (d : Bool) → goes_on c b ≡ d → (goes_on c b ≡ true → scan t (InComment s (closing_step c b)) (at + 1) out (w ++ r) ≡ scan t (Between false)
        (past (at + 1) w) (add_all (ended.Comment (span s (past (at + 1) w))) out) r)
        → scan t (InComment s c) at out (b ∷ w ++ r) ≡ scan t (Between false) (past (at + 1) w) (add_all (ended.Comment (span s (past (at + 1) w))) out) r
    go true g f = taken t (InComment s c) b at out (w ++ r) _ (comment_on s c b at g) ∙ f g
    go false g f = here c b w (last_slash c b w g h)
      where
        here : (c : Closing) (b : ℕ) (w : List ℕ) → (c ≡ Starred) × (b ≡ 47) × (w ≡ [])
            → scan t (InComment s c) at out (b ∷ w ++ r) ≡ scan t (Between false) (past (at + 1) w) (add_all (ended.Comment (span s (past (at + 1) w))) out) r
        here c b w (x, y, z) =
            subst (λ (d : Closing). scan t (InComment s d) at out (b ∷ w ++ r) ≡ scan t (Between false) (past (at + 1) w)
            (add_all (ended.Comment (span s (past (at + 1) w))) out) r) (sym x)
            (subst (λ (i : ℕ). scan t (InComment s Starred) at out (i ∷ w ++ r) ≡ scan t (Between false) (past (at + 1) w)
            (add_all (ended.Comment (span s (past (at + 1) w))) out) r) (sym y)
            (subst (λ (v : List ℕ). scan t (InComment s Starred) at out (47 ∷ v ++ r) ≡ scan t (Between false) (past (at + 1) v)
            (add_all (ended.Comment (span s (past (at + 1) v))) out) r) (sym z) refl))

-- ---- characters

-- an escape in a text, or else in a character constant
abbrev pub escaping : Bool → ℕ → Escape → State
escaping true s e = TextEscape s e
escaping false s e = CharEscape s e

abbrev pub held : Bool → ℕ → State
held true s = InText s
held false s = CharHeld s

abbrev progress : Bool → List ℕ → ℕ → Progress → ℕ → ℕ → Taken
progress x t s (More e) b at = Go (escaping x s e) ended.Nothing
progress x t s Whole b at = Go (held x s) ended.Nothing
progress x t s Over b at = step t (held x s) b at
progress x t s Wrong b at = Fault 4 s

escape_is : (x : Bool) (t : List ℕ) (s : ℕ) (e : Escape) (b at : ℕ) → step t (escaping x s e) b at ≡ progress x t s (escape_step e b) b at
escape_is true t s e b at = text (escape_step e b)
  where
    text : (p : Progress) → text_escape s p b at ≡ progress true t s p b at
    text (More e) = refl
    text Whole = refl
    text Over = refl
    text Wrong = refl
escape_is false t s e b at = char (escape_step e b)
  where
    char : (p : Progress) → char_escape s p b at ≡ progress false t s p b at
    char (More e) = refl
    char Whole = refl
    char Over = refl
    char Wrong = refl

escape_taken : (x : Bool) (t : List ℕ) (s : ℕ) (e : Escape) (p : Progress) (b at : ℕ) (out : List Ended) (r : List ℕ) → escape_step e b ≡ p
    → scan t (escaping x s e) at out (b ∷ r) ≡ go_on add_all (progress x t s p b at) out (λ z more. run add_all t z (at + 1) more r)
escape_taken x t s e p b at out r h = taken t (escaping x s e) b at out r _ (escape_is x t s e b at ∙ ap (λ (q : Progress). progress x t s q b at) h)

abbrev EndsBefore : Escape → List ℕ → Type 0
EndsBefore e [] = escape_step e 10 ≡ Over
EndsBefore e (b ∷ r) = escape_step e b ≡ Over

escape_over : (x : Bool) (t : List ℕ) (s : ℕ) (e : Escape) (at : ℕ) (out : List Ended) (r : List ℕ) → EndsBefore e r →
    scan t (escaping x s e) at out r ≡ scan t (held x s) at out r
escape_over true t s e at out [] h = ap (λ (m : Taken). go_on add_all m out all_read)
    (escape_is true t s e 10 at ∙ ap (λ (q : Progress). progress true t s q 10 at) h)
escape_over false t s e at out [] h = ap (λ (m : Taken). go_on add_all m out all_read)
    (escape_is false t s e 10 at ∙ ap (λ (q : Progress). progress false t s q 10 at) h)
escape_over x t s e at out (b ∷ r) h = escape_taken x t s e Over b at out r h

one_ends : (a : ℕ) (r : List ℕ) → NotFirst is_octal_digit r → EndsBefore (OneOctal a) r
one_ends a [] h = refl
one_ends a (b ∷ r) h = rw h

two_ends : (a c : ℕ) (r : List ℕ) → NotFirst is_octal_digit r → EndsBefore (TwoOctal a c) r
two_ends a c [] h = refl
two_ends a c (b ∷ r) h = rw h

hexadecimal_ends : (v : ℕ) (r : List ℕ) → NotFirst is_hexadecimal_digit r → EndsBefore (InHexadecimal v) r
hexadecimal_ends v [] h = refl
hexadecimal_ends v (b ∷ r) h = rw h

within : (a b c : ℕ) → a ≤ b → nat_le b c ≡ true → nat_le a c ≡ true
within a b c h k = grind (arith, nat_tests)

hexadecimal_run : (x : Bool) (t : List ℕ) (ds : List ℕ) (v s at : ℕ) (out : List Ended) (r : List ℕ) → list_all is_hexadecimal_digit ds ≡ true →
    nat_le (value_from 16 v ds) 255 ≡ true → NotFirst is_hexadecimal_digit r
    → scan t (escaping x s (InHexadecimal v)) at out (ds ++ r) ≡ scan t (held x s) (past at ds) out r
hexadecimal_run x t [] v s at out r h g l = escape_over x t s (InHexadecimal v) at out r (hexadecimal_ends v r l)
hexadecimal_run x t (d ∷ ds) v s at out r h g l =
    let q = all_of_more is_hexadecimal_digit d ds h in
    let y = q.0 in
    let z = within _ _ 255 (value_up (v * 16 + digit_value d) ds) g in
    escape_taken x t s (InHexadecimal v) (More (InHexadecimal (v * 16 + digit_value d))) d at out (ds ++ r) (rw (y, z)) ∙
    hexadecimal_run x t ds (v * 16 + digit_value d) s (at + 1) out r q.1 g l

abbrev opened : Bool → ℕ → State
opened true s = InText s
opened false s = CharOpened s

abbrev plain_byte : Bool → ℕ → Bool
plain_byte true b = is_text_byte b
plain_byte false b = is_character_byte b

backslash : (x : Bool) (t : List ℕ) (s at : ℕ) (out : List Ended) (r : List ℕ) →
    scan t (opened x s) at out (92 ∷ r) ≡ scan t (escaping x s Backslash) (at + 1) out r
backslash true t s at out r = refl
backslash false t s at out r = refl

plain_character : (x : Bool) (t : List ℕ) (b s at : ℕ) (out : List Ended) (r : List ℕ) → plain_byte x b ≡ true →
    scan t (opened x s) at out (b ∷ r) ≡ scan t (held x s) (at + 1) out r
plain_character true t b s at out r h =
    let p = both_true (not (b == 10) && not (b == 34)) (not (b == 92)) h in
    let q = both_true (not (b == 10)) (not (b == 34)) p.0 in
    let u = not_true (b == 10) q.0 in
    let v = not_true (b == 34) q.1 in
    let w = not_true (b == 92) p.1 in
    rw (v, w, u)
plain_character false t b s at out r h =
    let p = both_true (between 32 126 b && not (b == 39)) (not (b == 92)) h in
    let w = not_true (b == 92) p.1 in
    taken t (CharOpened s) b at out r _ (cond_false (b == 92) _ _ w ∙ cond_true (is_character_byte b) _ _ h)

first_octal : (a : ℕ) → is_octal_digit a ≡ true → escape_step Backslash a ≡ More (OneOctal a)
first_octal a h = let x = octal_simple a h in rw (x, h)

-- a character is read
character_run : (x : Bool) (t : List ℕ) (c : Character) (s at : ℕ) (out : List Ended) (r : List ℕ) → IsCharacter (plain_byte x) c → TakesDigits c r
    → scan t (opened x s) at out (written c r) ≡ scan t (held x s) (past_character c at) out r
character_run x t (Plain b) s at out r h l = plain_character x t b s at out r h
character_run x t (Simple b) s at out r h l = backslash x t s at out (b ∷ r) ∙ escape_taken x t s Backslash Whole b (at + 1) out r (rw h)
character_run x t (OneDigit a) s at out r h l =
    backslash x t s at out (a ∷ r) ∙ escape_taken x t s Backslash (More (OneOctal a)) a (at + 1) out r (first_octal a h) ∙
    escape_over x t s (OneOctal a) (at + 1 + 1) out r (one_ends a r l)
character_run x t (TwoDigits a b) s at out r h l =
    let y = h.1 in
    backslash x t s at out (a ∷ b ∷ r) ∙ escape_taken x t s Backslash (More (OneOctal a)) a (at + 1) out (b ∷ r) (first_octal a h.0)
    ∙ escape_taken x t s (OneOctal a) (More (TwoOctal a b)) b (at + 1 + 1) out r (rw y) ∙
    escape_over x t s (TwoOctal a b) (at + 1 + 1 + 1) out r (two_ends a b r l)
character_run x t (ThreeDigits a b c) s at out r h l =
    let y = h.1 in
    let z = h.2 in
    let w = h.3 in
    backslash x t s at out (a ∷ b ∷ c ∷ r) ∙ escape_taken x t s Backslash (More (OneOctal a)) a (at + 1) out (b ∷ c ∷ r) (first_octal a h.0)
    ∙ escape_taken x t s (OneOctal a) (More (TwoOctal a b)) b (at + 1 + 1) out (c ∷ r) (rw y) ∙
    escape_taken x t s (TwoOctal a b) Whole c (at + 1 + 1 + 1) out r (rw (z, w))
character_run x t (Hexadecimal a ds) s at out r h l =
    let q = all_of_more is_hexadecimal_digit a ds h.0 in
    let y = q.0 in
    backslash x t s at out (120 ∷ a ∷ ds ++ r) ∙ escape_taken x t s Backslash (More HexadecimalStart) 120 (at + 1) out (a ∷ ds ++ r) refl
    ∙ escape_taken x t s HexadecimalStart (More (InHexadecimal (digit_value a))) a (at + 1 + 1) out (ds ++ r) (rw y) ∙
    hexadecimal_run x t ds (digit_value a) s (at + 1 + 1 + 1) out r q.1
    (ap (λ (n : ℕ). nat_le (value_from 16 n ds) 255) (sym (zero-add (digit_value a))) ∙ ap (λ (n : ℕ). nat_le n 255) (value_is 16 (a ∷ ds)) ∙ h.1) l

text_run : (t : List ℕ) (cs : List Character) (s at : ℕ) (out : List Ended) (r : List ℕ) → AreCharacters is_text_byte cs (34 ∷ r)
    → scan t (InText s) at out (written_all cs (34 ∷ r)) ≡ scan t (Between false) (past_characters cs at + 1)
    (add_all (found k.Text s (past_characters cs at + 1)) out) r
text_run t [] s at out r h = refl
text_run t (c ∷ cs) s at out r h = character_run true t c s at out (written_all cs (34 ∷ r)) h.0 h.1 ∙ text_run t cs s (past_character c at) out r h.2

-- ---- pieces

-- what a piece is as a token or a comment
abbrev pub kept : Piece → ℕ → Ended
kept (Space b) at = ended.Nothing
kept (Word w) at = found (word_kind w) at (past at w)
kept (Number w) at = found k.Number at (past at w)
kept (Char c) at = found k.Char at (past_character c (at + 1) + 1)
kept (Text cs) at = found k.Text at (past_characters cs (at + 1) + 1)
kept (Sign m) at = found k.Mark at (past at (mark_text m))
kept (Directive w) at = found k.Directive at (end_from (at + 1) (at + 1) w)
kept (Line w) at = ended.Comment (span at (end_from (at + 1 + 1) (at + 1 + 1) w))
kept (Block w) at = ended.Comment (span at (past (at + 1 + 1) w))

any_quote : (c : Character) (r : List ℕ) → TakesDigits c (39 ∷ r)
any_quote (Plain b) r = tt
any_quote (Simple b) r = tt
any_quote (OneDigit a) r = refl
any_quote (TwoDigits a b) r = refl
any_quote (ThreeDigits a b c) r = tt
any_quote (Hexadecimal a ds) r = refl

text_quote : (cs : List Character) (r : List ℕ) → AreCharacters is_text_byte cs (34 ∷ []) → AreCharacters is_text_byte cs (34 ∷ r)
text_quote [] r h = tt
text_quote (c ∷ cs) r h = (h.0, first_same c cs r h.1, text_quote cs r h.2)
  where
    same_first : (f : ℕ → Bool) (c : Character) (u v : List ℕ) → NotFirst f (written c u) → NotFirst f (written c v)
    same_first f (Plain b) u v h = h
    same_first f (Simple b) u v h = h
    same_first f (OneDigit a) u v h = h
    same_first f (TwoDigits a b) u v h = h
    same_first f (ThreeDigits a b c) u v h = h
    same_first f (Hexadecimal a ds) u v h = h

    same_all : (f : ℕ → Bool) (cs : List Character) (r : List ℕ) → NotFirst f (written_all cs (34 ∷ [])) → NotFirst f (written_all cs (34 ∷ r))
    same_all f [] r h = h
    same_all f (c ∷ cs) r h = same_first f c _ _ h

    first_same : (c : Character) (cs : List Character) (r : List ℕ) → TakesDigits c (written_all cs (34 ∷ [])) → TakesDigits c (written_all cs (34 ∷ r))
    first_same (Plain b) cs r h = tt
    first_same (Simple b) cs r h = tt
    first_same (OneDigit a) cs r h = same_all is_octal_digit cs r h
    first_same (TwoDigits a b) cs r h = same_all is_octal_digit cs r h
    first_same (ThreeDigits a b c) cs r h = tt
    first_same (Hexadecimal a ds) cs r h = same_all is_hexadecimal_digit cs r h

read_word : (t : List ℕ) (first : Bool) (w : List ℕ) → is_word w ≡ true → (at : ℕ) (out : List Ended) (r : List ℕ) → NotFirst is_word_byte r →
    Stands t at (w ++ r)
    → scan t (Between first) at out (w ++ r) ≡ scan t (Between false) (past at w) (add_all (kept (Word w) at) out) r
read_word t first [] h at out r l g = absurd cc
read_word t first (b ∷ w) h at out r l g =
    let q = both_true (is_letter b) (list_all is_word_byte w) h in
    let x = letter_space b q.0 in
    let y = q.0 in
    let slice = slice_is t at (b ∷ w) r g in
    rw (x, y) (word_run t w q.1 at (at + 1) out r l ∙ ap (λ (v : List ℕ). scan t (Between false) (past (at + 1) w)
    (add_all (found (word_kind v) at (past (at + 1) w)) out) r) slice)

read_number : (t : List ℕ) (first : Bool) (w : List ℕ) → is_run w ≡ true → is_some (integer_of w) ≡ true → (at : ℕ) (out : List Ended) (r : List ℕ) →
    NotFirst (is_run_byte (ends_with_power w)) r → Stands t at (w ++ r)
    → scan t (Between first) at out (w ++ r) ≡ scan t (Between false) (past at w) (add_all (kept (Number w) at) out) r
read_number t first [] h i at out r l g = absurd cc
read_number t first (b ∷ w) h i at out r l g =
    let q = both_true (is_digit b) (continues (b ∷ w)) h in
    let x = digit_space b q.0 in
    let y = digit_letter b q.0 in
    let z = q.0 in
    let slice = slice_is t at (b ∷ w) r g in
    rw (x, y, z) (number_run t w at false (run_continues b w q.0 ∙ q.1) (at + 1) out r (ap (λ (v : List ℕ). is_some (integer_of v)) slice ∙ i)
    (subst (λ (c : Bool). NotFirst (is_run_byte c) r) (sym (run_power b w q.0)) l))

pub read : (t : List ℕ) (first : Bool) (p : Piece) → Fits first p → (r : List ℕ) → Longest p r → (at : ℕ) (out : List Ended) → Stands t at (spelled p r)
    → scan t (Between first) at out (spelled p r) ≡ scan t (Between (first_behind first p)) (ends p at) (add_all (kept p at) out) r
read t first (Space b) h r l at out g = rw h
read t first (Word w) h r l at out g = read_word t first w h at out r l g
read t first (Number w) h r l at out g = read_number t first w h.0 h.1 at out r l g
read t first (Char c) h r l at out g = character_run false t c at (at + 1) out (39 ∷ r) h (any_quote c r)
read t first (Text cs) h r l at out g = text_run t cs at (at + 1) out r (text_quote cs r h)
read t first (Sign m) h r l at out g = mark_run t first m at out r ∙ mark_ends t m at out r l
read t first (Directive w) h r l at out g = let x = h.0 in rw x
    (directive_reads t w at out r ((directive_decided w).1 h.1) l.0 l.1 (stands_past t at (35 ∷ []) (w ++ r) g))
read t first (Line w) h r l at out g = line_reads t w at out r l.0 l.1 g
read t first (Block w) h r l at out g = block_run t w Open (closes_so w h) at (at + 1 + 1) out r

-- what these pieces are, behind this
abbrev pub gather : List Piece → ℕ → List Ended → List Ended
gather [] at out = out
gather (p ∷ ps) at out = gather ps (ends p at) (add_all (kept p at) out)

-- A text that is spelled so is read so.
pub reads : (t : List ℕ) (first : Bool) (ps : List Piece) (r : List ℕ) → Good first ps r → (at : ℕ) (out : List Ended) → Stands t at (text ps r)
    → scan t (Between first) at out (text ps r) ≡ scan t (Between (first_behind_all first ps)) (ends_all ps at) (gather ps at out) r
reads t first [] r g at out i = refl
reads t first (p ∷ ps) r g at out i =
    read t first p g.0 (text ps r) g.1 at out i ∙ reads t (first_behind first p) ps r g.2 (ends p at) (add_all (kept p at) out)
    (stands_behind t p at (text ps r) i)

pub lexes : (ps : List Piece) → Good true ps [] → scan (text ps []) (Between true) 0 [] (text ps []) ≡ Read (gather ps 0 [])
lexes ps g = reads (text ps []) true ps [] g 0 [] ([], refl, refl)
