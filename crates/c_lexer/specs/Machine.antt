-- What each byte does to the state of reading.
use Rattle.std.specs.Prelude.{◌+◌, ◌*◌, ◌≤◌, ℕ, Bool, true, false, cond, ◌&&◌, ◌||◌, ◌==◌, nat_le, not, List, [], ◌∷◌, ◌++◌, Option, Some, None, is_some, take, drop, slice_range}
use Rattle.std.specs.List.{list_all, prefix_len}
use Rattle.std.specs.Option.{option_map}
use Rattle.c_lexer.specs.declared.mark.Mark.{Mark}
use Rattle.c_lexer.specs.declared.mark.Mark.TheVariants.{Ellipsis}
use Rattle.c_lexer.specs.declared.token.TokenKind.{TokenKind}
use Rattle.c_lexer.specs.declared.token.TokenKind.TheVariants as k
use Rattle.c_lexer.specs.declared.token.Token.{Token}
use Rattle.c_lexer.specs.declared.token.Span.{Span}
use Rattle.c_lexer.specs.declared.token.Scanned.{Scanned}
use Rattle.c_lexer.specs.declared.line.Tail.{Tail}
use Rattle.c_lexer.specs.declared.state.State.{State}
use Rattle.c_lexer.specs.declared.state.State.TheVariants.{Between, InWord, InNumber, InMark, Dots, CharOpened, CharEscape, CharHeld, InText, TextEscape, InDirective, InComment, InLine}
use Rattle.c_lexer.specs.declared.state.Closing.{Closing}
use Rattle.c_lexer.specs.declared.state.Closing.TheVariants as closing
use Rattle.c_lexer.specs.declared.state.Escape.{Escape}
use Rattle.c_lexer.specs.declared.state.Escape.TheVariants.{Backslash, OneOctal, TwoOctal, HexadecimalStart, InHexadecimal}
use Rattle.c_lexer.specs.declared.state.Progress.{Progress}
use Rattle.c_lexer.specs.declared.state.Progress.TheVariants.{More, Whole, Over, Wrong}
use Rattle.c_lexer.specs.declared.state.Ended.{Ended}
use Rattle.c_lexer.specs.declared.state.Ended.TheVariants as ends
use Rattle.c_lexer.specs.declared.state.Taken.{Taken}
use Rattle.c_lexer.specs.declared.state.Taken.TheVariants.{Go, Fault}
use Rattle.c_types.specs.Words.{is_letter, is_digit, is_word_byte}
use Rattle.c_lexer.specs.Bytes.{is_space, is_newline, is_return, is_octal_digit, is_hexadecimal_digit, is_power, is_run_byte, is_simple_escape, is_text_byte, is_character_byte, digit_value}
use Rattle.c_lexer.specs.Numbers.{integer_of}
use Rattle.c_lexer.specs.Characters.{three_digits}
use Rattle.c_lexer.specs.MarkSteps.{mark_at, longer, is_slash, is_dot, is_whole_mark}
use Rattle.c_lexer.specs.Pieces.{token, span, word_kind}
use Rattle.c_lexer.specs.IncludeSteps.{is_directive}

abbrev pub of_mark : Option Mark → Ended → ℕ → Taken
of_mark (Some m) ended at = Go (InMark at m) ended
of_mark None ended at = Fault 2 at

-- a byte that begins something, behind what it ended
abbrev pub begin : Bool → Ended → ℕ → ℕ → Taken
begin first ended b at =
    cond (is_space b) (Go (Between (is_newline b || first)) ended)
    (cond (is_letter b) (Go (InWord at) ended)
    (cond (is_digit b) (Go (InNumber at false) ended)
    (cond (b == 39) (Go (CharOpened at) ended)
    (cond (b == 34) (Go (InText at) ended)
    (cond (b == 35) (cond first (Go (InDirective at (at + 1)) ended) (Fault 2 at))
    (of_mark (mark_at b) ended at))))))

abbrev pub found : TokenKind → ℕ → ℕ → Ended
found kind start end = ends.Token (token kind start end)

abbrev pub mark : ℕ → ℕ → Token
mark start end = token k.Mark start end

abbrev pub word : List ℕ → ℕ → ℕ → Ended
word t start end = found (word_kind (slice_range t start end)) start end

abbrev pub after_mark : ℕ → Option Mark → ℕ → ℕ → Taken
after_mark start (Some n) b at = Go (InMark start n) ends.Nothing
after_mark start None b at = begin false (found k.Mark start at) b at

abbrev pub in_mark : ℕ → Mark → ℕ → ℕ → Taken
in_mark start m b at =
    cond (is_slash m && b == 42) (Go (InComment start closing.Open) ends.Nothing)
    (cond (is_slash m && b == 47) (Go (InLine start (at + 1)) ends.Nothing)
    (cond (is_dot m && b == 46) (Go (Dots start) ends.Nothing)
    (after_mark start (longer m b) b at)))

-- what a byte does to an escape: it goes on, is whole with the byte, was whole before it, or is none
abbrev pub escape_step : Escape → ℕ → Progress
escape_step Backslash b = cond (is_simple_escape b) Whole (cond (is_octal_digit b) (More (OneOctal b)) (cond (b == 120) (More HexadecimalStart) Wrong))
escape_step (OneOctal a) b = cond (is_octal_digit b) (More (TwoOctal a b)) Over
escape_step (TwoOctal a b) c = cond (is_octal_digit c) (cond (nat_le (three_digits a b c) 255) Whole Wrong) Over
escape_step HexadecimalStart b = cond (is_hexadecimal_digit b) (More (InHexadecimal (digit_value b))) Wrong
escape_step (InHexadecimal v) b = cond (is_hexadecimal_digit b)
    (cond (nat_le (v * 16 + digit_value b) 255) (More (InHexadecimal (v * 16 + digit_value b))) Wrong) Over

abbrev pub char_held : ℕ → ℕ → ℕ → Taken
char_held start b at = cond (b == 39) (Go (Between false) (found k.Char start (at + 1))) (Fault 4 start)

abbrev pub char_escape : ℕ → Progress → ℕ → ℕ → Taken
char_escape start (More e) b at = Go (CharEscape start e) ends.Nothing
char_escape start Whole b at = Go (CharHeld start) ends.Nothing
char_escape start Over b at = char_held start b at
char_escape start Wrong b at = Fault 4 start

abbrev pub in_text : ℕ → ℕ → ℕ → Taken
in_text start b at =
    cond (b == 34) (Go (Between false) (found k.Text start (at + 1)))
    (cond (b == 92) (Go (TextEscape start Backslash) ends.Nothing)
    (cond (b == 10) (Fault 4 start) (Go (InText start) ends.Nothing)))

abbrev pub text_escape : ℕ → Progress → ℕ → ℕ → Taken
text_escape start (More e) b at = Go (TextEscape start e) ends.Nothing
text_escape start Whole b at = Go (InText start) ends.Nothing
text_escape start Over b at = in_text start b at
text_escape start Wrong b at = Fault 4 start

-- where a line ends that goes on with this byte, without the carriage returns at its end
abbrev pub line_end : ℕ → ℕ → ℕ → ℕ
line_end end b at = cond (b == 13) end (at + 1)

-- a line breaks off at this byte, by whether up to its newline all bytes are white space, or carriage returns
abbrev pub breaks_before : ℕ → Bool → Bool → Bool
breaks_before b white returns = (b == 92 && white) || (is_return b && not returns)

abbrev pub breaks_line : ℕ → List ℕ → Bool
breaks_line b w = breaks_before b (list_all is_space w) (list_all is_return w)

-- of a line without its newline: how many bytes stand before the one at which it breaks off
abbrev pub broken_at : List ℕ → Option ℕ
broken_at [] = None
broken_at (b ∷ w) = cond (breaks_line b w) (Some 0) (option_map (λ n. n + 1) (broken_at w))

-- this byte, at this place, before a tail
abbrev pub broken_here : ℕ → ℕ → Tail → Option ℕ
broken_here b at tail = cond (breaks_before b tail.white tail.returns) (Some at) tail.broken

abbrev pub onto : ℕ → ℕ → Tail → Tail
onto b at tail = record { broken = broken_here b at tail; white = is_space b && tail.white; returns = is_return b && tail.returns }

-- the end of a directive, by its bytes behind the `#` and where they break off
abbrev pub end_directive : ℕ → ℕ → List ℕ → Option ℕ → Taken
end_directive start end w None = cond (is_directive w) (Go (Between true) (found k.Directive start end)) (Fault 6 start)
end_directive start end w (Some n) = cond (is_directive (take n w)) (Fault 2 (start + 1 + n)) (Fault 6 start)

-- the end of a comment `//`, by where it breaks off
abbrev pub end_line : ℕ → ℕ → Option ℕ → Taken
end_line start end None = Go (Between true) (ends.Comment (span start end))
end_line start end (Some n) = Fault 2 (start + n)

-- what a byte does behind a `\` and white space in a comment
abbrev pub continued_step : ℕ → Closing
continued_step b = cond (b == 10) closing.Joined (cond (b == 13) closing.Returned (cond (is_space b) closing.Continued closing.Open))

-- what a byte other than `*` and a closing `/` does to what may close a comment
abbrev pub closing_else : Closing → ℕ → Closing
closing_else closing.Open b = closing.Open
closing_else closing.Starred b = cond (b == 92) closing.Continued closing.Open
closing_else closing.Continued b = continued_step b
closing_else closing.Returned b = cond (b == 92) closing.Continued (continued_step b)
closing_else closing.Joined b = cond (b == 92) closing.Continued closing.Open

abbrev pub closing_step : Closing → ℕ → Closing
closing_step c b = cond (b == 42) closing.Starred (closing_else c b)

abbrev pub in_comment : ℕ → Closing → ℕ → ℕ → Taken
in_comment start closing.Starred b at = cond (b == 47) (Go (Between false) (ends.Comment (span start (at + 1))))
    (Go (InComment start (closing_step closing.Starred b)) ends.Nothing)
in_comment start closing.Returned b at = cond (b == 47) (Fault 3 start) (Go (InComment start (closing_step closing.Returned b)) ends.Nothing)
in_comment start closing.Joined b at = cond (b == 47) (Fault 3 start) (Go (InComment start (closing_step closing.Joined b)) ends.Nothing)
in_comment start c b at = Go (InComment start (closing_step c b)) ends.Nothing

abbrev pub in_word : List ℕ → ℕ → ℕ → ℕ → Taken
in_word t start b at = cond (is_word_byte b) (Go (InWord start) ends.Nothing) (begin false (word t start at) b at)

abbrev pub in_number : List ℕ → ℕ → Bool → ℕ → ℕ → Taken
in_number t start power b at =
    cond (is_run_byte power b) (Go (InNumber start (is_power b)) ends.Nothing)
    (cond (is_some (integer_of (slice_range t start at))) (begin false (found k.Number start at) b at) (Fault 5 start))

abbrev pub in_dots : ℕ → ℕ → ℕ → Taken
in_dots start b at = cond (b == 46) (Go (InMark start Ellipsis) ends.Nothing) (begin false (ends.Dots (mark start (start + 1)) (mark (start + 1) at)) b at)

abbrev pub char_opened : ℕ → ℕ → Taken
char_opened start b =
    cond (b == 92) (Go (CharEscape start Backslash) ends.Nothing)
    (cond (is_character_byte b) (Go (CharHeld start) ends.Nothing) (Fault 4 start))

abbrev pub in_directive : List ℕ → ℕ → ℕ → ℕ → ℕ → Taken
in_directive t start end b at =
    cond (b == 10) (end_directive start end (slice_range t (start + 1) at) (broken_at (slice_range t (start + 1) at)))
    (Go (InDirective start (line_end end b at)) ends.Nothing)

abbrev pub in_line : List ℕ → ℕ → ℕ → ℕ → ℕ → Taken
in_line t start end b at = cond (b == 10) (end_line start end (broken_at (slice_range t start at))) (Go (InLine start (line_end end b at)) ends.Nothing)

abbrev pub step : List ℕ → State → ℕ → ℕ → Taken
step t (Between first) b at = begin first ends.Nothing b at
step t (InWord start) b at = in_word t start b at
step t (InNumber start power) b at = in_number t start power b at
step t (InMark start m) b at = in_mark start m b at
step t (Dots start) b at = in_dots start b at
step t (CharOpened start) b at = char_opened start b
step t (CharEscape start e) b at = char_escape start (escape_step e b) b at
step t (CharHeld start) b at = char_held start b at
step t (InText start) b at = in_text start b at
step t (TextEscape start e) b at = text_escape start (escape_step e b) b at
step t (InDirective start end) b at = in_directive t start end b at
step t (InComment start c) b at = in_comment start c b at
step t (InLine start end) b at = in_line t start end b at

-- a byte that leaves the state as it is and ends nothing
abbrev pub stays : State → ℕ → Bool
stays (Between first) b = b == 32
stays (InWord start) b = is_word_byte b
stays (InText start) b = is_text_byte b
stays (InComment start closing.Open) b = not (b == 42)
stays _ b = false

-- the place behind this byte and those behind it that stay
abbrev pub behind_stays : List ℕ → State → ℕ → ℕ
behind_stays t s start = start + 1 + prefix_len (stays s) (drop (start + 1) t)

-- a word begins with this byte
abbrev pub begins_word : State → ℕ → Bool
begins_word (Between first) b = is_letter b
begins_word _ b = false

-- a mark with which no byte goes on begins with this byte
abbrev pub begins_mark : State → ℕ → Bool
begins_mark (Between first) b = is_whole_mark b
begins_mark _ b = false

-- the token of the word that begins at this place
abbrev pub word_from : List ℕ → ℕ → Token
word_from t start = let end = start + 1 + prefix_len is_word_byte (drop (start + 1) t) in token (word_kind (slice_range t start end)) start end

-- the least place at which a state can stand: behind the first byte of a directive or of two dots, else from its first byte on
abbrev pub least : State → ℕ
least (Between first) = 0
least (InWord start) = start
least (InNumber start power) = start
least (InMark start m) = start
least (Dots start) = start + 1
least (CharOpened start) = start
least (CharEscape start e) = start
least (CharHeld start) = start
least (InText start) = start
least (TextEscape start e) = start
least (InDirective start end) = start + 1
least (InComment start c) = start
least (InLine start end) = start

-- a step keeps the state at or before the byte behind it, and no fault lies behind its byte
abbrev pub KeepsOrder : ℕ → Taken → Type 0
KeepsOrder at (Go s ended) = least s ≤ at + 1
KeepsOrder at (Fault reason place) = place ≤ at

-- the end of the text does what a newline would, but that it leaves a comment `/*` without its end
abbrev pub finish : List ℕ → State → ℕ → Taken
finish t (InComment start c) at = Fault 3 start
finish t s at = step t s 10 at

abbrev pub add_token : Ended → List Token → List Token
add_token (ends.Token found) out = out ++ found ∷ []
add_token (ends.Dots first second) out = (out ++ first ∷ []) ++ second ∷ []
add_token _ out = out

abbrev pub add_comment : Ended → List Span → List Span
add_comment (ends.Comment found) out = out ++ found ∷ []
add_comment _ out = out

abbrev pub add_ended : Ended → Scanned → Scanned
add_ended ended out = record { tokens = add_token ended out.tokens; comments = add_comment ended out.comments }

-- what reading gives: all of it, or a reason and a place
pub data Lexed (X : Type 0) : Type 0 where
  Read : X → Lexed X
  Faulty : ℕ → ℕ → Lexed X

abbrev pub go_on : {X : Type 0} → (Ended → X → X) → Taken → X → (State → X → Lexed X) → Lexed X
go_on add (Go s ended) out f = f s (add ended out)
go_on add (Fault reason place) out f = Faulty reason place

abbrev pub run : {X : Type 0} → (Ended → X → X) → List ℕ → State → ℕ → X → List ℕ → Lexed X
run add t s at out [] = go_on add (finish t s at) out (λ z more. Read more)
run add t s at out (b ∷ bs) = go_on add (step t s b at) out (λ z more. run add t z (at + 1) more bs)
