-- A step keeps the state at or before the byte behind it.
use Rattle.std.proofs.Common.{◌≤◌, ◌+◌, ℕ, Bool, true, false, ◌&&◌, ◌==◌, cond, List, Option, Some, None, length, take, drop, ◌-◌, ◌≡◌, refl, arith}
use Rattle.std.proofs.lemmas.List.{length-take}
use Rattle.std.proofs.Math.Nat.{min-le_left}
use Rattle.std.specs.Prelude.{is_some, slice_range}
use Rattle.c_lexer.specs.declared.mark.Mark.{Mark}
use Rattle.c_lexer.specs.declared.state.State.{State}
use Rattle.c_lexer.specs.declared.state.State.TheVariants.{Between, InWord, InNumber, InMark, Dots, CharOpened, CharEscape, CharHeld, InText, TextEscape, InDirective, InComment, InLine}
use Rattle.c_lexer.specs.declared.state.Closing.{Closing}
use Rattle.c_lexer.specs.declared.state.Closing.TheVariants.{Open, Starred, Continued}
use Rattle.c_lexer.specs.declared.state.Progress.{Progress}
use Rattle.c_lexer.specs.declared.state.Progress.TheVariants.{More, Whole, Over, Wrong}
use Rattle.c_lexer.specs.declared.state.Ended.{Ended}
use Rattle.c_lexer.specs.declared.state.Taken.{Taken}
use Rattle.c_types.specs.Words.{is_letter, is_digit, is_word_byte}
use Rattle.c_lexer.specs.Bytes.{is_space, is_run_byte, is_character_byte}
use Rattle.c_lexer.specs.Numbers.{integer_of}
use Rattle.c_lexer.specs.MarkSteps.{mark_at, longer, is_slash, is_dot}
use Rattle.c_lexer.specs.IncludeSteps.{is_directive}
use Rattle.c_lexer.proofs.Lines.{broken_within}
use Rattle.c_lexer.specs.Machine.{of_mark, begin, after_mark, in_mark, escape_step, char_held, char_escape, in_text, text_escape, broken_at, end_directive, end_line, in_comment, step, least, KeepsOrder}

either : (c : Bool) (x y : Taken) (at : ℕ) → KeepsOrder at x → KeepsOrder at y → KeepsOrder at (cond c x y)
either true x y at h k = h
either false x y at h k = k

mark_keeps : (o : Option Mark) (t : Ended) (at : ℕ) → KeepsOrder at (of_mark o t at)
mark_keeps None t at = omega arith
mark_keeps (Some m) t at = omega arith

begin_keeps : (first : Bool) (t : Ended) (b at : ℕ) → KeepsOrder at (begin first t b at)
begin_keeps first t b at =
    either (is_space b) _ _ at (omega arith)
    (either (is_letter b) _ _ at (omega arith)
    (either (is_digit b) _ _ at (omega arith)
    (either (b == 39) _ _ at (omega arith)
    (either (b == 34) _ _ at (omega arith)
    (either (b == 35) _ _ at (either first _ _ at (omega arith) (omega arith))
    (mark_keeps (mark_at b) t at))))))

longer_keeps : (s : ℕ) (o : Option Mark) (b at : ℕ) → s ≤ at → KeepsOrder at (after_mark s o b at)
longer_keeps s None b at h = begin_keeps false _ b at
longer_keeps s (Some n) b at h = omega arith

in_mark_keeps : (s : ℕ) (m : Mark) (b at : ℕ) → s ≤ at → KeepsOrder at (in_mark s m b at)
in_mark_keeps s m b at h =
    either (is_slash m && b == 42) _ _ at (omega arith)
    (either (is_slash m && b == 47) _ _ at (omega arith)
    (either (is_dot m && b == 46) _ _ at (omega arith) (longer_keeps s (longer m b) b at h)))

char_held_keeps : (s b at : ℕ) → s ≤ at → KeepsOrder at (char_held s b at)
char_held_keeps s b at h = either (b == 39) _ _ at (omega arith) (omega arith)

char_escape_keeps : (s : ℕ) (p : Progress) (b at : ℕ) → s ≤ at → KeepsOrder at (char_escape s p b at)
char_escape_keeps s (More e) b at h = omega arith
char_escape_keeps s Whole b at h = omega arith
char_escape_keeps s Over b at h = char_held_keeps s b at h
char_escape_keeps s Wrong b at h = omega arith

in_text_keeps : (s b at : ℕ) → s ≤ at → KeepsOrder at (in_text s b at)
in_text_keeps s b at h = either (b == 34) _ _ at (omega arith) (either (b == 92) _ _ at (omega arith) (either (b == 10) _ _ at (omega arith) (omega arith)))

text_escape_keeps : (s : ℕ) (p : Progress) (b at : ℕ) → s ≤ at → KeepsOrder at (text_escape s p b at)
text_escape_keeps s (More e) b at h = omega arith
text_escape_keeps s Whole b at h = omega arith
text_escape_keeps s Over b at h = in_text_keeps s b at h
text_escape_keeps s Wrong b at h = omega arith

-- a line is continued within it
slice_within : (t : List ℕ) (s at n : ℕ) → broken_at (slice_range t s at) ≡ Some n → s ≤ at → n ≤ at - s
slice_within t s at n k h = let x = broken_within (slice_range t s at) n k in let y = length-take (at - s) (drop s t) in let z =
    min-le_left (at - s)
    (length (drop s t)) in omega arith

directive_keeps : (s end at : ℕ) (w : List ℕ) (o : Option ℕ) → ((n : ℕ) → o ≡ Some n → s + 1 + n ≤ at) → s + 1 ≤ at → KeepsOrder at (end_directive s end w o)
directive_keeps s end at w None f h = either (is_directive w) _ _ at (omega arith) (omega arith)
directive_keeps s end at w (Some n) f h = either (is_directive (take n w)) _ _ at (f n refl) (omega arith)

comment_keeps : (s : ℕ) (c : Closing) (b at : ℕ) → s ≤ at → KeepsOrder at (in_comment s c b at)
comment_keeps s Open b at h = omega arith
comment_keeps s Starred b at h = either (b == 47) _ _ at (omega arith) (omega arith)
comment_keeps s Continued b at h = omega arith
comment_keeps s _ b at h = either (b == 47) _ _ at (omega arith) (omega arith)

line_keeps : (s end at : ℕ) (o : Option ℕ) → ((n : ℕ) → o ≡ Some n → s + n ≤ at) → s ≤ at → KeepsOrder at (end_line s end o)
line_keeps s end at None f h = omega arith
line_keeps s end at (Some n) f h = f n refl

pub step_keeps : (t : List ℕ) (s : State) (b at : ℕ) → least s ≤ at → KeepsOrder at (step t s b at)
step_keeps t (Between first) b at h = begin_keeps first _ b at
step_keeps t (InWord s) b at h = either (is_word_byte b) _ _ at (omega arith) (begin_keeps false _ b at)
step_keeps t (InNumber s power) b at h =
    either (is_run_byte power b) _ _ at (omega arith) (either (is_some (integer_of (slice_range t s at))) _ _ at (begin_keeps false _ b at) (omega arith))
step_keeps t (InMark s m) b at h = in_mark_keeps s m b at h
step_keeps t (Dots s) b at h = either (b == 46) _ _ at (omega arith) (begin_keeps false _ b at)
step_keeps t (CharOpened s) b at h = either (b == 92) _ _ at (omega arith) (either (is_character_byte b) _ _ at (omega arith) (omega arith))
step_keeps t (CharEscape s e) b at h = char_escape_keeps s (escape_step e b) b at h
step_keeps t (CharHeld s) b at h = char_held_keeps s b at h
step_keeps t (InText s) b at h = in_text_keeps s b at h
step_keeps t (TextEscape s e) b at h = text_escape_keeps s (escape_step e b) b at h
step_keeps t (InDirective s end) b at h = either (b == 10) _ _ at
    (directive_keeps s end at (slice_range t (s + 1) at) (broken_at (slice_range t (s + 1) at))
    (λ n k. let x = slice_within t (s + 1) at n k h in (let y : s + 1 + n ≤ at = omega arith in y)) h) (omega arith)
step_keeps t (InComment s c) b at h = comment_keeps s c b at h
step_keeps t (InLine s end) b at h = either (b == 10) _ _ at
    (line_keeps s end at (broken_at (slice_range t s at)) (λ n k. let x = slice_within t s at n k h in (let y : s + n ≤ at = omega arith in y)) h) (omega arith)
