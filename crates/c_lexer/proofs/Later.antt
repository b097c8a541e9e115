-- No fault lies before the piece that is being read, so none lies where a piece begins.
use Rattle.std.proofs.Common.{◌≡◌, ◌≤◌, ◌<◌, ◌+◌, ℕ, Bool, true, false, ◌&&◌, ◌==◌, cond, List, [], ◌∷◌, length, Option, Some, None, take, arith, ap, sym, ◌∙◌}
use Rattle.std.specs.Prelude.{slice_range, is_some}
use Rattle.std.proofs.lemmas.List.{append-nil}
use Rattle.c_lexer.specs.declared.mark.Mark.{Mark}
use Rattle.c_lexer.specs.declared.mark.Mark.TheVariants.{Plus}
use Rattle.c_lexer.specs.declared.state.State.{State}
use Rattle.c_lexer.specs.declared.state.State.TheVariants.{Between, InWord, InNumber, InMark, Dots, CharOpened, CharEscape, CharHeld, InText, TextEscape, InDirective, InComment, InLine}
use Rattle.c_lexer.specs.declared.state.Closing.{Closing}
use Rattle.c_lexer.specs.declared.state.Closing.TheVariants.{Open, Starred, Continued}
use Rattle.c_lexer.specs.declared.state.Progress.{Progress}
use Rattle.c_lexer.specs.declared.state.Progress.TheVariants.{More, Whole, Over, Wrong}
use Rattle.c_lexer.specs.declared.state.Ended.{Ended}
use Rattle.c_lexer.specs.declared.state.Taken.{Taken}
use Rattle.c_lexer.specs.declared.state.Taken.TheVariants.{Go, Fault}
use Rattle.c_types.specs.Words.{is_letter, is_digit, is_word_byte}
use Rattle.c_lexer.specs.Bytes.{is_space, is_run_byte, is_character_byte}
use Rattle.c_lexer.specs.Numbers.{integer_of}
use Rattle.c_lexer.specs.Marks.{mark_text}
use Rattle.c_lexer.specs.MarkSteps.{mark_at, longer, is_slash, is_dot}
use Rattle.c_lexer.specs.Pieces.{Piece, Space, Word, Number, Char, Text, Sign, spelled, Fits, Longest}
use Rattle.c_lexer.specs.IncludeSteps.{is_directive}
use Rattle.c_lexer.specs.PieceSteps.{first_behind}
use Rattle.c_lexer.specs.Machine.{of_mark, begin, after_mark, escape_step, char_held, char_escape, in_text, text_escape, broken_at, end_directive, end_line, in_comment, step, finish, Lexed, Read, Faulty, go_on}
use Rattle.c_lexer.proofs.PieceLemmas.{ends, ends_is, Stands}
use Rattle.c_lexer.proofs.Reading.{add_all, scan, kept, read}

-- the place of the first byte that is no whole piece yet
abbrev floor : State → ℕ → ℕ
floor (Between first) at = at
floor (InWord s) at = s
floor (InNumber s power) at = s
floor (InMark s m) at = s
floor (Dots s) at = s
floor (CharOpened s) at = s
floor (CharEscape s e) at = s
floor (CharHeld s) at = s
floor (InText s) at = s
floor (TextEscape s e) at = s
floor (InDirective s end) at = s
floor (InComment s star) at = s
floor (InLine s end) at = s

abbrev Moves : Taken → ℕ → ℕ → Type 0
Moves (Go s e) low at = (low ≤ floor s at) × (floor s at ≤ at)
Moves (Fault reason place) low at = low ≤ place

move : (c : Bool) (x y : Taken) (low at : ℕ) → Moves x low at → Moves y low at → Moves (cond c x y) low at
move true x y low at h k = h
move false x y low at h k = k

here : (low at : ℕ) → low ≤ at → (low ≤ at) × (at ≤ at + 1)
here low at h = (omega arith, omega arith)

beyond : (low at : ℕ) → low ≤ at → (low ≤ at + 1) × (at + 1 ≤ at + 1)
beyond low at h = (omega arith, omega arith)

same : (s at : ℕ) → s ≤ at → (s ≤ s) × (s ≤ at + 1)
same s at h = (omega arith, omega arith)

self : (s : ℕ) → s ≤ s
self s = omega arith

mark_moves : (o : Option Mark) (e : Ended) (low at : ℕ) → low ≤ at → Moves (of_mark o e at) low (at + 1)
mark_moves None e low at h = h
mark_moves (Some m) e low at h = here low at h

begin_moves : (first : Bool) (e : Ended) (b low at : ℕ) → low ≤ at → Moves (begin first e b at) low (at + 1)
begin_moves first e b low at h =
    move (is_space b) _ _ low (at + 1) (beyond low at h)
    (move (is_letter b) _ _ low (at + 1) (here low at h)
    (move (is_digit b) _ _ low (at + 1) (here low at h)
    (move (b == 39) _ _ low (at + 1) (here low at h)
    (move (b == 34) _ _ low (at + 1) (here low at h)
    (move (b == 35) _ _ low (at + 1) (move first _ _ low (at + 1) (here low at h) h) (mark_moves (mark_at b) e low at h))))))

longer_moves : (s : ℕ) (o : Option Mark) (b at : ℕ) → s ≤ at → Moves (after_mark s o b at) s (at + 1)
longer_moves s None b at h = begin_moves false _ b s at h
longer_moves s (Some n) b at h = same s at h

char_held_moves : (s b at : ℕ) → s ≤ at → Moves (char_held s b at) s (at + 1)
char_held_moves s b at h = move (b == 39) _ _ s (at + 1) (beyond s at h) (self s)

char_moves : (s : ℕ) (p : Progress) (b at : ℕ) → s ≤ at → Moves (char_escape s p b at) s (at + 1)
char_moves s (More e) b at h = same s at h
char_moves s Whole b at h = same s at h
char_moves s Over b at h = char_held_moves s b at h
char_moves s Wrong b at h = self s

in_text_moves : (s b at : ℕ) → s ≤ at → Moves (in_text s b at) s (at + 1)
in_text_moves s b at h = move (b == 34) _ _ s (at + 1) (beyond s at h)
    (move (b == 92) _ _ s (at + 1) (same s at h) (move (b == 10) _ _ s (at + 1) (self s) (same s at h)))

text_moves : (s : ℕ) (p : Progress) (b at : ℕ) → s ≤ at → Moves (text_escape s p b at) s (at + 1)
text_moves s (More e) b at h = same s at h
text_moves s Whole b at h = same s at h
text_moves s Over b at h = in_text_moves s b at h
text_moves s Wrong b at h = self s

directive_moves : (s end at : ℕ) (w : List ℕ) (o : Option ℕ) → s ≤ at → Moves (end_directive s end w o) s (at + 1)
directive_moves s end at w None h = move (is_directive w) _ _ s (at + 1) (beyond s at h) (self s)
directive_moves s end at w (Some n) h = move (is_directive (take n w)) _ _ s (at + 1) (omega arith) (self s)

comment_moves : (s : ℕ) (c : Closing) (b at : ℕ) → s ≤ at → Moves (in_comment s c b at) s (at + 1)
comment_moves s Open b at h = same s at h
comment_moves s Starred b at h = move (b == 47) _ _ s (at + 1) (beyond s at h) (same s at h)
comment_moves s Continued b at h = same s at h
comment_moves s _ b at h = move (b == 47) _ _ s (at + 1) (self s) (same s at h)

line_moves : (s end at : ℕ) (o : Option ℕ) → s ≤ at → Moves (end_line s end o) s (at + 1)
line_moves s end at None h = beyond s at h
line_moves s end at (Some n) h = omega arith

step_moves : (t : List ℕ) (s : State) (b at : ℕ) → floor s at ≤ at → Moves (step t s b at) (floor s at) (at + 1)
step_moves t (Between first) b at h = begin_moves first _ b at at h
step_moves t (InWord s) b at h = move (is_word_byte b) _ _ s (at + 1) (same s at h) (begin_moves false _ b s at h)
step_moves t (InNumber s power) b at h =
    move (is_run_byte power b) _ _ s (at + 1) (same s at h) (move (is_some (integer_of (slice_range t s at))) _ _ s (at + 1)
    (begin_moves false _ b s at h) (self s))
step_moves t (InMark s m) b at h =
    move (is_slash m && b == 42) _ _ s (at + 1) (same s at h)
    (move (is_slash m && b == 47) _ _ s (at + 1) (same s at h)
    (move (is_dot m && b == 46) _ _ s (at + 1) (same s at h) (longer_moves s (longer m b) b at h)))
step_moves t (Dots s) b at h = move (b == 46) _ _ s (at + 1) (same s at h) (begin_moves false _ b s at h)
step_moves t (CharOpened s) b at h = move (b == 92) _ _ s (at + 1) (same s at h) (move (is_character_byte b) _ _ s (at + 1) (same s at h) (self s))
step_moves t (CharEscape s e) b at h = char_moves s (escape_step e b) b at h
step_moves t (CharHeld s) b at h = char_held_moves s b at h
step_moves t (InText s) b at h = in_text_moves s b at h
step_moves t (TextEscape s e) b at h = text_moves s (escape_step e b) b at h
step_moves t (InDirective s end) b at h = move (b == 10) _ _ s (at + 1)
    (directive_moves s end at (slice_range t (s + 1) at) (broken_at (slice_range t (s + 1) at)) h) (same s at h)
step_moves t (InComment s c) b at h = comment_moves s c b at h
step_moves t (InLine s end) b at h = move (b == 10) _ _ s (at + 1) (line_moves s end at (broken_at (slice_range t s at)) h) (same s at h)

finish_moves : (t : List ℕ) (s : State) (at : ℕ) → floor s at ≤ at → Moves (finish t s at) (floor s at) (at + 1)
finish_moves t (InComment s star) at h = self s
finish_moves t s at h = step_moves t s 10 at h

up : (a b c : ℕ) → a ≤ b → b ≤ c → a ≤ c
up a b c h k = omega arith

abbrev faulty : ℕ → ℕ → Lexed (List Ended)
faulty reason place = Faulty reason place

place_same : (low place k reason other : ℕ) → low ≤ place → faulty reason place ≡ faulty other k → low ≤ k
place_same low place k reason other h e = let y : place ≡ k = cc in omega arith

later : (ts : List ℕ) (t : List ℕ) (s : State) (at : ℕ) (out : List Ended) (reason k : ℕ) → floor s at ≤ at → scan t s at out ts ≡ Faulty reason k →
    floor s at ≤ k
later [] t s at out reason k f h = go (finish t s at) (finish_moves t s at f) h
  where
    go : (n : Taken) → Moves n (floor s at) (at + 1) → go_on add_all n out (λ z (more : List Ended). Read more) ≡ Faulty reason k → floor s at ≤ k
    go (Go x e) m g = absurd (let z = g in cc)
    go (Fault r place) m g = place_same (floor s at) place k r reason m g
later (b ∷ ts) t s at out reason k f h = go (step t s b at) (step_moves t s b at f) (λ x more i. later ts t x (at + 1) more reason k i) h
  where
    go : (n : Taken) → Moves n (floor s at) (at + 1) → ((x : State) (more : List Ended) → floor x (at + 1) ≤ at + 1 →
        scan t x (at + 1) more ts ≡ Faulty reason k → floor x (at + 1) ≤ k)
        → go_on add_all n out (λ z more. scan t z (at + 1) more ts) ≡ Faulty reason k → floor s at ≤ k
    go (Go x e) m g i = up _ _ _ m.0 (g x (add_all e out) m.1 i)
    go (Fault r place) m g i = place_same (floor s at) place k r reason m i

-- ---- a piece goes on by a byte at least

mark_length : (m : Mark) → 1 ≤ length (mark_text m)
mark_length Plus = omega arith
mark_length _ = omega arith

plus_more : (at n m : ℕ) → n ≡ at + m → 1 ≤ m → at < n
plus_more at n m h k = omega arith

-- it has a byte
pub has_byte : (first : Bool) (p : Piece) → Fits first p → 1 ≤ length (spelled p [])
has_byte first (Space b) f = omega arith
has_byte first (Word []) f = absurd cc
has_byte first (Word (b ∷ w)) f = omega arith
has_byte first (Number []) f = absurd (let x = f.0 in cc)
has_byte first (Number (b ∷ w)) f = omega arith
has_byte first (Char c) f = omega arith
has_byte first (Text cs) f = omega arith
has_byte first (Sign m) f = let h = mark_length m in let k = ap length (append-nil (mark_text m)) in omega arith
has_byte first _ f = omega arith

-- where a piece begins there is no fault
pub no_fault : (t : List ℕ) (first : Bool) (p : Piece) (r : List ℕ) → Fits first p → Longest p r → (at : ℕ) (out : List Ended) →
    Stands t at (spelled p r) → (reason : ℕ) → scan t (Between first) at out (spelled p r) ≡ Faulty reason at → ⊥
no_fault t first p r f l at out i reason h =
    let x = later r t (Between (first_behind first p)) (ends p at) (add_all (kept p at) out) reason at (self (ends p at))
    (sym (read t first p f r l at out i) ∙ h) in
    let y = plus_more at (ends p at) (length (spelled p [])) (ends_is p at) (has_byte first p f) in
    less _ _ x y
  where
    less : (a b : ℕ) → a ≤ b → b < a → ⊥
    less a b h k = omega arith
