-- What the end of the text leaves, and so what reading a whole text gives.
use Rattle.std.proofs.Common.{◌≡◌, ◌+◌, ℕ, Bool, true, false, ◌&&◌, ◌==◌, cond, List, [], ◌∷◌, ◌++◌, Option, Some, None, refl, ap, sym, ◌∙◌, subst}
use Rattle.std.specs.Prelude.{slice_range, is_some, take}
use Rattle.std.specs.List.{list_all}
use Rattle.c_lexer.specs.declared.mark.Mark.{Mark}
use Rattle.c_lexer.specs.declared.mark.Mark.TheVariants.{Dot}
use Rattle.c_lexer.specs.declared.state.State.{State}
use Rattle.c_lexer.specs.declared.state.State.TheVariants.{Between, InWord, InNumber, InMark, Dots, CharOpened, CharEscape, CharHeld, InText, TextEscape, InDirective, InComment, InLine}
use Rattle.c_lexer.specs.declared.state.Escape.{Escape}
use Rattle.c_lexer.specs.declared.state.Escape.TheVariants.{Backslash, OneOctal, TwoOctal, HexadecimalStart, InHexadecimal}
use Rattle.c_lexer.specs.declared.state.Ended.{Ended}
use Rattle.c_lexer.specs.declared.state.Taken.{Taken}
use Rattle.c_lexer.specs.declared.state.Taken.TheVariants.{Go, Fault}
use Rattle.c_types.specs.Words.{is_letter, is_digit, is_word_byte}
use Rattle.c_lexer.specs.Bytes.{is_run_byte}
use Rattle.c_lexer.specs.Numbers.{continues, integer_of}
use Rattle.c_lexer.specs.Marks.{mark_text}
use Rattle.c_lexer.specs.MarkSteps.{longer, is_slash, is_dot}
use Rattle.c_lexer.specs.Pieces.{Piece, Word, Number, Sign, Directive, Line, spelled, text, Fits, Longest}
use Rattle.c_lexer.specs.IncludeSteps.{is_directive}
use Rattle.c_lexer.specs.PieceSteps.{first_behind_all, Good}
use Rattle.c_lexer.specs.Machine.{after_mark, escape_step, char_escape, text_escape, broken_at, end_directive, end_line, step, finish}
use Rattle.c_lexer.proofs.IncludeLemmas.{directive_decided}
use Rattle.c_lexer.proofs.MarkLemmas.{mark_last}
use Rattle.c_lexer.specs.Machine.{Lexed, Read, Faulty, go_on, run}
use Rattle.c_lexer.proofs.NumberLemmas.{run_continues}
use Rattle.c_lexer.proofs.Lines.{has_no_newline}
use Rattle.c_lexer.proofs.Reading.{add_all, scan, two_on}
use Rattle.c_lexer.proofs.Fronts.{Front, onward, text_more, good_more, Part, Ready, StuckAt, Goes, stuck_part, part_slice, part_slice_behind}
use Rattle.c_lexer.proofs.PieceLemmas.{Stands}
use Rattle.c_lexer.proofs.Growth.{digit_fault, dot_doubled, line_is, line_stuck, directive_stuck, whole_refused, broken_refused, goes}

-- all these bytes are pieces
abbrev pub Spelled : Bool → List ℕ → Type 0
Spelled first x = (ps : List Piece) × (x ≡ text ps []) × Good first ps []

abbrev Closes : Taken → Front → Type 0
Closes (Go s e) P = Spelled P.first (P.bytes [])
Closes (Fault reason place) P = StuckAt P.base P.first reason place (P.bytes [])

closing : (c : Bool) (n m : Taken) (P : Front) → (c ≡ true → Closes n P) → (c ≡ false → Closes m P) → Closes (cond c n m) P
closing true n m P h k = h refl
closing false n m P h k = k refl

closed : (p : Piece) (s at : ℕ) (P : Front) (ps : List Piece) (w : List ℕ) → Part s at ps w P → spelled p [] ≡ w ++ [] →
    Fits (first_behind_all P.first ps) p → Longest p [] → Spelled P.first (P.bytes [])
closed p s at P ps w i e f l = (
  ps ++ p ∷ [],
  i.0 [] ∙ ap (text ps) (sym e) ∙ sym (text_more ps p []),
  good_more P.first ps p [] (subst (Good P.first ps) (sym e) (i.1 [])) f l,
)

mark_closes : (s at : ℕ) (o : Option Mark) (P : Front) → Spelled P.first (P.bytes []) → Closes (after_mark s o 10 at) P
mark_closes s at None P h = h
mark_closes s at (Some n) P h = h

char_newline : (s : ℕ) (e : Escape) (at : ℕ) → char_escape s (escape_step e 10) 10 at ≡ Fault 4 s
char_newline s Backslash at = refl
char_newline s (OneOctal a) at = refl
char_newline s (TwoOctal a b) at = refl
char_newline s HexadecimalStart at = refl
char_newline s (InHexadecimal v) at = refl

text_newline : (s : ℕ) (e : Escape) (at : ℕ) → text_escape s (escape_step e 10) 10 at ≡ Fault 4 s
text_newline s Backslash at = refl
text_newline s (OneOctal a) at = refl
text_newline s (TwoOctal a b) at = refl
text_newline s HexadecimalStart at = refl
text_newline s (InHexadecimal v) at = refl

both : (a b : Bool) → a ≡ true → b ≡ true → (a && b) ≡ true
both a b h k = rw (h, k)

run_newline : (power : Bool) → is_run_byte power 10 ≡ false
run_newline true = refl
run_newline false = refl

line_closes : (s end at : ℕ) (P : Front) (ps : List Piece) (w : List ℕ) → Part s at ps (47 ∷ 47 ∷ w) P → has_no_newline w ≡ true → (o : Option ℕ) →
    broken_at w ≡ o → Closes (end_line s end (two_on o)) P
line_closes s end at P ps w i none None k = closed (Line w) s at P ps (47 ∷ 47 ∷ w) i refl tt (line_is w [] tt none k)
line_closes s end at P ps w i none (Some n) k = line_stuck s at P ps w n i none k [] tt

directive_closes : (s end at : ℕ) (P : Front) (ps : List Piece) (w : List ℕ) → Part s at ps (35 ∷ w) P → first_behind_all P.first ps ≡ true →
    has_no_newline w ≡ true → (o : Option ℕ) → broken_at w ≡ o → Closes (end_directive s end w o) P
directive_closes s end at P ps w i first none None k =
    closing (is_directive w) _ _ _ (λ g. closed (Directive w) s at P ps (35 ∷ w) i refl (first, (directive_decided w).0 g) (line_is w [] tt none k))
    (λ g. whole_refused s at P ps w i first none k g [] tt)
directive_closes s end at P ps w i first none (Some n) k =
    closing (is_directive (take n w)) _ _ _ (λ g. directive_stuck s at P ps w n i first none k g [] tt)
    (λ g. broken_refused s at P ps w n i first none k g [] tt)

closes_at_end : (t : List ℕ) (s : State) (at : ℕ) (P : Front) → Ready s at P → Stands t P.base (P.bytes []) → Closes (finish t s at) P
closes_at_end t (Between first) at P (ps, i, f) e = (ps, i.0 [], i.1 [])
closes_at_end t (InWord s) at P (ps, x, w, i, letter, each) e = closed (Word (x ∷ w)) s at P ps (x ∷ w) i refl
    (both (is_letter x) (list_all is_word_byte w) letter each) tt
closes_at_end t (InNumber s power) at P (ps, x, w, i, digit, run, last) e =
    closing (is_run_byte power 10) _ _ _ (λ h. absurd (let y = run_newline power in let z : true ≡ false = sym h ∙ y in cc))
    (λ h. closing (is_some (integer_of (slice_range t s at))) _ _ _
    (λ g. closed (Number (x ∷ w)) s at P ps (x ∷ w) i refl (
      both (is_digit x) (continues (x ∷ w)) digit (sym (run_continues x w digit) ∙ run),
      ap (λ (v : List ℕ). is_some (integer_of v)) (sym (part_slice t s at ps (x ∷ w) P [] i e)) ∙ g,
    ) tt)
    (λ g. stuck_part s at ps x w P 5 i (λ q. digit_fault _ x (w ++ q) digit) []))
closes_at_end t (InMark s m) at P (ps, i) e =
    let whole = closed (Sign m) s at P ps (mark_text m) i refl tt (mark_last m, (λ q. tt)) in
    closing (is_slash m && 10 == 42) _ _ _ (λ h. whole) (λ h. closing (is_slash m && 10 == 47) _ _ _ (λ g. whole)
    (λ g. closing (is_dot m && 10 == 46) _ _ _ (λ d. whole) (λ d. mark_closes s at (longer m 10) _ whole)))
closes_at_end t (Dots s) at P (ps, i) e =
    let qs = ps ++ Sign Dot ∷ [] in (
      qs ++ Sign Dot ∷ [],
      i.0 [] ∙ sym (text_more ps (Sign Dot) (46 ∷ [])) ∙ sym (text_more qs (Sign Dot) []),
      good_more P.first qs (Sign Dot) [] (good_more P.first ps (Sign Dot) (46 ∷ []) (i.1 []) tt (dot_doubled [] tt)) tt (mark_last Dot, (λ q. tt)),
    )
closes_at_end t (CharOpened s) at P (ps, i) e = stuck_part s at ps 39 [] P 4 i (λ q. (refl, refl)) []
closes_at_end t (CharEscape s x) at P (ps, w, i, h) e = subst (λ (n : Taken). Closes n P) (sym (char_newline s x at))
    (stuck_part s at ps 39 w P 4 i (λ q. (refl, refl)) [])
closes_at_end t (CharHeld s) at P (ps, c, w, i, k, f) e = stuck_part s at ps 39 w P 4 i (λ q. (refl, refl)) []
closes_at_end t (InText s) at P (ps, cs, v, i, k, f) e = stuck_part s at ps 34 v P 4 i (λ q. (refl, refl)) []
closes_at_end t (TextEscape s x) at P (ps, cs, v, w, i, k, f, h) e = subst (λ (n : Taken). Closes n P) (sym (text_newline s x at))
    (stuck_part s at ps 34 (v ++ w) P 4 i (λ q. (refl, refl)) [])
closes_at_end t (InDirective s end) at P (ps, w, i, first, none) e =
    subst (λ (v : List ℕ). Closes (end_directive s end v (broken_at v)) P) (sym (part_slice_behind t s at ps 35 w P [] i e))
    (directive_closes s end at P ps w i first none (broken_at w) refl)
closes_at_end t (InComment s star) at P (ps, w, i, o) e = stuck_part s at ps 47 (42 ∷ w) P 3 i (λ q. (refl, refl)) []
closes_at_end t (InLine s end) at P (ps, w, i, none) e =
    subst (λ (v : List ℕ). Closes (end_line s end (broken_at v)) P) (sym (part_slice t s at ps (47 ∷ 47 ∷ w) P [] i e))
    (line_closes s end at P ps w i none (broken_at w) refl)

-- ---- whole texts

abbrev pub Outcome : ℕ → Bool → Lexed (List Ended) → List ℕ → Type 0
Outcome base first (Read z) x = Spelled first x
Outcome base first (Faulty reason place) x = StuckAt base first reason place x

outcome : (ts : List ℕ) (t : List ℕ) (s : State) (at : ℕ) (P : Front) → Ready s at P → Stands t P.base (P.bytes ts) → (out : List Ended) →
    Outcome P.base P.first (scan t s at out ts) (P.bytes ts)
outcome [] t s at P i e out = go (finish t s at) (closes_at_end t s at P i e)
  where
    go : (n : Taken) → Closes n P → Outcome P.base P.first (go_on add_all n out (λ z (more : List Ended). Read more)) (P.bytes [])
    go (Go z x) h = h
    go (Fault reason place) h = h
outcome (b ∷ ts) t s at P i e out = go (step t s b at) (goes t s at P i b ts e) (λ z j more. outcome ts t z (at + 1) (onward P b) j e more)
  where
    go : (n : Taken) → Goes n (at + 1) (onward P b) → ((z : State) → Ready z (at + 1) (onward P b) → (more : List Ended) →
        Outcome P.base P.first (scan t z (at + 1) more ts) (P.bytes (b ∷ ts)))
        → Outcome P.base P.first (go_on add_all n out (λ z more. scan t z (at + 1) more ts)) (P.bytes (b ∷ ts))
    go (Go z x) h f = f z h (add_all x out)
    go (Fault reason place) h f = h ts

-- what these bytes of a text are, by what reading them gives
pub whole : (t : List ℕ) (base : ℕ) (first : Bool) (x : List ℕ) → Stands t base x → (out : List Ended) →
    Outcome base first (scan t (Between first) base out x) x
whole t base first x e out = outcome x t (Between first) base (record { base = base; first = first; bytes = λ r. r })
    ([], ((λ r. refl), (λ r. tt), refl, refl), refl) e out
