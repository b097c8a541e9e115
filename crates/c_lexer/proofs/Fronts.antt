-- What a state says of the bytes read so far.
use Rattle.std.proofs.Common.{◌≡◌, ◌⊎◌, inl, ◌+◌, ◌*◌, ℕ, Bool, true, false, ◌==◌, nat_le, cond, List, [], ◌∷◌, ◌++◌, refl, arith, ap, sym, ◌∙◌, subst, append_assoc, zero-add}
use Rattle.std.specs.Prelude.{slice_range}
use Rattle.std.specs.List.{list_all}
use Rattle.std.proofs.lemmas.Bool.{eqb-true}
use Rattle.std.proofs.lemmas.Bool.Decides.{nat_tests}
use Rattle.c_lexer.specs.declared.state.State.{State}
use Rattle.c_lexer.specs.declared.state.State.TheVariants.{Between, InWord, InNumber, InMark, Dots, CharOpened, CharEscape, CharHeld, InText, TextEscape, InDirective, InComment, InLine}
use Rattle.c_lexer.specs.declared.state.Escape.{Escape}
use Rattle.c_lexer.specs.declared.state.Escape.TheVariants.{Backslash, OneOctal, TwoOctal, HexadecimalStart, InHexadecimal}
use Rattle.c_lexer.specs.declared.state.Progress.{Progress}
use Rattle.c_lexer.specs.declared.state.Progress.TheVariants.{More, Whole, Over, Wrong}
use Rattle.c_lexer.specs.declared.state.Taken.{Taken}
use Rattle.c_lexer.specs.declared.state.Taken.TheVariants.{Go, Fault}
use Rattle.c_types.specs.Words.{is_letter, is_digit, is_word_byte}
use Rattle.c_lexer.specs.Bytes.{is_octal_digit, is_hexadecimal_digit, is_simple_escape, is_text_byte, is_character_byte, digit_value, NotFirst}
use Rattle.c_lexer.specs.NumberSteps.{continues_from, power_from, value_from}
use Rattle.c_lexer.specs.Characters.{Character, Simple, OneDigit, TwoDigits, ThreeDigits, Hexadecimal, written, written_all, three_digits, IsCharacter, TakesDigits, AreCharacters}
use Rattle.c_lexer.specs.Marks.{mark_text}
use Rattle.c_lexer.specs.Pieces.{Piece, spelled, text, own_line, Fits, Longest}
use Rattle.c_lexer.specs.IncludeSteps.{is_directive}
use Rattle.c_lexer.specs.PieceSteps.{closes, first_behind, first_behind_all, Good}
use Rattle.c_lexer.specs.Faults.{reason_of, reach_of, HasNoPiece}
use Rattle.c_lexer.specs.Machine.{escape_step}
use Rattle.c_lexer.proofs.PieceLemmas.{past, ends, ends_all, Stands, stands_along, stands_text, stands_past, slice_is}
use Rattle.c_lexer.proofs.NumberLemmas.{value_is}
use Rattle.c_lexer.proofs.Truths.{both_true}
use Rattle.c_lexer.proofs.Lines.{has_no_newline}
use Rattle.c_lexer.proofs.Closings.{closes_from}

-- from where the pieces are counted, whether only white space stands before on that line, and the
-- bytes so far, in front of what follows
pub record Front : Type 0 where
  pub base : ℕ
  pub first : Bool
  pub bytes : List ℕ → List ℕ

-- with this byte behind them
abbrev pub onward : Front → ℕ → Front
onward P b = record { base = P.base; first = P.first; bytes = λ r. P.bytes (b ∷ r) }

-- ---- pieces at the end

pub text_more : (ps : List Piece) (p : Piece) (r : List ℕ) → text (ps ++ p ∷ []) r ≡ text ps (spelled p r)
text_more [] p r = refl
text_more (q ∷ ps) p r = ap (spelled q) (text_more ps p r)

pub good_more : (first : Bool) (ps : List Piece) (p : Piece) (r : List ℕ) → Good first ps (spelled p r) → Fits (first_behind_all first ps) p →
    Longest p r → Good first (ps ++ p ∷ []) r
good_more first [] p r g f l = (f, l, tt)
good_more first (q ∷ ps) p r g f l =
    (g.0, subst (λ (t : List ℕ). Longest q t) (sym (text_more ps p r)) g.1, good_more (first_behind first q) ps p r g.2 f l)

pub ends_more : (ps : List Piece) (p : Piece) (at : ℕ) → ends_all (ps ++ p ∷ []) at ≡ ends p (ends_all ps at)
ends_more [] p at = refl
ends_more (q ∷ ps) p at = ends_more ps p (ends q at)

pub first_more : (ps : List Piece) (p : Piece) (first : Bool) → first_behind_all first (ps ++ p ∷ []) ≡ first_behind (first_behind_all first ps) p
first_more [] p first = refl
first_more (q ∷ ps) p first = first_more ps p (first_behind first q)

pub all_more : (f : ℕ → Bool) (w : List ℕ) (b : ℕ) → list_all f w ≡ true → f b ≡ true → list_all f (w ++ b ∷ []) ≡ true
all_more f [] b e h = rw h
all_more f (x ∷ w) b e h = let q = both_true (f x) (list_all f w) e in let y = q.0 in let z = all_more f w b q.1 h in rw (y, z)

pub snoc : (w : List ℕ) (b : ℕ) (r : List ℕ) → (w ++ b ∷ []) ++ r ≡ w ++ b ∷ r
snoc w b r = append_assoc w (b ∷ []) r

pub past_snoc : (w : List ℕ) (s b : ℕ) → past s (w ++ b ∷ []) ≡ past s w + 1
past_snoc [] s b = refl
past_snoc (x ∷ w) s b = past_snoc w (s + 1) b

-- ---- escapes

-- these bytes are an escape that has begun
abbrev pub HasRead : Escape → List ℕ → Type 0
HasRead Backslash w = w ≡ 92 ∷ []
HasRead (OneOctal a) w = (w ≡ 92 ∷ a ∷ []) × (is_octal_digit a ≡ true)
HasRead (TwoOctal a b) w = (w ≡ 92 ∷ a ∷ b ∷ []) × (is_octal_digit a ≡ true) × (is_octal_digit b ≡ true)
HasRead HexadecimalStart w = w ≡ 92 ∷ 120 ∷ []
HasRead (InHexadecimal v) w = (a : ℕ) × (ds : List ℕ) × (w ≡ 92 ∷ 120 ∷ a ∷ ds) × (list_all is_hexadecimal_digit (a ∷ ds) ≡ true) ×
    (value_from 16 0 (a ∷ ds) ≡ v) × (nat_le v 255 ≡ true)

-- these bytes are this escape, in front of what may follow so
pub record IsEscape (c : Character) (w : List ℕ) (Follows : List ℕ → Type 0) : Type 0 where
  pub bytes : (r : List ℕ) → written c r ≡ w ++ r
  pub is : (plain : ℕ → Bool) → IsCharacter plain c
  pub digits : (r : List ℕ) → Follows r → TakesDigits c r

abbrev pub Anything : List ℕ → Type 0
Anything r = Unit {0}

-- what follows begins with this byte
abbrev pub BeginsWith : ℕ → List ℕ → Type 0
BeginsWith b r = (q : List ℕ) × (r ≡ b ∷ q)

abbrev pub Progresses : Progress → ℕ → List ℕ → Type 0
Progresses (More e) b w = HasRead e (w ++ b ∷ [])
Progresses Whole b w = (c : Character) × IsEscape c (w ++ b ∷ []) Anything
Progresses Over b w = (c : Character) × IsEscape c w (BeginsWith b)
Progresses Wrong b w = Unit {0}

choose : (c : Bool) (x y : Progress) (b : ℕ) (w : List ℕ) → (c ≡ true → Progresses x b w) → (c ≡ false → Progresses y b w) → Progresses (cond c x y) b w
choose true x y b w h k = h refl
choose false x y b w h k = k refl

along : (w v : List ℕ) (b : ℕ) → w ≡ v → w ++ b ∷ [] ≡ v ++ b ∷ []
along w v b e = ap (λ (x : List ℕ). x ++ b ∷ []) e

value_snoc : (ds : List ℕ) (v b : ℕ) → value_from 16 v (ds ++ b ∷ []) ≡ value_from 16 v ds * 16 + digit_value b
value_snoc [] v b = refl
value_snoc (d ∷ ds) v b = value_snoc ds (v * 16 + digit_value d) b

not_octal : (b : ℕ) → is_octal_digit b ≡ false → (r : List ℕ) → BeginsWith b r → NotFirst is_octal_digit r
not_octal b h r (q, e) = subst (NotFirst is_octal_digit) (sym e) h

not_hexadecimal : (b : ℕ) → is_hexadecimal_digit b ≡ false → (r : List ℕ) → BeginsWith b r → NotFirst is_hexadecimal_digit r
not_hexadecimal b h r (q, e) = subst (NotFirst is_hexadecimal_digit) (sym e) h

bytes_of : (c : Character) (u w : List ℕ) → w ≡ u → ((r : List ℕ) → written c r ≡ u ++ r) → (r : List ℕ) → written c r ≡ w ++ r
bytes_of c u w e h r = h r ∙ ap (λ (x : List ℕ). x ++ r) (sym e)

-- by the three ranges of hexadecimal digits
digit_small : (b : ℕ) → is_hexadecimal_digit b ≡ true → nat_le (digit_value b) 255 ≡ true
digit_small b h = grind (arith, nat_tests)

pub escape_progresses : (e : Escape) (w : List ℕ) → HasRead e w → (b : ℕ) → Progresses (escape_step e b) b w
escape_progresses Backslash w h b =
    choose (is_simple_escape b) _ _ b w (λ s.
    (Simple b, record { bytes = bytes_of (Simple b) (92 ∷ b ∷ []) _ (along w (92 ∷ []) b h) (λ r. refl); is = λ plain. s; digits = λ r f. tt }))
    (λ s. choose (is_octal_digit b) _ _ b w (λ o. (along w (92 ∷ []) b h, o))
    (λ o. choose (b == 120) _ _ b w (λ x. along w (92 ∷ []) b h ∙ ap (λ (i : ℕ). 92 ∷ i ∷ []) (eqb-true b 120 x)) (λ x. tt)))
escape_progresses (OneOctal a) w h b =
    choose (is_octal_digit b) _ _ b w (λ o. (along w (92 ∷ a ∷ []) b h.0, h.1, o))
    (λ o. (OneDigit a, record { bytes = bytes_of (OneDigit a) (92 ∷ a ∷ []) w h.0 (λ r. refl); is = λ plain. h.1; digits = not_octal b o }))
escape_progresses (TwoOctal a d) w h b =
    choose (is_octal_digit b) _ _ b w
    (λ o. choose (nat_le (three_digits a d b) 255) _ _ b w
    (λ v. (
      ThreeDigits a d b,
      record {
        bytes = bytes_of (ThreeDigits a d b) (92 ∷ a ∷ d ∷ b ∷ []) _ (along w (92 ∷ a ∷ d ∷ []) b h.0) (λ r. refl);
        is = λ plain. (h.1, h.2, o, v);
        digits = λ r f. tt;
      },
    )) (λ v. tt))
    (λ o. (TwoDigits a d, record { bytes = bytes_of (TwoDigits a d) (92 ∷ a ∷ d ∷ []) w h.0 (λ r. refl); is = λ plain. (h.1, h.2); digits = not_octal b o }))
escape_progresses HexadecimalStart w h b =
    choose (is_hexadecimal_digit b) _ _ b w
    (λ x. (b, [], along w (92 ∷ 120 ∷ []) b h, all_more is_hexadecimal_digit [] b refl x, zero-add (digit_value b), digit_small b x)) (λ x. tt)
escape_progresses (InHexadecimal v) w (a, ds, e, all, value, low) b =
    choose (is_hexadecimal_digit b) _ _ b w
    (λ x. choose (nat_le (v * 16 + digit_value b) 255) _ _ b w
    (λ y. (
      a,
      ds ++ b ∷ [],
      along w (92 ∷ 120 ∷ a ∷ ds) b e,
      all_more is_hexadecimal_digit (a ∷ ds) b all x,
      value_snoc (a ∷ ds) 0 b ∙
          ap (λ (n : ℕ). n * 16 + digit_value b) value,
      y,
    )) (λ y. tt))
    (λ x. (
      Hexadecimal a ds,
      record {
        bytes = bytes_of (Hexadecimal a ds) (92 ∷ 120 ∷ a ∷ ds) w e (λ r. refl);
        is = λ plain. (all, ap (λ (n : ℕ). nat_le n 255) (sym (value_is 16 (a ∷ ds)) ∙ value) ∙ low);
        digits = not_hexadecimal b x;
      },
    ))

-- ---- characters at the end

pub written_more : (cs : List Character) (c : Character) (r : List ℕ) → written_all (cs ++ c ∷ []) r ≡ written_all cs (written c r)
written_more [] c r = refl
written_more (d ∷ cs) c r = ap (written d) (written_more cs c r)

pub characters_more : (cs : List Character) (c : Character) (r : List ℕ) → AreCharacters is_text_byte cs (written c r) → IsCharacter is_text_byte c →
    TakesDigits c r → AreCharacters is_text_byte (cs ++ c ∷ []) r
characters_more [] c r h i d = (i, d, tt)
characters_more (x ∷ cs) c r h i d =
    (h.0, subst (λ (t : List ℕ). TakesDigits x t) (sym (written_more cs c r)) h.1, characters_more cs c r h.2 i d)

-- ---- states

-- these pieces up to the place s, and behind them these bytes, up to the place at
abbrev pub Part : ℕ → ℕ → List Piece → List ℕ → Front → Type 0
Part s at ps w P = ((r : List ℕ) → P.bytes r ≡ text ps (w ++ r)) × ((r : List ℕ) → Good P.first ps (w ++ r)) × (ends_all ps P.base ≡ s) × (past s w ≡ at)

abbrev pub Ready : State → ℕ → Front → Type 0
Ready (Between first) at P = (ps : List Piece) × Part at at ps [] P × (first_behind_all P.first ps ≡ first)
Ready (InWord s) at P = (ps : List Piece) × (b : ℕ) × (w : List ℕ) × Part s at ps (b ∷ w) P × (is_letter b ≡ true) × (list_all is_word_byte w ≡ true)
Ready (InNumber s power) at P = (ps : List Piece) × (b : ℕ) × (w : List ℕ) × Part s at ps (b ∷ w) P × (is_digit b ≡ true) ×
    (continues_from false w ≡ true) × (power_from false w ≡ power)
Ready (InMark s m) at P = (ps : List Piece) × Part s at ps (mark_text m) P
Ready (Dots s) at P = (ps : List Piece) × Part s at ps (46 ∷ 46 ∷ []) P
Ready (CharOpened s) at P = (ps : List Piece) × Part s at ps (39 ∷ []) P
Ready (CharEscape s e) at P = (ps : List Piece) × (w : List ℕ) × Part s at ps (39 ∷ w) P × HasRead e w
Ready (CharHeld s) at P = (ps : List Piece) × (c : Character) × (w : List ℕ) × Part s at ps (39 ∷ w) P × ((r : List ℕ) → written c r ≡ w ++ r) ×
    IsCharacter is_character_byte c
Ready (InText s) at P = (ps : List Piece) × (cs : List Character) × (v : List ℕ) × Part s at ps (34 ∷ v) P ×
    ((r : List ℕ) → written_all cs r ≡ v ++ r) × ((r : List ℕ) → AreCharacters is_text_byte cs r)
Ready (TextEscape s e) at P =
    (ps : List Piece) × (cs : List Character) × (v : List ℕ) × (w : List ℕ) × Part s at ps (34 ∷ v ++ w) P ×
    ((r : List ℕ) → written_all cs r ≡ v ++ r) × ((r : List ℕ) → AreCharacters is_text_byte cs (w ++ r)) × HasRead e w
Ready (InDirective s end) at P = (ps : List Piece) × (w : List ℕ) × Part s at ps (35 ∷ w) P × (first_behind_all P.first ps ≡ true) × (has_no_newline w ≡ true)
Ready (InComment s c) at P = (ps : List Piece) × (w : List ℕ) × Part s at ps (47 ∷ 42 ∷ w) P × ((v : List ℕ) → closes (w ++ v) ≡ closes_from c v)
Ready (InLine s end) at P = (ps : List Piece) × (w : List ℕ) × Part s at ps (47 ∷ 47 ∷ w) P × (has_no_newline w ≡ true)

-- why no piece begins with this byte in front of these, and how far behind it the fault lies, as the code finds it
abbrev pub reason_at : Bool → ℕ → List ℕ → ℕ
reason_at first b r = reason_of first (is_directive (own_line r)) b r

abbrev pub reach_at : Bool → ℕ → List ℕ → ℕ
reach_at first b r = reach_of first (is_directive (own_line r)) b r

-- pieces reach up to a byte at this place, for which this is the reason
pub record StuckAt (base : ℕ) (first : Bool) (reason place : ℕ) (t : List ℕ) : Type 0 where
  pub pieces : List Piece
  pub byte : ℕ
  pub rest : List ℕ
  pub spells : t ≡ text pieces (byte ∷ rest)
  pub good : Good first pieces (byte ∷ rest)
  pub place_is : ends_all pieces base + reach_at (first_behind_all first pieces) byte rest ≡ place
  pub reason_is : reason_at (first_behind_all first pieces) byte rest ≡ reason
  pub none : (reach_at (first_behind_all first pieces) byte rest ≡ 0) ⊎ HasNoPiece (first_behind_all first pieces) (byte ∷ rest)

-- at this byte, in front of these, stands a fault for this reason
abbrev pub IsFaulty : Bool → ℕ → List ℕ → ℕ → Type 0
IsFaulty first b r reason = (reason_at first b r ≡ reason) × (reach_at first b r ≡ 0)

abbrev pub Goes : Taken → ℕ → Front → Type 0
Goes (Go s ended) at P = Ready s at P
Goes (Fault reason place) at P = (r : List ℕ) → StuckAt P.base P.first reason place (P.bytes r)

pub branch : (c : Bool) (x y : Taken) (at : ℕ) (P : Front) → (c ≡ true → Goes x at P) → (c ≡ false → Goes y at P) → Goes (cond c x y) at P
branch true x y at P h k = h refl
branch false x y at P h k = k refl

-- one more byte of the same
pub grown : (s at : ℕ) (ps : List Piece) (w : List ℕ) (b : ℕ) (P : Front) → Part s at ps w P → Part s (at + 1) ps (w ++ b ∷ []) (onward P b)
grown s at ps w b P i = (
  (λ r. i.0 (b ∷ r) ∙ ap (text ps) (sym (snoc w b r))),
  (λ r. subst (λ (x : List ℕ). Good P.first ps x) (sym (snoc w b r)) (i.1 (b ∷ r))),
  i.2,
  past_snoc w s b ∙ ap (λ (n : ℕ). n + 1) i.3,
)

-- the same bytes, otherwise written
pub part_along : (s at : ℕ) (ps : List Piece) (v w : List ℕ) (P : Front) → v ≡ w → Part s at ps v P → Part s at ps w P
part_along s at ps v w P e i = subst (λ (x : List ℕ). Part s at ps x P) e i

no_further : (m n s : ℕ) → m ≡ s → n ≡ 0 → m + n ≡ s
no_further m n s h k = omega arith

pub stuck_before : (s at : ℕ) (ps : List Piece) (x : ℕ) (w : List ℕ) (P : Front) (reason : ℕ) → Part s at ps (x ∷ w) P → (r : List ℕ) →
    IsFaulty (first_behind_all P.first ps) x (w ++ r) reason → StuckAt P.base P.first reason s (P.bytes r)
stuck_before s at ps x w P reason i r h =
    record { pieces = ps; byte = x; rest = w ++ r; spells = i.0 r; good = i.1 r; place_is = no_further _ _ s i.2 h.1; reason_is = h.0; none = inl h.1 }

pub stuck_part : (s at : ℕ) (ps : List Piece) (x : ℕ) (w : List ℕ) (P : Front) (reason : ℕ) → Part s at ps (x ∷ w) P →
    ((r : List ℕ) → IsFaulty (first_behind_all P.first ps) x (w ++ r) reason) → (r : List ℕ) → StuckAt P.base P.first reason s (P.bytes r)
stuck_part s at ps x w P reason i h r = stuck_before s at ps x w P reason i r (h r)

-- the bytes of a part are a slice of the text
pub part_slice : (t : List ℕ) (s at : ℕ) (ps : List Piece) (w : List ℕ) (P : Front) (r : List ℕ) → Part s at ps w P → Stands t P.base (P.bytes r) →
    slice_range t s at ≡ w
part_slice t s at ps w P r i e =
    let here : Stands t s (w ++ r) = subst (λ (n : ℕ). Stands t n (w ++ r)) i.2 (stands_text t ps P.base (w ++ r) (stands_along t P.base _ _ (i.0 r) e)) in
    ap (slice_range t s) (sym i.3) ∙ slice_is t s w r here

pub part_slice_behind : (t : List ℕ) (s at : ℕ) (ps : List Piece) (x : ℕ) (w : List ℕ) (P : Front) (r : List ℕ) → Part s at ps (x ∷ w) P →
    Stands t P.base (P.bytes r) → slice_range t (s + 1) at ≡ w
part_slice_behind t s at ps x w P r i e =
    let here : Stands t s (x ∷ w ++ r) = subst (λ (n : ℕ). Stands t n (x ∷ w ++ r)) i.2
    (stands_text t ps P.base (x ∷ w ++ r) (stands_along t P.base _ _ (i.0 r) e)) in
    ap (slice_range t (s + 1)) (sym i.3) ∙ slice_is t (s + 1) w r (stands_past t s (x ∷ []) (w ++ r) here)
