-- What each byte does to what a state says.
use Rattle.std.proofs.Common.{◌≡◌, inr, ◌+◌, ℕ, Bool, true, false, not, ◌&&◌, ◌||◌, ◌==◌, cond, List, [], ◌∷◌, ◌++◌, length, Option, Some, None, refl, arith, ap, sym, ◌∙◌, subst, append_assoc, take}
use Rattle.std.specs.Prelude.{slice_range, is_some}
use Rattle.std.specs.List.{list_all}
use Rattle.std.proofs.lemmas.Bool.{eqb-true, or_from, and_from}
use Rattle.std.proofs.lemmas.List.{take_at}
use Rattle.std.proofs.lemmas.Bool.Decides.{nat_tests}
use Rattle.c_lexer.specs.declared.mark.Mark.{Mark}
use Rattle.c_lexer.specs.declared.mark.Mark.TheVariants.{Slash, Dot}
use Rattle.c_lexer.specs.declared.state.State.{State}
use Rattle.c_lexer.specs.declared.state.State.TheVariants.{Between, InWord, InNumber, InMark, Dots, CharOpened, CharEscape, CharHeld, InText, TextEscape, InDirective, InComment, InLine}
use Rattle.c_lexer.specs.declared.state.Closing.{Closing}
use Rattle.c_lexer.specs.declared.state.Closing.TheVariants as closing
use Rattle.c_lexer.specs.declared.state.Progress.{Progress}
use Rattle.c_lexer.specs.declared.state.Progress.TheVariants.{More, Whole, Over, Wrong}
use Rattle.c_lexer.specs.declared.state.Ended.{Ended}
use Rattle.c_lexer.specs.declared.state.Ended.TheVariants as ended
use Rattle.c_types.specs.Words.{is_letter, is_digit, is_word_byte}
use Rattle.c_lexer.specs.Bytes.{is_space, is_newline, is_power, is_run_byte, is_text_byte, is_character_byte, NotFirst}
use Rattle.c_lexer.specs.Numbers.{continues, integer_of}
use Rattle.c_lexer.specs.NumberSteps.{continues_from, power_from}
use Rattle.c_lexer.specs.Characters.{Character, Plain, written, written_all, IsCharacter, AreCharacters}
use Rattle.c_lexer.specs.Marks.{mark_text}
use Rattle.c_lexer.specs.MarkSteps.{mark_at, longer, is_slash, is_dot}
use Rattle.c_lexer.specs.Pieces.{Piece, Space, Word, Number, Char, Text, Sign, Directive, Line, Block, spelled, text, own_line, NewlineNext, Fits, IsLine, Longest}
use Rattle.c_lexer.specs.IncludeSteps.{is_directive}
use Rattle.c_lexer.specs.PieceSteps.{closes, first_behind, first_behind_all, Good}
use Rattle.c_lexer.specs.Machine.{begin, of_mark, after_mark, escape_step, char_held, char_escape, in_text, text_escape, broken_at, end_directive, end_line, closing_step, in_comment, step}
use Rattle.c_lexer.proofs.IncludeLemmas.{directive_decided}
use Rattle.c_lexer.proofs.MarkLemmas.{longer_text, mark_first, longest_mark, no_dots}
use Rattle.c_lexer.proofs.PieceLemmas.{Stands, past, character_ends, characters_end, ends, ends_all}
use Rattle.c_lexer.proofs.NumberLemmas.{run_continues, run_power}
use Rattle.c_lexer.proofs.Truths.{both_true}
use Rattle.c_lexer.proofs.Lines.{has_no_newline, runs_to_newline, own_whole, broken}
use Rattle.c_lexer.proofs.Pieceless.{no_comment, no_directive}
use Rattle.c_lexer.proofs.CommentEnds.{closed}
use Rattle.c_lexer.proofs.Closings.{closes_from, goes_on, closes_on}
use Rattle.c_lexer.proofs.Reading.{two_on}
use Rattle.c_lexer.proofs.Fronts.{Front, onward, text_more, good_more, ends_more, first_more, all_more, snoc, past_snoc, Progresses, escape_progresses, written_more, characters_more, Part, Ready, StuckAt, IsFaulty, Goes, branch, grown, part_along, stuck_before, stuck_part, part_slice, part_slice_behind}

-- ---- reasons

other_fault : (first : Bool) (b : ℕ) (r : List ℕ) → (b == 47) ≡ false → (b == 39) ≡ false → (b == 34) ≡ false → is_digit b ≡ false →
    (b == 35) ≡ false → IsFaulty first b r 2
other_fault first b r h i j d l = (rw (h, i, j, d, l), rw (h, l))

-- a `#` that is not first on its line
hash_fault : (first : Bool) (b : ℕ) (r : List ℕ) → b ≡ 35 → first ≡ false → IsFaulty first b r 2
hash_fault first b r e f = subst (λ (i : ℕ). IsFaulty first i r 2) (sym e) (subst (λ (c : Bool). IsFaulty c 35 r 2) (sym f) (refl, refl))

digit_slash : (b : ℕ) → is_digit b ≡ true → (b == 47) ≡ false
digit_slash b h = grind (arith, nat_tests)

digit_quote : (b : ℕ) → is_digit b ≡ true → (b == 39 || b == 34) ≡ false
digit_quote b h = grind (arith, nat_tests)

digit_hash : (b : ℕ) → is_digit b ≡ true → (b == 35) ≡ false
digit_hash b h = grind (arith, nat_tests)

pub digit_fault : (first : Bool) (b : ℕ) (r : List ℕ) → is_digit b ≡ true → IsFaulty first b r 5
digit_fault first b r h = let x = digit_slash b h in let y = digit_quote b h in let z = digit_hash b h in (rw (x, y, h), rw (x, z))

not_slash : (b : ℕ) → mark_at b ≡ None → (b == 47) ≡ false
not_slash b h = go (b == 47) refl
  where
    go : (c : Bool) → (b == 47) ≡ c → c ≡ false
    go false e = refl
    go true e = let x : b ≡ 47 = eqb-true b 47 e in absurd (let y : Some Slash ≡ None = sym (ap mark_at x) ∙ h in cc)

-- ---- a byte that begins something

goes_mark : (o : Option Mark) (b at : ℕ) → mark_at b ≡ o → (e : Ended) (P : Front) (ps : List Piece) → ((r : List ℕ) → P.bytes r ≡ text ps r) →
    ((r : List ℕ) → Good P.first ps (b ∷ r)) → ends_all ps P.base ≡ at
    → (b == 39) ≡ false → (b == 34) ≡ false → is_digit b ≡ false → (b == 35) ≡ false → Goes (of_mark o e at) (at + 1) (onward P b)
goes_mark None b at h e P ps i g z q q' d l =
    stuck_part at (at + 1) ps b [] (onward P b) 2 ((λ r. i (b ∷ r)), g, z, refl) (λ r. other_fault _ b r (not_slash b h) q q' d l)
goes_mark (Some m) b at h e P ps i g z q q' d l = (
  ps,
  part_along at (at + 1) ps (b ∷ []) (mark_text m) _ (sym (mark_first b m h))
      ((λ r. i (b ∷ r)), g, z, refl),
)

-- behind these pieces
pub begins : (first : Bool) (e : Ended) (b at : ℕ) (P : Front) (ps : List Piece) → ((r : List ℕ) → P.bytes r ≡ text ps r) →
    ((r : List ℕ) → Good P.first ps (b ∷ r)) → ends_all ps P.base ≡ at → first_behind_all P.first ps ≡ first
    → Goes (begin first e b at) (at + 1) (onward P b)
begins first e b at P ps i g z f =
    branch (is_space b) _ _ _ _
    (λ h. (
      ps ++ Space b ∷ [],
      (
        (λ r. i (b ∷ r) ∙ sym (text_more ps (Space b) r)),
        (λ r. good_more P.first ps (Space b) r (g r) h tt),
        ends_more ps (Space b) P.base ∙
            ap (λ (n : ℕ). n + 1) z,
        refl,
      ),
      first_more ps (Space b) P.first ∙ ap (λ (c : Bool). is_newline b || c) f,
    ))
    (λ h. branch (is_letter b) _ _ _ _ (λ l. (ps, b, [], here, l, refl))
    (λ l. branch (is_digit b) _ _ _ _ (λ d. (ps, b, [], here, d, refl, refl))
    (λ d. branch (b == 39) _ _ _ _ (λ q. (ps, part_along at (at + 1) ps (b ∷ []) (39 ∷ []) _ (ap (λ (n : ℕ). n ∷ []) (eqb-true b 39 q)) here))
    (λ q. branch (b == 34) _ _ _ _ (λ q'. (
      ps,
      [],
      [],
      part_along at (at + 1) ps (b ∷ []) (34 ∷ []) _ (ap (λ (n : ℕ). n ∷ []) (eqb-true b 34 q'))
          here,
      (λ r. refl),
      (λ r. tt),
    ))
    (λ q'. branch (b == 35) _ _ _ _
    (λ x. branch first _ _ _ _ (λ y. (ps, [], part_along at (at + 1) ps (b ∷ []) (35 ∷ []) _ (ap (λ (n : ℕ). n ∷ []) (eqb-true b 35 x)) here, f ∙ y, refl))
    (λ y. stuck_part at (at + 1) ps b [] (onward P b) 2 here (λ r. hash_fault _ b r (eqb-true b 35 x) (f ∙ y))))
    (λ x. goes_mark (mark_at b) b at refl e P ps i g z q q' d x))))))
  where
    here : Part at (at + 1) ps (b ∷ []) (onward P b)
    here = ((λ r. i (b ∷ r)), g, z, refl)

-- behind a piece that this byte ends
after : (p : Piece) (e : Ended) (s b at : ℕ) (P : Front) (ps : List Piece) (w : List ℕ) → Part s at ps w P → ((r : List ℕ) → spelled p r ≡ w ++ r) →
    ends p s ≡ past s w → Fits (first_behind_all P.first ps) p
    → first_behind (first_behind_all P.first ps) p ≡ false → ((r : List ℕ) → Longest p (b ∷ r)) → Goes (begin false e b at) (at + 1) (onward P b)
after p e s b at P ps w i k n f c l =
    begins false e b at P (ps ++ p ∷ []) (λ r. i.0 r ∙ ap (text ps) (sym (k r)) ∙ sym (text_more ps p r))
    (λ r. good_more P.first ps p (b ∷ r) (subst (Good P.first ps) (sym (k (b ∷ r))) (i.1 (b ∷ r))) f (l r))
    (ends_more ps p P.base ∙ ap (ends p) i.2 ∙ n ∙ i.3) (first_more ps p P.first ∙ c)

-- a piece that is whole with this byte
finished : (p : Piece) (s b at : ℕ) (P : Front) (ps : List Piece) (w : List ℕ) → Part s at ps w P → ((r : List ℕ) → w ++ b ∷ r ≡ spelled p r) →
    ends p s ≡ past s w + 1 → Fits (first_behind_all P.first ps) p
    → first_behind (first_behind_all P.first ps) p ≡ false → ((r : List ℕ) → Longest p r) → Ready (Between false) (at + 1) (onward P b)
finished p s b at P ps w i k n f c l = (
  ps ++ p ∷ [],
  (
    (λ r. i.0 (b ∷ r) ∙ ap (text ps) (k r) ∙ sym (text_more ps p r)),
    (λ r. good_more P.first ps p r (subst (Good P.first ps) (k r) (i.1 (b ∷ r))) f (l r)),
    ends_more ps p P.base ∙ ap (ends p) i.2 ∙ n ∙ ap (λ (m : ℕ). m + 1) i.3,
    refl,
  ),
  first_more ps p P.first ∙ c,
)

-- a line that this newline ends
line_ended : (p : Piece) (s b at : ℕ) (P : Front) (ps : List Piece) (w : List ℕ) → Part s at ps w P → ((r : List ℕ) → spelled p r ≡ w ++ r) →
    ends p s ≡ past s w → Fits (first_behind_all P.first ps) p
    → ((r : List ℕ) → Longest p (b ∷ r)) → (b == 10) ≡ true → Ready (Between true) (at + 1) (onward P b)
line_ended p s b at P ps w i k n f l h =
    let qs = ps ++ p ∷ [] in (
      qs ++ Space b ∷ [],
      (
        (λ r. i.0 (b ∷ r) ∙ ap (text ps) (sym (k (b ∷ r))) ∙ sym (text_more ps p (b ∷ r)) ∙ sym (text_more qs (Space b) r)),
        (λ r. good_more P.first qs (Space b) r (good_more P.first ps p (b ∷ r) (subst (Good P.first ps) (sym (k (b ∷ r))) (i.1 (b ∷ r))) f (l r))
            (newline_space b h) tt),
        ends_more qs (Space b) P.base ∙ ap (λ (m : ℕ). m + 1) (ends_more ps p P.base ∙ ap (ends p) i.2 ∙ n ∙ i.3),
        refl,
      ),
      first_more qs (Space b) P.first ∙ ap (λ (c : Bool). c || first_behind_all P.first qs) h,
    )
  where
    newline_space : (b : ℕ) → (b == 10) ≡ true → is_space b ≡ true
    newline_space b h = let x : b ≡ 10 = eqb-true b 10 h in ap is_space x

-- ---- words and numbers

continues_more : (power : Bool) (w : List ℕ) (b : ℕ) → continues_from power w ≡ true → is_run_byte (power_from power w) b ≡ true →
    continues_from power (w ++ b ∷ []) ≡ true
continues_more power [] b h k = rw k
continues_more power (x ∷ w) b h k =
    let q = both_true (is_run_byte power x) (continues_from (is_power x) w) h in
    and_from (is_run_byte power x) (continues_from (is_power x) (w ++ b ∷ [])) q.0 (continues_more (is_power x) w b q.1 k)

power_more : (power : Bool) (w : List ℕ) (b : ℕ) → power_from power (w ++ b ∷ []) ≡ is_power b
power_more power [] b = refl
power_more power (x ∷ w) b = power_more (is_power x) w b

-- ---- marks

slash_grown : (m : Mark) (s at b d : ℕ) (P : Front) (ps : List Piece) → Part s at ps (mark_text m) P → (is_slash m ≡ true) × ((b == d) ≡ true) →
    Part s (at + 1) ps (47 ∷ d ∷ []) (onward P b)
slash_grown Slash s at b d P ps i h = part_along s (at + 1) ps (47 ∷ b ∷ []) (47 ∷ d ∷ []) _ (ap (λ (n : ℕ). 47 ∷ n ∷ []) (eqb-true b d h.1))
    (grown s at ps (47 ∷ []) b P i)
slash_grown _ s at b d P ps i h = absurd (let x = h.0 in cc)

dot_grown : (m : Mark) (s at b : ℕ) (P : Front) (ps : List Piece) → Part s at ps (mark_text m) P → (is_dot m ≡ true) × ((b == 46) ≡ true) →
    Part s (at + 1) ps (46 ∷ 46 ∷ []) (onward P b)
dot_grown Dot s at b P ps i h = part_along s (at + 1) ps (46 ∷ b ∷ []) (46 ∷ 46 ∷ []) _ (ap (λ (n : ℕ). 46 ∷ n ∷ []) (eqb-true b 46 h.1))
    (grown s at ps (46 ∷ []) b P i)
dot_grown _ s at b P ps i h = absurd (let x = h.0 in cc)

slash_rest : (m : Mark) (b : ℕ) (r : List ℕ) → (is_slash m && b == 42) ≡ false → (is_slash m && b == 47) ≡ false → m ≡ Slash →
    NotFirst (λ x. x == 42 || x == 47) (b ∷ r)
slash_rest Slash b r h g e = or_from (b == 42) (b == 47) h g
slash_rest _ b r h g e = absurd cc

mark_goes : (s : ℕ) (m : Mark) (b at : ℕ) (P : Front) (ps : List Piece) → Part s at ps (mark_text m) P → (is_slash m && b == 42) ≡ false →
    (is_slash m && b == 47) ≡ false → (is_dot m && b == 46) ≡ false → (o : Option Mark) → longer m b ≡ o
    → Goes (after_mark s o b at) (at + 1) (onward P b)
mark_goes s m b at P ps i h g d None e = after (Sign m) _ s b at P ps (mark_text m) i (λ r. refl) refl tt refl
    (λ r. (longest_mark m b r e (no_dots m b r d), slash_rest m b r h g))
mark_goes s m b at P ps i h g d (Some n) e = (
  ps,
  part_along s (at + 1) ps (mark_text m ++ b ∷ []) (mark_text n) _ (sym (longer_text m n b e))
      (grown s at ps (mark_text m) b P i),
)

pub dot_alone : (b : ℕ) (r : List ℕ) → (b == 46) ≡ false → Longest (Sign Dot) (b ∷ r)
dot_alone b r h = (longest_mark Dot b r refl (no_dots Dot b r h), (λ e. absurd cc))

pub dot_doubled : (r : List ℕ) → NotFirst (λ b. b == 46) r → Longest (Sign Dot) (46 ∷ r)
dot_doubled [] h = (longest_mark Dot 46 [] refl (λ e. refl), (λ e. absurd cc))
dot_doubled (b ∷ r) h = (longest_mark Dot 46 (b ∷ r) refl (λ e. h), (λ e. absurd cc))

dots_goes : (e : Ended) (s b at : ℕ) (P : Front) (ps : List Piece) → Part s at ps (46 ∷ 46 ∷ []) P → (b == 46) ≡ false →
    Goes (begin false e b at) (at + 1) (onward P b)
dots_goes e s b at P ps i h =
    let qs = ps ++ Sign Dot ∷ [] in
    begins false e b at P (qs ++ Sign Dot ∷ []) (λ r. i.0 r ∙ sym (text_more ps (Sign Dot) (46 ∷ r)) ∙ sym (text_more qs (Sign Dot) r))
    (λ r. good_more P.first qs (Sign Dot) (b ∷ r) (good_more P.first ps (Sign Dot) (46 ∷ b ∷ r) (i.1 (b ∷ r)) tt (dot_doubled (b ∷ r) h)) tt (dot_alone b r h))
    (ends_more qs (Sign Dot) P.base ∙ ap (λ (n : ℕ). n + 1) (ends_more ps (Sign Dot) P.base ∙ ap (λ (n : ℕ). n + 1) i.2) ∙ i.3)
    (first_more qs (Sign Dot) P.first)

-- ---- character constants

pub char_held_goes : (s b at : ℕ) (P : Front) (ps : List Piece) (c : Character) (w : List ℕ) → Part s at ps (39 ∷ w) P →
    ((r : List ℕ) → written c r ≡ w ++ r) → IsCharacter is_character_byte c
    → Goes (char_held s b at) (at + 1) (onward P b)
char_held_goes s b at P ps c w i k f =
    branch (b == 39) _ _ _ _
    (λ h. finished (Char c) s b at P ps (39 ∷ w) i (λ r. ap (λ (n : ℕ). 39 ∷ w ++ n ∷ r) (eqb-true b 39 h) ∙
    ap (λ (v : List ℕ). 39 ∷ v) (sym (k (39 ∷ r)))) (ap (λ (n : ℕ). n + 1) (character_ends c w k (s + 1))) f refl (λ r. tt))
    (λ h r. stuck_part s at ps 39 w P 4 i (λ q. (refl, refl)) (b ∷ r))

char_goes : (s b at : ℕ) (P : Front) (ps : List Piece) (w : List ℕ) → Part s at ps (39 ∷ w) P → (p : Progress) → Progresses p b w →
    Goes (char_escape s p b at) (at + 1) (onward P b)
char_goes s b at P ps w i (More e) h = (ps, w ++ b ∷ [], grown s at ps (39 ∷ w) b P i, h)
char_goes s b at P ps w i Whole (c, h) = (ps, c, w ++ b ∷ [], grown s at ps (39 ∷ w) b P i, h.bytes, h.is is_character_byte)
char_goes s b at P ps w i Over (c, h) = char_held_goes s b at P ps c w i h.bytes (h.is is_character_byte)
char_goes s b at P ps w i Wrong h = λ r. stuck_part s at ps 39 w P 4 i (λ q. (refl, refl)) (b ∷ r)

-- ---- texts

text_byte : (b : ℕ) → (b == 10) ≡ false → (b == 34) ≡ false → (b == 92) ≡ false → is_text_byte b ≡ true
text_byte b h i j = rw (h, i, j)

in_text_goes : (s b at : ℕ) (P : Front) (ps : List Piece) (cs : List Character) (v : List ℕ) → Part s at ps (34 ∷ v) P →
    ((r : List ℕ) → written_all cs r ≡ v ++ r) → ((r : List ℕ) → AreCharacters is_text_byte cs (b ∷ r))
    → Goes (in_text s b at) (at + 1) (onward P b)
in_text_goes s b at P ps cs v i k f =
    branch (b == 34) _ _ _ _
    (λ h. finished (Text cs) s b at P ps (34 ∷ v) i (λ r. ap (λ (n : ℕ). 34 ∷ v ++ n ∷ r) (eqb-true b 34 h) ∙
    ap (λ (u : List ℕ). 34 ∷ u) (sym (k (34 ∷ r)))) (ap (λ (n : ℕ). n + 1) (characters_end cs v k (s + 1)))
    (subst (λ (n : ℕ). AreCharacters is_text_byte cs (n ∷ [])) (eqb-true b 34 h) (f [])) refl (λ r. tt))
    (λ q. branch (b == 92) _ _ _ _
    (λ h. let x = eqb-true b 92 h in (
      ps,
      cs,
      v,
      92 ∷ [],
      part_along s (at + 1) ps (34 ∷ v ++ b ∷ []) (34 ∷ v ++ 92 ∷ [])
          _ (ap (λ (n : ℕ). 34 ∷ v ++ n ∷ []) x) (grown s at ps (34 ∷ v) b P i),
      k,
      (λ r. subst (λ (n : ℕ). AreCharacters is_text_byte cs (n ∷ r)) x (f r)),
      refl,
    ))
    (λ d. branch (b == 10) _ _ _ _ (λ h r. stuck_part s at ps 34 v P 4 i (λ q. (refl, refl)) (b ∷ r))
    (λ h. (
      ps,
      cs ++ Plain b ∷ [],
      v ++ b ∷ [],
      grown s at ps (34 ∷ v) b P i,
      (λ r. written_more cs (Plain b) r ∙ k (b ∷ r) ∙ sym (snoc v b r)),
      (λ r. characters_more cs (Plain b) r (f r) (text_byte b h q d) tt),
    ))))

text_goes : (s b at : ℕ) (P : Front) (ps : List Piece) (cs : List Character) (v w : List ℕ) → Part s at ps (34 ∷ v ++ w) P →
    ((r : List ℕ) → written_all cs r ≡ v ++ r) → ((r : List ℕ) → AreCharacters is_text_byte cs (w ++ r)) → (p : Progress) → Progresses p b w
    → Goes (text_escape s p b at) (at + 1) (onward P b)
text_goes s b at P ps cs v w i k f (More e) h = (
  ps,
  cs,
  v,
  w ++ b ∷ [],
  part_along s (at + 1) ps ((34 ∷ v ++ w) ++ b ∷ []) (34 ∷ v ++ (w ++ b ∷ [])) _ (ap (λ (u : List ℕ). 34 ∷ u) (append_assoc v w (b ∷ [])))
      (grown s at ps (34 ∷ v ++ w) b P i),
  k,
  (λ r. subst (AreCharacters is_text_byte cs) (sym (snoc w b r)) (f (b ∷ r))),
  h,
)
text_goes s b at P ps cs v w i k f Whole (c, h) = (
  ps,
  cs ++ c ∷ [],
  v ++ (w ++ b ∷ []),
  part_along s (at + 1) ps ((34 ∷ v ++ w) ++ b ∷ []) (34 ∷ v ++ (w ++ b ∷ [])) _ (ap (λ (u : List ℕ). 34 ∷ u) (append_assoc v w (b ∷ [])))
      (grown s at ps (34 ∷ v ++ w) b P i),
  (λ r. written_more cs c r ∙ k (written c r) ∙ ap (λ (u : List ℕ). v ++ u) (h.bytes r) ∙ sym (append_assoc v (w ++ b ∷ []) r)),
  (λ r. characters_more cs c r (subst (AreCharacters is_text_byte cs) (sym (h.bytes r ∙ snoc w b r)) (f (b ∷ r))) (h.is is_text_byte) (h.digits r tt)),
)
text_goes s b at P ps cs v w i k f Over (c, h) =
    in_text_goes s b at P ps (cs ++ c ∷ []) (v ++ w) i (λ r. written_more cs c r ∙ k (written c r) ∙ ap (λ (u : List ℕ). v ++ u) (h.bytes r) ∙
    sym (append_assoc v w r))
    (λ r. characters_more cs c (b ∷ r) (subst (AreCharacters is_text_byte cs) (sym (h.bytes (b ∷ r))) (f (b ∷ r))) (h.is is_text_byte)
    (h.digits (b ∷ r) (r, refl)))
text_goes s b at P ps cs v w i k f Wrong h = λ r. stuck_part s at ps 34 (v ++ w) P 4 i (λ q. (refl, refl)) (b ∷ r)

-- ---- comments and directives

comment_grows : (s : ℕ) (c : Closing) (b at : ℕ) (P : Front) (ps : List Piece) (w : List ℕ) → Part s at ps (47 ∷ 42 ∷ w) P →
    ((v : List ℕ) → closes (w ++ v) ≡ closes_from c v) → goes_on c b ≡ true → Ready (InComment s (closing_step c b)) (at + 1) (onward P b)
comment_grows s c b at P ps w i o g = (ps, w ++ b ∷ [], grown s at ps (47 ∷ 42 ∷ w) b P i, (λ v. ap closes (snoc w b v) ∙ o (b ∷ v) ∙ closes_on c b v g))

comment_goes : (s : ℕ) (c : Closing) (b at : ℕ) (P : Front) (ps : List Piece) (w : List ℕ) → Part s at ps (47 ∷ 42 ∷ w) P →
    ((v : List ℕ) → closes (w ++ v) ≡ closes_from c v) → Goes (in_comment s c b at) (at + 1) (onward P b)
comment_goes s closing.Open b at P ps w i o = comment_grows s closing.Open b at P ps w i o refl
comment_goes s closing.Continued b at P ps w i o = comment_grows s closing.Continued b at P ps w i o refl
comment_goes s closing.Starred b at P ps w i o =
    branch (b == 47) _ _ _ _
    (λ h. finished (Block (w ++ b ∷ [])) s b at P ps (47 ∷ 42 ∷ w) i (λ r. ap (λ (u : List ℕ). 47 ∷ 42 ∷ u) (sym (snoc w b r)))
    (past_snoc w (s + 1 + 1) b) (closed (w ++ b ∷ []) (o (b ∷ []) ∙ ap (λ (i : ℕ). closes_from closing.Starred (i ∷ [])) (eqb-true b 47 h))) refl (λ r. tt))
    (λ h. comment_grows s closing.Starred b at P ps w i o (ap not h))
comment_goes s closing.Returned b at P ps w i o =
    branch (b == 47) _ _ _ _ (λ h r. stuck_part s at ps 47 (42 ∷ w) P 3 i (λ q. (refl, refl)) (b ∷ r))
    (λ h. comment_grows s closing.Returned b at P ps w i o (ap not h))
comment_goes s closing.Joined b at P ps w i o =
    branch (b == 47) _ _ _ _ (λ h r. stuck_part s at ps 47 (42 ∷ w) P 3 i (λ q. (refl, refl)) (b ∷ r))
    (λ h. comment_grows s closing.Joined b at P ps w i o (ap not h))

-- a line that the newline, or the end of the text, ends
pub line_is : (w q : List ℕ) → NewlineNext q → has_no_newline w ≡ true → broken_at w ≡ None → IsLine w q
line_is w q next none k = (runs_to_newline w q next none k, next)

-- a comment that breaks off is at fault there
pub line_stuck : (s at : ℕ) (P : Front) (ps : List Piece) (w : List ℕ) (n : ℕ) → Part s at ps (47 ∷ 47 ∷ w) P → has_no_newline w ≡ true →
    broken_at w ≡ Some n → (q : List ℕ) → NewlineNext q → StuckAt P.base P.first 2 (s + (n + 1 + 1)) (P.bytes q)
line_stuck s at P ps w n i none k q next =
    let c = broken w n k in
    record {
      pieces = ps;
      byte = 47;
      rest = 47 ∷ w ++ q;
      spells = i.0 q;
      good = i.1 q;
      place_is = (let x = i.2 in let y = ap length (c.own_is q next none) ∙ c.count in omega arith);
      reason_is = refl;
      none = inr (no_comment _ (w ++ q) (c.breaks q next none));
    }

-- the bytes of a directive up to where it breaks off
own_part : (w : List ℕ) (n : ℕ) → broken_at w ≡ Some n → has_no_newline w ≡ true → (q : List ℕ) → NewlineNext q → own_line (w ++ q) ≡ take n w
own_part w n k none q next = let c = broken w n k in c.own_is q next none ∙ sym (take_at c.own c.gap n c.count) ∙ ap (take n) (sym c.bytes)

reaches : (first include : Bool) (n m : ℕ) → first ≡ true → include ≡ true → n ≡ m → cond ((true && first) && include) (1 + n) 0 ≡ 1 + m
reaches first include n m f g e = rw (f, g, e)

reasons : (first include : Bool) (n m : ℕ) → first ≡ true → include ≡ true → cond ((true && first) && not include) n m ≡ m
reasons first include n m f g = rw (f, g)

pub directive_stuck : (s at : ℕ) (P : Front) (ps : List Piece) (w : List ℕ) (n : ℕ) → Part s at ps (35 ∷ w) P → first_behind_all P.first ps ≡ true →
    has_no_newline w ≡ true → broken_at w ≡ Some n → is_directive (take n w) ≡ true → (q : List ℕ) → NewlineNext q
    → StuckAt P.base P.first 2 (s + 1 + n) (P.bytes q)
directive_stuck s at P ps w n i first none k g q next =
    let c = broken w n k in
    let own = ap is_directive (own_part w n k none q next) ∙ g in
    record {
      pieces = ps;
      byte = 35;
      rest = w ++ q;
      spells = i.0 q;
      good = i.1 q;
      place_is = (let x = i.2 in let y = reaches _ _ (length (own_line (w ++ q))) n first own (ap length (c.own_is q next none) ∙ c.count) in
          further _ _ s n x y);
      reason_is = reasons _ _ 6 2 first own;
      none = inr (no_directive _ (w ++ q) (c.breaks q next none));
    }
  where
    further : (a b s n : ℕ) → a ≡ s → b ≡ 1 + n → a + b ≡ s + 1 + n
    further a b s n h k = omega arith

refuses : (first include : Bool) (n m i : ℕ) → first ≡ true → include ≡ false →
    (cond ((true && first) && not include) n m ≡ n) × (cond ((true && first) && include) i m ≡ m)
refuses first include n m i f g = (rw (f, g), rw (f, g))

-- no piece begins with the `#` of a directive that is no `#include`, or that leaves a comment open
directive_refused : (s at : ℕ) (P : Front) (ps : List Piece) (w : List ℕ) → Part s at ps (35 ∷ w) P → first_behind_all P.first ps ≡ true →
    (q : List ℕ) → is_directive (own_line (w ++ q)) ≡ false → StuckAt P.base P.first 6 s (P.bytes q)
directive_refused s at P ps w i first q d = stuck_before s at ps 35 w P 6 i q
    ((refuses _ _ 6 2 0 first d).0, (refuses _ _ 0 0 (1 + length (own_line (w ++ q))) first d).1)

-- these bytes up to its end are no `#include`, or leave a comment open
pub whole_refused : (s at : ℕ) (P : Front) (ps : List Piece) (w : List ℕ) → Part s at ps (35 ∷ w) P → first_behind_all P.first ps ≡ true →
    has_no_newline w ≡ true → broken_at w ≡ None → is_directive w ≡ false → (q : List ℕ) → NewlineNext q → StuckAt P.base P.first 6 s (P.bytes q)
whole_refused s at P ps w i first none k g q next = directive_refused s at P ps w i first q (ap is_directive (own_whole w q next none k) ∙ g)

pub broken_refused : (s at : ℕ) (P : Front) (ps : List Piece) (w : List ℕ) (n : ℕ) → Part s at ps (35 ∷ w) P → first_behind_all P.first ps ≡ true →
    has_no_newline w ≡ true → broken_at w ≡ Some n → is_directive (take n w) ≡ false → (q : List ℕ) → NewlineNext q
    → StuckAt P.base P.first 6 s (P.bytes q)
broken_refused s at P ps w n i first none k g q next = directive_refused s at P ps w i first q (ap is_directive (own_part w n k none q next) ∙ g)

line_goes : (s end b at : ℕ) (P : Front) (ps : List Piece) (w : List ℕ) → Part s at ps (47 ∷ 47 ∷ w) P → has_no_newline w ≡ true → (b == 10) ≡ true →
    (o : Option ℕ) → broken_at w ≡ o
    → Goes (end_line s end (two_on o)) (at + 1) (onward P b)
line_goes s end b at P ps w i none h None k = line_ended (Line w) s b at P ps (47 ∷ 47 ∷ w) i (λ r. refl) refl tt (λ r. line_is w (b ∷ r) h none k) h
line_goes s end b at P ps w i none h (Some n) k = λ r. line_stuck s at P ps w n i none k (b ∷ r) h

directive_goes : (s end b at : ℕ) (P : Front) (ps : List Piece) (w : List ℕ) → Part s at ps (35 ∷ w) P → first_behind_all P.first ps ≡ true →
    has_no_newline w ≡ true → (b == 10) ≡ true → (o : Option ℕ) → broken_at w ≡ o
    → Goes (end_directive s end w o) (at + 1) (onward P b)
directive_goes s end b at P ps w i first none h None k =
    branch (is_directive w) _ _ _ _ (λ g. line_ended (Directive w) s b at P ps (35 ∷ w) i (λ r. refl) refl (first, (directive_decided w).0 g)
    (λ r. line_is w (b ∷ r) h none k) h) (λ g r. whole_refused s at P ps w i first none k g (b ∷ r) h)
directive_goes s end b at P ps w i first none h (Some n) k =
    branch (is_directive (take n w)) _ _ _ _ (λ g r. directive_stuck s at P ps w n i first none k g (b ∷ r) h)
    (λ g r. broken_refused s at P ps w n i first none k g (b ∷ r) h)

-- ---- every state

pub goes : (t : List ℕ) (s : State) (at : ℕ) (P : Front) → Ready s at P → (b : ℕ) (rest : List ℕ) → Stands t P.base (P.bytes (b ∷ rest)) →
    Goes (step t s b at) (at + 1) (onward P b)
goes t (Between first) at P (ps, i, f) b rest e = begins first ended.Nothing b at P ps i.0 (λ r. i.1 (b ∷ r)) i.2 f
goes t (InWord s) at P (ps, x, w, i, letter, each) b rest e =
    branch (is_word_byte b) _ _ _ _ (λ h. (ps, x, w ++ b ∷ [], grown s at ps (x ∷ w) b P i, letter, all_more is_word_byte w b each h))
    (λ h. after (Word (x ∷ w)) _ s b at P ps (x ∷ w) i (λ r. refl) refl (and_from (is_letter x) (list_all is_word_byte w) letter each) refl (λ r. h))
goes t (InNumber s power) at P (ps, x, w, i, digit, run, last) b rest e =
    branch (is_run_byte power b) _ _ _ _ (λ h. (
      ps,
      x,
      w ++ b ∷ [],
      grown s at ps (x ∷ w) b P i,
      digit,
      continues_more false w b run (ap (λ (c : Bool). is_run_byte c b) last ∙ h),
      power_more false w b,
    ))
    (λ h. branch (is_some (integer_of (slice_range t s at))) _ _ _ _
    (λ g. after (Number (x ∷ w)) _ s b at P ps (x ∷ w) i (λ r. refl) refl (
      and_from (is_digit x) (continues (x ∷ w)) digit (sym (run_continues x w digit) ∙ run),
      ap (λ (v : List ℕ). is_some (integer_of v)) (sym (part_slice t s at ps (x ∷ w) P (b ∷ rest) i e)) ∙ g,
    ) refl
    (λ r. ap (λ (c : Bool). is_run_byte c b) (sym (run_power x w digit) ∙ last) ∙ h))
    (λ g r. stuck_part s at ps x w P 5 i (λ q. digit_fault _ x (w ++ q) digit) (b ∷ r)))
goes t (InMark s m) at P (ps, i) b rest e =
    branch (is_slash m && b == 42) _ _ _ _ (λ h. (ps, [], slash_grown m s at b 42 P ps i (both_true (is_slash m) (b == 42) h), (λ v. refl)))
    (λ h. branch (is_slash m && b == 47) _ _ _ _ (λ g. (ps, [], slash_grown m s at b 47 P ps i (both_true (is_slash m) (b == 47) g), refl))
    (λ g. branch (is_dot m && b == 46) _ _ _ _ (λ d. (ps, dot_grown m s at b P ps i (both_true (is_dot m) (b == 46) d)))
    (λ d. mark_goes s m b at P ps i h g d (longer m b) refl)))
goes t (Dots s) at P (ps, i) b rest e =
    branch (b == 46) _ _ _ _ (λ h. (
      ps,
      part_along s (at + 1) ps (46 ∷ 46 ∷ b ∷ []) (46 ∷ 46 ∷ 46 ∷ [])
          _ (ap (λ (n : ℕ). 46 ∷ 46 ∷ n ∷ []) (eqb-true b 46 h)) (grown s at ps (46 ∷ 46 ∷ []) b P i),
    ))
    (λ h. dots_goes _ s b at P ps i h)
goes t (CharOpened s) at P (ps, i) b rest e =
    branch (b == 92) _ _ _ _ (λ h. (
      ps,
      92 ∷ [],
      part_along s (at + 1) ps (39 ∷ b ∷ []) (39 ∷ 92 ∷ [])
          _ (ap (λ (n : ℕ). 39 ∷ n ∷ []) (eqb-true b 92 h)) (grown s at ps (39 ∷ []) b P i),
      refl,
    ))
    (λ h. branch (is_character_byte b) _ _ _ _ (λ g. (ps, Plain b, b ∷ [], grown s at ps (39 ∷ []) b P i, (λ r. refl), g))
    (λ g r. stuck_part s at ps 39 [] P 4 i (λ q. (refl, refl)) (b ∷ r)))
goes t (CharEscape s x) at P (ps, w, i, h) b rest e = char_goes s b at P ps w i (escape_step x b) (escape_progresses x w h b)
goes t (CharHeld s) at P (ps, c, w, i, k, f) b rest e = char_held_goes s b at P ps c w i k f
goes t (InText s) at P (ps, cs, v, i, k, f) b rest e = in_text_goes s b at P ps cs v i k (λ r. f (b ∷ r))
goes t (TextEscape s x) at P (ps, cs, v, w, i, k, f, h) b rest e = text_goes s b at P ps cs v w i k f (escape_step x b) (escape_progresses x w h b)
goes t (InDirective s end) at P (ps, w, i, first, none) b rest e =
    branch (b == 10) _ _ _ _
    (λ h. subst (λ (v : List ℕ). Goes (end_directive s end v (broken_at v)) (at + 1) (onward P b))
    (sym (part_slice_behind t s at ps 35 w P (b ∷ rest) i e)) (directive_goes s end b at P ps w i first none h (broken_at w) refl))
    (λ h. (ps, w ++ b ∷ [], grown s at ps (35 ∷ w) b P i, first, all_more (λ c. not (is_newline c)) w b none (ap not h)))
goes t (InComment s c) at P (ps, w, i, o) b rest e = comment_goes s c b at P ps w i o
goes t (InLine s end) at P (ps, w, i, none) b rest e =
    branch (b == 10) _ _ _ _
    (λ h. subst (λ (v : List ℕ). Goes (end_line s end (broken_at v)) (at + 1) (onward P b))
    (sym (part_slice t s at ps (47 ∷ 47 ∷ w) P (b ∷ rest) i e)) (line_goes s end b at P ps w i none h (broken_at w) refl))
    (λ h. (ps, w ++ b ∷ [], grown s at ps (47 ∷ 47 ∷ w) b P i, all_more (λ c. not (is_newline c)) w b none (ap not h)))
