-- Bytes close a comment just where going along them finds so.
use Rattle.std.proofs.Common.{◌≡◌, ◌⊎◌, inl, inr, ℕ, Bool, true, false, not, ◌&&◌, ◌||◌, ◌==◌, cond, List, [], ◌∷◌, ◌++◌, length, refl, ap, sym, ◌∙◌, subst, arith, length-append}
use Rattle.std.specs.List.{list_all}
use Rattle.std.proofs.lemmas.Bool.{eqb-true, or_cases, or_right}
use Rattle.c_lexer.specs.Bytes.{is_space, is_white, is_newline, is_return}
use Rattle.c_lexer.specs.Pieces.{SlashFollows, slash_next, line_end_next, Closes}
use Rattle.c_lexer.specs.PieceSteps.{slash_follows, is_single, closes}
use Rattle.c_lexer.proofs.Truths.{both_true, all_of_more, or_true, not_true, and_false}

-- ---- continued line ends

-- in a line end, in front of the rest of it
record InLineEnd (r : List ℕ) : Type 0 where
  white : List ℕ
  byte : ℕ
  behind : List ℕ
  bytes : r ≡ white ++ byte ∷ behind
  all : list_all is_white white ≡ true
  ends : (is_newline byte || is_return byte) ≡ true
  slash : SlashFollows behind

white_more : (b : ℕ) (r : List ℕ) → is_newline b ≡ false → is_space b ≡ true → InLineEnd r → InLineEnd (b ∷ r)
white_more b r n s k =
    let a = k.all in
    record { white = b ∷ k.white; byte = k.byte; behind = k.behind; bytes = ap (λ v. b ∷ v) k.bytes; all = rw (s, n, a) refl; ends = k.ends; slash = k.slash }

at_end : (b : ℕ) (r : List ℕ) → (is_newline b || is_return b) ≡ true → SlashFollows r → InLineEnd (b ∷ r)
at_end b r e s = record { white = []; byte = b; behind = r; bytes = refl; all = refl; ends = e; slash = s }

by_line_end : (b : ℕ) (r : List ℕ) → (b == 92) ≡ true → InLineEnd r → SlashFollows (b ∷ r)
by_line_end b r e k =
    subst (λ i. SlashFollows (i ∷ r)) (sym (eqb-true b 92 e))
    (subst (λ v. SlashFollows (92 ∷ v)) (sym k.bytes) (line_end_next k.white k.byte k.behind k.all k.ends k.slash))

slash_at : (b : ℕ) (r : List ℕ) → (slash_follows true r ≡ true → InLineEnd r) → ((b == 47) ≡ true) ⊎ ((b == 92 && slash_follows true r) ≡ true) →
    SlashFollows (b ∷ r)
slash_at b r f (inl e) = subst (λ i. SlashFollows (i ∷ r)) (sym (eqb-true b 47 e)) (slash_next r)
slash_at b r f (inr e) = let q = both_true (b == 92) (slash_follows true r) e in by_line_end b r q.0 (f q.1)

in_line_end : (b : ℕ) (r : List ℕ) → is_newline b ≡ false → is_space b ≡ true → (slash_follows false r ≡ true → SlashFollows r) →
    (slash_follows true r ≡ true → InLineEnd r)
    → (slash_follows true r ≡ true) ⊎ ((b == 13 && slash_follows false r) ≡ true) → InLineEnd (b ∷ r)
in_line_end b r n s f g (inl k) = white_more b r n s (g k)
in_line_end b r n s f g (inr k) = let q = both_true (b == 13) (slash_follows false r) k in at_end b r (or_right (is_newline b) (is_return b) q.0) (f q.1)

line_end_at : (b : ℕ) (r : List ℕ) (c : Bool) → is_newline b ≡ c → (slash_follows false r ≡ true → SlashFollows r) → (slash_follows true r ≡ true → InLineEnd r)
    → cond c (slash_follows false r) (is_space b && (slash_follows true r || (b == 13 && slash_follows false r))) ≡ true → InLineEnd (b ∷ r)
line_end_at b r true n f g h = at_end b r (ap (λ c. c || is_return b) n) (f h)
line_end_at b r false n f g h =
    let q = both_true (is_space b) (slash_follows true r || (b == 13 && slash_follows false r)) h in
    in_line_end b r n q.0 f g (or_cases (slash_follows true r) (b == 13 && slash_follows false r) q.1)

mutual
  pub slash_there : (r : List ℕ) → slash_follows false r ≡ true → SlashFollows r
  slash_there [] h = absurd cc
  slash_there (b ∷ r) h = slash_at b r (λ k. line_end_there r k) (or_cases (b == 47) (b == 92 && slash_follows true r) h)

  line_end_there : (r : List ℕ) → slash_follows true r ≡ true → InLineEnd r
  line_end_there [] h = absurd cc
  line_end_there (b ∷ r) h = line_end_at b r (is_newline b) refl (λ k. slash_there r k) (λ k. line_end_there r k) h

end_on : (b : ℕ) (r : List ℕ) (c : Bool) → (c || is_return b) ≡ true → slash_follows false r ≡ true
    → cond c (slash_follows false r) (is_space b && (slash_follows true r || (b == 13 && slash_follows false r))) ≡ true
end_on b r true e s = s
end_on b r false e s =
    subst (λ (i : ℕ). (is_space i && (slash_follows true r || (i == 13 && slash_follows false r))) ≡ true) (sym (eqb-true b 13 e))
    (rw s (or_true (slash_follows true r)))

through : (white : List ℕ) (b : ℕ) (r : List ℕ) → list_all is_white white ≡ true → (is_newline b || is_return b) ≡ true →
    slash_follows false r ≡ true → slash_follows true (white ++ b ∷ r) ≡ true
through [] b r a e s = end_on b r (is_newline b) e s
through (x ∷ white) b r a e s =
    let q = all_of_more is_white x white a in
    let p = both_true (is_space x) (not (is_newline x)) q.0 in
    let n = not_true (is_newline x) p.1 in
    white_on x (white ++ b ∷ r) (is_newline x) n (is_space x) p.0 (through white b r q.1 e s)
  where
    white_on : (x : ℕ) (v : List ℕ) (c : Bool) → c ≡ false → (d : Bool) → d ≡ true → slash_follows true v ≡ true
        → cond c (slash_follows false v) (d && (slash_follows true v || (x == 13 && slash_follows false v))) ≡ true
    white_on x v true n d p i = absurd cc
    white_on x v false n false p i = absurd cc
    white_on x v false n true p i = rw i refl

slash_found : (r : List ℕ) → SlashFollows r → slash_follows false r ≡ true
slash_found _ (slash_next r) = refl
slash_found _ (line_end_next white b r a e s) = through white b r a e (slash_found r s)

-- ---- where a comment closes

single_slash : (w : List ℕ) → is_single w ≡ true → slash_follows false w ≡ true → w ≡ 47 ∷ []
single_slash [] h s = absurd cc
single_slash (x ∷ []) h s = here (or_cases (x == 47) (x == 92 && false) s)
  where
    here : ((x == 47) ≡ true) ⊎ ((x == 92 && false) ≡ true) → x ∷ [] ≡ 47 ∷ []
    here (inl e) = ap (λ (i : ℕ). i ∷ []) (eqb-true x 47 e)
    here (inr e) = absurd (let y : false ≡ true = sym (and_false (x == 92)) ∙ e in cc)
single_slash (x ∷ y ∷ w) h s = absurd cc

-- the first of the two closes it
only : (before after : List ℕ) → 42 ∷ 47 ∷ [] ≡ before ++ 42 ∷ after → after ≡ 47 ∷ []
only [] after e = let y : 47 ∷ [] ≡ after = cc in sym y
only (x ∷ []) after e = absurd (let y : true ≡ false = ap (λ (w : List ℕ). second w == 47) e in cc)
  where
    second : List ℕ → ℕ
    second [] = 0
    second (a ∷ []) = 0
    second (a ∷ b ∷ w) = b
only (x ∷ y ∷ before) after e = let l = ap length e ∙ length-append (x ∷ y ∷ before) (42 ∷ after) in absurd (omega (arith, l))

ends_here : (b : ℕ) (w : List ℕ) → b ≡ 42 → w ≡ 47 ∷ [] → Closes (b ∷ w)
ends_here b w x e =
    let all : b ∷ w ≡ 42 ∷ 47 ∷ [] = ap (λ (i : ℕ). i ∷ w) x ∙ ap (λ (v : List ℕ). 42 ∷ v) e in
    record { inside = []; ended = all; first = λ before after g s. only before after (sym all ∙ g) }

first_on : (b : ℕ) (w : List ℕ) → (b == 42 && slash_follows false w) ≡ false → Closes w → (before after : List ℕ) → b ∷ w ≡ before ++ 42 ∷ after →
    SlashFollows after → after ≡ 47 ∷ []
first_on b w e k [] after g s =
    let x : b ≡ 42 = cc in
    let z : w ≡ after = cc in
    let q = slash_found w (subst SlashFollows (sym z) s) in
    absurd (let y : true ≡ false = sym (ap (λ (i : ℕ). i == 42 && slash_follows false w) x ∙ q) ∙ e in cc)
first_on b w e k (x ∷ before) after g s = k.first before after (let y : w ≡ before ++ 42 ∷ after = cc in y) s

ends_later : (b : ℕ) (w : List ℕ) → (b == 42 && slash_follows false w) ≡ false → Closes w → Closes (b ∷ w)
ends_later b w e k = record { inside = b ∷ k.inside; ended = ap (λ (v : List ℕ). b ∷ v) k.ended; first = first_on b w e k }

closed_at : (b : ℕ) (w : List ℕ) (c : Bool) → (b == 42 && slash_follows false w) ≡ c → (closes w ≡ true → Closes w) →
    cond c (is_single w) (closes w) ≡ true → Closes (b ∷ w)
closed_at b w true e f h = let q = both_true (b == 42) (slash_follows false w) e in ends_here b w (eqb-true b 42 q.0) (single_slash w h q.1)
closed_at b w false e f h = ends_later b w e (f h)

pub closed : (w : List ℕ) → closes w ≡ true → Closes w
closed [] h = absurd cc
closed (b ∷ w) h = closed_at b w (b == 42 && slash_follows false w) refl (λ k. closed w k) h

-- behind a byte at which it doesn't close
behind_first : (b : ℕ) (w : List ℕ) → (b == 42 && slash_follows false w) ≡ false → (inside : List ℕ) → b ∷ w ≡ inside ++ 42 ∷ 47 ∷ []
    → ((before after : List ℕ) → b ∷ w ≡ before ++ 42 ∷ after → SlashFollows after → after ≡ 47 ∷ []) → Closes w
behind_first b w e [] g f =
    let x : b ≡ 42 = cc in
    let z : w ≡ 47 ∷ [] = cc in
    absurd (let y : true ≡ false = sym (ap (λ (i : ℕ). i == 42 && slash_follows false w) x ∙ ap (slash_follows false) z) ∙ e in cc)
behind_first b w e (x ∷ inside) g f =
    record {
      inside = inside;
      ended = (let y : w ≡ inside ++ 42 ∷ 47 ∷ [] = cc in y);
      first = λ before after h s. f (b ∷ before) after (ap (λ (v : List ℕ). b ∷ v) h) s;
    }

closes_at : (b : ℕ) (w : List ℕ) (c : Bool) → (b == 42 && slash_follows false w) ≡ c → Closes (b ∷ w) → (c ≡ false → closes w ≡ true) →
    cond c (is_single w) (closes w) ≡ true
closes_at b w true e k f =
    let q = both_true (b == 42) (slash_follows false w) e in
    ap is_single (k.first [] w (ap (λ (i : ℕ). i ∷ w) (eqb-true b 42 q.0)) (slash_there w q.1))
closes_at b w false e k f = f refl

pub closes_so : (w : List ℕ) → Closes w → closes w ≡ true
closes_so [] k = let l = ap length k.ended ∙ length-append k.inside (42 ∷ 47 ∷ []) in absurd (omega (arith, l))
closes_so (b ∷ w) k = closes_at b w (b == 42 && slash_follows false w) refl k (λ e. closes_so w (behind_first b w e k.inside k.ended k.first))
