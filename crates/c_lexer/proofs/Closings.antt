-- What may close a comment `/*`.
use Rattle.std.proofs.Common.{◌≡◌, ℕ, Bool, true, false, not, ◌&&◌, ◌||◌, ◌==◌, cond, List, [], ◌∷◌, refl, ap, sym, ◌∙◌, subst}
use Rattle.std.proofs.lemmas.Bool.{eqb-true, not-false}
use Rattle.c_lexer.specs.declared.state.Closing.{Closing}
use Rattle.c_lexer.specs.declared.state.Closing.TheVariants.{Open, Starred, Continued, Returned, Joined}
use Rattle.c_lexer.specs.declared.state.State.TheVariants.{InComment}
use Rattle.c_lexer.specs.declared.state.Ended.TheVariants as ended
use Rattle.c_lexer.specs.declared.state.Taken.TheVariants.{Go}
use Rattle.c_lexer.specs.Bytes.{is_space}
use Rattle.c_lexer.specs.PieceSteps.{slash_follows, is_single, closes}
use Rattle.c_lexer.specs.Machine.{continued_step, closing_else, closing_step, in_comment}
use Rattle.c_lexer.proofs.Truths.{not_true}
use Rattle.c_lexer.proofs.OpenComments.{or_none}

-- these bytes close a comment that stands so
abbrev pub closes_from : Closing → List ℕ → Bool
closes_from Open w = closes w
closes_from Starred w = cond (slash_follows false w) (is_single w) (closes w)
closes_from Continued w = cond (slash_follows true w) false (closes w)
closes_from Returned w = cond (slash_follows true w || slash_follows false w) false (closes w)
closes_from Joined w = cond (slash_follows false w) false (closes w)

-- no byte closes it here, nor would it with its lines joined
abbrev pub goes_on : Closing → ℕ → Bool
goes_on Open b = true
goes_on Starred b = not (b == 47)
goes_on Continued b = true
goes_on _ b = not (b == 47)

pub none_left : (c : Closing) → closes_from c [] ≡ false
none_left Open = refl
none_left Starred = refl
none_left Continued = refl
none_left Returned = refl
none_left Joined = refl

-- behind a byte that is no `*`
past_other : (b : ℕ) (w : List ℕ) → (b == 42) ≡ false → closes (b ∷ w) ≡ closes w
past_other b w h = rw h

at_star : (c : Closing) (w : List ℕ) → closes_from c (42 ∷ w) ≡ closes_from Starred w
at_star Open w = refl
at_star Starred w = refl
at_star Continued w = refl
at_star Returned w = refl
at_star Joined w = refl

single_more : (b : ℕ) (w : List ℕ) → slash_follows true w ≡ true → is_single (b ∷ w) ≡ false
single_more b [] h = absurd cc
single_more b (d ∷ w) h = refl

starred_backslash : (w : List ℕ) → closes_from Starred (92 ∷ w) ≡ closes_from Continued w
starred_backslash w = go (slash_follows true w) refl
  where
    go : (c : Bool) → slash_follows true w ≡ c → cond (slash_follows true w) (is_single (92 ∷ w)) (closes w) ≡ cond (slash_follows true w) false (closes w)
    go true e = let x = single_more 92 w e in rw (e, x)
    go false e = rw e

-- behind a carriage return too a `/` may follow at once
no_return : (a : Bool) (b : ℕ) (c : Bool) → (b == 13) ≡ false → (a || (b == 13 && c)) ≡ a
no_return a b c h = ap (λ (x : Bool). a || (x && c)) h ∙ or_none a

continued_space : (b : ℕ) (w : List ℕ) → (b == 42) ≡ false → (b == 10) ≡ false → (b == 13) ≡ false → is_space b ≡ true →
    closes_from Continued (b ∷ w) ≡ closes_from Continued w
continued_space b w h e k f = let y = no_return (slash_follows true w) b (slash_follows false w) k in rw (e, f, y, h)

continued_other : (b : ℕ) (w : List ℕ) → (b == 42) ≡ false → (b == 10) ≡ false → is_space b ≡ false → closes_from Continued (b ∷ w) ≡ closes_from Open w
continued_other b w h e f = rw (e, f, h)

continued : (b : ℕ) (w : List ℕ) → (b == 42) ≡ false → closes_from Continued (b ∷ w) ≡ closes_from (continued_step b) w
continued b w h = go (b == 10) refl (b == 13) refl (is_space b) refl
  where
    go : (c : Bool) → (b == 10) ≡ c → (d : Bool) → (b == 13) ≡ d → (x : Bool) → is_space b ≡ x →
        closes_from Continued (b ∷ w) ≡ closes_from (cond c Joined (cond d Returned (cond x Continued Open))) w
    go true e d k x f = rw (e, h)
    go false e true k x f = subst (λ (i : ℕ). closes_from Continued (i ∷ w) ≡ closes_from Returned w) (sym (eqb-true b 13 k)) refl
    go false e false k true f = continued_space b w h e k f
    go false e false k false f = continued_other b w h e f

other : (c : Closing) (b : ℕ) (w : List ℕ) → goes_on c b ≡ true → (b == 42) ≡ false → closes_from c (b ∷ w) ≡ closes_from (closing_else c b) w
other Open b w g h = past_other b w h
other Starred b w g h = go (b == 92) refl
  where
    go : (c : Bool) → (b == 92) ≡ c → closes_from Starred (b ∷ w) ≡ closes_from (cond c Continued Open) w
    go true e = subst (λ (i : ℕ). closes_from Starred (i ∷ w) ≡ closes_from Continued w) (sym (eqb-true b 92 e)) (starred_backslash w)
    go false e = let x = not_true (b == 47) g in rw (x, e, h)
other Joined b w g h = go (b == 92) refl
  where
    go : (c : Bool) → (b == 92) ≡ c → closes_from Joined (b ∷ w) ≡ closes_from (cond c Continued Open) w
    go true e = subst (λ (i : ℕ). closes_from Joined (i ∷ w) ≡ closes_from Continued w) (sym (eqb-true b 92 e)) refl
    go false e = let x = not_true (b == 47) g in rw (x, e, h)
other Continued b w g h = continued b w h
other Returned b w g h = go (b == 92) refl
  where
    x : (b == 47) ≡ false
    x = not_true (b == 47) g

    go : (c : Bool) → (b == 92) ≡ c → closes_from Returned (b ∷ w) ≡ closes_from (cond c Continued (continued_step b)) w
    go true e = subst (λ (i : ℕ). closes_from Returned (i ∷ w) ≡ closes_from Continued w) (sym (eqb-true b 92 e)) refl
    go false e =
        ap (λ (d : Bool). cond (slash_follows true (b ∷ w) || d) false (closes (b ∷ w))) (let y : slash_follows false (b ∷ w) ≡ false = rw (x, e) in y)
        ∙ ap (λ (d : Bool). cond d false (closes (b ∷ w))) (or_none (slash_follows true (b ∷ w))) ∙ continued b w h

-- what a byte does to it
pub closes_on : (c : Closing) (b : ℕ) (w : List ℕ) → goes_on c b ≡ true → closes_from c (b ∷ w) ≡ closes_from (closing_step c b) w
closes_on c b w g = go (b == 42) refl
  where
    go : (d : Bool) → (b == 42) ≡ d → closes_from c (b ∷ w) ≡ closes_from (cond d Starred (closing_else c b)) w
    go true e = subst (λ (i : ℕ). closes_from c (i ∷ w) ≡ closes_from Starred w) (sym (eqb-true b 42 e)) (at_star c w)
    go false e = other c b w g e

nothing_more : (w : List ℕ) → is_single (47 ∷ w) ≡ true → w ≡ []
nothing_more [] h = refl
nothing_more (b ∷ w) h = absurd cc

-- a byte at which it ends is the last `/`, directly behind a `*`
pub last_slash : (c : Closing) (b : ℕ) (w : List ℕ) → goes_on c b ≡ false → closes_from c (b ∷ w) ≡ true → (c ≡ Starred) × (b ≡ 47) × (w ≡ [])
last_slash Open b w g h = absurd cc
last_slash Continued b w g h = absurd cc
last_slash Starred b w g h = let x = eqb-true b 47 (not-false (b == 47) g) in
    (refl, x, nothing_more w (subst (λ (i : ℕ). closes_from Starred (i ∷ w) ≡ true) x h))
last_slash Returned b w g h = let x = eqb-true b 47 (not-false (b == 47) g) in
    absurd (let y : false ≡ true = subst (λ (i : ℕ). closes_from Returned (i ∷ w) ≡ true) x h in cc)
last_slash Joined b w g h = let x = eqb-true b 47 (not-false (b == 47) g) in
    absurd (let y : false ≡ true = subst (λ (i : ℕ). closes_from Joined (i ∷ w) ≡ true) x h in cc)

pub comment_on : (s : ℕ) (c : Closing) (b at : ℕ) → goes_on c b ≡ true → in_comment s c b at ≡ Go (InComment s (closing_step c b)) ended.Nothing
comment_on s Open b at g = refl
comment_on s Continued b at g = refl
comment_on s _ b at g = let x = not_true (b == 47) g in rw x
