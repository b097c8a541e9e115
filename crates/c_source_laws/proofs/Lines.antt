-- A line, without the carriage returns at its end, is one line.
use Rattle.std.proofs.Common.{◌≡◌, ℕ, Bool, true, false, cond, not, ◌&&◌, ◌==◌, List, [], ◌∷◌, ◌++◌, None, refl, ap, sym, ◌∙◌}
use Rattle.std.proofs.lemmas.Bool.{eqb-true}
use Rattle.std.specs.List.{list_all}
use Rattle.c_lexer.specs.Bytes.{is_space, is_newline, is_return}
use Rattle.c_lexer.specs.Machine.{breaks_before, breaks_line, broken_at}
use Rattle.c_lexer.specs.Pieces.{bare, onto_bare, runs_on, NewlineNext, IsLine}
use Rattle.c_lexer.proofs.Lines.{has_no_newline, no_newline, not_broken, runs_to_newline, not_here, here_not}
use Rattle.c_lexer.proofs.Truths.{both_true}
use Rattle.c_resolved_defs.specs.Verbatims.{IsOneLine}
use Rattle.print_laws.proofs.Tokens.{bare_front}

-- ---- what is bare stays so

bare_twice : (w : List ℕ) → bare (bare w) ≡ bare w
bare_twice [] = refl
bare_twice (b ∷ w) = by_rest (bare w) (bare_twice w)
  where
    by_return : (x : Bool) → (b == 13) ≡ x → bare (cond x [] (b ∷ [])) ≡ cond x [] (b ∷ [])
    by_return true e = refl
    by_return false e = ap (λ x. cond x [] (b ∷ [])) e

    by_rest : (v : List ℕ) → bare v ≡ v → bare (onto_bare b v) ≡ onto_bare b v
    by_rest [] e = by_return (b == 13) refl
    by_rest (d ∷ v) e = ap (onto_bare b) e

-- ---- it has no newline, and doesn't break off

front_all : (f : ℕ → Bool) (v u : List ℕ) → list_all f (v ++ u) ≡ true → list_all f v ≡ true
front_all f [] u h = refl
front_all f (b ∷ v) u h = let m = both_true (f b) (list_all f (v ++ u)) h in rw (m.0, front_all f v u (m.1)) refl

bare_line : (w : List ℕ) → has_no_newline w ≡ true → has_no_newline (bare w) ≡ true
bare_line w h = let m = bare_front w in front_all (λ b. not (is_newline b)) (bare w) (m.0) (ap has_no_newline (sym (m.1)) ∙ h)

return_space : (b : ℕ) → (b == 13) ≡ true → is_space b ≡ true
return_space b e = ap is_space (eqb-true b 13 e)

space_bare : (w : List ℕ) → list_all is_space w ≡ list_all is_space (bare w)
space_bare [] = refl
space_bare (b ∷ w) = by_rest (bare w) (space_bare w)
  where
    by_return : (x : Bool) → (b == 13) ≡ x → (is_space b && true) ≡ list_all is_space (cond x [] (b ∷ []))
    by_return true e = rw (return_space b e) refl
    by_return false e = refl

    by_rest : (v : List ℕ) → list_all is_space w ≡ list_all is_space v → list_all is_space (b ∷ w) ≡ list_all is_space (onto_bare b v)
    by_rest [] e = ap (λ x. is_space b && x) e ∙ by_return (b == 13) refl
    by_rest (d ∷ v) e = ap (λ x. is_space b && x) e

returns_bare : (w : List ℕ) → list_all is_return w ≡ list_all is_return (bare w)
returns_bare [] = refl
returns_bare (b ∷ w) = by_rest (bare w) (returns_bare w)
  where
    by_return : (x : Bool) → (b == 13) ≡ x → (is_return b && true) ≡ list_all is_return (cond x [] (b ∷ []))
    by_return true e = rw e refl
    by_return false e = refl

    by_rest : (v : List ℕ) → list_all is_return w ≡ list_all is_return v → list_all is_return (b ∷ w) ≡ list_all is_return (onto_bare b v)
    by_rest [] e = ap (λ x. is_return b && x) e ∙ by_return (b == 13) refl
    by_rest (d ∷ v) e = ap (λ x. is_return b && x) e

breaks_bare : (b : ℕ) (w : List ℕ) → breaks_line b (bare w) ≡ breaks_line b w
breaks_bare b w = ap (λ x. breaks_before b x (list_all is_return (bare w))) (sym (space_bare w)) ∙
    ap (breaks_before b (list_all is_space w)) (sym (returns_bare w))

bare_whole : (w : List ℕ) → broken_at w ≡ None → broken_at (bare w) ≡ None
bare_whole [] h = refl
bare_whole (b ∷ w) h =
    let m = not_here (breaks_line b w) (broken_at w) h in
    by_rest (bare w) (breaks_bare b w ∙ m.0) (bare_whole w (m.1))
  where
    by_return : (x : Bool) → breaks_line b [] ≡ false → broken_at (cond x [] (b ∷ [])) ≡ None
    by_return true e = refl
    by_return false e = here_not (breaks_line b []) None e refl

    by_rest : (v : List ℕ) → breaks_line b v ≡ false → broken_at v ≡ None → broken_at (onto_bare b v) ≡ None
    by_rest [] e g = by_return (b == 13) e
    by_rest (d ∷ v) e g = here_not (breaks_line b (d ∷ v)) (broken_at (d ∷ v)) e g

before_newline : (w r : List ℕ) → NewlineNext r → runs_on w r ≡ true → IsOneLine (bare w)
before_newline w r n h =
    record { whole = runs_to_newline (bare w) (10 ∷ []) refl (bare_line w (no_newline w r h)) (bare_whole w (not_broken w r n h)); ended = bare_twice w }

pub one_line : (w r : List ℕ) → IsLine w r → IsOneLine (bare w)
one_line w r h = before_newline w r (h.1) (h.0)
