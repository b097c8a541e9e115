-- The end of a pass over a text.
use Rattle.std.proofs.Common.{◌≡◌, ◌≤◌, ℕ, true, not, ◌&&◌, ◌==◌, List, [], drop, length, Ok, refl, ap, sym, subst, ◌∙◌, arith}
use Rattle.std.proofs.lemmas.Bool.{eqb-true}
use Rattle.std.proofs.lemmas.List.{drop_all}
use Rattle.c_lexer.specs.declared.state.State.{State}
use Rattle.c_lexer.specs.declared.state.State.TheVariants.{Between, InWord, InText, InComment}
use Rattle.c_lexer.specs.declared.state.Closing.TheVariants.{Open}
use Rattle.c_lexer.specs.declared.state.Ended.TheVariants as ended
use Rattle.c_lexer.specs.declared.state.Ended.{Ended}
use Rattle.c_lexer.specs.declared.state.Taken.{Taken}
use Rattle.c_lexer.specs.declared.state.Taken.TheVariants.{Go}
use Rattle.c_lexer.specs.declared.token.Scanned.{Scanned}
use Rattle.c_lexer.specs.Machine.{Read, go_on, run, step, stays, finish, add_ended}
use Rattle.c_lexer.proofs.Truths.{both_true, not_true}
use Rattle.c_lexer.specs.Answers.{answer, nothing, scanning}

-- a byte that stays is passed
pub stays_is : (t : List ℕ) (s : State) (b at : ℕ) → stays s b ≡ true → step t s b at ≡ Go s ended.Nothing
stays_is t (Between first) b at h = subst (λ (i : ℕ). step t (Between first) i at ≡ Go (Between first) ended.Nothing) (sym (eqb-true b 32 h)) refl
stays_is t (InWord s) b at h = rw h
stays_is t (InText s) b at h =
    let p = both_true (not (b == 10) && not (b == 34)) (not (b == 92)) h in
    let q = both_true (not (b == 10)) (not (b == 34)) p.0 in
    let u = not_true (b == 10) q.0 in
    let v = not_true (b == 34) q.1 in
    let w = not_true (b == 92) p.1 in
    rw (v, w, u)
stays_is t (InComment s Open) b at h = let x = not_true (b == 42) h in rw x
stays_is t _ b at h = absurd cc

same_place : (i n : ℕ) → i ≤ n → n ≤ i → i ≡ n
same_place i n h k = omega arith

-- what the end gives is what the text gives
pub read_all : (t : List ℕ) (s last : State) (i : ℕ) (out : Scanned) (ended : Ended)
    → run add_ended t (Between true) 0 nothing t ≡ run add_ended t s i out (drop i t) → i ≤ length t → length t ≤ i → Go last ended ≡ finish t s (length t)
    → scanning t ≡ Ok (add_ended ended out)
read_all t s last i out ended same within past e =
    let place = same_place i (length t) within past in
    ap (answer t) (same ∙ ap (run add_ended t s i out) (drop_all i t past) ∙ ap (λ (n : ℕ). run add_ended t s n out []) place ∙
    ap (λ (n : Taken). go_on add_ended n out (λ z (more : Scanned). Read more)) (sym e))
