-- What two functions want, one by one.
use Rattle.std.proofs.Common.{◌≡◌, ◌≢◌, ◌<◌, ◌≤◌, ◌+◌, ◌&&◌, ℕ, suc, true, false, List, [], ◌∷◌, length, get_or, drop, refl, ap, ◌∙◌, arith, add-one, drop-cons}
use Rattle.std.proofs.lemmas.List.{drop_all}
use Rattle.c_lexer.proofs.Truths.{and_false}
use Rattle.c_kinds.specs.declared.binding.Want.{Want}
use Rattle.c_scopes.specs.FunctionNames.{same_want, same_wants}

pub same-next : (a b : List Want) (i : ℕ) (d e : Want) → i < length a → length a ≡ length b
    → same_wants (drop i a) (drop i b) ≡ (same_want (get_or a i d) (get_or b i e) && same_wants (drop (i + 1) a) (drop (i + 1) b))
same-next a b i d e h l = let k : i < length b = omega arith in rw (add-one, drop-cons a i d, drop-cons b i e) refl

pub same-end : (a b : List Want) (i : ℕ) → length a ≤ i → length a ≡ length b → same_wants (drop i a) (drop i b) ≡ true
same-end a b i h l = let k : length b ≤ i = omega arith in rw (drop_all i a h, drop_all i b k) refl

pub same-lengths : (a b : List Want) → length a ≢ length b → same_wants a b ≡ false
same-lengths [] [] h = absurd (h refl)
same-lengths [] (y ∷ ys) h = refl
same-lengths (x ∷ xs) [] h = refl
same-lengths (x ∷ xs) (y ∷ ys) h = ap (λ r. same_want x y && r) (same-lengths xs ys (λ e. h (ap suc e))) ∙ and_false (same_want x y)

pub ruleset same = (same-next, same-end, same-lengths)
