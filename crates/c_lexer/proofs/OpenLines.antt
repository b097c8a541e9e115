-- Carriage returns at the end of an `#include` line open and close no comment.
use Rattle.std.proofs.Common.{◌≡◌, ℕ, Bool, true, false, ◌&&◌, ◌==◌, cond, List, [], ◌∷◌, refl, ap, sym, ◌∙◌}
use Rattle.std.proofs.lemmas.Bool.{eqb-true}
use Rattle.c_lexer.specs.declared.directive.Before.{Before}
use Rattle.c_lexer.specs.declared.directive.Before.TheVariants as b
use Rattle.c_lexer.specs.IncludeSteps.{past, is_open, open_behind, leaves_open}
use Rattle.c_lexer.specs.Pieces.{bare, onto_bare}

name_on : (c slashed : Bool) (end : ℕ) → false ≡ is_open (cond c (b.Outside true false) (cond (slashed && false) (b.Doubt true false false) (b.Name end false)))
name_on true slashed end = refl
name_on false true end = refl
name_on false false end = refl

return_on : (x : Before) → is_open x ≡ is_open (past x 13)
return_on (b.Outside true true) = refl
return_on (b.Outside true false) = refl
return_on (b.Outside false true) = refl
return_on (b.Outside false false) = refl
return_on (b.Name end slashed) = name_on (13 == end) slashed end
return_on (b.Comment named true) = refl
return_on (b.Comment named false) = refl
return_on b.Line = refl
return_on (b.Doubt opened true true) = refl
return_on (b.Doubt opened true false) = refl
return_on (b.Doubt opened false true) = refl
return_on (b.Doubt opened false false) = refl

open_bare : (w : List ℕ) (x : Before) → open_behind x (bare w) ≡ open_behind x w
open_bare [] x = refl
open_bare (a ∷ w) x = by_rest (bare w) ∙ open_bare w (past x a)
  where
    by_return : (y : Bool) → (a == 13) ≡ y → open_behind x (cond y [] (a ∷ [])) ≡ is_open (past x a)
    by_return true e = return_on x ∙ ap (λ i. is_open (past x i)) (sym (eqb-true a 13 e))
    by_return false e = refl

    by_rest : (v : List ℕ) → open_behind x (onto_bare a v) ≡ open_behind (past x a) v
    by_rest [] = by_return (a == 13) refl
    by_rest (d ∷ v) = refl

pub leaves_bare : (w : List ℕ) → leaves_open (bare w) ≡ leaves_open w
leaves_bare w = open_bare w (b.Outside false false)
