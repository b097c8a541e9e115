-- Moves in the functions of a program, one place after another.
use Rattle.std.proofs.Common.{◌≡◌, ℕ, zero, suc, ◌+◌, ◌<◌, List, [], ◌∷◌, ◌++◌, map, Option, Some, None, IfSome, All, slice_get, slice_set, get_or, take, drop, length, sym, ap, subst, ◌∙◌, arith}
use Rattle.std.proofs.lemmas.List.Elements.{All-head, All-tail}
use Rattle.c_tree.specs.InRange.{body_of}
use Rattle.c_tree.specs.declared.tree.Function.{Function}
use Rattle.c_tree.specs.declared.tree.Top.{Top}
use Rattle.c_tree.specs.declared.tree.Top.TheVariants as T
use Rattle.c_tree.proofs.MoveLemmas.{some_same}
use Rattle.move_order_laws.specs.Leaps.{leaps}
use Rattle.report_moves.specs.declared.moves.Move.{Move}
use Rattle.restructure_laws.specs.Lawful as L
use Rattle.restructure_laws.specs.Lawful.{IsOther, OneMoved, Moves, none, more}
use Rattle.restructure_laws.specs.Replayed.{IsTopWellMade, IsTopLeapless}
use Rattle.restructure_laws.proofs.Rewriting.{moves_both}
use Rattle.restructure_laws.proofs.Whole.{lawful_laws}
use Rattle.move_replay.specs.Steps.{IsFlatOf, IsLeaplessAt, IsPlaceOf, IsTopMoved}

-- ---- lists

pub got : {A : Type 0} (xs : List A) (i : ℕ) (x : A) → i < length xs → x ≡ get_or xs i x → slice_get xs i ≡ Some x
got [] i x h e = absurd (omega arith)
got (y ∷ xs) zero x h e = ap Some (sym e)
got (y ∷ xs) (suc i) x h e = let g : i < length xs = omega arith in got xs i x g e

taken_more : {A : Type 0} (xs : List A) (i : ℕ) (x : A) → slice_get xs i ≡ Some x → take (suc i) xs ≡ take i xs ++ x ∷ []
taken_more [] i x e = cc
taken_more (y ∷ xs) zero x e = ap (λ z. z ∷ []) (some_same e)
taken_more (y ∷ xs) (suc i) x e = ap (λ z. y ∷ z) (taken_more xs i x e)

-- one element more is replaced by what f makes of it
replaced : {A : Type 0} (f : A → A) (xs : List A) (i : ℕ) (x : A) → slice_get (map f (take i xs) ++ drop i xs) i ≡ Some x →
    slice_set (map f (take i xs) ++ drop i xs) i (f x) ≡ map f (take (suc i) xs) ++ drop (suc i) xs
replaced f [] zero x e = cc
replaced f [] (suc i) x e = cc
replaced f (y ∷ xs) zero x e = ap (λ z. f z ∷ xs) (sym (some_same e))
replaced f (y ∷ xs) (suc i) x e = ap (λ z. f y ∷ z) (replaced f xs i x e)

pub replaced_at : {A : Type 0} (f : A → A) (xs now : List A) (i : ℕ) (x y : A) → now ≡ map f (take i xs) ++ drop i xs → slice_get now i ≡ Some x →
    y ≡ f x → slice_set now i y ≡ map f (take (i + 1) xs) ++ drop (i + 1) xs
replaced_at f xs now i x y e g h =
    let more : suc i ≡ i + 1 = omega arith in
    let r = replaced f xs i x (ap (λ z. slice_get z i) (sym e) ∙ g) in
    ap (λ z. slice_set now i z) h ∙ ap (λ z. slice_set z i (f x)) e ∙ r ∙ ap (λ k. map f (take k xs) ++ drop k xs) more

-- ---- one move

top_made : (m : Move) (t u : Top) (ts : List Top) → IsTopMoved m t u → OneMoved m (t ∷ ts) (u ∷ ts)
top_made m (T.Function f) (T.Function g) ts h = L.this_function ts h
top_made m (T.Function f) _ ts h = absurd h
top_made m (T.Include x) u ts h = absurd h
top_made m _ u ts h = absurd h

made_there : (m : Move) (ts : List Top) (i : ℕ) (t u : Top) → slice_get ts i ≡ Some t → All (IsOther m.function) (take i ts) → IsTopMoved m t u →
    OneMoved m ts (slice_set ts i u)
made_there m [] i t u e a h = cc
made_there m (x ∷ xs) zero t u e a h = top_made m x u xs (subst (λ z. IsTopMoved m z u) (sym (some_same e)) h)
made_there m (x ∷ xs) (suc i) t u e a h =
    L.later_function x (All-head (IsOther m.function) x (take i xs) a) (made_there m xs i t u e (All-tail (IsOther m.function) x (take i xs) a) h)

not_both : (name : List ℕ) (t : Top) → IsFlatOf name t → IsOther name t → ⊥
not_both name (T.Function f) h o = o h.0 h.1
not_both name _ h o = h

not_there : (m : Move) (ts us : List Top) (i : ℕ) (t : Top) → slice_get ts i ≡ Some t → IsFlatOf m.function t → All (IsOther m.function) (take i ts) →
    ((u : Top) → IsTopMoved m t u → ⊥) → OneMoved m ts us → ⊥
not_there m [] us i t e f a n h = cc
not_there m (x ∷ xs) us zero t e f a n (L.this_function {f = g} {g = k} ts h) = n (T.Function k) (subst (λ z. IsTopMoved m z (T.Function k)) (some_same e) h)
not_there m (x ∷ xs) us zero t e f a n (L.later_function y o h) = not_both m.function x (subst (IsFlatOf m.function) (sym (some_same e)) f) o
not_there m (x ∷ xs) us (suc i) t e f a n (L.this_function {f = g} ts h) = All-head (IsOther m.function) x (take i xs) a h.flat h.name
not_there m (x ∷ xs) us (suc i) t e f a n (L.later_function y {us = vs} o h) = not_there m xs vs i t e f (All-tail (IsOther m.function) x (take i xs) a) n h

pub nowhere : {m : Move} {ts us : List Top} → All (IsOther m.function) ts → OneMoved m ts us → ⊥
nowhere {m = m} a (L.this_function {f = f} ts h) = All-head (IsOther m.function) (T.Function f) ts a h.flat h.name
nowhere {m = m} a (L.later_function t {ts = ts} o h) = nowhere (All-tail (IsOther m.function) t ts a) h

pub made_at : (m : Move) (ts slice : List Top) (i : ℕ) (t u : Top) → slice ≡ ts → IsPlaceOf m.function slice i → slice_get ts i ≡ Some t →
    IsTopMoved m t u → OneMoved m ts (slice_set ts i u)
made_at m ts slice i t u e p g h = made_there m ts i t u g (subst (λ z. All (IsOther m.function) (take i z)) e p.before) h

pub not_at : (m : Move) (ts slice us : List Top) (i : ℕ) (t : Top) → slice ≡ ts → IsPlaceOf m.function slice i → slice_get ts i ≡ Some t →
    ((u : Top) → IsTopMoved m t u → ⊥) → OneMoved m ts us → ⊥
not_at m ts slice us i t e p g n h =
    let same : p.top ≡ t = some_same (sym p.there ∙ ap (λ z. slice_get z i) e ∙ g) in
    not_there m ts us i t g (subst (IsFlatOf m.function) same p.flat) (subst (λ z. All (IsOther m.function) (take i z)) e p.before) n h

-- ---- a function in which no Leap is left

set_there : {A : Type 0} (xs : List A) (i : ℕ) (x y z : A) → slice_get xs i ≡ Some x → slice_get (slice_set xs i y) i ≡ Some z → y ≡ z
set_there [] i x y z e f = cc
set_there (w ∷ xs) zero x y z e f = some_same f
set_there (w ∷ xs) (suc i) x y z e f = set_there xs i x y z e f

pub leapless_there : (o : Option ℕ) (ts : List Top) (i : ℕ) (t : Top) → IsLeaplessAt o ts → slice_get ts i ≡ Some t → o ≡ Some i → IsTopLeapless t
leapless_there None ts i t h g e = cc
leapless_there (Some k) ts i t h g e = h t (ap (slice_get ts) (some_same e) ∙ g)

pub leapless_set : (o : Option ℕ) (ts : List Top) (i : ℕ) (t u : Top) → slice_get ts i ≡ Some t → IfSome o (λ k. (k ≡ i) × IsTopLeapless u)
    → IsLeaplessAt o (slice_set ts i u)
leapless_set None ts i t u g h = tt
leapless_set (Some k) ts i t u g h = λ v e. subst IsTopLeapless (set_there ts i t u v g (ap (slice_get (slice_set ts i u)) (sym h.0) ∙ e)) h.1

pub flat_leapless : (name : List ℕ) (t : Top) (f : Function) → IsTopLeapless t → IsFlatOf name t → t ≡ T.Function f → leaps (body_of f) ≡ 0
flat_leapless name t f h w e = let g = subst IsTopLeapless e h in g (subst (IsFlatOf name) e w).0

-- ---- many

pub one_more : (ts us vs : List Top) (ms : List Move) (i : ℕ) (m : Move) → slice_get ms i ≡ Some m → Moves ts (take i ms) us × All IsTopWellMade us →
    OneMoved m us vs → Moves ts (take (i + 1) ms) vs × All IsTopWellMade vs
one_more ts us vs ms i m e a h =
    let more_ : suc i ≡ i + 1 = omega arith in
    let r : Moves ts (take i ms ++ m ∷ []) vs = moves_both a.0 (more h none) in (
      subst (λ k. Moves ts (take k ms) vs) more_ (subst (λ z. Moves ts z vs) (sym (taken_more ms i m e)) r),
      lawful_laws.well_made us vs (m ∷ []) a.1 (more h none),
    )
