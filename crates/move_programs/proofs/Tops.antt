-- How far a program has come.
use Rattle.std.proofs.Common.{◌≡◌, ℕ, zero, suc, ◌≤◌, List, [], ◌∷◌, ◌++◌, length, take, drop, Some, slice_get, slice_set, All, refl, sym, ap, subst, ◌∙◌, arith, append_assoc}
use Rattle.std.proofs.lemmas.List.{drop_all, append-nil}
use Rattle.std.proofs.lemmas.List.Elements.{All-tail}
use Rattle.c_tree.specs.declared.tree.Function.{Function}
use Rattle.c_tree.specs.declared.tree.Top.{Top}
use Rattle.c_tree.specs.declared.tree.Top.TheVariants as T
use Rattle.c_tree.proofs.MoveLemmas.{drop_at}
use Rattle.jump_meaning.specs.Laws.{IsTopUnflat}
use Rattle.report_moves.specs.declared.moves.Move.{Move}
use Rattle.move_order_laws.specs.Moved.{MovedTop, mt_other, MovedTops, mt_none, mt_more, IsTopMovable}
use Rattle.move_order_laws.proofs.Around.{drop_set}

-- the tops before i are moved, by these moves
pub record AreMovedTo (i : ℕ) (old now : List Top) (ms : List Move) : Type 0 where
  pub continues : (us : List Top) (ns : List Move) → MovedTops (drop i now) us ns → MovedTops old (take i now ++ us) (ms ++ ns)
  pub movable : All IsTopMovable (drop i now)

pub taken_set : {A : Type 0} (xs : List A) (i : ℕ) (x y : A) (zs : List A) → slice_get xs i ≡ Some x →
    take (suc i) (slice_set xs i y) ++ zs ≡ take i xs ++ y ∷ zs
taken_set [] i x y zs e = cc
taken_set (w ∷ xs) zero x y zs e = refl
taken_set (w ∷ xs) (suc i) x y zs e = ap (λ z. w ∷ z) (taken_set xs i x y zs e)

pub taken_all : {A : Type 0} (xs : List A) (i : ℕ) → length xs ≤ i → take i xs ++ [] ≡ xs
taken_all [] zero h = refl
taken_all [] (suc i) h = refl
taken_all (x ∷ xs) zero h = absurd (omega arith)
taken_all (x ∷ xs) (suc i) h = let g : length xs ≤ i = omega arith in ap (λ z. x ∷ z) (taken_all xs i g)

pub starts : (tops : List Top) (ms : List Move) → ms ≡ [] → All IsTopMovable tops → AreMovedTo 0 tops tops ms
starts tops ms e a = record { continues = λ us ns r. subst (λ z. MovedTops tops us (z ++ ns)) (sym e) r; movable = a }

pub one_more : (i : ℕ) (old now : List Top) (ms ks all : List Move) (t u : Top) → slice_get now i ≡ Some t → MovedTop t u ks → all ≡ ms ++ ks →
    AreMovedTo i old now ms → AreMovedTo (suc i) old (slice_set now i u) all
one_more i old now ms ks all t u e m f h = record {
  continues = λ us ns r.
      let rest : MovedTops (drop (suc i) now) us ns = subst (λ z. MovedTops z us ns) (drop_set now i u) r in
      let here : MovedTops (drop i now) (u ∷ us) (ks ++ ns) = subst (λ z. MovedTops z (u ∷ us) (ks ++ ns)) (sym (drop_at now i t e)) (mt_more m rest) in
      let done : MovedTops old (take i now ++ u ∷ us) (ms ++ (ks ++ ns)) = h.continues (u ∷ us) (ks ++ ns) here in
      let moves : ms ++ (ks ++ ns) ≡ all ++ ns = sym (append_assoc ms ks ns) ∙ ap (λ z. z ++ ns) (sym f) in
      subst (λ z. MovedTops old z (all ++ ns)) (sym (taken_set now i t u us e)) (subst (MovedTops old (take i now ++ u ∷ us)) moves done);
  movable = subst (All IsTopMovable) (sym (drop_set now i u))
      (All-tail IsTopMovable t (drop (suc i) now) (subst (All IsTopMovable) (drop_at now i t e) h.movable));
}

pub all_moved : (i : ℕ) (old now : List Top) (ms : List Move) → length now ≤ i → AreMovedTo i old now ms → MovedTops old now ms
all_moved i old now ms h m =
    let r = m.continues [] [] (subst (λ z. MovedTops z [] []) (sym (drop_all i now h)) mt_none) in
    subst (λ z. MovedTops old z ms) (taken_all now i h) (subst (MovedTops old (take i now ++ [])) (append-nil ms) r)

-- what isn't a flat function stays
pub stays : (t : Top) (ms : List Move) → IsTopUnflat t → ms ≡ [] → MovedTop t t ms
stays t ms u e = subst (MovedTop t t) (sym e) (mt_other t u)

pub no_function : (t : Top) → ((f : Function) → t ≡ T.Function f → ⊥) → IsTopUnflat t
no_function (T.Function f) n = absurd (n f refl)
no_function _ n = tt
