-- The place of a function in a table, which no move changes.
use Rattle.std.proofs.Common.{◌≡◌, ℕ, zero, suc, ◌+◌, ◌⊎◌, inl, inr, Bool, true, false, cond, ◌&&◌, List, [], ◌∷◌, Option, Some, None, MatchOption, All, take, slice_get, rules, refl, sym, ap, subst, ◌∙◌, arith}
use Rattle.std.specs.Str.{bytes_eq}
use Rattle.std.proofs.lemmas.List.Elements.{All-cons, All-head, All-tail}
use Rattle.std.proofs.lemmas.Slice.Eq.{bytes_eq-Decides}
use Rattle.c_tree.specs.declared.tree.Top.{Top}
use Rattle.c_tree.specs.declared.tree.Top.TheVariants as T
use Rattle.c_tree.specs.declared.tree.Function.{Function}
use Rattle.c_tree.proofs.MoveLemmas.{some_same}
use Rattle.report_moves.specs.declared.moves.Move.{Move}
use Rattle.restructure_laws.specs.Lawful as L
use Rattle.restructure_laws.specs.Lawful.{IsOther, OneMoved}
use Rattle.move_replay.specs.declared.places.Places.{Places}
use Rattle.move_replay.specs.Places.{found_at, place_from, place_in, Finds}
use Rattle.move_replay.specs.Steps.{IsFlatOf, IsPlaceOf}

-- it is found there, or is another
abbrev Cases : List ℕ → ℕ → Top → Option ℕ → Type 0
Cases m k t o = (IsFlatOf m t × (found_at m k t o ≡ Some k)) ⊎ (IsOther m t × (found_at m k t o ≡ o))

no_elements : {A : Type 0} (P : A → Type 0) → All P []
no_elements P k d h = absurd (omega (arith, h))

flat_cases : (m : List ℕ) (k : ℕ) (f : Function) (o : Option ℕ) (b c : Bool) → f.flat ≡ b → bytes_eq f.name m ≡ c → Cases m k (T.Function f) o
flat_cases m k f o true true e g = inl (
  (e, search (rules, bytes_eq-Decides)),
  ap (λ z. cond {A = Option ℕ} (z && bytes_eq f.name m) (Some k) o) e ∙
      ap (λ z. cond {A = Option ℕ} z (Some k) o) g,
)
flat_cases m k f o true false e g = inr (
  search (rules, bytes_eq-Decides),
  ap (λ z. cond {A = Option ℕ} (z && bytes_eq f.name m) (Some k) o) e ∙
      ap (λ z. cond {A = Option ℕ} z (Some k) o) g,
)
flat_cases m k f o false c e g = inr ((λ h. let i : true ≡ false = sym h ∙ e in cc), ap (λ z. cond {A = Option ℕ} (z && bytes_eq f.name m) (Some k) o) e)

cases : (m : List ℕ) (k : ℕ) (t : Top) (o : Option ℕ) → Cases m k t o
cases m k (T.Function f) o = flat_cases m k f o f.flat (bytes_eq f.name m) refl refl
cases m k _ o = inr (tt, refl)

none_is : (m : List ℕ) (k : ℕ) (ts : List Top) → place_from k m ts ≡ None → All (IsOther m) ts
none_is m k [] e = no_elements (IsOther m)
none_is m k (t ∷ ts) e = elim (cases m k t (place_from (suc k) m ts)) [
  | inl p ↦ let f : Some k ≡ None = sym p.1 ∙ e in cc
  | inr p ↦ All-cons (IsOther m) t ts p.0 (none_is m (suc k) ts (sym p.1 ∙ e))
]

some_is : (m : List ℕ) (k : ℕ) (ts : List Top) (i : ℕ) → place_from k m ts ≡ Some i → (j : ℕ) × (i ≡ k + j) × IsPlaceOf m ts j
some_is m k [] i e = cc
some_is m k (t ∷ ts) i e = elim (cases m k t (place_from (suc k) m ts)) [
  | inl p ↦
      let f : i ≡ k = (let g : Some k ≡ Some i = sym p.1 ∙ e in cc) in
      (0, omega (arith, f), record { top = t; within = omega arith; there = refl; flat = p.0; before = no_elements (IsOther m) })
  | inr p ↦
      let r = some_is m (suc k) ts i (sym p.1 ∙ e) in
      let h = r.1 in
      let w = r.2.within in (
        suc r.0,
        omega (arith, h),
        record {
          top = r.2.top;
          within = omega (arith, w);
          there = r.2.there;
          flat = r.2.flat;
          before = All-cons (IsOther m) t (take r.0 ts) p.0 r.2.before;
        },
      )
]

pub placed : (m : List ℕ) (ts : List Top) (o : Option ℕ) → o ≡ place_in m ts → MatchOption o (All (IsOther m) ts) (λ i. IsPlaceOf m ts i)
placed m ts None e = none_is m 0 ts (sym e)
placed m ts (Some i) e =
    let r = some_is m 0 ts i (sym e) in
    let h = r.1 in
    let same : r.0 ≡ i = omega (arith, h) in
    subst (IsPlaceOf m ts) same r.2

same_place : (mv : Move) (m : List ℕ) (k : ℕ) {ts us : List Top} → OneMoved mv ts us → place_from k m us ≡ place_from k m ts
same_place mv m k (L.this_function {f = f} ts h) = ap (λ g. found_at m k (T.Function g) (place_from (suc k) m ts)) h.result
same_place mv m k (L.later_function t o h) = ap (found_at m k t) (same_place mv m (suc k) h)

pub finds_moved : (p : Places) (mv : Move) (ts us : List Top) → OneMoved mv ts us → Finds p ts → Finds p us
finds_moved p mv ts us h f m = f m ∙ sym (same_place mv m 0 h)

pub all_there : {A : Type 0} (P : A → Type 0) (xs : List A) (i : ℕ) (x : A) → slice_get xs i ≡ Some x → All P xs → P x
all_there P [] i x e a = cc
all_there P (y ∷ xs) zero x e a = subst P (some_same e) (All-head P y xs a)
all_there P (y ∷ xs) (suc i) x e a = all_there P xs i x e (All-tail P y xs a)

pub flat_there : (m : List ℕ) (ts : List Top) (i : ℕ) (t : Top) → IsPlaceOf m ts i → slice_get ts i ≡ Some t → IsFlatOf m t
flat_there m ts i t p e = subst (IsFlatOf m) (some_same (sym p.there ∙ e)) p.flat
