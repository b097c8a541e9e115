-- Changes one after another: of a function, of what stands at file scope, of a program.
use mathlib.Core.Path.{ap₂}
use Rattle.std.proofs.Common.{ℕ, false, if◌then◌else◌, zero, suc, ◌+◌, ◌<◌, ◌≤◌, ◌≡◌, inl, inr, List, [], ◌∷◌, length, Option, Some, None, slice_get, slice_set, refl, sym, ap, subst, ◌∙◌, arith, set-set}
use Rattle.std.specs.Prelude.{All, map}
use Rattle.c_tree.specs.declared.tree.Item.{Item}
use Rattle.c_tree.specs.declared.tree.Function.{Function}
use Rattle.c_tree.specs.declared.tree.Top.{Top}
use Rattle.c_tree.specs.declared.tree.Top.TheVariants as T
use Rattle.c_tree.proofs.PathLemmas.{get_set, set_same}
use Rattle.c_tree.specs.declared.tree.Program.{Program}
use Rattle.jump_meaning.specs.Laws.{IsTopUnflat}
use Rattle.guard_vars.specs.GuardNames.{guard_names}
use Rattle.plain_form.specs.Plain.{plain}
use Rattle.plain_laws.specs.Plain.{plain_top, plain_function, plain_body, with_guard_variables, tidied}
use Rattle.tidy_laws.specs.Ends.{TopIsChangedFirst, TopIsSettled, AreChangedFirst, AreChangedTimes, IsTidied}
use Rattle.break_recovery.specs.Ends.{FunctionChangedTimes, IsFunctionTidied, TopChangedTimes, TopTidied, AreTidied}

-- ---- a function

pub of_function : (n : ℕ) (f h : Function) → FunctionChangedTimes n f h → TopChangedTimes n (T.Function f) (T.Function h)
of_function zero f h e = ap T.Function e
of_function (suc n) f h (z, first, rest) = (T.Function z, first, of_function n z h rest)

-- ---- of what stands at file scope

-- to the first so many of them no change applies
abbrev pub Settled : ℕ → List Top → Type 0
Settled zero us = Unit {0}
Settled (suc i) [] = Unit {0}
Settled (suc i) (u ∷ us) = TopIsSettled u × Settled i us

settled_set : (us : List Top) (i : ℕ) (t : Top) → Settled i us → Settled i (slice_set us i t)
settled_set us zero t s = tt
settled_set [] (suc i) t s = tt
settled_set (u ∷ us) (suc i) t s = (s.0, settled_set us i t s.1)

pub settled_more : (us : List Top) (i : ℕ) (t : Top) → TopIsSettled t → Settled i us → Settled (suc i) (slice_set us i t)
settled_more [] i t h s = tt
settled_more (u ∷ us) zero t h s = (h, tt)
settled_more (u ∷ us) (suc i) t h s = (s.0, settled_more us i t h s.1)

first_at : (us : List Top) (i : ℕ) (t u : Top) → slice_get us i ≡ Some t → Settled i us → TopIsChangedFirst t u → AreChangedFirst us (slice_set us i u)
first_at [] i t u e s c = absurd (no e)
  where
    no : None ≡ Some t → ⊥
    no e = cc
first_at (x ∷ xs) zero t u e s c = let g : t ≡ x = cc in inl (subst (λ z. TopIsChangedFirst z u) g c, refl)
first_at (x ∷ xs) (suc i) t u e s c = inr (s.0, refl, first_at xs i t u e s.1 c)

pub times_at : (n : ℕ) (us : List Top) (i : ℕ) (t u : Top) → slice_get us i ≡ Some t → Settled i us → TopChangedTimes n t u →
    AreChangedTimes n us (slice_set us i u)
times_at zero us i t u e s c = ap (slice_set us i) c ∙ set_same us i t e
times_at (suc n) us i t u e s (z, first, rest) = (
  slice_set us i z,
  first_at us i t z e s first,
  subst (AreChangedTimes n (slice_set us i z)) (set-set us i z u) (times_at n (slice_set us i z) i z u (get_set us i t z e) (settled_set us i z s) rest),
)

pub and_then : (n m : ℕ) (ts us vs : List Top) → AreChangedTimes n ts us → AreChangedTimes m us vs → AreChangedTimes (n + m) ts vs
and_then zero m ts us vs e c =
    let k : m ≡ 0 + m = omega arith in
    subst (λ j. AreChangedTimes j ts vs) k (subst (λ z. AreChangedTimes m z vs) e c)
and_then (suc n) m ts us vs (z, first, rest) c =
    let k : suc (n + m) ≡ suc n + m = omega arith in
    subst (λ j. AreChangedTimes j ts vs) k (z, first, and_then n m z us vs rest c)

settled_all : (us : List Top) (i : ℕ) → length us ≤ i → Settled i us → All TopIsSettled us
settled_all [] i h s k d n = absurd (omega (arith, n))
settled_all (u ∷ us) zero h s k d n = absurd (omega (arith, h))
settled_all (u ∷ us) (suc i) h s zero d n = s.0
settled_all (u ∷ us) (suc i) h s (suc k) d n =
    let g : length us ≤ i = omega (arith, h) in
    let m : k < length us = omega (arith, n) in
    settled_all us i g s.1 k d m

-- so many of them are done, with so many changes
pub record Done (i n : ℕ) (ts us : List Top) : Type 0 where
  pub changed : AreChangedTimes n ts us
  pub settled : Settled i us

pub none_done : (ts : List Top) → Done 0 0 ts ts
none_done ts = record { changed = refl; settled = tt }

pub one_done : (i n m j k : ℕ) (ts us vs : List Top) (t u : Top) → slice_get us i ≡ Some t → TopTidied m t u → vs ≡ slice_set us i u → k ≡ n + m →
    j ≡ suc i → Done i n ts us → Done j k ts vs
one_done i n m j k ts us vs t u e c v a b d = record {
  changed = subst (λ x. AreChangedTimes x ts vs) (sym a)
      (and_then n m ts us vs d.changed (subst (AreChangedTimes m us) (sym v) (times_at m us i t u e d.settled c.changed)));
  settled = subst (λ x. Settled x vs) (sym b) (subst (Settled (suc i)) (sym v) (settled_more us i u c.settled d.settled));
}

pub all_done : (i n : ℕ) (ts us : List Top) → length us ≤ i → Done i n ts us → AreTidied n ts us
all_done i n ts us h d = record { changed = d.changed; settled = settled_all us i h d.settled }

-- ---- no function becomes flat, and where none is the names of guards say nothing

abbrev AreUnflat : List Top → Type 0
AreUnflat [] = Unit {0}
AreUnflat (t ∷ ts) = IsTopUnflat t × AreUnflat ts

are_unflat : (ts : List Top) → All IsTopUnflat ts → AreUnflat ts
are_unflat [] h = tt
are_unflat (t ∷ ts) h = (h zero t (omega arith), are_unflat ts (λ k d n. h (suc k) d (omega (arith, n))))

top_unflat : (t u : Top) → TopIsChangedFirst t u → IsTopUnflat t → IsTopUnflat u
top_unflat (T.Function f) (T.Function h) c e = ap (λ (z : Function). z.flat) c.kept ∙ e
top_unflat (T.Function f) _ c e = absurd c
top_unflat _ u c e = absurd c

first_unflat : (ts us : List Top) → AreChangedFirst ts us → AreUnflat ts → AreUnflat us
first_unflat (t ∷ ts) (u ∷ us) (inl (c, e)) h = (top_unflat t u c h.0, subst AreUnflat (sym e) h.1)
first_unflat (t ∷ ts) (u ∷ us) (inr (s, e, c)) h = (subst IsTopUnflat (sym e) h.0, first_unflat ts us c h.1)
first_unflat (t ∷ ts) [] c h = absurd c
first_unflat [] us c h = absurd c

times_unflat : (n : ℕ) (ts us : List Top) → AreChangedTimes n ts us → AreUnflat ts → AreUnflat us
times_unflat zero ts us e h = subst AreUnflat (sym e) h
times_unflat (suc n) ts us (z, first, rest) h = times_unflat n z us rest (first_unflat ts z first h)

function_unnamed : (names others : Function → List (List ℕ)) (f : Function) → f.flat ≡ false → plain_function (names f) f ≡ plain_function (others f) f
function_unnamed names others f e = by f.body refl
  where
    by : (b : Option (List Item)) → f.body ≡ b → plain_body (names f) f f.body ≡ plain_body (others f) f f.body
    by None h = ap (plain_body (names f) f) h ∙ sym (ap (plain_body (others f) f) h)
    by (Some a) h =
        ap (plain_body (names f) f) h
        ∙ ap (λ b. if b then with_guard_variables (names f) f a else record f { body = Some (tidied a) }) e
        ∙ sym (ap (λ b. if b then with_guard_variables (others f) f a else record f { body = Some (tidied a) }) e)
        ∙ sym (ap (plain_body (others f) f) h)

top_unnamed : (names others : Function → List (List ℕ)) (t : Top) → IsTopUnflat t → plain_top names t ≡ plain_top others t
top_unnamed names others (T.Function f) e = ap T.Function (function_unnamed names others f e)
top_unnamed names others _ e = refl

tops_unnamed : (names others : Function → List (List ℕ)) (ts : List Top) → AreUnflat ts → map (plain_top names) ts ≡ map (plain_top others) ts
tops_unnamed names others [] h = refl
tops_unnamed names others (t ∷ ts) h = ap₂ (λ x xs. x ∷ xs) (top_unnamed names others t h.0) (tops_unnamed names others ts h.1)

pub unnamed : (names others : Function → List (List ℕ)) (n : ℕ) (ts us : List Top) → All IsTopUnflat ts → AreChangedTimes n ts us →
    map (plain_top names) us ≡ map (plain_top others) us
unnamed names others n ts us h c = tops_unnamed names others us (times_unflat n ts us c (are_unflat ts h))

-- ---- the whole program

pub tidied_by : (p : Program) (us : List Top) (names : List (List ℕ)) (n : ℕ) (q : Program) → All IsTopUnflat p.tops → AreTidied n p.tops us →
    q ≡ plain names (record p { tops = us }) → IsTidied p n q
tidied_by p us names n q h a e = record {
  last = record p { tops = us };
  changes = a.changed;
  settled = a.settled;
  sections = e ∙ ap (λ z. record { tops = z }) (unnamed (guard_names names) (λ f. f.labels) n p.tops us h a.changed);
}

pub top_of : (n : ℕ) (f h : Function) → IsFunctionTidied n f h → TopTidied n (T.Function f) (T.Function h)
top_of n f h t = record { changed = of_function n f h t.changed; settled = t.settled }
