-- Changes in a row: of a part they are ones of what holds it.
use mathlib.Core.Path.{ap₂}
use Rattle.std.proofs.Common.{ℕ, zero, suc, ◌<◌, ◌⊎◌, inl, inr, arith, Bool, true, false, cond, ◌&&◌, eqb, eqb-true, leb, ltb, List, [], ◌∷◌, ◌++◌, length, slice_set, Option, Some, ◌≡◌, refl, sym, ap, subst, ◌∙◌}
use Rattle.std.proofs.lemmas.Bool.{eqb-false, cases_lt, le-ltb}
use Rattle.std.proofs.lemmas.List.{get_or-set_other, length-set}
use Rattle.c_tree.specs.declared.tree.Slot.{Slot}
use Rattle.jump_meaning.specs.Code.{FunctionTree, items_of, entry_or}
use Rattle.jump_meaning.specs.World.{no_slot}
use Rattle.tidy_laws.specs.Changes.{is_flag, declares}
use Rattle.tidy_slots.specs.Counts.{list_count}
use Rattle.tidy_loops.specs.Slots.{Tells, counts_of, count_in, may_go}
use Rattle.break_recovery.specs.Places.{Fewer}
use Rattle.break_recovery.specs.InARow.{AreNext, without, IsRow}
use Rattle.break_recovery.proofs.Outermost.{fewer_counted, none_counted, set_zero}

-- ---- a function with these counts, but for one

abbrev fixed : Slot
fixed = record no_slot { constant = true }

abbrev struck : FunctionTree → ℕ → FunctionTree
struck f g = record f { slots = slice_set f.slots g fixed }

fixed_there : (ss : List Slot) (g : ℕ) → g < length ss → is_flag (entry_or no_slot (slice_set ss g fixed) g) ≡ false
fixed_there [] g h = absurd (omega (arith, h))
fixed_there (s ∷ ss) zero h = refl
fixed_there (s ∷ ss) (suc g) h = fixed_there ss g (omega (arith, h))

is_struck : (ss : List Slot) (g : ℕ) → (ltb g (length (slice_set ss g fixed)) ≡ false) ⊎ (is_flag (entry_or no_slot (slice_set ss g fixed) g) ≡ false)
is_struck ss g = elim (cases_lt g (length ss)) [
  | inl l ↦ inr (fixed_there ss g l)
  | inr l ↦ let i = length-set ss g fixed in inl (le-ltb g (length (slice_set ss g fixed)) (omega (arith, i, l)))
]

entry_other : (ss : List Slot) (g x : ℕ) (d : Slot) → (x ≡ g → ⊥) → entry_or no_slot (slice_set ss g d) x ≡ entry_or no_slot ss x
entry_other [] g x d p = refl
entry_other (s ∷ ss) zero zero d p = absurd (p refl)
entry_other (s ∷ ss) zero (suc x) d p = refl
entry_other (s ∷ ss) (suc g) zero d p = refl
entry_other (s ∷ ss) (suc g) (suc x) d p = entry_other ss g x d (λ e. p (ap suc e))

and_no : (a b c d : Bool) → ((b ≡ false) ⊎ (c ≡ false)) → ((a && b) && (c && d)) ≡ false
and_no true true true d (inl e) = cc
and_no true true true d (inr e) = cc
and_no true true false d e = refl
and_no true false c d e = refl
and_no false b c d e = refl

struck_told : (counts : List ℕ) (f : FunctionTree) (g : ℕ) → Tells counts f → Tells (slice_set counts g 0) (struck f g)
struck_told counts f g t x = by (eqb g x) refl
  where
    D : Bool
    D = declares x (items_of f)

    by : (b : Bool) → eqb g x ≡ b → count_in (slice_set counts g 0) x ≡ counts_of (struck f g) x
    by true e =
        let q : g ≡ x = eqb-true g x e in
        let n : may_go (struck f g) g ≡ false =
        and_no (leb f.params g) (ltb g (length (slice_set f.slots g fixed))) (is_flag (entry_or no_slot (slice_set f.slots g fixed) g))
        (declares g (items_of f)) (is_struck f.slots g) in
        ap (count_in (slice_set counts g 0)) (sym q) ∙ set_zero counts g
        ∙ sym (ap (counts_of (struck f g)) (sym q) ∙ ap (λ b. cond b (list_count g (items_of f)) 0) n)
    by false e =
        let p : x ≡ g → ⊥ = λ i. eqb-false g x e (sym i) in
        get_or-set_other counts g x 0 0 p ∙ t x
        ∙ sym (ap₂ (λ n s. cond ((leb f.params x && ltb x n) && (is_flag s && D)) (list_count x (items_of f)) 0)
        (length-set f.slots g fixed) (entry_other f.slots g x fixed p))

pub all_told : (counts gs : List ℕ) (f : FunctionTree) → Tells counts f → (h : FunctionTree) × Tells (without counts gs) h
all_told counts [] f t = (f, t)
all_told counts (g ∷ gs) f t = all_told (slice_set counts g 0) gs (struck f g) (struck_told counts f g t)

-- ---- one after another

pub without_more : (counts gs hs : List ℕ) → without (without counts gs) hs ≡ without counts (gs ++ hs)
without_more counts [] hs = refl
without_more counts (g ∷ gs) hs = without_more (slice_set counts g 0) gs hs

module _ {A : Type 0} (next : FunctionTree → A → Option (ℕ × A)) (like : List ℕ → ℕ → A → A → Type 0) where
  next_more : (counts gs hs : List ℕ) (a b c : A) → AreNext next like counts gs a b → AreNext next like (without counts gs) hs b c →
      AreNext next like counts (gs ++ hs) a c
  next_more counts [] hs a b c e r = subst (λ z. AreNext next like counts hs z c) e r
  next_more counts (g ∷ gs) hs a b c (d, n, (l, q)) r = (d, n, (l, next_more (slice_set counts g 0) gs hs d b c q r))

  module _ {W : Type 0} (P : FunctionTree → W → A → Type 0) where
    pub row_none : (counts : List ℕ) (v : W) (a : A) → IsRow next like P counts counts [] v v a a
    row_none counts v a = (refl, λ f t p. (refl, p))

    pub row_more : (counts mid after gs hs : List ℕ) (u v w : W) (a b c : A) → IsRow next like P counts mid gs u v a b →
        IsRow next like P mid after hs v w b c → IsRow next like P counts after (gs ++ hs) u w a c
    row_more counts mid after gs hs u v w a b c (e, q) (i, r) = (
      i ∙ ap (λ z. without z hs) e ∙ without_more counts gs hs,
      λ f t p.
          let k = q f t p in
          let d = all_told counts gs f t in
          let m = r d.0 (subst (λ z. Tells z d.0) (sym e) d.1) k.1 in
          (next_more counts gs hs a b c k.0 (subst (λ z. AreNext next like z hs b c) e m.0), m.1),
    )

    -- one change alone
    pub row_one : (counts after : List ℕ) (g : ℕ) (v w : W) (a b : A) → after ≡ slice_set counts g 0
        → ((f : FunctionTree) → Tells counts f → P f v a → (next f a ≡ Some (g, b)) × ((h : FunctionTree) → Fewer (counts_of f) (counts_of h) →
        counts_of h g ≡ 0 → P h w b)) → like counts g a b → IsRow next like P counts after (g ∷ []) v w a b
    row_one counts after g v w a b e q l = (
      e,
      λ f t p. (
        (b, λ h u. (q h u (p h u)).0, (l, refl)),
        λ h u. (q f t (p f t)).1 h (fewer_counted f h counts after g e t u) (none_counted h counts after g e u),
      ),
    )

-- ---- a part, and what holds it

module _ {A B : Type 0} (nextA : FunctionTree → A → Option (ℕ × A)) (nextB : FunctionTree → B → Option (ℕ × B))
    (likeA : List ℕ → ℕ → A → A → Type 0) (likeB : List ℕ → ℕ → B → B → Type 0) (F : A → B) (P : FunctionTree → A → Type 0)
    (step : (f : FunctionTree) (g : ℕ) (a c : A) → P f a → nextA f a ≡ Some (g, c) → nextB f (F a) ≡ Some (g, F c))
    (like : (counts : List ℕ) (g : ℕ) (a c : A) → likeA counts g a c → likeB counts g (F a) (F c))
    (keep : (counts : List ℕ) (f h : FunctionTree) → Tells counts f → Fewer (counts_of f) (counts_of h) → (g : ℕ) → counts_of h g ≡ 0 →
    (a c : A) → nextA f a ≡ Some (g, c) → likeA counts g a c → P f a → P h c) where
  lifted : (counts gs : List ℕ) (a b : A) (f : FunctionTree) → Tells counts f → ((h : FunctionTree) → Tells counts h → P h a) →
      AreNext nextA likeA counts gs a b →
      AreNext nextB likeB counts gs (F a) (F b) × ((h : FunctionTree) → Tells (without counts gs) h → P h b)
  lifted counts [] a b f t p e = (ap F e, λ h u. subst (P h) (sym e) (p h u))
  lifted counts (g ∷ gs) a b f t p (c, n, (l, r)) =
      let s = slice_set counts g 0 in
      let q : (h : FunctionTree) → Tells s h → P h c = λ h u.
      keep counts f h t (fewer_counted f h counts s g refl t u) g (none_counted h counts s g refl u) a c (n f t) l (p f t) in
      let w = lifted s gs c b (struck f g) (struck_told counts f g t) q r in
      ((F c, λ h u. step h g a c (p h u) (n h u), (like counts g a c l, w.0)), w.1)

  pub row_lifted : {V W : Type 0} (PA : FunctionTree → V → A → Type 0) (PB : FunctionTree → W → B → Type 0) (counts after gs : List ℕ)
      (v w : V) (u r : W) (a b : A) → ((h : FunctionTree) → Tells counts h → PB h u (F a) → PA h v a × P h a) →
      ((h : FunctionTree) → PA h w b → P h b → PB h r (F b)) → IsRow nextA likeA PA counts after gs v w a b →
      IsRow nextB likeB PB counts after gs u r (F a) (F b)
  row_lifted PA PB counts after gs v w u r a b i o (e, q) = (
    e,
    λ f t p.
        let k = q f t (λ h d. (i h d (p h d)).0) in
        let s = lifted counts gs a b f t (λ h d. (i h d (p h d)).1) k.0 in
        (s.0, λ h d. o h (k.1 h d) (s.1 h (subst (λ z. Tells z h) e d))),
  )

-- the same row, of other ways
pub row_said : {A V W : Type 0} (next : FunctionTree → A → Option (ℕ × A)) (like : List ℕ → ℕ → A → A → Type 0) (P : FunctionTree → V → A → Type 0)
    (Q : FunctionTree → W → A → Type 0) (counts after gs : List ℕ) (v w : V) (u r : W) (a b : A) → ((h : FunctionTree) → Q h u a → P h v a) →
    ((h : FunctionTree) → P h w b → Q h r b) → IsRow next like P counts after gs v w a b → IsRow next like Q counts after gs u r a b
row_said next like P Q counts after gs v w u r a b i o (e, q) = (
  e,
  λ f t p.
      let k = q f t (λ h d. i h (p h d)) in
      (k.0, λ h d. o h (k.1 h d)),
)
