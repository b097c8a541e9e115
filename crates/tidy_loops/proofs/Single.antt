-- Changes that are there for one slot alone.
use mathlib.Core.Path.{ap₂}
use Rattle.std.proofs.Common.{ℕ, zero, suc, ◌+◌, ◌-◌, ◌<◌, ◌≤◌, ◌≢◌, Bool, true, false, cond, ◌&&◌, ◌||◌, eqb, leb, ltb, List, [], ◌∷◌, ◌++◌, Option, Some, None, ◌≡◌, refl, sym, ap, ◌∙◌, arith}
use Rattle.std.specs.Prelude.{filter}
use Rattle.std.proofs.lemmas.Bool.{eq-eqb, ne_eqb, eqb-true, eqb-false, le-leb, leb-true, lt-ltb, ltb-true, and_from}
use Rattle.std.proofs.lemmas.List.{append-nil}
use Rattle.c_tree.specs.Trees.{Forest}
use Rattle.tidy_laws.specs.Changes.{changed_for, listed}
use Rattle.tidy_laws.proofs.TidyNumberingNumbers.{same_bool}
use Rattle.tidy_loops.specs.Views.{is_it}
use Rattle.tidy_loops.specs.Slots.{allowed, found}

pub eqb_same : (x y u v : ℕ) → (x ≡ y → u ≡ v) → (u ≡ v → x ≡ y) → eqb x y ≡ eqb u v
eqb_same x y u v f g = same_bool (eqb x y) (eqb u v) (λ e. eq-eqb u v (f (eqb-true x y e))) (λ e. eq-eqb x y (g (eqb-true u v e)))

-- ---- which slots are tried

abbrev among : ℕ → ℕ → ℕ → Bool
among p zero s = false
among p (suc n) s = eqb s p || among (suc p) n s

below : (p n s : ℕ) → s < p → among p n s ≡ false
below p zero s h = refl
below p (suc n) s h =
    let q : s ≢ p = omega (arith, h) in
    let r : s < suc p = omega (arith, h) in
    ap (λ b. b || among (suc p) n s) (ne_eqb s p q) ∙ below (suc p) n s r

inside_at : (p n s : ℕ) (b : Bool) → eqb s p ≡ b → p ≤ s → s < p + suc n → (suc p ≤ s → s < suc p + n → among (suc p) n s ≡ true) →
    (eqb s p || among (suc p) n s) ≡ true
inside_at p n s true e h k r = ap (λ b. b || among (suc p) n s) e
inside_at p n s false e h k r =
    let q : s ≢ p = eqb-false s p e in
    let i : suc p ≤ s = omega (arith, h, q) in
    let u : s < suc p + n = omega (arith, k) in
    ap (λ b. b || among (suc p) n s) e ∙ r i u

inside : (p n s : ℕ) → p ≤ s → s < p + n → among p n s ≡ true
inside p zero s h k = absurd (omega (arith, h, k))
inside p (suc n) s h k = inside_at p n s (eqb s p) refl h k (inside (suc p) n s)

least_at : (p n s : ℕ) (b : Bool) → eqb s p ≡ b → (eqb s p || among (suc p) n s) ≡ true → (among (suc p) n s ≡ true → suc p ≤ s) → p ≤ s
least_at p n s true e h r = let q = eqb-true s p e in omega (arith, q)
least_at p n s false e h r = let i = r (sym (ap (λ b. b || among (suc p) n s) e) ∙ h) in omega (arith, i)

least : (p n s : ℕ) → among p n s ≡ true → p ≤ s
least p zero s h = cc
least p (suc n) s h = least_at p n s (eqb s p) refl h (least (suc p) n s)

most_at : (p n s : ℕ) (b : Bool) → eqb s p ≡ b → (eqb s p || among (suc p) n s) ≡ true → (among (suc p) n s ≡ true → s < suc p + n) → s < p + suc n
most_at p n s true e h r = let q = eqb-true s p e in omega (arith, q)
most_at p n s false e h r = let i = r (sym (ap (λ b. b || among (suc p) n s) e) ∙ h) in omega (arith, i)

most : (p n s : ℕ) → among p n s ≡ true → s < p + n
most p zero s h = cc
most p (suc n) s h = most_at p n s (eqb s p) refl h (most (suc p) n s)

pub left_true : (a b : Bool) → (a && b) ≡ true → a ≡ true
left_true true b h = refl
left_true false b h = h

right_true : (a b : Bool) → (a && b) ≡ true → b ≡ true
right_true true b h = h
right_true false b h = cc

among_is : (p m s : ℕ) → among p (m - p) s ≡ (leb p s && ltb s m)
among_is p m s =
    same_bool (among p (m - p) s) (leb p s && ltb s m)
    (λ h. let l = least p (m - p) s h in let u = most p (m - p) s h in let v : s < m = omega (arith, l, u) in
    and_from (leb p s) (ltb s m) (le-leb p s l) (lt-ltb s m v))
    (λ h. let l = leb-true p s (left_true (leb p s) (ltb s m) h) in let u = ltb-true s m (right_true (leb p s) (ltb s m) h) in
    let v : s < p + (m - p) = omega (arith, l, u) in inside p (m - p) s l v)

-- ---- lists of changes

-- what is tried gives something for one slot at most
abbrev picked : ℕ → ℕ → Option ℕ → (ℕ → Option Forest) → List (ℕ × Forest)
picked p n None G = []
picked p n (Some s) G = cond (among p n s) (listed s (G s)) []

none_for : (F : ℕ → Option Forest) → ((g : ℕ) → F g ≡ None) → (p n : ℕ) → changed_for F p n ≡ []
none_for F h p zero = refl
none_for F h p (suc n) = ap₂ (λ u v. listed p u ++ v) (h p) (none_for F h (suc p) n)

single_at : (F : ℕ → Option Forest) (s : ℕ) (G : ℕ → Option Forest) → ((g : ℕ) → F g ≡ cond (eqb s g) (G g) None) → (p n : ℕ) (b : Bool) → eqb s p ≡ b
    → changed_for F (suc p) n ≡ cond (among (suc p) n s) (listed s (G s)) [] →
    listed p (F p) ++ changed_for F (suc p) n ≡ cond (eqb s p || among (suc p) n s) (listed s (G s)) []
single_at F s G h p n true e i =
    let q : s ≡ p = eqb-true s p e in
    let r : s < suc p = omega (arith, q) in
    ap₂ (λ u v. listed p u ++ v) (h p ∙ ap (λ b. cond b (G p) None) e) (i ∙ ap (λ b. cond b (listed s (G s)) []) (below (suc p) n s r))
    ∙ append-nil (listed p (G p)) ∙ ap (λ z. listed z (G z)) (sym q) ∙ sym (ap (λ b. cond (b || among (suc p) n s) (listed s (G s)) []) e)
single_at F s G h p n false e i =
    ap₂ (λ u v. listed p u ++ v) (h p ∙ ap (λ b. cond b (G p) None) e) i
    ∙ sym (ap (λ b. cond (b || among (suc p) n s) (listed s (G s)) []) e)

single : (F : ℕ → Option Forest) (s : ℕ) (G : ℕ → Option Forest) → ((g : ℕ) → F g ≡ cond (eqb s g) (G g) None) → (p n : ℕ) →
    changed_for F p n ≡ cond (among p n s) (listed s (G s)) []
single F s G h p zero = refl
single F s G h p (suc n) = single_at F s G h p n (eqb s p) refl (single F s G h (suc p) n)

of_slot : (F : ℕ → Option Forest) (so : Option ℕ) (G : ℕ → Option Forest) → ((g : ℕ) → F g ≡ cond (is_it g so) (G g) None) → (p n : ℕ) →
    changed_for F p n ≡ picked p n so G
of_slot F None G h p n = none_for F h p n
of_slot F (Some s) G h p n = single F s G h p n

kept_one : (P : ℕ × Forest → Bool) (c : ℕ × Forest) (d : Bool) → P c ≡ d → filter P (c ∷ []) ≡ cond d (c ∷ []) []
kept_one P c true h = rw h refl
kept_one P c false h = rw h refl

found_at : (make : ℕ → Forest) (s : ℕ) (d : Bool) → cond d ((s, make s) ∷ []) [] ≡ found make (cond d (Some s) None)
found_at make s true = refl
found_at make s false = refl

kept : (P : ℕ × Forest → Bool) (make : ℕ → Forest) (s : ℕ) (A B D Q : Bool) → Q ≡ (A && (B && D)) → (B ≡ true → P (s, make s) ≡ D)
    → filter P (cond A (listed s (cond B (Some (make s)) None)) []) ≡ found make (cond Q (Some s) None)
kept P make s false B D Q q h = sym (ap (λ z. found make (cond z (Some s) None)) q)
kept P make s true false D Q q h = sym (ap (λ z. found make (cond z (Some s) None)) q)
kept P make s true true D Q q h = kept_one P (s, make s) D (h refl) ∙ found_at make s D ∙ sym (ap (λ z. found make (cond z (Some s) None)) q)

-- The changes tried by F that P keeps: those of the slot that is read, where it is allowed
pub kept_slots : (F : ℕ → Option Forest) (P : ℕ × Forest → Bool) (so : Option ℕ) (make : ℕ → Forest) (B D Q : ℕ → Bool) (p m : ℕ)
    → ((g : ℕ) → F g ≡ cond (is_it g so) (cond (B g) (Some (make g)) None) None)
    → ((s : ℕ) → so ≡ Some s → B s ≡ true → P (s, make s) ≡ D s)
    → ((s : ℕ) → Q s ≡ ((leb p s && ltb s m) && (B s && D s)))
    → filter P (changed_for F p (m - p)) ≡ found make (allowed Q so)
kept_slots F P None make B D Q p m f h q = ap (filter P) (none_for F f p (m - p))
kept_slots F P (Some s) make B D Q p m f h q =
    ap (filter P) (of_slot F (Some s) (λ g. cond (B g) (Some (make g)) None) f p (m - p) ∙
    ap (λ z. cond z (listed s (cond (B s) (Some (make s)) None)) []) (among_is p m s))
    ∙ kept P make s (leb p s && ltb s m) (B s) (D s) (Q s) (q s) (h s refl)

-- where nothing is tried
pub kept_none : (F : ℕ → Option Forest) (P : ℕ × Forest → Bool) (p n : ℕ) → ((g : ℕ) → F g ≡ None) → filter P (changed_for F p n) ≡ []
kept_none F P p n f = ap (filter P) (none_for F f p n)
