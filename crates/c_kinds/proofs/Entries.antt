-- A name that is bound in a scope is found there, and every other name is what it was.
use Rattle.std.proofs.Common.{ℕ, Bool, true, false, cond, List, [], ◌∷◌, Option, Some, is_some, ◌≡◌, refl, sym, ap, subst, ◌∙◌, true≢false, bytes_eq}
use Rattle.std.specs.declared.cmp.Ordering.{Ordering}
use Rattle.std.specs.declared.cmp.Ordering.TheVariants.{Less, Equal, Greater}
use Rattle.std.specs.Ordering.{match_ordering, is_eq}
use Rattle.std.proofs.lemmas.Map.Text.{is_eq-slice_cmp}
use Rattle.std.proofs.lemmas.Slice.Eq.{bytes_eq-Decides}
use Rattle.c_types.specs.Words.{name_cmp}
use Rattle.c_kinds.specs.Scopes.{Names, found, with_entry}

-- ---- equal names

pub same_names : (a b : List ℕ) → bytes_eq a b ≡ true → a ≡ b
same_names a b e = (bytes_eq-Decides a b).0 e

pub names_same : (a b : List ℕ) → a ≡ b → bytes_eq a b ≡ true
names_same a b e = (bytes_eq-Decides a b).1 e

pub by_bool : {A : Type 0} (b : Bool) → (b ≡ true → A) → (b ≡ false → A) → A
by_bool true f g = f refl
by_bool false f g = g refl

-- ---- one scope

found_at : {X : Type 0} (q m : List ℕ) (b : X) (e : List ℕ × X) (es : Names X) (o : Ordering) → is_eq o ≡ bytes_eq m e.0 →
    found q (with_entry m b es) ≡ cond (bytes_eq q m) (Some b) (found q es)
    → found q (match_ordering o ((m, b) ∷ e ∷ es) ((e.0, b) ∷ es) (e ∷ with_entry m b es)) ≡ cond (bytes_eq q m) (Some b)
    (cond (bytes_eq q e.0) (Some e.1) (found q es))
found_at q m b e es Less i h = refl
found_at q m b e es Equal i h =
    let s = same_names m e.0 (sym i) in
    subst (λ k. cond (bytes_eq q k) (Some b) (found q es) ≡ cond (bytes_eq q m) (Some b) (cond (bytes_eq q k) (Some e.1) (found q es))) s
    (either (bytes_eq q m) b e.1 (found q es))
  where
    either : {X : Type 0} (t : Bool) (b c : X) (o : Option X) → cond t (Some b) o ≡ cond t (Some b) (cond t (Some c) o)
    either true b c o = refl
    either false b c o = refl
found_at q m b e es Greater i h =
    ap (cond (bytes_eq q e.0) (Some e.1)) h
    ∙ either (bytes_eq q e.0) (bytes_eq q m) (Some e.1) (Some b) (found q es)
    (λ t u. true≢false (sym (names_same m e.0 (sym (same_names q m u) ∙ same_names q e.0 t)) ∙ sym i))
  where
    either : {X : Type 0} (t u : Bool) (a c d : X) → (t ≡ true → u ≡ true → ⊥) → cond t a (cond u c d) ≡ cond u c (cond t a d)
    either true true a c d f = absurd (f refl refl)
    either true false a c d f = refl
    either false u a c d f = refl

pub found_entry : {X : Type 0} (q m : List ℕ) (b : X) (es : Names X) → found q (with_entry m b es) ≡ cond (bytes_eq q m) (Some b) (found q es)
found_entry q m b [] = refl
found_entry q m b (e ∷ es) = found_at q m b e es (name_cmp m e.0) (is_eq-slice_cmp m e.0) (found_entry q m b es)

-- a new name
pub found_new : {X : Type 0} (q m : List ℕ) (b : X) (s : Names X) → is_some (found m s) ≡ false →
    found q (cond (is_some (found m s)) s (with_entry m b s)) ≡ cond (bytes_eq q m) (Some b) (found q s)
found_new q m b s h = subst (λ t. found q (cond t s (with_entry m b s)) ≡ cond (bytes_eq q m) (Some b) (found q s)) (sym h) (found_entry q m b s)
