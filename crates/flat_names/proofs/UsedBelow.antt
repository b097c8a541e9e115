-- Numbers below which none is free.
use Rattle.std.proofs.Common.{◌≡◌, ℕ, ◌≤◌, Bool, true, false, cond, List, [], ◌∷◌, map, Some, refl, sym, ap, subst, ◌∙◌, arith, Bor}
use Rattle.std.specs.declared.cmp.Ordering.{Ordering}
use Rattle.std.specs.declared.cmp.Ordering.TheVariants.{Less, Equal, Greater}
use Rattle.std.specs.Ordering.{nat_cmp, match_ordering}
use Rattle.std.specs.Cmp.Lexicographic.{slice_cmp}
use Rattle.std.specs.BTreeMap.{is_at, insert_entry}
use Rattle.std.specs.Map.{lookup}
use Rattle.std.specs.Str.{bytes_eq}
use Rattle.std.proofs.lemmas.Bool.{or_right}
use Rattle.std.proofs.lemmas.Map.Text.{is_eq-slice_cmp}
use Rattle.std.proofs.lemmas.Slice.Eq.{bytes_eq-Decides}
use Rattle.c_types.specs.Words.{name_cmp}
use Rattle.c_copies.specs.Names.{has_name, with_name}
use Rattle.c_copies.proofs.Rising.{has_name-with_name, same_name}
use Rattle.c_fresh_names.specs.Fresh.{numbered}
use Rattle.flat_names.specs.Numbers.{Numbers, found, or_first, with_number, IsUsedBelow, AreUsedBelow}

-- ---- the map

pub found_in : (name : List ℕ) (es : List (Bor (List ℕ) × ℕ)) → lookup (is_at (λ k. slice_cmp nat_cmp name k.now)) es ≡ found name
    (map (λ e. (e.0.now, e.1)) es)
found_in name [] = refl
found_in name (e ∷ es) = λ i. cond (is_eq-slice_cmp name e.0.now i) (Some e.1) (found_in name es i)

abbrev pub numbers_in : List (Bor (List ℕ) × ℕ) → Numbers
numbers_in es = map (λ e. (e.0.now, e.1)) es

abbrev pub key_cmp : Bor (List ℕ) → Bor (List ℕ) → Ordering
key_cmp a b = slice_cmp nat_cmp a.now b.now

with_number_at : (o : Ordering) (k : Bor (List ℕ)) (n : ℕ) (e : Bor (List ℕ) × ℕ) (es : List (Bor (List ℕ) × ℕ))
    → numbers_in (insert_entry key_cmp es k n) ≡ with_number k.now n (numbers_in es)
    → numbers_in (match_ordering o ((k, n) ∷ e ∷ es) ((e.0, n) ∷ es) (e ∷ insert_entry key_cmp es k n))
    ≡ match_ordering o ((k.now, n) ∷ (e.0.now, e.1) ∷ numbers_in es) ((e.0.now, n) ∷ numbers_in es) ((e.0.now, e.1) ∷ with_number k.now n (numbers_in es))
with_number_at Less k n e es h = refl
with_number_at Equal k n e es h = refl
with_number_at Greater k n e es h = ap (λ l. (e.0.now, e.1) ∷ l) h

pub with_number_in : (k : Bor (List ℕ)) (n : ℕ) (es : List (Bor (List ℕ) × ℕ)) → numbers_in (insert_entry key_cmp es k n) ≡ with_number k.now n (numbers_in es)
with_number_in k n [] = refl
with_number_in k n (e ∷ es) = with_number_at (key_cmp k e.0) k n e es (with_number_in k n es)

-- ---- what is kept

abbrev pub IsNext : List (List ℕ) → List ℕ → ℕ → Type 0
IsNext used base n = (2 ≤ n) × IsUsedBelow used base n

none_below : (used : List (List ℕ)) (base : List ℕ) → IsNext used base 2
none_below used base = ((omega arith), λ i h k. absurd (omega (arith, h, k)))

-- the number that is kept for a name
pub next_is : (used : List (List ℕ)) (name : List ℕ) (es : Numbers) → AreUsedBelow used es → IsNext used name (or_first (found name es))
next_is used name [] h = none_below used name
next_is used name (e ∷ es) h = at (bytes_eq name e.0) refl (next_is used name es h.1)
  where
    at : (b : Bool) → bytes_eq name e.0 ≡ b → IsNext used name (or_first (found name es)) → IsNext used name (or_first (cond b (Some e.1) (found name es)))
    at true i rest = subst (λ m. IsNext used m e.1) (sym ((bytes_eq-Decides name e.0).0 i)) h.0
    at false i rest = rest

pub number_kept : (used : List (List ℕ)) (name : List ℕ) (n : ℕ) (es : Numbers) → AreUsedBelow used es → IsNext used name n →
    AreUsedBelow used (with_number name n es)
number_kept used name n [] h w = (w, tt)
number_kept used name n (e ∷ es) h w = at (name_cmp name e.0) refl (number_kept used name n es h.1 w)
  where
    at : (o : Ordering) → name_cmp name e.0 ≡ o → AreUsedBelow used (with_number name n es) →
        AreUsedBelow used (match_ordering o ((name, n) ∷ e ∷ es) ((e.0, n) ∷ es) (e ∷ with_number name n es))
    at Less i rest = (w, h)
    at Equal i rest = (subst (λ m. IsNext used m n) (same_name name e.0 i) w, h.1)
    at Greater i rest = (h.0, rest)

-- of a name that is written so
pub next_of : (used : List (List ℕ)) (base key : List ℕ) (es : Numbers) (n : ℕ) → key ≡ base → n ≡ or_first (found key es) → AreUsedBelow used es →
    IsNext used base n
next_of used base key es n k e h = subst (λ b. IsNext used b n) k (subst (IsNext used key) (sym e) (next_is used key es h))

-- one more name
pub more_used : (used : List (List ℕ)) (name : List ℕ) (es : Numbers) → AreUsedBelow used es → AreUsedBelow (with_name used name) es
more_used used name [] h = tt
more_used used name (e ∷ es) h = (
  (
    h.0.0,
    λ i a b. has_name-with_name used name (numbered e.0 i) ∙ or_right (bytes_eq (numbered e.0 i) name) (has_name used (numbered e.0 i))
        (h.0.1 i a b),
  ),
  more_used used name es h.1,
)
