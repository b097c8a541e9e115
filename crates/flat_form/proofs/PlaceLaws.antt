-- Places of labels, entered one after another.
use Rattle.std.proofs.Common.{◌≡◌, ℕ, suc, ◌+◌, Bool, true, false, cond, eqb, List, [], ◌∷◌, ◌++◌, length, Option, Some, None, option_map, arith, refl, sym, ap, ◌∙◌}
use Rattle.std.specs.Option.{option_map_or}
use Rattle.flat_laws.specs.FlatForm.{place_in}
use Rattle.flat_form.specs.Places.{with_place}

abbrev option_or : Option ℕ → Option ℕ → Option ℕ
option_or None z = z
option_or (Some p) z = Some p

-- the place of a label in a list, if it is there
abbrev pub place_if : List ℕ → ℕ → Option ℕ
place_if [] c = None
place_if (m ∷ ms) c = cond (eqb m c) (Some 0) (option_map suc (place_if ms c))

shifted : (c n : ℕ) (o : Option ℕ) → option_map_or (λ n. n) (option_map suc o) (c + suc n) ≡ suc (option_map_or (λ n. n) o (c + n))
shifted c n None = omega arith
shifted c n (Some p) = refl

first : (y : Bool) (c n : ℕ) (o : Option ℕ) (m : ℕ) → option_map_or (λ n. n) o (c + n) ≡ m →
    option_map_or (λ n. n) (cond y (Some 0) (option_map suc o)) (c + suc n) ≡ cond y 0 (suc m)
first true c n o m e = refl
first false c n o m e = shifted c n o ∙ ap suc e

pub place_is : (ms : List ℕ) (c : ℕ) → option_map_or (λ n. n) (place_if ms c) (c + length ms) ≡ place_in ms c
place_is [] c = omega arith
place_is (m ∷ ms) c = first (eqb m c) c (length ms) (place_if ms c) (place_in ms c) (place_is ms c)

later : (o : Option ℕ) (y : Bool) (n : ℕ) → (z : Option ℕ) → z ≡ cond y (Some n) None →
    option_map suc (option_or o z) ≡ option_or (option_map suc o) (cond y (Some (suc n)) None)
later None true n z e = ap (option_map suc) e
later None false n z e = ap (option_map suc) e
later (Some p) y n z e = refl

with_is : (o : Option ℕ) (d p c : ℕ) → with_place o d p c ≡ option_or o (cond (eqb d c) (Some p) None)
with_is None d p c = refl
with_is (Some q) d p c = refl

pushed : (y : Bool) (a o : Option ℕ) (m n c : ℕ) → a ≡ with_place o m n c →
    cond y (Some 0) (option_map suc a) ≡ with_place (cond y (Some 0) (option_map suc o)) m (suc n) c
pushed true a o m n c e = refl
pushed false a o m n c e =
    ap (option_map suc) (e ∙ with_is o m n c) ∙ later o (eqb m c) n (cond (eqb m c) (Some n) None) refl ∙ sym (with_is (option_map suc o) m (suc n) c)

none_yet : (y : Bool) → cond y (Some 0) (option_map suc None) ≡ cond y (Some 0) None
none_yet true = refl
none_yet false = refl

pub place_push : (ms : List ℕ) (m c : ℕ) → place_if (ms ++ m ∷ []) c ≡ with_place (place_if ms c) m (length ms) c
place_push [] m c = none_yet (eqb m c)
place_push (x ∷ xs) m c = pushed (eqb x c) (place_if (xs ++ m ∷ []) c) (place_if xs c) m (length xs) c (place_push xs m c)
