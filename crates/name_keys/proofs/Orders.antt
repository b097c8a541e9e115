-- The first bytes of two names, as numbers, are in the order of the names.
use Rattle.std.proofs.Common.{◌≡◌, ◌<◌, ◌≤◌, ◌+◌, ◌*◌, ◌^◌, ◌≢◌, ◌⊎◌, inl, inr, ℕ, zero, suc, List, [], ◌∷◌, length, min, refl, ap, sym, ◌∙◌, arith}
use Rattle.std.specs.declared.cmp.Ordering.TheVariants.{Less, Equal, Greater}
use Rattle.std.specs.Ordering.{nat_cmp, ordering_then}
use Rattle.std.proofs.lemmas.Nat.{mul-le}
use Rattle.std.proofs.lemmas.Bool.Decides.{nat_tests}
use Rattle.std.proofs.lemmas.Bool.{cases_order}
use Rattle.std.proofs.Math.Nat.{pow-suc}
use Rattle.c_types.specs.Words.{name_cmp}
use Rattle.name_keys.specs.Fronts.{front, AreBytes}

less : (x y : ℕ) → x < y → nat_cmp x y ≡ Less
less x y h = grind (arith, nat_tests)

equal : (x y : ℕ) → x ≡ y → nat_cmp x y ≡ Equal
equal x y h = grind (arith, nat_tests)

greater : (x y : ℕ) → y < x → nat_cmp x y ≡ Greater
greater x y h = grind (arith, nat_tests)

-- ---- numbers of several digits

-- a higher digit decides
higher : (P x y f g : ℕ) → f < P → x < y → x * P + f < y * P + g
higher P x y f g h l = omega (arith, mul-le (x + 1) P y P (omega arith) (omega arith))

same_digit : (P x f g : ℕ) → (f ≡ g) ⊎ ((f < g) ⊎ (g < f)) → nat_cmp (x * P + f) (x * P + g) ≡ nat_cmp f g
same_digit P x f g (inl e) = equal (x * P + f) (x * P + g) (omega arith) ∙ sym (equal f g e)
same_digit P x f g (inr (inl l)) = less (x * P + f) (x * P + g) (omega arith) ∙ sym (less f g l)
same_digit P x f g (inr (inr l)) = greater (x * P + f) (x * P + g) (omega arith) ∙ sym (greater f g l)

one_more : (f g : ℕ) → (f ≡ g) ⊎ ((f < g) ⊎ (g < f)) → nat_cmp f g ≡ nat_cmp (suc f) (suc g)
one_more f g (inl e) = equal f g e ∙ sym (equal (suc f) (suc g) (ap suc e))
one_more f g (inr (inl l)) = less f g l ∙ sym (less (suc f) (suc g) (omega arith))
one_more f g (inr (inr l)) = greater f g l ∙ sym (greater (suc f) (suc g) (omega arith))

by_digits : (P x y f g : ℕ) → f < P → g < P → (x ≡ y) ⊎ ((x < y) ⊎ (y < x)) → nat_cmp (x * P + f) (y * P + g) ≡ ordering_then (nat_cmp x y) (nat_cmp f g)
by_digits P x y f g p q (inl e) =
    ap (λ z. nat_cmp (z * P + f) (y * P + g)) e ∙ same_digit P y f g (cases_order f g) ∙ ap (λ o. ordering_then o (nat_cmp f g)) (sym (equal x y e))
by_digits P x y f g p q (inr (inl l)) = less _ _ (higher P x y f g p l) ∙ ap (λ o. ordering_then o (nat_cmp f g)) (sym (less x y l))
by_digits P x y f g p q (inr (inr l)) = greater _ _ (higher P y x g f q l) ∙ ap (λ o. ordering_then o (nat_cmp f g)) (sym (greater x y l))

digits : (P x y f g : ℕ) → f < P → g < P → nat_cmp (x * P + f) (y * P + g) ≡ ordering_then (nat_cmp x y) (nat_cmp f g)
digits P x y f g p q = by_digits P x y f g p q (cases_order x y)

-- ---- the first bytes

tail_bytes : (x : ℕ) (xs : List ℕ) → AreBytes (x ∷ xs) → AreBytes xs
tail_bytes x xs h = λ i. h (suc i)

front_empty : (k : ℕ) → front k [] ≡ 0
front_empty zero = refl
front_empty (suc k) = omega (arith, front_empty k)

front_below : (k : ℕ) (text : List ℕ) → AreBytes text → front k text < 256 ^ k
front_below zero text h = omega arith
front_below (suc k) [] h = omega (arith, front_empty k, pow-suc 256 k, front_below k [] h)
front_below (suc k) (x ∷ xs) h = omega (
  arith,
  pow-suc 256 k,
  front_below k xs (tail_bytes x xs h),
  mul-le (x + 1) (256 ^ k) 256 (256 ^ k) (omega (arith, h 0)) (omega arith),
)

front_more : (k x y : ℕ) (xs ys : List ℕ) → AreBytes xs → AreBytes ys →
    nat_cmp (front (suc k) (x ∷ xs)) (front (suc k) (y ∷ ys)) ≡ ordering_then (nat_cmp x y) (nat_cmp (front k xs) (front k ys))
front_more k x y xs ys p q = digits (256 ^ k) x y (front k xs) (front k ys) (front_below k xs p) (front_below k ys q)

-- the numbers of the first bytes decide, where they differ
pub order_of_fronts : (k : ℕ) (a b : List ℕ) → AreBytes a → AreBytes b → front k a ≢ front k b → name_cmp a b ≡ nat_cmp (front k a) (front k b)
order_of_fronts zero a b p q h = absurd (h refl)
order_of_fronts (suc k) [] [] p q h = absurd (h refl)
order_of_fronts (suc k) [] (y ∷ ys) p q h =
    let none : front (suc k) [] ≡ 0 = front_empty (suc k) in
    sym (less (front (suc k) []) (front (suc k) (y ∷ ys)) (omega (arith, h, none)))
order_of_fronts (suc k) (x ∷ xs) [] p q h =
    let none : front (suc k) [] ≡ 0 = front_empty (suc k) in
    sym (greater (front (suc k) (x ∷ xs)) (front (suc k) []) (omega (arith, h, none)))
order_of_fronts (suc k) (x ∷ xs) (y ∷ ys) p q h = by (cases_order x y) (order_of_fronts k xs ys (tail_bytes x xs p) (tail_bytes y ys q)) ∙ sym
    (front_more k x y xs ys (tail_bytes x xs p) (tail_bytes y ys q))
  where
    by : (x ≡ y) ⊎ ((x < y) ⊎ (y < x)) → (front k xs ≢ front k ys → name_cmp xs ys ≡ nat_cmp (front k xs) (front k ys)) →
        ordering_then (nat_cmp x y) (name_cmp xs ys) ≡ ordering_then (nat_cmp x y) (nat_cmp (front k xs) (front k ys))
    by (inl e) f = ap (ordering_then (nat_cmp x y)) (f (λ s. h (λ i. e i * 256 ^ k + s i)))
    by (inr (inl l)) f = ap (λ o. ordering_then o (name_cmp xs ys)) (less x y l) ∙
        ap (λ o. ordering_then o (nat_cmp (front k xs) (front k ys))) (sym (less x y l))
    by (inr (inr l)) f = ap (λ o. ordering_then o (name_cmp xs ys)) (greater x y l) ∙
        ap (λ o. ordering_then o (nat_cmp (front k xs) (front k ys))) (sym (greater x y l))

-- where they are the same and one name has no more bytes, the lengths decide
pub order_of_lengths : (k : ℕ) (a b : List ℕ) → AreBytes a → AreBytes b → front k a ≡ front k b → min (length a) (length b) ≤ k →
    name_cmp a b ≡ nat_cmp (length a) (length b)
order_of_lengths k [] [] p q e h = refl
order_of_lengths k [] (y ∷ ys) p q e h = sym (less 0 (length (y ∷ ys)) (omega arith))
order_of_lengths k (x ∷ xs) [] p q e h = sym (greater (length (x ∷ xs)) 0 (omega arith))
order_of_lengths zero (x ∷ xs) (y ∷ ys) p q e h = absurd (omega arith)
order_of_lengths (suc k) (x ∷ xs) (y ∷ ys) p q e h =
    by (cases_order x y) (front_below k xs (tail_bytes x xs p)) (front_below k ys (tail_bytes y ys q))
    (λ s. order_of_lengths k xs ys (tail_bytes x xs p) (tail_bytes y ys q) s (omega arith))
  where
    by : (x ≡ y) ⊎ ((x < y) ⊎ (y < x)) → front k xs < 256 ^ k → front k ys < 256 ^ k →
        (front k xs ≡ front k ys → name_cmp xs ys ≡ nat_cmp (length xs) (length ys)) →
        ordering_then (nat_cmp x y) (name_cmp xs ys) ≡ nat_cmp (suc (length xs)) (suc (length ys))
    by (inl d) f g more =
        let same : front k xs ≡ front k ys = omega (arith, e, ap (λ z. z * 256 ^ k) d) in
        ap (λ o. ordering_then o (name_cmp xs ys)) (equal x y d) ∙ more same ∙ one_more (length xs) (length ys) (cases_order (length xs) (length ys))
    by (inr (inl l)) f g more = absurd (omega (arith, e, higher (256 ^ k) x y (front k xs) (front k ys) f l))
    by (inr (inr l)) f g more = absurd (omega (arith, e, higher (256 ^ k) y x (front k ys) (front k xs) g l))
