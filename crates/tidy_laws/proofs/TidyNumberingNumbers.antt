-- Slots go one after another, and get their new numbers at once.
use Rattle.std.proofs.Common.{ℕ, zero, suc, pred, ◌+◌, ◌-◌, ◌<◌, ◌≤◌, ◌≢◌, Bool, true, false, cond, eqb, leb, ltb, nat_lt, List, [], ◌∷◌, length, replicate, slice_set, ◌≡◌, refl, sym, ap, ◌∙◌, arith, true≢false}
use Rattle.std.proofs.lemmas.Bool.{eq-eqb, eqb-true, eqb-false, le-leb, leb-true, lt-ltb, ltb-true}
use Rattle.std.proofs.lemmas.Bool.Decides.{nat_tests}
use Rattle.c_tree.specs.declared.tree.Slot.{Slot}
use Rattle.c_tree.specs.Trees.{Forest}
use Rattle.jump_meaning.specs.Code.{entry_or}
use Rattle.jump_meaning.specs.World.{no_slot}
use Rattle.tidy_laws.specs.Mentions.{list_lacks}
use Rattle.tidy_laws.specs.Renumbered.{new_number, without, renumbered_list}
use Rattle.tidy_laws.specs.Renamed.{renamed_list}
use Rattle.tidy_laws.specs.Gone.{is_gone, old_number, gone_before, left}
use Rattle.tidy_laws.specs.TidyNumberingLaws.{NumberLaws}
use Rattle.tidy_laws.proofs.Walks.{same_list, back_list, step_list}

pub same_bool : (a b : Bool) → (a ≡ true → b ≡ true) → (b ≡ true → a ≡ true) → a ≡ b
same_bool true b f g = sym (f refl)
same_bool false true f g = g refl
same_bool false false f g = refl

-- ---- none gone

none_old : (n x : ℕ) → old_number (replicate n false) x ≡ x
none_old zero x = refl
none_old (suc n) zero = refl
none_old (suc n) (suc x) = ap suc (none_old n x)

none_left : (n : ℕ) (ss : List Slot) → left (replicate n false) ss ≡ ss
none_left zero ss = refl
none_left (suc n) [] = refl
none_left (suc n) (s ∷ ss) = ap (λ z. s ∷ z) (none_left n ss)

-- ---- two numbers

one_old : (gone : List Bool) (x y : ℕ) → old_number gone x ≡ old_number gone y → x ≡ y
one_old [] x y e = e
one_old (true ∷ gone) x y e = one_old gone x y (omega (arith, e))
one_old (false ∷ gone) zero zero e = refl
one_old (false ∷ gone) zero (suc y) e = absurd (omega (arith, e))
one_old (false ∷ gone) (suc x) zero e = absurd (omega (arith, e))
one_old (false ∷ gone) (suc x) (suc y) e = ap suc (one_old gone x y (omega (arith, e)))

apart : (gone : List Bool) (x y : ℕ) → eqb (old_number gone x) (old_number gone y) ≡ eqb x y
apart gone x y = same_bool (eqb (old_number gone x) (old_number gone y)) (eqb x y)
    (λ e. eq-eqb x y (one_old gone x y (eqb-true (old_number gone x) (old_number gone y) e)))
    (λ e. eq-eqb (old_number gone x) (old_number gone y) (ap (old_number gone) (eqb-true x y e)))

-- ---- in front

pub no_less : (gone : List Bool) (x : ℕ) → x ≤ old_number gone x
no_less [] x = omega arith
no_less (true ∷ gone) x = let h = no_less gone x in omega (arith, h)
no_less (false ∷ gone) zero = omega arith
no_less (false ∷ gone) (suc x) = let h = no_less gone x in omega (arith, h)

front_same : (gone : List Bool) (p x : ℕ) → ((y : ℕ) → y < p → is_gone gone y ≡ false) → x < p → old_number gone x ≡ x
front_same [] p x h l = refl
front_same (true ∷ gone) p x h l = absurd (true≢false (h 0 (omega (arith, l))))
front_same (false ∷ gone) p zero h l = refl
front_same (false ∷ gone) zero (suc x) h l = absurd (omega (arith, l))
front_same (false ∷ gone) (suc p) (suc x) h l = ap suc (front_same gone p x (λ y m. h (suc y) (omega (arith, m))) (omega (arith, l)))

in_front : (gone : List Bool) (p x : ℕ) → ((y : ℕ) → y < p → is_gone gone y ≡ false) → leb p (old_number gone x) ≡ leb p x
in_front gone p x h = same_bool (leb p (old_number gone x)) (leb p x) (λ e. down (leb p x) refl (leb-true p (old_number gone x) e))
    (λ e. let k = leb-true p x e in let m = no_less gone x in le-leb p (old_number gone x) (omega (arith, k, m)))
  where
    down : (b : Bool) → leb p x ≡ b → p ≤ old_number gone x → leb p x ≡ true
    down true e l = e
    down false e l = let n : x < p = grind (arith, nat_tests) in let q = front_same gone p x h n in absurd (omega (arith, l, n, q))

-- ---- what is there

is_left : (gone : List Bool) (ss : List Slot) (x : ℕ) → old_number gone x < length ss → x < length (left gone ss)
is_left [] ss x h = h
is_left (b ∷ gone) [] x h = absurd (omega (arith, h))
is_left (true ∷ gone) (s ∷ ss) x h = is_left gone ss x (omega (arith, h))
is_left (false ∷ gone) (s ∷ ss) zero h = omega arith
is_left (false ∷ gone) (s ∷ ss) (suc x) h = let k = is_left gone ss x (omega (arith, h)) in omega (arith, k)

pub was_there : (gone : List Bool) (ss : List Slot) (x : ℕ) → x < length (left gone ss) → old_number gone x < length ss
was_there [] ss x h = h
was_there (b ∷ gone) [] x h = absurd (omega (arith, h))
was_there (true ∷ gone) (s ∷ ss) x h = let k = was_there gone ss x h in omega (arith, k)
was_there (false ∷ gone) (s ∷ ss) zero h = omega arith
was_there (false ∷ gone) (s ∷ ss) (suc x) h = let k = was_there gone ss x (omega (arith, h)) in omega (arith, k)

there : (gone : List Bool) (ss : List Slot) (x : ℕ) → ltb (old_number gone x) (length ss) ≡ ltb x (length (left gone ss))
there gone ss x = same_bool (ltb (old_number gone x) (length ss)) (ltb x (length (left gone ss)))
    (λ e. lt-ltb x (length (left gone ss)) (is_left gone ss x (ltb-true (old_number gone x) (length ss) e)))
    (λ e. lt-ltb (old_number gone x) (length ss) (was_there gone ss x (ltb-true x (length (left gone ss)) e)))

entry : (gone : List Bool) (ss : List Slot) (x : ℕ) → entry_or no_slot ss (old_number gone x) ≡ entry_or no_slot (left gone ss) x
entry [] ss x = refl
entry (b ∷ gone) [] x = refl
entry (true ∷ gone) (s ∷ ss) x = entry gone ss x
entry (false ∷ gone) (s ∷ ss) zero = refl
entry (false ∷ gone) (s ∷ ss) (suc x) = entry gone ss x

-- ---- one more

new_suc : (g x : ℕ) → new_number (suc g) (suc x) ≡ suc (new_number g x)
new_suc g x = at (nat_lt g x) refl
  where
    at : (b : Bool) → nat_lt g x ≡ b → new_number (suc g) (suc x) ≡ suc (new_number g x)
    at true i =
        let l : g < x = grind (arith, nat_tests) in
        let k : nat_lt (suc g) (suc x) ≡ true = grind (arith, nat_tests) in
        let p : x ≡ suc (pred x) = omega (arith, l) in
        ap (λ b. cond b (pred (suc x)) (suc x)) k ∙ p ∙ sym (ap (λ b. suc (cond b (pred x) x)) i)
    at false i =
        let k : nat_lt (suc g) (suc x) ≡ false = grind (arith, nat_tests) in
        ap (λ b. cond b (pred (suc x)) (suc x)) k ∙ sym (ap (λ b. suc (cond b (pred x) x)) i)

stepped : (gone : List Bool) (g x : ℕ) → old_number gone g < length gone → x ≢ g →
    old_number (slice_set gone (old_number gone g) true) (new_number g x) ≡ old_number gone x
stepped [] g x h n = absurd (omega (arith, h))
stepped (true ∷ gone) g x h n = ap suc (stepped gone g x (omega (arith, h)) n)
stepped (false ∷ gone) zero zero h n = absurd (n refl)
stepped (false ∷ gone) zero (suc x) h n = ap (λ z. suc (old_number gone z)) (zero_less x)
  where
    zero_less : (x : ℕ) → new_number 0 (suc x) ≡ x
    zero_less x = let k : nat_lt 0 (suc x) ≡ true = grind (arith, nat_tests) in ap (λ b. cond b (pred (suc x)) (suc x)) k
stepped (false ∷ gone) (suc g) zero h n = ap (old_number (false ∷ slice_set gone (old_number gone g) true)) (before g)
  where
    before : (g : ℕ) → new_number (suc g) 0 ≡ 0
    before g = let k : nat_lt (suc g) 0 ≡ false = grind (arith, nat_tests) in ap (λ b. cond b (pred 0) 0) k
stepped (false ∷ gone) (suc g) (suc x) h n =
    ap (old_number (false ∷ slice_set gone (old_number gone g) true)) (new_suc g x)
    ∙ ap suc (stepped gone g x (omega (arith, h)) (λ e. n (ap suc e)))

one_less : (gone : List Bool) (g : ℕ) (ss : List Slot) → old_number gone g < length gone →
    left (slice_set gone (old_number gone g) true) ss ≡ without g (left gone ss)
one_less [] g ss h = absurd (omega (arith, h))
one_less (true ∷ gone) g [] h = refl
one_less (true ∷ gone) g (s ∷ ss) h = one_less gone g ss (omega (arith, h))
one_less (false ∷ gone) zero [] h = refl
one_less (false ∷ gone) zero (s ∷ ss) h = refl
one_less (false ∷ gone) (suc g) [] h = refl
one_less (false ∷ gone) (suc g) (s ∷ ss) h = ap (λ z. s ∷ z) (one_less gone g ss (omega (arith, h)))

one_more : (gone : List Bool) (g : ℕ) (a : Forest) → old_number gone g < length gone → list_lacks g a ≡ true
    → renamed_list (old_number (slice_set gone (old_number gone g) true)) (renumbered_list g a) ≡ renamed_list (old_number gone) a
one_more gone g a h l =
    step_list (old_number (slice_set gone (old_number gone g) true)) (old_number gone) g (λ x e. stepped gone g x h (eqb-false x g e)) a l

-- ---- back

back_number : (gone : List Bool) (x : ℕ) → old_number gone x ≡ x + gone_before gone (old_number gone x)
back_number [] x = omega arith
back_number (true ∷ gone) x = let h = back_number gone x in omega (arith, h)
back_number (false ∷ gone) zero = omega arith
back_number (false ∷ gone) (suc x) = let h = back_number gone x in omega (arith, h)

back : (gone : List Bool) (r : ℕ → ℕ) (a : Forest) → ((x : ℕ) → r x ≡ x - gone_before gone x) → renamed_list r (renamed_list (old_number gone) a) ≡ a
back gone r a h = back_list r (old_number gone) (λ x. let e = h (old_number gone x) in let k = back_number gone x in omega (arith, e, k)) a

pub number_laws_hold : NumberLaws
number_laws_hold = record {
  none = λ n a. same_list (old_number (replicate n false)) (none_old n) a;
  none_left = none_left;
  apart = apart;
  in_front = in_front;
  there = there;
  entry = entry;
  one_more = one_more;
  one_less = one_less;
  back = back;
}
