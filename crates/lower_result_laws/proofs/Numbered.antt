-- The labels of a flat list stand in it in the order of their numbers.
use Rattle.std.proofs.Common.{◌≡◌, ◌≢◌, inl, inr, ℕ, zero, suc, ◌+◌, ◌-◌, ◌≤◌, arith, Bool, true, false, true≢false, cond, eqb, List, [], ◌∷◌, map, length, Option, None, refl, sym, ap, subst, ◌∙◌}
use Rattle.std.proofs.lemmas.Bool.Decides.{Decides-eqb}
use Rattle.c_tree.specs.TestTrees.{Source}
use Rattle.c_tree.specs.ExpressionTrees.{ExpressionTree}
use Rattle.c_tree.specs.Trees.{Tree, Forest, Nil, Then, Evaluate, Return, If, Local, Goto, Mark, Note}
use Rattle.flat_laws.specs.Placed.{places, Has}
use Rattle.flat_laws.specs.FlatForm.{marks, place_in}
use Rattle.lower_laws.specs.Straight.{jump_if}
use Rattle.lower_laws.specs.Functions.{IsFlatItem, AreFlat}
use Rattle.c_resolved_defs.specs.Within.{Each, AllDiffer}
use Rattle.c_resolved_defs.specs.Form.{gathered, marked_label, numbers_from}
use Rattle.c_resolved_laws.proofs.LabelsGiven.{count_in}

-- ---- the items of a flat list

pub data FlatView : Tree → Type 0 where
  fv_evaluate : (e : ExpressionTree) → FlatView (Evaluate e)
  fv_return : (e : Option ExpressionTree) → FlatView (Return e)
  fv_note : (bs : List ℕ) → FlatView (Note bs)
  fv_local : (x : ℕ) → FlatView (Local x None)
  fv_goto : (l : ℕ) → FlatView (Goto l)
  fv_mark : (l : ℕ) → FlatView (Mark l)
  fv_jump : (t : ExpressionTree) (l : ℕ) → FlatView (jump_if (Source t) l)

pub view : (x : Tree) → IsFlatItem x → FlatView x
view (Evaluate e) h = fv_evaluate e
view (Return e) h = fv_return e
view (Note bs) h = fv_note bs
view (Local x None) h = fv_local x
view (Goto l) h = fv_goto l
view (Mark l) h = fv_mark l
view (If (Source t) (Then (Goto l) Nil) Nil) h = fv_jump t l
view _ h = absurd h

-- ---- labels

pub flat_places : (l : ℕ) (xs : Forest) → AreFlat xs → places l xs ≡ count_in l (marks xs)
flat_places l Nil h = refl
flat_places l (Then x xs) h = at (view x h.0) (flat_places l xs h.1)
  where
    at : {y : Tree} → FlatView y → places l xs ≡ count_in l (marks xs) → places l (Then y xs) ≡ count_in l (marks (Then y xs))
    at (fv_evaluate e) i = omega (arith, i)
    at (fv_return e) i = omega (arith, i)
    at (fv_note bs) i = omega (arith, i)
    at (fv_local x) i = omega (arith, i)
    at (fv_goto m) i = omega (arith, i)
    at (fv_mark m) i = omega (arith, i)
    at (fv_jump t m) i = omega (arith, i)

pub flat_gathered : (xs : Forest) → AreFlat xs → gathered marked_label xs ≡ marks xs
flat_gathered Nil h = refl
flat_gathered (Then x xs) h = at (view x h.0) (flat_gathered xs h.1)
  where
    at : {y : Tree} → FlatView y → gathered marked_label xs ≡ marks xs → gathered marked_label (Then y xs) ≡ marks (Then y xs)
    at (fv_evaluate e) i = i
    at (fv_return e) i = i
    at (fv_note bs) i = i
    at (fv_local x) i = i
    at (fv_goto m) i = i
    at (fv_mark m) i = ap (λ z. m ∷ z) i
    at (fv_jump t m) i = i

-- a label that stands in a flat list has what each of its labels has
pub flat_has : (P : ℕ → Type 0) (l : ℕ) (xs : Forest) → AreFlat xs → Each P (marks xs) → Has l xs → P l
flat_has P l Nil h p n = absurd n
flat_has P l (Then x xs) h p n = at (view x h.0) p n (λ q m. flat_has P l xs h.1 q m)
  where
    at : {y : Tree} → FlatView y → Each P (marks (Then y xs)) → Has l (Then y xs) → (Each P (marks xs) → Has l xs → P l) → P l
    at (fv_evaluate e) p (inl n) f = absurd n
    at (fv_evaluate e) p (inr n) f = f p n
    at (fv_return e) p (inl n) f = absurd n
    at (fv_return e) p (inr n) f = f p n
    at (fv_note bs) p (inl n) f = absurd n
    at (fv_note bs) p (inr n) f = f p n
    at (fv_local x) p (inl n) f = absurd n
    at (fv_local x) p (inr n) f = f p n
    at (fv_goto m) p (inl n) f = absurd n
    at (fv_goto m) p (inr n) f = f p n
    at (fv_mark m) p (inl n) f = subst P (sym n) p.0
    at (fv_mark m) p (inr n) f = f p.1 n
    at (fv_jump t m) p (inl (inl (inl n))) f = absurd n
    at (fv_jump t m) p (inl (inl (inr n))) f = absurd n
    at (fv_jump t m) p (inl (inr n)) f = absurd n
    at (fv_jump t m) p (inr n) f = f p n

-- ---- the places of a list in itself

-- the second are the places of the first in a list
abbrev pub AtPlaces : List ℕ → List ℕ → List ℕ → Type 0
AtPlaces ls [] [] = Unit {0}
AtPlaces ls (x ∷ xs) (y ∷ ys) = (y ≡ place_in ls x) × AtPlaces ls xs ys
AtPlaces ls _ _ = ⊥

abbrev before : ℕ → ℕ
before n = n - 1

-- no place but the first is 0 where 0 stands once
place_after : (m x y : ℕ) (ms : List ℕ) → y ≡ place_in (m ∷ ms) x → (y ≡ 0 → ⊥) → y ≡ suc (place_in ms x)
place_after m x y ms e n = at (eqb m x) e
  where
    at : (b : Bool) → y ≡ cond b 0 (suc (place_in ms x)) → y ≡ suc (place_in ms x)
    at true i = absurd (n i)
    at false i = i

abbrev bit : Bool → ℕ
bit b = cond b 1 0

bit_on : (m n : ℕ) → m ≡ n → bit (eqb m n) ≡ 1
bit_on m n e = ap bit ((Decides-eqb m n).1 e)

first_place : (m x : ℕ) (ms : List ℕ) → m ≡ x → place_in (m ∷ ms) x ≡ 0
first_place m x ms e = ap (λ b. cond b 0 (suc (place_in ms x))) ((Decides-eqb m x).1 e)

bit_shift : (l y z : ℕ) → y ≡ suc z → bit (eqb l z) ≡ bit (eqb (suc l) y)
bit_shift l y z e = at (eqb l z) refl (eqb (suc l) y) refl
  where
    at : (a : Bool) → eqb l z ≡ a → (b : Bool) → eqb (suc l) y ≡ b → bit a ≡ bit b
    at true p true q = refl
    at false p false q = refl
    at true p false q = let i = (Decides-eqb l z).0 p in absurd (true≢false (sym ((Decides-eqb (suc l) y).1 (omega (arith, i, e))) ∙ q))
    at false p true q = let i = (Decides-eqb (suc l) y).0 q in absurd (true≢false (sym ((Decides-eqb l z).1 (omega (arith, i, e))) ∙ p))

no_zero : (y n : ℕ) → bit (eqb 0 y) + n ≡ 0 → y ≡ 0 → ⊥
no_zero y n e i = let b = bit_on 0 y (sym i) in omega (arith, e, b)

pub record After (m : ℕ) (ms xs ys : List ℕ) : Type 0 where
  pub places : AtPlaces ms xs (map before ys)
  pub later : ys ≡ map suc (map before ys)
  pub counts : (l : ℕ) → count_in l (map before ys) ≡ count_in (suc l) ys
  pub others : Each (λ x. x ≢ m) xs

after : (m : ℕ) (ms xs ys : List ℕ) → AtPlaces (m ∷ ms) xs ys → count_in 0 ys ≡ 0 → After m ms xs ys
after m ms [] [] h c = record { places = tt; later = refl; counts = λ l. refl; others = tt }
after m ms (x ∷ xs) (y ∷ ys) h c =
    let e = place_after m x y ms h.0 (no_zero y (count_in 0 ys) c) in
    let r = after m ms xs ys h.1 (omega (arith, c)) in
    let z = place_in ms x in
    let w : before y ≡ z = omega (arith, e) in
    record {
      places = (w, r.places);
      later = (λ i. (e ∙ sym (ap suc w)) i ∷ r.later i);
      counts = λ l. (let b = bit_shift l y (before y) (e ∙ sym (ap suc w)) in let k = r.counts l in omega (arith, b, k));
      others = (λ q. no_zero y (count_in 0 ys) c (h.0 ∙ first_place m x ms (sym q)), r.others);
    }
after m ms [] (y ∷ ys) h c = absurd h
after m ms (x ∷ xs) [] h c = absurd h

later_numbers : (i n : ℕ) → map suc (numbers_from i n) ≡ numbers_from (suc i) n
later_numbers i zero = refl
later_numbers i (suc n) = ap (λ l. suc i ∷ l) (later_numbers (suc i) n)

-- where each place stands once, they are the numbers in order, and the list has nothing twice
pub record InOrder (ls ns : List ℕ) : Type 0 where
  pub numbers : ns ≡ numbers_from 0 (length ls)
  pub apart : AllDiffer ls

pub numbered : (ls ns : List ℕ) → AtPlaces ls ls ns → ((l : ℕ) → count_in l ns ≤ 1) → InOrder ls ns
numbered [] [] h c = record { numbers = refl; apart = tt }
numbered (m ∷ ms) (n ∷ ns) h c =
    let first : n ≡ 0 = h.0 ∙ first_place m m ms refl in
    let one = bit_on 0 n (sym first) in
    let c0 = c 0 in
    let r = after m ms ms ns h.1 (omega (arith, one, c0)) in
    let rest = numbered ms (map before ns) r.places (λ l. (let k = r.counts l in let d = c (suc l) in omega (arith, k, d))) in
    record {
      numbers = (λ i. first i ∷ (r.later ∙ ap (map suc) rest.numbers ∙ later_numbers 0 (length ms)) i);
      apart = (r.others, rest.apart);
    }
numbered [] (n ∷ ns) h c = absurd h
numbered (m ∷ ms) [] h c = absurd h
