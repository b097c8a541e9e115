-- The labels of a flat body, numbered by their places, are below the number of labels.
use Rattle.std.proofs.Common.{ℕ, zero, suc, ◌+◌, ◌<◌, ℤ, Bool, true, false, cond, eqb, List, [], ◌∷◌, ◌++◌, length, ◌≡◌, refl, sym, ap, subst, arith, eqb-true, eq-eqb}
use Rattle.c_types.specs.declared.kinds.IntKind.{IntKind}
use Rattle.c_tree.specs.declared.tree.Slot.{Slot}
use Rattle.c_tree.specs.ExpressionTrees.{ExpressionTree}
use Rattle.c_tree.specs.TestTrees.{Source, On, Off, AndOff, OrOn, Selects, Pick}
use Rattle.c_tree.specs.Everywhere.{Everywhere, EverywhereOf, EverywhereIn}
use Rattle.c_tree.specs.Labels.{ItemLabels}
use Rattle.c_tree.specs.Trees.{Tree, Forest, Nil, Then, Sections, NoSection, Section, If, While, Do, For, Switch, Block, Goto, Mark, Arm, Leap, Land}
use Rattle.flat_laws.specs.Pieces.{Stays}
use Rattle.flat_laws.specs.Placed.{places, places_of, places_among}
use Rattle.flat_laws.specs.Loose.{NoArrival}
use Rattle.flat_laws.specs.FlatForm.{flat, marks, marks_in, marks_among, place_in, coded, first_here, flat_body}
use Rattle.flat_laws.proofs.Counts.{one_if}
use Rattle.flat_laws.specs.FlatMade.{IsFlatItem, IsFlatMade}
use Rattle.flat_laws.specs.Relabelled.{relabelled, relabelled_item, relabelled_among}
use Rattle.flat_laws.proofs.Relabelled.{flat_labels}

same_one : (l : ℕ) → one_if (eqb l l) ≡ 1
same_one l = ap one_if (eq-eqb l l refl)

-- how often a number is in a list
abbrev count : ℕ → List ℕ → ℕ
count m [] = 0
count m (x ∷ xs) = one_if (eqb x m) + count m xs

count_append : (m : ℕ) (xs ys : List ℕ) → count m (xs ++ ys) ≡ count m xs + count m ys
count_append m [] ys = omega arith
count_append m (x ∷ xs) ys = let h = count_append m xs ys in omega (arith, h)

place_below : (ls : List ℕ) (m : ℕ) → 0 < count m ls → place_in ls m < length ls
place_below [] m h = absurd (omega (arith, h))
place_below (x ∷ ls) m h = at (eqb x m) (place_below ls m) h
  where
    at : (y : Bool) → (0 < count m ls → place_in ls m < length ls) → 0 < one_if y + count m ls → cond y 0 (suc (place_in ls m)) < length (x ∷ ls)
    at true f h = omega arith
    at false f h = let i = f (omega (arith, h)) in omega (arith, i)

either : (A : Type 0) (m n : ℕ) → 0 < m + n → (0 < m → A) → (0 < n → A) → A
either A zero n h f g = g (omega (arith, h))
either A (suc m) n h f g = f (omega arith)

module _ (g : ℕ → ℕ) (Q : ℕ → Type 0) where
  -- the fact holds of the new number of each label in the list
  abbrev Listed : List ℕ → Type 0
  Listed ls = (m : ℕ) → 0 < count m ls → Q (g m)

  listed_left : (xs ys : List ℕ) → Listed (xs ++ ys) → Listed xs
  listed_left xs ys f m h = let e = count_append m xs ys in f m (omega (arith, h, e))

  listed_right : (xs ys : List ℕ) → Listed (xs ++ ys) → Listed ys
  listed_right xs ys f m h = let e = count_append m xs ys in f m (omega (arith, h, e))

  listed_one : (l : ℕ) → Listed (l ∷ []) → Q (g l)
  listed_one l f = f l (let e = same_one l in omega (arith, e))

  module _ (P : ℕ → Type 0) (gotos : (l : ℕ) → P l → Q l) where
    mutual
      label_facts : (a : Forest) → Listed (marks a) → Everywhere (IsFlatItem P) (relabelled g a) → Everywhere (ItemLabels Q) (relabelled g a)
      label_facts Nil f h = tt
      label_facts (Then x a) f h = (label_facts_in x (listed_left (marks_in x) (marks a) f) h.0, label_facts a (listed_right (marks_in x) (marks a) f) h.1)

      label_facts_in : (x : Tree) → Listed (marks_in x) → EverywhereOf (IsFlatItem P) (relabelled_item g x) → EverywhereOf (ItemLabels Q) (relabelled_item g x)
      label_facts_in (If (Source e) a b) f h = (
        tt,
        label_facts a (listed_left (marks a) (marks b) f) h.1,
        label_facts b
            (listed_right (marks a) (marks b) f) h.2,
      )
      label_facts_in (If (On l) a b) f h = absurd h.0
      label_facts_in (If (Off l) a b) f h = absurd h.0
      label_facts_in (If (AndOff l t) a b) f h = absurd h.0
      label_facts_in (If (OrOn l t) a b) f h = absurd h.0
      label_facts_in (While (Source e) a) f h = (tt, label_facts a f h.1)
      label_facts_in (While (On l) a) f h = absurd h.0.0
      label_facts_in (While (Off l) a) f h = absurd h.0.0
      label_facts_in (While (AndOff l t) a) f h = absurd h.0.0
      label_facts_in (While (OrOn l t) a) f h = absurd h.0.0
      label_facts_in (Do a (Source e)) f h = (tt, label_facts a f h.1)
      label_facts_in (Do a (On l)) f h = absurd h.0.0
      label_facts_in (Do a (Off l)) f h = absurd h.0.0
      label_facts_in (Do a (AndOff l t)) f h = absurd h.0.0
      label_facts_in (Do a (OrOn l t)) f h = absurd h.0.0
      label_facts_in (For first t u a) f h = (
        tt,
        label_facts first (listed_left (marks first) (marks a) f) h.1,
        label_facts a
            (listed_right (marks first) (marks a) f) h.2,
      )
      label_facts_in (Switch (Selects e) d) f h = (tt, label_facts_among d f h.1)
      label_facts_in (Switch (Pick l n s) d) f h = absurd h.0.0
      label_facts_in (Block a) f h = absurd h.0
      label_facts_in (Goto l) f h = gotos (g l) h
      label_facts_in (Mark l) f h = listed_one l f
      label_facts_in (Arm l e) f h = absurd h
      label_facts_in (Leap l) f h = absurd h
      label_facts_in (Land l) f h = absurd h
      label_facts_in x f h = tt

      label_facts_among : (d : Sections) → Listed (marks_among d) → EverywhereIn (IsFlatItem P) (relabelled_among g d) →
          EverywhereIn (ItemLabels Q) (relabelled_among g d)
      label_facts_among NoSection f h = tt
      label_facts_among (Section cases default a ends d) f h =
          (label_facts a (listed_left (marks a) (marks_among d) f) h.0, label_facts_among d (listed_right (marks a) (marks_among d) f) h.1)

  -- of each label that stands in the new list
  module _ (L : ℕ) (P : ℕ → Type 0) where
    mutual
      stands_listed : (a : Forest) → Listed (marks a) → Everywhere (IsFlatItem P) (relabelled g a) → 0 < places L (relabelled g a) → Q L
      stands_listed Nil f h n = absurd (omega (arith, n))
      stands_listed (Then x a) f h n =
          either (Q L) (places_of L (relabelled_item g x)) (places L (relabelled g a)) n
          (stands_listed_in x (listed_left (marks_in x) (marks a) f) h.0) (stands_listed a (listed_right (marks_in x) (marks a) f) h.1)

      stands_listed_in : (x : Tree) → Listed (marks_in x) → EverywhereOf (IsFlatItem P) (relabelled_item g x) → 0 < places_of L (relabelled_item g x) → Q L
      stands_listed_in (If t a b) f h n =
          either (Q L) (places L (relabelled g a)) (places L (relabelled g b)) n (stands_listed a (listed_left (marks a) (marks b) f) h.1)
          (stands_listed b (listed_right (marks a) (marks b) f) h.2)
      stands_listed_in (While t a) f h n = stands_listed a f h.1 n
      stands_listed_in (Do a t) f h n = stands_listed a f h.1 n
      stands_listed_in (For first t u a) f h n = stands_listed a (listed_right (marks first) (marks a) f) h.2 n
      stands_listed_in (Switch s d) f h n = stands_listed_among d f h.1 n
      stands_listed_in (Block a) f h n = absurd h.0
      stands_listed_in (Mark l) f h n = at (eqb L (g l)) refl n
        where
          at : (y : Bool) → eqb L (g l) ≡ y → 0 < one_if y → Q L
          at true e n = subst Q (sym (eqb-true L (g l) e)) (listed_one l f)
          at false e n = absurd (omega (arith, n))
      stands_listed_in (Land l) f h n = absurd h
      stands_listed_in x f h n = absurd (omega (arith, n))

      stands_listed_among : (d : Sections) → Listed (marks_among d) → EverywhereIn (IsFlatItem P) (relabelled_among g d) →
          0 < places_among L (relabelled_among g d) → Q L
      stands_listed_among NoSection f h n = absurd (omega (arith, n))
      stands_listed_among (Section cases default a ends d) f h n =
          either (Q L) (places L (relabelled g a)) (places_among L (relabelled_among g d)) n
          (stands_listed a (listed_left (marks a) (marks_among d) f) h.0) (stands_listed_among d (listed_right (marks a) (marks_among d) f) h.1)

-- each label that a flat body names is below the number of its labels
pub labels_below : (number : IntKind → ℤ → ExpressionTree) (slots : List Slot) (n : ℕ) (body : Forest) → IsFlatMade (flat_body number slots n body)
    → Everywhere (ItemLabels (λ l. l < length (marks (flat (coded number slots n body) (first_here (length slots)) Stays Stays NoArrival body))))
    (flat_body number slots n body)
labels_below number slots n body made =
    let p = coded number slots n body in
    let h = first_here (length slots) in
    let F0 = flat p h Stays Stays NoArrival body in
    let F = flat_body number slots n body in
    let g = place_in (marks F0) in
    let e : relabelled g F0 ≡ F = flat_labels g p body h Stays Stays NoArrival in
    let P = λ (l : ℕ). places l F ≡ 1 in
    let Q = λ (l : ℕ). l < length (marks F0) in
    let items = subst (Everywhere (IsFlatItem P)) (sym e) made.items in
    subst (Everywhere (ItemLabels Q)) e
    (label_facts g Q P (λ l i. stands_listed g Q l P F0 (place_below (marks F0)) items (let j = ap (places l) e in omega (arith, i, j))) F0
    (place_below (marks F0)) items)
