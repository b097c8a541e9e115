-- Where each label stands at most once, a jump to it comes to where it stands.
use Rattle.std.proofs.Common.{ℕ, ◌+◌, ◌≤◌, ◌<◌, Bool, true, false, cond, List, [], ◌∷◌, eqb, Option, Some, None, ◌≡◌, refl, ap, sym, ◌∙◌, subst, arith, eq-eqb}
use Rattle.c_tree.specs.Trees.{Tree, Forest, Nil, Then, Sections, NoSection, Section, If, While, Do, For, Switch, Block, Mark, Land}
use Rattle.jump_meaning.specs.Tasks.{Task, Runs, Loops, WhileLoop, DoLoop, ForLoop, items, end_of, tail_tasks}
use Rattle.jump_meaning.specs.Search.{ToLabel, or_else, seek, seek_sections, first_of_three, find}
use Rattle.core_laws.proofs.Lookup.{seek_of, or_none}
use Rattle.core_laws.proofs.Places.{both_none}
use Rattle.flat_laws.specs.Placed.{ArePlaced, IsPlaced, ArePlacedAmong, places, places_of, places_among, IsOnce}

abbrev one_if : Bool → ℕ
one_if b = cond b 1 0

one_none : (b : Bool) (k : Option (List Task)) → one_if b ≡ 0 → cond b k None ≡ None
one_none true k e = absurd (omega (arith, e))
one_none false k e = refl

mutual
  seek_none : (l : ℕ) (a : Forest) (k : List Task) → places l a ≡ 0 → seek (ToLabel l) a k ≡ None
  seek_none l Nil k e = refl
  seek_none l (Then x a) k e = both_none (seek_of (ToLabel l) x (items a k)) (seek (ToLabel l) a k) (seek_none_of l x (items a k) (omega (arith, e)))
      (seek_none l a k (omega (arith, e)))

  seek_none_of : (l : ℕ) (x : Tree) (k : List Task) → places_of l x ≡ 0 → seek_of (ToLabel l) x k ≡ None
  seek_none_of l (If t a b) k e = both_none (seek (ToLabel l) a k) (seek (ToLabel l) b k) (seek_none l a k (omega (arith, e)))
      (seek_none l b k (omega (arith, e)))
  seek_none_of l (While t a) k e = seek_none l a (Loops (WhileLoop t a) ∷ k) e
  seek_none_of l (Do a t) k e = seek_none l a (Loops (DoLoop a t) ∷ k) e
  seek_none_of l (For first t u a) k e = seek_none l a (Loops (ForLoop t u a) ∷ k) e
  seek_none_of l (Switch s c) k e = seek_none_in l c k e
  seek_none_of l (Block a) k e = seek_none l a k e
  seek_none_of l (Mark m) k e = one_none (eqb l m) (Some (Runs (Mark m) ∷ k)) e
  seek_none_of l (Land m) k e = one_none (eqb l m) (Some (Runs (Land m) ∷ k)) e
  seek_none_of l _ k e = refl

  seek_none_in : (l : ℕ) (c : Sections) (k : List Task) → places_among l c ≡ 0 → seek_sections (ToLabel l) c k ≡ None
  seek_none_in l NoSection k e = refl
  seek_none_in l (Section cases default a ends c) k e =
      both_none (seek (ToLabel l) a (end_of ends (tail_tasks c k))) (seek_sections (ToLabel l) c k)
      (seek_none l a (end_of ends (tail_tasks c k)) (omega (arith, e))) (seek_none_in l c k (omega (arith, e)))

module _ (B : Forest) where
  -- where the label stands there, the search of the body comes there
  abbrev Home : (ℕ → ℕ) → (ℕ → Option (List Task)) → Type 0
  Home n o = (l : ℕ) → 0 < n l → seek (ToLabel l) B [] ≡ o l

  mark_at : (m : ℕ) (k : List Task) → Home (λ l. cond (eqb l m) 1 0) (λ l. cond (eqb l m) (Some (Runs (Mark m) ∷ k)) None) → find m B ≡ Runs (Mark m) ∷ k
  mark_at m k h =
      let e = eq-eqb m m refl in
      ap (λ o. first_of_three o None []) (h m (subst (λ b. 0 < cond b 1 0) (sym e) (omega arith)) ∙ ap (λ b. cond b (Some (Runs (Mark m) ∷ k)) None) e)

  left : (a b : ℕ → ℕ) (o q : ℕ → Option (List Task)) → ((l : ℕ) → a l + b l ≤ 1) → ((l : ℕ) → b l ≡ 0 → q l ≡ None) →
      Home (λ l. a l + b l) (λ l. or_else (o l) (q l)) → Home a o
  left a b o q n z h l p = let w = n l in h l (omega (arith, p)) ∙ ap (λ y. or_else (o l) y) (z l (omega (arith, p, w))) ∙ or_none (o l)

  right : (a b : ℕ → ℕ) (o q : ℕ → Option (List Task)) → ((l : ℕ) → a l + b l ≤ 1) → ((l : ℕ) → a l ≡ 0 → o l ≡ None) →
      Home (λ l. a l + b l) (λ l. or_else (o l) (q l)) → Home b q
  right a b o q n z h l p = let w = n l in h l (omega (arith, p)) ∙ ap (λ y. or_else y (q l)) (z l (omega (arith, p, w)))

  less_left : (a b : ℕ → ℕ) → ((l : ℕ) → a l + b l ≤ 1) → (l : ℕ) → a l ≤ 1
  less_left a b n l = let w = n l in omega (arith, w)

  less_right : (a b : ℕ → ℕ) → ((l : ℕ) → a l + b l ≤ 1) → (l : ℕ) → b l ≤ 1
  less_right a b n l = let w = n l in omega (arith, w)

  mutual
    place : (xs : Forest) (k : List Task) → ((l : ℕ) → places l xs ≤ 1) → Home (λ l. places l xs) (λ l. seek (ToLabel l) xs k) → ArePlaced B xs k
    place Nil k n h = tt
    place (Then x xs) k n h = (
      place_of x (items xs k) (less_left (λ l. places_of l x) (λ l. places l xs) n)
          (left (λ l. places_of l x) (λ l. places l xs) (λ l. seek_of (ToLabel l) x (items xs k)) (λ l. seek (ToLabel l) xs k) n (λ l e. seek_none l xs k e) h),
      place xs k (less_right (λ l. places_of l x) (λ l. places l xs) n)
          (right (λ l. places_of l x) (λ l. places l xs) (λ l. seek_of (ToLabel l) x (items xs k)) (λ l. seek (ToLabel l) xs k) n
          (λ l e. seek_none_of l x (items xs k) e) h),
    )

    place_of : (x : Tree) (k : List Task) → ((l : ℕ) → places_of l x ≤ 1) → Home (λ l. places_of l x) (λ l. seek_of (ToLabel l) x k) → IsPlaced B x k
    place_of (If t a b) k n h = (
      place a k (less_left (λ l. places l a) (λ l. places l b) n)
          (left (λ l. places l a) (λ l. places l b) (λ l. seek (ToLabel l) a k) (λ l. seek (ToLabel l) b k) n (λ l e. seek_none l b k e) h),
      place b k (less_right (λ l. places l a) (λ l. places l b) n)
          (right (λ l. places l a) (λ l. places l b) (λ l. seek (ToLabel l) a k) (λ l. seek (ToLabel l) b k) n (λ l e. seek_none l a k e) h),
    )
    place_of (While t a) k n h = place a (Loops (WhileLoop t a) ∷ k) n h
    place_of (Do a t) k n h = place a (Loops (DoLoop a t) ∷ k) n h
    place_of (For first t u a) k n h = place a (Loops (ForLoop t u a) ∷ k) n h
    place_of (Block a) k n h = place a k n h
    place_of (Switch s c) k n h = place_among c k n h
    place_of (Mark m) k n h = mark_at m k h
    place_of _ k n h = tt

    place_among : (c : Sections) (k : List Task) → ((l : ℕ) → places_among l c ≤ 1) →
        Home (λ l. places_among l c) (λ l. seek_sections (ToLabel l) c k) → ArePlacedAmong B c k
    place_among NoSection k n h = tt
    place_among (Section cases default a ends c) k n h =
        let T = end_of ends (tail_tasks c k) in (
          place a T (less_left (λ l. places l a) (λ l. places_among l c) n)
              (left (λ l. places l a) (λ l. places_among l c) (λ l. seek (ToLabel l) a T) (λ l. seek_sections (ToLabel l) c k) n
              (λ l q. seek_none_in l c k q) h),
          place_among c k (less_right (λ l. places l a) (λ l. places_among l c) n)
              (right (λ l. places l a) (λ l. places_among l c) (λ l. seek (ToLabel l) a T) (λ l. seek_sections (ToLabel l) c k) n (λ l q. seek_none l a T q) h),
        )

-- each label stands at most once: each is found where it stands
pub once_placed : (B : Forest) → IsOnce B → ArePlaced B B []
once_placed B once = place B B [] once (λ l p. refl)
