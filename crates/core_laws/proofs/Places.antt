-- In a well made body, and in one without guards, each item has what it owes.
use Rattle.std.proofs.Common.{Option, Some, None, ℕ, zero, suc, ◌+◌, ◌<◌, ◌≤◌, Bool, true, false, cond, eqb, ◌==◌, List, [], ◌∷◌, ◌≡◌, refl, ap, sym, ◌∙◌, arith, eq-eqb, eqb-true, true≢false}
use Rattle.c_tree.specs.Trees.{Tree, Forest, Nil, Then, Sections, NoSection, Section, Evaluate, Return, If, While, Do, For, Switch, Block, Local, Break, Continue, Goto, Mark, Arm, Leap, Land, Arrival, Note}
use Rattle.c_tree.specs.Everywhere.{total, total_of, total_in, Everywhere, EverywhereOf, EverywhereIn}
use Rattle.c_tree.specs.Labels.{land_of, lands, lands_of}
use Rattle.c_tree.specs.Exits.{breaks, breaks_of, continues, continues_of, continues_in}
use Rattle.jump_meaning.specs.Code.{Code}
use Rattle.jump_meaning.specs.Tasks.{WhileLoop, DoLoop, ForLoop, Task, Runs, Loops, Heads, items, end_of, tail_tasks}
use Rattle.jump_meaning.specs.Search.{ToLabel, or_else, seek, seek_sections, first_of_three, find}
use Rattle.jump_meaning.specs.Step.{no_guards}
use Rattle.core_laws.specs.Ways.{Peeled, Ask, Known, peel}
use Rattle.core_laws.proofs.Lookup.{Stays, HasKeptExit, HasKeptLoop, seek_of}
use Rattle.core_laws.proofs.Reach.{body_in}
use Rattle.core_laws.proofs.Lawful.{HasNoInnerCase}
use Rattle.core_laws.proofs.All.{AllIn, AllOf, AllSections, kept_items, kept_end, kept_tail}
use Rattle.core_laws.proofs.Theorem.{Here}

-- 1 for the Land or the Mark of the label
abbrev pub spot_of : ℕ → Tree → ℕ
spot_of l (Mark m) = cond (m == l) 1 0
spot_of l x = land_of l x

-- how many of them stand in a list, at any depth
abbrev pub spots : ℕ → Forest → ℕ
spots l a = total (spot_of l) a

-- ---- a search comes to the one Land of a label

same_label : (m l : ℕ) → (m == l) ≡ eqb l m
same_label m l = at (m == l) refl (eqb l m) refl
  where
    at : (b : Bool) → (m == l) ≡ b → (c : Bool) → eqb l m ≡ c → (m == l) ≡ eqb l m
    at true e true q = e ∙ sym q
    at true e false q = absurd (true≢false (sym (eq-eqb l m (sym (eqb-true m l e))) ∙ q))
    at false e true q = absurd (true≢false (sym (eq-eqb m l (sym (eqb-true l m q))) ∙ e))
    at false e false q = e ∙ sym q

abbrev one_if : Bool → ℕ
one_if b = cond b 1 0

no_spot : (b c : Bool) (k : Option (List Task)) → b ≡ c → one_if b ≡ 0 → cond c k None ≡ None
no_spot true c k e h = absurd (omega (arith, h))
no_spot false true k e h = absurd (true≢false (sym e))
no_spot false false k e h = refl

pub both_none : (a b : Option (List Task)) → a ≡ None → b ≡ None → or_else a b ≡ None
both_none a b p q = ap (λ o. or_else o b) p ∙ q

mutual
  seek_none : (l : ℕ) (a : Forest) (k : List Task) → spots l a ≡ 0 → seek (ToLabel l) a k ≡ None
  seek_none l Nil k e = refl
  seek_none l (Then x a) k e = both_none (seek_of (ToLabel l) x (items a k)) (seek (ToLabel l) a k) (seek_none_of l x (items a k) (omega (arith, e)))
      (seek_none l a k (omega (arith, e)))

  seek_none_of : (l : ℕ) (x : Tree) (k : List Task) → total_of (spot_of l) x ≡ 0 → seek_of (ToLabel l) x k ≡ None
  seek_none_of l (If t a b) k e = both_none (seek (ToLabel l) a k) (seek (ToLabel l) b k) (seek_none l a k (omega (arith, e)))
      (seek_none l b k (omega (arith, e)))
  seek_none_of l (While t a) k e = seek_none l a (Loops (WhileLoop t a) ∷ k) (omega (arith, e))
  seek_none_of l (Do a t) k e = seek_none l a (Loops (DoLoop a t) ∷ k) (omega (arith, e))
  seek_none_of l (For first t u a) k e = seek_none l a (Loops (ForLoop t u a) ∷ k) (omega (arith, e))
  seek_none_of l (Switch s c) k e = seek_none_in l c k (omega (arith, e))
  seek_none_of l (Block a) k e = seek_none l a k (omega (arith, e))
  seek_none_of l (Mark m) k e = no_spot (m == l) (eqb l m) (Some (Runs (Mark m) ∷ k)) (same_label m l) e
  seek_none_of l (Land m) k e = no_spot (m == l) (eqb l m) (Some (Runs (Land m) ∷ k)) (same_label m l) e
  seek_none_of l _ k e = refl

  seek_none_in : (l : ℕ) (c : Sections) (k : List Task) → total_in (spot_of l) c ≡ 0 → seek_sections (ToLabel l) c k ≡ None
  seek_none_in l NoSection k e = refl
  seek_none_in l (Section cases default a ends c) k e =
      both_none (seek (ToLabel l) a (end_of ends (tail_tasks c k))) (seek_sections (ToLabel l) c k)
      (seek_none l a (end_of ends (tail_tasks c k)) (omega (arith, e))) (seek_none_in l c k (omega (arith, e)))

abbrev SomeLand : ℕ → Option (List Task) → Type 0
SomeLand l o = (k' : List Task) × (o ≡ Some (Runs (Land l) ∷ k'))

or_land : (l : ℕ) (a b : Option (List Task)) → SomeLand l a → SomeLand l (or_else a b)
or_land l a b h = (h.0, ap (λ o. or_else o b) h.1)

none_land : (l : ℕ) (a b : Option (List Task)) → a ≡ None → SomeLand l b → SomeLand l (or_else a b)
none_land l a b e h = (h.0, ap (λ o. or_else o b) e ∙ h.1)

here_land : (l m : ℕ) (b c : Bool) (k : List Task) → b ≡ c → eqb l m ≡ c → one_if b ≡ 1 → SomeLand l (cond c (Some (Runs (Land m) ∷ k)) None)
here_land l m b true k e q h = (k, ap (λ z. Some (Runs (Land z) ∷ k)) (sym (eqb-true l m q)))
here_land l m true false k e q h = absurd (true≢false e)
here_land l m false false k e q h = absurd (omega (arith, h))

split : (m n : ℕ) {A : Type 0} → m + n ≡ 1 → (m ≡ 1 → A) → (m ≡ 0 → n ≡ 1 → A) → A
split zero n e f g = g refl (omega (arith, e))
split (suc zero) n e f g = f refl
split (suc (suc m)) n e f g = absurd (omega (arith, e))

land_spot : (l : ℕ) (x : Tree) → land_of l x ≤ spot_of l x
land_spot l (Mark m) = omega arith
land_spot l (Evaluate e) = omega arith
land_spot l (Return e) = omega arith
land_spot l (If t a b) = omega arith
land_spot l (While t a) = omega arith
land_spot l (Do a t) = omega arith
land_spot l (For first t u a) = omega arith
land_spot l (Switch s c) = omega arith
land_spot l (Block a) = omega arith
land_spot l (Local x es) = omega arith
land_spot l Break = omega arith
land_spot l Continue = omega arith
land_spot l (Goto m) = omega arith
land_spot l (Arm m e) = omega arith
land_spot l (Leap m) = omega arith
land_spot l (Land m) = omega arith
land_spot l (Arrival e) = omega arith
land_spot l (Note bs) = omega arith

module _ (f g : Tree → ℕ) (le : (x : Tree) → f x ≤ g x) where
  mutual
    total_le : (a : Forest) → total f a ≤ total g a
    total_le Nil = omega arith
    total_le (Then x a) = let p = total_le_of x in let q = total_le a in omega (arith, p, q)

    total_le_of : (x : Tree) → total_of f x ≤ total_of g x
    total_le_of (If t a b) = let h = le (If t a b) in let p = total_le a in let q = total_le b in omega (arith, h, p, q)
    total_le_of (While t a) = let h = le (While t a) in let p = total_le a in omega (arith, h, p)
    total_le_of (Do a t) = let h = le (Do a t) in let p = total_le a in omega (arith, h, p)
    total_le_of (For first t u a) = let h = le (For first t u a) in let p = total_le first in let q = total_le a in omega (arith, h, p, q)
    total_le_of (Switch s c) = let h = le (Switch s c) in let p = total_le_in c in omega (arith, h, p)
    total_le_of (Block a) = let h = le (Block a) in let p = total_le a in omega (arith, h, p)
    total_le_of (Evaluate e) = le (Evaluate e)
    total_le_of (Return e) = le (Return e)
    total_le_of (Local x es) = le (Local x es)
    total_le_of Break = le Break
    total_le_of Continue = le Continue
    total_le_of (Goto m) = le (Goto m)
    total_le_of (Mark m) = le (Mark m)
    total_le_of (Arm m e) = le (Arm m e)
    total_le_of (Leap m) = le (Leap m)
    total_le_of (Land m) = le (Land m)
    total_le_of (Arrival e) = le (Arrival e)
    total_le_of (Note bs) = le (Note bs)

    total_le_in : (c : Sections) → total_in f c ≤ total_in g c
    total_le_in NoSection = omega arith
    total_le_in (Section cases default a ends c) = let p = total_le a in let q = total_le_in c in omega (arith, p, q)

lands_spots : (l : ℕ) (a : Forest) → lands l a ≤ spots l a
lands_spots l a = total_le (land_of l) (spot_of l) (land_spot l) a

lands_spots_in : (l : ℕ) (c : Sections) → total_in (land_of l) c ≤ total_in (spot_of l) c
lands_spots_in l c = total_le_in (land_of l) (spot_of l) (land_spot l) c

-- ---- what each item owes, of its own

-- b is the body; where it has one Land of a label, that is not in the first part of a `for`, and no switch has inner cases
abbrev pub Owes : Forest → Tree → Type 0
Owes b (For first t u a) = (l : ℕ) → lands l b ≡ 1 → spots l first ≡ 0
Owes b (Switch s c) = (l : ℕ) → lands l b ≡ 1 → HasNoInnerCase c
Owes b (Arm l e) = lands l b ≡ 1
Owes b (Leap l) = lands l b ≡ 1
Owes b _ = Unit {0}

module _ (b : Forest) (l : ℕ) (d : lands l b ≡ 1) where
  mutual
    seek_land : (a : Forest) (k : List Task) → Everywhere (Owes b) a → spots l a ≤ 1 → lands l a ≡ 1 → SomeLand l (seek (ToLabel l) a k)
    seek_land Nil k o n e = absurd (omega (arith, e))
    seek_land (Then x a) k o n e =
        split (lands_of l x) (lands l a) e
        (λ h. or_land l (seek_of (ToLabel l) x (items a k)) (seek (ToLabel l) a k) (seek_land_of x (items a k) o.0 (omega (arith, n)) h))
        (λ h i. let j = lands_spots l a in none_land l (seek_of (ToLabel l) x (items a k)) (seek (ToLabel l) a k)
        (seek_none_of l x (items a k) (omega (arith, n, i, j))) (seek_land a k o.1 (omega (arith, n)) i))

    seek_land_of : (x : Tree) (k : List Task) → EverywhereOf (Owes b) x → total_of (spot_of l) x ≤ 1 → lands_of l x ≡ 1 → SomeLand l (seek_of (ToLabel l) x k)
    seek_land_of (If t a c) k o n e =
        split (lands l a) (lands l c) (omega (arith, e))
        (λ h. or_land l (seek (ToLabel l) a k) (seek (ToLabel l) c k) (seek_land a k o.1 (omega (arith, n)) h))
        (λ h i. let j = lands_spots l c in none_land l (seek (ToLabel l) a k) (seek (ToLabel l) c k) (seek_none l a k (omega (arith, n, i, j)))
        (seek_land c k o.2 (omega (arith, n)) i))
    seek_land_of (While t a) k o n e = seek_land a (Loops (WhileLoop t a) ∷ k) o.1 (omega (arith, n)) (omega (arith, e))
    seek_land_of (Do a t) k o n e = seek_land a (Loops (DoLoop a t) ∷ k) o.1 (omega (arith, n)) (omega (arith, e))
    seek_land_of (For first t u a) k o n e =
        let z = o.0 l d in
        let j = lands_spots l first in
        seek_land a (Loops (ForLoop t u a) ∷ k) o.2 (omega (arith, n)) (omega (arith, e, z, j))
    seek_land_of (Switch s c) k o n e = seek_land_in c k o.1 (omega (arith, n)) (omega (arith, e))
    seek_land_of (Block a) k o n e = seek_land a k o.1 (omega (arith, n)) (omega (arith, e))
    seek_land_of (Land m) k o n e = here_land l m (m == l) (eqb l m) k (same_label m l) refl e
    seek_land_of _ k o n e = absurd (omega (arith, e))

    seek_land_in : (c : Sections) (k : List Task) → EverywhereIn (Owes b) c → total_in (spot_of l) c ≤ 1 → total_in (land_of l) c ≡ 1 →
        SomeLand l (seek_sections (ToLabel l) c k)
    seek_land_in NoSection k o n e = absurd (omega (arith, e))
    seek_land_in (Section cases default a ends c) k o n e =
        let behind = end_of ends (tail_tasks c k) in
        split (lands l a) (total_in (land_of l) c) e
        (λ h. or_land l (seek (ToLabel l) a behind) (seek_sections (ToLabel l) c k) (seek_land a behind o.0 (omega (arith, n)) h))
        (λ h i. let j = lands_spots_in l c in none_land l (seek (ToLabel l) a behind) (seek_sections (ToLabel l) c k)
        (seek_none l a behind (omega (arith, n, i, j))) (seek_land_in c k o.1 (omega (arith, n)) i))

-- ---- loops behind sections

loop_items : (a : Forest) (k : List Task) → HasKeptLoop k → HasKeptLoop (items a k)
loop_items Nil k h = h
loop_items (Then x a) k h = loop_items a k h

loop_end : (ends : Bool) (k : List Task) → HasKeptLoop k → HasKeptLoop (end_of ends k)
loop_end true k h = h
loop_end false k h = h

loop_tail : (c : Sections) (k : List Task) → HasKeptLoop k → HasKeptLoop (tail_tasks c k)
loop_tail NoSection k h = h
loop_tail (Section cases default a ends c) k h = loop_items a (end_of ends (tail_tasks c k)) (loop_end ends (tail_tasks c k) (loop_tail c k h))

stays : (q : Peeled) (n : ℕ) → 0 < n → Stays q n
stays (Ask e) n h = tt
stays (Known true) n h = tt
stays (Known false) zero h = absurd (omega (arith, h))
stays (Known false) (suc n) h = tt

-- ---- each item in its place

module _ (p : Code) (f : List ℕ) (all : Everywhere (Owes (body_in p f)) (body_in p f))
    (once : (l : ℕ) → lands l (body_in p f) ≡ 1 → spots l (body_in p f) ≤ 1) where
  abbrev body : Forest
  body = body_in p f

  -- at most one of a label that is landed
  abbrev Once : (ℕ → ℕ) → Type 0
  Once m = (l : ℕ) → lands l body ≡ 1 → m l ≤ 1

  -- where such a label stands here, a search here comes to what a search in the body comes to
  abbrev Home : (ℕ → ℕ) → (ℕ → Option (List Task)) → Type 0
  Home m s = (l : ℕ) → lands l body ≡ 1 → 0 < m l → s l ≡ seek (ToLabel l) body []

  or_none : (o : Option (List Task)) → or_else o None ≡ o
  or_none (Some k) = refl
  or_none None = refl

  left_home : (m n : ℕ → ℕ) (s t : ℕ → Option (List Task)) → Once (λ l. m l + n l) → ((l : ℕ) → n l ≡ 0 → t l ≡ None) →
      Home (λ l. m l + n l) (λ l. or_else (s l) (t l)) → Home m s
  left_home m n s t o z h l d i =
      let j = o l d in
      let e = z l (omega (arith, i, j)) in
      sym (or_none (s l)) ∙ ap (λ r. or_else (s l) r) (sym e) ∙ h l d (omega (arith, i))

  right_home : (m n : ℕ → ℕ) (s t : ℕ → Option (List Task)) → Once (λ l. m l + n l) → ((l : ℕ) → m l ≡ 0 → s l ≡ None) →
      Home (λ l. m l + n l) (λ l. or_else (s l) (t l)) → Home n t
  right_home m n s t o z h l d i =
      let j = o l d in
      let e = z l (omega (arith, i, j)) in
      ap (λ r. or_else r (t l)) (sym e) ∙ h l d (omega (arith, i))

  land_home : (m : ℕ) (b : Bool) (k : List Task) → eqb m m ≡ b → cond b (Some (Runs (Land m) ∷ k)) None ≡ seek (ToLabel m) body [] →
      find m body ≡ Runs (Land m) ∷ k
  land_home m true k e h = ap (λ o. first_of_three o None []) (sym h)
  land_home m false k e h = absurd (true≢false (sym (eq-eqb m m refl) ∙ e))

  one_here : (m : ℕ) (b : Bool) → (m == m) ≡ b → 0 < one_if b
  one_here m true e = omega arith
  one_here m false e = absurd (true≢false (sym (eq-eqb m m refl) ∙ e))

  mutual
    place : (a : Forest) (k : List Task) → Everywhere (Owes body) a → (0 < breaks a → HasKeptExit k) → (0 < continues a → HasKeptLoop k) →
        Once (λ l. spots l a) → Home (λ l. spots l a) (λ l. seek (ToLabel l) a k) → AllIn (Here p) f a k
    place Nil k o x c n h = tt
    place (Then y a) k o x c n h = (
      place_of y (items a k) o.0 (λ z. kept_items a k (x (omega (arith, z)))) (λ z. loop_items a k (c (omega (arith, z))))
          (λ l d. let z = n l d in omega (arith, z))
          (left_home (λ l. total_of (spot_of l) y) (λ l. spots l a) (λ l. seek_of (ToLabel l) y (items a k)) (λ l. seek (ToLabel l) a k) n
          (λ l e. seek_none l a k e) h),
      place a k o.1 (λ z. x (omega (arith, z))) (λ z. c (omega (arith, z))) (λ l d. let z = n l d in omega (arith, z))
          (right_home (λ l. total_of (spot_of l) y) (λ l. spots l a) (λ l. seek_of (ToLabel l) y (items a k)) (λ l. seek (ToLabel l) a k) n
          (λ l e. seek_none_of l y (items a k) e) h),
    )

    place_of : (y : Tree) (k : List Task) → EverywhereOf (Owes body) y → (0 < breaks_of y → HasKeptExit k) → (0 < continues_of y → HasKeptLoop k) →
        Once (λ l. total_of (spot_of l) y) → Home (λ l. total_of (spot_of l) y) (λ l. seek_of (ToLabel l) y k) → AllOf (Here p) f y k
    place_of (If t a b) k o x c n h =
        let n' : Once (λ l. spots l a + spots l b) = λ l d. let z = n l d in omega (arith, z) in
        let h' : Home (λ l. spots l a + spots l b) (λ l. or_else (seek (ToLabel l) a k) (seek (ToLabel l) b k)) = λ l d z. h l d (omega (arith, z)) in (
          place a k o.1 (λ z. x (omega (arith, z))) (λ z. c (omega (arith, z))) (λ l d. let z = n l d in omega (arith, z))
              (left_home (λ l. spots l a) (λ l. spots l b) (λ l. seek (ToLabel l) a k) (λ l. seek (ToLabel l) b k) n' (λ l e. seek_none l b k e) h'),
          place b k o.2 (λ z. x (omega (arith, z))) (λ z. c (omega (arith, z))) (λ l d. let z = n l d in omega (arith, z))
              (right_home (λ l. spots l a) (λ l. spots l b) (λ l. seek (ToLabel l) a k) (λ l. seek (ToLabel l) b k) n' (λ l e. seek_none l a k e) h'),
        )
    place_of (While t a) k o x c n h = place a (Loops (WhileLoop t a) ∷ k) o.1 (λ z. tt) (λ z. tt) (λ l d. let z = n l d in omega (arith, z))
        (λ l d z. h l d (omega (arith, z)))
    place_of (Do a t) k o x c n h =
        place a (Loops (DoLoop a t) ∷ k) o.1 (λ z. stays (peel no_guards t) (breaks a + continues a) (omega (arith, z)))
        (λ z. stays (peel no_guards t) (breaks a + continues a) (omega (arith, z)))
        (λ l d. let z = n l d in omega (arith, z)) (λ l d z. h l d (omega (arith, z)))
    place_of (For first t u a) k o x c n h = (
      place first (Heads t u a ∷ k) o.1 x c (λ l d. let z = n l d in omega (arith, z)) (λ l d z. let e = o.0 l d in absurd (omega (arith, z, e))),
      place a (Loops (ForLoop t u a) ∷ k) o.2 (λ z. tt) (λ z. tt) (λ l d. let z = n l d in omega (arith, z)) (λ l d z. h l d (omega (arith, z))),
    )
    place_of (Switch s y) k o x c n h = (o.0, place_in y k o.1 c (λ l d. let z = n l d in omega (arith, z)) (λ l d z. h l d (omega (arith, z))))
    place_of (Block a) k o x c n h = place a k o.1 x c (λ l d. let z = n l d in omega (arith, z)) (λ l d z. h l d (omega (arith, z)))
    place_of Break k o x c n h = x (omega arith)
    place_of Continue k o x c n h = c (omega arith)
    place_of (Arm m e) k o x c n h = o
    place_of (Leap m) k o x c n h = let s = seek_land body m o body [] all (once m o) o in (s.0, ap (λ r. first_of_three r None []) s.1)
    place_of (Land m) k o x c n h = λ d. land_home m (eqb m m) k refl (h m d (one_here m (m == m) refl))
    place_of _ k o x c n h = tt

    place_in : (y : Sections) (k : List Task) → EverywhereIn (Owes body) y → (0 < continues_in y → HasKeptLoop k) →
        Once (λ l. total_in (spot_of l) y) → Home (λ l. total_in (spot_of l) y) (λ l. seek_sections (ToLabel l) y k) → AllSections (Here p) f y k
    place_in NoSection k o c n h = tt
    place_in (Section cases default a ends y) k o c n h =
        let behind = end_of ends (tail_tasks y k) in (
          place a behind o.0 (λ z. kept_end ends (tail_tasks y k) (kept_tail y k))
              (λ z. loop_end ends (tail_tasks y k) (loop_tail y k (c (omega (arith, z))))) (λ l d. let z = n l d in omega (arith, z))
              (left_home (λ l. spots l a) (λ l. total_in (spot_of l) y) (λ l. seek (ToLabel l) a behind) (λ l. seek_sections (ToLabel l) y k) n
              (λ l e. seek_none_in l y k e) h),
          place_in y k o.1 (λ z. c (omega (arith, z))) (λ l d. let z = n l d in omega (arith, z))
              (right_home (λ l. spots l a) (λ l. total_in (spot_of l) y) (λ l. seek (ToLabel l) a behind) (λ l. seek_sections (ToLabel l) y k) n
              (λ l e. seek_none l a behind e) h),
        )

  pub placed_body : AllIn (Here p) f body []
  placed_body = place body [] all (λ z. tt) (λ z. tt) once (λ l d z. refl)
