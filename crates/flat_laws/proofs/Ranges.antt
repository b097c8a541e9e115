-- Sums over the `if`s, loops and switches of a body, each of which takes numbers of its own, hit a number at most once.
use Rattle.std.proofs.Common.{ℕ, ◌+◌, ◌≤◌, ◌<◌, ◌⊎◌, inl, inr, Bool, true, false, eqb, ◌≡◌, refl, arith, eqb-true}
use Rattle.c_tree.specs.Everywhere.{total, total_of, total_in, Everywhere, EverywhereOf, EverywhereIn}
use Rattle.c_tree.specs.Trees.{Tree, Forest, Nil, Then, Sections, NoSection, Section, Evaluate, Return, If, While, Do, For, Switch, Block, Local, Break, Continue, Goto, Mark, Arm, Leap, Land, Arrival, Note}
use Rattle.c_tree.specs.Changed.{one}
use Rattle.flat_laws.specs.Parts.{Here}
use Rattle.flat_laws.proofs.Counts.{one_if, gathered, gathered_in, gathered_among}

-- a number of hits of K among n numbers from a on
pub record Range (K a n c : ℕ) : Type 0 where
  pub once : c ≤ 1
  pub before : K < a → c ≡ 0
  pub behind : a + n ≤ K → c ≡ 0

pub order : (m n : ℕ) → (m < n) ⊎ (n ≤ m)
order m n = grind arith

pub range_none : (K a : ℕ) → Range K a 0 0
range_none K a = record { once = omega arith; before = λ h. refl; behind = λ h. refl }

pub range_less : (K a n c c' : ℕ) → c ≤ c' → Range K a n c' → Range K a n c
range_less K a n c c' l r = record {
  once = (let o = r.once in omega (arith, l, o));
  before = λ h. let e = r.before h in omega (arith, l, e);
  behind = λ h. let e = r.behind h in omega (arith, l, e);
}

pub range_one : (K a : ℕ) → Range K a 1 (one_if (eqb K a))
range_one K a = at (eqb K a) refl
  where
    at : (b : Bool) → eqb K a ≡ b → Range K a 1 (one_if b)
    at true e = let d : K ≡ a = eqb-true K a e in record {
      once = omega arith;
      before = λ h. absurd (omega (arith, h, d));
      behind = λ h. absurd
          (omega (arith, h, d));
    }
    at false e = record { once = omega arith; before = λ h. refl; behind = λ h. refl }

pub range_join : (K a b m n N c d C : ℕ) → Range K a m c → Range K b n d → b ≡ a + m → N ≡ m + n → C ≡ c + d → Range K a N C
range_join K a b m n N c d C r q e f g = elim (order K b) as (λ _. Range K a N C) [
  | inl h ↦ (let z = q.before h in let o = r.once in record {
    once = omega (arith, z, o, g);
    before = λ i. let y = r.before i in omega (arith, z, y, g);
    behind = λ i. absurd (omega (arith, h, i, e, f));
  })
  | inr h ↦ (let z = r.behind (omega (arith, h, e)) in let o = q.once in record {
    once = omega (arith, z, o, g);
    before = λ i. absurd (omega (arith, h, i, e));
    behind = λ i. let y = q.behind (omega (arith, i, e, f)) in omega (arith, z, y, g);
  })
]

pub range_as : (K a n N c C : ℕ) → Range K a n c → N ≡ n → C ≡ c → Range K a N C
range_as K a n N c C r e f = record {
  once = (let o = r.once in omega (arith, o, f));
  before = λ h. let y = r.before h in omega (arith, y, f);
  behind = λ h. let y = r.behind (omega (arith, h, e)) in omega (arith, y, f);
}

-- `if`s, loops and switches
abbrev pub IsConstruct : Tree → Type 0
IsConstruct (If t a b) = Unit {0}
IsConstruct (While t a) = Unit {0}
IsConstruct (Do a t) = Unit {0}
IsConstruct (For first t u a) = Unit {0}
IsConstruct (Switch s d) = Unit {0}
IsConstruct _ = ⊥

module _ (within : Tree → Here → Here) (past : Forest → Here → Here) (K : ℕ) (w : Tree → Here → ℕ) (size : Tree → ℕ) (pos : Here → ℕ) (G : Tree → Type 0)
    (single : (x : Tree) (h : Here) → IsConstruct x → G x → Range K (pos h) (size x) (w x h))
    (within_pos : (x : Tree) (h : Here) → IsConstruct x → pos (within x h) ≡ pos h + size x)
    (past_pos : (xs : Forest) (h : Here) → pos (past xs h) ≡ pos h + total size xs)
    (none : (x : Tree) → (IsConstruct x → ⊥) → size x ≡ 0) where
  mutual
    pub gathered_range : (xs : Forest) (h : Here) → Everywhere G xs → Range K (pos h) (total size xs) (gathered within past w h xs)
    gathered_range Nil h g = range_none K (pos h)
    gathered_range (Then x xs) h g =
        let e = past_pos (one x) h in
        range_join K (pos h) (pos (past (one x) h)) (total_of size x) (total size xs) (total size (Then x xs)) (gathered_in within past w h x)
        (gathered within past w (past (one x) h) xs) (gathered within past w h (Then x xs))
        (gathered_range_in x h g.0) (gathered_range xs (past (one x) h) g.1) (omega (arith, e)) (omega arith) (omega arith)

    gathered_range_in : (x : Tree) (h : Here) → EverywhereOf G x → Range K (pos h) (total_of size x) (gathered_in within past w h x)
    gathered_range_in (If t a b) h g =
        let x = If t a b in
        let h' = within x h in
        let n = total size a + total size b in
        let c = gathered within past w h' a + gathered within past w (past a h') b in
        range_join K (pos h) (pos h') (size x) n (total_of size x) (w x h) c (gathered_in within past w h x) (single x h tt g.0)
        (range_join K (pos h') (pos (past a h')) (total size a) (total size b) n (gathered within past w h' a) (gathered within past w (past a h') b)
        c (gathered_range a h' g.1) (gathered_range b (past a h') g.2) (past_pos a h') refl refl)
        (within_pos x h tt) (omega arith) (omega arith)
    gathered_range_in (While t a) h g =
        let x = While t a in
        range_join K (pos h) (pos (within x h)) (size x) (total size a) (total_of size x) (w x h) (gathered within past w (within x h) a)
        (gathered_in within past w h x) (single x h tt g.0) (gathered_range a (within x h) g.1) (within_pos x h tt) (omega arith) (omega arith)
    gathered_range_in (Do a t) h g =
        let x = Do a t in
        range_join K (pos h) (pos (within x h)) (size x) (total size a) (total_of size x) (w x h) (gathered within past w (within x h) a)
        (gathered_in within past w h x) (single x h tt g.0) (gathered_range a (within x h) g.1) (within_pos x h tt) (omega arith) (omega arith)
    gathered_range_in (For first t u a) h g =
        let x = For first t u a in
        let h' = within x h in
        let n = total size first + total size a in
        let c = gathered within past w h' first + gathered within past w (past first h') a in
        range_join K (pos h) (pos h') (size x) n (total_of size x) (w x h) c (gathered_in within past w h x) (single x h tt g.0)
        (range_join K (pos h') (pos (past first h')) (total size first) (total size a) n (gathered within past w h' first)
        (gathered within past w (past first h') a) c (gathered_range first h' g.1) (gathered_range a (past first h') g.2) (past_pos first h') refl refl)
        (within_pos x h tt) (omega arith) (omega arith)
    gathered_range_in (Switch s d) h g =
        let x = Switch s d in
        range_join K (pos h) (pos (within x h)) (size x) (total_in size d) (total_of size x) (w x h) (gathered_among within past w (within x h) d)
        (gathered_in within past w h x) (single x h tt g.0) (gathered_range_among d (within x h) g.1) (within_pos x h tt) (omega arith) (omega arith)
    gathered_range_in (Block a) h g = let z = none (Block a) (λ i. i) in
        range_as K (pos h) (total size a) (total_of size (Block a)) (gathered within past w h a) (gathered within past w h a) (gathered_range a h g.1)
        (omega (arith, z)) refl
    gathered_range_in x h g = range_as K (pos h) 0 (size x) 0 0 (range_none K (pos h)) (none x (λ i. i)) refl

    gathered_range_among : (d : Sections) (h : Here) → EverywhereIn G d → Range K (pos h) (total_in size d) (gathered_among within past w h d)
    gathered_range_among NoSection h g = range_none K (pos h)
    gathered_range_among (Section cases default a ends d) h g =
        range_join K (pos h) (pos (past a h)) (total size a) (total_in size d) (total_in size (Section cases default a ends d))
        (gathered within past w h a) (gathered_among within past w (past a h) d) (gathered_among within past w h (Section cases default a ends d))
        (gathered_range a h g.0) (gathered_range_among d (past a h) g.1) (past_pos a h) refl refl

-- ---- sums of smaller numbers

module _ (f g : Tree → ℕ) (G : Tree → Type 0) (le : (x : Tree) → G x → f x ≤ g x) where
  mutual
    pub total_less : (xs : Forest) → Everywhere G xs → total f xs ≤ total g xs
    total_less Nil h = omega arith
    total_less (Then x xs) h = let i = total_less_of x h.0 in let j = total_less xs h.1 in omega (arith, i, j)

    total_less_of : (x : Tree) → EverywhereOf G x → total_of f x ≤ total_of g x
    total_less_of (If t a b) h = let l = le (If t a b) h.0 in let i = total_less a h.1 in let j = total_less b h.2 in omega (arith, l, i, j)
    total_less_of (While t a) h = let l = le (While t a) h.0 in let i = total_less a h.1 in omega (arith, l, i)
    total_less_of (Do a t) h = let l = le (Do a t) h.0 in let i = total_less a h.1 in omega (arith, l, i)
    total_less_of (For first t u a) h = let l = le (For first t u a) h.0 in let i = total_less first h.1 in let j = total_less a h.2 in omega (arith, l, i, j)
    total_less_of (Switch s d) h = let l = le (Switch s d) h.0 in let i = total_less_in d h.1 in omega (arith, l, i)
    total_less_of (Block a) h = let l = le (Block a) h.0 in let i = total_less a h.1 in omega (arith, l, i)
    total_less_of (Evaluate e) h = le (Evaluate e) h
    total_less_of (Return e) h = le (Return e) h
    total_less_of (Local x es) h = le (Local x es) h
    total_less_of Break h = le Break h
    total_less_of Continue h = le Continue h
    total_less_of (Goto l) h = le (Goto l) h
    total_less_of (Mark l) h = le (Mark l) h
    total_less_of (Arm l e) h = le (Arm l e) h
    total_less_of (Leap l) h = le (Leap l) h
    total_less_of (Land l) h = le (Land l) h
    total_less_of (Arrival e) h = le (Arrival e) h
    total_less_of (Note bs) h = le (Note bs) h

    total_less_in : (d : Sections) → EverywhereIn G d → total_in f d ≤ total_in g d
    total_less_in NoSection h = omega arith
    total_less_in (Section cases default a ends d) h = let i = total_less a h.0 in let j = total_less_in d h.1 in omega (arith, i, j)
