-- In a source body each label stands at most once, and the label of each goto stands.
use Rattle.std.proofs.Common.{ℕ, zero, suc, ◌+◌, ◌≤◌, ◌<◌, Bool, true, false, eqb, inl, inr, ◌⊎◌, ◌≡◌, refl, arith, eqb-true}
use Rattle.c_tree.specs.Everywhere.{total, total_of, total_in, Everywhere, EverywhereOf, EverywhereIn}
use Rattle.c_tree.specs.Trees.{Tree, Forest, Nil, Then, Sections, NoSection, Section, Evaluate, If, While, Do, For, Switch, Block, Local, Mark, Land}
use Rattle.flat_laws.specs.Placed.{places, places_of, places_among, Has, HasIn, HasAmong, IsOnce}
use Rattle.flat_laws.specs.Parts.{is_named}
use Rattle.flat_laws.specs.Source.{mark_bit}
use Rattle.flat_laws.proofs.Counts.{one_if}
use Rattle.flat_laws.specs.FlatMade.{AreFirst, IsPlainItem}
use Rattle.flat_laws.specs.FlatWellMadeLaws.{IsGoodSource}

either : (A B : Type 0) (m n : ℕ) → 0 < m + n → (0 < m → A) → (0 < n → B) → A ⊎ B
either A B zero n h f g = inr (g (omega (arith, h)))
either A B (suc m) n h f g = inl (f (omega arith))

module _ (l : ℕ) where
  no_first : (xs : Forest) → AreFirst xs → total (mark_bit l) xs ≡ 0
  no_first Nil f = refl
  no_first (Then (Evaluate e) xs) f = let i = no_first xs f.1 in omega (arith, i)
  no_first (Then (Local x es) xs) f = let i = no_first xs f.1 in omega (arith, i)
  no_first (Then x xs) f = absurd f.0

  mutual
    marked : (a : Forest) → Everywhere IsPlainItem a → places l a ≤ total (mark_bit l) a
    marked Nil h = omega arith
    marked (Then x a) h = let i = marked_in x h.0 in let j = marked a h.1 in omega (arith, i, j)

    marked_in : (x : Tree) → EverywhereOf IsPlainItem x → places_of l x ≤ total_of (mark_bit l) x
    marked_in (If t a b) h = let i = marked a h.1 in let j = marked b h.2 in omega (arith, i, j)
    marked_in (While t a) h = let i = marked a h.1 in omega (arith, i)
    marked_in (Do a t) h = let i = marked a h.1 in omega (arith, i)
    marked_in (For first t u a) h = let i = marked a h.2 in omega (arith, i)
    marked_in (Switch s d) h = let i = marked_among d h.1 in omega (arith, i)
    marked_in (Block a) h = let i = marked a h.1 in omega (arith, i)
    marked_in (Mark m) h = omega arith
    marked_in (Land m) h = absurd h
    marked_in x h = omega arith

    marked_among : (d : Sections) → EverywhereIn IsPlainItem d → places_among l d ≤ total_in (mark_bit l) d
    marked_among NoSection h = omega arith
    marked_among (Section cases default a ends d) h = let i = marked a h.0 in let j = marked_among d h.1 in omega (arith, i, j)

  mutual
    has : (a : Forest) → Everywhere IsPlainItem a → 0 < total (mark_bit l) a → Has l a
    has Nil h n = absurd (omega (arith, n))
    has (Then x a) h n = either (HasIn l x) (Has l a) (total_of (mark_bit l) x) (total (mark_bit l) a) n (has_in x h.0) (has a h.1)

    has_in : (x : Tree) → EverywhereOf IsPlainItem x → 0 < total_of (mark_bit l) x → HasIn l x
    has_in (If t a b) h n = either (Has l a) (Has l b) (total (mark_bit l) a) (total (mark_bit l) b) (omega (arith, n)) (has a h.1) (has b h.2)
    has_in (While t a) h n = has a h.1 (omega (arith, n))
    has_in (Do a t) h n = has a h.1 (omega (arith, n))
    has_in (For first t u a) h n = let i = no_first first h.0 in has a h.2 (omega (arith, n, i))
    has_in (Switch s d) h n = has_among d h.1 (omega (arith, n))
    has_in (Block a) h n = has a h.1 (omega (arith, n))
    has_in (Mark m) h n = at (eqb l m) refl n
      where
        at : (y : Bool) → eqb l m ≡ y → 0 < one_if y → l ≡ m
        at true e n = eqb-true l m e
        at false e n = absurd (omega (arith, n))
    has_in x h n = absurd (omega (arith, n))

    has_among : (d : Sections) → EverywhereIn IsPlainItem d → 0 < total_in (mark_bit l) d → HasAmong l d
    has_among NoSection h n = absurd (omega (arith, n))
    has_among (Section cases default a ends d) h n = either (Has l a) (HasAmong l d) (total (mark_bit l) a) (total_in (mark_bit l) d) n (has a h.0)
        (has_among d h.1)

pub once : (n : ℕ) (body : Forest) → IsGoodSource n body → IsOnce body
once n body s l = let i = marked l body s.items in let j = s.own.once l in omega (arith, i, j)

pub named : (n : ℕ) (body : Forest) → IsGoodSource n body → (l : ℕ) → is_named body l ≡ true → Has l body
named n body s l e = has l body s.items (s.stand l e)
