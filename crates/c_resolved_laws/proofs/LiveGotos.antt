-- The label of each goto of a body is one that a goto of the body names.
use Rattle.std.proofs.Common.{ℕ, ◌<◌, Bool, true, cond, ◌≡◌, refl, sym, subst, arith, eq-eqb}
use Rattle.c_tree.specs.Trees.{Tree, Forest, Nil, Then, Sections, NoSection, Section, If, While, Do, For, Switch, Block, Goto}
use Rattle.c_tree.specs.Everywhere.{total, total_of, total_in, Everywhere, EverywhereOf, EverywhereIn}
use Rattle.flat_laws.specs.Parts.{is_named, gotos_to}
use Rattle.flat_laws.proofs.WellMade.{some_number}

-- the label of a goto is live
abbrev pub NamesLive : (ℕ → Bool) → Tree → Type 0
NamesLive live (Goto l) = live l ≡ true
NamesLive live _ = Unit {0}

module _ (live : ℕ → Bool) where
  abbrev Lives : (ℕ → ℕ) → Type 0
  Lives n = (l : ℕ) → 0 < n l → live l ≡ true

  mutual
    lives : (a : Forest) → Lives (λ l. total (gotos_to l) a) → Everywhere (NamesLive live) a
    lives Nil f = tt
    lives (Then x a) f = (lives_in x (λ l n. f l (omega (arith, n))), lives a (λ l n. f l (omega (arith, n))))

    lives_in : (x : Tree) → Lives (λ l. total_of (gotos_to l) x) → EverywhereOf (NamesLive live) x
    lives_in (If t a b) f = (tt, lives a (λ l n. f l (omega (arith, n))), lives b (λ l n. f l (omega (arith, n))))
    lives_in (While t a) f = (tt, lives a (λ l n. f l (omega (arith, n))))
    lives_in (Do a t) f = (tt, lives a (λ l n. f l (omega (arith, n))))
    lives_in (For first t u a) f = (tt, lives first (λ l n. f l (omega (arith, n))), lives a (λ l n. f l (omega (arith, n))))
    lives_in (Switch s d) f = (tt, lives_among d (λ l n. f l (omega (arith, n))))
    lives_in (Block a) f = (tt, lives a (λ l n. f l (omega (arith, n))))
    lives_in (Goto m) f = f m (subst (λ b. 0 < cond b 1 0) (sym (eq-eqb m m refl)) (omega arith))
    lives_in x f = tt

    lives_among : (d : Sections) → Lives (λ l. total_in (gotos_to l) d) → EverywhereIn (NamesLive live) d
    lives_among NoSection f = tt
    lives_among (Section cases default a ends d) f = (lives a (λ l n. f l (omega (arith, n))), lives_among d (λ l n. f l (omega (arith, n))))

pub named_live : (a : Forest) → Everywhere (NamesLive (is_named a)) a
named_live a = lives (is_named a) a (λ l n. some_number (total (gotos_to l) a) n)
