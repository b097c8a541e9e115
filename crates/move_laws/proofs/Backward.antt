-- Rule L, and rule J where the Leap follows the Land, make a list at least as good: it goes into a `do` that the
-- guard of the label drives.
use Rattle.std.proofs.Common.{ℕ, ◌+◌, Bool, true, false, cond, eqb, ◌≡◌, refl, ap, sym, ◌∙◌, subst, arith}
use Rattle.c_tree.specs.TestTrees.{On}
use Rattle.c_tree.specs.Trees.{Tree, Forest, Nil, Then, Do, Leap, Land, join}
use Rattle.c_tree.specs.Exits.{breaks, continues}
use Rattle.c_tree.specs.Changed.{one}
use Rattle.c_tree.proofs.ExitsKept.{breaks-join, continues-join}
use Rattle.core_laws.specs.Ways.{Known, Way, Lands, Past, Lost, ◌▷◌, on_peeled, walks, do_end_way, Follow, before, after_do}
use Rattle.core_laws.specs.Core.{core, core_do}
use Rattle.core_laws.specs.Better.{LeWay, LeFollow, LeAll, le_nil, Better}
use Rattle.move_laws.proofs.Orders.{way_past, way_lands, way_same}
use Rattle.move_laws.proofs.Lists.{walks-join, core-join}
use Rattle.move_laws.proofs.Cores.{join_le, core_le}
use Rattle.move_laws.proofs.Outward.{leap_way, leap_off}

-- what becomes of a list before a Leap of m
record Turned (m : ℕ) (a b : Forest) : Type 0 where
  -- no exit leaves it
  none : breaks a + continues a ≡ 0
  none_then : breaks b + continues b ≡ 0
  -- the guard of m is led to its Land
  at : (l : ℕ) → eqb l m ≡ true → walks l b ≡ Lands
  -- and every other one as before
  other : (l : ℕ) → eqb l m ≡ false → walks l a ≡ walks l b
  cores : (w w' : Follow) → LeFollow w w' → LeAll (core a w) (core b w')

module _ (m : ℕ) (a b : Forest) (h : Turned m a b) where
  -- from the end of the list on
  end_at : (l : ℕ) → eqb l m ≡ true → do_end_way l b (On m) ≡ Lands
  end_at l e = ap (λ c. on_peeled (Known c) Lost (walks l b ▷ Lost) Past) e ∙ ap (λ y. y ▷ Lost) (h.at l e)

  end_other : (l : ℕ) → eqb l m ≡ false → do_end_way l b (On m) ≡ Past
  end_other l e = ap (λ c. on_peeled (Known c) Lost (walks l b ▷ Lost) Past) e

  turned : Better (join a (one (Leap m))) (one (Do b (On m)))
  turned = record {
    stops = let i = breaks-join a (one (Leap m)) in let n = h.none in omega arith;
    goes = let i = continues-join a (one (Leap m)) in let n = h.none in omega arith;
    ways = λ l. way l (eqb l m) refl;
    cores = λ w w' k. subst (λ x. LeAll x (core (one (Do b (On m))) w')) (sym (core-join a (one (Leap m)) w))
        (subst (λ n. LeAll (join (core a (before (one (Leap m)) w)) Nil) (join (core_do (Known false) n (core b (after_do b (On m) w'))) Nil)) (sym h.none_then)
        (join_le (h.cores (before (one (Leap m)) w) (after_do b (On m) w') (λ l. after l w w' (k l) (eqb l m) refl)) le_nil));
  }
    where
      way : (l : ℕ) (c : Bool) → eqb l m ≡ c → LeWay (walks l (join a (one (Leap m)))) ((walks l b ▷ do_end_way l b (On m)) ▷ Past)
      way l true e = subst (λ y. LeWay (walks l (join a (one (Leap m)))) ((y ▷ do_end_way l b (On m)) ▷ Past)) (sym (h.at l e)) (way_lands _)
      way l false e = way_same
          (walks-join l a (one (Leap m)) ∙ ap (λ y. walks l a ▷ y) (leap_off l m e) ∙ ap (λ y. y ▷ Past) (h.other l e) ∙
          ap (λ y. walks l b ▷ y) (sym (end_other l e)) ∙ sym (way_past _))

      after : (l : ℕ) (w w' : Follow) → LeWay (w l) (w' l) → (c : Bool) → eqb l m ≡ c → LeWay (leap_way l m ▷ w l) (do_end_way l b (On m) ▷ w' l)
      after l w w' k true e = subst (λ y. LeWay (leap_way l m ▷ w l) (y ▷ w' l)) (sym (end_at l e)) (way_lands _)
      after l w w' k false e =
          subst (λ y. LeWay (y ▷ w l) (do_end_way l b (On m) ▷ w' l)) (sym (leap_off l m e)) (subst (λ y. LeWay (w l) (y ▷ w' l)) (sym (end_other l e)) k)

there_first : (l m : ℕ) (y : Way) → eqb l m ≡ true → cond (eqb l m) Lands Past ▷ y ≡ Lands
there_first l m y e = ap (λ c. cond c Lands Past ▷ y) e

-- rule J, where the Leap follows
pub join_before : (m : ℕ) (t : Forest) → breaks t + continues t ≡ 0 → Better (Then (Land m) (join t (one (Leap m)))) (one (Do (Then (Land m) t) (On m)))
join_before m t z = turned m (Then (Land m) t) (Then (Land m) t)
    (record { none = omega arith; none_then = omega arith; at = λ l e. there_first l m (walks l t) e; other = λ l e. refl; cores = core_le (Then (Land m) t) })

-- rule L
pub lifted : (m : ℕ) (x : Tree) (t : Forest) → breaks (Then x t) + continues (Then x t) ≡ 0 →
    Better (Then x (join t (one (Leap m)))) (one (Do (Then (Leap m) (Then x t)) (On m)))
lifted m x t z = turned m (Then x t) (Then (Leap m) (Then x t))
    (record {
      none = z;
      none_then = omega arith;
      at = λ l e. there_first l m (walks l (Then x t)) e;
      other = λ l e. sym (ap (λ c. cond c Lands Past ▷ walks l (Then x t)) e);
      cores = core_le (Then x t);
    })
