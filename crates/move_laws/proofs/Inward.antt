-- Rule I makes a list at least as good, where a Leap goes into an `if` or a loop; and so does rule J where the
-- Land follows the Leap.
use Rattle.std.proofs.Common.{ℕ, ◌+◌, Bool, true, false, cond, eqb, ◌≡◌, refl, ap, sym, ◌∙◌, subst, arith}
use Rattle.c_tree.specs.TestTrees.{TestTree, AndOff, OrOn}
use Rattle.c_tree.specs.Trees.{Tree, Forest, Then, If, While, Do, Leap, Land, join}
use Rattle.c_tree.specs.Exits.{breaks, breaks_of, continues, continues_of}
use Rattle.c_tree.specs.Changed.{one}
use Rattle.c_tree.specs.Moves.{guarded}
use Rattle.c_tree.proofs.ExitsKept.{breaks-join, continues-join, breaks-guarded, continues-guarded}
use Rattle.jump_meaning.specs.Step.{no_guards}
use Rattle.core_laws.specs.Ways.{only, Known, peel, on_peeled, Way, Lands, Past, Lost, ◌▷◌, walk, walks, Follow, before, after_while, after_do}
use Rattle.core_laws.specs.Core.{core, core_of}
use Rattle.core_laws.specs.Better.{LeWay, LeFollow, LeAll, le_while, Better}
use Rattle.move_laws.proofs.Orders.{way_refl, way_lands, way_same, way_then, way_on, way_peeled, all_refl}
use Rattle.move_laws.proofs.Lists.{walks-join, walks-guarded, core-join, core-guarded}
use Rattle.move_laws.proofs.Cores.{join_le, one_le, core_if_le, core_do_le, core_le}

-- what becomes of the item that a Leap of m goes into
pub record Entered (m : ℕ) (x y : Tree) : Type 0 where
  pub stops : breaks_of x ≡ breaks_of y
  pub goes : continues_of x ≡ continues_of y
  -- the guard of m is led to its Land
  pub at : (l : ℕ) → eqb l m ≡ true → walk l y ≡ Lands
  -- and every other one as before
  pub other : (l : ℕ) → eqb l m ≡ false → walk l x ≡ walk l y
  pub cores : (w w' : Follow) → LeFollow w w' → LeAll (core_of x w) (core_of y w')

-- Leap, T, X becomes T under the guard, and X entered
module _ (m : ℕ) (t : Forest) (x y : Tree) (i : Entered m x y) where
  entered_way : (l : ℕ) → LeWay (walk l x) (walk l y)
  entered_way l = way (eqb l m) refl
    where
      way : (b : Bool) → eqb l m ≡ b → LeWay (walk l x) (walk l y)
      way true e = subst (LeWay (walk l x)) (sym (i.at l e)) (way_lands _)
      way false e = way_same (i.other l e)

  pub inward : Better (Then (Leap m) (join t (one x))) (join (guarded m t) (one y))
  inward = record {
    stops = let p = breaks-join t (one x) in let q = breaks-join (guarded m t) (one y) in let g = breaks-guarded m t in let h = i.stops in omega arith;
    goes = let p = continues-join t (one x) in let q = continues-join (guarded m t) (one y) in let g = continues-guarded m t in let h = i.goes in omega arith;
    ways = λ l. subst (LeWay (cond (eqb l m) Lands Past ▷ walks l (join t (one x))))
        (sym (walks-join l (guarded m t) (one y) ∙ ap (λ z. z ▷ (walk l y ▷ Past)) (walks-guarded l m t)))
        (subst (λ z. LeWay (cond (eqb l m) Lands Past ▷ z) (cond (eqb l m) Past (walks l t) ▷ (walk l y ▷ Past))) (sym (walks-join l t (one x)))
        (way l (eqb l m) refl));
    cores = λ w w' h. subst (λ z. LeAll z (core (join (guarded m t) (one y)) w')) (sym (core-join t (one x) w))
        (subst (LeAll (join (core t (before (one x) w)) (core (one x) w)))
        (sym (core-join (guarded m t) (one y) w' ∙ ap (λ r. join r (core (one y) w')) (core-guarded m t (before (one y) w'))))
        (join_le (core_le t (before (one x) w) (before (one y) w') (λ l. way_then _ _ _ _ (way_then _ _ _ _ (entered_way l) tt) (h l)))
        (join_le (i.cores w w' h) (all_refl _))));
  }
    where
      way : (l : ℕ) (b : Bool) → eqb l m ≡ b → LeWay (cond (eqb l m) Lands Past ▷ (walks l t ▷ (walk l x ▷ Past)))
          (cond (eqb l m) Past (walks l t) ▷ (walk l y ▷ Past))
      way l true e =
          subst (λ z. LeWay (cond (eqb l m) Lands Past ▷ (walks l t ▷ (walk l x ▷ Past))) (cond (eqb l m) Past (walks l t) ▷ (z ▷ Past))) (sym (i.at l e))
          (subst (λ b. LeWay (cond b Lands Past ▷ (walks l t ▷ (walk l x ▷ Past))) (cond b Past (walks l t) ▷ Lands)) (sym e) tt)
      way l false e =
          subst (λ b. LeWay (cond b Lands Past ▷ (walks l t ▷ (walk l x ▷ Past))) (cond b Past (walks l t) ▷ (walk l y ▷ Past))) (sym e)
          (way_on (walks l t) _ _ (way_then _ _ _ _ (entered_way l) tt))

-- ---- rule J, where the Land follows

entered_land : (m : ℕ) → Entered m (Land m) (Land m)
entered_land m = record {
  stops = refl;
  goes = refl;
  at = λ l e. ap (λ b. cond b Lands Past) e;
  other = λ l e. refl;
  cores = λ w w' h. all_refl _;
}

pub join_after : (m : ℕ) (t : Forest) → Better (Then (Leap m) (join t (one (Land m)))) (join (guarded m t) (one (Land m)))
join_after m t = inward m t (Land m) (Land m) (entered_land m)

-- ---- rule I

entered_then : (m : ℕ) (u : TestTree) (a b : Forest) → Entered m (If u a b) (If (OrOn m u) (Then (Leap m) a) b)
entered_then m u a b =
    let way = λ (l : ℕ) (c : Bool). on_peeled (cond c (Known true) (peel (only l) u)) Lost (cond c Lands Past ▷ walks l a) (walks l b) in
    record {
      stops = omega arith;
      goes = omega arith;
      at = λ l e. ap (way l) e;
      other = λ l e. sym (ap (way l) e);
      cores = λ w w' h. core_if_le (peel no_guards u) (core_le a w w' h) (core_le b w w' h);
    }

pub in_then : (m : ℕ) (t : Forest) (u : TestTree) (a b : Forest) → Better (Then (Leap m) (join t (one (If u a b))))
    (join (guarded m t) (one (If (OrOn m u) (Then (Leap m) a) b)))
in_then m t u a b = inward m t (If u a b) (If (OrOn m u) (Then (Leap m) a) b) (entered_then m u a b)

entered_else : (m : ℕ) (u : TestTree) (a b : Forest) → Entered m (If u a b) (If (AndOff m u) a (Then (Leap m) b))
entered_else m u a b =
    let way = λ (l : ℕ) (c : Bool). on_peeled (cond c (Known false) (peel (only l) u)) Lost (walks l a) (cond c Lands Past ▷ walks l b) in
    record {
      stops = omega arith;
      goes = omega arith;
      at = λ l e. ap (way l) e;
      other = λ l e. sym (ap (way l) e);
      cores = λ w w' h. core_if_le (peel no_guards u) (core_le a w w' h) (core_le b w w' h);
    }

pub in_else : (m : ℕ) (t : Forest) (u : TestTree) (a b : Forest) → Better (Then (Leap m) (join t (one (If u a b))))
    (join (guarded m t) (one (If (AndOff m u) a (Then (Leap m) b))))
in_else m t u a b = inward m t (If u a b) (If (AndOff m u) a (Then (Leap m) b)) (entered_else m u a b)

-- a loop that a Leap goes into

abbrev while_way : ℕ → TestTree → Forest → Bool → Way
while_way l u a c = on_peeled (cond c (Known true) (peel (only l) u)) Lost ((cond c Lands Past ▷ walks l a) ▷ Lost) Past

entered_while : (m : ℕ) (u : TestTree) (a : Forest) → Entered m (While u a) (While (OrOn m u) (Then (Leap m) a))
entered_while m u a = record {
  stops = refl;
  goes = refl;
  at = λ l e. ap (while_way l u a) e;
  other = λ l e. sym (ap (while_way l u a) e);
  cores = λ w w' h. one_le (le_while _ (core_le a (after_while u a w) (after_while (OrOn m u) (Then (Leap m) a) w')
      (λ l. way_then _ _ _ _ (way l (eqb l m) refl) (h l))));
}
  where
    way : (l : ℕ) (c : Bool) → eqb l m ≡ c → LeWay (walk l (While u a)) (walk l (While (OrOn m u) (Then (Leap m) a)))
    way l true e = subst (LeWay (walk l (While u a))) (sym (ap (while_way l u a) e)) (way_lands _)
    way l false e = subst (LeWay (walk l (While u a))) (sym (ap (while_way l u a) e)) (way_refl _)

pub in_while : (m : ℕ) (t : Forest) (u : TestTree) (a : Forest) → Better (Then (Leap m) (join t (one (While u a))))
    (join (guarded m t) (one (While (OrOn m u) (Then (Leap m) a))))
in_while m t u a = inward m t (While u a) (While (OrOn m u) (Then (Leap m) a)) (entered_while m u a)

-- a way is no worse with a Leap before it
pub way_first : (l m : ℕ) (y : Way) → LeWay y (cond (eqb l m) Lands Past ▷ y)
way_first l m y = way (eqb l m)
  where
    way : (c : Bool) → LeWay y (cond c Lands Past ▷ y)
    way true = way_lands y
    way false = way_refl y

entered_do : (m : ℕ) (u : TestTree) (a : Forest) → Entered m (Do a u) (Do (Then (Leap m) a) u)
entered_do m u a =
    let way = λ (l : ℕ) (c : Bool). (cond c Lands Past ▷ walks l a) ▷ on_peeled (peel (only l) u) Lost ((cond c Lands Past ▷ walks l a) ▷ Lost) Past in
    record {
      stops = refl;
      goes = refl;
      at = λ l e. ap (way l) e;
      other = λ l e. sym (ap (way l) e);
      cores = λ w w' h. core_do_le (peel no_guards u) (breaks a + continues a) (breaks (Then (Leap m) a) + continues (Then (Leap m) a)) (omega arith)
          (core_le a (after_do a u w) (after_do (Then (Leap m) a) u w')
          (λ l. way_then _ _ _ _ (way_peeled (peel (only l) u) _ _ _ _ (way_then _ _ Lost Lost (way_first l m (walks l a)) tt) tt) (h l)));
    }

pub in_do : (m : ℕ) (t : Forest) (u : TestTree) (a : Forest) → Better (Then (Leap m) (join t (one (Do a u))))
    (join (guarded m t) (one (Do (Then (Leap m) a) u)))
in_do m t u a = inward m t (Do a u) (Do (Then (Leap m) a) u) (entered_do m u a)
