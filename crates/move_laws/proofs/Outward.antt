-- Rule O makes a list at least as good: a Leap goes out of an `if` or a loop.
use Rattle.std.proofs.Common.{ℕ, ◌+◌, Bool, true, false, cond, eqb, ◌≡◌, refl, ap, sym, ◌∙◌, subst, arith}
use Rattle.c_tree.specs.TestTrees.{TestTree, AndOff}
use Rattle.c_tree.specs.Trees.{Forest, Then, If, While, Do, Leap, join}
use Rattle.c_tree.specs.Exits.{breaks, continues}
use Rattle.c_tree.specs.Changed.{one}
use Rattle.c_tree.specs.Moves.{guarded}
use Rattle.c_tree.proofs.ExitsKept.{breaks-left, continues-left}
use Rattle.jump_meaning.specs.Step.{no_guards}
use Rattle.core_laws.specs.Ways.{only, Peeled, Ask, Known, peel, on_peeled, Way, Lands, Past, Lost, ◌▷◌, walks, Follow, before, after_while, after_do}
use Rattle.core_laws.specs.Core.{core}
use Rattle.core_laws.specs.Better.{LeWay, LeFollow, LeAll, le_nil, le_while, Better}
use Rattle.core_laws.proofs.TaskWays.{way_assoc}
use Rattle.move_laws.proofs.Orders.{way_past, way_lands, way_same, way_then, way_on, way_peeled}
use Rattle.move_laws.proofs.Lists.{walks-join, walks-guarded, core-join, core-guarded}
use Rattle.move_laws.proofs.Cores.{join_le, one_le, core_if_le, core_do_le, core_le}

-- ---- the Leap behind the construct

abbrev pub leap_way : ℕ → ℕ → Way
leap_way l m = walks l (one (Leap m))

pub leap_at : (l m : ℕ) → eqb l m ≡ true → leap_way l m ≡ Lands
leap_at l m e = ap (λ b. cond b Lands Past ▷ Past) e

pub leap_off : (l m : ℕ) → eqb l m ≡ false → leap_way l m ≡ Past
leap_off l m e = ap (λ b. cond b Lands Past ▷ Past) e

more_by : (y : Way) (b : Bool) → LeWay y (y ▷ (cond b Lands Past ▷ Past))
more_by Lands b = tt
more_by Past true = tt
more_by Past false = tt
more_by Lost b = tt

-- a way is no worse with a Leap behind it
pub way_more : (l m : ℕ) (y : Way) → LeWay y (y ▷ leap_way l m)
way_more l m y = more_by y (eqb l m)

-- what follows the Leap of m: it is there for m, and as good as before for every other label
pub record Behind (m : ℕ) (w w' : Follow) : Type 0 where
  pub better : LeFollow w w'
  pub at : (l : ℕ) → eqb l m ≡ true → w' l ≡ Lands

pub behind_leap : (m : ℕ) (w w' : Follow) → LeFollow w w' → Behind m w (before (one (Leap m)) w')
behind_leap m w w' h = record { better = λ l. better l (eqb l m) refl; at = λ l e. ap (λ y. y ▷ w' l) (leap_at l m e) }
  where
    better : (l : ℕ) (b : Bool) → eqb l m ≡ b → LeWay (w l) (leap_way l m ▷ w' l)
    better l true e = subst (λ y. LeWay (w l) (y ▷ w' l)) (sym (leap_at l m e)) (way_lands (w l))
    better l false e = subst (λ y. LeWay (w l) (y ▷ w' l)) (sym (leap_off l m e)) (h l)

-- ---- the list that the Leap leaves

module _ (m : ℕ) (a b : Forest) where
  abbrev pub old : Forest
  old = join a (Then (Leap m) b)

  abbrev pub new : Forest
  new = join a (guarded m b)

  old-walk : (l : ℕ) → walks l old ≡ walks l a ▷ (cond (eqb l m) Lands Past ▷ walks l b)
  old-walk l = walks-join l a (Then (Leap m) b)

  new-walk : (l : ℕ) → walks l new ≡ walks l a ▷ cond (eqb l m) Past (walks l b)
  new-walk l = walks-join l a (guarded m b) ∙ ap (λ y. walks l a ▷ y) (walks-guarded l m b)

  pub new-other : (l : ℕ) → eqb l m ≡ false → walks l new ≡ walks l old
  new-other l e = new-walk l ∙ ap (λ c. walks l a ▷ cond c Past (walks l b)) e ∙ sym (old-walk l ∙ ap (λ c. walks l a ▷ (cond c Lands Past ▷ walks l b)) e)

  pub old-at : (l : ℕ) → eqb l m ≡ true → walks l old ≡ walks l a ▷ Lands
  old-at l e = old-walk l ∙ ap (λ c. walks l a ▷ (cond c Lands Past ▷ walks l b)) e

  pub new-at : (l : ℕ) → eqb l m ≡ true → walks l new ≡ walks l a ▷ Past
  new-at l e = new-walk l ∙ ap (λ c. walks l a ▷ cond c Past (walks l b)) e

  -- the core of the list, where the Leap is behind it
  pub left_cores : (w w' : Follow) → Behind m w w' → LeAll (core old w) (core new w')
  left_cores w w' h =
      subst (λ x. LeAll x (core new w')) (sym (core-join a (Then (Leap m) b) w))
      (subst (λ y. LeAll (join (core a (before (Then (Leap m) b) w)) (core b w)) y)
      (sym (core-join a (guarded m b) w' ∙ ap (λ r. join (core a (before (guarded m b) w')) r) (core-guarded m b w')))
      (join_le (core_le a (before (Then (Leap m) b) w) (before (guarded m b) w') (λ l. after l (eqb l m) refl)) (core_le b w w' h.better)))
    where
      after : (l : ℕ) (c : Bool) → eqb l m ≡ c → LeWay ((cond (eqb l m) Lands Past ▷ walks l b) ▷ w l) (walks l (guarded m b) ▷ w' l)
      after l true e =
          subst (LeWay ((cond (eqb l m) Lands Past ▷ walks l b) ▷ w l))
          (sym (ap (λ y. y ▷ w' l) (walks-guarded l m b ∙ ap (λ c. cond c Past (walks l b)) e) ∙ h.at l e)) (way_lands _)
      after l false e =
          subst (λ c. LeWay ((cond c Lands Past ▷ walks l b) ▷ w l) (walks l (guarded m b) ▷ w' l)) (sym e)
          (subst (λ y. LeWay (walks l b ▷ w l) (y ▷ w' l)) (sym (walks-guarded l m b ∙ ap (λ c. cond c Past (walks l b)) e))
          (way_on (walks l b) (w l) (w' l) (h.better l)))

  there_later : (y : Way) → LeWay (y ▷ Lands) ((y ▷ Past) ▷ Lands)
  there_later Lands = tt
  there_later Past = tt
  there_later Lost = tt

  -- the way through the list, where the Leap is behind it
  pub left_way : (l : ℕ) → LeWay (walks l old) (walks l new ▷ leap_way l m)
  left_way l = way (eqb l m) refl
    where
      way : (c : Bool) → eqb l m ≡ c → LeWay (walks l old) (walks l new ▷ leap_way l m)
      way true e =
          subst (λ x. LeWay x (walks l new ▷ leap_way l m)) (sym (old-at l e))
          (subst (λ y. LeWay (walks l a ▷ Lands) (y ▷ leap_way l m)) (sym (new-at l e))
          (subst (λ y. LeWay (walks l a ▷ Lands) ((walks l a ▷ Past) ▷ y)) (sym (leap_at l m e)) (there_later (walks l a))))
      way false e = subst (λ y. LeWay (walks l old) (y ▷ leap_way l m)) (sym (new-other l e)) (way_more l m (walks l old))

  -- ---- out of an `if`

  peeled_then : (p : Peeled) (x y z : Way) → on_peeled p Lost x y ▷ z ≡ on_peeled p Lost (x ▷ z) (y ▷ z)
  peeled_then (Ask e) x y z = refl
  peeled_then (Known true) x y z = refl
  peeled_then (Known false) x y z = refl

  pub out_then : (t : TestTree) (c : Forest) → Better (one (If t old c)) (Then (If t new c) (one (Leap m)))
  out_then t c = record {
    stops = let e = breaks-left m a b in omega arith;
    goes = let e = continues-left m a b in omega arith;
    ways = λ l. subst (λ x. LeWay x (on_peeled (peel (only l) t) Lost (walks l new) (walks l c) ▷ leap_way l m)) (sym (way_past _))
        (subst (LeWay (on_peeled (peel (only l) t) Lost (walks l old) (walks l c)))
        (sym (peeled_then (peel (only l) t) (walks l new) (walks l c) (leap_way l m)))
        (way_peeled (peel (only l) t) _ _ _ _ (left_way l) (way_more l m (walks l c))));
    cores = λ w w' h. let i = behind_leap m w w' h in
        join_le (core_if_le (peel no_guards t) (left_cores w (before (one (Leap m)) w') i) (core_le c w (before (one (Leap m)) w') i.better)) le_nil;
  }

  pub out_else : (t : TestTree) (c : Forest) → Better (one (If t c old)) (Then (If t c new) (one (Leap m)))
  out_else t c = record {
    stops = let e = breaks-left m a b in omega arith;
    goes = let e = continues-left m a b in omega arith;
    ways = λ l. subst (λ x. LeWay x (on_peeled (peel (only l) t) Lost (walks l c) (walks l new) ▷ leap_way l m)) (sym (way_past _))
        (subst (LeWay (on_peeled (peel (only l) t) Lost (walks l c) (walks l old)))
        (sym (peeled_then (peel (only l) t) (walks l c) (walks l new) (leap_way l m)))
        (way_peeled (peel (only l) t) _ _ _ _ (way_more l m (walks l c)) (left_way l)));
    cores = λ w w' h. let i = behind_leap m w w' h in
        join_le (core_if_le (peel no_guards t) (core_le c w (before (one (Leap m)) w') i.better) (left_cores w (before (one (Leap m)) w') i)) le_nil;
  }

  -- ---- out of a loop

  -- the test behind the list
  abbrev test_old : TestTree → ℕ → Way
  test_old t l = on_peeled (peel (only l) t) Lost (walks l old ▷ Lost) Past

  abbrev test_new : TestTree → ℕ → Way
  test_new t l = on_peeled (peel (only l) (AndOff m t)) Lost (walks l new ▷ Lost) Past

  test_at : (t : TestTree) (l : ℕ) → eqb l m ≡ true → test_new t l ≡ Past
  test_at t l e = ap (λ c. on_peeled (cond c (Known false) (peel (only l) t)) Lost (walks l new ▷ Lost) Past) e

  test_other : (t : TestTree) (l : ℕ) → eqb l m ≡ false → test_new t l ≡ test_old t l
  test_other t l e =
      ap (λ c. on_peeled (cond c (Known false) (peel (only l) t)) Lost (walks l new ▷ Lost) Past) e ∙
      ap (λ y. on_peeled (peel (only l) t) Lost (y ▷ Lost) Past) (new-other l e)

  test_way : (t : TestTree) (l : ℕ) → LeWay (test_old t l) (test_new t l ▷ leap_way l m)
  test_way t l = way (eqb l m) refl
    where
      way : (c : Bool) → eqb l m ≡ c → LeWay (test_old t l) (test_new t l ▷ leap_way l m)
      way true e = subst (λ y. LeWay (test_old t l) (y ▷ leap_way l m)) (sym (test_at t l e)) (subst (LeWay (test_old t l)) (sym (leap_at l m e)) (way_lands _))
      way false e = subst (λ y. LeWay (test_old t l) (y ▷ leap_way l m)) (sym (test_other t l e)) (way_more l m (test_old t l))

  -- what follows the list in a loop
  loop_behind : (t : TestTree) (w w' : Follow) → LeFollow w w' → Behind m (λ l. test_old t l ▷ w l) (λ l. test_new t l ▷ (leap_way l m ▷ w' l))
  loop_behind t w w' h = record {
    better = λ l. subst (LeWay (test_old t l ▷ w l)) (way_assoc (test_new t l) (leap_way l m) (w' l)) (way_then _ _ _ _ (test_way t l) (h l));
    at = λ l e. ap (λ y. y ▷ (leap_way l m ▷ w' l)) (test_at t l e) ∙ ap (λ y. y ▷ w' l) (leap_at l m e);
  }

  pub out_while : (t : TestTree) → Better (one (While t old)) (Then (While (AndOff m t) new) (one (Leap m)))
  out_while t = record {
    stops = refl;
    goes = refl;
    ways = λ l. subst (λ x. LeWay x (test_new t l ▷ leap_way l m)) (sym (way_past (test_old t l))) (test_way t l);
    cores = λ w w' h. one_le (le_while _ (left_cores (after_while t old w) (after_while (AndOff m t) new (before (one (Leap m)) w')) (loop_behind t w w' h)));
  }

  there_do : (y x : Way) → LeWay ((y ▷ Lands) ▷ x) ((y ▷ Past) ▷ Lands)
  there_do Lands x = tt
  there_do Past x = tt
  there_do Lost x = tt

  do_way : (t : TestTree) (l : ℕ) → LeWay (walks l old ▷ test_old t l) ((walks l new ▷ test_new t l) ▷ leap_way l m)
  do_way t l = way (eqb l m) refl
    where
      way : (c : Bool) → eqb l m ≡ c → LeWay (walks l old ▷ test_old t l) ((walks l new ▷ test_new t l) ▷ leap_way l m)
      way true e =
          subst (λ x. LeWay (x ▷ test_old t l) ((walks l new ▷ test_new t l) ▷ leap_way l m)) (sym (old-at l e))
          (subst (LeWay ((walks l a ▷ Lands) ▷ test_old t l))
          (sym (ap (λ y. (walks l new ▷ y) ▷ leap_way l m) (test_at t l e) ∙ ap (λ y. (walks l new ▷ Past) ▷ y) (leap_at l m e) ∙
          ap (λ y. y ▷ Lands) (way_past (walks l new)) ∙ ap (λ y. y ▷ Lands) (new-at l e)))
          (there_do (walks l a) (test_old t l)))
      way false e =
          subst (LeWay (walks l old ▷ test_old t l)) (sym (way_assoc (walks l new) (test_new t l) (leap_way l m)))
          (way_then _ _ _ _ (way_same (sym (new-other l e))) (test_way t l))

  pub out_do : (t : TestTree) → Better (one (Do old t)) (Then (Do new (AndOff m t)) (one (Leap m)))
  out_do t = record {
    stops = refl;
    goes = refl;
    ways = λ l. subst (λ x. LeWay x ((walks l new ▷ test_new t l) ▷ leap_way l m)) (sym (way_past (walks l old ▷ test_old t l))) (do_way t l);
    cores = λ w w' h. join_le
        (core_do_le (peel no_guards t) (breaks old + continues old) (breaks new + continues new)
        (let x = breaks-left m a b in let y = continues-left m a b in omega arith)
        (left_cores (after_do old t w) (after_do new (AndOff m t) (before (one (Leap m)) w')) (loop_behind t w w' h)))
        le_nil;
  }
