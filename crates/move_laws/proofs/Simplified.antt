-- Lists that are as good where made tests are simpler: a made `if` without lists goes, tests and selectors that
-- the guards decide alike stand for one another, and two made `if`s become one.
use Rattle.std.proofs.Common.{ℕ, ◌+◌, ℤ, Bool, true, false, not, cond, eqb, ◌≡◌, refl, ap, sym, ◌∙◌, subst, arith, true≢false}
use Rattle.c_types.specs.Numbers.{promoted}
use Rattle.c_tree.specs.TestTrees.{TestTree, Source, On, Off, AndOff, OrOn, SelectorTree, Selects, Pick}
use Rattle.c_tree.specs.Trees.{Forest, Nil, Then, Sections, If, While, Do, Switch, join}
use Rattle.c_tree.specs.Everywhere.{Everywhere}
use Rattle.c_tree.specs.Exits.{breaks, continues}
use Rattle.c_tree.specs.Constants.{kind_of}
use Rattle.c_tree.specs.Cases.{selector_source}
use Rattle.c_tree.specs.Changed.{one}
use Rattle.c_tree.specs.WellMade.{IsMade}
use Rattle.c_tree.proofs.ExitsKept.{breaks-join, continues-join}
use Rattle.c_tree.proofs.TreeLaws.{join-nil}
use Rattle.jump_meaning.specs.Search.{ToCase, ToDefault, first_of_three}
use Rattle.jump_meaning.specs.Operations.{operand_kind}
use Rattle.jump_meaning.specs.Step.{Guards, no_guards, switch_kind}
use Rattle.core_laws.specs.Ways.{only, Peeled, Ask, Known, peel, on_peeled, PeeledSelector, KnownSelector, peel_selector, on_selector, Way, Past, Lost, ◌▷◌, walk, walks, section_way, Follow, before, after_while, after_do}
use Rattle.core_laws.specs.Core.{core_if, core_do, source_of, core, core_of, core_sections}
use Rattle.core_laws.specs.Better.{LeWay, LeAll, le_nil, le_while, le_switch, Better}
use Rattle.move_laws.proofs.Orders.{way_past, way_same, way_then, way_on}
use Rattle.move_laws.proofs.Lists.{walks-join, core-join}
use Rattle.move_laws.proofs.Cores.{join_le, one_le, core_if_le, core_do_le, ArmsAmong, core_among, core_le, sections_le}
use Rattle.move_laws.proofs.BetterLists.{better_one}

-- ---- a made `if` without lists

known_cond : (b c d : Bool) → cond b (Known c) (Known d) ≡ Known (cond b c d)
known_cond true c d = refl
known_cond false c d = refl

-- the guards decide a made test
pub made_known : (g : Guards) (t : TestTree) → IsMade t → (b : Bool) × (peel g t ≡ Known b)
made_known g (Source e) h = absurd h
made_known g (On l) h = (g l, refl)
made_known g (Off l) h = (not (g l), refl)
made_known g (AndOff l t) h = let r = made_known g t h in (cond (g l) false r.0, ap (cond (g l) (Known false)) r.1 ∙ known_cond (g l) false r.0)
made_known g (OrOn l t) h = let r = made_known g t h in (cond (g l) true r.0, ap (cond (g l) (Known true)) r.1 ∙ known_cond (g l) true r.0)

past_if : (p : Peeled) → LeWay (on_peeled p Lost Past Past ▷ Past) Past
past_if (Ask e) = tt
past_if (Known true) = tt
past_if (Known false) = tt

nil_if : (b : Bool) → join (core_if (Known b) Nil Nil) Nil ≡ Nil
nil_if true = refl
nil_if false = refl

pub drop_if : (t : TestTree) → IsMade t → Better (one (If t Nil Nil)) Nil
drop_if t m =
    let r = made_known no_guards t m in
    record {
      stops = refl;
      goes = refl;
      ways = λ l. past_if (peel (only l) t);
      cores = λ w w' h. subst (λ x. LeAll x Nil) (sym (ap (λ p. join (core_if p Nil Nil) Nil) r.1 ∙ nil_if r.0)) le_nil;
    }

-- ---- tests that all guards decide alike

abbrev pub AreAlike : TestTree → TestTree → Type 0
AreAlike t u = (g : Guards) → peel g t ≡ peel g u

pub other_if : (t u : TestTree) (a b : Forest) → AreAlike t u → Better (one (If t a b)) (one (If u a b))
other_if t u a b e =
    better_one (If t a b) (If u a b) refl refl (λ l. way_same (ap (λ p. on_peeled p Lost (walks l a) (walks l b)) (e (only l))))
    (λ w w' h. subst (λ p. LeAll (core_of (If t a b) w) (core_if p (core a w') (core b w'))) (e no_guards)
    (core_if_le (peel no_guards t) (core_le a w w' h) (core_le b w w' h)))

pub other_while : (t u : TestTree) (a : Forest) → AreAlike t u → Better (one (While t a)) (one (While u a))
other_while t u a e =
    let way = λ (l : ℕ). ap (λ p. on_peeled p Lost (walks l a ▷ Lost) Past) (e (only l)) in
    better_one (While t a) (While u a) refl refl (λ l. way_same (way l))
    (λ w w' h. subst (λ p. LeAll (core_of (While t a) w) (one (While (Source (source_of p)) (core a (after_while u a w'))))) (e no_guards)
    (one_le (le_while _ (core_le a (after_while t a w) (after_while u a w') (λ l. way_then _ _ _ _ (way_same (way l)) (h l))))))

pub other_do : (t u : TestTree) (a : Forest) → AreAlike t u → Better (one (Do a t)) (one (Do a u))
other_do t u a e =
    let way = λ (l : ℕ). ap (λ p. on_peeled p Lost (walks l a ▷ Lost) Past) (e (only l)) in
    better_one (Do a t) (Do a u) refl refl (λ l. way_on (walks l a) _ _ (way_same (way l)))
    (λ w w' h. subst (λ p. LeAll (core_of (Do a t) w) (core_do p (breaks a + continues a) (core a (after_do a u w')))) (e no_guards)
    (core_do_le (peel no_guards t) (breaks a + continues a) (breaks a + continues a) refl
    (core_le a (after_do a t w) (after_do a u w') (λ l. way_then _ _ _ _ (way_same (way l)) (h l)))))

-- selectors with one source, that all guards decide alike
pub record AreAlikeSelectors (s u : SelectorTree) : Type 0 where
  pub source : selector_source s ≡ selector_source u
  pub peeled : (g : Guards) → peel_selector g s ≡ peel_selector g u

pub other_switch : (s u : SelectorTree) (c : Sections) → AreAlikeSelectors s u → Better (one (Switch s c)) (one (Switch u c))
other_switch s u c e =
    better_one (Switch s c) (Switch u c) refl refl
    (λ l. way_same (ap (λ p. on_selector p Lost (λ n. first_of_three (section_way l (ToCase (switch_kind s) n) c) (section_way l ToDefault c) Past))
    (e.peeled (only l)) ∙ kind l))
    (λ w w' h. subst (λ x. LeAll (core_of (Switch s c) w) (one (Switch (Selects x) (core_sections c w')))) e.source
    (one_le (le_switch _ (sections_le c w w' h))))
  where
    kind : (l : ℕ) → on_selector (peel_selector (only l) u) Lost
        (λ n. first_of_three (section_way l (ToCase (switch_kind s) n) c) (section_way l ToDefault c) Past) ≡ walk l (Switch u c)
    kind l =
        ap (λ x. on_selector (peel_selector (only l) u) Lost
        (λ n. first_of_three (section_way l (ToCase (promoted (operand_kind (kind_of x))) n) c) (section_way l ToDefault c) Past)) e.source

-- ---- wrappers of tests and of selectors

pub alike_and : (m : ℕ) (t u : TestTree) → AreAlike t u → AreAlike (AndOff m t) (AndOff m u)
alike_and m t u e g = ap (cond (g m) (Known false)) (e g)

pub alike_or : (m : ℕ) (t u : TestTree) → AreAlike t u → AreAlike (OrOn m t) (OrOn m u)
alike_or m t u e g = ap (cond (g m) (Known true)) (e g)

unless : (b : Bool) (p q r : Peeled) → (b ≡ false → q ≡ r) → cond b p q ≡ cond b p r
unless true p q r e = refl
unless false p q r e = e refl

-- where the guard of a wrapper is set, nothing inside it is read
pub alike_inside_and : (m : ℕ) (t u : TestTree) → ((g : Guards) → g m ≡ false → peel g t ≡ peel g u) → AreAlike (AndOff m t) (AndOff m u)
alike_inside_and m t u e g = unless (g m) (Known false) (peel g t) (peel g u) (e g)

pub alike_inside_or : (m : ℕ) (t u : TestTree) → ((g : Guards) → g m ≡ false → peel g t ≡ peel g u) → AreAlike (OrOn m t) (OrOn m u)
alike_inside_or m t u e g = unless (g m) (Known true) (peel g t) (peel g u) (e g)

-- so a second wrapper of the same label goes
pub and_inside : (m : ℕ) (t : TestTree) (g : Guards) → g m ≡ false → peel g (AndOff m t) ≡ peel g t
and_inside m t g e = ap (λ b. cond b (Known false) (peel g t)) e

pub or_inside : (m : ℕ) (t : TestTree) (g : Guards) → g m ≡ false → peel g (OrOn m t) ≡ peel g t
or_inside m t g e = ap (λ b. cond b (Known true) (peel g t)) e

off_twice : (b : Bool) → cond b (Known false) (Known (not b)) ≡ Known (not b)
off_twice true = refl
off_twice false = refl

pub alike_off : (m : ℕ) → AreAlike (AndOff m (Off m)) (Off m)
alike_off m g = off_twice (g m)

unless_picked : (b : Bool) (p q r : PeeledSelector) → (b ≡ false → q ≡ r) → cond b p q ≡ cond b p r
unless_picked true p q r e = refl
unless_picked false p q r e = e refl

pub alike_inside_pick : (m : ℕ) (n : ℤ) (s u : SelectorTree) → selector_source s ≡ selector_source u →
    ((g : Guards) → g m ≡ false → peel_selector g s ≡ peel_selector g u) → AreAlikeSelectors (Pick m n s) (Pick m n u)
alike_inside_pick m n s u e f = record { source = e; peeled = λ g. unless_picked (g m) (KnownSelector n) (peel_selector g s) (peel_selector g u) (f g) }

pub pick_inside : (m : ℕ) (n : ℤ) (s : SelectorTree) (g : Guards) → g m ≡ false → peel_selector g (Pick m n s) ≡ peel_selector g s
pick_inside m n s g e = ap (λ b. cond b (KnownSelector n) (peel_selector g s)) e

-- ---- two made `if`s of one guard, where the first has no Arm of it

pub neighbours : (m : ℕ) (a b : Forest) → Everywhere (ArmsAmong (λ l. eqb l m ≡ false)) a →
    Better (Then (If (Off m) a Nil) (one (If (Off m) b Nil))) (one (If (Off m) (join a b) Nil))
neighbours m a b z = record {
  stops = let i = breaks-join a b in omega arith;
  goes = let i = continues-join a b in omega arith;
  ways = λ l. way_same (way l (eqb l m) refl);
  cores = λ w w' h. subst (LeAll (join (core a (before (one (If (Off m) b Nil)) w)) (join (core b w) Nil)))
      (sym (join-nil (core (join a b) w') ∙ core-join a b w'))
      (join_le (core_among (λ l. eqb l m ≡ false) a z (before (one (If (Off m) b Nil)) w) (before b w') (λ l n. after l w w' (h l) n))
      (subst (λ x. LeAll x (core b w')) (sym (join-nil (core b w))) (core_le b w w' h)));
}
  where
    after : (l : ℕ) (w w' : Follow) → LeWay (w l) (w' l) → eqb l m ≡ false →
        LeWay ((on_peeled (Known (not (eqb l m))) Lost (walks l b) Past ▷ Past) ▷ w l) (walks l b ▷ w' l)
    after l w w' h e = subst (λ y. LeWay (y ▷ w l) (walks l b ▷ w' l))
        (sym (ap (λ c. on_peeled (Known (not c)) Lost (walks l b) Past ▷ Past) e ∙ way_past (walks l b))) (way_on (walks l b) _ _ h)

    way : (l : ℕ) (c : Bool) → eqb l m ≡ c
        → on_peeled (Known (not (eqb l m))) Lost (walks l a) Past ▷ (on_peeled (Known (not (eqb l m))) Lost (walks l b) Past ▷ Past) ≡ on_peeled
        (Known (not (eqb l m))) Lost (walks l (join a b)) Past ▷ Past
    way l true e =
        ap (λ c. on_peeled (Known (not c)) Lost (walks l a) Past ▷ (on_peeled (Known (not c)) Lost (walks l b) Past ▷ Past)) e
        ∙ sym (ap (λ c. on_peeled (Known (not c)) Lost (walks l (join a b)) Past ▷ Past) e)
    way l false e =
        ap (λ c. on_peeled (Known (not c)) Lost (walks l a) Past ▷ (on_peeled (Known (not c)) Lost (walks l b) Past ▷ Past)) e
        ∙ ap (λ y. walks l a ▷ y) (way_past (walks l b)) ∙ sym (walks-join l a b) ∙ sym (way_past (walks l (join a b)))
        ∙ sym (ap (λ c. on_peeled (Known (not c)) Lost (walks l (join a b)) Past ▷ Past) e)

-- ---- a made `if` in another

-- the third is false where the first is, and else the second
abbrev pub IsNested : Peeled → Peeled → Peeled → Type 0
IsNested (Ask e) p q = ⊥
IsNested (Known true) p q = q ≡ p
IsNested (Known false) p q = q ≡ Known false

abbrev pub AreNested : TestTree → TestTree → TestTree → Type 0
AreNested t u r = (g : Guards) → IsNested (peel g t) (peel g u) (peel g r)

nested_and : (b : Bool) (p q r : Peeled) → IsNested p q r → IsNested (cond b (Known false) p) q (cond b (Known false) r)
nested_and true p q r h = refl
nested_and false p q r h = h

nested_off : (b : Bool) (q : Peeled) → IsNested (Known (not b)) q (cond b (Known false) q)
nested_off true q = refl
nested_off false q = refl

pub are_nested_off : (m : ℕ) (u : TestTree) → AreNested (Off m) u (AndOff m u)
are_nested_off m u g = nested_off (g m) (peel g u)

pub are_nested_and : (m : ℕ) (t u r : TestTree) → AreNested t u r → AreNested (AndOff m t) u (AndOff m r)
are_nested_and m t u r h g = nested_and (g m) (peel g t) (peel g u) (peel g r) (h g)

nested_way : (p q r : Peeled) (y : Way) → IsNested p q r → LeWay (on_peeled p Lost (on_peeled q Lost y Past ▷ Past) Past) (on_peeled r Lost y Past)
nested_way (Ask e) q r y h = absurd h
nested_way (Known true) q r y h = way_same (way_past (on_peeled q Lost y Past) ∙ ap (λ p. on_peeled p Lost y Past) (sym h))
nested_way (Known false) q r y h = way_same (ap (λ p. on_peeled p Lost y Past) (sym h))

known_same : (b c : Bool) → Known b ≡ Known c → b ≡ c
known_same b c e = cc

nested_core : (p q r : Peeled) (a : Forest) → p ≡ Known true → IsNested p q r → core_if p (join (core_if q a Nil) Nil) Nil ≡ core_if r a Nil
nested_core (Ask e) q r a z h = absurd h
nested_core (Known true) q r a z h = join-nil (core_if q a Nil) ∙ ap (λ p. core_if p a Nil) (sym h)
nested_core (Known false) q r a z h = absurd (true≢false (sym (known_same false true z)))

pub one_if : (t u r : TestTree) (a : Forest) → peel no_guards t ≡ Known true → AreNested t u r → Better (one (If t (one (If u a Nil)) Nil)) (one (If r a Nil))
one_if t u r a z h =
    better_one (If t (one (If u a Nil)) Nil) (If r a Nil) (omega arith) (omega arith)
    (λ l. nested_way (peel (only l) t) (peel (only l) u) (peel (only l) r) (walks l a) (h (only l)))
    (λ w w' k. subst (λ x. LeAll x (core_of (If r a Nil) w'))
    (sym (nested_core (peel no_guards t) (peel no_guards u) (peel no_guards r) (core a w) z (h no_guards)))
    (core_if_le (peel no_guards r) (core_le a w w' k) le_nil))
