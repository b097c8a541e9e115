-- An item without a wrapper that repeats another, and an `if` and the one in it as one, are as settled as before.
use Rattle.std.proofs.Common.{◌≡◌, ℕ, ◌==◌, Bool, true, false, ◌||◌, Some, None, refl, sym, ap, subst, ◌∙◌}
use Rattle.std.proofs.lemmas.Bool.{and_parts}
use Rattle.c_tree.specs.TestTrees.{TestTree, Off, AndOff, SelectorTree}
use Rattle.c_tree.specs.Trees.{Tree, Forest, Nil, Then, Sections, If, While, Do, Switch}
use Rattle.move_laws.specs.Simplifications.{DropsAnd, and_here, and_in_and, and_in_or, DropsOr, or_here, or_in_and, or_in_or, ShorterTest, again_and, again_or, only_off, shorter_and, shorter_or, DropsPick, pick_here, pick_in, ShorterSelector, again_pick, shorter_pick, round}
use Rattle.guard_simplify.specs.declared.choice.Repeat.{Repeat}
use Rattle.guard_simplify.specs.Choice.{repeat_of, neighbours, joins_next, is_made, is_off, is_made_if, is_one_if, is_nested, arms, test_names, selector_names, barred, barred_in}
use Rattle.guard_simplify.specs.Application.{without, without_pick, without_repeat, without_repeat_pick, shortened}
use Rattle.guard_simplify.proofs.Shorter.{repeat_shorter, repeat_pick_shorter}
use Rattle.move_bodies.proofs.Alike.{Settled}

twice : (a b : Bool) → (a || (a || b)) ≡ (a || b)
twice true b = refl
twice false b = refl

behind : (a k x y : Bool) → (a || x) ≡ (a || y) → (a || (k || x)) ≡ (a || (k || y))
behind true k x y e = refl
behind false k x y e = ap (λ z. k || z) e

and_names : (m l : ℕ) {t u : TestTree} → DropsAnd m t u → (l == m || test_names l u) ≡ (l == m || test_names l t)
and_names m l (and_here t) = sym (twice (l == m) (test_names l t))
and_names m l (and_in_and k {t = t} {u = u} r) = behind (l == m) (l == k) (test_names l u) (test_names l t) (and_names m l r)
and_names m l (and_in_or k {t = t} {u = u} r) = behind (l == m) (l == k) (test_names l u) (test_names l t) (and_names m l r)

and_made : (m : ℕ) {t u : TestTree} → DropsAnd m t u → is_made u ≡ is_made t
and_made m (and_here t) = refl
and_made m (and_in_and k r) = and_made m r
and_made m (and_in_or k r) = and_made m r

or_names : (m l : ℕ) {t u : TestTree} → DropsOr m t u → (l == m || test_names l u) ≡ (l == m || test_names l t)
or_names m l (or_here t) = sym (twice (l == m) (test_names l t))
or_names m l (or_in_and k {t = t} {u = u} r) = behind (l == m) (l == k) (test_names l u) (test_names l t) (or_names m l r)
or_names m l (or_in_or k {t = t} {u = u} r) = behind (l == m) (l == k) (test_names l u) (test_names l t) (or_names m l r)

or_made : (m : ℕ) {t u : TestTree} → DropsOr m t u → is_made u ≡ is_made t
or_made m (or_here t) = refl
or_made m (or_in_and k r) = or_made m r
or_made m (or_in_or k r) = or_made m r

once : (a : Bool) → a ≡ (a || a)
once true = refl
once false = refl

names : (l : ℕ) {t u : TestTree} → ShorterTest t u → test_names l u ≡ test_names l t
names l (again_and m r) = and_names m l r
names l (again_or m r) = or_names m l r
names l (only_off m) = once (l == m)
names l (shorter_and k r) = ap (λ z. l == k || z) (names l r)
names l (shorter_or k r) = ap (λ z. l == k || z) (names l r)

made : {t u : TestTree} → ShorterTest t u → is_made u ≡ is_made t
made (again_and m r) = and_made m r
made (again_or m r) = or_made m r
made (only_off m) = refl
made (shorter_and k r) = made r
made (shorter_or k r) = made r

pick_names : (m l : ℕ) {s u : SelectorTree} → DropsPick m s u → (l == m || selector_names l u) ≡ (l == m || selector_names l s)
pick_names m l (pick_here n s) = sym (twice (l == m) (selector_names l s))
pick_names m l (pick_in k n {s = s} {u = u} r) = behind (l == m) (l == k) (selector_names l u) (selector_names l s) (pick_names m l r)

selects : (l : ℕ) {s u : SelectorTree} → ShorterSelector s u → selector_names l u ≡ selector_names l s
selects l (again_pick m n r) = pick_names m l r
selects l (shorter_pick k n r) = ap (λ z. l == k || z) (selects l r)

made_test : (t u : TestTree) (a b : Forest) → is_made u ≡ is_made t → is_made_if (If u a b) ≡ is_made_if (If t a b)
made_test t u a Nil e = e
made_test t u a (Then x b) e = refl

if_settled : (t u : TestTree) (a b : Forest) → ShorterTest t u → Settled (If t a b) (If u a b)
if_settled t u a b s = record { made = made_test t u a b (made s); bars = λ l. ap (λ z. z || (barred l a || barred l b)) (names l s); arms = λ l. refl }

while_settled : (t u : TestTree) (a : Forest) → ShorterTest t u → Settled (While t a) (While u a)
while_settled t u a s = record { made = refl; bars = λ l. ap (λ z. z || barred l a) (names l s); arms = λ l. refl }

do_settled : (t u : TestTree) (a : Forest) → ShorterTest t u → Settled (Do a t) (Do a u)
do_settled t u a s = record { made = refl; bars = λ l. ap (λ z. z || barred l a) (names l s); arms = λ l. refl }

switch_settled : (s u : SelectorTree) (c : Sections) → ShorterSelector s u → Settled (Switch s c) (Switch u c)
switch_settled s u c e = record { made = refl; bars = λ l. ap (λ z. z || barred_in l c) (selects l e); arms = λ l. refl }

-- the item without the wrapper that was found
pub short_settled : (q : Repeat) (x : Tree) → repeat_of x ≡ Some q → Settled x (shortened x)
short_settled q (If t a b) e = subst (λ o. Settled (If t a b) (If (without_repeat o t) a b)) (sym e) (if_settled t (without q.at t) a b (repeat_shorter t q e))
short_settled q (While t a) e = subst (λ o. Settled (While t a) (While (without_repeat o t) a)) (sym e)
    (while_settled t (without q.at t) a (repeat_shorter t q e))
short_settled q (Do a t) e = subst (λ o. Settled (Do a t) (Do a (without_repeat o t))) (sym e) (do_settled t (without q.at t) a (repeat_shorter t q e))
short_settled q (Switch s c) e = subst (λ o. Settled (Switch s c) (Switch (without_repeat_pick o s) c)) (sym e)
    (switch_settled s (without_pick q.at s) c (repeat_pick_shorter s q e))
short_settled q _ e = cc

-- ---- an `if` and the one in it, as one

-- a made `if` of `Off` and `AndOff` alone round one made `if`
pub record IsNest (x : Tree) : Type 0 where
  pub test : TestTree
  pub inner : TestTree
  pub list : Forest
  pub is : x ≡ If test (Then (If inner list Nil) Nil) Nil
  pub off : is_off test ≡ true
  pub made : is_made inner ≡ true

nest_inner : (t : TestTree) (y : Tree) → is_off t ≡ true → is_made_if y ≡ true → IsNest (If t (Then y Nil) Nil)
nest_inner t (If u a Nil) o h = record { test = t; inner = u; list = a; is = refl; off = o; made = h }
nest_inner t _ o h = cc

nest_list : (t : TestTree) (a : Forest) → is_off t ≡ true → is_one_if a ≡ true → IsNest (If t a Nil)
nest_list t (Then y Nil) o h = nest_inner t y o h
nest_list t _ o h = cc

pub nest_of : (x : Tree) → is_nested x ≡ true → IsNest x
nest_of (If t a Nil) h = let p = and_parts (is_off t) (is_one_if a) h in nest_list t a p.0 p.1
nest_of _ h = cc

-- what it becomes
abbrev pub unnest : {x : Tree} → IsNest x → Tree
unnest n = If (round n.test n.inner) n.list Nil

either : (a b c : Bool) → (a || (b || c)) ≡ ((a || b) || c)
either true b c = refl
either false b c = refl

round_names : (l : ℕ) (t u : TestTree) → is_off t ≡ true → test_names l (round t u) ≡ (test_names l t || test_names l u)
round_names l (Off m) u o = refl
round_names l (AndOff m t) u o = ap (λ z. l == m || z) (round_names l t u o) ∙ either (l == m) (test_names l t) (test_names l u)
round_names l _ u o = cc

round_made : (t u : TestTree) → is_off t ≡ true → is_made (round t u) ≡ is_made u
round_made (Off m) u o = refl
round_made (AndOff m t) u o = round_made t u o
round_made _ u o = cc

off_made : (t : TestTree) → is_off t ≡ true → is_made t ≡ true
off_made (Off m) o = refl
off_made (AndOff m t) o = off_made t o
off_made _ o = cc

nest_bars : (p q b : Bool) → ((p || q) || (b || false)) ≡ (p || (((q || (b || false)) || false) || false))
nest_bars true q b = refl
nest_bars false true b = refl
nest_bars false false true = refl
nest_bars false false false = refl

nest_arms : (b : Bool) → (b || false) ≡ (((b || false) || false) || false)
nest_arms true = refl
nest_arms false = refl

unnest_settled : (t u : TestTree) (a : Forest) → is_off t ≡ true → is_made u ≡ true → Settled (If t (Then (If u a Nil) Nil) Nil) (If (round t u) a Nil)
unnest_settled t u a o m = record {
  made = round_made t u o ∙ m ∙ sym (off_made t o);
  bars = λ l. ap (λ z. z || (barred l a || false)) (round_names l t u o) ∙ nest_bars (test_names l t) (test_names l u) (barred l a);
  arms = λ l. nest_arms (arms l a);
}

pub nest_settled : {x : Tree} (n : IsNest x) → Settled x (unnest n)
nest_settled n = subst (λ z. Settled z (unnest n)) (sym n.is) (unnest_settled n.test n.inner n.list n.off n.made)

round_joins : (l : ℕ) (z : Tree) (t u : TestTree) (a : Forest) → is_off t ≡ true → joins_next l z (If (round t u) a Nil) ≡ None
round_joins l z (Off m) u a o = refl
round_joins l z (AndOff m t) u a o = refl
round_joins l z _ u a o = cc

-- no item before it becomes one with it
pub nest_apart : {x : Tree} (n : IsNest x) (z : Tree) (rest : Forest) → neighbours z (Then (unnest n) rest) ≡ None
nest_apart n (If (Off l) c Nil) rest = round_joins l (If (Off l) c Nil) n.test n.inner n.list n.off
nest_apart n _ rest = refl
