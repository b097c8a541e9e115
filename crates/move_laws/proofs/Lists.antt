-- The ways through joined lists and through lists under a guard, and their cores.
use Rattle.std.proofs.Common.{ℕ, Bool, true, false, not, cond, eqb, ◌≡◌, refl, ap, sym, ◌∙◌}
use mathlib.Core.Path.{fun_ext}
use Rattle.c_tree.specs.Trees.{Forest, Nil, Then, join}
use Rattle.c_tree.specs.Moves.{guarded}
use Rattle.c_tree.proofs.TreeLaws.{join-nil, join-join}
use Rattle.core_laws.specs.Ways.{Known, Way, Past, Lost, ◌▷◌, on_peeled, walk, walks, Follow, before}
use Rattle.core_laws.specs.Core.{core, core_of}
use Rattle.core_laws.proofs.TaskWays.{way_assoc}
use Rattle.move_laws.proofs.Orders.{way_past}

-- ---- joined lists

pub walks-join : (l : ℕ) (a b : Forest) → walks l (join a b) ≡ walks l a ▷ walks l b
walks-join l Nil b = refl
walks-join l (Then x a) b = ap (λ r. walk l x ▷ r) (walks-join l a b) ∙ sym (way_assoc (walk l x) (walks l a) (walks l b))

pub before-join : (a b : Forest) (w : Follow) → before (join a b) w ≡ before a (before b w)
before-join a b w = fun_ext (λ l. ap (λ r. r ▷ w l) (walks-join l a b) ∙ way_assoc (walks l a) (walks l b) (w l))

pub core-join : (a b : Forest) (w : Follow) → core (join a b) w ≡ join (core a (before b w)) (core b w)
core-join Nil b w = refl
core-join (Then x a) b w =
    ap (λ u. join (core_of x u) (core (join a b) w)) (before-join a b w)
    ∙ ap (λ r. join (core_of x (before a (before b w))) r) (core-join a b w)
    ∙ sym (join-join (core_of x (before a (before b w))) (core a (before b w)) (core b w))

-- ---- one item

-- ---- lists under a guard

past_both : (b : Bool) → Past ≡ cond b Past Past
past_both true = refl
past_both false = refl

on_both : (b : Bool) (y : Way) → on_peeled (Known (not b)) Lost y Past ▷ Past ≡ cond b Past y
on_both true y = refl
on_both false y = way_past y

pub walks-guarded : (l m : ℕ) (b : Forest) → walks l (guarded m b) ≡ cond (eqb l m) Past (walks l b)
walks-guarded l m Nil = past_both (eqb l m)
walks-guarded l m (Then x b) = on_both (eqb l m) (walks l (Then x b))

pub core-guarded : (m : ℕ) (b : Forest) (w : Follow) → core (guarded m b) w ≡ core b w
core-guarded m Nil w = refl
core-guarded m (Then x b) w = join-nil (core (Then x b) w)
