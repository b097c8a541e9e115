-- A list whose ways go on better has a better core.
use Rattle.std.proofs.Common.{ℕ, zero, suc, ◌+◌, true, false, Some, None, ◌≡◌, refl, subst}
use Rattle.c_tree.specs.TestTrees.{Source}
use Rattle.c_tree.specs.Trees.{Tree, Forest, Nil, Then, Sections, NoSection, Section, Evaluate, Return, If, While, Do, For, Switch, Block, Local, Break, Continue, Goto, Mark, Arm, Leap, Land, Arrival, Note, join}
use Rattle.c_tree.specs.Everywhere.{Everywhere, EverywhereOf, EverywhereIn}
use Rattle.c_tree.specs.Exits.{breaks, continues}
use Rattle.jump_meaning.specs.Step.{no_guards}
use Rattle.core_laws.specs.Ways.{Peeled, Ask, Known, peel, Way, Lands, Past, Lost, ◌▷◌, walks, walk, end_way, tail_way, do_end_way, Follow, before, after_while, after_do, after_section}
use Rattle.core_laws.specs.Core.{constant, jump_if, core_if, core_do, core, core_of, core_sections}
use Rattle.core_laws.specs.Better.{LeWay, LeFollow, LeTree, le_leaf, le_arm, le_if, le_while, le_do, le_switch, le_block, LeAll, le_nil, le_then, LeSections, le_no_section, le_section}
use Rattle.move_laws.proofs.Orders.{way_on, all_refl}

-- ---- the parts of a core

pub join_le : {a a' b b' : Forest} → LeAll a a' → LeAll b b' → LeAll (join a b) (join a' b')
join_le le_nil q = q
join_le (le_then x p) q = le_then x (join_le p q)

pub one_le : {x x' : Tree} → LeTree x x' → LeAll (Then x Nil) (Then x' Nil)
one_le h = le_then h le_nil

pub core_if_le : (p : Peeled) {a a' b b' : Forest} → LeAll a a' → LeAll b b' → LeAll (core_if p a b) (core_if p a' b')
core_if_le (Ask e) p q = one_le (le_if (Source e) p q)
core_if_le (Known true) p le_nil = p
core_if_le (Known true) p (le_then x q) = one_le (le_if (Source (constant true)) p (le_then x q))
core_if_le (Known false) le_nil q = q
core_if_le (Known false) (le_then x p) q = one_le (le_if (Source (constant false)) (le_then x p) q)

core_do_same : (p : Peeled) (n : ℕ) {a a' : Forest} → LeAll a a' → LeAll (core_do p n a) (core_do p n a')
core_do_same (Ask e) n p = one_le (le_do (Source e) p)
core_do_same (Known true) n p = one_le (le_do (Source (constant true)) p)
core_do_same (Known false) zero p = p
core_do_same (Known false) (suc n) p = one_le (le_do (Source (constant false)) p)

pub core_do_le : (p : Peeled) (n n' : ℕ) → n ≡ n' → {a a' : Forest} → LeAll a a' → LeAll (core_do p n a) (core_do p n' a')
core_do_le p n n' e {a = a} {a' = a'} q = subst (λ z. LeAll (core_do p n a) (core_do p z a')) e (core_do_same p n q)

jump_le : (l : ℕ) (y y' : Way) → LeWay y y' → LeTree (jump_if y l) (jump_if y' l)
jump_le l Lost Lost h = le_leaf (Arm l None) tt
jump_le l Lost Past h = le_leaf (Arm l None) tt
jump_le l Lost Lands h = le_arm l
jump_le l Past Lost h = absurd h
jump_le l Past Past h = le_leaf (Arm l None) tt
jump_le l Past Lands h = le_arm l
jump_le l Lands Lost h = absurd h
jump_le l Lands Past h = absurd h
jump_le l Lands Lands h = le_leaf (Goto l) tt

-- ---- the core, where the ways of some labels go on better

-- the labels that an item arms are among some
abbrev pub ArmsAmong : (ℕ → Type 0) → Tree → Type 0
ArmsAmong D (Arm l e) = D l
ArmsAmong D _ = Unit {0}

module _ (D : ℕ → Type 0) where
  abbrev pub LeAmong : Follow → Follow → Type 0
  LeAmong w w' = (l : ℕ) → D l → LeWay (w l) (w' l)

  on_among : (u w w' : Follow) → LeAmong w w' → LeAmong (λ l. u l ▷ w l) (λ l. u l ▷ w' l)
  on_among u w w' h l d = way_on (u l) (w l) (w' l) (h l d)

  mutual
    pub core_among : (xs : Forest) → Everywhere (ArmsAmong D) xs → (w w' : Follow) → LeAmong w w' → LeAll (core xs w) (core xs w')
    core_among Nil m w w' h = le_nil
    core_among (Then x xs) m w w' h = join_le (core_of_among x m.0 (before xs w) (before xs w') (on_among (λ l. walks l xs) w w' h)) (core_among xs m.1 w w' h)

    core_of_among : (x : Tree) → EverywhereOf (ArmsAmong D) x → (w w' : Follow) → LeAmong w w' → LeAll (core_of x w) (core_of x w')
    core_of_among (If t a b) m w w' h = core_if_le (peel no_guards t) (core_among a m.1 w w' h) (core_among b m.2 w w' h)
    core_of_among (While t a) m w w' h = one_le
        (le_while _ (core_among a m.1 (after_while t a w) (after_while t a w') (on_among (λ l. walk l (While t a)) w w' h)))
    core_of_among (Do a t) m w w' h =
        core_do_le (peel no_guards t) (breaks a + continues a) (breaks a + continues a) refl
        (core_among a m.1 (after_do a t w) (after_do a t w') (on_among (λ l. do_end_way l a t) w w' h))
    core_of_among (For first t u a) m w w' h = all_refl _
    core_of_among (Switch s c) m w w' h = one_le (le_switch _ (sections_among c m.1 w w' h))
    core_of_among (Block a) m w w' h = one_le (le_block (core_among a m.1 w w' h))
    core_of_among (Arm l None) m w w' h = one_le (jump_le l (w l) (w' l) (h l m))
    core_of_among (Arm l (Some e)) m w w' h = one_le (le_if (Source e) (one_le (jump_le l (w l) (w' l) (h l m))) le_nil)
    core_of_among (Leap l) m w w' h = le_nil
    core_of_among _ m w w' h = all_refl _

    sections_among : (c : Sections) → EverywhereIn (ArmsAmong D) c → (w w' : Follow) → LeAmong w w' → LeSections (core_sections c w) (core_sections c w')
    sections_among NoSection m w w' h = le_no_section
    sections_among (Section cases default a ends c) m w w' h =
        le_section cases default ends (core_among a m.0 (after_section ends c w) (after_section ends c w')
        (on_among (λ l. end_way ends (tail_way l c)) w w' h)) (sections_among c m.1 w w' h)

-- ---- the core, where all ways go on better

-- a fact of all items
module _ (P : Tree → Type 0) (f : (x : Tree) → P x) where
  mutual
    everywhere_all : (xs : Forest) → Everywhere P xs
    everywhere_all Nil = tt
    everywhere_all (Then x xs) = (all_of x, everywhere_all xs)

    all_of : (x : Tree) → EverywhereOf P x
    all_of (If t a b) = (f (If t a b), everywhere_all a, everywhere_all b)
    all_of (While t a) = (f (While t a), everywhere_all a)
    all_of (Do a t) = (f (Do a t), everywhere_all a)
    all_of (For first t u a) = (f (For first t u a), everywhere_all first, everywhere_all a)
    all_of (Switch s c) = (f (Switch s c), all_in c)
    all_of (Block a) = (f (Block a), everywhere_all a)
    all_of (Evaluate e) = f (Evaluate e)
    all_of (Return e) = f (Return e)
    all_of (Local x es) = f (Local x es)
    all_of Break = f Break
    all_of Continue = f Continue
    all_of (Goto l) = f (Goto l)
    all_of (Mark l) = f (Mark l)
    all_of (Arm l e) = f (Arm l e)
    all_of (Leap l) = f (Leap l)
    all_of (Land l) = f (Land l)
    all_of (Arrival e) = f (Arrival e)
    all_of (Note bs) = f (Note bs)

    all_in : (c : Sections) → EverywhereIn P c
    all_in NoSection = tt
    all_in (Section cases default a ends c) = (everywhere_all a, all_in c)

abbrev Any : ℕ → Type 0
Any l = Unit {0}

arms_any : (x : Tree) → ArmsAmong Any x
arms_any (Arm l e) = tt
arms_any _ = tt

pub core_le : (xs : Forest) (w w' : Follow) → LeFollow w w' → LeAll (core xs w) (core xs w')
core_le xs w w' h = core_among Any xs (everywhere_all (ArmsAmong Any) arms_any xs) w w' (λ l d. h l)

pub sections_le : (c : Sections) (w w' : Follow) → LeFollow w w' → LeSections (core_sections c w) (core_sections c w')
sections_le c w w' h = sections_among Any c (all_in (ArmsAmong Any) arms_any c) w w' (λ l d. h l)
