-- Each of the four rules keeps the skeleton.
use Rattle.std.proofs.Common.{◌≡◌, ℕ, Bool, true, false, cond, None, refl, sym, ap, ap₂, ◌∙◌}
use Rattle.c_tree.specs.TestTrees.{TestTree, Source, On, AndOff, OrOn, Pick}
use Rattle.c_tree.specs.Trees.{Tree, Forest, Nil, Then, Sections, NoSection, Section, If, While, Do, For, Switch, Block, Goto, Leap, Land, join}
use Rattle.c_tree.specs.Changed.{one, Changed, ChangedSections, here, within, in_then, in_else, in_while, in_do, in_for, in_switch, in_block, in_section, in_later}
use Rattle.c_tree.specs.Everywhere.{Everywhere, EverywhereIn}
use Rattle.c_tree.specs.WellMade.{IsConverted}
use Rattle.c_tree.specs.Moves as M
use Rattle.c_tree.specs.Moves.{Moved, guarded, later_guarded, SectionsLeft, left_here, left_later, SectionsEntered, entered_here, entered_later}
use Rattle.c_tree.proofs.TreeLaws.{join-nil, join-join}
use Rattle.c_tree.proofs.KeptLemmas.{everywhere_front, everywhere_back}
use Rattle.move_order_laws.specs.Skeletons.{test_source, reduced_selector, reduced, if_skeleton, do_skeleton, goto_condition, or_statement, skeleton, skeleton_of, skeleton_in}

pub skeleton-join : (a b : Forest) → skeleton (join a b) ≡ join (skeleton a) (skeleton b)
skeleton-join Nil b = refl
skeleton-join (Then x a) b = ap (join (skeleton_of x)) (skeleton-join a b) ∙ sym (join-join (skeleton_of x) (skeleton a) (skeleton b))

-- where no Goto stands, an `if` is no goto
no_goto : (t : TestTree) (a b : Forest) → Everywhere IsConverted a → goto_condition t a b ≡ None
no_goto (Source e) (Then (Goto l) Nil) Nil h = absurd h.0
no_goto (Source e) Nil b h = refl
no_goto (Source e) (Then (Goto l) Nil) (Then y b) h = refl
no_goto (Source e) (Then (Goto l) (Then x a)) b h = refl
no_goto (Source e) (Then _ a) b h = refl
no_goto _ a b h = refl

pub plain_if : (t : TestTree) (a b : Forest) → Everywhere IsConverted a → skeleton_of (If t a b) ≡ if_skeleton (test_source t) (skeleton a) (skeleton b)
plain_if t a b h = ap (λ o. or_statement o (if_skeleton (test_source t) (skeleton a) (skeleton b))) (no_goto t a b h)

pub skeleton-guarded : (m : ℕ) (a : Forest) → skeleton (guarded m a) ≡ skeleton a
skeleton-guarded m Nil = refl
skeleton-guarded m (Then x a) = join-nil (join (skeleton (Then x a)) Nil) ∙ join-nil (skeleton (Then x a))

skeleton-one : (x : Tree) → skeleton (one x) ≡ skeleton_of x
skeleton-one x = join-nil (skeleton_of x)

skeleton-left : (m : ℕ) (a b : Forest) → skeleton (join a (guarded m b)) ≡ skeleton (join a (Then (Leap m) b))
skeleton-left m a b = skeleton-join a (guarded m b) ∙ ap (join (skeleton a)) (skeleton-guarded m b) ∙ sym (skeleton-join a (Then (Leap m) b))

skeleton-later : (m : ℕ) (c : Sections) → skeleton_in (later_guarded m c) ≡ skeleton_in c
skeleton-later m NoSection = refl
skeleton-later m (Section cases default a true c) = ap (λ z. Section cases default z true (skeleton_in c)) (skeleton-guarded m a)
skeleton-later m (Section cases default a false c) = ap₂ (λ z w. Section cases default z false w) (skeleton-guarded m a) (skeleton-later m c)

skeleton-chosen : (m : ℕ) (ends : Bool) (c : Sections) → skeleton_in (cond ends c (later_guarded m c)) ≡ skeleton_in c
skeleton-chosen m true c = refl
skeleton-chosen m false c = skeleton-later m c

skeleton-sections_left : (m : ℕ) {c d : Sections} → SectionsLeft m c d → skeleton_in d ≡ skeleton_in c
skeleton-sections_left m (left_here cases default ends a b c) = ap₂ (λ z w. Section cases default z ends w) (skeleton-left m a b) (skeleton-chosen m ends c)
skeleton-sections_left m (left_later cases default ends a r) = ap (Section cases default (skeleton a) ends) (skeleton-sections_left m r)

skeleton-entered : (m k : ℕ) {c d : Sections} → SectionsEntered m k c d → skeleton_in d ≡ skeleton_in c
skeleton-entered m _ (entered_here cases default ends a c z) = refl
skeleton-entered m _ (entered_later cases default ends a r) = ap (Section cases default (skeleton a) ends) (skeleton-entered m _ r)

-- Leap, T, X and what becomes of it
entering : (m : ℕ) (t : Forest) (x y : Tree) → skeleton_of y ≡ skeleton_of x → skeleton (join (guarded m t) (one y)) ≡ skeleton (Then (Leap m) (join t (one x)))
entering m t x y e =
    skeleton-join (guarded m t) (one y)
    ∙ ap₂ join (skeleton-guarded m t) (ap (λ z. join z Nil) e)
    ∙ sym (skeleton-join t (one x))

-- X with the Leap in it, and what becomes of it
leaving : (m : ℕ) (x y : Tree) → skeleton_of y ≡ skeleton_of x → skeleton (Then y (one (Leap m))) ≡ skeleton (one x)
leaving m x y e = ap (λ z. join z Nil) e

moved_skeleton : {xs ys : Forest} → Moved xs ys → Everywhere IsConverted xs → Everywhere IsConverted ys → skeleton ys ≡ skeleton xs
moved_skeleton (M.join_after m t) h k = entering m t (Land m) (Land m) refl
moved_skeleton (M.join_before m t) h k = skeleton-one (Do (Then (Land m) t) (On m)) ∙ sym (skeleton-join t (one (Leap m)) ∙ join-nil (skeleton t))
moved_skeleton (M.lifted m x t z) h k =
    skeleton-one (Do (Then (Leap m) (Then x t)) (On m)) ∙ ap (join (skeleton_of x)) (sym (skeleton-join t (one (Leap m)) ∙ join-nil (skeleton t)))
moved_skeleton (M.out_then m t a b c) h k =
    leaving m (If t (join a (Then (Leap m) b)) c) (If t (join a (guarded m b)) c)
    (plain_if t (join a (guarded m b)) c k.0.1 ∙ ap (λ z. if_skeleton (test_source t) z (skeleton c)) (skeleton-left m a b) ∙
    sym (plain_if t (join a (Then (Leap m) b)) c h.0.1))
moved_skeleton (M.out_else m t a b c) h k =
    leaving m (If t c (join a (Then (Leap m) b))) (If t c (join a (guarded m b)))
    (plain_if t c (join a (guarded m b)) k.0.1 ∙ ap (if_skeleton (test_source t) (skeleton c)) (skeleton-left m a b) ∙
    sym (plain_if t c (join a (Then (Leap m) b)) h.0.1))
moved_skeleton (M.out_while m t a b) h k =
    leaving m (While t (join a (Then (Leap m) b))) (While (AndOff m t) (join a (guarded m b))) (ap (λ z. one (While (reduced t) z)) (skeleton-left m a b))
moved_skeleton (M.out_do m t a b) h k =
    leaving m (Do (join a (Then (Leap m) b)) t) (Do (join a (guarded m b)) (AndOff m t)) (ap (do_skeleton (test_source t)) (skeleton-left m a b))
moved_skeleton (M.out_switch m s {c = c} {d = d} r) h k = leaving m (Switch s c) (Switch s d)
    (ap (λ z. one (Switch (reduced_selector s) z)) (skeleton-sections_left m r))
moved_skeleton (M.in_then m t u a b z) h k = entering m t (If u a b) (If (OrOn m u) (Then (Leap m) a) b)
    (sym (plain_if u a b (everywhere_back IsConverted t (one (If u a b)) h.1).0.1))
moved_skeleton (M.in_else m t u a b z) h k = entering m t (If u a b) (If (AndOff m u) a (Then (Leap m) b))
    (sym (plain_if u a b (everywhere_back IsConverted t (one (If u a b)) h.1).0.1))
moved_skeleton (M.in_while m t u a z) h k = entering m t (While u a) (While (OrOn m u) (Then (Leap m) a)) refl
moved_skeleton (M.in_do m t u a z) h k = entering m t (Do a u) (Do (Then (Leap m) a) u) refl
moved_skeleton (M.in_switch m t s j n {c = c} {d = d} r p) h k = entering m t (Switch s c) (Switch (Pick m n s) d)
    (ap (λ z. one (Switch (reduced_selector s) z)) (skeleton-entered m j r))

module _ (R : Forest → Forest → Type 0) (kept : (xs ys : Forest) → R xs ys → Everywhere IsConverted xs → Everywhere IsConverted ys →
    skeleton ys ≡ skeleton xs) where
  mutual
    pub changed_skeleton : {xs ys : Forest} → Changed R xs ys → Everywhere IsConverted xs → Everywhere IsConverted ys → skeleton ys ≡ skeleton xs
    changed_skeleton (here {xs = xs} {ys = ys} r) h k = kept xs ys r h k
    changed_skeleton (within a b {xs = xs} {ys = ys} c) h k =
        let inner = changed_skeleton c (everywhere_front IsConverted xs b (everywhere_back IsConverted a (join xs b) h))
        (everywhere_front IsConverted ys b (everywhere_back IsConverted a (join ys b) k)) in
        skeleton-join a (join ys b) ∙ ap (join (skeleton a)) (skeleton-join ys b ∙ ap (λ z. join z (skeleton b)) inner ∙ sym (skeleton-join xs b)) ∙
        sym (skeleton-join a (join xs b))
    changed_skeleton (in_then t b {xs = xs} {ys = ys} c) h k =
        ap (λ z. join z Nil) (plain_if t ys b k.0.1 ∙ ap (λ z. if_skeleton (test_source t) z (skeleton b)) (changed_skeleton c h.0.1 k.0.1) ∙
        sym (plain_if t xs b h.0.1))
    changed_skeleton (in_else t a {xs = xs} {ys = ys} c) h k =
        ap (λ z. join z Nil) (plain_if t a ys k.0.1 ∙ ap (if_skeleton (test_source t) (skeleton a)) (changed_skeleton c h.0.2 k.0.2) ∙
        sym (plain_if t a xs h.0.1))
    changed_skeleton (in_while t c) h k = ap (λ z. one (While (reduced t) z)) (changed_skeleton c h.0.1 k.0.1)
    changed_skeleton (in_do t c) h k = ap (λ z. join (do_skeleton (test_source t) z) Nil) (changed_skeleton c h.0.1 k.0.1)
    changed_skeleton (in_for f t u c) h k = ap (λ z. one (For (skeleton f) t u z)) (changed_skeleton c h.0.2 k.0.2)
    changed_skeleton (in_switch s c) h k = ap (λ z. one (Switch (reduced_selector s) z)) (sections_skeleton c h.0.1 k.0.1)
    changed_skeleton (in_block c) h k = ap (λ z. one (Block z)) (changed_skeleton c h.0.1 k.0.1)

    sections_skeleton : {c d : Sections} → ChangedSections R c d → EverywhereIn IsConverted c → EverywhereIn IsConverted d → skeleton_in d ≡ skeleton_in c
    sections_skeleton (in_section cases default ends c r) h k = ap (λ z. Section cases default z ends (skeleton_in c)) (changed_skeleton r h.0 k.0)
    sections_skeleton (in_later cases default ends a r) h k = ap (Section cases default (skeleton a) ends) (sections_skeleton r h.1 k.1)

pub moved_kept : {xs ys : Forest} → Changed Moved xs ys → Everywhere IsConverted xs → Everywhere IsConverted ys → skeleton ys ≡ skeleton xs
moved_kept c h k = changed_skeleton Moved (λ xs ys r p q. moved_skeleton r p q) c h k
