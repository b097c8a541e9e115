-- Each simplification keeps the skeleton.
use Rattle.std.proofs.Common.{◌≡◌, ℕ, Bool, true, false, cond, Some, None, refl, sym, ap, ap₂, ◌∙◌}
use Rattle.c_tree.specs.TestTrees.{TestTree, Source, On, Off, AndOff, OrOn, SelectorTree}
use Rattle.c_tree.specs.Trees.{Tree, Forest, Nil, Then, Sections, NoSection, Section, Evaluate, If, While, Do, For, Switch, Block, Arm, Land, join}
use Rattle.c_tree.specs.Changed.{one, Changed}
use Rattle.c_tree.specs.Everywhere.{Everywhere, EverywhereOf, EverywhereIn}
use Rattle.c_tree.specs.WellMade.{IsConverted, IsMade}
use Rattle.c_tree.proofs.TreeLaws.{join-nil}
use Rattle.c_tree.proofs.KeptLemmas.{everywhere_join}
use Rattle.move_laws.specs.Simplifications.{DropsAnd, and_here, and_in_and, and_in_or, DropsOr, or_here, or_in_and, or_in_or, ShorterTest, again_and, again_or, only_off, shorter_and, shorter_or, DropsPick, pick_here, pick_in, ShorterSelector, again_pick, shorter_pick, IsOff, round, Simplified, empty_if, shorter_if, shorter_while, shorter_do, shorter_switch, neighbours, nested}
use Rattle.move_laws.specs.Drops.{dropped, dropped_item, dropped_sections}
use Rattle.move_order_laws.specs.Skeletons.{test_source, reduced_selector, reduced, if_skeleton, do_skeleton, skeleton, skeleton_of, skeleton_in}
use Rattle.move_order_laws.proofs.Moved.{skeleton-join, plain_if, changed_skeleton}

-- tests with one wrapper fewer

record SameTest (t u : TestTree) : Type 0 where
  source : test_source t ≡ test_source u
  whole : reduced t ≡ reduced u

drops_and : (m : ℕ) {t u : TestTree} → DropsAnd m t u → SameTest t u
drops_and m (and_here t) = record { source = refl; whole = refl }
drops_and m (and_in_and l d) = let h = drops_and m d in record { source = h.source; whole = h.whole }
drops_and m (and_in_or l d) = let h = drops_and m d in record { source = h.source; whole = h.whole }

drops_or : (m : ℕ) {t u : TestTree} → DropsOr m t u → SameTest t u
drops_or m (or_here t) = record { source = refl; whole = refl }
drops_or m (or_in_and l d) = let h = drops_or m d in record { source = h.source; whole = h.whole }
drops_or m (or_in_or l d) = let h = drops_or m d in record { source = h.source; whole = h.whole }

shorter : {t u : TestTree} → ShorterTest t u → SameTest t u
shorter (again_and m d) = let h = drops_and m d in record { source = h.source; whole = h.whole }
shorter (again_or m d) = let h = drops_or m d in record { source = h.source; whole = h.whole }
shorter (only_off m) = record { source = refl; whole = refl }
shorter (shorter_and l s) = let h = shorter s in record { source = h.source; whole = h.whole }
shorter (shorter_or l s) = let h = shorter s in record { source = h.source; whole = h.whole }

drops_pick : (m : ℕ) {s u : SelectorTree} → DropsPick m s u → reduced_selector s ≡ reduced_selector u
drops_pick m (pick_here n s) = refl
drops_pick m (pick_in l n d) = drops_pick m d

shorter_selector : {s u : SelectorTree} → ShorterSelector s u → reduced_selector s ≡ reduced_selector u
shorter_selector (again_pick m n d) = drops_pick m d
shorter_selector (shorter_pick l n s) = shorter_selector s

-- a made test has no source expression

made_source : (t : TestTree) → IsMade t → test_source t ≡ None
made_source (Source e) h = absurd h
made_source (On l) h = refl
made_source (Off l) h = refl
made_source (AndOff l t) h = made_source t h
made_source (OrOn l t) h = made_source t h

off_source : (t : TestTree) → IsOff t → test_source t ≡ None
off_source (Source e) h = absurd h
off_source (On l) h = absurd h
off_source (Off l) h = refl
off_source (AndOff l t) h = off_source t h
off_source (OrOn l t) h = absurd h

round_source : (t u : TestTree) → test_source (round t u) ≡ test_source u
round_source (Source e) u = refl
round_source (On l) u = refl
round_source (Off l) u = refl
round_source (AndOff l t) u = round_source t u
round_source (OrOn l t) u = refl

made_if : (t : TestTree) (a b : Forest) → test_source t ≡ None → Everywhere IsConverted a → skeleton_of (If t a b) ≡ join (skeleton a) (skeleton b)
made_if t a b e h = plain_if t a b h ∙ ap (λ o. if_skeleton o (skeleton a) (skeleton b)) e

simplified_skeleton : {xs ys : Forest} → Simplified xs ys → Everywhere IsConverted xs → Everywhere IsConverted ys → skeleton ys ≡ skeleton xs
simplified_skeleton (empty_if t m) h k = sym (ap (λ z. join z Nil) (made_if t Nil Nil (made_source t m) tt))
simplified_skeleton (shorter_if {t = t} {u = u} a b s) h k =
    ap (λ z. join z Nil) (plain_if u a b h.0.1 ∙ ap (λ o. if_skeleton o (skeleton a) (skeleton b)) (sym (shorter s).source) ∙ sym (plain_if t a b h.0.1))
simplified_skeleton (shorter_while a s) h k = ap (λ z. one (While z (skeleton a))) (sym (shorter s).whole)
simplified_skeleton (shorter_do a s) h k = ap (λ o. join (do_skeleton o (skeleton a)) Nil) (sym (shorter s).source)
simplified_skeleton (shorter_switch c s) h k = ap (λ z. one (Switch z (skeleton_in c))) (sym (shorter_selector s))
simplified_skeleton (neighbours m a b r) h k =
    ap (λ z. join z Nil) (made_if (Off m) (join a b) Nil refl k.0.1 ∙ join-nil (skeleton (join a b)) ∙ skeleton-join a b)
    ∙ join-nil (join (skeleton a) (skeleton b))
    ∙ ap₂ join (sym (join-nil (skeleton a)) ∙ sym (made_if (Off m) a Nil refl h.0.1))
    (sym (join-nil (skeleton b)) ∙ sym (made_if (Off m) b Nil refl h.1.0.1) ∙ sym (join-nil (skeleton_of (If (Off m) b Nil))))
simplified_skeleton (nested t u a o m) h k =
    ap (λ z. join z Nil)
    (made_if (round t u) a Nil (round_source t u ∙ made_source u m) k.0.1
    ∙ sym (made_if u a Nil (made_source u m) k.0.1)
    ∙ sym (join-nil (skeleton_of (If u a Nil)))
    ∙ sym (join-nil (skeleton (one (If u a Nil))))
    ∙ sym (made_if t (one (If u a Nil)) Nil (off_source t o) h.0.1))

pub simplified_kept : {xs ys : Forest} → Changed Simplified xs ys → Everywhere IsConverted xs → Everywhere IsConverted ys → skeleton ys ≡ skeleton xs
simplified_kept c h k = changed_skeleton Simplified (λ xs ys r p q. simplified_skeleton r p q) c h k

-- guards that nothing reads

cond_skeleton : (b : Bool) (x y z : Forest) → skeleton x ≡ z → skeleton y ≡ z → skeleton (cond b x y) ≡ z
cond_skeleton true x y z e f = e
cond_skeleton false x y z e f = f

cond_all : (b : Bool) (x y : Forest) → Everywhere IsConverted x → Everywhere IsConverted y → Everywhere IsConverted (cond b x y)
cond_all true x y p q = p
cond_all false x y p q = q

mutual
  dropped_converted : (d : ℕ → Bool) (a : Forest) → Everywhere IsConverted a → Everywhere IsConverted (dropped d a)
  dropped_converted d Nil h = tt
  dropped_converted d (Then x a) h = everywhere_join IsConverted (dropped_item d x) (dropped d a) (dropped_item_converted d x h.0) (dropped_converted d a h.1)

  dropped_item_converted : (d : ℕ → Bool) (x : Tree) → EverywhereOf IsConverted x → Everywhere IsConverted (dropped_item d x)
  dropped_item_converted d (If t a b) h = ((tt, dropped_converted d a h.1, dropped_converted d b h.2), tt)
  dropped_item_converted d (While t a) h = ((tt, dropped_converted d a h.1), tt)
  dropped_item_converted d (Do a t) h = ((tt, dropped_converted d a h.1), tt)
  dropped_item_converted d (For f t u a) h = ((tt, dropped_converted d f h.1, dropped_converted d a h.2), tt)
  dropped_item_converted d (Switch s c) h = ((tt, dropped_sections_converted d c h.1), tt)
  dropped_item_converted d (Block a) h = absurd h.0
  dropped_item_converted d (Arm l None) h = cond_all (d l) Nil (one (Arm l None)) tt (tt, tt)
  dropped_item_converted d (Arm l (Some e)) h = cond_all (d l) (one (Evaluate e)) (one (Arm l (Some e))) (tt, tt) (tt, tt)
  dropped_item_converted d (Land l) h = cond_all (d l) Nil (one (Land l)) tt (tt, tt)
  dropped_item_converted d _ h = (h, tt)

  dropped_sections_converted : (d : ℕ → Bool) (c : Sections) → EverywhereIn IsConverted c → EverywhereIn IsConverted (dropped_sections d c)
  dropped_sections_converted d NoSection h = tt
  dropped_sections_converted d (Section cases default a ends c) h = (dropped_converted d a h.0, dropped_sections_converted d c h.1)

mutual
  pub dropped_kept : (d : ℕ → Bool) (a : Forest) → Everywhere IsConverted a → skeleton (dropped d a) ≡ skeleton a
  dropped_kept d Nil h = refl
  dropped_kept d (Then x a) h = skeleton-join (dropped_item d x) (dropped d a) ∙ ap₂ join (dropped_item_kept d x h.0) (dropped_kept d a h.1)

  dropped_item_kept : (d : ℕ → Bool) (x : Tree) → EverywhereOf IsConverted x → skeleton (dropped_item d x) ≡ skeleton_of x
  dropped_item_kept d (If t a b) h =
      join-nil (skeleton_of (If t (dropped d a) (dropped d b)))
      ∙ plain_if t (dropped d a) (dropped d b) (dropped_converted d a h.1)
      ∙ ap₂ (if_skeleton (test_source t)) (dropped_kept d a h.1) (dropped_kept d b h.2)
      ∙ sym (plain_if t a b h.1)
  dropped_item_kept d (While t a) h = ap (λ z. one (While (reduced t) z)) (dropped_kept d a h.1)
  dropped_item_kept d (Do a t) h = join-nil (do_skeleton (test_source t) (skeleton (dropped d a))) ∙ ap (do_skeleton (test_source t)) (dropped_kept d a h.1)
  dropped_item_kept d (For f t u a) h = ap₂ (λ y z. one (For y t u z)) (dropped_kept d f h.1) (dropped_kept d a h.2)
  dropped_item_kept d (Switch s c) h = ap (λ z. one (Switch (reduced_selector s) z)) (dropped_sections_kept d c h.1)
  dropped_item_kept d (Block a) h = absurd h.0
  dropped_item_kept d (Arm l None) h = cond_skeleton (d l) Nil (one (Arm l None)) Nil refl refl
  dropped_item_kept d (Arm l (Some e)) h = cond_skeleton (d l) (one (Evaluate e)) (one (Arm l (Some e))) (one (Evaluate e)) refl refl
  dropped_item_kept d (Land l) h = cond_skeleton (d l) Nil (one (Land l)) Nil refl refl
  dropped_item_kept d _ h = refl

  dropped_sections_kept : (d : ℕ → Bool) (c : Sections) → EverywhereIn IsConverted c → skeleton_in (dropped_sections d c) ≡ skeleton_in c
  dropped_sections_kept d NoSection h = refl
  dropped_sections_kept d (Section cases default a ends c) h = ap₂ (λ y z. Section cases default y ends z) (dropped_kept d a h.0)
      (dropped_sections_kept d c h.1)
