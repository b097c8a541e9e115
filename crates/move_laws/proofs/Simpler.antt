-- Each simplification of made tests makes a list at least as good.
use Rattle.std.proofs.Common.{ℕ, true, false, cond, eqb, ◌≡◌, refl, ap}
use Rattle.c_tree.specs.TestTrees.{TestTree, Source, On, Off, AndOff, OrOn, SelectorTree}
use Rattle.c_tree.specs.Trees.{Tree, Forest, Arm}
use Rattle.c_tree.specs.Cases.{selector_source}
use Rattle.c_tree.specs.Changed.{Changed}
use Rattle.c_tree.proofs.WellMoved.{everywhere_map}
use Rattle.jump_meaning.specs.Step.{Guards, no_guards}
use Rattle.core_laws.specs.Ways.{Known, peel, KnownSelector, peel_selector}
use Rattle.core_laws.specs.Better.{Better}
use Rattle.move_laws.proofs.Cores.{ArmsAmong}
use Rattle.move_laws.proofs.BetterLists.{better_changed}
use Rattle.move_laws.proofs.Simplified as S
use Rattle.move_laws.specs.Simplifications.{DropsAnd, and_here, and_in_and, and_in_or, DropsOr, or_here, or_in_and, or_in_or, ShorterTest, again_and, again_or, only_off, shorter_and, shorter_or, DropsPick, pick_here, pick_in, ShorterSelector, again_pick, shorter_pick, IsOff, round, ArmsOther, Simplified, empty_if, shorter_if, shorter_while, shorter_do, shorter_switch, neighbours, nested}

-- ---- tests and selectors that all guards decide alike

without_and : (m : ℕ) {t u : TestTree} → DropsAnd m t u → (g : Guards) → g m ≡ false → peel g t ≡ peel g u
without_and m (and_here t) g e = S.and_inside m t g e
without_and m (and_in_and l r) g e = ap (cond (g l) (Known false)) (without_and m r g e)
without_and m (and_in_or l r) g e = ap (cond (g l) (Known true)) (without_and m r g e)

without_or : (m : ℕ) {t u : TestTree} → DropsOr m t u → (g : Guards) → g m ≡ false → peel g t ≡ peel g u
without_or m (or_here t) g e = S.or_inside m t g e
without_or m (or_in_and l r) g e = ap (cond (g l) (Known false)) (without_or m r g e)
without_or m (or_in_or l r) g e = ap (cond (g l) (Known true)) (without_or m r g e)

shorter_alike : {t u : TestTree} → ShorterTest t u → S.AreAlike t u
shorter_alike (again_and m {t = t} {u = u} r) = S.alike_inside_and m t u (without_and m r)
shorter_alike (again_or m {t = t} {u = u} r) = S.alike_inside_or m t u (without_or m r)
shorter_alike (only_off m) = S.alike_off m
shorter_alike (shorter_and l {t = t} {u = u} r) = S.alike_and l t u (shorter_alike r)
shorter_alike (shorter_or l {t = t} {u = u} r) = S.alike_or l t u (shorter_alike r)

without_pick : (m : ℕ) {s u : SelectorTree} → DropsPick m s u → (g : Guards) → g m ≡ false → peel_selector g s ≡ peel_selector g u
without_pick m (pick_here n s) g e = S.pick_inside m n s g e
without_pick m (pick_in l n r) g e = ap (λ p. cond (g l) (KnownSelector n) p) (without_pick m r g e)

pub same_source : (m : ℕ) {s u : SelectorTree} → DropsPick m s u → selector_source s ≡ selector_source u
same_source m (pick_here n s) = refl
same_source m (pick_in l n r) = same_source m r

shorter_selector : {s u : SelectorTree} → ShorterSelector s u → S.AreAlikeSelectors s u
shorter_selector (again_pick m n {s = s} {u = u} r) = S.alike_inside_pick m n s u (same_source m r) (without_pick m r)
shorter_selector (shorter_pick l n r) =
    let h = shorter_selector r in
    record { source = h.source; peeled = λ g. ap (λ p. cond (g l) (KnownSelector n) p) (h.peeled g) }

-- ---- nested tests

off_known : (t : TestTree) → IsOff t → peel no_guards t ≡ Known true
off_known (Source e) h = absurd h
off_known (On l) h = absurd h
off_known (Off l) h = refl
off_known (AndOff l t) h = off_known t h
off_known (OrOn l t) h = absurd h

round_nested : (t u : TestTree) → IsOff t → S.AreNested t u (round t u)
round_nested (Source e) u h = absurd h
round_nested (On l) u h = absurd h
round_nested (Off l) u h = S.are_nested_off l u
round_nested (AndOff l t) u h = S.are_nested_and l t u (round t u) (round_nested t u h)
round_nested (OrOn l t) u h = absurd h

arms_among : (m : ℕ) (x : Tree) → ArmsOther m x → ArmsAmong (λ l. eqb l m ≡ false) x
arms_among m (Arm l e) h = h
arms_among m _ h = tt

-- ---- the rules

simplified_better : (xs ys : Forest) → Simplified xs ys → Better xs ys
simplified_better _ _ (empty_if t m) = S.drop_if t m
simplified_better _ _ (shorter_if {t = t} {u = u} a b r) = S.other_if t u a b (shorter_alike r)
simplified_better _ _ (shorter_while {t = t} {u = u} a r) = S.other_while t u a (shorter_alike r)
simplified_better _ _ (shorter_do {t = t} {u = u} a r) = S.other_do t u a (shorter_alike r)
simplified_better _ _ (shorter_switch {s = s} {u = u} c r) = S.other_switch s u c (shorter_selector r)
simplified_better _ _ (neighbours m a b n) = S.neighbours m a b (everywhere_map (ArmsOther m) (ArmsAmong (λ l. eqb l m ≡ false)) (arms_among m) a n)
simplified_better _ _ (nested t u a o i) = S.one_if t u (round t u) a (off_known t o) (round_nested t u o)

pub changed_better : (xs ys : Forest) → Changed Simplified xs ys → Better xs ys
changed_better xs ys c = better_changed simplified_better c
