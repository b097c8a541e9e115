-- To be at least as good is a preorder of lists, and holds of a whole where it holds of a part.
use Rattle.std.proofs.Common.{ℕ, ◌+◌, ℤ, Bool, true, false, cond, List, Option, Some, None, ◌≡◌, refl, sym, ◌∙◌, subst, arith}
use Rattle.c_tree.specs.ExpressionTrees.{ExpressionTree}
use Rattle.c_tree.specs.TestTrees.{TestTree, SelectorTree}
use Rattle.c_tree.specs.Trees.{Tree, Forest, Sections, NoSection, Section, If, While, Do, For, Switch, Block, join}
use Rattle.c_tree.specs.Exits.{breaks, continues, continues_in}
use Rattle.c_tree.specs.Changed.{one, Changed, ChangedSections, here, within, in_then, in_else, in_while, in_do, in_for, in_switch, in_block, in_section, in_later}
use Rattle.c_tree.proofs.ExitsKept.{breaks-join, continues-join}
use Rattle.jump_meaning.specs.Search.{Goal, ToCase, ToDefault, is_section_goal, first_of_three}
use Rattle.jump_meaning.specs.Step.{no_guards, switch_kind}
use Rattle.core_laws.specs.Ways.{only, peel, PeeledSelector, AskSelector, KnownSelector, peel_selector, on_selector, Way, Past, Lost, ◌▷◌, walk, walks, tail_way, section_way, Follow, lost, before, after_while, after_do, after_section}
use Rattle.core_laws.specs.Core.{core, core_of, core_sections}
use Rattle.core_laws.specs.Better.{LeWay, LeFollow, LeAll, le_while, le_for, le_switch, le_block, LeSections, le_no_section, le_section, Better}
use Rattle.move_laws.proofs.Orders.{way_refl, way_trans, way_then, way_peeled, way_end, follow_refl, all_refl, all_trans}
use Rattle.move_laws.proofs.Lists.{walks-join, core-join}
use Rattle.move_laws.proofs.Cores.{join_le, one_le, core_if_le, core_do_le, core_le}

-- ---- a preorder

pub better_refl : (xs : Forest) → Better xs xs
better_refl xs = record { stops = refl; goes = refl; ways = λ l. way_refl (walks l xs); cores = core_le xs }

pub better_trans : {xs ys zs : Forest} → Better xs ys → Better ys zs → Better xs zs
better_trans p q = record {
  stops = p.stops ∙ q.stops;
  goes = p.goes ∙ q.goes;
  ways = λ l. way_trans _ _ _ (p.ways l) (q.ways l);
  cores = λ w w' h. all_trans (p.cores w w (follow_refl w)) (q.cores w w' h);
}

-- ---- contexts

pub better_join : {a a' b b' : Forest} → Better a a' → Better b b' → Better (join a b) (join a' b')
better_join {a = a} {a' = a'} {b = b} {b' = b'} p q = record {
  stops = let i = breaks-join a b in let j = breaks-join a' b' in let x = p.stops in let y = q.stops in omega arith;
  goes = let i = continues-join a b in let j = continues-join a' b' in let x = p.goes in let y = q.goes in omega arith;
  ways = λ l. subst (λ x. LeWay x (walks l (join a' b'))) (sym (walks-join l a b))
      (subst (λ y. LeWay (walks l a ▷ walks l b) y) (sym (walks-join l a' b')) (way_then _ _ _ _ (p.ways l) (q.ways l)));
  cores = λ w w' h. subst (λ x. LeAll x (core (join a' b') w')) (sym (core-join a b w))
      (subst (λ y. LeAll (join (core a (before b w)) (core b w)) y) (sym (core-join a' b' w'))
      (join_le (p.cores (before b w) (before b' w') (λ l. way_then _ _ _ _ (q.ways l) (h l))) (q.cores w w' h)));
}

-- two items, each as a list of its own
pub better_one : (x y : Tree) → breaks (one x) ≡ breaks (one y) → continues (one x) ≡ continues (one y) → ((l : ℕ) → LeWay (walk l x) (walk l y))
    → ((w w' : Follow) → LeFollow w w' → LeAll (core_of x w) (core_of y w')) → Better (one x) (one y)
better_one x y s g way c = record {
  stops = s;
  goes = g;
  ways = λ l. way_then _ _ _ _ (way l) tt;
  cores = λ w w' h. join_le (c w w' h) (all_refl _);
}

pub better_if : (t : TestTree) {a a' b b' : Forest} → Better a a' → Better b b' → Better (one (If t a b)) (one (If t a' b'))
better_if t p q = better_one _ _ (let x = p.stops in let y = q.stops in omega arith) (let x = p.goes in let y = q.goes in omega arith)
    (λ l. way_peeled (peel (only l) t) _ _ _ _ (p.ways l) (q.ways l)) (λ w w' h. core_if_le (peel no_guards t) (p.cores w w' h) (q.cores w w' h))

pub better_while : (t : TestTree) {a a' : Forest} → Better a a' → Better (one (While t a)) (one (While t a'))
better_while t {a = a} {a' = a'} p =
    let way = λ (l : ℕ). way_peeled (peel (only l) t) _ _ _ _ (way_then _ _ Lost Lost (p.ways l) tt) tt in
    better_one _ _ refl refl way (λ w w' h. one_le (le_while _ (p.cores (after_while t a w) (after_while t a' w') (λ l. way_then _ _ _ _ (way l) (h l)))))

pub better_do : (t : TestTree) {a a' : Forest} → Better a a' → Better (one (Do a t)) (one (Do a' t))
better_do t {a = a} {a' = a'} p =
    let way = λ (l : ℕ). way_peeled (peel (only l) t) _ _ _ _ (way_then _ _ Lost Lost (p.ways l) tt) tt in
    better_one _ _ refl refl (λ l. way_then _ _ _ _ (p.ways l) (way l))
    (λ w w' h. core_do_le (peel no_guards t) (breaks a + continues a) (breaks a' + continues a') (let x = p.stops in let y = p.goes in omega arith)
    (p.cores (after_do a t w) (after_do a' t w') (λ l. way_then _ _ _ _ (way l) (h l))))

pub better_for : (t u : Option ExpressionTree) (first : Forest) {a a' : Forest} → Better a a' → Better (one (For first t u a)) (one (For first t u a'))
better_for t u first p = better_one _ _ refl refl (λ l. tt) (λ w w' h. one_le (le_for t u (all_refl _) (p.cores lost lost (follow_refl lost))))

pub better_block : {a a' : Forest} → Better a a' → Better (one (Block a)) (one (Block a'))
better_block p = better_one _ _ (let x = p.stops in omega arith) (let x = p.goes in omega arith) (λ l. tt) (λ w w' h. one_le (le_block (p.cores w w' h)))

-- ---- sections

-- two ways no worse where they are, or neither is there
abbrev pub LeMaybe : Option Way → Option Way → Type 0
LeMaybe None None = Unit {0}
LeMaybe (Some x) (Some y) = LeWay x y
LeMaybe _ _ = ⊥

pub maybe_here : (b : Bool) (x y : Way) (o p : Option Way) → LeWay x y → LeMaybe o p → LeMaybe (cond b (Some x) o) (cond b (Some y) p)
maybe_here true x y o p h k = h
maybe_here false x y o p h k = k

pub maybe_first : (o p o' p' : Option Way) → LeMaybe o o' → LeMaybe p p' → LeWay (first_of_three o p Past) (first_of_three o' p' Past)
maybe_first (Some x) p (Some y) p' h k = h
maybe_first (Some x) p None p' h k = absurd h
maybe_first None p (Some y) p' h k = absurd h
maybe_first None (Some x) None (Some y) h k = k
maybe_first None (Some x) None None h k = absurd k
maybe_first None None None (Some y) h k = absurd k
maybe_first None None None None h k = tt

pub way_selector : (p : PeeledSelector) (f g : ℤ → Way) → ((n : ℤ) → LeWay (f n) (g n)) → LeWay (on_selector p Lost f) (on_selector p Lost g)
way_selector (AskSelector e) f g h = tt
way_selector (KnownSelector n) f g h = h n

-- sections that are at least as good in their place
pub record BetterSections (c d : Sections) : Type 0 where
  pub goes : continues_in c ≡ continues_in d
  pub tails : (l : ℕ) → LeWay (tail_way l c) (tail_way l d)
  pub entries : (l : ℕ) (goal : Goal) → LeMaybe (section_way l goal c) (section_way l goal d)
  pub cores : (w w' : Follow) → LeFollow w w' → LeSections (core_sections c w) (core_sections d w')

pub better_section : (cases : List ExpressionTree) (default ends : Bool) {a a' : Forest} {c c' : Sections} → Better a a' → BetterSections c c' →
    BetterSections (Section cases default a ends c) (Section cases default a' ends c')
better_section cases default ends {c = c} {c' = c'} p q =
    let way = λ (l : ℕ). way_then _ _ _ _ (p.ways l) (way_end ends _ _ (q.tails l)) in
    record {
      goes = let x = p.goes in let y = q.goes in omega arith;
      tails = way;
      entries = λ l goal. maybe_here (is_section_goal goal cases default) _ _ _ _ (way l) (q.entries l goal);
      cores = λ w w' h. le_section cases default ends (p.cores (after_section ends c w) (after_section ends c' w')
          (λ l. way_then _ _ _ _ (way_end ends _ _ (q.tails l)) (h l))) (q.cores w w' h);
    }

pub sections_better : (c : Sections) → BetterSections c c
sections_better NoSection = record { goes = refl; tails = λ l. tt; entries = λ l goal. tt; cores = λ w w' h. le_no_section }
sections_better (Section cases default a ends c) = better_section cases default ends (better_refl a) (sections_better c)

pub better_switch : (s : SelectorTree) {c d : Sections} → BetterSections c d → Better (one (Switch s c)) (one (Switch s d))
better_switch s q = better_one _ _ refl (let x = q.goes in omega arith)
    (λ l. way_selector (peel_selector (only l) s) _ _ (λ n. maybe_first _ _ _ _ (q.entries l (ToCase (switch_kind s) n)) (q.entries l ToDefault)))
    (λ w w' h. one_le (le_switch _ (q.cores w w' h)))

-- ---- one place of a whole

module _ {R : Forest → Forest → Type 0} (rule : (xs ys : Forest) → R xs ys → Better xs ys) where
  mutual
    pub better_changed : {xs ys : Forest} → Changed R xs ys → Better xs ys
    better_changed (here r) = rule _ _ r
    better_changed (within a b c) = better_join (better_refl a) (better_join (better_changed c) (better_refl b))
    better_changed (in_then t b c) = better_if t (better_changed c) (better_refl b)
    better_changed (in_else t a c) = better_if t (better_refl a) (better_changed c)
    better_changed (in_while t c) = better_while t (better_changed c)
    better_changed (in_do t c) = better_do t (better_changed c)
    better_changed (in_for first t u c) = better_for t u first (better_changed c)
    better_changed (in_switch s c) = better_switch s (better_changed_sections c)
    better_changed (in_block c) = better_block (better_changed c)

    better_changed_sections : {c d : Sections} → ChangedSections R c d → BetterSections c d
    better_changed_sections (in_section cases default ends c r) = better_section cases default ends (better_changed r) (sections_better c)
    better_changed_sections (in_later cases default ends a r) = better_section cases default ends (better_refl a) (better_changed_sections r)
