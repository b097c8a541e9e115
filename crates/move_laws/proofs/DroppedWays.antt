-- The ways of the guards that stay are no worse without those that go.
use Rattle.std.proofs.Common.{ℕ, Bool, true, false, cond, eqb, List, [], ◌∷◌, ◌≡◌, refl, ap, sym, ◌∙◌, subst, eqb-true, true≢false}
use Rattle.c_tree.specs.Trees.{Tree, Forest, Nil, Then, Sections, NoSection, Section, If, While, Do, Switch, Leap, Land}
use Rattle.c_tree.specs.Changed.{one}
use Rattle.jump_meaning.specs.Tasks.{Loop, WhileLoop, DoLoop, ForLoop, Task, Runs, Loops, Arms, EndsSection, Out}
use Rattle.jump_meaning.specs.Search.{Goal, ToCase, ToDefault, is_section_goal}
use Rattle.jump_meaning.specs.Step.{switch_kind}
use Rattle.core_laws.specs.Ways.{only, peel, peel_selector, Way, Lands, Past, Lost, ◌▷◌, walks, walk, tail_way, section_way}
use Rattle.core_laws.specs.Better.{LeWay}
use Rattle.core_laws.proofs.TaskWays.{loop_way, task_way, exit_way, items_way, exit_items}
use Rattle.move_laws.proofs.Orders.{way_refl, way_past, way_then, way_peeled, way_end}
use Rattle.move_laws.proofs.Lists.{walks-join}
use Rattle.move_laws.proofs.BetterLists.{LeMaybe, maybe_here, maybe_first, way_selector}
use Rattle.move_laws.specs.Drops.{dropped, dropped_item, dropped_sections, Stays}
use Rattle.move_laws.proofs.DroppedTasks.{loop_drop, arms_drop, task_drop}

module _ (d : ℕ → Bool) (l : ℕ) (live : Stays d l) where
  -- a way through one item is one through the list of it
  one_way : (x y : Way) → LeWay x y → LeWay x (y ▷ Past)
  one_way x y h = subst (λ z. LeWay x z) (sym (way_past y)) h

  other : (m : ℕ) (y : Bool) → d m ≡ true → eqb l m ≡ y → y ≡ false
  other m true e q = absurd (true≢false (sym e ∙ ap d (sym (eqb-true l m q)) ∙ live))
  other m false e q = refl

  land_way : (m : ℕ) (b : Bool) → d m ≡ b → LeWay (cond (eqb l m) Lands Past) (walks l (cond b Nil (one (Land m))))
  land_way m true e = subst (λ y. LeWay (cond y Lands Past) Past) (sym (other m (eqb l m) e refl)) tt
  land_way m false e = one_way (cond (eqb l m) Lands Past) (cond (eqb l m) Lands Past) (way_refl (cond (eqb l m) Lands Past))

  mutual
    drop_ways : (a : Forest) → LeWay (walks l a) (walks l (dropped d a))
    drop_ways Nil = tt
    drop_ways (Then x a) = subst (λ z. LeWay (walk l x ▷ walks l a) z) (sym (walks-join l (dropped_item d x) (dropped d a)))
        (way_then _ _ _ _ (drop_way x) (drop_ways a))

    drop_way : (x : Tree) → LeWay (walk l x) (walks l (dropped_item d x))
    drop_way (If t a b) = one_way (walk l (If t a b)) (walk l (If t (dropped d a) (dropped d b)))
        (way_peeled (peel (only l) t) _ _ _ _ (drop_ways a) (drop_ways b))
    drop_way (While t a) = one_way (walk l (While t a)) (walk l (While t (dropped d a)))
        (way_peeled (peel (only l) t) _ _ _ _ (way_then _ _ Lost Lost (drop_ways a) tt) tt)
    drop_way (Do a t) = one_way (walk l (Do a t)) (walk l (Do (dropped d a) t))
        (way_then _ _ _ _ (drop_ways a) (way_peeled (peel (only l) t) _ _ _ _ (way_then _ _ Lost Lost (drop_ways a) tt) tt))
    drop_way (Switch s c) =
        one_way (walk l (Switch s c)) (walk l (Switch s (dropped_sections d c)))
        (way_selector (peel_selector (only l) s) _ _ (λ n. maybe_first _ _ _ _ (drop_section (ToCase (switch_kind s) n) c) (drop_section ToDefault c)))
    drop_way (Leap m) = one_way (walk l (Leap m)) (walk l (Leap m)) (way_refl (walk l (Leap m)))
    drop_way (Land m) = land_way m (d m) refl
    drop_way _ = tt

    drop_tail : (c : Sections) → LeWay (tail_way l c) (tail_way l (dropped_sections d c))
    drop_tail NoSection = tt
    drop_tail (Section cases default a ends c) = way_then _ _ _ _ (drop_ways a) (way_end ends _ _ (drop_tail c))

    drop_section : (goal : Goal) (c : Sections) → LeMaybe (section_way l goal c) (section_way l goal (dropped_sections d c))
    drop_section goal NoSection = tt
    drop_section goal (Section cases default a ends c) = maybe_here (is_section_goal goal cases default)
        _ _ _ _ (way_then _ _ _ _ (drop_ways a) (way_end ends _ _ (drop_tail c))) (drop_section goal c)

  drop_loop : (x : Loop) → LeWay (loop_way l x) (loop_way l (loop_drop d x))
  drop_loop (WhileLoop t a) = way_peeled (peel (only l) t) _ _ _ _ (way_then _ _ Lost Lost (drop_ways a) tt) tt
  drop_loop (DoLoop a t) = way_peeled (peel (only l) t) _ _ _ _ (way_then _ _ Lost Lost (drop_ways a) tt) tt
  drop_loop (ForLoop t u a) = tt

  past_arms : (b : Bool) (m : ℕ) (k : List Task) (y : Way) → LeWay y (exit_way k l) → LeWay y (exit_way (arms_drop b m ∷ k) l)
  past_arms true m k y h = h
  past_arms false m k y h = h

  mutual
    drop_tasks : (k : List Task) → LeWay (task_way k l) (task_way (task_drop d k) l)
    drop_tasks [] = tt
    drop_tasks (Runs x ∷ k) = subst (λ z. LeWay (walk l x ▷ task_way k l) z) (sym (items_way l (dropped_item d x) (task_drop d k)))
        (way_then _ _ _ _ (drop_way x) (drop_tasks k))
    drop_tasks (Loops x ∷ k) = way_then _ _ _ _ (drop_loop x) (drop_tasks k)
    drop_tasks (EndsSection ∷ k) = drop_past k
    drop_tasks (Out ∷ k) = drop_tasks k
    drop_tasks (_ ∷ k) = tt

    drop_past : (k : List Task) → LeWay (exit_way k l) (exit_way (task_drop d k) l)
    drop_past [] = tt
    drop_past (Runs x ∷ k) = subst (λ z. LeWay (exit_way k l) z) (sym (exit_items l (dropped_item d x) (task_drop d k))) (drop_past k)
    drop_past (Loops x ∷ k) = drop_tasks k
    drop_past (Out ∷ k) = drop_tasks k
    drop_past (Arms m ∷ k) = past_arms (d m) m (task_drop d k) (exit_way k l) (drop_past k)
    drop_past (_ ∷ k) = drop_past k

  lands_le : (y : Way) → LeWay Lands y → y ≡ Lands
  lands_le Lands h = refl
  lands_le _ h = absurd h

  -- a way that lands still lands
  pub drop_lands : (k : List Task) → task_way k l ≡ Lands → task_way (task_drop d k) l ≡ Lands
  drop_lands k e = lands_le (task_way (task_drop d k) l) (subst (λ y. LeWay y (task_way (task_drop d k) l)) e (drop_tasks k))
