-- Programs that differ by Arms alone, of which the second may have gotos, run alike as long as no Arm is met.
use Rattle.std.proofs.Common.{ℕ, ℤ, pos, Bool, true, false, cond, List, [], ◌∷◌, ◌≡◌, refl, sym, subst, Option, Some, None}
use Rattle.c_types.specs.declared.kinds.IntKind.{IntKind}
use Rattle.c_types.specs.declared.trap.Trap.{Trap}
use Rattle.c_tree.specs.ExpressionTrees.{ExpressionTree}
use Rattle.c_tree.specs.TestTrees.{TestTree, Source, On, Off, AndOff, OrOn, SelectorTree, Selects, Pick}
use Rattle.c_tree.specs.Trees.{Tree, Forest, Sections, Evaluate, Return, If, While, Do, For, Switch, Block, Local, Break, Continue, Goto, Mark, Arm, Leap, Land}
use Rattle.jump_meaning.specs.Values.{Value, Event, integer}
use Rattle.jump_meaning.specs.World.{World, Outcome, Gives, Traps, Exits}
use Rattle.jump_meaning.specs.Operations.{holds}
use Rattle.jump_meaning.specs.Effects.{Op, Drops, Begins}
use Rattle.jump_meaning.specs.Tasks.{Loop, WhileLoop, DoLoop, ForLoop, Task, Runs, Works, Asks, Branches, Turns, Loops, Heads, Arms, AsksSelector, Enters, EndsSection, Out, items, works, end_of, tail_tasks, turn, cut, cut_to}
use Rattle.jump_meaning.specs.Search.{Goal, ToLabel, ToCase, ToDefault, is_goal, is_section_goal, enters_switches, or_else, seek, seek_in, seek_sections, first_of_three, find, entry}
use Rattle.jump_meaning.specs.Step.{Guards, switch_kind, Frame, Waits, State, At, HasEnded, HasTrapped, View, Finishes, Goes, Guarding, Yields, Takes, Arming, Acts, dropped, view, is_dropped, settle}
use Rattle.core_laws.specs.Better.{IsLeaf, LeTree, le_leaf, le_arm, le_if, le_while, le_do, le_for, le_switch, le_block, LeAll, le_nil, le_then, LeSections, le_no_section, le_section}
use Rattle.core_laws.proofs.Lookup.{no_goal, seek_of, seek_of_inner}
use Rattle.core_laws.proofs.Match.{IsNoArm}

-- ---- tasks and states that differ so

pub data LeLoop : Loop → Loop → Type 0 where
  le_while_loop : (t : TestTree) {a a' : Forest} → LeAll a a' → LeLoop (WhileLoop t a) (WhileLoop t a')
  le_do_loop : (t : TestTree) {a a' : Forest} → LeAll a a' → LeLoop (DoLoop a t) (DoLoop a' t)
  le_for_loop : (t u : Option ExpressionTree) {a a' : Forest} → LeAll a a' → LeLoop (ForLoop t u a) (ForLoop t u a')

pub data LeTask : Task → Task → Type 0 where
  le_runs : {x x' : Tree} → LeTree x x' → LeTask (Runs x) (Runs x')
  le_works : (o : Op) → LeTask (Works o) (Works o)
  le_asks : (t : TestTree) → LeTask (Asks t) (Asks t)
  le_branches : {a a' b b' : Forest} → LeAll a a' → LeAll b b' → LeTask (Branches a b) (Branches a' b')
  le_turns : {x x' : Loop} → LeLoop x x' → LeTask (Turns x) (Turns x')
  le_loops : {x x' : Loop} → LeLoop x x' → LeTask (Loops x) (Loops x')
  le_heads : (t u : Option ExpressionTree) {a a' : Forest} → LeAll a a' → LeTask (Heads t u a) (Heads t u a')
  le_arms : (l : ℕ) → LeTask (Arms l) (Arms l)
  le_selector : (s : SelectorTree) → LeTask (AsksSelector s) (AsksSelector s)
  le_enters : (kind : IntKind) {c c' : Sections} → LeSections c c' → LeTask (Enters kind c) (Enters kind c')
  le_end : LeTask EndsSection EndsSection
  le_out : LeTask Out Out

pub data LeTasks : List Task → List Task → Type 0 where
  le_no_task : LeTasks [] []
  le_task : {t t' : Task} {k k' : List Task} → LeTask t t' → LeTasks k k' → LeTasks (t ∷ k) (t' ∷ k')

pub data LeFrames : List Frame → List Frame → Type 0 where
  le_no_frame : LeFrames [] []
  le_frame : (f : List ℕ) (g : Guards) (v : List Value) {k k' : List Task} {cs cs' : List Frame} → LeTasks k k' → LeFrames cs cs' →
      LeFrames (Waits f g k v ∷ cs) (Waits f g k' v ∷ cs')

pub data LeState : State → State → Type 0 where
  le_at : (f : List ℕ) (g : Guards) (v : List Value) (w : World) {k k' : List Task} {cs cs' : List Frame} → LeTasks k k' → LeFrames cs cs' →
      LeState (At f g k v cs w) (At f g k' v cs' w)
  le_ended : (n : ℤ) (es : List Event) → LeState (HasEnded n es) (HasEnded n es)
  le_trapped : (t : Trap) (es : List Event) → LeState (HasTrapped t es) (HasTrapped t es)

pub items_le : {a a' : Forest} {k k' : List Task} → LeAll a a' → LeTasks k k' → LeTasks (items a k) (items a' k')
items_le le_nil h = h
items_le (le_then x a) h = le_task (le_runs x) (items_le a h)

pub works_le : (os : List Op) {k k' : List Task} → LeTasks k k' → LeTasks (works os k) (works os k')
works_le [] h = h
works_le (o ∷ os) h = le_task (le_works o) (works_le os h)

cond_le : (b : Bool) {k k' j j' : List Task} → LeTasks k k' → LeTasks j j' → LeTasks (cond b k j) (cond b k' j')
cond_le true p q = p
cond_le false p q = q

end_le : (ends : Bool) {k k' : List Task} → LeTasks k k' → LeTasks (end_of ends k) (end_of ends k')
end_le true h = le_task le_end h
end_le false h = h

tail_le : {c c' : Sections} → LeSections c c' → {k k' : List Task} → LeTasks k k' → LeTasks (tail_tasks c k) (tail_tasks c' k')
tail_le le_no_section h = le_task le_out h
tail_le (le_section cases default ends a c) h = items_le a (end_le ends (tail_le c h))

turn_le : {x x' : Loop} → LeLoop x x' → {k k' : List Task} → LeTasks k k' → LeTasks (turn x k) (turn x' k')
turn_le (le_while_loop t a) h = items_le a (le_task (le_loops (le_while_loop t a)) h)
turn_le (le_do_loop t a) h = le_task (le_runs (le_do t a)) h
turn_le (le_for_loop t u a) h = items_le a (le_task (le_loops (le_for_loop t u a)) h)

dropped_le : (u : Option ExpressionTree) {k k' : List Task} → LeTasks k k' → LeTasks (dropped u k) (dropped u k')
dropped_le None h = h
dropped_le (Some e) h = le_task (le_works _) (le_task (le_works _) h)

cut_le : {k k' : List Task} → LeTasks k k' → LeTasks (cut k) (cut k')
cut_le le_no_task = le_no_task
cut_le (le_task (le_runs x) h) = cut_le h
cut_le (le_task (le_works o) h) = cut_le h
cut_le (le_task (le_asks t) h) = cut_le h
cut_le (le_task (le_branches a b) h) = cut_le h
cut_le (le_task (le_turns x) h) = cut_le h
cut_le (le_task (le_loops x) h) = h
cut_le (le_task (le_heads t u a) h) = cut_le h
cut_le (le_task (le_arms l) h) = cut_le h
cut_le (le_task (le_selector s) h) = cut_le h
cut_le (le_task (le_enters kind c) h) = cut_le h
cut_le (le_task le_end h) = cut_le h
cut_le (le_task le_out h) = h

cut_to_le : {k k' : List Task} → LeTasks k k' → LeTasks (cut_to k) (cut_to k')
cut_to_le le_no_task = le_no_task
cut_to_le (le_task (le_runs x) h) = cut_to_le h
cut_to_le (le_task (le_works o) h) = cut_to_le h
cut_to_le (le_task (le_asks t) h) = cut_to_le h
cut_to_le (le_task (le_branches a b) h) = cut_to_le h
cut_to_le (le_task (le_turns x) h) = cut_to_le h
cut_to_le (le_task (le_loops x) h) = le_task (le_loops x) h
cut_to_le (le_task (le_heads t u a) h) = cut_to_le h
cut_to_le (le_task (le_arms l) h) = cut_to_le h
cut_to_le (le_task (le_selector s) h) = cut_to_le h
cut_to_le (le_task (le_enters kind c) h) = cut_to_le h
cut_to_le (le_task le_end h) = cut_to_le h
cut_to_le (le_task le_out h) = cut_to_le h

-- ---- searches

data LeFound : Option (List Task) → Option (List Task) → Type 0 where
  le_none : LeFound None None
  le_some : {k k' : List Task} → LeTasks k k' → LeFound (Some k) (Some k')

or_le : {a a' b b' : Option (List Task)} → LeFound a a' → LeFound b b' → LeFound (or_else a b) (or_else a' b')
or_le le_none q = q
or_le (le_some h) q = le_some h

cond_found : (c : Bool) {a a' b b' : Option (List Task)} → LeFound a a' → LeFound b b' → LeFound (cond c a b) (cond c a' b')
cond_found true p q = p
cond_found false p q = q

first_le : {a a' b b' : Option (List Task)} {k k' : List Task} → LeFound a a' → LeFound b b' → LeTasks k k' →
    LeTasks (first_of_three a b k) (first_of_three a' b' k')
first_le (le_some h) q i = h
first_le le_none (le_some h) i = h
first_le le_none le_none i = i

-- an item that is no label, and holds others
inner_le : (l : Goal) (x x' : Tree) (k k' : List Task) → is_goal l x ≡ false → is_goal l x' ≡ false → LeFound (seek_in l x k) (seek_in l x' k') →
    LeFound (seek_of l x k) (seek_of l x' k')
inner_le l x x' k k' e f h = subst (λ z. LeFound z (seek_of l x' k')) (sym (seek_of_inner l x k e))
    (subst (λ z. LeFound (seek_in l x k) z) (sym (seek_of_inner l x' k' f)) h)

leaf_in : (l : Goal) (x : Tree) → IsLeaf x → (k k' : List Task) → LeFound (seek_in l x k) (seek_in l x k')
leaf_in l (Evaluate e) h k k' = le_none
leaf_in l (Return e) h k k' = le_none
leaf_in l (If t a b) h k k' = absurd h
leaf_in l (While t a) h k k' = absurd h
leaf_in l (Do a t) h k k' = absurd h
leaf_in l (For first t u a) h k k' = absurd h
leaf_in l (Switch s c) h k k' = absurd h
leaf_in l (Block a) h k k' = absurd h
leaf_in l _ h k k' = le_none

mutual
  seek_le : (l : Goal) {a a' : Forest} → LeAll a a' → {k k' : List Task} → LeTasks k k' → LeFound (seek l a k) (seek l a' k')
  seek_le l le_nil q = le_none
  seek_le l (le_then x a) q = or_le (seek_of_le l x (items_le a q)) (seek_le l a q)

  seek_of_le : (l : Goal) {x x' : Tree} → LeTree x x' → {k k' : List Task} → LeTasks k k' → LeFound (seek_of l x k) (seek_of l x' k')
  seek_of_le l (le_leaf x h) q = cond_found (is_goal l x) (le_some (le_task (le_runs (le_leaf x h)) q)) (leaf_in l x h _ _)
  seek_of_le l (le_arm m) q = inner_le l (Arm m None) (Goto m) _ _ (no_goal (Arm m None) (λ n. refl) (λ kind n. refl) refl l)
      (no_goal (Goto m) (λ n. refl) (λ kind n. refl) refl l) le_none
  seek_of_le l (le_if t {a = a} {a' = a'} {b = b} {b' = b'} p r) q =
      inner_le l (If t a b) (If t a' b') _ _ (no_goal (If t a b) (λ n. refl) (λ kind n. refl) refl l)
      (no_goal (If t a' b') (λ n. refl) (λ kind n. refl) refl l) (or_le (seek_le l p q) (seek_le l r q))
  seek_of_le l (le_while t {a = a} {a' = a'} p) q =
      inner_le l (While t a) (While t a') _ _ (no_goal (While t a) (λ n. refl) (λ kind n. refl) refl l)
      (no_goal (While t a') (λ n. refl) (λ kind n. refl) refl l) (seek_le l p (le_task (le_loops (le_while_loop t p)) q))
  seek_of_le l (le_do t {a = a} {a' = a'} p) q =
      inner_le l (Do a t) (Do a' t) _ _ (no_goal (Do a t) (λ n. refl) (λ kind n. refl) refl l) (no_goal (Do a' t) (λ n. refl) (λ kind n. refl) refl l)
      (seek_le l p (le_task (le_loops (le_do_loop t p)) q))
  seek_of_le l (le_for t u {first = i} {first' = i'} {a = a} {a' = a'} r p) q =
      inner_le l (For i t u a) (For i' t u a') _ _ (no_goal (For i t u a) (λ n. refl) (λ kind n. refl) refl l)
      (no_goal (For i' t u a') (λ n. refl) (λ kind n. refl) refl l) (seek_le l p (le_task (le_loops (le_for_loop t u p)) q))
  seek_of_le l (le_switch s {c = c} {c' = c'} p) q =
      inner_le l (Switch s c) (Switch s c') _ _ (no_goal (Switch s c) (λ n. refl) (λ kind n. refl) refl l)
      (no_goal (Switch s c') (λ n. refl) (λ kind n. refl) refl l) (cond_found (enters_switches l) (seek_sections_le l p q) le_none)
  seek_of_le l (le_block {a = a} {a' = a'} p) q =
      inner_le l (Block a) (Block a') _ _ (no_goal (Block a) (λ n. refl) (λ kind n. refl) refl l)
      (no_goal (Block a') (λ n. refl) (λ kind n. refl) refl l) (seek_le l p q)

  seek_sections_le : (l : Goal) {c c' : Sections} → LeSections c c' → {k k' : List Task} → LeTasks k k' → LeFound (seek_sections l c k) (seek_sections l c' k')
  seek_sections_le l le_no_section q = le_none
  seek_sections_le l (le_section cases default ends a c) q =
      let h = end_le ends (tail_le c q) in
      or_le (cond_found (is_section_goal l cases default) (le_some (items_le a h)) (seek_le l a h)) (seek_sections_le l c q)

find_le : (l : ℕ) {a a' : Forest} → LeAll a a' → LeTasks (find l a) (find l a')
find_le l p = first_le (seek_le (ToLabel l) p le_no_task) le_none le_no_task

entry_le : (kind : IntKind) (n : ℤ) {c c' : Sections} → LeSections c c' → {k k' : List Task} → LeTasks k k' → LeTasks (entry kind n c k) (entry kind n c' k')
entry_le kind n p q = first_le (seek_sections_le (ToCase kind n) p q) (seek_sections_le ToDefault p q) q

-- ---- views

pub data LeView : View → View → Type 0 where
  le_finishes : LeView Finishes Finishes
  le_goes : {k k' : List Task} → LeTasks k k' → LeView (Goes k) (Goes k')
  le_guarding : (l : ℕ) (b : Bool) {k k' : List Task} → LeTasks k k' → LeView (Guarding l b k) (Guarding l b k')
  le_yields : (n : ℤ) {k k' : List Task} → LeTasks k k' → LeView (Yields n k) (Yields n k')
  le_takes : {h h' : Value → List Task} → ((v : Value) → LeTasks (h v) (h' v)) → LeView (Takes h) (Takes h')
  le_arming : (l : ℕ) {k k' : List Task} → LeTasks k k' → LeView (Arming l k) (Arming l k')
  le_acts : (o : Op) {k k' : List Task} → LeTasks k k' → LeView (Acts o k) (Acts o k')

cond_view : (c : Bool) {x x' y y' : View} → LeView x x' → LeView y y' → LeView (cond c x y) (cond c x' y')
cond_view true p q = p
cond_view false p q = q

module _ {b b' : Forest} (le : LeAll b b') (g : Guards) where
  leaf_view : (x : Tree) → IsLeaf x → {k k' : List Task} → LeTasks k k' → LeView (view b g (Runs x ∷ k)) (view b' g (Runs x ∷ k'))
  leaf_view (Evaluate e) h q = le_goes (le_task (le_works _) (le_task (le_works _) q))
  leaf_view (Return None) h q = le_goes (le_task (le_works _) q)
  leaf_view (Return (Some e)) h q = le_goes (le_task (le_works _) (le_task (le_works _) q))
  leaf_view (If t a c) h q = absurd h
  leaf_view (While t a) h q = absurd h
  leaf_view (Do a t) h q = absurd h
  leaf_view (For first t u a) h q = absurd h
  leaf_view (Switch s c) h q = absurd h
  leaf_view (Block a) h q = absurd h
  leaf_view (Local x None) h q = le_goes q
  leaf_view (Local x (Some es)) h q = le_acts (Begins x es) q
  leaf_view Break h q = le_goes (cut_le q)
  leaf_view Continue h q = le_goes (cut_to_le q)
  leaf_view (Goto l) h q = le_goes (find_le l le)
  leaf_view (Mark l) h q = le_goes q
  leaf_view (Arm l None) h q = le_guarding l true q
  leaf_view (Arm l (Some e)) h q = le_goes (le_task (le_works _) (le_task (le_arms l) q))
  leaf_view (Leap l) h q = cond_view (g l) (le_goes (find_le l le)) (le_goes q)
  leaf_view (Land l) h q = le_guarding l false q
  leaf_view _ h q = le_goes q

  asks_view : (t : TestTree) {k k' : List Task} → LeTasks k k' → LeView (view b g (Asks t ∷ k)) (view b' g (Asks t ∷ k'))
  asks_view (Source e) q = le_goes (le_task (le_works _) q)
  asks_view (On l) q = le_yields _ q
  asks_view (Off l) q = le_yields _ q
  asks_view (AndOff l t) q = cond_view (g l) (le_yields (pos 0) q) (le_goes (le_task (le_asks t) q))
  asks_view (OrOn l t) q = cond_view (g l) (le_yields (pos 1) q) (le_goes (le_task (le_asks t) q))

  selector_view : (s : SelectorTree) {k k' : List Task} → LeTasks k k' → LeView (view b g (AsksSelector s ∷ k)) (view b' g (AsksSelector s ∷ k'))
  selector_view (Selects e) q = le_goes (le_task (le_works _) (le_task (le_works _) q))
  selector_view (Pick l n s) q = cond_view (g l) (le_yields n q) (le_goes (le_task (le_selector s) q))

  pub view_le : {k k' : List Task} → LeTasks k k' → IsNoArm k → LeView (view b g k) (view b' g k')
  view_le le_no_task z = le_finishes
  view_le (le_task (le_runs (le_leaf x h)) q) z = leaf_view x h q
  view_le (le_task (le_runs (le_arm l)) q) z = absurd z
  view_le (le_task (le_runs (le_if t a c)) q) z = le_goes (le_task (le_asks t) (le_task (le_branches a c) q))
  view_le (le_task (le_runs (le_while t a)) q) z = le_goes (le_task (le_asks t) (le_task (le_turns (le_while_loop t a)) q))
  view_le (le_task (le_runs (le_do t a)) q) z = le_goes (items_le a (le_task (le_loops (le_do_loop t a)) q))
  view_le (le_task (le_runs (le_for t u i a)) q) z = le_goes (items_le i (le_task (le_heads t u a) q))
  view_le (le_task (le_runs (le_switch s c)) q) z = le_goes (le_task (le_selector s) (le_task (le_enters (switch_kind s) c) q))
  view_le (le_task (le_runs (le_block a)) q) z = le_goes (items_le a q)
  view_le (le_task (le_works o) q) z = le_acts o q
  view_le (le_task (le_asks t) q) z = asks_view t q
  view_le (le_task (le_branches a c) q) z = le_takes (λ v. cond_le (holds v) (items_le a q) (items_le c q))
  view_le (le_task (le_turns x) q) z = le_takes (λ v. cond_le (holds v) (turn_le x q) q)
  view_le (le_task (le_loops (le_while_loop t a)) q) z = le_goes (le_task (le_runs (le_while t a)) q)
  view_le (le_task (le_loops (le_do_loop t a)) q) z = le_goes (le_task (le_asks t) (le_task (le_turns (le_do_loop t a)) q))
  view_le (le_task (le_loops (le_for_loop t u a)) q) z = le_goes (dropped_le u (le_task (le_heads t u a) q))
  view_le (le_task (le_heads None u a) q) z = le_goes (items_le a (le_task (le_loops (le_for_loop None u a)) q))
  view_le (le_task (le_heads (Some e) u a) q) z = le_goes (le_task (le_works _) (le_task (le_turns (le_for_loop (Some e) u a)) q))
  view_le (le_task (le_arms l) q) z = le_arming l q
  view_le (le_task (le_selector s) q) z = selector_view s q
  view_le (le_task (le_enters kind c) q) z = le_takes (λ v. entry_le kind (integer v) c q)
  view_le (le_task le_end q) z = le_goes (cut_le q)
  view_le (le_task le_out q) z = le_goes q

-- ---- steps

pub settle_le : (o : Outcome) (f : List ℕ) (g : Guards) (v : List Value) {k k' : List Task} {cs cs' : List Frame} → LeTasks k k' → LeFrames cs cs' →
    LeState (settle o f g k v cs) (settle o f g k' v cs')
settle_le (Gives x w) f g v q r = le_at f g (x ∷ v) w q r
settle_le (Traps t w) f g v q r = le_trapped t w.events
settle_le (Exits n w) f g v q r = le_ended n w.events

pub dropped_alike : {k k' : List Task} → LeTasks k k' → is_dropped k ≡ is_dropped k'
dropped_alike le_no_task = refl
dropped_alike (le_task (le_runs x) q) = refl
dropped_alike (le_task (le_works Drops) q) = refl
dropped_alike (le_task (le_works o) q) = refl
dropped_alike (le_task (le_asks t) q) = refl
dropped_alike (le_task (le_branches a b) q) = refl
dropped_alike (le_task (le_turns x) q) = refl
dropped_alike (le_task (le_loops x) q) = refl
dropped_alike (le_task (le_heads t u a) q) = refl
dropped_alike (le_task (le_arms l) q) = refl
dropped_alike (le_task (le_selector s) q) = refl
dropped_alike (le_task (le_enters kind c) q) = refl
dropped_alike (le_task le_end q) = refl
dropped_alike (le_task le_out q) = refl
