-- Tasks, cuts and searches without the guards that go.
use mathlib.Core.Path.{ap₂}
use Rattle.std.proofs.Common.{ℕ, ℤ, Bool, true, false, cond, List, [], ◌∷◌, eqb, ◌≡◌, refl, ap, sym, ◌∙◌, Option, Some, None, option_map, eqb-true, true≢false}
use Rattle.c_types.specs.declared.kinds.IntKind.{IntKind}
use Rattle.c_tree.specs.ExpressionTrees.{ExpressionTree}
use Rattle.c_tree.specs.Trees.{Tree, Forest, Nil, Then, Sections, NoSection, Section, Evaluate, Return, If, While, Do, For, Switch, Block, Local, Break, Continue, Goto, Mark, Arm, Leap, Land, Arrival, Note}
use Rattle.c_tree.specs.Changed.{one}
use Rattle.jump_meaning.specs.Effects.{Op, Drops}
use Rattle.jump_meaning.specs.Tasks.{Loop, WhileLoop, DoLoop, ForLoop, Task, Runs, Works, Asks, Branches, Turns, Loops, Heads, Arms, AsksSelector, Enters, EndsSection, Out, items, works, end_of, tail_tasks, turn, cut, cut_to}
use Rattle.jump_meaning.specs.Search.{Goal, ToLabel, ToCase, ToDefault, is_goal, is_section_goal, enters_switches, or_else, seek, seek_in, seek_sections, first_of_three, find, entry}
use Rattle.jump_meaning.proofs.TaskFacts.{items_join, cut_items, cut_to_items}
use Rattle.core_laws.proofs.Lookup.{or_none, or_mapped, cond_mapped, first_mapped, seek_of, seek_join, no_goal, seek_of_inner}
use Rattle.move_laws.specs.Drops.{dropped, dropped_item, dropped_sections, Stays}

-- a loop without them
abbrev pub loop_drop : (ℕ → Bool) → Loop → Loop
loop_drop d (WhileLoop t a) = WhileLoop t (dropped d a)
loop_drop d (DoLoop a t) = DoLoop (dropped d a) t
loop_drop d (ForLoop t u a) = ForLoop t u (dropped d a)

-- what takes the value of the condition of an Arm drops it where the guard goes
abbrev pub arms_drop : Bool → ℕ → Task
arms_drop b l = cond b (Works Drops) (Arms l)

abbrev pub task_drop : (ℕ → Bool) → List Task → List Task
task_drop d [] = []
task_drop d (Runs x ∷ k) = items (dropped_item d x) (task_drop d k)
task_drop d (Works o ∷ k) = Works o ∷ task_drop d k
task_drop d (Asks t ∷ k) = Asks t ∷ task_drop d k
task_drop d (Branches a b ∷ k) = Branches (dropped d a) (dropped d b) ∷ task_drop d k
task_drop d (Turns x ∷ k) = Turns (loop_drop d x) ∷ task_drop d k
task_drop d (Loops x ∷ k) = Loops (loop_drop d x) ∷ task_drop d k
task_drop d (Heads t u a ∷ k) = Heads t u (dropped d a) ∷ task_drop d k
task_drop d (Arms l ∷ k) = arms_drop (d l) l ∷ task_drop d k
task_drop d (AsksSelector s ∷ k) = AsksSelector s ∷ task_drop d k
task_drop d (Enters kind c ∷ k) = Enters kind (dropped_sections d c) ∷ task_drop d k
task_drop d (EndsSection ∷ k) = EndsSection ∷ task_drop d k
task_drop d (Out ∷ k) = Out ∷ task_drop d k

module _ (d : ℕ → Bool) where
  pub drop_items : (a : Forest) (k : List Task) → task_drop d (items a k) ≡ items (dropped d a) (task_drop d k)
  drop_items Nil k = refl
  drop_items (Then x a) k = ap (items (dropped_item d x)) (drop_items a k) ∙ sym (items_join (dropped_item d x) (dropped d a) (task_drop d k))

  pub drop_works : (os : List Op) (k : List Task) → works os (task_drop d k) ≡ task_drop d (works os k)
  drop_works [] k = refl
  drop_works (o ∷ os) k = ap (λ r. Works o ∷ r) (drop_works os k)

  pub drop_cond : (b : Bool) (x y : List Task) → cond b (task_drop d x) (task_drop d y) ≡ task_drop d (cond b x y)
  drop_cond true x y = refl
  drop_cond false x y = refl

  drop_end : (ends : Bool) (k : List Task) → task_drop d (end_of ends k) ≡ end_of ends (task_drop d k)
  drop_end true k = refl
  drop_end false k = refl

  drop_section : (a : Forest) (ends : Bool) (c : Sections) (k : List Task) → task_drop d (tail_tasks c k) ≡ tail_tasks (dropped_sections d c) (task_drop d k)
      → task_drop d (items a (end_of ends (tail_tasks c k))) ≡ items (dropped d a) (end_of ends (tail_tasks (dropped_sections d c) (task_drop d k)))
  drop_section a ends c k h = drop_items a (end_of ends (tail_tasks c k)) ∙ ap (items (dropped d a)) (drop_end ends (tail_tasks c k) ∙ ap (end_of ends) h)

  drop_tail : (c : Sections) (k : List Task) → task_drop d (tail_tasks c k) ≡ tail_tasks (dropped_sections d c) (task_drop d k)
  drop_tail NoSection k = refl
  drop_tail (Section cases default a ends c) k = drop_section a ends c k (drop_tail c k)

  pub drop_turn : (x : Loop) (k : List Task) → task_drop d (turn x k) ≡ turn (loop_drop d x) (task_drop d k)
  drop_turn (WhileLoop t a) k = drop_items a (Loops (WhileLoop t a) ∷ k)
  drop_turn (DoLoop a t) k = refl
  drop_turn (ForLoop t u a) k = drop_items a (Loops (ForLoop t u a) ∷ k)

  cut_arms : (b : Bool) (l : ℕ) (k : List Task) → cut (arms_drop b l ∷ k) ≡ cut k
  cut_arms true l k = refl
  cut_arms false l k = refl

  pub drop_cut : (k : List Task) → cut (task_drop d k) ≡ task_drop d (cut k)
  drop_cut [] = refl
  drop_cut (Runs x ∷ k) = cut_items (dropped_item d x) (task_drop d k) ∙ drop_cut k
  drop_cut (Arms l ∷ k) = cut_arms (d l) l (task_drop d k) ∙ drop_cut k
  drop_cut (Loops x ∷ k) = refl
  drop_cut (Out ∷ k) = refl
  drop_cut (_ ∷ k) = drop_cut k

  cut_to_arms : (b : Bool) (l : ℕ) (k : List Task) → cut_to (arms_drop b l ∷ k) ≡ cut_to k
  cut_to_arms true l k = refl
  cut_to_arms false l k = refl

  pub drop_cut_to : (k : List Task) → cut_to (task_drop d k) ≡ task_drop d (cut_to k)
  drop_cut_to [] = refl
  drop_cut_to (Runs x ∷ k) = cut_to_items (dropped_item d x) (task_drop d k) ∙ drop_cut_to k
  drop_cut_to (Arms l ∷ k) = cut_to_arms (d l) l (task_drop d k) ∙ drop_cut_to k
  drop_cut_to (Loops x ∷ k) = refl
  drop_cut_to (_ ∷ k) = drop_cut_to k

  -- ---- searches

  abbrev Found : Type 0
  Found = Option (List Task)

  abbrev through : Found → Found
  through o = option_map (task_drop d) o

  -- a goal that stays
  abbrev pub IsLiveGoal : Goal → Type 0
  IsLiveGoal (ToLabel l) = Stays d l
  IsLiveGoal _ = Unit {0}

  inner_drop : (l : Goal) (x y : Tree) (k : List Task) → is_goal l x ≡ false → is_goal l y ≡ false →
      seek_in l y (task_drop d k) ≡ through (seek_in l x k) → seek l (one y) (task_drop d k) ≡ through (seek_of l x k)
  inner_drop l x y k e f h = or_none (seek_of l y (task_drop d k)) ∙ seek_of_inner l y (task_drop d k) f ∙ h ∙ ap through (sym (seek_of_inner l x k e))

  leaf_drop : (b : Bool) (x : Tree) (k : List Task) → task_drop d (Runs x ∷ k) ≡ Runs x ∷ task_drop d k →
      or_else (cond b (Some (Runs x ∷ task_drop d k)) None) None ≡ through (cond b (Some (Runs x ∷ k)) None)
  leaf_drop b x k e = or_none (cond b (Some (Runs x ∷ task_drop d k)) None) ∙
      cond_mapped (task_drop d) b (Some (Runs x ∷ k)) None (Some (Runs x ∷ task_drop d k)) None (ap Some (sym e)) refl

  nothing_there : (l : Goal) (x : Tree) (k : List Task) → is_goal l x ≡ false → None ≡ through (seek_in l x k) → None ≡ through (seek_of l x k)
  nothing_there l x k e h = h ∙ ap through (sym (seek_of_inner l x k e))

  arm_drop : (l : Goal) (m : ℕ) (b : Bool) (k : List Task) → seek l (cond b Nil (one (Arm m None))) (task_drop d k) ≡ through (seek_of l (Arm m None) k)
  arm_drop l m true k = nothing_there l (Arm m None) k (no_goal (Arm m None) (λ n. refl) (λ kind n. refl) refl l) refl
  arm_drop l m false k = inner_drop l (Arm m None) (Arm m None) k (no_goal (Arm m None) (λ n. refl) (λ kind n. refl) refl l)
      (no_goal (Arm m None) (λ n. refl) (λ kind n. refl) refl l) refl

  arm_if_drop : (l : Goal) (m : ℕ) (e : ExpressionTree) (b : Bool) (k : List Task) →
      seek l (cond b (one (Evaluate e)) (one (Arm m (Some e)))) (task_drop d k) ≡ through (seek_of l (Arm m (Some e)) k)
  arm_if_drop l m e true k = inner_drop l (Arm m (Some e)) (Evaluate e) k (no_goal (Arm m (Some e)) (λ n. refl) (λ kind n. refl) refl l)
      (no_goal (Evaluate e) (λ n. refl) (λ kind n. refl) refl l) refl
  arm_if_drop l m e false k = inner_drop l (Arm m (Some e)) (Arm m (Some e)) k (no_goal (Arm m (Some e)) (λ n. refl) (λ kind n. refl) refl l)
      (no_goal (Arm m (Some e)) (λ n. refl) (λ kind n. refl) refl l) refl

  not_sought : (l m : ℕ) (y : Bool) → d l ≡ false → d m ≡ true → eqb l m ≡ y → y ≡ false
  not_sought l m true e h q = absurd (true≢false (sym h ∙ ap d (sym (eqb-true l m q)) ∙ e))
  not_sought l m false e h q = refl

  other_land : (l : Goal) (m : ℕ) → IsLiveGoal l → d m ≡ true → is_goal l (Land m) ≡ false
  other_land (ToLabel l) m e h = not_sought l m (eqb l m) e h refl
  other_land _ m e h = refl

  land_drop : (l : Goal) (m : ℕ) (b : Bool) (k : List Task) → IsLiveGoal l → d m ≡ b →
      seek l (cond b Nil (one (Land m))) (task_drop d k) ≡ through (seek_of l (Land m) k)
  land_drop l m true k live e = nothing_there l (Land m) k (other_land l m live e) refl
  land_drop l m false k live e = leaf_drop (is_goal l (Land m)) (Land m) k (ap (λ b. items (cond b Nil (one (Land m))) (task_drop d k)) e)

  module _ (l : Goal) (live : IsLiveGoal l) where
    mutual
      pub drop_seek : (a : Forest) (k : List Task) → seek l (dropped d a) (task_drop d k) ≡ through (seek l a k)
      drop_seek Nil k = refl
      drop_seek (Then x a) k =
          seek_join l (dropped_item d x) (dropped d a) (task_drop d k)
          ∙ ap (λ r. or_else (seek l (dropped_item d x) r) (seek l (dropped d a) (task_drop d k))) (sym (drop_items a k))
          ∙ or_mapped (task_drop d) (seek_of l x (items a k)) (seek l a k) (seek l (dropped_item d x) (task_drop d (items a k)))
          (seek l (dropped d a) (task_drop d k)) (drop_seek_of x (items a k)) (drop_seek a k)

      drop_seek_of : (x : Tree) (k : List Task) → seek l (dropped_item d x) (task_drop d k) ≡ through (seek_of l x k)
      drop_seek_of (If t a b) k =
          inner_drop l (If t a b) (If t (dropped d a) (dropped d b)) k (no_goal (If t a b) (λ n. refl) (λ kind n. refl) refl l)
          (no_goal (If t (dropped d a) (dropped d b)) (λ n. refl) (λ kind n. refl) refl l)
          (or_mapped (task_drop d) (seek l a k) (seek l b k) (seek l (dropped d a) (task_drop d k)) (seek l (dropped d b) (task_drop d k))
          (drop_seek a k) (drop_seek b k))
      drop_seek_of (While t a) k = inner_drop l (While t a) (While t (dropped d a)) k (no_goal (While t a) (λ n. refl) (λ kind n. refl) refl l)
          (no_goal (While t (dropped d a)) (λ n. refl) (λ kind n. refl) refl l) (drop_seek a (Loops (WhileLoop t a) ∷ k))
      drop_seek_of (Do a t) k = inner_drop l (Do a t) (Do (dropped d a) t) k (no_goal (Do a t) (λ n. refl) (λ kind n. refl) refl l)
          (no_goal (Do (dropped d a) t) (λ n. refl) (λ kind n. refl) refl l) (drop_seek a (Loops (DoLoop a t) ∷ k))
      drop_seek_of (For i t u a) k =
          inner_drop l (For i t u a) (For (dropped d i) t u (dropped d a)) k (no_goal (For i t u a) (λ n. refl) (λ kind n. refl) refl l)
          (no_goal (For (dropped d i) t u (dropped d a)) (λ n. refl) (λ kind n. refl) refl l) (drop_seek a (Loops (ForLoop t u a) ∷ k))
      drop_seek_of (Switch s c) k =
          inner_drop l (Switch s c) (Switch s (dropped_sections d c)) k (no_goal (Switch s c) (λ n. refl) (λ kind n. refl) refl l)
          (no_goal (Switch s (dropped_sections d c)) (λ n. refl) (λ kind n. refl) refl l)
          (cond_mapped (task_drop d) (enters_switches l) (seek_sections l c k) None (seek_sections l (dropped_sections d c) (task_drop d k)) None
          (drop_seek_sections c k) refl)
      drop_seek_of (Block a) k = inner_drop l (Block a) (Block (dropped d a)) k (no_goal (Block a) (λ n. refl) (λ kind n. refl) refl l)
          (no_goal (Block (dropped d a)) (λ n. refl) (λ kind n. refl) refl l) (drop_seek a k)
      drop_seek_of (Arm m None) k = arm_drop l m (d m) k
      drop_seek_of (Arm m (Some e)) k = arm_if_drop l m e (d m) k
      drop_seek_of (Land m) k = land_drop l m (d m) k live refl
      drop_seek_of (Evaluate e) k = leaf_drop (is_goal l (Evaluate e)) (Evaluate e) k refl
      drop_seek_of (Return e) k = leaf_drop (is_goal l (Return e)) (Return e) k refl
      drop_seek_of (Local x es) k = leaf_drop (is_goal l (Local x es)) (Local x es) k refl
      drop_seek_of Break k = leaf_drop (is_goal l Break) Break k refl
      drop_seek_of Continue k = leaf_drop (is_goal l Continue) Continue k refl
      drop_seek_of (Goto m) k = leaf_drop (is_goal l (Goto m)) (Goto m) k refl
      drop_seek_of (Mark m) k = leaf_drop (is_goal l (Mark m)) (Mark m) k refl
      drop_seek_of (Leap m) k = leaf_drop (is_goal l (Leap m)) (Leap m) k refl
      drop_seek_of (Arrival e) k = leaf_drop (is_goal l (Arrival e)) (Arrival e) k refl
      drop_seek_of (Note bs) k = leaf_drop (is_goal l (Note bs)) (Note bs) k refl

      drop_seek_sections : (c : Sections) (k : List Task) → seek_sections l (dropped_sections d c) (task_drop d k) ≡ through (seek_sections l c k)
      drop_seek_sections NoSection k = refl
      drop_seek_sections (Section cases default a ends c) k =
          let behind = end_of ends (tail_tasks c k) in
          let behind' = end_of ends (tail_tasks (dropped_sections d c) (task_drop d k)) in
          let e : behind' ≡ task_drop d behind = ap (end_of ends) (sym (drop_tail c k)) ∙ sym (drop_end ends (tail_tasks c k)) in
          or_mapped (task_drop d) (cond (is_section_goal l cases default) (Some (items a behind)) (seek l a behind)) (seek_sections l c k)
          (cond (is_section_goal l cases default) (Some (items (dropped d a) behind')) (seek l (dropped d a) behind'))
          (seek_sections l (dropped_sections d c) (task_drop d k))
          (cond_mapped (task_drop d) (is_section_goal l cases default) (Some (items a behind)) (seek l a behind) (Some (items (dropped d a) behind'))
          (seek l (dropped d a) behind')
          (ap Some (sym (drop_section a ends c k (drop_tail c k))))
          (ap (seek l (dropped d a)) e ∙ drop_seek a behind))
          (drop_seek_sections c k)

  pub drop_find : (l : ℕ) → Stays d l → (a : Forest) → find l (dropped d a) ≡ task_drop d (find l a)
  drop_find l e a = ap (λ o. first_of_three o None []) (drop_seek (ToLabel l) e a []) ∙ first_mapped (task_drop d) (seek (ToLabel l) a []) None []

  pub drop_entry : (kind : IntKind) (n : ℤ) (c : Sections) (k : List Task) →
      entry kind n (dropped_sections d c) (task_drop d k) ≡ task_drop d (entry kind n c k)
  drop_entry kind n c k =
      ap₂ (λ o p. first_of_three o p (task_drop d k)) (drop_seek_sections (ToCase kind n) tt c k) (drop_seek_sections ToDefault tt c k)
      ∙ first_mapped (task_drop d) (seek_sections (ToCase kind n) c k) (seek_sections ToDefault c k) k
