-- A program without guards has no guard set in any state, so it is steady.
use Rattle.std.proofs.Common.{ℕ, zero, suc, ℤ, Bool, true, false, cond, List, [], ◌∷◌, map, Option, Some, None, Result, Ok, Err, ◌≡◌, refl, sym, ◌∙◌, true≢false}
use Rattle.std.specs.Option.{option_map_or}
use Rattle.c_types.specs.declared.kinds.IntKind.{IntKind}
use Rattle.c_types.specs.declared.trap.Trap.{Trap}
use Rattle.c_tree.specs.ExpressionTrees.{ExpressionTree}
use Rattle.c_tree.specs.TestTrees.{Source, On, Off, AndOff, OrOn, Selects, Pick}
use Rattle.c_tree.specs.Trees.{Tree, Forest, Nil, Then, Sections, NoSection, Section, Evaluate, Return, If, While, Do, For, Switch, Block, Local, Break, Continue, Goto, Mark, Arm, Leap, Land, Arrival, Note}
use Rattle.c_tree.specs.Everywhere.{Everywhere, EverywhereOf, EverywhereIn}
use Rattle.c_tree.specs.InRange.{IsUnguarded, IsSourceTest, IsSourceSelector}
use Rattle.jump_meaning.specs.Values.{Value, Integer, integer}
use Rattle.jump_meaning.specs.Code.{FunctionTree, Code, items_of}
use Rattle.jump_meaning.specs.World.{World, Outcome, Gives, push, world_at_start}
use Rattle.jump_meaning.specs.Operations.{holds}
use Rattle.jump_meaning.specs.Known.{call_without_body}
use Rattle.jump_meaning.specs.Calls.{returned, fallen, leave_call, leave_entry}
use Rattle.jump_meaning.specs.Effects.{Op, Effect, Does, Fails, Stops, Invokes, Leaves, effect}
use Rattle.jump_meaning.specs.Tasks.{Loop, WhileLoop, DoLoop, ForLoop, Task, Runs, Works, Asks, Branches, Turns, Loops, Heads, Arms, AsksSelector, Enters, EndsSection, Out, items, works, end_of, tail_tasks, turn, cut, cut_to}
use Rattle.jump_meaning.specs.Search.{Goal, ToLabel, ToCase, ToDefault, is_goal, is_section_goal, enters_switches, or_else, seek, seek_in, seek_sections, first_of_three, find, entry}
use Rattle.jump_meaning.specs.Step.{Guards, no_guards, Frame, Waits, State, At, View, Finishes, Goes, Guarding, Yields, Takes, Arming, Acts, dropped, view, is_dropped, settle, leave, begin_call, invoke, perform, move, step}
use Rattle.jump_meaning.specs.Runs.{run, start}
use Rattle.jump_meaning.specs.Steady.{AllReset, IsSteadyCall, AreSteadyFrames, IsSteadyState, IsSteadyCode}
use Rattle.jump_meaning.proofs.Growth.{either}

-- ---- tasks that have no guard to do with

abbrev pub IsUnguardedList : Forest → Type 0
IsUnguardedList a = Everywhere IsUnguarded a

abbrev pub IsUnguardedLoop : Loop → Type 0
IsUnguardedLoop (WhileLoop t a) = IsSourceTest t × IsUnguardedList a
IsUnguardedLoop (DoLoop a t) = IsSourceTest t × IsUnguardedList a
IsUnguardedLoop (ForLoop t u a) = IsUnguardedList a

abbrev pub IsUnguardedTask : Task → Type 0
IsUnguardedTask (Runs x) = EverywhereOf IsUnguarded x
IsUnguardedTask (Works o) = Unit {0}
IsUnguardedTask (Asks t) = IsSourceTest t
IsUnguardedTask (Branches a b) = IsUnguardedList a × IsUnguardedList b
IsUnguardedTask (Turns x) = IsUnguardedLoop x
IsUnguardedTask (Loops x) = IsUnguardedLoop x
IsUnguardedTask (Heads t u a) = IsUnguardedList a
IsUnguardedTask (Arms l) = ⊥
IsUnguardedTask (AsksSelector s) = IsSourceSelector s
IsUnguardedTask (Enters k c) = EverywhereIn IsUnguarded c
IsUnguardedTask _ = Unit {0}

abbrev pub AreUnguarded : List Task → Type 0
AreUnguarded [] = Unit {0}
AreUnguarded (t ∷ k) = IsUnguardedTask t × AreUnguarded k

abbrev AreFound : Option (List Task) → Type 0
AreFound None = Unit {0}
AreFound (Some k) = AreUnguarded k

unguarded_items : (a : Forest) (k : List Task) → IsUnguardedList a → AreUnguarded k → AreUnguarded (items a k)
unguarded_items Nil k h i = i
unguarded_items (Then x xs) k h i = (h.0, unguarded_items xs k h.1 i)

unguarded_works : (os : List Op) (k : List Task) → AreUnguarded k → AreUnguarded (works os k)
unguarded_works [] k i = i
unguarded_works (o ∷ os) k i = (tt, unguarded_works os k i)

unguarded_end : (e : Bool) (k : List Task) → AreUnguarded k → AreUnguarded (end_of e k)
unguarded_end true k i = (tt, i)
unguarded_end false k i = i

unguarded_tail : (c : Sections) (k : List Task) → EverywhereIn IsUnguarded c → AreUnguarded k → AreUnguarded (tail_tasks c k)
unguarded_tail NoSection k h i = (tt, i)
unguarded_tail (Section cases default a ends c) k h i = unguarded_items a (end_of ends (tail_tasks c k)) h.0
    (unguarded_end ends (tail_tasks c k) (unguarded_tail c k h.1 i))

unguarded_turn : (x : Loop) (k : List Task) → IsUnguardedLoop x → AreUnguarded k → AreUnguarded (turn x k)
unguarded_turn (WhileLoop t a) k h i = unguarded_items a (Loops (WhileLoop t a) ∷ k) h.1 (h, i)
unguarded_turn (DoLoop a t) k h i = (h, i)
unguarded_turn (ForLoop t u a) k h i = unguarded_items a (Loops (ForLoop t u a) ∷ k) h (h, i)

unguarded_cut : (k : List Task) → AreUnguarded k → AreUnguarded (cut k)
unguarded_cut [] i = tt
unguarded_cut (Loops x ∷ k) i = i.1
unguarded_cut (Out ∷ k) i = i.1
unguarded_cut (_ ∷ k) i = unguarded_cut k i.1

unguarded_cut_to : (k : List Task) → AreUnguarded k → AreUnguarded (cut_to k)
unguarded_cut_to [] i = tt
unguarded_cut_to (Loops x ∷ k) i = i
unguarded_cut_to (_ ∷ k) i = unguarded_cut_to k i.1

unguarded_dropped : (u : Option ExpressionTree) (k : List Task) → AreUnguarded k → AreUnguarded (dropped u k)
unguarded_dropped None k i = i
unguarded_dropped (Some e) k i = (tt, (tt, i))

-- ---- searches

found_else : (o p : Option (List Task)) → AreFound o → AreFound p → AreFound (or_else o p)
found_else (Some k) p h i = h
found_else None p h i = i

found_first : (o p : Option (List Task)) (k : List Task) → AreFound o → AreFound p → AreUnguarded k → AreUnguarded (first_of_three o p k)
found_first (Some j) p k h i e = h
found_first None (Some j) k h i e = i
found_first None None k h i e = e

mutual
  unguarded_seek : (l : Goal) (a : Forest) (k : List Task) → IsUnguardedList a → AreUnguarded k → AreFound (seek l a k)
  unguarded_seek l Nil k h i = tt
  unguarded_seek l (Then x xs) k h i =
      let after = unguarded_items xs k h.1 i in
      found_else (cond (is_goal l x) (Some (Runs x ∷ items xs k)) (seek_in l x (items xs k))) (seek l xs k)
      (either AreFound (is_goal l x) (Some (Runs x ∷ items xs k)) (seek_in l x (items xs k)) (h.0, after) (unguarded_seek_in l x (items xs k) h.0 after))
      (unguarded_seek l xs k h.1 i)

  unguarded_seek_in : (l : Goal) (x : Tree) (k : List Task) → EverywhereOf IsUnguarded x → AreUnguarded k → AreFound (seek_in l x k)
  unguarded_seek_in l (If t a b) k h i = found_else (seek l a k) (seek l b k) (unguarded_seek l a k h.1 i) (unguarded_seek l b k h.2 i)
  unguarded_seek_in l (While t a) k h i = unguarded_seek l a (Loops (WhileLoop t a) ∷ k) h.1 (h, i)
  unguarded_seek_in l (Do a t) k h i = unguarded_seek l a (Loops (DoLoop a t) ∷ k) h.1 (h, i)
  unguarded_seek_in l (For first t u a) k h i = unguarded_seek l a (Loops (ForLoop t u a) ∷ k) h.2 (h.2, i)
  unguarded_seek_in l (Switch s c) k h i = either AreFound (enters_switches l) (seek_sections l c k) None (unguarded_sections l c k h.1 i) tt
  unguarded_seek_in l (Block a) k h i = unguarded_seek l a k h.1 i
  unguarded_seek_in l _ k h i = tt

  unguarded_sections : (l : Goal) (c : Sections) (k : List Task) → EverywhereIn IsUnguarded c → AreUnguarded k → AreFound (seek_sections l c k)
  unguarded_sections l NoSection k h i = tt
  unguarded_sections l (Section cases default a ends c) k h i =
      let after = unguarded_end ends (tail_tasks c k) (unguarded_tail c k h.1 i) in
      found_else (cond (is_section_goal l cases default) (Some (items a (end_of ends (tail_tasks c k)))) (seek l a (end_of ends (tail_tasks c k))))
      (seek_sections l c k)
      (either AreFound (is_section_goal l cases default) (Some (items a (end_of ends (tail_tasks c k)))) (seek l a (end_of ends (tail_tasks c k)))
      (unguarded_items a (end_of ends (tail_tasks c k)) h.0 after) (unguarded_seek l a (end_of ends (tail_tasks c k)) h.0 after))
      (unguarded_sections l c k h.1 i)

unguarded_find : (l : ℕ) (body : Forest) → IsUnguardedList body → AreUnguarded (find l body)
unguarded_find l body h = found_first (seek (ToLabel l) body []) None [] (unguarded_seek (ToLabel l) body [] h tt) tt tt

unguarded_entry : (kind : IntKind) (n : ℤ) (c : Sections) (k : List Task) → EverywhereIn IsUnguarded c → AreUnguarded k → AreUnguarded (entry kind n c k)
unguarded_entry kind n c k h i =
    found_first (seek_sections (ToCase kind n) c k) (seek_sections ToDefault c k) k (unguarded_sections (ToCase kind n) c k h i)
    (unguarded_sections ToDefault c k h i) i

-- ---- steps

abbrev IsUnguardedView : View → Type 0
IsUnguardedView Finishes = Unit {0}
IsUnguardedView (Goes k) = AreUnguarded k
IsUnguardedView (Guarding l b k) = ⊥
IsUnguardedView (Yields n k) = AreUnguarded k
IsUnguardedView (Takes h) = (v : Value) → AreUnguarded (h v)
IsUnguardedView (Arming l k) = ⊥
IsUnguardedView (Acts o k) = AreUnguarded k

unguarded_view : (b : Forest) (g : Guards) (k : List Task) → IsUnguardedList b → AreUnguarded k → IsUnguardedView (view b g k)
unguarded_view b g [] h i = tt
unguarded_view b g (Runs (Evaluate e) ∷ k) h i = (tt, (tt, i.1))
unguarded_view b g (Runs (Return None) ∷ k) h i = (tt, i.1)
unguarded_view b g (Runs (Return (Some e)) ∷ k) h i = (tt, (tt, i.1))
unguarded_view b g (Runs (If t a c) ∷ k) h i = (i.0.0, ((i.0.1, i.0.2), i.1))
unguarded_view b g (Branches a c ∷ k) h i = λ v. either AreUnguarded (holds v) (items a k) (items c k) (unguarded_items a k i.0.0 i.1)
    (unguarded_items c k i.0.1 i.1)
unguarded_view b g (Runs (While t a) ∷ k) h i = (i.0.0, (i.0, i.1))
unguarded_view b g (Runs (Do a t) ∷ k) h i = unguarded_items a (Loops (DoLoop a t) ∷ k) i.0.1 (i.0, i.1)
unguarded_view b g (Runs (For first t u a) ∷ k) h i = unguarded_items first (Heads t u a ∷ k) i.0.1 (i.0.2, i.1)
unguarded_view b g (Heads None u a ∷ k) h i = unguarded_items a (Loops (ForLoop None u a) ∷ k) i.0 (i.0, i.1)
unguarded_view b g (Heads (Some e) u a ∷ k) h i = (tt, (i.0, i.1))
unguarded_view b g (Turns x ∷ k) h i = λ v. either AreUnguarded (holds v) (turn x k) k (unguarded_turn x k i.0 i.1) i.1
unguarded_view b g (Loops (WhileLoop t a) ∷ k) h i = (i.0, i.1)
unguarded_view b g (Loops (DoLoop a t) ∷ k) h i = (i.0.0, (i.0, i.1))
unguarded_view b g (Loops (ForLoop t u a) ∷ k) h i = unguarded_dropped u (Heads t u a ∷ k) (i.0, i.1)
unguarded_view b g (Runs (Switch s c) ∷ k) h i = (i.0.0, (i.0.1, i.1))
unguarded_view b g (Enters kind c ∷ k) h i = λ v. unguarded_entry kind (integer v) c k i.0 i.1
unguarded_view b g (EndsSection ∷ k) h i = unguarded_cut k i.1
unguarded_view b g (Out ∷ k) h i = i.1
unguarded_view b g (Runs (Block a) ∷ k) h i = unguarded_items a k i.0.1 i.1
unguarded_view b g (Runs (Local x None) ∷ k) h i = i.1
unguarded_view b g (Runs (Local x (Some es)) ∷ k) h i = i.1
unguarded_view b g (Runs Break ∷ k) h i = unguarded_cut k i.1
unguarded_view b g (Runs Continue ∷ k) h i = unguarded_cut_to k i.1
unguarded_view b g (Runs (Goto l) ∷ k) h i = unguarded_find l b h
unguarded_view b g (Runs (Mark l) ∷ k) h i = i.1
unguarded_view b g (Runs (Arrival e) ∷ k) h i = i.1
unguarded_view b g (Runs (Note bs) ∷ k) h i = i.1
unguarded_view b g (Runs (Arm l e) ∷ k) h i = absurd i.0
unguarded_view b g (Arms l ∷ k) h i = absurd i.0
unguarded_view b g (Runs (Leap l) ∷ k) h i = absurd i.0
unguarded_view b g (Runs (Land l) ∷ k) h i = absurd i.0
unguarded_view b g (Asks (Source e) ∷ k) h i = (tt, i.1)
unguarded_view b g (Asks (On l) ∷ k) h i = absurd i.0
unguarded_view b g (Asks (Off l) ∷ k) h i = absurd i.0
unguarded_view b g (Asks (AndOff l t) ∷ k) h i = absurd i.0
unguarded_view b g (Asks (OrOn l t) ∷ k) h i = absurd i.0
unguarded_view b g (AsksSelector (Selects e) ∷ k) h i = (tt, (tt, i.1))
unguarded_view b g (AsksSelector (Pick l n s) ∷ k) h i = absurd i.0
unguarded_view b g (Works o ∷ k) h i = i.1

abbrev AreUnguardedFrames : List Frame → Type 0
AreUnguardedFrames [] = Unit {0}
AreUnguardedFrames (Waits f g k v ∷ cs) = AllReset g × AreUnguarded k × AreUnguardedFrames cs

-- no guard is set, and none will be
abbrev pub IsUnguardedState : State → Type 0
IsUnguardedState (At f g k v cs w) = AllReset g × AreUnguarded k × AreUnguardedFrames cs
IsUnguardedState _ = Unit {0}

unguarded_settle : (o : Outcome) (f : List ℕ) (g : Guards) (k : List Task) (v : List Value) (cs : List Frame) → AllReset g → AreUnguarded k →
    AreUnguardedFrames cs → IsUnguardedState (settle o f g k v cs)
unguarded_settle (Gives x w) f g k v cs r i c = (r, i, c)
unguarded_settle _ f g k v cs r i c = tt

unguarded_leave : (h : FunctionTree) (x : Value) (cs : List Frame) (w : World) → AreUnguardedFrames cs → IsUnguardedState (leave h x cs w)
unguarded_leave h x [] w c = unguarded_settle (leave_entry h x w) [] no_guards [] [] [] (λ l. refl) tt tt
unguarded_leave h x (Waits f g k v ∷ cs) w c = unguarded_settle (leave_call (is_dropped k) h x w) f g k v cs c.0 c.1 c.2

unguarded_begin : (m : List ℕ) (a : Forest) (r : Result World Trap) (cs : List Frame) (w : World) → IsUnguardedList a → AreUnguardedFrames cs →
    IsUnguardedState (begin_call m a r cs w)
unguarded_begin m a (Ok w') cs w h c = ((λ l. refl), unguarded_items a [] h tt, c)
unguarded_begin m a (Err t) cs w h c = tt

unguarded_invoke : (b : Option Forest) (h : FunctionTree) (m : List ℕ) (vs : List Value) (f : List ℕ) (g : Guards) (k : List Task) (v : List Value)
    (cs : List Frame) (w : World)
    → IsUnguardedList (option_map_or (λ a. a) b Nil) → AllReset g → AreUnguarded k → AreUnguardedFrames cs → IsUnguardedState (invoke b h m vs f g k v cs w)
unguarded_invoke (Some a) h m vs f g k v cs w u r i c = unguarded_begin m a (push h vs w) (Waits f g k v ∷ cs) w u (r, i, c)
unguarded_invoke None h m vs f g k v cs w u r i c = unguarded_settle (call_without_body m h vs w) f g k v cs r i c

module _ (p : Code) (bare : (m : List ℕ) → IsUnguardedList (items_of (p.functions m))) where
  unguarded_perform : (e : Effect) (f : List ℕ) (g : Guards) (k : List Task) (cs : List Frame) → AllReset g → AreUnguarded k → AreUnguardedFrames cs →
      IsUnguardedState (perform p e f g k cs)
  unguarded_perform (Does os v w) f g k cs r i c = (r, unguarded_works os k i, c)
  unguarded_perform (Fails t w) f g k cs r i c = tt
  unguarded_perform (Stops n w) f g k cs r i c = tt
  unguarded_perform (Invokes m vs v w) f g k cs r i c = unguarded_invoke (p.functions m).body (p.functions m) m vs f g k v cs w (bare m) r i c
  unguarded_perform (Leaves (Some x) w) f g k cs r i c = unguarded_leave (p.functions f) (returned (p.functions f) x) cs w c
  unguarded_perform (Leaves None w) f g k cs r i c = unguarded_leave (p.functions f) (fallen f) cs w c

  unguarded_move : (x : View) (f : List ℕ) (g : Guards) (v : List Value) (cs : List Frame) (w : World) → IsUnguardedView x → AllReset g →
      AreUnguardedFrames cs → IsUnguardedState (move p x f g v cs w)
  unguarded_move Finishes f g v cs w h r c = unguarded_leave (p.functions f) (fallen f) cs w c
  unguarded_move (Goes k) f g v cs w h r c = (r, h, c)
  unguarded_move (Guarding l b k) f g v cs w h r c = absurd h
  unguarded_move (Yields n k) f g v cs w h r c = (r, h, c)
  unguarded_move (Takes t) f g [] cs w h r c = (r, h _, c)
  unguarded_move (Takes t) f g (x ∷ v) cs w h r c = (r, h x, c)
  unguarded_move (Arming l k) f g v cs w h r c = absurd h
  unguarded_move (Acts o k) f g v cs w h r c = unguarded_perform (effect o v w) f g k cs r h c

  unguarded_step : (c : State) → IsUnguardedState c → IsUnguardedState (step p c)
  unguarded_step (At f g k v cs w) h = unguarded_move (view (items_of (p.functions f)) g k) f g v cs w
      (unguarded_view (items_of (p.functions f)) g k (bare f) h.1) h.0 h.2
  unguarded_step _ h = tt

  unguarded_run : (n : ℕ) (c : State) → IsUnguardedState c → IsUnguardedState (run p n c)
  unguarded_run zero c h = h
  unguarded_run (suc n) c h = unguarded_run n (step p c) (unguarded_step c h)

  -- ---- steady

  never : (g : Guards) → AllReset g → (l : ℕ) → ¬ (g l ≡ true)
  never g r l e = true≢false (sym e ∙ r l)

  steady_call : (c : State) (f : List ℕ) (g : Guards) (k : List Task) (ds : List Frame) → AllReset g → IsSteadyCall p c f g k ds
  steady_call c f g k ds r = record { single = λ l m a b. absurd (never g r l a); reset = λ s. r; leads = λ l e. absurd (never g r l e) }

  steady_frames : (c : State) (cs : List Frame) → AreUnguardedFrames cs → AreSteadyFrames p c cs
  steady_frames c [] h = tt
  steady_frames c (Waits f g k v ∷ cs) h = (steady_call c f g k cs h.0, steady_frames c cs h.2)

  steady_state : (c : State) → IsUnguardedState c → IsSteadyState p c
  steady_state (At f g k v cs w) h = (steady_call (At f g k v cs w) f g k cs h.0, steady_frames (At f g k v cs w) cs h.2)
  steady_state _ h = tt

  pub unguarded_steady : IsSteadyCode p
  unguarded_steady = record {
    at = λ m arguments e input answers n.
        steady_state (run p n (start p m arguments input answers))
        (unguarded_run n (start p m arguments input answers)
        (unguarded_begin m (items_of (p.functions m)) (push (p.functions m) (map Integer arguments) (world_at_start p input answers)) []
        (world_at_start p input answers) (bare m) tt));
  }
