-- What holds at each item of a body holds at each item that a run meets; and behind an item stand items alone.
use Rattle.std.proofs.Common.{ℕ, zero, suc, ℤ, pos, ◌+◌, Bool, true, false, cond, List, [], ◌∷◌, Option, Some, None, Result, Ok, Err, map, ◌≡◌, refl}
use Rattle.std.specs.Option.{option_map_or}
use Rattle.c_types.specs.declared.trap.Trap.{Trap}
use Rattle.c_tree.specs.ExpressionTrees.{ExpressionTree}
use Rattle.c_tree.specs.TestTrees.{Source, On, Off, AndOff, OrOn, Selects, Pick}
use Rattle.c_tree.specs.Trees.{Tree, Forest, Nil, Then, Sections, NoSection, Section, Evaluate, Return, If, While, Do, For, Switch, Block, Local, Break, Continue, Goto, Mark, Arm, Leap, Land, Arrival, Note}
use Rattle.c_tree.specs.Exits.{breaks, continues}
use Rattle.jump_meaning.specs.Values.{Value, Integer, integer}
use Rattle.jump_meaning.specs.Code.{FunctionTree, Code}
use Rattle.jump_meaning.specs.World.{World, Outcome, Gives, push, world_at_start}
use Rattle.jump_meaning.specs.Operations.{holds}
use Rattle.jump_meaning.specs.Known.{call_without_body}
use Rattle.jump_meaning.specs.Calls.{returned, fallen, leave_call, leave_entry}
use Rattle.jump_meaning.specs.Effects.{Op, Drops, Effect, Does, Fails, Stops, Invokes, Leaves, effect, top}
use Rattle.jump_meaning.specs.Tasks.{Loop, WhileLoop, DoLoop, ForLoop, Task, Runs, Works, Asks, Branches, Turns, Loops, Heads, Arms, AsksSelector, Enters, EndsSection, Out, items, works, end_of, tail_tasks, turn, cut, cut_to}
use Rattle.jump_meaning.specs.Search.{Goal, ToLabel, ToCase, ToDefault, is_goal, is_section_goal, enters_switches, or_else, seek, seek_in, seek_sections, first_of_three, find}
use Rattle.jump_meaning.specs.Step.{Guards, no_guards, Frame, Waits, State, At, View, Finishes, Goes, Guarding, Yields, Takes, Arming, Acts, dropped, view, is_dropped, settle, leave, begin_call, invoke, perform, move, step}
use Rattle.jump_meaning.specs.Runs.{start}
use Rattle.jump_meaning.proofs.Growth.{either}
use Rattle.core_laws.specs.Ways.{Peeled, Ask, Known, peel, after_do}
use Rattle.core_laws.specs.Core.{core, core_of}
use Rattle.core_laws.proofs.TaskWays.{task_way}
use Rattle.core_laws.proofs.TaskCores.{core_do_loop, core_do_turn, task_core}
use Rattle.core_laws.proofs.Lookup.{HasKeptExit}
use Rattle.core_laws.proofs.Reach.{body_in}
use Rattle.core_laws.proofs.Lawful.{SeesDrop}

-- tasks that may stand behind an item
abbrev pub Plain : List Task → Type 0
Plain [] = Unit {0}
Plain (Runs x ∷ k) = Plain k
Plain (Loops x ∷ k) = Plain k
Plain (Heads t u a ∷ k) = Plain k
Plain (EndsSection ∷ k) = Plain k
Plain (Out ∷ k) = Plain k
Plain (_ ∷ k) = ⊥

-- ---- the core of such tasks drops no value

pub undropped_items : (a : Forest) (k : List Task) → is_dropped k ≡ false → is_dropped (items a k) ≡ false
undropped_items Nil k h = h
undropped_items (Then x a) k h = refl

undropped_loop : (p : Peeled) (n : ℕ) (a : Forest) (k : List Task) → is_dropped k ≡ false → is_dropped (core_do_loop p n a k) ≡ false
undropped_loop (Ask e) n a k h = refl
undropped_loop (Known true) n a k h = refl
undropped_loop (Known false) zero a k h = h
undropped_loop (Known false) (suc n) a k h = refl

undropped_turn : (p : Peeled) (n : ℕ) (a : Forest) (k : List Task) → is_dropped (core_do_turn p n a k) ≡ false
undropped_turn (Ask e) n a k = refl
undropped_turn (Known true) n a k = refl
undropped_turn (Known false) zero a k = refl
undropped_turn (Known false) (suc n) a k = refl

undropped : (k : List Task) → Plain k → is_dropped (task_core k) ≡ false
undropped [] h = refl
undropped (Runs x ∷ k) h = undropped_items (core_of x (task_way k)) (task_core k) (undropped k h)
undropped (Loops (WhileLoop t a) ∷ k) h = refl
undropped (Loops (DoLoop a t) ∷ k) h = undropped_loop (peel no_guards t) (breaks a + continues a) (core a (after_do a t (task_way k))) (task_core k)
    (undropped k h)
undropped (Loops (ForLoop t u a) ∷ k) h = refl
undropped (Heads t u a ∷ k) h = refl
undropped (EndsSection ∷ k) h = refl
undropped (Out ∷ k) h = refl
undropped (_ ∷ k) h = absurd h

pub op_dropped : (o : Op) (k k' : List Task) → is_dropped (Works o ∷ k) ≡ is_dropped (Works o ∷ k')
op_dropped Drops k k' = refl
op_dropped _ k k' = refl

-- ---- the nearest loop or switch behind a section

pub kept_items : (a : Forest) (k : List Task) → HasKeptExit k → HasKeptExit (items a k)
kept_items Nil k h = h
kept_items (Then x a) k h = kept_items a k h

pub kept_end : (ends : Bool) (k : List Task) → HasKeptExit k → HasKeptExit (end_of ends k)
kept_end true k h = h
kept_end false k h = h

pub kept_tail : (c : Sections) (k : List Task) → HasKeptExit (tail_tasks c k)
kept_tail NoSection k = tt
kept_tail (Section cases default a ends c) k = kept_items a (end_of ends (tail_tasks c k)) (kept_end ends (tail_tasks c k) (kept_tail c k))

-- ---- a fact of an item and of the tasks behind it, in each function

module _ (Here : List ℕ → Tree → List Task → Type 0) where
  abbrev mutual
    pub AllIn : List ℕ → Forest → List Task → Type 0
    AllIn f Nil k = Unit {0}
    AllIn f (Then x a) k = AllOf f x (items a k) × AllIn f a k

    pub AllOf : List ℕ → Tree → List Task → Type 0
    AllOf f (If t a b) k = AllIn f a k × AllIn f b k
    AllOf f (While t a) k = AllIn f a (Loops (WhileLoop t a) ∷ k)
    AllOf f (Do a t) k = AllIn f a (Loops (DoLoop a t) ∷ k)
    AllOf f (For first t u a) k = AllIn f first (Heads t u a ∷ k) × AllIn f a (Loops (ForLoop t u a) ∷ k)
    AllOf f (Switch s c) k = Here f (Switch s c) k × AllSections f c k
    AllOf f (Block a) k = AllIn f a k
    AllOf f x k = Here f x k

    pub AllSections : List ℕ → Sections → List Task → Type 0
    AllSections f NoSection k = Unit {0}
    AllSections f (Section cases default a ends c) k = AllIn f a (end_of ends (tail_tasks c k)) × AllSections f c k

  abbrev pub AllLoop : List ℕ → Loop → List Task → Type 0
  AllLoop f (WhileLoop t a) k = AllIn f a (Loops (WhileLoop t a) ∷ k)
  AllLoop f (DoLoop a t) k = AllIn f a (Loops (DoLoop a t) ∷ k)
  AllLoop f (ForLoop t u a) k = AllIn f a (Loops (ForLoop t u a) ∷ k)

  abbrev pub AllTasks : List ℕ → List Task → Type 0
  AllTasks f [] = Unit {0}
  AllTasks f (Runs x ∷ k) = AllOf f x k × (Plain k × AllTasks f k)
  AllTasks f (Works o ∷ k) = AllTasks f k
  AllTasks f (Asks t ∷ k) = AllTasks f k
  AllTasks f (Branches a b ∷ k) = (AllIn f a k × AllIn f b k) × (Plain k × AllTasks f k)
  AllTasks f (Turns x ∷ k) = AllLoop f x k × (Plain k × AllTasks f k)
  AllTasks f (Loops x ∷ k) = AllLoop f x k × (Plain k × AllTasks f k)
  AllTasks f (Heads t u a ∷ k) = AllLoop f (ForLoop t u a) k × (Plain k × AllTasks f k)
  AllTasks f (Arms l ∷ k) = ((e : Option ExpressionTree) × Here f (Arm l e) k) × (Plain k × AllTasks f k)
  AllTasks f (AsksSelector s ∷ k) = AllTasks f k
  AllTasks f (Enters kind c ∷ k) = AllSections f c k × (Plain k × AllTasks f k)
  AllTasks f (EndsSection ∷ k) = HasKeptExit k × (Plain k × AllTasks f k)
  AllTasks f (Out ∷ k) = Plain k × AllTasks f k

  -- behind an item
  abbrev pub Behind : List ℕ → List Task → Type 0
  Behind f k = Plain k × AllTasks f k

  abbrev pub AllFrames : List Frame → Type 0
  AllFrames [] = Unit {0}
  AllFrames (Waits f g k v ∷ cs) = AllTasks f k × AllFrames cs

  abbrev pub AllState : State → Type 0
  AllState (At f g k v cs w) = AllTasks f k × AllFrames cs
  AllState _ = Unit {0}

  all_items : (f : List ℕ) (a : Forest) (k : List Task) → AllIn f a k → Behind f k → Behind f (items a k)
  all_items f Nil k h q = q
  all_items f (Then x a) k h q = let r = all_items f a k h.1 q in (r.0, (h.0, r))

  all_works : (f : List ℕ) (os : List Op) (k : List Task) → AllTasks f k → AllTasks f (works os k)
  all_works f [] k h = h
  all_works f (o ∷ os) k h = all_works f os k h

  all_dropped : (f : List ℕ) (u : Option ExpressionTree) (k : List Task) → AllTasks f k → AllTasks f (dropped u k)
  all_dropped f None k h = h
  all_dropped f (Some e) k h = h

  all_turn : (f : List ℕ) (x : Loop) (k : List Task) → AllLoop f x k → Behind f k → AllTasks f (turn x k)
  all_turn f (WhileLoop t a) k h q = (all_items f a (Loops (WhileLoop t a) ∷ k) h (q.0, (h, q))).1
  all_turn f (DoLoop a t) k h q = (h, q)
  all_turn f (ForLoop t u a) k h q = (all_items f a (Loops (ForLoop t u a) ∷ k) h (q.0, (h, q))).1

  all_cut : (f : List ℕ) (k : List Task) → AllTasks f k → Behind f (cut k)
  all_cut f [] h = (tt, tt)
  all_cut f (Runs x ∷ k) h = all_cut f k h.1.1
  all_cut f (Works o ∷ k) h = all_cut f k h
  all_cut f (Asks t ∷ k) h = all_cut f k h
  all_cut f (Branches a b ∷ k) h = all_cut f k h.1.1
  all_cut f (Turns x ∷ k) h = all_cut f k h.1.1
  all_cut f (Loops x ∷ k) h = h.1
  all_cut f (Heads t u a ∷ k) h = all_cut f k h.1.1
  all_cut f (Arms l ∷ k) h = all_cut f k h.1.1
  all_cut f (AsksSelector s ∷ k) h = all_cut f k h
  all_cut f (Enters kind c ∷ k) h = all_cut f k h.1.1
  all_cut f (EndsSection ∷ k) h = all_cut f k h.1.1
  all_cut f (Out ∷ k) h = h

  all_cut_to : (f : List ℕ) (k : List Task) → AllTasks f k → AllTasks f (cut_to k)
  all_cut_to f [] h = tt
  all_cut_to f (Runs x ∷ k) h = all_cut_to f k h.1.1
  all_cut_to f (Works o ∷ k) h = all_cut_to f k h
  all_cut_to f (Asks t ∷ k) h = all_cut_to f k h
  all_cut_to f (Branches a b ∷ k) h = all_cut_to f k h.1.1
  all_cut_to f (Turns x ∷ k) h = all_cut_to f k h.1.1
  all_cut_to f (Loops x ∷ k) h = h
  all_cut_to f (Heads t u a ∷ k) h = all_cut_to f k h.1.1
  all_cut_to f (Arms l ∷ k) h = all_cut_to f k h.1.1
  all_cut_to f (AsksSelector s ∷ k) h = all_cut_to f k h
  all_cut_to f (Enters kind c ∷ k) h = all_cut_to f k h.1.1
  all_cut_to f (EndsSection ∷ k) h = all_cut_to f k h.1.1
  all_cut_to f (Out ∷ k) h = all_cut_to f k h.1

  all_end : (f : List ℕ) (ends : Bool) (c : Sections) (k : List Task) → Behind f (tail_tasks c k) → Behind f (end_of ends (tail_tasks c k))
  all_end f true c k h = (h.0, (kept_tail c k, h))
  all_end f false c k h = h

  all_tail : (f : List ℕ) (c : Sections) (k : List Task) → AllSections f c k → Behind f k → Behind f (tail_tasks c k)
  all_tail f NoSection k h q = (q.0, q)
  all_tail f (Section cases default a ends c) k h q = all_items f a (end_of ends (tail_tasks c k)) h.0 (all_end f ends c k (all_tail f c k h.1 q))

  -- ---- searches

  abbrev AllFound : List ℕ → Option (List Task) → Type 0
  AllFound f None = Unit {0}
  AllFound f (Some k) = AllTasks f k

  all_or : (f : List ℕ) (a b : Option (List Task)) → AllFound f a → AllFound f b → AllFound f (or_else a b)
  all_or f None b p q = q
  all_or f (Some k) b p q = p

  all_first : (f : List ℕ) (a b : Option (List Task)) (k : List Task) → AllFound f a → AllFound f b → AllTasks f k → AllTasks f (first_of_three a b k)
  all_first f (Some x) b k p q h = p
  all_first f None (Some x) k p q h = q
  all_first f None None k p q h = h

  mutual
    all_seek : (l : Goal) (f : List ℕ) (a : Forest) (k : List Task) → AllIn f a k → Behind f k → AllFound f (seek l a k)
    all_seek l f Nil k h q = tt
    all_seek l f (Then x a) k h q =
        let r = all_items f a k h.1 q in
        all_or f (cond (is_goal l x) (Some (Runs x ∷ items a k)) (seek_in l x (items a k))) (seek l a k)
        (either (AllFound f) (is_goal l x) (Some (Runs x ∷ items a k)) (seek_in l x (items a k)) (h.0, r) (all_seek_in l f x (items a k) h.0 r))
        (all_seek l f a k h.1 q)

    all_seek_in : (l : Goal) (f : List ℕ) (x : Tree) (k : List Task) → AllOf f x k → Behind f k → AllFound f (seek_in l x k)
    all_seek_in l f (If t a b) k h q = all_or f (seek l a k) (seek l b k) (all_seek l f a k h.0 q) (all_seek l f b k h.1 q)
    all_seek_in l f (While t a) k h q = all_seek l f a (Loops (WhileLoop t a) ∷ k) h (q.0, (h, q))
    all_seek_in l f (Do a t) k h q = all_seek l f a (Loops (DoLoop a t) ∷ k) h (q.0, (h, q))
    all_seek_in l f (For first t u a) k h q = all_seek l f a (Loops (ForLoop t u a) ∷ k) h.1 (q.0, (h.1, q))
    all_seek_in l f (Switch s c) k h q = either (AllFound f) (enters_switches l) (seek_sections l c k) None (all_seek_sections l f c k h.1 q) tt
    all_seek_in l f (Block a) k h q = all_seek l f a k h q
    all_seek_in l f _ k h q = tt

    all_seek_sections : (l : Goal) (f : List ℕ) (c : Sections) (k : List Task) → AllSections f c k → Behind f k → AllFound f (seek_sections l c k)
    all_seek_sections l f NoSection k h q = tt
    all_seek_sections l f (Section cases default a ends c) k h q =
        let behind = end_of ends (tail_tasks c k) in
        let r = all_end f ends c k (all_tail f c k h.1 q) in
        all_or f (cond (is_section_goal l cases default) (Some (items a behind)) (seek l a behind)) (seek_sections l c k)
        (either (AllFound f) (is_section_goal l cases default) (Some (items a behind)) (seek l a behind) (all_items f a behind h.0 r).1
        (all_seek l f a behind h.0 r)) (all_seek_sections l f c k h.1 q)

  -- ---- steps

  abbrev AllView : List ℕ → View → Type 0
  AllView f Finishes = Unit {0}
  AllView f (Goes k) = AllTasks f k
  AllView f (Guarding l b k) = AllTasks f k
  AllView f (Yields n k) = AllTasks f k
  AllView f (Takes h) = (v : Value) → AllTasks f (h v)
  AllView f (Arming l k) = AllTasks f k
  AllView f (Acts o k) = AllTasks f k

  module _ (p : Code) (bodies : (f : List ℕ) → AllIn f (body_in p f) []) where
    all_find : (l : ℕ) (f : List ℕ) → AllTasks f (find l (body_in p f))
    all_find l f = all_first f (seek (ToLabel l) (body_in p f) []) None [] (all_seek (ToLabel l) f (body_in p f) [] (bodies f) (tt, tt)) tt tt

    all_view : (f : List ℕ) (g : Guards) (k : List Task) → AllTasks f k → AllView f (view (body_in p f) g k)
    all_view f g [] h = tt
    all_view f g (Runs (Evaluate e) ∷ k) h = h.1.1
    all_view f g (Runs (Return None) ∷ k) h = h.1.1
    all_view f g (Runs (Return (Some e)) ∷ k) h = h.1.1
    all_view f g (Runs (If t a b) ∷ k) h = h
    all_view f g (Branches a b ∷ k) h = λ v. either (AllTasks f) (holds v) (items a k) (items b k) (all_items f a k h.0.0 h.1).1 (all_items f b k h.0.1 h.1).1
    all_view f g (Runs (While t a) ∷ k) h = h
    all_view f g (Runs (Do a t) ∷ k) h = (all_items f a (Loops (DoLoop a t) ∷ k) h.0 (h.1.0, h)).1
    all_view f g (Runs (For first t u a) ∷ k) h = (all_items f first (Heads t u a ∷ k) h.0.0 (h.1.0, (h.0.1, h.1))).1
    all_view f g (Heads None u a ∷ k) h = (all_items f a (Loops (ForLoop None u a) ∷ k) h.0 (h.1.0, h)).1
    all_view f g (Heads (Some e) u a ∷ k) h = h
    all_view f g (Turns x ∷ k) h = λ v. either (AllTasks f) (holds v) (turn x k) k (all_turn f x k h.0 h.1) h.1.1
    all_view f g (Loops (WhileLoop t a) ∷ k) h = h
    all_view f g (Loops (DoLoop a t) ∷ k) h = h
    all_view f g (Loops (ForLoop t u a) ∷ k) h = all_dropped f u (Heads t u a ∷ k) h
    all_view f g (Runs (Switch s c) ∷ k) h = (h.0.1, h.1)
    all_view f g (Enters kind c ∷ k) h = λ v.
        all_first f (seek_sections (ToCase kind (integer v)) c k) (seek_sections ToDefault c k) k
        (all_seek_sections (ToCase kind (integer v)) f c k h.0 h.1) (all_seek_sections ToDefault f c k h.0 h.1) h.1.1
    all_view f g (EndsSection ∷ k) h = (all_cut f k h.1.1).1
    all_view f g (Out ∷ k) h = h.1
    all_view f g (Runs (Block a) ∷ k) h = (all_items f a k h.0 h.1).1
    all_view f g (Runs (Local x None) ∷ k) h = h.1.1
    all_view f g (Runs (Local x (Some es)) ∷ k) h = h.1.1
    all_view f g (Runs Break ∷ k) h = (all_cut f k h.1.1).1
    all_view f g (Runs Continue ∷ k) h = all_cut_to f k h.1.1
    all_view f g (Runs (Goto l) ∷ k) h = all_find l f
    all_view f g (Runs (Mark l) ∷ k) h = h.1.1
    all_view f g (Runs (Arrival e) ∷ k) h = h.1.1
    all_view f g (Runs (Note bs) ∷ k) h = h.1.1
    all_view f g (Runs (Arm l None) ∷ k) h = h.1.1
    all_view f g (Runs (Arm l (Some e)) ∷ k) h = ((Some e, h.0), h.1)
    all_view f g (Arms l ∷ k) h = h.1.1
    all_view f g (Runs (Leap l) ∷ k) h = either (AllView f) (g l) (Goes (find l (body_in p f))) (Goes k) (all_find l f) h.1.1
    all_view f g (Runs (Land l) ∷ k) h = h.1.1
    all_view f g (Asks (Source e) ∷ k) h = h
    all_view f g (Asks (On l) ∷ k) h = h
    all_view f g (Asks (Off l) ∷ k) h = h
    all_view f g (Asks (AndOff l t) ∷ k) h = either (AllView f) (g l) (Yields (pos 0) k) (Goes (Asks t ∷ k)) h h
    all_view f g (Asks (OrOn l t) ∷ k) h = either (AllView f) (g l) (Yields (pos 1) k) (Goes (Asks t ∷ k)) h h
    all_view f g (AsksSelector (Selects e) ∷ k) h = h
    all_view f g (AsksSelector (Pick l n s) ∷ k) h = either (AllView f) (g l) (Yields n k) (Goes (AsksSelector s ∷ k)) h h
    all_view f g (Works o ∷ k) h = h

    all_settle : (o : Outcome) (f : List ℕ) (g : Guards) (k : List Task) (v : List Value) (cs : List Frame) → AllTasks f k → AllFrames cs →
        AllState (settle o f g k v cs)
    all_settle (Gives x w) f g k v cs h q = (h, q)
    all_settle _ f g k v cs h q = tt

    all_leave : (h : FunctionTree) (x : Value) (cs : List Frame) (w : World) → AllFrames cs → AllState (leave h x cs w)
    all_leave h x [] w q = all_settle (leave_entry h x w) [] no_guards [] [] [] tt tt
    all_leave h x (Waits f g k v ∷ cs) w q = all_settle (leave_call (is_dropped k) h x w) f g k v cs q.0 q.1

    all_begin : (m : List ℕ) (a : Forest) (r : Result World Trap) (cs : List Frame) (w : World) → AllIn m a [] → AllFrames cs → AllState (begin_call m a r cs w)
    all_begin m a (Ok w) cs w' i q = ((all_items m a [] i (tt, tt)).1, q)
    all_begin m a (Err t) cs w' i q = tt

    all_invoke : (b : Option Forest) (h : FunctionTree) (m : List ℕ) (vs : List Value) (f : List ℕ) (g : Guards) (k : List Task) (v : List Value)
        (cs : List Frame) (w : World) → AllIn m (option_map_or (λ a. a) b Nil) [] → AllTasks f k → AllFrames cs → AllState (invoke b h m vs f g k v cs w)
    all_invoke (Some a) h m vs f g k v cs w i r q = all_begin m a (push h vs w) (Waits f g k v ∷ cs) w i (r, q)
    all_invoke None h m vs f g k v cs w i r q = all_settle (call_without_body m h vs w) f g k v cs r q

    all_perform : (x : Effect) (f : List ℕ) (g : Guards) (k : List Task) (cs : List Frame) → AllTasks f k → AllFrames cs → AllState (perform p x f g k cs)
    all_perform (Does os v w) f g k cs h q = (all_works f os k h, q)
    all_perform (Fails t w) f g k cs h q = tt
    all_perform (Stops n w) f g k cs h q = tt
    all_perform (Invokes m vs v w) f g k cs h q = all_invoke (p.functions m).body (p.functions m) m vs f g k v cs w (bodies m) h q
    all_perform (Leaves (Some x) w) f g k cs h q = all_leave (p.functions f) (returned (p.functions f) x) cs w q
    all_perform (Leaves None w) f g k cs h q = all_leave (p.functions f) (fallen f) cs w q

    all_move : (x : View) (f : List ℕ) (g : Guards) (v : List Value) (cs : List Frame) (w : World) → AllView f x → AllFrames cs → AllState (move p x f g v cs w)
    all_move Finishes f g v cs w h q = all_leave (p.functions f) (fallen f) cs w q
    all_move (Goes k) f g v cs w h q = (h, q)
    all_move (Guarding l b k) f g v cs w h q = (h, q)
    all_move (Yields n k) f g v cs w h q = (h, q)
    all_move (Takes t) f g v cs w h q = (h (top v), q)
    all_move (Arming l k) f g v cs w h q = (h, q)
    all_move (Acts o k) f g v cs w h q = all_perform (effect o v w) f g k cs h q

    pub all_next : (c : State) → AllState c → AllState (step p c)
    all_next (At f g k v cs w) h = all_move (view (body_in p f) g k) f g v cs w (all_view f g k h.0) h.1
    all_next _ h = tt

    pub all_start : (m : List ℕ) (arguments : List ℤ) (input : List ℕ) (answers : List ℤ) → AllState (start p m arguments input answers)
    all_start m arguments input answers =
        all_begin m (body_in p m) (push (p.functions m) (map Integer arguments) (world_at_start p input answers)) [] (world_at_start p input answers)
        (bodies m) tt

  -- a caller's core drops the value of a call exactly if the caller does
  drop_seen : (f : List ℕ) (k : List Task) → AllTasks f k → is_dropped (task_core k) ≡ is_dropped k
  drop_seen f [] h = refl
  drop_seen f (Runs x ∷ k) h = undropped (Runs x ∷ k) h.1.0
  drop_seen f (Works o ∷ k) h = op_dropped o (task_core k) k
  drop_seen f (Asks t ∷ k) h = refl
  drop_seen f (Branches a b ∷ k) h = refl
  drop_seen f (Turns (WhileLoop t a) ∷ k) h = refl
  drop_seen f (Turns (DoLoop a t) ∷ k) h = undropped_turn (peel no_guards t) (breaks a + continues a) (core a (after_do a t (task_way k))) (task_core k)
  drop_seen f (Turns (ForLoop t u a) ∷ k) h = refl
  drop_seen f (Loops x ∷ k) h = undropped (Loops x ∷ k) h.1.0
  drop_seen f _ h = refl

  pub sees_drop : (cs : List Frame) → AllFrames cs → SeesDrop cs
  sees_drop [] h = tt
  sees_drop (Waits f g k v ∷ cs) h = drop_seen f k h.0
