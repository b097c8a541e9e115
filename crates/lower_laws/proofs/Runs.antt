-- Where a step of a program leads, one comes too whose functions are flat lists of gotos.
use mathlib.Core.Path.{ap₂}
use Rattle.std.proofs.Common.{ℕ, suc, ◌<◌, inl, inr, ℤ, Bool, true, false, List, [], ◌∷◌, Option, Some, None, Result, Ok, Err, ◌≡◌, refl, sym, ◌∙◌, ap, subst, arith, IsSome, true≢false}
use Rattle.std.specs.Option.{option_map_or}
use Rattle.c_types.specs.declared.kinds.IntKind.{IntKind}
use Rattle.c_types.specs.declared.trap.Trap.{Trap}
use Rattle.c_tree.specs.declared.tree.Slot.{Slot}
use Rattle.c_tree.specs.TestTrees.{Source}
use Rattle.c_tree.specs.Trees.{Tree, Forest, Nil, Mark}
use Rattle.jump_meaning.specs.Values.{Value, Event}
use Rattle.jump_meaning.specs.Code.{FunctionTree, Code, items_of}
use Rattle.jump_meaning.specs.World.{World, Outcome, Gives, Traps, Exits, push}
use Rattle.jump_meaning.specs.Operations.{holds}
use Rattle.jump_meaning.specs.Calls.{returned, fallen, leave_call, leave_entry}
use Rattle.jump_meaning.specs.Known.{call_without_body}
use Rattle.jump_meaning.specs.Effects.{Computes, Drops, Ends, Effect, Does, Fails, Stops, Invokes, Leaves, effect, top, rest}
use Rattle.jump_meaning.specs.Tasks.{WhileLoop, DoLoop, Task, Runs, Loops, items}
use Rattle.jump_meaning.specs.Step.{Guards, no_guards, with_guard, Frame, Waits, State, At, HasEnded, HasTrapped, View, Finishes, Goes, Guarding, Yields, Takes, Arming, Acts, is_dropped, view, settle, leave, begin_call, invoke, perform, move, step}
use Rattle.jump_meaning.specs.Runs.{iterate}
use Rattle.jump_meaning.proofs.Scheme.{Joint}
use Rattle.flat_laws.specs.Placed.{ArePlaced}
use Rattle.lower_laws.specs.Straight.{StraightItem, st_evaluate, st_return, st_note, st_goto, st_mark, st_jump_if, st_if, st_do, st_ever, IsStraight}
use Rattle.lower_laws.specs.Rewritten.{Rewritten, rw_same, rw_by, RewrittenCode}
use Rattle.lower_laws.proofs.Controls.{Control, ct_nil, ct_item, ct_while, ct_do, ct_skip, ct_declares, ct_goto, ct_mark, ct_loops, Tasks, tk_control, tk_works, tk_if, tk_turns, tasks_works, control_if, tasks_dropped, list_goes, while_turns, while_stops, do_starts, ever_starts, if_holds, if_fails}
use Rattle.lower_laws.proofs.Located.{located}

-- what bounds the steps in which the flat list does nothing
abbrev task_weight : List Task → ℕ
task_weight (Runs (Mark l) ∷ k) = suc (task_weight k)
task_weight (Loops (WhileLoop t a) ∷ k) = 1
task_weight _ = 0

abbrev pub weight : State → ℕ
weight (At f g k v cs w) = task_weight k
weight _ = 0

-- ---- what two functions have in common

pub same_result : {f h : FunctionTree} → Rewritten IsStraight f h → f.result ≡ h.result
same_result (rw_same e) = ap (λ f. f.result) e
same_result (rw_by l) = l.result

pub same_params : {f h : FunctionTree} → Rewritten IsStraight f h → f.params ≡ h.params
same_params (rw_same e) = ap (λ f. f.params) e
same_params (rw_by l) = l.params

pub same_slots : {f h : FunctionTree} → Rewritten IsStraight f h → f.slots ≡ h.slots
same_slots (rw_same e) = ap (λ f. f.slots) e
same_slots (rw_by l) = l.slots

-- a function without its body
abbrev head : Option IntKind → ℕ → List Slot → FunctionTree
head r n ss = record { result = r; params = n; slots = ss; body = None }

pub same_push : {f h : FunctionTree} → Rewritten IsStraight f h → (vs : List Value) (w : World) → push f vs w ≡ push h vs w
same_push l vs w = ap₂ (λ n ss. push (head None n ss) vs w) (same_params l) (same_slots l)

same_leave : {f h : FunctionTree} → Rewritten IsStraight f h → (b : Bool) (x : Value) (w : World) → leave_call b f x w ≡ leave_call b h x w
same_leave l b x w = ap₂ (λ r ss. leave_call b (head r 0 ss) x w) (same_result l) (same_slots l)

same_entry : {f h : FunctionTree} → Rewritten IsStraight f h → (x : Value) (w : World) → leave_entry f x w ≡ leave_entry h x w
same_entry l x w = ap (λ r. leave_entry (head r 0 []) x w) (same_result l)

same_returned : {f h : FunctionTree} → Rewritten IsStraight f h → (x : Value) → returned f x ≡ returned h x
same_returned l x = ap (λ r. returned (head r 0 []) x) (same_result l)

module _ (p q : Code) (lo : RewrittenCode IsStraight p q) where
  abbrev before : List ℕ → Forest
  before f = items_of (p.functions f)

  abbrev after : List ℕ → Forest
  after f = items_of (q.functions f)

  -- a call in both
  pub data Call (f : List ℕ) : List Task → List Task → Type 0 where
    cl_same : p.functions f ≡ q.functions f → {k : List Task} → Call f k k
    cl_straight : (l : IsStraight (p.functions f) (q.functions f)) {k k' : List Task} → Tasks (before f) (after f) l.labels k k' → Call f k k'

  pub data Frames : List Frame → List Frame → Type 0 where
    fr_none : Frames [] []
    fr_more : (f : List ℕ) (g : Guards) (v : List Value) {k k' : List Task} {cs cs' : List Frame} → Call f k k' → Frames cs cs' →
        Frames (Waits f g k v ∷ cs) (Waits f g k' v ∷ cs')

  pub data Related : State → State → Type 0 where
    rl_at : (f : List ℕ) (g : Guards) (v : List Value) (w : World) {k k' : List Task} {cs cs' : List Frame} → Call f k k' → Frames cs cs' →
        Related (At f g k v cs w) (At f g k' v cs' w)
    rl_ended : (n : ℤ) (es : List Event) → Related (HasEnded n es) (HasEnded n es)
    rl_trapped : (t : Trap) (es : List Event) → Related (HasTrapped t es) (HasTrapped t es)

  -- ---- calls

  starts : (m : List ℕ) → Call m (items (before m) []) (items (after m) [])
  starts m = at (lo.functions m)
    where
      at : Rewritten IsStraight (p.functions m) (q.functions m) → Call m (items (before m) []) (items (after m) [])
      at (rw_same e) = subst (λ h. Call m (items (before m) []) (items (items_of h) [])) e (cl_same e)
      at (rw_by l) = cl_straight l (tk_control (list_goes (before m) (after m) l.labels l.related l.new_placed ct_nil))

  idle : (m : List ℕ) → Call m [] []
  idle m = at (lo.functions m)
    where
      at : Rewritten IsStraight (p.functions m) (q.functions m) → Call m [] []
      at (rw_same e) = cl_same e
      at (rw_by l) = cl_straight l (tk_control ct_nil)

  pub begins : (m : List ℕ) (r : Result World Trap) (w : World) {cs cs' : List Frame} → Frames cs cs' →
      Related (begin_call m (before m) r cs w) (begin_call m (after m) r cs' w)
  begins m (Ok u) w t = rl_at m no_guards [] u (starts m) t
  begins m (Err e) w t = rl_trapped e w.events

  settles : (f : List ℕ) (g : Guards) (v : List Value) (o : Outcome) {k k' : List Task} {cs cs' : List Frame} → Call f k k' → Frames cs cs' →
      Related (settle o f g k v cs) (settle o f g k' v cs')
  settles f g v (Gives x w) h t = rl_at f g (x ∷ v) w h t
  settles f g v (Traps u w) h t = rl_trapped u w.events
  settles f g v (Exits n w) h t = rl_ended n w.events

  invoke_items : (b : Option Forest) (h : FunctionTree) (m : List ℕ) (vs : List Value) (f : List ℕ) (g : Guards) (k : List Task) (v : List Value)
      (cs : List Frame) (w : World) → IsSome b
      → invoke b h m vs f g k v cs w ≡ begin_call m (option_map_or (λ a. a) b Nil) (push h vs w) (Waits f g k v ∷ cs) w
  invoke_items (Some a) h m vs f g k v cs w i = refl
  invoke_items None h m vs f g k v cs w i = absurd (true≢false (sym i))

  invokes : (m : List ℕ) (vs : List Value) (f : List ℕ) (g : Guards) (v : List Value) (w : World) {k k' : List Task} {cs cs' : List Frame} →
      Call f k k' → Frames cs cs'
      → Related (invoke (p.functions m).body (p.functions m) m vs f g k v cs w) (invoke (q.functions m).body (q.functions m) m vs f g k' v cs' w)
  invokes m vs f g v w {k = k} {k' = k'} {cs = cs} {cs' = cs'} h t = at (lo.functions m)
    where
      begun : Related (begin_call m (before m) (push (p.functions m) vs w) (Waits f g k v ∷ cs) w)
          (begin_call m (after m) (push (q.functions m) vs w) (Waits f g k' v ∷ cs') w)
      begun = subst (λ r. Related (begin_call m (before m) (push (p.functions m) vs w) (Waits f g k v ∷ cs) w)
          (begin_call m (after m) r (Waits f g k' v ∷ cs') w)) (same_push (lo.functions m) vs w)
          (begins m (push (p.functions m) vs w) w (fr_more f g v h t))

      defined : IsSome (p.functions m).body → IsSome (q.functions m).body →
          Related (invoke (p.functions m).body (p.functions m) m vs f g k v cs w) (invoke (q.functions m).body (q.functions m) m vs f g k' v cs' w)
      defined i j =
          subst (λ z. Related z (invoke (q.functions m).body (q.functions m) m vs f g k' v cs' w))
          (sym (invoke_items (p.functions m).body (p.functions m) m vs f g k v cs w i))
          (subst (λ z. Related (begin_call m (before m) (push (p.functions m) vs w) (Waits f g k v ∷ cs) w) z)
          (sym (invoke_items (q.functions m).body (q.functions m) m vs f g k' v cs' w j)) begun)

      outside : (b : Option Forest) → (p.functions m).body ≡ b → p.functions m ≡ q.functions m →
          Related (invoke (p.functions m).body (p.functions m) m vs f g k v cs w) (invoke (q.functions m).body (q.functions m) m vs f g k' v cs' w)
      outside (Some x) i j = defined (subst (λ z. IsSome z) (sym i) refl) (subst (λ z. IsSome z.body) j (subst (λ z. IsSome z) (sym i) refl))
      outside None i j =
          subst (λ z. Related (invoke (p.functions m).body (p.functions m) m vs f g k v cs w) (invoke z.body z m vs f g k' v cs' w)) j
          (subst (λ b. Related (invoke b (p.functions m) m vs f g k v cs w) (invoke b (p.functions m) m vs f g k' v cs' w)) (sym i)
          (settles f g v (call_without_body m (p.functions m) vs w) h t))

      at : Rewritten IsStraight (p.functions m) (q.functions m) → Related (invoke (p.functions m).body (p.functions m) m vs f g k v cs w)
          (invoke (q.functions m).body (q.functions m) m vs f g k' v cs' w)
      at (rw_same e) = outside (p.functions m).body refl e
      at (rw_by l) = defined l.defined l.new_defined

  -- ---- the end of a call

  call_dropped : {f : List ℕ} {k k' : List Task} → Call f k k' → is_dropped k ≡ is_dropped k'
  call_dropped (cl_same e) = refl
  call_dropped {f = f} (cl_straight l h) = tasks_dropped (before f) (after f) l.labels h

  leaves : (m : List ℕ) (x : Value) (w : World) {cs cs' : List Frame} → Frames cs cs' → Related (leave (p.functions m) x cs w) (leave (q.functions m) x cs' w)
  leaves m x w fr_none = subst (λ o. Related (settle (leave_entry (p.functions m) x w) [] no_guards [] [] []) (settle o [] no_guards [] [] []))
      (same_entry (lo.functions m) x w) (settles [] no_guards [] (leave_entry (p.functions m) x w) (idle []) fr_none)
  leaves m x w (fr_more f g v {k = k} {k' = k'} {cs = cs} {cs' = cs'} h t) =
      subst (λ o. Related (settle (leave_call (is_dropped k) (p.functions m) x w) f g k v cs) (settle o f g k' v cs'))
      (ap (λ b. leave_call b (p.functions m) x w) (call_dropped h) ∙ same_leave (lo.functions m) (is_dropped k') x w)
      (settles f g v (leave_call (is_dropped k) (p.functions m) x w) h t)

  returns : (f : List ℕ) (x : Value) (w : World) {cs cs' : List Frame} → Frames cs cs' →
      Related (leave (p.functions f) (returned (p.functions f) x) cs w) (leave (q.functions f) (returned (q.functions f) x) cs' w)
  returns f x w {cs = cs} {cs' = cs'} t =
      subst (λ y. Related (leave (p.functions f) (returned (p.functions f) x) cs w) (leave (q.functions f) y cs' w))
      (same_returned (lo.functions f) x) (leaves f (returned (p.functions f) x) w t)

  -- ---- functions that are the same

  module _ (f : List ℕ) (e : p.functions f ≡ q.functions f) where
    same_performs : (x : Effect) (g : Guards) (k : List Task) {cs cs' : List Frame} → Frames cs cs' → Related (perform p x f g k cs) (perform q x f g k cs')
    same_performs (Does os v w) g k t = rl_at f g v w (cl_same e) t
    same_performs (Fails u w) g k t = rl_trapped u w.events
    same_performs (Stops n w) g k t = rl_ended n w.events
    same_performs (Invokes m vs v w) g k t = invokes m vs f g v w (cl_same e) t
    same_performs (Leaves (Some x) w) g k t = returns f x w t
    same_performs (Leaves None w) g k t = leaves f (fallen f) w t

    pub same_moves : (x : View) (g : Guards) (v : List Value) (w : World) {cs cs' : List Frame} → Frames cs cs' →
        Related (move p x f g v cs w) (move q x f g v cs' w)
    same_moves Finishes g v w t = leaves f (fallen f) w t
    same_moves (Goes k) g v w t = rl_at f g v w (cl_same e) t
    same_moves (Guarding l b k) g v w t = rl_at f (with_guard l b g) v w (cl_same e) t
    same_moves (Yields n k) g v w t = rl_at f g (Value.Integer n ∷ v) w (cl_same e) t
    same_moves (Takes h) g v w t = rl_at f g (rest v) w (cl_same e) t
    same_moves (Arming l k) g v w t = rl_at f (with_guard l (holds (top v)) g) (rest v) w (cl_same e) t
    same_moves (Acts o k) g v w t = same_performs (effect o v w) g k t

  -- ---- joints

  abbrev pub Safe : State → Type 0
  Safe c = Unit {0}

  abbrev pub J : State → State → Type 0
  J c d = Joint (step p) (step q) Related Safe weight c d

  -- m + 1 steps of the first, n + 1 of the second
  go : (m n : ℕ) {c d : State} → Related (iterate (step p) m (step p c)) (iterate (step q) n (step q d)) → J c d
  go m n h = record { more = m; steps = suc n; related = h; pays = inl (omega arith); safe = λ i b. tt }

  -- one step of the first
  falls : {c d : State} → Related (step p c) d → weight (step p c) < weight c → J c d
  falls h b = record { more = 0; steps = 0; related = h; pays = inr b; safe = λ i c. tt }

  -- one further step of the second
  skip : {c d : State} → J c (step q d) → J c d
  skip j = record { more = j.more; steps = suc j.steps; related = j.related; pays = inl (omega arith); safe = λ i c. tt }

  module _ (f : List ℕ) (l : IsStraight (p.functions f) (q.functions f)) {cs cs' : List Frame} (t : Frames cs cs') (g : Guards) where
    abbrev A : Forest
    A = before f

    abbrev B : Forest
    B = after f

    abbrev s : ℕ → ℕ
    s = l.labels

    abbrev JC : List Task → List Task → List Value → World → Type 0
    JC k k' v w = J (At f g k v cs w) (At f g k' v cs' w)

    at_tasks : (v : List Value) (w : World) {k k' : List Task} → Tasks A B s k k' → Related (At f g k v cs w) (At f g k' v cs' w)
    at_tasks v w h = rl_at f g v w (cl_straight l h) t

    at_control : (v : List Value) (w : World) {k k' : List Task} → Control A B s k k' → Related (At f g k v cs w) (At f g k' v cs' w)
    at_control v w h = at_tasks v w (tk_control h)

    performs : (x : Effect) {k k' : List Task} → Tasks A B s k k' → Related (perform p x f g k cs) (perform q x f g k' cs')
    performs (Does os v w) h = at_tasks v w (tasks_works A B s os h)
    performs (Fails u w) h = rl_trapped u w.events
    performs (Stops n w) h = rl_ended n w.events
    performs (Invokes m vs v w) h = invokes m vs f g v w (cl_straight l h) t
    performs (Leaves (Some x) w) h = returns f x w t
    performs (Leaves None w) h = leaves f (fallen f) w t

    item : (v : List Value) (w : World) {x : Tree} {ys : Forest} {k k' : List Task} → StraightItem A s x ys → ArePlaced B ys k' → Control A B s k k' →
        JC (Runs x ∷ k) (items ys k') v w
    item v w (st_evaluate e) al h = go 0 0 (at_tasks v w (tk_works (Computes e) (tk_works Drops (tk_control h))))
    item v w (st_return (Some e)) al h = go 0 0 (at_tasks v w (tk_works (Computes e) (tk_works (Ends true) (tk_control h))))
    item v w (st_return None) al h = go 0 0 (at_tasks v w (tk_works (Ends false) (tk_control h)))
    item v w (st_note bs) al h = go 0 0 (at_control v w h)
    item v w (st_goto m n) al h = go 0 0 (at_control v w (located A B s m l.related l.placed l.new_placed n))
    item v w (st_mark m) al h = go 0 0 (at_control v w h)
    item v w (st_jump_if e m n) al h = go 1 1 (at_tasks v w (tk_works (Computes e) (tk_if (ct_item (st_goto m n) (tt, tt) h) h)))
    item v w (st_if e m n fa fb) al h = go 1 1
        (at_tasks v w (tk_works (Computes e) (tk_if (if_holds A B s e m n fa fb al h) (if_fails A B s e m n fa fb al h))))
    item v w (st_do e b fa) al h = go 0 0 (at_control v w (do_starts A B s e b fa al h))
    item v w (st_ever m fa) al h = go 3 0 (at_control v w (ever_starts A B s m fa al h))

    control : (v : List Value) (w : World) {k k' : List Task} → Control A B s k k' → JC k k' v w
    control v w ct_nil = go 0 0 (leaves f (fallen f) w t)
    control v w (ct_item fi al h) = item v w fi al h
    control v w (ct_while e m b n fa al h) = go 1 2
        (at_tasks v w (tk_works (Computes e) (tk_turns (WhileLoop (Source e) _) (while_turns A B s e m b n fa al h) (while_stops A B s e m b n fa al h))))
    control v w (ct_do e b {a = a} fa al h) =
        go 1 1 (at_tasks v w (tk_works (Computes e) (tk_turns (DoLoop a (Source e)) (ct_goto b al.0 (ct_item (st_do e b fa) al h)) h)))
    control v w (ct_skip m h) = skip (control v w h)
    control v w (ct_declares x h) = skip (control v w h)
    control v w (ct_goto m {k = k} e h) = skip (subst (λ z. JC k z v w) (sym e) (control v w h))
    control v w (ct_mark m h) = falls (at_control v w h) (omega arith)
    control v w (ct_loops e a h) = falls (at_control v w h) (omega arith)

    pub tasks : (v : List Value) (w : World) {k k' : List Task} → Tasks A B s k k' → JC k k' v w
    tasks v w (tk_control h) = control v w h
    tasks v w (tk_works o h) = go 0 0 (performs (effect o v w) h)
    tasks v w (tk_if h i) = go 0 0 (at_control (rest v) w (control_if A B s (holds (top v)) h i))
    tasks v w (tk_turns x h i) = go 0 0 (at_control (rest v) w (control_if A B s (holds (top v)) h i))

  pub joint : (c d : State) → Related c d → J c d
  joint c d (rl_at f g v w {k = k} {cs = cs} {cs' = cs'} (cl_same e) t) =
      go 0 0 (subst (λ h. Related (step p (At f g k v cs w)) (move q (view (items_of h) g k) f g v cs' w)) e (same_moves f e (view (before f) g k) g v w t))
  joint c d (rl_at f g v w (cl_straight l h) t) = tasks f l t g v w h
  joint c d (rl_ended n es) = go 0 0 (rl_ended n es)
  joint c d (rl_trapped u es) = go 0 0 (rl_trapped u es)
