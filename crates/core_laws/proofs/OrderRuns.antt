-- Programs that differ by Arms alone behave the same, where the first meets none.
use Rattle.std.proofs.Common.{ℕ, zero, suc, ℤ, List, [], ◌∷◌, map, take, All, IsSome, IsNone, ◌↔◌, ◌≡◌, refl, sym, ap, ◌∙◌, subst, None, Option, Some, Result, Ok, Err}
use Rattle.std.specs.Option.{option_map_or}
use Rattle.c_types.specs.declared.trap.Trap.{Trap}
use Rattle.c_tree.specs.Trees.{Tree, Forest, Nil, Arm}
use Rattle.jump_meaning.specs.Values.{Value, Integer}
use Rattle.jump_meaning.specs.Code.{FunctionTree, Code, items_of}
use Rattle.jump_meaning.specs.World.{World, push, world_at_start}
use Rattle.jump_meaning.specs.Operations.{holds}
use Rattle.jump_meaning.specs.Known.{call_without_body}
use Rattle.jump_meaning.specs.Calls.{returned, fallen, leave_call, leave_entry}
use Rattle.jump_meaning.specs.Effects.{Effect, Does, Fails, Stops, Invokes, Leaves, effect, top, rest}
use Rattle.jump_meaning.specs.Tasks.{Task, Runs}
use Rattle.jump_meaning.specs.Behaviour.{Covers}
use Rattle.jump_meaning.specs.Step.{Guards, no_guards, with_guard, Frame, Waits, State, View, is_dropped, settle, leave, begin_call, invoke, perform, move, step}
use Rattle.jump_meaning.specs.Runs.{run, shows, IsEntry, start, jump_run, SameBehaviour}
use Rattle.jump_meaning.proofs.Covering.{covers_refl}
use Rattle.core_laws.specs.Better.{le_leaf, le_arm, LeAll, le_nil, LeBody, le_no_body, le_body, LeFunction, LeCode}
use Rattle.core_laws.proofs.Match.{IsNoArm, SafeAt}
use Rattle.core_laws.proofs.Same.{same_world}
use Rattle.core_laws.proofs.Faces.{HaveSameFace, push_alike, entry_alike, call_alike, returned_alike, without_body_alike, same_entries}
use Rattle.core_laws.proofs.Order.{le_runs, LeTasks, le_no_task, le_task, LeFrames, le_no_frame, le_frame, LeState, le_at, le_ended, le_trapped, items_le, works_le, settle_le, dropped_alike, LeView, le_finishes, le_goes, le_guarding, le_yields, le_takes, le_arming, le_acts, view_le}

-- ---- calls

face : {f h : FunctionTree} → LeFunction f h → HaveSameFace f h
face le = record { result = le.result; params = le.params; slots = le.slots }

module _ {f h : FunctionTree} (le : LeFunction f h) where
  leave_le : (x : Value) (w : World) {cs cs' : List Frame} → LeFrames cs cs' → LeState (leave f x cs w) (leave h x cs' w)
  leave_le x w le_no_frame = subst (λ o. LeState (leave f x [] w) (settle o [] no_guards [] [] [])) (entry_alike (face le) x w)
      (settle_le (leave_entry f x w) [] no_guards [] le_no_task le_no_frame)
  leave_le x w (le_frame m g v {k = k} {k' = k'} {cs = cs} {cs' = cs'} p q) =
      subst (λ o. LeState (leave f x (Waits m g k v ∷ cs) w) (settle o m g k' v cs'))
      (ap (λ d. leave_call d f x w) (dropped_alike p) ∙ call_alike (face le) (is_dropped k') x w)
      (settle_le (leave_call (is_dropped k) f x w) m g v p q)

begin_le : (m : List ℕ) (r : Result World Trap) (w : World) {a a' : Forest} {cs cs' : List Frame} → LeAll a a' → LeFrames cs cs' →
    LeState (begin_call m a r cs w) (begin_call m a' r cs' w)
begin_le m (Ok w) w' p q = le_at m no_guards [] w (items_le p le_no_task) q
begin_le m (Err t) w' p q = le_trapped t w'.events

invoke_le : {b b' : Option Forest} → LeBody b b' → {h h' : FunctionTree} → LeFunction h h' →
    (m : List ℕ) (vs : List Value) (f : List ℕ) (g : Guards) (v : List Value) (w : World) {k k' : List Task} {cs cs' : List Frame} → LeTasks k k' →
    LeFrames cs cs'
    → LeState (invoke b h m vs f g k v cs w) (invoke b' h' m vs f g k' v cs' w)
invoke_le (le_body {a = a} {a' = a'} e) {h = h} {h' = h'} le m vs f g v w {k = k} {k' = k'} {cs = cs} {cs' = cs'} p q =
    subst (λ r. LeState (invoke (Some a) h m vs f g k v cs w) (begin_call m a' r (Waits f g k' v ∷ cs') w)) (push_alike (face le) vs w)
    (begin_le m (push h vs w) w e (le_frame f g v p q))
invoke_le le_no_body {h = h} {h' = h'} le m vs f g v w {k = k} {k' = k'} {cs = cs} {cs' = cs'} p q =
    subst (λ o. LeState (invoke None h m vs f g k v cs w) (settle o f g k' v cs')) (without_body_alike (face le) m vs w)
    (settle_le (call_without_body m h vs w) f g v p q)

body_le : {b b' : Option Forest} → LeBody b b' → LeAll (option_map_or (λ a. a) b Nil) (option_map_or (λ a. a) b' Nil)
body_le (le_body e) = e
body_le le_no_body = le_nil

some_le : {b b' : Option Forest} → LeBody b b' → IsSome b ↔ IsSome b'
some_le (le_body e) = ((λ h. refl), (λ h. refl))
some_le le_no_body = ((λ h. h), (λ h. h))

-- ---- steps and runs

module _ (p q : Code) (le : LeCode p q) where
  perform_le : (x : Effect) (f : List ℕ) (g : Guards) {k k' : List Task} {cs cs' : List Frame} → LeTasks k k' → LeFrames cs cs' →
      LeState (perform p x f g k cs) (perform q x f g k' cs')
  perform_le (Does os v w) f g r s = le_at f g v w (works_le os r) s
  perform_le (Fails t w) f g r s = le_trapped t w.events
  perform_le (Stops n w) f g r s = le_ended n w.events
  perform_le (Invokes m vs v w) f g r s = invoke_le (le.functions m).body (le.functions m) m vs f g v w r s
  perform_le (Leaves (Some x) w) f g {cs = cs} {cs' = cs'} r s =
      subst (λ y. LeState (leave (p.functions f) (returned (p.functions f) x) cs w) (leave (q.functions f) y cs' w))
      (returned_alike (face (le.functions f)) x) (leave_le (le.functions f) (returned (p.functions f) x) w s)
  perform_le (Leaves None w) f g r s = leave_le (le.functions f) (fallen f) w s

  move_le : {x x' : View} → LeView x x' → (f : List ℕ) (g : Guards) (v : List Value) (w : World) {cs cs' : List Frame} → LeFrames cs cs' →
      LeState (move p x f g v cs w) (move q x' f g v cs' w)
  move_le le_finishes f g v w s = leave_le (le.functions f) (fallen f) w s
  move_le (le_goes r) f g v w s = le_at f g v w r s
  move_le (le_guarding l b r) f g v w s = le_at f (with_guard l b g) v w r s
  move_le (le_yields n r) f g v w s = le_at f g (Integer n ∷ v) w r s
  move_le (le_takes h) f g v w s = le_at f g (rest v) w (h (top v)) s
  move_le (le_arming l r) f g v w s = le_at f (with_guard l (holds (top v)) g) (rest v) w r s
  move_le (le_acts o r) f g v w s = perform_le (effect o v w) f g r s

  step_le : {c d : State} → LeState c d → SafeAt c → LeState (step p c) (step q d)
  step_le (le_at f g v w r s) z = move_le (view_le (body_le (le.functions f).body) g r z) f g v w s
  step_le (le_ended n es) z = le_ended n es
  step_le (le_trapped t es) z = le_trapped t es

  run_le : (n : ℕ) {c d : State} → LeState c d → ((i : ℕ) → SafeAt (run p i c)) → LeState (run p n c) (run q n d)
  run_le zero h z = h
  run_le (suc n) h z = run_le n (step_le h (z 0)) (λ i. z (suc i))

  start_le : (m : List ℕ) (arguments : List ℤ) (input : List ℕ) (answers : List ℤ) →
      LeState (start p m arguments input answers) (start q m arguments input answers)
  start_le m arguments input answers =
      let vs = map Integer arguments in
      let w = world_at_start p input answers in
      let e = same_world p q le.globals le.cells input answers in
      subst (λ u. LeState (start p m arguments input answers) (begin_call m (items_of (q.functions m)) (push (q.functions m) vs u) [] u)) e
      (subst (λ r. LeState (start p m arguments input answers) (begin_call m (items_of (q.functions m)) r [] w)) (push_alike (face (le.functions m)) vs w)
      (begin_le m (push (p.functions m) vs w) w (body_le (le.functions m).body) le_no_frame))

  entries_le : (m : List ℕ) (arguments : List ℤ) → IsEntry p m arguments ↔ IsEntry q m arguments
  entries_le m arguments = same_entries p q m (face (le.functions m)) (some_le (le.functions m).body) arguments

  shows_le : {c d : State} → LeState c d → shows c ≡ shows d
  shows_le (le_at f g v w r s) = refl
  shows_le (le_ended n es) = refl
  shows_le (le_trapped t es) = refl

  abbrev IsSafeFrom : List ℕ → List ℤ → List ℕ → List ℤ → Type 0
  IsSafeFrom m arguments input answers = (n : ℕ) → SafeAt (run p n (start p m arguments input answers))

  module _ (safe : (m : List ℕ) (arguments : List ℤ) → IsEntry p m arguments → (input : List ℕ) (answers : List ℤ) → IsSafeFrom m arguments input answers) where
    runs_le : (m : List ℕ) (arguments : List ℤ) → IsEntry p m arguments → (input : List ℕ) (answers : List ℤ) (n : ℕ) →
        LeState (run p n (start p m arguments input answers)) (run q n (start q m arguments input answers))
    runs_le m arguments e input answers n = run_le n (start_le m arguments input answers) (safe m arguments e input answers)

    pub same_le : SameBehaviour p q
    same_le = record {
      entries = entries_le;
      runs = λ m arguments e input answers.
          let alike = λ (n : ℕ). shows_le (runs_le m arguments e input answers n) in
          record {
            forth = λ n. (n, subst (λ z. Covers (jump_run p m arguments input answers n) z) (alike n) (covers_refl (jump_run p m arguments input answers n)));
            back = λ n. (
              n,
              subst (λ z. Covers (jump_run q m arguments input answers n) z) (sym (alike n))
                  (covers_refl (jump_run q m arguments input answers n)),
            );
          };
    }

    safe_leaf : (x : Tree) (k k' : List Task) → IsNoArm (Runs x ∷ k) → IsNoArm (Runs x ∷ k')
    safe_leaf (Arm l e) k k' z = absurd z
    safe_leaf _ k k' z = tt

    safe_tasks : {k k' : List Task} → LeTasks k k' → IsNoArm k → IsNoArm k'
    safe_tasks le_no_task z = tt
    safe_tasks (le_task {k = k} {k' = k'} (le_runs (le_leaf x h)) r) z = safe_leaf x k k' z
    safe_tasks (le_task (le_runs (le_arm l)) r) z = tt
    safe_tasks (le_task _ r) z = tt

    safe_state : {c d : State} → LeState c d → SafeAt c → SafeAt d
    safe_state (le_at f g v w r s) z = safe_tasks r z
    safe_state (le_ended n es) z = tt
    safe_state (le_trapped t es) z = tt

    -- the second meets no Arm either
    pub safe_on : (m : List ℕ) (arguments : List ℤ) → IsEntry q m arguments → (input : List ℕ) (answers : List ℤ) (n : ℕ) →
        SafeAt (run q n (start q m arguments input answers))
    safe_on m arguments e input answers n = let e' = (entries_le m arguments).1 e in
        safe_state (runs_le m arguments e' input answers n) (safe m arguments e' input answers n)
