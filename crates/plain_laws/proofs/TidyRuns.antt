-- A program and the one whose sections are in their plain form run in step.
use Rattle.std.proofs.Common.{ℕ, zero, suc, ℤ, pos, Bool, true, false, cond, List, [], ◌∷◌, map, IsSome, ◌↔◌, ◌≡◌, refl, sym, subst, Option, Some, None, option_map, Result, Ok, Err}
use Rattle.std.specs.Option.{option_map_or}
use Rattle.c_types.specs.declared.trap.Trap.{Trap}
use Rattle.c_tree.specs.TestTrees.{TestTree, Source, On, Off, AndOff, OrOn, SelectorTree, Selects, Pick}
use Rattle.c_tree.specs.Trees.{Tree, Forest, Nil, Evaluate, Return, If, While, Do, For, Switch, Block, Local, Break, Continue, Goto, Mark, Arm, Leap, Land}
use Rattle.jump_meaning.specs.Values.{Value, Integer, Event, integer}
use Rattle.jump_meaning.specs.Code.{FunctionTree, Code, items_of}
use Rattle.jump_meaning.specs.World.{World, Outcome, Gives, Traps, Exits, push, world_at_start}
use Rattle.jump_meaning.specs.Operations.{holds}
use Rattle.jump_meaning.specs.Known.{call_without_body}
use Rattle.jump_meaning.specs.Calls.{returned, fallen, leave_call, leave_entry}
use Rattle.jump_meaning.specs.Effects.{Op, Begins, Effect, Does, Fails, Stops, Invokes, Leaves, effect, top, rest}
use Rattle.jump_meaning.specs.Tasks.{WhileLoop, DoLoop, ForLoop, Task, Runs, Asks, AsksSelector}
use Rattle.jump_meaning.specs.Behaviour.{Covers}
use Rattle.jump_meaning.specs.Step.{Guards, no_guards, with_guard, switch_kind, Frame, Waits, State, At, HasEnded, HasTrapped, View, Finishes, Goes, Guarding, Yields, Takes, Arming, Acts, view, is_dropped, settle, leave, begin_call, invoke, perform, move, step}
use Rattle.jump_meaning.specs.Runs.{run, shows, start, jump_run, SameBehaviour}
use Rattle.jump_meaning.proofs.Covering.{covers_refl}
use Rattle.plain_laws.specs.Tidied.{tidy, tidy_item, tidy_function, tidy_code}
use Rattle.plain_laws.proofs.TidyTasks.{Tidies, ti_none, ti_runs, ti_break, ti_works, ti_asks, ti_branches, ti_turns, ti_loops, ti_heads, ti_arms, ti_selector, ti_enters, ti_ends, ti_out, items_tidy, works_tidy, choice_tidy, turn_tidy, dropped_tidy, cut_tidy, cut_to_tidy, drops_tidy, find_tidy, entry_tidy}

-- ---- views

data TidyView : View → View → Type 0 where
  tv_finishes : TidyView Finishes Finishes
  tv_goes : {k k' : List Task} → Tidies k k' → TidyView (Goes k) (Goes k')
  tv_guarding : (l : ℕ) (b : Bool) {k k' : List Task} → Tidies k k' → TidyView (Guarding l b k) (Guarding l b k')
  tv_yields : (n : ℤ) {k k' : List Task} → Tidies k k' → TidyView (Yields n k) (Yields n k')
  tv_takes : {h h' : Value → List Task} → ((v : Value) → Tidies (h v) (h' v)) → TidyView (Takes h) (Takes h')
  tv_arming : (l : ℕ) {k k' : List Task} → Tidies k k' → TidyView (Arming l k) (Arming l k')
  tv_acts : (o : Op) {k k' : List Task} → Tidies k k' → TidyView (Acts o k) (Acts o k')

view_choice : (c : Bool) {x x' y y' : View} → TidyView x x' → TidyView y y' → TidyView (cond c x y) (cond c x' y')
view_choice true p q = p
view_choice false p q = q

module _ (b : Forest) (g : Guards) where
  item_view : (x : Tree) {k k' : List Task} → Tidies k k' → TidyView (view b g (Runs x ∷ k)) (view (tidy b) g (Runs (tidy_item x) ∷ k'))
  item_view (Evaluate e) q = tv_goes (ti_works _ (ti_works _ q))
  item_view (Return None) q = tv_goes (ti_works _ q)
  item_view (Return (Some e)) q = tv_goes (ti_works _ (ti_works _ q))
  item_view (If t a c) q = tv_goes (ti_asks t (ti_branches a c q))
  item_view (While t a) q = tv_goes (ti_asks t (ti_turns (WhileLoop t a) q))
  item_view (Do a t) q = tv_goes (items_tidy a (ti_loops (DoLoop a t) q))
  item_view (For first t u a) q = tv_goes (items_tidy first (ti_heads t u a q))
  item_view (Switch s c) q = tv_goes (ti_selector s (ti_enters (switch_kind s) c q))
  item_view (Block a) q = tv_goes (items_tidy a q)
  item_view (Local x None) q = tv_goes q
  item_view (Local x (Some es)) q = tv_acts (Begins x es) q
  item_view Break q = tv_goes (cut_tidy q)
  item_view Continue q = tv_goes (cut_to_tidy q)
  item_view (Goto l) q = tv_goes (find_tidy l b)
  item_view (Mark l) q = tv_goes q
  item_view (Arm l None) q = tv_guarding l true q
  item_view (Arm l (Some e)) q = tv_goes (ti_works _ (ti_arms l q))
  item_view (Leap l) q = view_choice (g l) (tv_goes (find_tidy l b)) (tv_goes q)
  item_view (Land l) q = tv_guarding l false q
  item_view _ q = tv_goes q

  test_view : (t : TestTree) {k k' : List Task} → Tidies k k' → TidyView (view b g (Asks t ∷ k)) (view (tidy b) g (Asks t ∷ k'))
  test_view (Source e) q = tv_goes (ti_works _ q)
  test_view (On l) q = tv_yields _ q
  test_view (Off l) q = tv_yields _ q
  test_view (AndOff l t) q = view_choice (g l) (tv_yields (pos 0) q) (tv_goes (ti_asks t q))
  test_view (OrOn l t) q = view_choice (g l) (tv_yields (pos 1) q) (tv_goes (ti_asks t q))

  selector_view : (s : SelectorTree) {k k' : List Task} → Tidies k k' → TidyView (view b g (AsksSelector s ∷ k)) (view (tidy b) g (AsksSelector s ∷ k'))
  selector_view (Selects e) q = tv_goes (ti_works _ (ti_works _ q))
  selector_view (Pick l n s) q = view_choice (g l) (tv_yields n q) (tv_goes (ti_selector s q))

  view_tidy : {k k' : List Task} → Tidies k k' → TidyView (view b g k) (view (tidy b) g k')
  view_tidy ti_none = tv_finishes
  view_tidy (ti_runs x q) = item_view x q
  view_tidy (ti_break q) = tv_goes (cut_tidy q)
  view_tidy (ti_works o q) = tv_acts o q
  view_tidy (ti_asks t q) = test_view t q
  view_tidy (ti_branches a c q) = tv_takes (λ v. choice_tidy (holds v) (items_tidy a q) (items_tidy c q))
  view_tidy (ti_turns x q) = tv_takes (λ v. choice_tidy (holds v) (turn_tidy x q) q)
  view_tidy (ti_loops (WhileLoop t a) q) = tv_goes (ti_runs (While t a) q)
  view_tidy (ti_loops (DoLoop a t) q) = tv_goes (ti_asks t (ti_turns (DoLoop a t) q))
  view_tidy (ti_loops (ForLoop t u a) q) = tv_goes (dropped_tidy u (ti_heads t u a q))
  view_tidy (ti_heads None u a q) = tv_goes (items_tidy a (ti_loops (ForLoop None u a) q))
  view_tidy (ti_heads (Some e) u a q) = tv_goes (ti_works _ (ti_turns (ForLoop (Some e) u a) q))
  view_tidy (ti_arms l q) = tv_arming l q
  view_tidy (ti_selector s q) = selector_view s q
  view_tidy (ti_enters kind c q) = tv_takes (λ v. entry_tidy kind (integer v) c q)
  view_tidy (ti_ends q) = tv_goes (cut_tidy q)
  view_tidy (ti_out q) = tv_goes q

-- ---- states

data TidyFrames : List Frame → List Frame → Type 0 where
  tf_none : TidyFrames [] []
  tf_more : (f : List ℕ) (g : Guards) (v : List Value) {k k' : List Task} {cs cs' : List Frame} → Tidies k k' → TidyFrames cs cs' →
      TidyFrames (Waits f g k v ∷ cs) (Waits f g k' v ∷ cs')

data TidyState : State → State → Type 0 where
  ts_at : (f : List ℕ) (g : Guards) (v : List Value) (w : World) {k k' : List Task} {cs cs' : List Frame} → Tidies k k' → TidyFrames cs cs' →
      TidyState (At f g k v cs w) (At f g k' v cs' w)
  ts_ended : (n : ℤ) (es : List Event) → TidyState (HasEnded n es) (HasEnded n es)
  ts_trapped : (t : Trap) (es : List Event) → TidyState (HasTrapped t es) (HasTrapped t es)

settle_tidy : (o : Outcome) (f : List ℕ) (g : Guards) (v : List Value) {k k' : List Task} {cs cs' : List Frame} → Tidies k k' → TidyFrames cs cs' →
    TidyState (settle o f g k v cs) (settle o f g k' v cs')
settle_tidy (Gives x w) f g v q r = ts_at f g (x ∷ v) w q r
settle_tidy (Traps t w) f g v q r = ts_trapped t w.events
settle_tidy (Exits n w) f g v q r = ts_ended n w.events

leave_tidy : (h : FunctionTree) (x : Value) (w : World) {cs cs' : List Frame} → TidyFrames cs cs' → TidyState (leave h x cs w) (leave (tidy_function h) x cs' w)
leave_tidy h x w tf_none = settle_tidy (leave_entry h x w) [] no_guards [] ti_none tf_none
leave_tidy h x w (tf_more m g v {k = k} {k' = k'} {cs = cs} {cs' = cs'} p q) =
    subst (λ d. TidyState (settle (leave_call (is_dropped k) h x w) m g k v cs) (settle (leave_call d h x w) m g k' v cs')) (sym (drops_tidy p))
    (settle_tidy (leave_call (is_dropped k) h x w) m g v p q)

begin_tidy : (m : List ℕ) (a : Forest) (r : Result World Trap) (w : World) {cs cs' : List Frame} → TidyFrames cs cs' →
    TidyState (begin_call m a r cs w) (begin_call m (tidy a) r cs' w)
begin_tidy m a (Ok w) w' q = ts_at m no_guards [] w (items_tidy a ti_none) q
begin_tidy m a (Err t) w' q = ts_trapped t w'.events

invoke_tidy : (b : Option Forest) (h : FunctionTree) (m : List ℕ) (vs : List Value) (f : List ℕ) (g : Guards) (v : List Value) (w : World)
    {k k' : List Task} {cs cs' : List Frame} → Tidies k k' → TidyFrames cs cs'
    → TidyState (invoke b h m vs f g k v cs w) (invoke (option_map tidy b) (tidy_function h) m vs f g k' v cs' w)
invoke_tidy (Some a) h m vs f g v w p q = begin_tidy m a (push h vs w) w (tf_more f g v p q)
invoke_tidy None h m vs f g v w p q = settle_tidy (call_without_body m h vs w) f g v p q

items_of_tidy : (b : Option Forest) → option_map_or (λ a. a) (option_map tidy b) Nil ≡ tidy (option_map_or (λ a. a) b Nil)
items_of_tidy (Some a) = refl
items_of_tidy None = refl

module _ (p : Code) where
  perform_tidy : (x : Effect) (f : List ℕ) (g : Guards) {k k' : List Task} {cs cs' : List Frame} → Tidies k k' → TidyFrames cs cs' →
      TidyState (perform p x f g k cs) (perform (tidy_code p) x f g k' cs')
  perform_tidy (Does os v w) f g r s = ts_at f g v w (works_tidy os r) s
  perform_tidy (Fails t w) f g r s = ts_trapped t w.events
  perform_tidy (Stops n w) f g r s = ts_ended n w.events
  perform_tidy (Invokes m vs v w) f g r s = invoke_tidy (p.functions m).body (p.functions m) m vs f g v w r s
  perform_tidy (Leaves (Some x) w) f g r s = leave_tidy (p.functions f) (returned (p.functions f) x) w s
  perform_tidy (Leaves None w) f g r s = leave_tidy (p.functions f) (fallen f) w s

  move_tidy : {x x' : View} → TidyView x x' → (f : List ℕ) (g : Guards) (v : List Value) (w : World) {cs cs' : List Frame} → TidyFrames cs cs' →
      TidyState (move p x f g v cs w) (move (tidy_code p) x' f g v cs' w)
  move_tidy tv_finishes f g v w s = leave_tidy (p.functions f) (fallen f) w s
  move_tidy (tv_goes r) f g v w s = ts_at f g v w r s
  move_tidy (tv_guarding l b r) f g v w s = ts_at f (with_guard l b g) v w r s
  move_tidy (tv_yields n r) f g v w s = ts_at f g (Integer n ∷ v) w r s
  move_tidy (tv_takes h) f g v w s = ts_at f g (rest v) w (h (top v)) s
  move_tidy (tv_arming l r) f g v w s = ts_at f (with_guard l (holds (top v)) g) (rest v) w r s
  move_tidy (tv_acts o r) f g v w s = perform_tidy (effect o v w) f g r s

  step_tidy : {c d : State} → TidyState c d → TidyState (step p c) (step (tidy_code p) d)
  step_tidy (ts_at f g v w {k = k} {k' = k'} {cs = cs} {cs' = cs'} r s) =
      subst (λ b. TidyState (move p (view (items_of (p.functions f)) g k) f g v cs w) (move (tidy_code p) (view b g k') f g v cs' w))
      (sym (items_of_tidy (p.functions f).body))
      (move_tidy (view_tidy (items_of (p.functions f)) g r) f g v w s)
  step_tidy (ts_ended n es) = ts_ended n es
  step_tidy (ts_trapped t es) = ts_trapped t es

  run_tidy : (n : ℕ) {c d : State} → TidyState c d → TidyState (run p n c) (run (tidy_code p) n d)
  run_tidy zero h = h
  run_tidy (suc n) h = run_tidy n (step_tidy h)

  shows_tidy : {c d : State} → TidyState c d → shows c ≡ shows d
  shows_tidy (ts_at f g v w r s) = refl
  shows_tidy (ts_ended n es) = refl
  shows_tidy (ts_trapped t es) = refl

  start_tidy : (m : List ℕ) (arguments : List ℤ) (input : List ℕ) (answers : List ℤ) →
      TidyState (start p m arguments input answers) (start (tidy_code p) m arguments input answers)
  start_tidy m arguments input answers =
      let w = world_at_start p input answers in
      let r = push (p.functions m) (map Integer arguments) w in
      subst (λ b. TidyState (start p m arguments input answers) (begin_call m b r [] w)) (sym (items_of_tidy (p.functions m).body))
      (begin_tidy m (items_of (p.functions m)) r w tf_none)

  some_tidy : (b : Option Forest) → IsSome b ↔ IsSome (option_map tidy b)
  some_tidy (Some a) = ((λ h. refl), (λ h. refl))
  some_tidy None = ((λ h. h), (λ h. h))

  pub tidy_same : SameBehaviour p (tidy_code p)
  tidy_same = record {
    entries = λ m arguments. (
      (λ e. record { defined = (some_tidy (p.functions m).body).0 e.defined; numbers = e.numbers; given = e.given }),
      (λ e. record { defined = (some_tidy (p.functions m).body).1 e.defined; numbers = e.numbers; given = e.given }),
    );
    runs = λ m arguments e input answers.
        let same = λ (n : ℕ). shows_tidy (run_tidy n (start_tidy m arguments input answers)) in
        record {
          forth = λ n. (n, subst (λ z. Covers (jump_run p m arguments input answers n) z) (same n) (covers_refl (jump_run p m arguments input answers n)));
          back = λ n. (
            n,
            subst (λ z. Covers (jump_run (tidy_code p) m arguments input answers n) z) (sym (same n))
                (covers_refl (jump_run (tidy_code p) m arguments input answers n)),
          );
        };
  }
