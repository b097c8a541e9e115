-- A program without guards that nothing reads goes along with the program.
use mathlib.Core.Path.{ap₂}
use Rattle.std.proofs.Common.{ℕ, ℤ, pos, Bool, true, false, not, cond, List, [], ◌∷◌, eqb, Option, Some, None, option_map, Result, Ok, Err, ◌≡◌, refl, ap, sym, ◌∙◌, subst, eqb-true, true≢false}
use Rattle.std.specs.Option.{option_map_or}
use Rattle.std.proofs.lemmas.Bool.{false_from_ne_true}
use Rattle.c_types.specs.declared.trap.Trap.{Trap}
use Rattle.c_types.specs.Numbers.{promoted}
use Rattle.c_tree.specs.Operators.{truth}
use Rattle.c_tree.specs.Constants.{kind_of}
use Rattle.c_tree.specs.ExpressionTrees.{ExpressionTree}
use Rattle.c_tree.specs.TestTrees.{TestTree, Source, On, Off, AndOff, OrOn, SelectorTree, Selects, Pick}
use Rattle.c_tree.specs.Trees.{Tree, Forest, Nil, Evaluate, Return, If, While, Do, For, Switch, Block, Local, Break, Continue, Goto, Mark, Arm, Leap, Land, Arrival, Note}
use Rattle.c_tree.specs.Everywhere.{Everywhere}
use Rattle.c_tree.specs.Changed.{one}
use Rattle.jump_meaning.specs.Values.{Value, Integer, Event, integer}
use Rattle.jump_meaning.specs.Code.{FunctionTree, Code}
use Rattle.jump_meaning.specs.World.{World, Outcome, Gives, Traps, Exits, push}
use Rattle.jump_meaning.specs.Operations.{holds, operand_kind}
use Rattle.jump_meaning.specs.Known.{call_without_body}
use Rattle.jump_meaning.specs.Calls.{returned, fallen, leave_call, leave_entry}
use Rattle.jump_meaning.specs.Effects.{Op, Computes, Drops, Converts, Begins, Effect, Does, Fails, Stops, Invokes, Leaves, effect, top, rest}
use Rattle.jump_meaning.specs.Effects as Effects
use Rattle.jump_meaning.specs.Tasks.{WhileLoop, DoLoop, ForLoop, Task, Runs, Works, Asks, Branches, Turns, Loops, Heads, Arms, AsksSelector, Enters, EndsSection, Out, items, works, turn, cut, cut_to}
use Rattle.jump_meaning.specs.Search.{find, entry}
use Rattle.jump_meaning.specs.Step.{Guards, no_guards, with_guard, switch_kind, Frame, Waits, State, At, HasEnded, HasTrapped, Goes, Yields, dropped, is_dropped, settle, leave, begin_call, invoke, perform, move, step}
use Rattle.jump_meaning.proofs.Growth.{either}
use Rattle.core_laws.proofs.Reach.{Reach, stay, more, body_in}
use Rattle.core_laws.proofs.Faces.{HaveSameFace, push_alike, entry_alike, call_alike, returned_alike, without_body_alike}
use Rattle.core_laws.proofs.Sides.{SureAt}
use Rattle.core_laws.proofs.All.{Plain, AllTasks, undropped_items, op_dropped}
use Rattle.move_laws.specs.Drops.{dropped_item, Stays, IsUnread}
use Rattle.move_laws.specs.Drops as Without
use Rattle.move_laws.proofs.DroppedTasks.{arms_drop, task_drop, drop_items, drop_works, drop_cond, drop_turn, drop_cut, drop_cut_to, drop_find, drop_entry}
use Rattle.move_laws.proofs.LiveTasks.{IsNoCall, EffectNoCall, effect_no_call, Fits, AreLive, live_works, fits_other, fits_quiet, last_fits, live_items, live_turn, live_cut, live_cut_to, live_dropped, live_find, live_entry}
use Rattle.move_laws.proofs.DroppedWays.{drop_lands}

-- the second function is the first without the guards
pub record IsDropped (d : ℕ → Bool) (f h : FunctionTree) : Type 0 where
  pub face : HaveSameFace f h
  pub body : h.body ≡ option_map (Without.dropped d) f.body

items_dropped : (d : ℕ → Bool) (a b : Option Forest) → b ≡ option_map (Without.dropped d) a →
    option_map_or (λ a. a) b Nil ≡ Without.dropped d (option_map_or (λ a. a) a Nil)
items_dropped d (Some a) b e = ap (λ o. option_map_or (λ a. a) o Nil) e
items_dropped d None b e = ap (λ o. option_map_or (λ a. a) o Nil) e

-- no fact of items: what is known of tasks alone
abbrev pub NoFact : List ℕ → Tree → List Task → Type 0
NoFact f x k = Unit {0}

-- guards agree on the labels that stay
abbrev pub AgreeOn : (ℕ → Bool) → Guards → Guards → Type 0
AgreeOn d g h = (l : ℕ) → d l ≡ false → g l ≡ h l

same_guard : (l : ℕ) (b : Bool) (d : ℕ → Bool) (g h : Guards) → AgreeOn d g h → AgreeOn d (with_guard l b g) (with_guard l b h)
same_guard l b d g h a x e = ap (cond (eqb l x) b) (a x e)

lone_guard : (l : ℕ) (b : Bool) (d : ℕ → Bool) (g h : Guards) → d l ≡ true → AgreeOn d g h → AgreeOn d (with_guard l b g) h
lone_guard l b d g h t a x e = at_x (eqb l x) refl
  where
    at_x : (y : Bool) → eqb l x ≡ y → cond y b (g x) ≡ h x
    at_x true q = absurd (true≢false (sym t ∙ ap d (eqb-true l x q) ∙ e))
    at_x false q = a x e

-- ---- whether a value is dropped

undropped_tasks : (d : ℕ → Bool) (k : List Task) → Plain k → is_dropped (task_drop d k) ≡ false
undropped_tasks d [] h = refl
undropped_tasks d (Runs x ∷ k) h = undropped_items (dropped_item d x) (task_drop d k) (undropped_tasks d k h)
undropped_tasks d (Loops x ∷ k) h = refl
undropped_tasks d (Heads t u a ∷ k) h = refl
undropped_tasks d (EndsSection ∷ k) h = refl
undropped_tasks d (Out ∷ k) h = refl
undropped_tasks d (_ ∷ k) h = absurd h

undropped_arms : (b : Bool) (l : ℕ) (k : List Task) → b ≡ false → is_dropped (arms_drop b l ∷ k) ≡ false
undropped_arms true l k e = absurd (true≢false e)
undropped_arms false l k e = refl

drop_seen : (d : ℕ → Bool) (f : List ℕ) (o : Op) (k : List Task) → Fits d o k → (IsNoCall o → ⊥) → AllTasks NoFact f k →
    is_dropped (task_drop d k) ≡ is_dropped k
drop_seen d f o [] i n h = refl
drop_seen d f o (Runs x ∷ k) i n h = undropped_tasks d (Runs x ∷ k) h.1.0
drop_seen d f o (Works p ∷ k) i n h = op_dropped p (task_drop d k) k
drop_seen d f o (Asks t ∷ k) i n h = refl
drop_seen d f o (Branches a b ∷ k) i n h = refl
drop_seen d f o (Turns x ∷ k) i n h = refl
drop_seen d f o (Loops x ∷ k) i n h = refl
drop_seen d f o (Heads t u a ∷ k) i n h = refl
drop_seen d f o (Arms l ∷ k) i n h = undropped_arms (d l) l (task_drop d k) (false_from_ne_true (d l) (λ e. n (i e)))
drop_seen d f o _ i n h = refl

-- ---- the two programs

module _ (D : List ℕ → ℕ → Bool) (p q : Code) (without : (m : List ℕ) → IsDropped (D m) (p.functions m) (q.functions m))
    (unread : (m : List ℕ) → Everywhere (IsUnread (D m)) (body_in p m)) where
  pub data LikeFrames : List Frame → List Frame → Type 0 where
    no_frame : LikeFrames [] []
    frame : (f : List ℕ) (g h : Guards) (k : List Task) (v : List Value) {cs ds : List Frame} → AgreeOn (D f) g h → AreLive (D f) k →
        is_dropped (task_drop (D f) k) ≡ is_dropped k → LikeFrames cs ds
        → LikeFrames (Waits f g k v ∷ cs) (Waits f h (task_drop (D f) k) v ∷ ds)

  pub data Like : State → State → Type 0 where
    like_at : (f : List ℕ) (g h : Guards) (k : List Task) (v : List Value) (w : World) {cs ds : List Frame} → AgreeOn (D f) g h → AreLive (D f) k →
        LikeFrames cs ds → Like (At f g k v cs w) (At f h (task_drop (D f) k) v ds w)
    like_ended : (n : ℤ) (es : List Event) → Like (HasEnded n es) (HasEnded n es)
    like_trapped : (t : Trap) (es : List Event) → Like (HasTrapped t es) (HasTrapped t es)

  abbrev Any : State → Type 0
  Any c = Unit {0}

  -- the first goes some steps, then one beside the second
  pub record Beside (c e : State) : Type 0 where
    pub pre : State
    pub way : Reach p Any c pre
    pub like : Like (step p pre) (step q e)
    pub sure : SureAt pre → SureAt e

  at_once : (c e : State) → Like (step p c) (step q e) → (SureAt c → SureAt e) → Beside c e
  at_once c e l z = record { pre = c; way = stay; like = l; sure = z }

  ahead : (c e : State) → Beside (step p c) e → Beside c e
  ahead c e b = record { pre = b.pre; way = more tt b.way; like = b.like; sure = b.sure }

  like_to : (f : List ℕ) (g h : Guards) (k kk : List Task) (v : List Value) (w : World) {cs ds : List Frame} → AgreeOn (D f) g h → AreLive (D f) k →
      LikeFrames cs ds → kk ≡ task_drop (D f) k → Like (At f g k v cs w) (At f h kk v ds w)
  like_to f g h k kk v w {cs = cs} {ds = ds} a r s e = subst (λ z. Like (At f g k v cs w) (At f h z v ds w)) (sym e) (like_at f g h k v w a r s)

  pub same_body : (f : List ℕ) → body_in q f ≡ Without.dropped (D f) (body_in p f)
  same_body f = items_dropped (D f) (p.functions f).body (q.functions f).body (without f).body

  like_settle : (o : Outcome) (f : List ℕ) (g h : Guards) (k : List Task) (v : List Value) {cs ds : List Frame} → AgreeOn (D f) g h →
      AreLive (D f) k → LikeFrames cs ds → Like (settle o f g k v cs) (settle o f h (task_drop (D f) k) v ds)
  like_settle (Gives x w) f g h k v a r s = like_at f g h k (x ∷ v) w a r s
  like_settle (Traps t w) f g h k v a r s = like_trapped t w.events
  like_settle (Exits n w) f g h k v a r s = like_ended n w.events

  like_leave : (m : List ℕ) (x : Value) (w : World) {cs ds : List Frame} → LikeFrames cs ds → Like (leave (p.functions m) x cs w) (leave (q.functions m) x ds w)
  like_leave m x w no_frame =
      subst (λ o. Like (leave (p.functions m) x [] w) (settle o [] no_guards [] [] [])) (entry_alike (without m).face x w)
      (like_settle (leave_entry (p.functions m) x w) [] no_guards no_guards [] [] (λ l e. refl) tt no_frame)
  like_leave m x w (frame f g h k v {cs = cs} {ds = ds} a r e s) =
      subst (λ o. Like (leave (p.functions m) x (Waits f g k v ∷ cs) w) (settle o f h (task_drop (D f) k) v ds))
      (ap (λ b. leave_call b (p.functions m) x w) (sym e) ∙ call_alike (without m).face (is_dropped (task_drop (D f) k)) x w)
      (like_settle (leave_call (is_dropped k) (p.functions m) x w) f g h k v a r s)

  like_returned : (m : List ℕ) (x : Value) (w : World) {cs ds : List Frame} → LikeFrames cs ds →
      Like (leave (p.functions m) (returned (p.functions m) x) cs w) (leave (q.functions m) (returned (q.functions m) x) ds w)
  like_returned m x w {cs = cs} {ds = ds} s =
      subst (λ y. Like (leave (p.functions m) (returned (p.functions m) x) cs w) (leave (q.functions m) y ds w)) (returned_alike (without m).face x)
      (like_leave m (returned (p.functions m) x) w s)

  pub like_begin : (m : List ℕ) (a : Forest) (r : Result World Trap) (w : World) {cs ds : List Frame} → Everywhere (IsUnread (D m)) a →
      LikeFrames cs ds → Like (begin_call m a r cs w) (begin_call m (Without.dropped (D m) a) r ds w)
  like_begin m a (Ok w) w' u s = like_to m no_guards no_guards (items a []) _ [] w (λ l e. refl) (live_items (D m) a [] u tt) s (sym (drop_items (D m) a []))
  like_begin m a (Err t) w' u s = like_trapped t w'.events

  -- a call of m by whether it has a body
  like_invoke : (b b' : Option Forest) (m : List ℕ) → b' ≡ option_map (Without.dropped (D m)) b →
      Everywhere (IsUnread (D m)) (option_map_or (λ a. a) b Nil) → (vs : List Value) (f : List ℕ) (g h : Guards) (k : List Task) (v : List Value)
      (w : World) {cs ds : List Frame}
      → AgreeOn (D f) g h → AreLive (D f) k → is_dropped (task_drop (D f) k) ≡ is_dropped k → LikeFrames cs ds →
      Like (invoke b (p.functions m) m vs f g k v cs w) (invoke b' (q.functions m) m vs f h (task_drop (D f) k) v ds w)
  like_invoke (Some a) b' m e u vs f g h k v w {cs = cs} {ds = ds} ag r i s =
      subst (λ z. Like (invoke (Some a) (p.functions m) m vs f g k v cs w) (invoke z (q.functions m) m vs f h (task_drop (D f) k) v ds w)) (sym e)
      (subst (λ z. Like (invoke (Some a) (p.functions m) m vs f g k v cs w)
      (begin_call m (Without.dropped (D m) a) z (Waits f h (task_drop (D f) k) v ∷ ds) w)) (push_alike (without m).face vs w)
      (like_begin m a (push (p.functions m) vs w) w u (frame f g h k v ag r i s)))
  like_invoke None b' m e u vs f g h k v w {cs = cs} {ds = ds} ag r i s =
      subst (λ z. Like (invoke None (p.functions m) m vs f g k v cs w) (invoke z (q.functions m) m vs f h (task_drop (D f) k) v ds w)) (sym e)
      (subst (λ z. Like (invoke None (p.functions m) m vs f g k v cs w) (settle z f h (task_drop (D f) k) v ds)) (without_body_alike (without m).face m vs w)
      (like_settle (call_without_body m (p.functions m) vs w) f g h k v ag r s))

  -- what the operation o comes to, before tasks that it fits
  like_perform : (o : Op) (x : Effect) → (IsNoCall o → EffectNoCall x) → (f : List ℕ) (g h : Guards) (k : List Task) {cs ds : List Frame} →
      AgreeOn (D f) g h → AreLive (D f) k → Fits (D f) o k → AllTasks NoFact f k → LikeFrames cs ds
      → Like (perform p x f g k cs) (perform q x f h (task_drop (D f) k) ds)
  like_perform o (Does os v w) n f g h k a r i t s = like_to f g h (works os k) _ v w a (live_works (D f) os k (last_fits (D f) o k os i n) r) s
      (drop_works (D f) os k)
  like_perform o (Fails t' w) n f g h k a r i t s = like_trapped t' w.events
  like_perform o (Stops m w) n f g h k a r i t s = like_ended m w.events
  like_perform o (Invokes m vs v w) n f g h k a r i t s = like_invoke (p.functions m).body (q.functions m).body m (without m).body (unread m) vs f g h
      k v w a r (drop_seen (D f) f o k i n t) s
  like_perform o (Leaves (Some x) w) n f g h k a r i t s = like_returned f x w s
  like_perform o (Leaves None w) n f g h k a r i t s = like_leave f (fallen f) w s

  jump_tasks : (l : ℕ) (f : List ℕ) → Stays (D f) l → find l (body_in q f) ≡ task_drop (D f) (find l (body_in p f))
  jump_tasks l f e = ap (find l) (same_body f) ∙ drop_find (D f) l e (body_in p f)

  module _ (f : List ℕ) (cs ds : List Frame) (s : LikeFrames cs ds) (w : World) where
    abbrev d : ℕ → Bool
    d = D f

    abbrev Goal : List Task → Type 0
    Goal k = (g h : Guards) (v : List Value) → AgreeOn d g h → AreLive d k → Beside (At f g k v cs w) (At f h (task_drop d k) v ds w)

    go_arm : (l : ℕ) (k : List Task) (b : Bool) → d l ≡ b → Goal k → (g h : Guards) (v : List Value) → AgreeOn d g h → AreLive d k →
        Beside (At f g (Runs (Arm l None) ∷ k) v cs w) (At f h (items (cond b Nil (one (Arm l None))) (task_drop d k)) v ds w)
    go_arm l k true e gk g h v a r = ahead _ _ (gk (with_guard l true g) h v (lone_guard l true d g h e a) r)
    go_arm l k false e gk g h v a r = at_once _ _ (like_at f _ _ k v w (same_guard l true d g h a) r s) (drop_lands d l e k)

    go_land : (l : ℕ) (k : List Task) (b : Bool) → d l ≡ b → Goal k → (g h : Guards) (v : List Value) → AgreeOn d g h → AreLive d k →
        Beside (At f g (Runs (Land l) ∷ k) v cs w) (At f h (items (cond b Nil (one (Land l))) (task_drop d k)) v ds w)
    go_land l k true e gk g h v a r = ahead _ _ (gk (with_guard l false g) h v (lone_guard l false d g h e a) r)
    go_land l k false e gk g h v a r = at_once _ _ (like_at f _ _ k v w (same_guard l false d g h a) r s) (λ z. tt)

    go_arm_if : (l : ℕ) (e : ExpressionTree) (k : List Task) (b : Bool) → d l ≡ b → (g h : Guards) (v : List Value) → AgreeOn d g h →
        AreLive d (Works (Computes e) ∷ Arms l ∷ k)
        → Beside (At f g (Runs (Arm l (Some e)) ∷ k) v cs w) (At f h (items (cond b (one (Evaluate e)) (one (Arm l (Some e)))) (task_drop d k)) v ds w)
    go_arm_if l e k true t g h v a r = at_once _ _ (like_to f g h (Works (Computes e) ∷ Arms l ∷ k) _ v w a r s
        (ap (λ b. Works (Computes e) ∷ arms_drop b l ∷ task_drop d k) (sym t))) (λ z. tt)
    go_arm_if l e k false t g h v a r = at_once _ _ (like_to f g h (Works (Computes e) ∷ Arms l ∷ k) _ v w a r s
        (ap (λ b. Works (Computes e) ∷ arms_drop b l ∷ task_drop d k) (sym t))) (λ z. tt)

    go_arms : (l : ℕ) (k : List Task) (b : Bool) → d l ≡ b → (g h : Guards) (v : List Value) → AgreeOn d g h → AreLive d k →
        Beside (At f g (Arms l ∷ k) v cs w) (At f h (arms_drop b l ∷ task_drop d k) v ds w)
    go_arms l k true e g h v a r = at_once _ _ (like_at f _ _ k (rest v) w (lone_guard l (holds (top v)) d g h e a) r s) (λ z. tt)
    go_arms l k false e g h v a r = at_once _ _ (like_at f _ _ k (rest v) w (same_guard l (holds (top v)) d g h a) r s) (λ z y. drop_lands d l e k (z y))

    go_leap : (l : ℕ) (k : List Task) (b : Bool) (g h : Guards) (v : List Value) → Stays d l → AgreeOn d g h → AreLive d k
        → Like (move p (cond b (Goes (find l (body_in p f))) (Goes k)) f g v cs w)
        (move q (cond b (Goes (find l (body_in q f))) (Goes (task_drop d k))) f h v ds w)
    go_leap l k true g h v e a r = like_to f g h (find l (body_in p f)) _ v w a (live_find d l (body_in p f) (unread f)) s (jump_tasks l f e)
    go_leap l k false g h v e a r = like_at f g h k v w a r s

    go_and : (t : TestTree) (k : List Task) (b : Bool) (g h : Guards) (v : List Value) → AgreeOn d g h → AreLive d (Asks t ∷ k)
        → Like (move p (cond b (Yields (pos 0) k) (Goes (Asks t ∷ k))) f g v cs w)
        (move q (cond b (Yields (pos 0) (task_drop d k)) (Goes (Asks t ∷ task_drop d k))) f h v ds w)
    go_and t k true g h v a r = like_at f g h k _ w a r.1 s
    go_and t k false g h v a r = like_at f g h (Asks t ∷ k) v w a r s

    go_or : (t : TestTree) (k : List Task) (b : Bool) (g h : Guards) (v : List Value) → AgreeOn d g h → AreLive d (Asks t ∷ k)
        → Like (move p (cond b (Yields (pos 1) k) (Goes (Asks t ∷ k))) f g v cs w)
        (move q (cond b (Yields (pos 1) (task_drop d k)) (Goes (Asks t ∷ task_drop d k))) f h v ds w)
    go_or t k true g h v a r = like_at f g h k _ w a r.1 s
    go_or t k false g h v a r = like_at f g h (Asks t ∷ k) v w a r s

    go_asks : (t : TestTree) (k : List Task) (g h : Guards) (v : List Value) → AgreeOn d g h → AreLive d (Asks t ∷ k) →
        Like (step p (At f g (Asks t ∷ k) v cs w)) (step q (At f h (Asks t ∷ task_drop d k) v ds w))
    go_asks (Source e) k g h v a r = like_at f g h (Works (Computes e) ∷ k) v w a (fits_other d (Computes e) k r.0.1, r.1) s
    go_asks (On l) k g h v a r = subst (λ y. Like (At f g k (Integer (truth (g l)) ∷ v) cs w) (At f h (task_drop d k) (Integer (truth y) ∷ v) ds w))
        (a l r.0.0) (like_at f g h k _ w a r.1 s)
    go_asks (Off l) k g h v a r = subst (λ y. Like (At f g k (Integer (truth (not (g l))) ∷ v) cs w)
        (At f h (task_drop d k) (Integer (truth (not y)) ∷ v) ds w)) (a l r.0.0) (like_at f g h k _ w a r.1 s)
    go_asks (AndOff l t) k g h v a r =
        subst (λ y. Like (move p (cond (g l) (Yields (pos 0) k) (Goes (Asks t ∷ k))) f g v cs w)
        (move q (cond y (Yields (pos 0) (task_drop d k)) (Goes (Asks t ∷ task_drop d k))) f h v ds w)) (a l r.0.0.0)
        (go_and t k (g l) g h v a ((r.0.0.1, r.0.1), r.1))
    go_asks (OrOn l t) k g h v a r =
        subst (λ y. Like (move p (cond (g l) (Yields (pos 1) k) (Goes (Asks t ∷ k))) f g v cs w)
        (move q (cond y (Yields (pos 1) (task_drop d k)) (Goes (Asks t ∷ task_drop d k))) f h v ds w)) (a l r.0.0.0)
        (go_or t k (g l) g h v a ((r.0.0.1, r.0.1), r.1))

    go_pick : (n : ℤ) (c : SelectorTree) (k : List Task) (b : Bool) (g h : Guards) (v : List Value) → AgreeOn d g h → AreLive d (AsksSelector c ∷ k)
        → Like (move p (cond b (Yields n k) (Goes (AsksSelector c ∷ k))) f g v cs w)
        (move q (cond b (Yields n (task_drop d k)) (Goes (AsksSelector c ∷ task_drop d k))) f h v ds w)
    go_pick n c k true g h v a r = like_at f g h k _ w a r.1 s
    go_pick n c k false g h v a r = like_at f g h (AsksSelector c ∷ k) v w a r s

    go_selector : (c : SelectorTree) (k : List Task) (g h : Guards) (v : List Value) → AgreeOn d g h → AreLive d (AsksSelector c ∷ k) →
        Like (step p (At f g (AsksSelector c ∷ k) v cs w)) (step q (At f h (AsksSelector c ∷ task_drop d k) v ds w))
    go_selector (Selects e) k g h v a r = like_at f g h (Works (Computes e) ∷ Works (Converts (promoted (operand_kind (kind_of e)))) ∷ k) v w a
        (tt, (fits_quiet d (Converts (promoted (operand_kind (kind_of e)))) tt k, r.1)) s
    go_selector (Pick l n c) k g h v a r =
        subst (λ y. Like (move p (cond (g l) (Yields n k) (Goes (AsksSelector c ∷ k))) f g v cs w)
        (move q (cond y (Yields n (task_drop d k)) (Goes (AsksSelector c ∷ task_drop d k))) f h v ds w)) (a l r.0.0)
        (go_pick n c k (g l) g h v a (r.0.1, r.1))

    -- an initialiser, or another operation
    go_acts : (o : Op) (k : List Task) → AllTasks NoFact f k → (g h : Guards) (v : List Value) → AgreeOn d g h → Fits d o k → AreLive d k →
        Like (perform p (effect o v w) f g k cs) (perform q (effect o v w) f h (task_drop d k) ds)
    go_acts o k t g h v a i r = like_perform o (effect o v w) (λ n. effect_no_call o n v w) f g h k a r i t s

    pub go : (k : List Task) → AllTasks NoFact f k → Goal k
    go [] t g h v a r = at_once _ _ (like_leave f (fallen f) w s) (λ z. tt)
    go (Runs (Evaluate e) ∷ k) t g h v a r = at_once _ _ (like_at f g h (Works (Computes e) ∷ Works Drops ∷ k) v w a
        (tt, (fits_quiet d Drops tt k, r.1)) s) (λ z. tt)
    go (Runs (Return None) ∷ k) t g h v a r = at_once _ _ (like_at f g h (Works (Effects.Ends false) ∷ k) v w a
        (fits_quiet d (Effects.Ends false) tt k, r.1) s) (λ z. tt)
    go (Runs (Return (Some e)) ∷ k) t g h v a r = at_once _ _ (like_at f g h (Works (Computes e) ∷ Works (Effects.Ends true) ∷ k) v w a
        (tt, (fits_quiet d (Effects.Ends true) tt k, r.1)) s) (λ z. tt)
    go (Runs (If u x y) ∷ k) t g h v a r = at_once _ _ (like_at f g h (Asks u ∷ Branches x y ∷ k) v w a ((r.0.0, tt), ((r.0.1, r.0.2), r.1)) s) (λ z. tt)
    go (Runs (While u x) ∷ k) t g h v a r = at_once _ _ (like_at f g h (Asks u ∷ Turns (WhileLoop u x) ∷ k) v w a ((r.0.0, tt), (r.0, r.1)) s) (λ z. tt)
    go (Runs (Do x u) ∷ k) t g h v a r =
        at_once _ _ (like_to f g h (items x (Loops (DoLoop x u) ∷ k)) _ v w a (live_items d x (Loops (DoLoop x u) ∷ k) r.0.1 (r.0, r.1)) s
        (sym (drop_items d x (Loops (DoLoop x u) ∷ k)))) (λ z. tt)
    go (Runs (For i u y x) ∷ k) t g h v a r =
        at_once _ _ (like_to f g h (items i (Heads u y x ∷ k)) _ v w a (live_items d i (Heads u y x ∷ k) r.0.1 (r.0.2, r.1)) s
        (sym (drop_items d i (Heads u y x ∷ k)))) (λ z. tt)
    go (Runs (Switch c x) ∷ k) t g h v a r = at_once _ _ (like_at f g h (AsksSelector c ∷ Enters (switch_kind c) x ∷ k) v w a (r.0.0, (r.0.1, r.1)) s) (λ z. tt)
    go (Runs (Block x) ∷ k) t g h v a r = at_once _ _ (like_to f g h (items x k) _ v w a (live_items d x k r.0.1 r.1) s (sym (drop_items d x k))) (λ z. tt)
    go (Runs (Local x None) ∷ k) t g h v a r = at_once _ _ (like_at f g h k v w a r.1 s) (λ z. tt)
    go (Runs (Local x (Some es)) ∷ k) t g h v a r = at_once _ _ (go_acts (Begins x es) k t.1.1 g h v a (fits_quiet d (Begins x es) tt k) r.1) (λ z. tt)
    go (Runs Break ∷ k) t g h v a r = at_once _ _ (like_to f g h (cut k) _ v w a (live_cut d k r.1) s (drop_cut d k)) (λ z. tt)
    go (Runs Continue ∷ k) t g h v a r = at_once _ _ (like_to f g h (cut_to k) _ v w a (live_cut_to d k r.1) s (drop_cut_to d k)) (λ z. tt)
    go (Runs (Goto l) ∷ k) t g h v a r = at_once _ _ (like_to f g h (find l (body_in p f)) _ v w a (live_find d l (body_in p f) (unread f)) s
        (jump_tasks l f r.0)) (λ z. tt)
    go (Runs (Mark l) ∷ k) t g h v a r = at_once _ _ (like_at f g h k v w a r.1 s) (λ z. tt)
    go (Runs (Arm l None) ∷ k) t g h v a r = go_arm l k (d l) refl (go k t.1.1) g h v a r.1
    go (Runs (Arm l (Some e)) ∷ k) t g h v a r = go_arm_if l e k (d l) refl g h v a (r.0, (tt, r.1))
    go (Runs (Leap l) ∷ k) t g h v a r =
        at_once _ _
        (subst (λ y. Like (move p (cond (g l) (Goes (find l (body_in p f))) (Goes k)) f g v cs w)
        (move q (cond y (Goes (find l (body_in q f))) (Goes (task_drop d k))) f h v ds w)) (a l r.0) (go_leap l k (g l) g h v r.0 a r.1))
        (λ z. tt)
    go (Runs (Land l) ∷ k) t g h v a r = go_land l k (d l) refl (go k t.1.1) g h v a r.1
    go (Runs (Arrival e) ∷ k) t g h v a r = at_once _ _ (like_at f g h k v w a r.1 s) (λ z. tt)
    go (Runs (Note bs) ∷ k) t g h v a r = at_once _ _ (like_at f g h k v w a r.1 s) (λ z. tt)
    go (Works o ∷ k) t g h v a r = at_once _ _ (go_acts o k t g h v a r.0 r.1) (λ z. tt)
    go (Asks u ∷ k) t g h v a r = at_once _ _ (go_asks u k g h v a r) (λ z. tt)
    go (Branches x y ∷ k) t g h v a r =
        at_once _ _ (like_to f g h (cond (holds (top v)) (items x k) (items y k)) _ (rest v) w a
        (either (AreLive d) (holds (top v)) (items x k) (items y k) (live_items d x k r.0.0 r.1) (live_items d y k r.0.1 r.1)) s
        (ap₂ (λ i j. cond (holds (top v)) i j) (sym (drop_items d x k)) (sym (drop_items d y k)) ∙
        drop_cond d (holds (top v)) (items x k) (items y k))) (λ z. tt)
    go (Turns x ∷ k) t g h v a r =
        at_once _ _ (like_to f g h (cond (holds (top v)) (turn x k) k) _ (rest v) w a
        (either (AreLive d) (holds (top v)) (turn x k) k (live_turn d x k r.0 r.1) r.1) s
        (ap (λ i. cond (holds (top v)) i (task_drop d k)) (sym (drop_turn d x k)) ∙ drop_cond d (holds (top v)) (turn x k) k)) (λ z. tt)
    go (Loops (WhileLoop u x) ∷ k) t g h v a r = at_once _ _ (like_at f g h (Runs (While u x) ∷ k) v w a r s) (λ z. tt)
    go (Loops (DoLoop x u) ∷ k) t g h v a r = at_once _ _ (like_at f g h (Asks u ∷ Turns (DoLoop x u) ∷ k) v w a ((r.0.0, tt), r) s) (λ z. tt)
    go (Loops (ForLoop u y x) ∷ k) t g h v a r = at_once _ _ (like_to f g h (dropped y (Heads u y x ∷ k)) _ v w a
        (live_dropped d y (Heads u y x ∷ k) r) s (drop_third y (Heads u y x ∷ k))) (λ z. tt)
      where
        drop_third : (y : Option ExpressionTree) (k : List Task) → dropped y (task_drop d k) ≡ task_drop d (dropped y k)
        drop_third None k = refl
        drop_third (Some e) k = refl
    go (Heads None y x ∷ k) t g h v a r =
        at_once _ _ (like_to f g h (items x (Loops (ForLoop None y x) ∷ k)) _ v w a (live_items d x (Loops (ForLoop None y x) ∷ k) r.0 r) s
        (sym (drop_items d x (Loops (ForLoop None y x) ∷ k)))) (λ z. tt)
    go (Heads (Some e) y x ∷ k) t g h v a r = at_once _ _ (like_at f g h (Works (Computes e) ∷ Turns (ForLoop (Some e) y x) ∷ k) v w a (tt, r) s) (λ z. tt)
    go (Arms l ∷ k) t g h v a r = go_arms l k (d l) refl g h v a r.1
    go (AsksSelector c ∷ k) t g h v a r = at_once _ _ (go_selector c k g h v a r) (λ z. tt)
    go (Enters kind x ∷ k) t g h v a r = at_once _ _ (like_to f g h (entry kind (integer (top v)) x k) _ (rest v) w a
        (live_entry d kind (integer (top v)) x k r.0 r.1) s (drop_entry d kind (integer (top v)) x k)) (λ z. tt)
    go (EndsSection ∷ k) t g h v a r = at_once _ _ (like_to f g h (cut k) _ v w a (live_cut d k r.1) s (drop_cut d k)) (λ z. tt)
    go (Out ∷ k) t g h v a r = at_once _ _ (like_at f g h k v w a r.1 s) (λ z. tt)
