-- A program and its core go on together.
use mathlib.Core.Path.{ap₂}
use Rattle.std.proofs.Common.{◌+◌, Option, Some, None, option_map, ℕ, zero, suc, pos, Bool, true, false, not, cond, List, [], ◌∷◌, eqb, ◌≡◌, refl, ap, sym, ◌∙◌, subst, Result, Ok, Err}
use Rattle.c_types.specs.declared.trap.Trap.{Trap}
use Rattle.c_tree.specs.Operators.{truth}
use Rattle.c_tree.specs.ExpressionTrees.{ExpressionTree}
use Rattle.c_tree.specs.TestTrees.{TestTree, Source, On, Off, AndOff, OrOn, SelectorTree, Selects, Pick}
use Rattle.c_tree.specs.Trees.{Tree, Forest, Nil, Then, Evaluate, Return, If, While, Do, For, Switch, Block, Local, Break, Continue, Goto, Mark, Arm, Leap, Land}
use Rattle.c_tree.specs.Cases.{selector_source}
use Rattle.c_tree.specs.Exits.{breaks, continues}
use Rattle.jump_meaning.specs.Values.{Value, Integer, integer}
use Rattle.jump_meaning.specs.Code.{FunctionTree, Code}
use Rattle.jump_meaning.specs.World.{World, Outcome, Gives, Traps, Exits, push}
use Rattle.jump_meaning.specs.Operations.{holds}
use Rattle.jump_meaning.specs.Known.{call_without_body}
use Rattle.jump_meaning.specs.Calls.{returned, fallen, leave_call, leave_entry}
use Rattle.jump_meaning.specs.Effects.{Op, Begins, Effect, Does, Fails, Stops, Invokes, Leaves, effect, top, rest}
use Rattle.jump_meaning.specs.Tasks.{WhileLoop, DoLoop, ForLoop, Task, Runs, Works, Asks, Branches, Turns, Loops, Heads, Arms, AsksSelector, Enters, EndsSection, Out, items, works}
use Rattle.jump_meaning.specs.Search.{find}
use Rattle.jump_meaning.specs.Step.{Guards, no_guards, with_guard, switch_kind, Frame, Waits, State, At, HasEnded, HasTrapped, Goes, Yields, dropped, is_dropped, settle, leave, begin_call, invoke, perform, move, step}
use Rattle.core_laws.specs.Ways.{only, Peeled, Ask, Known, peel, Lands}
use Rattle.core_laws.specs.Core.{constant, source_of, jump_if, core_if, core_do, core, body_core, core_function, core_code}
use Rattle.core_laws.proofs.TaskWays.{task_way}
use Rattle.core_laws.proofs.TaskCores.{core_do_loop, core_do_turn, task_core, core_items}
use Rattle.core_laws.proofs.Lookup.{cut_core, cut_to_core, find_in_core, entry_core}
use Rattle.core_laws.proofs.Reach.{Reach, stay, more, Agree, CalmFrames, Calm, body_in, landed, Good, calmly, walking, landing, quiet}
use Rattle.core_laws.proofs.Lawful.{SeesDrop, IsLanded, Lawful}
use Rattle.core_laws.proofs.Arrive.{arrives}

abbrev pub core_frames : List Frame → List Frame
core_frames [] = []
core_frames (Waits f g k v ∷ cs) = Waits f no_guards (task_core k) v ∷ core_frames cs

abbrev pub core_state : State → State
core_state (At f g k v cs w) = At f no_guards (task_core k) v (core_frames cs) w
core_state (HasEnded n es) = HasEnded n es
core_state (HasTrapped t es) = HasTrapped t es

-- the next task is no Arm
abbrev pub IsNoArm : List Task → Type 0
IsNoArm (Runs (Arm l e) ∷ k) = ⊥
IsNoArm _ = Unit {0}

-- the core is at no Arm, whose way would lead elsewhere
abbrev pub SafeAt : State → Type 0
SafeAt (At f g k v cs w) = IsNoArm k
SafeAt _ = Unit {0}

-- both go on, each by a step or more, to a calm state and its core
pub record Match (p : Code) (c ck : State) : Type 0 where
  pub upto : State
  pub good : Good p c
  pub real : Reach p (Good p) (step p c) upto
  pub safe : SafeAt ck
  pub core_way : Reach (core_code p) SafeAt (step (core_code p) ck) (core_state upto)
  pub calm : Calm upto

-- ---- what both do alike

works_core : (os : List Op) (k : List Task) → works os (task_core k) ≡ task_core (works os k)
works_core [] k = refl
works_core (o ∷ os) k = ap (λ r. Works o ∷ r) (works_core os k)

cond_core : (b : Bool) (x y : List Task) → cond b (task_core x) (task_core y) ≡ task_core (cond b x y)
cond_core true x y = refl
cond_core false x y = refl

settle_core : (o : Outcome) (f : List ℕ) (g : Guards) (k : List Task) (v : List Value) (cs : List Frame) →
    settle o f no_guards (task_core k) v (core_frames cs) ≡ core_state (settle o f g k v cs)
settle_core (Gives x w) f g k v cs = refl
settle_core (Traps t w) f g k v cs = refl
settle_core (Exits n w) f g k v cs = refl

leave_core : (h : FunctionTree) (x : Value) (cs : List Frame) (w : World) → SeesDrop cs →
    leave (core_function h) x (core_frames cs) w ≡ core_state (leave h x cs w)
leave_core h x [] w s = settle_core (leave_entry h x w) [] no_guards [] [] []
leave_core h x (Waits f g k v ∷ cs) w s =
    ap (λ d. settle (leave_call d h x w) f no_guards (task_core k) v (core_frames cs)) s ∙ settle_core (leave_call (is_dropped k) h x w) f g k v cs

pub begin_core : (m : List ℕ) (a : Forest) (r : Result World Trap) (cs : List Frame) (w : World) →
    begin_call m (body_core a) r (core_frames cs) w ≡ core_state (begin_call m a r cs w)
begin_core m a (Ok w) cs w' = ap (λ k. At m no_guards k [] (core_frames cs) w) (sym (core_items a []))
begin_core m a (Err t) cs w' = refl

invoke_core : (b : Option Forest) (h : FunctionTree) (m : List ℕ) (vs : List Value) (f : List ℕ) (g : Guards) (k : List Task) (v : List Value)
    (cs : List Frame) (w : World)
    → invoke (option_map body_core b) (core_function h) m vs f no_guards (task_core k) v (core_frames cs) w ≡ core_state (invoke b h m vs f g k v cs w)
invoke_core (Some a) h m vs f g k v cs w = begin_core m a (push h vs w) (Waits f g k v ∷ cs) w
invoke_core None h m vs f g k v cs w = settle_core (call_without_body m h vs w) f g k v cs

perform_core : (p : Code) (x : Effect) (f : List ℕ) (g : Guards) (k : List Task) (cs : List Frame) → SeesDrop cs →
    perform (core_code p) x f no_guards (task_core k) (core_frames cs) ≡ core_state (perform p x f g k cs)
perform_core p (Does os v w) f g k cs s = ap (λ r. At f no_guards r v (core_frames cs) w) (works_core os k)
perform_core p (Fails t w) f g k cs s = refl
perform_core p (Stops n w) f g k cs s = refl
perform_core p (Invokes m vs v w) f g k cs s = invoke_core (p.functions m).body (p.functions m) m vs f g k v cs w
perform_core p (Leaves (Some x) w) f g k cs s = leave_core (p.functions f) (returned (p.functions f) x) cs w s
perform_core p (Leaves None w) f g k cs s = leave_core (p.functions f) (fallen f) cs w s

-- ---- calm states stay calm

settle_calm : (o : Outcome) (f : List ℕ) (g : Guards) (k : List Task) (v : List Value) (cs : List Frame) → Agree g no_guards → CalmFrames cs →
    Calm (settle o f g k v cs)
settle_calm (Gives x w) f g k v cs a h = (a, h)
settle_calm _ f g k v cs a h = tt

leave_calm : (h : FunctionTree) (x : Value) (cs : List Frame) (w : World) → CalmFrames cs → Calm (leave h x cs w)
leave_calm h x [] w c = settle_calm (leave_entry h x w) [] no_guards [] [] [] (λ l. refl) tt
leave_calm h x (Waits f g k v ∷ cs) w c = settle_calm (leave_call (is_dropped k) h x w) f g k v cs c.0 c.1

pub begin_calm : (m : List ℕ) (a : Forest) (r : Result World Trap) (cs : List Frame) (w : World) → CalmFrames cs → Calm (begin_call m a r cs w)
begin_calm m a (Ok w) cs w' c = ((λ l. refl), c)
begin_calm m a (Err t) cs w' c = tt

invoke_calm : (b : Option Forest) (h : FunctionTree) (m : List ℕ) (vs : List Value) (f : List ℕ) (g : Guards) (k : List Task) (v : List Value)
    (cs : List Frame) (w : World) → Agree g no_guards → CalmFrames cs → Calm (invoke b h m vs f g k v cs w)
invoke_calm (Some a) h m vs f g k v cs w e c = begin_calm m a (push h vs w) (Waits f g k v ∷ cs) w (e, c)
invoke_calm None h m vs f g k v cs w e c = settle_calm (call_without_body m h vs w) f g k v cs e c

perform_calm : (p : Code) (x : Effect) (f : List ℕ) (g : Guards) (k : List Task) (cs : List Frame) → Agree g no_guards → CalmFrames cs →
    Calm (perform p x f g k cs)
perform_calm p (Does os v w) f g k cs a h = (a, h)
perform_calm p (Fails t w) f g k cs a h = tt
perform_calm p (Stops n w) f g k cs a h = tt
perform_calm p (Invokes m vs v w) f g k cs a h = invoke_calm (p.functions m).body (p.functions m) m vs f g k v cs w a h
perform_calm p (Leaves (Some x) w) f g k cs a h = leave_calm (p.functions f) (returned (p.functions f) x) cs w h
perform_calm p (Leaves None w) f g k cs a h = leave_calm (p.functions f) (fallen f) cs w h

-- ---- steps of one of them, and then a match

module _ (p : Code) where
  pub last : (c ck : State) → Good p c → SafeAt ck → step (core_code p) ck ≡ core_state (step p c) → Calm (step p c) → Match p c ck
  last c ck g s e m = record {
    upto = step p c;
    good = g;
    real = stay;
    safe = s;
    core_way = subst (λ d. Reach (core_code p) SafeAt (step (core_code p) ck) d) e stay;
    calm = m;
  }

  ahead : (c ck : State) → Good p c → Match p (step p c) ck → Match p c ck
  ahead c ck g m = record { upto = m.upto; good = g; real = more m.good m.real; safe = m.safe; core_way = m.core_way; calm = m.calm }

  ahead_core : (c ck : State) → SafeAt ck → Match p c (step (core_code p) ck) → Match p c ck
  ahead_core c ck s m = record { upto = m.upto; good = m.good; real = m.real; safe = s; core_way = more m.safe m.core_way; calm = m.calm }

  prepend : (ck : State) {c d : State} → Reach p (Good p) c d → Match p d ck → Match p c ck
  prepend ck stay m = m
  prepend ck (more {c = c} g r) m = ahead c ck g (prepend ck r m)

  turn_to : (c ck ck' : State) → ck ≡ ck' → Match p c ck' → Match p c ck
  turn_to c ck ck' e m = subst (λ d. Match p c d) (sym e) m

-- what is known along the run: the way of each Arm that it meets lands
pub record Sure (p : Code) (H : State → Type 0) : Type 0 where
  pub later : (c d : State) → Reach p (Good p) c d → Reach (core_code p) SafeAt (core_state c) (core_state d) → H c → H d
  pub at_arm : (l : ℕ) (f : List ℕ) (g : Guards) (k : List Task) (v : List Value) (cs : List Frame) (w : World) →
      H (At f g (Runs (Arm l None) ∷ k) v cs w) → task_way k l ≡ Lands
  pub at_arms : (l : ℕ) (f : List ℕ) (g : Guards) (k : List Task) (v : List Value) (cs : List Frame) (w : World) → holds (top v) ≡ true →
      H (At f g (Arms l ∷ k) v cs w) → task_way k l ≡ Lands

module _ (p : Code) (Inv : State → Type 0) (law : Lawful p Inv) (H : State → Type 0) (sure : Sure p H) (f : List ℕ) (cs : List Frame)
    (cf : CalmFrames cs) (w : World) where
  abbrev here : Guards → List Task → List Value → State
  here g k v = At f g k v cs w

  abbrev there : List Task → List Value → State
  there k v = At f no_guards k v (core_frames cs) w

  abbrev Aims : List Task → Type 0
  Aims k = (g : Guards) (v : List Value) → Agree g no_guards → Inv (here g k v) → H (here g k v) → Match p (here g k v) (there (task_core k) v)

  kept : {c d : State} → Reach p (Good p) c d → Inv c → Inv d
  kept stay i = i
  kept (more {c = c} g r) i = kept r (law.next c i)

  -- steps that the core does not see, and then a match
  unseen : (g g' : Guards) (k k' : List Task) (v : List Value) → Agree g' no_guards → Reach p (Good p) (here g k v) (here g' k' v) →
      task_core k' ≡ task_core k → Aims k' → Inv (here g k v) → H (here g k v) → Match p (here g k v) (there (task_core k) v)
  unseen g g' k k' v a r e m i h =
      let eq : there (task_core k') v ≡ there (task_core k) v = ap (λ z. there z v) e in
      prepend p (there (task_core k) v) r
      (subst (λ d. Match p (here g' k' v) d) eq
      (m g' v a (kept r i) (sure.later (here g k v) (here g' k' v) r (subst (λ z. Reach (core_code p) SafeAt z (there (task_core k') v)) eq stay) h)))

  -- a test, of which the core asks what is left of it
  asks : (t : TestTree) (k : List Task) (g : Guards) (v : List Value) → Agree g no_guards →
      Match p (here g (Asks t ∷ k) v) (there (Asks (Source (source_of (peel no_guards t))) ∷ task_core k) v)
  asks (Source e) k g v a = last p _ _ (calmly (a, cf)) tt refl (a, cf)
  asks (On l) k g v a = ahead_core p _ _ tt (last p _ _ (calmly (a, cf)) tt (ap (λ y. there (task_core k) (Integer (truth y) ∷ v)) (sym (a l))) (a, cf))
  asks (Off l) k g v a = ahead_core p _ _ tt (last p _ _ (calmly (a, cf)) tt (ap (λ y. there (task_core k) (Integer (truth (not y)) ∷ v)) (sym (a l))) (a, cf))
  asks (AndOff l t) k g v a =
      ahead p _ _ (calmly (a, cf)) (subst (λ y. Match p (move p (cond y (Yields (pos 0) k) (Goes (Asks t ∷ k))) f g v cs w)
      (there (Asks (Source (source_of (peel no_guards t))) ∷ task_core k) v)) (sym (a l)) (asks t k g v a))
  asks (OrOn l t) k g v a =
      ahead p _ _ (calmly (a, cf)) (subst (λ y. Match p (move p (cond y (Yields (pos 1) k) (Goes (Asks t ∷ k))) f g v cs w)
      (there (Asks (Source (source_of (peel no_guards t))) ∷ task_core k) v)) (sym (a l)) (asks t k g v a))

  selects : (s : SelectorTree) (k : List Task) (g : Guards) (v : List Value) → Agree g no_guards →
      Match p (here g (AsksSelector s ∷ k) v) (there (AsksSelector (Selects (selector_source s)) ∷ task_core k) v)
  selects (Selects e) k g v a = last p _ _ (calmly (a, cf)) tt refl (a, cf)
  selects (Pick l n s) k g v a =
      ahead p _ _ (calmly (a, cf)) (subst (λ y. Match p (move p (cond y (Yields n k) (Goes (AsksSelector s ∷ k))) f g v cs w)
      (there (AsksSelector (Selects (selector_source s)) ∷ task_core k) v)) (sym (a l)) (selects s k g v a))

  -- a test that no source expression decides, up to a state d
  decided : (g : Guards) (d : State) (t : TestTree) (k : List Task) (v : List Value) (b : Bool) → Agree g no_guards → peel no_guards t ≡ Known b →
      Reach p (Good p) (here g k (Integer (truth b) ∷ v)) d → Reach p (Good p) (here g (Asks t ∷ k) v) d
  decided g d t k v b a q r = quiet p f g no_guards a cs w (λ c. Reach p (Good p) c d) (λ t k v n r. more (calmly (a, cf)) r) t k v b q r

  -- the match of one task, where its core is given
  abbrev AimsAt : Task → List Task → List Task → Type 0
  AimsAt t k kk = (g : Guards) (v : List Value) → Agree g no_guards → Inv (here g (t ∷ k) v) → H (here g (t ∷ k) v) → Match p (here g (t ∷ k) v) (there kk v)

  -- ---- `if`

  if_kept : (t : TestTree) (a b : Forest) (k : List Task) (e' : ExpressionTree) → source_of (peel no_guards t) ≡ e' →
      AimsAt (Runs (If t a b)) k (Runs (If (Source e') (core a (task_way k)) (core b (task_way k))) ∷ task_core k)
  if_kept t a b k e' e g v ag i h =
      ahead p _ _ (calmly (ag, cf)) (ahead_core p _ _ tt
      (turn_to p _ _ _ (ap (λ z. there (Asks (Source z) ∷ task_core (Branches a b ∷ k)) v) (sym e)) (asks t (Branches a b ∷ k) g v ag)))

  if_taken : (t : TestTree) (a b : Forest) (k : List Task) → peel no_guards t ≡ Known true → core b (task_way k) ≡ Nil → Aims (items a k) →
      Aims (Runs (If t a b) ∷ k)
  if_taken t a b k q eb ga g v ag i h =
      let r = more (calmly (ag, cf)) (decided g (here g (items a k) v) t (Branches a b ∷ k) v true ag q (more (calmly (ag, cf)) stay)) in
      let e : task_core (items a k) ≡ task_core (Runs (If t a b) ∷ k) =
      core_items a k ∙ ap (λ r. items r (task_core k)) (sym (ap₂ (λ z cb. core_if z (core a (task_way k)) cb) q eb)) in
      unseen g g (Runs (If t a b) ∷ k) (items a k) v ag r e ga i h

  if_left : (t : TestTree) (a b : Forest) (k : List Task) → peel no_guards t ≡ Known false → core a (task_way k) ≡ Nil → Aims (items b k) →
      Aims (Runs (If t a b) ∷ k)
  if_left t a b k q ea gb g v ag i h =
      let r = more (calmly (ag, cf)) (decided g (here g (items b k) v) t (Branches a b ∷ k) v false ag q (more (calmly (ag, cf)) stay)) in
      let e : task_core (items b k) ≡ task_core (Runs (If t a b) ∷ k) =
      core_items b k ∙ ap (λ r. items r (task_core k)) (sym (ap₂ (λ z ca. core_if z ca (core b (task_way k))) q ea)) in
      unseen g g (Runs (If t a b) ∷ k) (items b k) v ag r e gb i h

  match_if : (t : TestTree) (a b : Forest) (k : List Task) (q : Peeled) (ca cb : Forest) → peel no_guards t ≡ q → core a (task_way k) ≡ ca →
      core b (task_way k) ≡ cb → Aims (items a k) → Aims (items b k) → Aims (Runs (If t a b) ∷ k)
  match_if t a b k (Ask e) ca cb q ea eb ga gb g v ag i h =
      turn_to p _ _ _ (ap (λ z. there (items (core_if z (core a (task_way k)) (core b (task_way k))) (task_core k)) v) q)
      (if_kept t a b k e (ap source_of q) g v ag i h)
  match_if t a b k (Known true) ca Nil q ea eb ga gb g v ag i h = if_taken t a b k q eb ga g v ag i h
  match_if t a b k (Known true) ca (Then y cb) q ea eb ga gb g v ag i h =
      turn_to p _ _ _ (ap₂ (λ z cb. there (items (core_if z (core a (task_way k)) cb) (task_core k)) v) q eb ∙
      ap (λ cb. there (Runs (If (Source (constant true)) (core a (task_way k)) cb) ∷ task_core k) v) (sym eb))
      (if_kept t a b k (constant true) (ap source_of q) g v ag i h)
  match_if t a b k (Known false) Nil cb q ea eb ga gb g v ag i h = if_left t a b k q ea gb g v ag i h
  match_if t a b k (Known false) (Then y ca) cb q ea eb ga gb g v ag i h =
      turn_to p _ _ _ (ap₂ (λ z ca. there (items (core_if z ca (core b (task_way k))) (task_core k)) v) q ea ∙
      ap (λ ca. there (Runs (If (Source (constant false)) ca (core b (task_way k))) ∷ task_core k) v) (sym ea))
      (if_kept t a b k (constant false) (ap source_of q) g v ag i h)

  -- ---- `do`

  abbrev exits : Forest → ℕ
  exits a = breaks a + continues a

  abbrev do_list : Forest → TestTree → List Task → Forest
  do_list a t k = core a (task_way (Loops (DoLoop a t) ∷ k))

  do_kept : (t : TestTree) (a : Forest) (k : List Task) (e' : ExpressionTree) →
      core_do_loop (peel no_guards t) (exits a) (do_list a t k) (task_core k) ≡ Loops (DoLoop (do_list a t k) (Source e')) ∷ task_core k
      → AimsAt (Runs (Do a t)) k (Runs (Do (do_list a t k) (Source e')) ∷ task_core k)
  do_kept t a k e' e g v ag i h =
      last p _ _ (calmly (ag, cf)) tt (ap (λ r. there (items (do_list a t k) r) v) (sym e) ∙
      ap (λ r. there r v) (sym (core_items a (Loops (DoLoop a t) ∷ k)))) (ag, cf)

  -- the core's `do`, where what is left of the test, and the exits, are known
  do_as : (t : TestTree) (a : Forest) (k : List Task) (q : Peeled) (n : ℕ) → peel no_guards t ≡ q → exits a ≡ n → (v : List Value) →
      there (task_core (Runs (Do a t) ∷ k)) v ≡ there (items (core_do q n (do_list a t k)) (task_core k)) v
  do_as t a k q n eq en v = ap₂ (λ z n. there (items (core_do z n (do_list a t k)) (task_core k)) v) eq en

  loop_as : (t : TestTree) (a : Forest) (k : List Task) (q : Peeled) (n : ℕ) → peel no_guards t ≡ q → exits a ≡ n →
      core_do_loop (peel no_guards t) (exits a) (do_list a t k) (task_core k) ≡ core_do_loop q n (do_list a t k) (task_core k)
  loop_as t a k q n eq en = ap₂ (λ z n. core_do_loop z n (do_list a t k) (task_core k)) eq en

  match_do : (t : TestTree) (a : Forest) (k : List Task) (q : Peeled) (n : ℕ) → peel no_guards t ≡ q → exits a ≡ n →
      Aims (items a (Loops (DoLoop a t) ∷ k)) → Aims (Runs (Do a t) ∷ k)
  match_do t a k (Ask e) n q en ga g v ag i h = turn_to p _ _ _ (do_as t a k (Ask e) n q en v) (do_kept t a k e (loop_as t a k (Ask e) n q en) g v ag i h)
  match_do t a k (Known true) n q en ga g v ag i h = turn_to p _ _ _ (do_as t a k (Known true) n q en v)
      (do_kept t a k (constant true) (loop_as t a k (Known true) n q en) g v ag i h)
  match_do t a k (Known false) (suc n) q en ga g v ag i h = turn_to p _ _ _ (do_as t a k (Known false) (suc n) q en v)
      (do_kept t a k (constant false) (loop_as t a k (Known false) (suc n) q en) g v ag i h)
  match_do t a k (Known false) zero q en ga g v ag i h =
      let ca = do_list a t k in
      let e : task_core (items a (Loops (DoLoop a t) ∷ k)) ≡ task_core (Runs (Do a t) ∷ k) =
      core_items a (Loops (DoLoop a t) ∷ k) ∙ ap (λ r. items ca r) (loop_as t a k (Known false) zero q en) ∙
      sym (ap₂ (λ z n. items (core_do z n ca) (task_core k)) q en) in
      unseen g g (Runs (Do a t) ∷ k) (items a (Loops (DoLoop a t) ∷ k)) v ag (more (calmly (ag, cf)) stay) e ga i h

  loop_kept : (t : TestTree) (a : Forest) (k : List Task) (e' : ExpressionTree) → source_of (peel no_guards t) ≡ e' →
      core_do_turn (peel no_guards t) (exits a) (do_list a t k) (task_core k) ≡ Turns (DoLoop (do_list a t k) (Source e')) ∷ task_core k
      → AimsAt (Loops (DoLoop a t)) k (Loops (DoLoop (do_list a t k) (Source e')) ∷ task_core k)
  loop_kept t a k e' es e g v ag i h =
      ahead p _ _ (calmly (ag, cf)) (ahead_core p _ _ tt
      (turn_to p _ _ _ (ap₂ (λ z r. there (Asks (Source z) ∷ r) v) (sym es) (sym e)) (asks t (Turns (DoLoop a t) ∷ k) g v ag)))

  turn_as : (t : TestTree) (a : Forest) (k : List Task) (q : Peeled) (n : ℕ) → peel no_guards t ≡ q → exits a ≡ n →
      core_do_turn (peel no_guards t) (exits a) (do_list a t k) (task_core k) ≡ core_do_turn q n (do_list a t k) (task_core k)
  turn_as t a k q n eq en = ap₂ (λ z n. core_do_turn z n (do_list a t k) (task_core k)) eq en

  match_loop : (t : TestTree) (a : Forest) (k : List Task) (q : Peeled) (n : ℕ) → peel no_guards t ≡ q → exits a ≡ n → Aims k → Aims (Loops (DoLoop a t) ∷ k)
  match_loop t a k (Ask e) n q en gk g v ag i h = turn_to p _ _ _ (ap (λ r. there r v) (loop_as t a k (Ask e) n q en))
      (loop_kept t a k e (ap source_of q) (turn_as t a k (Ask e) n q en) g v ag i h)
  match_loop t a k (Known true) n q en gk g v ag i h =
      turn_to p _ _ _ (ap (λ r. there r v) (loop_as t a k (Known true) n q en))
      (loop_kept t a k (constant true) (ap source_of q) (turn_as t a k (Known true) n q en) g v ag i h)
  match_loop t a k (Known false) (suc n) q en gk g v ag i h =
      turn_to p _ _ _ (ap (λ r. there r v) (loop_as t a k (Known false) (suc n) q en))
      (loop_kept t a k (constant false) (ap source_of q) (turn_as t a k (Known false) (suc n) q en) g v ag i h)
  match_loop t a k (Known false) zero q en gk g v ag i h =
      let r = more (calmly (ag, cf)) (decided g (here g k v) t (Turns (DoLoop a t) ∷ k) v false ag q (more (calmly (ag, cf)) stay)) in
      unseen g g (Loops (DoLoop a t) ∷ k) k v ag r (sym (loop_as t a k (Known false) zero q en)) gk i h

  turn_step : (q : Peeled) (n : ℕ) (ca : Forest) (kc : List Task) (v : List Value) →
      step (core_code p) (there (core_do_turn q n ca kc) v) ≡ there (cond (holds (top v)) (items (core_do q n ca) kc) kc) (rest v)
  turn_step (Ask e) n ca kc v = refl
  turn_step (Known true) n ca kc v = refl
  turn_step (Known false) zero ca kc v = refl
  turn_step (Known false) (suc n) ca kc v = refl

  turn_safe : (q : Peeled) (n : ℕ) (ca : Forest) (kc : List Task) (v : List Value) → SafeAt (there (core_do_turn q n ca kc) v)
  turn_safe (Ask e) n ca kc v = tt
  turn_safe (Known true) n ca kc v = tt
  turn_safe (Known false) zero ca kc v = tt
  turn_safe (Known false) (suc n) ca kc v = tt

  -- ---- guards

  cleared : (l : ℕ) (g : Guards) → Agree g no_guards → Agree (with_guard l false g) no_guards
  cleared l g a x = at_x (eqb l x)
    where
      at_x : (b : Bool) → cond b false (g x) ≡ false
      at_x true = refl
      at_x false = a x

  armed : (l : ℕ) (g : Guards) → Agree g no_guards → Agree (with_guard l true g) (only l)
  armed l g a x = at_x (eqb l x)
    where
      at_x : (b : Bool) → cond b true (g x) ≡ b
      at_x true = refl
      at_x false = a x

  disarmed : (l : ℕ) (g : Guards) → Agree g (only l) → Agree (with_guard l false g) no_guards
  disarmed l g a x = at_x (eqb l x) refl
    where
      at_x : (b : Bool) → eqb l x ≡ b → cond b false (g x) ≡ false
      at_x true e = refl
      at_x false e = a x ∙ e

  -- a guard is set: the run lands, and the core jumps
  lands : (l : ℕ) → IsLanded p f l → (k kc : List Task) (g : Guards) (v : List Value) → Agree g (only l) → Inv (here g k v) → task_way k l ≡ Lands →
      Match p (here g k v) (there (Runs (Goto l) ∷ kc) v)
  lands l alone k kc g v a i e =
      let r = landing cf (arrives p Inv law l f alone cs w k e g v a i) in
      let d = here r.guards (Runs (Land l) ∷ r.tasks) v in
      let seen : there (find l (body_in (core_code p) f)) v ≡ there (Runs (Mark l) ∷ task_core r.tasks) v =
      ap (λ z. there z v) (find_in_core l (p.functions f) ∙ ap task_core r.is) in
      let m : Match p d (there (Runs (Mark l) ∷ task_core r.tasks) v) =
      last p d _ (walking l f v cs w cf (landed r.guards r.tasks r.agrees r.is)) tt refl (disarmed l r.guards r.agrees, cf) in
      prepend p _ r.way (ahead_core p d _ tt (turn_to p d _ _ seen m))

  match_leap : (l : ℕ) (k : List Task) → Aims k → Aims (Runs (Leap l) ∷ k)
  match_leap l k gk g v a i h =
      let r : Reach p (Good p) (here g (Runs (Leap l) ∷ k) v) (here g k v) =
      more (calmly (a, cf)) (subst (λ y. Reach p (Good p) (move p (cond y (Goes (find l (body_in p f))) (Goes k)) f g v cs w) (here g k v)) (sym (a l)) stay) in
      unseen g g (Runs (Leap l) ∷ k) k v a r refl gk i h

  match_arm : (l : ℕ) (k : List Task) → Aims (Runs (Arm l None) ∷ k)
  match_arm l k g v a i h =
      let e = sure.at_arm l f g k v cs w h in
      turn_to p _ _ _ (ap (λ y. there (Runs (jump_if y l) ∷ task_core k) v) e)
      (ahead p _ _ (calmly (a, cf)) (lands l (law.at_arm l None f g k v cs w i) k (task_core k) (with_guard l true g) v (armed l g a) (law.next _ i) e))

  -- the value of the condition of an Arm is there
  match_arms : (l : ℕ) (k : List Task) (b : Bool) → (g : Guards) (v : List Value) → holds (top v) ≡ b → Agree g no_guards →
      Inv (here g (Arms l ∷ k) v) → H (here g (Arms l ∷ k) v) → Match p (here g (Arms l ∷ k) v) (there (task_core (Arms l ∷ k)) v)
  match_arms l k true g v q a i h =
      let e = sure.at_arms l f g k v cs w q h in
      let j = subst (λ b. Inv (here (with_guard l b g) k (rest v))) q (law.next _ i) in
      let m : Match p (here (with_guard l true g) k (rest v)) (there (Runs (jump_if (task_way k l) l) ∷ task_core k) (rest v)) =
      turn_to p _ _ _ (ap (λ y. there (Runs (jump_if y l) ∷ task_core k) (rest v)) e)
      (lands l (law.at_arms l f g k v cs w i) k (task_core k) (with_guard l true g) (rest v) (armed l g a) j e) in
      ahead p _ _ (calmly (a, cf)) (ahead_core p _ _ tt
      (subst (λ b. Match p (here (with_guard l b g) k (rest v))
      (there (cond b (Runs (jump_if (task_way k l) l) ∷ task_core k) (task_core k)) (rest v))) (sym q) m))
  match_arms l k false g v q a i h =
      last p _ _ (calmly (a, cf)) tt (ap (λ b. there (cond b (Runs (jump_if (task_way k l) l) ∷ task_core k) (task_core k)) (rest v)) q)
      (subst (λ b. Agree (with_guard l b g) no_guards) (sym q) (cleared l g a), cf)

  -- ---- items

  mutual
    match_items : (a : Forest) (k : List Task) → Aims k → Aims (items a k)
    match_items Nil k m = m
    match_items (Then x a) k m = match_item x (items a k) (match_items a k m)

    match_item : (x : Tree) (k : List Task) → Aims k → Aims (Runs x ∷ k)
    match_item (Evaluate e) k m = λ g v a i h. last p _ _ (calmly (a, cf)) tt refl (a, cf)
    match_item (Return None) k m = λ g v a i h. last p _ _ (calmly (a, cf)) tt refl (a, cf)
    match_item (Return (Some e)) k m = λ g v a i h. last p _ _ (calmly (a, cf)) tt refl (a, cf)
    match_item (If t a b) k m = match_if t a b k (peel no_guards t) (core a (task_way k)) (core b (task_way k)) refl refl refl (match_items a k m)
        (match_items b k m)
    match_item (While t a) k m = λ g v ag i h. ahead p _ _ (calmly (ag, cf)) (ahead_core p _ _ tt (asks t (Turns (WhileLoop t a) ∷ k) g v ag))
    match_item (Do a t) k m = match_do t a k (peel no_guards t) (exits a) refl refl
        (match_items a (Loops (DoLoop a t) ∷ k) (match_loop t a k (peel no_guards t) (exits a) refl refl m))
    match_item (For first t u a) k m = λ g v ag i h. last p _ _ (calmly (ag, cf)) tt (ap (λ z. there z v) (sym (core_items first (Heads t u a ∷ k)))) (ag, cf)
    match_item (Switch s c) k m = λ g v a i h. ahead p _ _ (calmly (a, cf)) (ahead_core p _ _ tt (selects s (Enters (switch_kind s) c ∷ k) g v a))
    match_item (Block a) k m = λ g v ag i h. last p _ _ (calmly (ag, cf)) tt (ap (λ z. there z v) (sym (core_items a k))) (ag, cf)
    match_item (Local x None) k m = λ g v a i h. last p _ _ (calmly (a, cf)) tt refl (a, cf)
    match_item (Local x (Some es)) k m = λ g v a i h.
        last p _ _ (calmly (a, cf)) tt (perform_core p (effect (Begins x es) v w) f g k cs (law.at_leave f g (Runs (Local x (Some es)) ∷ k) v cs w i))
        (perform_calm p (effect (Begins x es) v w) f g k cs a cf)
    match_item Break k m = λ g v a i h. last p _ _ (calmly (a, cf)) tt (ap (λ z. there z v) (cut_core k (law.at_break f g k v cs w i))) (a, cf)
    match_item Continue k m = λ g v a i h. last p _ _ (calmly (a, cf)) tt (ap (λ z. there z v) (cut_to_core k (law.at_continue f g k v cs w i))) (a, cf)
    match_item (Goto l) k m = λ g v a i h. last p _ _ (calmly (a, cf)) tt (ap (λ z. there z v) (find_in_core l (p.functions f))) (a, cf)
    match_item (Mark l) k m = λ g v a i h. last p _ _ (calmly (a, cf)) tt refl (a, cf)
    match_item (Arm l None) k m = match_arm l k
    match_item (Arm l (Some e)) k m = λ g v a i h. ahead_core p _ _ tt (last p _ _ (calmly (a, cf)) tt refl (a, cf))
    match_item (Leap l) k m = match_leap l k m
    match_item (Land l) k m = λ g v a i h. last p _ _ (calmly (a, cf)) tt refl (cleared l g a, cf)
    match_item _ k m = λ g v a i h. last p _ _ (calmly (a, cf)) tt refl (a, cf)

  dropped_core : (u : Option ExpressionTree) (k : List Task) → dropped u (task_core k) ≡ task_core (dropped u k)
  dropped_core None k = refl
  dropped_core (Some e) k = refl

  -- from each calm state on
  pub matched : (k : List Task) → Aims k
  matched [] g v a i h = last p _ _ (calmly (a, cf)) tt (leave_core (p.functions f) (fallen f) cs w (law.at_leave f g [] v cs w i))
      (leave_calm (p.functions f) (fallen f) cs w cf)
  matched (Runs x ∷ k) g v a i h = match_item x k (matched k) g v a i h
  matched (Works o ∷ k) g v a i h = last p _ _ (calmly (a, cf)) tt (perform_core p (effect o v w) f g k cs (law.at_leave f g (Works o ∷ k) v cs w i))
      (perform_calm p (effect o v w) f g k cs a cf)
  matched (Asks t ∷ k) g v a i h = asks t k g v a
  matched (Branches x y ∷ k) g v a i h =
      last p _ _ (calmly (a, cf)) tt (ap (λ z. there z (rest v))
      (ap₂ (λ r q. cond (holds (top v)) r q) (sym (core_items x k)) (sym (core_items y k)) ∙ cond_core (holds (top v)) (items x k) (items y k))) (a, cf)
  matched (Turns (WhileLoop t x) ∷ k) g v a i h =
      last p _ _ (calmly (a, cf)) tt (ap (λ z. there z (rest v))
      (ap (λ r. cond (holds (top v)) r (task_core k)) (sym (core_items x (Loops (WhileLoop t x) ∷ k))) ∙
      cond_core (holds (top v)) (items x (Loops (WhileLoop t x) ∷ k)) k)) (a, cf)
  matched (Turns (DoLoop x t) ∷ k) g v a i h =
      let cx = do_list x t k in
      last p _ _ (calmly (a, cf)) (turn_safe (peel no_guards t) (exits x) cx (task_core k) v)
      (turn_step (peel no_guards t) (exits x) cx (task_core k) v ∙ ap (λ z. there z (rest v)) (cond_core (holds (top v)) (Runs (Do x t) ∷ k) k)) (a, cf)
  matched (Turns (ForLoop t u x) ∷ k) g v a i h =
      last p _ _ (calmly (a, cf)) tt (ap (λ z. there z (rest v))
      (ap (λ r. cond (holds (top v)) r (task_core k)) (sym (core_items x (Loops (ForLoop t u x) ∷ k))) ∙
      cond_core (holds (top v)) (items x (Loops (ForLoop t u x) ∷ k)) k)) (a, cf)
  matched (Loops (WhileLoop t x) ∷ k) g v a i h = last p _ _ (calmly (a, cf)) tt refl (a, cf)
  matched (Loops (DoLoop x t) ∷ k) g v a i h = match_loop t x k (peel no_guards t) (exits x) refl refl (matched k) g v a i h
  matched (Loops (ForLoop t u x) ∷ k) g v a i h = last p _ _ (calmly (a, cf)) tt (ap (λ z. there z v) (dropped_core u (Heads t u x ∷ k))) (a, cf)
  matched (Heads None u x ∷ k) g v a i h = last p _ _ (calmly (a, cf)) tt (ap (λ z. there z v) (sym (core_items x (Loops (ForLoop None u x) ∷ k)))) (a, cf)
  matched (Heads (Some e) u x ∷ k) g v a i h = last p _ _ (calmly (a, cf)) tt refl (a, cf)
  matched (Arms l ∷ k) g v a i h = match_arms l k (holds (top v)) g v refl a i h
  matched (AsksSelector s ∷ k) g v a i h = selects s k g v a
  matched (Enters kind c ∷ k) g v a i h = last p _ _ (calmly (a, cf)) tt (ap (λ z. there z (rest v)) (entry_core kind (integer (top v)) c k)) (a, cf)
  matched (EndsSection ∷ k) g v a i h = last p _ _ (calmly (a, cf)) tt (ap (λ z. there z v) (cut_core k (law.at_end f g k v cs w i))) (a, cf)
  matched (Out ∷ k) g v a i h = last p _ _ (calmly (a, cf)) tt refl (a, cf)
