-- States of a program and of a looser one that are related, and how they go on where both do the same.
use Rattle.std.proofs.Common.{ℕ, suc, pred, ◌≤◌, ℤ, pos, Bool, true, false, not, cond, ◌&&◌, List, [], ◌∷◌, ◌++◌, length, codes, Option, Some, None, Result, IsSome, is_some, ◌≡◌, refl, sym, ◌∙◌, ap, subst, arith, bytes_eq, true≢false}
use Rattle.std.specs.Option.{option_map_or}
use Rattle.c_types.specs.declared.trap.Trap.{Trap}
use Rattle.c_types.specs.declared.kinds.IntKind.{IntKind}
use Rattle.c_tree.specs.Trees.{Forest, Nil}
use Rattle.jump_meaning.specs.Values.{Owner, Variable, Value, Integer, Missing, Event, integer}
use Rattle.jump_meaning.specs.Code.{FunctionTree, Code, items_of}
use Rattle.jump_meaning.specs.World.{World, Outcome, Gives, Traps, Exits, push, pop}
use Rattle.jump_meaning.specs.Operations.{holds, converted_value}
use Rattle.jump_meaning.specs.Known.{call_without_body}
use Rattle.jump_meaning.specs.Calls.{is_missing, returned, fallen}
use Rattle.jump_meaning.specs.Effects.{Op, Effect, effect}
use Rattle.jump_meaning.specs.Tasks.{Task, Works, items, works}
use Rattle.jump_meaning.specs.Step.{Guards, no_guards, with_guard, Frame, Waits, State, At, HasEnded, HasTrapped, View, Finishes, Goes, Guarding, Yields, Takes, Arming, Acts, is_dropped, settle, leave, begin_call, invoke, perform, move}
use Rattle.core_laws.proofs.All.{op_dropped}
use Rattle.flat_laws.specs.Loose.{Setting, IsLooser, LooserFunction, lf_same, lf_looser, LooserCode}
use Rattle.flat_laws.proofs.Worlds.{over}
use Rattle.flat_laws.proofs.Effects.{OpSlots, OpsSlots, OutcomeAlike, oa_gives, oa_traps, oa_exits, EffectAlike, ea_does, ea_fails, ea_stops, ea_invokes, ea_leaves, effect_alike}
use Rattle.flat_laws.proofs.Heights.{Fits, framed, frame, FitsEffect, fits}
use Rattle.flat_laws.proofs.Controls.{ct_nil, Still, st_control, Waiting, wt_drops, wt_ends, wt_takes, wt_number, wt_cell, wt_sets, wt_selects}
use Rattle.flat_laws.proofs.ControlFacts.{items_lo}
use Rattle.flat_laws.proofs.Names.{opens_of, same_result, opens, Shapes, AlikeIn, RefersIn, RefersAllIn, number_shaped, zeros_shaped, calling, calling_here, calling_earlier, refers_all_kept, Pushed, ps_ok, ps_err, push_alike, pop_alike, pop_over}
use Rattle.flat_laws.proofs.Outside.{op_all, outside_alike}

works_append : (os ps : List Op) (k : List Task) → works (os ++ ps) k ≡ works os (works ps k)
works_append [] ps k = refl
works_append (o ∷ os) ps k = ap (λ j. Works o ∷ j) (works_append os ps k)

-- ---- whether the value is dropped

waiting_dropped : {s : Setting} {B : Forest} {d : ℕ} {k k' : List Task} {v v' : List Value} → Waiting s B d k k' v v' → is_dropped k ≡ is_dropped k'
waiting_dropped (wt_drops h) = refl
waiting_dropped wt_ends = refl
waiting_dropped (wt_takes h h' p q e e' g) = e ∙ sym e'
waiting_dropped (wt_number p x i c h) = refl
waiting_dropped (wt_cell p k x i es m l c n h) = refl
waiting_dropped (wt_sets p x i es b e h) = refl
waiting_dropped (wt_selects j b' names v l n z w c t o fs al h) = refl

works_dropped : {s : Setting} {B : Forest} {d : ℕ} {k k' : List Task} {v v' : List Value} (os : List Op) → Waiting s B d k k' v v' →
    is_dropped (works os k) ≡ is_dropped (works os k')
works_dropped [] h = waiting_dropped h
works_dropped {k = k} {k' = k'} (o ∷ os) h = op_dropped o (works os k) (works os k')

module _ (p q : Code) (lo : LooserCode p q) where
  abbrev pub body : List ℕ → Forest
  body f = items_of (q.functions f)

  -- the tasks of the function name slots of both
  abbrev pub InBoth : List ℕ → List Op → Type 0
  InBoth f os = OpsSlots (λ x. opens_of (lo.functions f) x ≡ true) os

  -- a call of f, number d, in both
  pub data Running (names : ℕ → List ℕ) (f : List ℕ) (d : ℕ) : List Task → List Task → List Value → List Value → Type 0 where
    rn_same : (e : p.functions f ≡ q.functions f) {k : List Task} {v : List Value} → lo.functions f ≡ lf_same e → RefersAllIn p q lo names d v →
        Running names f d k k v v
    rn_still : (l : IsLooser (p.functions f) (q.functions f)) → lo.functions f ≡ lf_looser l → {k k' : List Task} → Still l.setting (body f) k k' →
        Running names f d k k' [] []
    rn_evaluates : (l : IsLooser (p.functions f) (q.functions f)) → lo.functions f ≡ lf_looser l → (os : List Op) (u : List Value) →
        {k k' : List Task} {v v' : List Value} → Fits (length u) os → InBoth f os → RefersAllIn p q lo names d u
        → Waiting l.setting (body f) d k k' v v' → RefersAllIn p q lo names d v → Running names f d (works os k) (works os k') (u ++ v) (u ++ v')

  -- one that waits for a value
  pub data Calling (names : ℕ → List ℕ) (f : List ℕ) (d : ℕ) : List Task → List Task → List Value → List Value → Type 0 where
    cl_same : (e : p.functions f ≡ q.functions f) {k : List Task} {v : List Value} → lo.functions f ≡ lf_same e → RefersAllIn p q lo names d v →
        Calling names f d k k v v
    cl_evaluates : (l : IsLooser (p.functions f) (q.functions f)) → lo.functions f ≡ lf_looser l → (os : List Op) (u : List Value) →
        {k k' : List Task} {v v' : List Value} → Fits (suc (length u)) os → InBoth f os → RefersAllIn p q lo names d u
        → Waiting l.setting (body f) d k k' v v' → RefersAllIn p q lo names d v → Calling names f d (works os k) (works os k') (u ++ v) (u ++ v')

  -- the calls that wait, the newest of them number d
  pub data Stack (names : ℕ → List ℕ) : ℕ → List Frame → List Frame → Type 0 where
    sk_none : Stack names 0 [] []
    sk_frame : (f : List ℕ) (g : Guards) {d : ℕ} {k k' : List Task} {v v' : List Value} {cs cs' : List Frame} → names (suc d) ≡ f →
        Calling names f (suc d) k k' v v' → Stack names d cs cs' → Stack names (suc d) (Waits f g k v ∷ cs) (Waits f g k' v' ∷ cs')

  pub data Related : State → State → Type 0 where
    rl_at : (names : ℕ → List ℕ) (f : List ℕ) (g : Guards) (d : ℕ) (w : World) (s : Owner → Variable) {k k' : List Task} {v v' : List Value}
        {cs cs' : List Frame} → w.calls ≡ suc d → names (suc d) ≡ f → AlikeIn p q lo names w s
        → Running names f (suc d) k k' v v' → Stack names d cs cs' → Related (At f g k v cs w) (At f g k' v' cs' (over s w))
    rl_ended : (n : ℤ) (es : List Event) → Related (HasEnded n es) (HasEnded n es)
    rl_trapped : (t : Trap) (es : List Event) → Related (HasTrapped t es) (HasTrapped t es)

  deliver : {names : ℕ → List ℕ} {f : List ℕ} {d : ℕ} {k k' : List Task} {v v' : List Value} (x : Value) → RefersIn p q lo names d x →
      Calling names f d k k' v v' → Running names f d k k' (x ∷ v) (x ∷ v')
  deliver x r (cl_same e eq rs) = rn_same e eq (r, rs)
  deliver x r (cl_evaluates l eq os u h i rs wt vs) = rn_evaluates l eq os (x ∷ u) h i (r, rs) wt vs

  calling_dropped : {names : ℕ → List ℕ} {f : List ℕ} {d : ℕ} {k k' : List Task} {v v' : List Value} → Calling names f d k k' v v' →
      is_dropped k ≡ is_dropped k'
  calling_dropped (cl_same e eq rs) = refl
  calling_dropped (cl_evaluates l eq os u h i rs wt vs) = works_dropped os wt

  -- ---- a further call leaves what waits

  calling_kept : (m : List ℕ) {names : ℕ → List ℕ} {f : List ℕ} (d c : ℕ) {k k' : List Task} {v v' : List Value} → c ≤ d →
      Calling names f c k k' v v' → Calling (calling p q lo (suc d) m names) f c k k' v v'
  calling_kept m {names = names} d c b (cl_same e {v = v} eq rs) = cl_same e eq (refers_all_kept p q lo m names d c v b rs)
  calling_kept m {names = names} d c b (cl_evaluates l eq os u {v = v} h i rs wt vs) =
      cl_evaluates l eq os u h i (refers_all_kept p q lo m names d c u b rs) wt (refers_all_kept p q lo m names d c v b vs)

  stack_kept : (m : List ℕ) {names : ℕ → List ℕ} (d : ℕ) {c : ℕ} {cs cs' : List Frame} → c ≤ d → Stack names c cs cs' →
      Stack (calling p q lo (suc d) m names) c cs cs'
  stack_kept m d b sk_none = sk_none
  stack_kept m {names = names} d b (sk_frame f g {d = c} e h t) =
      sk_frame f g (calling_earlier p q lo (suc c) d m names b ∙ e) (calling_kept m d (suc c) b h) (stack_kept m d (omega (arith, b)) t)

  -- ---- calls

  starts : (names : ℕ → List ℕ) (m : List ℕ) (d : ℕ) → Running names m d (items (items_of (p.functions m)) []) (items (body m) []) [] []
  starts names m d = at (lo.functions m) refl
    where
      at : (x : LooserFunction (p.functions m) (q.functions m)) → lo.functions m ≡ x →
          Running names m d (items (items_of (p.functions m)) []) (items (body m) []) [] []
      at (lf_same e) eq = subst (λ h. Running names m d (items (items_of (p.functions m)) []) (items (items_of h) []) [] []) e (rn_same e eq tt)
      at (lf_looser l) eq = rn_still l eq (st_control (items_lo l.setting (body m) l.related l.new_placed ct_nil))

  pub begins : (names : ℕ → List ℕ) (m : List ℕ) (d : ℕ) (w w' : World) {cs cs' : List Frame} {r r' : Result World Trap} → w.events ≡ w'.events →
      Pushed p q lo m names d r r' → Stack names d cs cs'
      → Related (begin_call m (items_of (p.functions m)) r cs w) (begin_call m (body m) r' cs' w')
  begins names m d w w' e (ps_ok u s c a) t =
      rl_at (calling p q lo (suc d) m names) m no_guards d u s c (calling_here p q lo (suc d) m names) a
      (starts (calling p q lo (suc d) m names) m (suc d)) (stack_kept m d (omega arith) t)
  begins names m d w w' e (ps_err t) st = subst (λ z. Related (HasTrapped t w.events) (HasTrapped t z)) e (rl_trapped t w.events)

  settles : (names : ℕ → List ℕ) (f : List ℕ) (g : Guards) (d : ℕ) {k k' : List Task} {v v' : List Value} {cs cs' : List Frame} {o o' : Outcome} →
      names (suc d) ≡ f → Calling names f (suc d) k k' v v' → Stack names d cs cs'
      → OutcomeAlike (opens p q lo names) (Shapes p q lo names) (number_shaped p q lo names) (zeros_shaped p q lo names) (suc d) o o' →
      Related (settle o f g k v cs) (settle o' f g k' v' cs')
  settles names f g d e h t (oa_gives x w s r c a) = rl_at names f g d w s c e a (deliver x r h) t
  settles names f g d e h t (oa_traps u w s) = rl_trapped u w.events
  settles names f g d e h t (oa_exits n w s) = rl_ended n w.events

  invoke_items : (b : Option Forest) (h : FunctionTree) (m : List ℕ) (vs : List Value) (f : List ℕ) (g : Guards) (k : List Task) (v : List Value)
      (cs : List Frame) (w : World) → IsSome b
      → invoke b h m vs f g k v cs w ≡ begin_call m (option_map_or (λ a. a) b Nil) (push h vs w) (Waits f g k v ∷ cs) w
  invoke_items (Some a) h m vs f g k v cs w i = refl
  invoke_items None h m vs f g k v cs w i = absurd (true≢false (sym i))

  invokes : (names : ℕ → List ℕ) (m : List ℕ) (vs : List Value) (f : List ℕ) (g : Guards) (d : ℕ) (w : World) (s : Owner → Variable)
      {k k' : List Task} {v v' : List Value} {cs cs' : List Frame} → RefersAllIn p q lo names (suc d) vs → w.calls ≡ suc d
      → AlikeIn p q lo names w s → names (suc d) ≡ f → Calling names f (suc d) k k' v v' → Stack names d cs cs'
      → Related (invoke (p.functions m).body (p.functions m) m vs f g k v cs w) (invoke (q.functions m).body (q.functions m) m vs f g k' v' cs' (over s w))
  invokes names m vs f g d w s {k = k} {k' = k'} {v = v} {v' = v'} {cs = cs} {cs' = cs'} rs c a e h t = at (lo.functions m)
    where
      begun : Related (begin_call m (items_of (p.functions m)) (push (p.functions m) vs w) (Waits f g k v ∷ cs) w)
          (begin_call m (body m) (push (q.functions m) vs (over s w)) (Waits f g k' v' ∷ cs') (over s w))
      begun = begins names m (suc d) w (over s w) refl (push_alike p q lo m names (suc d) vs w s rs c a) (sk_frame f g e h t)

      defined : IsSome (p.functions m).body → IsSome (q.functions m).body →
          Related (invoke (p.functions m).body (p.functions m) m vs f g k v cs w) (invoke (q.functions m).body (q.functions m) m vs f g k' v' cs' (over s w))
      defined i j =
          subst (λ z. Related z (invoke (q.functions m).body (q.functions m) m vs f g k' v' cs' (over s w)))
          (sym (invoke_items (p.functions m).body (p.functions m) m vs f g k v cs w i))
          (subst (λ z. Related (begin_call m (items_of (p.functions m)) (push (p.functions m) vs w) (Waits f g k v ∷ cs) w) z)
          (sym (invoke_items (q.functions m).body (q.functions m) m vs f g k' v' cs' (over s w) j)) begun)

      outside : (b : Option Forest) → (p.functions m).body ≡ b → p.functions m ≡ q.functions m →
          Related (invoke (p.functions m).body (p.functions m) m vs f g k v cs w) (invoke (q.functions m).body (q.functions m) m vs f g k' v' cs' (over s w))
      outside (Some x) i j = defined (ap is_some i) (ap (λ h. is_some h.body) (sym j) ∙ ap is_some i)
      outside None i j =
          subst (λ h. Related (invoke (p.functions m).body (p.functions m) m vs f g k v cs w) (invoke h.body h m vs f g k' v' cs' (over s w))) j
          (subst (λ b. Related (invoke b (p.functions m) m vs f g k v cs w) (invoke b (p.functions m) m vs f g k' v' cs' (over s w))) (sym i)
          (settles names f g d e h t (subst (λ z. OutcomeAlike (opens p q lo names) (Shapes p q lo names) (number_shaped p q lo names)
          (zeros_shaped p q lo names) z (call_without_body m (p.functions m) vs w) (call_without_body m (p.functions m) vs (over s w))) c
          (outside_alike (opens p q lo names) (Shapes p q lo names) (number_shaped p q lo names) (zeros_shaped p q lo names) m (p.functions m) vs w s a))))

      at : LooserFunction (p.functions m) (q.functions m) → Related (invoke (p.functions m).body (p.functions m) m vs f g k v cs w)
          (invoke (q.functions m).body (q.functions m) m vs f g k' v' cs' (over s w))
      at (lf_same i) = outside (p.functions m).body refl i
      at (lf_looser l) = defined l.defined l.new_defined

  -- ---- the end of a call

  leave_entries : (m : List ℕ) (x : Value) (w w' : World) → w.events ≡ w'.events → Related (leave (p.functions m) x [] w) (leave (q.functions m) x [] w')
  leave_entries m x w w' e =
      subst (λ z. Related (leave (p.functions m) x [] w) (settle (cond (is_missing x && is_some z) (Traps Trap.NoValue w') (Exits (integer x) w')) []
      no_guards [] [] [])) (same_result (lo.functions m))
      (at (is_missing x && is_some (p.functions m).result))
    where
      at : (b : Bool) → Related (settle (cond b (Traps Trap.NoValue w) (Exits (integer x) w)) [] no_guards [] [] [])
          (settle (cond b (Traps Trap.NoValue w') (Exits (integer x) w')) [] no_guards [] [] [])
      at true = subst (λ es. Related (HasTrapped Trap.NoValue w.events) (HasTrapped Trap.NoValue es)) e (rl_trapped Trap.NoValue w.events)
      at false = subst (λ es. Related (HasEnded (integer x) w.events) (HasEnded (integer x) es)) e (rl_ended (integer x) w.events)

  popped : (c : World) (d : ℕ) (m : List ℕ) → c.calls ≡ suc (suc d) → (pop (p.functions m) c).calls ≡ suc d
  popped c d m e = let i : pred c.calls ≡ pred (suc (suc d)) = ap pred e in i

  leaves : (names : ℕ → List ℕ) (m : List ℕ) (x : Value) (d : ℕ) (w : World) (s : Owner → Variable) {cs cs' : List Frame} →
      ((c : ℕ) → RefersIn p q lo names c x) → w.calls ≡ suc d → AlikeIn p q lo names w s → Stack names d cs cs'
      → Related (leave (p.functions m) x cs w) (leave (q.functions m) x cs' (over s w))
  leaves names m x d w s r e a sk_none = leave_entries m x w (over s w) refl
  leaves names m x d w s r e a (sk_frame f g {d = c} {k = k} {k' = k'} {v = v} {v' = v'} {cs = cs} {cs' = cs'} i h t) =
      subst (λ z. Related (leave (p.functions m) x (Waits f g k v ∷ cs) w)
      (settle (cond (is_missing x && is_some z && not (is_dropped k')) (Traps Trap.NoValue (over s w)) (Gives x (pop (q.functions m) (over s w))))
      f g k' v' cs')) (same_result (lo.functions m))
      (subst (λ b. Related (leave (p.functions m) x (Waits f g k v ∷ cs) w)
      (settle (cond (is_missing x && is_some (p.functions m).result && not b) (Traps Trap.NoValue (over s w))
      (Gives x (pop (q.functions m) (over s w)))) f g k' v' cs')) (calling_dropped h)
      (subst (λ u. Related (leave (p.functions m) x (Waits f g k v ∷ cs) w)
      (settle (cond (is_missing x && is_some (p.functions m).result && not (is_dropped k)) (Traps Trap.NoValue (over s w)) (Gives x u)) f g k' v'
      cs')) (pop_over p q lo m w s)
      (at (is_missing x && is_some (p.functions m).result && not (is_dropped k)))))
    where
      at : (b : Bool) → Related (settle (cond b (Traps Trap.NoValue w) (Gives x (pop (p.functions m) w))) f g k v cs)
          (settle (cond b (Traps Trap.NoValue (over s w)) (Gives x (over s (pop (p.functions m) w)))) f g k' v' cs')
      at true = rl_trapped Trap.NoValue w.events
      at false = rl_at names f g c (pop (p.functions m) w) s (popped w c m e) i (pop_alike p q lo names m w s a) (deliver x (r (suc c)) h) t

  returned_refers : (names : ℕ → List ℕ) (h : FunctionTree) (x : Value) (c : ℕ) → RefersIn p q lo names c (returned h x)
  returned_refers names h x c = at h.result
    where
      at : (o : Option IntKind) → RefersIn p q lo names c (option_map_or (λ k. converted_value k x) o Missing)
      at None = tt
      at (Some k) = tt

  fallen_refers : (names : ℕ → List ℕ) (m : List ℕ) (c : ℕ) → RefersIn p q lo names c (fallen m)
  fallen_refers names m c = at (bytes_eq m (codes "main"))
    where
      at : (b : Bool) → RefersIn p q lo names c (cond b (Integer (pos 0)) Missing)
      at true = tt
      at false = tt

  returned_alike : (m : List ℕ) (x : Value) → returned (p.functions m) x ≡ returned (q.functions m) x
  returned_alike m x = ap (λ r. option_map_or (λ k. converted_value k x) r Missing) (same_result (lo.functions m))

  pub falls : (names : ℕ → List ℕ) (f : List ℕ) (d : ℕ) (w : World) (s : Owner → Variable) {cs cs' : List Frame} → w.calls ≡ suc d →
      AlikeIn p q lo names w s → Stack names d cs cs' → Related (leave (p.functions f) (fallen f) cs w) (leave (q.functions f) (fallen f) cs' (over s w))
  falls names f d w s c a t = leaves names f (fallen f) d w s (fallen_refers names f) c a t

  pub returns : (names : ℕ → List ℕ) (f : List ℕ) (x : Value) (d : ℕ) (w : World) (s : Owner → Variable) {cs cs' : List Frame} → w.calls ≡ suc d →
      AlikeIn p q lo names w s → Stack names d cs cs'
      → Related (leave (p.functions f) (returned (p.functions f) x) cs w) (leave (q.functions f) (returned (q.functions f) x) cs' (over s w))
  returns names f x d w s {cs = cs} {cs' = cs'} c a t =
      subst (λ y. Related (leave (p.functions f) (returned (p.functions f) x) cs w) (leave (q.functions f) y cs' (over s w))) (returned_alike f x)
      (leaves names f (returned (p.functions f) x) d w s (returned_refers names (p.functions f) x) c a t)

  -- ---- functions that are the same

  module _ (names : ℕ → List ℕ) (f : List ℕ) (g : Guards) (d : ℕ) (e : p.functions f ≡ q.functions f) (eq : lo.functions f ≡ lf_same e)
      (here : names (suc d) ≡ f) where
    all_open : (x : ℕ) → opens p q lo names (suc d) x ≡ true
    all_open x = ap (λ n. opens_of (lo.functions n) x) here ∙ ap (λ z. opens_of z x) eq

    same_performs : {x x' : Effect} {cs cs' : List Frame} (k : List Task) →
        EffectAlike (opens p q lo names) (Shapes p q lo names) (number_shaped p q lo names) (zeros_shaped p q lo names) (suc d) x x' → Stack names d cs cs'
        → Related (perform p x f g k cs) (perform q x' f g k cs')
    same_performs k (ea_does os v w s i r c a) t = rl_at names f g d w s c here a (rn_same e eq r) t
    same_performs k (ea_fails u w s) t = rl_trapped u w.events
    same_performs k (ea_stops n w s) t = rl_ended n w.events
    same_performs k (ea_invokes m vs v w s r rv c a) t = invokes names m vs f g d w s r c a here (cl_same e eq rv) t
    same_performs k (ea_leaves (Some x) w s c a) t = returns names f x d w s c a t
    same_performs k (ea_leaves None w s c a) t = falls names f d w s c a t

    pub same_moves : (x : View) (v : List Value) (w : World) (s : Owner → Variable) {cs cs' : List Frame} → w.calls ≡ suc d →
        AlikeIn p q lo names w s → RefersAllIn p q lo names (suc d) v → Stack names d cs cs'
        → Related (move p x f g v cs w) (move q x f g v cs' (over s w))
    same_moves Finishes v w s c a r t = falls names f d w s c a t
    same_moves (Goes k) v w s c a r t = rl_at names f g d w s c here a (rn_same e eq r) t
    same_moves (Guarding l b k) v w s c a r t = rl_at names f (with_guard l b g) d w s c here a (rn_same e eq r) t
    same_moves (Yields n k) v w s c a r t = rl_at names f g d w s c here a (rn_same e eq (tt, r)) t
    same_moves (Takes h) [] w s c a r t = rl_at names f g d w s c here a (rn_same e eq tt) t
    same_moves (Takes h) (x ∷ v) w s c a r t = rl_at names f g d w s c here a (rn_same e eq r.1) t
    same_moves (Arming l k) [] w s c a r t = rl_at names f (with_guard l (holds Missing) g) d w s c here a (rn_same e eq tt) t
    same_moves (Arming l k) (x ∷ v) w s c a r t = rl_at names f (with_guard l (holds x) g) d w s c here a (rn_same e eq r.1) t
    same_moves (Acts o k) v w s c a r t =
        same_performs k (subst (λ z. EffectAlike (opens p q lo names) (Shapes p q lo names) (number_shaped p q lo names) (zeros_shaped p q lo names) z
        (effect o v w) (effect o v (over s w))) c
        (effect_alike (opens p q lo names) (Shapes p q lo names) (number_shaped p q lo names) (zeros_shaped p q lo names) o v w s a
        (op_all (λ x. opens p q lo names w.calls x ≡ true) (λ x. subst (λ z. opens p q lo names z x ≡ true) (sym c) (all_open x)) o)
        (subst (λ z. RefersAllIn p q lo names z v) (sym c) r))) t

  -- ---- expressions of functions that are looser

  module _ (names : ℕ → List ℕ) (f : List ℕ) (g : Guards) (d : ℕ) (l : IsLooser (p.functions f) (q.functions f)) (eq : lo.functions f ≡ lf_looser l)
      (here : names (suc d) ≡ f) where
    ops_join : (P : ℕ → Type 0) (os ps : List Op) → OpsSlots P os → OpsSlots P ps → OpsSlots P (os ++ ps)
    ops_join P [] ps h k = k
    ops_join P (o ∷ os) ps h k = (h.0, ops_join P os ps h.1 k)

    performs : {x x' : Effect} {k k' : List Task} {v v' : List Value} {cs cs' : List Frame} (os : List Op) →
        EffectAlike (opens p q lo names) (Shapes p q lo names) (number_shaped p q lo names) (zeros_shaped p q lo names) (suc d) x x' →
        FitsEffect os x → InBoth f os
        → Waiting l.setting (body f) (suc d) k k' v v' → RefersAllIn p q lo names (suc d) v → Stack names d cs cs' →
        Related (perform p (framed v x) f g (works os k) cs) (perform q (framed v' x') f g (works os k') cs')
    performs {k = k} {k' = k'} {v = v} {v' = v'} {cs = cs} {cs' = cs'} os (ea_does ps u w s i r c a) h j wt vs t =
        subst (λ z. Related (At f g z (u ++ v) cs w) (At f g (works ps (works os k')) (u ++ v') cs' (over s w))) (works_append ps os k)
        (subst (λ z. Related (At f g (works (ps ++ os) k) (u ++ v) cs w) (At f g z (u ++ v') cs' (over s w))) (works_append ps os k')
        (rl_at names f g d w s c here a (rn_evaluates l eq (ps ++ os) u h
        (ops_join (λ x. opens_of (lo.functions f) x ≡ true) ps os (subst (λ n. OpsSlots (λ x. opens_of (lo.functions n) x ≡ true) ps) here i) j) r
        wt vs) t))
    performs os (ea_fails u w s) h j wt vs t = rl_trapped u w.events
    performs os (ea_stops n w s) h j wt vs t = rl_ended n w.events
    performs os (ea_invokes m xs u w s rx r c a) h j wt vs t = invokes names m xs f g d w s rx c a here (cl_evaluates l eq os u h j r wt vs) t
    performs os (ea_leaves x w s c a) h j wt vs t = absurd h

    pub evaluates : (o : Op) (os : List Op) (u : List Value) (w : World) (s : Owner → Variable) {k k' : List Task} {v v' : List Value}
        {cs cs' : List Frame} → w.calls ≡ suc d → AlikeIn p q lo names w s → Fits (length u) (o ∷ os) → InBoth f (o ∷ os)
        → RefersAllIn p q lo names (suc d) u → Waiting l.setting (body f) (suc d) k k' v v' → RefersAllIn p q lo names (suc d) v → Stack names d cs cs'
        → Related (perform p (effect o (u ++ v) w) f g (works os k) cs) (perform q (effect o (u ++ v') (over s w)) f g (works os k') cs')
    evaluates o os u w s {k = k} {k' = k'} {v = v} {v' = v'} {cs = cs} {cs' = cs'} c a h i r wt vs t =
        subst (λ z. Related (perform p z f g (works os k) cs) (perform q (effect o (u ++ v') (over s w)) f g (works os k') cs')) (sym (frame o u v w os h))
        (subst (λ z. Related (perform p (framed v (effect o u w)) f g (works os k) cs) (perform q z f g (works os k') cs')) (sym (frame o u v' (over s w) os h))
        (performs os (subst (λ z. EffectAlike (opens p q lo names) (Shapes p q lo names) (number_shaped p q lo names) (zeros_shaped p q lo names) z
        (effect o u w) (effect o u (over s w))) c
        (effect_alike (opens p q lo names) (Shapes p q lo names) (number_shaped p q lo names) (zeros_shaped p q lo names) o u w s a
        (subst (λ z. OpSlots (λ x. opens p q lo names z x ≡ true) o) (sym c)
        (subst (λ n. OpSlots (λ x. opens_of (lo.functions n) x ≡ true) o) (sym here) i.0)) (subst (λ z. RefersAllIn p q lo names z u) (sym c) r)))
        (fits o u w os h) i.1 wt vs t))
