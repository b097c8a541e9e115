-- Whole runs of a program without guards that nothing reads: the same behaviour, and steady.
use Rattle.std.proofs.Common.{ℕ, zero, suc, ◌+◌, ◌≤◌, ℤ, Bool, List, [], ◌∷◌, map, Option, Some, None, option_map, IsSome, ◌↔◌, ◌≡◌, refl, ap, sym, ◌∙◌, subst, arith}
use Rattle.c_tree.specs.Trees.{Tree, Forest, Nil, Then, Sections, NoSection, Section, If, While, Do, For, Switch, Block}
use Rattle.c_tree.specs.Everywhere.{Everywhere}
use Rattle.jump_meaning.specs.Values.{Integer}
use Rattle.jump_meaning.specs.Code.{Code, items_of}
use Rattle.jump_meaning.specs.World.{push, world_at_start}
use Rattle.jump_meaning.specs.Behaviour.{Covers}
use Rattle.jump_meaning.specs.Tasks.{WhileLoop, DoLoop, ForLoop, Task, Loops, Heads, items, end_of, tail_tasks}
use Rattle.jump_meaning.specs.Step.{State, HasEnded, HasTrapped, begin_call, step}
use Rattle.jump_meaning.specs.Runs.{run, shows, IsEntry, start, jump_run, SameBehaviour}
use Rattle.jump_meaning.specs.Steady.{IsSteadyCode}
use Rattle.jump_meaning.proofs.Covering.{covers_refl}
use Rattle.jump_meaning.proofs.RunFacts.{run_add, run_grows}
use Rattle.core_laws.proofs.Reach.{stay, body_in}
use Rattle.core_laws.proofs.Faces.{push_alike, same_entries}
use Rattle.core_laws.proofs.Pairs.{count, ends}
use Rattle.core_laws.proofs.Same.{same_world}
use Rattle.core_laws.proofs.Sides.{SureAt, RealSure}
use Rattle.core_laws.proofs.All.{AllIn, AllOf, AllSections, AllState, all_next, all_start}
use Rattle.core_laws.proofs.Theorem.{Placed, real_sures, sure_steady}
use Rattle.move_laws.specs.Drops.{IsUnread, dropped}
use Rattle.move_laws.proofs.Dropped.{IsDropped, NoFact, Like, like_at, like_ended, like_trapped, no_frame, Beside, go, like_begin, same_body}

-- ---- no fact holds everywhere

mutual
  nothing_in : (f : List ℕ) (a : Forest) (k : List Task) → AllIn NoFact f a k
  nothing_in f Nil k = tt
  nothing_in f (Then x a) k = (nothing_of f x (items a k), nothing_in f a k)

  nothing_of : (f : List ℕ) (x : Tree) (k : List Task) → AllOf NoFact f x k
  nothing_of f (If t a b) k = (nothing_in f a k, nothing_in f b k)
  nothing_of f (While t a) k = nothing_in f a (Loops (WhileLoop t a) ∷ k)
  nothing_of f (Do a t) k = nothing_in f a (Loops (DoLoop a t) ∷ k)
  nothing_of f (For first t u a) k = (nothing_in f first (Heads t u a ∷ k), nothing_in f a (Loops (ForLoop t u a) ∷ k))
  nothing_of f (Switch s c) k = (tt, nothing_among f c k)
  nothing_of f (Block a) k = nothing_in f a k
  nothing_of f _ k = tt

  nothing_among : (f : List ℕ) (c : Sections) (k : List Task) → AllSections NoFact f c k
  nothing_among f NoSection k = tt
  nothing_among f (Section cases default a ends c) k = (nothing_in f a (end_of ends (tail_tasks c k)), nothing_among f c k)

some_dropped : (d : ℕ → Bool) (a b : Option Forest) → b ≡ option_map (dropped d) a → IsSome a ↔ IsSome b
some_dropped d (Some a) b e = ((λ h. subst IsSome (sym e) refl), (λ h. refl))
some_dropped d None b e = ((λ h. subst IsSome (sym e) h), (λ h. subst IsSome e h))

module _ (D : List ℕ → ℕ → Bool) (p q : Code) (without : (m : List ℕ) → IsDropped (D m) (p.functions m) (q.functions m))
    (unread : (m : List ℕ) → Everywhere (IsUnread (D m)) (body_in p m))
    (globals : (m : List ℕ) → p.globals m ≡ q.globals m) (cells : p.cells ≡ q.cells) where
  abbrev AreLike : State → State → Type 0
  AreLike c e = Like D p q without unread c e

  abbrev Knows : State → Type 0
  Knows c = AllState NoFact c

  knows_next : (c : State) → Knows c → Knows (step p c)
  knows_next c h = all_next NoFact p (λ f. nothing_in f (body_in p f) []) c h

  knows_run : (n : ℕ) (c : State) → Knows c → Knows (run p n c)
  knows_run zero c h = h
  knows_run (suc n) c h = knows_run n (step p c) (knows_next c h)

  beside : {c e : State} → AreLike c e → Knows c → Beside D p q without unread c e
  beside (like_at f g h k v w {cs = cs} {ds = ds} a r s) t = go D p q without unread f cs ds s w k t.0 g h v a r
  beside (like_ended n es) t = record { pre = HasEnded n es; way = stay; like = like_ended n es; sure = λ z. tt }
  beside (like_trapped x es) t = record { pre = HasTrapped x es; way = stay; like = like_trapped x es; sure = λ z. tt }

  -- after i steps of the second, and at least as many of the first, the states are alike
  record Alike (i : ℕ) (c e : State) : Type 0 where
    steps : ℕ
    far : i ≤ steps
    like : AreLike (run p steps c) (run q i e)

  -- the steps of the first up to where both went on
  one_on : {c e : State} (b : Beside D p q without unread c e) → run p (count b.way + 1) c ≡ step p b.pre
  one_on {c = c} b = run_add p (count b.way) 1 c ∙ ap (run p 1) (ends b.way)

  alike : (i : ℕ) (c e : State) → AreLike c e → Knows c → Alike i c e
  alike zero c e l h = record { steps = 0; far = omega arith; like = l }
  alike (suc i) c e l h =
      let b = beside l h in
      let n = count b.way + 1 in
      let r = alike i (step p b.pre) (step q e) b.like (subst Knows (one_on b) (knows_run n c h)) in
      record {
        steps = n + r.steps;
        far = let x = r.far in omega (arith, x);
        like = subst (λ z. AreLike z (run q (suc i) e)) (sym (run_add p n r.steps c ∙ ap (run p r.steps) (one_on b))) r.like;
      }

  like_shows : {c e : State} → AreLike c e → shows c ≡ shows e
  like_shows (like_at f g h k v w a r s) = refl
  like_shows (like_ended n es) = refl
  like_shows (like_trapped t es) = refl

  like_start : (m : List ℕ) (arguments : List ℤ) (input : List ℕ) (answers : List ℤ) →
      AreLike (start p m arguments input answers) (start q m arguments input answers)
  like_start m arguments input answers =
      let vs = map Integer arguments in
      let w = world_at_start p input answers in
      subst (λ u. AreLike (start p m arguments input answers) (begin_call m (items_of (q.functions m)) (push (q.functions m) vs u) [] u))
      (same_world p q globals cells input answers)
      (subst (λ r. AreLike (start p m arguments input answers) (begin_call m (items_of (q.functions m)) r [] w)) (push_alike (without m).face vs w)
      (subst (λ a. AreLike (start p m arguments input answers) (begin_call m a (push (p.functions m) vs w) [] w)) (sym (same_body D p q without unread m))
      (like_begin D p q without unread m (body_in p m) (push (p.functions m) vs w) w (unread m) no_frame)))

  knows_start : (m : List ℕ) (arguments : List ℤ) (input : List ℕ) (answers : List ℤ) → Knows (start p m arguments input answers)
  knows_start m arguments input answers = all_start NoFact p (λ f. nothing_in f (body_in p f) []) m arguments input answers

  entries : (m : List ℕ) (arguments : List ℤ) → IsEntry p m arguments ↔ IsEntry q m arguments
  entries m arguments = same_entries p q m (without m).face (some_dropped (D m) (p.functions m).body (q.functions m).body (without m).body) arguments

  module _ (m : List ℕ) (arguments : List ℤ) (input : List ℕ) (answers : List ℤ) where
    abbrev from : State
    from = start p m arguments input answers

    abbrev from' : State
    from' = start q m arguments input answers

    met : (n : ℕ) → Alike n from from'
    met n = alike n from from' (like_start m arguments input answers) (knows_start m arguments input answers)

    forth : (n : ℕ) → (i : ℕ) × Covers (jump_run p m arguments input answers n) (jump_run q m arguments input answers i)
    forth n = let r = met n in (n, subst (λ z. Covers (jump_run p m arguments input answers n) z) (like_shows r.like) (run_grows p n r.steps from r.far))

    back : (n : ℕ) → (i : ℕ) × Covers (jump_run q m arguments input answers n) (jump_run p m arguments input answers i)
    back n = let r = met n in (
      r.steps,
      subst (λ z. Covers (jump_run q m arguments input answers n) z) (sym (like_shows r.like))
          (covers_refl (jump_run q m arguments input answers n)),
    )

    -- the ways of the Arms that stay still land
    still_sure : RealSure p from → RealSure q from'
    still_sure h i =
        let r = met i in
        let b = beside r.like (knows_run r.steps from (knows_start m arguments input answers)) in
        b.sure (subst SureAt (run_add p r.steps (count b.way) from ∙ ends b.way) (h (r.steps + count b.way)))

  pub dropped_same : SameBehaviour p q
  dropped_same = record {
    entries = entries;
    runs = λ m arguments e input answers. record { forth = forth m arguments input answers; back = back m arguments input answers };
  }

  pub dropped_steady : Placed p → Placed q → IsSteadyCode p → IsSteadyCode q × SameBehaviour p q
  dropped_steady b d st = (
    sure_steady q d (λ m arguments e input answers. still_sure m arguments input answers
        (real_sures p b st m arguments ((entries m arguments).1 e) input answers)),
    dropped_same,
  )
