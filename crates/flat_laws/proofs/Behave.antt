-- A program and a looser one behave the same, and the second meets no Arm where the first meets none.
use Rattle.std.proofs.Common.{ℕ, zero, suc, ℤ, List, [], ◌∷◌, ◌++◌, length, ◌≡◌, refl, sym, ◌∙◌, ap, subst, arith}
use Rattle.c_types.specs.Numbers.{promoted}
use Rattle.c_tree.specs.declared.tree.Slot.{Slot}
use Rattle.c_tree.specs.Trees.{Then, Goto, join}
use Rattle.jump_meaning.specs.Values.{Owner, OfFile, OfCall, Variable, Holds, Lent, Value, Integer, Designates}
use Rattle.jump_meaning.specs.Code.{Code, items_of}
use Rattle.jump_meaning.specs.World.{World}
use Rattle.jump_meaning.specs.Effects.{Op, Converts, Drops, Stores}
use Rattle.jump_meaning.specs.Tasks.{Task, Works, Enters, items, works}
use Rattle.jump_meaning.specs.Step.{Guards, Frame, State, At, view, move, step}
use Rattle.jump_meaning.specs.Runs.{iterate}
use Rattle.core_laws.proofs.Reach.{stay}
use Rattle.core_laws.proofs.Match.{IsNoArm, SafeAt}
use Rattle.flat_laws.specs.Pieces.{tests_among}
use Rattle.flat_laws.specs.Loose.{IsLooser, LooserFunction, lf_same, lf_looser, LooserCode}
use Rattle.flat_laws.proofs.Worlds.{over, Seen}
use Rattle.flat_laws.proofs.Heights.{Fits}
use Rattle.flat_laws.proofs.Controls.{Waiting, wt_drops, wt_ends, wt_takes, wt_number, wt_cell, wt_sets, wt_selects}
use Rattle.flat_laws.proofs.Tests as tests
use Rattle.flat_laws.proofs.Tests.{turned, GoesTo, goes_among}
use Rattle.flat_laws.proofs.Names.{opens, Shapes, AlikeIn, RefersAllIn}
use Rattle.flat_laws.proofs.Running.{body, InBoth, Running, rn_same, rn_still, rn_evaluates, Stack, Related, rl_at, rl_ended, rl_trapped, returns, evaluates}
use Rattle.std.proofs.Common.{map, All, take, IsSome, IsNone, ◌↔◌}
use Rattle.jump_meaning.specs.World.{push, world_at_start}
use Rattle.jump_meaning.specs.Step.{begin_call}
use Rattle.jump_meaning.specs.Laws.{HoldsNumbers}
use Rattle.jump_meaning.specs.Runs.{shows, IsEntry, start, SameBehaviour}
use Rattle.jump_meaning.proofs.Growth.{step_covers}
use Rattle.jump_meaning.proofs.Scheme.{same, all_safe}
use Rattle.core_laws.proofs.Same.{same_world}
use Rattle.flat_laws.proofs.Names.{push_alike}
use Rattle.flat_laws.proofs.Running.{begins, same_moves, sk_none}
use Rattle.flat_laws.proofs.Joints.{weight, J, go, takes_no_arm, still, joint_still}
use Rattle.std.specs.List.{AllByRecursion}
use Rattle.std.proofs.lemmas.List.Elements.{All-from_recursion, recursion_from_All}
use Rattle.core_laws.proofs.Theorem.{MeetsNoArm}
use Rattle.flat_laws.specs.Loose.{ExtendSlots}
use Rattle.flat_laws.proofs.Worlds.{RefersTo, call_of}
use Rattle.flat_laws.proofs.Loosened.{ends_number, ends_cell, sets, selects}

module _ (p q : Code) (lo : LooserCode p q) where
  module _ (names : ℕ → List ℕ) (f : List ℕ) (g : Guards) (d : ℕ) (here : names (suc d) ≡ f) {cs cs' : List Frame} (t : Stack p q lo names d cs cs')
      (w : World) (s : Owner → Variable) (c : w.calls ≡ suc d) (a : AlikeIn p q lo names w s) where
    abbrev JT : List Task → List Task → List Value → List Value → Type 0
    JT k k' v v' = J p q lo (At f g k v cs w) (At f g k' v' cs' (over s w))

    module _ (l : IsLooser (p.functions f) (q.functions f)) (eq : lo.functions f ≡ lf_looser l) where
      -- a value is there
      waits : {k k' : List Task} {v v' : List Value} → Waiting l.setting (body p q lo f) (suc d) k k' v v' → (z : Value) →
          RefersAllIn p q lo names (suc d) v → JT k k' (z ∷ v) (z ∷ v')
      waits (wt_drops h) z r = go p q lo (still p q lo names f g d l eq here t w s c a h) tt stay
      waits wt_ends z r = go p q lo (returns p q lo names f z d w s c a t) tt stay
      waits {k = k} {k' = k'} (wt_takes h h' pf qf e e' gg) z r =
          go p q lo (subst (λ x. Related p q lo (move p x f g (z ∷ []) cs w) (At f g (h' z) [] cs' (over s w)))
          (sym (pf (items_of (p.functions f)) g)) (still p q lo names f g d l eq here t w s c a (gg z)))
          (takes_no_arm (body p q lo f) g k' h' (qf (body p q lo f) g))
          (tests.turn q f g cs' (over s w) (ap (λ x. move q x f g (z ∷ []) cs' (over s w)) (qf (body p q lo f) g)) stay)
      waits (wt_number v x b ce h) z r = ends_number p q lo names f g d l eq here t w s c a v x z b ce r.0 h
      waits (wt_cell v ki x i es m b ce e h) z r = ends_cell p q lo names f g d l eq here t w s c a v ki x i es m z b ce e r.0 h
      waits (wt_sets v x i es b e h) z r = sets p q lo names f g d l eq here t w s c a v x i es z b e r.0 h
      waits (wt_selects j b' names' v m {e = sections} {ys = ys} {k = k} {k' = k'} n fits i ce ke o fs al h) z r =
          subst (λ y. JT (Works (Converts (promoted j)) ∷ Enters (promoted j) sections ∷ k)
          (Works Stores ∷ Works Drops ∷ items (join (tests_among l.setting.number (promoted j) v names' sections) (Then (Goto m) ys)) k') (z ∷ [])
          (z ∷ Designates (OfCall y v) 0 ∷ [])) c
          (selects p q lo names f g d l eq here t w s c a j v z i ce ke b' names' m n fits o fs al h)

      evaluating : (os : List Op) (u : List Value) {k k' : List Task} {v v' : List Value} → Fits (length u) os → InBoth p q lo f os →
          RefersAllIn p q lo names (suc d) u → Waiting l.setting (body p q lo f) (suc d) k k' v v' → RefersAllIn p q lo names (suc d) v
          → JT (works os k) (works os k') (u ++ v) (u ++ v')
      evaluating [] [] h i r wt rv = absurd h
      evaluating [] (x ∷ []) h i r wt rv = waits wt x rv
      evaluating [] (x ∷ y ∷ u) h i r wt rv = absurd h
      evaluating (o ∷ os) u h i r wt rv = go p q lo (evaluates p q lo names f g d l eq here o os u w s c a h i r wt rv t) tt stay

    running : {k k' : List Task} {v v' : List Value} → Running p q lo names f (suc d) k k' v v' → IsNoArm k → JT k k' v v'
    running (rn_same e {k = k} {v = v} eq rs) z =
        go p q lo (subst (λ h. Related p q lo (step p (At f g k v cs w)) (move q (view (items_of h) g k) f g v cs' (over s w))) e
        (same_moves p q lo names f g d e eq here (view (items_of (p.functions f)) g k) v w s c a rs t)) z stay
    running (rn_still l eq h) z = joint_still p q lo names f g d l eq here t w s c a h
    running (rn_evaluates l eq os u h i r wt rv) z = evaluating l eq os u h i r wt rv

  joint : (c d : State) → Related p q lo c d → ((n : ℕ) → SafeAt (iterate (step p) n c)) → J p q lo c d
  joint c d (rl_at names f g i w s e here a rn t) ok = running names f g i here t w s e a rn (ok 0)
  joint c d (rl_ended n es) ok = go p q lo (rl_ended n es) tt stay
  joint c d (rl_trapped u es) ok = go p q lo (rl_trapped u es) tt stay

  alike : (c d : State) → Related p q lo c d → shows c ≡ shows d
  alike c d (rl_at names f g i w s e here a rn t) = refl
  alike c d (rl_ended n es) = refl
  alike c d (rl_trapped u es) = refl

  -- ---- starts

  module _ (held : (m : List ℕ) → HoldsNumbers (p.globals m)) (m : List ℕ) (arguments : List ℤ) (input : List ℕ) (answers : List ℤ) where
    names0 : ℕ → List ℕ
    names0 c = m

    w0 : World
    w0 = world_at_start p input answers

    numbers_refer : (ns : List ℤ) → RefersAllIn p q lo names0 0 (map Integer ns)
    numbers_refer [] = tt
    numbers_refer (n ∷ ns) = (tt, numbers_refer ns)

    holds_no_lent : (v : Variable) → HoldsNumbers v → RefersTo (opens p q lo names0) (Shapes p q lo names0) 0 v
    holds_no_lent (Holds k n cells) h = tt
    holds_no_lent (Lent o) h = absurd h

    start_alike : AlikeIn p q lo names0 (world_at_start p input answers) (world_at_start p input answers).variables
    start_alike = record { agree = λ o h. refl; closed = closed; shaped = λ c x l h. absurd (omega (arith, l, h)) }
      where
        closed : (o : Owner) → Seen (opens p q lo names0) (Shapes p q lo names0) 0 o →
            RefersTo (opens p q lo names0) (Shapes p q lo names0) (call_of o) ((world_at_start p input answers).variables o)
        closed (OfFile n) h = holds_no_lent (p.globals n) (held n)
        closed (OfCall c x) h = tt

    start_related : Related p q lo (start p m arguments input answers) (start q m arguments input answers)
    start_related =
        let w = world_at_start p input answers in
        subst (λ u. Related p q lo (start p m arguments input answers)
        (begin_call m (items_of (q.functions m)) (push (q.functions m) (map Integer arguments) u) [] u)) (same_world p q lo.globals lo.cells input answers)
        (begins p q lo names0 m 0 w w refl (push_alike p q lo m names0 0 (map Integer arguments) w w.variables (numbers_refer arguments) refl
        start_alike) sk_none)

  -- ---- entries

  extend_none : (n : ℕ) (ss ts : List Slot) → ExtendSlots ss ts → AllByRecursion (λ t. IsNone t.cells) (take n ss) →
      AllByRecursion (λ t. IsNone t.cells) (take n ts)
  extend_none zero ss ts h i = tt
  extend_none (suc n) [] [] h i = tt
  extend_none (suc n) [] (t ∷ ts) h i = (subst (λ o. IsNone o) (sym h.0) refl, extend_none n [] ts h.1 (nothing n))
    where
      nothing : (n : ℕ) → AllByRecursion (λ (t : Slot). IsNone t.cells) (take n [])
      nothing zero = tt
      nothing (suc n) = tt
  extend_none (suc n) (s ∷ ss) [] h i = absurd h
  extend_none (suc n) (s ∷ ss) (t ∷ ts) h i = (subst (λ o. IsNone o) h.1 i.0, extend_none n ss ts h.2 i.1)

  none_extend : (n : ℕ) (ss ts : List Slot) → ExtendSlots ss ts → AllByRecursion (λ t. IsNone t.cells) (take n ts) →
      AllByRecursion (λ t. IsNone t.cells) (take n ss)
  none_extend zero ss ts h i = tt
  none_extend (suc n) [] ts h i = tt
  none_extend (suc n) (s ∷ ss) [] h i = absurd h
  none_extend (suc n) (s ∷ ss) (t ∷ ts) h i = (subst (λ o. IsNone o) (sym h.1) i.0, none_extend n ss ts h.2 i.1)

  entries : (m : List ℕ) (arguments : List ℤ) → IsEntry p m arguments ↔ IsEntry q m arguments
  entries m arguments = at (lo.functions m)
    where
      at : LooserFunction (p.functions m) (q.functions m) → IsEntry p m arguments ↔ IsEntry q m arguments
      at (lf_same e) = (
        (λ h. record {
          defined = subst (λ f. IsSome f.body) e h.defined;
          numbers = subst (λ f. All (λ s. IsNone s.cells) (take f.params f.slots)) e h.numbers;
          given = h.given ∙ ap (λ f. f.params) e;
        }),
        (λ h. record {
          defined = subst (λ f. IsSome f.body) (sym e) h.defined;
          numbers = subst (λ f. All (λ s. IsNone s.cells) (take f.params f.slots)) (sym e) h.numbers;
          given = h.given ∙ sym (ap (λ f. f.params) e);
        }),
      )
      at (lf_looser l) =
          let f = p.functions m in
          let h = q.functions m in (
            (λ e. record {
              defined = l.new_defined;
              numbers = subst (λ n. All (λ s. IsNone s.cells) (take n h.slots)) l.params
                  (All-from_recursion (λ s. IsNone s.cells) (take f.params h.slots)
                  (extend_none f.params f.slots h.slots l.slots (recursion_from_All (λ s. IsNone s.cells) (take f.params f.slots) e.numbers)));
              given = e.given ∙ l.params;
            }),
            (λ e. record {
              defined = l.defined;
              numbers = All-from_recursion (λ s. IsNone s.cells) (take f.params f.slots)
                  (none_extend f.params f.slots h.slots l.slots
                  (recursion_from_All (λ s. IsNone s.cells) (take f.params h.slots)
                  (subst (λ n. All (λ s. IsNone s.cells) (take n h.slots)) (sym l.params) e.numbers)));
              given = e.given ∙ sym l.params;
            }),
          )

  -- ---- the theorem

  module _ (held : (m : List ℕ) → HoldsNumbers (p.globals m)) (safe : MeetsNoArm p) where
    pub loosened : SameBehaviour p q
    loosened = record {
      entries = entries;
      runs = λ m arguments e input answers.
          same (step p) (step q) shows shows (Related p q lo) SafeAt SafeAt weight joint alike (step_covers p) (step_covers q)
          (start p m arguments input answers) (start q m arguments input answers) (start_related held m arguments input answers)
          (safe m arguments e input answers);
    }

    pub still_no_arm : MeetsNoArm q
    still_no_arm m arguments e input answers n =
        all_safe (step p) (step q) shows shows (Related p q lo) SafeAt SafeAt weight joint alike (step_covers p) (step_covers q)
        (start p m arguments input answers) (start q m arguments input answers) (start_related held m arguments input answers)
        (safe m arguments ((entries m arguments).1 e) input answers) n
