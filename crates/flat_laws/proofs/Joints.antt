-- Where a step of a program leads, a looser one comes too: the calls of a looser function.
use Rattle.std.proofs.Common.{ℕ, zero, suc, ◌≤◌, ◌<◌, ◌+◌, inl, inr, ℤ, Bool, true, false, cond, List, [], ◌∷◌, length, Option, Some, None, IfSome, ◌≡◌, refl, sym, ◌∙◌, ap, subst, arith, lt-ltb}
use Rattle.c_types.specs.declared.kinds.IntKind.{IntKind}
use Rattle.c_tree.specs.declared.tree.Home.TheVariants as H
use Rattle.c_tree.specs.ExpressionTrees.{ExpressionTree}
use Rattle.c_tree.specs.Constants.{kind_of}
use Rattle.c_tree.specs.TestTrees.{Source, Selects}
use Rattle.c_tree.specs.Trees.{Tree, Forest, Nil, Then, Sections, Evaluate, While, For, Switch, Block, Local, Break, Goto, Mark, Arm, join}
use Rattle.jump_meaning.specs.Values.{Owner, OfCall, Variable, Holds, Value, Designates, integer}
use Rattle.jump_meaning.specs.Code.{Code, items_of}
use Rattle.jump_meaning.specs.World.{World, put, holder, owner, with_zeros}
use Rattle.jump_meaning.specs.Operations.{operand_kind, holds}
use Rattle.jump_meaning.specs.Calls.{slot_cell, is_array_slot, is_array}
use Rattle.jump_meaning.specs.Effects.{Computes, Converts, Drops, Stores, Sets, Clears, Does, initialise}
use Rattle.jump_meaning.specs.Tasks.{WhileLoop, DoLoop, ForLoop, Task, Runs, Works, Turns, Loops, Heads, Enters, Out, items}
use Rattle.jump_meaning.specs.Search.{ToDefault, find}
use Rattle.jump_meaning.specs.Step.{Guards, Frame, State, At, Takes, switch_kind, view, perform, step}
use Rattle.jump_meaning.specs.Runs.{iterate}
use Rattle.jump_meaning.proofs.Scheme.{Joint}
use Rattle.core_laws.proofs.Reach.{Reach, stay, more}
use Rattle.core_laws.proofs.Pairs.{count, ends, each}
use Rattle.core_laws.proofs.Match.{IsNoArm, SafeAt}
use Rattle.flat_laws.specs.Pieces.{Aim, mark_of, IsMoved, test_or_one, third_items, with_third, assign_number, assigned_cells, Names, wanted_among, tests_among}
use Rattle.flat_laws.specs.Placed.{ArePlaced}
use Rattle.flat_laws.specs.Loose.{Setting, In, AreIn, slot_of, IsLocal, IsNew, Mode, Open, Ended, Inner, Arrivals, IsOtherwise, LooserItem, lo_evaluate, lo_return, lo_return_none, lo_note, lo_if, lo_while, lo_do, lo_for, lo_for_while, lo_block, lo_keep_block, lo_keep_for, lo_keep_declares, lo_keep_local, lo_declares, lo_number, lo_array, lo_break, lo_break_to, lo_break_end, lo_continue, lo_continue_to, lo_goto, lo_mark, lo_drop, lo_arrival, lo_switch, lo_scatter, Looser, Spread, IsLooser, lf_looser, LooserCode}
use Rattle.flat_laws.proofs.Worlds.{over, Seen, owner_alike, owner_seen, array_alike, changed_alike}
use Rattle.flat_laws.proofs.Effects.{OpSlots, zeros}
use Rattle.flat_laws.proofs.SlotsMore.{expression_more}
use Rattle.flat_laws.proofs.Controls.{behind_mark, Control, ct_nil, ct_item, ct_skip, ct_while, ct_do, ct_for, ct_heads, ct_starts, ct_while_starts, ct_third, ct_out, ct_ends, ct_ended, ct_behind, ct_leaves, Still, st_control, st_turns, st_clears, st_keep_clears, Waiting, wt_drops, wt_ends, wt_takes, wt_number, wt_cell, wt_sets, wt_selects}
use Rattle.flat_laws.proofs.ControlFacts.{placed_join, unlabelled_placed, behind_mark_lo, items_lo, list_lo, third_lo, Jump, break_lo, cont_lo}
use Rattle.flat_laws.proofs.Locate.{locate}
use Rattle.flat_laws.proofs.Entries.{entry_lo}
use Rattle.flat_laws.proofs.Tests as tests
use Rattle.flat_laws.proofs.Stores.{of_shape, number_place, cell_place, zero_cells}
use Rattle.flat_laws.proofs.Names.{HasShape, opens_of, IsShapedFor, opens, Shapes, AlikeIn, RefersIn, RefersAllIn, number_shaped, zeros_shaped}
use Rattle.flat_laws.proofs.Running.{body, rn_still, rn_evaluates, Stack, Related, rl_at, falls}

-- what bounds the steps of items that are gone in the second
abbrev mutual
  sizes : Forest → ℕ
  sizes Nil = 0
  sizes (Then x xs) = size x + sizes xs

  size : Tree → ℕ
  size (Block a) = 1 + sizes a
  size (For i t u a) = 1 + sizes i
  size (Local x es) = 2
  size _ = 1

abbrev task_weight : List Task → ℕ
task_weight [] = 0
task_weight (Runs x ∷ k) = size x + task_weight k
task_weight (Loops (ForLoop t u a) ∷ k) = 1 + task_weight k
task_weight (Out ∷ k) = 1 + task_weight k
task_weight (Works (Clears x n) ∷ k) = 1 + task_weight k
task_weight (_ ∷ k) = task_weight k

abbrev pub weight : State → ℕ
weight (At f g k v cs w) = task_weight k
weight _ = 0

items_weight : (xs : Forest) (k : List Task) → task_weight (items xs k) ≡ sizes xs + task_weight k
items_weight Nil k = omega arith
items_weight (Then x xs) k = let h = items_weight xs k in omega (arith, h)

pub takes_no_arm : (b : Forest) (g : Guards) (k : List Task) (h : Value → List Task) → view b g k ≡ Takes h → IsNoArm k
takes_no_arm b g (Runs (Arm l None) ∷ k) h e = cc
takes_no_arm b g (Runs (Arm l (Some x)) ∷ k) h e = cc
takes_no_arm b g _ h e = tt

module _ (p q : Code) (lo : LooserCode p q) where
  abbrev pub J : State → State → Type 0
  J c d = Joint (step p) (step q) (Related p q lo) SafeAt weight c d

  run_safe : {d e : State} (r : Reach q SafeAt d e) (i : ℕ) → i < count r → SafeAt (iterate (step q) i d)
  run_safe r i h = each r i h

  -- one step of the first; some of the second, at least one
  pub go : {c d e : State} → Related p q lo (step p c) e → SafeAt d → Reach q SafeAt (step q d) e → J c d
  go {c} {d} {e} h z r = record {
    more = 0;
    steps = suc (count r);
    related = subst (λ y. Related p q lo (step p c) y) (sym (ends r)) h;
    pays = inl (omega arith);
    safe = safe;
  }
    where
      safe : (i : ℕ) → i < suc (count r) → SafeAt (iterate (step q) i d)
      safe zero l = z
      safe (suc i) l = each r i (omega (arith, l))

  -- two steps of the first
  pub go_two : {c d e : State} → Related p q lo (step p (step p c)) e → SafeAt d → Reach q SafeAt (step q d) e → J c d
  go_two {c} {d} {e} h z r = record {
    more = 1;
    steps = suc (count r);
    related = subst (λ y. Related p q lo (step p (step p c)) y) (sym (ends r)) h;
    pays = inl (omega arith);
    safe = safe;
  }
    where
      safe : (i : ℕ) → i < suc (count r) → SafeAt (iterate (step q) i d)
      safe zero l = z
      safe (suc i) l = each r i (omega (arith, l))

  -- some of the second or none, where the weight falls
  go_falls : {c d e : State} → Related p q lo (step p c) e → weight (step p c) < weight c → Reach q SafeAt d e → J c d
  go_falls {c} {d} {e} h l r = record {
    more = 0;
    steps = count r;
    related = subst (λ y. Related p q lo (step p c) y) (sym (ends r)) h;
    pays = inr l;
    safe = λ i b. each r i b;
  }

  go_two_falls : {c d e : State} → Related p q lo (step p (step p c)) e → weight (step p (step p c)) < weight c → Reach q SafeAt d e → J c d
  go_two_falls {c} {d} {e} h l r = record {
    more = 1;
    steps = count r;
    related = subst (λ y. Related p q lo (step p (step p c)) y) (sym (ends r)) h;
    pays = inr l;
    safe = λ i b. each r i b;
  }

  skip : {c d : State} → SafeAt d → J c (step q d) → J c d
  skip {c} {d} z j = record { more = j.more; steps = suc j.steps; related = j.related; pays = inl (omega arith); safe = safe }
    where
      safe : (i : ℕ) → i < suc j.steps → SafeAt (iterate (step q) i d)
      safe zero l = z
      safe (suc i) l = j.safe i (omega (arith, l))

  module _ (names : ℕ → List ℕ) (f : List ℕ) (g : Guards) (d : ℕ) (l : IsLooser (p.functions f) (q.functions f)) (eq : lo.functions f ≡ lf_looser l)
      (here : names (suc d) ≡ f) {cs cs' : List Frame} (t : Stack p q lo names d cs cs') where
    abbrev S : Setting
    S = l.setting

    abbrev A : Forest
    A = items_of (p.functions f)

    abbrev B : Forest
    B = body p q lo f

    in_both : (e : ExpressionTree) → In S e → OpSlots (λ x. opens_of (lo.functions f) x ≡ true) (Computes e)
    in_both e i = expression_more (λ x. x < length S.old) (λ x. opens_of (lo.functions f) x ≡ true)
        (λ x b. subst (λ z. opens_of z x ≡ true) (sym eq) (lt-ltb x (length S.old) b)) e i

    module _ (w : World) (s : Owner → Variable) (c : w.calls ≡ suc d) (a : AlikeIn p q lo names w s) where
      abbrev JT : List Task → List Task → List Value → List Value → Type 0
      JT k k' v v' = J (At f g k v cs w) (At f g k' v' cs' (over s w))

      pub still : {k k' : List Task} → Still S B k k' → Related p q lo (At f g k [] cs w) (At f g k' [] cs' (over s w))
      still h = rl_at names f g d w s c here a (rn_still l eq h) t

      control : {x y : Aim} {k k' : List Task} → Control S B Open x y k k' → Related p q lo (At f g k [] cs w) (At f g k' [] cs' (over s w))
      control h = still (st_control h)

      -- an expression and what waits for it
      pub asks : {k k' : List Task} {v v' : List Value} (e : ExpressionTree) → In S e → Waiting S B (suc d) k k' v v' →
          RefersAllIn p q lo names (suc d) v → Related p q lo (At f g (Works (Computes e) ∷ k) v cs w) (At f g (Works (Computes e) ∷ k') v' cs' (over s w))
      asks e i h r = rl_at names f g d w s c here a (rn_evaluates l eq (Computes e ∷ []) [] tt (in_both e i, tt) tt h r) t

      chooses : (b : Bool) {j j' k k' : List Task} → Still S B j j' → Still S B k k' → Still S B (cond b j k) (cond b j' k')
      chooses true h i = h
      chooses false h i = i

      past : {j j' i i' : List Task} → j ≡ i → j' ≡ i' → Related p q lo (At f g i [] cs w) (At f g i' [] cs' (over s w)) →
          Related p q lo (At f g j [] cs w) (At f g j' [] cs' (over s w))
      past {j' = j'} {i = i} e e' h = subst (λ z. Related p q lo (At f g z [] cs w) (At f g j' [] cs' (over s w))) (sym e)
          (subst (λ z. Related p q lo (At f g i [] cs w) (At f g z [] cs' (over s w))) (sym e') h)

      -- a jump of the second to a made label
      jumps : (m : ℕ) {j : List Task} (k' : List Task) {x : State} → Jump S B m j → step p x ≡ At f g j [] cs w →
          J x (At f g (Runs (Goto m) ∷ k') [] cs' (over s w))
      jumps m {j} k' {x} r e = go (subst (λ z. Related p q lo z (At f g r.tasks [] cs' (over s w))) (sym e) (still r.related)) tt
          (tests.turn q f g cs' (over s w) (ap (λ z. At f g z [] cs' (over s w)) r.is) stay)

      -- ---- slots

      shape_at : (x : ℕ) → S.params ≤ x → HasShape (slot_of S x) (s (OfCall w.calls x))
      shape_at x b =
          let h = a.shaped w.calls x (omega (arith, c)) (omega arith) in
          subst (λ z. IsShapedFor z x (s (OfCall w.calls x))) eq (subst (λ n. IsShapedFor (lo.functions n) x (s (OfCall w.calls x))) (ap names c ∙ here) h) b

      -- a number of both
      pub held_new : (x : ℕ) → S.params ≤ x → (cells : Option ℕ) → (slot_of S x).cells ≡ cells →
          (u : ℕ → ℤ) × (s (OfCall w.calls x) ≡ Holds (slot_of S x).kind cells u)
      held_new x b cells e = let h = of_shape (slot_of S x) (s (OfCall w.calls x)) (shape_at x b) in
          (h.cells, h.is ∙ ap (λ n. Holds (slot_of S x).kind n h.cells) e)

      pub open_here : (x : ℕ) → x < length S.old → opens p q lo names w.calls x ≡ true
      open_here x b = ap (λ n. opens_of (lo.functions (names n)) x) c ∙ ap (λ n. opens_of (lo.functions n) x) here ∙ ap (λ z. opens_of z x) eq ∙
          lt-ltb x (length S.old) b

      pub agree_here : (x : ℕ) → x < length S.old → w.variables (OfCall w.calls x) ≡ s (OfCall w.calls x)
      agree_here x b = a.agree (OfCall w.calls x) (omega arith, open_here x b)

      pub owner_here : (x : ℕ) (k : IntKind) (n : Option ℕ) (u : ℕ → ℤ) → w.variables (OfCall w.calls x) ≡ Holds k n u → owner (H.Slot x) w ≡ OfCall w.calls x
      owner_here x k n u e = ap (holder (OfCall w.calls x)) e

      place_refers : (x i : ℕ) → x < length S.old → RefersIn p q lo names (suc d) (Designates (OfCall w.calls x) i)
      place_refers x i b = (omega (arith, c), open_here x b)

      -- ---- items

      joint_ended : {x y : Aim} {k k' : List Task} → Control S B Ended x y k k' → JT (Runs Break ∷ k) k' [] []
      joint_ended (ct_ended {k = k} {k' = k'} e e2 e3 e' o h) = go (past e e' (control o)) tt stay

      goto_lo : (m n : ℕ) → S.labels m ≡ Some n → Still S B (find m A) (find n B)
      goto_lo m n e = locate S A B m n e l.related l.placed l.new_placed ct_nil (l.named m n e)

      while_takes : {x y : Aim} {r : Arrivals} (e : ExpressionTree) (b' c' : Aim) {a0 a' : Forest} {k k' : List Task} → In S e →
          Looser S Open b' c' r a0 a' → ArePlaced B (join a' (mark_of c')) (Loops (WhileLoop (Source e) (join a' (mark_of c'))) ∷ behind_mark b' k')
          → ArePlaced B (mark_of b') k' → Control S B Open x y k k' → Waiting S B (suc d) (Turns (WhileLoop (Source e) a0) ∷ k)
          (Turns (WhileLoop (Source e) (join a' (mark_of c'))) ∷ behind_mark b' k') [] []
      while_takes e b' c' i fa al am h =
          wt_takes _ _ (λ b g. refl) (λ b g. refl) refl refl
          (λ v. chooses (holds v) (st_control (list_lo S B (mark_of c') _ fa al (behind_mark_lo S B c' (ct_while e b' c' i fa al am h))))
          (st_control (behind_mark_lo S B b' h)))

      for_takes : {x y : Aim} {r : Arrivals} (e : ExpressionTree) (u : Option ExpressionTree) (b' c' : Aim) {a0 a' : Forest} {k k' : List Task} →
          In S e → IfSome u (In S) → Looser S Open b' c' r a0 a'
          → ArePlaced B (join a' (mark_of c')) (Loops (ForLoop (Some e) u (join a' (mark_of c'))) ∷ behind_mark b' k') → ArePlaced B (mark_of b') k' →
          Control S B Open x y k k'
          → Waiting S B (suc d) (Turns (ForLoop (Some e) u a0) ∷ k) (Turns (ForLoop (Some e) u (join a' (mark_of c'))) ∷ behind_mark b' k') [] []
      for_takes e u b' c' i j fa al am h =
          wt_takes _ _ (λ b g. refl) (λ b g. refl) refl refl
          (λ v. chooses (holds v) (st_control (list_lo S B (mark_of c') _ fa al (behind_mark_lo S B c' (ct_for (Some e) u b' c' i j fa al am h))))
          (st_control (behind_mark_lo S B b' h)))

      third_body : {x y : Aim} {r : Arrivals} (e u : Option ExpressionTree) (b' c' : Aim) {a0 a' : Forest} {k k' : List Task} → IsMoved c' →
          IfSome e (In S) → IfSome u (In S) → Looser S Open b' c' r a0 a'
          → ArePlaced B (with_third a' c' u) (Loops (WhileLoop (Source (test_or_one e)) (with_third a' c' u)) ∷ behind_mark b' k') →
          ArePlaced B (mark_of b') k' → Control S B Open x y k k'
          → Control S B Open b' c' (items a0 (Loops (ForLoop e u a0) ∷ k))
          (items (with_third a' c' u) (Loops (WhileLoop (Source (test_or_one e)) (with_third a' c' u)) ∷ behind_mark b' k'))
      third_body e u b' c' n i j fa al am h = list_lo S B (join (mark_of c') (third_items u)) _ fa al (third_lo S B e u b' c' n i j fa al am h)

      turn_takes : {x y : Aim} {r : Arrivals} (e : ExpressionTree) (u : Option ExpressionTree) (b' c' : Aim) {a0 a' : Forest} {k k' : List Task} →
          IsMoved c' → In S e → IfSome u (In S) → Looser S Open b' c' r a0 a'
          → ArePlaced B (with_third a' c' u) (Loops (WhileLoop (Source e) (with_third a' c' u)) ∷ behind_mark b' k') → ArePlaced B (mark_of b') k' →
          Control S B Open x y k k'
          → Waiting S B (suc d) (Turns (ForLoop (Some e) u a0) ∷ k) (Turns (WhileLoop (Source e) (with_third a' c' u)) ∷ behind_mark b' k') [] []
      turn_takes e u b' c' n i j fa al am h =
          wt_takes _ _ (λ b g. refl) (λ b g. refl) refl refl
          (λ v. chooses (holds v) (st_control (third_body (Some e) u b' c' n i j fa al am h)) (st_control (behind_mark_lo S B b' h)))

      -- initialisers of a declaration that stays
      pub initialised : {x y : Aim} (x0 i : ℕ) (es : List ExpressionTree) {k k' : List Task} → x0 < length S.old → AreIn S es →
          Control S B Open x y k k' → Related p q lo (perform p (initialise x0 i es [] w) f g k cs) (perform q (initialise x0 i es [] (over s w)) f g k' cs')
      initialised x0 i [] {k = k} {k' = k'} b e h =
          subst (λ y. Related p q lo (perform p (initialise x0 i [] [] w) f g k cs)
          (perform q (Does (cond y (Clears x0 i ∷ []) []) [] (over s w)) f g k' cs'))
          (array_alike (opens p q lo names) (Shapes p q lo names) w s a x0 (open_here x0 b))
          (at (is_array_slot x0 w))
        where
          at : (y : Bool) → Related p q lo (perform p (Does (cond y (Clears x0 i ∷ []) []) [] w) f g k cs)
              (perform q (Does (cond y (Clears x0 i ∷ []) []) [] (over s w)) f g k' cs')
          at true = still (st_keep_clears x0 i b h)
          at false = control h
      initialised x0 i (e ∷ es) {k = k} {k' = k'} b j h =
          subst (λ o. Related p q lo (perform p (initialise x0 i (e ∷ es) [] w) f g k cs)
          (At f g (Works (Computes e) ∷ Works (Sets x0 i es) ∷ k') (Designates o i ∷ []) cs' (over s w)))
          (owner_alike (opens p q lo names) (Shapes p q lo names) w s a (H.Slot x0) (open_here x0 b))
          (asks e j.0 (wt_sets (slot_cell x0 i w) x0 i es b j.1 h) (
            subst (λ z. Seen (opens p q lo names) (Shapes p q lo names) z (owner (H.Slot x0) w)) c
                (owner_seen (opens p q lo names) (Shapes p q lo names) w s a (H.Slot x0) (open_here x0 b)),
            tt,
          ))

      joint_scatter : {m0 n0 : Mode} {x y : Aim} (e : ExpressionTree) (b' : Aim) (names' : Names) (v m : ℕ) {sections : Sections} {ys : Forest}
          {k k' : List Task} → In S e → IsMoved b' → Inner m0 n0 → IsNew S v → (slot_of S v).cells ≡ None → (slot_of S v).kind ≡ switch_kind (Selects e)
          → IsOtherwise (wanted_among ToDefault names' sections) b' m → Spread S n0 b' y names' sections ys → ArePlaced B ys k' → Control S B m0 x y k k'
          → JT (Runs (Switch (Selects e) sections) ∷ k) (Runs (Evaluate (assign_number (switch_kind (Selects e)) v e)) ∷ items
          (join (tests_among S.number (switch_kind (Selects e)) v names' sections) (Then (Goto m) ys)) k') [] []
      joint_scatter e b' names' v m {sections = sections} {ys = ys} {k = k} {k' = k'} i n fits z ce ke o fs al h =
          let u = held_new v z.0 None ce in
          let K = Works Stores ∷ Works Drops ∷ items (join (tests_among S.number (switch_kind (Selects e)) v names' sections) (Then (Goto m) ys)) k' in
          go_two_falls
          (subst (λ z. Related p q lo (At f g (Works (Computes e) ∷ Works (Converts (switch_kind (Selects e))) ∷ Enters (switch_kind (Selects e))
          sections ∷ k) [] cs w) (At f g (Works (Computes e) ∷ K) (Designates (OfCall z v) 0 ∷ []) cs' (over s w))) (sym c)
          (asks e i (wt_selects (operand_kind (kind_of e)) b' names' v m n fits z ce ke o fs al h) tt))
          (omega arith) (number_place q f g cs' (over s w) (switch_kind (Selects e)) v e (slot_of S v).kind u.0
          (items (join (tests_among S.number (switch_kind (Selects e)) v names' sections) (Then (Goto m) ys)) k') u.1)

      joint_number : {x y : Aim} (ki : IntKind) (x0 : ℕ) (e : ExpressionTree) {k k' : List Task} → IsLocal S x0 → (slot_of S x0).cells ≡ None →
          In S e → Control S B Open x y k k' → JT (Runs (Local x0 (Some (e ∷ []))) ∷ k) (Runs (Evaluate (assign_number ki x0 e)) ∷ k') [] []
      joint_number ki x0 e {k = k} {k' = k'} b ce i h =
          let u = held_new x0 b.0 None ce in
          let o = owner_here x0 (slot_of S x0).kind None u.0 (agree_here x0 b.1 ∙ u.1) in
          go_falls
          (subst (λ z. Related p q lo (At f g (Works (Computes e) ∷ Works (Sets x0 0 []) ∷ k) (Designates z 0 ∷ []) cs w)
          (At f g (Works (Computes e) ∷ Works Stores ∷ Works Drops ∷ k') (Designates (OfCall w.calls x0) 0 ∷ []) cs' (over s w))) (sym o)
          (asks e i (wt_number (Designates (OfCall w.calls x0) 0) x0 b ce h) (place_refers x0 0 b.1, tt)))
          (omega arith) (number_place q f g cs' (over s w) ki x0 e (slot_of S x0).kind u.0 k' u.1)

      joint_array : {x y : Aim} (ki : IntKind) (x0 : ℕ) (es : List ExpressionTree) (m : ℕ) {k k' : List Task} → IsLocal S x0 →
          (slot_of S x0).cells ≡ Some (length es + m) → AreIn S es → Control S B Open x y k k'
          → JT (Runs (Local x0 (Some es)) ∷ k) (items (assigned_cells ki x0 0 es m) k') [] []
      joint_array ki x0 [] m {k = k} {k' = k'} b ce i h =
          let u = held_new x0 b.0 (Some (0 + m)) ce in
          let y : is_array_slot x0 w ≡ true = ap is_array (agree_here x0 b.1 ∙ u.1) in
          go_falls (subst (λ z. Related p q lo (perform p (Does (cond z (Clears x0 0 ∷ []) []) [] w) f g k cs)
          (At f g (items (assigned_cells ki x0 0 [] m) k') [] cs' (over s w))) (sym y) (still (st_clears ki x0 0 m b ce h)))
          (subst (λ z. weight (perform p (Does (cond z (Clears x0 0 ∷ []) []) [] w) f g k cs) < 2 + task_weight k) (sym y) (omega arith)) stay
      joint_array ki x0 (e ∷ es) m {k = k} {k' = k'} b ce i h =
          let n : suc (length es) + m ≡ suc 0 + (length es + m) = omega arith in
          let ce' = ce ∙ ap Some n in
          let u = held_new x0 b.0 (Some (suc 0 + (length es + m))) ce' in
          let o = owner_here x0 (slot_of S x0).kind (Some (suc 0 + (length es + m))) u.0 (agree_here x0 b.1 ∙ u.1) in
          go_falls
          (subst (λ z. Related p q lo (At f g (Works (Computes e) ∷ Works (Sets x0 0 es) ∷ k) (Designates z 0 ∷ []) cs w)
          (At f g (Works (Computes e) ∷ Works Stores ∷ Works Drops ∷ items (assigned_cells ki x0 1 es m) k')
          (Designates (OfCall w.calls x0) 0 ∷ []) cs' (over s w))) (sym o)
          (asks e i.0 (wt_cell (Designates (OfCall w.calls x0) 0) ki x0 0 es m b ce' i.1 h) (place_refers x0 0 b.1, tt)))
          (omega arith) (cell_place q f g cs' (over s w) ki x0 0 (suc 0 + (length es + m)) e (slot_of S x0).kind u.0
          (items (assigned_cells ki x0 1 es m) k') u.1 (omega arith))

      joint_item : {m : Mode} {x y : Aim} {r : Arrivals} {i : Tree} {ys : Forest} {k k' : List Task} → LooserItem S m x y r i ys → ArePlaced B ys k' →
          Control S B m x y k k' → JT (Runs i ∷ k) (items ys k') [] []
      joint_item (lo_evaluate e i) al h = go (asks e i (wt_drops (st_control h)) tt) tt stay
      joint_item (lo_return e i) al h = go (asks e i wt_ends tt) tt stay
      joint_item lo_return_none al h = go_two (falls p q lo names f d w s c a t) tt (more tt stay)
      joint_item (lo_note bs) al h = go (control h) tt stay
      joint_item (lo_if e i fx fy) al h =
          go_two (asks e i (wt_takes _ _ (λ b g. refl) (λ b g. refl) refl refl
          (λ v. chooses (holds v) (st_control (items_lo S B fx al.0.0 h)) (st_control (items_lo S B fy al.0.1 h)))) tt) tt (more tt stay)
      joint_item (lo_while e b' c' i fa) al h = go_two (asks e i (while_takes e b' c' i fa al.0 al.1 h) tt) tt (more tt stay)
      joint_item {k' = k'} (lo_do e b' c' {a' = a'} i fa) al h =
          go (control (list_lo S B (mark_of c') (Loops (DoLoop (join a' (mark_of c')) (Source e)) ∷ behind_mark b' k') fa al.0
          (behind_mark_lo S B c' (ct_do e b' c' i fa al.0 al.1 h)))) tt stay
      joint_item {k = k} {k' = k'} (lo_for e u b' c' {i = z} {i' = z'} {a = a0} {a' = a'} i j fi fa) al h =
          let m = Then (For Nil e u (join a' (mark_of c'))) (mark_of b') in
          let r = placed_join B z' m k' al in
          let n = items_weight z (Heads e u a0 ∷ k) in
          go_falls (control (list_lo S B m k' fi al (ct_starts e u b' c' i j fa r.1.0 r.1.1 h))) (omega (arith, n)) stay
      joint_item {k = k} {k' = k'} (lo_for_while e u b' c' {i = z} {i' = z'} {a = a0} {a' = a'} n i j fi fa) al h =
          let m = Then (While (Source (test_or_one e)) (with_third a' c' u)) (mark_of b') in
          let r = placed_join B z' m k' al in
          let o = items_weight z (Heads e u a0 ∷ k) in
          go_falls (control (list_lo S B m k' fi al (ct_while_starts e u b' c' n i j fa r.1.0 r.1.1 h))) (omega (arith, o)) stay
      joint_item {k = k} (lo_block {a = a0} fa) al h = let n = items_weight a0 k in go_falls (control (items_lo S B fa al h)) (omega (arith, n)) stay
      joint_item (lo_keep_block fa) al h = go (control (items_lo S B fa al.0 h)) tt stay
      joint_item {k' = k'} (lo_keep_for e u b' c' {i' = z'} {a' = a'} z i j fi fa) al h =
          go (control (items_lo S B fi (unlabelled_placed B z' (Heads e u (join a' (mark_of c')) ∷ behind_mark b' k') z)
          (ct_heads e u b' c' i j fa al.0 al.1 h))) tt stay
      joint_item (lo_keep_declares x) al h = go (control h) tt stay
      joint_item (lo_keep_local x es b i) al h = go (initialised x 0 es b i h) tt stay
      joint_item (lo_declares x) al h = go_falls (control h) (omega arith) stay
      joint_item (lo_number ki x e b ce i) al h = joint_number ki x e b ce i h
      joint_item (lo_array ki x es m b ce i) al h = joint_array ki x es m b ce i h
      joint_item lo_break al h = go (still (break_lo S B h)) tt stay
      joint_item {k' = k'} (lo_break_to m) al h = jumps m k' (break_lo S B h) refl
      joint_item lo_break_end al h = joint_ended h
      joint_item lo_continue al h = go (still (cont_lo S B h)) tt stay
      joint_item {k' = k'} (lo_continue_to m) al h = jumps m k' (cont_lo S B h) refl
      joint_item (lo_goto m n e) al h = go (still (goto_lo m n e)) tt stay
      joint_item (lo_mark m n e) al h = go (control h) tt stay
      joint_item (lo_drop m e) al h = go_falls (control h) (omega arith) stay
      joint_item (lo_arrival names' e) al h = go (control h) tt stay
      joint_item (lo_switch e b' i fs) al h =
          go_two (rl_at names f g d w s c here a (rn_evaluates l eq (Computes e ∷ Converts (switch_kind (Selects e)) ∷ []) [] tt (in_both e i, (tt, tt)) tt
          (wt_takes _ _ (λ b g. refl) (λ b g. refl) refl refl
          (λ v. entry_lo S B (behind_mark_lo S B b' h) (ct_out b' al.1 h) (switch_kind (Selects e)) (integer v) fs al.0)) tt) t) tt (more tt stay)
      joint_item {k' = k'} (lo_scatter e b' names' v m {d = sections} {ys = ys} i n fits z ce ke o fs) al h =
          joint_scatter e b' names' v m i n fits z ce ke o fs
          (placed_join B (tests_among S.number (switch_kind (Selects e)) v names' sections) (Then (Goto m) ys) k' al.1).1.1 h

      -- ---- other tasks

      -- at the head of a `for` that is a `while`
      while_heads : {x y : Aim} {r : Arrivals} (e u : Option ExpressionTree) (b' c' : Aim) {a0 a' : Forest} {k k' : List Task} → IsMoved c' →
          IfSome e (In S) → IfSome u (In S) → Looser S Open b' c' r a0 a'
          → ArePlaced B (with_third a' c' u) (Loops (WhileLoop (Source (test_or_one e)) (with_third a' c' u)) ∷ behind_mark b' k') →
          ArePlaced B (mark_of b') k' → Control S B Open x y k k'
          → JT (Heads e u a0 ∷ k) (Runs (While (Source (test_or_one e)) (with_third a' c' u)) ∷ behind_mark b' k') [] []
      while_heads None u b' c' n i j fa al am h = go (control (third_body None u b' c' n i j fa al am h)) tt (more tt (more tt (more tt stay)))
      while_heads (Some e) u b' c' n i j fa al am h = go (asks e i (turn_takes e u b' c' n i j fa al am h) tt) tt (more tt stay)

      for_heads : {x y : Aim} {r : Arrivals} (e u : Option ExpressionTree) (b' c' : Aim) {a0 a' : Forest} {k k' : List Task} → IfSome e (In S) →
          IfSome u (In S) → Looser S Open b' c' r a0 a'
          → ArePlaced B (join a' (mark_of c')) (Loops (ForLoop e u (join a' (mark_of c'))) ∷ behind_mark b' k') → ArePlaced B (mark_of b') k' →
          Control S B Open x y k k'
          → JT (Heads e u a0 ∷ k) (Heads e u (join a' (mark_of c')) ∷ behind_mark b' k') [] []
      for_heads None u b' c' {a' = a'} {k' = k'} i j fa al am h =
          go (control (list_lo S B (mark_of c') (Loops (ForLoop None u (join a' (mark_of c'))) ∷ behind_mark b' k') fa al
          (behind_mark_lo S B c' (ct_for None u b' c' i j fa al am h)))) tt stay
      for_heads (Some e) u b' c' i j fa al am h = go (asks e i (for_takes e u b' c' i j fa al am h) tt) tt stay

      joint_control : {x y : Aim} {k k' : List Task} → Control S B Open x y k k' → JT k k' [] []
      joint_control ct_nil = go (falls p q lo names f d w s c a t) tt stay
      joint_control (ct_item fi al h) = joint_item fi al h
      joint_control (ct_skip m h) = skip tt (joint_control h)
      joint_control (ct_while e b' c' {r = r} i fa al am h) = go (control (ct_item (lo_while {r = r} e b' c' i fa) (al, am) h)) tt stay
      joint_control (ct_do e b' c' {r = r} i fa al am h) =
          go_two (asks e i (wt_takes _ _ (λ b g. refl) (λ b g. refl) refl refl
          (λ v. chooses (holds v) (st_control (ct_item (lo_do {r = r} e b' c' i fa) (al, am) h)) (st_control (behind_mark_lo S B b' h)))) tt) tt
          (more tt stay)
      joint_control (ct_for e None b' c' i j fa al am h) = go (control (ct_heads e None b' c' i j fa al am h)) tt stay
      joint_control (ct_for e (Some u) b' c' i j fa al am h) = go (asks u j (wt_drops (st_control (ct_heads e (Some u) b' c' i j fa al am h))) tt) tt stay
      joint_control (ct_heads e u b' c' i j fa al am h) = for_heads e u b' c' i j fa al am h
      joint_control (ct_starts e u b' c' i j fa al am h) = skip tt (for_heads e u b' c' i j fa al am h)
      joint_control (ct_while_starts e u b' c' n i j fa al am h) = while_heads e u b' c' n i j fa al am h
      joint_control (ct_third e None b' c' n i j fa al am h) = go_falls (still (st_turns e None b' c' n i j fa al am h)) (omega arith) stay
      joint_control (ct_third e (Some u) b' c' n i j fa al am h) = go (asks u j (wt_drops (st_turns e (Some u) b' c' n i j fa al am h)) tt) tt stay
      joint_control (ct_out b' am h) = go (control (behind_mark_lo S B b' h)) tt stay
      joint_control (ct_ends e e' o h) = go (past e e' (control o)) tt stay
      joint_control (ct_behind b' n am h) = go_falls (control (behind_mark_lo S B b' h)) (omega arith) stay
      joint_control (ct_leaves m {k' = k'} {j' = j'} e e' o h) = jumps m k'
          (record { tasks = Runs (Mark m) ∷ j'; is = e; related = st_control (ct_skip m o) }) (ap (λ z. At f g z [] cs w) e')

      joint_clears : {x y : Aim} (ki : IntKind) (x0 i m : ℕ) {k k' : List Task} → IsLocal S x0 → (slot_of S x0).cells ≡ Some (i + m) →
          Control S B Open x y k k' → JT (Works (Clears x0 i) ∷ k) (items (assigned_cells ki x0 i [] m) k') [] []
      joint_clears ki x0 i m {k = k} {k' = k'} b ce h =
          let o = OfCall w.calls x0 in
          let u = held_new x0 b.0 (Some (i + m)) ce in
          let e = owner_here x0 (slot_of S x0).kind (Some (i + m)) u.0 (agree_here x0 b.1 ∙ u.1) in
          let a' = changed_alike (opens p q lo names) (Shapes p q lo names)
          (zeros (opens p q lo names) (Shapes p q lo names) (number_shaped p q lo names) (zeros_shaped p q lo names) i) o w s
          (omega arith, open_here x0 b.1) a in
          go_falls
          (subst (λ z. Related p q lo (At f g k [] cs (over (put z (with_zeros i (w.variables z)) w.variables) w))
          (At f g k' [] cs' (over (put o (with_zeros i (s o)) s) w))) (sym e)
          (rl_at names f g d (over (put o (with_zeros i (w.variables o)) w.variables) w) (put o (with_zeros i (s o)) s) c here a'
          (rn_still l eq (st_control h)) t))
          (omega arith) (zero_cells q f g cs' (over s w) ki x0 i m (i + m) (slot_of S x0).kind u.0 k' refl u.1)

      keep_clears : {x y : Aim} (x0 i : ℕ) {k k' : List Task} → x0 < length S.old → Control S B Open x y k k' →
          JT (Works (Clears x0 i) ∷ k) (Works (Clears x0 i) ∷ k') [] []
      keep_clears x0 i {k = k} {k' = k'} b h =
          let o = owner (H.Slot x0) w in
          let seen = owner_seen (opens p q lo names) (Shapes p q lo names) w s a (H.Slot x0) (open_here x0 b) in
          let a' = changed_alike (opens p q lo names) (Shapes p q lo names)
          (zeros (opens p q lo names) (Shapes p q lo names) (number_shaped p q lo names) (zeros_shaped p q lo names) i) o w s seen a in
          go (subst (λ z. Related p q lo (At f g k [] cs (over (put o (with_zeros i (w.variables o)) w.variables) w))
          (At f g k' [] cs' (over (put z (with_zeros i (s z)) s) w)))
          (owner_alike (opens p q lo names) (Shapes p q lo names) w s a (H.Slot x0) (open_here x0 b))
          (rl_at names f g d (over (put o (with_zeros i (w.variables o)) w.variables) w) (put o (with_zeros i (s o)) s) c here a'
          (rn_still l eq (st_control h)) t)) tt stay

      pub joint_still : {k k' : List Task} → Still S B k k' → JT k k' [] []
      joint_still (st_control h) = joint_control h
      joint_still (st_turns e u b' c' n i j fa al am h) = skip tt (while_heads e u b' c' n i j fa al am h)
      joint_still (st_clears ki x0 i m b ce h) = joint_clears ki x0 i m b ce h
      joint_still (st_keep_clears x0 i b h) = keep_clears x0 i b h
