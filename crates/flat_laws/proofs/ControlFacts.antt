-- Lists, exits, and labels of related tasks.
use Rattle.std.proofs.Common.{ℕ, Bool, true, false, List, [], ◌∷◌, Option, Some, None, IfSome, ◌≡◌, refl, sym, ◌∙◌, subst}
use Rattle.c_tree.specs.ExpressionTrees.{ExpressionTree}
use Rattle.c_tree.specs.TestTrees.{Source}
use Rattle.c_tree.specs.Trees.{Tree, Forest, Nil, Then, Sections, NoSection, Section, If, While, Do, For, Switch, Block, Goto, Mark, join}
use Rattle.c_tree.specs.Changed.{one}
use Rattle.jump_meaning.specs.Tasks.{Task, Runs, Loops, WhileLoop, DoLoop, ForLoop, EndsSection, Out, items, end_of, tail_tasks, cut, cut_to}
use Rattle.jump_meaning.specs.Search.{find}
use Rattle.jump_meaning.proofs.TaskFacts.{items_join, cut_items, cut_end, cut_tail, cut_to_items, cut_to_end}
use Rattle.flat_laws.specs.Pieces.{Aim, Stays, Becomes, Absent, mark_of, IsMoved, test_or_one, third_items, with_third, Names, case_marks}
use Rattle.flat_laws.specs.Placed.{ArePlaced, IsPlaced, ArePlacedAmong, IsUnlabelled, IsUnlabelledItem, IsUnlabelledAmong}
use Rattle.flat_laws.specs.Loose.{Setting, In, Mode, Open, Ended, Jumped, IsLast, Inner, in_open, in_last, Arrivals, Looser, la_nil, la_then, la_last, LooserSections, lc_none, lc_section, lc_ended, Spread, ls_none, ls_last, ls_falls, ls_ends}
use Rattle.flat_laws.proofs.Controls.{behind_mark, Control, ct_nil, ct_item, ct_skip, ct_while, ct_do, ct_for, ct_heads, ct_starts, ct_while_starts, ct_third, ct_out, ct_ends, ct_ended, ct_jumped, ct_behind, ct_leaves, Still, st_control}

pub placed_join : (B : Forest) (xs ys : Forest) (k : List Task) → ArePlaced B (join xs ys) k → ArePlaced B xs (items ys k) × ArePlaced B ys k
placed_join B Nil ys k h = (tt, h)
placed_join B (Then x xs) ys k h =
    let r = placed_join B xs ys k h.1 in
    ((subst (λ j. IsPlaced B x j) (items_join xs ys k) h.0, r.0), r.1)

-- a list without labels is placed anywhere
mutual
  pub unlabelled_placed : (B : Forest) (xs : Forest) (k : List Task) → IsUnlabelled xs → ArePlaced B xs k
  unlabelled_placed B Nil k h = tt
  unlabelled_placed B (Then x xs) k h = (unlabelled_item B x (items xs k) h.0, unlabelled_placed B xs k h.1)

  unlabelled_item : (B : Forest) (x : Tree) (k : List Task) → IsUnlabelledItem x → IsPlaced B x k
  unlabelled_item B (If t a b) k h = (unlabelled_placed B a k h.0, unlabelled_placed B b k h.1)
  unlabelled_item B (While t a) k h = unlabelled_placed B a (Loops (WhileLoop t a) ∷ k) h
  unlabelled_item B (Do a t) k h = unlabelled_placed B a (Loops (DoLoop a t) ∷ k) h
  unlabelled_item B (For first t u a) k h = unlabelled_placed B a (Loops (ForLoop t u a) ∷ k) h
  unlabelled_item B (Block a) k h = unlabelled_placed B a k h
  unlabelled_item B (Switch t c) k h = unlabelled_among B c k h
  unlabelled_item B (Mark l) k h = absurd h
  unlabelled_item B _ k h = tt

  unlabelled_among : (B : Forest) (c : Sections) (k : List Task) → IsUnlabelledAmong c → ArePlacedAmong B c k
  unlabelled_among B NoSection k h = tt
  unlabelled_among B (Section cases default a ends c) k h = (unlabelled_placed B a (end_of ends (tail_tasks c k)) h.0, unlabelled_among B c k h.1)

module _ (s : Setting) (B : Forest) where
  pub behind_mark_lo : {b c : Aim} {k k' : List Task} (b' : Aim) → Control s B Open b c k k' → Control s B Open b c k (behind_mark b' k')
  behind_mark_lo Stays h = h
  behind_mark_lo (Becomes l) h = ct_skip l h
  behind_mark_lo Absent h = h

  after_break : {b c : Aim} {k k' : List Task} (xs : Forest) → Control s B Ended b c k k' → Control s B Ended b c (items xs k) k'
  after_break xs (ct_ended {k = k} e f g q o h) = ct_ended (cut_items xs k ∙ e) f (cut_to_items xs k ∙ g) q o h

  after_goto : {b c : Aim} {k k' : List Task} (xs : Forest) → Control s B Jumped b c k k' → Control s B Jumped b c (items xs k) k'
  after_goto xs (ct_jumped {k = k} l e h) = ct_jumped l (cut_to_items xs k ∙ e) h

  pub ended_more : {m : Mode} {b c : Aim} {k k' : List Task} (xs : Forest) → IsLast m → Control s B m b c k k' → Control s B m b c (items xs k) k'
  ended_more {m = Open} xs l h = absurd l
  ended_more {m = Ended} xs l h = after_break xs h
  ended_more {m = Jumped} xs l h = after_goto xs h

  -- ---- lists

  pub items_lo : {m : Mode} {b c : Aim} {r : Arrivals} {xs xs' : Forest} {k k' : List Task} → Looser s m b c r xs xs' → ArePlaced B xs' k' →
      Control s B m b c k k' → Control s B Open b c (items xs k) (items xs' k')
  items_lo la_nil al h = h
  items_lo {b = b} {c = c} {k = k} {k' = k'} (la_then {x = x} {ys = ys} {xs = xs} {xs' = xs'} fi fa) al h =
      let p = placed_join B ys xs' k' al in
      subst (λ z. Control s B Open b c (Runs x ∷ items xs k) z) (sym (items_join ys xs' k')) (ct_item fi p.0 (items_lo fa p.1 h))
  items_lo (la_last {xs = xs} l fi gone) al h = ct_item fi al (ended_more xs l h)

  -- a list, then what stands at its end
  pub list_lo : {b c : Aim} {r : Arrivals} {xs xs' : Forest} {k : List Task} (ms : Forest) (k' : List Task) → Looser s Open b c r xs xs' →
      ArePlaced B (join xs' ms) k' → Control s B Open b c k (items ms k') → Control s B Open b c (items xs k) (items (join xs' ms) k')
  list_lo {b} {c} {r} {xs} {xs'} {k} ms k' fa al h =
      subst (λ z. Control s B Open b c (items xs k) z) (sym (items_join xs' ms k')) (items_lo fa (placed_join B xs' ms k' al).0 h)

  pub third_lo : {b c : Aim} {r : Arrivals} {a a' : Forest} {k k' : List Task} (t u : Option ExpressionTree) (b' c' : Aim) → IsMoved c' →
      IfSome t (In s) → IfSome u (In s) → Looser s Open b' c' r a a'
      → ArePlaced B (with_third a' c' u) (Loops (WhileLoop (Source (test_or_one t)) (with_third a' c' u)) ∷ behind_mark b' k') →
      ArePlaced B (mark_of b') k' → Control s B Open b c k k'
      → Control s B Open b' c' (Loops (ForLoop t u a) ∷ k) (items (join (mark_of c') (third_items u))
      (Loops (WhileLoop (Source (test_or_one t)) (with_third a' c' u)) ∷ behind_mark b' k'))
  third_lo t u b' Stays n i j fa al am h = absurd n
  third_lo t u b' (Becomes l) n i j fa al am h = ct_skip l (ct_third t u b' (Becomes l) n i j fa al am h)
  third_lo t u b' Absent n i j fa al am h = ct_third t u b' Absent n i j fa al am h

  -- ---- `break` and `continue`

  -- where a goto to a made label leads
  pub record Jump (l : ℕ) (k : List Task) : Type 0 where
    pub tasks : List Task
    pub is : find l B ≡ tasks
    pub related : Still s B k tasks

  abbrev pub Leads : Aim → List Task → List Task → Type 0
  Leads Stays j j' = Still s B j j'
  Leads (Becomes l) j j' = Jump l j
  Leads Absent j j' = Unit {0}

  on : (b : Aim) (j : List Task) {i i' : List Task} → i ≡ i' → Leads b j i → Leads b j i'
  on b j e h = subst (λ z. Leads b j z) e h

  from : (b : Aim) (i : List Task) {j j' : List Task} → j ≡ j' → Leads b j i → Leads b j' i
  from b i e h = subst (λ z. Leads b z i) e h

  break_here : {b c : Aim} {k k' : List Task} (b' : Aim) → ArePlaced B (mark_of b') k' → Control s B Open b c k k' → Leads b' k (behind_mark b' k')
  break_here Stays am h = st_control h
  break_here {k' = k'} (Becomes l) am h = record { tasks = Runs (Mark l) ∷ k'; is = am.0; related = st_control (ct_skip l h) }
  break_here Absent am h = tt

  break_behind : {b c : Aim} {k k' : List Task} (b' : Aim) (j' : List Task) → IsMoved b' → ArePlaced B (mark_of b') k' → Control s B Open b c k k' →
      Leads b' k j'
  break_behind Stays j' n am h = absurd n
  break_behind {k' = k'} (Becomes l) j' n am h = record { tasks = Runs (Mark l) ∷ k'; is = am.0; related = st_control (ct_skip l h) }
  break_behind Absent j' n am h = tt

  pub break_lo : {m : Mode} {b c : Aim} {k k' : List Task} → Control s B m b c k k' → Leads b (cut k) (cut k')
  break_lo ct_nil = st_control ct_nil
  break_lo {b = b} (ct_item {ys = ys} {k = k} {k' = k'} fi al h) = on b (cut k) (sym (cut_items ys k')) (break_lo h)
  break_lo (ct_skip l h) = break_lo h
  break_lo (ct_while t b' c' i fa al am h) = break_here b' am h
  break_lo (ct_do t b' c' i fa al am h) = break_here b' am h
  break_lo (ct_for t u b' c' i j fa al am h) = break_here b' am h
  break_lo {b = b} (ct_heads t u b' c' {k = k} {k' = k'} i j fa al am h) = on b (cut k) (sym (cut_items (mark_of b') k')) (break_lo h)
  break_lo {b = b} (ct_starts t u b' c' {k = k} {k' = k'} i j fa al am h) = on b (cut k) (sym (cut_items (mark_of b') k')) (break_lo h)
  break_lo {b = b} (ct_while_starts t u b' c' {k = k} {k' = k'} n i j fa al am h) = on b (cut k) (sym (cut_items (mark_of b') k')) (break_lo h)
  break_lo {b = b} (ct_third t u b' c' {a' = a'} {k = k} {k' = k'} n i j fa al am h) =
      on b' k (sym (cut_items (third_items u) (Loops (WhileLoop (Source (test_or_one t)) (with_third a' c' u)) ∷ behind_mark b' k'))) (break_here b' am h)
  break_lo (ct_out b' am h) = break_here b' am h
  break_lo (ct_ends e e' o h) = break_lo h
  break_lo {b = b} (ct_ended {k' = k'} e f g q o h) = from b (cut k') (f ∙ sym e) (break_lo h)
  break_lo (ct_jumped l e h) = tt
  break_lo (ct_behind b' {k' = k'} n am h) = break_behind b' (cut (behind_mark b' k')) n am h
  break_lo (ct_leaves l e f o h) = break_lo h

  cont_here : {b : Aim} {k k' : List Task} (c' : Aim) (a' : Forest) → ArePlaced B (join a' (mark_of c')) k' → Control s B Open b c' k k' → Leads c' k k'
  cont_here Stays a' al h = st_control h
  cont_here {k' = k'} (Becomes l) a' al h = record {
    tasks = Runs (Mark l) ∷ k';
    is = (placed_join B a' (one (Mark l)) k' al).1.0;
    related =
        st_control (ct_skip l h);
  }
  cont_here Absent a' al h = tt

  cont_third : {b : Aim} {k : List Task} (k' : List Task) (c' : Aim) (a' : Forest) (u : Option ExpressionTree) (j' : List Task) → IsMoved c' →
      ArePlaced B (with_third a' c' u) k' → Control s B Open b c' k (items (third_items u) k') → Leads c' k j'
  cont_third k' Stays a' u j' n al h = absurd n
  cont_third k' (Becomes l) a' u j' n al h =
      record {
        tasks = Runs (Mark l) ∷ items (third_items u) k';
        is = (placed_join B a' (Then (Mark l) (third_items u)) k' al).1.0;
        related = st_control (ct_skip l h);
      }
  cont_third k' Absent a' u j' n al h = tt

  pub cont_lo : {m : Mode} {b c : Aim} {k k' : List Task} → Control s B m b c k k' → Leads c (cut_to k) (cut_to k')
  cont_lo ct_nil = st_control ct_nil
  cont_lo {c = c} (ct_item {ys = ys} {k = k} {k' = k'} fi al h) = on c (cut_to k) (sym (cut_to_items ys k')) (cont_lo h)
  cont_lo (ct_skip l h) = cont_lo h
  cont_lo (ct_while t b' c' {a' = a'} i fa al am h) = cont_here c' a' al (ct_while t b' c' i fa al am h)
  cont_lo (ct_do t b' c' {a' = a'} i fa al am h) = cont_here c' a' al (ct_do t b' c' i fa al am h)
  cont_lo (ct_for t u b' c' {a' = a'} i j fa al am h) = cont_here c' a' al (ct_for t u b' c' i j fa al am h)
  cont_lo {c = c} (ct_heads t u b' c' {k = k} {k' = k'} i j fa al am h) = on c (cut_to k) (sym (cut_to_items (mark_of b') k')) (cont_lo h)
  cont_lo {c = c} (ct_starts t u b' c' {k = k} {k' = k'} i j fa al am h) = on c (cut_to k) (sym (cut_to_items (mark_of b') k')) (cont_lo h)
  cont_lo {c = c} (ct_while_starts t u b' c' {k = k} {k' = k'} n i j fa al am h) = on c (cut_to k) (sym (cut_to_items (mark_of b') k')) (cont_lo h)
  cont_lo (ct_third t u b' c' {a' = a'} {k' = k'} n i j fa al am h) = cont_third
      (Loops (WhileLoop (Source (test_or_one t)) (with_third a' c' u)) ∷ behind_mark b' k') c' a' u _ n al (ct_third t u b' c' n i j fa al am h)
  cont_lo {c = c} (ct_out b' {k = k} {k' = k'} am h) = on c (cut_to k) (sym (cut_to_items (mark_of b') k')) (cont_lo h)
  cont_lo (ct_ends e e' o h) = cont_lo h
  cont_lo {c = c} (ct_ended {k' = k'} e f g q o h) = from c (cut_to k') (sym g) (cont_lo h)
  cont_lo {c = c} (ct_jumped {k' = k'} l e h) = from c (cut_to k') (sym e) (cont_lo h)
  cont_lo {c = c} (ct_behind b' {k = k} {k' = k'} n am h) = on c (cut_to k) (sym (cut_to_items (mark_of b') k')) (cont_lo h)
  cont_lo (ct_leaves l e f o h) = cont_lo h

  -- ---- sections

  pub end_lo : {b c b' c' : Aim} {K K' : List Task} (d d' : Sections) (e : Bool) → Control s B Open b' c' K K' →
      Control s B Open b c (tail_tasks d K) (tail_tasks d' K') → Control s B Open b c (end_of e (tail_tasks d K)) (end_of e (tail_tasks d' K'))
  end_lo {K = K} {K' = K'} d d' true o h = ct_ends (cut_tail d K) (cut_tail d' K') o h
  end_lo d d' false o h = h

  pub ended_lo : {b c b' c' : Aim} {K K' : List Task} (d d' : Sections) (e : Bool) → Control s B Open b' c' K K' →
      Control s B Open b c (tail_tasks d K) (tail_tasks d' K') → Control s B Ended b c (end_of e (tail_tasks d K)) (EndsSection ∷ tail_tasks d' K')
  ended_lo {K = K} {K' = K'} d d' e o h = ct_ended (cut_end e (tail_tasks d K) ∙ cut_tail d K) (cut_tail d K) (cut_to_end e (tail_tasks d K))
      (cut_tail d' K') o h

  -- o: what stands past the switch
  pub tail_lo : {b c b' c' : Aim} {d d' : Sections} {k k' : List Task} → LooserSections s b c d d' → ArePlacedAmong B d' k' →
      Control s B Open b' c' k k' → Control s B Open b c (Out ∷ k) (Out ∷ k') → Control s B Open b c (tail_tasks d k) (tail_tasks d' k')
  tail_lo lc_none al o h = h
  tail_lo (lc_section cases default e {d = d} {d' = d'} fa fs) al o h = items_lo fa al.0 (end_lo d d' e o (tail_lo fs al.1 o h))
  tail_lo (lc_ended cases default e {d = d} {d' = d'} fa fs) al o h = items_lo fa al.0 (ended_lo d d' e o (tail_lo fs al.1 o h))

  -- ---- a switch that is dissolved

  pub skip_marks : {b c : Aim} {k k' : List Task} (names : Names) (cases : List ExpressionTree) (default : Bool) → Control s B Open b c k k' →
      Control s B Open b c k (items (case_marks names cases default) k')
  skip_marks names [] true h = ct_skip (names None) h
  skip_marks names [] false h = h
  skip_marks names (e ∷ es) default h = ct_skip (names (Some e)) (skip_marks names es default h)

  -- the label behind it
  pub last_mark : {m : Mode} {c : Aim} {l : ℕ} {names : Names} {d : Sections} {ys : Forest} {k' : List Task} → Spread s m (Becomes l) c names d ys →
      ArePlaced B ys k' → find l B ≡ Runs (Mark l) ∷ k'
  last_mark ls_none al = al.0
  last_mark {names = names} {k' = k'} (ls_falls cases default {xs' = xs'} {ys = ys} fa fs) al =
      last_mark fs (placed_join B xs' ys k' (placed_join B (case_marks names cases default) (join xs' ys) k' al).1).1
  last_mark {names = names} {k' = k'} (ls_ends l cases default {xs' = xs'} {ys = ys} fa fs) al =
      last_mark fs (placed_join B xs' (Then (Goto l) ys) k' (placed_join B (case_marks names cases default) (join xs' (Then (Goto l) ys)) k' al).1).1.1

  -- its lists; o: what stands past it
  pub spread_lo : {m n : Mode} {b0 c b : Aim} {names : Names} {d : Sections} {ys : Forest} {k k' : List Task} → IsMoved b →
      Spread s n b c names d ys → Inner m n → ArePlaced B ys k' → Control s B m b0 c k k' → Control s B Open b c (tail_tasks d k) (items ys k')
  spread_lo {b = b} n ls_none in_open al o = ct_behind b n al o
  spread_lo {c = c} {names = names} {k = k} {k' = k'} n (ls_last cases default {xs = xs} {xs' = xs'} fa) (in_last l) al o =
      let p = placed_join B (case_marks names cases default) xs' k' al in
      subst (λ z. Control s B Open Absent c (items xs (Out ∷ k)) z) (sym (items_join (case_marks names cases default) xs' k'))
      (skip_marks names cases default (items_lo fa p.1 (ct_jumped l refl o)))
  spread_lo {c = c} {b = b} {names = names} {k = k} {k' = k'} n (ls_falls cases default {xs = xs} {xs' = xs'} {ys = ys} {d = d} fa fs) i al o =
      let p = placed_join B (case_marks names cases default) (join xs' ys) k' al in
      let q = placed_join B xs' ys k' p.1 in
      subst (λ z. Control s B Open b c (items xs (tail_tasks d k)) z) (sym (items_join (case_marks names cases default) (join xs' ys) k'))
      (skip_marks names cases default (list_lo ys k' fa p.1 (spread_lo n fs i q.1 o)))
  spread_lo {c = c} {b = b} {names = names} {k = k} {k' = k'} n (ls_ends l cases default {xs = xs} {xs' = xs'} {ys = ys} {d = d} fa fs) in_open al o =
      let p = placed_join B (case_marks names cases default) (join xs' (Then (Goto l) ys)) k' al in
      let q = placed_join B xs' (Then (Goto l) ys) k' p.1 in
      subst (λ z. Control s B Open b c (items xs (EndsSection ∷ tail_tasks d k)) z)
      (sym (items_join (case_marks names cases default) (join xs' (Then (Goto l) ys)) k'))
      (skip_marks names cases default (list_lo (Then (Goto l) ys) k' fa p.1
      (ct_leaves l (last_mark fs q.1.1) (cut_tail d k) o (spread_lo n fs in_open q.1.1 o))))
