-- Where a switch goes that is dissolved: the first goes to a label, the second tests its way to it.
use Rattle.std.proofs.Common.{ℕ, ◌||◌, Bool, true, false, cond, List, [], ◌∷◌, Option, Some, None, ◌≡◌, refl, sym, ◌∙◌, ap, subst}
use Rattle.c_tree.specs.ExpressionTrees.{ExpressionTree}
use Rattle.c_tree.specs.TestTrees.{Source, Selects}
use Rattle.c_tree.specs.Trees.{Tree, Forest, Nil, Then, Sections, Evaluate, Return, If, While, Do, For, Switch, Block, Local, Break, Continue, Goto, Mark, Arrival, Note, join}
use Rattle.jump_meaning.specs.Tasks.{Task, Runs, Loops, WhileLoop, DoLoop, ForLoop, items}
use Rattle.jump_meaning.specs.Search.{Goal, ToLabel, ToCase, ToDefault, is_goal, is_section_goal, enters_switches, or_else, seek, seek_in, seek_sections, find}
use Rattle.jump_meaning.proofs.TaskFacts.{cut_tail}
use Rattle.flat_laws.specs.Pieces.{Aim, mark_of, IsMoved, test_or_one, third_items, with_third, Names, label_if, wanted_case, wanted, wanted_in, wanted_among, case_marks}
use Rattle.flat_laws.specs.Placed.{ArePlaced}
use Rattle.flat_laws.specs.Loose.{Setting, Mode, Open, Inner, in_open, in_last, Arrives, LooserItem, lo_evaluate, lo_return, lo_return_none, lo_note, lo_if, lo_while, lo_do, lo_for, lo_for_while, lo_block, lo_keep_block, lo_keep_for, lo_keep_declares, lo_keep_local, lo_declares, lo_number, lo_array, lo_break, lo_break_to, lo_break_end, lo_continue, lo_continue_to, lo_goto, lo_mark, lo_drop, lo_arrival, lo_switch, lo_scatter, Looser, la_nil, la_then, la_last, Spread, ls_none, ls_last, ls_falls, ls_ends}
use Rattle.flat_laws.proofs.Controls.{behind_mark, Control, ct_item, ct_while, ct_do, ct_for, ct_jumped, ct_leaves, Still, st_control}
use Rattle.flat_laws.proofs.ControlFacts.{placed_join, ended_more, behind_mark_lo, items_lo, list_lo, third_lo, skip_marks, last_mark, spread_lo}
use Rattle.flat_laws.proofs.Entries.{Caseless, IsCaseless, IsNoArrival, no_arrival, caseless_seek, gone_caseless}

-- no label is wanted in a list without Arrivals
mutual
  caseless_wanted : (g : Goal) (names : Names) (a : Forest) → Caseless a → wanted g names a ≡ None
  caseless_wanted g names Nil h = refl
  caseless_wanted g names (Then x a) h = ap (λ z. or_else z (wanted g names a)) (caseless_wanted_in g names x h.0) ∙ caseless_wanted g names a h.1

  caseless_wanted_in : (g : Goal) (names : Names) (x : Tree) → IsCaseless x → wanted_in g names x ≡ None
  caseless_wanted_in g names (If t a b) h = ap (λ z. or_else z (wanted g names b)) (caseless_wanted g names a h.0) ∙ caseless_wanted g names b h.1
  caseless_wanted_in g names (While t a) h = caseless_wanted g names a h
  caseless_wanted_in g names (Do a t) h = caseless_wanted g names a h
  caseless_wanted_in g names (For f t u a) h = caseless_wanted g names a h
  caseless_wanted_in g names (Block a) h = caseless_wanted g names a h
  caseless_wanted_in g names (Arrival e) h = absurd h
  caseless_wanted_in g names _ h = refl

module _ (s : Setting) (B : Forest) where
  -- the tasks from the first label on that is wanted, in both
  pub data Where (o : Option (List Task)) (l : Option ℕ) : Type 0 where
    hit : (j j' : List Task) (m : ℕ) → o ≡ Some j → l ≡ Some m → find m B ≡ j' → Still s B j j' → Where o l
    miss : o ≡ None → l ≡ None → Where o l

  where_or : (o p : Option (List Task)) (l m : Option ℕ) → Where o l → Where p m → Where (or_else o p) (or_else l m)
  where_or o p l m (hit j j' n a b c d) h = hit j j' n (ap (λ z. or_else z p) a) (ap (λ z. or_else z m) b) c d
  where_or o p l m (miss a b) (hit j j' n a' b' c d) = hit j j' n (ap (λ z. or_else z p) a ∙ a') (ap (λ z. or_else z m) b ∙ b') c d
  where_or o p l m (miss a b) (miss a' b') = miss (ap (λ z. or_else z p) a ∙ a') (ap (λ z. or_else z m) b ∙ b')

  module _ (g : Goal) (out : enters_switches g ≡ false) where
    -- an item that is no Arrival
    through : (x : Tree) (k : List Task) (l : Option ℕ) → IsNoArrival x → Where (seek_in g x k) l →
        Where (cond (is_goal g x) (Some (Runs x ∷ k)) (seek_in g x k)) l
    through x k l h w = subst (λ b. Where (cond b (Some (Runs x ∷ k)) (seek_in g x k)) l) (sym (no_arrival x h g out)) w

    leaf : (x : Tree) (k : List Task) → IsNoArrival x → seek_in g x k ≡ None → Where (cond (is_goal g x) (Some (Runs x ∷ k)) (seek_in g x k)) None
    leaf x k h e = through x k None h (miss e refl)

    arrives : (y : Bool) (j j' : List Task) (m : ℕ) → find m B ≡ j' → Still s B j j' → Where (cond y (Some j) None) (label_if y m)
    arrives true j j' m e h = hit j j' m refl refl e h
    arrives false j j' m e h = miss refl refl

    mutual
      where_in : {m : Mode} {b c : Aim} {names : Names} {xs xs' : Forest} {k k' : List Task} → Looser s m b c (Arrives names) xs xs' →
          ArePlaced B xs' k' → Control s B m b c k k' → Where (seek g xs k) (wanted g names xs)
      where_in la_nil al h = miss refl refl
      where_in {k' = k'} (la_then {ys = ys} {xs' = xs'} fi fa) al h =
          let p = placed_join B ys xs' k' al in
          where_or _ _ _ _ (where_of fi p.0 (items_lo s B fa p.1 h)) (where_in fa p.1 h)
      where_in {names = names} {k = k} (la_last {xs = xs} last fi gone) al h =
          where_or _ _ _ _ (where_of fi al (ended_more s B xs last h))
          (miss (caseless_seek g out xs k (gone_caseless s xs gone)) (caseless_wanted g names xs (gone_caseless s xs gone)))

      where_of : {m : Mode} {b c : Aim} {names : Names} {x : Tree} {ys : Forest} {k k' : List Task} → LooserItem s m b c (Arrives names) x ys →
          ArePlaced B ys k' → Control s B m b c k k' → Where (cond (is_goal g x) (Some (Runs x ∷ k)) (seek_in g x k)) (wanted_in g names x)
      where_of {k = k} (lo_if t {x = x} {y = y} i fx fy) al h = through (If (Source t) x y) k _ tt
          (where_or _ _ _ _ (where_in fx al.0.0 h) (where_in fy al.0.1 h))
      where_of {k = k} {k' = k'} (lo_while t b' c' {a = a} {a' = a'} i fa) al h =
          through (While (Source t) a) k _ tt
          (where_in fa (placed_join B a' (mark_of c') (Loops (WhileLoop (Source t) (join a' (mark_of c'))) ∷ behind_mark b' k') al.0).0
          (behind_mark_lo s B c' (ct_while t b' c' i fa al.0 al.1 h)))
      where_of {k = k} {k' = k'} (lo_do t b' c' {a = a} {a' = a'} i fa) al h =
          through (Do a (Source t)) k _ tt
          (where_in fa (placed_join B a' (mark_of c') (Loops (DoLoop (join a' (mark_of c')) (Source t)) ∷ behind_mark b' k') al.0).0
          (behind_mark_lo s B c' (ct_do t b' c' i fa al.0 al.1 h)))
      where_of {k = k} {k' = k'} (lo_for t u b' c' {i = z} {i' = i'} {a = a} {a' = a'} i j fi fa) al h =
          let q = placed_join B i' (Then (For Nil t u (join a' (mark_of c'))) (mark_of b')) k' al in
          through (For z t u a) k _ tt
          (where_in fa (placed_join B a' (mark_of c') (Loops (ForLoop t u (join a' (mark_of c'))) ∷ behind_mark b' k') q.1.0).0
          (behind_mark_lo s B c' (ct_for t u b' c' i j fa q.1.0 q.1.1 h)))
      where_of {k = k} {k' = k'} (lo_for_while t u b' c' {i = z} {i' = i'} {a = a} {a' = a'} n i j fi fa) al h =
          let q = placed_join B i' (Then (While (Source (test_or_one t)) (with_third a' c' u)) (mark_of b')) k' al in
          through (For z t u a) k _ tt
          (where_in fa (placed_join B a' (join (mark_of c') (third_items u))
          (Loops (WhileLoop (Source (test_or_one t)) (with_third a' c' u)) ∷ behind_mark b' k') q.1.0).0 (third_lo s B t u b' c' n i j fa q.1.0 q.1.1 h))
      where_of {k = k} (lo_block {a = a} fa) al h = through (Block a) k _ tt (where_in fa al h)
      where_of {k = k} (lo_keep_block {a = a} fa) al h = through (Block a) k _ tt (where_in fa al.0 h)
      where_of {k = k} {k' = k'} (lo_keep_for t u b' c' {i = z} {a = a} {a' = a'} y i j fi fa) al h =
          through (For z t u a) k _ tt
          (where_in fa (placed_join B a' (mark_of c') (Loops (ForLoop t u (join a' (mark_of c'))) ∷ behind_mark b' k') al.0).0
          (behind_mark_lo s B c' (ct_for t u b' c' i j fa al.0 al.1 h)))
      where_of {k = k} (lo_keep_declares x) al h = leaf (Local x None) k tt refl
      where_of {k = k} (lo_keep_local x es b i) al h = leaf (Local x (Some es)) k tt refl
      where_of {k = k} {k' = k'} (lo_arrival {b = b} {c = c} names e) al h =
          subst (λ z. Where (cond (is_goal g (Arrival e)) (Some (Runs (Arrival e) ∷ k)) z) (label_if (is_goal g (Arrival e)) (names e))) refl
          (arrives (is_goal g (Arrival e)) (Runs (Arrival e) ∷ k) (Runs (Mark (names e)) ∷ k') (names e) al.0
          (st_control (ct_item (lo_arrival {b = b} {c = c} names e) al h)))
      where_of {k = k} (lo_switch e b' {d = d} i fs) al h = leaf (Switch (Selects e) d) k tt (ap (λ z. cond z (seek_sections g d k) None) out)
      where_of {k = k} (lo_scatter e b' names v m {d = d} i n z w c t o fs) al h =
          leaf (Switch (Selects e) d) k tt (ap (λ z. cond z (seek_sections g d k) None) out)
      where_of {k = k} (lo_evaluate e i) al h = leaf (Evaluate e) k tt refl
      where_of {k = k} (lo_return e i) al h = leaf (Return (Some e)) k tt refl
      where_of {k = k} lo_return_none al h = leaf (Return None) k tt refl
      where_of {k = k} (lo_note bs) al h = leaf (Note bs) k tt refl
      where_of {k = k} (lo_declares x) al h = leaf (Local x None) k tt refl
      where_of {k = k} (lo_number z x e i c t) al h = leaf (Local x (Some (e ∷ []))) k tt refl
      where_of {k = k} (lo_array z x es m i c t) al h = leaf (Local x (Some es)) k tt refl
      where_of {k = k} lo_break al h = leaf Break k tt refl
      where_of {k = k} (lo_break_to l) al h = leaf Break k tt refl
      where_of {k = k} lo_break_end al h = leaf Break k tt refl
      where_of {k = k} lo_continue al h = leaf Continue k tt refl
      where_of {k = k} (lo_continue_to l) al h = leaf Continue k tt refl
      where_of {k = k} (lo_goto l n e) al h = leaf (Goto l) k tt refl
      where_of {k = k} (lo_mark l n e) al h = leaf (Mark l) k tt refl
      where_of {k = k} (lo_drop l e) al h = leaf (Mark l) k tt refl

    -- the labels of a section
    data AtSection (T : List Task) (y : Bool) (l : Option ℕ) : Type 0 where
      at_label : (m : ℕ) (j' : List Task) → y ≡ true → l ≡ Some m → find m B ≡ j' → Still s B T j' → AtSection T y l
      past_labels : y ≡ false → l ≡ None → AtSection T y l

    -- which goals the section has
    section_cons : (e : ExpressionTree) (es : List ExpressionTree) (default : Bool) →
        is_section_goal g (e ∷ es) default ≡ (is_goal g (Arrival (Some e)) || is_section_goal g es default)
    section_cons e es default = at g out
      where
        at : (g : Goal) → enters_switches g ≡ false → is_section_goal g (e ∷ es) default ≡ (is_goal g (Arrival (Some e)) || is_section_goal g es default)
        at (ToLabel m) q = refl
        at (ToCase k n) q = refl
        at ToDefault q = refl

    section_nil : (default : Bool) → is_section_goal g [] default ≡ cond default (is_goal g (Arrival None)) false
    section_nil default = at g out default
      where
        at : (g : Goal) → enters_switches g ≡ false → (d : Bool) → is_section_goal g [] d ≡ cond d (is_goal g (Arrival None)) false
        at (ToLabel m) q true = refl
        at (ToLabel m) q false = refl
        at (ToCase k n) q true = refl
        at (ToCase k n) q false = refl
        at ToDefault q true = refl
        at ToDefault q false = refl

    section_at : {b c : Aim} {T K' : List Task} (names : Names) (cases : List ExpressionTree) (default : Bool) →
        ArePlaced B (case_marks names cases default) K' → Control s B Open b c T K'
        → AtSection T (is_section_goal g cases default) (wanted_case g names cases default)
    section_at {T = T} names [] false al h = past_labels (section_nil false) refl
    section_at {T = T} {K' = K'} names [] true al h = at (is_goal g (Arrival None)) refl
      where
        at : (y : Bool) → is_goal g (Arrival None) ≡ y → AtSection T (is_section_goal g [] true) (label_if (is_goal g (Arrival None)) (names None))
        at true e = at_label (names None) (Runs (Mark (names None)) ∷ K') (section_nil true ∙ e) (ap (λ z. label_if z (names None)) e) al.0
            (st_control (skip_marks s B names [] true h))
        at false e = past_labels (section_nil true ∙ e) (ap (λ z. label_if z (names None)) e)
    section_at {T = T} {K' = K'} names (e ∷ es) default al h = at (is_goal g (Arrival (Some e))) refl (section_at names es default al.1 h)
      where
        at : (y : Bool) → is_goal g (Arrival (Some e)) ≡ y → AtSection T (is_section_goal g es default) (wanted_case g names es default) →
            AtSection T (is_section_goal g (e ∷ es) default) (wanted_case g names (e ∷ es) default)
        at true p r =
            at_label (names (Some e)) (Runs (Mark (names (Some e))) ∷ items (case_marks names es default) K')
            (section_cons e es default ∙ ap (λ z. z || is_section_goal g es default) p)
            (ap (λ z. or_else (label_if z (names (Some e))) (wanted_case g names es default)) p) al.0 (st_control (skip_marks s B names (e ∷ es) default h))
        at false p (at_label m j' u v x t) =
            at_label m j' (section_cons e es default ∙ ap (λ z. z || is_section_goal g es default) p ∙ u)
            (ap (λ z. or_else (label_if z (names (Some e))) (wanted_case g names es default)) p ∙ v) x t
        at false p (past_labels u v) =
            past_labels (section_cons e es default ∙ ap (λ z. z || is_section_goal g es default) p ∙ u)
            (ap (λ z. or_else (label_if z (names (Some e))) (wanted_case g names es default)) p ∙ v)

    in_section : {T : List Task} (y : Bool) (l : Option ℕ) (o p : Option (List Task)) (m n : Option ℕ) → AtSection T y l → Where o m → Where p n →
        Where (or_else (cond y (Some T) o) p) (or_else l (or_else m n))
    in_section {T} y l o p m n (at_label i j' u v x t) w r =
        hit T j' i (ap (λ z. or_else (cond z (Some T) o) p) u) (ap (λ z. or_else z (or_else m n)) v) x t
    in_section {T} y l o p m n (past_labels u v) w r =
        subst (λ z. Where (or_else (cond z (Some T) o) p) (or_else l (or_else m n))) (sym u)
        (subst (λ z. Where (or_else o p) (or_else z (or_else m n))) (sym v) (where_or o p m n w r))

    pub where_among : {m n : Mode} {b0 c b : Aim} {names : Names} {d : Sections} {ys : Forest} {k k' : List Task} → IsMoved b →
        Spread s n b c names d ys → Inner m n → ArePlaced B ys k' → Control s B m b0 c k k' → Where (seek_sections g d k) (wanted_among g names d)
    where_among n ls_none z al o = miss refl refl
    where_among {names = names} {k' = k'} n (ls_last cases default {xs' = xs'} fa) (in_last last) al o =
        let p = placed_join B (case_marks names cases default) xs' k' al in
        in_section _ _ _ _ _ _ (section_at names cases default p.0 (items_lo s B fa p.1 (ct_jumped last refl o)))
        (where_in fa p.1 (ct_jumped last refl o)) (miss refl refl)
    where_among {names = names} {k' = k'} n (ls_falls cases default {xs' = xs'} {ys = ys} {d = d} fa fs) z al o =
        let p = placed_join B (case_marks names cases default) (join xs' ys) k' al in
        let q = placed_join B xs' ys k' p.1 in
        let h = spread_lo s B n fs z q.1 o in
        in_section _ _ _ _ _ _ (section_at names cases default p.0 (list_lo s B ys k' fa p.1 h)) (where_in fa q.0 h) (where_among n fs z q.1 o)
    where_among {names = names} {k = k} {k' = k'} n (ls_ends l cases default {xs' = xs'} {ys = ys} {d = d} fa fs) in_open al o =
        let p = placed_join B (case_marks names cases default) (join xs' (Then (Goto l) ys)) k' al in
        let q = placed_join B xs' (Then (Goto l) ys) k' p.1 in
        let h = ct_leaves l (last_mark s B fs q.1.1) (cut_tail d k) o (spread_lo s B n fs in_open q.1.1 o) in
        in_section _ _ _ _ _ _ (section_at names cases default p.0 (list_lo s B (Then (Goto l) ys) k' fa p.1 h)) (where_in fa q.0 h)
        (where_among n fs in_open q.1.1 o)
