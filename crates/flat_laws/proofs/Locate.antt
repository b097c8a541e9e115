-- A label that both bodies have: a jump to it leads to related tasks.
use Rattle.std.proofs.Common.{ℕ, List, ◌∷◌, Option, Some, None, inl, inr, ◌≡◌, refl, sym, ◌∙◌, ap, subst}
use Rattle.c_tree.specs.TestTrees.{Source}
use Rattle.c_tree.specs.Trees.{Tree, Forest, Nil, Then, Sections, While, For, Block, Local, Goto, Mark, join}
use Rattle.jump_meaning.specs.Tasks.{Task, Runs, Loops, WhileLoop, DoLoop, ForLoop, Out}
use Rattle.jump_meaning.specs.Search.{find}
use Rattle.jump_meaning.proofs.TaskFacts.{cut_tail}
use Rattle.flat_laws.specs.Pieces.{Aim, mark_of, IsMoved, test_or_one, third_items, with_third, Names, case_marks, tests_among}
use Rattle.flat_laws.specs.Placed.{ArePlaced, IsPlaced, ArePlacedAmong, Has, HasIn, HasAmong}
use Rattle.flat_laws.specs.Loose.{Setting, AreGone, IsGone, Mode, Open, Inner, in_open, in_last, Arrivals, NoArrival, LooserItem, lo_evaluate, lo_return, lo_return_none, lo_note, lo_if, lo_while, lo_do, lo_for, lo_for_while, lo_block, lo_keep_block, lo_keep_for, lo_keep_declares, lo_keep_local, lo_declares, lo_number, lo_array, lo_break, lo_break_to, lo_break_end, lo_continue, lo_continue_to, lo_goto, lo_mark, lo_drop, lo_arrival, lo_switch, lo_scatter, Looser, la_nil, la_then, la_last, LooserSections, lc_none, lc_section, lc_ended, Spread, ls_none, ls_last, ls_falls, ls_ends}
use Rattle.flat_laws.proofs.Controls.{behind_mark, Control, ct_item, ct_while, ct_do, ct_for, ct_out, ct_jumped, ct_leaves, Still, st_control}
use Rattle.flat_laws.proofs.ControlFacts.{placed_join, ended_more, behind_mark_lo, items_lo, third_lo, end_lo, ended_lo, tail_lo, last_mark, spread_lo}

abbrev or_zero : Option ℕ → ℕ
or_zero (Some n) = n
or_zero None = 0

abbrev is_there : Option ℕ → Type 0
is_there (Some n) = Unit {0}
is_there None = ⊥

module _ (s : Setting) (A B : Forest) (l n : ℕ) (lv : s.labels l ≡ Some n) where
  abbrev There : Type 0
  There = Still s B (find l A) (find n B)

  not_dropped : (m : ℕ) → s.labels m ≡ None → l ≡ m → ⊥
  not_dropped m e p = subst is_there (sym lv ∙ ap s.labels p ∙ e) tt

  mutual
    not_gone : (xs : Forest) → AreGone s xs → Has l xs → ⊥
    not_gone Nil g p = p
    not_gone (Then x xs) g (inl p) = not_gone_in x g.0 p
    not_gone (Then x xs) g (inr p) = not_gone xs g.1 p

    not_gone_in : (x : Tree) → IsGone s x → HasIn l x → ⊥
    not_gone_in (Local x None) g p = p
    not_gone_in (Mark m) g p = not_dropped m g p
    not_gone_in (Block a) g p = not_gone a g p
    not_gone_in _ g p = g

  mutual
    pub locate : {m : Mode} {b c : Aim} {r : Arrivals} {xs xs' : Forest} {k k' : List Task} → Looser s m b c r xs xs' → ArePlaced A xs k →
        ArePlaced B xs' k' → Control s B m b c k k' → Has l xs → There
    locate la_nil al bl h p = absurd p
    locate {k' = k'} (la_then {ys = ys} {xs' = xs'} fi fa) al bl h (inl p) = let q = placed_join B ys xs' k' bl in
        locate_item fi al.0 q.0 (items_lo s B fa q.1 h) p
    locate {k' = k'} (la_then {ys = ys} {xs' = xs'} fi fa) al bl h (inr p) = locate fa al.1 (placed_join B ys xs' k' bl).1 h p
    locate (la_last {xs = xs} last fi gone) al bl h (inl p) = locate_item fi al.0 bl (ended_more s B xs last h) p
    locate (la_last {xs = xs} last fi gone) al bl h (inr p) = absurd (not_gone xs gone p)

    locate_item : {m : Mode} {b c : Aim} {r : Arrivals} {x : Tree} {ys : Forest} {k k' : List Task} → LooserItem s m b c r x ys → IsPlaced A x k →
        ArePlaced B ys k' → Control s B m b c k k' → HasIn l x → There
    locate_item (lo_if t i fx fy) al bl h (inl p) = locate fx al.0 bl.0.0 h p
    locate_item (lo_if t i fx fy) al bl h (inr p) = locate fy al.1 bl.0.1 h p
    locate_item {k' = k'} (lo_while t b' c' {a' = a'} i fa) al bl h p =
        locate fa al (placed_join B a' (mark_of c') (Loops (WhileLoop (Source t) (join a' (mark_of c'))) ∷ behind_mark b' k') bl.0).0
        (behind_mark_lo s B c' (ct_while t b' c' i fa bl.0 bl.1 h)) p
    locate_item {k' = k'} (lo_do t b' c' {a' = a'} i fa) al bl h p =
        locate fa al (placed_join B a' (mark_of c') (Loops (DoLoop (join a' (mark_of c')) (Source t)) ∷ behind_mark b' k') bl.0).0
        (behind_mark_lo s B c' (ct_do t b' c' i fa bl.0 bl.1 h)) p
    locate_item {k' = k'} (lo_for t u b' c' {i' = i'} {a' = a'} i j fi fa) al bl h p =
        let q = placed_join B i' (Then (For Nil t u (join a' (mark_of c'))) (mark_of b')) k' bl in
        locate fa al (placed_join B a' (mark_of c') (Loops (ForLoop t u (join a' (mark_of c'))) ∷ behind_mark b' k') q.1.0).0
        (behind_mark_lo s B c' (ct_for t u b' c' i j fa q.1.0 q.1.1 h)) p
    locate_item {k' = k'} (lo_for_while t u b' c' {i' = i'} {a' = a'} n i j fi fa) al bl h p =
        let q = placed_join B i' (Then (While (Source (test_or_one t)) (with_third a' c' u)) (mark_of b')) k' bl in
        locate fa al (placed_join B a' (join (mark_of c') (third_items u))
        (Loops (WhileLoop (Source (test_or_one t)) (with_third a' c' u)) ∷ behind_mark b' k') q.1.0).0 (third_lo s B t u b' c' n i j fa q.1.0 q.1.1 h) p
    locate_item (lo_block fa) al bl h p = locate fa al bl h p
    locate_item (lo_keep_block fa) al bl h p = locate fa al bl.0 h p
    locate_item {k' = k'} (lo_keep_for t u b' c' {a' = a'} z i j fi fa) al bl h p =
        locate fa al (placed_join B a' (mark_of c') (Loops (ForLoop t u (join a' (mark_of c'))) ∷ behind_mark b' k') bl.0).0
        (behind_mark_lo s B c' (ct_for t u b' c' i j fa bl.0 bl.1 h)) p
    locate_item (lo_keep_declares x) al bl h p = absurd p
    locate_item (lo_keep_local x es b i) al bl h p = absurd p
    locate_item (lo_switch e b' i fs) al bl h p = locate_sections fs al bl.0 (behind_mark_lo s B b' h) (ct_out b' bl.1 h) p
    locate_item {k' = k'} (lo_scatter e b' names v m {d = d} {ys = ys} i n z w c t o fs) al bl h p =
        locate_spread n fs z al (placed_join B (tests_among s.number _ v names d) (Then (Goto m) ys) k' bl.1).1.1 h p
    locate_item {k = k} {k' = k'} (lo_mark m i e) al bl h p =
        let q : n ≡ i = ap or_zero (sym lv ∙ ap s.labels p ∙ e) in
        subst (λ z. Still s B (find z A) (find n B)) (sym p) (subst (λ z. Still s B (find m A) (find z B)) (sym q)
        (subst (λ z. Still s B z (find i B)) (sym al) (subst (λ z. Still s B (Runs (Mark m) ∷ k) z) (sym bl.0)
        (st_control (ct_item (lo_mark {r = NoArrival} m i e) bl h)))))
    locate_item (lo_drop m e) al bl h p = absurd (not_dropped m e p)
    locate_item (lo_evaluate e i) al bl h p = absurd p
    locate_item (lo_return e i) al bl h p = absurd p
    locate_item lo_return_none al bl h p = absurd p
    locate_item (lo_note bs) al bl h p = absurd p
    locate_item (lo_declares x) al bl h p = absurd p
    locate_item (lo_number j x e i c t) al bl h p = absurd p
    locate_item (lo_array j x es m i c t) al bl h p = absurd p
    locate_item lo_break al bl h p = absurd p
    locate_item (lo_break_to m) al bl h p = absurd p
    locate_item lo_break_end al bl h p = absurd p
    locate_item lo_continue al bl h p = absurd p
    locate_item (lo_continue_to m) al bl h p = absurd p
    locate_item (lo_goto m i e) al bl h p = absurd p
    locate_item (lo_arrival names e) al bl h p = absurd p

    locate_sections : {b c b' c' : Aim} {d d' : Sections} {k k' : List Task} → LooserSections s b c d d' → ArePlacedAmong A d k →
        ArePlacedAmong B d' k' → Control s B Open b' c' k k' → Control s B Open b c (Out ∷ k) (Out ∷ k') → HasAmong l d → There
    locate_sections lc_none al bl o h p = absurd p
    locate_sections (lc_section cases default e {d = d} {d' = d'} fa fs) al bl o h (inl p) =
        locate fa al.0 bl.0 (end_lo s B d d' e o (tail_lo s B fs bl.1 o h)) p
    locate_sections (lc_section cases default e fa fs) al bl o h (inr p) = locate_sections fs al.1 bl.1 o h p
    locate_sections (lc_ended cases default e {d = d} {d' = d'} fa fs) al bl o h (inl p) =
        locate fa al.0 bl.0 (ended_lo s B d d' e o (tail_lo s B fs bl.1 o h)) p
    locate_sections (lc_ended cases default e fa fs) al bl o h (inr p) = locate_sections fs al.1 bl.1 o h p

    locate_spread : {m n : Mode} {b0 c b : Aim} {names : Names} {d : Sections} {ys : Forest} {k k' : List Task} → IsMoved b →
        Spread s n b c names d ys → Inner m n → ArePlacedAmong A d k → ArePlaced B ys k' → Control s B m b0 c k k' → HasAmong l d → There
    locate_spread n ls_none z al bl o p = absurd p
    locate_spread {names = names} {k' = k'} n (ls_last cases default {xs' = xs'} fa) (in_last last) al bl o (inl p) =
        locate fa al.0 (placed_join B (case_marks names cases default) xs' k' bl).1 (ct_jumped last refl o) p
    locate_spread n (ls_last cases default fa) (in_last last) al bl o (inr p) = absurd p
    locate_spread {names = names} {k' = k'} n (ls_falls cases default {xs' = xs'} {ys = ys} {d = d} fa fs) z al bl o (inl p) =
        let q = placed_join B xs' ys k' (placed_join B (case_marks names cases default) (join xs' ys) k' bl).1 in
        locate fa al.0 q.0 (spread_lo s B n fs z q.1 o) p
    locate_spread {names = names} {k' = k'} n (ls_falls cases default {xs' = xs'} {ys = ys} {d = d} fa fs) z al bl o (inr p) =
        let q = placed_join B xs' ys k' (placed_join B (case_marks names cases default) (join xs' ys) k' bl).1 in
        locate_spread n fs z al.1 q.1 o p
    locate_spread {names = names} {k = k} {k' = k'} n (ls_ends m cases default {xs' = xs'} {ys = ys} {d = d} fa fs) in_open al bl o (inl p) =
        let q = placed_join B xs' (Then (Goto m) ys) k' (placed_join B (case_marks names cases default) (join xs' (Then (Goto m) ys)) k' bl).1 in
        locate fa al.0 q.0 (ct_leaves m (last_mark s B fs q.1.1) (cut_tail d k) o (spread_lo s B n fs in_open q.1.1 o)) p
    locate_spread {names = names} {k' = k'} n (ls_ends m cases default {xs' = xs'} {ys = ys} {d = d} fa fs) in_open al bl o (inr p) =
        let q = placed_join B xs' (Then (Goto m) ys) k' (placed_join B (case_marks names cases default) (join xs' (Then (Goto m) ys)) k' bl).1 in
        locate_spread n fs in_open al.1 q.1.1 o p
