-- A jump to a label of the body comes to what a jump to that of the flat list comes to.
use Rattle.std.proofs.Common.{ℕ, inl, inr, List, [], Option, Some, None, ◌≡◌, refl, sym, subst}
use Rattle.c_tree.specs.TestTrees.{Source}
use Rattle.c_tree.specs.Trees.{Tree, Forest, Then, Goto, Mark}
use Rattle.c_tree.specs.Changed.{one}
use Rattle.jump_meaning.specs.Tasks.{Task, items}
use Rattle.jump_meaning.specs.Search.{find}
use Rattle.flat_laws.specs.Placed.{ArePlaced, IsPlaced, Has, HasIn}
use Rattle.flat_laws.proofs.ControlFacts.{placed_join}
use Rattle.lower_laws.specs.Straight.{while_items, StraightItem, st_evaluate, st_return, st_note, st_goto, st_mark, st_jump_if, st_if, st_do, st_ever, Straight, sl_nil, sl_end, sl_then, sl_declares, sl_while}
use Rattle.lower_laws.proofs.Controls.{Control, ct_nil, ct_item, ct_mark, list_goes, while_list, while_again, while_end, do_list, do_end, ever_list, ever_end, then_list, then_end, else_list, else_end}

module _ (A B : Forest) (s : ℕ → ℕ) (l : ℕ) where
  abbrev There : Type 0
  There = Control A B s (find l A) (find (s l) B)

  -- what is behind a list goes on as in front of the loop whose list it is
  abbrev AtEnd : Option ℕ → List Task → Type 0
  AtEnd None k = Unit {0}
  AtEnd (Some h) k = Control A B s k (find h B)

  here : (m : ℕ) {k k' : List Task} → l ≡ m → find m A ≡ k → find (s m) B ≡ k' → Control A B s k k' → There
  here m {k = k} e a b h = subst (λ z. Control A B s (find z A) (find (s z) B)) (sym e)
      (subst (λ z. Control A B s z (find (s m) B)) (sym a) (subst (λ z. Control A B s k z) (sym b) h))

  mutual
    locate : {o : Option ℕ} {xs xs' : Forest} {k k' : List Task} → Straight A s o xs xs' → ArePlaced A xs k → ArePlaced B xs' k' →
        Control A B s k k' → AtEnd o k → Has l xs → There
    locate sl_nil al bl h i p = absurd p
    locate (sl_end m) al bl h i (inl p) = here m p al.0 refl (ct_mark m i)
    locate (sl_end m) al bl h i (inr p) = absurd p
    locate {k' = k'} (sl_then {ys = ys} {xs' = xs'} fi fa) al bl h i (inl p) =
        let q = placed_join B ys xs' k' bl in
        locate_item fi al.0 q.0 (list_goes A B s fa q.1 h) p
    locate {k' = k'} (sl_then {ys = ys} {xs' = xs'} fi fa) al bl h i (inr p) =
        let q = placed_join B ys xs' k' bl in
        locate fa al.1 q.1 h i p
    locate (sl_declares x fa) al bl h i p = locate fa al bl.1 h i p
    locate {k' = k'} (sl_while t m b e {a' = a'} {xs' = xs'} fa fs) al bl h i (inl p) =
        let q = placed_join B (while_items (Source t) m b (s e) a') xs' k' bl in
        let r = list_goes A B s fs q.1 h in
        locate fa al.0 (while_list A B s t m b e fa q.0 r) (while_end A B s t m b e fa q.0 r) (while_again A B s t m b e fa q.0 r) p
    locate {k' = k'} (sl_while t m b e {a' = a'} {xs' = xs'} fa fs) al bl h i (inr (inl p)) =
        let q = placed_join B (while_items (Source t) m b (s e) a') xs' k' bl in
        here e p al.1.0 (placed_join B a' (Then (Goto m) (one (Mark (s e)))) (items xs' k') q.0.1.1.1.1).1.1.0
        (ct_item (st_mark e) ((placed_join B a' (Then (Goto m) (one (Mark (s e)))) (items xs' k') q.0.1.1.1.1).1.1.0, tt) (list_goes A B s fs q.1 h))
    locate {k' = k'} (sl_while t m b e {a' = a'} {xs' = xs'} fa fs) al bl h i (inr (inr p)) =
        let q = placed_join B (while_items (Source t) m b (s e) a') xs' k' bl in
        locate fs al.1.1 q.1 h i p

    locate_item : {x : Tree} {ys : Forest} {k k' : List Task} → StraightItem A s x ys → IsPlaced A x k → ArePlaced B ys k' → Control A B s k k' →
        HasIn l x → There
    locate_item (st_evaluate e) al bl h p = absurd p
    locate_item (st_return e) al bl h p = absurd p
    locate_item (st_note bs) al bl h p = absurd p
    locate_item (st_goto m n) al bl h p = absurd p
    locate_item (st_mark m) al bl h p = here m p al bl.0 (ct_item (st_mark m) bl h)
    locate_item (st_jump_if t m n) al bl h (inl (inl p)) = absurd p
    locate_item (st_jump_if t m n) al bl h (inl (inr p)) = absurd p
    locate_item (st_jump_if t m n) al bl h (inr p) = absurd p
    locate_item (st_if t m e fa fb) al bl h (inl p) = locate fa al.0 (then_list A B s t m e fa fb bl h) (then_end A B s t m e fa fb bl h) tt p
    locate_item (st_if t m e fa fb) al bl h (inr p) = locate fb al.1 (else_list A B s t m e fa fb bl h) (else_end A B s t m e fa fb bl h) tt p
    locate_item (st_do t b fa) al bl h p = locate fa al (do_list A B s t b fa bl h) (do_end A B s t b fa bl h) tt p
    locate_item (st_ever m fa) al bl h p = locate fa al (ever_list A B s m fa bl h) (ever_end A B s m fa bl h) tt p

  pub located : Straight A s None A B → ArePlaced A A [] → ArePlaced B B [] → Has l A → There
  located f al bl p = locate f al bl ct_nil tt p
