-- Tasks of a body and of a flat list of gotos for it that come to the same.
use Rattle.std.proofs.Common.{ℕ, Bool, true, false, cond, List, [], ◌∷◌, Option, Some, None, ◌≡◌, refl, sym, ◌∙◌, subst}
use Rattle.c_tree.specs.ExpressionTrees.{ExpressionTree}
use Rattle.c_tree.specs.TestTrees.{TestTree, Source}
use Rattle.c_tree.specs.Trees.{Tree, Forest, Nil, Then, While, Local, Goto, Mark, join}
use Rattle.c_tree.specs.Changed.{one}
use Rattle.jump_meaning.specs.Effects.{Op}
use Rattle.jump_meaning.specs.Tasks.{WhileLoop, DoLoop, Loop, Task, Runs, Works, Branches, Turns, Loops, items, works, turn}
use Rattle.jump_meaning.specs.Search.{find}
use Rattle.jump_meaning.specs.Step.{is_dropped}
use Rattle.jump_meaning.proofs.TaskFacts.{items_join}
use Rattle.flat_laws.specs.Pieces.{test_or_one}
use Rattle.flat_laws.specs.Placed.{ArePlaced}
use Rattle.flat_laws.proofs.ControlFacts.{placed_join}
use Rattle.lower_laws.specs.Straight.{jump_if, if_items, while_items, do_items, ever_items, StraightItem, Straight, sl_nil, sl_end, sl_then, sl_declares, sl_while}

-- tasks that no value waits for; B is the flat list
pub data Control (A B : Forest) (s : ℕ → ℕ) : List Task → List Task → Type 0 where
  ct_nil : Control A B s [] []
  ct_item : {x : Tree} {ys : Forest} {k k' : List Task} → StraightItem A s x ys → ArePlaced B ys k' → Control A B s k k' →
      Control A B s (Runs x ∷ k) (items ys k')
  ct_while : (t : ExpressionTree) (h b e : ℕ) {a a' : Forest} {k k' : List Task} → Straight A s (Some h) a a' →
      ArePlaced B (while_items (Source t) h b (s e) a') k' → Control A B s k k'
      → Control A B s (Runs (While (Source t) a) ∷ Runs (Mark e) ∷ k) (items (while_items (Source t) h b (s e) a') k')
  ct_do : (t : ExpressionTree) (b : ℕ) {a a' : Forest} {k k' : List Task} → Straight A s None a a' → ArePlaced B (do_items (Source t) b a') k' →
      Control A B s k k'
      → Control A B s (Loops (DoLoop a (Source t)) ∷ k) (Runs (jump_if (Source t) b) ∷ k')
  -- one of the two goes on alone
  ct_skip : (l : ℕ) {k k' : List Task} → Control A B s k k' → Control A B s k (Runs (Mark l) ∷ k')
  ct_declares : (x : ℕ) {k k' : List Task} → Control A B s k k' → Control A B s k (Runs (Local x None) ∷ k')
  ct_goto : (l : ℕ) {k j k' : List Task} → find l B ≡ j → Control A B s k j → Control A B s k (Runs (Goto l) ∷ k')
  ct_mark : (l : ℕ) {k k' : List Task} → Control A B s k k' → Control A B s (Runs (Mark l) ∷ k) k'
  ct_loops : (t : TestTree) (a : Forest) {k k' : List Task} → Control A B s (Runs (While t a) ∷ k) k' → Control A B s (Loops (WhileLoop t a) ∷ k) k'

-- tasks of a call
pub data Tasks (A B : Forest) (s : ℕ → ℕ) : List Task → List Task → Type 0 where
  tk_control : {k k' : List Task} → Control A B s k k' → Tasks A B s k k'
  tk_works : (o : Op) {k k' : List Task} → Tasks A B s k k' → Tasks A B s (Works o ∷ k) (Works o ∷ k')
  tk_if : {a b a' b' : Forest} {k k' : List Task} → Control A B s (items a k) (items a' k') → Control A B s (items b k) (items b' k') →
      Tasks A B s (Branches a b ∷ k) (Branches a' b' ∷ k')
  tk_turns : (x : Loop) {a' b' : Forest} {k k' : List Task} → Control A B s (turn x k) (items a' k') → Control A B s k (items b' k') →
      Tasks A B s (Turns x ∷ k) (Branches a' b' ∷ k')

module _ (A B : Forest) (s : ℕ → ℕ) where
  abbrev pub C : List Task → List Task → Type 0
  C k k' = Control A B s k k'

  pub tasks_works : (os : List Op) {k k' : List Task} → Tasks A B s k k' → Tasks A B s (works os k) (works os k')
  tasks_works [] h = h
  tasks_works (o ∷ os) h = tk_works o (tasks_works os h)

  pub control_if : (b : Bool) {k k' j j' : List Task} → C k k' → C j j' → C (cond b k j) (cond b k' j')
  control_if true h i = h
  control_if false h i = i

  -- ---- no value is dropped where none is awaited

  items_kept : (ys : Forest) (k' : List Task) → is_dropped k' ≡ false → is_dropped (items ys k') ≡ false
  items_kept Nil k' h = h
  items_kept (Then y ys) k' h = refl

  control_kept : {k k' : List Task} → C k k' → is_dropped k' ≡ false
  control_kept ct_nil = refl
  control_kept (ct_item {ys = ys} {k' = k'} fi al h) = items_kept ys k' (control_kept h)
  control_kept (ct_while t h b e fa al i) = refl
  control_kept (ct_do t b fa al h) = refl
  control_kept (ct_skip l h) = refl
  control_kept (ct_declares x h) = refl
  control_kept (ct_goto l e h) = refl
  control_kept (ct_mark l h) = control_kept h
  control_kept (ct_loops t a h) = control_kept h

  control_keeps : {k k' : List Task} → C k k' → is_dropped k ≡ false
  control_keeps ct_nil = refl
  control_keeps (ct_item fi al h) = refl
  control_keeps (ct_while t h b e fa al i) = refl
  control_keeps (ct_do t b fa al h) = refl
  control_keeps (ct_skip l h) = control_keeps h
  control_keeps (ct_declares x h) = control_keeps h
  control_keeps (ct_goto l e h) = control_keeps h
  control_keeps (ct_mark l h) = refl
  control_keeps (ct_loops t a h) = refl

  ops_dropped : (o : Op) (k k' : List Task) → is_dropped (Works o ∷ k) ≡ is_dropped (Works o ∷ k')
  ops_dropped Op.Drops k k' = refl
  ops_dropped _ k k' = refl

  pub tasks_dropped : {k k' : List Task} → Tasks A B s k k' → is_dropped k ≡ is_dropped k'
  tasks_dropped (tk_control h) = control_keeps h ∙ sym (control_kept h)
  tasks_dropped (tk_works o {k = k} {k' = k'} h) = ops_dropped o k k'
  tasks_dropped (tk_if h i) = refl
  tasks_dropped (tk_turns x h i) = refl

  -- ---- lists

  pub list_goes : {o : Option ℕ} {xs xs' : Forest} {k k' : List Task} → Straight A s o xs xs' → ArePlaced B xs' k' → C k k' → C (items xs k) (items xs' k')
  list_goes sl_nil al h = h
  list_goes (sl_end l) al h = ct_mark l h
  list_goes (sl_declares x fa) al h = ct_declares x (list_goes fa al.1 h)
  list_goes {k = k} {k' = k'} (sl_then {x = x} {ys = ys} {xs = xs} {xs' = xs'} fi fa) al h =
      let q = placed_join B ys xs' k' al in
      subst (λ z. C (Runs x ∷ items xs k) z) (sym (items_join ys xs' k')) (ct_item fi q.0 (list_goes fa q.1 h))
  list_goes {k = k} {k' = k'} (sl_while t h b e {a = a} {a' = a'} {xs = xs} {xs' = xs'} fa fs) al i =
      let q = placed_join B (while_items (Source t) h b (s e) a') xs' k' al in
      subst (λ z. C (Runs (While (Source t) a) ∷ Runs (Mark e) ∷ items xs k) z) (sym (items_join (while_items (Source t) h b (s e) a') xs' k'))
      (ct_while t h b e fa q.0 (list_goes fs q.1 i))

  -- ---- what stands behind the lists of items

  -- behind the list of a `while`
  abbrev pub behind_while : ℕ → ℕ → List Task → List Task
  behind_while h e k = Runs (Goto h) ∷ Runs (Mark e) ∷ k

  module _ (t : ExpressionTree) (h b e : ℕ) {a a' : Forest} {k k' : List Task} (fa : Straight A s (Some h) a a')
      (al : ArePlaced B (while_items (Source t) h b (s e) a') k') (i : C k k') where
    pub while_list : ArePlaced B a' (behind_while h (s e) k')
    while_list = (placed_join B a' (Then (Goto h) (one (Mark (s e)))) k' al.1.1.1.1).0

    pub while_again : C (Loops (WhileLoop (Source t) a) ∷ Runs (Mark e) ∷ k) (find h B)
    while_again = subst (λ z. C (Loops (WhileLoop (Source t) a) ∷ Runs (Mark e) ∷ k) z) (sym al.0) (ct_loops (Source t) a (ct_while t h b e fa al i))

    pub while_end : C (Loops (WhileLoop (Source t) a) ∷ Runs (Mark e) ∷ k) (behind_while h (s e) k')
    while_end = ct_goto h refl while_again

    -- where the test holds, and where it does not
    pub while_turns : C (items a (Loops (WhileLoop (Source t) a) ∷ Runs (Mark e) ∷ k))
        (Runs (Goto b) ∷ items (Then (Goto (s e)) (Then (Mark b) (join a' (Then (Goto h) (one (Mark (s e))))))) k')
    while_turns = ct_goto b al.1.1.1.0 (ct_skip b (subst (λ z. C (items a (Loops (WhileLoop (Source t) a) ∷ Runs (Mark e) ∷ k)) z)
        (sym (items_join a' (Then (Goto h) (one (Mark (s e)))) k')) (list_goes fa while_list while_end)))

    pub while_stops : C (Runs (Mark e) ∷ k) (items (Then (Goto (s e)) (Then (Mark b) (join a' (Then (Goto h) (one (Mark (s e))))))) k')
    while_stops = ct_goto (s e) (placed_join B a' (Then (Goto h) (one (Mark (s e)))) k' al.1.1.1.1).1.1.0 (ct_mark e (ct_skip (s e) i))

  module _ (t : ExpressionTree) (b : ℕ) {a a' : Forest} {k k' : List Task} (fa : Straight A s None a a')
      (al : ArePlaced B (do_items (Source t) b a') k') (i : C k k') where
    pub do_list : ArePlaced B a' (Runs (jump_if (Source t) b) ∷ k')
    do_list = (placed_join B a' (one (jump_if (Source t) b)) k' al.1).0

    pub do_end : C (Loops (DoLoop a (Source t)) ∷ k) (Runs (jump_if (Source t) b) ∷ k')
    do_end = ct_do t b fa al i

    pub do_starts : C (items a (Loops (DoLoop a (Source t)) ∷ k)) (items (join a' (one (jump_if (Source t) b))) k')
    do_starts = subst (λ z. C (items a (Loops (DoLoop a (Source t)) ∷ k)) z) (sym (items_join a' (one (jump_if (Source t) b)) k')) (list_goes fa do_list do_end)

  module _ (h : ℕ) {a a' : Forest} {k k' : List Task} (fa : Straight A s None a a') (al : ArePlaced B (ever_items h a') k') (i : C k k') where
    abbrev pub ever : Tree
    ever = While (Source (test_or_one None)) a

    pub ever_list : ArePlaced B a' (Runs (Goto h) ∷ k')
    ever_list = (placed_join B a' (one (Goto h)) k' al.1).0

    pub ever_end : C (Loops (WhileLoop (Source (test_or_one None)) a) ∷ k) (Runs (Goto h) ∷ k')
    ever_end = ct_goto h al.0 (ct_loops (Source (test_or_one None)) a (ct_item (StraightItem.st_ever h fa) al i))

    pub ever_starts : C (items a (Loops (WhileLoop (Source (test_or_one None)) a) ∷ k)) (items (join a' (one (Goto h))) k')
    ever_starts = subst (λ z. C (items a (Loops (WhileLoop (Source (test_or_one None)) a) ∷ k)) z) (sym (items_join a' (one (Goto h)) k'))
        (list_goes fa ever_list ever_end)

  module _ (t : ExpressionTree) (l e : ℕ) {a a' b b' : Forest} {k k' : List Task} (fa : Straight A s None a a') (fb : Straight A s None b b')
      (al : ArePlaced B (if_items (Source t) l e a' b') k') (i : C k k') where
    abbrev then_items : Forest
    then_items = Then (Mark l) (join a' (one (Mark e)))

    if_placed : ArePlaced B b' (items (Then (Goto e) then_items) k') × ArePlaced B (Then (Goto e) then_items) k'
    if_placed = placed_join B b' (Then (Goto e) then_items) k' al.1

    then_placed : ArePlaced B a' (Runs (Mark e) ∷ k') × ArePlaced B (one (Mark e)) k'
    then_placed = placed_join B a' (one (Mark e)) k' if_placed.1.1.1

    pub then_list : ArePlaced B a' (Runs (Mark e) ∷ k')
    then_list = then_placed.0

    pub then_end : C k (Runs (Mark e) ∷ k')
    then_end = ct_skip e i

    pub else_list : ArePlaced B b' (items (Then (Goto e) then_items) k')
    else_list = if_placed.0

    pub else_end : C k (items (Then (Goto e) then_items) k')
    else_end = ct_goto e then_placed.1.0 then_end

    pub if_holds : C (items a k) (Runs (Goto l) ∷ items (join b' (Then (Goto e) then_items)) k')
    if_holds = ct_goto l if_placed.1.1.0 (ct_skip l (subst (λ z. C (items a k) z) (sym (items_join a' (one (Mark e)) k')) (list_goes fa then_list then_end)))

    pub if_fails : C (items b k) (items (join b' (Then (Goto e) then_items)) k')
    if_fails = subst (λ z. C (items b k) z) (sym (items_join b' (Then (Goto e) then_items) k')) (list_goes fb else_list else_end)
