-- A body on its way to a flat list becomes that list where its loops and `if`s become gotos.
use Rattle.std.proofs.Common.{ℕ, zero, suc, ◌+◌, inl, inr, ℤ, Bool, true, false, not, cond, ◌||◌, List, [], ◌∷◌, Option, Some, None, ◌≡◌, refl, sym, subst, arith}
use Rattle.std.specs.Option.{option_map_or}
use Rattle.c_types.specs.declared.kinds.IntKind.{IntKind}
use Rattle.c_tree.specs.ExpressionTrees.{ExpressionTree}
use Rattle.c_tree.specs.TestTrees.{Source, On, Off, AndOff, OrOn}
use Rattle.c_tree.specs.Cases.{case_number}
use Rattle.c_tree.specs.Everywhere.{Everywhere, EverywhereOf, EverywhereIn}
use Rattle.c_tree.specs.Exits.{breaks, breaks_of, breaks_in, continues, continues_of, continues_in}
use Rattle.c_tree.specs.Changed.{one}
use Rattle.c_tree.specs.Trees.{Tree, Forest, Nil, Then, Sections, NoSection, Section, Evaluate, Return, If, While, Do, For, Switch, Block, Local, Break, Continue, Goto, Mark, Arm, Leap, Land, Arrival, Note, join}
use Rattle.c_tree.proofs.TreeLaws.{join-join, join-nil}
use Rattle.jump_meaning.specs.Code.{entry_or}
use Rattle.jump_meaning.specs.World.{no_slot}
use Rattle.jump_meaning.specs.Step.{switch_kind}
use Rattle.flat_laws.specs.Pieces.{Aim, Stays, Becomes, Absent, mark_of, third_items, with_third, Names, is_number, test_for, tests_for, tests, tests_in, tests_among, case_marks, assigned_cells}
use Rattle.flat_laws.specs.Placed.{Has}
use Rattle.flat_laws.specs.Loose.{Setting, Arrivals, NoArrival, Arrives}
use Rattle.flat_laws.specs.Parts.{is_some_number, arrivals, arrivals_in, switch_labels, has_default, ends_some, leaves, Here}
use Rattle.flat_laws.specs.FlatForm.{names_of, scatter_aim, otherwise_label, end_goto, aim, exit, assigned, mark_if, arrival, place_in}
use Rattle.flat_laws.specs.Source.{IsSourceItem}
use Rattle.lower_laws.specs.Straight.{jump_if, while_items, StraightItem, st_evaluate, st_return, st_note, st_goto, st_mark, st_jump_if, st_if, st_do, st_ever, Straight, sl_nil, sl_end, sl_then, sl_declares, sl_while}
use Rattle.lower_laws.specs.Lowered.{Layout, past, past_item, inside, jump_of, lowered_if, lowered_do, lowered_for, break_aim, for_aim, continue_aim, lowered, lowered_item, lowered_among, placed}
use Rattle.lower_laws.specs.Opened.{opened_if, opened_while, opened_do, opened_for, opened, opened_item, opened_among, Naming}
use Rattle.flat_laws.proofs.LooserItems.{false_true, Allowed, allowed_left, allowed_right}

pub naming_left : (l : ℕ) (xs ys : Forest) → Naming l xs → Naming l (join xs ys)
naming_left l Nil ys n = absurd n
naming_left l (Then x xs) ys (inl n) = inl n
naming_left l (Then x xs) ys (inr n) = inr (naming_left l xs ys n)

pub naming_right : (l : ℕ) (xs ys : Forest) → Naming l ys → Naming l (join xs ys)
naming_right l Nil ys n = n
naming_right l (Then x xs) ys n = inr (naming_right l xs ys n)

-- an exit that stays, or whose label isn't there, is none
abbrev pub Bound : Aim → ℕ → Type 0
Bound (Becomes l) n = Unit {0}
Bound b n = n ≡ 0

bound_left : (b : Aim) (m n : ℕ) → Bound b (m + n) → Bound b m
bound_left Stays m n h = omega (arith, h)
bound_left (Becomes l) m n h = tt
bound_left Absent m n h = omega (arith, h)

bound_right : (b : Aim) (m n : ℕ) → Bound b (m + n) → Bound b n
bound_right Stays m n h = omega (arith, h)
bound_right (Becomes l) m n h = tt
bound_right Absent m n h = omega (arith, h)

bound_aim : (n l : ℕ) → Bound (aim true n l) n
bound_aim zero l = refl
bound_aim (suc n) l = tt

bound_scatter : (x y : Bool) (n l : ℕ) → Bound (cond (x || y || is_some_number n) (Becomes l) Absent) n
bound_scatter true y n l = tt
bound_scatter false true n l = tt
bound_scatter false false zero l = refl
bound_scatter false false (suc n) l = tt

module _ (A : Forest) (ls : List ℕ) where
  abbrev pub s : ℕ → ℕ
  s = place_in ls

  -- what an exit becomes, under the new numbers
  abbrev pub to : Aim → Aim
  to Stays = Stays
  to (Becomes l) = Becomes (s l)
  to Absent = Absent

  abbrev pub S : Option ℕ → Forest → Forest → Type 0
  S o xs ys = Straight A s o xs ys

  -- the labels that gotos of a list name stand in the body
  abbrev pub Stand : Forest → Type 0
  Stand xs = (l : ℕ) → Naming l xs → Has l A

  stand_left : (xs ys : Forest) → Stand (join xs ys) → Stand xs
  stand_left xs ys n = λ l m. n l (naming_left l xs ys m)

  stand_right : (xs ys : Forest) → Stand (join xs ys) → Stand ys
  stand_right xs ys n = λ l m. n l (naming_right l xs ys m)

  -- the labels of Arrivals
  abbrev pub Renamed : Names → Names → Type 0
  Renamed m n = (e : Option ExpressionTree) → n e ≡ s (m e)

  pub data SameArrivals : Arrivals → Arrivals → Type 0 where
    sa_none : SameArrivals NoArrival NoArrival
    sa_some : {m n : Names} → Renamed m n → SameArrivals (Arrives m) (Arrives n)

  -- ---- lists

  unit : {x : Tree} {ys : Forest} → StraightItem A s x ys → S None (one x) ys
  unit {x = x} {ys = ys} fi = subst (λ z. S None (one x) z) (join-nil ys) (sl_then fi sl_nil)

  joined : {o : Option ℕ} {xs xs' ys ys' : Forest} → S None xs xs' → S o ys ys' → S o (join xs ys) (join xs' ys')
  joined sl_nil g = g
  joined (sl_declares x f) g = sl_declares x (joined f g)
  joined {o = o} {ys = ys} {ys' = ys'} (sl_then {x = x} {ys = zs} {xs = xs} {xs' = xs'} fi f) g =
      subst (λ z. S o (Then x (join xs ys)) z) (sym (join-join zs xs' ys')) (sl_then fi (joined f g))
  joined {o = o} {ys = ys} {ys' = ys'} (sl_while t h b e {a = a} {a' = a'} {xs = xs} {xs' = xs'} fa f) g =
      subst (λ z. S o (Then (While (Source t) a) (Then (Mark e) (join xs ys))) z) (sym (join-join (while_items (Source t) h b (s e) a') xs' ys'))
      (sl_while t h b e fa (joined f g))

  any_end : {o : Option ℕ} {xs xs' : Forest} → S None xs xs' → S o xs xs'
  any_end {o = o} {xs = xs} {xs' = xs'} f = subst (λ z. S o z xs') (join-nil xs) (subst (λ z. S o (join xs Nil) z) (join-nil xs') (joined f sl_nil))

  marked : (b : Aim) → S None (mark_of b) (mark_of (to b))
  marked Stays = sl_nil
  marked (Becomes l) = unit (st_mark l)
  marked Absent = sl_nil

  thirds : (u : Option ExpressionTree) → S None (third_items u) (third_items u)
  thirds None = sl_nil
  thirds (Some e) = unit (st_evaluate e)

  with_thirds : (u : Option ExpressionTree) (c : Aim) {a a' : Forest} → S None a a' → S None (with_third a c u) (with_third a' (to c) u)
  with_thirds u c f = joined f (joined (marked c) (thirds u))

  -- ---- assignments

  cells : (k : IntKind) (x i : ℕ) (es : List ExpressionTree) (m : ℕ) → S None (assigned_cells k x i es m) (assigned_cells k x i es m)
  cells k x i (e ∷ es) m = sl_then (st_evaluate _) (cells k x (suc i) es m)
  cells k x i [] zero = sl_nil
  cells k x i [] (suc m) = sl_then (st_evaluate _) (cells k x (suc i) [] m)

  assigns : (k : IntKind) (x : ℕ) (o : Option ℕ) (es : List ExpressionTree) → S None (assigned k x o es) (assigned k x o es)
  assigns k x None (e ∷ es) = unit (st_evaluate _)
  assigns k x None [] = sl_nil
  assigns k x (Some n) es = cells k x 0 es _

  -- ---- tests and labels of a switch

  module _ (number : IntKind → ℤ → ExpressionTree) (k : IntKind) (v : ℕ) (m n : Names) (re : Renamed m n) where
    jump_for : (e : ExpressionTree) (o : Option ℤ) → Stand
        (option_map_or (λ z. one (If (Source (is_number k v (number k z))) (one (Goto (m (Some e)))) Nil)) o Nil)
        → S None (option_map_or (λ z. one (If (Source (is_number k v (number k z))) (one (Goto (m (Some e)))) Nil)) o Nil)
        (option_map_or (λ z. one (If (Source (is_number k v (number k z))) (one (Goto (n (Some e)))) Nil)) o Nil)
    jump_for e None h = sl_nil
    jump_for e (Some z) h =
        let t = is_number k v (number k z) in
        subst (λ y. S None (one (jump_if (Source t) (m (Some e)))) (one (jump_if (Source t) y))) (sym (re (Some e)))
        (unit (st_jump_if t (m (Some e)) (h (m (Some e)) (inl (inl (inl refl))))))

    tests_case : (e : ExpressionTree) → Stand (test_for number k v m e) → S None (test_for number k v m e) (test_for number k v n e)
    tests_case e h = jump_for e (case_number k e) h

    tests_cases : (es : List ExpressionTree) → Stand (tests_for number k v m es) → S None (tests_for number k v m es) (tests_for number k v n es)
    tests_cases [] h = sl_nil
    tests_cases (e ∷ es) h =
        let x = test_for number k v m e in let y = tests_for number k v m es in joined (tests_case e (stand_left x y h)) (tests_cases es (stand_right x y h))

    mutual
      tested : (a : Forest) → Stand (tests number k v m a) → S None (tests number k v m a) (tests number k v n a)
      tested Nil h = sl_nil
      tested (Then x a) h =
          let y = tests_in number k v m x in let z = tests number k v m a in joined (tested_in x (stand_left y z h)) (tested a (stand_right y z h))

      tested_in : (x : Tree) → Stand (tests_in number k v m x) → S None (tests_in number k v m x) (tests_in number k v n x)
      tested_in (If t a b) h = let y = tests number k v m a in let z = tests number k v m b in
          joined (tested a (stand_left y z h)) (tested b (stand_right y z h))
      tested_in (While t a) h = tested a h
      tested_in (Do a t) h = tested a h
      tested_in (For f t u a) h = tested a h
      tested_in (Block a) h = tested a h
      tested_in (Arrival (Some e)) h = tests_case e h
      tested_in (Arrival None) h = sl_nil
      tested_in _ h = sl_nil

    tested_among : (d : Sections) → Stand (tests_among number k v m d) → S None (tests_among number k v m d) (tests_among number k v n d)
    tested_among NoSection h = sl_nil
    tested_among (Section cases default a ends d) h =
        let x = tests_for number k v m cases in let y = tests number k v m a in let z = tests_among number k v m d in
        joined (tests_cases cases (stand_left x (join y z) h))
        (joined (tested a (stand_left y z (stand_right x (join y z) h))) (tested_among d (stand_right y z (stand_right x (join y z) h))))

  arrived : (m n : Names) → Renamed m n → (e : Option ExpressionTree) → S None (one (Mark (m e))) (one (Mark (n e)))
  arrived m n re e = subst (λ z. S None (one (Mark (m e))) (one (Mark z))) (sym (re e)) (unit (st_mark (m e)))

  cases_marked : (m n : Names) → Renamed m n → (cases : List ExpressionTree) (default : Bool) → S None (case_marks m cases default) (case_marks n cases default)
  cases_marked m n re [] true = arrived m n re None
  cases_marked m n re [] false = sl_nil
  cases_marked m n re (e ∷ es) default = joined (arrived m n re (Some e)) (cases_marked m n re es default)

  ended : (ends : Bool) (b : Aim) → Stand (end_goto ends b) → S None (end_goto ends b) (end_goto ends (to b))
  ended true (Becomes l) h = unit (st_goto l (h l (inl refl)))
  ended true _ h = sl_nil
  ended false Stays h = sl_nil
  ended false (Becomes l) h = sl_nil
  ended false Absent h = sl_nil

  -- ---- the derivation

  module _ (p : Layout) (st : Setting) where
    abbrev pub q : Layout
    q = placed ls p

    abbrev pub Fine : Tree → Type 0
    Fine x = IsSourceItem st p.plan.live x

    aim_to : (n l : ℕ) → to (aim true n l) ≡ aim true n (s l)
    aim_to zero l = refl
    aim_to (suc n) l = refl

    scatter_to : (y : Bool) (l : ℕ) → to (cond y (Becomes l) Absent) ≡ cond y (Becomes (s l)) Absent
    scatter_to true l = refl
    scatter_to false l = refl

    for_to : (h : Here) (t : Option ExpressionTree) (a : Forest) → to (for_aim p h t a) ≡ for_aim q h t a
    for_to h (Some t) a = refl
    for_to h None a = aim_to (breaks a) (p.plan.break_label h.construct)

    bound_for : (h : Here) (t : Option ExpressionTree) (a : Forest) → Bound (for_aim p h t a) (breaks a)
    bound_for h (Some t) a = tt
    bound_for h None a = bound_aim (breaks a) (p.plan.break_label h.construct)

    either : (y : Bool) (m n : ℕ) → s (cond y m n) ≡ cond y (s m) (s n)
    either true m n = refl
    either false m n = refl

    renamed : (h : Here) (k : IntKind) (d : Sections) → Renamed (names_of p.plan h k d) (names_of q.plan h k d)
    renamed h k d None = refl
    renamed h k d (Some e) = refl

    exited : (b : Aim) (x : Tree) → Bound b 1 → Stand (exit b x) → S None (exit b x) (exit (to b) x)
    exited (Becomes l) x k h = unit (st_goto l (h l (inl refl)))
    exited _ x k h = absurd (omega (arith, k))

    mark_item : (y : Bool) (l : ℕ) → S None (mark_if y l) (mark_if y (s l))
    mark_item true l = unit (st_mark l)
    mark_item false l = sl_nil

    arrival_item : {r r' : Arrivals} (e : Option ExpressionTree) → SameArrivals r r' → Allowed r (e ∷ []) → S None (arrival r e) (arrival r' e)
    arrival_item e sa_none i = false_true i
    arrival_item e (sa_some {m = m} {n = n} re) i = arrived m n re e

    if_item : (h : Here) (t : ExpressionTree) (o : Option ℕ) {x x' y y' : Forest} → Stand (one (opened_if p (Source t) o x y)) →
        (Stand x → S None x x') → (Stand y → S None y y') → S None (one (opened_if p (Source t) o x y)) (lowered_if q h (Source t) o x' y')
    if_item h t (Some l) n f g = unit (st_jump_if t (p.plan.source l) (n (p.plan.source l) (inl (inl (inl refl)))))
    if_item h t None n f g = unit (st_if t (q.list_label h.construct) (q.plan.break_label h.construct) (f (λ l m. n l (inl (inl m))))
        (g (λ l m. n l (inl (inr m)))))

    while_item : (h : Here) (t : ExpressionTree) {a a' : Forest} → S None a a' →
        S None (opened_while p h (Source t) a) (while_items (Source t) (q.head_label h.construct) (q.list_label h.construct)
        (q.plan.break_label h.construct) a')
    while_item h t {a = a} {a' = a'} f =
        subst (λ z. S None (opened_while p h (Source t) a) z)
        (join-nil (while_items (Source t) (q.head_label h.construct) (q.list_label h.construct) (q.plan.break_label h.construct) a'))
        (sl_while t (q.head_label h.construct) (q.list_label h.construct) (p.plan.break_label h.construct)
        (subst (λ z. S (Some (q.head_label h.construct)) (join a (one (Mark (p.head_label h.construct)))) z) (join-nil a')
        (joined f (sl_end (p.head_label h.construct)))) sl_nil)

    do_item : (h : Here) (t : ExpressionTree) (b c : Aim) {a a' : Forest} → S None a a' →
        S None (opened_do (Source t) a b c) (lowered_do q h (Source t) a' (to b) (to c))
    do_item h t b c f = sl_then (st_do t (q.list_label h.construct) (joined f (marked c))) (marked b)

    for_item : (h : Here) (t u : Option ExpressionTree) (c : Aim) (y : Forest) {a a' : Forest} → S None a a' →
        S None (opened_for t u a (for_aim p h t y) c) (lowered_for q h t u a' (to (for_aim p h t y)) (to c))
    for_item h None u c y f = sl_then (st_ever (q.head_label h.construct) (with_thirds u c f)) (marked (for_aim p h None y))
    for_item h (Some t) u c y {a = a} {a' = a'} f =
        subst (λ z. S None (opened_for (Some t) u a (for_aim p h (Some t) y) c) z)
        (join-nil (while_items (Source t) (q.head_label h.construct) (q.list_label h.construct) (q.plan.break_label h.construct) (with_third a' (to c) u)))
        (sl_while t (q.head_label h.construct) (q.list_label h.construct) (p.plan.break_label h.construct) (any_end (with_thirds u c f)) sl_nil)

    mutual
      pub flattened : (xs : Forest) (h : Here) (b c b' c' : Aim) (r r' : Arrivals) → to b ≡ b' → to c ≡ c' → SameArrivals r r' → Everywhere Fine xs →
          Allowed r (arrivals xs) → Bound b (breaks xs) → Bound c (continues xs) → Stand (opened p h b c r xs)
          → S None (opened p h b c r xs) (lowered q h b' c' r' xs)
      flattened Nil h b c b' c' r r' eb ec er i a kb kc n = sl_nil
      flattened (Then x xs) h b c b' c' r r' eb ec er i a kb kc n =
          let y = opened_item p h b c r x in
          let z = opened p (past_item x h) b c r xs in
          joined (flattened_item x h b c b' c' r r' eb ec er i.0 (allowed_left r (arrivals_in x) (arrivals xs) a)
          (bound_left b (breaks_of x) (breaks xs) kb) (bound_left c (continues_of x) (continues xs) kc) (stand_left y z n))
          (flattened xs (past_item x h) b c b' c' r r' eb ec er i.1 (allowed_right r (arrivals_in x) (arrivals xs) a)
          (bound_right b (breaks_of x) (breaks xs) kb) (bound_right c (continues_of x) (continues xs) kc) (stand_right y z n))

      flattened_item : (x : Tree) (h : Here) (b c b' c' : Aim) (r r' : Arrivals) → to b ≡ b' → to c ≡ c' → SameArrivals r r' → EverywhereOf Fine x →
          Allowed r (arrivals_in x) → Bound b (breaks_of x) → Bound c (continues_of x) → Stand (opened_item p h b c r x)
          → S None (opened_item p h b c r x) (lowered_item q h b' c' r' x)
      flattened_item (Evaluate e) h b c b' c' r r' eb ec er i a kb kc n = unit (st_evaluate e)
      flattened_item (Return e) h b c b' c' r r' eb ec er i a kb kc n = unit (st_return e)
      flattened_item (Note bs) h b c b' c' r r' eb ec er i a kb kc n = unit (st_note bs)
      flattened_item (If (Source t) x y) h b c b' c' r r' eb ec er i a kb kc n =
          let h' = inside (If (Source t) x y) h in
          if_item h t (jump_of p.plan.live x y) n
          (λ m. flattened x h' b c b' c' r r' eb ec er i.1 (allowed_left r (arrivals x) (arrivals y) a) (bound_left b (breaks x) (breaks y) kb)
          (bound_left c (continues x) (continues y) kc) m)
          (λ m. flattened y (past x h') b c b' c' r r' eb ec er i.2 (allowed_right r (arrivals x) (arrivals y) a)
          (bound_right b (breaks x) (breaks y) kb) (bound_right c (continues x) (continues y) kc) m)
      flattened_item (If (On l) x y) h b c b' c' r r' eb ec er i a kb kc n = absurd i.0
      flattened_item (If (Off l) x y) h b c b' c' r r' eb ec er i a kb kc n = absurd i.0
      flattened_item (If (AndOff l t) x y) h b c b' c' r r' eb ec er i a kb kc n = absurd i.0
      flattened_item (If (OrOn l t) x y) h b c b' c' r r' eb ec er i a kb kc n = absurd i.0
      flattened_item (While (Source t) x) h b c b' c' r r' eb ec er i a kb kc n =
          let h' = inside (While (Source t) x) h in
          let e = p.plan.break_label h.construct in
          let g = p.head_label h.construct in
          while_item h t (flattened x h' (Becomes e) (Becomes g) (Becomes (s e)) (Becomes (s g)) r r' refl refl er i.1 a tt tt
          (λ l m. n l (inl (naming_left l (opened p h' (Becomes e) (Becomes g) r x) (one (Mark g)) m))))
      flattened_item (While (On l) x) h b c b' c' r r' eb ec er i a kb kc n = absurd i.0
      flattened_item (While (Off l) x) h b c b' c' r r' eb ec er i a kb kc n = absurd i.0
      flattened_item (While (AndOff l t) x) h b c b' c' r r' eb ec er i a kb kc n = absurd i.0
      flattened_item (While (OrOn l t) x) h b c b' c' r r' eb ec er i a kb kc n = absurd i.0
      flattened_item (Do x (Source t)) h b c b' c' r r' eb ec er i a kb kc n =
          let h' = inside (Do x (Source t)) h in
          let b1 = break_aim p h x in
          let c1 = continue_aim p h x in
          let e1 = aim_to (breaks x) (p.plan.break_label h.construct) in
          let e2 = aim_to (continues x) (p.plan.continue_label h.construct) in
          subst (λ z. S None (opened_do (Source t) (opened p h' b1 c1 r x) b1 c1)
          (lowered_do q h (Source t) (lowered q h' (break_aim q h x) (continue_aim q h x) r' x) z (continue_aim q h x))) e1
          (subst (λ z. S None (opened_do (Source t) (opened p h' b1 c1 r x) b1 c1)
          (lowered_do q h (Source t) (lowered q h' (break_aim q h x) (continue_aim q h x) r' x) (to b1) z)) e2
          (do_item h t b1 c1
          (flattened x h' b1 c1 (break_aim q h x) (continue_aim q h x) r r' e1 e2 er i.1 a (bound_aim (breaks x) (p.plan.break_label h.construct))
          (bound_aim (continues x) (p.plan.continue_label h.construct))
          (λ l m. n l (inl (naming_left l (opened p h' b1 c1 r x) (mark_of c1) m))))))
      flattened_item (Do x (On l)) h b c b' c' r r' eb ec er i a kb kc n = absurd i.0
      flattened_item (Do x (Off l)) h b c b' c' r r' eb ec er i a kb kc n = absurd i.0
      flattened_item (Do x (AndOff l t)) h b c b' c' r r' eb ec er i a kb kc n = absurd i.0
      flattened_item (Do x (OrOn l t)) h b c b' c' r r' eb ec er i a kb kc n = absurd i.0
      flattened_item (For f t u x) h b c b' c' r r' eb ec er i a kb kc n =
          let h' = inside (For f t u x) h in
          let b1 = for_aim p h t x in
          let c1 = continue_aim p h x in
          let e1 = for_to h t x in
          let e2 = aim_to (continues x) (p.plan.continue_label h.construct) in
          let first = opened p h' b c NoArrival f in
          let list = opened p (past f h') b1 c1 r x in
          joined (flattened f h' b c b' c' NoArrival NoArrival eb ec sa_none i.1 i.0.2 kb kc (stand_left first (opened_for t u list b1 c1) n))
          (subst (λ z. S None (opened_for t u list b1 c1) (lowered_for q h t u (lowered q (past f h') (for_aim q h t x) (continue_aim q h x) r' x) z
          (continue_aim q h x))) e1
          (subst (λ z. S None (opened_for t u list b1 c1) (lowered_for q h t u (lowered q (past f h') (for_aim q h t x) (continue_aim q h x) r' x)
          (to b1) z)) e2
          (for_item h t u c1 x
          (flattened x (past f h') b1 c1 (for_aim q h t x) (continue_aim q h x) r r' e1 e2 er i.2 a (bound_for h t x)
          (bound_aim (continues x) (p.plan.continue_label h.construct))
          (λ l m. stand_right first (opened_for t u list b1 c1) n l (inl (naming_left l list (join (mark_of c1) (third_items u)) m)))))))
      flattened_item (Block x) h b c b' c' r r' eb ec er i a kb kc n = flattened x h b c b' c' r r' eb ec er i.1 a kb kc n
      flattened_item (Local x None) h b c b' c' r r' eb ec er i a kb kc n = sl_nil
      flattened_item (Local x (Some es)) h b c b' c' r r' eb ec er i a kb kc n =
          assigns (entry_or no_slot p.plan.slots x).kind x (entry_or no_slot p.plan.slots x).cells es
      flattened_item Break h b c b' c' r r' eb ec er i a kb kc n = subst (λ z. S None (exit b Break) (exit z Break)) eb (exited b Break kb n)
      flattened_item Continue h b c b' c' r r' eb ec er i a kb kc n = subst (λ z. S None (exit c Continue) (exit z Continue)) ec (exited c Continue kc n)
      flattened_item (Goto l) h b c b' c' r r' eb ec er i a kb kc n = unit (st_goto (p.plan.source l) (n (p.plan.source l) (inl refl)))
      flattened_item (Mark l) h b c b' c' r r' eb ec er i a kb kc n = mark_item (p.plan.live l) (p.plan.source l)
      flattened_item (Arrival e) h b c b' c' r r' eb ec er i a kb kc n = arrival_item e er a
      flattened_item (Arm l e) h b c b' c' r r' eb ec er i a kb kc n = absurd i
      flattened_item (Leap l) h b c b' c' r r' eb ec er i a kb kc n = absurd i
      flattened_item (Land l) h b c b' c' r r' eb ec er i a kb kc n = absurd i
      flattened_item (Switch t d) h b c b' c' r r' eb ec er i a kb kc n =
          let h' = inside (Switch t d) h in
          let k = switch_kind t in
          let m = names_of p.plan h k d in
          let m' = names_of q.plan h k d in
          let b1 = scatter_aim p.plan h d in
          let ts = tests_among p.plan.number k h.variable m d in
          let ys = opened_among p h' b1 c m d in
          let ys' = lowered_among q h' (scatter_aim q.plan h d) c' m' d in
          let o = otherwise_label p.plan h d in
          let rest : Stand (Then (Goto o) ys) = λ l z. n l (inr (naming_right l ts (Then (Goto o) ys) z)) in
          sl_then (st_evaluate _)
          (joined (tested_among p.plan.number k h.variable m m' (renamed h k d) d (λ l z. n l (inr (naming_left l ts (Then (Goto o) ys) z))))
          (subst (λ z. S None (Then (Goto o) ys) (Then (Goto z) ys'))
          (either (has_default (switch_labels d)) (p.plan.default_label h.construct) (p.plan.break_label h.construct))
          (sl_then (st_goto o (rest o (inl refl)))
          (flattened_among d h' b1 c (scatter_aim q.plan h d) c' m m' (scatter_to (leaves d) (p.plan.break_label h.construct)) ec (renamed h k d) i.1
          (bound_scatter (not (has_default (switch_labels d))) (ends_some d) (breaks_in d) (p.plan.break_label h.construct)) kc (λ l z. rest l (inr z))))))

      flattened_among : (d : Sections) (h : Here) (b c b' c' : Aim) (m m' : Names) → to b ≡ b' → to c ≡ c' → Renamed m m' → EverywhereIn Fine d →
          Bound b (breaks_in d) → Bound c (continues_in d) → Stand (opened_among p h b c m d)
          → S None (opened_among p h b c m d) (lowered_among q h b' c' m' d)
      flattened_among NoSection h b c b' c' m m' eb ec re i kb kc n = subst (λ z. S None (mark_of b) (mark_of z)) eb (marked b)
      flattened_among (Section cases default x ends d) h b c b' c' m m' eb ec re i kb kc n =
          let cs = case_marks m cases default in
          let xs = opened p h b c (Arrives m) x in
          let es = end_goto ends b in
          let ds = opened_among p (past x h) b c m d in
          let n1 = stand_right cs (join xs (join es ds)) n in
          let n2 = stand_right xs (join es ds) n1 in
          joined (cases_marked m m' re cases default)
          (joined (flattened x h b c b' c' (Arrives m) (Arrives m') eb ec (sa_some re) i.0 tt (bound_left b (breaks x) (breaks_in d) kb)
          (bound_left c (continues x) (continues_in d) kc) (stand_left xs (join es ds) n1))
          (joined (subst (λ z. S None es (end_goto ends z)) eb (ended ends b (stand_left es ds n2)))
          (flattened_among d (past x h) b c b' c' m m' eb ec re i.1 (bound_right b (breaks x) (breaks_in d) kb)
          (bound_right c (continues x) (continues_in d) kc) (stand_right es ds n2))))
