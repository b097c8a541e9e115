-- The flat list of a body has facts of its expressions, where the body has them and the made expressions have them.
use Rattle.std.proofs.Common.{ℕ, ◌+◌, ◌<◌, ◌≤◌, arith, ℤ, Bool, true, false, List, [], ◌∷◌, length, Option, Some, None, option_map}
use Rattle.std.specs.Prelude.{IfSome}
use Rattle.std.specs.Option.{option_map_or}
use Rattle.c_types.specs.declared.kinds.IntKind.{IntKind}
use Rattle.c_types.specs.Numbers.{converted}
use Rattle.c_tree.specs.Constants.{constant_value}
use Rattle.c_tree.specs.Cases.{selector_source}
use Rattle.c_tree.specs.ExpressionTrees.{ExpressionTree}
use Rattle.c_tree.specs.TestTrees.{TestTree, Source, SelectorTree}
use Rattle.c_tree.specs.Trees.{Tree, Forest, Nil, Then, Sections, NoSection, Section, Evaluate, Return, If, While, Do, For, Switch, Block, Local, Break, Continue, Goto, Mark, Arm, Arrival, Note, join}
use Rattle.c_tree.specs.Changed.{one}
use Rattle.c_tree.specs.Everywhere.{total, total_of, total_in, Everywhere, EverywhereOf, EverywhereIn}
use Rattle.c_tree.proofs.KeptLemmas.{everywhere_join}
use Rattle.c_resolved_defs.specs.Within.{TestExpression}
use Rattle.jump_meaning.specs.Step.{switch_kind}
use Rattle.flat_laws.specs.Pieces.{Aim, Stays, Becomes, Absent, mark_of, third_items, with_third, assign_number, Names, is_number, test_for, tests_for, tests, tests_in, tests_among, case_marks}
use Rattle.flat_laws.specs.Loose.{Setting, Arrivals, NoArrival, Arrives}
use Rattle.flat_laws.specs.Parts.{Here}
use Rattle.flat_laws.specs.FlatForm.{names_of, scatter_aim, otherwise_label, end_goto, exit, initialised, mark_if, arrival, dissolved}
use Rattle.flat_laws.specs.Source.{IsVariable}
use Rattle.lower_laws.specs.Straight.{jump_if, if_items, while_items, do_items, ever_items}
use Rattle.lower_laws.specs.Lowered.{Layout, variables_of, past, past_item, inside, jump_of, lowered_if, lowered_do, lowered_for, break_aim, for_aim, continue_aim, lowered, lowered_item, lowered_among}
use Rattle.lower_laws.specs.Source.{HaveVariables, HasVariables, HaveVariablesAmong}
use Rattle.c_resolved_laws.specs.Laws.{IsUndeclaring}
use Rattle.whole_laws.proofs.Facts.{ItemHas}

module _ (V O C : ExpressionTree → Type 0) (R : Option ExpressionTree → Type 0) (N : List ℕ → Type 0) where
  -- the facts of an item, which declares nothing
  abbrev pub H : Tree → Type 0
  H x = ItemHas V O C R N x × IsUndeclaring x

  abbrev pub AreH : Forest → Type 0
  AreH a = Everywhere H a

  -- ---- pieces

  abbrev nothing : Unit {0} × Unit {0}
  nothing = (tt, tt)

  marks_have : (b : Aim) → AreH (mark_of b)
  marks_have Stays = tt
  marks_have (Becomes l) = (nothing, tt)
  marks_have Absent = tt

  exit_has : (b : Aim) (x : Tree) → EverywhereOf H x → AreH (exit b x)
  exit_has Stays x h = (h, tt)
  exit_has (Becomes l) x h = (nothing, tt)
  exit_has Absent x h = (h, tt)

  end_has : (e : Bool) (b : Aim) → AreH (end_goto e b)
  end_has true Stays = tt
  end_has true (Becomes l) = (nothing, tt)
  end_has true Absent = tt
  end_has false b = tt

  case_marks_have : (names : Names) (es : List ExpressionTree) (default : Bool) → AreH (case_marks names es default)
  case_marks_have names [] true = (nothing, tt)
  case_marks_have names [] false = tt
  case_marks_have names (e ∷ es) default = (nothing, case_marks_have names es default)

  arrival_has : (r : Arrivals) (e : Option ExpressionTree) → AreH (arrival r e)
  arrival_has NoArrival e = (nothing, tt)
  arrival_has (Arrives names) e = (nothing, tt)

  third_has : (u : Option ExpressionTree) → IfSome u O → AreH (third_items u)
  third_has None h = tt
  third_has (Some e) h = ((h, tt), tt)

  flag_has : (b : Bool) (l : ℕ) → AreH (mark_if b l)
  flag_has true l = (nothing, tt)
  flag_has false l = tt

  goto_has : (t : TestTree) (l : ℕ) → TestExpression V t → EverywhereOf H (jump_if t l)
  goto_has t l h = ((h, tt), (nothing, tt), tt)

  -- what is known of a constant test `v == c`
  abbrev pub Tests : (IntKind → ℤ → ExpressionTree) → IntKind → ℕ → Type 0
  Tests number k v = (z : ℤ) → V (is_number k v (number k (converted k z)))

  module _ (number : IntKind → ℤ → ExpressionTree) (k : IntKind) (v : ℕ) (names : Names) (holds : Tests number k v) where
    test_for_has : (x : ExpressionTree) → AreH (test_for number k v names x)
    test_for_has x = at (constant_value x)
      where
        at : (o : Option ℤ) → AreH (option_map_or (λ n. one (If (Source (is_number k v (number k n))) (one (Goto (names (Some x)))) Nil))
            (option_map (converted k) o) Nil)
        at None = tt
        at (Some z) = (((holds z, tt), (nothing, tt), tt), tt)

    tests_for_have : (es : List ExpressionTree) → AreH (tests_for number k v names es)
    tests_for_have [] = tt
    tests_for_have (x ∷ es) = everywhere_join H (test_for number k v names x) (tests_for number k v names es) (test_for_has x) (tests_for_have es)

    mutual
      tests_have : (a : Forest) → AreH (tests number k v names a)
      tests_have Nil = tt
      tests_have (Then x a) = everywhere_join H (tests_in number k v names x) (tests number k v names a) (tests_in_have x) (tests_have a)

      tests_in_have : (x : Tree) → AreH (tests_in number k v names x)
      tests_in_have (If t a b) = everywhere_join H (tests number k v names a) (tests number k v names b) (tests_have a) (tests_have b)
      tests_in_have (While t a) = tests_have a
      tests_in_have (Do a t) = tests_have a
      tests_in_have (For f t u a) = tests_have a
      tests_in_have (Block a) = tests_have a
      tests_in_have (Arrival None) = tt
      tests_in_have (Arrival (Some x)) = test_for_has x
      tests_in_have _ = tt

    tests_among_have : (d : Sections) → AreH (tests_among number k v names d)
    tests_among_have NoSection = tt
    tests_among_have (Section cases default a ends d) =
        everywhere_join H (tests_for number k v names cases) (join (tests number k v names a) (tests_among number k v names d)) (tests_for_have cases)
        (everywhere_join H (tests number k v names a) (tests_among number k v names d) (tests_have a) (tests_among_have d))

  -- ---- the items of `if`s and loops

  if_have : (t : TestTree) (l e : ℕ) (a b : Forest) → TestExpression V t → AreH a → AreH b → AreH (if_items t l e a b)
  if_have t l e a b h i j = (
    goto_has t l h,
    everywhere_join H b (Then (Goto e) (Then (Mark l) (join a (one (Mark e))))) j
        (nothing, (nothing, everywhere_join H a (one (Mark e)) i (nothing, tt))),
  )

  while_have : (t : TestTree) (l b e : ℕ) (a : Forest) → TestExpression V t → AreH a → AreH (while_items t l b e a)
  while_have t l b e a h i = (nothing, (goto_has t b h, (nothing, (nothing, everywhere_join H a (Then (Goto l) (one (Mark e))) i (nothing, (nothing, tt))))))

  do_have : (t : TestTree) (b : ℕ) (a : Forest) → TestExpression V t → AreH a → AreH (do_items t b a)
  do_have t b a h i = (nothing, everywhere_join H a (one (jump_if t b)) i (goto_has t b h, tt))

  ever_have : (l : ℕ) (a : Forest) → AreH a → AreH (ever_items l a)
  ever_have l a i = (nothing, everywhere_join H a (one (Goto l)) i (nothing, tt))

  if_has : (p : Layout) (h : Here) (t : TestTree) (o : Option ℕ) (a b : Forest) → TestExpression V t → AreH a → AreH b → AreH (lowered_if p h t o a b)
  if_has p h t (Some l) a b v i j = (goto_has t (p.plan.source l) v, tt)
  if_has p h t None a b v i j = if_have t (p.list_label h.construct) (p.plan.break_label h.construct) a b v i j

  with_third_has : (a : Forest) (c : Aim) (u : Option ExpressionTree) → AreH a → IfSome u O → AreH (with_third a c u)
  with_third_has a c u i j = everywhere_join H a (join (mark_of c) (third_items u)) i
      (everywhere_join H (mark_of c) (third_items u) (marks_have c) (third_has u j))

  do_has : (p : Layout) (h : Here) (t : TestTree) (a : Forest) (b c : Aim) → TestExpression V t → AreH a → AreH (lowered_do p h t a b c)
  do_has p h t a b c v i =
      everywhere_join H (do_items t (p.list_label h.construct) (join a (mark_of c))) (mark_of b)
      (do_have t (p.list_label h.construct) (join a (mark_of c)) v (everywhere_join H a (mark_of c) i (marks_have c))) (marks_have b)

  for_has : (p : Layout) (h : Here) (t u : Option ExpressionTree) (a : Forest) (b c : Aim) → IfSome t V → IfSome u O → AreH a → AreH (lowered_for p h t u a b c)
  for_has p h (Some t) u a b c v j i = while_have (Source t) (p.head_label h.construct) (p.list_label h.construct) (p.plan.break_label h.construct)
      (with_third a c u) v (with_third_has a c u i j)
  for_has p h None u a b c v j i =
      everywhere_join H (ever_items (p.head_label h.construct) (with_third a c u)) (mark_of b)
      (ever_have (p.head_label h.construct) (with_third a c u) (with_third_has a c u i j)) (marks_have b)

  -- ---- along the body

  module _ (s : Setting) (p : Layout) where
    -- what a declaration with initialisers becomes has the facts, and of a switch `v = e` and `v == c`
    abbrev pub Becomes_so : Tree → Type 0
    Becomes_so (Local x (Some es)) = AreH (initialised p.plan x es)
    Becomes_so (Switch t d) = (v : ℕ) → IsVariable s v (switch_kind t) → v < length s.new →
        O (assign_number (switch_kind t) v (selector_source t)) × Tests p.plan.number (switch_kind t) v
    Becomes_so _ = Unit {0}

    abbrev pub F : Tree → Type 0
    F x = ItemHas V O C R N x × Becomes_so x

    dissolved_has : (h : Here) (t : SelectorTree) (d : Sections) (ys : Forest) → Becomes_so (Switch t d) → IsVariable s h.variable (switch_kind t) →
        h.variable < length s.new → AreH ys → AreH (dissolved p.plan h t d ys)
    dissolved_has h t d ys o w b y =
        let k = switch_kind t in
        let names = names_of p.plan h k d in
        let f = o h.variable w b in (
          (f.0, tt),
          everywhere_join H (tests_among p.plan.number k h.variable names d) (Then (Goto (otherwise_label p.plan h d)) ys)
              (tests_among_have p.plan.number k h.variable names f.1 d) (nothing, y),
        )

    abbrev Most : ℕ
    Most = length s.new

    mutual
      pub lowered_has : (h : Here) (b e : Aim) (r : Arrivals) (a : Forest) → Everywhere F a → HaveVariables s h a →
          h.variable + total variables_of a ≤ Most → AreH (lowered p h b e r a)
      lowered_has h b e r Nil o v n = tt
      lowered_has h b e r (Then x xs) o v n =
          everywhere_join H (lowered_item p h b e r x) (lowered p (past_item x h) b e r xs) (item_has h b e r x o.0 v.0 (omega (arith, n)))
          (lowered_has (past_item x h) b e r xs o.1 v.1 (omega (arith, n)))

      item_has : (h : Here) (b e : Aim) (r : Arrivals) (x : Tree) → EverywhereOf F x → HasVariables s h x →
          h.variable + total_of variables_of x ≤ Most → AreH (lowered_item p h b e r x)
      item_has h b e r (If t x y) o v n =
          let i = inside (If t x y) h in
          if_has p h t (jump_of p.plan.live x y) (lowered p i b e r x) (lowered p (past x i) b e r y) o.0.0
          (lowered_has i b e r x o.1 v.0 (omega (arith, n))) (lowered_has (past x i) b e r y o.2 v.1 (omega (arith, n)))
      item_has h b e r (While t a) o v n =
          let i = inside (While t a) h in
          let B = Becomes (p.plan.break_label h.construct) in
          let E = Becomes (p.head_label h.construct) in
          while_have t (p.head_label h.construct) (p.list_label h.construct) (p.plan.break_label h.construct) (lowered p i B E r a) o.0.0
          (lowered_has i B E r a o.1 v (omega (arith, n)))
      item_has h b e r (Do a t) o v n =
          let i = inside (Do a t) h in
          let B = break_aim p h a in
          let E = continue_aim p h a in
          do_has p h t (lowered p i B E r a) B E o.0.0 (lowered_has i B E r a o.1 v (omega (arith, n)))
      item_has h b e r (For first t u a) o v n =
          let i = inside (For first t u a) h in
          let B = for_aim p h t a in
          let E = continue_aim p h a in
          everywhere_join H (lowered p i b e NoArrival first) (lowered_for p h t u (lowered p (past first i) B E r a) B E)
          (lowered_has i b e NoArrival first o.1 v.0 (omega (arith, n)))
          (for_has p h t u (lowered p (past first i) B E r a) B E o.0.0.0 o.0.0.1 (lowered_has (past first i) B E r a o.2 v.1 (omega (arith, n))))
      item_has h b e r (Block a) o v n = lowered_has h b e r a o.1 v (omega (arith, n))
      item_has h b e r (Local x None) o v n = tt
      item_has h b e r (Local x (Some es)) o v n = o.1
      item_has h b e r Break o v n = exit_has b Break nothing
      item_has h b e r Continue o v n = exit_has e Continue nothing
      item_has h b e r (Goto l) o v n = (nothing, tt)
      item_has h b e r (Mark l) o v n = flag_has (p.plan.live l) (p.plan.source l)
      item_has h b e r (Arrival x) o v n = arrival_has r x
      item_has h b e r (Switch t d) o v n =
          let i = inside (Switch t d) h in
          let names = names_of p.plan h (switch_kind t) d in
          dissolved_has h t d (lowered_among p i (scatter_aim p.plan h d) e names d) o.0.1 v.0 (omega (arith, n))
          (among_has i (scatter_aim p.plan h d) e names d o.1 v.1 (omega (arith, n)))
      item_has h b e r (Evaluate x) o v n = ((o.0, tt), tt)
      item_has h b e r (Return x) o v n = ((o.0, tt), tt)
      item_has h b e r (Note bs) o v n = ((o.0, tt), tt)
      item_has h b e r (Arm l x) o v n = ((o.0, tt), tt)
      item_has h b e r _ o v n = (nothing, tt)

      among_has : (h : Here) (b e : Aim) (names : Names) (d : Sections) → EverywhereIn F d → HaveVariablesAmong s h d →
          h.variable + total_in variables_of d ≤ Most → AreH (lowered_among p h b e names d)
      among_has h b e names NoSection o v n = marks_have b
      among_has h b e names (Section cases default a ends d) o v n =
          everywhere_join H (case_marks names cases default)
          (join (lowered p h b e (Arrives names) a) (join (end_goto ends b) (lowered_among p (past a h) b e names d))) (case_marks_have names cases default)
          (everywhere_join H (lowered p h b e (Arrives names) a) (join (end_goto ends b) (lowered_among p (past a h) b e names d))
          (lowered_has h b e (Arrives names) a o.0 v.0 (omega (arith, n)))
          (everywhere_join H (end_goto ends b) (lowered_among p (past a h) b e names d) (end_has ends b)
          (among_has (past a h) b e names d o.1 v.1 (omega (arith, n)))))
