-- The flat form names slots of the source, and the variables of scattered switches.
use Rattle.std.proofs.Common.{ℕ, zero, suc, ◌+◌, ◌-◌, ◌≤◌, ◌<◌, ℤ, Bool, true, false, cond, List, [], ◌∷◌, length, All, Option, Some, None, IfSome, ◌≡◌, refl, ap, arith}
use Rattle.std.specs.Option.{option_map_or}
use Rattle.std.specs.List.{AllByRecursion}
use Rattle.std.proofs.lemmas.List.Elements.{All-from_recursion, recursion_from_All}
use Rattle.c_types.specs.declared.kinds.IntKind.{IntKind}
use Rattle.c_tree.specs.ExpressionTrees.{ExpressionTree}
use Rattle.c_tree.specs.TestTrees.{TestTree, Source, AndOff, OrOn, SelectorTree, Selects, Pick}
use Rattle.c_tree.specs.Cases.{case_number, selector_source}
use Rattle.c_tree.specs.Everywhere.{total, total_of, total_in, Everywhere, EverywhereOf, EverywhereIn}
use Rattle.c_tree.specs.Exits.{breaks, continues}
use Rattle.c_tree.specs.Slots.{ExpressionSlots, TestSlots, SelectorSlots, CaseSlots, ItemSlots}
use Rattle.c_tree.specs.Trees.{Tree, Forest, Nil, Then, Sections, NoSection, Section, Evaluate, Return, If, While, Do, For, Switch, Block, Local, Break, Continue, Goto, Mark, Arm, Arrival, join}
use Rattle.c_tree.specs.Changed.{one}
use Rattle.c_tree.proofs.KeptLemmas.{everywhere_join}
use Rattle.jump_meaning.specs.Code.{entry_or}
use Rattle.jump_meaning.specs.World.{no_slot}
use Rattle.jump_meaning.specs.Step.{switch_kind}
use Rattle.flat_laws.specs.Pieces.{Aim, Stays, Becomes, Absent, mark_of, test_or_one, third_items, assigned_cells, Names, is_number, test_for, tests_for, tests, tests_in, tests_among, case_marks}
use Rattle.flat_laws.proofs.SlotsMore.{expression_more}
use Rattle.flat_laws.specs.Loose.{Arrivals, NoArrival, Arrives}
use Rattle.flat_laws.specs.Parts.{is_scattered, variables_of, holds_jump, Here, past, past_item, inside, Ending, Breaks, ending, is_gone, kept_breaks}
use Rattle.flat_laws.specs.FlatForm.{Plan, names_of, scatter_aim, otherwise_label, end_goto, aim, exit, is_jumpy_switch, assigned, mark_if, arrival, dissolved, if_breaks, flat_for, flat, flat_item, flat_last, flat_last_item, flat_sections, spread}
use Rattle.flat_laws.proofs.Counts.{one_if}

module _ (N : ℕ) where
  abbrev P : ℕ → Type 0
  P x = x < N

  abbrev AreIn : Forest → Type 0
  AreIn a = Everywhere (ItemSlots P) a

  join_in : (a b : Forest) → AreIn a → AreIn b → AreIn (join a b)
  join_in a b h k = everywhere_join (ItemSlots P) a b h k

  mark_in : (b : Aim) → AreIn (mark_of b)
  mark_in Stays = tt
  mark_in (Becomes l) = (tt, tt)
  mark_in Absent = tt

  third_in : (u : Option ExpressionTree) → IfSome u (ExpressionSlots P) → AreIn (third_items u)
  third_in None h = tt
  third_in (Some e) h = (h, tt)

  test_in : (t : Option ExpressionTree) → IfSome t (ExpressionSlots P) → ExpressionSlots P (test_or_one t)
  test_in None h = tt
  test_in (Some e) h = h

  cells_in : (k : IntKind) (x i : ℕ) (es : List ExpressionTree) (m : ℕ) → P x → AllByRecursion (ExpressionSlots P) es → AreIn (assigned_cells k x i es m)
  cells_in k x i (e ∷ es) m g h = (((g, tt), h.0), cells_in k x (suc i) es m g h.1)
  cells_in k x i [] zero g h = tt
  cells_in k x i [] (suc m) g h = (((g, tt), tt), cells_in k x (suc i) [] m g h)

  assigned_in : (k : IntKind) (x : ℕ) (o : Option ℕ) (es : List ExpressionTree) → P x → AllByRecursion (ExpressionSlots P) es → AreIn (assigned k x o es)
  assigned_in k x None [] g h = tt
  assigned_in k x None (e ∷ es) g h = ((g, h.0), tt)
  assigned_in k x (Some n) es g h = cells_in k x 0 es (n - length es) g h

  marks_in : (names : Names) (cases : List ExpressionTree) (default : Bool) → AreIn (case_marks names cases default)
  marks_in names [] true = (tt, tt)
  marks_in names [] false = tt
  marks_in names (e ∷ es) default = (tt, marks_in names es default)

  if_in : (y : Bool) (l : ℕ) → AreIn (mark_if y l)
  if_in true l = (tt, tt)
  if_in false l = tt

  arrival_in : (r : Arrivals) (e : Option ExpressionTree) → IfSome e (ExpressionSlots P) → AreIn (arrival r e)
  arrival_in NoArrival e h = (h, tt)
  arrival_in (Arrives names) e h = (tt, tt)

  end_in : (y : Bool) (b : Aim) → AreIn (end_goto y b)
  end_in true Stays = tt
  end_in true (Becomes l) = (tt, tt)
  end_in true Absent = tt
  end_in false b = tt

  break_in : (b : Aim) → AreIn (exit b Break)
  break_in Stays = (tt, tt)
  break_in (Becomes l) = (tt, tt)
  break_in Absent = (tt, tt)

  continue_in : (b : Aim) → AreIn (exit b Continue)
  continue_in Stays = (tt, tt)
  continue_in (Becomes l) = (tt, tt)
  continue_in Absent = (tt, tt)

  cond_in : (y : Bool) (a b : Forest) → (y ≡ true → AreIn a) → AreIn b → AreIn (cond y a b)
  cond_in true a b h k = h refl
  cond_in false a b h k = k

  breaks_in : (e : Ending) (a b : Forest) → AreIn a → AreIn b → AreIn (if_breaks e a b)
  breaks_in Breaks a b h k = h
  breaks_in _ a b h k = k

  for_in : (y : Bool) (t u : Option ExpressionTree) (a : Forest) (b c : Aim) → IfSome t (ExpressionSlots P) → IfSome u (ExpressionSlots P) → AreIn a →
      AreIn (flat_for y t u a b c)
  for_in true t u a b c g h i = (
    (
      test_in t g,
      join_in a (join (mark_of c) (third_items u)) i
          (join_in (mark_of c) (third_items u) (mark_in c) (third_in u h)),
    ),
    mark_in b,
  )
  for_in false t u a b c g h i = (((g, h), tt, join_in a (mark_of c) i (mark_in c)), mark_in b)

  source_in : (s : SelectorTree) → SelectorSlots P s → ExpressionSlots P (selector_source s)
  source_in (Selects e) h = h
  source_in (Pick l n s) h = source_in s h

  module _ (number : IntKind → ℤ → ExpressionTree) (numbers : (k : IntKind) (n : ℤ) → ExpressionSlots P (number k n)) (k : IntKind) (v : ℕ)
      (names : Names) (v_in : P v) where
    test_for_in : (e : ExpressionTree) → AreIn (test_for number k v names e)
    test_for_in e = at (case_number k e)
      where
        at : (o : Option ℤ) → AreIn (option_map_or (λ n. one (If (Source (is_number k v (number k n))) (one (Goto (names (Some e)))) Nil)) o Nil)
        at None = tt
        at (Some n) = (((v_in, numbers k n), (tt, tt), tt), tt)

    tests_for_in : (es : List ExpressionTree) → AreIn (tests_for number k v names es)
    tests_for_in [] = tt
    tests_for_in (e ∷ es) = join_in (test_for number k v names e) (tests_for number k v names es) (test_for_in e) (tests_for_in es)

    mutual
      tests_all_in : (a : Forest) → AreIn (tests number k v names a)
      tests_all_in Nil = tt
      tests_all_in (Then x a) = join_in (tests_in number k v names x) (tests number k v names a) (tests_item_in x) (tests_all_in a)

      tests_item_in : (x : Tree) → AreIn (tests_in number k v names x)
      tests_item_in (If t a b) = join_in (tests number k v names a) (tests number k v names b) (tests_all_in a) (tests_all_in b)
      tests_item_in (While t a) = tests_all_in a
      tests_item_in (Do a t) = tests_all_in a
      tests_item_in (For f t u a) = tests_all_in a
      tests_item_in (Block a) = tests_all_in a
      tests_item_in (Arrival None) = tt
      tests_item_in (Arrival (Some e)) = test_for_in e
      tests_item_in x = tt

    tests_among_in : (d : Sections) → AreIn (tests_among number k v names d)
    tests_among_in NoSection = tt
    tests_among_in (Section cases default a ends d) =
        join_in (tests_for number k v names cases) (join (tests number k v names a) (tests_among number k v names d)) (tests_for_in cases)
        (join_in (tests number k v names a) (tests_among number k v names d) (tests_all_in a) (tests_among_in d))

  module _ (p : Plan) (numbers : (k : IntKind) (n : ℤ) → ExpressionSlots P (p.number k n)) where
    cases_in : (d : Sections) (h : Here) (y : Bool) (b c : Aim) → CaseSlots P d → CaseSlots P (flat_sections p h y b c d)
    cases_in NoSection h y b c g = tt
    cases_in (Section cases default a ends d) h y b c g = (g.0, cases_in d (past a h) y b c g.1)

    dissolved_in : (s : SelectorTree) (d : Sections) (h : Here) (sp : Forest) → P h.variable → SelectorSlots P s → AreIn sp → AreIn (dissolved p h s d sp)
    dissolved_in s d h sp v g i =
        let ts = tests_among p.number (switch_kind s) h.variable (names_of p h (switch_kind s) d) d in (
          (v, source_in s g),
          join_in ts (Then (Goto (otherwise_label p h d)) sp)
              (tests_among_in p.number numbers (switch_kind s) h.variable (names_of p h (switch_kind s) d) v d) (tt, i),
        )

    mutual
      pub slots_in : (xs : Forest) (h : Here) (b c : Aim) (r : Arrivals) → AreIn xs → h.variable + total variables_of xs ≤ N → AreIn (flat p h b c r xs)
      slots_in Nil h b c r g n = tt
      slots_in (Then x xs) h b c r g n =
          join_in (flat_item p h b c r x) (flat p (past_item x h) b c r xs) (slots_in_item x h b c r g.0 (omega (arith, n)))
          (slots_in xs (past_item x h) b c r g.1 (omega (arith, n)))

      slots_in_item : (x : Tree) (h : Here) (b c : Aim) (r : Arrivals) → EverywhereOf (ItemSlots P) x → h.variable + total_of variables_of x ≤ N →
          AreIn (flat_item p h b c r x)
      slots_in_item (If t x y) h b c r g n = ((g.0, slots_in x h b c r g.1 (omega (arith, n)), slots_in y (past x h) b c r g.2 (omega (arith, n))), tt)
      slots_in_item (While t a) h b c r g n =
          let m = aim (holds_jump p.live a) (breaks a) (p.break_label h.construct) in
          let o = aim (holds_jump p.live a) (continues a) (p.continue_label h.construct) in
          let h' = inside (While t a) h in
          ((g.0, join_in (flat p h' m o r a) (mark_of o) (slots_in a h' m o r g.1 (omega (arith, n))) (mark_in o)), mark_in m)
      slots_in_item (Do a t) h b c r g n =
          let m = aim (holds_jump p.live a) (breaks a) (p.break_label h.construct) in
          let o = aim (holds_jump p.live a) (continues a) (p.continue_label h.construct) in
          let h' = inside (Do a t) h in
          ((g.0, join_in (flat p h' m o r a) (mark_of o) (slots_in a h' m o r g.1 (omega (arith, n))) (mark_in o)), mark_in m)
      slots_in_item (For first t u a) h b c r g n =
          let m = aim (holds_jump p.live a) (breaks a) (p.break_label h.construct) in
          let o = aim (holds_jump p.live a) (continues a) (p.continue_label h.construct) in
          let h' = inside (For first t u a) h in
          let fa = flat p (past first h') m o r a in
          join_in (flat p h' b c NoArrival first) (flat_for (holds_jump p.live a) t u fa m o) (slots_in first h' b c NoArrival g.1 (omega (arith, n)))
          (for_in (holds_jump p.live a) t u fa m o g.0.0 g.0.1 (slots_in a (past first h') m o r g.2 (omega (arith, n))))
      slots_in_item (Block a) h b c r g n = slots_in a h b c r g.1 (omega (arith, n))
      slots_in_item (Local x None) h b c r g n = tt
      slots_in_item (Local x (Some es)) h b c r g n = assigned_in (entry_or no_slot p.slots x).kind x (entry_or no_slot p.slots x).cells es g.0
          (recursion_from_All (ExpressionSlots P) es g.1)
      slots_in_item Break h b c r g n = break_in b
      slots_in_item Continue h b c r g n = continue_in c
      slots_in_item (Mark l) h b c r g n = if_in (p.live l) (p.source l)
      slots_in_item (Arrival e) h b c r g n = arrival_in r e g
      slots_in_item (Switch s d) h b c r g n =
          let h' = inside (Switch s d) h in
          let z = scatter_aim p h d in
          let names = names_of p h (switch_kind s) d in
          let sp = spread p h' z c names d in
          let y = is_jumpy_switch p c d in
          let m = aim y (kept_breaks p.live d) (p.break_label h.construct) in
          cond_in (is_scattered d) (dissolved p h s d sp) (Then (Switch s (flat_sections p h' y m c d)) (mark_of m))
          (λ e. let i = ap one_if e in dissolved_in s d h sp (omega (arith, n, i)) g.0.0 (slots_in_spread d h' z c names g.1 (omega (arith, n))))
          (((g.0.0, cases_in d h' y m c g.0.1), slots_in_among d h' y m c g.1 (omega (arith, n))), mark_in m)
      slots_in_item x h b c r g n = (g, tt)

      slots_in_among : (d : Sections) (h : Here) (y : Bool) (b c : Aim) → EverywhereIn (ItemSlots P) d → h.variable + total_in variables_of d ≤ N →
          EverywhereIn (ItemSlots P) (flat_sections p h y b c d)
      slots_in_among NoSection h y b c g n = tt
      slots_in_among (Section cases default a ends d) h y b c g n = (
        breaks_in (ending p.live a) (flat_last p h b c NoArrival a) (flat p h b c NoArrival a)
            (slots_in_last a h b c NoArrival g.0 (omega (arith, n))) (slots_in a h b c NoArrival g.0 (omega (arith, n))),
        slots_in_among d (past a h) y b c g.1 (omega (arith, n)),
      )

      slots_in_spread : (d : Sections) (h : Here) (b c : Aim) (names : Names) → EverywhereIn (ItemSlots P) d →
          h.variable + total_in variables_of d ≤ N → AreIn (spread p h b c names d)
      slots_in_spread NoSection h b c names g n = mark_in b
      slots_in_spread (Section cases default a ends d) h b c names g n =
          let fa = flat p h b c (Arrives names) a in
          let sp = spread p (past a h) b c names d in
          join_in (case_marks names cases default) (join fa (join (end_goto ends b) sp)) (marks_in names cases default)
          (join_in fa (join (end_goto ends b) sp) (slots_in a h b c (Arrives names) g.0 (omega (arith, n)))
          (join_in (end_goto ends b) sp (end_in ends b) (slots_in_spread d (past a h) b c names g.1 (omega (arith, n)))))

      slots_in_last : (xs : Forest) (h : Here) (b c : Aim) (r : Arrivals) → AreIn xs → h.variable + total variables_of xs ≤ N → AreIn (flat_last p h b c r xs)
      slots_in_last Nil h b c r g n = tt
      slots_in_last (Then x xs) h b c r g n =
          let A = flat_item p h b c r x in
          let B = flat_last p (past_item x h) b c r xs in
          cond_in (is_gone (ending p.live xs)) (flat_last_item p h b c r x) (join A B) (λ e. slots_in_last_item x h b c r g.0 (omega (arith, n)))
          (join_in A B (slots_in_item x h b c r g.0 (omega (arith, n))) (slots_in_last xs (past_item x h) b c r g.1 (omega (arith, n))))

      slots_in_last_item : (x : Tree) (h : Here) (b c : Aim) (r : Arrivals) → EverywhereOf (ItemSlots P) x →
          h.variable + total_of variables_of x ≤ N → AreIn (flat_last_item p h b c r x)
      slots_in_last_item (Block a) h b c r g n = slots_in_last a h b c r g.1 (omega (arith, n))
      slots_in_last_item x h b c r g n = tt

-- ---- a fact of all slots that items name, from a stronger one

module _ (P Q : ℕ → Type 0) (more : (x : ℕ) → P x → Q x) where
  all_more : (es : List ExpressionTree) → AllByRecursion (ExpressionSlots P) es → AllByRecursion (ExpressionSlots Q) es
  all_more [] h = tt
  all_more (e ∷ es) h = (expression_more P Q more e h.0, all_more es h.1)

  list_more : (es : List ExpressionTree) → All (ExpressionSlots P) es → All (ExpressionSlots Q) es
  list_more es h = All-from_recursion (ExpressionSlots Q) es (all_more es (recursion_from_All (ExpressionSlots P) es h))

  some_more : (o : Option ExpressionTree) → IfSome o (ExpressionSlots P) → IfSome o (ExpressionSlots Q)
  some_more None h = tt
  some_more (Some e) h = expression_more P Q more e h

  lists_more : (o : Option (List ExpressionTree)) → IfSome o (All (ExpressionSlots P)) → IfSome o (All (ExpressionSlots Q))
  lists_more None h = tt
  lists_more (Some es) h = list_more es h

  test_more : (t : TestTree) → TestSlots P t → TestSlots Q t
  test_more (Source e) h = expression_more P Q more e h
  test_more (AndOff l t) h = test_more t h
  test_more (OrOn l t) h = test_more t h
  test_more _ h = tt

  selector_more : (s : SelectorTree) → SelectorSlots P s → SelectorSlots Q s
  selector_more (Selects e) h = expression_more P Q more e h
  selector_more (Pick l n s) h = selector_more s h

  cases_more : (d : Sections) → CaseSlots P d → CaseSlots Q d
  cases_more NoSection h = tt
  cases_more (Section cases default a ends d) h = (list_more cases h.0, cases_more d h.1)

  pub item_more : (x : Tree) → ItemSlots P x → ItemSlots Q x
  item_more (Evaluate e) h = expression_more P Q more e h
  item_more (Return e) h = some_more e h
  item_more (If t a b) h = test_more t h
  item_more (While t a) h = test_more t h
  item_more (Do a t) h = test_more t h
  item_more (For first t u a) h = (some_more t h.0, some_more u h.1)
  item_more (Switch s d) h = (selector_more s h.0, cases_more d h.1)
  item_more (Local x es) h = (more x h.0, lists_more es h.1)
  item_more (Arm l e) h = some_more e h
  item_more (Arrival e) h = some_more e h
  item_more x h = tt
