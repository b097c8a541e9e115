-- The flat form of a body has facts of its expressions, where the body has them and the made expressions have them.
use Rattle.std.proofs.Common.{◌≡◌, ℕ, ◌+◌, ◌<◌, ◌≤◌, arith, ℤ, pos, Bool, true, false, cond, List, [], ◌∷◌, ◌++◌, length, Option, Some, None, option_map, refl, sym, ap, subst}
use Rattle.std.specs.Prelude.{IfSome}
use Rattle.std.specs.List.{AllByRecursion}
use Rattle.std.specs.Option.{option_map_or}
use Rattle.c_types.specs.declared.kinds.IntKind.{IntKind}
use Rattle.c_types.specs.declared.kinds.IntKind.TheVariants.{Int}
use Rattle.c_types.specs.Numbers.{converted}
use Rattle.c_tree.specs.Constants.{constant_value}
use Rattle.c_tree.specs.Cases.{selector_source, all_cases}
use Rattle.c_tree.specs.Exits.{breaks, continues}
use Rattle.c_tree.specs.ExpressionTrees.{ExpressionTree}
use Rattle.c_tree.specs.Numerals.{number}
use Rattle.c_tree.specs.TestTrees.{Source, SelectorTree}
use Rattle.c_tree.specs.Trees.{Tree, Forest, Nil, Then, Sections, NoSection, Section, Evaluate, Return, If, While, Do, For, Switch, Block, Local, Break, Continue, Goto, Mark, Arm, Arrival, Note, join}
use Rattle.c_tree.specs.Changed.{one}
use Rattle.c_tree.specs.Everywhere.{total, total_of, total_in, Everywhere, EverywhereOf, EverywhereIn}
use Rattle.c_tree.proofs.KeptLemmas.{everywhere_join}
use Rattle.jump_meaning.specs.Step.{switch_kind}
use Rattle.flat_laws.specs.Pieces.{Aim, Stays, Becomes, Absent, mark_of, test_or_one, third_items, assign_number, Names, is_number, test_for, tests_for, tests, tests_in, tests_among, case_marks}
use Rattle.flat_laws.specs.Loose.{Setting, Arrivals, NoArrival, Arrives}
use Rattle.flat_laws.specs.Parts.{is_scattered, holds_jump, kept_breaks, variables_of, Here, past, past_item, inside, Ending, Breaks, ending, is_gone}
use Rattle.flat_laws.specs.FlatForm.{Plan, names_of, scatter_aim, otherwise_label, end_goto, aim, exit, is_jumpy_switch, initialised, mark_if, arrival, dissolved, if_breaks, flat_for, flat, flat_item, flat_last, flat_last_item, flat_sections, spread}
use Rattle.flat_laws.specs.Source.{IsVariable, IfTrue, HaveVariables, HasVariables, HaveVariablesAmong}
use Rattle.whole_laws.proofs.Facts.{ItemHas}

-- a switch that stays keeps its cases
flat_cases : (p : Plan) (h : Here) (j : Bool) (b e : Aim) (d : Sections) → all_cases (flat_sections p h j b e d) ≡ all_cases d
flat_cases p h j b e NoSection = refl
flat_cases p h j b e (Section cases default a ends d) = ap (λ es. cases ++ es) (flat_cases p (past a h) j b e d)

module _ (V O C : ExpressionTree → Type 0) (R : Option ExpressionTree → Type 0) (N : List ℕ → Type 0) where
  abbrev H : Tree → Type 0
  H x = ItemHas V O C R N x

  abbrev AreH : Forest → Type 0
  AreH a = Everywhere H a

  -- ---- pieces

  marks_have : (b : Aim) → AreH (mark_of b)
  marks_have Stays = tt
  marks_have (Becomes l) = (tt, tt)
  marks_have Absent = tt

  cond_has : (b : Bool) (x y : Forest) → AreH x → AreH y → AreH (cond b x y)
  cond_has true x y h k = h
  cond_has false x y h k = k

  exit_has : (b : Aim) (x : Tree) → EverywhereOf H x → AreH (exit b x)
  exit_has Stays x h = (h, tt)
  exit_has (Becomes l) x h = (tt, tt)
  exit_has Absent x h = (h, tt)

  end_has : (e : Bool) (b : Aim) → AreH (end_goto e b)
  end_has true Stays = tt
  end_has true (Becomes l) = (tt, tt)
  end_has true Absent = tt
  end_has false b = tt

  case_marks_have : (names : Names) (es : List ExpressionTree) (default : Bool) → AreH (case_marks names es default)
  case_marks_have names [] true = (tt, tt)
  case_marks_have names [] false = tt
  case_marks_have names (e ∷ es) default = (tt, case_marks_have names es default)

  if_breaks_has : (e : Ending) (x y : Forest) → AreH x → AreH y → AreH (if_breaks e x y)
  if_breaks_has Breaks x y h k = h
  if_breaks_has _ x y h k = k

  arrival_has : (r : Arrivals) (e : Option ExpressionTree) → AreH (arrival r e)
  arrival_has NoArrival e = (tt, tt)
  arrival_has (Arrives names) e = (tt, tt)

  third_has : (u : Option ExpressionTree) → IfSome u O → AreH (third_items u)
  third_has None h = tt
  third_has (Some e) h = (h, tt)

  flag_has : (b : Bool) (l : ℕ) → AreH (mark_if b l)
  flag_has true l = (tt, tt)
  flag_has false l = tt

  -- what is known of a constant test `v == c`
  abbrev pub Tests : (IntKind → ℤ → ExpressionTree) → IntKind → ℕ → Type 0
  Tests number k v = (z : ℤ) → V (is_number k v (number k (converted k z)))

  module _ (number : IntKind → ℤ → ExpressionTree) (k : IntKind) (v : ℕ) (names : Names) (holds : Tests number k v) where
    test_for_has : (x : ExpressionTree) → AreH (test_for number k v names x)
    test_for_has x = at (constant_value x)
      where
        at : (o : Option ℤ) → AreH (option_map_or (λ n. one (If (Source (is_number k v (number k n))) (one (Goto (names (Some x)))) Nil))
            (option_map (converted k) o) Nil)
        at None = tt
        at (Some z) = ((holds z, (tt, tt), tt), tt)

    tests_for_have : (es : List ExpressionTree) → AreH (tests_for number k v names es)
    tests_for_have [] = tt
    tests_for_have (x ∷ es) = everywhere_join H (test_for number k v names x) (tests_for number k v names es) (test_for_has x) (tests_for_have es)

    mutual
      tests_have : (a : Forest) → AreH (tests number k v names a)
      tests_have Nil = tt
      tests_have (Then x a) = everywhere_join H (tests_in number k v names x) (tests number k v names a) (tests_in_have x) (tests_have a)

      tests_in_have : (x : Tree) → AreH (tests_in number k v names x)
      tests_in_have (If t a b) = everywhere_join H (tests number k v names a) (tests number k v names b) (tests_have a) (tests_have b)
      tests_in_have (While t a) = tests_have a
      tests_in_have (Do a t) = tests_have a
      tests_in_have (For f t u a) = tests_have a
      tests_in_have (Block a) = tests_have a
      tests_in_have (Arrival None) = tt
      tests_in_have (Arrival (Some x)) = test_for_has x
      tests_in_have _ = tt

    tests_among_have : (d : Sections) → AreH (tests_among number k v names d)
    tests_among_have NoSection = tt
    tests_among_have (Section cases default a ends d) =
        everywhere_join H (tests_for number k v names cases) (join (tests number k v names a) (tests_among number k v names d)) (tests_for_have cases)
        (everywhere_join H (tests number k v names a) (tests_among number k v names d) (tests_have a) (tests_among_have d))

  -- ---- along the flat form

  -- 1, the assignments of a declaration, and of a scattered switch `v = e` and `v == c` have the facts
  module _ (s : Setting) (p : Plan) (one_has : V (number Int (pos 1)))
      (selects : (t : SelectorTree) (v : ℕ) → V (selector_source t) → IsVariable s v (switch_kind t) → v < length s.new →
      O (assign_number (switch_kind t) v (selector_source t)) × Tests p.number (switch_kind t) v) where
    -- what a declaration with initialisers becomes has the facts
    abbrev pub Becomes_so : Tree → Type 0
    Becomes_so (Local x (Some es)) = AreH (initialised p x es)
    Becomes_so _ = Unit {0}

    abbrev pub F : Tree → Type 0
    F x = H x × Becomes_so x

    test_has : (t : Option ExpressionTree) → IfSome t V → V (test_or_one t)
    test_has None h = one_has
    test_has (Some e) h = h

    for_has : (j : Bool) (t u : Option ExpressionTree) (a : Forest) (b e : Aim) → IfSome t V → IfSome u O → AreH a → AreH (flat_for j t u a b e)
    for_has true t u a b e h i m = (
      (
        test_has t h,
        everywhere_join H a (join (mark_of e) (third_items u)) m
            (everywhere_join H (mark_of e) (third_items u) (marks_have e) (third_has u i)),
      ),
      marks_have b,
    )
    for_has false t u a b e h i m = (((h, i), tt, everywhere_join H a (mark_of e) m (marks_have e)), marks_have b)

    dissolved_has : (h : Here) (t : SelectorTree) (d : Sections) (ys : Forest) → V (selector_source t) → IsVariable s h.variable (switch_kind t) →
        h.variable < length s.new → AreH ys → AreH (dissolved p h t d ys)
    dissolved_has h t d ys o w b y =
        let k = switch_kind t in
        let names = names_of p h k d in
        let f = selects t h.variable o w b in (
          f.0,
          everywhere_join H (tests_among p.number k h.variable names d) (Then (Goto (otherwise_label p h d)) ys)
              (tests_among_have p.number k h.variable names f.1 d) (tt, y),
        )

    loop_list : (a : Forest) (e : Aim) → AreH a → AreH (join a (mark_of e))
    loop_list a e h = everywhere_join H a (mark_of e) h (marks_have e)

    abbrev Most : ℕ
    Most = length s.new

    choose : (b : Bool) (x y : Forest) → (b ≡ true → AreH x) → (b ≡ false → AreH y) → AreH (cond b x y)
    choose true x y h k = h refl
    choose false x y h k = k refl

    scattered : (b : Bool) (X : Type 0) → b ≡ true → IfTrue b X → X
    scattered true X e h = h
    scattered false X e h = cc

    below : (b : Bool) (v t : ℕ) → b ≡ true → v + (cond b 1 0 + t) ≤ Most → v < Most
    below true v t e h = omega (arith, h)
    below false v t e h = cc

    mutual
      pub flat_has : (h : Here) (b e : Aim) (r : Arrivals) (a : Forest) → Everywhere F a → HaveVariables s h a →
          h.variable + total variables_of a ≤ Most → AreH (flat p h b e r a)
      flat_has h b e r Nil o v n = tt
      flat_has h b e r (Then x xs) o v n = everywhere_join H (flat_item p h b e r x) (flat p (past_item x h) b e r xs)
          (item_has h b e r x o.0 v.0 (omega (arith, n))) (flat_has (past_item x h) b e r xs o.1 v.1 (omega (arith, n)))

      item_has : (h : Here) (b e : Aim) (r : Arrivals) (x : Tree) → EverywhereOf F x → HasVariables s h x →
          h.variable + total_of variables_of x ≤ Most → AreH (flat_item p h b e r x)
      item_has h b e r (If t x y) o v n = ((o.0.0, flat_has h b e r x o.1 v.0 (omega (arith, n)), flat_has (past x h) b e r y o.2 v.1 (omega (arith, n))), tt)
      item_has h b e r (While t a) o v n =
          let B = aim (holds_jump p.live a) (breaks a) (p.break_label h.construct) in
          let E = aim (holds_jump p.live a) (continues a) (p.continue_label h.construct) in
          ((o.0.0, loop_list (flat p (inside (While t a) h) B E r a) E (flat_has (inside (While t a) h) B E r a o.1 v (omega (arith, n)))), marks_have B)
      item_has h b e r (Do a t) o v n =
          let B = aim (holds_jump p.live a) (breaks a) (p.break_label h.construct) in
          let E = aim (holds_jump p.live a) (continues a) (p.continue_label h.construct) in
          ((o.0.0, loop_list (flat p (inside (Do a t) h) B E r a) E (flat_has (inside (Do a t) h) B E r a o.1 v (omega (arith, n)))), marks_have B)
      item_has h b e r (For first t u a) o v n =
          let B = aim (holds_jump p.live a) (breaks a) (p.break_label h.construct) in
          let E = aim (holds_jump p.live a) (continues a) (p.continue_label h.construct) in
          let i = inside (For first t u a) h in
          everywhere_join H (flat p i b e NoArrival first) (flat_for (holds_jump p.live a) t u (flat p (past first i) B E r a) B E)
          (flat_has i b e NoArrival first o.1 v.0 (omega (arith, n)))
          (for_has (holds_jump p.live a) t u (flat p (past first i) B E r a) B E o.0.0.0 o.0.0.1 (flat_has (past first i) B E r a o.2 v.1 (omega (arith, n))))
      item_has h b e r (Block a) o v n = flat_has h b e r a o.1 v (omega (arith, n))
      item_has h b e r (Local x None) o v n = tt
      item_has h b e r (Local x (Some es)) o v n = o.1
      item_has h b e r Break o v n = exit_has b Break tt
      item_has h b e r Continue o v n = exit_has e Continue tt
      item_has h b e r (Goto l) o v n = (tt, tt)
      item_has h b e r (Mark l) o v n = flag_has (p.live l) (p.source l)
      item_has h b e r (Arrival x) o v n = arrival_has r x
      item_has h b e r (Switch t d) o v n =
          let i = inside (Switch t d) h in
          let names = names_of p h (switch_kind t) d in
          let J = is_jumpy_switch p e d in
          let B = aim J (kept_breaks p.live d) (p.break_label h.construct) in
          choose (is_scattered d) (dissolved p h t d (spread p i (scatter_aim p h d) e names d)) (Then (Switch t (flat_sections p i J B e d)) (mark_of B))
          (λ q.
          let w = scattered (is_scattered d) (IsVariable s h.variable (switch_kind t)) q v.0 in
          dissolved_has h t d (spread p i (scatter_aim p h d) e names d) o.0.0.0 w (below (is_scattered d) h.variable (total_in variables_of d) q n)
          (spread_has i (scatter_aim p h d) e names d o.1 v.1 (omega (arith, n))))
          (λ q. (
            ((o.0.0.0, subst (AllByRecursion C) (sym (flat_cases p i J B e d)) o.0.0.1), sections_have i J B e d o.1 v.1 (omega (arith, n))),
            marks_have B,
          ))
      item_has h b e r (Evaluate x) o v n = (o.0, tt)
      item_has h b e r (Return x) o v n = (o.0, tt)
      item_has h b e r (Note bs) o v n = (o.0, tt)
      item_has h b e r (Arm l x) o v n = (o.0, tt)
      item_has h b e r _ o v n = (tt, tt)

      last_has : (h : Here) (b e : Aim) (r : Arrivals) (a : Forest) → Everywhere F a → HaveVariables s h a →
          h.variable + total variables_of a ≤ Most → AreH (flat_last p h b e r a)
      last_has h b e r Nil o v n = tt
      last_has h b e r (Then x xs) o v n =
          cond_has (is_gone (ending p.live xs)) (flat_last_item p h b e r x) (join (flat_item p h b e r x) (flat_last p (past_item x h) b e r xs))
          (last_item_has h b e r x o.0 v.0 (omega (arith, n)))
          (everywhere_join H (flat_item p h b e r x) (flat_last p (past_item x h) b e r xs) (item_has h b e r x o.0 v.0 (omega (arith, n)))
          (last_has (past_item x h) b e r xs o.1 v.1 (omega (arith, n))))

      last_item_has : (h : Here) (b e : Aim) (r : Arrivals) (x : Tree) → EverywhereOf F x → HasVariables s h x →
          h.variable + total_of variables_of x ≤ Most → AreH (flat_last_item p h b e r x)
      last_item_has h b e r (Block a) o v n = last_has h b e r a o.1 v (omega (arith, n))
      last_item_has h b e r _ o v n = tt

      sections_have : (h : Here) (j : Bool) (b e : Aim) (d : Sections) → EverywhereIn F d → HaveVariablesAmong s h d →
          h.variable + total_in variables_of d ≤ Most → EverywhereIn H (flat_sections p h j b e d)
      sections_have h j b e NoSection o v n = tt
      sections_have h j b e (Section cases default a ends d) o v n = (
        if_breaks_has (ending p.live a) (flat_last p h b e NoArrival a) (flat p h b e NoArrival a)
            (last_has h b e NoArrival a o.0 v.0 (omega (arith, n))) (flat_has h b e NoArrival a o.0 v.0 (omega (arith, n))),
        sections_have (past a h) j b e d o.1 v.1 (omega (arith, n)),
      )

      spread_has : (h : Here) (b e : Aim) (names : Names) (d : Sections) → EverywhereIn F d → HaveVariablesAmong s h d →
          h.variable + total_in variables_of d ≤ Most → AreH (spread p h b e names d)
      spread_has h b e names NoSection o v n = marks_have b
      spread_has h b e names (Section cases default a ends d) o v n =
          everywhere_join H (case_marks names cases default)
          (join (flat p h b e (Arrives names) a) (join (end_goto ends b) (spread p (past a h) b e names d))) (case_marks_have names cases default)
          (everywhere_join H (flat p h b e (Arrives names) a) (join (end_goto ends b) (spread p (past a h) b e names d))
          (flat_has h b e (Arrives names) a o.0 v.0 (omega (arith, n)))
          (everywhere_join H (end_goto ends b) (spread p (past a h) b e names d) (end_has ends b)
          (spread_has (past a h) b e names d o.1 v.1 (omega (arith, n)))))
