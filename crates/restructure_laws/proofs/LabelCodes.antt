-- Each label of a flat form has the code of a label of the source, of a loop or switch, or of a case that there is.
use Rattle.std.proofs.Common.{◌≡◌, ℕ, zero, suc, ◌+◌, ◌-◌, ◌≤◌, ◌<◌, ℤ, Bool, true, false, cond, List, [], ◌∷◌, ◌++◌, length, map, Option, Some, None, refl, arith}
use Rattle.std.specs.Option.{option_map_or}
use Rattle.std.proofs.lemmas.List.{length-map}
use Rattle.c_types.specs.declared.kinds.IntKind.{IntKind}
use Rattle.c_tree.specs.ExpressionTrees.{ExpressionTree}
use Rattle.c_tree.specs.Cases.{case_number}
use Rattle.c_tree.specs.TestTrees.{Source, SelectorTree}
use Rattle.c_tree.specs.Exits.{breaks, continues}
use Rattle.c_tree.specs.Everywhere.{total, total_of, total_in, Everywhere, EverywhereOf, EverywhereIn}
use Rattle.c_tree.specs.Trees.{Tree, Forest, Nil, Then, Sections, NoSection, Section, Evaluate, If, While, Do, For, Switch, Block, Local, Break, Continue, Goto, Mark, Arrival, join}
use Rattle.c_tree.specs.Changed.{one}
use Rattle.c_tree.proofs.KeptLemmas.{everywhere_join}
use Rattle.jump_meaning.specs.Code.{entry_or}
use Rattle.jump_meaning.specs.World.{no_slot}
use Rattle.jump_meaning.specs.Step.{switch_kind}
use Rattle.flat_laws.specs.Pieces.{Aim, Stays, Becomes, Absent, mark_of, third_items, assigned_cells, Names, is_number, test_for, tests_for, tests, tests_in, tests_among, case_marks}
use Rattle.flat_laws.specs.Loose.{Arrivals, NoArrival, Arrives}
use Rattle.flat_laws.specs.Parts.{arrivals, arrivals_in, leaves, kept_breaks, is_scattered, section_labels, switch_labels, cases_among, cases_of, holds_jump, Here, past, past_item, inside, Ending, Breaks, ending, is_gone}
use Rattle.flat_laws.specs.FlatForm.{Plan, names_of, place_of, same_number, scatter_aim, otherwise_label, aim, exit, end_goto, is_jumpy_switch, assigned, mark_if, arrival, dissolved, if_breaks, flat_for, flat, flat_item, flat_last, flat_last_item, flat_sections, spread, marks, marks_in, marks_among}
use Rattle.flat_laws.specs.Source.{nones, AreDifferent, IfTrue, HasOwnCases}
use Rattle.c_resolved_defs.specs.Within.{Each}
use Rattle.whole_laws.proofs.PlainLists.{each_map, each_append}
use Rattle.c_resolved_laws.proofs.Ranged.{each_left, each_right, Marked}

-- ---- the place of a case among the cases of its switch

below_more : (b : Bool) (q l : ℕ) → q < l → cond b 0 (suc q) < suc l
below_more true q l h = omega arith
below_more false q l h = omega (arith, h)

at_first : (b : Bool) (q l : ℕ) → b ≡ true → cond b 0 q < suc l
at_first true q l h = omega arith
at_first false q l h = cc

all_placed : (ms : List (Option ℤ)) → AreDifferent ms → Each (λ m. place_of m ms < length ms) ms
all_placed [] h = tt
all_placed (m ∷ ms) h = (
  at_first (same_number m m) (suc (place_of m ms)) (length ms) h.0,
  each_map (λ k. place_of k ms < length ms) (λ k. place_of k (m ∷ ms) < length (m ∷ ms))
      (λ k i. below_more (same_number k m) (place_of k ms) (length ms) i) ms (all_placed ms h.2),
)

-- ---- the labels of a flat form

-- P holds of each label that the plan makes, of N cases
module _ (P : ℕ → Type 0) (p : Plan) (N : ℕ) (breaks_have : (k : ℕ) → P (p.break_label k)) (continues_have : (k : ℕ) → P (p.continue_label k))
    (defaults_have : (k : ℕ) → P (p.default_label k))
    (cases_have : (j : ℕ) → j < N → P (p.case_label j)) where
  abbrev H : Tree → Type 0
  H x = Marked P x

  abbrev AreH : Forest → Type 0
  AreH a = Everywhere H a

  -- what is known of the source
  abbrev pub F : Tree → Type 0
  F x = HasOwnCases x × Marked (λ l. P (p.source l)) x

  -- a label that is made, if there is one
  abbrev Aims : Aim → Type 0
  Aims (Becomes l) = P l
  Aims _ = Unit {0}

  abbrev HaveLabels : Names → List (Option ExpressionTree) → Type 0
  HaveLabels names es = Each (λ e. P (names e)) es

  abbrev Arrive : Arrivals → List (Option ExpressionTree) → Type 0
  Arrive NoArrival es = Unit {0}
  Arrive (Arrives names) es = HaveLabels names es

  arrive_left : (r : Arrivals) (xs ys : List (Option ExpressionTree)) → Arrive r (xs ++ ys) → Arrive r xs
  arrive_left NoArrival xs ys h = tt
  arrive_left (Arrives names) xs ys h = each_left (λ e. P (names e)) xs ys h

  arrive_right : (r : Arrivals) (xs ys : List (Option ExpressionTree)) → Arrive r (xs ++ ys) → Arrive r ys
  arrive_right NoArrival xs ys h = tt
  arrive_right (Arrives names) xs ys h = each_right (λ e. P (names e)) xs ys h

  -- ---- pieces

  aims : (j : Bool) (n l : ℕ) → P l → Aims (aim j n l)
  aims false n l h = tt
  aims true zero l h = tt
  aims true (suc n) l h = h

  aims_behind : (b : Bool) (l : ℕ) → P l → Aims (cond b (Becomes l) Absent)
  aims_behind true l h = h
  aims_behind false l h = tt

  marks_have : (b : Aim) → Aims b → AreH (mark_of b)
  marks_have Stays h = tt
  marks_have (Becomes l) h = ((h, tt), tt)
  marks_have Absent h = tt

  exit_break : (b : Aim) → AreH (exit b Break)
  exit_break Stays = (tt, tt)
  exit_break (Becomes l) = (tt, tt)
  exit_break Absent = (tt, tt)

  exit_continue : (b : Aim) → AreH (exit b Continue)
  exit_continue Stays = (tt, tt)
  exit_continue (Becomes l) = (tt, tt)
  exit_continue Absent = (tt, tt)

  end_has : (e : Bool) (b : Aim) → AreH (end_goto e b)
  end_has true Stays = tt
  end_has true (Becomes l) = (tt, tt)
  end_has true Absent = tt
  end_has false b = tt

  case_marks_have : (names : Names) (es : List ExpressionTree) (default : Bool) → HaveLabels names (section_labels es default) →
      AreH (case_marks names es default)
  case_marks_have names [] true h = ((h.0, tt), tt)
  case_marks_have names [] false h = tt
  case_marks_have names (e ∷ es) default h = ((h.0, tt), case_marks_have names es default h.1)

  cond_has : (b : Bool) (x y : Forest) → AreH x → AreH y → AreH (cond b x y)
  cond_has true x y h k = h
  cond_has false x y h k = k

  if_breaks_has : (e : Ending) (x y : Forest) → AreH x → AreH y → AreH (if_breaks e x y)
  if_breaks_has Breaks x y h k = h
  if_breaks_has _ x y h k = k

  arrival_has : (r : Arrivals) (e : Option ExpressionTree) → Arrive r (e ∷ []) → AreH (arrival r e)
  arrival_has NoArrival e h = (tt, tt)
  arrival_has (Arrives names) e h = ((h.0, tt), tt)

  third_has : (u : Option ExpressionTree) → AreH (third_items u)
  third_has None = tt
  third_has (Some e) = (tt, tt)

  flag_has : (b : Bool) (l : ℕ) → P l → AreH (mark_if b l)
  flag_has true l h = ((h, tt), tt)
  flag_has false l h = tt

  cells_have : (k : IntKind) (x i : ℕ) (es : List ExpressionTree) (n : ℕ) → AreH (assigned_cells k x i es n)
  cells_have k x i (e ∷ es) n = (tt, cells_have k x (suc i) es n)
  cells_have k x i [] zero = tt
  cells_have k x i [] (suc n) = (tt, cells_have k x (suc i) [] n)

  assigned_has : (k : IntKind) (x : ℕ) (o : Option ℕ) (es : List ExpressionTree) → AreH (assigned k x o es)
  assigned_has k x None [] = tt
  assigned_has k x None (e ∷ es) = (tt, tt)
  assigned_has k x (Some n) es = cells_have k x 0 es (n - length es)

  for_has : (j : Bool) (t u : Option ExpressionTree) (a : Forest) (b e : Aim) → AreH a → Aims b → Aims e → AreH (flat_for j t u a b e)
  for_has true t u a b e m i k = (
    (tt, everywhere_join H a (join (mark_of e) (third_items u)) m (everywhere_join H (mark_of e) (third_items u) (marks_have e k) (third_has u))),
    marks_have b i,
  )
  for_has false t u a b e m i k = ((tt, tt, everywhere_join H a (mark_of e) m (marks_have e k)), marks_have b i)

  module _ (k : IntKind) (v : ℕ) (names : Names) where
    test_for_has : (x : ExpressionTree) → AreH (test_for p.number k v names x)
    test_for_has x = at (case_number k x)
      where
        at : (o : Option ℤ) → AreH (option_map_or (λ n. one (If (Source (is_number k v (p.number k n))) (one (Goto (names (Some x)))) Nil)) o Nil)
        at None = tt
        at (Some z) = ((tt, (tt, tt), tt), tt)

    tests_for_have : (es : List ExpressionTree) → AreH (tests_for p.number k v names es)
    tests_for_have [] = tt
    tests_for_have (x ∷ es) = everywhere_join H (test_for p.number k v names x) (tests_for p.number k v names es) (test_for_has x) (tests_for_have es)

    mutual
      tests_have : (a : Forest) → AreH (tests p.number k v names a)
      tests_have Nil = tt
      tests_have (Then x a) = everywhere_join H (tests_in p.number k v names x) (tests p.number k v names a) (tests_in_have x) (tests_have a)

      tests_in_have : (x : Tree) → AreH (tests_in p.number k v names x)
      tests_in_have (If t a b) = everywhere_join H (tests p.number k v names a) (tests p.number k v names b) (tests_have a) (tests_have b)
      tests_in_have (While t a) = tests_have a
      tests_in_have (Do a t) = tests_have a
      tests_in_have (For f t u a) = tests_have a
      tests_in_have (Block a) = tests_have a
      tests_in_have (Arrival None) = tt
      tests_in_have (Arrival (Some x)) = test_for_has x
      tests_in_have _ = tt

    tests_among_have : (d : Sections) → AreH (tests_among p.number k v names d)
    tests_among_have NoSection = tt
    tests_among_have (Section cases default a ends d) =
        everywhere_join H (tests_for p.number k v names cases) (join (tests p.number k v names a) (tests_among p.number k v names d)) (tests_for_have cases)
        (everywhere_join H (tests p.number k v names a) (tests_among p.number k v names d) (tests_have a) (tests_among_have d))

  dissolved_has : (h : Here) (s : SelectorTree) (d : Sections) (ys : Forest) → AreH ys → AreH (dissolved p h s d ys)
  dissolved_has h s d ys y =
      let k = switch_kind s in
      let names = names_of p h k d in (
        tt,
        everywhere_join H (tests_among p.number k h.variable names d) (Then (Goto (otherwise_label p h d)) ys)
            (tests_among_have k h.variable names d) (tt, y),
      )

  -- ---- the labels of the cases of a scattered switch

  labels_by : (h : Here) (k : IntKind) (d : Sections) (es : List (Option ExpressionTree))
      → Each (λ m. h.case + place_of m (map (case_number k) (cases_among (switch_labels d))) < N) (map (case_number k) (cases_among es)) →
      HaveLabels (names_of p h k d) es
  labels_by h k d [] g = tt
  labels_by h k d (Some e ∷ es) g = (
    cases_have (h.case + place_of (case_number k e) (map (case_number k) (cases_among (switch_labels d)))) g.0,
    labels_by h k d es g.1,
  )
  labels_by h k d (None ∷ es) g = (defaults_have h.construct, labels_by h k d es g)

  labels_have : (h : Here) (k : IntKind) (d : Sections) → AreDifferent (map (case_number k) (cases_among (switch_labels d))) →
      h.case + length (cases_among (switch_labels d)) ≤ N
      → HaveLabels (names_of p h k d) (switch_labels d)
  labels_have h k d different few =
      let ms = map (case_number k) (cases_among (switch_labels d)) in
      let l = length-map (cases_among (switch_labels d)) (case_number k) in
      labels_by h k d (switch_labels d) (each_map (λ m. place_of m ms < length ms) (λ m. h.case + place_of m ms < N) (λ m i. omega (arith, i, l, few))
      ms (all_placed ms different))

  scattered : (b : Bool) (X : Type 0) → b ≡ true → IfTrue b X → X
  scattered true X e h = h
  scattered false X e h = cc

  few_cases : (b : Bool) (c m t : ℕ) → b ≡ true → c + (cond b m 0 + t) ≤ N → c + m ≤ N
  few_cases true c m t e h = omega (arith, h)
  few_cases false c m t e h = cc

  choose : (b : Bool) (x y : Forest) → (b ≡ true → AreH x) → AreH y → AreH (cond b x y)
  choose true x y h k = h refl
  choose false x y h k = k

  -- ---- along the flat form

  mutual
    pub flat_has : (h : Here) (b c : Aim) (r : Arrivals) (a : Forest) → Arrive r (arrivals a) → Everywhere F a → h.case + total cases_of a ≤ N →
        AreH (flat p h b c r a)
    flat_has h b c r Nil g o n = tt
    flat_has h b c r (Then x xs) g o n =
        everywhere_join H (flat_item p h b c r x) (flat p (past_item x h) b c r xs)
        (item_has h b c r x (arrive_left r (arrivals_in x) (arrivals xs) g) o.0 (omega (arith, n)))
        (flat_has (past_item x h) b c r xs (arrive_right r (arrivals_in x) (arrivals xs) g) o.1 (omega (arith, n)))

    item_has : (h : Here) (b c : Aim) (r : Arrivals) (x : Tree) → Arrive r (arrivals_in x) → EverywhereOf F x → h.case + total_of cases_of x ≤ N →
        AreH (flat_item p h b c r x)
    item_has h b c r (If t x y) g o n = (
      (
        tt,
        flat_has h b c r x (arrive_left r (arrivals x) (arrivals y) g) o.1 (omega (arith, n)),
        flat_has (past x h) b c r y (arrive_right r (arrivals x) (arrivals y) g) o.2 (omega (arith, n)),
      ),
      tt,
    )
    item_has h b c r (While t a) g o n =
        let B = aim (holds_jump p.live a) (breaks a) (p.break_label h.construct) in
        let C = aim (holds_jump p.live a) (continues a) (p.continue_label h.construct) in
        let i = inside (While t a) h in (
          (
            tt,
            everywhere_join H (flat p i B C r a) (mark_of C) (flat_has i B C r a g o.1 (omega (arith, n)))
                (marks_have C (aims (holds_jump p.live a) (continues a) (p.continue_label h.construct) (continues_have h.construct))),
          ),
          marks_have B (aims (holds_jump p.live a) (breaks a) (p.break_label h.construct) (breaks_have h.construct)),
        )
    item_has h b c r (Do a t) g o n =
        let B = aim (holds_jump p.live a) (breaks a) (p.break_label h.construct) in
        let C = aim (holds_jump p.live a) (continues a) (p.continue_label h.construct) in
        let i = inside (Do a t) h in (
          (
            tt,
            everywhere_join H (flat p i B C r a) (mark_of C) (flat_has i B C r a g o.1 (omega (arith, n)))
                (marks_have C (aims (holds_jump p.live a) (continues a) (p.continue_label h.construct) (continues_have h.construct))),
          ),
          marks_have B (aims (holds_jump p.live a) (breaks a) (p.break_label h.construct) (breaks_have h.construct)),
        )
    item_has h b c r (For first t u a) g o n =
        let B = aim (holds_jump p.live a) (breaks a) (p.break_label h.construct) in
        let C = aim (holds_jump p.live a) (continues a) (p.continue_label h.construct) in
        let i = inside (For first t u a) h in
        everywhere_join H (flat p i b c NoArrival first) (flat_for (holds_jump p.live a) t u (flat p (past first i) B C r a) B C)
        (flat_has i b c NoArrival first tt o.1 (omega (arith, n)))
        (for_has (holds_jump p.live a) t u (flat p (past first i) B C r a) B C (flat_has (past first i) B C r a g o.2 (omega (arith, n)))
        (aims (holds_jump p.live a) (breaks a) (p.break_label h.construct) (breaks_have h.construct))
        (aims (holds_jump p.live a) (continues a) (p.continue_label h.construct) (continues_have h.construct)))
    item_has h b c r (Block a) g o n = flat_has h b c r a g o.1 (omega (arith, n))
    item_has h b c r (Local x None) g o n = tt
    item_has h b c r (Local x (Some es)) g o n = assigned_has (entry_or no_slot p.slots x).kind x (entry_or no_slot p.slots x).cells es
    item_has h b c r Break g o n = exit_break b
    item_has h b c r Continue g o n = exit_continue c
    item_has h b c r (Goto l) g o n = (tt, tt)
    item_has h b c r (Mark l) g o n = flag_has (p.live l) (p.source l) o.1.0
    item_has h b c r (Arrival e) g o n = arrival_has r e g
    item_has h b c r (Switch s d) g o n =
        let i = inside (Switch s d) h in
        let names = names_of p h (switch_kind s) d in
        let J = is_jumpy_switch p c d in
        let B = aim J (kept_breaks p.live d) (p.break_label h.construct) in
        choose (is_scattered d) (dissolved p h s d (spread p i (scatter_aim p h d) c names d)) (Then (Switch s (flat_sections p i J B c d)) (mark_of B))
        (λ q. let w = scattered (is_scattered d) ((nones (switch_labels d) ≤ 1) ×
        AreDifferent (map (case_number (switch_kind s)) (cases_among (switch_labels d)))) q o.0.0 in
        dissolved_has h s d (spread p i (scatter_aim p h d) c names d)
        (spread_has i (scatter_aim p h d) c names d (aims_behind (leaves d) (p.break_label h.construct) (breaks_have h.construct))
        (labels_have h (switch_kind s) d w.1 (few_cases (is_scattered d) h.case (length (cases_among (switch_labels d))) (total_in cases_of d) q n))
        o.1 (omega (arith, n)))) (
          (tt, sections_have i J B c d o.1 (omega (arith, n))),
          marks_have B
              (aims J (kept_breaks p.live d) (p.break_label h.construct) (breaks_have h.construct)),
        )
    item_has h b c r (Evaluate e) g o n = (tt, tt)
    item_has h b c r _ g o n = (tt, tt)

    last_has : (h : Here) (b c : Aim) (r : Arrivals) (a : Forest) → Arrive r (arrivals a) → Everywhere F a → h.case + total cases_of a ≤ N →
        AreH (flat_last p h b c r a)
    last_has h b c r Nil g o n = tt
    last_has h b c r (Then x xs) g o n =
        cond_has (is_gone (ending p.live xs)) (flat_last_item p h b c r x) (join (flat_item p h b c r x) (flat_last p (past_item x h) b c r xs))
        (last_item_has h b c r x (arrive_left r (arrivals_in x) (arrivals xs) g) o.0 (omega (arith, n)))
        (everywhere_join H (flat_item p h b c r x) (flat_last p (past_item x h) b c r xs)
        (item_has h b c r x (arrive_left r (arrivals_in x) (arrivals xs) g) o.0 (omega (arith, n)))
        (last_has (past_item x h) b c r xs (arrive_right r (arrivals_in x) (arrivals xs) g) o.1 (omega (arith, n))))

    last_item_has : (h : Here) (b c : Aim) (r : Arrivals) (x : Tree) → Arrive r (arrivals_in x) → EverywhereOf F x →
        h.case + total_of cases_of x ≤ N → AreH (flat_last_item p h b c r x)
    last_item_has h b c r (Block a) g o n = last_has h b c r a g o.1 (omega (arith, n))
    last_item_has h b c r _ g o n = tt

    sections_have : (h : Here) (j : Bool) (b c : Aim) (d : Sections) → EverywhereIn F d → h.case + total_in cases_of d ≤ N →
        EverywhereIn H (flat_sections p h j b c d)
    sections_have h j b c NoSection o n = tt
    sections_have h j b c (Section cases default a ends d) o n = (
      if_breaks_has (ending p.live a) (flat_last p h b c NoArrival a) (flat p h b c NoArrival a)
          (last_has h b c NoArrival a tt o.0 (omega (arith, n))) (flat_has h b c NoArrival a tt o.0 (omega (arith, n))),
      sections_have (past a h) j b c d o.1 (omega (arith, n)),
    )

    spread_has : (h : Here) (b c : Aim) (names : Names) (d : Sections) → Aims b → HaveLabels names (switch_labels d) → EverywhereIn F d →
        h.case + total_in cases_of d ≤ N → AreH (spread p h b c names d)
    spread_has h b c names NoSection w g o n = marks_have b w
    spread_has h b c names (Section cases default a ends d) w g o n =
        let rest = each_right (λ e. P (names e)) (section_labels cases default) (arrivals a ++ switch_labels d) g in
        everywhere_join H (case_marks names cases default) (join (flat p h b c (Arrives names) a) (join (end_goto ends b) (spread p (past a h) b c names d)))
        (case_marks_have names cases default (each_left (λ e. P (names e)) (section_labels cases default) (arrivals a ++ switch_labels d) g))
        (everywhere_join H (flat p h b c (Arrives names) a) (join (end_goto ends b) (spread p (past a h) b c names d))
        (flat_has h b c (Arrives names) a (each_left (λ e. P (names e)) (arrivals a) (switch_labels d) rest) o.0 (omega (arith, n)))
        (everywhere_join H (end_goto ends b) (spread p (past a h) b c names d) (end_has ends b)
        (spread_has (past a h) b c names d w (each_right (λ e. P (names e)) (arrivals a) (switch_labels d) rest) o.1 (omega (arith, n)))))

-- ---- the labels of a list

module _ (P : ℕ → Type 0) where
  mutual
    pub all_marks : (a : Forest) → Everywhere (Marked P) a → Each P (marks a)
    all_marks Nil h = tt
    all_marks (Then x a) h = each_append P (marks_in x) (marks a) (all_marks_in x h.0) (all_marks a h.1)

    all_marks_in : (x : Tree) → EverywhereOf (Marked P) x → Each P (marks_in x)
    all_marks_in (If t a b) h = each_append P (marks a) (marks b) (all_marks a h.1) (all_marks b h.2)
    all_marks_in (While t a) h = all_marks a h.1
    all_marks_in (Do a t) h = all_marks a h.1
    all_marks_in (For first t u a) h = each_append P (marks first) (marks a) (all_marks first h.1) (all_marks a h.2)
    all_marks_in (Block a) h = all_marks a h.1
    all_marks_in (Switch s d) h = all_marks_among d h.1
    all_marks_in (Mark l) h = h
    all_marks_in _ h = tt

    all_marks_among : (d : Sections) → EverywhereIn (Marked P) d → Each P (marks_among d)
    all_marks_among NoSection h = tt
    all_marks_among (Section cases default a ends d) h = each_append P (marks a) (marks_among d) (all_marks a h.0) (all_marks_among d h.1)
