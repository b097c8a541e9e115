-- After the conversion of a flat form, and after all moves, the tests and selectors have expressions of the source alone, whose counted
-- tokens are bounded: the tests of the cases of a scattered switch are none any more.
use Rattle.std.proofs.Common.{◌≡◌, ℕ, zero, suc, ◌≤◌, ℤ, Bool, true, false, cond, eqb, List, [], ◌∷◌, Option, Some, None, refl, arith}
use Rattle.std.specs.Prelude.{max}
use Rattle.std.specs.Option.{option_map_or}
use Rattle.c_types.specs.declared.kinds.IntKind.{IntKind}
use Rattle.c_tree.specs.declared.tree.Item.{Item}
use Rattle.c_tree.specs.Cases.{selector_source, case_number}
use Rattle.c_tree.specs.Conversions.{jump_tree, source_tree, conditional_goto, convert, convert_item, convert_sections}
use Rattle.c_tree.specs.Exits.{breaks, continues}
use Rattle.c_tree.specs.ExpressionTrees.{ExpressionTree}
use Rattle.c_tree.specs.TestTrees.{TestTree, Source}
use Rattle.c_tree.specs.Trees.{Tree, Forest, Nil, Then, Sections, NoSection, Section, If, While, Do, For, Switch, Block, Local, Break, Continue, Goto, Mark, Arrival, join, trees_of}
use Rattle.c_tree.specs.Changed.{one}
use Rattle.c_tree.specs.Everywhere.{Everywhere, EverywhereOf, EverywhereIn}
use Rattle.c_tree.proofs.KeptLemmas.{IsKept, changed_kept}
use Rattle.move_laws.proofs.Kept.{IsOfLabels, shorter_kept, round_kept, selector_kept, IsStable, simplified_kept}
use Rattle.move_laws.proofs.DroppedItems.{Becomes, becomes}
use Rattle.jump_meaning.specs.Code.{entry_or}
use Rattle.jump_meaning.specs.World.{no_slot}
use Rattle.jump_meaning.specs.Step.{switch_kind}
use Rattle.flat_laws.specs.Pieces.{Aim, Stays, Becomes as BecomesLabel, Absent, mark_of, test_or_one, third_items, assigned_cells, Names, is_number, test_for, tests_for, tests, tests_in, tests_among, case_marks}
use Rattle.flat_laws.specs.Loose.{Arrivals, NoArrival, Arrives}
use Rattle.flat_laws.specs.Parts.{is_scattered, holds_jump, kept_breaks, Here, past, past_item, inside, Ending, Breaks, ending, is_gone}
use Rattle.flat_laws.specs.FlatForm.{Plan, names_of, scatter_aim, otherwise_label, end_goto, aim, exit, is_jumpy_switch, assigned, mark_if, arrival, dissolved, if_breaks, flat_for, flat, flat_item, flat_last, flat_last_item, flat_sections, spread}
use Rattle.c_resolved_defs.specs.Limits.{most_if, most_tested, most_counted, most_counted_of, most_counted_in}
use Rattle.c_resolved_defs.specs.PrintableExpressions.{counted}
use Rattle.whole_laws.proofs.Rewrites.{Rewrites, rewritten_kept}

-- ---- the most counted tokens of a test or a selector

abbrev mutual
  pub tested : Forest → ℕ
  tested Nil = 0
  tested (Then x xs) = max (tested_of x) (tested xs)

  pub tested_of : Tree → ℕ
  tested_of (If t a b) = max (most_tested t) (max (tested a) (tested b))
  tested_of (While t a) = max (most_tested t) (tested a)
  tested_of (Do a t) = max (most_tested t) (tested a)
  tested_of (For first t u a) = max (tested first) (tested a)
  tested_of (Switch s c) = max (counted (selector_source s)) (tested_in c)
  tested_of (Block a) = tested a
  tested_of _ = 0

  pub tested_in : Sections → ℕ
  tested_in NoSection = 0
  tested_in (Section cases default a ends c) = max (tested a) (tested_in c)

-- of a list after its conversion
abbrev after : Forest → ℕ
after a = tested (convert a)

tested-join : (a b : Forest) → tested (join a b) ≡ max (tested a) (tested b)
tested-join Nil b = omega arith
tested-join (Then x a) b = let h = tested-join a b in omega (arith, h)

after-more : (x : Tree) (a : Forest) → after (Then x a) ≡ max (tested (convert_item x)) (after a)
after-more x a = tested-join (convert_item x) (convert a)

after-join : (a b : Forest) → after (join a b) ≡ max (after a) (after b)
after-join Nil b = omega arith
after-join (Then x a) b =
    let h = after-join a b in
    let i = after-more x (join a b) in
    let j = after-more x a in
    omega (arith, h, i, j)

-- ---- lists without tests

none_mark : (b : Aim) → after (mark_of b) ≡ 0
none_mark Stays = refl
none_mark (BecomesLabel l) = omega arith
none_mark Absent = refl

none_break : (b : Aim) → after (exit b Break) ≡ 0
none_break Stays = omega arith
none_break (BecomesLabel l) = omega arith
none_break Absent = omega arith

none_continue : (b : Aim) → after (exit b Continue) ≡ 0
none_continue Stays = omega arith
none_continue (BecomesLabel l) = omega arith
none_continue Absent = omega arith

none_end : (e : Bool) (b : Aim) → after (end_goto e b) ≡ 0
none_end true Stays = refl
none_end true (BecomesLabel l) = omega arith
none_end true Absent = refl
none_end false b = refl

none_flag : (b : Bool) (l : ℕ) → after (mark_if b l) ≡ 0
none_flag true l = omega arith
none_flag false l = refl

none_arrival : (r : Arrivals) (e : Option ExpressionTree) → after (arrival r e) ≡ 0
none_arrival NoArrival e = omega arith
none_arrival (Arrives names) e = omega arith

none_third : (u : Option ExpressionTree) → after (third_items u) ≡ 0
none_third None = refl
none_third (Some e) = omega arith

none_cells : (k : IntKind) (x i : ℕ) (es : List ExpressionTree) (m : ℕ) → after (assigned_cells k x i es m) ≡ 0
none_cells k x i (e ∷ es) m = let h = none_cells k x (suc i) es m in omega (arith, h)
none_cells k x i [] zero = refl
none_cells k x i [] (suc m) = let h = none_cells k x (suc i) [] m in omega (arith, h)

none_assigned : (k : IntKind) (x : ℕ) (o : Option ℕ) (es : List ExpressionTree) → after (assigned k x o es) ≡ 0
none_assigned k x None [] = refl
none_assigned k x None (e ∷ es) = omega arith
none_assigned k x (Some n) es = none_cells k x 0 es _

none_case_marks : (n : Names) (es : List ExpressionTree) (default : Bool) → after (case_marks n es default) ≡ 0
none_case_marks n [] true = omega arith
none_case_marks n [] false = refl
none_case_marks n (e ∷ es) default = let h = none_case_marks n es default in omega (arith, h)

-- ---- the tests of a scattered switch become jumps

module _ (number : IntKind → ℤ → ExpressionTree) (k : IntKind) (v : ℕ) (n : Names) where
  none_test_for : (x : ExpressionTree) → after (test_for number k v n x) ≡ 0
  none_test_for x = at (case_number k x)
    where
      at : (o : Option ℤ) → after (option_map_or (λ z. one (If (Source (is_number k v (number k z))) (one (Goto (n (Some x)))) Nil)) o Nil) ≡ 0
      at None = refl
      at (Some z) = omega arith

  none_joined : (a b : Forest) → after a ≡ 0 → after b ≡ 0 → after (join a b) ≡ 0
  none_joined a b h g = let i = after-join a b in omega (arith, h, g, i)

  none_tests_for : (es : List ExpressionTree) → after (tests_for number k v n es) ≡ 0
  none_tests_for [] = refl
  none_tests_for (e ∷ es) = none_joined (test_for number k v n e) (tests_for number k v n es) (none_test_for e) (none_tests_for es)

  mutual
    none_tests : (a : Forest) → after (tests number k v n a) ≡ 0
    none_tests Nil = refl
    none_tests (Then x a) = none_joined (tests_in number k v n x) (tests number k v n a) (none_tests_in x) (none_tests a)

    none_tests_in : (x : Tree) → after (tests_in number k v n x) ≡ 0
    none_tests_in (If t a b) = none_joined (tests number k v n a) (tests number k v n b) (none_tests a) (none_tests b)
    none_tests_in (While t a) = none_tests a
    none_tests_in (Do a t) = none_tests a
    none_tests_in (For f t u a) = none_tests a
    none_tests_in (Block a) = none_tests a
    none_tests_in (Arrival (Some e)) = none_test_for e
    none_tests_in _ = refl

  none_tests_among : (d : Sections) → after (tests_among number k v n d) ≡ 0
  none_tests_among NoSection = refl
  none_tests_among (Section cases default a ends d) =
      none_joined (tests_for number k v n cases) (join (tests number k v n a) (tests_among number k v n d)) (none_tests_for cases)
      (none_joined (tests number k v n a) (tests_among number k v n d) (none_tests a) (none_tests_among d))

-- ---- along the flat form

choose : (b : Bool) (x y : Forest) (n : ℕ) → after x ≤ n → after y ≤ n → after (cond b x y) ≤ n
choose true x y n h g = h
choose false x y n h g = g

by_ending : (e : Ending) (x y : Forest) (n : ℕ) → after x ≤ n → after y ≤ n → after (if_breaks e x y) ≤ n
by_ending Breaks x y n h g = h
by_ending _ x y n h g = g

if_tested : (o : Option ℕ) (t : TestTree) (a b : Forest) → tested
    (option_map_or (λ l. jump_tree l (source_tree t)) o (one (If t (convert a) (convert b)))) ≤ max (most_tested t) (max (after a) (after b))
if_tested None t a b = omega arith
if_tested (Some l) t a b = omega arith

loop_tested : (a : Forest) (b c : Aim) (n : ℕ) → after a ≤ n → max (after (join a (mark_of c))) (after (mark_of b)) ≤ n
loop_tested a b c n h = let i = after-join a (mark_of c) in let j = none_mark c in let k = none_mark b in omega (arith, h, i, j, k)

one_tested : (t : Option ExpressionTree) → counted (test_or_one t) ≤ most_if t
one_tested None = omega arith
one_tested (Some e) = omega arith

for_tested : (j : Bool) (t u : Option ExpressionTree) (a : Forest) (b c : Aim) (n : ℕ) → after a ≤ n → most_if t ≤ n → after (flat_for j t u a b c) ≤ n
for_tested true t u a b c n h g =
    let i = after-join a (join (mark_of c) (third_items u)) in
    let j = after-join (mark_of c) (third_items u) in
    let k = none_mark c in
    let l = none_third u in
    let m = none_mark b in
    let o = one_tested t in
    let p = after-more (While (Source (test_or_one t)) (join a (join (mark_of c) (third_items u)))) (mark_of b) in
    omega (arith, h, g, i, j, k, l, m, o, p)
for_tested false t u a b c n h g =
    let i = after-join a (mark_of c) in
    let k = none_mark c in
    let m = none_mark b in
    let p = after-more (For Nil t u (join a (mark_of c))) (mark_of b) in
    omega (arith, h, i, k, m, p)

module _ (p : Plan) where
  mutual
    pub flat_tested : (h : Here) (b c : Aim) (r : Arrivals) (a : Forest) → after (flat p h b c r a) ≤ most_counted a
    flat_tested h b c r Nil = omega arith
    flat_tested h b c r (Then x xs) =
        let i = item_tested h b c r x in
        let j = flat_tested (past_item x h) b c r xs in
        let k = after-join (flat_item p h b c r x) (flat p (past_item x h) b c r xs) in
        omega (arith, i, j, k)

    item_tested : (h : Here) (b c : Aim) (r : Arrivals) (x : Tree) → after (flat_item p h b c r x) ≤ most_counted_of x
    item_tested h b c r (If t x y) =
        let a = flat p h b c r x in
        let d = flat p (past x h) b c r y in
        let i = flat_tested h b c r x in
        let j = flat_tested (past x h) b c r y in
        let k = if_tested (conditional_goto t a d) t a d in
        let l = after-more (If t a d) Nil in
        omega (arith, i, j, k, l)
    item_tested h b c r (While t a) =
        let B = aim (holds_jump p.live a) (breaks a) (p.break_label h.construct) in
        let C = aim (holds_jump p.live a) (continues a) (p.continue_label h.construct) in
        let y = flat p (inside (While t a) h) B C r a in
        let i = loop_tested y B C _ (flat_tested (inside (While t a) h) B C r a) in
        let k = after-more (While t (join y (mark_of C))) (mark_of B) in
        omega (arith, i, k)
    item_tested h b c r (Do a t) =
        let B = aim (holds_jump p.live a) (breaks a) (p.break_label h.construct) in
        let C = aim (holds_jump p.live a) (continues a) (p.continue_label h.construct) in
        let y = flat p (inside (Do a t) h) B C r a in
        let i = loop_tested y B C _ (flat_tested (inside (Do a t) h) B C r a) in
        let k = after-more (Do (join y (mark_of C)) t) (mark_of B) in
        omega (arith, i, k)
    item_tested h b c r (For first t u a) =
        let B = aim (holds_jump p.live a) (breaks a) (p.break_label h.construct) in
        let C = aim (holds_jump p.live a) (continues a) (p.continue_label h.construct) in
        let s = inside (For first t u a) h in
        let y = flat p (past first s) B C r a in
        let i = flat_tested s b c NoArrival first in
        let d = flat_tested (past first s) B C r a in
        let j = for_tested (holds_jump p.live a) t u y B C (max (most_if t) (most_counted a)) (omega (arith, d)) (omega arith) in
        let k = after-join (flat p s b c NoArrival first) (flat_for (holds_jump p.live a) t u y B C) in
        omega (arith, i, j, k)
    item_tested h b c r (Block a) = flat_tested h b c r a
    item_tested h b c r (Switch s d) =
        let i = inside (Switch s d) h in
        let n = names_of p h (switch_kind s) d in
        let B = aim (is_jumpy_switch p c d) (kept_breaks p.live d) (p.break_label h.construct) in
        let y = spread p i (scatter_aim p h d) c n d in
        let t = tests_among p.number (switch_kind s) h.variable n d in
        let o = spread_tested i (scatter_aim p h d) c n d in
        let g = otherwise_label p h d in
        let k = after-join t (Then (Goto g) y) in
        let l = after-more (Goto g) y in
        let z = none_tests_among p.number (switch_kind s) h.variable n d in
        let e = sections_tested i (is_jumpy_switch p c d) B c d in
        let m = none_mark B in
        let q = after-more (Switch s (flat_sections p i (is_jumpy_switch p c d) B c d)) (mark_of B) in
        choose (is_scattered d) (dissolved p h s d y) (Then (Switch s (flat_sections p i (is_jumpy_switch p c d) B c d)) (mark_of B))
        _ (omega (arith, o, k, l, z)) (omega (arith, e, m, q))
    item_tested h b c r (Mark l) = let i = none_flag (p.live l) (p.source l) in omega (arith, i)
    item_tested h b c r (Arrival e) = let i = none_arrival r e in omega (arith, i)
    item_tested h b c r (Local x None) = omega arith
    item_tested h b c r (Local x (Some es)) = let i = none_assigned (entry_or no_slot p.slots x).kind x (entry_or no_slot p.slots x).cells es in
        omega (arith, i)
    item_tested h b c r Break = let i = none_break b in omega (arith, i)
    item_tested h b c r Continue = let i = none_continue c in omega (arith, i)
    item_tested h b c r (Goto l) = omega arith
    item_tested h b c r _ = omega arith

    last_tested : (h : Here) (b c : Aim) (r : Arrivals) (a : Forest) → after (flat_last p h b c r a) ≤ most_counted a
    last_tested h b c r Nil = omega arith
    last_tested h b c r (Then x xs) =
        let i = item_tested h b c r x in
        let j = last_tested (past_item x h) b c r xs in
        let k = after-join (flat_item p h b c r x) (flat_last p (past_item x h) b c r xs) in
        let m = last_item_tested h b c r x in
        choose (is_gone (ending p.live xs)) (flat_last_item p h b c r x) (join (flat_item p h b c r x) (flat_last p (past_item x h) b c r xs))
        _ (omega (arith, m)) (omega (arith, i, j, k))

    last_item_tested : (h : Here) (b c : Aim) (r : Arrivals) (x : Tree) → after (flat_last_item p h b c r x) ≤ most_counted_of x
    last_item_tested h b c r (Block a) = last_tested h b c r a
    last_item_tested h b c r _ = omega arith

    sections_tested : (h : Here) (j : Bool) (b c : Aim) (d : Sections) → tested_in (convert_sections (flat_sections p h j b c d)) ≤ most_counted_in d
    sections_tested h j b c NoSection = omega arith
    sections_tested h j b c (Section cases default a ends d) =
        let i = by_ending (ending p.live a) (flat_last p h b c NoArrival a) (flat p h b c NoArrival a) (most_counted a)
        (last_tested h b c NoArrival a) (flat_tested h b c NoArrival a) in
        let k = sections_tested (past a h) j b c d in
        omega (arith, i, k)

    spread_tested : (h : Here) (b c : Aim) (n : Names) (d : Sections) → after (spread p h b c n d) ≤ most_counted_in d
    spread_tested h b c n NoSection = let i = none_mark b in omega (arith, i)
    spread_tested h b c n (Section cases default a ends d) =
        let i = flat_tested h b c (Arrives n) a in
        let j = spread_tested (past a h) b c n d in
        let x = flat p h b c (Arrives n) a in
        let y = spread p (past a h) b c n d in
        let k = after-join (case_marks n cases default) (join x (join (end_goto ends b) y)) in
        let l = after-join x (join (end_goto ends b) y) in
        let m = after-join (end_goto ends b) y in
        let e = none_case_marks n cases default in
        let z = none_end ends b in
        omega (arith, i, j, k, l, m, e, z)

-- ---- the same of each item, and to the end of the moves

module _ (n : ℕ) where
  abbrev pub HasFewTests : Tree → Type 0
  HasFewTests (If t a b) = most_tested t ≤ n
  HasFewTests (While t a) = most_tested t ≤ n
  HasFewTests (Do a t) = most_tested t ≤ n
  HasFewTests (Switch s c) = counted (selector_source s) ≤ n
  HasFewTests _ = Unit {0}

  mutual
    few_tests : (a : Forest) → tested a ≤ n → Everywhere HasFewTests a
    few_tests Nil h = tt
    few_tests (Then x a) h = (few_tests_of x (omega (arith, h)), few_tests a (omega (arith, h)))

    few_tests_of : (x : Tree) → tested_of x ≤ n → EverywhereOf HasFewTests x
    few_tests_of (If t a b) h = (omega (arith, h), few_tests a (omega (arith, h)), few_tests b (omega (arith, h)))
    few_tests_of (While t a) h = (omega (arith, h), few_tests a (omega (arith, h)))
    few_tests_of (Do a t) h = (omega (arith, h), few_tests a (omega (arith, h)))
    few_tests_of (For first t u a) h = (tt, few_tests first (omega (arith, h)), few_tests a (omega (arith, h)))
    few_tests_of (Switch s c) h = (omega (arith, h), few_tests_in c (omega (arith, h)))
    few_tests_of (Block a) h = (tt, few_tests a h)
    few_tests_of _ h = tt

    few_tests_in : (c : Sections) → tested_in c ≤ n → EverywhereIn HasFewTests c
    few_tests_in NoSection h = tt
    few_tests_in (Section cases default a ends c) h = (few_tests a (omega (arith, h)), few_tests_in c (omega (arith, h)))

  abbrev AnyLabel : ℕ → Type 0
  AnyLabel l = Unit {0}

  abbrev Few : TestTree → Type 0
  Few t = most_tested t ≤ n

  of_labels : IsOfLabels Few AnyLabel
  of_labels = record { off = λ l h. tt; and_out = λ l t h. (tt, h); or_out = λ l t h. (tt, h); and_in = λ l t q h. h; or_in = λ l t q h. h }

  kept_by_moves : IsKept HasFewTests
  kept_by_moves = record {
    made_if = λ m a h. omega arith;
    made_do = λ m a h. omega arith;
    then = λ t a b c h. h;
    else = λ t a b c j h. h;
    whiles = λ t a b h. h;
    dos = λ t a b h. h;
    fors = λ f a b t u j h. tt;
    switches = λ s c d e h. h;
    blocks = λ a b h. tt;
    or_if = λ m t a b i h. h;
    and_if = λ m t a b i h. h;
    or_while = λ m t a i h. h;
    and_while = λ m t a i h. h;
    and_do = λ m t a i h. h;
    picks = λ m k z s c i e h. h;
  }

  stable : IsStable HasFewTests
  stable = record {
    ifs = λ t a b a' b' e h. h;
    whiles = λ t a a' m h. h;
    dos = λ t a a' m h. h;
    fors = λ first t u a a' m h. tt;
    switches = λ s c d e h. h;
    blocks = λ a a' h. tt;
    if_tests = λ a b r h. shorter_kept Few AnyLabel of_labels r h;
    while_tests = λ a r h. shorter_kept Few AnyLabel of_labels r h;
    do_tests = λ a r h. shorter_kept Few AnyLabel of_labels r h;
    selectors = λ c r h. selector_kept (λ s. counted (selector_source s) ≤ n) (λ l k s i. i) (λ l k s u i j. j) r h;
    nests = λ t u a o h j. round_kept Few AnyLabel of_labels t u o h j;
  }

  kept_by_drops : (d : ℕ → Bool) → Becomes d HasFewTests HasFewTests
  kept_by_drops d = record {
    arm = λ l e i h. h;
    arm_if = λ l e i h. tt;
    land = λ l i h. tt;
    ifs = λ t a b h. h;
    whiles = λ t a h. h;
    dos = λ t a h. h;
    fors = λ first t u a h. tt;
    switches = λ s c h. h;
    blocks = λ a h. tt;
    others = λ x o h. h;
  }

  pub moved_tests : {body new : List Item} → tested (trees_of body) ≤ n → Rewrites body new → Everywhere HasFewTests (trees_of new)
  moved_tests {body = body} h r =
      rewritten_kept HasFewTests (λ xs ys c i. changed_kept HasFewTests kept_by_moves c i) (λ xs ys c i. simplified_kept HasFewTests stable c i)
      (λ l xs i. becomes (eqb l) HasFewTests HasFewTests (kept_by_drops (eqb l)) xs i) r (few_tests (trees_of body) h)
