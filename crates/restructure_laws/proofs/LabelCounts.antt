-- How many labels the flat form of a body has at most, in words of the source.
use Rattle.std.proofs.Common.{◌≡◌, ℕ, zero, suc, ◌+◌, ◌*◌, ◌≤◌, ℤ, Bool, true, false, cond, List, [], ◌∷◌, ◌++◌, length, Option, Some, None, refl, ap, arith, length-append}
use Rattle.std.specs.Option.{option_map_or}
use Rattle.c_types.specs.declared.kinds.IntKind.{IntKind}
use Rattle.c_tree.specs.declared.tree.Slot.{Slot}
use Rattle.c_tree.specs.Cases.{case_number}
use Rattle.c_tree.specs.Exits.{breaks, continues}
use Rattle.c_tree.specs.ExpressionTrees.{ExpressionTree}
use Rattle.c_tree.specs.Numerals.{constant}
use Rattle.c_tree.specs.TestTrees.{Source}
use Rattle.c_tree.specs.Trees.{Tree, Forest, Nil, Then, Sections, NoSection, Section, If, While, Do, For, Switch, Block, Local, Break, Continue, Goto, Mark, Arrival, join}
use Rattle.c_tree.specs.Changed.{one}
use Rattle.c_tree.specs.Everywhere.{total, total_of, total_in}
use Rattle.c_tree.proofs.KeptLemmas.{total-join}
use Rattle.c_resolved_defs.specs.Form.{gathered, gathered_of, gathered_in, marked_label, numbers_from}
use Rattle.jump_meaning.specs.Code.{entry_or}
use Rattle.jump_meaning.specs.World.{no_slot}
use Rattle.jump_meaning.specs.Step.{switch_kind}
use Rattle.flat_laws.specs.Pieces.{Aim, Stays, Becomes, Absent, mark_of, third_items, assigned_cells, Names, is_number, test_for, tests_for, tests, tests_in, tests_among, case_marks}
use Rattle.flat_laws.specs.Loose.{Arrivals, NoArrival, Arrives}
use Rattle.flat_laws.specs.Parts.{arrivals, arrivals_in, is_scattered, section_labels, switch_labels, holds_jump, kept_breaks, Here, past, past_item, inside, Ending, Breaks, ending, is_gone}
use Rattle.flat_laws.specs.FlatForm.{Plan, names_of, scatter_aim, otherwise_label, end_goto, aim, exit, is_jumpy_switch, assigned, mark_if, arrival, dissolved, if_breaks, flat_for, flat, flat_item, flat_last, flat_last_item, flat_sections, spread, coded, first_here}
use Rattle.flat_laws.specs.FlatWellMadeLaws.{label_count}
use Rattle.flat_laws.proofs.SameCounts.{weight, marks_counted}
use Rattle.restructure_laws.specs.Guards.{loop_of, switch_of, scattered_of}

-- the labels of a list
abbrev pub marks_in_all : Forest → ℕ
marks_in_all a = total (weight 0 1) a

-- ---- what a loop or a switch may get: a label behind it, for a loop one more at the end of its body, and those of its cases

abbrev made_of : Tree → ℕ
made_of (While t a) = 2
made_of (Do a t) = 2
made_of (For first t u a) = 2
made_of (Switch s d) = 1 + cond (is_scattered d) (length (switch_labels d)) 0
made_of _ = 0

mutual
  made_sum : (a : Forest) → total made_of a ≡ total switch_of a + 2 * total loop_of a + total scattered_of a
  made_sum Nil = refl
  made_sum (Then x a) = let i = made_sum_of x in let j = made_sum a in omega (arith, i, j)

  made_sum_of : (x : Tree) → total_of made_of x ≡ total_of switch_of x + 2 * total_of loop_of x + total_of scattered_of x
  made_sum_of (If t a b) = let i = made_sum a in let j = made_sum b in omega (arith, i, j)
  made_sum_of (While t a) = let i = made_sum a in omega (arith, i)
  made_sum_of (Do a t) = let i = made_sum a in omega (arith, i)
  made_sum_of (For first t u a) = let i = made_sum first in let j = made_sum a in omega (arith, i, j)
  made_sum_of (Switch s d) = let i = made_sum_in d in omega (arith, i)
  made_sum_of (Block a) = let i = made_sum a in omega (arith, i)
  made_sum_of _ = refl

  made_sum_in : (d : Sections) → total_in made_of d ≡ total_in switch_of d + 2 * total_in loop_of d + total_in scattered_of d
  made_sum_in NoSection = refl
  made_sum_in (Section cases default a ends d) = let i = made_sum a in let j = made_sum_in d in omega (arith, i, j)

-- ---- the labels of the source

mutual
  marks_gathered : (a : Forest) → length (gathered marked_label a) ≡ marks_in_all a
  marks_gathered Nil = refl
  marks_gathered (Then x a) = let e = length-append (gathered_of marked_label x) (gathered marked_label a) in let i = marks_gathered_of x in let j =
      marks_gathered a in omega (arith, e, i, j)

  marks_gathered_of : (x : Tree) → length (gathered_of marked_label x) ≡ total_of (weight 0 1) x
  marks_gathered_of (If t a b) = let e = length-append (gathered marked_label a) (gathered marked_label b) in let i = marks_gathered a in let j =
      marks_gathered
      b in omega (arith, e, i, j)
  marks_gathered_of (While t a) = let i = marks_gathered a in omega (arith, i)
  marks_gathered_of (Do a t) = let i = marks_gathered a in omega (arith, i)
  marks_gathered_of (For first t u a) = let e = length-append (gathered marked_label first) (gathered marked_label a) in let i =
      marks_gathered first in
      let j = marks_gathered a in omega (arith, e, i, j)
  marks_gathered_of (Switch s d) = let i = marks_gathered_in d in omega (arith, i)
  marks_gathered_of (Block a) = let i = marks_gathered a in omega (arith, i)
  marks_gathered_of _ = refl

  marks_gathered_in : (d : Sections) → length (gathered_in marked_label d) ≡ total_in (weight 0 1) d
  marks_gathered_in NoSection = refl
  marks_gathered_in (Section cases default a ends d) = let e = length-append (gathered marked_label a) (gathered_in marked_label d) in let i =
      marks_gathered a in
      let j = marks_gathered_in d in omega (arith, e, i, j)

numbers_length : (i n : ℕ) → length (numbers_from i n) ≡ n
numbers_length i zero = refl
numbers_length i (suc n) = let h = numbers_length (suc i) n in omega (arith, h)

-- ---- lists with few labels

few_mark : (b : Aim) → marks_in_all (mark_of b) ≤ 1
few_mark Stays = omega arith
few_mark (Becomes l) = omega arith
few_mark Absent = omega arith

no_exit : (b : Aim) (x : Tree) → marks_in_all (one x) ≡ 0 → marks_in_all (exit b x) ≡ 0
no_exit Stays x h = h
no_exit (Becomes l) x h = refl
no_exit Absent x h = h

no_end : (e : Bool) (b : Aim) → marks_in_all (end_goto e b) ≡ 0
no_end true Stays = refl
no_end true (Becomes l) = refl
no_end true Absent = refl
no_end false b = refl

few_flag : (b : Bool) (l : ℕ) → marks_in_all (mark_if b l) ≤ 1
few_flag true l = omega arith
few_flag false l = omega arith

no_third : (u : Option ExpressionTree) → marks_in_all (third_items u) ≡ 0
no_third None = refl
no_third (Some e) = refl

no_cells : (k : IntKind) (x i : ℕ) (es : List ExpressionTree) (m : ℕ) → marks_in_all (assigned_cells k x i es m) ≡ 0
no_cells k x i (e ∷ es) m = let h = no_cells k x (suc i) es m in omega (arith, h)
no_cells k x i [] zero = refl
no_cells k x i [] (suc m) = let h = no_cells k x (suc i) [] m in omega (arith, h)

no_assigned : (k : IntKind) (x : ℕ) (o : Option ℕ) (es : List ExpressionTree) → marks_in_all (assigned k x o es) ≡ 0
no_assigned k x None [] = refl
no_assigned k x None (e ∷ es) = refl
no_assigned k x (Some n) es = no_cells k x 0 es _

case_marks_are : (n : Names) (es : List ExpressionTree) (default : Bool) → marks_in_all (case_marks n es default) ≡ length (section_labels es default)
case_marks_are n [] true = refl
case_marks_are n [] false = refl
case_marks_are n (e ∷ es) default = let h = case_marks_are n es default in omega (arith, h)

-- the tests of a scattered switch
module _ (number : IntKind → ℤ → ExpressionTree) (k : IntKind) (v : ℕ) (n : Names) where
  no_test_for : (x : ExpressionTree) → marks_in_all (test_for number k v n x) ≡ 0
  no_test_for x = at (case_number k x)
    where
      at : (o : Option ℤ) → marks_in_all (option_map_or (λ z. one (If (Source (is_number k v (number k z))) (one (Goto (n (Some x)))) Nil)) o Nil) ≡ 0
      at None = refl
      at (Some z) = refl

  no_joined : (a b : Forest) → marks_in_all a ≡ 0 → marks_in_all b ≡ 0 → marks_in_all (join a b) ≡ 0
  no_joined a b h g = let i = total-join (weight 0 1) a b in omega (arith, h, g, i)

  no_tests_for : (es : List ExpressionTree) → marks_in_all (tests_for number k v n es) ≡ 0
  no_tests_for [] = refl
  no_tests_for (e ∷ es) = no_joined (test_for number k v n e) (tests_for number k v n es) (no_test_for e) (no_tests_for es)

  mutual
    no_tests : (a : Forest) → marks_in_all (tests number k v n a) ≡ 0
    no_tests Nil = refl
    no_tests (Then x a) = no_joined (tests_in number k v n x) (tests number k v n a) (no_tests_in x) (no_tests a)

    no_tests_in : (x : Tree) → marks_in_all (tests_in number k v n x) ≡ 0
    no_tests_in (If t a b) = no_joined (tests number k v n a) (tests number k v n b) (no_tests a) (no_tests b)
    no_tests_in (While t a) = no_tests a
    no_tests_in (Do a t) = no_tests a
    no_tests_in (For f t u a) = no_tests a
    no_tests_in (Block a) = no_tests a
    no_tests_in (Arrival (Some e)) = no_test_for e
    no_tests_in _ = refl

  no_tests_among : (d : Sections) → marks_in_all (tests_among number k v n d) ≡ 0
  no_tests_among NoSection = refl
  no_tests_among (Section cases default a ends d) =
      no_joined (tests_for number k v n cases) (join (tests number k v n a) (tests_among number k v n d)) (no_tests_for cases)
      (no_joined (tests number k v n a) (tests_among number k v n d) (no_tests a) (no_tests_among d))

-- ---- along the flat form

-- the nested case labels of a list, where they become labels
abbrev arrived : Arrivals → List (Option ExpressionTree) → ℕ
arrived NoArrival es = 0
arrived (Arrives names) es = length es

arrived-append : (r : Arrivals) (xs ys : List (Option ExpressionTree)) → arrived r (xs ++ ys) ≡ arrived r xs + arrived r ys
arrived-append NoArrival xs ys = refl
arrived-append (Arrives names) xs ys = length-append xs ys

arrived-none : (r : Arrivals) → arrived r [] ≡ 0
arrived-none NoArrival = refl
arrived-none (Arrives names) = refl

arrival_few : (r : Arrivals) (e : Option ExpressionTree) → marks_in_all (arrival r e) ≤ arrived r (e ∷ [])
arrival_few NoArrival e = omega arith
arrival_few (Arrives names) e = omega arith

choose : (b : Bool) (x y : Forest) (n : ℕ) → marks_in_all x ≤ n → marks_in_all y ≤ n → marks_in_all (cond b x y) ≤ n
choose true x y n h g = h
choose false x y n h g = g

by_ending : (e : Ending) (x y : Forest) (n : ℕ) → marks_in_all x ≤ n → marks_in_all y ≤ n → marks_in_all (if_breaks e x y) ≤ n
by_ending Breaks x y n h g = h
by_ending _ x y n h g = g

for_few : (j : Bool) (t u : Option ExpressionTree) (a : Forest) (b c : Aim) (n : ℕ) → marks_in_all a ≤ n → marks_in_all (flat_for j t u a b c) ≤ n + 2
for_few true t u a b c n h =
    let i = total-join (weight 0 1) a (join (mark_of c) (third_items u)) in
    let j = total-join (weight 0 1) (mark_of c) (third_items u) in
    let k = few_mark c in
    let l = no_third u in
    let m = few_mark b in
    omega (arith, h, i, j, k, l, m)
for_few false t u a b c n h = let i = total-join (weight 0 1) a (mark_of c) in let k = few_mark c in let m = few_mark b in omega (arith, h, i, k, m)

loop_few : (a : Forest) (b c : Aim) (n : ℕ) → marks_in_all a ≤ n → marks_in_all (join a (mark_of c)) + marks_in_all (mark_of b) ≤ n + 2
loop_few a b c n h = let i = total-join (weight 0 1) a (mark_of c) in let k = few_mark c in let m = few_mark b in omega (arith, h, i, k, m)

-- of a switch: its lists, one label behind it, and where it is scattered those of its cases
switch_few : (b : Bool) (x y : Forest) (n m : ℕ) → marks_in_all x ≤ n + m + 1 → marks_in_all y ≤ n + 1 → marks_in_all (cond b x y) ≤ n + (1 + cond b m 0)
switch_few true x y n m h g = omega (arith, h)
switch_few false x y n m h g = omega (arith, g)

module _ (p : Plan) where
  abbrev most : Forest → ℕ
  most a = marks_in_all a + total made_of a

  abbrev most_of : Tree → ℕ
  most_of x = total_of (weight 0 1) x + total_of made_of x

  abbrev most_in : Sections → ℕ
  most_in d = total_in (weight 0 1) d + total_in made_of d

  mutual
    few : (h : Here) (b c : Aim) (r : Arrivals) (a : Forest) → marks_in_all (flat p h b c r a) ≤ most a + arrived r (arrivals a)
    few h b c r Nil = omega arith
    few h b c r (Then x xs) =
        let i = few_of h b c r x in
        let j = few (past_item x h) b c r xs in
        let k = total-join (weight 0 1) (flat_item p h b c r x) (flat p (past_item x h) b c r xs) in
        let l = arrived-append r (arrivals_in x) (arrivals xs) in
        omega (arith, i, j, k, l)

    few_of : (h : Here) (b c : Aim) (r : Arrivals) (x : Tree) → marks_in_all (flat_item p h b c r x) ≤ most_of x + arrived r (arrivals_in x)
    few_of h b c r (If t x y) =
        let i = few h b c r x in
        let j = few (past x h) b c r y in
        let l = arrived-append r (arrivals x) (arrivals y) in
        omega (arith, i, j, l)
    few_of h b c r (While t a) =
        let B = aim (holds_jump p.live a) (breaks a) (p.break_label h.construct) in
        let C = aim (holds_jump p.live a) (continues a) (p.continue_label h.construct) in
        let i = few (inside (While t a) h) B C r a in
        let j = loop_few (flat p (inside (While t a) h) B C r a) B C _ i in
        omega (arith, j)
    few_of h b c r (Do a t) =
        let B = aim (holds_jump p.live a) (breaks a) (p.break_label h.construct) in
        let C = aim (holds_jump p.live a) (continues a) (p.continue_label h.construct) in
        let i = few (inside (Do a t) h) B C r a in
        let j = loop_few (flat p (inside (Do a t) h) B C r a) B C _ i in
        omega (arith, j)
    few_of h b c r (For first t u a) =
        let B = aim (holds_jump p.live a) (breaks a) (p.break_label h.construct) in
        let C = aim (holds_jump p.live a) (continues a) (p.continue_label h.construct) in
        let s = inside (For first t u a) h in
        let y = flat p (past first s) B C r a in
        let i = few s b c NoArrival first in
        let j = for_few (holds_jump p.live a) t u y B C _ (few (past first s) B C r a) in
        let k = total-join (weight 0 1) (flat p s b c NoArrival first) (flat_for (holds_jump p.live a) t u y B C) in
        omega (arith, i, j, k)
    few_of h b c r (Block a) = let i = few h b c r a in omega (arith, i)
    few_of h b c r (Switch s d) =
        let i = inside (Switch s d) h in
        let n = names_of p h (switch_kind s) d in
        let B = aim (is_jumpy_switch p c d) (kept_breaks p.live d) (p.break_label h.construct) in
        let y = spread p i (scatter_aim p h d) c n d in
        let t = tests_among p.number (switch_kind s) h.variable n d in
        let o = spread_few i (scatter_aim p h d) c n d in
        let k = total-join (weight 0 1) t (Then (Goto (otherwise_label p h d)) y) in
        let z = no_tests_among p.number (switch_kind s) h.variable n d in
        let e = sections_few i (is_jumpy_switch p c d) B c d in
        let m = few_mark B in
        let q = arrived-none r in
        let w = switch_few (is_scattered d) (dissolved p h s d y) (Then (Switch s (flat_sections p i (is_jumpy_switch p c d) B c d)) (mark_of B))
        (most_in d) (length (switch_labels d)) (omega (arith, o, k, z)) (omega (arith, e, m)) in
        omega (arith, w, q)
    few_of h b c r (Mark l) = let i = few_flag (p.live l) (p.source l) in omega (arith, i)
    few_of h b c r (Arrival e) = let i = arrival_few r e in omega (arith, i)
    few_of h b c r (Local x None) = omega arith
    few_of h b c r (Local x (Some es)) = let i = no_assigned (entry_or no_slot p.slots x).kind x (entry_or no_slot p.slots x).cells es in omega (arith, i)
    few_of h b c r Break = let i = no_exit b Break refl in omega (arith, i)
    few_of h b c r Continue = let i = no_exit c Continue refl in omega (arith, i)
    few_of h b c r (Goto l) = omega arith
    few_of h b c r _ = omega arith

    last_few : (h : Here) (b c : Aim) (r : Arrivals) (a : Forest) → marks_in_all (flat_last p h b c r a) ≤ most a + arrived r (arrivals a)
    last_few h b c r Nil = omega arith
    last_few h b c r (Then x xs) =
        let i = few_of h b c r x in
        let j = last_few (past_item x h) b c r xs in
        let k = total-join (weight 0 1) (flat_item p h b c r x) (flat_last p (past_item x h) b c r xs) in
        let l = arrived-append r (arrivals_in x) (arrivals xs) in
        let m = last_few_of h b c r x in
        choose (is_gone (ending p.live xs)) (flat_last_item p h b c r x) (join (flat_item p h b c r x) (flat_last p (past_item x h) b c r xs))
        _ (omega (arith, m, l)) (omega (arith, i, j, k, l))

    last_few_of : (h : Here) (b c : Aim) (r : Arrivals) (x : Tree) → marks_in_all (flat_last_item p h b c r x) ≤ most_of x + arrived r (arrivals_in x)
    last_few_of h b c r (Block a) = let i = last_few h b c r a in omega (arith, i)
    last_few_of h b c r _ = omega arith

    sections_few : (h : Here) (j : Bool) (b c : Aim) (d : Sections) → total_in (weight 0 1) (flat_sections p h j b c d) ≤ most_in d
    sections_few h j b c NoSection = omega arith
    sections_few h j b c (Section cases default a ends d) =
        let l = last_few h b c NoArrival a in
        let f = few h b c NoArrival a in
        let i = by_ending (ending p.live a) (flat_last p h b c NoArrival a) (flat p h b c NoArrival a) (most a) (omega (arith, l)) (omega (arith, f)) in
        let k = sections_few (past a h) j b c d in
        omega (arith, i, k)

    spread_few : (h : Here) (b c : Aim) (n : Names) (d : Sections) → marks_in_all (spread p h b c n d) ≤ most_in d + length (switch_labels d) + 1
    spread_few h b c n NoSection = let i = few_mark b in omega (arith, i)
    spread_few h b c n (Section cases default a ends d) =
        let i = few h b c (Arrives n) a in
        let j = spread_few (past a h) b c n d in
        let x = flat p h b c (Arrives n) a in
        let y = spread p (past a h) b c n d in
        let k = total-join (weight 0 1) (case_marks n cases default) (join x (join (end_goto ends b) y)) in
        let l = total-join (weight 0 1) x (join (end_goto ends b) y) in
        let m = total-join (weight 0 1) (end_goto ends b) y in
        let e = case_marks_are n cases default in
        let z = no_end ends b in
        let u = length-append (section_labels cases default) (arrivals a ++ switch_labels d) in
        let v = length-append (arrivals a) (switch_labels d) in
        omega (arith, i, j, k, l, m, e, z, u, v)

-- the labels of the source, one for each switch, two for each loop, and those of the cases of scattered switches
pub few_labels : (slots : List Slot) (n : ℕ) (a : Forest) → gathered marked_label a ≡ numbers_from 0 n →
    label_count slots n a ≤ n + total switch_of a + 2 * total loop_of a + total scattered_of a
few_labels slots n a e =
    let p = coded constant slots n a in
    let i = few p (first_here (length slots)) Stays Stays NoArrival a in
    let j = marks_counted (flat p (first_here (length slots)) Stays Stays NoArrival a) in
    let k = made_sum a in
    let l = marks_gathered a in
    let m = ap length e in
    let o = numbers_length 0 n in
    omega (arith, i, j, k, l, m, o)
