-- The flat form of a body nests no deeper than the body.
use Rattle.std.proofs.Common.{◌≡◌, ℕ, zero, suc, ◌+◌, ◌≤◌, ℤ, Bool, true, false, List, [], ◌∷◌, Option, Some, None, refl, arith}
use Rattle.std.specs.Prelude.{max}
use Rattle.std.specs.Option.{option_map_or}
use Rattle.c_types.specs.declared.kinds.IntKind.{IntKind}
use Rattle.c_tree.specs.Cases.{case_number}
use Rattle.c_tree.specs.Exits.{breaks, continues}
use Rattle.c_tree.specs.ExpressionTrees.{ExpressionTree}
use Rattle.c_tree.specs.TestTrees.{Source}
use Rattle.c_tree.specs.Trees.{Tree, Forest, Nil, Then, Sections, NoSection, Section, Evaluate, Return, If, While, Do, For, Switch, Block, Local, Break, Continue, Goto, Mark, Arrival, Note, join}
use Rattle.c_tree.specs.Changed.{one}
use Rattle.c_tree.specs.Everywhere.{Everywhere, EverywhereOf, EverywhereIn}
use Rattle.jump_meaning.specs.Code.{entry_or}
use Rattle.jump_meaning.specs.World.{no_slot}
use Rattle.jump_meaning.specs.Step.{switch_kind}
use Rattle.flat_laws.specs.Pieces.{Aim, Stays, Becomes, Absent, mark_of, third_items, assigned_cells, Names, is_number, test_for, tests_for, tests, tests_in, tests_among, case_marks}
use Rattle.flat_laws.specs.Loose.{Arrivals, NoArrival, Arrives}
use Rattle.flat_laws.specs.Parts.{is_scattered, holds_jump, kept_breaks, Here, past, past_item, inside, Ending, Breaks, ending, is_gone}
use Rattle.flat_laws.specs.FlatForm.{Plan, names_of, scatter_aim, otherwise_label, end_goto, aim, exit, is_jumpy_switch, assigned, mark_if, arrival, dissolved, if_breaks, flat_for, flat, flat_item, flat_last, flat_last_item, flat_sections, spread}
use Rattle.flat_laws.specs.FlatMade.{AreFirst, IsPlainItem}
use Rattle.move_order_laws.specs.Nesting.{nesting, nesting_of, nesting_in}
use Rattle.move_order_laws.proofs.Around.{nesting_some, nesting-join, nesting_in_some}
use Rattle.move_order_laws.proofs.Depth.{cond_depth}

-- ---- lists in which no list stands

mark_flat : (b : Aim) → nesting (mark_of b) ≡ 1
mark_flat Stays = refl
mark_flat (Becomes l) = omega arith
mark_flat Absent = refl

third_flat : (u : Option ExpressionTree) → nesting (third_items u) ≡ 1
third_flat None = refl
third_flat (Some e) = omega arith

end_flat : (e : Bool) (b : Aim) → nesting (end_goto e b) ≡ 1
end_flat true Stays = refl
end_flat true (Becomes l) = omega arith
end_flat true Absent = refl
end_flat false b = refl

flag_flat : (b : Bool) (l : ℕ) → nesting (mark_if b l) ≡ 1
flag_flat true l = omega arith
flag_flat false l = refl

arrival_flat : (r : Arrivals) (e : Option ExpressionTree) → nesting (arrival r e) ≡ 1
arrival_flat NoArrival e = omega arith
arrival_flat (Arrives names) e = omega arith

break_flat : (b : Aim) → nesting (exit b Break) ≡ 1
break_flat Stays = omega arith
break_flat (Becomes l) = omega arith
break_flat Absent = omega arith

continue_flat : (b : Aim) → nesting (exit b Continue) ≡ 1
continue_flat Stays = omega arith
continue_flat (Becomes l) = omega arith
continue_flat Absent = omega arith

case_marks_flat : (n : Names) (es : List ExpressionTree) (default : Bool) → nesting (case_marks n es default) ≡ 1
case_marks_flat n [] true = omega arith
case_marks_flat n [] false = refl
case_marks_flat n (e ∷ es) default = let h = case_marks_flat n es default in omega (arith, h)

cells_flat : (k : IntKind) (x i : ℕ) (es : List ExpressionTree) (m : ℕ) → nesting (assigned_cells k x i es m) ≡ 1
cells_flat k x i (e ∷ es) m = let h = cells_flat k x (suc i) es m in omega (arith, h)
cells_flat k x i [] zero = refl
cells_flat k x i [] (suc m) = let h = cells_flat k x (suc i) [] m in omega (arith, h)

assigned_flat : (k : IntKind) (x : ℕ) (o : Option ℕ) (es : List ExpressionTree) → nesting (assigned k x o es) ≡ 1
assigned_flat k x None [] = refl
assigned_flat k x None (e ∷ es) = omega arith
assigned_flat k x (Some n) es = cells_flat k x 0 es _

first_flat : (a : Forest) → AreFirst a → nesting a ≡ 1
first_flat Nil h = refl
first_flat (Then (Evaluate e) a) h = let i = first_flat a h.1 in omega (arith, i)
first_flat (Then (Local x es) a) h = let i = first_flat a h.1 in omega (arith, i)
first_flat (Then _ a) h = absurd h.0

-- ---- the tests of a scattered switch hold one list each

module _ (number : IntKind → ℤ → ExpressionTree) (k : IntKind) (v : ℕ) (n : Names) where
  test_for_depth : (x : ExpressionTree) → nesting (test_for number k v n x) ≤ 2
  test_for_depth x = at (case_number k x)
    where
      at : (o : Option ℤ) → nesting (option_map_or (λ z. one (If (Source (is_number k v (number k z))) (one (Goto (n (Some x)))) Nil)) o Nil) ≤ 2
      at None = omega arith
      at (Some z) = omega arith

  joined : (a b : Forest) → nesting a ≤ 2 → nesting b ≤ 2 → nesting (join a b) ≤ 2
  joined a b h g = let i = nesting-join a b in omega (arith, h, g, i)

  tests_for_depth : (es : List ExpressionTree) → nesting (tests_for number k v n es) ≤ 2
  tests_for_depth [] = omega arith
  tests_for_depth (e ∷ es) = joined (test_for number k v n e) (tests_for number k v n es) (test_for_depth e) (tests_for_depth es)

  mutual
    tests_depth : (a : Forest) → nesting (tests number k v n a) ≤ 2
    tests_depth Nil = omega arith
    tests_depth (Then x a) = joined (tests_in number k v n x) (tests number k v n a) (tests_in_depth x) (tests_depth a)

    tests_in_depth : (x : Tree) → nesting (tests_in number k v n x) ≤ 2
    tests_in_depth (If t a b) = joined (tests number k v n a) (tests number k v n b) (tests_depth a) (tests_depth b)
    tests_in_depth (While t a) = tests_depth a
    tests_in_depth (Do a t) = tests_depth a
    tests_in_depth (For f t u a) = tests_depth a
    tests_in_depth (Block a) = tests_depth a
    tests_in_depth (Arrival (Some e)) = test_for_depth e
    tests_in_depth _ = omega arith

  tests_among_depth : (d : Sections) → nesting (tests_among number k v n d) ≤ 2
  tests_among_depth NoSection = omega arith
  tests_among_depth (Section cases default a ends d) =
      joined (tests_for number k v n cases) (join (tests number k v n a) (tests_among number k v n d)) (tests_for_depth cases)
      (joined (tests number k v n a) (tests_among number k v n d) (tests_depth a) (tests_among_depth d))

-- ---- along the flat form

by_ending : (e : Ending) (x y : Forest) (n : ℕ) → nesting x ≤ n → nesting y ≤ n → nesting (if_breaks e x y) ≤ n
by_ending Breaks x y n h g = h
by_ending _ x y n h g = g

for_depth : (j : Bool) (t u : Option ExpressionTree) (a : Forest) (b c : Aim) → nesting (flat_for j t u a b c) ≤ 1 + nesting a
for_depth true t u a b c =
    let i = nesting-join a (join (mark_of c) (third_items u)) in
    let j = nesting-join (mark_of c) (third_items u) in
    let k = mark_flat c in
    let l = third_flat u in
    let m = mark_flat b in
    let s = nesting_some a in
    omega (arith, i, j, k, l, m, s)
for_depth false t u a b c = let i = nesting-join a (mark_of c) in let k = mark_flat c in let m = mark_flat b in let s = nesting_some a in
    omega (arith, i, k, m, s)

module _ (p : Plan) where
  loop_depth : (a : Forest) (b c : Aim) (n : ℕ) → nesting a ≤ n → max (1 + nesting (join a (mark_of c))) (nesting (mark_of b)) ≤ 1 + n
  loop_depth a b c n h = let i = nesting-join a (mark_of c) in let k = mark_flat c in let m = mark_flat b in let s = nesting_some a in
      omega (arith, h, i, k, m, s)

  mutual
    pub flat_depth : (h : Here) (b c : Aim) (r : Arrivals) (a : Forest) → Everywhere IsPlainItem a → nesting (flat p h b c r a) ≤ nesting a
    flat_depth h b c r Nil o = omega arith
    flat_depth h b c r (Then x xs) o =
        let i = item_depth h b c r x o.0 in
        let j = flat_depth (past_item x h) b c r xs o.1 in
        let k = nesting-join (flat_item p h b c r x) (flat p (past_item x h) b c r xs) in
        omega (arith, i, j, k)

    item_depth : (h : Here) (b c : Aim) (r : Arrivals) (x : Tree) → EverywhereOf IsPlainItem x → nesting (flat_item p h b c r x) ≤ 1 + nesting_of x
    item_depth h b c r (If t x y) o = let i = flat_depth h b c r x o.1 in let j = flat_depth (past x h) b c r y o.2 in omega (arith, i, j)
    item_depth h b c r (While t a) o =
        let B = aim (holds_jump p.live a) (breaks a) (p.break_label h.construct) in
        let C = aim (holds_jump p.live a) (continues a) (p.continue_label h.construct) in
        loop_depth (flat p (inside (While t a) h) B C r a) B C (nesting a) (flat_depth (inside (While t a) h) B C r a o.1)
    item_depth h b c r (Do a t) o =
        let B = aim (holds_jump p.live a) (breaks a) (p.break_label h.construct) in
        let C = aim (holds_jump p.live a) (continues a) (p.continue_label h.construct) in
        loop_depth (flat p (inside (Do a t) h) B C r a) B C (nesting a) (flat_depth (inside (Do a t) h) B C r a o.1)
    item_depth h b c r (For first t u a) o =
        let B = aim (holds_jump p.live a) (breaks a) (p.break_label h.construct) in
        let C = aim (holds_jump p.live a) (continues a) (p.continue_label h.construct) in
        let s = inside (For first t u a) h in
        let y = flat p (past first s) B C r a in
        let f = first_flat first o.0 in
        let i = flat_depth s b c NoArrival first o.1 in
        let j = for_depth (holds_jump p.live a) t u y B C in
        let l = flat_depth (past first s) B C r a o.2 in
        let k = nesting-join (flat p s b c NoArrival first) (flat_for (holds_jump p.live a) t u y B C) in
        omega (arith, f, i, j, l, k)
    item_depth h b c r (Block a) o = let i = flat_depth h b c r a o.1 in omega (arith, i)
    item_depth h b c r (Switch s d) o =
        let i = inside (Switch s d) h in
        let n = names_of p h (switch_kind s) d in
        let B = aim (is_jumpy_switch p c d) (kept_breaks p.live d) (p.break_label h.construct) in
        let y = spread p i (scatter_aim p h d) c n d in
        let t = tests_among p.number (switch_kind s) h.variable n d in
        let l = spread_depth i (scatter_aim p h d) c n d o.1 in
        let k = nesting-join t (Then (Goto (otherwise_label p h d)) y) in
        let e = sections_depth i (is_jumpy_switch p c d) B c d o.1 in
        let w = tests_among_depth p.number (switch_kind s) h.variable n d in
        let m = mark_flat B in
        let z = nesting_in_some d in
        cond_depth (is_scattered d) (dissolved p h s d y) (Then (Switch s (flat_sections p i (is_jumpy_switch p c d) B c d)) (mark_of B))
        (1 + nesting_in d) (omega (arith, l, k, w, z)) (omega (arith, e, m))
    item_depth h b c r (Local x None) o = omega arith
    item_depth h b c r (Local x (Some es)) o = let i = assigned_flat (entry_or no_slot p.slots x).kind x (entry_or no_slot p.slots x).cells es in
        omega (arith, i)
    item_depth h b c r Break o = let i = break_flat b in omega (arith, i)
    item_depth h b c r Continue o = let i = continue_flat c in omega (arith, i)
    item_depth h b c r (Goto l) o = omega arith
    item_depth h b c r (Mark l) o = let i = flag_flat (p.live l) (p.source l) in omega (arith, i)
    item_depth h b c r (Arrival x) o = let i = arrival_flat r x in omega (arith, i)
    item_depth h b c r (Evaluate x) o = omega arith
    item_depth h b c r (Return x) o = omega arith
    item_depth h b c r (Note bs) o = omega arith
    item_depth h b c r _ o = absurd o

    last_depth : (h : Here) (b c : Aim) (r : Arrivals) (a : Forest) → Everywhere IsPlainItem a → nesting (flat_last p h b c r a) ≤ nesting a
    last_depth h b c r Nil o = omega arith
    last_depth h b c r (Then x xs) o =
        let i = item_depth h b c r x o.0 in
        let j = last_depth (past_item x h) b c r xs o.1 in
        let k = nesting-join (flat_item p h b c r x) (flat_last p (past_item x h) b c r xs) in
        let l = last_item_depth h b c r x o.0 in
        cond_depth (is_gone (ending p.live xs)) (flat_last_item p h b c r x) (join (flat_item p h b c r x) (flat_last p (past_item x h) b c r xs))
        (max (1 + nesting_of x) (nesting xs)) (omega (arith, l)) (omega (arith, i, j, k))

    last_item_depth : (h : Here) (b c : Aim) (r : Arrivals) (x : Tree) → EverywhereOf IsPlainItem x → nesting (flat_last_item p h b c r x) ≤ 1 + nesting_of x
    last_item_depth h b c r (Block a) o = let i = last_depth h b c r a o.1 in omega (arith, i)
    last_item_depth h b c r _ o = omega arith

    sections_depth : (h : Here) (j : Bool) (b c : Aim) (d : Sections) → EverywhereIn IsPlainItem d → nesting_in (flat_sections p h j b c d) ≤ nesting_in d
    sections_depth h j b c NoSection o = omega arith
    sections_depth h j b c (Section cases default a ends d) o =
        let i = by_ending (ending p.live a) (flat_last p h b c NoArrival a) (flat p h b c NoArrival a) (nesting a) (last_depth h b c NoArrival a o.0)
        (flat_depth h b c NoArrival a o.0) in
        let k = sections_depth (past a h) j b c d o.1 in
        omega (arith, i, k)

    spread_depth : (h : Here) (b c : Aim) (n : Names) (d : Sections) → EverywhereIn IsPlainItem d → nesting (spread p h b c n d) ≤ nesting_in d
    spread_depth h b c n NoSection o = let i = mark_flat b in omega (arith, i)
    spread_depth h b c n (Section cases default a ends d) o =
        let x = flat p h b c (Arrives n) a in
        let y = spread p (past a h) b c n d in
        let i = flat_depth h b c (Arrives n) a o.0 in
        let j = spread_depth (past a h) b c n d o.1 in
        let k = nesting-join (case_marks n cases default) (join x (join (end_goto ends b) y)) in
        let l = nesting-join x (join (end_goto ends b) y) in
        let m = nesting-join (end_goto ends b) y in
        let e = end_flat ends b in
        let f = case_marks_flat n cases default in
        let s = nesting_some a in
        omega (arith, i, j, k, l, m, e, f, s)
