-- In the flat form each label stands at most once.
use Rattle.std.proofs.Common.{ℕ, zero, suc, ◌+◌, ◌-◌, ◌≤◌, ℤ, Bool, true, false, cond, eqb, List, [], ◌∷◌, ◌++◌, length, Option, Some, None, ◌≡◌, refl, arith}
use Rattle.c_types.specs.declared.kinds.IntKind.{IntKind}
use Rattle.c_tree.specs.ExpressionTrees.{ExpressionTree}
use Rattle.c_tree.specs.Cases.{case_number}
use Rattle.c_tree.specs.TestTrees.{Source}
use Rattle.c_tree.specs.Everywhere.{total, total_of, total_in}
use Rattle.c_tree.specs.Trees.{Tree, Forest, Nil, Then, Sections, NoSection, Section, If, While, Do, For, Switch, Block, Local, Break, Continue, Goto, Mark, Land, Arrival, join}
use Rattle.c_tree.specs.Changed.{one}
use Rattle.jump_meaning.specs.Step.{switch_kind}
use Rattle.std.specs.Option.{option_map_or}
use Rattle.flat_laws.specs.Pieces.{Aim, Stays, Becomes, Absent, mark_of, third_items, Names, case_marks, assigned_cells, is_number, test_for, tests_for, tests, tests_in, tests_among}
use Rattle.flat_laws.specs.Placed.{places, places_among}
use Rattle.flat_laws.specs.Loose.{Arrivals, NoArrival, Arrives}
use Rattle.c_tree.specs.Exits.{breaks, continues}
use Rattle.jump_meaning.specs.Code.{entry_or}
use Rattle.jump_meaning.specs.World.{no_slot}
use Rattle.flat_laws.specs.Parts.{arrivals, arrivals_in, leaves, kept_breaks, is_scattered, section_labels, switch_labels, holds_jump, Here, past, past_item, inside, Ending, Breaks, ending, is_gone}
use Rattle.flat_laws.specs.FlatForm.{Plan, names_of, scatter_aim, otherwise_label, aim, exit, end_goto, is_jumpy_switch, assigned, mark_if, arrival, dissolved, if_breaks, flat_for, flat, flat_item, flat_last, flat_last_item, flat_sections, spread}

abbrev pub one_if : Bool → ℕ
one_if b = cond b 1 0

-- ---- the labels of lists

pub places_join : (L : ℕ) (a b : Forest) → places L (join a b) ≡ places L a + places L b
places_join L Nil b = omega arith
places_join L (Then x a) b = let h = places_join L a b in omega (arith, h)

-- 1 for the label
abbrev bit : ℕ → ℕ → ℕ
bit L m = one_if (eqb L m)

pub aim_places : (L : ℕ) (j : Bool) (n l : ℕ) → places L (mark_of (aim j n l)) ≤ bit L l
aim_places L false n l = omega arith
aim_places L true zero l = omega arith
aim_places L true (suc n) l = omega arith

pub scatter_places : (L : ℕ) (b : Bool) (l : ℕ) → places L (mark_of (cond b (Becomes l) Absent)) ≤ bit L l
scatter_places L true l = omega arith
scatter_places L false l = omega arith

pub third_places : (L : ℕ) (u : Option ExpressionTree) → places L (third_items u) ≡ 0
third_places L None = refl
third_places L (Some e) = refl

cells_places : (L : ℕ) (k : IntKind) (x i : ℕ) (es : List ExpressionTree) (m : ℕ) → places L (assigned_cells k x i es m) ≡ 0
cells_places L k x i (e ∷ es) m = let h = cells_places L k x (suc i) es m in omega (arith, h)
cells_places L k x i [] zero = refl
cells_places L k x i [] (suc m) = let h = cells_places L k x (suc i) [] m in omega (arith, h)

pub assigned_places : (L : ℕ) (k : IntKind) (x : ℕ) (o : Option ℕ) (es : List ExpressionTree) → places L (assigned k x o es) ≡ 0
assigned_places L k x None [] = refl
assigned_places L k x None (e ∷ es) = refl
assigned_places L k x (Some n) es = cells_places L k x 0 es (n - length es)

module _ (L : ℕ) (number : IntKind → ℤ → ExpressionTree) (k : IntKind) (v : ℕ) (names : Names) where
  test_places : (e : ExpressionTree) → places L (test_for number k v names e) ≡ 0
  test_places e = at (case_number k e)
    where
      at : (o : Option ℤ) → places L (option_map_or (λ n. one (If (Source (is_number k v (number k n))) (one (Goto (names (Some e)))) Nil)) o Nil) ≡ 0
      at None = refl
      at (Some n) = refl

  tests_for_places : (es : List ExpressionTree) → places L (tests_for number k v names es) ≡ 0
  tests_for_places [] = refl
  tests_for_places (e ∷ es) =
      let h = places_join L (test_for number k v names e) (tests_for number k v names es) in
      let i = test_places e in
      let j = tests_for_places es in omega (arith, h, i, j)

  mutual
    tests_places : (a : Forest) → places L (tests number k v names a) ≡ 0
    tests_places Nil = refl
    tests_places (Then x a) =
        let h = places_join L (tests_in number k v names x) (tests number k v names a) in
        let i = tests_places_in x in
        let j = tests_places a in omega (arith, h, i, j)

    tests_places_in : (x : Tree) → places L (tests_in number k v names x) ≡ 0
    tests_places_in (If t a b) =
        let h = places_join L (tests number k v names a) (tests number k v names b) in
        let i = tests_places a in
        let j = tests_places b in omega (arith, h, i, j)
    tests_places_in (While t a) = tests_places a
    tests_places_in (Do a t) = tests_places a
    tests_places_in (For f t u a) = tests_places a
    tests_places_in (Block a) = tests_places a
    tests_places_in (Arrival None) = refl
    tests_places_in (Arrival (Some e)) = test_places e
    tests_places_in _ = refl

  pub tests_among_places : (d : Sections) → places L (tests_among number k v names d) ≡ 0
  tests_among_places NoSection = refl
  tests_among_places (Section cases default a ends d) =
      let h = places_join L (tests_for number k v names cases) (join (tests number k v names a) (tests_among number k v names d)) in
      let g = places_join L (tests number k v names a) (tests_among number k v names d) in
      let i = tests_for_places cases in
      let j = tests_places a in
      let l = tests_among_places d in omega (arith, h, g, i, j, l)

-- the labels of case labels
abbrev pub labelled : ℕ → Names → List (Option ExpressionTree) → ℕ
labelled L names [] = 0
labelled L names (e ∷ es) = one_if (eqb L (names e)) + labelled L names es

pub labelled_append : (L : ℕ) (names : Names) (xs ys : List (Option ExpressionTree)) → labelled L names (xs ++ ys) ≡ labelled L names xs + labelled L names ys
labelled_append L names [] ys = omega arith
labelled_append L names (e ∷ xs) ys = let h = labelled_append L names xs ys in omega (arith, h)

pub marks_places : (L : ℕ) (names : Names) (cases : List ExpressionTree) (default : Bool) →
    places L (case_marks names cases default) ≡ labelled L names (section_labels cases default)
marks_places L names [] true = refl
marks_places L names [] false = refl
marks_places L names (e ∷ es) default = let h = marks_places L names es default in omega (arith, h)

-- those of Arrivals
abbrev pub arrived : ℕ → Arrivals → List (Option ExpressionTree) → ℕ
arrived L NoArrival es = 0
arrived L (Arrives names) es = labelled L names es

pub arrived_append : (L : ℕ) (r : Arrivals) (xs ys : List (Option ExpressionTree)) → arrived L r (xs ++ ys) ≡ arrived L r xs + arrived L r ys
arrived_append L NoArrival xs ys = refl
arrived_append L (Arrives names) xs ys = labelled_append L names xs ys

-- ---- what the labels of a flat form are

-- the labels of the source that stay
abbrev pub sourced : ℕ → Plan → Tree → ℕ
sourced L p (Mark l) = one_if (eqb L (p.source l))
sourced L p (Land l) = one_if (eqb L l)
sourced L p _ = 0

-- the labels that a construct makes
abbrev pub makes : ℕ → Plan → Tree → Here → ℕ
makes L p (If t a b) h = 0
makes L p (Switch s d) h = cond (is_scattered d) (labelled L (names_of p h (switch_kind s) d) (switch_labels d)) 0 + one_if (eqb L (p.break_label h.construct))
makes L p x h = one_if (eqb L (p.break_label h.construct)) + one_if (eqb L (p.continue_label h.construct))

-- the numbers inside an `if`, loop or switch: an `if` has none of its own
abbrev pub within : Tree → Here → Here
within (If t a b) h = h
within x h = inside x h

-- the sum over all `if`s, loops and switches, each with its numbers
module _ (within : Tree → Here → Here) (past : Forest → Here → Here) (w : Tree → Here → ℕ) where
  abbrev mutual
    pub gathered : Here → Forest → ℕ
    gathered h Nil = 0
    gathered h (Then x xs) = gathered_in h x + gathered (past (one x) h) xs

    pub gathered_in : Here → Tree → ℕ
    gathered_in h (If t a b) = w (If t a b) h + (gathered (within (If t a b) h) a + gathered (past a (within (If t a b) h)) b)
    gathered_in h (While t a) = w (While t a) h + gathered (within (While t a) h) a
    gathered_in h (Do a t) = w (Do a t) h + gathered (within (Do a t) h) a
    gathered_in h (For first t u a) = w (For first t u a) h + (gathered (within (For first t u a) h) first + gathered
        (past first (within (For first t u a) h)) a)
    gathered_in h (Block a) = gathered h a
    gathered_in h (Switch s d) = w (Switch s d) h + gathered_among (within (Switch s d) h) d
    gathered_in h _ = 0

    pub gathered_among : Here → Sections → ℕ
    gathered_among h NoSection = 0
    gathered_among h (Section cases default a ends d) = gathered h a + gathered_among (past a h) d

le_cond : (L m : ℕ) (y : Bool) (a b : Forest) → places L a ≤ m → places L b ≤ m → places L (cond y a b) ≤ m
le_cond L m true a b h k = h
le_cond L m false a b h k = k

le_switch : (L lab m : ℕ) (y : Bool) (a b : Forest) → places L a ≤ lab + m → places L b ≤ m → places L (cond y a b) ≤ cond y lab 0 + m
le_switch L lab m true a b h k = h
le_switch L lab m false a b h k = omega (arith, k)

le_breaks : (L m : ℕ) (e : Ending) (a b : Forest) → places L a ≤ m → places L b ≤ m → places L (if_breaks e a b) ≤ m
le_breaks L m Breaks a b h k = h
le_breaks L m _ a b h k = k

pub exit_break : (L : ℕ) (b : Aim) → places L (exit b Break) ≡ 0
exit_break L Stays = refl
exit_break L (Becomes l) = refl
exit_break L Absent = refl

pub exit_continue : (L : ℕ) (b : Aim) → places L (exit b Continue) ≡ 0
exit_continue L Stays = refl
exit_continue L (Becomes l) = refl
exit_continue L Absent = refl

pub mark_places : (L l : ℕ) (y : Bool) → places L (mark_if y l) ≤ one_if (eqb L l)
mark_places L l true = omega arith
mark_places L l false = omega arith

pub arrival_places : (L : ℕ) (r : Arrivals) (e : Option ExpressionTree) → places L (arrival r e) ≤ arrived L r (e ∷ [])
arrival_places L NoArrival e = omega arith
arrival_places L (Arrives names) e = omega arith

pub end_places : (L : ℕ) (y : Bool) (b : Aim) (ys : Forest) → places L (join (end_goto y b) ys) ≡ places L ys
end_places L true Stays ys = refl
end_places L true (Becomes l) ys = omega arith
end_places L true Absent ys = refl
end_places L false b ys = refl

pub for_places : (L : ℕ) (y : Bool) (t u : Option ExpressionTree) (a : Forest) (b c : Aim) →
    places L (flat_for y t u a b c) ≡ places L a + places L (mark_of c) + places L (mark_of b)
for_places L true t u a b c =
    let h = places_join L a (join (mark_of c) (third_items u)) in
    let i = places_join L (mark_of c) (third_items u) in
    let j = third_places L u in omega (arith, h, i, j)
for_places L false t u a b c = let h = places_join L a (mark_of c) in omega (arith, h)

module _ (L : ℕ) (p : Plan) where
  abbrev bound : Here → Arrivals → Forest → ℕ
  bound h r xs = total (sourced L p) xs + gathered within past (makes L p) h xs + arrived L r (arrivals xs)

  abbrev bound_in : Here → Arrivals → Tree → ℕ
  bound_in h r x = total_of (sourced L p) x + gathered_in within past (makes L p) h x + arrived L r (arrivals_in x)

  mutual
    pub bounded : (xs : Forest) (h : Here) (b c : Aim) (r : Arrivals) → places L (flat p h b c r xs) ≤ bound h r xs
    bounded Nil h b c r = omega arith
    bounded (Then x xs) h b c r =
        let i = bounded_in x h b c r in
        let j = bounded xs (past_item x h) b c r in
        let k = places_join L (flat_item p h b c r x) (flat p (past_item x h) b c r xs) in
        let l = arrived_append L r (arrivals_in x) (arrivals xs) in omega (arith, i, j, k, l)

    bounded_in : (x : Tree) (h : Here) (b c : Aim) (r : Arrivals) → places L (flat_item p h b c r x) ≤ bound_in h r x
    bounded_in (If t x y) h b c r =
        let i = bounded x h b c r in
        let j = bounded y (past x h) b c r in
        let l = arrived_append L r (arrivals x) (arrivals y) in omega (arith, i, j, l)
    bounded_in (While t a) h b c r =
        let m = aim (holds_jump p.live a) (breaks a) (p.break_label h.construct) in
        let n = aim (holds_jump p.live a) (continues a) (p.continue_label h.construct) in
        let h' = inside (While t a) h in
        let i = bounded a h' m n r in
        let j = places_join L (flat p h' m n r a) (mark_of n) in
        let k = aim_places L (holds_jump p.live a) (breaks a) (p.break_label h.construct) in
        let l = aim_places L (holds_jump p.live a) (continues a) (p.continue_label h.construct) in omega (arith, i, j, k, l)
    bounded_in (Do a t) h b c r =
        let m = aim (holds_jump p.live a) (breaks a) (p.break_label h.construct) in
        let n = aim (holds_jump p.live a) (continues a) (p.continue_label h.construct) in
        let h' = inside (Do a t) h in
        let i = bounded a h' m n r in
        let j = places_join L (flat p h' m n r a) (mark_of n) in
        let k = aim_places L (holds_jump p.live a) (breaks a) (p.break_label h.construct) in
        let l = aim_places L (holds_jump p.live a) (continues a) (p.continue_label h.construct) in omega (arith, i, j, k, l)
    bounded_in (For first t u a) h b c r =
        let m = aim (holds_jump p.live a) (breaks a) (p.break_label h.construct) in
        let n = aim (holds_jump p.live a) (continues a) (p.continue_label h.construct) in
        let h' = inside (For first t u a) h in
        let fa = flat p (past first h') m n r a in
        let i = bounded first h' b c NoArrival in
        let j = bounded a (past first h') m n r in
        let k = places_join L (flat p h' b c NoArrival first) (flat_for (holds_jump p.live a) t u fa m n) in
        let l = for_places L (holds_jump p.live a) t u fa m n in
        let o = aim_places L (holds_jump p.live a) (breaks a) (p.break_label h.construct) in
        let q = aim_places L (holds_jump p.live a) (continues a) (p.continue_label h.construct) in omega (arith, i, j, k, l, o, q)
    bounded_in (Block a) h b c r = let i = bounded a h b c r in omega (arith, i)
    bounded_in (Local x None) h b c r = omega arith
    bounded_in (Local x (Some es)) h b c r = let i = assigned_places L (entry_or no_slot p.slots x).kind x (entry_or no_slot p.slots x).cells es in
        omega (arith, i)
    bounded_in Break h b c r = let i = exit_break L b in omega (arith, i)
    bounded_in Continue h b c r = let i = exit_continue L c in omega (arith, i)
    bounded_in (Goto l) h b c r = omega arith
    bounded_in (Mark l) h b c r = let i = mark_places L (p.source l) (p.live l) in omega (arith, i)
    bounded_in (Arrival e) h b c r = let i = arrival_places L r e in omega (arith, i)
    bounded_in (Switch s d) h b c r =
        let names = names_of p h (switch_kind s) d in
        let h' = inside (Switch s d) h in
        let lab = labelled L names (switch_labels d) in
        let brk = one_if (eqb L (p.break_label h.construct)) in
        let rest = total_in (sourced L p) d + gathered_among within past (makes L p) h' d in
        let y = is_jumpy_switch p c d in
        let m = aim y (kept_breaks p.live d) (p.break_label h.construct) in
        let sp = spread p h' (scatter_aim p h d) c names d in
        let i = bounded_spread d h' (scatter_aim p h d) c names in
        let j = scatter_places L (leaves d) (p.break_label h.construct) in
        let ts = tests_among p.number (switch_kind s) h.variable names d in
        let k = places_join L ts (Then (Goto (otherwise_label p h d)) sp) in
        let l = tests_among_places L p.number (switch_kind s) h.variable names d in
        let n = bounded_among d h' y m c in
        let o = aim_places L y (kept_breaks p.live d) (p.break_label h.construct) in
        let z = le_switch L lab (brk + rest) (is_scattered d) (dissolved p h s d sp) (Then (Switch s (flat_sections p h' y m c d)) (mark_of m))
        (omega (arith, i, j, k, l)) (omega (arith, n, o)) in omega (arith, z)
    bounded_in _ h b c r = omega arith

    bounded_among : (d : Sections) (h : Here) (y : Bool) (b c : Aim) →
        places_among L (flat_sections p h y b c d) ≤ total_in (sourced L p) d + gathered_among within past (makes L p) h d
    bounded_among NoSection h y b c = omega arith
    bounded_among (Section cases default a ends d) h y b c =
        let i = bounded_last a h b c NoArrival in
        let j = bounded a h b c NoArrival in
        let k = le_breaks L (bound h NoArrival a) (ending p.live a) (flat_last p h b c NoArrival a) (flat p h b c NoArrival a) i j in
        let l = bounded_among d (past a h) y b c in omega (arith, k, l)

    bounded_spread : (d : Sections) (h : Here) (b c : Aim) (names : Names) →
        places L (spread p h b c names d) ≤ places L (mark_of b) + (total_in (sourced L p) d + gathered_among within past (makes L p) h d) + labelled
        L names (switch_labels d)
    bounded_spread NoSection h b c names = omega arith
    bounded_spread (Section cases default a ends d) h b c names =
        let fa = flat p h b c (Arrives names) a in
        let sp = spread p (past a h) b c names d in
        let i = bounded a h b c (Arrives names) in
        let j = bounded_spread d (past a h) b c names in
        let k = places_join L (case_marks names cases default) (join fa (join (end_goto ends b) sp)) in
        let l = places_join L fa (join (end_goto ends b) sp) in
        let m = end_places L ends b sp in
        let n = marks_places L names cases default in
        let o = labelled_append L names (section_labels cases default) (arrivals a ++ switch_labels d) in
        let q = labelled_append L names (arrivals a) (switch_labels d) in omega (arith, i, j, k, l, m, n, o, q)

    bounded_last : (xs : Forest) (h : Here) (b c : Aim) (r : Arrivals) → places L (flat_last p h b c r xs) ≤ bound h r xs
    bounded_last Nil h b c r = omega arith
    bounded_last (Then x xs) h b c r =
        let i = bounded_last_item x h b c r in
        let j = bounded_in x h b c r in
        let k = bounded_last xs (past_item x h) b c r in
        let l = places_join L (flat_item p h b c r x) (flat_last p (past_item x h) b c r xs) in
        let m = arrived_append L r (arrivals_in x) (arrivals xs) in
        le_cond L (bound h r (Then x xs)) (is_gone (ending p.live xs)) (flat_last_item p h b c r x)
        (join (flat_item p h b c r x) (flat_last p (past_item x h) b c r xs)) (omega (arith, i, m)) (omega (arith, j, k, l, m))

    bounded_last_item : (x : Tree) (h : Here) (b c : Aim) (r : Arrivals) → places L (flat_last_item p h b c r x) ≤ bound_in h r x
    bounded_last_item (Block a) h b c r = let i = bounded_last a h b c r in omega (arith, i)
    bounded_last_item _ h b c r = omega arith
