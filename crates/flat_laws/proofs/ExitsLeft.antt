-- A flat list has no more exits bound outward than its source, and none that became a goto.
use Rattle.std.proofs.Common.{ℕ, zero, suc, ◌+◌, ◌-◌, ◌≤◌, Bool, true, false, not, cond, ◌||◌, List, [], ◌∷◌, length, Option, Some, None, ◌≡◌, refl, arith}
use Rattle.c_types.specs.declared.kinds.IntKind.{IntKind}
use Rattle.c_tree.specs.ExpressionTrees.{ExpressionTree}
use Rattle.c_tree.specs.TestTrees.{Source}
use Rattle.c_tree.specs.Cases.{selector_source}
use Rattle.c_tree.specs.Exits.{breaks, breaks_of, breaks_in, continues, continues_of, continues_in}
use Rattle.c_tree.specs.Trees.{Tree, Forest, Nil, Then, Sections, NoSection, Section, Evaluate, Return, If, While, Do, For, Switch, Block, Local, Break, Continue, Goto, Mark, Arm, Leap, Land, Arrival, Note, join}
use Rattle.c_tree.specs.Changed.{one}
use Rattle.jump_meaning.specs.Code.{entry_or}
use Rattle.jump_meaning.specs.World.{no_slot}
use Rattle.jump_meaning.specs.Step.{switch_kind}
use Rattle.flat_laws.specs.Pieces.{Aim, Stays, Becomes, Absent, mark_of, test_or_one, with_third, assign_number, Names, tests_among, case_marks}
use Rattle.flat_laws.specs.Loose.{Arrivals, NoArrival, Arrives}
use Rattle.flat_laws.proofs.Exits.{Free, free_join, stay_join, joined, mark_free, cells_free, marks_free, tests_among_free}
use Rattle.flat_laws.specs.Parts.{is_some_number, is_scattered, switch_labels, has_default, ends_some, holds_jump, Here, past, past_item, inside, Ending, Breaks, ending, is_gone, trimmed, trimmed_item, section_list, kept_breaks}
use Rattle.flat_laws.specs.FlatForm.{Plan, names_of, scatter_aim, otherwise_label, end_goto, aim, exit, is_jumpy_switch, assigned, mark_if, arrival, dissolved, if_breaks, flat_for, flat, flat_item, flat_last, flat_last_item, flat_sections, spread}

-- how many of n exits are left
abbrev pub left : Aim → ℕ → ℕ
left Stays n = n
left (Becomes l) n = 0
left Absent n = n

left_plus : (b : Aim) (m n : ℕ) → left b (m + n) ≡ left b m + left b n
left_plus Stays m n = refl
left_plus (Becomes l) m n = refl
left_plus Absent m n = refl

pub aim_left : (n l : ℕ) → left (aim true n l) n ≡ 0
aim_left zero l = refl
aim_left (suc n) l = refl

scatter_left : (x y : Bool) (n l : ℕ) → left (cond (x || y || is_some_number n) (Becomes l) Absent) n ≡ 0
scatter_left true y n l = refl
scatter_left false true n l = refl
scatter_left false false zero l = refl
scatter_left false false (suc n) l = refl

-- of m breaks and n continues no more are there than are left
abbrev pub Fewer : Aim → Aim → ℕ → ℕ → Forest → Type 0
Fewer b c m n ys = (breaks ys ≤ left b m) × (continues ys ≤ left c n)

fewer_free : (b c : Aim) (m n : ℕ) (ys : Forest) → Free ys → Fewer b c m n ys
fewer_free b c m n ys f = (let h = f.0 in omega (arith, h), let h = f.1 in omega (arith, h))

fewer_join : (b c : Aim) (m n m' n' : ℕ) (xs ys : Forest) → Fewer b c m n xs → Fewer b c m' n' ys → Fewer b c (m + m') (n + n') (join xs ys)
fewer_join b c m n m' n' xs ys f g = (
  let e = free_join xs ys in let i = f.0 in let j = g.0 in let k = left_plus b m m' in omega (arith, e, i, j, k),
  let e = stay_join xs ys in let i = f.1 in let j = g.1 in let k = left_plus c n n' in omega (arith, e, i, j, k),
)

fewer_then : (b c : Aim) (m n : ℕ) (xs ys : Forest) → Fewer b c m n xs → Free ys → Fewer b c m n (join xs ys)
fewer_then b c m n xs ys f g = (
  let e = free_join xs ys in let i = f.0 in let j = g.0 in omega (arith, e, i, j),
  let e = stay_join xs ys in
      let i = f.1 in let j = g.1 in omega (arith, e, i, j),
)

fewer_after : (b c : Aim) (m n : ℕ) (xs ys : Forest) → Free xs → Fewer b c m n ys → Fewer b c m n (join xs ys)
fewer_after b c m n xs ys f g = (
  let e = free_join xs ys in let i = f.0 in let j = g.0 in omega (arith, e, i, j),
  let e = stay_join xs ys in
      let i = f.1 in let j = g.1 in omega (arith, e, i, j),
)

fewer_if : (b c : Aim) (m n : ℕ) (y : Bool) (xs ys : Forest) → Fewer b c m n xs → Fewer b c m n ys → Fewer b c m n (cond y xs ys)
fewer_if b c m n true xs ys f g = f
fewer_if b c m n false xs ys f g = g

fewer_more : (b c : Aim) (m n n' : ℕ) (ys : Forest) → Fewer b c m n ys → Fewer b c m (n + n') ys
fewer_more b c m n n' ys f = (f.0, let i = f.1 in let k = left_plus c n n' in omega (arith, i, k))

assigned_free : (k : IntKind) (x : ℕ) (o : Option ℕ) (es : List ExpressionTree) → Free (assigned k x o es)
assigned_free k x None [] = (refl, refl)
assigned_free k x None (e ∷ es) = (refl, refl)
assigned_free k x (Some n) es = cells_free k x 0 es (n - length es)

for_free : (y : Bool) (t u : Option ExpressionTree) (a : Forest) (b c : Aim) → Free (flat_for y t u a b c)
for_free true t u a b c = joined (one (While (Source (test_or_one t)) (with_third a c u))) (mark_of b) (refl, refl) (mark_free b)
for_free false t u a b c = joined (one (For Nil t u (join a (mark_of c)))) (mark_of b) (refl, refl) (mark_free b)

if_free : (y : Bool) (l : ℕ) → Free (mark_if y l)
if_free true l = (refl, refl)
if_free false l = (refl, refl)

arrival_free : (r : Arrivals) (e : Option ExpressionTree) → Free (arrival r e)
arrival_free NoArrival e = (refl, refl)
arrival_free (Arrives names) e = (refl, refl)

end_free : (y : Bool) (b : Aim) → Free (end_goto y b)
end_free true Stays = (refl, refl)
end_free true (Becomes l) = (refl, refl)
end_free true Absent = (refl, refl)
end_free false b = (refl, refl)

break_fewer : (b c : Aim) → Fewer b c 1 0 (exit b Break)
break_fewer Stays c = (omega arith, omega arith)
break_fewer (Becomes l) c = (omega arith, omega arith)
break_fewer Absent c = (omega arith, omega arith)

continue_fewer : (b c : Aim) → Fewer b c 0 1 (exit c Continue)
continue_fewer b Stays = (omega arith, omega arith)
continue_fewer b (Becomes l) = (omega arith, omega arith)
continue_fewer b Absent = (omega arith, omega arith)

module _ (p : Plan) where
  section_fewer : (b c : Aim) (a xs ys : Forest) (e : Ending) → Fewer b c (breaks (trimmed p.live a)) (continues a) xs →
      Fewer b c (breaks a) (continues a) ys → Fewer b c (breaks (section_list p.live a e)) (continues a) (if_breaks e xs ys)
  section_fewer b c a xs ys Breaks f g = f
  section_fewer b c a xs ys _ f g = g

  last_fewer : (b c : Aim) (n : ℕ) (u v xs ys : Forest) (y : Bool) → Fewer b c (breaks u) n xs → Fewer b c (breaks v) n ys →
      Fewer b c (breaks (cond y u v)) n (cond y xs ys)
  last_fewer b c n u v xs ys true f g = f
  last_fewer b c n u v xs ys false f g = g

  mutual
    pub fewer : (xs : Forest) (h : Here) (b c : Aim) (r : Arrivals) → Fewer b c (breaks xs) (continues xs) (flat p h b c r xs)
    fewer Nil h b c r = fewer_free b c 0 0 Nil (refl, refl)
    fewer (Then x xs) h b c r = fewer_join b c (breaks_of x) (continues_of x) (breaks xs) (continues xs) (flat_item p h b c r x)
        (flat p (past_item x h) b c r xs) (fewer_in x h b c r) (fewer xs (past_item x h) b c r)

    fewer_in : (x : Tree) (h : Here) (b c : Aim) (r : Arrivals) → Fewer b c (breaks_of x) (continues_of x) (flat_item p h b c r x)
    fewer_in (If t x y) h b c r =
        let f = fewer x h b c r in
        let g = fewer y (past x h) b c r in (
          let i = f.0 in let j = g.0 in let k = left_plus b (breaks x) (breaks y) in omega (arith, i, j, k),
          let i = f.1 in let j = g.1 in
              let k = left_plus c (continues x) (continues y) in omega (arith, i, j, k),
        )
    fewer_in (While t a) h b c r =
        let m = aim (holds_jump p.live a) (breaks a) (p.break_label h.construct) in
        let n = aim (holds_jump p.live a) (continues a) (p.continue_label h.construct) in
        let z = one (While t (join (flat p (inside (While t a) h) m n r a) (mark_of n))) in
        fewer_free b c 0 0 (join z (mark_of m)) (joined z (mark_of m) (refl, refl) (mark_free m))
    fewer_in (Do a t) h b c r =
        let m = aim (holds_jump p.live a) (breaks a) (p.break_label h.construct) in
        let n = aim (holds_jump p.live a) (continues a) (p.continue_label h.construct) in
        let z = one (Do (join (flat p (inside (Do a t) h) m n r a) (mark_of n)) t) in
        fewer_free b c 0 0 (join z (mark_of m)) (joined z (mark_of m) (refl, refl) (mark_free m))
    fewer_in (For first t u a) h b c r =
        let m = aim (holds_jump p.live a) (breaks a) (p.break_label h.construct) in
        let n = aim (holds_jump p.live a) (continues a) (p.continue_label h.construct) in
        let h' = inside (For first t u a) h in
        let fa = flat p (past first h') m n r a in
        fewer_then b c (breaks first) (continues first) (flat p h' b c NoArrival first) (flat_for (holds_jump p.live a) t u fa m n)
        (fewer first h' b c NoArrival) (for_free (holds_jump p.live a) t u fa m n)
    fewer_in (Block a) h b c r = fewer a h b c r
    fewer_in (Local x None) h b c r = fewer_free b c 0 0 Nil (refl, refl)
    fewer_in (Local x (Some es)) h b c r =
        let k = (entry_or no_slot p.slots x).kind in
        let o = (entry_or no_slot p.slots x).cells in fewer_free b c 0 0 (assigned k x o es) (assigned_free k x o es)
    fewer_in Break h b c r = break_fewer b c
    fewer_in Continue h b c r = continue_fewer b c
    fewer_in (Goto l) h b c r = fewer_free b c 0 0 (one (Goto (p.source l))) (refl, refl)
    fewer_in (Mark l) h b c r = fewer_free b c 0 0 (mark_if (p.live l) (p.source l)) (if_free (p.live l) (p.source l))
    fewer_in (Arrival e) h b c r = fewer_free b c 0 0 (arrival r e) (arrival_free r e)
    fewer_in (Switch s d) h b c r =
        let names = names_of p h (switch_kind s) d in
        let h' = inside (Switch s d) h in
        let w = scatter_aim p h d in
        let sp = spread p h' w c names d in
        let ts = tests_among p.number (switch_kind s) h.variable names d in
        let v = Evaluate (assign_number (switch_kind s) h.variable (selector_source s)) in
        let y = is_jumpy_switch p c d in
        let m = aim y (kept_breaks p.live d) (p.break_label h.construct) in
        let f = fewer_spread d h' w c names in
        let g = fewer_among d h' y m c in
        let i = scatter_left (not (has_default (switch_labels d))) (ends_some d) (breaks_in d) (p.break_label h.construct) in
        fewer_if b c 0 (continues_in d) (is_scattered d) (dissolved p h s d sp) (Then (Switch s (flat_sections p h' y m c d)) (mark_of m))
        (fewer_after b c 0 (continues_in d) (Then v ts) (Then (Goto (otherwise_label p h d)) sp)
        (joined (one v) ts (refl, refl) (tests_among_free p.number (switch_kind s) h.variable names d))
        (let j = f.0 in omega (arith, i, j), let j = f.1 in omega (arith, j)))
        (let j = (mark_free m).0 in omega (arith, j), let j = (mark_free m).1 in let k = g.1 in omega (arith, j, k))
    fewer_in (Evaluate e) h b c r = fewer_free b c 0 0 (one (Evaluate e)) (refl, refl)
    fewer_in (Return e) h b c r = fewer_free b c 0 0 (one (Return e)) (refl, refl)
    fewer_in (Arm l e) h b c r = fewer_free b c 0 0 (one (Arm l e)) (refl, refl)
    fewer_in (Leap l) h b c r = fewer_free b c 0 0 (one (Leap l)) (refl, refl)
    fewer_in (Land l) h b c r = fewer_free b c 0 0 (one (Land l)) (refl, refl)
    fewer_in (Note bs) h b c r = fewer_free b c 0 0 (one (Note bs)) (refl, refl)

    pub fewer_among : (d : Sections) (h : Here) (y : Bool) (b c : Aim) →
        (breaks_in (flat_sections p h y b c d) ≤ left b (kept_breaks p.live d)) × (continues_in (flat_sections p h y b c d) ≤ left c (continues_in d))
    fewer_among NoSection h y b c = (omega arith, omega arith)
    fewer_among (Section cases default a ends d) h y b c =
        let e = ending p.live a in
        let l = section_list p.live a e in
        let f = section_fewer b c a (flat_last p h b c NoArrival a) (flat p h b c NoArrival a) e (fewer_last a h b c NoArrival) (fewer a h b c NoArrival) in
        let g = fewer_among d (past a h) y b c in (
          let i = f.0 in let j = g.0 in let k = left_plus b (breaks l) (kept_breaks p.live d) in omega (arith, i, j, k),
          let i = f.1 in let j = g.1 in
              let k = left_plus c (continues a) (continues_in d) in omega (arith, i, j, k),
        )

    fewer_spread : (d : Sections) (h : Here) (b c : Aim) (names : Names) → Fewer b c (breaks_in d) (continues_in d) (spread p h b c names d)
    fewer_spread NoSection h b c names = fewer_free b c 0 0 (mark_of b) (mark_free b)
    fewer_spread (Section cases default a ends d) h b c names =
        let fa = flat p h b c (Arrives names) a in
        let sp = spread p (past a h) b c names d in
        fewer_after b c (breaks a + breaks_in d) (continues a + continues_in d) (case_marks names cases default) (join fa (join (end_goto ends b) sp))
        (marks_free names cases default)
        (fewer_join b c (breaks a) (continues a) (breaks_in d) (continues_in d) fa (join (end_goto ends b) sp) (fewer a h b c (Arrives names))
        (fewer_after b c (breaks_in d) (continues_in d) (end_goto ends b) sp (end_free ends b) (fewer_spread d (past a h) b c names)))

    fewer_last : (xs : Forest) (h : Here) (b c : Aim) (r : Arrivals) → Fewer b c (breaks (trimmed p.live xs)) (continues xs) (flat_last p h b c r xs)
    fewer_last Nil h b c r = fewer_free b c 0 0 Nil (refl, refl)
    fewer_last (Then x xs) h b c r =
        last_fewer b c (continues_of x + continues xs) (trimmed_item p.live x) (Then x (trimmed p.live xs)) (flat_last_item p h b c r x)
        (join (flat_item p h b c r x) (flat_last p (past_item x h) b c r xs)) (is_gone (ending p.live xs))
        (fewer_more b c (breaks (trimmed_item p.live x)) (continues_of x) (continues xs) (flat_last_item p h b c r x) (fewer_last_item x h b c r))
        (fewer_join b c (breaks_of x) (continues_of x) (breaks (trimmed p.live xs)) (continues xs) (flat_item p h b c r x)
        (flat_last p (past_item x h) b c r xs) (fewer_in x h b c r) (fewer_last xs (past_item x h) b c r))

    fewer_last_item : (x : Tree) (h : Here) (b c : Aim) (r : Arrivals) →
        Fewer b c (breaks (trimmed_item p.live x)) (continues_of x) (flat_last_item p h b c r x)
    fewer_last_item (Block a) h b c r = let f = fewer_last a h b c r in
        (let i = f.0 in let k = left_plus b (breaks (trimmed p.live a)) 0 in omega (arith, i, k), f.1)
    fewer_last_item x h b c r = fewer_free b c (breaks (trimmed_item p.live x)) (continues_of x) Nil (refl, refl)
