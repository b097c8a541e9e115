-- The gotos of a flat form are those that its items give.
use Rattle.std.proofs.Common.{◌≡◌, ℕ, zero, suc, ◌+◌, ℤ, Bool, true, false, cond, not, ◌||◌, ◌&&◌, List, [], ◌∷◌, ◌++◌, length, Option, Some, None, refl, sym, ap, ◌∙◌, arith}
use Rattle.std.specs.Option.{option_map_or}
use Rattle.std.specs.Prelude.{is_some}
use Rattle.c_types.specs.declared.kinds.IntKind.{IntKind}
use Rattle.c_tree.specs.declared.tree.Slot.{Slot}
use Rattle.c_tree.specs.Cases.{case_number}
use Rattle.c_tree.specs.Changed.{one}
use Rattle.c_tree.specs.Everywhere.{total, total_in}
use Rattle.c_tree.specs.Exits.{breaks, breaks_of, breaks_in, continues, continues_of, continues_in}
use Rattle.c_tree.specs.ExpressionTrees.{ExpressionTree}
use Rattle.c_tree.specs.Numerals.{constant}
use Rattle.c_tree.specs.TestTrees.{Source}
use Rattle.c_tree.specs.Trees.{Tree, Forest, Nil, Then, Sections, NoSection, Section, If, While, Do, For, Switch, Block, Local, Break, Continue, Goto, Mark, Arrival, join}
use Rattle.c_tree.proofs.KeptLemmas.{total-join}
use Rattle.jump_meaning.specs.Code.{entry_or}
use Rattle.jump_meaning.specs.World.{no_slot}
use Rattle.jump_meaning.specs.Step.{switch_kind}
use Rattle.flat_laws.specs.Pieces.{Aim, Stays, Becomes, Absent, mark_of, third_items, assigned_cells, Names, is_number, test_for, tests_for, tests, tests_in, tests_among, case_marks}
use Rattle.flat_laws.specs.Loose.{Arrivals, NoArrival, Arrives}
use Rattle.flat_laws.specs.Parts.{is_some_number, arrivals, arrivals_in, is_scattered, section_labels, switch_labels, cases_among, has_default, ends_some, leaves, holds_jump, kept_breaks, section_list, trimmed, trimmed_item}
use Rattle.flat_laws.specs.Parts.{Here, past, past_item, inside, Ending, Gone, Breaks, ending, ending_of, last_ending, is_gone}
use Rattle.flat_laws.specs.FlatForm.{Plan, names_of, scatter_aim, otherwise_label, end_goto, aim, exit, is_moved, is_jumpy_switch, assigned, mark_if, arrival, dissolved, if_breaks, flat_for, flat, flat_item, flat_last, flat_last_item}
use Rattle.flat_laws.specs.FlatForm.{flat_sections, spread, coded, numbered, first_here, flat_body, marks}
use Rattle.flat_laws.proofs.SameCounts.{weight}
use Rattle.flat_laws.proofs.Stand.{later_else, later_last, later_gone, switch_no_break, switch_stays, gone_or_no_break}
use Rattle.c_resolved_laws.specs.Counts.{goto_of, tested, section_ends, gotos_in, summed, summed_of, summed_in, gotos_of}
use Rattle.c_resolved_laws.proofs.Measures.{goto_weights}

abbrev gotos : Forest → ℕ
gotos a = total (weight 1 0) a

both : (a b : Forest) → gotos (join a b) ≡ gotos a + gotos b
both a b = total-join (weight 1 0) a b

-- ---- exits

-- how many of so many exits become gotos
abbrev exits : Aim → ℕ → ℕ
exits Stays n = 0
exits (Becomes l) n = n
exits Absent n = 0

exits_sum : (b : Aim) (m n : ℕ) → exits b (m + n) ≡ exits b m + exits b n
exits_sum Stays m n = refl
exits_sum (Becomes l) m n = refl
exits_sum Absent m n = refl

exits_none : (b : Aim) → exits b 0 ≡ 0
exits_none Stays = refl
exits_none (Becomes l) = refl
exits_none Absent = refl

break_becomes : (b : Aim) → gotos (exit b Break) ≡ exits b 1
break_becomes Stays = refl
break_becomes (Becomes l) = refl
break_becomes Absent = refl

continue_becomes : (b : Aim) → gotos (exit b Continue) ≡ exits b 1
continue_becomes Stays = refl
continue_becomes (Becomes l) = refl
continue_becomes Absent = refl

aim_exits : (j : Bool) (n l : ℕ) → exits (aim j n l) n ≡ cond j n 0
aim_exits false n l = refl
aim_exits true zero l = refl
aim_exits true (suc n) l = refl

pub aim_moved : (j : Bool) (n l : ℕ) → is_moved (aim j n l) ≡ j
aim_moved false n l = refl
aim_moved true zero l = refl
aim_moved true (suc n) l = refl

pub cond_sum : (j : Bool) (m n : ℕ) → cond j (m + n) 0 ≡ cond j m 0 + cond j n 0
cond_sum true m n = refl
cond_sum false m n = refl

-- ---- parts without gotos

no_mark : (b : Aim) → gotos (mark_of b) ≡ 0
no_mark Stays = refl
no_mark (Becomes l) = refl
no_mark Absent = refl

no_flag : (q : Bool) (l : ℕ) → gotos (mark_if q l) ≡ 0
no_flag true l = refl
no_flag false l = refl

no_arrival : (r : Arrivals) (e : Option ExpressionTree) → gotos (arrival r e) ≡ 0
no_arrival NoArrival e = refl
no_arrival (Arrives n) e = refl

no_third : (u : Option ExpressionTree) → gotos (third_items u) ≡ 0
no_third None = refl
no_third (Some e) = refl

no_cells : (k : IntKind) (x i : ℕ) (es : List ExpressionTree) (m : ℕ) → gotos (assigned_cells k x i es m) ≡ 0
no_cells k x i (e ∷ es) m = let h = no_cells k x (suc i) es m in omega (arith, h)
no_cells k x i [] zero = refl
no_cells k x i [] (suc m) = let h = no_cells k x (suc i) [] m in omega (arith, h)

no_assigned : (k : IntKind) (x : ℕ) (o : Option ℕ) (es : List ExpressionTree) → gotos (assigned k x o es) ≡ 0
no_assigned k x None [] = refl
no_assigned k x None (e ∷ es) = refl
no_assigned k x (Some n) es = no_cells k x 0 es _

no_case : (n : Names) (es : List ExpressionTree) (default : Bool) → gotos (case_marks n es default) ≡ 0
no_case n [] true = refl
no_case n [] false = refl
no_case n (e ∷ es) default = let h = no_case n es default in omega (arith, h)

end_gotos : (q : Bool) (b : Aim) → gotos (end_goto q b) ≡ exits b (cond q 1 0)
end_gotos true Stays = refl
end_gotos true (Becomes l) = refl
end_gotos true Absent = refl
end_gotos false b = sym (exits_none b)

for_gotos : (j : Bool) (t u : Option ExpressionTree) (a : Forest) (b c : Aim) → gotos (flat_for j t u a b c) ≡ gotos a
for_gotos true t u a b c =
    let e = both a (join (mark_of c) (third_items u)) in
    let f = both (mark_of c) (third_items u) in
    let g = no_third u in
    let h = no_mark b in
    let i = no_mark c in
    omega (arith, e, f, g, h, i)
for_gotos false t u a b c =
    let e = both a (mark_of c) in
    let h = no_mark b in
    let i = no_mark c in
    omega (arith, e, h, i)

-- ---- the tests of a scattered switch

module _ (k : IntKind) where
  abbrev tests_of : List (Option ExpressionTree) → ℕ
  tests_of ls = tested k (cases_among ls)

  cases_both : (ls ms : List (Option ExpressionTree)) → tests_of (ls ++ ms) ≡ tests_of ls + tests_of ms
  cases_both [] ms = omega arith
  cases_both (None ∷ ls) ms = cases_both ls ms
  cases_both (Some e ∷ ls) ms = let h = cases_both ls ms in omega (arith, h)

  cases_own : (es : List ExpressionTree) (default : Bool) → tests_of (section_labels es default) ≡ tested k es
  cases_own [] true = refl
  cases_own [] false = refl
  cases_own (e ∷ es) default = let h = cases_own es default in omega (arith, h)

  module _ (number : IntKind → ℤ → ExpressionTree) (v : ℕ) (n : Names) where
    test_gotos : (e : ExpressionTree) → gotos (test_for number k v n e) ≡ cond (is_some (case_number k e)) 1 0
    test_gotos e = at (case_number k e)
      where
        at : (o : Option ℤ) → gotos (option_map_or (λ z. one (If (Source (is_number k v (number k z))) (one (Goto (n (Some e)))) Nil)) o Nil) ≡ cond
            (is_some o) 1 0
        at None = refl
        at (Some z) = refl

    tests_for_gotos : (es : List ExpressionTree) → gotos (tests_for number k v n es) ≡ tested k es
    tests_for_gotos [] = refl
    tests_for_gotos (e ∷ es) =
        let f = both (test_for number k v n e) (tests_for number k v n es) in
        let g = test_gotos e in
        let h = tests_for_gotos es in
        omega (arith, f, g, h)

    mutual
      tests_gotos : (a : Forest) → gotos (tests number k v n a) ≡ tests_of (arrivals a)
      tests_gotos Nil = refl
      tests_gotos (Then x a) =
          let e = both (tests_in number k v n x) (tests number k v n a) in
          let f = cases_both (arrivals_in x) (arrivals a) in
          let i = tests_in_gotos x in
          let j = tests_gotos a in
          omega (arith, e, f, i, j)

      tests_in_gotos : (x : Tree) → gotos (tests_in number k v n x) ≡ tests_of (arrivals_in x)
      tests_in_gotos (If t a b) =
          let e = both (tests number k v n a) (tests number k v n b) in
          let f = cases_both (arrivals a) (arrivals b) in
          let i = tests_gotos a in
          let j = tests_gotos b in
          omega (arith, e, f, i, j)
      tests_in_gotos (While t a) = tests_gotos a
      tests_in_gotos (Do a t) = tests_gotos a
      tests_in_gotos (For f t u a) = tests_gotos a
      tests_in_gotos (Block a) = tests_gotos a
      tests_in_gotos (Arrival None) = refl
      tests_in_gotos (Arrival (Some e)) = let h = test_gotos e in omega (arith, h)
      tests_in_gotos _ = refl

    tests_among_gotos : (d : Sections) → gotos (tests_among number k v n d) ≡ tests_of (switch_labels d)
    tests_among_gotos NoSection = refl
    tests_among_gotos (Section es default a ends d) =
        let e = both (tests_for number k v n es) (join (tests number k v n a) (tests_among number k v n d)) in
        let f = both (tests number k v n a) (tests_among number k v n d) in
        let g = cases_both (section_labels es default) (arrivals a ++ switch_labels d) in
        let h = cases_both (arrivals a) (switch_labels d) in
        let i = cases_own es default in
        let j = tests_for_gotos es in
        let l = tests_gotos a in
        let m = tests_among_gotos d in
        omega (arith, e, f, g, h, i, j, l, m)

-- ---- what leaves a scattered switch

ends_none : (d : Sections) → ends_some d ≡ false → section_ends d ≡ 0
ends_none NoSection e = refl
ends_none (Section cases default a true d) e = cc
ends_none (Section cases default a false d) e = let h = ends_none d e in omega (arith, h)

all_leave : (x y : Bool) (n m l : ℕ) → (y ≡ false → m ≡ 0) → exits (cond (not x || y || is_some_number n) (Becomes l) Absent) (n + m) ≡ n + m
all_leave false y n m l f = refl
all_leave true true n m l f = refl
all_leave true false zero m l f = let h = f refl in omega (arith, h)
all_leave true false (suc n) m l f = refl

-- ---- along the flat form

module _ (p : Plan) where
  abbrev given : Bool → Forest → ℕ
  given j a = summed (gotos_in p.live) p.live j a

  abbrev given_of : Bool → Tree → ℕ
  given_of j x = summed_of (gotos_in p.live) p.live j x

  abbrev given_in : Bool → Sections → ℕ
  given_in j d = summed_in (gotos_in p.live) p.live j d

  -- ---- a list of which nothing stays

  mutual
    gone : (j : Bool) (a : Forest) → ending p.live a ≡ Gone → given j a + continues a ≡ 0
    gone j Nil e = refl
    gone j (Then x a) e =
        let both = later_gone (ending p.live a) (ending_of p.live x) e in
        let h = gone_of j x both.1 in
        let i = gone j a both.0 in
        omega (arith, h, i)

    gone_of : (j : Bool) (x : Tree) → ending_of p.live x ≡ Gone → given_of j x + continues_of x ≡ 0
    gone_of j (Mark l) e = refl
    gone_of j (Local x None) e = refl
    gone_of j (Local x (Some es)) e = cc
    gone_of j (Block a) e = gone j a e
    gone_of j (Switch s d) e = absurd (switch_stays (is_scattered d && not (leaves d)) (last_ending p.live d) e)
    gone_of j (If t a b) e = cc
    gone_of j (While t a) e = cc
    gone_of j (Do a t) e = cc
    gone_of j (For first t u a) e = cc
    gone_of j Break e = cc
    gone_of j (Goto l) e = cc
    gone_of j _ e = cc

  -- ---- a loop

  within_loop : (j : Bool) (a : Forest) (l m x : ℕ) → x ≡ given (is_moved (aim j (continues a) m)) a + exits (aim j (breaks a) l) (breaks a) + exits
      (aim j (continues a) m) (continues a)
      → x ≡ cond j (breaks a + continues a) 0 + given j a
  within_loop j a l m x e =
      let f = ap (λ z. given z a) (aim_moved j (continues a) m) in
      let g = aim_exits j (breaks a) l in
      let h = aim_exits j (continues a) m in
      let i = cond_sum j (breaks a) (continues a) in
      omega (arith, e, f, g, h, i)

  by_ending : (e : Ending) (a xs ys : Forest) (b : Aim) (n : ℕ) → (e ≡ Breaks → gotos xs ≡ n + exits b (breaks (trimmed p.live a))) →
      gotos ys ≡ n + exits b (breaks a)
      → gotos (if_breaks e xs ys) ≡ n + exits b (breaks (section_list p.live a e))
  by_ending Breaks a xs ys b n f g = f refl
  by_ending _ a xs ys b n f g = g

  by_gone : (q : Bool) (x : Tree) (a xs ys : Forest) (b : Aim) (n : ℕ) → (q ≡ true → gotos xs ≡ n + exits b (breaks (trimmed_item p.live x))) →
      (q ≡ false → gotos ys ≡ n + exits b (breaks_of x + breaks (trimmed p.live a)))
      → gotos (cond q xs ys) ≡ n + exits b (breaks (cond q (trimmed_item p.live x) (Then x (trimmed p.live a))))
  by_gone true x a xs ys b n f g = f refl
  by_gone false x a xs ys b n f g = g refl

  by_scattered : (q : Bool) (a b : Forest) (m n z : ℕ) → gotos a ≡ m + z → gotos b ≡ n + z → gotos (cond q a b) ≡ cond q m n + z
  by_scattered true a b m n z e f = e
  by_scattered false a b m n z e f = f

  mutual
    pub flat_gotos : (h : Here) (b c : Aim) (r : Arrivals) (a : Forest) →
        gotos (flat p h b c r a) ≡ given (is_moved c) a + exits b (breaks a) + exits c (continues a)
    flat_gotos h b c r Nil = let e = exits_none b in let f = exits_none c in omega (arith, e, f)
    flat_gotos h b c r (Then x a) =
        let e = both (flat_item p h b c r x) (flat p (past_item x h) b c r a) in
        let f = exits_sum b (breaks_of x) (breaks a) in
        let g = exits_sum c (continues_of x) (continues a) in
        let i = item_gotos h b c r x in
        let j = flat_gotos (past_item x h) b c r a in
        omega (arith, e, f, g, i, j)

    item_gotos : (h : Here) (b c : Aim) (r : Arrivals) (x : Tree) → gotos (flat_item p h b c r x) ≡ given_of (is_moved c) x + exits b
        (breaks_of x) + exits c (continues_of x)
    item_gotos h b c r (If t x y) =
        let f = exits_sum b (breaks x) (breaks y) in
        let g = exits_sum c (continues x) (continues y) in
        let i = flat_gotos h b c r x in
        let j = flat_gotos (past x h) b c r y in
        omega (arith, f, g, i, j)
    item_gotos h b c r (While t a) =
        let q = holds_jump p.live a in
        let B = aim q (breaks a) (p.break_label h.construct) in
        let C = aim q (continues a) (p.continue_label h.construct) in
        let e = both (flat p (inside (While t a) h) B C r a) (mark_of C) in
        let i = within_loop q a (p.break_label h.construct) (p.continue_label h.construct) (gotos (flat p (inside (While t a) h) B C r a))
        (flat_gotos (inside (While t a) h) B C r a) in
        let j = no_mark B in
        let k = no_mark C in
        let l = exits_none b in
        let m = exits_none c in
        omega (arith, e, i, j, k, l, m)
    item_gotos h b c r (Do a t) =
        let q = holds_jump p.live a in
        let B = aim q (breaks a) (p.break_label h.construct) in
        let C = aim q (continues a) (p.continue_label h.construct) in
        let e = both (flat p (inside (Do a t) h) B C r a) (mark_of C) in
        let i = within_loop q a (p.break_label h.construct) (p.continue_label h.construct) (gotos (flat p (inside (Do a t) h) B C r a))
        (flat_gotos (inside (Do a t) h) B C r a) in
        let j = no_mark B in
        let k = no_mark C in
        let l = exits_none b in
        let m = exits_none c in
        omega (arith, e, i, j, k, l, m)
    item_gotos h b c r (For first t u a) =
        let q = holds_jump p.live a in
        let B = aim q (breaks a) (p.break_label h.construct) in
        let C = aim q (continues a) (p.continue_label h.construct) in
        let s = inside (For first t u a) h in
        let y = flat p (past first s) B C r a in
        let e = both (flat p s b c NoArrival first) (flat_for q t u y B C) in
        let f = for_gotos q t u y B C in
        let i = within_loop q a (p.break_label h.construct) (p.continue_label h.construct) (gotos y) (flat_gotos (past first s) B C r a) in
        let j = flat_gotos s b c NoArrival first in
        omega (arith, e, f, i, j)
    item_gotos h b c r (Block a) = flat_gotos h b c r a
    item_gotos h b c r (Local x None) = let l = exits_none b in let m = exits_none c in omega (arith, l, m)
    item_gotos h b c r (Local x (Some es)) =
        let slot = entry_or no_slot p.slots x in
        let e = no_assigned slot.kind x slot.cells es in
        let l = exits_none b in
        let m = exits_none c in
        omega (arith, e, l, m)
    item_gotos h b c r Break = let e = break_becomes b in let m = exits_none c in omega (arith, e, m)
    item_gotos h b c r Continue = let e = continue_becomes c in let m = exits_none b in omega (arith, e, m)
    item_gotos h b c r (Goto l) = let l = exits_none b in let m = exits_none c in omega (arith, l, m)
    item_gotos h b c r (Mark l) = let e = no_flag (p.live l) (p.source l) in let l = exits_none b in let m = exits_none c in omega (arith, e, l, m)
    item_gotos h b c r (Arrival e) = let f = no_arrival r e in let l = exits_none b in let m = exits_none c in omega (arith, f, l, m)
    item_gotos h b c r (Switch s d) =
        let n = names_of p h (switch_kind s) d in
        let j = is_jumpy_switch p c d in
        let B = aim j (kept_breaks p.live d) (p.break_label h.construct) in
        let S = inside (Switch s d) h in
        let y = spread p S (scatter_aim p h d) c n d in
        let t = tests_among p.number (switch_kind s) h.variable n d in
        let e = both t (Then (Goto (otherwise_label p h d)) y) in
        let f = tests_among_gotos (switch_kind s) p.number h.variable n d in
        let g = spread_gotos S (scatter_aim p h d) c n d in
        let i = all_leave (has_default (switch_labels d)) (ends_some d) (breaks_in d) (section_ends d) (p.break_label h.construct) (ends_none d) in
        let k = sections_gotos S j B c d in
        let l = aim_exits j (kept_breaks p.live d) (p.break_label h.construct) in
        let m = no_mark B in
        let o = exits_none b in
        let stays = Then (Switch s (flat_sections p S j B c d)) (mark_of B) in
        let scattered = tested (switch_kind s) (cases_among (switch_labels d)) + 1 + section_ends d + breaks_in d in
        let all = by_scattered (is_scattered d) (dissolved p h s d y) stays scattered (cond j (kept_breaks p.live d) 0)
        (given_in (is_moved c) d + exits c (continues_in d)) (omega (arith, e, f, g, i)) (omega (arith, k, l, m)) in
        omega (arith, all, o)
    item_gotos h b c r x = let l = exits_none b in let m = exits_none c in omega (arith, l, m)

    last_gotos : (h : Here) (b c : Aim) (r : Arrivals) (a : Forest) → ending p.live a ≡ Breaks →
        gotos (flat_last p h b c r a) ≡ given (is_moved c) a + exits c (continues a) + exits b (breaks (trimmed p.live a))
    last_gotos h b c r Nil e = cc
    last_gotos h b c r (Then x a) e =
        by_gone (is_gone (ending p.live a)) x a (flat_last_item p h b c r x) (join (flat_item p h b c r x) (flat_last p (past_item x h) b c r a)) b
        (given (is_moved c) (Then x a) + exits c (continues (Then x a)))
        (λ q.
        let two = later_last (ending p.live a) (ending_of p.live x) Breaks e q in
        let i = last_item_gotos h b c r x two.1 in
        let j = gone (is_moved c) a two.0 in
        let k : continues a ≡ 0 = omega (arith, j) in
        let l = exits_sum c (continues_of x) (continues a) in
        let m = ap (exits c) k ∙ exits_none c in
        omega (arith, i, j, l, m))
        (λ q.
        let i = item_gotos h b c r x in
        let j = last_gotos (past_item x h) b c r a (later_else (ending p.live a) (ending_of p.live x) Breaks e q) in
        let k = both (flat_item p h b c r x) (flat_last p (past_item x h) b c r a) in
        let l = exits_sum c (continues_of x) (continues a) in
        let m = exits_sum b (breaks_of x) (breaks (trimmed p.live a)) in
        omega (arith, i, j, k, l, m))

    last_item_gotos : (h : Here) (b c : Aim) (r : Arrivals) (x : Tree) → ending_of p.live x ≡ Breaks →
        gotos (flat_last_item p h b c r x) ≡ given_of (is_moved c) x + exits c (continues_of x) + exits b (breaks (trimmed_item p.live x))
    last_item_gotos h b c r (Block a) e =
        let i = last_gotos h b c r a e in
        let j : breaks (trimmed_item p.live (Block a)) ≡ breaks (trimmed p.live a) = omega arith in
        let k = ap (exits b) j in
        omega (arith, i, k)
    last_item_gotos h b c r Break e = let l = exits_none b in let m = exits_none c in omega (arith, l, m)
    last_item_gotos h b c r (Mark l) e = absurd (gone_or_no_break (p.live l) e)
    last_item_gotos h b c r (Local x None) e = cc
    last_item_gotos h b c r (Local x (Some es)) e = cc
    last_item_gotos h b c r (Switch s d) e = absurd (switch_no_break (is_scattered d && not (leaves d)) (last_ending p.live d) e)
    last_item_gotos h b c r (Goto l) e = cc
    last_item_gotos h b c r _ e = cc

    sections_gotos : (h : Here) (j : Bool) (b c : Aim) (d : Sections) →
        total_in (weight 1 0) (flat_sections p h j b c d) ≡ given_in (is_moved c) d + exits b (kept_breaks p.live d) + exits c (continues_in d)
    sections_gotos h j b c NoSection = let e = exits_none b in let f = exits_none c in omega (arith, e, f)
    sections_gotos h j b c (Section cases default a ends d) =
        let f = flat_gotos h b c NoArrival a in
        let z = given (is_moved c) a + exits c (continues a) in
        let i = by_ending (ending p.live a) a (flat_last p h b c NoArrival a) (flat p h b c NoArrival a) b z (λ e. last_gotos h b c NoArrival a e)
        (omega (arith, f)) in
        let k = sections_gotos (past a h) j b c d in
        let l = exits_sum b (breaks (section_list p.live a (ending p.live a))) (kept_breaks p.live d) in
        let m = exits_sum c (continues a) (continues_in d) in
        omega (arith, i, k, l, m)

    spread_gotos : (h : Here) (b c : Aim) (n : Names) (d : Sections) →
        gotos (spread p h b c n d) ≡ given_in (is_moved c) d + exits b (breaks_in d + section_ends d) + exits c (continues_in d)
    spread_gotos h b c n NoSection = let e = exits_none b in let f = exits_none c in let g = no_mark b in omega (arith, e, f, g)
    spread_gotos h b c n (Section cases default a ends d) =
        let y = flat p h b c (Arrives n) a in
        let z = spread p (past a h) b c n d in
        let e = both (case_marks n cases default) (join y (join (end_goto ends b) z)) in
        let f = both y (join (end_goto ends b) z) in
        let g = both (end_goto ends b) z in
        let i = no_case n cases default in
        let j = end_gotos ends b in
        let k = flat_gotos h b c (Arrives n) a in
        let l = spread_gotos (past a h) b c n d in
        let m = exits_sum b (breaks a + breaks_in d) (cond ends 1 0 + section_ends d) in
        let o = exits_sum b (breaks a) (breaks_in d) in
        let q = exits_sum b (cond ends 1 0) (section_ends d) in
        let s = exits_sum b (breaks_in d) (section_ends d) in
        let t = exits_sum c (continues a) (continues_in d) in
        omega (arith, e, f, g, i, j, k, l, m, o, q, s, t)

pub gotos_are : (slots : List Slot) (n : ℕ) (body : Forest) → total goto_of (flat_body constant slots n body) ≡ gotos_of body
gotos_are slots n body =
    let p = coded constant slots n body in
    let q = numbered (marks (flat p (first_here (length slots)) Stays Stays NoArrival body)) p in
    let e = goto_weights (flat_body constant slots n body) in
    let f = flat_gotos q (first_here (length slots)) Stays Stays NoArrival body in
    omega (arith, e, f)
