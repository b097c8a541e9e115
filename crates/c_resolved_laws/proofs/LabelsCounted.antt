-- The labels of a flat form are those that its items give, and the named ones of the body.
use Rattle.std.proofs.Common.{◌≡◌, ◌≤◌, ℕ, zero, suc, ◌+◌, ℤ, Bool, true, false, cond, not, ◌&&◌, ◌==◌, List, [], ◌∷◌, ◌++◌, map, length, Option, Some, None, refl, ap, ◌∙◌, arith, length-append}
use Rattle.std.specs.List.{list_any}
use Rattle.std.specs.Option.{option_map_or}
use Rattle.c_types.specs.declared.kinds.IntKind.{IntKind}
use Rattle.c_tree.specs.Cases.{case_number}
use Rattle.c_tree.specs.Changed.{one}
use Rattle.c_tree.specs.Everywhere.{total, total_of, total_in, Everywhere, EverywhereOf, EverywhereIn}
use Rattle.c_tree.specs.Exits.{breaks, continues}
use Rattle.c_tree.specs.ExpressionTrees.{ExpressionTree}
use Rattle.c_tree.specs.TestTrees.{Source}
use Rattle.c_tree.specs.Trees.{Tree, Forest, Nil, Then, Sections, NoSection, Section, If, While, Do, For, Switch, Block, Local, Break, Continue, Goto, Mark, Arrival, join}
use Rattle.c_tree.proofs.KeptLemmas.{total-join}
use Rattle.jump_meaning.specs.Code.{entry_or}
use Rattle.jump_meaning.specs.World.{no_slot}
use Rattle.jump_meaning.specs.Step.{switch_kind}
use Rattle.flat_laws.specs.Pieces.{Aim, Stays, Becomes, Absent, mark_of, third_items, assigned_cells, Names, test_for, tests_for, tests, tests_in, tests_among, case_marks, is_number}
use Rattle.flat_laws.specs.Loose.{Arrivals, NoArrival, Arrives}
use Rattle.flat_laws.specs.Parts.{arrivals, arrivals_in, is_scattered, section_labels, switch_labels, cases_among, has_default, leaves, holds_jump, kept_breaks}
use Rattle.flat_laws.specs.Parts.{Here, past, past_item, inside, Ending, Gone, Breaks, ending, ending_of, last_ending, is_gone}
use Rattle.flat_laws.specs.FlatForm.{Plan, names_of, scatter_aim, otherwise_label, end_goto, aim, exit, is_moved, is_jumpy_switch, assigned, mark_if, arrival, dissolved, if_breaks, flat_for, flat, flat_item, flat_last, flat_last_item}
use Rattle.flat_laws.specs.FlatForm.{flat_sections, spread, marks, marks_in, marks_among}
use Rattle.flat_laws.specs.Source.{nones, AreDifferent, HasOwnCases, IfTrue}
use Rattle.flat_laws.proofs.Counts.{one_if}
use Rattle.flat_laws.proofs.SameCounts.{weight}
use Rattle.flat_laws.proofs.Stand.{later_else, later_last, later_gone, switch_no_break, switch_stays, gone_or_no_break, gone_else}
use Rattle.c_resolved_laws.specs.Counts.{one_for, is_jumpy, labels_in, summed, summed_of, summed_in, labels_named}
use Rattle.c_resolved_laws.proofs.GotosCounted.{aim_moved, cond_sum}

abbrev labels : Forest → ℕ
labels a = total (weight 0 1) a

both : (a b : Forest) → labels (join a b) ≡ labels a + labels b
both a b = total-join (weight 0 1) a b

-- ---- the parts

-- 1 for a label that is named
abbrev pub named_bit : (ℕ → Bool) → Tree → ℕ
named_bit live (Mark l) = cond (live l) 1 0
named_bit live _ = 0

-- the labels that are made, where a default counts as often as it stands
abbrev pub each_label : (ℕ → Bool) → Bool → Tree → ℕ
each_label named in_jumpy (Switch s c) = cond (is_scattered c) (length (switch_labels c) + cond (leaves c) 1 0)
    (cond (is_jumpy named in_jumpy c) (one_for (kept_breaks named c)) 0)
each_label named in_jumpy x = labels_in named in_jumpy x

-- the nested case labels of a scattered switch
abbrev arrived : Arrivals → ℕ → ℕ
arrived NoArrival n = 0
arrived (Arrives names) n = n

arrived_sum : (r : Arrivals) (m n : ℕ) → arrived r (m + n) ≡ arrived r m + arrived r n
arrived_sum NoArrival m n = refl
arrived_sum (Arrives names) m n = refl

arrived_none : (r : Arrivals) → arrived r 0 ≡ 0
arrived_none NoArrival = refl
arrived_none (Arrives names) = refl

arrived_both : (r : Arrivals) (xs ys : List (Option ExpressionTree)) → arrived r (length (xs ++ ys)) ≡ arrived r (length xs) + arrived r (length ys)
arrived_both r xs ys = ap (arrived r) (length-append xs ys) ∙ arrived_sum r (length xs) (length ys)

arrival_label : (r : Arrivals) (e : Option ExpressionTree) → labels (arrival r e) ≡ arrived r 1
arrival_label NoArrival e = refl
arrival_label (Arrives names) e = refl

aim_label : (j : Bool) (n l : ℕ) → labels (mark_of (aim j n l)) ≡ cond j (one_for n) 0
aim_label false n l = refl
aim_label true zero l = refl
aim_label true (suc n) l = refl

leave_label : (q : Bool) (l : ℕ) → labels (mark_of (cond q (Becomes l) Absent)) ≡ cond q 1 0
leave_label true l = refl
leave_label false l = refl

flag_label : (q : Bool) (l : ℕ) → labels (mark_if q l) ≡ cond q 1 0
flag_label true l = refl
flag_label false l = refl

no_break : (b : Aim) → labels (exit b Break) ≡ 0
no_break Stays = refl
no_break (Becomes l) = refl
no_break Absent = refl

no_continue : (b : Aim) → labels (exit b Continue) ≡ 0
no_continue Stays = refl
no_continue (Becomes l) = refl
no_continue Absent = refl

no_third : (u : Option ExpressionTree) → labels (third_items u) ≡ 0
no_third None = refl
no_third (Some e) = refl

no_cells : (k : IntKind) (x i : ℕ) (es : List ExpressionTree) (m : ℕ) → labels (assigned_cells k x i es m) ≡ 0
no_cells k x i (e ∷ es) m = let h = no_cells k x (suc i) es m in omega (arith, h)
no_cells k x i [] zero = refl
no_cells k x i [] (suc m) = let h = no_cells k x (suc i) [] m in omega (arith, h)

no_assigned : (k : IntKind) (x : ℕ) (o : Option ℕ) (es : List ExpressionTree) → labels (assigned k x o es) ≡ 0
no_assigned k x None [] = refl
no_assigned k x None (e ∷ es) = refl
no_assigned k x (Some n) es = no_cells k x 0 es _

no_end : (q : Bool) (b : Aim) → labels (end_goto q b) ≡ 0
no_end true Stays = refl
no_end true (Becomes l) = refl
no_end true Absent = refl
no_end false b = refl

case_labels : (n : Names) (es : List ExpressionTree) (default : Bool) → labels (case_marks n es default) ≡ length (section_labels es default)
case_labels n [] true = refl
case_labels n [] false = refl
case_labels n (e ∷ es) default = let h = case_labels n es default in omega (arith, h)

for_labels : (j : Bool) (t u : Option ExpressionTree) (a : Forest) (b c : Aim) →
    labels (flat_for j t u a b c) ≡ labels a + labels (mark_of b) + labels (mark_of c)
for_labels true t u a b c =
    let e = both a (join (mark_of c) (third_items u)) in
    let f = both (mark_of c) (third_items u) in
    let g = no_third u in
    omega (arith, e, f, g)
for_labels false t u a b c = let e = both a (mark_of c) in omega (arith, e)

-- ---- the tests of a scattered switch have none

module _ (number : IntKind → ℤ → ExpressionTree) (k : IntKind) (v : ℕ) (n : Names) where
  no_test : (e : ExpressionTree) → labels (test_for number k v n e) ≡ 0
  no_test e = at (case_number k e)
    where
      at : (o : Option ℤ) → labels (option_map_or (λ z. one (If (Source (is_number k v (number k z))) (one (Goto (n (Some e)))) Nil)) o Nil) ≡ 0
      at None = refl
      at (Some z) = refl

  no_tests_for : (es : List ExpressionTree) → labels (tests_for number k v n es) ≡ 0
  no_tests_for [] = refl
  no_tests_for (e ∷ es) = let f = both (test_for number k v n e) (tests_for number k v n es) in let g = no_test e in let h = no_tests_for es in
      omega (arith, f, g, h)

  mutual
    no_tests : (a : Forest) → labels (tests number k v n a) ≡ 0
    no_tests Nil = refl
    no_tests (Then x a) = let e = both (tests_in number k v n x) (tests number k v n a) in let i = no_tests_in x in let j = no_tests a in omega (arith, e, i, j)

    no_tests_in : (x : Tree) → labels (tests_in number k v n x) ≡ 0
    no_tests_in (If t a b) = let e = both (tests number k v n a) (tests number k v n b) in let i = no_tests a in let j = no_tests b in omega (arith, e, i, j)
    no_tests_in (While t a) = no_tests a
    no_tests_in (Do a t) = no_tests a
    no_tests_in (For f t u a) = no_tests a
    no_tests_in (Block a) = no_tests a
    no_tests_in (Arrival None) = refl
    no_tests_in (Arrival (Some e)) = no_test e
    no_tests_in _ = refl

  no_tests_among : (d : Sections) → labels (tests_among number k v n d) ≡ 0
  no_tests_among NoSection = refl
  no_tests_among (Section es default a ends d) =
      let e = both (tests_for number k v n es) (join (tests number k v n a) (tests_among number k v n d)) in
      let f = both (tests number k v n a) (tests_among number k v n d) in
      let g = no_tests_for es in
      let h = no_tests a in
      let i = no_tests_among d in
      omega (arith, e, f, g, h, i)

-- ---- along the flat form

module _ (p : Plan) where
  -- those that are made, and those that stay
  abbrev given : Bool → Forest → ℕ
  given j a = summed (each_label p.live) p.live j a + total (named_bit p.live) a

  abbrev given_of : Bool → Tree → ℕ
  given_of j x = summed_of (each_label p.live) p.live j x + total_of (named_bit p.live) x

  abbrev given_in : Bool → Sections → ℕ
  given_in j d = summed_in (each_label p.live) p.live j d + total_in (named_bit p.live) d

  -- ---- a list of which nothing stays

  mutual
    gone : (j : Bool) (a : Forest) → ending p.live a ≡ Gone → given j a ≡ 0
    gone j Nil e = refl
    gone j (Then x a) e =
        let both = later_gone (ending p.live a) (ending_of p.live x) e in
        let h = gone_of j x both.1 in
        let i = gone j a both.0 in
        omega (arith, h, i)

    gone_of : (j : Bool) (x : Tree) → ending_of p.live x ≡ Gone → given_of j x ≡ 0
    gone_of j (Mark l) e = let h = ap one_if (gone_else (p.live l) e) in omega (arith, h)
    gone_of j (Local x None) e = refl
    gone_of j (Local x (Some es)) e = cc
    gone_of j (Block a) e = let h = gone j a e in omega (arith, h)
    gone_of j (Switch s d) e = absurd (switch_stays (is_scattered d && not (leaves d)) (last_ending p.live d) e)
    gone_of j (If t a b) e = cc
    gone_of j (While t a) e = cc
    gone_of j (Do a t) e = cc
    gone_of j (For first t u a) e = cc
    gone_of j Break e = cc
    gone_of j (Goto l) e = cc
    gone_of j _ e = cc

  -- ---- a loop

  within_loop : (j : Bool) (a : Forest) (l m x z : ℕ) → x ≡ given (is_moved (aim j (continues a) m)) a + z
      → x + labels (mark_of (aim j (breaks a) l)) + labels (mark_of (aim j (continues a) m)) ≡ cond j (one_for (breaks a) + one_for (continues a))
      0 + given j a + z
  within_loop j a l m x z e =
      let f = ap (λ q. given q a) (aim_moved j (continues a) m) in
      let g = aim_label j (breaks a) l in
      let h = aim_label j (continues a) m in
      let i = cond_sum j (one_for (breaks a)) (one_for (continues a)) in
      omega (arith, e, f, g, h, i)

  by_ending : (e : Ending) (xs ys : Forest) (n : ℕ) → (e ≡ Breaks → labels xs ≡ n) → labels ys ≡ n → labels (if_breaks e xs ys) ≡ n
  by_ending Breaks xs ys n f g = f refl
  by_ending _ xs ys n f g = g

  by_gone : (q : Bool) (xs ys : Forest) (n : ℕ) → (q ≡ true → labels xs ≡ n) → (q ≡ false → labels ys ≡ n) → labels (cond q xs ys) ≡ n
  by_gone true xs ys n f g = f refl
  by_gone false xs ys n f g = g refl

  by_scattered : (q : Bool) (a b : Forest) (m n z : ℕ) → labels a ≡ m + z → labels b ≡ n + z → labels (cond q a b) ≡ cond q m n + z
  by_scattered true a b m n z e f = e
  by_scattered false a b m n z e f = f

  mutual
    pub flat_labels : (h : Here) (b c : Aim) (r : Arrivals) (a : Forest) → labels (flat p h b c r a) ≡ given (is_moved c) a + arrived r (length (arrivals a))
    flat_labels h b c r Nil = let e = arrived_none r in omega (arith, e)
    flat_labels h b c r (Then x a) =
        let e = both (flat_item p h b c r x) (flat p (past_item x h) b c r a) in
        let f = arrived_both r (arrivals_in x) (arrivals a) in
        let i = item_labels h b c r x in
        let j = flat_labels (past_item x h) b c r a in
        omega (arith, e, f, i, j)

    item_labels : (h : Here) (b c : Aim) (r : Arrivals) (x : Tree) → labels (flat_item p h b c r x) ≡ given_of (is_moved c) x + arrived r
        (length (arrivals_in x))
    item_labels h b c r (If t x y) =
        let f = arrived_both r (arrivals x) (arrivals y) in
        let i = flat_labels h b c r x in
        let j = flat_labels (past x h) b c r y in
        omega (arith, f, i, j)
    item_labels h b c r (While t a) =
        let q = holds_jump p.live a in
        let B = aim q (breaks a) (p.break_label h.construct) in
        let C = aim q (continues a) (p.continue_label h.construct) in
        let y = flat p (inside (While t a) h) B C r a in
        let e = both y (mark_of C) in
        let i = within_loop q a (p.break_label h.construct) (p.continue_label h.construct) (labels y) (arrived r (length (arrivals a)))
        (flat_labels (inside (While t a) h) B C r a) in
        omega (arith, e, i)
    item_labels h b c r (Do a t) =
        let q = holds_jump p.live a in
        let B = aim q (breaks a) (p.break_label h.construct) in
        let C = aim q (continues a) (p.continue_label h.construct) in
        let y = flat p (inside (Do a t) h) B C r a in
        let e = both y (mark_of C) in
        let i = within_loop q a (p.break_label h.construct) (p.continue_label h.construct) (labels y) (arrived r (length (arrivals a)))
        (flat_labels (inside (Do a t) h) B C r a) in
        omega (arith, e, i)
    item_labels h b c r (For first t u a) =
        let q = holds_jump p.live a in
        let B = aim q (breaks a) (p.break_label h.construct) in
        let C = aim q (continues a) (p.continue_label h.construct) in
        let s = inside (For first t u a) h in
        let y = flat p (past first s) B C r a in
        let e = both (flat p s b c NoArrival first) (flat_for q t u y B C) in
        let f = for_labels q t u y B C in
        let i = within_loop q a (p.break_label h.construct) (p.continue_label h.construct) (labels y) (arrived r (length (arrivals a)))
        (flat_labels (past first s) B C r a) in
        let j = flat_labels s b c NoArrival first in
        omega (arith, e, f, i, j)
    item_labels h b c r (Block a) = let i = flat_labels h b c r a in omega (arith, i)
    item_labels h b c r (Local x None) = let e = arrived_none r in omega (arith, e)
    item_labels h b c r (Local x (Some es)) =
        let slot = entry_or no_slot p.slots x in
        let e = no_assigned slot.kind x slot.cells es in
        let f = arrived_none r in
        omega (arith, e, f)
    item_labels h b c r Break = let e = no_break b in let f = arrived_none r in omega (arith, e, f)
    item_labels h b c r Continue = let e = no_continue c in let f = arrived_none r in omega (arith, e, f)
    item_labels h b c r (Mark l) = let e = flag_label (p.live l) (p.source l) in let f = arrived_none r in omega (arith, e, f)
    item_labels h b c r (Arrival e) = let f = arrival_label r e in omega (arith, f)
    item_labels h b c r (Switch s d) =
        let n = names_of p h (switch_kind s) d in
        let j = is_jumpy_switch p c d in
        let B = aim j (kept_breaks p.live d) (p.break_label h.construct) in
        let S = inside (Switch s d) h in
        let y = spread p S (scatter_aim p h d) c n d in
        let t = tests_among p.number (switch_kind s) h.variable n d in
        let e = both t (Then (Goto (otherwise_label p h d)) y) in
        let f = no_tests_among p.number (switch_kind s) h.variable n d in
        let g = spread_labels S (scatter_aim p h d) c n d in
        let i = leave_label (leaves d) (p.break_label h.construct) in
        let k = sections_labels S j B c d in
        let l = aim_label j (kept_breaks p.live d) (p.break_label h.construct) in
        let m = arrived_none r in
        let stays = Then (Switch s (flat_sections p S j B c d)) (mark_of B) in
        let scattered = length (switch_labels d) + cond (leaves d) 1 0 in
        let all = by_scattered (is_scattered d) (dissolved p h s d y) stays scattered (cond j (one_for (kept_breaks p.live d)) 0)
        (given_in (is_moved c) d) (omega (arith, e, f, g, i)) (omega (arith, k, l)) in
        omega (arith, all, m)
    item_labels h b c r x = let f = arrived_none r in omega (arith, f)

    last_labels : (h : Here) (b c : Aim) (a : Forest) → ending p.live a ≡ Breaks → labels (flat_last p h b c NoArrival a) ≡ given (is_moved c) a
    last_labels h b c Nil e = cc
    last_labels h b c (Then x a) e =
        by_gone (is_gone (ending p.live a)) (flat_last_item p h b c NoArrival x)
        (join (flat_item p h b c NoArrival x) (flat_last p (past_item x h) b c NoArrival a)) (given (is_moved c) (Then x a))
        (λ q.
        let two = later_last (ending p.live a) (ending_of p.live x) Breaks e q in
        let i = last_item_labels h b c x two.1 in
        let j = gone (is_moved c) a two.0 in
        omega (arith, i, j))
        (λ q.
        let i = item_labels h b c NoArrival x in
        let j = last_labels (past_item x h) b c a (later_else (ending p.live a) (ending_of p.live x) Breaks e q) in
        let k = both (flat_item p h b c NoArrival x) (flat_last p (past_item x h) b c NoArrival a) in
        omega (arith, i, j, k))

    last_item_labels : (h : Here) (b c : Aim) (x : Tree) → ending_of p.live x ≡ Breaks → labels (flat_last_item p h b c NoArrival x) ≡ given_of (is_moved c) x
    last_item_labels h b c (Block a) e = let i = last_labels h b c a e in omega (arith, i)
    last_item_labels h b c Break e = refl
    last_item_labels h b c (Mark l) e = absurd (gone_or_no_break (p.live l) e)
    last_item_labels h b c (Local x None) e = cc
    last_item_labels h b c (Local x (Some es)) e = cc
    last_item_labels h b c (Switch s d) e = absurd (switch_no_break (is_scattered d && not (leaves d)) (last_ending p.live d) e)
    last_item_labels h b c (Goto l) e = cc
    last_item_labels h b c _ e = cc

    sections_labels : (h : Here) (j : Bool) (b c : Aim) (d : Sections) → total_in (weight 0 1) (flat_sections p h j b c d) ≡ given_in (is_moved c) d
    sections_labels h j b c NoSection = refl
    sections_labels h j b c (Section cases default a ends d) =
        let f = flat_labels h b c NoArrival a in
        let i = by_ending (ending p.live a) (flat_last p h b c NoArrival a) (flat p h b c NoArrival a) (given (is_moved c) a)
        (λ e. last_labels h b c a e) (omega (arith, f)) in
        let k = sections_labels (past a h) j b c d in
        omega (arith, i, k)

    spread_labels : (h : Here) (b c : Aim) (n : Names) (d : Sections) →
        labels (spread p h b c n d) ≡ given_in (is_moved c) d + length (switch_labels d) + labels (mark_of b)
    spread_labels h b c n NoSection = omega arith
    spread_labels h b c n (Section cases default a ends d) =
        let y = flat p h b c (Arrives n) a in
        let z = spread p (past a h) b c n d in
        let e = both (case_marks n cases default) (join y (join (end_goto ends b) z)) in
        let f = both y (join (end_goto ends b) z) in
        let g = both (end_goto ends b) z in
        let i = case_labels n cases default in
        let j = no_end ends b in
        let k = flat_labels h b c (Arrives n) a in
        let l = spread_labels (past a h) b c n d in
        let m = length-append (section_labels cases default) (arrivals a ++ switch_labels d) in
        let o = length-append (arrivals a) (switch_labels d) in
        omega (arith, e, f, g, i, j, k, l, m, o)

-- ---- a default counts once

first_if : (A B : Type 0) (q : Bool) → IfTrue q (A × B) → q ≡ true → A
first_if A B true o e = o.0
first_if A B false o e = cc

defaults_few : (ls : List (Option ExpressionTree)) → length (cases_among ls) + cond (has_default ls) 1 0 ≤ length ls
defaults_few [] = omega arith
defaults_few (Some e ∷ ls) = let h = defaults_few ls in omega (arith, h)
defaults_few (None ∷ ls) = let h = defaults_few ls in omega (arith, h)

labels_split : (ls : List (Option ExpressionTree)) → length ls ≡ length (cases_among ls) + nones ls
labels_split [] = refl
labels_split (Some e ∷ ls) = let h = labels_split ls in omega (arith, h)
labels_split (None ∷ ls) = let h = labels_split ls in omega (arith, h)

default_once : (ls : List (Option ExpressionTree)) → nones ls ≤ 1 → one_if (has_default ls) ≡ nones ls
default_once [] h = refl
default_once (Some e ∷ ls) h = default_once ls h
default_once (None ∷ ls) h = omega (arith, h)

module _ (named : ℕ → Bool) where
  fewer : (j : Bool) (x : Tree) → labels_in named j x ≤ each_label named j x
  fewer j (Switch s c) = by (is_scattered c) (defaults_few (switch_labels c))
    where
      by : (q : Bool) → length (cases_among (switch_labels c)) + cond (has_default (switch_labels c)) 1 0 ≤ length (switch_labels c)
          → cond q (length (cases_among (switch_labels c)) + cond (has_default (switch_labels c)) 1 0 + cond (leaves c) 1 0)
          (cond (is_jumpy named j c) (one_for (kept_breaks named c)) 0)
          ≤ cond q (length (switch_labels c) + cond (leaves c) 1 0) (cond (is_jumpy named j c) (one_for (kept_breaks named c)) 0)
      by true h = omega (arith, h)
      by false h = omega arith
  fewer j x = omega arith

  as_many : (j : Bool) (x : Tree) → HasOwnCases x → labels_in named j x ≡ each_label named j x
  as_many j (Switch s c) o = by (is_scattered c)
      (first_if (nones (switch_labels c) ≤ 1) (AreDifferent (map (case_number (switch_kind s)) (cases_among (switch_labels c)))) (is_scattered c) o)
    where
      by : (q : Bool) → (q ≡ true → nones (switch_labels c) ≤ 1)
          → cond q (length (cases_among (switch_labels c)) + cond (has_default (switch_labels c)) 1 0 + cond (leaves c) 1 0)
          (cond (is_jumpy named j c) (one_for (kept_breaks named c)) 0)
          ≡ cond q (length (switch_labels c) + cond (leaves c) 1 0) (cond (is_jumpy named j c) (one_for (kept_breaks named c)) 0)
      by true f = let d = default_once (switch_labels c) (f refl) in let e = labels_split (switch_labels c) in omega (arith, d, e)
      by false f = refl
  as_many j x o = refl

  mutual
    pub all_fewer : (j : Bool) (a : Forest) → summed (labels_in named) named j a ≤ summed (each_label named) named j a
    all_fewer j Nil = omega arith
    all_fewer j (Then x a) = let h = fewer_in j x in let i = all_fewer j a in omega (arith, h, i)

    fewer_in : (j : Bool) (x : Tree) → summed_of (labels_in named) named j x ≤ summed_of (each_label named) named j x
    fewer_in j (If t a b) = let h = all_fewer j a in let i = all_fewer j b in omega (arith, h, i)
    fewer_in j (While t a) = let h = all_fewer (holds_jump named a) a in omega (arith, h)
    fewer_in j (Do a t) = let h = all_fewer (holds_jump named a) a in omega (arith, h)
    fewer_in j (For first t u a) = let h = all_fewer j first in let i = all_fewer (holds_jump named a) a in omega (arith, h, i)
    fewer_in j (Switch s c) = let h = fewer j (Switch s c) in let i = fewer_among j c in omega (arith, h, i)
    fewer_in j (Block a) = all_fewer j a
    fewer_in j x = omega arith

    fewer_among : (j : Bool) (c : Sections) → summed_in (labels_in named) named j c ≤ summed_in (each_label named) named j c
    fewer_among j NoSection = omega arith
    fewer_among j (Section cases default a ends c) = let h = all_fewer j a in let i = fewer_among j c in omega (arith, h, i)

  mutual
    pub all_as_many : (j : Bool) (a : Forest) → Everywhere HasOwnCases a → summed (labels_in named) named j a ≡ summed (each_label named) named j a
    all_as_many j Nil o = refl
    all_as_many j (Then x a) o = let h = as_many_in j x o.0 in let i = all_as_many j a o.1 in omega (arith, h, i)

    as_many_in : (j : Bool) (x : Tree) → EverywhereOf HasOwnCases x → summed_of (labels_in named) named j x ≡ summed_of (each_label named) named j x
    as_many_in j (If t a b) o = let h = all_as_many j a o.1 in let i = all_as_many j b o.2 in omega (arith, h, i)
    as_many_in j (While t a) o = let h = all_as_many (holds_jump named a) a o.1 in omega (arith, h)
    as_many_in j (Do a t) o = let h = all_as_many (holds_jump named a) a o.1 in omega (arith, h)
    as_many_in j (For first t u a) o = let h = all_as_many j first o.1 in let i = all_as_many (holds_jump named a) a o.2 in omega (arith, h, i)
    as_many_in j (Switch s c) o = let h = as_many j (Switch s c) o.0 in let i = as_many_among j c o.1 in omega (arith, h, i)
    as_many_in j (Block a) o = all_as_many j a o.1
    as_many_in j x o = refl

    as_many_among : (j : Bool) (c : Sections) → EverywhereIn HasOwnCases c → summed_in (labels_in named) named j c ≡ summed_in (each_label named) named j c
    as_many_among j NoSection o = refl
    as_many_among j (Section cases default a ends c) o = let h = all_as_many j a o.0 in let i = as_many_among j c o.1 in omega (arith, h, i)

  -- ---- the labels of the body that stay

  -- each as often as it stands
  abbrev pub each_named : List ℕ → ℕ
  each_named [] = 0
  each_named (l ∷ ls) = cond (named l) 1 0 + each_named ls

  named_both : (xs ys : List ℕ) → each_named (xs ++ ys) ≡ each_named xs + each_named ys
  named_both [] ys = omega arith
  named_both (x ∷ xs) ys = let e = named_both xs ys in omega (arith, e)

  mutual
    pub marks_named : (a : Forest) → each_named (marks a) ≡ total (named_bit named) a
    marks_named Nil = refl
    marks_named (Then x a) = let e = named_both (marks_in x) (marks a) in let i = marks_named_in x in let j = marks_named a in omega (arith, e, i, j)

    marks_named_in : (x : Tree) → each_named (marks_in x) ≡ total_of (named_bit named) x
    marks_named_in (If t a b) = let e = named_both (marks a) (marks b) in let i = marks_named a in let j = marks_named b in omega (arith, e, i, j)
    marks_named_in (While t a) = let i = marks_named a in omega (arith, i)
    marks_named_in (Do a t) = let i = marks_named a in omega (arith, i)
    marks_named_in (For first t u a) = let e = named_both (marks first) (marks a) in let i = marks_named first in let j = marks_named a in
        omega (arith, e, i, j)
    marks_named_in (Block a) = let i = marks_named a in omega (arith, i)
    marks_named_in (Switch s d) = let i = marks_named_among d in omega (arith, i)
    marks_named_in (Mark l) = omega arith
    marks_named_in x = refl

    marks_named_among : (d : Sections) → each_named (marks_among d) ≡ total_in (named_bit named) d
    marks_named_among NoSection = refl
    marks_named_among (Section cases default a ends d) = let e = named_both (marks a) (marks_among d) in let i = marks_named a in let j =
        marks_named_among d in
        omega (arith, e, i, j)

  pub named_small : (ls : List ℕ) → labels_named named ls ≤ each_named ls
  named_small [] = omega arith
  named_small (l ∷ ls) = let h = named_small ls in by (named l) (not (list_any (λ m. m == l) ls)) h
    where
      by : (b q : Bool) → labels_named named ls ≤ each_named ls → cond (b && q) 1 0 + labels_named named ls ≤ cond b 1 0 + each_named ls
      by true true h = omega (arith, h)
      by true false h = omega (arith, h)
      by false q h = omega (arith, h)
