-- The flat form of a body with jumps has a goto, and so a label.
use Rattle.std.proofs.Common.{◌≡◌, ℕ, zero, suc, ◌+◌, ◌≤◌, ◌<◌, Bool, true, false, cond, Option, refl, arith}
use Rattle.c_tree.specs.Exits.{breaks, continues}
use Rattle.c_tree.specs.ExpressionTrees.{ExpressionTree}
use Rattle.c_tree.specs.Labels.{ItemLabels}
use Rattle.c_tree.specs.Trees.{Tree, Forest, Nil, Then, Sections, NoSection, Section, If, While, Do, For, Switch, Block, Goto, Mark, join}
use Rattle.c_tree.specs.Everywhere.{total, total_of, total_in, Everywhere, EverywhereOf, EverywhereIn}
use Rattle.c_tree.proofs.KeptLemmas.{total-join}
use Rattle.jump_meaning.specs.Step.{switch_kind}
use Rattle.flat_laws.specs.Pieces.{Aim, mark_of, third_items, Names, tests_among, case_marks}
use Rattle.flat_laws.specs.Loose.{Arrivals, NoArrival, Arrives}
use Rattle.flat_laws.specs.Parts.{is_scattered, holds_jump, kept_breaks, jumps_of, Here, past, past_item, inside, Ending, Gone, Breaks, later, ending, ending_of, is_gone}
use Rattle.flat_laws.specs.FlatForm.{Plan, names_of, scatter_aim, otherwise_label, end_goto, aim, is_jumpy_switch, dissolved, if_breaks, flat_for, flat, flat_item, flat_last, flat_last_item, flat_sections, spread}
use Rattle.flat_laws.proofs.SameCounts.{weight}
use Rattle.flat_laws.proofs.Stand.{later_gone, switch_no_break, switch_stays}

-- ---- where there is no label there is no goto

module _ (n : ℕ) (none : n ≡ 0) where
  mutual
    no_goto : (a : Forest) → Everywhere (ItemLabels (λ l. l < n)) a → total (weight 1 0) a ≡ 0
    no_goto Nil h = refl
    no_goto (Then x a) h = let i = no_goto_of x h.0 in let j = no_goto a h.1 in omega (arith, i, j)

    no_goto_of : (x : Tree) → EverywhereOf (ItemLabels (λ l. l < n)) x → total_of (weight 1 0) x ≡ 0
    no_goto_of (If t a b) h = let i = no_goto a h.1 in let j = no_goto b h.2 in omega (arith, i, j)
    no_goto_of (While t a) h = let i = no_goto a h.1 in omega (arith, i)
    no_goto_of (Do a t) h = let i = no_goto a h.1 in omega (arith, i)
    no_goto_of (For first t u a) h = let i = no_goto first h.1 in let j = no_goto a h.2 in omega (arith, i, j)
    no_goto_of (Switch s d) h = let i = no_goto_in d h.1 in omega (arith, i)
    no_goto_of (Block a) h = let i = no_goto a h.1 in omega (arith, i)
    no_goto_of (Goto l) h = absurd (omega (arith, h, none))
    no_goto_of _ h = refl

    no_goto_in : (d : Sections) → EverywhereIn (ItemLabels (λ l. l < n)) d → total_in (weight 1 0) d ≡ 0
    no_goto_in NoSection h = refl
    no_goto_in (Section cases default a ends d) h = let i = no_goto a h.0 in let j = no_goto_in d h.1 in omega (arith, i, j)

pub some_label : (n : ℕ) (a : Forest) → Everywhere (ItemLabels (λ l. l < n)) a → 0 < total (weight 1 0) a → 0 < n
some_label zero a h g = let e = no_goto zero refl a h in absurd (omega (arith, e, g))
some_label (suc n) a h g = omega arith

-- ---- gotos stay, and of a scattered switch there is one

module _ (p : Plan) where
  abbrev Gotos : Forest → ℕ
  Gotos a = total (weight 1 0) a

  mutual
    gone_free : (a : Forest) → ending p.live a ≡ Gone → total jumps_of a ≡ 0
    gone_free Nil e = refl
    gone_free (Then x a) e =
        let h = later_gone (ending p.live a) (ending_of p.live x) e in
        let i = gone_free_of x h.1 in
        let j = gone_free a h.0 in
        omega (arith, i, j)

    gone_free_of : (x : Tree) → ending_of p.live x ≡ Gone → total_of jumps_of x ≡ 0
    gone_free_of (Block a) e = let i = gone_free a e in omega (arith, i)
    gone_free_of (Switch s d) e = absurd (switch_stays _ _ e)
    gone_free_of (Goto l) e = cc
    gone_free_of (If t a b) e = cc
    gone_free_of (While t a) e = cc
    gone_free_of (Do a t) e = cc
    gone_free_of (For first t u a) e = cc
    gone_free_of _ e = refl

  for_kept : (j : Bool) (t u : Option ExpressionTree) (a : Forest) (b c : Aim) (n : ℕ) → n ≤ Gotos a → n ≤ Gotos (flat_for j t u a b c)
  for_kept true t u a b c n h = let i = total-join (weight 1 0) a (join (mark_of c) (third_items u)) in omega (arith, h, i)
  for_kept false t u a b c n h = let i = total-join (weight 1 0) a (mark_of c) in omega (arith, h, i)

  loop_kept : (a : Forest) (b c : Aim) (n : ℕ) → n ≤ Gotos a → n ≤ Gotos (join a (mark_of c)) + Gotos (mark_of b)
  loop_kept a b c n h = let i = total-join (weight 1 0) a (mark_of c) in omega (arith, h, i)

  choose : (b : Bool) (n : ℕ) (x y : Forest) → n + 1 ≤ Gotos x → n ≤ Gotos y → cond b 1 0 + n ≤ Gotos (cond b x y)
  choose true n x y h k = omega (arith, h)
  choose false n x y h k = omega (arith, k)

  by_ending : (e : Ending) (n : ℕ) (x y : Forest) → (e ≡ Breaks → n ≤ Gotos x) → n ≤ Gotos y → n ≤ Gotos (if_breaks e x y)
  by_ending Breaks n x y h k = h refl
  by_ending _ n x y h k = k

  by_last : (e f : Ending) (m n : ℕ) (x y : Forest) → later e f ≡ Breaks → (e ≡ Gone → f ≡ Breaks → m + n ≤ Gotos x) →
      (e ≡ Breaks → m + n ≤ Gotos y) → m + n ≤ Gotos (cond (is_gone e) x y)
  by_last Gone f m n x y e h k = h refl e
  by_last Breaks f m n x y e h k = k refl
  by_last _ f m n x y e h k = cc

  mutual
    pub jumps_kept : (h : Here) (b c : Aim) (r : Arrivals) (a : Forest) → total jumps_of a ≤ Gotos (flat p h b c r a)
    jumps_kept h b c r Nil = omega arith
    jumps_kept h b c r (Then x xs) =
        let i = item_kept h b c r x in
        let j = jumps_kept (past_item x h) b c r xs in
        let k = total-join (weight 1 0) (flat_item p h b c r x) (flat p (past_item x h) b c r xs) in
        omega (arith, i, j, k)

    item_kept : (h : Here) (b c : Aim) (r : Arrivals) (x : Tree) → total_of jumps_of x ≤ Gotos (flat_item p h b c r x)
    item_kept h b c r (If t x y) = let i = jumps_kept h b c r x in let j = jumps_kept (past x h) b c r y in omega (arith, i, j)
    item_kept h b c r (While t a) =
        let i = jumps_kept (inside (While t a) h) (aim (holds_jump p.live a) (breaks a) (p.break_label h.construct))
        (aim (holds_jump p.live a) (continues a) (p.continue_label h.construct)) r a in
        let j = loop_kept _ (aim (holds_jump p.live a) (breaks a) (p.break_label h.construct))
        (aim (holds_jump p.live a) (continues a) (p.continue_label h.construct)) _ i in
        omega (arith, j)
    item_kept h b c r (Do a t) =
        let i = jumps_kept (inside (Do a t) h) (aim (holds_jump p.live a) (breaks a) (p.break_label h.construct))
        (aim (holds_jump p.live a) (continues a) (p.continue_label h.construct)) r a in
        let j = loop_kept _ (aim (holds_jump p.live a) (breaks a) (p.break_label h.construct))
        (aim (holds_jump p.live a) (continues a) (p.continue_label h.construct)) _ i in
        omega (arith, j)
    item_kept h b c r (For first t u a) =
        let B = aim (holds_jump p.live a) (breaks a) (p.break_label h.construct) in
        let C = aim (holds_jump p.live a) (continues a) (p.continue_label h.construct) in
        let s = inside (For first t u a) h in
        let y = flat p (past first s) B C r a in
        let i = jumps_kept s b c NoArrival first in
        let j = for_kept (holds_jump p.live a) t u y B C (total jumps_of a) (jumps_kept (past first s) B C r a) in
        let k = total-join (weight 1 0) (flat p s b c NoArrival first) (flat_for (holds_jump p.live a) t u y B C) in
        omega (arith, i, j, k)
    item_kept h b c r (Block a) = let i = jumps_kept h b c r a in omega (arith, i)
    item_kept h b c r (Goto l) = omega arith
    item_kept h b c r (Switch s d) =
        let i = inside (Switch s d) h in
        let n = names_of p h (switch_kind s) d in
        let B = aim (is_jumpy_switch p c d) (kept_breaks p.live d) (p.break_label h.construct) in
        let y = spread p i (scatter_aim p h d) c n d in
        let t = tests_among p.number (switch_kind s) h.variable n d in
        let o = spread_kept i (scatter_aim p h d) c n d in
        let k = total-join (weight 1 0) t (Then (Goto (otherwise_label p h d)) y) in
        let e = sections_kept i (is_jumpy_switch p c d) B c d in
        choose (is_scattered d) (total_in jumps_of d) (dissolved p h s d y) _ (omega (arith, o, k)) (omega (arith, e))
    item_kept h b c r (Mark l) = omega arith
    item_kept h b c r _ = omega arith

    last_kept : (h : Here) (b c : Aim) (r : Arrivals) (a : Forest) → ending p.live a ≡ Breaks → total jumps_of a ≤ Gotos (flat_last p h b c r a)
    last_kept h b c r Nil e = cc
    last_kept h b c r (Then x xs) e =
        by_last (ending p.live xs) (ending_of p.live x) (total_of jumps_of x) (total jumps_of xs) (flat_last_item p h b c r x)
        (join (flat_item p h b c r x) (flat_last p (past_item x h) b c r xs)) e
        (λ g f. (let i = last_item_kept h b c r x f in let j = gone_free xs g in omega (arith, i, j)))
        (λ f.
        let i = item_kept h b c r x in
        let j = last_kept (past_item x h) b c r xs f in
        let k = total-join (weight 1 0) (flat_item p h b c r x) (flat_last p (past_item x h) b c r xs) in
        omega (arith, i, j, k))

    last_item_kept : (h : Here) (b c : Aim) (r : Arrivals) (x : Tree) → ending_of p.live x ≡ Breaks → total_of jumps_of x ≤ Gotos (flat_last_item p h b c r x)
    last_item_kept h b c r (Block a) e = let i = last_kept h b c r a e in omega (arith, i)
    last_item_kept h b c r (Switch s d) e = absurd (switch_no_break _ _ e)
    last_item_kept h b c r (Goto l) e = cc
    last_item_kept h b c r (If t x y) e = cc
    last_item_kept h b c r (While t a) e = cc
    last_item_kept h b c r (Do a t) e = cc
    last_item_kept h b c r (For first t u a) e = cc
    last_item_kept h b c r _ e = omega arith

    sections_kept : (h : Here) (j : Bool) (b c : Aim) (d : Sections) → total_in jumps_of d ≤ total_in (weight 1 0) (flat_sections p h j b c d)
    sections_kept h j b c NoSection = omega arith
    sections_kept h j b c (Section cases default a ends d) =
        let i = by_ending (ending p.live a) (total jumps_of a) (flat_last p h b c NoArrival a) (flat p h b c NoArrival a)
        (λ e. last_kept h b c NoArrival a e) (jumps_kept h b c NoArrival a) in
        let k = sections_kept (past a h) j b c d in
        omega (arith, i, k)

    spread_kept : (h : Here) (b c : Aim) (n : Names) (d : Sections) → total_in jumps_of d ≤ Gotos (spread p h b c n d)
    spread_kept h b c n NoSection = omega arith
    spread_kept h b c n (Section cases default a ends d) =
        let i = jumps_kept h b c (Arrives n) a in
        let j = spread_kept (past a h) b c n d in
        let x = flat p h b c (Arrives n) a in
        let y = spread p (past a h) b c n d in
        let k = total-join (weight 1 0) (case_marks n cases default) (join x (join (end_goto ends b) y)) in
        let l = total-join (weight 1 0) x (join (end_goto ends b) y) in
        let m = total-join (weight 1 0) (end_goto ends b) y in
        omega (arith, i, j, k, l, m)
