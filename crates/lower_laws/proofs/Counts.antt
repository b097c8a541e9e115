-- How often a label stands in a flat list: no more often than the source, the constructs and the Arrivals have it.
use Rattle.std.proofs.Common.{ℕ, ◌+◌, ◌≤◌, true, eqb, ◌++◌, Option, Some, None, ◌≡◌, arith}
use Rattle.c_tree.specs.ExpressionTrees.{ExpressionTree}
use Rattle.c_tree.specs.TestTrees.{TestTree, Source}
use Rattle.c_tree.specs.Everywhere.{total, total_of, total_in}
use Rattle.c_tree.specs.Exits.{breaks, continues}
use Rattle.c_tree.specs.Trees.{Tree, Forest, Nil, Then, Sections, NoSection, Section, If, While, Do, For, Switch, Block, Local, Break, Continue, Goto, Mark, Arrival, join}
use Rattle.c_tree.specs.Changed.{one}
use Rattle.jump_meaning.specs.Code.{entry_or}
use Rattle.jump_meaning.specs.World.{no_slot}
use Rattle.jump_meaning.specs.Step.{switch_kind}
use Rattle.flat_laws.specs.Pieces.{Aim, Becomes, mark_of, third_items, with_third, Names, case_marks, tests_among}
use Rattle.flat_laws.specs.Placed.{places}
use Rattle.flat_laws.specs.Loose.{Arrivals, NoArrival, Arrives}
use Rattle.flat_laws.specs.Parts.{arrivals, arrivals_in, leaves, section_labels, switch_labels, Here}
use Rattle.flat_laws.specs.FlatForm.{names_of, scatter_aim, otherwise_label, end_goto}
use Rattle.flat_laws.proofs.Counts.{one_if, places_join, aim_places, scatter_places, third_places, assigned_places, tests_among_places, labelled, labelled_append, marks_places, arrived, arrived_append, sourced, gathered, gathered_in, gathered_among, exit_break, exit_continue, mark_places, arrival_places, end_places}
use Rattle.lower_laws.specs.Straight.{jump_if, while_items, ever_items, do_items}
use Rattle.lower_laws.specs.Lowered.{Layout, past, past_item, inside, jump_of, lowered_if, lowered_do, lowered_for, break_aim, for_aim, continue_aim, lowered, lowered_item, lowered_among}

-- of a construct with this number
abbrev pub five : ℕ → Layout → ℕ → ℕ
five L q k = (one_if (eqb L (q.plan.break_label k)) + one_if (eqb L (q.plan.continue_label k)) + one_if (eqb L (q.plan.default_label k))) + (one_if
    (eqb L (q.head_label k)) + one_if (eqb L (q.list_label k)))

abbrev pub makes : ℕ → Layout → Tree → Here → ℕ
makes L q (Switch s d) h = labelled L (names_of q.plan h (switch_kind s) d) (switch_labels d) + one_if (eqb L (q.plan.break_label h.construct))
makes L q x h = five L q h.construct

with_third_places : (L : ℕ) (u : Option ExpressionTree) (a : Forest) (c : Aim) → places L (with_third a c u) ≡ places L a + places L (mark_of c)
with_third_places L u a c =
    let h = places_join L a (join (mark_of c) (third_items u)) in
    let i = places_join L (mark_of c) (third_items u) in
    let j = third_places L u in omega (arith, h, i, j)

while_places : (L : ℕ) (t : TestTree) (h b e : ℕ) (a : Forest) → places L (while_items t h b e a) ≡ one_if (eqb L h) + one_if (eqb L b) + one_if
    (eqb L e) + places L a
while_places L t h b e a = let i = places_join L a (Then (Goto h) (one (Mark e))) in omega (arith, i)

module _ (L : ℕ) (q : Layout) where
  if_places : (h : Here) (t : TestTree) (o : Option ℕ) (a b : Forest) → places L (lowered_if q h t o a b) ≤ five L q h.construct + (places L a + places L b)
  if_places h t (Some l) a b = omega arith
  if_places h t None a b =
      let e = q.plan.break_label h.construct in
      let l = q.list_label h.construct in
      let i = places_join L b (Then (Goto e) (Then (Mark l) (join a (one (Mark e))))) in
      let j = places_join L a (one (Mark e)) in omega (arith, i, j)

  do_places : (h : Here) (t : TestTree) (a x : Forest) → places L (lowered_do q h t a (break_aim q h x) (continue_aim q h x)) ≤ five L q
      h.construct + places L a
  do_places h t a x =
      let m = break_aim q h x in
      let n = continue_aim q h x in
      let i = places_join L (do_items t (q.list_label h.construct) (join a (mark_of n))) (mark_of m) in
      let j = places_join L (join a (mark_of n)) (one (jump_if t (q.list_label h.construct))) in
      let k = places_join L a (mark_of n) in
      let o = aim_places L true (breaks x) (q.plan.break_label h.construct) in
      let r = aim_places L true (continues x) (q.plan.continue_label h.construct) in omega (arith, i, j, k, o, r)

  for_places : (h : Here) (t u : Option ExpressionTree) (a x : Forest) →
      places L (lowered_for q h t u a (for_aim q h t x) (continue_aim q h x)) ≤ five L q h.construct + places L a
  for_places h (Some t) u a x =
      let n = continue_aim q h x in
      let i = while_places L (Source t) (q.head_label h.construct) (q.list_label h.construct) (q.plan.break_label h.construct) (with_third a n u) in
      let j = with_third_places L u a n in
      let r = aim_places L true (continues x) (q.plan.continue_label h.construct) in omega (arith, i, j, r)
  for_places h None u a x =
      let m = break_aim q h x in
      let n = continue_aim q h x in
      let i = places_join L (ever_items (q.head_label h.construct) (with_third a n u)) (mark_of m) in
      let j = places_join L (with_third a n u) (one (Goto (q.head_label h.construct))) in
      let k = with_third_places L u a n in
      let o = aim_places L true (breaks x) (q.plan.break_label h.construct) in
      let r = aim_places L true (continues x) (q.plan.continue_label h.construct) in omega (arith, i, j, k, o, r)

  abbrev bound : Here → Arrivals → Forest → ℕ
  bound h r xs = total (sourced L q.plan) xs + gathered inside past (makes L q) h xs + arrived L r (arrivals xs)

  abbrev bound_in : Here → Arrivals → Tree → ℕ
  bound_in h r x = total_of (sourced L q.plan) x + gathered_in inside past (makes L q) h x + arrived L r (arrivals_in x)

  mutual
    pub bounded : (xs : Forest) (h : Here) (b c : Aim) (r : Arrivals) → places L (lowered q h b c r xs) ≤ bound h r xs
    bounded Nil h b c r = omega arith
    bounded (Then x xs) h b c r =
        let i = bounded_in x h b c r in
        let j = bounded xs (past_item x h) b c r in
        let k = places_join L (lowered_item q h b c r x) (lowered q (past_item x h) b c r xs) in
        let l = arrived_append L r (arrivals_in x) (arrivals xs) in omega (arith, i, j, k, l)

    bounded_in : (x : Tree) (h : Here) (b c : Aim) (r : Arrivals) → places L (lowered_item q h b c r x) ≤ bound_in h r x
    bounded_in (If t x y) h b c r =
        let h' = inside (If t x y) h in
        let i = bounded x h' b c r in
        let j = bounded y (past x h') b c r in
        let k = if_places h t (jump_of q.plan.live x y) (lowered q h' b c r x) (lowered q (past x h') b c r y) in
        let l = arrived_append L r (arrivals x) (arrivals y) in omega (arith, i, j, k, l)
    bounded_in (While t a) h b c r =
        let h' = inside (While t a) h in
        let e = q.plan.break_label h.construct in
        let g = q.head_label h.construct in
        let i = bounded a h' (Becomes e) (Becomes g) r in
        let j = while_places L t g (q.list_label h.construct) e (lowered q h' (Becomes e) (Becomes g) r a) in omega (arith, i, j)
    bounded_in (Do a t) h b c r =
        let h' = inside (Do a t) h in
        let i = bounded a h' (break_aim q h a) (continue_aim q h a) r in
        let j = do_places h t (lowered q h' (break_aim q h a) (continue_aim q h a) r a) a in omega (arith, i, j)
    bounded_in (For first t u a) h b c r =
        let m = for_aim q h t a in
        let n = continue_aim q h a in
        let h' = inside (For first t u a) h in
        let fa = lowered q (past first h') m n r a in
        let i = bounded first h' b c NoArrival in
        let j = bounded a (past first h') m n r in
        let k = places_join L (lowered q h' b c NoArrival first) (lowered_for q h t u fa m n) in
        let l = for_places h t u fa a in omega (arith, i, j, k, l)
    bounded_in (Block a) h b c r = let i = bounded a h b c r in omega (arith, i)
    bounded_in (Local x None) h b c r = omega arith
    bounded_in (Local x (Some es)) h b c r = let i = assigned_places L (entry_or no_slot q.plan.slots x).kind x
        (entry_or no_slot q.plan.slots x).cells es in omega (arith, i)
    bounded_in Break h b c r = let i = exit_break L b in omega (arith, i)
    bounded_in Continue h b c r = let i = exit_continue L c in omega (arith, i)
    bounded_in (Goto l) h b c r = omega arith
    bounded_in (Mark l) h b c r = let i = mark_places L (q.plan.source l) (q.plan.live l) in omega (arith, i)
    bounded_in (Arrival e) h b c r = let i = arrival_places L r e in omega (arith, i)
    bounded_in (Switch s d) h b c r =
        let names = names_of q.plan h (switch_kind s) d in
        let h' = inside (Switch s d) h in
        let sp = lowered_among q h' (scatter_aim q.plan h d) c names d in
        let i = bounded_among d h' (scatter_aim q.plan h d) c names in
        let j = scatter_places L (leaves d) (q.plan.break_label h.construct) in
        let ts = tests_among q.plan.number (switch_kind s) h.variable names d in
        let k = places_join L ts (Then (Goto (otherwise_label q.plan h d)) sp) in
        let l = tests_among_places L q.plan.number (switch_kind s) h.variable names d in omega (arith, i, j, k, l)
    bounded_in _ h b c r = omega arith

    bounded_among : (d : Sections) (h : Here) (b c : Aim) (names : Names) →
        places L (lowered_among q h b c names d) ≤ places L (mark_of b) + (total_in (sourced L q.plan) d + gathered_among inside past (makes L q) h
        d) + labelled L names (switch_labels d)
    bounded_among NoSection h b c names = omega arith
    bounded_among (Section cases default a ends d) h b c names =
        let fa = lowered q h b c (Arrives names) a in
        let sp = lowered_among q (past a h) b c names d in
        let i = bounded a h b c (Arrives names) in
        let j = bounded_among d (past a h) b c names in
        let k = places_join L (case_marks names cases default) (join fa (join (end_goto ends b) sp)) in
        let l = places_join L fa (join (end_goto ends b) sp) in
        let m = end_places L ends b sp in
        let n = marks_places L names cases default in
        let o = labelled_append L names (section_labels cases default) (arrivals a ++ switch_labels d) in
        let z = labelled_append L names (arrivals a) (switch_labels d) in omega (arith, i, j, k, l, m, n, o, z)
