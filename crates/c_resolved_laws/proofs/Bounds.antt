-- The flat form of a body has no more gotos and labels than its items give at most.
use Rattle.std.proofs.Common.{◌≡◌, ◌≤◌, ℕ, zero, suc, ◌+◌, ℤ, Bool, true, false, cond, List, [], ◌∷◌, length, Option, Some, None, refl}
use Rattle.std.proofs.Common.{sym, ap, subst, ◌∙◌, arith}
use Rattle.std.specs.Option.{option_map_or, IsSomeAnd}
use Rattle.c_types.specs.declared.kinds.IntKind.{IntKind}
use Rattle.c_tree.specs.Cases.{case_number}
use Rattle.c_tree.specs.Exits.{breaks, continues}
use Rattle.c_tree.specs.ExpressionTrees.{ExpressionTree}
use Rattle.c_tree.specs.Everywhere.{total, total_of, total_in}
use Rattle.c_tree.specs.Changed.{one}
use Rattle.c_tree.specs.Numerals.{constant}
use Rattle.c_tree.specs.TestTrees.{Source}
use Rattle.c_tree.specs.Trees.{Tree, Forest, Nil, Then, Sections, NoSection, Section, If, While, Do, For, Switch, Block, Local, Break, Continue, Goto}
use Rattle.c_tree.specs.Trees.{Mark, Arrival, join}
use Rattle.c_tree.proofs.KeptLemmas.{total-join}
use Rattle.jump_meaning.specs.Code.{entry_or}
use Rattle.jump_meaning.specs.World.{no_slot}
use Rattle.jump_meaning.specs.Step.{switch_kind}
use Rattle.flat_laws.specs.Pieces.{Aim, Stays, Becomes, Absent, mark_of, third_items, assigned_cells, Names, is_number, test_for, tests_for}
use Rattle.flat_laws.specs.Pieces.{tests, tests_in, tests_among, case_marks}
use Rattle.flat_laws.specs.Loose.{Arrivals, NoArrival, Arrives}
use Rattle.flat_laws.specs.Parts.{is_named, is_scattered, holds_jump, kept_breaks, has_jumps, Here, past, past_item, inside, Ending, Breaks}
use Rattle.flat_laws.specs.Parts.{ending, is_gone}
use Rattle.flat_laws.specs.FlatForm.{Plan, names_of, scatter_aim, otherwise_label, end_goto, aim, exit, is_jumpy_switch, assigned, mark_if, arrival}
use Rattle.flat_laws.specs.FlatForm.{dissolved, if_breaks, flat_for, flat, flat_item, flat_last, flat_last_item, flat_sections, spread, coded}
use Rattle.flat_laws.specs.FlatForm.{numbered, first_here, marks}
use Rattle.flat_laws.proofs.SameCounts.{weight, marks_counted}
use Rattle.c_resolved_laws.specs.Bounds.{entries, most_gotos, most_labels}
use Rattle.c_resolved_laws.specs.Counts.{measured_form, section_ends, without_strays, without_stray, gotos_of, labels_of}
use Rattle.c_resolved_laws.specs.Counts.{flat_counts}
use Rattle.c_resolved_laws.proofs.Counted.{jumps_stay, labels_stand}
use Rattle.c_resolved_laws.proofs.GotosCounted.{gotos_are}
use Rattle.c_resolved_laws.proofs.LabelsCounted.{all_fewer, marks_named, named_small}
use Rattle.c_resolved_laws.proofs.Measures.{goto_weights}

-- a goto counts so much, and a label so much
module _ (gotos labels : ℕ) where
  abbrev weights : Forest → ℕ
  weights a = total (weight gotos labels) a

  -- ---- the most that a part gives

  abbrev of_cases : List ExpressionTree → ℕ
  of_cases [] = 0
  of_cases (e ∷ es) = gotos + labels + of_cases es

  abbrev of_sections : Sections → ℕ
  of_sections NoSection = 0
  of_sections (Section cases default a ends c) = of_cases cases + cond default (gotos + labels) 0 + cond ends gotos 0 + of_sections c

  -- that an item gives, apart from those in it
  abbrev most : Tree → ℕ
  most (Goto l) = gotos
  most Break = gotos
  most Continue = gotos
  most (Arrival e) = gotos + labels
  most (Mark l) = labels
  most (While t a) = labels + labels
  most (Do a t) = labels + labels
  most (For first t u a) = labels + labels
  most (Switch s c) = gotos + labels + of_sections c
  most _ = 0

  abbrev mutual
    -- that the nested case labels of a list give as tests in front of it
    arrived : Forest → ℕ
    arrived Nil = 0
    arrived (Then x a) = arrived_in x + arrived a

    arrived_in : Tree → ℕ
    arrived_in (If t a b) = arrived a + arrived b
    arrived_in (While t a) = arrived a
    arrived_in (Do a t) = arrived a
    arrived_in (For first t u a) = arrived a
    arrived_in (Block a) = arrived a
    arrived_in (Arrival e) = gotos
    arrived_in _ = 0

  -- ---- what the parts become

  mark_small : (b : Aim) → weights (mark_of b) ≤ labels
  mark_small Stays = omega arith
  mark_small (Becomes l) = omega arith
  mark_small Absent = omega arith

  exit_small : (b : Aim) (x : Tree) → total_of (weight gotos labels) x ≡ 0 → weights (exit b x) ≤ gotos
  exit_small Stays x e = omega (arith, e)
  exit_small (Becomes l) x e = omega arith
  exit_small Absent x e = omega (arith, e)

  end_small : (e : Bool) (b : Aim) → weights (end_goto e b) ≤ cond e gotos 0
  end_small true Stays = omega arith
  end_small true (Becomes l) = omega arith
  end_small true Absent = omega arith
  end_small false b = omega arith

  flag_small : (b : Bool) (l : ℕ) → weights (mark_if b l) ≤ labels
  flag_small true l = omega arith
  flag_small false l = omega arith

  arrival_small : (r : Arrivals) (e : Option ExpressionTree) → weights (arrival r e) ≤ labels
  arrival_small NoArrival e = omega arith
  arrival_small (Arrives n) e = omega arith

  third_none : (u : Option ExpressionTree) → weights (third_items u) ≡ 0
  third_none None = refl
  third_none (Some e) = omega arith

  cells_none : (k : IntKind) (x i : ℕ) (es : List ExpressionTree) (m : ℕ) → weights (assigned_cells k x i es m) ≡ 0
  cells_none k x i (e ∷ es) m = let h = cells_none k x (suc i) es m in omega (arith, h)
  cells_none k x i [] zero = refl
  cells_none k x i [] (suc m) = let h = cells_none k x (suc i) [] m in omega (arith, h)

  assigned_none : (k : IntKind) (x : ℕ) (o : Option ℕ) (es : List ExpressionTree) → weights (assigned k x o es) ≡ 0
  assigned_none k x None [] = refl
  assigned_none k x None (e ∷ es) = omega arith
  assigned_none k x (Some n) es = cells_none k x 0 es _

  either_small : (q : Bool) (a b : Forest) (n : ℕ) → weights a ≤ n → weights b ≤ n → weights (cond q a b) ≤ n
  either_small true a b n h k = h
  either_small false a b n h k = k

  ended_small : (e : Ending) (a b : Forest) (n : ℕ) → weights a ≤ n → weights b ≤ n → weights (if_breaks e a b) ≤ n
  ended_small Breaks a b n h k = h
  ended_small _ a b n h k = k

  both : (a b : Forest) → weights (join a b) ≡ weights a + weights b
  both a b = total-join (weight gotos labels) a b

  for_small : (j : Bool) (t u : Option ExpressionTree) (a : Forest) (b c : Aim) → weights (flat_for j t u a b c) ≤ weights a + labels + labels
  for_small true t u a b c =
      let e = both a (join (mark_of c) (third_items u)) in
      let f = both (mark_of c) (third_items u) in
      let g = third_none u in
      let h = mark_small b in
      let i = mark_small c in
      omega (arith, e, f, g, h, i)
  for_small false t u a b c =
      let e = both a (mark_of c) in
      let h = mark_small b in
      let i = mark_small c in
      omega (arith, e, h, i)

  -- ---- the tests of a scattered switch

  module _ (number : IntKind → ℤ → ExpressionTree) (k : IntKind) (v : ℕ) (n : Names) where
    test_small : (x : ExpressionTree) → weights (test_for number k v n x) ≤ gotos
    test_small x = at (case_number k x)
      where
        at : (o : Option ℤ) → weights (option_map_or (λ z. one (If (Source (is_number k v (number k z))) (one (Goto (n (Some x)))) Nil)) o Nil) ≤ gotos
        at None = omega arith
        at (Some z) = omega arith

    -- with the labels of the cases
    entries_small : (es : List ExpressionTree) (default : Bool)
        → weights (tests_for number k v n es) + weights (case_marks n es default) ≤ of_cases es + cond default (gotos + labels) 0
    entries_small [] true = omega arith
    entries_small [] false = omega arith
    entries_small (e ∷ es) default =
        let f = both (test_for number k v n e) (tests_for number k v n es) in
        let h = test_small e in
        let i = entries_small es default in
        omega (arith, f, h, i)

    mutual
      tests_small : (a : Forest) → weights (tests number k v n a) ≤ arrived a
      tests_small Nil = omega arith
      tests_small (Then x a) =
          let e = both (tests_in number k v n x) (tests number k v n a) in
          let i = tests_in_small x in
          let j = tests_small a in
          omega (arith, e, i, j)

      tests_in_small : (x : Tree) → weights (tests_in number k v n x) ≤ arrived_in x
      tests_in_small (If t a b) =
          let e = both (tests number k v n a) (tests number k v n b) in
          let i = tests_small a in
          let j = tests_small b in
          omega (arith, e, i, j)
      tests_in_small (While t a) = tests_small a
      tests_in_small (Do a t) = tests_small a
      tests_in_small (For f t u a) = tests_small a
      tests_in_small (Block a) = tests_small a
      tests_in_small (Arrival None) = omega arith
      tests_in_small (Arrival (Some e)) = test_small e
      tests_in_small _ = omega arith

  -- ---- along the flat form

  module _ (p : Plan) where
    mutual
      pub flat_small : (h : Here) (b c : Aim) (r : Arrivals) (a : Forest) → weights (flat p h b c r a) + arrived a ≤ total most a
      flat_small h b c r Nil = omega arith
      flat_small h b c r (Then x a) =
          let e = both (flat_item p h b c r x) (flat p (past_item x h) b c r a) in
          let i = item_small h b c r x in
          let j = flat_small (past_item x h) b c r a in
          omega (arith, e, i, j)

      item_small : (h : Here) (b c : Aim) (r : Arrivals) (x : Tree) → weights (flat_item p h b c r x) + arrived_in x ≤ total_of most x
      item_small h b c r (If t x y) = let i = flat_small h b c r x in let j = flat_small (past x h) b c r y in omega (arith, i, j)
      item_small h b c r (While t a) =
          let B = aim (holds_jump p.live a) (breaks a) (p.break_label h.construct) in
          let C = aim (holds_jump p.live a) (continues a) (p.continue_label h.construct) in
          let e = both (flat p (inside (While t a) h) B C r a) (mark_of C) in
          let i = flat_small (inside (While t a) h) B C r a in
          let j = mark_small B in
          let k = mark_small C in
          omega (arith, e, i, j, k)
      item_small h b c r (Do a t) =
          let B = aim (holds_jump p.live a) (breaks a) (p.break_label h.construct) in
          let C = aim (holds_jump p.live a) (continues a) (p.continue_label h.construct) in
          let e = both (flat p (inside (Do a t) h) B C r a) (mark_of C) in
          let i = flat_small (inside (Do a t) h) B C r a in
          let j = mark_small B in
          let k = mark_small C in
          omega (arith, e, i, j, k)
      item_small h b c r (For first t u a) =
          let B = aim (holds_jump p.live a) (breaks a) (p.break_label h.construct) in
          let C = aim (holds_jump p.live a) (continues a) (p.continue_label h.construct) in
          let s = inside (For first t u a) h in
          let body = flat p (past first s) B C r a in
          let e = both (flat p s b c NoArrival first) (flat_for (holds_jump p.live a) t u body B C) in
          let i = flat_small s b c NoArrival first in
          let j = flat_small (past first s) B C r a in
          let k = for_small (holds_jump p.live a) t u body B C in
          omega (arith, e, i, j, k)
      item_small h b c r (Block a) = let i = flat_small h b c r a in omega (arith, i)
      item_small h b c r (Local x None) = omega arith
      item_small h b c r (Local x (Some es)) =
          let slot = entry_or no_slot p.slots x in
          let e = assigned_none slot.kind x slot.cells es in
          omega (arith, e)
      item_small h b c r Break = let i = exit_small b Break refl in omega (arith, i)
      item_small h b c r Continue = let i = exit_small c Continue refl in omega (arith, i)
      item_small h b c r (Goto l) = omega arith
      item_small h b c r (Mark l) = let i = flag_small (p.live l) (p.source l) in omega (arith, i)
      item_small h b c r (Arrival e) = let i = arrival_small r e in omega (arith, i)
      item_small h b c r (Switch s d) =
          let n = names_of p h (switch_kind s) d in
          let j = is_jumpy_switch p c d in
          let B = aim j (kept_breaks p.live d) (p.break_label h.construct) in
          let S = inside (Switch s d) h in
          let y = spread p S (scatter_aim p h d) c n d in
          let t = tests_among p.number (switch_kind s) h.variable n d in
          let e = both t (Then (Goto (otherwise_label p h d)) y) in
          let f = spread_small S (scatter_aim p h d) c p.number (switch_kind s) h.variable n d in
          let g = sections_small S j B c d in
          let i = mark_small B in
          let stays = Then (Switch s (flat_sections p S j B c d)) (mark_of B) in
          let all = gotos + labels + of_sections d + total_in most d in
          let m = either_small (is_scattered d) (dissolved p h s d y) stays all (omega (arith, e, f)) (omega (arith, g, i)) in
          omega (arith, m)
      item_small h b c r x = omega arith

      last_small : (h : Here) (b c : Aim) (r : Arrivals) (a : Forest) → weights (flat_last p h b c r a) ≤ total most a
      last_small h b c r Nil = omega arith
      last_small h b c r (Then x a) =
          let e = both (flat_item p h b c r x) (flat_last p (past_item x h) b c r a) in
          let i = item_small h b c r x in
          let j = last_small (past_item x h) b c r a in
          let k = last_item_small h b c r x in
          let longer = join (flat_item p h b c r x) (flat_last p (past_item x h) b c r a) in
          let all = total_of most x + total most a in
          either_small (is_gone (ending p.live a)) (flat_last_item p h b c r x) longer all (omega (arith, k)) (omega (arith, e, i, j))

      last_item_small : (h : Here) (b c : Aim) (r : Arrivals) (x : Tree) → weights (flat_last_item p h b c r x) ≤ total_of most x
      last_item_small h b c r (Block a) = let i = last_small h b c r a in omega (arith, i)
      last_item_small h b c r _ = omega arith

      sections_small : (h : Here) (j : Bool) (b c : Aim) (d : Sections) → total_in (weight gotos labels) (flat_sections p h j b c d) ≤ total_in most d
      sections_small h j b c NoSection = omega arith
      sections_small h j b c (Section cases default a ends d) =
          let e = flat_small h b c NoArrival a in
          let f = last_small h b c NoArrival a in
          let i = ended_small (ending p.live a) (flat_last p h b c NoArrival a) (flat p h b c NoArrival a) (total most a) f (omega (arith, e)) in
          let k = sections_small (past a h) j b c d in
          omega (arith, i, k)

      -- with the tests in front of them
      spread_small : (h : Here) (b c : Aim) (number : IntKind → ℤ → ExpressionTree) (k : IntKind) (v : ℕ) (n : Names) (d : Sections)
          → weights (tests_among number k v n d) + weights (spread p h b c n d) ≤ of_sections d + total_in most d + labels
      spread_small h b c number k v n NoSection = let i = mark_small b in omega (arith, i)
      spread_small h b c number k v n (Section cases default a ends d) =
          let y = flat p h b c (Arrives n) a in
          let z = spread p (past a h) b c n d in
          let e = both (tests_for number k v n cases) (join (tests number k v n a) (tests_among number k v n d)) in
          let f = both (tests number k v n a) (tests_among number k v n d) in
          let g = both (case_marks n cases default) (join y (join (end_goto ends b) z)) in
          let i = both y (join (end_goto ends b) z) in
          let j = both (end_goto ends b) z in
          let m = entries_small number k v n cases default in
          let o = tests_small number k v n a in
          let q = flat_small h b c (Arrives n) a in
          let s = end_small ends b in
          let t = spread_small (past a h) b c number k v n d in
          omega (arith, e, f, g, i, j, m, o, q, s, t)

  -- ---- stray case labels taken away

  mutual
    pub strays_small : (a : Forest) → total most (without_strays a) ≤ total most a
    strays_small Nil = omega arith
    strays_small (Then x a) =
        let e = total-join most (without_stray x) (without_strays a) in
        let i = stray_small x in
        let j = strays_small a in
        omega (arith, e, i, j)

    stray_small : (x : Tree) → total most (without_stray x) ≤ total_of most x
    stray_small (If t a b) = let i = strays_small a in let j = strays_small b in omega (arith, i, j)
    stray_small (While t a) = let i = strays_small a in omega (arith, i)
    stray_small (Do a t) = let i = strays_small a in omega (arith, i)
    stray_small (For first t u a) = let i = strays_small a in omega (arith, i)
    stray_small (Block a) = let i = strays_small a in omega (arith, i)
    stray_small (Arrival e) = omega arith
    stray_small x = omega arith

-- ---- gotos alone, and labels alone

cases_once : (es : List ExpressionTree) → of_cases 1 0 es ≡ length es
cases_once [] = refl
cases_once (e ∷ es) = let h = cases_once es in omega (arith, h)

marks_once : (es : List ExpressionTree) → of_cases 0 1 es ≡ length es
marks_once [] = refl
marks_once (e ∷ es) = let h = marks_once es in omega (arith, h)

no_end : (b : Bool) → cond b 0 0 ≤ 0
no_end true = omega arith
no_end false = omega arith

sections_by_gotos : (c : Sections) → of_sections 1 0 c ≡ entries c + section_ends c
sections_by_gotos NoSection = refl
sections_by_gotos (Section cases default a ends c) = let h = cases_once cases in let i = sections_by_gotos c in omega (arith, h, i)

sections_by_labels : (c : Sections) → of_sections 0 1 c ≡ entries c
sections_by_labels NoSection = refl
sections_by_labels (Section cases default a ends c) = let h = marks_once cases in let i = no_end ends in let j = sections_by_labels c in omega (arith, h, i, j)

by_gotos : (x : Tree) → most 1 0 x ≡ most_gotos x
by_gotos (Switch s c) = let h = sections_by_gotos c in omega (arith, h)
by_gotos _ = refl

by_labels : (x : Tree) → most 0 1 x ≡ most_labels x
by_labels (Switch s c) = let h = sections_by_labels c in omega (arith, h)
by_labels _ = refl

-- ---- the counts

few_gotos : (body : Forest) → gotos_of (without_strays body) ≤ total most_gotos body
few_gotos body =
    let bound = without_strays body in
    let p = coded constant [] (length (marks bound)) bound in
    let q = numbered (marks (flat p (first_here 0) Stays Stays NoArrival bound)) p in
    let d = gotos_are [] (length (marks bound)) bound in
    let e = goto_weights (measured_form bound) in
    let f = flat_small 1 0 q (first_here 0) Stays Stays NoArrival bound in
    let g = strays_small 1 0 body in
    let h : total (most 1 0) body ≡ total most_gotos body = ap (λ (f : Tree → ℕ). total f body) (λ i x. by_gotos x i) in
    omega (arith, d, e, f, g, h)

few_labels : (body : Forest) → labels_of (without_strays body) ≤ total most_labels body
few_labels body =
    let bound = without_strays body in
    let named = is_named bound in
    let p = coded constant [] (length (marks bound)) bound in
    let q = numbered (marks (flat p (first_here 0) Stays Stays NoArrival bound)) p in
    let c = all_fewer named false bound in
    let d = named_small named (marks bound) in
    let e = marks_named named bound in
    let f = labels_stand bound in
    let i = marks_counted (measured_form bound) in
    let j = flat_small 0 1 q (first_here 0) Stays Stays NoArrival bound in
    let g = strays_small 0 1 body in
    let h : total (most 0 1) body ≡ total most_labels body = ap (λ (f : Tree → ℕ). total f body) (λ i x. by_labels x i) in
    omega (arith, c, d, e, f, g, h, i, j)

-- neither number is below that of the flat form
abbrev pub IsMost : Forest → ℕ × ℕ → Type 0
IsMost body n = n.0 ≤ total most_gotos body × n.1 ≤ total most_labels body

abbrev counted_if : Forest → Bool → Option (ℕ × ℕ)
counted_if body b = cond b (Some (gotos_of (without_strays body), labels_of (without_strays body))) None

pub counted_within : (body : Forest) → has_jumps body ≡ true → IsSomeAnd (flat_counts body) (IsMost body)
counted_within body jumps = subst (λ b. IsSomeAnd (counted_if body b) (IsMost body)) (sym (jumps_stay body ∙ jumps)) (few_gotos body, few_labels body)

pub none_counted : (body : Forest) → has_jumps body ≡ false → flat_counts body ≡ None
none_counted body none = ap (counted_if body) (jumps_stay body ∙ none)
