-- The flat form of a list has the label of each of its Arrivals.
use Rattle.std.proofs.Common.{ℕ, ◌≤◌, ◌++◌, arith}
use Rattle.c_tree.specs.Exits.{breaks, continues}
use Rattle.c_tree.specs.Trees.{Tree, Forest, Nil, Then, Sections, NoSection, Section, If, While, Do, For, Block, Arrival, join}
use Rattle.flat_laws.specs.Pieces.{Aim, mark_of, Names, case_marks}
use Rattle.flat_laws.specs.Placed.{places}
use Rattle.flat_laws.specs.Loose.{Arrives, NoArrival}
use Rattle.flat_laws.specs.Parts.{arrivals, arrivals_in, section_labels, switch_labels, holds_jump, Here, past, past_item, inside}
use Rattle.flat_laws.specs.FlatForm.{Plan, aim, end_goto, flat_for, flat, flat_item, spread}
use Rattle.flat_laws.proofs.Counts.{places_join, labelled, labelled_append, marks_places, for_places}

module _ (L : ℕ) (p : Plan) (names : Names) where
  mutual
    arrived : (xs : Forest) (h : Here) (b c : Aim) → labelled L names (arrivals xs) ≤ places L (flat p h b c (Arrives names) xs)
    arrived Nil h b c = omega arith
    arrived (Then x xs) h b c =
        let i = arrived_in x h b c in
        let j = arrived xs (past_item x h) b c in
        let k = places_join L (flat_item p h b c (Arrives names) x) (flat p (past_item x h) b c (Arrives names) xs) in
        let l = labelled_append L names (arrivals_in x) (arrivals xs) in omega (arith, i, j, k, l)

    arrived_in : (x : Tree) (h : Here) (b c : Aim) → labelled L names (arrivals_in x) ≤ places L (flat_item p h b c (Arrives names) x)
    arrived_in (If t x y) h b c =
        let i = arrived x h b c in
        let j = arrived y (past x h) b c in
        let l = labelled_append L names (arrivals x) (arrivals y) in omega (arith, i, j, l)
    arrived_in (While t a) h b c =
        let m = aim (holds_jump p.live a) (breaks a) (p.break_label h.construct) in
        let n = aim (holds_jump p.live a) (continues a) (p.continue_label h.construct) in
        let i = arrived a (inside (While t a) h) m n in
        let k = places_join L (flat p (inside (While t a) h) m n (Arrives names) a) (mark_of n) in omega (arith, i, k)
    arrived_in (Do a t) h b c =
        let m = aim (holds_jump p.live a) (breaks a) (p.break_label h.construct) in
        let n = aim (holds_jump p.live a) (continues a) (p.continue_label h.construct) in
        let i = arrived a (inside (Do a t) h) m n in
        let k = places_join L (flat p (inside (Do a t) h) m n (Arrives names) a) (mark_of n) in omega (arith, i, k)
    arrived_in (For first t u a) h b c =
        let m = aim (holds_jump p.live a) (breaks a) (p.break_label h.construct) in
        let n = aim (holds_jump p.live a) (continues a) (p.continue_label h.construct) in
        let h' = inside (For first t u a) h in
        let fa = flat p (past first h') m n (Arrives names) a in
        let i = arrived a (past first h') m n in
        let j = for_places L (holds_jump p.live a) t u fa m n in
        let k = places_join L (flat p h' b c NoArrival first) (flat_for (holds_jump p.live a) t u fa m n) in omega (arith, i, j, k)
    arrived_in (Block a) h b c = arrived a h b c
    arrived_in (Arrival e) h b c = omega arith
    arrived_in x h b c = omega arith

  -- the lists of a scattered switch have the labels of its cases and of its default
  pub spread_labels : (d : Sections) (h : Here) (b c : Aim) → labelled L names (switch_labels d) ≤ places L (spread p h b c names d)
  spread_labels NoSection h b c = omega arith
  spread_labels (Section cases default a ends d) h b c =
      let fa = flat p h b c (Arrives names) a in
      let sp = spread p (past a h) b c names d in
      let i = arrived a h b c in
      let j = spread_labels d (past a h) b c in
      let k = places_join L (case_marks names cases default) (join fa (join (end_goto ends b) sp)) in
      let l = places_join L fa (join (end_goto ends b) sp) in
      let m = places_join L (end_goto ends b) sp in
      let n = marks_places L names cases default in
      let o = labelled_append L names (section_labels cases default) (arrivals a ++ switch_labels d) in
      let q = labelled_append L names (arrivals a) (switch_labels d) in omega (arith, i, j, k, l, m, n, o, q)
