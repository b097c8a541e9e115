-- The flat form of a body is a looser body.
use Rattle.std.proofs.Common.{ℕ, zero, suc, ◌+◌, Bool, true, false, not, cond, ◌&&◌, ◌||◌, List, Option, Some, None, IfSome, ◌≡◌, refl, sym, ◌∙◌, ap, subst, arith}
use Rattle.c_types.specs.declared.kinds.IntKind.{IntKind}
use Rattle.c_tree.specs.ExpressionTrees.{ExpressionTree}
use Rattle.c_tree.specs.TestTrees.{Source, On, Off, AndOff, OrOn, Selects, Pick}
use Rattle.c_tree.specs.Everywhere.{Everywhere, EverywhereOf, EverywhereIn}
use Rattle.c_tree.specs.Exits.{breaks, breaks_of, breaks_in, continues, continues_of, continues_in}
use Rattle.c_tree.specs.Trees.{Tree, Forest, Nil, Then, Sections, NoSection, Section, Evaluate, Return, If, While, Do, For, Switch, Block, Local, Break, Continue, Goto, Mark, Arm, Leap, Land, Arrival, Note, join}
use Rattle.jump_meaning.specs.Code.{entry_or}
use Rattle.jump_meaning.specs.World.{no_slot}
use Rattle.jump_meaning.specs.Search.{ToDefault}
use Rattle.jump_meaning.specs.Step.{switch_kind}
use Rattle.flat_laws.specs.Pieces.{Aim, Stays, Becomes, Absent, mark_of, IsMoved, Names, wanted_among, case_marks, assign_number, tests_among}
use Rattle.flat_laws.specs.Loose.{Setting, In, slot_of, IsLocal, AreGone, IsGone, Mode, Open, Ended, Jumped, IsLast, in_open, in_last, Arrivals, NoArrival, Arrives, IsOtherwise, LooserItem, lo_evaluate, lo_return, lo_return_none, lo_note, lo_if, lo_while, lo_do, lo_for, lo_for_while, lo_block, lo_declares, lo_break_end, lo_goto, lo_switch, lo_scatter, Looser, la_nil, la_then, la_last, LooserSections, lc_none, lc_section, lc_ended, Spread, ls_none, ls_last, ls_falls}
use Rattle.c_tree.specs.TextItems.{is_empty}
use Rattle.c_tree.proofs.TreeLaws.{join-nil}
use Rattle.flat_laws.specs.Parts.{is_some_number, arrivals, arrivals_in, is_scattered, switch_labels, has_default, ends_some, leaves, holds_jump, Here, past, past_item, inside, Ending, Gone, Breaks, Jumps, Otherwise, later, gone_or, if_jumps, ending, ending_of, last_ending, is_gone, trimmed, trimmed_item, section_list, kept_breaks, ends_then}
use Rattle.flat_laws.specs.FlatForm.{Plan, names_of, scatter_aim, otherwise_label, end_goto, aim, is_jumpy_switch, mark_if, dissolved, if_breaks, flat_for, flat, flat_item, flat_last, flat_last_item, flat_sections, spread}
use Rattle.flat_laws.specs.Source.{AreInitialisers, IsSourceItem, IsVariable, IfTrue, HaveVariables, HasVariables, HaveVariablesAmong}
use Rattle.flat_laws.proofs.LooserItems.{false_true, Kept, kept_aim, kept_left, kept_right, aim_moved, Allowed, allowed_left, allowed_right, item_break, item_continue, item_arrival, item_local, is_live, is_dead, item_mark, scatter_moved, otherwise, Unended, unended_left, unended_right, unended_scatter, kept_scatter, spread_as}

-- ---- the derivation

module _ (p : Plan) (s : Setting) (labels : (l : ℕ) → s.labels l ≡ cond (p.live l) (Some (p.source l)) None)
    (slots : (x : ℕ) → IsLocal s x → (slot_of s x).cells ≡ (entry_or no_slot p.slots x).cells) (number : s.number ≡ p.number) where
  abbrev Fine : Tree → Type 0
  Fine x = IsSourceItem s p.live x

  -- ---- lists of which nothing stays

  switch_stays : (b : Bool) (e : Ending) → cond b (if_jumps e) Otherwise ≡ Gone → ⊥
  switch_stays false e h = cc
  switch_stays true Gone h = cc
  switch_stays true Breaks h = cc
  switch_stays true Jumps h = cc
  switch_stays true Otherwise h = cc

  switch_no_break : (b : Bool) (e : Ending) → cond b (if_jumps e) Otherwise ≡ Breaks → ⊥
  switch_no_break false e h = cc
  switch_no_break true Gone h = cc
  switch_no_break true Breaks h = cc
  switch_no_break true Jumps h = cc
  switch_no_break true Otherwise h = cc

  -- a dissolved switch that ends by a goto: no goto leads behind it, and its last list ends by one
  switch_jumps : (x y : Bool) (e : Ending) → cond (x && not y) (if_jumps e) Otherwise ≡ Jumps → (x ≡ true) × (y ≡ false) × (e ≡ Jumps)
  switch_jumps false y e h = cc
  switch_jumps true true e h = cc
  switch_jumps true false Jumps h = (refl, refl, refl)
  switch_jumps true false _ h = cc

  gone_else : (b : Bool) → gone_or b ≡ Gone → b ≡ false
  gone_else false e = refl
  gone_else true e = cc

  later_gone : (e f : Ending) → later e f ≡ Gone → (e ≡ Gone) × (f ≡ Gone)
  later_gone Gone f h = (refl, h)
  later_gone _ f h = cc

  mutual
    gone : (xs : Forest) → ending p.live xs ≡ Gone → AreGone s xs
    gone Nil e = tt
    gone (Then x xs) e = let h = later_gone (ending p.live xs) (ending_of p.live x) e in (gone_item x h.1, gone xs h.0)

    gone_item : (x : Tree) → ending_of p.live x ≡ Gone → IsGone s x
    gone_item (Local x None) e = tt
    gone_item (Local x (Some es)) e = cc
    gone_item (Mark l) e = is_dead p s labels l (gone_else (p.live l) e)
    gone_item (Block a) e = gone a e
    gone_item Break e = cc
    gone_item (Goto l) e = cc
    gone_item (Evaluate x) e = cc
    gone_item (Return x) e = cc
    gone_item (If t a b) e = cc
    gone_item (While t a) e = cc
    gone_item (Do a t) e = cc
    gone_item (For f t u a) e = cc
    gone_item (Switch t d) e = absurd (switch_stays (is_scattered d && not (leaves d)) (last_ending p.live d) e)
    gone_item _ e = cc

  mutual
    gone_flat : (xs : Forest) (h : Here) (b c : Aim) (r : Arrivals) → ending p.live xs ≡ Gone → flat p h b c r xs ≡ Nil
    gone_flat Nil h b c r e = refl
    gone_flat (Then x xs) h b c r e =
        let g = later_gone (ending p.live xs) (ending_of p.live x) e in
        ap (λ z. join z (flat p (past_item x h) b c r xs)) (gone_flat_item x h b c r g.1) ∙ gone_flat xs (past_item x h) b c r g.0

    gone_flat_item : (x : Tree) (h : Here) (b c : Aim) (r : Arrivals) → ending_of p.live x ≡ Gone → flat_item p h b c r x ≡ Nil
    gone_flat_item (Local x None) h b c r e = refl
    gone_flat_item (Mark l) h b c r e = ap (λ y. mark_if y (p.source l)) (gone_else (p.live l) e)
    gone_flat_item (Block a) h b c r e = gone_flat a h b c r e
    gone_flat_item (Local x (Some es)) h b c r e = cc
    gone_flat_item Break h b c r e = cc
    gone_flat_item (Goto l) h b c r e = cc
    gone_flat_item (Evaluate x) h b c r e = cc
    gone_flat_item (Return x) h b c r e = cc
    gone_flat_item (If t x y) h b c r e = cc
    gone_flat_item (While t a) h b c r e = cc
    gone_flat_item (Do a t) h b c r e = cc
    gone_flat_item (For f t u a) h b c r e = cc
    gone_flat_item (Switch t d) h b c r e = absurd (switch_stays (is_scattered d && not (leaves d)) (last_ending p.live d) e)
    gone_flat_item _ h b c r e = cc

  -- ---- loops

  for_as : {b c : Aim} {r : Arrivals} (t u : Option ExpressionTree) (y : Bool) (m n k l : ℕ) {i i' a a' : Forest} → IfSome t (In s) →
      IfSome u (In s) → Looser s Open b c NoArrival i i' → Looser s Open (aim y m k) (aim y n l) r a a'
      → LooserItem s Open b c r (For i t u a) (join i' (flat_for y t u a' (aim y m k) (aim y n l)))
  for_as t u true m n k l e f fi fa = lo_for_while t u (aim true m k) (aim true n l) (aim_moved n l) e f fi fa
  for_as t u false m n k l e f fi fa = lo_for t u Stays Stays e f fi fa

  -- ---- sections of a switch that stays

  unscattered : (x y : Bool) → (not x || y) ≡ false → (x ≡ true) × (y ≡ false)
  unscattered true y h = (refl, h)
  unscattered false y h = false_true (sym h)

  section_as : {b c : Aim} (cases : List ExpressionTree) (default ends jumpy : Bool) {xs full last : Forest} {d d' : Sections} (e : Ending) →
      ending p.live xs ≡ e → Kept b (breaks (section_list p.live xs e))
      → (Kept b (breaks xs) → Looser s Open b c NoArrival xs full) →
      (ending p.live xs ≡ Breaks → Kept b (breaks (trimmed p.live xs)) → Looser s Ended b c NoArrival xs last) →
      (ending p.live xs ≡ Jumps → Kept b (breaks xs) → Looser s Ended b c NoArrival xs full)
      → LooserSections s b c d d' → LooserSections s b c (Section cases default xs ends d)
      (Section cases default (if_breaks e last full) (ends_then jumpy ends e) d')
  section_as cases default ends jumpy Gone e k f g j fs = lc_section cases default ends (f k) fs
  section_as cases default ends jumpy Otherwise e k f g j fs = lc_section cases default ends (f k) fs
  section_as cases default ends jumpy Breaks e k f g j fs = lc_ended cases default ends (g e k) fs
  section_as cases default true jumpy Jumps e k f g j fs = lc_section cases default true (f k) fs
  section_as cases default false true Jumps e k f g j fs = lc_ended cases default false (j e k) fs
  section_as cases default false false Jumps e k f g j fs = lc_section cases default false (f k) fs

  -- the last item that stays decides
  later_else : (e f x : Ending) → later e f ≡ x → is_gone e ≡ false → e ≡ x
  later_else Gone f x h k = false_true (sym k)
  later_else _ f x h k = h

  later_last : (e f x : Ending) → later e f ≡ x → is_gone e ≡ true → (e ≡ Gone) × (f ≡ x)
  later_last Gone f x h k = (refl, h)
  later_last _ f x h k = false_true k

  -- ---- lists and items

  abbrev In_list : Here → Aim → Aim → Arrivals → Forest → Type 0
  In_list h b c r xs = Everywhere Fine xs × HaveVariables s h xs × Allowed r (arrivals xs) × Kept c (continues xs)

  abbrev In_item : Here → Aim → Aim → Arrivals → Tree → Type 0
  In_item h b c r x = EverywhereOf Fine x × HasVariables s h x × Allowed r (arrivals_in x) × Kept c (continues_of x)

  head_in : (h : Here) (b c : Aim) (r : Arrivals) (x : Tree) (xs : Forest) → In_list h b c r (Then x xs) → In_item h b c r x
  head_in h b c r x xs i = (i.0.0, i.1.0, allowed_left r (arrivals_in x) (arrivals xs) i.2, kept_left c (continues_of x) (continues xs) i.3)

  tail_in : (h : Here) (b c : Aim) (r : Arrivals) (x : Tree) (xs : Forest) → In_list h b c r (Then x xs) → In_list (past_item x h) b c r xs
  tail_in h b c r x xs i = (i.0.1, i.1.1, allowed_right r (arrivals_in x) (arrivals xs) i.2, kept_right c (continues_of x) (continues xs) i.3)

  gone_or_no_break : (b : Bool) → gone_or b ≡ Breaks → ⊥
  gone_or_no_break true e = cc
  gone_or_no_break false e = cc

  gone_or_no_jump : (b : Bool) → gone_or b ≡ Jumps → ⊥
  gone_or_no_jump true e = cc
  gone_or_no_jump false e = cc

  last_as : {b c : Aim} {r : Arrivals} (x : Tree) (xs ls ms : Forest) (y : Bool) → Kept b (breaks (cond y (trimmed_item p.live x) (Then x (trimmed p.live xs))))
      → (y ≡ true → Kept b (breaks (trimmed_item p.live x)) → LooserItem s Ended b c r x ls) → (y ≡ true → AreGone s xs) →
      (y ≡ false → Kept b (breaks_of x + breaks (trimmed p.live xs)) → Looser s Ended b c r (Then x xs) ms)
      → Looser s Ended b c r (Then x xs) (cond y ls ms)
  last_as x xs ls ms true k f g m = la_last tt (f refl k) (g refl)
  last_as x xs ls ms false k f g m = m refl k

  jumps_as : {n : Mode} {b c : Aim} {r : Arrivals} (x : Tree) (xs ys zs : Forest) (y : Bool) → IsLast n → is_gone (ending p.live xs) ≡ y
      → (y ≡ true → LooserItem s n b c r x ys) → (y ≡ true → AreGone s xs) → (y ≡ true → zs ≡ Nil) →
      (y ≡ false → Looser s n b c r (Then x xs) (join ys zs)) → Looser s n b c r (Then x xs) (join ys zs)
  jumps_as {n = n} {b = b} {c = c} {r = r} x xs ys zs true last q f g e m =
      subst (λ z. Looser s n b c r (Then x xs) z) (sym (ap (join ys) (e refl) ∙ join-nil ys)) (la_last last (f refl) (g refl))
  jumps_as x xs ys zs false last q f g e m = m refl

  last_list : {c : Aim} {names : Names} (cases : List ExpressionTree) (default ends : Bool) (a ys : Forest) → ends ≡ false →
      Looser s Jumped Absent c (Arrives names) a ys
      → Spread s Jumped Absent c names (Section cases default a ends NoSection)
      (join (case_marks names cases default) (join ys (join (end_goto ends Absent) Nil)))
  last_list cases default true a ys e fa = false_true (sym e)
  last_list {c = c} {names = names} cases default false a ys e fa =
      subst (λ z. Spread s Jumped Absent c names (Section cases default a false NoSection) (join (case_marks names cases default) z))
      (sym (join-nil ys)) (ls_last cases default fa)

  spread_on : {c : Aim} {names : Names} (cases : List ExpressionTree) (default ends : Bool) (a ys : Forest) (d : Sections) (zs : Forest) →
      ends ≡ false → Looser s Open Absent c (Arrives names) a ys → Spread s Jumped Absent c names d zs
      → Spread s Jumped Absent c names (Section cases default a ends d) (join (case_marks names cases default) (join ys (join (end_goto ends Absent) zs)))
  spread_on cases default true a ys d zs e fa fs = false_true (sym e)
  spread_on cases default false a ys d zs e fa fs = ls_falls cases default fa fs

  both_false : (x y : Bool) → (x || y) ≡ false → (x ≡ false) × (y ≡ false)
  both_false false y h = (refl, h)
  both_false true y h = false_true (sym h)

  last_or : {c : Aim} {names : Names} (cases : List ExpressionTree) (default ends : Bool) (a : Forest) (h : Here) (d : Sections) →
      (ends || ends_some d) ≡ false → last_ending p.live (Section cases default a ends d) ≡ Jumps
      → (ending p.live a ≡ Jumps → Looser s Jumped Absent c (Arrives names) a (flat p h Absent c (Arrives names) a)) →
      Looser s Open Absent c (Arrives names) a (flat p h Absent c (Arrives names) a)
      → (ends_some d ≡ false → last_ending p.live d ≡ Jumps → Spread s Jumped Absent c names d (spread p (past a h) Absent c names d))
      → Spread s Jumped Absent c names (Section cases default a ends d) (spread p h Absent c names (Section cases default a ends d))
  last_or {c = c} {names = names} cases default ends a h NoSection u e f g k =
      last_list cases default ends a (flat p h Absent c (Arrives names) a) (both_false ends false u).0 (f e)
  last_or {c = c} {names = names} cases default ends a h (Section cases' default' a' ends' d) u e f g k =
      let d' = Section cases' default' a' ends' d in
      let x = both_false ends (ends_some d') u in
      spread_on cases default ends a (flat p h Absent c (Arrives names) a) d' (spread p (past a h) Absent c names d') x.0 g (k x.1 e)

  no_breaks : (x : Bool) (n : ℕ) → (x || is_some_number n) ≡ false → n ≡ 0
  no_breaks false zero h = refl
  no_breaks false (suc n) h = false_true (sym h)
  no_breaks true n h = false_true (sym h)

  no_ends : (x y z : Bool) → (x || y || z) ≡ false → y ≡ false
  no_ends false false z h = refl
  no_ends false true z h = h
  no_ends true y z h = false_true (sym h)

  -- a scattered switch behind which no goto leads, as the last item of a list that ends by a goto
  scatter_last : {m : Mode} (e : ExpressionTree) (d : Sections) (h : Here) (b c : Aim) (r : Arrivals) (zs : Forest) → IsLast m →
      In_item h b c r (Switch (Selects e) d) → is_scattered d ≡ true → leaves d ≡ false
      → Spread s Jumped Absent c (names_of p h (switch_kind (Selects e)) d) d
      (spread p (inside (Switch (Selects e) d) h) Absent c (names_of p h (switch_kind (Selects e)) d) d)
      → LooserItem s m b c r (Switch (Selects e) d)
      (cond (is_scattered d) (dissolved p h (Selects e) d
      (spread p (inside (Switch (Selects e) d) h) (scatter_aim p h d) c (names_of p h (switch_kind (Selects e)) d) d)) zs)
  scatter_last {m} e d h b c r zs last i q u fs =
      let kind = switch_kind (Selects e) in
      let names = names_of p h kind d in
      let h' = inside (Switch (Selects e) d) h in
      let v = subst (λ z. IfTrue z (IsVariable s h.variable kind)) q i.1.0 in
      let a : scatter_aim p h d ≡ Absent = ap (λ y. cond y (Becomes (p.break_label h.construct)) Absent) u in
      let o : IsOtherwise (wanted_among ToDefault names d) Absent (otherwise_label p h d) =
      subst (λ z. IsOtherwise (wanted_among ToDefault names d) z (otherwise_label p h d)) a (otherwise p h kind d) in
      subst (λ y. LooserItem s m b c r (Switch (Selects e) d) (cond y (dissolved p h (Selects e) d (spread p h' (scatter_aim p h d) c names d)) zs)) (sym q)
      (subst (λ z. LooserItem s m b c r (Switch (Selects e) d) (dissolved p h (Selects e) d (spread p h' z c names d))) (sym a)
      (subst (λ z. LooserItem s m b c r (Switch (Selects e) d)
      (Then (Evaluate (assign_number kind h.variable e))
      (join (tests_among z kind h.variable names d) (Then (Goto (otherwise_label p h d)) (spread p h' Absent c names d))))) number
      (lo_scatter e Absent names h.variable (otherwise_label p h d) i.0.0 tt (in_last last) v.new v.cells v.kind o fs)))

  mutual
    pub derived : (xs : Forest) (h : Here) (b c : Aim) (r : Arrivals) → In_list h b c r xs → Kept b (breaks xs) → Looser s Open b c r xs (flat p h b c r xs)
    derived Nil h b c r i k = la_nil
    derived (Then x xs) h b c r i k =
        la_then (derived_item x h b c r (head_in h b c r x xs i) (kept_left b (breaks_of x) (breaks xs) k))
        (derived xs (past_item x h) b c r (tail_in h b c r x xs i) (kept_right b (breaks_of x) (breaks xs) k))

    derived_item : (x : Tree) (h : Here) (b c : Aim) (r : Arrivals) → In_item h b c r x → Kept b (breaks_of x) →
        LooserItem s Open b c r x (flat_item p h b c r x)
    derived_item (Evaluate e) h b c r i k = lo_evaluate e i.0
    derived_item (Return (Some e)) h b c r i k = lo_return e i.0
    derived_item (Return None) h b c r i k = lo_return_none
    derived_item (Note bs) h b c r i k = lo_note bs
    derived_item (If (Source t) x y) h b c r i k =
        lo_if t i.0.0 (derived x h b c r (i.0.1, i.1.0, allowed_left r (arrivals x) (arrivals y) i.2, kept_left c (continues x) (continues y) i.3)
        (kept_left b (breaks x) (breaks y) k))
        (derived y (past x h) b c r (i.0.2, i.1.1, allowed_right r (arrivals x) (arrivals y) i.2, kept_right c (continues x) (continues y) i.3)
        (kept_right b (breaks x) (breaks y) k))
    derived_item (If (On l) x y) h b c r i k = absurd i.0.0
    derived_item (If (Off l) x y) h b c r i k = absurd i.0.0
    derived_item (If (AndOff l t) x y) h b c r i k = absurd i.0.0
    derived_item (If (OrOn l t) x y) h b c r i k = absurd i.0.0
    derived_item (While (Source t) a) h b c r i k =
        let b' = aim (holds_jump p.live a) (breaks a) (p.break_label h.construct) in
        let c' = aim (holds_jump p.live a) (continues a) (p.continue_label h.construct) in
        lo_while t b' c' i.0.0 (derived a (inside (While (Source t) a) h) b' c' r
        (i.0.1, i.1, i.2, kept_aim (holds_jump p.live a) (continues a) (p.continue_label h.construct))
        (kept_aim (holds_jump p.live a) (breaks a) (p.break_label h.construct)))
    derived_item (While (On l) a) h b c r i k = absurd i.0.0
    derived_item (While (Off l) a) h b c r i k = absurd i.0.0
    derived_item (While (AndOff l t) a) h b c r i k = absurd i.0.0
    derived_item (While (OrOn l t) a) h b c r i k = absurd i.0.0
    derived_item (Do a (Source t)) h b c r i k =
        let b' = aim (holds_jump p.live a) (breaks a) (p.break_label h.construct) in
        let c' = aim (holds_jump p.live a) (continues a) (p.continue_label h.construct) in
        lo_do t b' c' i.0.0 (derived a (inside (Do a (Source t)) h) b' c' r
        (i.0.1, i.1, i.2, kept_aim (holds_jump p.live a) (continues a) (p.continue_label h.construct))
        (kept_aim (holds_jump p.live a) (breaks a) (p.break_label h.construct)))
    derived_item (Do a (On l)) h b c r i k = absurd i.0.0
    derived_item (Do a (Off l)) h b c r i k = absurd i.0.0
    derived_item (Do a (AndOff l t)) h b c r i k = absurd i.0.0
    derived_item (Do a (OrOn l t)) h b c r i k = absurd i.0.0
    derived_item (For z t u a) h b c r i k =
        let y = holds_jump p.live a in
        let h' = inside (For z t u a) h in
        for_as t u y (breaks a) (continues a) (p.break_label h.construct) (p.continue_label h.construct) i.0.0.0 i.0.0.1
        (derived z h' b c NoArrival (i.0.1, i.1.0, i.0.0.2, i.3) k)
        (derived a (past z h') (aim y (breaks a) (p.break_label h.construct)) (aim y (continues a) (p.continue_label h.construct)) r
        (i.0.2, i.1.1, i.2, kept_aim y (continues a) (p.continue_label h.construct)) (kept_aim y (breaks a) (p.break_label h.construct)))
    derived_item (Block a) h b c r i k = lo_block (derived a h b c r (i.0.1, i.1, i.2, i.3) k)
    derived_item (Local x None) h b c r i k = lo_declares x
    derived_item (Local x (Some es)) h b c r i k =
        item_local x es (entry_or no_slot p.slots x).kind (entry_or no_slot p.slots x).cells i.0.0 (slots x i.0.0)
        (subst (λ o. AreInitialisers o es) (slots x i.0.0) i.0.1) i.0.2
    derived_item Break h b c r i k = item_break b c k
    derived_item Continue h b c r i k = item_continue b c i.3
    derived_item (Goto l) h b c r i k = lo_goto l (p.source l) (is_live p s labels l i.0)
    derived_item (Mark l) h b c r i k = item_mark p s labels l (p.live l) refl
    derived_item (Arrival e) h b c r i k = item_arrival r e i.2
    derived_item (Arm l e) h b c r i k = absurd i.0
    derived_item (Leap l) h b c r i k = absurd i.0
    derived_item (Land l) h b c r i k = absurd i.0
    derived_item (Switch (Pick l n t) d) h b c r i k = absurd i.0.0
    derived_item (Switch (Selects e) d) h b c r i k =
        switch_as (is_scattered d) refl
        (λ q. derived_spread d h' (scatter_aim p h d) c (names_of p h kind d) (scatter_moved (leaves d) (p.break_label h.construct)) (i.0.1, i.1.1, i.3)
        (kept_scatter (not (has_default (switch_labels d))) (ends_some d) (breaks_in d) (p.break_label h.construct))
        (unended_scatter (not (has_default (switch_labels d))) (ends_some d) (is_some_number (breaks_in d)) (p.break_label h.construct)))
        (λ q. derived_sections d h' jumpy (aim jumpy (kept_breaks p.live d) (p.break_label h.construct)) c q (i.0.1, i.1.1, i.3)
        (kept_aim jumpy (kept_breaks p.live d) (p.break_label h.construct)))
      where
        h' : Here
        h' = inside (Switch (Selects e) d) h

        kind : IntKind
        kind = switch_kind (Selects e)

        jumpy : Bool
        jumpy = is_jumpy_switch p c d

        switch_as : (y : Bool) → is_scattered d ≡ y → (y ≡ true → Spread s Open (scatter_aim p h d) c (names_of p h kind d) d
            (spread p h' (scatter_aim p h d) c (names_of p h kind d) d))
            → (y ≡ false → LooserSections s (aim jumpy (kept_breaks p.live d) (p.break_label h.construct)) c d
            (flat_sections p h' jumpy (aim jumpy (kept_breaks p.live d) (p.break_label h.construct)) c d))
            → LooserItem s Open b c r (Switch (Selects e) d) (cond y (dissolved p h (Selects e) d (spread p h' (scatter_aim p h d) c (names_of p h kind d) d))
            (Then (Switch (Selects e) (flat_sections p h' jumpy (aim jumpy (kept_breaks p.live d) (p.break_label h.construct)) c d))
            (mark_of (aim jumpy (kept_breaks p.live d) (p.break_label h.construct)))))
        switch_as true q f g =
            let v = subst (λ z. IfTrue z (IsVariable s h.variable (switch_kind (Selects e)))) q i.1.0 in
            subst (λ z. LooserItem s Open b c r (Switch (Selects e) d)
            (Then (Evaluate (assign_number kind h.variable e))
            (join (tests_among z kind h.variable (names_of p h kind d) d)
            (Then (Goto (otherwise_label p h d)) (spread p h' (scatter_aim p h d) c (names_of p h kind d) d))))) number
            (lo_scatter e (scatter_aim p h d) (names_of p h kind d) h.variable (otherwise_label p h d) i.0.0
            (scatter_moved (leaves d) (p.break_label h.construct)) in_open v.new v.cells v.kind (otherwise p h kind d) (f refl))
        switch_as false q f g = lo_switch e (aim jumpy (kept_breaks p.live d) (p.break_label h.construct)) i.0.0 (g refl)

    derived_sections : (d : Sections) (h : Here) (jumpy : Bool) (b c : Aim) → is_scattered d ≡ false →
        EverywhereIn Fine d × HaveVariablesAmong s h d × Kept c (continues_in d) → Kept b (kept_breaks p.live d) →
        LooserSections s b c d (flat_sections p h jumpy b c d)
    derived_sections NoSection h jumpy b c q i k = lc_none
    derived_sections (Section cases default a ends d) h jumpy b c q i k =
        let u = unscattered (is_empty (arrivals a)) (is_scattered d) q in
        let j : In_list h b c NoArrival a = (i.0.0, i.1.0, u.0, kept_left c (continues a) (continues_in d) i.2) in
        let l = section_list p.live a (ending p.live a) in
        section_as cases default ends jumpy (ending p.live a) refl (kept_left b (breaks l) (kept_breaks p.live d) k)
        (λ k. derived a h b c NoArrival j k) (λ e k. derived_last a h b c NoArrival j e k) (λ e k. derived_jumps a Ended tt h b c NoArrival j e k)
        (derived_sections d (past a h) jumpy b c u.1 (i.0.1, i.1.1, kept_right c (continues a) (continues_in d) i.2)
        (kept_right b (breaks l) (kept_breaks p.live d) k))

    derived_spread : (d : Sections) (h : Here) (b c : Aim) (names : Names) → IsMoved b →
        EverywhereIn Fine d × HaveVariablesAmong s h d × Kept c (continues_in d) → Kept b (breaks_in d) → Unended b (ends_some d) →
        Spread s Open b c names d (spread p h b c names d)
    derived_spread NoSection h b c names m i k u = ls_none
    derived_spread (Section cases default a ends d) h b c names m i k u =
        spread_as ends b cases default m (unended_left b ends (ends_some d) u)
        (derived a h b c (Arrives names) (i.0.0, i.1.0, tt, kept_left c (continues a) (continues_in d) i.2) (kept_left b (breaks a) (breaks_in d) k))
        (derived_spread d (past a h) b c names m (i.0.1, i.1.1, kept_right c (continues a) (continues_in d) i.2)
        (kept_right b (breaks a) (breaks_in d) k) (unended_right b ends (ends_some d) u))

    -- the lists of a scattered switch of which the last ends by a goto
    derived_spread_last : (d : Sections) (h : Here) (c : Aim) (names : Names) →
        EverywhereIn Fine d × HaveVariablesAmong s h d × Kept c (continues_in d) → breaks_in d ≡ 0 → ends_some d ≡ false →
        last_ending p.live d ≡ Jumps → Spread s Jumped Absent c names d (spread p h Absent c names d)
    derived_spread_last NoSection h c names i k u e = cc
    derived_spread_last (Section cases default a ends d) h c names i k u e =
        last_or cases default ends a h d u e
        (λ e. derived_jumps a Jumped tt h Absent c (Arrives names) (i.0.0, i.1.0, tt, kept_left c (continues a) (continues_in d) i.2) e (omega (arith, k)))
        (derived a h Absent c (Arrives names) (i.0.0, i.1.0, tt, kept_left c (continues a) (continues_in d) i.2) (omega (arith, k)))
        (λ u e. derived_spread_last d (past a h) c names (i.0.1, i.1.1, kept_right c (continues a) (continues_in d) i.2) (omega (arith, k)) u e)

    -- a list that ends by a `break`, which goes
    derived_last : (xs : Forest) (h : Here) (b c : Aim) (r : Arrivals) → In_list h b c r xs → ending p.live xs ≡ Breaks →
        Kept b (breaks (trimmed p.live xs)) → Looser s Ended b c r xs (flat_last p h b c r xs)
    derived_last Nil h b c r i e k = cc
    derived_last (Then x xs) h b c r i e k =
        last_as x xs (flat_last_item p h b c r x) (join (flat_item p h b c r x) (flat_last p (past_item x h) b c r xs)) (is_gone (ending p.live xs)) k
        (λ q k. derived_last_item x h b c r (head_in h b c r x xs i) (later_last (ending p.live xs) (ending_of p.live x) Breaks e q).1 k)
        (λ q. gone xs (later_last (ending p.live xs) (ending_of p.live x) Breaks e q).0)
        (λ q k. la_then (derived_item x h b c r (head_in h b c r x xs i) (kept_left b (breaks_of x) (breaks (trimmed p.live xs)) k))
        (derived_last xs (past_item x h) b c r (tail_in h b c r x xs i) (later_else (ending p.live xs) (ending_of p.live x) Breaks e q)
        (kept_right b (breaks_of x) (breaks (trimmed p.live xs)) k)))

    derived_last_item : (x : Tree) (h : Here) (b c : Aim) (r : Arrivals) → In_item h b c r x → ending_of p.live x ≡ Breaks →
        Kept b (breaks (trimmed_item p.live x)) → LooserItem s Ended b c r x (flat_last_item p h b c r x)
    derived_last_item Break h b c r i e k = lo_break_end
    derived_last_item (Block a) h b c r i e k = lo_block (derived_last a h b c r (i.0.1, i.1, i.2, i.3) e (kept_left b (breaks (trimmed p.live a)) 0 k))
    derived_last_item (Mark l) h b c r i e k = absurd (gone_or_no_break (p.live l) e)
    derived_last_item (Local x None) h b c r i e k = cc
    derived_last_item (Local x (Some es)) h b c r i e k = cc
    derived_last_item (Goto l) h b c r i e k = cc
    derived_last_item (Evaluate x) h b c r i e k = cc
    derived_last_item (Return x) h b c r i e k = cc
    derived_last_item (If t x y) h b c r i e k = cc
    derived_last_item (While t a) h b c r i e k = cc
    derived_last_item (Do a t) h b c r i e k = cc
    derived_last_item (For f t u a) h b c r i e k = cc
    derived_last_item (Switch t d) h b c r i e k = absurd (switch_no_break (is_scattered d && not (leaves d)) (last_ending p.live d) e)
    derived_last_item _ h b c r i e k = cc

    -- a list that ends by a goto
    derived_jumps : (xs : Forest) (m : Mode) → IsLast m → (h : Here) (b c : Aim) (r : Arrivals) → In_list h b c r xs → ending p.live xs ≡ Jumps →
        Kept b (breaks xs) → Looser s m b c r xs (flat p h b c r xs)
    derived_jumps Nil m last h b c r i e k = cc
    derived_jumps (Then x xs) m last h b c r i e k =
        jumps_as x xs (flat_item p h b c r x) (flat p (past_item x h) b c r xs) (is_gone (ending p.live xs)) last refl
        (λ q. derived_jump_item x m last h b c r (head_in h b c r x xs i) (later_last (ending p.live xs) (ending_of p.live x) Jumps e q).1
        (kept_left b (breaks_of x) (breaks xs) k))
        (λ q. gone xs (later_last (ending p.live xs) (ending_of p.live x) Jumps e q).0)
        (λ q. gone_flat xs (past_item x h) b c r (later_last (ending p.live xs) (ending_of p.live x) Jumps e q).0)
        (λ q. la_then (derived_item x h b c r (head_in h b c r x xs i) (kept_left b (breaks_of x) (breaks xs) k))
        (derived_jumps xs m last (past_item x h) b c r (tail_in h b c r x xs i) (later_else (ending p.live xs) (ending_of p.live x) Jumps e q)
        (kept_right b (breaks_of x) (breaks xs) k)))

    derived_jump_item : (x : Tree) (m : Mode) → IsLast m → (h : Here) (b c : Aim) (r : Arrivals) → In_item h b c r x → ending_of p.live x ≡ Jumps →
        Kept b (breaks_of x) → LooserItem s m b c r x (flat_item p h b c r x)
    derived_jump_item (Goto l) m last h b c r i e k = lo_goto l (p.source l) (is_live p s labels l i.0)
    derived_jump_item (Block a) m last h b c r i e k = lo_block (derived_jumps a m last h b c r (i.0.1, i.1, i.2, i.3) e k)
    derived_jump_item (Mark l) m last h b c r i e k = absurd (gone_or_no_jump (p.live l) e)
    derived_jump_item Break m last h b c r i e k = cc
    derived_jump_item (Local x None) m last h b c r i e k = cc
    derived_jump_item (Local x (Some es)) m last h b c r i e k = cc
    derived_jump_item (Evaluate x) m last h b c r i e k = cc
    derived_jump_item (Return x) m last h b c r i e k = cc
    derived_jump_item (If t x y) m last h b c r i e k = cc
    derived_jump_item (While t a) m last h b c r i e k = cc
    derived_jump_item (Do a t) m last h b c r i e k = cc
    derived_jump_item (For f t u a) m last h b c r i e k = cc
    derived_jump_item (Switch (Pick l n t) d) m last h b c r i e k = absurd i.0.0
    derived_jump_item (Switch (Selects e) d) m last h b c r i q k =
        let z = switch_jumps (is_scattered d) (leaves d) (last_ending p.live d) q in
        let y = is_jumpy_switch p c d in
        let h' = inside (Switch (Selects e) d) h in
        let names = names_of p h (switch_kind (Selects e)) d in
        scatter_last e d h b c r (Then (Switch (Selects e) (flat_sections p h' y (aim y (kept_breaks p.live d) (p.break_label h.construct)) c d))
        (mark_of (aim y (kept_breaks p.live d) (p.break_label h.construct)))) last i z.0 z.1
        (derived_spread_last d h' c names (i.0.1, i.1.1, i.3) (no_breaks (not (has_default (switch_labels d)) || ends_some d) (breaks_in d) z.1)
        (no_ends (not (has_default (switch_labels d))) (ends_some d) (is_some_number (breaks_in d)) z.1) z.2)
    derived_jump_item _ m last h b c r i e k = cc
