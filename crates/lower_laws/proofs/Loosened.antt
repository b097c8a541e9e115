-- A body on its way to a flat list is a looser body.
use Rattle.std.proofs.Common.{ℕ, Bool, true, false, not, cond, Option, Some, None, ◌≡◌, refl, subst}
use Rattle.c_tree.specs.ExpressionTrees.{ExpressionTree}
use Rattle.c_tree.specs.TestTrees.{Source, On, Off, AndOff, OrOn, Selects, Pick}
use Rattle.c_tree.specs.Everywhere.{Everywhere, EverywhereOf, EverywhereIn}
use Rattle.c_tree.specs.Exits.{breaks, breaks_of, breaks_in, continues, continues_of, continues_in}
use Rattle.c_tree.specs.Changed.{one}
use Rattle.c_tree.specs.Trees.{Tree, Forest, Nil, Then, Sections, NoSection, Section, Evaluate, Return, If, While, Do, For, Switch, Block, Local, Break, Continue, Goto, Mark, Arm, Leap, Land, Arrival, Note, join}
use Rattle.jump_meaning.specs.Code.{entry_or}
use Rattle.jump_meaning.specs.World.{no_slot}
use Rattle.jump_meaning.specs.Step.{switch_kind}
use Rattle.flat_laws.specs.Pieces.{Aim, Becomes, IsMoved, Names, assign_number, tests_among}
use Rattle.flat_laws.specs.Loose.{Setting, In, slot_of, IsLocal, Open, in_open, Arrivals, NoArrival, Arrives, LooserItem, lo_evaluate, lo_return, lo_return_none, lo_note, lo_if, lo_while, lo_do, lo_for_while, lo_block, lo_declares, lo_goto, lo_drop, lo_scatter, Looser, la_nil, la_then, Spread, ls_none}
use Rattle.flat_laws.specs.Parts.{is_some_number, arrivals, arrivals_in, switch_labels, has_default, ends_some, leaves, Here}
use Rattle.flat_laws.specs.FlatForm.{names_of, scatter_aim, otherwise_label}
use Rattle.flat_laws.specs.Source.{AreInitialisers, IsSourceItem}
use Rattle.flat_laws.proofs.LooserItems.{false_true, Kept, kept_aim, kept_left, kept_right, aim_moved, Allowed, allowed_left, allowed_right, item_break, item_continue, item_arrival, item_local, is_live, is_dead, item_mark, scatter_moved, otherwise, Unended, unended_left, unended_right, unended_scatter, kept_scatter, spread_as}
use Rattle.lower_laws.specs.Lowered.{Layout, past, past_item, inside, is_bare, only_goto, jump_of, break_aim, for_aim, continue_aim}
use Rattle.lower_laws.specs.Opened.{opened_if, opened, opened_item, opened_among}
use Rattle.lower_laws.specs.Source.{HaveVariables, HasVariables, HaveVariablesAmong}

-- ---- the derivation

module _ (p : Layout) (s : Setting) (labels : (l : ℕ) → s.labels l ≡ cond (p.plan.live l) (Some (p.plan.source l)) None)
    (slots : (x : ℕ) → IsLocal s x → (slot_of s x).cells ≡ (entry_or no_slot p.plan.slots x).cells) (number : s.number ≡ p.plan.number) where
  abbrev Fine : Tree → Type 0
  Fine x = IsSourceItem s p.plan.live x

  -- ---- `if`s with one goto

  bare_mark : (y : Bool) (l : ℕ) (z : Bool) → p.plan.live l ≡ y → cond y false z ≡ true → (s.labels l ≡ None) × (z ≡ true)
  bare_mark true l z q e = false_true e
  bare_mark false l z q e = (is_dead p.plan s labels l q, e)

  bare_list : {b c : Aim} {r : Arrivals} (xs : Forest) → is_bare p.plan.live xs ≡ true → Looser s Open b c r xs Nil
  bare_list Nil e = la_nil
  bare_list (Then (Mark l) xs) e = let q = bare_mark (p.plan.live l) l (is_bare p.plan.live xs) refl e in la_then (lo_drop l q.0) (bare_list xs q.1)
  bare_list (Then x xs) e = false_true e

  only_mark : (y : Bool) (l m : ℕ) (o : Option ℕ) → p.plan.live l ≡ y → cond y None o ≡ Some m → (s.labels l ≡ None) × (o ≡ Some m)
  only_mark true l m o q e = cc
  only_mark false l m o q e = (is_dead p.plan s labels l q, e)

  only_one : (y : Bool) (l m : ℕ) → cond y (Some l) None ≡ Some m → (y ≡ true) × (l ≡ m)
  only_one true l m e = (refl, cc)
  only_one false l m e = cc

  only_list : {b c : Aim} {r : Arrivals} (m : ℕ) (xs : Forest) → Everywhere Fine xs → only_goto p.plan.live xs ≡ Some m →
      Looser s Open b c r xs (one (Goto (p.plan.source m)))
  only_list m Nil i e = cc
  only_list m (Then (Mark l) xs) i e = let q = only_mark (p.plan.live l) l m (only_goto p.plan.live xs) refl e in
      la_then (lo_drop l q.0) (only_list m xs i.1 q.1)
  only_list {b = b} {c = c} {r = r} m (Then (Goto l) xs) i e =
      let q = only_one (is_bare p.plan.live xs) l m e in
      subst (λ z. Looser s Open b c r (Then (Goto l) xs) (one (Goto (p.plan.source z)))) q.1
      (la_then (lo_goto l (p.plan.source l) (is_live p.plan s labels l i.0)) (bare_list xs q.0))
  only_list m (Then x xs) i e = cc

  both_of : (y : Bool) (o : Option ℕ) (m : ℕ) → cond y o None ≡ Some m → (y ≡ true) × (o ≡ Some m)
  both_of true o m e = (refl, e)
  both_of false o m e = cc

  if_as : {b c : Aim} {r : Arrivals} (t : ExpressionTree) (o : Option ℕ) {x x' y y' : Forest} → jump_of p.plan.live x y ≡ o → In s t →
      Everywhere Fine x → Looser s Open b c r x x' → Looser s Open b c r y y' →
      LooserItem s Open b c r (If (Source t) x y) (one (opened_if p (Source t) o x' y'))
  if_as t None e i j fx fy = lo_if t i fx fy
  if_as t (Some m) {x = x} {y = y} e i j fx fy = let q = both_of (is_bare p.plan.live y) (only_goto p.plan.live x) m e in
      lo_if t i (only_list m x j q.1) (bare_list y q.0)

  -- ---- loops

  kept_for : (h : Here) (t : Option ExpressionTree) (a : Forest) → Kept (for_aim p h t a) (breaks a)
  kept_for h (Some t) a = tt
  kept_for h None a = kept_aim true (breaks a) (p.plan.break_label h.construct)

  -- ---- lists and items

  abbrev In_list : Here → Aim → Aim → Arrivals → Forest → Type 0
  In_list h b c r xs = Everywhere Fine xs × HaveVariables s h xs × Allowed r (arrivals xs) × Kept c (continues xs)

  abbrev In_item : Here → Aim → Aim → Arrivals → Tree → Type 0
  In_item h b c r x = EverywhereOf Fine x × HasVariables s h x × Allowed r (arrivals_in x) × Kept c (continues_of x)

  head_in : (h : Here) (b c : Aim) (r : Arrivals) (x : Tree) (xs : Forest) → In_list h b c r (Then x xs) → In_item h b c r x
  head_in h b c r x xs i = (i.0.0, i.1.0, allowed_left r (arrivals_in x) (arrivals xs) i.2, kept_left c (continues_of x) (continues xs) i.3)

  tail_in : (h : Here) (b c : Aim) (r : Arrivals) (x : Tree) (xs : Forest) → In_list h b c r (Then x xs) → In_list (past_item x h) b c r xs
  tail_in h b c r x xs i = (i.0.1, i.1.1, allowed_right r (arrivals_in x) (arrivals xs) i.2, kept_right c (continues_of x) (continues xs) i.3)

  mutual
    pub loosened : (xs : Forest) (h : Here) (b c : Aim) (r : Arrivals) → In_list h b c r xs → Kept b (breaks xs) → Looser s Open b c r xs (opened p h b c r xs)
    loosened Nil h b c r i k = la_nil
    loosened (Then x xs) h b c r i k =
        la_then (loosened_item x h b c r (head_in h b c r x xs i) (kept_left b (breaks_of x) (breaks xs) k))
        (loosened xs (past_item x h) b c r (tail_in h b c r x xs i) (kept_right b (breaks_of x) (breaks xs) k))

    loosened_item : (x : Tree) (h : Here) (b c : Aim) (r : Arrivals) → In_item h b c r x → Kept b (breaks_of x) →
        LooserItem s Open b c r x (opened_item p h b c r x)
    loosened_item (Evaluate e) h b c r i k = lo_evaluate e i.0
    loosened_item (Return (Some e)) h b c r i k = lo_return e i.0
    loosened_item (Return None) h b c r i k = lo_return_none
    loosened_item (Note bs) h b c r i k = lo_note bs
    loosened_item (If (Source t) x y) h b c r i k =
        let h' = inside (If (Source t) x y) h in
        if_as t (jump_of p.plan.live x y) refl i.0.0 i.0.1
        (loosened x h' b c r (i.0.1, i.1.0, allowed_left r (arrivals x) (arrivals y) i.2, kept_left c (continues x) (continues y) i.3)
        (kept_left b (breaks x) (breaks y) k))
        (loosened y (past x h') b c r (i.0.2, i.1.1, allowed_right r (arrivals x) (arrivals y) i.2, kept_right c (continues x) (continues y) i.3)
        (kept_right b (breaks x) (breaks y) k))
    loosened_item (If (On l) x y) h b c r i k = absurd i.0.0
    loosened_item (If (Off l) x y) h b c r i k = absurd i.0.0
    loosened_item (If (AndOff l t) x y) h b c r i k = absurd i.0.0
    loosened_item (If (OrOn l t) x y) h b c r i k = absurd i.0.0
    loosened_item (While (Source t) a) h b c r i k =
        let b' = Becomes (p.plan.break_label h.construct) in
        let c' = Becomes (p.head_label h.construct) in
        lo_while t b' c' i.0.0 (loosened a (inside (While (Source t) a) h) b' c' r (i.0.1, i.1, i.2, tt) tt)
    loosened_item (While (On l) a) h b c r i k = absurd i.0.0
    loosened_item (While (Off l) a) h b c r i k = absurd i.0.0
    loosened_item (While (AndOff l t) a) h b c r i k = absurd i.0.0
    loosened_item (While (OrOn l t) a) h b c r i k = absurd i.0.0
    loosened_item (Do a (Source t)) h b c r i k =
        lo_do t (break_aim p h a) (continue_aim p h a) i.0.0
        (loosened a (inside (Do a (Source t)) h) (break_aim p h a) (continue_aim p h a) r
        (i.0.1, i.1, i.2, kept_aim true (continues a) (p.plan.continue_label h.construct)) (kept_aim true (breaks a) (p.plan.break_label h.construct)))
    loosened_item (Do a (On l)) h b c r i k = absurd i.0.0
    loosened_item (Do a (Off l)) h b c r i k = absurd i.0.0
    loosened_item (Do a (AndOff l t)) h b c r i k = absurd i.0.0
    loosened_item (Do a (OrOn l t)) h b c r i k = absurd i.0.0
    loosened_item (For z t u a) h b c r i k =
        let h' = inside (For z t u a) h in
        lo_for_while t u (for_aim p h t a) (continue_aim p h a) (aim_moved (continues a) (p.plan.continue_label h.construct)) i.0.0.0 i.0.0.1
        (loosened z h' b c NoArrival (i.0.1, i.1.0, i.0.0.2, i.3) k)
        (loosened a (past z h') (for_aim p h t a) (continue_aim p h a) r
        (i.0.2, i.1.1, i.2, kept_aim true (continues a) (p.plan.continue_label h.construct)) (kept_for h t a))
    loosened_item (Block a) h b c r i k = lo_block (loosened a h b c r (i.0.1, i.1, i.2, i.3) k)
    loosened_item (Local x None) h b c r i k = lo_declares x
    loosened_item (Local x (Some es)) h b c r i k =
        item_local x es (entry_or no_slot p.plan.slots x).kind (entry_or no_slot p.plan.slots x).cells i.0.0 (slots x i.0.0)
        (subst (λ o. AreInitialisers o es) (slots x i.0.0) i.0.1) i.0.2
    loosened_item Break h b c r i k = item_break b c k
    loosened_item Continue h b c r i k = item_continue b c i.3
    loosened_item (Goto l) h b c r i k = lo_goto l (p.plan.source l) (is_live p.plan s labels l i.0)
    loosened_item (Mark l) h b c r i k = item_mark p.plan s labels l (p.plan.live l) refl
    loosened_item (Arrival e) h b c r i k = item_arrival r e i.2
    loosened_item (Arm l e) h b c r i k = absurd i.0
    loosened_item (Leap l) h b c r i k = absurd i.0
    loosened_item (Land l) h b c r i k = absurd i.0
    loosened_item (Switch (Pick l n t) d) h b c r i k = absurd i.0.0
    loosened_item (Switch (Selects e) d) h b c r i k =
        let kind = switch_kind (Selects e) in
        let names = names_of p.plan h kind d in
        let h' = inside (Switch (Selects e) d) h in
        let v = i.1.0 in
        subst (λ z. LooserItem s Open b c r (Switch (Selects e) d)
        (Then (Evaluate (assign_number kind h.variable e))
        (join (tests_among z kind h.variable names d) (Then (Goto (otherwise_label p.plan h d))
        (opened_among p h' (scatter_aim p.plan h d) c names d))))) number
        (lo_scatter e (scatter_aim p.plan h d) names h.variable (otherwise_label p.plan h d) i.0.0
        (scatter_moved (leaves d) (p.plan.break_label h.construct)) in_open v.new v.cells v.kind (otherwise p.plan h kind d)
        (loosened_among d h' (scatter_aim p.plan h d) c names (scatter_moved (leaves d) (p.plan.break_label h.construct)) (i.0.1, i.1.1, i.3)
        (kept_scatter (not (has_default (switch_labels d))) (ends_some d) (breaks_in d) (p.plan.break_label h.construct))
        (unended_scatter (not (has_default (switch_labels d))) (ends_some d) (is_some_number (breaks_in d)) (p.plan.break_label h.construct))))

    loosened_among : (d : Sections) (h : Here) (b c : Aim) (names : Names) → IsMoved b →
        EverywhereIn Fine d × HaveVariablesAmong s h d × Kept c (continues_in d) → Kept b (breaks_in d) → Unended b (ends_some d) →
        Spread s Open b c names d (opened_among p h b c names d)
    loosened_among NoSection h b c names m i k u = ls_none
    loosened_among (Section cases default a ends d) h b c names m i k u =
        spread_as ends b cases default m (unended_left b ends (ends_some d) u)
        (loosened a h b c (Arrives names) (i.0.0, i.1.0, tt, kept_left c (continues a) (continues_in d) i.2) (kept_left b (breaks a) (breaks_in d) k))
        (loosened_among d (past a h) b c names m (i.0.1, i.1.1, kept_right c (continues a) (continues_in d) i.2)
        (kept_right b (breaks a) (breaks_in d) k) (unended_right b ends (ends_some d) u))
