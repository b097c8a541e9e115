-- Each item of a flat form is one of a flat body that is made well.
use Rattle.std.proofs.Common.{ℕ, zero, suc, ◌+◌, ◌-◌, ◌≤◌, ◌<◌, ℤ, Bool, true, false, not, cond, eqb, ◌||◌, List, [], ◌∷◌, ◌++◌, length, Option, Some, None, ◌≡◌, refl, sym, ap, arith, eq-eqb, true≢false}
use Rattle.std.specs.Option.{option_map_or}
use Rattle.c_types.specs.declared.kinds.IntKind.{IntKind}
use Rattle.c_tree.specs.ExpressionTrees.{ExpressionTree}
use Rattle.c_tree.specs.TestTrees.{Source, SelectorTree}
use Rattle.c_tree.specs.Cases.{case_number, selector_kind, AreCases}
use Rattle.c_tree.specs.Everywhere.{Everywhere, EverywhereOf, EverywhereIn}
use Rattle.c_tree.specs.Exits.{breaks, breaks_in, continues, continues_in}
use Rattle.c_tree.specs.Trees.{Tree, Forest, Nil, Then, Sections, NoSection, Section, Evaluate, Return, If, While, Do, For, Switch, Block, Local, Break, Continue, Goto, Mark, Arrival, Note, join}
use Rattle.c_tree.specs.Changed.{one}
use Rattle.c_tree.proofs.KeptLemmas.{total-join, SameEntries, everywhere_join}
use Rattle.jump_meaning.specs.Code.{entry_or}
use Rattle.jump_meaning.specs.World.{no_slot}
use Rattle.jump_meaning.specs.Step.{switch_kind}
use Rattle.flat_laws.specs.Pieces.{Aim, Stays, Becomes, Absent, mark_of, third_items, with_third, assigned_cells, Names, is_number, test_for, tests_for, tests, tests_in, tests_among, case_marks}
use Rattle.flat_laws.specs.Placed.{places, places_among}
use Rattle.flat_laws.specs.Loose.{Arrivals, NoArrival, Arrives}
use Rattle.flat_laws.proofs.Exits.{free_join, stay_join, mark_free, third_free}
use Rattle.c_tree.specs.TextItems.{is_empty}
use Rattle.flat_laws.specs.Parts.{arrivals, arrivals_in, is_scattered, section_labels, switch_labels, has_default, ends_some, is_some_number, holds_jump, holds_jump_among, Here, past, past_item, inside, Ending, Breaks, ending, is_gone, kept_breaks}
use Rattle.flat_laws.specs.FlatForm.{Plan, names_of, scatter_aim, otherwise_label, end_goto, aim, exit, is_jumpy_switch, assigned, mark_if, arrival, dissolved, if_breaks, flat_for, flat, flat_item, flat_last, flat_last_item, flat_sections, spread}
use Rattle.flat_laws.proofs.Counts.{one_if, places_join, labelled, labelled_append, for_places}
use Rattle.flat_laws.specs.Source.{IfTrue}
use Rattle.flat_laws.specs.FlatMade.{hop_of, IsSettled, AreSettled, HasGoodCases, IsFlatItem, AreFirst}
use Rattle.flat_laws.proofs.LiveGotos.{IsGoodItem}
use Rattle.flat_laws.proofs.ExitsLeft.{aim_left, fewer, fewer_among}
use Rattle.flat_laws.proofs.Hopless.{calm_back, no_hops, no_hops_among}
use Rattle.flat_laws.proofs.Converting.{cases_as, if_some}
use Rattle.flat_laws.proofs.Arrived.{spread_labels}
use Rattle.flat_laws.proofs.Unscattered.{whole}
use Rattle.flat_laws.proofs.LooserItems.{empty_left, empty_right}

false_true : {A : Type 0} → false ≡ true → A
false_true e = absurd (true≢false (sym e))

-- the Arrivals that a list has are allowed
abbrev Allowed : Arrivals → List (Option ExpressionTree) → Type 0
Allowed NoArrival es = is_empty es ≡ true
Allowed (Arrives names) es = Unit {0}

allowed_left : (r : Arrivals) (xs ys : List (Option ExpressionTree)) → Allowed r (xs ++ ys) → Allowed r xs
allowed_left NoArrival xs ys h = empty_left xs ys h
allowed_left (Arrives names) xs ys h = tt

allowed_right : (r : Arrivals) (xs ys : List (Option ExpressionTree)) → Allowed r (xs ++ ys) → Allowed r ys
allowed_right NoArrival xs ys h = empty_right xs ys h
allowed_right (Arrives names) xs ys h = tt

same_one : (l : ℕ) → one_if (eqb l l) ≡ 1
same_one l = ap one_if (eq-eqb l l refl)

if_false : (P : Type 0) (y : Bool) → y ≡ false → IfTrue (not y) P → P
if_false P true e h = absurd (true≢false e)
if_false P false e h = h

-- ---- a switch that stays keeps its cases

module _ (p : Plan) where
  flat_entries : (d : Sections) (h : Here) (y : Bool) (b c : Aim) → SameEntries d (flat_sections p h y b c d)
  flat_entries NoSection h y b c = record { cases = refl; default = refl; entered = λ h. h }
  flat_entries (Section cases default a ends d) h y b c =
      let i = flat_entries d (past a h) y b c in
      record { cases = ap (λ l. cases ++ l) i.cases; default = ap (λ n. cond default 1 0 + n) i.default; entered = λ e. (e.0, i.entered e.1) }

  good_kept : (s : SelectorTree) (d d' : Sections) → SameEntries d d' → HasGoodCases s d → HasGoodCases s d'
  good_kept s d d' i g = record {
    kind = g.kind;
    entered = i.entered g.entered;
    default = (let k = g.default in let e = i.default in omega (arith, k, e));
    cases = if_some (λ k. AreCases k d) (λ k. AreCases k d') (λ k. cases_as k d d' i.cases) (selector_kind s) g.cases;
  }

  -- ---- no exit is bound to what holds a jump

  settled_loop : (a : Forest) (h : Here) (r : Arrivals) (k l : ℕ) (y : Bool) → holds_jump p.live a ≡ y → Everywhere (IsGoodItem p.live) a
      → IsSettled (join (flat p h (aim y (breaks a) k) (aim y (continues a) l) r a) (mark_of (aim y (continues a) l)))
  settled_loop a h r k l true e g j =
      let b = aim true (breaks a) k in
      let c = aim true (continues a) l in
      let f = fewer p a h b c r in
      let i = f.0 in
      let m = f.1 in
      let n = aim_left (breaks a) k in
      let o = aim_left (continues a) l in
      let q = free_join (flat p h b c r a) (mark_of c) in
      let s = stay_join (flat p h b c r a) (mark_of c) in
      let v = (mark_free c).0 in
      let w = (mark_free c).1 in omega (arith, i, m, n, o, q, s, v, w)
  settled_loop a h r k l false e g j =
      let i = no_hops p a h Stays Stays r g e tt tt in
      let q = total-join hop_of (flat p h Stays Stays r a) Nil in absurd (omega (arith, i, j, q))

  settled_third : (a : Forest) (h : Here) (r : Arrivals) (k l : ℕ) (u : Option ExpressionTree) →
      IsSettled (with_third (flat p h (aim true (breaks a) k) (aim true (continues a) l) r a) (aim true (continues a) l) u)
  settled_third a h r k l u j =
      let b = aim true (breaks a) k in
      let c = aim true (continues a) l in
      let f = fewer p a h b c r in
      let i = f.0 in
      let m = f.1 in
      let n = aim_left (breaks a) k in
      let o = aim_left (continues a) l in
      let q = free_join (flat p h b c r a) (join (mark_of c) (third_items u)) in
      let s = stay_join (flat p h b c r a) (join (mark_of c) (third_items u)) in
      let q' = free_join (mark_of c) (third_items u) in
      let s' = stay_join (mark_of c) (third_items u) in
      let v = (mark_free c).0 in
      let w = (mark_free c).1 in
      let v' = (third_free u).0 in
      let w' = (third_free u).1 in omega (arith, i, m, n, o, q, s, q', s', v, w, v', w')

  settled_switch : (d : Sections) (h : Here) (c : Aim) (l : ℕ) (y : Bool) → is_jumpy_switch p c d ≡ y → EverywhereIn (IsGoodItem p.live) d →
      AreSettled (flat_sections p h y (aim y (kept_breaks p.live d) l) c d)
  settled_switch d h c l true e g j = let i = (fewer_among p d h true (aim true (kept_breaks p.live d) l) c).0 in let n =
      aim_left
      (kept_breaks p.live d) l in omega (arith, i, n)
  settled_switch d h c l false e g j =
      let q = calm_back (holds_jump_among p.live d) c (continues_in d) e in
      let i = no_hops_among p d h false Stays c g q.0 tt q.1 in absurd (omega (arith, i, j))

-- ---- lists, where the fact G holds of the label that each goto names

module _ (G : ℕ → Type 0) where
  abbrev AreFlat : Forest → Type 0
  AreFlat a = Everywhere (IsFlatItem G) a

  -- it holds of each label that stands in a list
  abbrev Marked : Forest → Type 0
  Marked a = (L : ℕ) → 0 < places L a → G L

  abbrev MarkedIn : Sections → Type 0
  MarkedIn d = (L : ℕ) → 0 < places_among L d → G L

  -- of the label that an exit goes to
  abbrev Leads : Aim → Type 0
  Leads Stays = Unit {0}
  Leads (Becomes l) = G l
  Leads Absent = Unit {0}

  marked_left : (a b : Forest) → Marked (join a b) → Marked a
  marked_left a b g L m = let e = places_join L a b in g L (omega (arith, m, e))

  marked_right : (a b : Forest) → Marked (join a b) → Marked b
  marked_right a b g L m = let e = places_join L a b in g L (omega (arith, m, e))

  mark_leads : (b : Aim) → Marked (mark_of b) → Leads b
  mark_leads Stays g = tt
  mark_leads (Becomes l) g = g l (let e = same_one l in omega (arith, e))
  mark_leads Absent g = tt

  join_flat : (a b : Forest) → AreFlat a → AreFlat b → AreFlat (join a b)
  join_flat a b h k = everywhere_join (IsFlatItem G) a b h k

  mark_flat : (b : Aim) → AreFlat (mark_of b)
  mark_flat Stays = tt
  mark_flat (Becomes l) = (tt, tt)
  mark_flat Absent = tt

  third_flat : (u : Option ExpressionTree) → AreFlat (third_items u)
  third_flat None = tt
  third_flat (Some e) = (tt, tt)

  cells_flat : (k : IntKind) (x i : ℕ) (es : List ExpressionTree) (m : ℕ) → AreFlat (assigned_cells k x i es m)
  cells_flat k x i (e ∷ es) m = (tt, cells_flat k x (suc i) es m)
  cells_flat k x i [] zero = tt
  cells_flat k x i [] (suc m) = (tt, cells_flat k x (suc i) [] m)

  assigned_flat : (k : IntKind) (x : ℕ) (o : Option ℕ) (es : List ExpressionTree) → AreFlat (assigned k x o es)
  assigned_flat k x None [] = tt
  assigned_flat k x None (e ∷ es) = (tt, tt)
  assigned_flat k x (Some n) es = cells_flat k x 0 es (n - length es)

  marks_flat : (names : Names) (cases : List ExpressionTree) (default : Bool) → AreFlat (case_marks names cases default)
  marks_flat names [] true = (tt, tt)
  marks_flat names [] false = tt
  marks_flat names (e ∷ es) default = (tt, marks_flat names es default)

  if_flat : (y : Bool) (l : ℕ) → AreFlat (mark_if y l)
  if_flat true l = (tt, tt)
  if_flat false l = tt

  arrival_flat : (r : Arrivals) (e : Option ExpressionTree) → Allowed r (e ∷ []) → AreFlat (arrival r e)
  arrival_flat NoArrival e h = false_true h
  arrival_flat (Arrives names) e h = (tt, tt)

  end_flat : (y : Bool) (b : Aim) → Leads b → AreFlat (end_goto y b)
  end_flat true Stays g = tt
  end_flat true (Becomes l) g = (g, tt)
  end_flat true Absent g = tt
  end_flat false b g = tt

  break_flat : (b : Aim) → Leads b → AreFlat (exit b Break)
  break_flat Stays g = (tt, tt)
  break_flat (Becomes l) g = (g, tt)
  break_flat Absent g = (tt, tt)

  continue_flat : (b : Aim) → Leads b → AreFlat (exit b Continue)
  continue_flat Stays g = (tt, tt)
  continue_flat (Becomes l) g = (g, tt)
  continue_flat Absent g = (tt, tt)

  -- ---- the tests of a scattered switch

  abbrev Named : Names → List (Option ExpressionTree) → Type 0
  Named names es = (L : ℕ) → 0 < labelled L names es → G L

  named_left : (names : Names) (xs ys : List (Option ExpressionTree)) → Named names (xs ++ ys) → Named names xs
  named_left names xs ys g L m = let e = labelled_append L names xs ys in g L (omega (arith, m, e))

  named_right : (names : Names) (xs ys : List (Option ExpressionTree)) → Named names (xs ++ ys) → Named names ys
  named_right names xs ys g L m = let e = labelled_append L names xs ys in g L (omega (arith, m, e))

  named_tail : (names : Names) (e : Option ExpressionTree) (es : List (Option ExpressionTree)) → Named names (e ∷ es) → Named names es
  named_tail names e es g L m = g L (omega (arith, m))

  named_head : (names : Names) (e : Option ExpressionTree) (es : List (Option ExpressionTree)) → Named names (e ∷ es) → G (names e)
  named_head names e es g = g (names e) (let i = same_one (names e) in omega (arith, i))

  named_default : (names : Names) (es : List (Option ExpressionTree)) → has_default es ≡ true → Named names es → G (names None)
  named_default names [] e g = false_true e
  named_default names (Some x ∷ es) e g = named_default names es e (named_tail names (Some x) es g)
  named_default names (None ∷ es) e g = named_head names None es g

  module _ (number : IntKind → ℤ → ExpressionTree) (k : IntKind) (v : ℕ) (names : Names) where
    test_flat : (e : ExpressionTree) → G (names (Some e)) → AreFlat (test_for number k v names e)
    test_flat e g = at (case_number k e)
      where
        at : (o : Option ℤ) → AreFlat (option_map_or (λ n. one (If (Source (is_number k v (number k n))) (one (Goto (names (Some e)))) Nil)) o Nil)
        at None = tt
        at (Some n) = ((tt, (g, tt), tt), tt)

    tests_for_flat : (es : List ExpressionTree) (default : Bool) → Named names (section_labels es default) → AreFlat (tests_for number k v names es)
    tests_for_flat [] default g = tt
    tests_for_flat (e ∷ es) default g =
        join_flat (test_for number k v names e) (tests_for number k v names es)
        (test_flat e (named_head names (Some e) (section_labels es default) g))
        (tests_for_flat es default (named_tail names (Some e) (section_labels es default) g))

    mutual
      tests_flat : (a : Forest) → Named names (arrivals a) → AreFlat (tests number k v names a)
      tests_flat Nil g = tt
      tests_flat (Then x a) g = join_flat (tests_in number k v names x) (tests number k v names a)
          (tests_flat_in x (named_left names (arrivals_in x) (arrivals a) g)) (tests_flat a (named_right names (arrivals_in x) (arrivals a) g))

      tests_flat_in : (x : Tree) → Named names (arrivals_in x) → AreFlat (tests_in number k v names x)
      tests_flat_in (If t a b) g = join_flat (tests number k v names a) (tests number k v names b)
          (tests_flat a (named_left names (arrivals a) (arrivals b) g)) (tests_flat b (named_right names (arrivals a) (arrivals b) g))
      tests_flat_in (While t a) g = tests_flat a g
      tests_flat_in (Do a t) g = tests_flat a g
      tests_flat_in (For f t u a) g = tests_flat a g
      tests_flat_in (Block a) g = tests_flat a g
      tests_flat_in (Arrival None) g = tt
      tests_flat_in (Arrival (Some e)) g = test_flat e (named_head names (Some e) [] g)
      tests_flat_in x g = tt

    tests_among_flat : (d : Sections) → Named names (switch_labels d) → AreFlat (tests_among number k v names d)
    tests_among_flat NoSection g = tt
    tests_among_flat (Section cases default a ends d) g =
        let g' = named_right names (section_labels cases default) (arrivals a ++ switch_labels d) g in
        join_flat (tests_for number k v names cases) (join (tests number k v names a) (tests_among number k v names d))
        (tests_for_flat cases default (named_left names (section_labels cases default) (arrivals a ++ switch_labels d) g))
        (join_flat (tests number k v names a) (tests_among number k v names d) (tests_flat a (named_left names (arrivals a) (switch_labels d) g'))
        (tests_among_flat d (named_right names (arrivals a) (switch_labels d) g')))

  -- ---- the flat form

  either_flat : (y : Bool) (a b : Forest) → Marked (cond y a b) → (y ≡ true → Marked a → AreFlat a) → (y ≡ false → Marked b → AreFlat b) → AreFlat (cond y a b)
  either_flat true a b g f k = f refl g
  either_flat false a b g f k = k refl g

  breaks_flat : (e : Ending) (a b : Forest) → Marked (if_breaks e a b) → (Marked a → AreFlat a) → (Marked b → AreFlat b) → AreFlat (if_breaks e a b)
  breaks_flat Breaks a b g f k = f g
  breaks_flat _ a b g f k = k g

  module _ (p : Plan) (sources : (l : ℕ) → p.live l ≡ true → G (p.source l)) where
    abbrev Good : Forest → Type 0
    Good a = Everywhere (IsGoodItem p.live) a

    first_flat : (xs : Forest) (h : Here) (b c : Aim) (r : Arrivals) → AreFirst xs → AreFlat (flat p h b c r xs)
    first_flat Nil h b c r f = tt
    first_flat (Then (Evaluate e) xs) h b c r f = (tt, first_flat xs (past_item (Evaluate e) h) b c r f.1)
    first_flat (Then (Local x None) xs) h b c r f = first_flat xs (past_item (Local x None) h) b c r f.1
    first_flat (Then (Local x (Some es)) xs) h b c r f =
        let k = (entry_or no_slot p.slots x).kind in
        let o = (entry_or no_slot p.slots x).cells in
        join_flat (assigned k x o es) (flat p (past_item (Local x (Some es)) h) b c r xs) (assigned_flat k x o es)
        (first_flat xs (past_item (Local x (Some es)) h) b c r f.1)
    first_flat (Then x xs) h b c r f = absurd f.0

    for_flat : (t u : Option ExpressionTree) (a : Forest) (h : Here) (r : Arrivals) (k l : ℕ) (y : Bool) → holds_jump p.live a ≡ y → Good a →
        AreFlat (flat p h (aim y (breaks a) k) (aim y (continues a) l) r a)
        → AreFlat (flat_for y t u (flat p h (aim y (breaks a) k) (aim y (continues a) l) r a) (aim y (breaks a) k) (aim y (continues a) l))
    for_flat t u a h r k l true e g i =
        let b = aim true (breaks a) k in
        let c = aim true (continues a) l in
        let fa = flat p h b c r a in (
          (
            (tt, settled_third p a h r k l u),
            join_flat fa (join (mark_of c) (third_items u)) i
                (join_flat (mark_of c) (third_items u) (mark_flat c) (third_flat u)),
          ),
          mark_flat b,
        )
    for_flat t u a h r k l false e g i =
        let fa = flat p h Stays Stays r a in
        let n = no_hops p a h Stays Stays r g e tt tt in
        let q = total-join hop_of fa Nil in
        (((refl, omega (arith, n, q)), tt, join_flat fa Nil i tt), tt)

    otherwise_named : (y u z : Bool) (m n : ℕ) → (y ≡ true → G m) → Leads (cond (not y || u || z) (Becomes n) Absent) → G (cond y m n)
    otherwise_named true u z m n f g = f refl
    otherwise_named false u z m n f g = g

    otherwise_as : (d : Sections) (h : Here) → Leads (scatter_aim p h d) → (has_default (switch_labels d) ≡ true → G (p.default_label h.construct)) →
        G (otherwise_label p h d)
    otherwise_as d h g f = otherwise_named (has_default (switch_labels d)) (ends_some d) (is_some_number (breaks_in d)) (p.default_label h.construct)
        (p.break_label h.construct) f g

    spread_ends : (L : ℕ) (d : Sections) (h : Here) (b c : Aim) (names : Names) → places L (mark_of b) ≤ places L (spread p h b c names d)
    spread_ends L NoSection h b c names = omega arith
    spread_ends L (Section cases default a ends d) h b c names =
        let fa = flat p h b c (Arrives names) a in
        let sp = spread p (past a h) b c names d in
        let j = spread_ends L d (past a h) b c names in
        let k = places_join L (case_marks names cases default) (join fa (join (end_goto ends b) sp)) in
        let l = places_join L fa (join (end_goto ends b) sp) in
        let m = places_join L (end_goto ends b) sp in omega (arith, j, k, l, m)

    dissolved_made : (s : SelectorTree) (d : Sections) (h : Here) (c : Aim) →
        (Leads (scatter_aim p h d) → Marked (spread p (inside (Switch s d) h) (scatter_aim p h d) c (names_of p h (switch_kind s) d) d) →
        AreFlat (spread p (inside (Switch s d) h) (scatter_aim p h d) c (names_of p h (switch_kind s) d) d))
        → Marked (dissolved p h s d (spread p (inside (Switch s d) h) (scatter_aim p h d) c (names_of p h (switch_kind s) d) d)) →
        AreFlat (dissolved p h s d (spread p (inside (Switch s d) h) (scatter_aim p h d) c (names_of p h (switch_kind s) d) d))
    dissolved_made s d h c f m =
        let h' = inside (Switch s d) h in
        let kind = switch_kind s in
        let names = names_of p h kind d in
        let z = scatter_aim p h d in
        let sp = spread p h' z c names d in
        let o = otherwise_label p h d in
        let ts = tests_among p.number kind h.variable names d in
        let ms : Marked sp = λ L n. (let e = places_join L ts (Then (Goto o) sp) in m L (omega (arith, n, e))) in
        let ns : Named names (switch_labels d) = λ L n. (let e = spread_labels L p names d h' z c in ms L (omega (arith, n, e))) in
        let lz = mark_leads z (λ L n. let e = spread_ends L d h' z c names in ms L (omega (arith, n, e))) in (
          tt,
          join_flat ts (Then (Goto o) sp) (tests_among_flat p.number kind h.variable names d ns)
              (otherwise_as d h lz (λ e. named_default names (switch_labels d) e ns), f lz ms),
        )

    mutual
      pub flat_made : (xs : Forest) (h : Here) (b c : Aim) (r : Arrivals) → Good xs → Allowed r (arrivals xs) → Leads b → Leads c →
          Marked (flat p h b c r xs) → AreFlat (flat p h b c r xs)
      flat_made Nil h b c r g w i j m = tt
      flat_made (Then x xs) h b c r g w i j m =
          let A = flat_item p h b c r x in
          let B = flat p (past_item x h) b c r xs in
          join_flat A B (flat_made_in x h b c r g.0 (allowed_left r (arrivals_in x) (arrivals xs) w) i j (marked_left A B m))
          (flat_made xs (past_item x h) b c r g.1 (allowed_right r (arrivals_in x) (arrivals xs) w) i j (marked_right A B m))

      flat_made_in : (x : Tree) (h : Here) (b c : Aim) (r : Arrivals) → EverywhereOf (IsGoodItem p.live) x → Allowed r (arrivals_in x) → Leads b →
          Leads c → Marked (flat_item p h b c r x) → AreFlat (flat_item p h b c r x)
      flat_made_in (If t x y) h b c r g w i j m = (
        (
          g.0,
          flat_made x h b c r g.1 (allowed_left r (arrivals x) (arrivals y) w) i j (λ L n. m L (omega (arith, n))),
          flat_made y (past x h) b c r g.2 (allowed_right r (arrivals x) (arrivals y) w) i j (λ L n. m L (omega (arith, n))),
        ),
        tt,
      )
      flat_made_in (While t a) h b c r g w i j m =
          let y = holds_jump p.live a in
          let k = p.break_label h.construct in
          let l = p.continue_label h.construct in
          let b' = aim y (breaks a) k in
          let c' = aim y (continues a) l in
          let h' = inside (While t a) h in
          let A = flat p h' b' c' r a in
          let m' = λ (L : ℕ) (n : 0 < places L (join A (mark_of c'))). m L (omega (arith, n)) in (
            (
              (g.0, settled_loop p a h' r k l y refl g.1),
              join_flat A (mark_of c') (flat_made a h' b' c' r g.1 w (mark_leads b' (λ L n. m L (omega (arith, n))))
                  (mark_leads c' (marked_right A (mark_of c') m')) (marked_left A (mark_of c') m')) (mark_flat c'),
            ),
            mark_flat b',
          )
      flat_made_in (Do a t) h b c r g w i j m =
          let y = holds_jump p.live a in
          let k = p.break_label h.construct in
          let l = p.continue_label h.construct in
          let b' = aim y (breaks a) k in
          let c' = aim y (continues a) l in
          let h' = inside (Do a t) h in
          let A = flat p h' b' c' r a in
          let m' = λ (L : ℕ) (n : 0 < places L (join A (mark_of c'))). m L (omega (arith, n)) in (
            (
              (g.0, settled_loop p a h' r k l y refl g.1),
              join_flat A (mark_of c') (flat_made a h' b' c' r g.1 w (mark_leads b' (λ L n. m L (omega (arith, n))))
                  (mark_leads c' (marked_right A (mark_of c') m')) (marked_left A (mark_of c') m')) (mark_flat c'),
            ),
            mark_flat b',
          )
      flat_made_in (For first t u a) h b c r g w i j m =
          let y = holds_jump p.live a in
          let k = p.break_label h.construct in
          let l = p.continue_label h.construct in
          let b' = aim y (breaks a) k in
          let c' = aim y (continues a) l in
          let h' = inside (For first t u a) h in
          let A = flat p (past first h') b' c' r a in
          let F = flat p h' b c NoArrival first in
          let m' = marked_right F (flat_for y t u A b' c') m in
          join_flat F (flat_for y t u A b' c') (first_flat first h' b c NoArrival g.0)
          (for_flat t u a (past first h') r k l y refl g.2
          (flat_made a (past first h') b' c' r g.2 w
          (mark_leads b' (λ L n. let e = for_places L y t u A b' c' in m' L (omega (arith, n, e))))
          (mark_leads c' (λ L n. let e = for_places L y t u A b' c' in m' L (omega (arith, n, e))))
          (λ L n. let e = for_places L y t u A b' c' in m' L (omega (arith, n, e)))))
      flat_made_in (Block a) h b c r g w i j m = flat_made a h b c r g.1 w i j m
      flat_made_in (Local x None) h b c r g w i j m = tt
      flat_made_in (Local x (Some es)) h b c r g w i j m = assigned_flat (entry_or no_slot p.slots x).kind x (entry_or no_slot p.slots x).cells es
      flat_made_in Break h b c r g w i j m = break_flat b i
      flat_made_in Continue h b c r g w i j m = continue_flat c j
      flat_made_in (Goto l) h b c r g w i j m = (sources l g, tt)
      flat_made_in (Mark l) h b c r g w i j m = if_flat (p.live l) (p.source l)
      flat_made_in (Arrival e) h b c r g w i j m = arrival_flat r e w
      flat_made_in (Switch s d) h b c r g w i j m =
          let h' = inside (Switch s d) h in
          let kind = switch_kind s in
          let names = names_of p h kind d in
          let z = scatter_aim p h d in
          let sp = spread p h' z c names d in
          let y = is_jumpy_switch p c d in
          let l = p.break_label h.construct in
          let b' = aim y (kept_breaks p.live d) l in
          let D = flat_sections p h' y b' c d in
          either_flat (is_scattered d) (dissolved p h s d sp) (Then (Switch s D) (mark_of b')) m
          (λ e n. dissolved_made s d h c (λ i' n'. spread_made d h' z c names g.1 i' j n') n)
          (λ e n. (
            (
              (
                g.0.0,
                good_kept p s d D (flat_entries p d h' y b' c) (if_false (HasGoodCases s d) (is_scattered d) e g.0.1),
                settled_switch p d h' c l y refl g.1,
              ),
              sections_made d h' y b' c g.1 e (mark_leads b' (λ L o. n L (omega (arith, o)))) j (λ L o. n L (omega (arith, o))),
            ),
            mark_flat b',
          ))
      flat_made_in (Evaluate e) h b c r g w i j m = (tt, tt)
      flat_made_in (Return e) h b c r g w i j m = (tt, tt)
      flat_made_in (Note bs) h b c r g w i j m = (tt, tt)
      flat_made_in _ h b c r g w i j m = absurd g

      sections_made : (d : Sections) (h : Here) (y : Bool) (b c : Aim) → EverywhereIn (IsGoodItem p.live) d → is_scattered d ≡ false → Leads b →
          Leads c → MarkedIn (flat_sections p h y b c d) → EverywhereIn (IsFlatItem G) (flat_sections p h y b c d)
      sections_made NoSection h y b c g e i j m = tt
      sections_made (Section cases default a ends d) h y b c g e i j m =
          let q = whole (is_empty (arrivals a)) (is_scattered d) e in (
            breaks_flat (ending p.live a) (flat_last p h b c NoArrival a) (flat p h b c NoArrival a) (λ L n. m L (omega (arith, n)))
                (λ n. last_made a h b c NoArrival g.0 q.0 i j n) (λ n. flat_made a h b c NoArrival g.0 q.0 i j n),
            sections_made d (past a h) y b c g.1 q.1 i j (λ L n. m L (omega (arith, n))),
          )

      spread_made : (d : Sections) (h : Here) (b c : Aim) (names : Names) → EverywhereIn (IsGoodItem p.live) d → Leads b → Leads c →
          Marked (spread p h b c names d) → AreFlat (spread p h b c names d)
      spread_made NoSection h b c names g i j m = mark_flat b
      spread_made (Section cases default a ends d) h b c names g i j m =
          let fa = flat p h b c (Arrives names) a in
          let sp = spread p (past a h) b c names d in
          let cs = case_marks names cases default in
          let en = end_goto ends b in
          let m1 = marked_right cs (join fa (join en sp)) m in
          let m2 = marked_right fa (join en sp) m1 in
          join_flat cs (join fa (join en sp)) (marks_flat names cases default)
          (join_flat fa (join en sp) (flat_made a h b c (Arrives names) g.0 tt i j (marked_left fa (join en sp) m1))
          (join_flat en sp (end_flat ends b i) (spread_made d (past a h) b c names g.1 i j (marked_right en sp m2))))

      last_made : (xs : Forest) (h : Here) (b c : Aim) (r : Arrivals) → Good xs → Allowed r (arrivals xs) → Leads b → Leads c →
          Marked (flat_last p h b c r xs) → AreFlat (flat_last p h b c r xs)
      last_made Nil h b c r g w i j m = tt
      last_made (Then x xs) h b c r g w i j m =
          let A = flat_item p h b c r x in
          let B = flat_last p (past_item x h) b c r xs in
          let w0 = allowed_left r (arrivals_in x) (arrivals xs) w in
          either_flat (is_gone (ending p.live xs)) (flat_last_item p h b c r x) (join A B) m (λ e n. last_made_in x h b c r g.0 w0 i j n)
          (λ e n. join_flat A B (flat_made_in x h b c r g.0 w0 i j (marked_left A B n))
          (last_made xs (past_item x h) b c r g.1 (allowed_right r (arrivals_in x) (arrivals xs) w) i j (marked_right A B n)))

      last_made_in : (x : Tree) (h : Here) (b c : Aim) (r : Arrivals) → EverywhereOf (IsGoodItem p.live) x → Allowed r (arrivals_in x) → Leads b →
          Leads c → Marked (flat_last_item p h b c r x) → AreFlat (flat_last_item p h b c r x)
      last_made_in (Block a) h b c r g w i j m = last_made a h b c r g.1 w i j m
      last_made_in x h b c r g w i j m = tt
