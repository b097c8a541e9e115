-- The flat form of a list has its Notes, and so has a list without its labels.
use Rattle.std.proofs.Common.{◌≡◌, ℕ, zero, suc, ℤ, Bool, true, false, cond, List, [], ◌∷◌, ◌++◌, Option, Some, None, refl, sym, ap, ◌∙◌, append-nil}
use Rattle.std.specs.Option.{option_map_or}
use Rattle.c_types.specs.declared.kinds.IntKind.{IntKind}
use Rattle.c_tree.specs.declared.tree.Slot.{Slot}
use Rattle.c_tree.specs.ExpressionTrees.{ExpressionTree}
use Rattle.c_tree.specs.TestTrees.{Source}
use Rattle.c_tree.specs.Cases.{case_number}
use Rattle.c_tree.specs.Exits.{breaks, continues}
use Rattle.c_tree.specs.Trees.{Tree, Forest, Nil, Then, Sections, NoSection, Section, Evaluate, Return, If, While, Do, For, Switch, Block, Local, Break, Continue, Goto, Mark, Arm, Leap, Land, Arrival, Note, join}
use Rattle.c_tree.specs.Changed.{one}
use Rattle.jump_meaning.specs.Code.{entry_or}
use Rattle.jump_meaning.specs.World.{no_slot}
use Rattle.jump_meaning.specs.Step.{switch_kind}
use Rattle.flat_laws.specs.Pieces.{Aim, Stays, Becomes, Absent, mark_of, test_or_one, third_items, with_third, assigned_cells, Names, is_number, test_for, tests_for, tests, tests_in, tests_among, case_marks}
use Rattle.flat_laws.specs.Loose.{Arrivals, NoArrival, Arrives}
use Rattle.flat_laws.specs.Parts.{is_scattered, kept_breaks, holds_jump, Here, past, past_item, inside, Ending, Gone, Breaks, later, is_gone, ending, ending_of}
use Rattle.flat_laws.specs.FlatForm.{Plan, names_of, scatter_aim, otherwise_label, aim, exit, end_goto, is_jumpy_switch, assigned, mark_if, arrival, dissolved, if_breaks, flat_for, flat, flat_item, flat_last, flat_last_item, flat_sections, spread, marks, coded, numbered, first_here, flat_body}
use Rattle.flat_laws.specs.Unlabelled.{unlabelled, unlabelled_item, unlabelled_among}
use Rattle.flat_laws.proofs.Stand.{later_gone, switch_no_break, switch_stays}
use Rattle.whole_laws.specs.Notes.{notes, notes_in, notes_among}
use Rattle.whole_laws.proofs.Lists.{both, notes_join, behind_none, before_none, notes_one, none_both}

-- ---- what stands in the place of items without Notes

marked : (b : Aim) → notes (mark_of b) ≡ []
marked Stays = refl
marked (Becomes l) = refl
marked Absent = refl

exits : (b : Aim) (x : Tree) → notes_in x ≡ [] → notes (exit b x) ≡ []
exits (Becomes l) x e = refl
exits _ x e = notes_one x ∙ e

goto_at_end : (ends : Bool) (b : Aim) → notes (end_goto ends b) ≡ []
goto_at_end true (Becomes l) = refl
goto_at_end true Stays = refl
goto_at_end true Absent = refl
goto_at_end false b = refl

mark_ifs : (b : Bool) (l : ℕ) → notes (mark_if b l) ≡ []
mark_ifs true l = refl
mark_ifs false l = refl

arrivals : (r : Arrivals) (e : Option ExpressionTree) → notes (arrival r e) ≡ []
arrivals (Arrives names) e = refl
arrivals NoArrival e = refl

cells : (k : IntKind) (x i : ℕ) (es : List ExpressionTree) (m : ℕ) → notes (assigned_cells k x i es m) ≡ []
cells k x i (e ∷ es) m = cells k x (suc i) es m
cells k x i [] zero = refl
cells k x i [] (suc m) = cells k x (suc i) [] m

assigns : (k : IntKind) (x : ℕ) (o : Option ℕ) (es : List ExpressionTree) → notes (assigned k x o es) ≡ []
assigns k x None (e ∷ es) = refl
assigns k x None [] = refl
assigns k x (Some n) es = cells k x 0 es _

third : (u : Option ExpressionTree) → notes (third_items u) ≡ []
third None = refl
third (Some e) = refl

case_labels : (names : Names) (cases : List ExpressionTree) (default : Bool) → notes (case_marks names cases default) ≡ []
case_labels names [] true = refl
case_labels names [] false = refl
case_labels names (e ∷ es) default = case_labels names es default

module _ (number : IntKind → ℤ → ExpressionTree) (k : IntKind) (v : ℕ) (names : Names) where
  test_by : (e : ExpressionTree) (o : Option ℤ) → notes
      (option_map_or (λ n. one (If (Source (is_number k v (number k n))) (one (Goto (names (Some e)))) Nil)) o Nil) ≡ []
  test_by e None = refl
  test_by e (Some n) = refl

  cases_tested : (es : List ExpressionTree) → notes (tests_for number k v names es) ≡ []
  cases_tested [] = refl
  cases_tested (e ∷ es) = behind_none (test_for number k v names e) (tests_for number k v names es) (test_by e (case_number k e)) ∙ cases_tested es

  none_join : (a b : Forest) → notes a ≡ [] → notes b ≡ [] → notes (join a b) ≡ []
  none_join a b e f = behind_none a b e ∙ f

  mutual
    tested : (a : Forest) → notes (tests number k v names a) ≡ []
    tested Nil = refl
    tested (Then x a) = none_join (tests_in number k v names x) (tests number k v names a) (tested_in x) (tested a)

    tested_in : (x : Tree) → notes (tests_in number k v names x) ≡ []
    tested_in (If t a b) = none_join (tests number k v names a) (tests number k v names b) (tested a) (tested b)
    tested_in (While t a) = tested a
    tested_in (Do a t) = tested a
    tested_in (For f t u a) = tested a
    tested_in (Block a) = tested a
    tested_in (Arrival (Some e)) = test_by e (case_number k e)
    tested_in (Arrival None) = refl
    tested_in x = refl

  pub tests_none : (c : Sections) → notes (tests_among number k v names c) ≡ []
  tests_none NoSection = refl
  tests_none (Section cases default a ends c) =
      none_join (tests_for number k v names cases) (join (tests number k v names a) (tests_among number k v names c)) (cases_tested cases)
      (none_join (tests number k v names a) (tests_among number k v names c) (tested a) (tests_none c))

-- ---- lists of which nothing stays

gone_is : (e : Ending) → is_gone e ≡ true → e ≡ Gone
gone_is Gone h = refl
gone_is _ h = cc

module _ (live : ℕ → Bool) where
  mutual
    none_stays : (a : Forest) → ending live a ≡ Gone → notes a ≡ []
    none_stays Nil h = refl
    none_stays (Then x a) h = let k = later_gone (ending live a) (ending_of live x) h in
        none_both (notes_in x) (notes a) (none_stays_of x k.1) (none_stays a k.0)

    none_stays_of : (x : Tree) → ending_of live x ≡ Gone → notes_in x ≡ []
    none_stays_of (Block a) h = none_stays a h
    none_stays_of (Local x e) h = refl
    none_stays_of (Mark l) h = refl
    none_stays_of Break h = cc
    none_stays_of (Goto l) h = cc
    none_stays_of (Switch s d) h = absurd (switch_stays _ _ h)
    none_stays_of _ h = cc

-- ---- the flat form

later_by : (e f : Ending) → is_gone e ≡ true → later e f ≡ Breaks → f ≡ Breaks
later_by Gone f g h = h
later_by _ f g h = cc

later_first : (e f : Ending) → is_gone e ≡ false → later e f ≡ Breaks → e ≡ Breaks
later_first Gone f g h = cc
later_first Breaks f g h = refl
later_first _ f g h = cc

module _ (p : Plan) where
  loop_notes : (a b : Forest) (c : Aim) → notes a ≡ notes b → notes (join a (mark_of c)) ≡ notes b
  loop_notes a b c e = before_none a (mark_of c) (marked c) ∙ e

  made_loop : (x : Tree) (l : List (List ℕ)) (b : Aim) → notes_in x ≡ l → notes (Then x (mark_of b)) ≡ l
  made_loop x l b e = ap (λ m. notes_in x ++ m) (marked b) ∙ append-nil (notes_in x) ∙ e

  made_for : (j : Bool) (t u : Option ExpressionTree) (d a : Forest) (b c : Aim) → notes d ≡ notes a → notes (flat_for j t u d b c) ≡ notes a
  made_for true t u d a b c e =
      made_loop (While (Source (test_or_one t)) (with_third d c u)) (notes a) b
      (before_none d (join (mark_of c) (third_items u)) (behind_none (mark_of c) (third_items u) (marked c) ∙ third u) ∙ e)
  made_for false t u d a b c e = made_loop (For Nil t u (join d (mark_of c))) (notes a) b (loop_notes d a c e)

  made_switch : (q : Bool) (xs ys : Forest) (l : List (List ℕ)) → notes xs ≡ l → notes ys ≡ l → notes (cond q xs ys) ≡ l
  made_switch true xs ys l e f = e
  made_switch false xs ys l e f = f

  -- what a `break` and a `continue` of a loop become
  abbrev behind : Here → Forest → Aim
  behind h a = aim (holds_jump p.live a) (breaks a) (p.break_label h.construct)

  abbrev ahead : Here → Forest → Aim
  ahead h a = aim (holds_jump p.live a) (continues a) (p.continue_label h.construct)

  -- of a list that ends by a `break`, by whether its later part stays
  last_by : (h : Here) (b c : Aim) (r : Arrivals) (x : Tree) (a : Forest) → ending p.live (Then x a) ≡ Breaks →
      (ending_of p.live x ≡ Breaks → notes (flat_last_item p h b c r x) ≡ notes_in x)
      → notes (flat_item p h b c r x) ≡ notes_in x → (ending p.live a ≡ Breaks → notes (flat_last p (past_item x h) b c r a) ≡ notes a)
      → (g : Bool) → is_gone (ending p.live a) ≡ g → notes (flat_last p h b c r (Then x a)) ≡ notes_in x ++ notes a
  last_by h b c r x a e last item rest true g =
      ap (λ q. notes (cond q (flat_last_item p h b c r x) (join (flat_item p h b c r x) (flat_last p (past_item x h) b c r a)))) g
      ∙ last (later_by (ending p.live a) (ending_of p.live x) g e)
      ∙ sym (ap (λ l. notes_in x ++ l) (none_stays p.live a (gone_is (ending p.live a) g)) ∙ append-nil (notes_in x))
  last_by h b c r x a e last item rest false g =
      ap (λ q. notes (cond q (flat_last_item p h b c r x) (join (flat_item p h b c r x) (flat_last p (past_item x h) b c r a)))) g
      ∙ notes_join (flat_item p h b c r x) (flat_last p (past_item x h) b c r a)
      ∙ both (notes (flat_item p h b c r x)) (notes_in x) (notes (flat_last p (past_item x h) b c r a)) (notes a) item
      (rest (later_first (ending p.live a) (ending_of p.live x) g e))

  -- of the list of a section, by how it ends
  section_by : (h : Here) (b c : Aim) (a : Forest) → notes (flat p h b c NoArrival a) ≡ notes a →
      (ending p.live a ≡ Breaks → notes (flat_last p h b c NoArrival a) ≡ notes a)
      → (e : Ending) → ending p.live a ≡ e → notes (if_breaks e (flat_last p h b c NoArrival a) (flat p h b c NoArrival a)) ≡ notes a
  section_by h b c a whole last Breaks i = last i
  section_by h b c a whole last _ i = whole

  mutual
    flat_notes : (h : Here) (b c : Aim) (r : Arrivals) (a : Forest) → notes (flat p h b c r a) ≡ notes a
    flat_notes h b c r Nil = refl
    flat_notes h b c r (Then x a) =
        notes_join (flat_item p h b c r x) (flat p (past_item x h) b c r a)
        ∙ both (notes (flat_item p h b c r x)) (notes_in x) (notes (flat p (past_item x h) b c r a)) (notes a) (flat_notes_of h b c r x)
        (flat_notes (past_item x h) b c r a)

    flat_notes_of : (h : Here) (b c : Aim) (r : Arrivals) (x : Tree) → notes (flat_item p h b c r x) ≡ notes_in x
    flat_notes_of h b c r (If t x y) =
        append-nil (notes (flat p h b c r x) ++ notes (flat p (past x h) b c r y))
        ∙ both (notes (flat p h b c r x)) (notes x) (notes (flat p (past x h) b c r y)) (notes y) (flat_notes h b c r x) (flat_notes (past x h) b c r y)
    flat_notes_of h b c r (While t a) =
        let d = flat p (inside (While t a) h) (behind h a) (ahead h a) r a in
        made_loop (While t (join d (mark_of (ahead h a)))) (notes a) (behind h a)
        (loop_notes d a (ahead h a) (flat_notes (inside (While t a) h) (behind h a) (ahead h a) r a))
    flat_notes_of h b c r (Do a t) =
        let d = flat p (inside (Do a t) h) (behind h a) (ahead h a) r a in
        made_loop (Do (join d (mark_of (ahead h a))) t) (notes a) (behind h a)
        (loop_notes d a (ahead h a) (flat_notes (inside (Do a t) h) (behind h a) (ahead h a) r a))
    flat_notes_of h b c r (For first t u a) =
        let i = inside (For first t u a) h in
        let e = flat p i b c NoArrival first in
        let d = flat p (past first i) (behind h a) (ahead h a) r a in
        let j = holds_jump p.live a in
        notes_join e (flat_for j t u d (behind h a) (ahead h a))
        ∙ both (notes e) (notes first) (notes (flat_for j t u d (behind h a) (ahead h a))) (notes a) (flat_notes i b c NoArrival first)
        (made_for j t u d a (behind h a) (ahead h a) (flat_notes (past first i) (behind h a) (ahead h a) r a))
    flat_notes_of h b c r (Block a) = flat_notes h b c r a
    flat_notes_of h b c r (Local x None) = refl
    flat_notes_of h b c r (Local x (Some es)) = let s = entry_or no_slot p.slots x in assigns s.kind x s.cells es
    flat_notes_of h b c r Break = exits b Break refl
    flat_notes_of h b c r Continue = exits c Continue refl
    flat_notes_of h b c r (Goto l) = refl
    flat_notes_of h b c r (Mark l) = mark_ifs (p.live l) (p.source l)
    flat_notes_of h b c r (Arrival e) = arrivals r e
    flat_notes_of h b c r (Switch s d) =
        let i = inside (Switch s d) h in
        let names = names_of p h (switch_kind s) d in
        let ys = spread p i (scatter_aim p h d) c names d in
        let jumpy = is_jumpy_switch p c d in
        let out = aim jumpy (kept_breaks p.live d) (p.break_label h.construct) in
        let e = flat_sections p i jumpy out c d in
        made_switch (is_scattered d) (dissolved p h s d ys) (Then (Switch s e) (mark_of out)) (notes_among d)
        (behind_none (tests_among p.number (switch_kind s) h.variable names d) (Then (Goto (otherwise_label p h d)) ys)
        (tests_none p.number (switch_kind s) h.variable names d) ∙ spread_notes i (scatter_aim p h d) c names d)
        (made_loop (Switch s e) (notes_among d) out (sections_notes i jumpy out c d))
    flat_notes_of h b c r (Evaluate e) = refl
    flat_notes_of h b c r _ = refl

    last_notes : (h : Here) (b c : Aim) (r : Arrivals) (a : Forest) → ending p.live a ≡ Breaks → notes (flat_last p h b c r a) ≡ notes a
    last_notes h b c r Nil e = refl
    last_notes h b c r (Then x a) e = last_by h b c r x a e (λ i. last_notes_of h b c r x i) (flat_notes_of h b c r x)
        (λ i. last_notes (past_item x h) b c r a i) (is_gone (ending p.live a)) refl

    last_notes_of : (h : Here) (b c : Aim) (r : Arrivals) (x : Tree) → ending_of p.live x ≡ Breaks → notes (flat_last_item p h b c r x) ≡ notes_in x
    last_notes_of h b c r (Block a) e = last_notes h b c r a e
    last_notes_of h b c r Break e = refl
    last_notes_of h b c r (Goto l) e = refl
    last_notes_of h b c r (Mark l) e = refl
    last_notes_of h b c r (Local x i) e = refl
    last_notes_of h b c r (Switch s d) e = absurd (switch_no_break _ _ e)
    last_notes_of h b c r (If t x y) e = cc
    last_notes_of h b c r (While t a) e = cc
    last_notes_of h b c r (Do a t) e = cc
    last_notes_of h b c r (For first t u a) e = cc
    last_notes_of h b c r (Evaluate i) e = refl
    last_notes_of h b c r (Return i) e = refl
    last_notes_of h b c r Continue e = refl
    last_notes_of h b c r (Arm l i) e = refl
    last_notes_of h b c r (Leap l) e = refl
    last_notes_of h b c r (Land l) e = refl
    last_notes_of h b c r (Arrival i) e = refl
    last_notes_of h b c r (Note bs) e = cc

    sections_notes : (h : Here) (jumpy : Bool) (b c : Aim) (d : Sections) → notes_among (flat_sections p h jumpy b c d) ≡ notes_among d
    sections_notes h jumpy b c NoSection = refl
    sections_notes h jumpy b c (Section cases default a ends d) =
        both (notes (if_breaks (ending p.live a) (flat_last p h b c NoArrival a) (flat p h b c NoArrival a))) (notes a)
        (notes_among (flat_sections p (past a h) jumpy b c d)) (notes_among d)
        (section_by h b c a (flat_notes h b c NoArrival a) (λ i. last_notes h b c NoArrival a i) (ending p.live a) refl) (sections_notes (past a h) jumpy b c d)

    spread_notes : (h : Here) (b c : Aim) (names : Names) (d : Sections) → notes (spread p h b c names d) ≡ notes_among d
    spread_notes h b c names NoSection = marked b
    spread_notes h b c names (Section cases default a ends d) =
        behind_none (case_marks names cases default) _ (case_labels names cases default)
        ∙ notes_join (flat p h b c (Arrives names) a) (join (end_goto ends b) (spread p (past a h) b c names d))
        ∙ both (notes (flat p h b c (Arrives names) a)) (notes a) (notes (join (end_goto ends b) (spread p (past a h) b c names d))) (notes_among d)
        (flat_notes h b c (Arrives names) a)
        (behind_none (end_goto ends b) (spread p (past a h) b c names d) (goto_at_end ends b) ∙ spread_notes (past a h) b c names d)

pub flat_body_notes : (number : IntKind → ℤ → ExpressionTree) (slots : List Slot) (n : ℕ) (a : Forest) → notes (flat_body number slots n a) ≡ notes a
flat_body_notes number slots n a =
    let p = coded number slots n a in
    let h = first_here _ in
    flat_notes (numbered (marks (flat p h Stays Stays NoArrival a)) p) h Stays Stays NoArrival a

-- ---- without labels

mutual
  pub unlabelled_notes : (a : Forest) → notes (unlabelled a) ≡ notes a
  unlabelled_notes Nil = refl
  unlabelled_notes (Then x a) =
      notes_join (unlabelled_item x) (unlabelled a) ∙ both (notes (unlabelled_item x)) (notes_in x) (notes (unlabelled a)) (notes a)
      (unlabelled_notes_of x) (unlabelled_notes a)

  unlabelled_notes_of : (x : Tree) → notes (unlabelled_item x) ≡ notes_in x
  unlabelled_notes_of (If t a b) =
      notes_one (If t (unlabelled a) (unlabelled b)) ∙ both (notes (unlabelled a)) (notes a) (notes (unlabelled b)) (notes b) (unlabelled_notes a)
      (unlabelled_notes b)
  unlabelled_notes_of (While t a) = notes_one (While t (unlabelled a)) ∙ unlabelled_notes a
  unlabelled_notes_of (Do a t) = notes_one (Do (unlabelled a) t) ∙ unlabelled_notes a
  unlabelled_notes_of (For first t u a) =
      notes_one (For (unlabelled first) t u (unlabelled a)) ∙ both (notes (unlabelled first)) (notes first) (notes (unlabelled a)) (notes a)
      (unlabelled_notes first) (unlabelled_notes a)
  unlabelled_notes_of (Switch s c) = notes_one (Switch s (unlabelled_among c)) ∙ unlabelled_notes_in c
  unlabelled_notes_of (Block a) = notes_one (Block (unlabelled a)) ∙ unlabelled_notes a
  unlabelled_notes_of (Mark l) = refl
  unlabelled_notes_of x = notes_one x

  unlabelled_notes_in : (c : Sections) → notes_among (unlabelled_among c) ≡ notes_among c
  unlabelled_notes_in NoSection = refl
  unlabelled_notes_in (Section cases default a ends c) = both (notes (unlabelled a)) (notes a) (notes_among (unlabelled_among c)) (notes_among c)
      (unlabelled_notes a) (unlabelled_notes_in c)
