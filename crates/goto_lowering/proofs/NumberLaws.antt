-- A flat list with other numbers of labels is the flat list by a layout that has these.
use Rattle.std.proofs.Common.{◌≡◌, ℕ, zero, suc, ◌-◌, ℤ, Bool, true, false, cond, List, [], ◌∷◌, length, Option, Some, None, refl, ap, ◌∙◌}
use Rattle.std.specs.Option.{option_map_or}
use Rattle.std.proofs.Math.Path.{fun_ext}
use Rattle.c_types.specs.declared.kinds.IntKind.{IntKind}
use Rattle.c_tree.specs.Cases.{case_number, selector_source}
use Rattle.c_tree.specs.Changed.{one}
use Rattle.c_tree.specs.Exits.{breaks, continues}
use Rattle.c_tree.specs.ExpressionTrees.{ExpressionTree}
use Rattle.c_tree.specs.TestTrees.{TestTree, Source, SelectorTree}
use Rattle.c_tree.specs.Trees.{Tree, Forest, Nil, Then, Sections, NoSection, Section, Evaluate, If, While, Do, For, Switch, Block, Local, Break, Continue, Goto, Mark, Arrival, join}
use Rattle.jump_meaning.specs.Code.{entry_or}
use Rattle.jump_meaning.specs.World.{no_slot}
use Rattle.jump_meaning.specs.Step.{switch_kind}
use Rattle.flat_laws.specs.Pieces.{Aim, Stays, Becomes, Absent, Names, mark_of, third_items, with_third, is_number, zero_tree, assign_number, assign_cell, assigned_cells, test_for, tests_for, tests, tests_in, tests_among, case_marks}
use Rattle.flat_laws.specs.Loose.{Arrivals, NoArrival, Arrives}
use Rattle.flat_laws.specs.Parts.{Here, switch_labels, has_default, leaves}
use Rattle.flat_laws.specs.FlatForm.{names_of, scatter_aim, otherwise_label, end_goto, aim, exit, assigned, mark_if, arrival, dissolved, place_in}
use Rattle.lower_laws.specs.Straight.{jump_if, while_items, do_items, ever_items}
use Rattle.lower_laws.specs.Lowered.{Layout, past, past_item, inside, jump_of, lowered_if, lowered_do, lowered_for, break_aim, for_aim, continue_aim, lowered, lowered_item, lowered_among, placed}
use Rattle.goto_lowering.specs.Renumbered.{renumbered, renumbered_item}

module _ (f : ℕ → ℕ) where
  -- a layout, exits and names with those numbers
  abbrev moved : Layout → Layout
  moved p = record {
    plan = record p.plan {
      source = λ l. f (p.plan.source l);
      break_label = λ k. f (p.plan.break_label k);
      continue_label = λ k. f (p.plan.continue_label k);
      default_label = λ k. f (p.plan.default_label k);
      case_label = λ j. f (p.plan.case_label j);
    };
    head_label = λ k. f (p.head_label k);
    list_label = λ k. f (p.list_label k);
  }

  abbrev aim_moved : Aim → Aim
  aim_moved Stays = Stays
  aim_moved (Becomes l) = Becomes (f l)
  aim_moved Absent = Absent

  abbrev arrivals_moved : Arrivals → Arrivals
  arrivals_moved (Arrives names) = Arrives (λ e. f (names e))
  arrivals_moved NoArrival = NoArrival

  joins : (a b : Forest) → renumbered f (join a b) ≡ join (renumbered f a) (renumbered f b)
  joins Nil b = refl
  joins (Then x a) b = ap (Then (renumbered_item f x)) (joins a b)

  -- both at once
  both : (a b : Forest) {a' b' : Forest} → renumbered f a ≡ a' → renumbered f b ≡ b' → renumbered f (join a b) ≡ join a' b'
  both a b {a'} {b'} e g = joins a b ∙ ap (λ z. join z (renumbered f b)) e ∙ ap (join a') g

  marked : (c : Aim) → renumbered f (mark_of c) ≡ mark_of (aim_moved c)
  marked Stays = refl
  marked (Becomes l) = refl
  marked Absent = refl

  third : (u : Option ExpressionTree) → renumbered f (third_items u) ≡ third_items u
  third None = refl
  third (Some e) = refl

  aimed : (y : Bool) (n l : ℕ) → aim_moved (aim y n l) ≡ aim y n (f l)
  aimed false n l = refl
  aimed true zero l = refl
  aimed true (suc n) l = refl

  broken : (b : Aim) → renumbered f (exit b Break) ≡ exit (aim_moved b) Break
  broken Stays = refl
  broken (Becomes l) = refl
  broken Absent = refl

  continued : (b : Aim) → renumbered f (exit b Continue) ≡ exit (aim_moved b) Continue
  continued Stays = refl
  continued (Becomes l) = refl
  continued Absent = refl

  if_marked : (y : Bool) (l : ℕ) → renumbered f (mark_if y l) ≡ mark_if y (f l)
  if_marked true l = refl
  if_marked false l = refl

  arrived : (r : Arrivals) (e : Option ExpressionTree) → renumbered f (arrival r e) ≡ arrival (arrivals_moved r) e
  arrived (Arrives names) e = refl
  arrived NoArrival e = refl

  ended : (y : Bool) (b : Aim) → renumbered f (end_goto y b) ≡ end_goto y (aim_moved b)
  ended true (Becomes l) = refl
  ended true Stays = refl
  ended true Absent = refl
  ended false _ = refl

  -- ---- declarations

  cells : (k : IntKind) (x i : ℕ) (es : List ExpressionTree) (m : ℕ) → renumbered f (assigned_cells k x i es m) ≡ assigned_cells k x i es m
  cells k x i (e ∷ es) m = ap (Then (Evaluate (assign_cell k x i e))) (cells k x (suc i) es m)
  cells k x i [] zero = refl
  cells k x i [] (suc m) = ap (Then (Evaluate (assign_cell k x i zero_tree))) (cells k x (suc i) [] m)

  given : (k : IntKind) (x : ℕ) (n : Option ℕ) (es : List ExpressionTree) → renumbered f (assigned k x n es) ≡ assigned k x n es
  given k x None (e ∷ es) = refl
  given k x None [] = refl
  given k x (Some n) es = cells k x 0 es (n - length es)

  -- ---- switches

  module _ (number : IntKind → ℤ → ExpressionTree) (k : IntKind) (v : ℕ) (names : Names) where
    test_one : (e : ExpressionTree) (n : Option ℤ) → renumbered f
        (option_map_or (λ n. one (If (Source (is_number k v (number k n))) (one (Goto (names (Some e)))) Nil)) n Nil) ≡ option_map_or
        (λ n. one (If (Source (is_number k v (number k n))) (one (Goto (f (names (Some e))))) Nil)) n Nil
    test_one e None = refl
    test_one e (Some n) = refl

    these : (es : List ExpressionTree) → renumbered f (tests_for number k v names es) ≡ tests_for number k v (λ e. f (names e)) es
    these [] = refl
    these (e ∷ es) = both (test_for number k v names e) (tests_for number k v names es) (test_one e (case_number k e)) (these es)

    mutual
      tested : (xs : Forest) → renumbered f (tests number k v names xs) ≡ tests number k v (λ e. f (names e)) xs
      tested Nil = refl
      tested (Then x xs) = both (tests_in number k v names x) (tests number k v names xs) (tested_in x) (tested xs)

      tested_in : (x : Tree) → renumbered f (tests_in number k v names x) ≡ tests_in number k v (λ e. f (names e)) x
      tested_in (If t a b) = both (tests number k v names a) (tests number k v names b) (tested a) (tested b)
      tested_in (While t a) = tested a
      tested_in (Do a t) = tested a
      tested_in (For g t u a) = tested a
      tested_in (Block a) = tested a
      tested_in (Arrival (Some e)) = test_one e (case_number k e)
      tested_in (Arrival None) = refl
      tested_in _ = refl

    tested_among : (d : Sections) → renumbered f (tests_among number k v names d) ≡ tests_among number k v (λ e. f (names e)) d
    tested_among NoSection = refl
    tested_among (Section cases default a ends d) =
        both (tests_for number k v names cases) (join (tests number k v names a) (tests_among number k v names d)) (these cases)
        (both (tests number k v names a) (tests_among number k v names d) (tested a) (tested_among d))

  labelled : (names : Names) (es : List ExpressionTree) (default : Bool) → renumbered f (case_marks names es default) ≡ case_marks (λ e. f (names e)) es default
  labelled names [] true = refl
  labelled names [] false = refl
  labelled names (e ∷ es) default = ap (Then (Mark (f (names (Some e))))) (labelled names es default)

  named : (p : Layout) (h : Here) (k : IntKind) (d : Sections) → (λ e. f (names_of p.plan h k d e)) ≡ names_of (moved p).plan h k d
  named p h k d = fun_ext (λ e. at e) where
    at : (e : Option ExpressionTree) → f (names_of p.plan h k d e) ≡ names_of (moved p).plan h k d e
    at None = refl
    at (Some e) = refl

  scattered : (p : Layout) (h : Here) (d : Sections) → aim_moved (scatter_aim p.plan h d) ≡ scatter_aim (moved p).plan h d
  scattered p h d = by (leaves d) where
    by : (y : Bool) → aim_moved (cond y (Becomes (p.plan.break_label h.construct)) Absent) ≡ cond y (Becomes (f (p.plan.break_label h.construct))) Absent
    by true = refl
    by false = refl

  otherwise : (p : Layout) (h : Here) (d : Sections) → f (otherwise_label p.plan h d) ≡ otherwise_label (moved p).plan h d
  otherwise p h d = by (has_default (switch_labels d)) where
    by : (y : Bool) → f (cond y (p.plan.default_label h.construct) (p.plan.break_label h.construct)) ≡ cond y (f (p.plan.default_label h.construct))
        (f (p.plan.break_label h.construct))
    by true = refl
    by false = refl

  dissolves : (p : Layout) (h : Here) (s : SelectorTree) (d : Sections) (ys : Forest) {ys' : Forest} → renumbered f ys ≡ ys' →
      renumbered f (dissolved p.plan h s d ys) ≡ dissolved (moved p).plan h s d ys'
  dissolves p h s d ys {ys'} e =
      let k = switch_kind s in
      let ts = tests_among p.plan.number k h.variable (names_of p.plan h k d) d in
      ap (Then (Evaluate (assign_number k h.variable (selector_source s))))
      (both ts (Then (Goto (otherwise_label p.plan h d)) ys)
      (tested_among p.plan.number k h.variable (names_of p.plan h k d) d ∙ ap (λ ns. tests_among p.plan.number k h.variable ns d) (named p h k d))
      (ap (λ l. Then (Goto l) (renumbered f ys)) (otherwise p h d) ∙ ap (Then (Goto (otherwise_label (moved p).plan h d))) e))

  -- ---- loops and `if`s

  chooses : (p : Layout) (h : Here) (t : TestTree) (o : Option ℕ) (a b : Forest) {a' b' : Forest} → renumbered f a ≡ a' → renumbered f b ≡ b' →
      renumbered f (lowered_if p h t o a b) ≡ lowered_if (moved p) h t o a' b'
  chooses p h t (Some l) a b ea eb = refl
  chooses p h t None a b {a'} {b'} ea eb =
      let e = p.plan.break_label h.construct in
      let l = p.list_label h.construct in
      ap (Then (jump_if t (f l))) (both b (Then (Goto e) (Then (Mark l) (join a (one (Mark e))))) eb
      (ap (λ z. Then (Goto (f e)) (Then (Mark (f l)) z)) (both a (one (Mark e)) ea refl)))

  whiles : (t : TestTree) (h b e : ℕ) (a : Forest) {a' : Forest} → renumbered f a ≡ a' →
      renumbered f (while_items t h b e a) ≡ while_items t (f h) (f b) (f e) a'
  whiles t h b e a q = ap (λ z. Then (Mark (f h)) (Then (jump_if t (f b)) (Then (Goto (f e)) (Then (Mark (f b)) z))))
      (both a (Then (Goto h) (one (Mark e))) q refl)

  dos : (p : Layout) (h : Here) (t : TestTree) (a : Forest) (b c : Aim) {a' : Forest} → renumbered f a ≡ a' →
      renumbered f (lowered_do p h t a b c) ≡ lowered_do (moved p) h t a' (aim_moved b) (aim_moved c)
  dos p h t a b c q =
      let l = p.list_label h.construct in
      both (do_items t l (join a (mark_of c))) (mark_of b)
      (ap (Then (Mark (f l))) (both (join a (mark_of c)) (one (jump_if t l)) (both a (mark_of c) q (marked c)) refl)) (marked b)

  thirds : (a : Forest) (c : Aim) (u : Option ExpressionTree) {a' : Forest} → renumbered f a ≡ a' →
      renumbered f (with_third a c u) ≡ with_third a' (aim_moved c) u
  thirds a c u q = both a (join (mark_of c) (third_items u)) q (both (mark_of c) (third_items u) (marked c) (third u))

  fors : (p : Layout) (h : Here) (t u : Option ExpressionTree) (a : Forest) (b c : Aim) {a' : Forest} → renumbered f a ≡ a' →
      renumbered f (lowered_for p h t u a b c) ≡ lowered_for (moved p) h t u a' (aim_moved b) (aim_moved c)
  fors p h (Some t) u a b c q = whiles (Source t) (p.head_label h.construct) (p.list_label h.construct) (p.plan.break_label h.construct)
      (with_third a c u) (thirds a c u q)
  fors p h None u a b c q =
      let l = p.head_label h.construct in
      both (ever_items l (with_third a c u)) (mark_of b) (ap (Then (Mark (f l))) (both (with_third a c u) (one (Goto l)) (thirds a c u q) refl)) (marked b)

  for_aimed : (p : Layout) (h : Here) (t : Option ExpressionTree) (a : Forest) → aim_moved (for_aim p h t a) ≡ for_aim (moved p) h t a
  for_aimed p h (Some t) a = refl
  for_aimed p h None a = aimed true (breaks a) (p.plan.break_label h.construct)

  -- ---- the body

  mutual
    moves : (p : Layout) (h : Here) (b c : Aim) (r : Arrivals) (xs : Forest) →
        renumbered f (lowered p h b c r xs) ≡ lowered (moved p) h (aim_moved b) (aim_moved c) (arrivals_moved r) xs
    moves p h b c r Nil = refl
    moves p h b c r (Then x xs) = both (lowered_item p h b c r x) (lowered p (past_item x h) b c r xs) (moves_in p h b c r x) (moves p (past_item x h) b c r xs)

    moves_in : (p : Layout) (h : Here) (b c : Aim) (r : Arrivals) (x : Tree) →
        renumbered f (lowered_item p h b c r x) ≡ lowered_item (moved p) h (aim_moved b) (aim_moved c) (arrivals_moved r) x
    moves_in p h b c r (If t x y) =
        chooses p h t (jump_of p.plan.live x y) (lowered p (inside (If t x y) h) b c r x) (lowered p (past x (inside (If t x y) h)) b c r y)
        (moves p (inside (If t x y) h) b c r x) (moves p (past x (inside (If t x y) h)) b c r y)
    moves_in p h b c r (While t a) =
        let e = p.plan.break_label h.construct in
        let l = p.head_label h.construct in
        whiles t l (p.list_label h.construct) e (lowered p (inside (While t a) h) (Becomes e) (Becomes l) r a)
        (moves p (inside (While t a) h) (Becomes e) (Becomes l) r a)
    moves_in p h b c r (Do a t) =
        let i = inside (Do a t) h in
        let b' = break_aim p h a in
        let c' = continue_aim p h a in
        dos p h t (lowered p i b' c' r a) b' c' (moves p i b' c' r a)
        ∙ ap (λ z. lowered_do (moved p) h t (lowered (moved p) i z (aim_moved c') (arrivals_moved r) a) z (aim_moved c'))
        (aimed true (breaks a) (p.plan.break_label h.construct))
        ∙ ap (λ z. lowered_do (moved p) h t (lowered (moved p) i (break_aim (moved p) h a) z (arrivals_moved r) a) (break_aim (moved p) h a) z)
        (aimed true (continues a) (p.plan.continue_label h.construct))
    moves_in p h b c r (For first t u a) =
        let i = inside (For first t u a) h in
        let j = past first i in
        let b' = for_aim p h t a in
        let c' = continue_aim p h a in
        both (lowered p i b c NoArrival first) (lowered_for p h t u (lowered p j b' c' r a) b' c') (moves p i b c NoArrival first)
        (fors p h t u (lowered p j b' c' r a) b' c' (moves p j b' c' r a)
        ∙ ap (λ z. lowered_for (moved p) h t u (lowered (moved p) j z (aim_moved c') (arrivals_moved r) a) z (aim_moved c')) (for_aimed p h t a)
        ∙ ap (λ z. lowered_for (moved p) h t u (lowered (moved p) j (for_aim (moved p) h t a) z (arrivals_moved r) a) (for_aim (moved p) h t a) z)
        (aimed true (continues a) (p.plan.continue_label h.construct)))
    moves_in p h b c r (Block a) = moves p h b c r a
    moves_in p h b c r (Local x None) = refl
    moves_in p h b c r (Local x (Some es)) = given (entry_or no_slot p.plan.slots x).kind x (entry_or no_slot p.plan.slots x).cells es
    moves_in p h b c r Break = broken b
    moves_in p h b c r Continue = continued c
    moves_in p h b c r (Goto l) = refl
    moves_in p h b c r (Mark l) = if_marked (p.plan.live l) (p.plan.source l)
    moves_in p h b c r (Arrival e) = arrived r e
    moves_in p h b c r (Switch s d) =
        let i = inside (Switch s d) h in
        let b' = scatter_aim p.plan h d in
        let ns = names_of p.plan h (switch_kind s) d in
        dissolves p h s d (lowered_among p i b' c ns d)
        (moves_among p i b' c ns d
        ∙ ap (λ z. lowered_among (moved p) i z (aim_moved c) (λ e. f (ns e)) d) (scattered p h d)
        ∙ ap (λ n. lowered_among (moved p) i (scatter_aim (moved p).plan h d) (aim_moved c) n d) (named p h (switch_kind s) d))
    moves_in p h b c r (Evaluate e) = refl
    moves_in p h b c r _ = refl

    moves_among : (p : Layout) (h : Here) (b c : Aim) (names : Names) (d : Sections) →
        renumbered f (lowered_among p h b c names d) ≡ lowered_among (moved p) h (aim_moved b) (aim_moved c) (λ e. f (names e)) d
    moves_among p h b c names NoSection = marked b
    moves_among p h b c names (Section cases default a ends d) =
        both (case_marks names cases default)
        (join (lowered p h b c (Arrives names) a) (join (end_goto ends b) (lowered_among p (past a h) b c names d))) (labelled names cases default)
        (both (lowered p h b c (Arrives names) a) (join (end_goto ends b) (lowered_among p (past a h) b c names d)) (moves p h b c (Arrives names) a)
        (both (end_goto ends b) (lowered_among p (past a h) b c names d) (ended ends b) (moves_among p (past a h) b c names d)))

-- where the labels have the numbers of their places
pub placed_is : (ls : List ℕ) (p : Layout) (h : Here) (body : Forest) →
    renumbered (place_in ls) (lowered p h Stays Stays NoArrival body) ≡ lowered (placed ls p) h Stays Stays NoArrival body
placed_is ls p h body = moves (place_in ls) p h Stays Stays NoArrival body
