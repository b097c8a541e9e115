-- With other numbers for its labels, the flat form of a body has these numbers in the same places.
use mathlib.Core.Path.{ap₂}
use Rattle.std.proofs.Common.{ℕ, zero, suc, ◌-◌, ℤ, Bool, true, false, cond, ◌&&◌, ◌||◌, List, [], ◌∷◌, length, Option, Some, None, ◌≡◌, refl, sym, ◌∙◌, ap}
use Rattle.std.specs.Option.{option_map_or}
use Rattle.c_types.specs.declared.kinds.IntKind.{IntKind}
use Rattle.c_tree.specs.ExpressionTrees.{ExpressionTree}
use Rattle.c_tree.specs.TestTrees.{Source}
use Rattle.c_tree.specs.Cases.{case_number, selector_source}
use Rattle.c_tree.specs.Exits.{breaks, continues, continues_in}
use Rattle.c_tree.specs.Trees.{Tree, Forest, Nil, Then, Sections, NoSection, Section, Evaluate, If, While, Do, For, Switch, Block, Local, Break, Continue, Goto, Mark, Arrival, join}
use Rattle.c_tree.specs.Changed.{one}
use Rattle.jump_meaning.specs.Code.{entry_or}
use Rattle.jump_meaning.specs.World.{no_slot}
use Rattle.jump_meaning.specs.Step.{switch_kind}
use Rattle.flat_laws.specs.Pieces.{Aim, Stays, Becomes, Absent, mark_of, test_or_one, third_items, assign_number, assign_cell, zero_tree, assigned_cells, Names, is_number, test_for, tests_for, tests, tests_in, tests_among, case_marks}
use Rattle.flat_laws.specs.Loose.{Arrivals, NoArrival, Arrives}
use Rattle.flat_laws.specs.Parts.{is_some_number, is_scattered, switch_labels, has_default, leaves, holds_jump, holds_jump_among, Here, past, past_item, inside, Ending, Gone, Breaks, Jumps, Otherwise, ending, is_gone, kept_breaks, ends_then}
use Rattle.flat_laws.specs.Relabelled.{relabelled, relabelled_item, relabelled_among}
use Rattle.flat_laws.specs.FlatForm.{Plan, names_of, scatter_aim, otherwise_label, end_goto, aim, exit, is_moved, is_jumpy_switch, assigned, mark_if, arrival, dissolved, if_breaks, flat_for, flat, flat_item, flat_last, flat_last_item, flat_sections, spread}

module _ (f : ℕ → ℕ) where
  abbrev aimed : Aim → Aim
  aimed Stays = Stays
  aimed (Becomes l) = Becomes (f l)
  aimed Absent = Absent

  abbrev named : Names → Names
  named names e = f (names e)

  abbrev arriving : Arrivals → Arrivals
  arriving NoArrival = NoArrival
  arriving (Arrives names) = Arrives (named names)

  abbrev planned : Plan → Plan
  planned p = record p {
    source = λ l. f (p.source l);
    break_label = λ k. f (p.break_label k);
    continue_label = λ k. f (p.continue_label k);
    default_label = λ k. f (p.default_label k);
    case_label = λ j. f (p.case_label j);
  }

  join_labels : (a b : Forest) → relabelled f (join a b) ≡ join (relabelled f a) (relabelled f b)
  join_labels Nil b = refl
  join_labels (Then x a) b = ap (Then (relabelled_item f x)) (join_labels a b)

  mark_labels : (b : Aim) → relabelled f (mark_of b) ≡ mark_of (aimed b)
  mark_labels Stays = refl
  mark_labels (Becomes l) = refl
  mark_labels Absent = refl

  third_labels : (u : Option ExpressionTree) → relabelled f (third_items u) ≡ third_items u
  third_labels None = refl
  third_labels (Some e) = refl

  cells_labels : (k : IntKind) (x i : ℕ) (es : List ExpressionTree) (m : ℕ) → relabelled f (assigned_cells k x i es m) ≡ assigned_cells k x i es m
  cells_labels k x i (e ∷ es) m = ap (Then (Evaluate (assign_cell k x i e))) (cells_labels k x (suc i) es m)
  cells_labels k x i [] zero = refl
  cells_labels k x i [] (suc m) = ap (Then (Evaluate (assign_cell k x i zero_tree))) (cells_labels k x (suc i) [] m)

  assigned_labels : (k : IntKind) (x : ℕ) (o : Option ℕ) (es : List ExpressionTree) → relabelled f (assigned k x o es) ≡ assigned k x o es
  assigned_labels k x None [] = refl
  assigned_labels k x None (e ∷ es) = refl
  assigned_labels k x (Some n) es = cells_labels k x 0 es (n - length es)

  marks_labels : (names : Names) (cases : List ExpressionTree) (default : Bool)
      → relabelled f (case_marks names cases default) ≡ case_marks (named names) cases default
  marks_labels names [] true = refl
  marks_labels names [] false = refl
  marks_labels names (e ∷ es) default = ap (Then (Mark (f (names (Some e))))) (marks_labels names es default)

  if_labels : (y : Bool) (l : ℕ) → relabelled f (mark_if y l) ≡ mark_if y (f l)
  if_labels true l = refl
  if_labels false l = refl

  arrival_labels : (r : Arrivals) (e : Option ExpressionTree) → relabelled f (arrival r e) ≡ arrival (arriving r) e
  arrival_labels NoArrival e = refl
  arrival_labels (Arrives names) e = refl

  end_labels : (y : Bool) (b : Aim) → relabelled f (end_goto y b) ≡ end_goto y (aimed b)
  end_labels true Stays = refl
  end_labels true (Becomes l) = refl
  end_labels true Absent = refl
  end_labels false b = refl

  break_labels : (b : Aim) → relabelled f (exit b Break) ≡ exit (aimed b) Break
  break_labels Stays = refl
  break_labels (Becomes l) = refl
  break_labels Absent = refl

  continue_labels : (b : Aim) → relabelled f (exit b Continue) ≡ exit (aimed b) Continue
  continue_labels Stays = refl
  continue_labels (Becomes l) = refl
  continue_labels Absent = refl

  aim_labels : (y : Bool) (n l : ℕ) → aimed (aim y n l) ≡ aim y n (f l)
  aim_labels false n l = refl
  aim_labels true zero l = refl
  aim_labels true (suc n) l = refl

  cond_aims : (y : Bool) (l : ℕ) → aimed (cond y (Becomes l) Absent) ≡ cond y (Becomes (f l)) Absent
  cond_aims true l = refl
  cond_aims false l = refl

  cond_numbers : (y : Bool) (m n : ℕ) → f (cond y m n) ≡ cond y (f m) (f n)
  cond_numbers true m n = refl
  cond_numbers false m n = refl

  moved_labels : (b : Aim) → is_moved (aimed b) ≡ is_moved b
  moved_labels Stays = refl
  moved_labels (Becomes l) = refl
  moved_labels Absent = refl

  cond_labels : (y : Bool) (a b : Forest) → relabelled f (cond y a b) ≡ cond y (relabelled f a) (relabelled f b)
  cond_labels true a b = refl
  cond_labels false a b = refl

  breaks_labels : (e : Ending) (a b : Forest) → relabelled f (if_breaks e a b) ≡ if_breaks e (relabelled f a) (relabelled f b)
  breaks_labels Breaks a b = refl
  breaks_labels Gone a b = refl
  breaks_labels Jumps a b = refl
  breaks_labels Otherwise a b = refl

  for_labels : (y : Bool) (t u : Option ExpressionTree) (a : Forest) (b c : Aim)
      → relabelled f (flat_for y t u a b c) ≡ flat_for y t u (relabelled f a) (aimed b) (aimed c)
  for_labels true t u a b c =
      ap₂ (λ z w. Then (While (Source (test_or_one t)) z) w)
      (join_labels a (join (mark_of c) (third_items u)) ∙ ap (join (relabelled f a)) (join_labels (mark_of c) (third_items u)
      ∙ ap₂ join (mark_labels c) (third_labels u)))
      (mark_labels b)
  for_labels false t u a b c = ap₂ (λ z w. Then (For Nil t u z) w) (join_labels a (mark_of c) ∙ ap (join (relabelled f a)) (mark_labels c)) (mark_labels b)

  module _ (number : IntKind → ℤ → ExpressionTree) (k : IntKind) (v : ℕ) (names : Names) where
    test_labels : (e : ExpressionTree) → relabelled f (test_for number k v names e) ≡ test_for number k v (named names) e
    test_labels e = at (case_number k e)
      where
        at : (o : Option ℤ) → relabelled f (option_map_or (λ n. one (If (Source (is_number k v (number k n))) (one (Goto (names (Some e)))) Nil)) o Nil)
            ≡ option_map_or (λ n. one (If (Source (is_number k v (number k n))) (one (Goto (f (names (Some e))))) Nil)) o Nil
        at None = refl
        at (Some n) = refl

    tests_for_labels : (es : List ExpressionTree) → relabelled f (tests_for number k v names es) ≡ tests_for number k v (named names) es
    tests_for_labels [] = refl
    tests_for_labels (e ∷ es) = join_labels (test_for number k v names e) (tests_for number k v names es) ∙ ap₂ join (test_labels e) (tests_for_labels es)

    mutual
      tests_labels : (a : Forest) → relabelled f (tests number k v names a) ≡ tests number k v (named names) a
      tests_labels Nil = refl
      tests_labels (Then x a) = join_labels (tests_in number k v names x) (tests number k v names a) ∙ ap₂ join (tests_labels_in x) (tests_labels a)

      tests_labels_in : (x : Tree) → relabelled f (tests_in number k v names x) ≡ tests_in number k v (named names) x
      tests_labels_in (If t a b) = join_labels (tests number k v names a) (tests number k v names b) ∙ ap₂ join (tests_labels a) (tests_labels b)
      tests_labels_in (While t a) = tests_labels a
      tests_labels_in (Do a t) = tests_labels a
      tests_labels_in (For g t u a) = tests_labels a
      tests_labels_in (Block a) = tests_labels a
      tests_labels_in (Arrival None) = refl
      tests_labels_in (Arrival (Some e)) = test_labels e
      tests_labels_in x = refl

    tests_among_labels : (d : Sections) → relabelled f (tests_among number k v names d) ≡ tests_among number k v (named names) d
    tests_among_labels NoSection = refl
    tests_among_labels (Section cases default a ends d) =
        join_labels (tests_for number k v names cases) (join (tests number k v names a) (tests_among number k v names d))
        ∙ ap₂ join (tests_for_labels cases) (join_labels (tests number k v names a) (tests_among number k v names d) ∙
        ap₂ join (tests_labels a) (tests_among_labels d))

  case_names : (p : Plan) (h : Here) (k : IntKind) (d : Sections) (e : Option ExpressionTree) → f (names_of p h k d e) ≡ names_of (planned p) h k d e
  case_names p h k d None = refl
  case_names p h k d (Some e) = refl

  loop_labels : (loop : Forest → Tree) → ((a : Forest) → relabelled_item f (loop a) ≡ loop (relabelled f a))
      → (a a' : Forest) (b c b' c' : Aim) → relabelled f a ≡ a' → aimed b ≡ b' → aimed c ≡ c'
      → relabelled f (Then (loop (join a (mark_of c))) (mark_of b)) ≡ Then (loop (join a' (mark_of c'))) (mark_of b')
  loop_labels loop i a a' b c b' c' e x y =
      ap₂ Then (i (join a (mark_of c)) ∙ ap loop (join_labels a (mark_of c) ∙ ap₂ join e (mark_labels c ∙ ap mark_of y))) (mark_labels b ∙ ap mark_of x)

  module _ (p : Plan) where
    abbrev q : Plan
    q = planned p

    same_names : (h : Here) (k : IntKind) (d : Sections) → named (names_of p h k d) ≡ names_of q h k d
    same_names h k d = λ i e. case_names p h k d e i

    jumpy_labels : (c : Aim) (d : Sections) → is_jumpy_switch p c d ≡ is_jumpy_switch q (aimed c) d
    jumpy_labels c d = ap (λ z. holds_jump_among p.live d || (z && is_some_number (continues_in d))) (sym (moved_labels c))

    mutual
      pub flat_labels : (xs : Forest) (h : Here) (b c : Aim) (r : Arrivals) → relabelled f (flat p h b c r xs) ≡ flat q h (aimed b) (aimed c) (arriving r) xs
      flat_labels Nil h b c r = refl
      flat_labels (Then x xs) h b c r = join_labels (flat_item p h b c r x) (flat p (past_item x h) b c r xs) ∙
          ap₂ join (flat_labels_in x h b c r) (flat_labels xs (past_item x h) b c r)

      flat_labels_in : (x : Tree) (h : Here) (b c : Aim) (r : Arrivals)
          → relabelled f (flat_item p h b c r x) ≡ flat_item q h (aimed b) (aimed c) (arriving r) x
      flat_labels_in (If t x y) h b c r = ap₂ (λ a b. one (If t a b)) (flat_labels x h b c r) (flat_labels y (past x h) b c r)
      flat_labels_in (While t a) h b c r =
          let y = holds_jump p.live a in
          let k = p.break_label h.construct in
          let l = p.continue_label h.construct in
          let b' = aim y (breaks a) k in
          let c' = aim y (continues a) l in
          let h' = inside (While t a) h in
          loop_labels (λ z. While t z) (λ z. refl) (flat p h' b' c' r a)
          (flat q h' (aim y (breaks a) (f k)) (aim y (continues a) (f l)) (arriving r) a) b' c' (aim y (breaks a) (f k)) (aim y (continues a) (f l))
          (flat_labels a h' b' c' r ∙ ap₂ (λ m n. flat q h' m n (arriving r) a) (aim_labels y (breaks a) k) (aim_labels y (continues a) l))
          (aim_labels y (breaks a) k) (aim_labels y (continues a) l)
      flat_labels_in (Do a t) h b c r =
          let y = holds_jump p.live a in
          let k = p.break_label h.construct in
          let l = p.continue_label h.construct in
          let b' = aim y (breaks a) k in
          let c' = aim y (continues a) l in
          let h' = inside (Do a t) h in
          loop_labels (λ z. Do z t) (λ z. refl) (flat p h' b' c' r a) (flat q h' (aim y (breaks a) (f k)) (aim y (continues a) (f l)) (arriving r) a)
          b' c' (aim y (breaks a) (f k)) (aim y (continues a) (f l))
          (flat_labels a h' b' c' r ∙ ap₂ (λ m n. flat q h' m n (arriving r) a) (aim_labels y (breaks a) k) (aim_labels y (continues a) l))
          (aim_labels y (breaks a) k) (aim_labels y (continues a) l)
      flat_labels_in (For first t u a) h b c r =
          let y = holds_jump p.live a in
          let k = p.break_label h.construct in
          let l = p.continue_label h.construct in
          let b' = aim y (breaks a) k in
          let c' = aim y (continues a) l in
          let h' = inside (For first t u a) h in
          let h'' = past first h' in
          let A = flat p h'' b' c' r a in
          let A' = flat q h'' (aim y (breaks a) (f k)) (aim y (continues a) (f l)) (arriving r) a in
          join_labels (flat p h' b c NoArrival first) (flat_for y t u A b' c')
          ∙ ap₂ join (flat_labels first h' b c NoArrival)
          (for_labels y t u A b' c'
          ∙ ap (λ z. flat_for y t u z (aimed b') (aimed c'))
          (flat_labels a h'' b' c' r ∙ ap₂ (λ m n. flat q h'' m n (arriving r) a) (aim_labels y (breaks a) k) (aim_labels y (continues a) l))
          ∙ ap₂ (λ m n. flat_for y t u A' m n) (aim_labels y (breaks a) k) (aim_labels y (continues a) l))
      flat_labels_in (Block a) h b c r = flat_labels a h b c r
      flat_labels_in (Local x None) h b c r = refl
      flat_labels_in (Local x (Some es)) h b c r = assigned_labels (entry_or no_slot p.slots x).kind x (entry_or no_slot p.slots x).cells es
      flat_labels_in Break h b c r = break_labels b
      flat_labels_in Continue h b c r = continue_labels c
      flat_labels_in (Goto l) h b c r = refl
      flat_labels_in (Mark l) h b c r = if_labels (p.live l) (p.source l)
      flat_labels_in (Arrival e) h b c r = arrival_labels r e
      flat_labels_in (Switch s d) h b c r =
          let h' = inside (Switch s d) h in
          let kind = switch_kind s in
          let names = names_of p h kind d in
          let z = scatter_aim p h d in
          let sp = spread p h' z c names d in
          let ts = tests_among p.number kind h.variable names d in
          let o = otherwise_label p h d in
          let y = is_jumpy_switch p c d in
          let n = kept_breaks p.live d in
          let l = p.break_label h.construct in
          let m = aim y n l in
          cond_labels (is_scattered d) (dissolved p h s d sp) (Then (Switch s (flat_sections p h' y m c d)) (mark_of m))
          ∙ ap₂ (cond (is_scattered d))
          (ap (Then (Evaluate (assign_number kind h.variable (selector_source s)))) (join_labels ts (Then (Goto o) sp)
          ∙ ap₂ join (tests_among_labels p.number kind h.variable names d ∙ ap (λ ns. tests_among p.number kind h.variable ns d) (same_names h kind d))
          (ap₂ (λ i w. Then (Goto i) w) (cond_numbers (has_default (switch_labels d)) (p.default_label h.construct) l)
          (spread_labels d h' z c names ∙ ap₂ (λ w ns. spread q h' w (aimed c) ns d) (cond_aims (leaves d) l) (same_names h kind d)))))
          (ap₂ (λ e w. Then (Switch s e) w) (sections_labels d h' y m c) (mark_labels m)
          ∙ ap (λ w. Then (Switch s (flat_sections q h' y w (aimed c) d)) (mark_of w)) (aim_labels y n l)
          ∙ ap (λ v. Then (Switch s (flat_sections q h' v (aim v n (f l)) (aimed c) d)) (mark_of (aim v n (f l)))) (jumpy_labels c d))
      flat_labels_in x h b c r = refl

      sections_labels : (d : Sections) (h : Here) (y : Bool) (b c : Aim)
          → relabelled_among f (flat_sections p h y b c d) ≡ flat_sections q h y (aimed b) (aimed c) d
      sections_labels NoSection h y b c = refl
      sections_labels (Section cases default a ends d) h y b c =
          let e = ending p.live a in
          ap₂ (λ z w. Section cases default z (ends_then y ends e) w)
          (breaks_labels e (flat_last p h b c NoArrival a) (flat p h b c NoArrival a) ∙
          ap₂ (if_breaks e) (last_labels a h b c NoArrival) (flat_labels a h b c NoArrival)) (sections_labels d (past a h) y b c)

      spread_labels : (d : Sections) (h : Here) (b c : Aim) (names : Names)
          → relabelled f (spread p h b c names d) ≡ spread q h (aimed b) (aimed c) (named names) d
      spread_labels NoSection h b c names = mark_labels b
      spread_labels (Section cases default a ends d) h b c names =
          let fa = flat p h b c (Arrives names) a in
          let sp = spread p (past a h) b c names d in
          join_labels (case_marks names cases default) (join fa (join (end_goto ends b) sp))
          ∙ ap₂ join (marks_labels names cases default)
          (join_labels fa (join (end_goto ends b) sp) ∙ ap₂ join (flat_labels a h b c (Arrives names))
          (join_labels (end_goto ends b) sp ∙ ap₂ join (end_labels ends b) (spread_labels d (past a h) b c names)))

      last_labels : (xs : Forest) (h : Here) (b c : Aim) (r : Arrivals)
          → relabelled f (flat_last p h b c r xs) ≡ flat_last q h (aimed b) (aimed c) (arriving r) xs
      last_labels Nil h b c r = refl
      last_labels (Then x xs) h b c r =
          let A = flat_item p h b c r x in
          let B = flat_last p (past_item x h) b c r xs in
          cond_labels (is_gone (ending p.live xs)) (flat_last_item p h b c r x) (join A B)
          ∙ ap₂ (cond (is_gone (ending p.live xs))) (last_labels_in x h b c r)
          (join_labels A B ∙ ap₂ join (flat_labels_in x h b c r) (last_labels xs (past_item x h) b c r))

      last_labels_in : (x : Tree) (h : Here) (b c : Aim) (r : Arrivals)
          → relabelled f (flat_last_item p h b c r x) ≡ flat_last_item q h (aimed b) (aimed c) (arriving r) x
      last_labels_in (Block a) h b c r = last_labels a h b c r
      last_labels_in x h b c r = refl
