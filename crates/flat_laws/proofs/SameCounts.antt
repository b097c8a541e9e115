-- The flat form of a body has as many gotos and labels, whatever its labels are called and its variables are.
use Rattle.std.proofs.Common.{◌≡◌, ℕ, zero, suc, ℤ, Bool, true, false, cond, ◌||◌, ◌&&◌, List, [], ◌∷◌, length, Option, Some, None, refl, sym, ap, subst, ◌∙◌, arith, length-append}
use Rattle.std.specs.Option.{option_map_or}
use Rattle.c_types.specs.declared.kinds.IntKind.{IntKind}
use Rattle.c_tree.specs.declared.tree.Slot.{Slot}
use Rattle.c_tree.specs.Cases.{case_number}
use Rattle.c_tree.specs.Exits.{breaks, continues, continues_in}
use Rattle.c_tree.specs.ExpressionTrees.{ExpressionTree}
use Rattle.c_tree.specs.TestTrees.{Source}
use Rattle.c_tree.specs.Trees.{Tree, Forest, Nil, Then, Sections, NoSection, Section, If, While, Do, For, Switch, Block, Local, Break, Continue, Goto, Mark, Arrival, join}
use Rattle.c_tree.specs.Changed.{one}
use Rattle.c_tree.specs.Everywhere.{total, total_of, total_in}
use Rattle.c_tree.proofs.KeptLemmas.{total-join}
use Rattle.jump_meaning.specs.Code.{entry_or}
use Rattle.jump_meaning.specs.World.{no_slot}
use Rattle.jump_meaning.specs.Step.{switch_kind}
use Rattle.flat_laws.specs.Pieces.{Aim, Stays, Becomes, Absent, mark_of, third_items, assigned_cells, Names, is_number, test_for, tests_for, tests, tests_in, tests_among, case_marks}
use Rattle.flat_laws.specs.Loose.{Arrivals, NoArrival, Arrives}
use Rattle.flat_laws.specs.Parts.{is_some_number, is_scattered, leaves, holds_jump, holds_jump_among, kept_breaks, Here, past, past_item, inside, Ending, Breaks, ending, is_gone}
use Rattle.flat_laws.specs.FlatForm.{Plan, names_of, scatter_aim, otherwise_label, end_goto, aim, exit, is_moved, is_jumpy_switch, assigned, mark_if, arrival, dissolved, if_breaks, flat_for, flat, flat_item, flat_last, flat_last_item, flat_sections, spread, marks, marks_in, marks_among}

-- what an exit becomes, apart from the label
pub data Alike : Aim → Aim → Type 0 where
  stays : Alike Stays Stays
  becomes : (l m : ℕ) → Alike (Becomes l) (Becomes m)
  absent : Alike Absent Absent

pub data AlikeArrivals : Arrivals → Arrivals → Type 0 where
  no_arrival : AlikeArrivals NoArrival NoArrival
  arrives : (n m : Names) → AlikeArrivals (Arrives n) (Arrives m)

aims : (b : Bool) (n l m : ℕ) → Alike (aim b n l) (aim b n m)
aims false n l m = stays
aims true zero l m = absent
aims true (suc n) l m = becomes l m

moved_alike : {b c : Aim} → Alike b c → is_moved b ≡ is_moved c
moved_alike stays = refl
moved_alike (becomes l m) = refl
moved_alike absent = refl

scatter_alike : (b : Bool) (l m : ℕ) → Alike (cond b (Becomes l) Absent) (cond b (Becomes m) Absent)
scatter_alike true l m = becomes l m
scatter_alike false l m = absent

-- a goto counts so much, and a label so much
module _ (gotos labels : ℕ) where
  abbrev pub weight : Tree → ℕ
  weight (Goto l) = gotos
  weight (Mark l) = labels
  weight _ = 0

  abbrev pub weights : Forest → ℕ
  weights a = total weight a

  mark_same : {b c : Aim} → Alike b c → weights (mark_of b) ≡ weights (mark_of c)
  mark_same stays = refl
  mark_same (becomes l m) = refl
  mark_same absent = refl

  exit_same : {b c : Aim} (x : Tree) → Alike b c → weights (exit b x) ≡ weights (exit c x)
  exit_same x stays = refl
  exit_same x (becomes l m) = refl
  exit_same x absent = refl

  end_same : (e : Bool) {b c : Aim} → Alike b c → weights (end_goto e b) ≡ weights (end_goto e c)
  end_same true stays = refl
  end_same true (becomes l m) = refl
  end_same true absent = refl
  end_same false k = refl

  flag_same : (b : Bool) (l m : ℕ) → weights (mark_if b l) ≡ weights (mark_if b m)
  flag_same true l m = refl
  flag_same false l m = refl

  arrival_same : {r s : Arrivals} (e : Option ExpressionTree) → AlikeArrivals r s → weights (arrival r e) ≡ weights (arrival s e)
  arrival_same e no_arrival = refl
  arrival_same e (arrives n m) = refl

  case_marks_same : (n m : Names) (es : List ExpressionTree) (default : Bool) → weights (case_marks n es default) ≡ weights (case_marks m es default)
  case_marks_same n m [] true = refl
  case_marks_same n m [] false = refl
  case_marks_same n m (e ∷ es) default = let h = case_marks_same n m es default in omega (arith, h)

  third_none : (u : Option ExpressionTree) → weights (third_items u) ≡ 0
  third_none None = refl
  third_none (Some e) = omega arith

  cells_none : (k : IntKind) (x i : ℕ) (es : List ExpressionTree) (m : ℕ) → weights (assigned_cells k x i es m) ≡ 0
  cells_none k x i (e ∷ es) m = let h = cells_none k x (suc i) es m in omega (arith, h)
  cells_none k x i [] zero = refl
  cells_none k x i [] (suc m) = let h = cells_none k x (suc i) [] m in omega (arith, h)

  assigned_none : (k : IntKind) (x : ℕ) (o : Option ℕ) (es : List ExpressionTree) → weights (assigned k x o es) ≡ 0
  assigned_none k x None [] = refl
  assigned_none k x None (e ∷ es) = omega arith
  assigned_none k x (Some n) es = cells_none k x 0 es _

  if_breaks_same : (e : Ending) (a b c d : Forest) → weights a ≡ weights c → weights b ≡ weights d → weights (if_breaks e a b) ≡ weights (if_breaks e c d)
  if_breaks_same Breaks a b c d h k = h
  if_breaks_same _ a b c d h k = k

  cond_same : (q : Bool) (a b c d : Forest) → weights a ≡ weights c → weights b ≡ weights d → weights (cond q a b) ≡ weights (cond q c d)
  cond_same true a b c d h k = h
  cond_same false a b c d h k = k

  -- ---- the tests of a scattered switch

  module _ (number other : IntKind → ℤ → ExpressionTree) (k : IntKind) (v w : ℕ) (n m : Names) where
    test_for_same : (x : ExpressionTree) → weights (test_for number k v n x) ≡ weights (test_for other k w m x)
    test_for_same x = at (case_number k x)
      where
        at : (o : Option ℤ)
            → weights (option_map_or (λ z. one (If (Source (is_number k v (number k z))) (one (Goto (n (Some x)))) Nil)) o Nil) ≡ weights
            (option_map_or (λ z. one (If (Source (is_number k w (other k z))) (one (Goto (m (Some x)))) Nil)) o Nil)
        at None = refl
        at (Some z) = refl

    joined : (a b c d : Forest) → weights a ≡ weights c → weights b ≡ weights d → weights (join a b) ≡ weights (join c d)
    joined a b c d h k = let i = total-join weight a b in let j = total-join weight c d in omega (arith, h, k, i, j)

    tests_for_same : (es : List ExpressionTree) → weights (tests_for number k v n es) ≡ weights (tests_for other k w m es)
    tests_for_same [] = refl
    tests_for_same (e ∷ es) = joined (test_for number k v n e) (tests_for number k v n es) (test_for other k w m e) (tests_for other k w m es)
        (test_for_same e) (tests_for_same es)

    mutual
      tests_same : (a : Forest) → weights (tests number k v n a) ≡ weights (tests other k w m a)
      tests_same Nil = refl
      tests_same (Then x a) = joined (tests_in number k v n x) (tests number k v n a) (tests_in other k w m x) (tests other k w m a) (tests_in_same x)
          (tests_same a)

      tests_in_same : (x : Tree) → weights (tests_in number k v n x) ≡ weights (tests_in other k w m x)
      tests_in_same (If t a b) = joined (tests number k v n a) (tests number k v n b) (tests other k w m a) (tests other k w m b) (tests_same a) (tests_same b)
      tests_in_same (While t a) = tests_same a
      tests_in_same (Do a t) = tests_same a
      tests_in_same (For f t u a) = tests_same a
      tests_in_same (Block a) = tests_same a
      tests_in_same (Arrival None) = refl
      tests_in_same (Arrival (Some e)) = test_for_same e
      tests_in_same _ = refl

    tests_among_same : (d : Sections) → weights (tests_among number k v n d) ≡ weights (tests_among other k w m d)
    tests_among_same NoSection = refl
    tests_among_same (Section cases default a ends d) =
        joined (tests_for number k v n cases) (join (tests number k v n a) (tests_among number k v n d)) (tests_for other k w m cases)
        (join (tests other k w m a) (tests_among other k w m d)) (tests_for_same cases)
        (joined (tests number k v n a) (tests_among number k v n d) (tests other k w m a) (tests_among other k w m d) (tests_same a) (tests_among_same d))

  -- ---- along the flat form, by two plans in which the same labels stay

  module _ (live : ℕ → Bool) (source source' break break' continue continue' default default' case case' : ℕ → ℕ) (slots slots' : List Slot)
      (number number' : IntKind → ℤ → ExpressionTree) where
    abbrev p : Plan
    p = record {
      live = live;
      source = source;
      break_label = break;
      continue_label = continue;
      default_label = default;
      case_label = case;
      slots = slots;
      number = number;
    }

    abbrev q : Plan
    q = record {
      live = live;
      source = source';
      break_label = break';
      continue_label = continue';
      default_label = default';
      case_label = case';
      slots = slots';
      number = number';
    }

    abbrev Same : Forest → Forest → Type 0
    Same a b = weights a ≡ weights b

    both : (a b c d : Forest) → Same a c → Same b d → Same (join a b) (join c d)
    both a b c d h k = let i = total-join weight a b in let j = total-join weight c d in omega (arith, h, k, i, j)

    for_same : (j : Bool) (t u : Option ExpressionTree) (a b : Forest) {e e' g g' : Aim} → Same a b → Alike e e' → Alike g g' →
        Same (flat_for j t u a e g) (flat_for j t u b e' g')
    for_same true t u a b {e = e} {e' = e'} {g = g} {g' = g'} h k l =
        let i = both a (join (mark_of g) (third_items u)) b (join (mark_of g') (third_items u)) h
        (both (mark_of g) (third_items u) (mark_of g') (third_items u) (mark_same l) refl) in
        let m = mark_same k in
        omega (arith, i, m)
    for_same false t u a b {e = e} {e' = e'} {g = g} {g' = g'} h k l = let i = both a (mark_of g) b (mark_of g') h (mark_same l) in let m =
        mark_same
        k in omega (arith, i, m)

    jumpy_same : {c c' : Aim} (d : Sections) → Alike c c' → is_jumpy_switch p c d ≡ is_jumpy_switch q c' d
    jumpy_same d k = ap (λ b. holds_jump_among live d || (b && is_some_number (continues_in d))) (moved_alike k)

    aims_over : (b b' : Bool) (n l m : ℕ) → b ≡ b' → Alike (aim b n l) (aim b' n m)
    aims_over b b' n l m e = subst (λ x. Alike (aim b n l) (aim x n m)) e (aims b n l m)

    mutual
      pub flat_same : (h h' : Here) {b b' c c' : Aim} {r r' : Arrivals} (a : Forest) → Alike b b' → Alike c c' → AlikeArrivals r r' →
          Same (flat p h b c r a) (flat q h' b' c' r' a)
      flat_same h h' Nil j k l = refl
      flat_same h h' {b = b} {b' = b'} {c = c} {c' = c'} {r = r} {r' = r'} (Then x xs) j k l =
          both (flat_item p h b c r x) (flat p (past_item x h) b c r xs) (flat_item q h' b' c' r' x) (flat q (past_item x h') b' c' r' xs)
          (item_same h h' x j k l) (flat_same (past_item x h) (past_item x h') xs j k l)

      item_same : (h h' : Here) {b b' c c' : Aim} {r r' : Arrivals} (x : Tree) → Alike b b' → Alike c c' → AlikeArrivals r r' →
          Same (flat_item p h b c r x) (flat_item q h' b' c' r' x)
      item_same h h' (If t x y) j k l = let i = flat_same h h' x j k l in let m = flat_same (past x h) (past x h') y j k l in omega (arith, i, m)
      item_same h h' {r = r} {r' = r'} (While t a) j k l =
          let B = aims (holds_jump live a) (breaks a) (break h.construct) (break' h'.construct) in
          let C = aims (holds_jump live a) (continues a) (continue h.construct) (continue' h'.construct) in
          let i = both (flat p (inside (While t a) h) _ _ r a) (mark_of _) (flat q (inside (While t a) h') _ _ r' a) (mark_of _)
          (flat_same (inside (While t a) h) (inside (While t a) h') a B C l) (mark_same C) in
          let m = mark_same B in
          omega (arith, i, m)
      item_same h h' {r = r} {r' = r'} (Do a t) j k l =
          let B = aims (holds_jump live a) (breaks a) (break h.construct) (break' h'.construct) in
          let C = aims (holds_jump live a) (continues a) (continue h.construct) (continue' h'.construct) in
          let i = both (flat p (inside (Do a t) h) _ _ r a) (mark_of _) (flat q (inside (Do a t) h') _ _ r' a) (mark_of _)
          (flat_same (inside (Do a t) h) (inside (Do a t) h') a B C l) (mark_same C) in
          let m = mark_same B in
          omega (arith, i, m)
      item_same h h' {b = b} {b' = b'} {c = c} {c' = c'} {r = r} {r' = r'} (For first t u a) j k l =
          let B = aims (holds_jump live a) (breaks a) (break h.construct) (break' h'.construct) in
          let C = aims (holds_jump live a) (continues a) (continue h.construct) (continue' h'.construct) in
          let s = inside (For first t u a) h in
          let s' = inside (For first t u a) h' in
          both (flat p s b c NoArrival first) _ (flat q s' b' c' NoArrival first) _ (flat_same s s' first j k no_arrival)
          (for_same (holds_jump live a) t u (flat p (past first s) _ _ r a) (flat q (past first s') _ _ r' a)
          (flat_same (past first s) (past first s') a B C l) B C)
      item_same h h' (Block a) j k l = flat_same h h' a j k l
      item_same h h' (Local x None) j k l = refl
      item_same h h' (Local x (Some es)) j k l =
          assigned_none (entry_or no_slot slots x).kind x (entry_or no_slot slots x).cells es ∙
          sym (assigned_none (entry_or no_slot slots' x).kind x (entry_or no_slot slots' x).cells es)
      item_same h h' Break j k l = exit_same Break j
      item_same h h' Continue j k l = exit_same Continue k
      item_same h h' (Goto x) j k l = refl
      item_same h h' (Mark x) j k l = flag_same (live x) (source x) (source' x)
      item_same h h' (Arrival e) j k l = arrival_same e l
      item_same h h' {c = c} {c' = c'} (Switch s d) j k l =
          let i = inside (Switch s d) h in
          let i' = inside (Switch s d) h' in
          let n = names_of p h (switch_kind s) d in
          let n' = names_of q h' (switch_kind s) d in
          let B = aims_over (is_jumpy_switch p c d) (is_jumpy_switch q c' d) (kept_breaks live d) (break h.construct) (break' h'.construct) (jumpy_same d k) in
          let A = scatter_alike (leaves d) (break h.construct) (break' h'.construct) in
          let y = spread p i (scatter_aim p h d) c n d in
          let y' = spread q i' (scatter_aim q h' d) c' n' d in
          let t = tests_among number (switch_kind s) h.variable n d in
          let t' = tests_among number' (switch_kind s) h'.variable n' d in
          let o = spread_same i i' n n' d A k in
          let w : Same (Then (Goto (otherwise_label p h d)) y) (Then (Goto (otherwise_label q h' d)) y') = omega (arith, o) in
          let z = both t (Then (Goto (otherwise_label p h d)) y) t' (Then (Goto (otherwise_label q h' d)) y')
          (tests_among_same number number' (switch_kind s) h.variable h'.variable n n' d) w in
          let e = sections_same i i' (is_jumpy_switch p c d) (is_jumpy_switch q c' d) d B k in
          let m = mark_same B in
          cond_same (is_scattered d) (dissolved p h s d y) _ (dissolved q h' s d y') _ (omega (arith, z)) (omega (arith, e, m))
      item_same h h' _ j k l = refl

      last_same : (h h' : Here) {b b' c c' : Aim} {r r' : Arrivals} (a : Forest) → Alike b b' → Alike c c' → AlikeArrivals r r' →
          Same (flat_last p h b c r a) (flat_last q h' b' c' r' a)
      last_same h h' Nil j k l = refl
      last_same h h' {b = b} {b' = b'} {c = c} {c' = c'} {r = r} {r' = r'} (Then x xs) j k l =
          cond_same (is_gone (ending live xs)) (flat_last_item p h b c r x) _ (flat_last_item q h' b' c' r' x) _ (last_item_same h h' x j k l)
          (both (flat_item p h b c r x) (flat_last p (past_item x h) b c r xs) (flat_item q h' b' c' r' x) (flat_last q (past_item x h') b' c' r' xs)
          (item_same h h' x j k l) (last_same (past_item x h) (past_item x h') xs j k l))

      last_item_same : (h h' : Here) {b b' c c' : Aim} {r r' : Arrivals} (x : Tree) → Alike b b' → Alike c c' → AlikeArrivals r r' →
          Same (flat_last_item p h b c r x) (flat_last_item q h' b' c' r' x)
      last_item_same h h' (Block a) j k l = last_same h h' a j k l
      last_item_same h h' _ j k l = refl

      sections_same : (h h' : Here) (x x' : Bool) {b b' c c' : Aim} (d : Sections) → Alike b b' → Alike c c' →
          total_in weight (flat_sections p h x b c d) ≡ total_in weight (flat_sections q h' x' b' c' d)
      sections_same h h' x x' NoSection j k = refl
      sections_same h h' x x' (Section cases default a ends d) j k =
          let i = if_breaks_same (ending live a) _ _ _ _ (last_same h h' a j k no_arrival) (flat_same h h' a j k no_arrival) in
          let m = sections_same (past a h) (past a h') x x' d j k in
          omega (arith, i, m)

      spread_same : (h h' : Here) (n n' : Names) {b b' c c' : Aim} (d : Sections) → Alike b b' → Alike c c' → Same (spread p h b c n d) (spread q h' b' c' n' d)
      spread_same h h' n n' NoSection j k = mark_same j
      spread_same h h' n n' {b = b} {b' = b'} {c = c} {c' = c'} (Section cases default a ends d) j k =
          both (case_marks n cases default) _ (case_marks n' cases default) _ (case_marks_same n n' cases default)
          (both (flat p h b c (Arrives n) a) _ (flat q h' b' c' (Arrives n') a) _ (flat_same h h' a j k (arrives n n'))
          (both (end_goto ends b) (spread p (past a h) b c n d) (end_goto ends b') (spread q (past a h') b' c' n' d) (end_same ends j)
          (spread_same (past a h) (past a h') n n' d j k)))

-- ---- how many labels stand in a body

mutual
  pub marks_counted : (a : Forest) → length (marks a) ≡ total (weight 0 1) a
  marks_counted Nil = refl
  marks_counted (Then x a) = let e = length-append (marks_in x) (marks a) in let i = marks_counted_in x in let j = marks_counted a in omega (arith, e, i, j)

  marks_counted_in : (x : Tree) → length (marks_in x) ≡ total_of (weight 0 1) x
  marks_counted_in (If t a b) = let e = length-append (marks a) (marks b) in let i = marks_counted a in let j = marks_counted b in omega (arith, e, i, j)
  marks_counted_in (While t a) = let i = marks_counted a in omega (arith, i)
  marks_counted_in (Do a t) = let i = marks_counted a in omega (arith, i)
  marks_counted_in (For first t u a) = let e = length-append (marks first) (marks a) in let i = marks_counted first in let j = marks_counted a in
      omega (arith, e, i, j)
  marks_counted_in (Block a) = let i = marks_counted a in omega (arith, i)
  marks_counted_in (Switch s d) = let i = marks_counted_among d in omega (arith, i)
  marks_counted_in _ = refl

  marks_counted_among : (d : Sections) → length (marks_among d) ≡ total_in (weight 0 1) d
  marks_counted_among NoSection = refl
  marks_counted_among (Section cases default a ends d) = let e = length-append (marks a) (marks_among d) in let i = marks_counted a in let j =
      marks_counted_among
      d in omega (arith, e, i, j)
