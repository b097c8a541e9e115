-- Kinds that agree in a function of a source do so in its flat form.
use Rattle.std.proofs.Common.{◌≡◌, ℕ, suc, zero, ◌+◌, ◌-◌, ◌<◌, ◌≤◌, arith, ℤ, pos, negsuc, int_le, Bool, true, false, cond, List, [], ◌∷◌, length, Option, Some, None, IfSome, option_map, refl, sym, subst}
use Rattle.std.specs.Option.{option_map_or}
use Rattle.std.proofs.lemmas.Int.{ints}
use Rattle.c_types.specs.declared.kinds.IntKind.{IntKind}
use Rattle.c_types.specs.declared.kinds.IntKind.TheVariants.{Char, UChar, Int, UInt, Long, ULong}
use Rattle.c_types.specs.declared.kinds.ArithOp.TheVariants.{Sub}
use Rattle.c_types.specs.Numbers.{promoted, converted, least, greatest, IsInRange}
use Rattle.c_types.proofs.Residues.{converted-in_range}
use Rattle.c_tree.specs.declared.tree.Slot.{Slot}
use Rattle.c_tree.specs.declared.tree.Home.TheVariants as H
use Rattle.c_tree.specs.declared.tree.Function.{Function}
use Rattle.c_tree.specs.declared.tree.UnaryOp.TheVariants.{Minus}
use Rattle.c_tree.specs.declared.tree.BinaryOp.TheVariants.{Arith, Equal}
use Rattle.c_tree.specs.Operators.{arith_kind}
use Rattle.c_tree.specs.Constants.{kind_of, HasKind, constant_value}
use Rattle.c_tree.specs.Cases.{selector_source}
use Rattle.c_tree.specs.Exits.{breaks, continues}
use Rattle.c_tree.specs.ExpressionTrees.{ExpressionTree, Typed, Number, Read, Unary, Binary, Assign, Var, Cell}
use Rattle.c_tree.specs.TestTrees.{Source, SelectorTree, Selects, Pick}
use Rattle.c_tree.specs.Trees.{Tree, Forest, Nil, Then, Sections, NoSection, Section, Evaluate, Return, If, While, Do, For, Switch, Block, Local, Break, Continue, Goto, Mark, Arm, Arrival, Note, join}
use Rattle.c_tree.specs.Changed.{one}
use Rattle.c_tree.specs.Everywhere.{total, total_of, total_in, Everywhere, EverywhereOf, EverywhereIn}
use Rattle.c_tree.proofs.KeptLemmas.{everywhere_join}
use Rattle.jump_meaning.specs.Code.{Code, entry_or}
use Rattle.jump_meaning.specs.World.{no_slot}
use Rattle.jump_meaning.specs.Step.{switch_kind}
use Rattle.jump_meaning.specs.Operations.{operand_kind}
use Rattle.flat_laws.specs.Pieces.{Aim, Stays, Becomes, Absent, mark_of, test_or_one, third_items, assign_number, assign_cell, zero_tree, assigned_cells, Names, is_number, test_for, tests_for, tests, tests_in, tests_among, case_marks}
use Rattle.c_tree.specs.Numerals.{number, least_constant, constant}
use Rattle.c_tree.proofs.NumeralLaws.{constant_pos}
use Rattle.flat_laws.specs.Loose.{Setting, Arrivals, NoArrival, Arrives}
use Rattle.flat_laws.specs.Parts.{is_scattered, holds_jump, kept_breaks, variables_of, Here, past, past_item, inside, Ending, Breaks, ending, is_gone}
use Rattle.flat_laws.specs.FlatForm.{Plan, names_of, scatter_aim, otherwise_label, end_goto, aim, exit, is_jumpy_switch, assigned, initialised, mark_if, arrival, dissolved, if_breaks, flat_for, flat, flat_item, flat_last, flat_last_item, flat_sections, spread}
use Rattle.flat_laws.specs.Source.{IsVariable, IfTrue, HaveVariables, HasVariables, HaveVariablesAmong}
use Rattle.flat_laws.specs.FlatForm.{first_here}
use Rattle.plain_laws.proofs.KindsKept.{item_kept}
use Rattle.whole_laws.proofs.WholeKindsPrograms.{same_slots}
use Rattle.c_tree.specs.InRange.{body_of}
use Rattle.c_tree.proofs.WellMoved.{everywhere_map, everywhere_both}
use Rattle.flat_laws.specs.Loose.{ExtendSlots}
use Rattle.whole_laws.specs.Rewritten.{plan_of, setting, IsFlatForm}
use Rattle.whole_laws.proofs.Source.{HasForKind, HasFewCells, IsSourceFunction}
use Rattle.whole_laws.proofs.Flattened.{body_is, grown, flat_trees}
use Rattle.plain_laws.specs.Kinded.{Grown, SameKinds, Kinded, KindedCondition, KindedSelector, AreKinded, KindedItem, k_number, k_read, k_unary, k_binary, k_assign, k_var, k_cell}

-- ---- constants of promoted kinds

pub one_in_kind : (k : IntKind) → IsInRange k (pos 1)
one_in_kind Char = record { from_least = grind (arith, ints); to_greatest = grind (arith, ints) }
one_in_kind _ = record { from_least = grind (arith, ints); to_greatest = grind (arith, ints) }

pub greatest_in_kind : (k : IntKind) → IsInRange k (greatest k)
greatest_in_kind Char = record { from_least = grind (arith, ints); to_greatest = grind (arith, ints) }
greatest_in_kind _ = record { from_least = grind (arith, ints); to_greatest = grind (arith, ints) }

none_below : (k : IntKind) (n : ℕ) → IsInRange k (negsuc n) → least k ≡ pos 0 → ⊥
none_below k n r l = let h = r.from_least in grind (arith, ints, h, l)

-- of a negative number that isn't the least
pub negated_in_kind : (k : IntKind) (n : ℕ) → IsInRange k (negsuc n) → int_le (negsuc n) (least k) ≡ false → IsInRange k (pos (suc n))
negated_in_kind Char n r e = let l = r.from_least in let h : suc n ≤ 127 = grind (arith, ints, e, l) in
    record { from_least = grind (arith, ints); to_greatest = grind (arith, ints, h) }
negated_in_kind Int n r e = let l = r.from_least in let h : suc n ≤ 2147483647 = grind (arith, ints, e, l) in
    record { from_least = grind (arith, ints); to_greatest = grind (arith, ints, h) }
negated_in_kind Long n r e = let l = r.from_least in let h : suc n ≤ 9223372036854775807 = grind (arith, ints, e, l) in
    record { from_least = grind (arith, ints); to_greatest = grind (arith, ints, h) }
negated_in_kind UChar n r e = absurd (none_below UChar n r refl)
negated_in_kind UInt n r e = absurd (none_below UInt n r refl)
negated_in_kind ULong n r e = absurd (none_below ULong n r refl)

pub sub_kind : (k : IntKind) → promoted k ≡ k → arith_kind Sub k k ≡ k
sub_kind Char e = cc
sub_kind UChar e = cc
sub_kind _ e = refl

module _ (c : Code) (old ts : List Slot) where
  abbrev K : Tree → Type 0
  K x = KindedItem c ts x

  abbrev AreK : Forest → Type 0
  AreK a = Everywhere K a

  abbrev IsK : ExpressionTree → Type 0
  IsK e = Kinded c ts e

  -- what is taken of an item of the source
  abbrev Own : Tree → Type 0
  Own (For first t u a) = IfSome t (λ e. HasKind (kind_of e))
  Own (Local x es) = (x < length old) × IfSome es (λ gs. IfSome (entry_or no_slot old x).cells (λ n. (length gs ≤ n) × (n ≤ 1024)))
  Own _ = Unit {0}

  abbrev S : Tree → Type 0
  S x = K x × Own x

  -- ---- pieces

  slot_read : (x : ℕ) (k : IntKind) → x < length ts → (entry_or no_slot ts x).kind ≡ k → IsK (Typed (Some k) (Read (Var (H.Slot x))))
  slot_read x k b e = subst (λ j. IsK (Typed (Some j) (Read (Var (H.Slot x))))) e (k_read (Var (H.Slot x)) (k_var (H.Slot x) b))

  slot_assigned : (x : ℕ) (k : IntKind) (e : ExpressionTree) → x < length ts → (entry_or no_slot ts x).kind ≡ k → IsK e → IsK (assign_number k x e)
  slot_assigned x k e b q h = subst (λ j. IsK (Typed (Some j) (Assign (Var (H.Slot x)) e))) q (k_assign (Var (H.Slot x)) e (k_var (H.Slot x) b) h)

  cell_assigned : (x i : ℕ) (k : IntKind) (e : ExpressionTree) → x < length ts → (entry_or no_slot ts x).kind ≡ k → IsInRange Int (pos i) → IsK e →
      IsK (assign_cell k x i e)
  cell_assigned x i k e b q r h =
      let n : IsK (Typed (Some Int) (Number (pos i))) = k_number (Some Int) (pos i) r in
      subst (λ j. IsK (Typed (Some j) (Assign (Cell (H.Slot x) (Typed (Some Int) (Number (pos i)))) e))) q
      (k_assign (Cell (H.Slot x) (Typed (Some Int) (Number (pos i)))) e (k_cell (H.Slot x) (Typed (Some Int) (Number (pos i))) b n) h)

  marks_kinded : (b : Aim) → AreK (mark_of b)
  marks_kinded Stays = tt
  marks_kinded (Becomes l) = (tt, tt)
  marks_kinded Absent = tt

  cond_kinded : (b : Bool) (x y : Forest) → AreK x → AreK y → AreK (cond b x y)
  cond_kinded true x y h k = h
  cond_kinded false x y h k = k

  exit_kinded : (b : Aim) (x : Tree) → EverywhereOf K x → AreK (exit b x)
  exit_kinded Stays x h = (h, tt)
  exit_kinded (Becomes l) x h = (tt, tt)
  exit_kinded Absent x h = (h, tt)

  end_kinded : (e : Bool) (b : Aim) → AreK (end_goto e b)
  end_kinded true Stays = tt
  end_kinded true (Becomes l) = (tt, tt)
  end_kinded true Absent = tt
  end_kinded false b = tt

  case_kinded : (names : Names) (es : List ExpressionTree) (default : Bool) → AreK (case_marks names es default)
  case_kinded names [] true = (tt, tt)
  case_kinded names [] false = tt
  case_kinded names (e ∷ es) default = (tt, case_kinded names es default)

  if_kinded : (e : Ending) (x y : Forest) → AreK x → AreK y → AreK (if_breaks e x y)
  if_kinded Breaks x y h k = h
  if_kinded _ x y h k = k

  arrival_kinded : (r : Arrivals) (e : Option ExpressionTree) → AreK (arrival r e)
  arrival_kinded NoArrival e = (tt, tt)
  arrival_kinded (Arrives names) e = (tt, tt)

  third_kinded : (u : Option ExpressionTree) → IfSome u IsK → AreK (third_items u)
  third_kinded None h = tt
  third_kinded (Some e) h = (h, tt)

  zero_in : IsInRange Int (pos 0)
  zero_in = record { from_least = grind (arith, ints); to_greatest = grind (arith, ints) }

  test_kinded : (t : Option ExpressionTree) → IfSome t IsK → IfSome t (λ e. HasKind (kind_of e)) → KindedCondition c ts (test_or_one t)
  test_kinded None h k = (k_number (Some Int) (pos 1) (one_in_kind Int), tt)
  test_kinded (Some e) h k = (h, k)

  for_kinded : (j : Bool) (t u : Option ExpressionTree) (a : Forest) (b e : Aim) → IfSome t IsK → IfSome t (λ e. HasKind (kind_of e)) → IfSome u IsK →
      AreK a → AreK (flat_for j t u a b e)
  for_kinded true t u a b e h k i m = (
    (
      test_kinded t h k,
      everywhere_join K a (join (mark_of e) (third_items u)) m
          (everywhere_join K (mark_of e) (third_items u) (marks_kinded e) (third_kinded u i)),
    ),
    marks_kinded b,
  )
  for_kinded false t u a b e h k i m = (((h, i), tt, everywhere_join K a (mark_of e) m (marks_kinded e)), marks_kinded b)

  selector_kinded : (s : SelectorTree) → KindedSelector c ts s → IsK (selector_source s)
  selector_kinded (Selects e) h = h
  selector_kinded (Pick l n s) h = selector_kinded s h

  -- ---- tests of cases

  negated_kinded : (k : IntKind) (z : ℤ) → promoted k ≡ k → IsInRange k z → IsK (Typed (Some k) (Unary Minus (number k z)))
  negated_kinded k z e r = subst (λ j. IsK (Typed (Some j) (Unary Minus (number k z)))) e (k_unary Minus (number k z) (k_number (Some k) z r))

  least_kinded : (k : IntKind) → promoted k ≡ k → IsK (least_constant k)
  least_kinded k e =
      let m = Typed (Some k) (Unary Minus (number k (greatest k))) in
      subst (λ j. IsK (Typed (Some j) (Binary (Arith Sub) m (number k (pos 1))))) (sub_kind k e)
      (k_binary (Arith Sub) m (number k (pos 1)) (negated_kinded k (greatest k) e (greatest_in_kind k)) (k_number (Some k) (pos 1) (one_in_kind k)))

  constant_kinded : (k : IntKind) (z : ℤ) → promoted k ≡ k → IsInRange k z → IsK (constant k z)
  constant_kinded k (pos n) e r = subst IsK (sym (constant_pos k n)) (k_number (Some k) (pos n) r)
  constant_kinded k (negsuc n) e r = at (int_le (negsuc n) (least k)) refl
    where
      at : (b : Bool) → int_le (negsuc n) (least k) ≡ b → IsK (cond b (least_constant k) (Typed (Some k) (Unary Minus (number k (pos (suc n))))))
      at true h = least_kinded k e
      at false h = negated_kinded k (pos (suc n)) e (negated_in_kind k n r h)

  module _ (k : IntKind) (v : ℕ) (names : Names) (e : promoted k ≡ k) (b : v < length ts) (q : (entry_or no_slot ts v).kind ≡ k) where
    test_for_kinded : (x : ExpressionTree) → AreK (test_for constant k v names x)
    test_for_kinded x = at (constant_value x)
      where
        at : (o : Option ℤ) → AreK (option_map_or (λ n. one (If (Source (is_number k v (constant k n))) (one (Goto (names (Some x)))) Nil))
            (option_map (converted k) o) Nil)
        at None = tt
        at (Some z) = (
          (
            (
              k_binary Equal (Typed (Some k) (Read (Var (H.Slot v)))) (constant k (converted k z)) (slot_read v k b q)
                  (constant_kinded k (converted k z) e (converted-in_range k z)),
              tt,
            ),
            (tt, tt),
            tt,
          ),
          tt,
        )

    tests_for_kinded : (es : List ExpressionTree) → AreK (tests_for constant k v names es)
    tests_for_kinded [] = tt
    tests_for_kinded (x ∷ es) = everywhere_join K (test_for constant k v names x) (tests_for constant k v names es) (test_for_kinded x) (tests_for_kinded es)

    mutual
      tests_kinded : (a : Forest) → AreK (tests constant k v names a)
      tests_kinded Nil = tt
      tests_kinded (Then x a) = everywhere_join K (tests_in constant k v names x) (tests constant k v names a) (tests_in_kinded x) (tests_kinded a)

      tests_in_kinded : (x : Tree) → AreK (tests_in constant k v names x)
      tests_in_kinded (If t a b) = everywhere_join K (tests constant k v names a) (tests constant k v names b) (tests_kinded a) (tests_kinded b)
      tests_in_kinded (While t a) = tests_kinded a
      tests_in_kinded (Do a t) = tests_kinded a
      tests_in_kinded (For f t u a) = tests_kinded a
      tests_in_kinded (Block a) = tests_kinded a
      tests_in_kinded (Arrival None) = tt
      tests_in_kinded (Arrival (Some x)) = test_for_kinded x
      tests_in_kinded _ = tt

    tests_among_kinded : (d : Sections) → AreK (tests_among constant k v names d)
    tests_among_kinded NoSection = tt
    tests_among_kinded (Section cases default a ends d) =
        everywhere_join K (tests_for constant k v names cases) (join (tests constant k v names a) (tests_among constant k v names d)) (tests_for_kinded cases)
        (everywhere_join K (tests constant k v names a) (tests_among constant k v names d) (tests_kinded a) (tests_among_kinded d))

  promoted_twice : (k : IntKind) → promoted (promoted k) ≡ promoted k
  promoted_twice Char = refl
  promoted_twice _ = refl

  -- ---- declarations

  small_in : (i : ℕ) → i ≤ 1024 → IsInRange Int (pos i)
  small_in i h = record { from_least = grind (arith, ints); to_greatest = grind (arith, ints, h) }

  cells_kinded : (k : IntKind) (x i : ℕ) (es : List ExpressionTree) (m : ℕ) → x < length ts → (entry_or no_slot ts x).kind ≡ k →
      i + length es + m ≤ 1024 → AreKinded c ts es → AreK (assigned_cells k x i es m)
  cells_kinded k x i (e ∷ es) m b q h g = (
    cell_assigned x i k e b q (small_in i (omega (arith, h))) g.0,
    cells_kinded k x (suc i) es m b q
        (omega (arith, h)) g.1,
  )
  cells_kinded k x i [] zero b q h g = tt
  cells_kinded k x i [] (suc m) b q h g = (
    cell_assigned x i k zero_tree b q (small_in i (omega (arith, h))) (k_number (Some Int) (pos 0) zero_in),
    cells_kinded k x (suc i) [] m b q (omega (arith, h)) tt,
  )

  assigned_kinded : (k : IntKind) (x : ℕ) (o : Option ℕ) (es : List ExpressionTree) → x < length ts → (entry_or no_slot ts x).kind ≡ k →
      IfSome o (λ n. (length es ≤ n) × (n ≤ 1024)) → AreKinded c ts es → AreK (assigned k x o es)
  assigned_kinded k x None [] b q h g = tt
  assigned_kinded k x None (e ∷ es) b q h g = (slot_assigned x k e b q g.0, tt)
  assigned_kinded k x (Some n) es b q h g = let l = h.0 in let r = h.1 in cells_kinded k x 0 es (n - length es) b q (omega (arith, l, r)) g

-- ---- along the flat form

module _ (c : Code) (s : Setting) (p : Plan) (slots : p.slots ≡ s.old) (number : p.number ≡ constant)
    (grow : (x : ℕ) → x < length s.old → (x < length s.new) × ((entry_or no_slot s.new x).kind ≡ (entry_or no_slot s.old x).kind)) where
  abbrev F : Tree → Type 0
  F x = S c s.old s.new x

  abbrev G : Tree → Type 0
  G x = K c s.old s.new x

  abbrev AreG : Forest → Type 0
  AreG a = Everywhere G a

  flag_kinded : (b : Bool) (l : ℕ) → AreG (mark_if b l)
  flag_kinded true l = (tt, tt)
  flag_kinded false l = tt

  local_kinded : (x : ℕ) (es : List ExpressionTree) → F (Local x (Some es)) → AreG (initialised p x es)
  local_kinded x es o =
      let g = grow x o.1.0 in
      subst (λ ss. AreG (assigned (entry_or no_slot ss x).kind x (entry_or no_slot ss x).cells es)) (sym slots)
      (assigned_kinded c s.old s.new (entry_or no_slot s.old x).kind x (entry_or no_slot s.old x).cells es g.0 g.1 o.1.1 o.0.1)

  dissolved_kinded : (h : Here) (t : SelectorTree) (d : Sections) (ys : Forest) → KindedSelector c s.new t → h.variable < length s.new →
      (entry_or no_slot s.new h.variable).kind ≡ switch_kind t → AreG ys → AreG (dissolved p h t d ys)
  dissolved_kinded h t d ys o b q y =
      let k = switch_kind t in
      let names = names_of p h k d in (
        slot_assigned c s.old s.new h.variable k (selector_source t) b q (selector_kinded c s.old s.new t o),
        everywhere_join G (tests_among p.number k h.variable names d) (Then (Goto (otherwise_label p h d)) ys)
            (subst (λ f. AreG (tests_among f k h.variable names d)) (sym number)
            (tests_among_kinded c s.old s.new k h.variable names (promoted_twice c s.old s.new (operand_kind (kind_of (selector_source t)))) b q d))
            (tt, y),
      )

  loop_list : (a : Forest) (e : Aim) → AreG a → AreG (join a (mark_of e))
  loop_list a e h = everywhere_join G a (mark_of e) h (marks_kinded c s.old s.new e)

  abbrev N : ℕ
  N = length s.new

  choose : (b : Bool) (x y : Forest) → (b ≡ true → AreG x) → (b ≡ false → AreG y) → AreG (cond b x y)
  choose true x y h k = h refl
  choose false x y h k = k refl

  scattered : (b : Bool) (X : Type 0) → b ≡ true → IfTrue b X → X
  scattered true X e h = h
  scattered false X e h = cc

  below : (b : Bool) (v t : ℕ) → b ≡ true → v + (cond b 1 0 + t) ≤ N → v < N
  below true v t e h = omega (arith, h)
  below false v t e h = cc

  mutual
    pub flat_kinded : (h : Here) (b e : Aim) (r : Arrivals) (a : Forest) → Everywhere F a → HaveVariables s h a →
        h.variable + total variables_of a ≤ N → AreG (flat p h b e r a)
    flat_kinded h b e r Nil o v n = tt
    flat_kinded h b e r (Then x xs) o v n = everywhere_join G (flat_item p h b e r x) (flat p (past_item x h) b e r xs)
        (item_kinded h b e r x o.0 v.0 (omega (arith, n))) (flat_kinded (past_item x h) b e r xs o.1 v.1 (omega (arith, n)))

    item_kinded : (h : Here) (b e : Aim) (r : Arrivals) (x : Tree) → EverywhereOf F x → HasVariables s h x →
        h.variable + total_of variables_of x ≤ N → AreG (flat_item p h b e r x)
    item_kinded h b e r (If t x y) o v n =
        ((o.0.0, flat_kinded h b e r x o.1 v.0 (omega (arith, n)), flat_kinded (past x h) b e r y o.2 v.1 (omega (arith, n))), tt)
    item_kinded h b e r (While t a) o v n =
        let B = aim (holds_jump p.live a) (breaks a) (p.break_label h.construct) in
        let E = aim (holds_jump p.live a) (continues a) (p.continue_label h.construct) in (
          (o.0.0, loop_list (flat p (inside (While t a) h) B E r a) E (flat_kinded (inside (While t a) h) B E r a o.1 v (omega (arith, n)))),
          marks_kinded c s.old s.new B,
        )
    item_kinded h b e r (Do a t) o v n =
        let B = aim (holds_jump p.live a) (breaks a) (p.break_label h.construct) in
        let E = aim (holds_jump p.live a) (continues a) (p.continue_label h.construct) in (
          (o.0.0, loop_list (flat p (inside (Do a t) h) B E r a) E (flat_kinded (inside (Do a t) h) B E r a o.1 v (omega (arith, n)))),
          marks_kinded c s.old s.new B,
        )
    item_kinded h b e r (For first t u a) o v n =
        let B = aim (holds_jump p.live a) (breaks a) (p.break_label h.construct) in
        let E = aim (holds_jump p.live a) (continues a) (p.continue_label h.construct) in
        let i = inside (For first t u a) h in
        everywhere_join G (flat p i b e NoArrival first) (flat_for (holds_jump p.live a) t u (flat p (past first i) B E r a) B E)
        (flat_kinded i b e NoArrival first o.1 v.0 (omega (arith, n)))
        (for_kinded c s.old s.new (holds_jump p.live a) t u (flat p (past first i) B E r a) B E o.0.0.0 o.0.1 o.0.0.1
        (flat_kinded (past first i) B E r a o.2 v.1 (omega (arith, n))))
    item_kinded h b e r (Block a) o v n = flat_kinded h b e r a o.1 v (omega (arith, n))
    item_kinded h b e r (Local x None) o v n = tt
    item_kinded h b e r (Local x (Some es)) o v n = local_kinded x es o
    item_kinded h b e r Break o v n = exit_kinded c s.old s.new b Break tt
    item_kinded h b e r Continue o v n = exit_kinded c s.old s.new e Continue tt
    item_kinded h b e r (Goto l) o v n = (tt, tt)
    item_kinded h b e r (Mark l) o v n = flag_kinded (p.live l) (p.source l)
    item_kinded h b e r (Arrival x) o v n = arrival_kinded c s.old s.new r x
    item_kinded h b e r (Switch t d) o v n =
        let i = inside (Switch t d) h in
        let names = names_of p h (switch_kind t) d in
        let J = is_jumpy_switch p e d in
        let B = aim J (kept_breaks p.live d) (p.break_label h.construct) in
        choose (is_scattered d) (dissolved p h t d (spread p i (scatter_aim p h d) e names d)) (Then (Switch t (flat_sections p i J B e d)) (mark_of B))
        (λ q.
        let w = scattered (is_scattered d) (IsVariable s h.variable (switch_kind t)) q v.0 in
        dissolved_kinded h t d (spread p i (scatter_aim p h d) e names d) o.0.0 (below (is_scattered d) h.variable (total_in variables_of d) q n) w.kind
        (spread_kinded i (scatter_aim p h d) e names d o.1 v.1 (omega (arith, n))))
        (λ q. ((o.0.0, sections_kinded i J B e d o.1 v.1 (omega (arith, n))), marks_kinded c s.old s.new B))
    item_kinded h b e r (Evaluate x) o v n = (o.0, tt)
    item_kinded h b e r (Return x) o v n = (o.0, tt)
    item_kinded h b e r (Note bs) o v n = (tt, tt)
    item_kinded h b e r (Arm l x) o v n = (o.0, tt)
    item_kinded h b e r _ o v n = (tt, tt)

    last_kinded : (h : Here) (b e : Aim) (r : Arrivals) (a : Forest) → Everywhere F a → HaveVariables s h a → h.variable + total variables_of a ≤ N →
        AreG (flat_last p h b e r a)
    last_kinded h b e r Nil o v n = tt
    last_kinded h b e r (Then x xs) o v n =
        cond_kinded c s.old s.new (is_gone (ending p.live xs)) (flat_last_item p h b e r x)
        (join (flat_item p h b e r x) (flat_last p (past_item x h) b e r xs))
        (last_item_kinded h b e r x o.0 v.0 (omega (arith, n)))
        (everywhere_join G (flat_item p h b e r x) (flat_last p (past_item x h) b e r xs) (item_kinded h b e r x o.0 v.0 (omega (arith, n)))
        (last_kinded (past_item x h) b e r xs o.1 v.1 (omega (arith, n))))

    last_item_kinded : (h : Here) (b e : Aim) (r : Arrivals) (x : Tree) → EverywhereOf F x → HasVariables s h x →
        h.variable + total_of variables_of x ≤ N → AreG (flat_last_item p h b e r x)
    last_item_kinded h b e r (Block a) o v n = last_kinded h b e r a o.1 v (omega (arith, n))
    last_item_kinded h b e r _ o v n = tt

    sections_kinded : (h : Here) (j : Bool) (b e : Aim) (d : Sections) → EverywhereIn F d → HaveVariablesAmong s h d →
        h.variable + total_in variables_of d ≤ N → EverywhereIn G (flat_sections p h j b e d)
    sections_kinded h j b e NoSection o v n = tt
    sections_kinded h j b e (Section cases default a ends d) o v n = (
      if_kinded c s.old s.new (ending p.live a) (flat_last p h b e NoArrival a) (flat p h b e NoArrival a)
          (last_kinded h b e NoArrival a o.0 v.0 (omega (arith, n))) (flat_kinded h b e NoArrival a o.0 v.0 (omega (arith, n))),
      sections_kinded (past a h) j b e d o.1 v.1 (omega (arith, n)),
    )

    spread_kinded : (h : Here) (b e : Aim) (names : Names) (d : Sections) → EverywhereIn F d → HaveVariablesAmong s h d →
        h.variable + total_in variables_of d ≤ N → AreG (spread p h b e names d)
    spread_kinded h b e names NoSection o v n = marks_kinded c s.old s.new b
    spread_kinded h b e names (Section cases default a ends d) o v n =
        everywhere_join G (case_marks names cases default) (join (flat p h b e (Arrives names) a)
        (join (end_goto ends b) (spread p (past a h) b e names d))) (case_kinded c s.old s.new names cases default)
        (everywhere_join G (flat p h b e (Arrives names) a) (join (end_goto ends b) (spread p (past a h) b e names d))
        (flat_kinded h b e (Arrives names) a o.0 v.0 (omega (arith, n)))
        (everywhere_join G (end_goto ends b) (spread p (past a h) b e names d) (end_kinded c s.old s.new ends b)
        (spread_kinded (past a h) b e names d o.1 v.1 (omega (arith, n)))))

-- ---- of a function

slot_grows : (ss ts : List Slot) → ExtendSlots ss ts → (x : ℕ) → x < length ss → (x < length ts) × ((entry_or no_slot ts x).kind ≡ (entry_or no_slot ss x).kind)
slot_grows [] ts h x b = absurd (omega (arith, b))
slot_grows (s ∷ ss) [] h x b = absurd h
slot_grows (s ∷ ss) (t ∷ ts) h zero b = (omega arith, sym h.0)
slot_grows (s ∷ ss) (t ∷ ts) h (suc x) b = let r = slot_grows ss ts h.2 x (omega (arith, b)) in let l = r.0 in (omega (arith, l), r.1)

own_kinds : (c : Code) → SameKinds c c
own_kinds c = record { slots = λ m. same_slots (c.functions m).slots; calls = λ m. refl; globals = λ m. refl }

source_item : (c : Code) (ss ts : List Slot) → Grown ss ts → (x : Tree) → (KindedItem c ss x × (HasForKind x × HasFewCells ss x)) → S c ss ts x
source_item c ss ts more (For first t u a) h = (item_kept c c ss ts (own_kinds c) more (For first t u a) h.0, h.1.0)
source_item c ss ts more (Local x es) h = (item_kept c c ss ts (own_kinds c) more (Local x es) h.0, (h.0.0, h.1.1))
source_item c ss ts more (Evaluate e) h = (item_kept c c ss ts (own_kinds c) more (Evaluate e) h.0, tt)
source_item c ss ts more (Return e) h = (item_kept c c ss ts (own_kinds c) more (Return e) h.0, tt)
source_item c ss ts more (If t a b) h = (item_kept c c ss ts (own_kinds c) more (If t a b) h.0, tt)
source_item c ss ts more (While t a) h = (item_kept c c ss ts (own_kinds c) more (While t a) h.0, tt)
source_item c ss ts more (Do a t) h = (item_kept c c ss ts (own_kinds c) more (Do a t) h.0, tt)
source_item c ss ts more (Switch t d) h = (item_kept c c ss ts (own_kinds c) more (Switch t d) h.0, tt)
source_item c ss ts more (Block a) h = (tt, tt)
source_item c ss ts more Break h = (tt, tt)
source_item c ss ts more Continue h = (tt, tt)
source_item c ss ts more (Goto l) h = (tt, tt)
source_item c ss ts more (Mark l) h = (tt, tt)
source_item c ss ts more (Arm l e) h = (item_kept c c ss ts (own_kinds c) more (Arm l e) h.0, tt)
source_item c ss ts more _ h = (tt, tt)

pub form_kinded : (c : Code) (f g : Function) → IsSourceFunction f → IsFlatForm f g → Everywhere (KindedItem c f.slots) (body_of f) →
    Everywhere (KindedItem c g.slots) (body_of g)
form_kinded c f g s w k =
    let facts = everywhere_both HasForKind (HasFewCells f.slots) (body_of f) s.for_kinds s.few_cells in
    let all = everywhere_both (KindedItem c f.slots) (λ x. HasForKind x × HasFewCells f.slots x) (body_of f) k facts in
    let ready = everywhere_map (λ x. KindedItem c f.slots x × (HasForKind x × HasFewCells f.slots x)) (S c f.slots g.slots)
    (source_item c f.slots g.slots (grown f.slots g.slots w.slots)) (body_of f) all in
    let there = body_is f w.old w.old_body in
    let more = w.more_slots in
    let variables = subst (HaveVariables (setting f g) (first_here (length f.slots))) (sym there) w.variables in
    let bound : length f.slots + total variables_of (body_of f) ≤ length g.slots =
    subst (λ a. length f.slots + total variables_of a ≤ length g.slots) (sym there) (omega (arith, more)) in
    subst (Everywhere (KindedItem c g.slots)) (sym (flat_trees f g s w))
    (flat_kinded c (setting f g) (plan_of f) refl refl (slot_grows f.slots g.slots w.slots) (first_here (length f.slots)) Stays Stays NoArrival
    (body_of f) ready variables bound)
