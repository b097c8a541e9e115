-- The trees of a list whose guards are variables.
use mathlib.Core.Path.{ap₂}
use Rattle.std.proofs.Common.{◌≡◌, ℕ, ℤ, pos, neg_ℤ, Bool, true, false, cond, Option, Some, None, option_map, refl, sym, ap, subst, ◌∙◌}
use Rattle.std.specs.Prelude.{int_le}
use Rattle.c_types.specs.declared.kinds.ArithOp.TheVariants.{Sub}
use Rattle.c_types.specs.declared.kinds.IntKind.{IntKind}
use Rattle.c_types.specs.declared.kinds.IntKind.TheVariants.{Int}
use Rattle.c_types.specs.Numbers as numbers
use Rattle.c_types.specs.Numbers.{least, greatest}
use Rattle.c_tree.specs.declared.tree.UnaryOp.TheVariants.{Minus, Not}
use Rattle.c_tree.specs.declared.tree.BinaryOp.{BinaryOp}
use Rattle.c_tree.specs.declared.tree.BinaryOp.TheVariants.{Arith, Unequal, AndThen, OrElse}
use Rattle.c_tree.specs.declared.tree.Home.TheVariants as H
use Rattle.c_tree.specs.declared.tree.Expression.{Expression, out-Expression, fold-roll-Expression}
use Rattle.c_tree.specs.declared.tree.Place.{Place, Var}
use Rattle.c_tree.specs.declared.tree.Node.{Node, out-Node, roll-Node, roll-out-Node, map-Node, fold-roll-Node, Number, Read, Unary, Binary, Conditional, Assign}
use Rattle.c_tree.specs.declared.tree.Node.TheOpen as N
use Rattle.c_tree.specs.declared.tree.Test.{Test, Test-F, roll-Test, ind-Test, map-Test, fold-roll-Test}
use Rattle.c_tree.specs.declared.tree.Test.TheOpen as OpenTest
use Rattle.c_tree.specs.declared.tree.Test.TheVariants.{rolls-Source, rolls-On, rolls-Off, rolls-AndOff, rolls-OrOn}
use Rattle.c_tree.specs.declared.tree.Selector.{Selector, Selector-F, roll-Selector, ind-Selector, map-Selector, fold-roll-Selector}
use Rattle.c_tree.specs.declared.tree.Selector.TheOpen as OpenSelector
use Rattle.c_tree.specs.declared.tree.Selector.TheVariants as SelectorRolls
use Rattle.c_tree.specs.ExpressionTrees as E
use Rattle.c_tree.specs.ExpressionTrees.{ExpressionTree, PlaceTree, NodeTree, Typed, node_layer, place_layer, expression_layer, expression_tree, node_tree, place_tree}
use Rattle.c_tree.specs.TestTrees.{test_tree, selector_tree}
use Rattle.c_tree.specs.Constants.{kind_of}
use Rattle.c_tree.proofs.ExpressionLaws.{expression-parts, place-Var, node-Number, node-Read, node-Unary, node-Binary, node-Conditional, node-Assign, test-Source, test-On, test-Off, test-AndOff, test-OrOn, selector-Source, selector-Pick}
use Rattle.jump_meaning.specs.Operations.{operand_kind}
use Rattle.jump_meaning.specs.Step.{switch_kind}
use Rattle.c_tree.specs.Numerals as Numerals
use Rattle.plain_laws.specs.GuardSlots as G
use Rattle.plain_laws.specs.Plain.{expression, number, guard, guard_off, is_truth_mark, is_truth_node, is_truth, truth, least_constant, constant, test_step, plain_test, promoted, selector_kind_step, selector_kind, selector_step, picked, plain_selector, armed}

rolled : (k : IntKind) (n : Node) → expression_tree (expression k n) ≡ Typed (Some k) (node_tree n)
unfolding expression_tree node_tree
rolled k n = fold-roll-Expression NodeTree PlaceTree ExpressionTree node_layer place_layer expression_layer (record { kind = Some k; node = n })

pub number_tree : (k : IntKind) (z : ℤ) → expression_tree (number k z) ≡ Numerals.number k z
number_tree k z = rolled k (Number z) ∙ ap (Typed (Some k)) (node-Number z)

pub guard_tree : (x : ℕ) → expression_tree (guard x) ≡ G.guard x
guard_tree x = rolled Int (Read (Var (H.Slot x))) ∙ ap (Typed (Some Int)) (node-Read (Var (H.Slot x)) ∙ ap E.Read (place-Var (H.Slot x)))

pub guard_off_tree : (x : ℕ) → expression_tree (guard_off x) ≡ G.guard_off x
guard_off_tree x = rolled Int (Unary Not (guard x)) ∙ ap (Typed (Some Int)) (node-Unary Not (guard x) ∙ ap (E.Unary Not) (guard_tree x))

binary_tree : (k : IntKind) (op : BinaryOp) (a b : Expression) (x y : ExpressionTree) → expression_tree a ≡ x → expression_tree b ≡ y →
    expression_tree (expression k (Binary op a b)) ≡ Typed (Some k) (E.Binary op x y)
binary_tree k op a b x y e h = rolled k (Binary op a b) ∙ ap (Typed (Some k)) (node-Binary op a b ∙ ap₂ (E.Binary op) e h)

pub set_tree : (x : ℕ) (e : Expression) (y : ExpressionTree) → expression_tree e ≡ y →
    expression_tree (expression Int (Assign (Var (H.Slot x)) e)) ≡ Typed (Some Int) (E.Assign (E.Var (H.Slot x)) y)
set_tree x e y h = rolled Int (Assign (Var (H.Slot x)) e) ∙ ap (Typed (Some Int)) (node-Assign (Var (H.Slot x)) e ∙ ap₂ E.Assign (place-Var (H.Slot x)) h)

-- ---- truth values

mark_same : (op : BinaryOp) → is_truth_mark op ≡ G.is_truth_mark op
mark_same (Arith op) = refl
mark_same _ = refl

truth_form : (f : Node → NodeTree) (g : Place → PlaceTree) (h : Expression → ExpressionTree) (y : N.Node-F Node Place Expression) →
    is_truth_node y ≡ G.is_truth_node (node_layer (map-Node Node Place Expression NodeTree PlaceTree ExpressionTree f g h y))
truth_form f g h (N.Unary Not a) = refl
truth_form f g h (N.Unary op a) = refl
truth_form f g h (N.Binary op a b) = mark_same op
truth_form f g h _ = refl

truth_layer : (y : N.Node-F Node Place Expression) → is_truth_node y ≡ G.is_truth_node (node_tree (roll-Node y))
unfolding node_tree place_tree expression_tree
truth_layer y = truth_form node_tree place_tree expression_tree y ∙ ap G.is_truth_node
    (sym (fold-roll-Node NodeTree PlaceTree ExpressionTree node_layer place_layer expression_layer y))

is_truth_same : (e : Expression) → is_truth e ≡ G.is_truth (expression_tree e)
is_truth_same e =
    let n = (out-Expression e).node in
    truth_layer (out-Node n) ∙ ap (λ m. G.is_truth_node (node_tree m)) (roll-out-Node n) ∙ ap G.is_truth (sym (expression-parts e))

zero_tree : expression_tree (number Int (pos 0)) ≡ Numerals.number Int (pos 0)
zero_tree = number_tree Int (pos 0)

chosen_tree : (b : Bool) (e d : Expression) → expression_tree (cond b e d) ≡ cond b (expression_tree e) (expression_tree d)
chosen_tree true e d = refl
chosen_tree false e d = refl

truth_tree : (e : Expression) → expression_tree (truth e) ≡ G.truth (expression_tree e)
truth_tree e =
    chosen_tree (is_truth e) e (expression Int (Binary Unequal e (number Int (pos 0))))
    ∙ ap₂ (λ b d. cond b (expression_tree e) d) (is_truth_same e)
    (binary_tree Int Unequal e (number Int (pos 0)) (expression_tree e) (Numerals.number Int (pos 0)) refl zero_tree)

pub armed_tree : (o : Option Expression) → expression_tree (armed o) ≡ G.armed (option_map expression_tree o)
armed_tree None = number_tree Int (pos 1)
armed_tree (Some e) = truth_tree e

-- ---- constants

minus_tree : (k : IntKind) (z : ℤ) → expression_tree (expression k (Unary Minus (number k z))) ≡ Typed (Some k) (E.Unary Minus (Numerals.number k z))
minus_tree k z = rolled k (Unary Minus (number k z)) ∙ ap (Typed (Some k)) (node-Unary Minus (number k z) ∙ ap (E.Unary Minus) (number_tree k z))

least_tree : (k : IntKind) → expression_tree (least_constant k) ≡ Numerals.least_constant k
least_tree k = binary_tree k (Arith Sub) (expression k (Unary Minus (number k (greatest k)))) (number k (pos 1)) _ _ (minus_tree k (greatest k))
    (number_tree k (pos 1))

constant_tree : (k : IntKind) (z : ℤ) → expression_tree (constant k z) ≡ Numerals.constant k z
constant_tree k z =
    chosen_tree (int_le (pos 0) z) (number k z) (cond (int_le z (least k)) (least_constant k) (expression k (Unary Minus (number k (neg_ℤ z)))))
    ∙ ap₂ (λ a b. cond (int_le (pos 0) z) a b) (number_tree k z)
    (chosen_tree (int_le z (least k)) (least_constant k) (expression k (Unary Minus (number k (neg_ℤ z)))) ∙
    ap₂ (λ a b. cond (int_le z (least k)) a b) (least_tree k) (minus_tree k (neg_ℤ z)))

-- ---- tests

module _ (slot : ℕ → ℕ) where
  abbrev TestSame : Test → Type 0
  TestSame t = expression_tree (plain_test slot t) ≡ G.plain_test slot (test_tree t)

  test_form : (y : Test-F ((t : Test) × TestSame t)) → expression_tree
      (test_step slot (map-Test Test Expression (plain_test slot) (map-Test ((t : Test) × TestSame t) Test (λ e. e.0) y))) ≡ G.plain_test slot
      (test_tree (roll-Test (map-Test ((t : Test) × TestSame t) Test (λ e. e.0) y)))
  test_form (OpenTest.Source c) = ap (G.plain_test slot) (sym (ap test_tree (rolls-Source c) ∙ test-Source c))
  test_form (OpenTest.On l) = guard_tree (slot l) ∙ ap (G.plain_test slot) (sym (ap test_tree (rolls-On l) ∙ test-On l))
  test_form (OpenTest.Off l) = guard_off_tree (slot l) ∙ ap (G.plain_test slot) (sym (ap test_tree (rolls-Off l) ∙ test-Off l))
  test_form (OpenTest.AndOff l t) =
      binary_tree Int AndThen (guard_off (slot l)) (plain_test slot t.0) _ _ (guard_off_tree (slot l)) t.1
      ∙ ap (G.plain_test slot) (sym (ap test_tree (rolls-AndOff l t.0) ∙ test-AndOff l t.0))
  test_form (OpenTest.OrOn l t) =
      binary_tree Int OrElse (guard (slot l)) (plain_test slot t.0) _ _ (guard_tree (slot l)) t.1
      ∙ ap (G.plain_test slot) (sym (ap test_tree (rolls-OrOn l t.0) ∙ test-OrOn l t.0))

  pub test_same : (t : Test) → TestSame t
  test_same = ind-Test TestSame (λ x y e. subst (λ (z : Test-F Test). TestSame (roll-Test z)) e
      (ap expression_tree (fold-roll-Test Expression (test_step slot) _) ∙ test_form y))

  -- ---- selectors

  module _ (k : IntKind) where
    abbrev PickSame : Selector → Type 0
    PickSame s = expression_tree (picked slot k s) ≡ G.picked slot k (selector_tree s)

    pick_tree : (l : ℕ) (z : ℤ) (e : Expression) (y : ExpressionTree) → expression_tree e ≡ y →
        expression_tree (expression k (Conditional (guard (slot l)) (constant k z) e)) ≡ Typed (Some k)
        (E.Conditional (G.guard (slot l)) (Numerals.constant k z) y)
    pick_tree l z e y h =
        rolled k (Conditional (guard (slot l)) (constant k z) e)
        ∙ ap (Typed (Some k)) (node-Conditional (guard (slot l)) (constant k z) e ∙
        ap₂ (λ a b. E.Conditional a b (expression_tree e)) (guard_tree (slot l)) (constant_tree k z) ∙
        ap (E.Conditional (G.guard (slot l)) (Numerals.constant k z)) h)

    pick_form : (y : Selector-F ((s : Selector) × PickSame s)) → expression_tree
        (selector_step slot k (map-Selector Selector Expression (picked slot k) (map-Selector ((s : Selector) × PickSame s) Selector (λ e. e.0) y)))
        ≡ G.picked slot k (selector_tree (roll-Selector (map-Selector ((s : Selector) × PickSame s) Selector (λ e. e.0) y)))
    pick_form (OpenSelector.Source c) = ap (G.picked slot k) (sym (ap selector_tree (SelectorRolls.rolls-Source c) ∙ selector-Source c))
    pick_form (OpenSelector.Pick l z s) = pick_tree l z (picked slot k s.0) _ s.1 ∙ ap (G.picked slot k)
        (sym (ap selector_tree (SelectorRolls.rolls-Pick l z s.0) ∙ selector-Pick l z s.0))

    pick_same : (s : Selector) → PickSame s
    pick_same = ind-Selector PickSame (λ x y e. subst (λ (z : Selector-F Selector). PickSame (roll-Selector z)) e
        (ap expression_tree (fold-roll-Selector Expression (selector_step slot k) _) ∙ pick_form y))

abbrev KindSame : Selector → Type 0
KindSame s = promoted (selector_kind s) ≡ switch_kind (selector_tree s)

source_kind : (o : Option IntKind) → promoted o ≡ numbers.promoted (operand_kind o)
source_kind (Some k) = refl
source_kind None = refl

kind_form : (y : Selector-F ((s : Selector) × KindSame s)) → promoted
    (selector_kind_step (map-Selector Selector (Option IntKind) selector_kind (map-Selector ((s : Selector) × KindSame s) Selector (λ e. e.0) y)))
    ≡ switch_kind (selector_tree (roll-Selector (map-Selector ((s : Selector) × KindSame s) Selector (λ e. e.0) y)))
kind_form (OpenSelector.Source c) = source_kind (out-Expression c).kind ∙
    ap (λ e. numbers.promoted (operand_kind (kind_of e))) (sym (expression-parts c)) ∙
    ap switch_kind (sym (ap selector_tree (SelectorRolls.rolls-Source c) ∙ selector-Source c))
kind_form (OpenSelector.Pick l z s) = s.1 ∙ ap switch_kind (sym (ap selector_tree (SelectorRolls.rolls-Pick l z s.0) ∙ selector-Pick l z s.0))

kind_same : (s : Selector) → KindSame s
kind_same = ind-Selector KindSame (λ x y e. subst (λ (z : Selector-F Selector). KindSame (roll-Selector z)) e
    (ap promoted (fold-roll-Selector (Option IntKind) selector_kind_step _) ∙ kind_form y))

pub selector_same : (slot : ℕ → ℕ) (s : Selector) → expression_tree (plain_selector slot s) ≡ G.plain_selector slot (selector_tree s)
selector_same slot s = pick_same slot (promoted (selector_kind s)) s ∙ ap (λ k. G.picked slot k (selector_tree s)) (kind_same s)
